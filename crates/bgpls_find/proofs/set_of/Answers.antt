-- `bgpls_find::set_of` meets its contract: some 1122 names the application, or none does.
use Rattle.bgpls_find.proofs.SetLaws.{run-passes, starts-part, some-name, none-name}
use Rattle.bgpls_find.specs.Walks.{NextPart}
use Rattle.bgpls_find.specs.Sets.{is_top, attributes_in}
use Rattle.bgpls_find.specs.declared.Set.TheVariants.{Naming}
use native.Mathlib.Omega.{arith}
use mathlib.Core.Path.{refl, subst, ◌∙◌}
use Rattle.bgpls_find.proofs.set_of.Goals as goal

pub next_part-requires : goal.next_part-requires
unfolding is_top
next_part-requires c = (omega arith, refl, run-passes c.args.run.bytes.now c.args.run.passed)

pub returns-in-Some : goal.returns-in-Some
unfolding is_top
returns-in-Some c = let a = c.args in
    let p = subst (NextPart (Naming a.application) a.run.bytes.now 0) c.in-Some.is c.next_part.ensures in
    record { begins = starts-part (Naming a.application) a.run.bytes.now refl _ _ p; all = some-name a.run.bytes.now a.application p.some }

pub returns-in-None : goal.returns-in-None
unfolding attributes_in
returns-in-None c = let a = c.args in
    let p = subst (NextPart (Naming a.application) a.run.bytes.now 0) c.in-None.is c.next_part.ensures in
    record { begins = c.general_start.ensures.begins; all = c.general_start.ensures.all ∙ none-name a.run.bytes.now a.application p.0 }
