-- `bgpls_find::general_start` meets its contract: the general set begins with its first list, or has none.
use Rattle.bgpls_find.proofs.SetLaws.{run-passes, starts-part, starts_none}
use Rattle.bgpls_find.specs.Walks.{NextPart}
use Rattle.bgpls_find.specs.Sets.{is_top, attributes_in}
use Rattle.bgpls_find.specs.declared.Set.TheVariants.{General}
use native.Mathlib.Omega.{arith}
use mathlib.Core.Path.{refl, subst}
use Rattle.bgpls_find.proofs.general_start.Goals as goal

pub next_part-requires : goal.next_part-requires
unfolding is_top
next_part-requires c = (omega arith, refl, run-passes c.args.run.bytes.now c.args.run.passed)

pub returns-in-Some : goal.returns-in-Some
unfolding is_top attributes_in
returns-in-Some c = let r = c.args.run.bytes.now in
    let p = subst (NextPart General r 0) c.in-Some.is c.next_part.ensures in
    record { begins = starts-part General r refl _ _ p; all = refl }

pub returns-in-None : goal.returns-in-None
unfolding is_top attributes_in
returns-in-None c = let r = c.args.run.bytes.now in
    let p = subst (NextPart General r 0) c.in-None.is c.next_part.ensures in
    record { begins = starts_none General r refl p.1; all = refl }
