-- An absent value, or one that is entered.
use mathlib.Core.Path.{sym, ◌∙◌}
use Rattle.grids.specs.Slots.{cell}
use Rattle.isis_index.proofs.Settling.{cell-none, cell-stands, cell-back, nothing-given, given-cell}
use Rattle.isis_index.proofs.add_old.Goals as goal

pub returns-in_default : goal.returns-in_default
returns-in_default c = let a = c.args in let p = c.requires in
    (p.0, nothing-given a.sets.now a.s a.k (cell a.sets.now 1 a.k) (cell-none ((p.0.rows 1 p.1).fits a.k p.3) (sym c.value_at.ensures.value ∙ c.in_default.is)))

pub enter_one-requires : goal.enter_one-requires
enter_one-requires c = let p = c.requires in
    (p.0, p.2, p.3, cell-stands ((p.0.rows 1 p.1).fits c.args.k p.3) _ (sym c.value_at.ensures.value ∙ c.in-Some.is))

pub returns : goal.returns
returns c = let a = c.args in let p = c.requires in let r = c.enter_one.ensures in
    (r.0, given-cell a.s a.k (cell-back ((p.0.rows 1 p.1).fits a.k p.3) _ (sym c.value_at.ensures.value ∙ c.in-Some.is)) r.1)
