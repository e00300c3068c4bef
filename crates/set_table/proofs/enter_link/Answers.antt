-- A free cell takes the value.
use Rattle.set_table.specs.Tables.{cell_of}
use Rattle.set_table.proofs.Tables.{kept-given, link-given, link-table}
use Rattle.set_table.proofs.enter_link.Goals as goal

pub returns-then-sets-k-eq0 : goal.returns-then-sets-k-eq0
returns-then-sets-k-eq0 c = let a = c.args in (
  link-table a.sets.now a.k a.place a.n c.requires.0 c.requires.1 c.requires.2 c.if-sets-k-eq0.true _ c.cell_of.ensures,
  link-given a.sets.now a.k a.place a.n c.requires.0 c.requires.1 c.requires.2 c.if-sets-k-eq0.true _ c.cell_of.ensures,
)

pub returns-else-sets-k-eq0 : goal.returns-else-sets-k-eq0
returns-else-sets-k-eq0 c = let a = c.args in (λ run t v. t, kept-given a.sets.now 2 a.k (cell_of a.place a.n) c.if-sets-k-eq0.false)
