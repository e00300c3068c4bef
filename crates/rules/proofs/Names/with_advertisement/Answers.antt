-- The masks are read once, for whom is named and, with L, for whom is named so.
use mathlib.Core.Path.{refl}
use Rattle.rules.proofs.NameLaws.{joined-masks, adds-l, adds-plain}
use Rattle.rules.proofs.Names.with_advertisement.Goals as goal

pub returns-then-l : goal.returns-then-l
returns-then-l c = adds-l _ _ _ _ _ (joined-masks _ _ _ _ _ _ c.nobody.ensures c.with_masks-m.ensures c.join-named.ensures) c.if-l.true
    (joined-masks _ _ _ _ _ _ c.nobody.ensures c.with_masks-m.ensures c.join-flagged.ensures)

pub returns : goal.returns
returns c = adds-plain _ _ _ _ _ (joined-masks _ _ _ _ _ _ c.nobody.ensures c.with_masks-m.ensures c.join-named.ensures) c.if-l.false refl
