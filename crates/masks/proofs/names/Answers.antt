-- A standard bit, a user bit, or a retired one.
use borrow.Author.Tests.{lt-ltb, le-ltb}
use Rattle.linkstate.specs.Masks.{in_masks}
use Rattle.masks.proofs.names.Goals as goal

pub returns-then-a-lt64 : goal.returns-then-a-lt64
unfolding in_masks
returns-then-a-lt64 c = simp (lt-ltb _ 64 c.if-a-lt64.true) c.has_bit.ensures

pub returns-then-a-lt96 : goal.returns-then-a-lt96
unfolding in_masks
returns-then-a-lt96 c = simp (le-ltb _ 64 c.if-a-lt64.false, lt-ltb _ 96 c.if-a-lt96.true) c.has_bit-then-a-lt96.ensures

pub returns : goal.returns
unfolding in_masks
returns c = rw (le-ltb _ 64 c.if-a-lt64.false, le-ltb _ 96 c.if-a-lt96.false)
