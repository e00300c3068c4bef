-- No kind asked for, with L, no room for the masks, or by the list.
use native.Mathlib.Omega.{arith}
use Rattle.advertisements.proofs.Tests.{a-none, a-with-l, a-past, a-is}
use Rattle.advertisements.proofs.asla_carries.Goals as goal

pub returns-in_default : goal.returns-in_default
returns-in_default c = a-none _ _ c.in_default.is

pub returns-then-l : goal.returns-then-l
returns-then-l c = a-with-l _ _ _ c.in-Some.is _ c.read_header-h.ensures.0 c.if-l.true

pub returns-then-v-e : goal.returns-then-v-e
returns-then-v-e c = a-past _ _ _ c.in-Some.is _ c.read_header-h.ensures.0 c.if-l.false _ c.header_length-e.ensures c.if-v-e.true

pub returns : goal.returns
returns c = a-is _ _ _ c.in-Some.is _ c.read_header-h.ensures.0 c.if-l.false _ c.header_length-e.ensures _ (omega arith) c.list_has.ensures
