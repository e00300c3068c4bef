-- No kind asked for, with L, without an identifier list, or by what follows that list.
use Rattle.advertisements.proofs.Tests.{b-none, b-with-l, b-past, b-is}
use Rattle.advertisements.proofs.srlg_carries.Goals as goal

pub returns-in_default : goal.returns-in_default
returns-in_default c = b-none _ _ c.in_default.is

pub returns-then-l : goal.returns-then-l
returns-then-l c = b-with-l _ _ _ c.in-Some.is _ c.read_header-h.ensures.0 c.if-l.true

pub returns-then-v-e : goal.returns-then-v-e
returns-then-v-e c = b-past _ _ _ c.in-Some.is _ c.read_header-h.ensures.0 c.if-l.false _ c.header_length-e.ensures c.if-v-e.true

pub returns : goal.returns
returns c = b-is _ _ _ c.in-Some.is _ c.read_header-h.ensures.0 c.if-l.false _ c.header_length-e.ensures _ c.from-n.ensures
