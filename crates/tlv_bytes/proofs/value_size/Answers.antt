-- `tlv_bytes::value_size` meets its contract. Assumes nothing.
use native.Mathlib.Omega.{arith}
use Rattle.tlv_bytes.proofs.Laws.{size-three, size-plain}
use Rattle.tlv_bytes.proofs.value_size.Goals as goal

pub returns-then-n-eq3 : goal.returns-then-n-eq3
returns-then-n-eq3 c = (size-three c.args.n c.if-n-eq3.true, omega (arith, c.if-n-eq3.true))

pub returns : goal.returns
returns c = (size-plain c.args.n c.if-n-eq3.false, omega arith)
