-- A number, or the head and the value.
use mathlib.Core.Path.{sym, ◌∙◌, ap}
use native.Mathlib.Omega.{arith}
use Rattle.linkstate.specs.Lists.{put}
use Rattle.tlv_bytes.specs.Tlvs.{value_at}
use Rattle.tlv_bytes.proofs.Laws.{length-tlv, tlv-written, same-room, same_write, as-three, as-four, value-plain, length-plain}
use Rattle.tlv_bytes.proofs.write_value.Goals as goal

pub write_number-requires : goal.write_number-requires
write_number-requires c = let a = c.args in
    same-room (as-four a.run.now a.place a.n (λ i. omega (arith, c.type_inv.run i)) c.requires.0 a.code _ c.if-n-eq4.true c.read32.ensures.0) a.out.now a.at c.requires.2

pub returns-then-n-eq4 : goal.returns-then-n-eq4
returns-then-n-eq4 c = let a = c.args in
    same_write (as-four a.run.now a.place a.n (λ i. omega (arith, c.type_inv.run i)) c.requires.0 a.code _ c.if-n-eq4.true c.read32.ensures.0) a.out.now a.at c.write_number.ensures

pub write_number-requires-then-n-eq3 : goal.write_number-requires-then-n-eq3
write_number-requires-then-n-eq3 c = let a = c.args in
    same-room (as-three a.run.now a.place a.n (λ i. omega (arith, c.type_inv.run i)) c.requires.0 a.code _ c.if-n-eq3.true c.read24.ensures.0) a.out.now a.at c.requires.2

pub returns-then-n-eq3 : goal.returns-then-n-eq3
returns-then-n-eq3 c = let a = c.args in
    same_write (as-three a.run.now a.place a.n (λ i. omega (arith, c.type_inv.run i)) c.requires.0 a.code _ c.if-n-eq3.true c.read24.ensures.0) a.out.now a.at c.write_number-then-n-eq3.ensures

pub write_head-requires : goal.write_head-requires
write_head-requires c = let a = c.args in omega (arith, length-tlv a.code (value_at a.run.now a.place a.n))

pub copy_part-requires : goal.copy_part-requires
copy_part-requires c = let a = c.args in
    (c.requires.0, omega (arith, length-tlv a.code (value_at a.run.now a.place a.n), length-plain a.run.now a.place a.n c.requires.0 c.if-n-eq3.false, c.write_head.auto.out))

pub returns : goal.returns
returns c = let a = c.args in
    tlv-written _ _ _ _ _ _ (value_at a.run.now a.place a.n) c.write_head.ensures (c.copy_part.ensures ∙ ap (put _ _) (sym (value-plain a.run.now a.place a.n c.if-n-eq3.false))) (sym (length-plain a.run.now a.place a.n c.requires.0 c.if-n-eq3.false)) c.requires.2 _ (omega arith)
