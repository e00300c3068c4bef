-- `set_table::value_mark` meets its contract. Assumes nothing.
use native.Mathlib.Omega.{arith}
use Rattle.tlv_bytes.specs.Tlvs.{value_at}
use Rattle.tlv_bytes.proofs.Laws.{length-value}
use Rattle.set_table.proofs.Marks.{mark-is}
use Rattle.set_table.proofs.value_mark.Goals as goal

pub returns : goal.returns
returns c = let a = c.args in mark-is a.k (value_at a.run.now a.place a.n) (omega (arith, length-value a.run.now a.place a.n c.requires.0.within, c.requires.0.some)) _ c.mix_value-h.ensures
