-- what is written so far are the TLVs of the kinds passed.
use Prim.Native.Nat.{◌-◌, ◌≤◌}
use mathlib.Core.Path.{◌≡◌}
use lib.ListN.{length, take}
use Rattle.tlv_bytes.specs.Tlvs.{in_tlvs, Wrote}
use Rattle.grids.specs.Grids.{grid_value}
use Rattle.set_bytes.specs.Sets.{extended_codes}
use Rattle.set_bytes.proofs.write_extended.Given as goal

abbrev pub invariant-loop-c : goal.invariant-loop-c
invariant-loop-c g l = (1114 ≤ l.c) × (l.c ≤ 1121) × (length l.out ≡ length l.initial.out) × Wrote l.initial.out l.at (in_tlvs (grid_value l.run (g.G.Grid.rows l.g)) (take (l.c - 1114) extended_codes)) l.next l.out
