-- The lowest bit of a word that has one.
use Prim.Native.Nat.{◌-◌}
use native.Mathlib.Omega.{arith}
use lib.Bits.{and_le_r}
use Rattle.std.proofs.lemmas.Grind.{common_steps}
use Rattle.masks.proofs.LowestBit.{lowest}
use Rattle.masks.proofs.BitsIterator.next.Goals as goal

pub returns-clause-steps : goal.returns-clause-steps
returns-clause-steps c = lowest 64 _ (omega arith) (omega arith)

pub returns-clause-goes : goal.returns-clause-goes
returns-clause-goes c = let x = c.args.self.now.0 in let l = and_le_r x (x - 1) in grind (arith, common_steps, l)
