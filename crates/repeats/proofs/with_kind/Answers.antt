-- `repeats::with_kind` meets its contract: it sets the bit of the type.
use native.Mathlib.Omega.{arith}
use Rattle.srlg_ranks.proofs.Bits.{with_in}
use Rattle.repeats.proofs.Laws.{remembers-more}
use Rattle.repeats.proofs.with_kind.Goals as goal

pub returns : goal.returns
returns c ts h t m = remembers-more c.args.seen _ c.args.kind ts (with_in c.args.seen _ (omega arith)) h t m
