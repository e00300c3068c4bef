-- A refusal is its number and its place.
use mathlib.Core.Path.{refl}
use Rattle.linkstate.specs.Replies.{refusal_at}
use Rattle.replies.proofs.refuse_at.Goals as goal

pub returns : goal.returns
unfolding refusal_at
returns c = refl
