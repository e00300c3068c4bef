-- Mask by mask; of the user mask four bytes at most.
use Rattle.masks.proofs.Sets.{set-added}
use Rattle.masks.proofs.with_masks.Goals as goal

pub returns : goal.returns
returns c = set-added _ _ c.args.user _ _ c.with_sent.ensures _ c.user_bytes-few.ensures.0 c.with_sent-2.ensures
