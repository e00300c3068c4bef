-- By the numbers of the masks.
use mathlib.Core.Path.{◌∙◌, ap}
use Prim.Native.Nat.{ℕ}
use native.Mathlib.Nat.{sub-zero}
use lib.ListN.{take}
use Rattle.linkstate.specs.Masks.{bit, as_number}
use Rattle.masks.proofs.Alone.{alone-not, alone-if}
use Rattle.masks.proofs.rsvp_te_alone.Goals as goal

pub returns-then-mask_number-ne1 : goal.returns-then-mask_number-ne1
returns-then-mask_number-ne1 c = alone-not c.args.standard.now c.args.user.now _ c.mask_number.ensures c.if-mask_number-ne1.true

pub returns : goal.returns
returns c = alone-if c.args.standard.now c.args.user.now _ c.mask_number.ensures c.if-mask_number-ne1.false c.user_bytes-n.result _ c.user_bytes-n.ensures.0
    (c.mask_number-2.ensures ∙ ap (λ (i : ℕ). as_number (bit (take i c.args.user.now))) (sub-zero c.user_bytes-n.result))
