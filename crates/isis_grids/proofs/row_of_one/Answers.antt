-- No ASLA, one that is not selected, or the row in its list.
use Rattle.isis_check_a.proofs.Laws.{sub-tlv-asla, rest-is, rest-length}
use Rattle.isis_grids.proofs.Aslas.{headed, list-uncut}
use Rattle.isis_grids.proofs.Taken.{list-taken}
use Rattle.isis_grids.proofs.Rows.{row-other, row-unread, row-read}
use Rattle.frames.specs.Uncut.{uncut as is_uncut}
use Rattle.isis.specs.RunA.{check_asla}
use Rattle.linkstate.specs.Elements.{elements}
use Rattle.linkstate.specs.Replies.{accepted}
use lib.ListN.{drop}
use native.Mathlib.Omega.{arith}
use mathlib.Core.Bool.{true}
use mathlib.Core.List.{List}
use mathlib.Core.Path.{◌≡◌, refl, sym, ap, ap₂, ◌∙◌}
use Prim.Native.Nat.{ℕ, ◌+◌}
use Rattle.isis_grids.proofs.row_of_one.Goals as goal
use Rattle.isis_grids.proofs.row_of_one.Goals.{Else-e-ne16 as Asla}

asla-ok : (k : Asla) → check_asla k.args.e.at k.args.e.value.now ≡ accepted
asla-ok k = sub-tlv-asla _ _ _ (omega (arith, k.if-e-ne16.false)) ∙ k.requires.2

pub returns-then-e-ne16 : goal.returns-then-e-ne16
returns-then-e-ne16 c = row-other _ _ _ _ _ (λ i. omega (arith, c.if-e-ne16.true))

pub list_in-requires : goal.list_in-requires
list_in-requires c = headed _ _ (asla-ok (goal.at.list_in-requires c).Else-e-ne16)

pub returns-in_err-first : goal.returns-in_err-first
returns-in_err-first c = c.from_residual.ensures ∙ row-unread _ _ _ _ _ (omega (arith, c.if-e-ne16.false)) c.in_err-first.ensures

pub row_in-requires : goal.row_in-requires
row_in-requires c = let e = c.args.e in
    let v = e.value.now in
    let n = c.in_ok-first.first in
    let h = c.in_ok-first.ensures in (
      c.requires.0,
      omega (arith, c.requires.1, rest-length v n h.2, h.2),
      ap₂ (λ (k : ℕ) (l : List ℕ). is_uncut (elements 1 (e.at + 2 + k) l)) (h.1 ∙ sym (list-taken v c.args.which true h.0))
          (rest-is v n h.2 ∙ ap (λ (k : ℕ). drop k v) (h.1 ∙ sym (list-taken v c.args.which true h.0)))
          ∙ list-uncut c.args.which v e.at (asla-ok (goal.at.row_in-requires c).Else-e-ne16),
    )

pub returns : goal.returns
returns c = let e = c.args.e in
    let n = c.in_ok-first.first in
    let h = c.in_ok-first.ensures in
    c.row_in.ensures ∙ row-read _ _ e.at e.kind e.value.now (omega (arith, c.if-e-ne16.false)) h.0 n h.1 _ refl _ (rest-is e.value.now n h.2)
