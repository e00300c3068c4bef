-- The theorems at the link M S G of document 01: what they assume of a meaning is met, and no rival of it has fewer than 44 bytes.
use mathlib.Core.Path.{◌≡◌, refl, sym, ap, subst}
use mathlib.Core.Bool.{Bool, true, false, cond, false≢true}
use mathlib.Core.List.{List, [], ◌∷◌}
use Prim.Native.Nat.{ℕ, ◌≤◌}
use native.Mathlib.Omega.{arith}
use borrow.Author.Tests.{eqb-true}
use lib.Dec.{eqb}
use lib.ListN.{length}
use Rattle.linkstate.specs.Lists.{member, empty}
use Rattle.linkstate.specs.Kinds.{application_codes, is_link_code, wrong_at_top}
use Rattle.linkstate.specs.Masks.{others}
use Rattle.linkstate.specs.Meaning.{Meaning}
use Rattle.linkstate.specs.Export.{top_value, export}
use Rattle.linkstate.specs.Rival.{IsRival}
use Rattle.linkstate.specs.WellFormed.{Values, WellFormed}
use Rattle.linkstate.proofs.Computing.{computing}
use Rattle.rivals.proofs.Shortest.{shortest}
use Rattle.rivals.proofs.RoundTrip.{export-is-rival}

-- A set with a TE metric and nothing else.
unfoldable pub metric : ℕ → ℕ → List ℕ
metric n k = cond (eqb k 1092) (0 ∷ 0 ∷ 0 ∷ n ∷ []) []

-- RSVP-TE has 10, SR Policy, the only one that is named, 20, and the general set 30.
unfoldable pub msg : Meaning
msg = record { bandwidth = λ k. []; rsvp_te = metric 10; general = metric 30; named = λ a. eqb a 1; set = λ a. metric 20 }

unfoldable pub msg-bytes : List ℕ
msg-bytes =
    0x04 ∷ 0x44 ∷ 0x00 ∷ 0x04 ∷ 0x00 ∷ 0x00 ∷ 0x00 ∷ 0x0A ∷ 0x04 ∷ 0x62 ∷ 0x00 ∷ 0x0C ∷ 0x00 ∷ 0x00 ∷ 0x00 ∷ 0x00 ∷ 0x04 ∷ 0x44 ∷ 0x00 ∷ 0x04 ∷ 0x00 ∷ 0x00 ∷ 0x00
    ∷ 0x1E ∷ 0x04 ∷ 0x62 ∷ 0x00 ∷ 0x10 ∷ 0x04 ∷ 0x00 ∷ 0x00 ∷ 0x00 ∷ 0x40 ∷ 0x00 ∷ 0x00 ∷ 0x00 ∷ 0x04 ∷ 0x44 ∷ 0x00 ∷ 0x04 ∷ 0x00 ∷ 0x00 ∷ 0x00 ∷ 0x14 ∷ []

pub msg-export : export msg ≡ msg-bytes
unfolding computing metric msg msg-bytes
msg-export = refl

metric-right : (n k : ℕ) → empty (metric n k) ≡ false → wrong_at_top k (length (metric n k)) ≡ false
unfolding computing metric
metric-right n k = go (eqb k 1092) refl
  where
    go : (b : Bool) → eqb k 1092 ≡ b → empty (cond b (0 ∷ 0 ∷ 0 ∷ n ∷ []) []) ≡ false → wrong_at_top k (length (cond b (0 ∷ 0 ∷ 0 ∷ n ∷ []) [])) ≡ false
    go true e h = subst (λ (x : ℕ). wrong_at_top x 4 ≡ false) (sym (eqb-true k 1092 e)) refl
    go false e h = absurd (false≢true (sym h))

metric-values : (n : ℕ) → Values application_codes (metric n)
unfolding computing metric
metric-values n = record { right = λ k i. metric-right n k; canonical = refl; small = omega arith }

top_right : (k : ℕ) → empty (top_value msg k) ≡ false → wrong_at_top k (length (top_value msg k)) ≡ false
unfolding top_value msg empty
top_right k = go (is_link_code k)
  where
    go : (b : Bool) → empty (cond b [] (metric 10 k)) ≡ false → wrong_at_top k (length (cond b [] (metric 10 k))) ≡ false
    go true h = absurd (false≢true (sym h))
    go false h = metric-right 10 k h

msg-well : WellFormed msg
unfolding computing metric msg
msg-well =
    record {
      named_only = λ a h. subst (λ (x : ℕ). member x others ≡ true) (sym (eqb-true a 1 h)) refl;
      top = record { right = λ k i. top_right k; canonical = refl; small = omega arith };
      general = metric-values 30;
      set = λ a h. metric-values 20;
    }

pub msg-rival : IsRival msg msg-bytes
msg-rival = subst (λ (r : List ℕ). IsRival msg r) msg-export (export-is-rival msg msg-well)

pub msg-shortest : (r : List ℕ) → IsRival msg r → 44 ≤ length r
unfolding msg-bytes
msg-shortest r h = omega (arith, shortest msg r msg-well h, ap length msg-export)
