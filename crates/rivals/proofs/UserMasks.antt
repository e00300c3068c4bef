-- No user mask of an export has 8 bytes (E12). Assumes nothing.
use mathlib.Core.Path.{◌≡◌, refl}
use mathlib.Core.Logic.{◌⊎◌, inl, inr}
use mathlib.Core.Bool.{Bool, true, false, cond, false≢true}
use mathlib.Core.List.Memᴰ
use mathlib.Core.List.{List, [], ◌∷◌, ◌++◌, map, Memᴰ}
use Prim.Native.Nat.{ℕ, zero, suc, ◌+◌, ◌≤◌, ◌<◌, zero-le}
use native.Mathlib.Omega.{arith}
use borrow.Author.Tests.{ltb-true, lt-ltb}
use lib.Dec.{eqb, ltb}
use Rattle.linkstate.specs.Lists.{keep, all, empty}
use Rattle.linkstate.specs.Kinds.{codes}
use Rattle.linkstate.specs.Masks.{user, others, last_below, bytes_to_hold, mask_size}
use Rattle.linkstate.specs.Meaning.{Meaning, row}
use Rattle.linkstate.specs.Export.{tlv, present, top_value, asla_value, general_values, leader, in_group, leaders, group_value, asla_values, tlvs}
use Rattle.linkstate.specs.BgpLs.{udabm_length}
use Rattle.linkstate.specs.WellFormed.{WellFormed}
use Rattle.linkstate.proofs.ListLaws.{and_l, keep-mem, map-mem, member-mem, numbers-mem}

-- A mask of numbers below 32 has at most 4 bytes.
four : (p : ℕ → Bool) → ((n : ℕ) → p n ≡ true → n < 32) → (k : ℕ) → bytes_to_hold (last_below k p) ≤ 4
unfolding last_below bytes_to_hold
four p h zero = zero-le
four p h (suc k) = go (p k) refl (four p h k)
  where
    go : (b : Bool) → p k ≡ b → bytes_to_hold (last_below k p) ≤ 4 → bytes_to_hold (cond b (Rattle.linkstate.specs.Masks.last k) (last_below k p)) ≤ 4
    go true e r = rw (lt-ltb k 32 (h k e)) (omega arith)
    go false e r = r

user-low : (m : Meaning) → WellFormed m → (a n : ℕ) → in_group m a (user n) ≡ true → n < 32
unfolding in_group others user
user-low m ok a n e =
    let o = ok.named_only (64 + n) (and_l (m.named (64 + n)) (eqb (leader m (64 + n)) a) e) in
    let r = numbers-mem 1 95 (member-mem (64 + n) (Rattle.linkstate.specs.Lists.numbers 1 95) o) in
    omega (arith, r.1)

-- A value of an ASLA says how long its user mask is.
says : (p : ℕ → Bool) (f : ℕ → List ℕ) → udabm_length (asla_value p f) ≡ mask_size (λ n. p (user n))
unfolding udabm_length asla_value
says p f = refl

-- No TLV at the top has code 1122.
top-other : (t : ℕ) (v : List ℕ) (ks : List ℕ) (f : ℕ → List ℕ) → Memᴰ (tlv t v) (present ks f) → Memᴰ t ks
unfolding present empty
top-other t v [] f i = absurd (Memᴰ.not-nil i)
top-other t v (k ∷ ks) f i = go (f k) i (λ j. top-other t v ks f j)
  where
    go : (x : List ℕ) → Memᴰ (tlv t v) (cond (empty x) (present ks f) (tlv k x ∷ present ks f)) → (Memᴰ (tlv t v) (present ks f) → Memᴰ t ks)
        → Memᴰ t (k ∷ ks)
    go [] j r = Memᴰ.tail (r j)
    go (b ∷ bs) j r = first (Memᴰ.cases_cons j)
      where
        first : (tlv t v ≡ tlv k (b ∷ bs)) ⊎ Memᴰ (tlv t v) (present ks f) → Memᴰ t (k ∷ ks)
        first (inl e) = let w : t ≡ k = cc in Memᴰ.head w
        first (inr d) = Memᴰ.tail (r d)

module _ (m : Meaning) (ok : WellFormed m) where
  asla-four : {v : List ℕ} → Memᴰ v (asla_values m) → udabm_length v ≤ 4
  unfolding asla_values general_values group_value mask_size
  asla-four {v} i = go (Memᴰ.append_cases (general_values m) i)
    where
      first : (b : Bool) → Memᴰ v (cond b [] (asla_value (λ a. false) m.general ∷ [])) → udabm_length v ≤ 4
      first true j = absurd (Memᴰ.not-nil j)
      first false j = rw (Memᴰ.eq_of_singleton j) (rw (says (λ a. false) m.general) (four (λ n. false) (λ n e. absurd (false≢true e)) 64))

      go : Memᴰ v (general_values m) ⊎ Memᴰ v (map (group_value m) (leaders m)) → udabm_length v ≤ 4
      go (inl j) = first (all empty (row m.general)) j
      go (inr j) =
          let q = map-mem (group_value m) (leaders m) j in
          rw q.2 (rw (says (in_group m q.0) (m.set q.0)) (four (λ n. in_group m q.0 (user n)) (user-low m ok q.0) 64))

  low-other : Memᴰ 1122 (keep (λ k. ltb k 1122) codes) → ⊥
  low-other i = let z = ltb-true 1122 1122 (keep-mem (λ k. ltb k 1122) codes i).0 in omega arith

  high-other : Memᴰ 1122 (keep (λ k. ltb 1122 k) codes) → ⊥
  high-other i = let z = ltb-true 1122 1122 (keep-mem (λ k. ltb 1122 k) codes i).0 in omega arith

  pub user-masks : (v : List ℕ) → Memᴰ (tlv 1122 v) (tlvs m) → udabm_length v ≤ 4
  unfolding tlvs
  user-masks v i = go (Memᴰ.append_cases (present (keep (λ k. ltb k 1122) codes) (top_value m) ++ map (tlv 1122) (asla_values m)) i)
    where
      front : Memᴰ (tlv 1122 v) (present (keep (λ k. ltb k 1122) codes) (top_value m)) ⊎ Memᴰ (tlv 1122 v) (map (tlv 1122) (asla_values m)) → udabm_length v ≤ 4
      front (inl j) = absurd (low-other (top-other 1122 v (keep (λ k. ltb k 1122) codes) (top_value m) j))
      front (inr j) =
          let q = map-mem (tlv 1122) (asla_values m) j in
          let e : v ≡ q.0 = cc q.2 in
          rw e (asla-four q.1)

      go : Memᴰ (tlv 1122 v) (present (keep (λ k. ltb k 1122) codes) (top_value m) ++ map (tlv 1122) (asla_values m)) ⊎ Memᴰ (tlv 1122 v) (present (keep (λ k. ltb 1122 k) codes) (top_value m))
          → udabm_length v ≤ 4
      go (inl j) = front (Memᴰ.append_cases (present (keep (λ k. ltb k 1122) codes) (top_value m)) j)
      go (inr j) = absurd (high-other (top-other 1122 v (keep (λ k. ltb 1122 k) codes) (top_value m) j))
