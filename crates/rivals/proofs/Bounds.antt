-- How long an export can be, by what its sets weigh, and the numbers for a well-formed meaning: each set has at most 4,000 bytes, and there are at most 97
-- of them, so the export is within the reader's 524,288 bytes, and each length fits its two bytes.
use mathlib.Core.Path.{◌≡◌, refl, ap}
use mathlib.Core.Logic.{◌⊎◌, inl, inr}
use mathlib.Core.Bool.{Bool, true, false, cond}
use mathlib.Core.List.Memᴰ
use mathlib.Core.List.{List, [], ◌∷◌, ◌++◌, map, Memᴰ}
use Prim.Native.Nat.{ℕ, ◌+◌, ◌*◌, ◌≤◌, zero-le}
use native.Mathlib.Omega.{arith}
use lib.Dec.{eqb, ltb}
use lib.ListN.{length}
use Rattle.linkstate.specs.Lists.{keep, all, empty}
use Rattle.linkstate.specs.Limits.{most_in_set, most_in_bgp_ls, other_applications}
use Rattle.linkstate.specs.Kinds.{codes, application_codes}
use Rattle.linkstate.specs.Masks.{user, others, mask_size}
use Rattle.linkstate.specs.Meaning.{Meaning, row}
use Rattle.linkstate.specs.Export.{tlv, present, top_value, asla_value, general_values, leader, in_group, leaders, group_value, asla_values, tlvs, export}
use Rattle.linkstate.specs.WellFormed.{Values, WellFormed}
use Rattle.linkstate.proofs.ListLaws.{and_l, keep-mem, map-mem, length-numbers}
use Rattle.rivals.proofs.Sums.{sum_of, sum_of-one, sum_of-most}
use Rattle.rivals.proofs.Sizes.{cost, costs, size, length-bytes, size-present}
use Rattle.linkstate.proofs.MaskLaws.{mask-small, no_bits}
use Rattle.rivals.proofs.ExportSize.{asla-size, general_cost, group_cost, length-export}

-- ---- any meaning

-- What the TLVs at the top weigh together and each, and what any set weighs.
pub record Within (top set : ℕ) (m : Meaning) : Type 0 where
  pub together : costs codes (top_value m) ≤ top
  pub each : (k : ℕ) → Memᴰ k codes → cost (top_value m k) ≤ 24 + set
  pub general : costs application_codes m.general ≤ set
  pub named : (a : ℕ) → m.named a ≡ true → costs application_codes (m.set a) ≤ set

others-length : length others ≡ other_applications
unfolding others
others-length = length-numbers other_applications 1

-- A TLV of a set weighs what its value does.
present-small : (n : ℕ) (ks : List ℕ) (f : ℕ → List ℕ) → ((k : ℕ) → Memᴰ k ks → cost (f k) ≤ n) → {t : ℕ} {v : List ℕ} → Memᴰ (tlv t v) (present ks f)
    → 4 + length v ≤ n
unfolding present empty cost
present-small n [] f h i = absurd (Memᴰ.not-nil i)
present-small n (k ∷ ks) f h {t} {v} i = go (f k) (h k (Memᴰ.head refl)) i (λ j. present-small n ks f (λ c d. h c (Memᴰ.tail d)) j)
  where
    go : (x : List ℕ) → cost x ≤ n → Memᴰ (tlv t v) (cond (empty x) (present ks f) (tlv k x ∷ present ks f))
        → (Memᴰ (tlv t v) (present ks f) → 4 + length v ≤ n) → 4 + length v ≤ n
    go [] l j r = r j
    go (b ∷ bs) l j r = first (Memᴰ.cases_cons j)
      where
        first : (tlv t v ≡ tlv k (b ∷ bs)) ⊎ Memᴰ (tlv t v) (present ks f) → 4 + length v ≤ n
        first (inl e) = let w : v ≡ b ∷ bs = cc in rw w l
        first (inr d) = r d

module _ {top set : ℕ} (m : Meaning) (within : Within top set m) where
  general-small : general_cost m ≤ 8 + set
  unfolding general_cost
  general-small = go (all empty (row m.general))
    where
      go : (b : Bool) → cond b 0 (8 + costs application_codes m.general) ≤ 8 + set
      go true = zero-le
      go false = omega (arith, within.general)

  -- Eight bytes in front, two masks, and the set.
  led-small : (a : ℕ) → in_group m a a ≡ true → 4 + length (group_value m a) ≤ 24 + set
  unfolding group_value in_group
  led-small a e =
      omega (
        arith,
        asla-size (in_group m a) (m.set a),
        mask-small (in_group m a),
        mask-small (λ n. in_group m a (user n)),
        within.named a (and_l (m.named a) (eqb (leader m a) a) e),
      )

  group-small : (a : ℕ) → group_cost m a ≤ 24 + set
  unfolding group_cost group_value
  group-small a = go (in_group m a a) refl
    where
      go : (b : Bool) → in_group m a a ≡ b → cond b (8 + mask_size (in_group m a) + mask_size (λ n. in_group m a (user n)) + costs application_codes (m.set a)) 0 ≤ 24 + set
      go true e = omega (arith, asla-size (in_group m a) (m.set a), led-small a e)
      go false e = zero-le

  pub export-bound : length (export m) ≤ top + (8 + set) + other_applications * (24 + set)
  export-bound =
      let groups : sum_of (group_cost m) others ≤ (24 + set) * other_applications = rw others-length at (sum_of-most (group_cost m) (24 + set) others (λ a i. group-small a)) in
      omega (arith, length-export m, within.together, general-small)

  asla-bound : {v : List ℕ} → Memᴰ v (asla_values m) → length v ≤ 20 + set
  unfolding asla_values general_values leaders
  asla-bound {v} i = go (Memᴰ.append_cases (general_values m) i)
    where
      first : (b : Bool) → Memᴰ v (cond b [] (asla_value (λ a. false) m.general ∷ [])) → length v ≤ 20 + set
      first true j = absurd (Memᴰ.not-nil j)
      first false j = rw (Memᴰ.eq_of_singleton j) (omega (arith, asla-size (λ a. false) m.general, no_bits, within.general))

      go : Memᴰ v (general_values m) ⊎ Memᴰ v (map (group_value m) (leaders m)) → length v ≤ 20 + set
      go (inl j) = first (all empty (row m.general)) j
      go (inr j) =
          let q = map-mem (group_value m) (leaders m) j in
          omega (arith, ap length q.2, led-small q.0 (keep-mem (λ a. in_group m a a) others q.1).0)

  top-bound : (p : ℕ → Bool) {t : ℕ} {v : List ℕ} → Memᴰ (tlv t v) (present (keep p codes) (top_value m)) → length v ≤ 20 + set
  top-bound p i = omega (arith, present-small (24 + set) (keep p codes) (top_value m) (λ k j. within.each k (keep-mem p codes j).1) i)

  pub value-bound : {t : ℕ} {v : List ℕ} → Memᴰ (tlv t v) (tlvs m) → length v ≤ 20 + set
  unfolding tlvs
  value-bound {t} {v} i = go (Memᴰ.append_cases (present (keep (λ k. ltb k 1122) codes) (top_value m) ++ map (tlv 1122) (asla_values m)) i)
    where
      front : Memᴰ (tlv t v) (present (keep (λ k. ltb k 1122) codes) (top_value m)) ⊎ Memᴰ (tlv t v) (map (tlv 1122) (asla_values m)) → length v ≤ 20 + set
      front (inl j) = top-bound (λ k. ltb k 1122) j
      front (inr j) =
          let q = map-mem (tlv 1122) (asla_values m) j in
          let e : v ≡ q.0 = cc q.2 in
          omega (arith, ap length e, asla-bound q.1)

      go : Memᴰ (tlv t v) (present (keep (λ k. ltb k 1122) codes) (top_value m) ++ map (tlv 1122) (asla_values m)) ⊎ Memᴰ (tlv t v) (present (keep (λ k. ltb 1122 k) codes) (top_value m))
          → length v ≤ 20 + set
      go (inl j) = front (Memᴰ.append_cases (present (keep (λ k. ltb k 1122) codes) (top_value m)) j)
      go (inr j) = top-bound (λ k. ltb 1122 k) j

-- ---- well-formed meanings

-- What a set's values weigh.
set-small : (ks : List ℕ) (f : ℕ → List ℕ) → Values ks f → costs ks f ≤ most_in_set
set-small ks f ok = omega (arith, ok.small, length-bytes (present ks f), size-present ks f)

-- Each length of a set's TLVs fits its two bytes: so do those inside a 1122.
pub set-lengths-within : (ks : List ℕ) (f : ℕ → List ℕ) → Values ks f → {t : ℕ} {v : List ℕ} → Memᴰ (tlv t v) (present ks f) → length v ≤ 65535
unfolding size
set-lengths-within ks f ok i = omega (arith, sum_of-one size (present ks f) i, size-present ks f, set-small ks f ok)

well-within : (m : Meaning) → WellFormed m → Within most_in_set most_in_set m
unfolding costs
well-within m ok =
    record {
      together = set-small codes (top_value m) ok.top;
      each = λ k i. omega (arith, sum_of-one (λ k. cost (top_value m k)) codes i, set-small codes (top_value m) ok.top);
      general = set-small application_codes m.general ok.general;
      named = λ a n. set-small application_codes (m.set a) (ok.set a n);
    }

-- The reader takes the export: it is not refused by 1.
pub export-within : (m : Meaning) → WellFormed m → length (export m) ≤ most_in_bgp_ls
export-within m ok = omega (arith, export-bound m (well-within m ok))

-- Each length fits its two bytes.
pub lengths-within : (m : Meaning) → WellFormed m → {t : ℕ} {v : List ℕ} → Memᴰ (tlv t v) (tlvs m) → length v ≤ 65535
lengths-within m ok i = omega (arith, value-bound m (well-within m ok) i)
