-- The length of the export as a sum: what the values at the top weigh, the general ASLA, and one ASLA for each group, counted at the application that leads it.
use mathlib.Core.Path.{◌≡◌, refl, sym, ap, ◌∙◌, fun_ext}
use mathlib.Core.Bool.{Bool, true, false, cond}
use mathlib.Core.List.{List, [], ◌∷◌, ◌++◌, map}
use Prim.Native.Nat.{ℕ, ◌+◌}
use native.Mathlib.Omega.{arith}
use lib.ListN.{length, length-append}
use Rattle.linkstate.specs.Lists.{all, each, empty}
use Rattle.linkstate.specs.Kinds.{codes, application_codes}
use Rattle.linkstate.specs.Masks.{user, others, mask_size, mask}
use Rattle.linkstate.specs.Meaning.{Meaning, row}
use Rattle.linkstate.specs.Export.{tlv, bytes_of, present, top_value, asla_value, general_values, in_group, leaders, group_value, asla_values, tlvs, export}
use Rattle.rivals.proofs.Sums.{sum_of, sum_of-append, sum_of-map, sum_of-keep, sum_if-cond}
use Rattle.rivals.proofs.Sizes.{costs, size, length-bytes, size-present, cost}
use Rattle.linkstate.proofs.MaskLaws.{length-mask, no_bits}
use Rattle.rivals.proofs.KindLaws.{low_codes, high_codes, low-high}

-- An ASLA's weight: eight fixed bytes, the masks, the set.
pub asla-size : (p : ℕ → Bool) (f : ℕ → List ℕ) → 4 + length (asla_value p f) ≡ 8 + mask_size p + mask_size (λ n. p (user n)) + costs application_codes f
unfolding asla_value
asla-size p f =
    omega (
      arith,
      length-append (mask p ++ mask (λ n. p (user n))) (each bytes_of (present application_codes f)),
      length-append (mask p) (mask (λ n. p (user n))),
      length-mask p,
      length-mask (λ n. p (user n)),
      length-bytes (present application_codes f),
      size-present application_codes f,
    )

-- What the general set's ASLA weighs, and that of the group that an application leads.
unfoldable pub general_cost : Meaning → ℕ
general_cost m = cond (all empty (row m.general)) 0 (8 + costs application_codes m.general)

unfoldable pub group_cost : Meaning → ℕ → ℕ
group_cost m a = cond (in_group m a a) (8 + mask_size (in_group m a) + mask_size (λ n. in_group m a (user n)) + costs application_codes (m.set a)) 0

module _ (m : Meaning) where
  general-size : sum_of (λ v. 4 + length v) (general_values m) ≡ general_cost m
  unfolding general_values general_cost sum_of
  general-size = go (all empty (row m.general))
    where
      go : (b : Bool) → sum_of (λ v. 4 + length v) (cond b [] (asla_value (λ a. false) m.general ∷ [])) ≡ cond b 0 (8 + costs application_codes m.general)
      go true = refl
      go false = omega (arith, asla-size (λ a. false) m.general, no_bits)

  groups-size : sum_of (λ v. 4 + length v) (map (group_value m) (leaders m)) ≡ sum_of (group_cost m) others
  unfolding leaders group_value group_cost
  groups-size =
      sum_of-map (λ v. 4 + length v) (group_value m) (leaders m)
      ∙ sum_of-keep (λ a. in_group m a a) (λ a. 4 + length (group_value m a)) others
      ∙ sum_if-cond (λ a. in_group m a a) (λ a. 4 + length (group_value m a)) others
      ∙ ap (λ (w : ℕ → ℕ). sum_of (λ a. cond (in_group m a a) (w a) 0) others) (fun_ext (λ a. asla-size (in_group m a) (m.set a)))

  aslas-size : sum_of size (map (tlv 1122) (asla_values m)) ≡ general_cost m + sum_of (group_cost m) others
  unfolding size asla_values
  aslas-size =
      sum_of-map size (tlv 1122) (asla_values m)
      ∙ sum_of-append (λ v. 4 + length v) (general_values m) (map (group_value m) (leaders m))
      ∙ rw (general-size, groups-size)

  top-size : sum_of size (present low_codes (top_value m)) + sum_of size (present high_codes (top_value m)) ≡ costs codes (top_value m)
  unfolding costs
  top-size =
      rw (size-present low_codes (top_value m), size-present high_codes (top_value m))
      (sym (sum_of-append (λ k. cost (top_value m k)) low_codes high_codes) ∙ ap (λ (ks : List ℕ). sum_of (λ k. cost (top_value m k)) ks) (sym low-high))

  pub length-export : length (export m) ≡ costs codes (top_value m) + general_cost m + sum_of (group_cost m) others
  unfolding export tlvs low_codes high_codes
  length-export = simp (length-bytes, sum_of-append) (omega (arith, top-size, aslas-size))
