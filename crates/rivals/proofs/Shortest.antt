-- Demand 3: no rival is shorter than the export. A rival's bytes are parted by type, its ASLAs by class (0 for general ones, else the
-- leader of the group of what they name), and each part of the export is bounded by the part of the rival that must carry the same values.
use mathlib.Core.Path.{◌≡◌, refl, sym, ap, ◌∙◌, subst}
use mathlib.Core.Bool.{Bool, true, false, cond, ◌&&◌, false≢true}
use mathlib.Core.List.Memᴰ
use mathlib.Core.List.{List, [], ◌∷◌, append-nil, Memᴰ}
use Prim.Native.Nat.{ℕ, ◌+◌, ◌-◌, ◌/◌, ◌≤◌, ◌<◌, zero-le}
use native.Mathlib.Nat.{le-add_left}
use native.Mathlib.Omega.{arith}
use borrow.Author.Tests.{eqb-true, eq-eqb, ne_eqb, ltb-true, ltb-false, lt-ltb, le-ltb}
use lib.Dec.{eqb, ltb}
use lib.ListN.{length}
use Rattle.linkstate.specs.Lists.{keep, all, each, lookup, empty, member}
use Rattle.linkstate.specs.Kinds.{codes, application_codes}
use Rattle.linkstate.specs.Masks.{bit, user, in_masks, others, mask_size}
use Rattle.linkstate.specs.Elements.{elements}
use Rattle.linkstate.specs.Attributes.{Attribute, value_of}
use Rattle.linkstate.specs.Sides.{Advertisement, general, names, named, of_live, general_set}
use Rattle.linkstate.specs.Meaning.{Meaning, meaning, row}
use Rattle.linkstate.specs.BgpLs.{is_mask_length, aslas, top_level, run_side, run_source, check_top}
use Rattle.linkstate.specs.Replies.{run_bgp_ls}
use Rattle.linkstate.specs.Export.{top_value, leader, in_group, export}
use Rattle.linkstate.specs.Rival.{IsRival}
use Rattle.linkstate.specs.WellFormed.{WellFormed}
use Rattle.linkstate.proofs.Computing.{computing}
use Rattle.linkstate.proofs.ListLaws.{and_l, and_r, and-false, mem-any, mem-keep, keep_one, first-mem, member-mem, mem-member}
use Rattle.rivals.proofs.Sums.{sum_of, sum_if, sum_of-le, sum_of-each, sum_of-map, sum_of-keep, sum_if-add, sum_if-one, sum_if-mono, parts}
use Rattle.rivals.proofs.Sizes.{weight, whole, cost, costs, value-cost, set-cost}
use Rattle.linkstate.proofs.MaskLaws.{bit_length, mask-least}
use Rattle.rivals.proofs.KindLaws.{codes-different, application-codes-different, others-different, top_of}
use Rattle.rivals.proofs.RunLaws.{accepted-faults, asla_weight, aslas-weight, masks-fit, named_set}
use Rattle.rivals.proofs.Groups.{leader-row}
use Rattle.rivals.proofs.ExportSize.{general_cost, group_cost, length-export}

-- ---- what an ASLA names

-- The bit stands in the mask, so the mask is that long.
standard-bit : (d : Advertisement) (a : ℕ) → a < 64 → names a d ≡ true → a / 8 < length d.standard_mask
unfolding names in_masks
standard-bit d a l h = bit_length d.standard_mask a (rw (lt-ltb a 64 l) at h)

user-bit : (d : Advertisement) (n : ℕ) → names (user n) d ≡ true → n / 8 < length d.user_mask
unfolding names in_masks user
user-bit d n h = let z : 64 + n - 64 ≡ n = omega arith in bit_length d.user_mask n (and_r (ltb (64 + n) 96) (bit d.user_mask n) (rw (le-ltb (64 + n) 64 (omega arith), z) at h))

pub not-general : (d : Advertisement) (a : ℕ) → names a d ≡ true → general d ≡ false
unfolding general user
not-general d a h = go (ltb a 64) refl
  where
    go : (b : Bool) → ltb a 64 ≡ b → eqb (length d.standard_mask) 0 && eqb (length d.user_mask) 0 ≡ false
    go true e = rw (ne_eqb (length d.standard_mask) 0 (λ z. omega (arith, standard-bit d a (ltb-true a 64 e) h)))
    go false e =
        let l = ltb-false a 64 e in
        let z : a ≡ user (a - 64) = omega arith in
        rw (ne_eqb (length d.user_mask) 0 (λ y. omega (arith, user-bit d (a - 64) (rw z at h)))) (and-false (eqb (length d.standard_mask) 0))

-- ---- classes

-- The class of an ASLA: 0 for the general ones, else the leader of the group of what it names.
class : Meaning → Advertisement → ℕ
class m d = cond (general d) 0 (leader m (lookup (λ a. names a d) (λ a. a) 0 others))

class-general : (m : Meaning) (d : Advertisement) → general d ≡ true → eqb 0 (class m d) ≡ true
unfolding class
class-general m d h = rw h

-- ---- parts

costs-row : (f g : ℕ → List ℕ) → row f ≡ row g → costs application_codes f ≡ costs application_codes g
unfolding row costs
costs-row f g e = sym (sum_of-map cost f application_codes) ∙ ap (sum_of cost) e ∙ sum_of-map cost g application_codes

set-weight : (ts : List Attribute) → costs application_codes (λ k. value_of k ts) ≤ sum_of weight ts
set-weight ts = set-cost application_codes application-codes-different ts

top-parts : (ts : List Attribute) → sum_if (λ t. eqb 1122 t.code) weight ts + sum_of (λ k. sum_if (λ t. eqb k t.code) weight ts) codes ≤ sum_of weight ts
unfolding sum_of
top-parts ts = parts (λ t. t.code) weight (1122 ∷ codes) codes-different ts

class-parts : (m : Meaning) (ds : List Advertisement)
    → sum_if (λ d. eqb 0 (class m d)) asla_weight ds + sum_of (λ a. sum_if (λ d. eqb a (class m d)) asla_weight ds) others ≤ sum_of asla_weight ds
unfolding sum_of
class-parts m ds = parts (class m) asla_weight (0 ∷ others) others-different ds

-- General ASLAs weigh eight bytes, and what is in them.
some-general : (d : Advertisement) (ds : List Advertisement) → 8 + sum_of (λ d. sum_of weight d.attributes) (d ∷ ds) ≤ sum_of asla_weight (d ∷ ds)
unfolding sum_of asla_weight
some-general d ds =
    omega (
      arith,
      sum_of-le (λ d. sum_of weight d.attributes) asla_weight ds
          (λ d k. le-add_left (sum_of weight d.attributes) (8 + length d.standard_mask + length d.user_mask)),
    )

-- No attributes, no values.
read_none : all empty (row (λ k. value_of k [])) ≡ true
unfolding computing
read_none = refl

module _ (m : Meaning) (r : List ℕ) (ok : WellFormed m) (rv : IsRival m r) where
  -- ---- the one ASLA that names an application

  named_by : (a : ℕ) (d : Advertisement) → member a others ≡ true → Memᴰ d (aslas r) → names a d ≡ true → m.named a ≡ true
  unfolding meaning run_source named run_side
  named_by a d h i n = rv.same.named a h ∙ rw (h, mem-any (names a) (aslas r) i n)

  -- The set of a named application in the rival is read from the ASLAs that name it.
  set-in : (a : ℕ) → member a others ≡ true → m.named a ≡ true → row (m.set a) ≡ row (λ k. value_of k (each (λ d. d.attributes) (keep (names a) (aslas r))))
  unfolding meaning run_source of_live run_side
  set-in a h n =
      let e : named a (run_side r) ≡ true = and_r (member a others) (named a (run_side r)) (sym (rv.same.named a h) ∙ n) in
      rv.same.set a h n ∙ ap (λ (ts : List Attribute). row (λ k. value_of k ts)) (named_set r a e)

  set-of : (a : ℕ) (d : Advertisement) → member a others ≡ true → Memᴰ d (aslas r) → names a d ≡ true → row (m.set a) ≡ row (λ k. value_of k d.attributes)
  unfolding each
  set-of a d h i n =
      let o = named_by a d h i n in
      let k = keep_one (names a) (aslas r) (rv.once a h o) in
      let e : d ≡ k.0 = Memᴰ.eq_of_singleton (subst (λ (l : List Advertisement). Memᴰ d l) k.3 (mem-keep (names a) (aslas r) i n)) in
      set-in a h o
      ∙ ap (λ (ts : List Attribute). row (λ k. value_of k ts)) (ap (each (λ d. d.attributes)) k.3 ∙ append-nil k.0.attributes ∙ ap (λ (d : Advertisement). d.attributes) (sym e))

  class_of : (a : ℕ) (d : Advertisement) → member a others ≡ true → Memᴰ d (aslas r) → names a d ≡ true → class m d ≡ leader m a
  unfolding class
  class_of a d h i n =
      let p : ℕ → Bool = λ b. names b d in
      let f = first-mem p others 0 (mem-any p others (member-mem a others h) n) in
      rw (not-general d a n) (leader-row m (lookup p (λ b. b) 0 others) a (set-of _ d (mem-member others f.0) i f.1 ∙ sym (set-of a d h i n)))

  -- What the ASLAs of a class weigh.
  weigh : ℕ → (Advertisement → ℕ) → ℕ
  weigh a w = sum_if (λ d. eqb a (class m d)) w (aslas r)

  -- For each member of a group, an ASLA of the group's class names it and carries its set.
  one_of : (a b : ℕ) (w : Advertisement → ℕ) → in_group m a b ≡ true
      → (d : Advertisement) × Memᴰ d (aslas r) × (names b d ≡ true) × (w d ≤ weigh a w) × (row (m.set b) ≡ row (λ k. value_of k d.attributes))
  unfolding in_group weigh
  one_of a b w g =
      let n = and_l (m.named b) (eqb (leader m b) a) g in
      let h = ok.named_only b n in
      let k = keep_one (names b) (aslas r) (rv.once b h n) in
      let c : a ≡ class m k.0 = sym (class_of b k.0 h k.1 k.2 ∙ eqb-true (leader m b) a (and_r (m.named b) (eqb (leader m b) a) g)) in (
        k.0,
        k.1,
        k.2,
        sum_if-one (λ d. eqb a (class m d)) w (aslas r) k.1 (eq-eqb a (class m k.0) c),
        set-of b k.0 h k.1 k.2,
      )

  -- ---- a group's ASLA, part by part

  weigh-parts : (a : ℕ)
      → weigh a asla_weight
      ≡ weigh a (λ d. 8) + weigh a (λ d. length d.standard_mask) + weigh a (λ d. length d.user_mask) + weigh a (λ d. sum_of weight d.attributes)
  unfolding weigh asla_weight
  weigh-parts a =
      let p : Advertisement → Bool = λ d. eqb a (class m d) in
      simp (
        sum_if-add p (λ d. 8 + length d.standard_mask + length d.user_mask) (λ d. sum_of weight d.attributes),
        sum_if-add p (λ d. 8 + length d.standard_mask) (λ d. length d.user_mask),
        sum_if-add p (λ d. 8) (λ d. length d.standard_mask),
      )

  fit : {d : Advertisement} → Memᴰ d (aslas r) → (is_mask_length (length d.standard_mask) ≡ true) × (is_mask_length (length d.user_mask) ≡ true)
  unfolding aslas
  fit i = masks-fit (elements 2 0 r) (accepted-faults r rv.accepted) i

  standard-bound : (a : ℕ) → mask_size (in_group m a) ≤ weigh a (λ d. length d.standard_mask)
  standard-bound a =
      mask-least (in_group m a) (weigh a (λ d. length d.standard_mask))
      (λ n l g. let o = one_of a n (λ d. length d.standard_mask) g in (length o.0.standard_mask, (fit o.1).0, standard-bit o.0 n l o.2, o.3))

  user-bound : (a : ℕ) → mask_size (λ n. in_group m a (user n)) ≤ weigh a (λ d. length d.user_mask)
  user-bound a =
      mask-least (λ n. in_group m a (user n)) (weigh a (λ d. length d.user_mask))
      (λ n l g. let o = one_of a (user n) (λ d. length d.user_mask) g in (length o.0.user_mask, (fit o.1).1, user-bit o.0 n o.2, o.3))

  group-bound : (a : ℕ) → group_cost m a ≤ weigh a asla_weight
  unfolding group_cost
  group-bound a = go (in_group m a a) refl
    where
      go : (b : Bool) → in_group m a a ≡ b
          → cond b (8 + mask_size (in_group m a) + mask_size (λ n. in_group m a (user n)) + costs application_codes (m.set a)) 0 ≤ weigh a asla_weight
      go true e =
          let o = one_of a a (λ d. sum_of weight d.attributes) e in
          omega (
            arith,
            weigh-parts a,
            (one_of a a (λ d. 8) e).3,
            standard-bound a,
            user-bound a,
            o.3,
            costs-row (m.set a) (λ k. value_of k o.0.attributes) o.4,
            set-weight o.0.attributes,
          )
      go false e = zero-le

  -- ---- the general ASLA

  general-in : row m.general ≡ row (λ k. value_of k (each (λ d. d.attributes) (keep general (aslas r))))
  unfolding meaning run_source general_set of_live run_side
  general-in = rv.same.general

  general-bound : general_cost m ≤ weigh 0 asla_weight
  unfolding general_cost weigh each
  general-bound = go (all empty (row m.general)) refl (keep general (aslas r)) refl
    where
      of : (l : List Advertisement) → keep general (aslas r) ≡ l → row m.general ≡ row (λ k. value_of k (each (λ d. d.attributes) l))
      of l e = general-in ∙ ap (λ (l : List Advertisement). row (λ k. value_of k (each (λ d. d.attributes) l))) e

      go : (b : Bool) → all empty (row m.general) ≡ b → (l : List Advertisement) → keep general (aslas r) ≡ l
          → cond b 0 (8 + costs application_codes m.general) ≤ sum_if (λ d. eqb 0 (class m d)) asla_weight (aslas r)
      go true e l k = zero-le
      go false e [] k = absurd (false≢true (sym e ∙ ap (all empty) (of [] k) ∙ read_none))
      go false e (d ∷ ds) k =
          omega (
            arith,
            costs-row m.general (λ k. value_of k (each (λ d. d.attributes) (d ∷ ds))) (of (d ∷ ds) k),
            set-weight (each (λ d. d.attributes) (d ∷ ds)),
            sum_of-each weight (λ d. d.attributes) (d ∷ ds),
            some-general d ds,
            ap (sum_of asla_weight) k,
            sum_of-keep general asla_weight (aslas r),
            sum_if-mono general (λ d. eqb 0 (class m d)) asla_weight (aslas r) (class-general m),
          )

  -- ---- the whole

  top-bound : costs codes (top_value m) + sum_if (λ t. eqb 1122 t.code) weight (top_level r) ≤ sum_of weight (top_level r)
  unfolding costs meaning run_source
  top-bound =
      let same = top_of m (λ k. value_of k (top_level r)) rv.same.bandwidth rv.same.rsvp_te in
      omega (
        arith,
        sum_of-le (λ k. cost (top_value m k)) (λ k. sum_if (λ t. eqb k t.code) weight (top_level r)) codes
            (λ k h. rw (same k h) (value-cost k (top_level r))),
        top-parts (top_level r),
      )

  asla-bound : general_cost m + sum_of (group_cost m) others ≤ sum_of asla_weight (aslas r)
  unfolding weigh
  asla-bound = omega (arith, general-bound, sum_of-le (group_cost m) (λ a. weigh a asla_weight) others (λ a k. group-bound a), class-parts m (aslas r))

  whole_run : (sum_of weight (top_level r) ≡ length r) × (sum_of asla_weight (aslas r) ≤ sum_if (λ t. eqb 1122 t.code) weight (top_level r))
  unfolding top_level aslas
  whole_run =
      let k = accepted-faults r rv.accepted in
      (whole run_bgp_ls check_top 0 r k, aslas-weight (elements 2 0 r) k)

-- No rival is shorter than the export.
pub shortest : (m : Meaning) (r : List ℕ) → WellFormed m → IsRival m r → length (export m) ≤ length r
shortest m r ok rv = omega (arith, length-export m, top-bound m r ok rv, asla-bound m r ok rv, whole_run m r ok rv)
