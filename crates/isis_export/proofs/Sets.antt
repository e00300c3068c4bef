-- The slots that the walk of run A leaves, with the SRLGs of side B, resolve the meaning of the link. Assumes nothing.
use mathlib.Core.Path.{◌≡◌, refl, sym, ap, ap₂, ◌∙◌}
use mathlib.Core.Bool.{Bool, true, false, cond, ◌&&◌, ◌||◌, and-false}
use mathlib.Core.List.{List, map, Memᴰ}
use Prim.Native.Nat.{ℕ, ◌+◌, ◌-◌, ◌≤◌, ◌<◌}
use native.Mathlib.Omega.{arith}
use borrow.Author.Tests.{eqb-true, ltb-true, ltb-false}
use lib.Dec.{eqb, ltb}
use Rattle.linkstate.specs.Lists.{member, numbers}
use Rattle.linkstate.specs.Bytes.{bytes_of_words}
use Rattle.linkstate.specs.Kinds.{codes, link_codes, application_codes, is_link_code}
use Rattle.linkstate.specs.Masks.{others}
use Rattle.linkstate.specs.Attributes.{Attribute, srlgs, value_of}
use Rattle.linkstate.proofs.Retired.{named-retired}
use Rattle.linkstate.specs.Sides.{Side, named, general_set, application_set, rsvp_te_kind, bandwidth_kind}
use Rattle.linkstate.specs.Meaning.{Meaning, meaning, row}
use Rattle.linkstate.specs.Export.{top_value}
use Rattle.linkstate.proofs.ListLaws.{and_l, map-ext, map_at, mem-member, member-mem, mem-numbers, numbers-mem}
use Rattle.rivals.proofs.KindLaws.{link-mem, application-mem}
use Rattle.kinds.specs.Rules.{grid_codes}
use Rattle.kinds.proofs.Computing.{computing}
use Rattle.grids.specs.Grids.{grid_value, set_of, bandwidth_of, top_of}
use Rattle.grids.specs.Slots.{slot_grid, link_rows, slot_of}
use Rattle.srlg_classes.specs.Owned.{class_at}
use Rattle.isis.specs.RunA.{side_a}
use Rattle.isis.specs.RunB.{side_b}
use Rattle.isis.specs.Link.{side_of, link_source}
use Rattle.isis_index.specs.Indexed.{Holds, Indexed}
use Rattle.export_tables.specs.Resolved.{Resolves, Slotted}

-- ---- codes

-- Of an application's codes all but SRLG have a row.
grid-member : (k : ℕ) → eqb k 1096 ≡ false → member k application_codes ≡ true → member k grid_codes ≡ true
unfolding computing
grid-member k e h = rw e at h

-- ---- a set

-- The values of a set whose kinds of run A are those of f, and whose SRLGs are those of us.
unfoldable values_of : (ℕ → List Attribute) → List Attribute → ℕ → List ℕ
values_of f us k = cond (eqb k 1096) (value_of 1096 us) (value_of k (f k))

srlg-value : (us : List Attribute) → bytes_of_words (srlgs us) ≡ value_of 1096 us
unfolding value_of
srlg-value us = refl

module _ (a : List ℕ) (sets : List (List ℕ)) (s : ℕ) (f : ℕ → List Attribute) (us : List Attribute) (h : Holds a sets s f) where
  set_value : (k : ℕ) → member k application_codes ≡ true → set_of a (slot_grid sets s) (srlgs us) k ≡ values_of f us k
  unfolding set_of values_of
  set_value k m = go (eqb k 1096) refl
    where
      go : (t : Bool) → eqb k 1096 ≡ t → cond t (bytes_of_words (srlgs us)) (grid_value a (slot_grid sets s) k) ≡ cond t (value_of 1096 us) (value_of k (f k))
      go true e = srlg-value us
      go false e = map_at (grid_value a (slot_grid sets s)) (λ c. value_of c (f c)) grid_codes h.values (member-mem k grid_codes (grid-member k e m))

  -- Kinds are resolved on their sides, SRLG on the other.
  set-row : (g : ℕ → List Attribute) → ((k : ℕ) → eqb k 1096 ≡ false → f k ≡ g k) → us ≡ g 1096
      → row (set_of a (slot_grid sets s) (srlgs us)) ≡ row (λ k. value_of k (g k))
  unfolding row values_of
  set-row g e i = map-ext _ _ application_codes (λ k m. set_value k (mem-member application_codes m) ∙ set-sided k)
    where
      set-sided : (k : ℕ) → values_of f us k ≡ value_of k (g k)
      set-sided k = go (eqb k 1096) refl
        where
          go : (t : Bool) → eqb k 1096 ≡ t → cond t (value_of 1096 us) (value_of k (f k)) ≡ value_of k (g k)
          go true z = ap (value_of 1096) i ∙ ap (λ (c : ℕ). value_of c (g c)) (sym (eqb-true k 1096 z))
          go false z = ap (value_of k) (e k z)

-- ---- who is named

other-low : (n : ℕ) → member n others ≡ true → (1 ≤ n) × (n < 96)
unfolding others
other-low n h = let q = numbers-mem 1 95 (member-mem n (numbers 1 95) h) in (q.0, q.1)

low-other : (n : ℕ) → 1 ≤ n → n < 96 → member n others ≡ true
unfolding others
low-other n l h =
    let e : 1 + (n - 1) ≡ n = omega arith in
    rw e at (mem-member (numbers 1 95) (mem-numbers 95 1 (n - 1) (omega arith)))

-- The others are all that a side names but RSVP-TE.
others-named : (n : ℕ) (s t : Side) → 1 ≤ n → member n others && (named n s || named n t) ≡ (named n s || named n t)
others-named n s t l = go (ltb n 96) refl
  where
    go : (b : Bool) → ltb n 96 ≡ b → member n others && (named n s || named n t) ≡ (named n s || named n t)
    go true e = ap (λ (x : Bool). x && (named n s || named n t)) (low-other n l (ltb-true n 96 e))
    go false e =
        let none : (named n s || named n t) ≡ false = ap₂ (λ (x y : Bool). x || y) (named-retired n (ltb-false n 96 e) s) (named-retired n (ltb-false n 96 e) t) in
        rw none (and-false (member n others))

-- ---- a link

module _ (a b c : List ℕ) {sets own : List (List ℕ)} {r : ℕ} (of : Indexed a sets own r) where
  abbrev m : Meaning
  m = meaning (link_source a b c)

  -- The side of a kind.
  side-a : (k : ℕ) → eqb k 1096 ≡ false → side_a a ≡ side_of a b c k
  unfolding side_of
  side-a k e = rw e

  side-b : side_b b c ≡ side_of a b c 1096
  unfolding side_of
  side-b = refl

  -- RSVP-TE's set and the bandwidths.
  top-row : map (top_of a (link_rows sets) (slot_grid sets r) (srlgs (rsvp_te_kind 1096 (side_b b c)))) codes ≡ map (top_value m) codes
  unfolding top_of top_value meaning link_source row
  top-row = map-ext _ _ codes (λ k i. go k i (is_link_code k) refl)
    where
      reserved : row (set_of a (slot_grid sets r) (srlgs (rsvp_te_kind 1096 (side_b b c)))) ≡ row (λ k. value_of k (rsvp_te_kind k (side_of a b c k)))
      reserved =
          set-row a sets r (λ k. rsvp_te_kind k (side_a a)) (rsvp_te_kind 1096 (side_b b c)) of.rsvp_te (λ k. rsvp_te_kind k (side_of a b c k))
          (λ k e. ap (rsvp_te_kind k) (side-a k e)) (ap (rsvp_te_kind 1096) side-b)

      go : (k : ℕ) → Memᴰ k codes → (t : Bool) → is_link_code k ≡ t
          → cond t (bandwidth_of a (link_rows sets) k) (set_of a (slot_grid sets r) (srlgs (rsvp_te_kind 1096 (side_b b c))) k)
          ≡ cond t (value_of k (bandwidth_kind k (side_a a))) (value_of k (rsvp_te_kind k (side_of a b c k)))
      go k i true e = map_at (bandwidth_of a (link_rows sets)) (λ c. value_of c (bandwidth_kind c (side_a a))) link_codes of.link.1 (link-mem i e)
      go k i false e =
          map_at (set_of a (slot_grid sets r) (srlgs (rsvp_te_kind 1096 (side_b b c)))) (λ k. value_of k (rsvp_te_kind k (side_of a b c k))) application_codes reserved
          (application-mem i e)

  pub resolves : (p : ℕ → Bool) → ((n : ℕ) → p n ≡ named n (side_a a) || named n (side_b b c)) → Resolves m a sets own p r (side_b b c)
  unfolding meaning link_source
  resolves p e =
      record {
        only = λ n h. other-low n (and_l (member n others) (named n (side_a a) || named n (side_b b c)) h);
        named = λ n l h. others-named n (side_a a) (side_b b c) l ∙ sym (e n);
        set = λ n h.
            set-row a sets (slot_of own n) (λ k. application_set n (side_a a)) (application_set n (side_b b c)) (of.application n h.low h.high)
            (λ k. application_set n (side_of a b c k))
            (λ k e. ap (application_set n) (side-a k e)) (ap (application_set n) side-b);
        general =
            set-row a sets 0 (λ k. general_set (side_a a)) (general_set (side_b b c)) of.general (λ k. general_set (side_of a b c k))
            (λ k e. ap general_set (side-a k e)) (ap general_set side-b);
        top = top-row;
      }

pub slotted : {a : List ℕ} {sets own : List (List ℕ)} {r : ℕ} → Indexed a sets own r → (p : ℕ → Bool) → Slotted a sets own p r
unfolding class_at
slotted of p =
    record {
      slots = of.slots;
      link = of.link.0;
      top = of.rsvp_te.stands;
      slot = λ n h. ((of.application n h.low h.high).stands, of.few n h.high);
      size = of.owned.size;
      unclassed = of.unclassed;
    }
