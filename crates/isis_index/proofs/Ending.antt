-- The table and the slots when all is done: every subject has the slot of its set. Assumes nothing.
use mathlib.Core.Path.{◌≡◌, refl, sym, ap, ap₂, ◌∙◌, subst}
use mathlib.Core.Bool.{Bool, true, false, cond, not}
use mathlib.Core.List.{List, [], ◌∷◌, ◌++◌}
use Prim.Native.Nat.{ℕ, zero, suc, ◌+◌, ◌<◌}
use native.Mathlib.Omega.{arith}
use borrow.Author.Tests.{eqb-true, eqb-false, eq-eqb, ne_eqb, ltb-true, ltb-false, le-leb}
use lib.Dec.{eqb, ltb}
use lib.ListN.{length, get_or, set, length-set}
use lib.Seq.{get_or-set_same, get_or-set_other}
use Rattle.linkstate.specs.Lists.{each, empty}
use Rattle.linkstate.specs.Replies.{accepted, run_a}
use Rattle.linkstate.specs.Elements.{Element, elements, faults}
use Rattle.linkstate.specs.Kinds.{link_codes}
use Rattle.linkstate.specs.Attributes.{Attribute, value_of}
use Rattle.linkstate.specs.Sides.{Side, names, named, named_with_l, of_live, general_set, application_set, has_legacy, rsvp_te_kind, rsvp_te_alone, maximum_bandwidth, reservable_bandwidth, bandwidth_kind}
use Rattle.masks.specs.Sets.{turned_place}
use Rattle.kinds.specs.Rules.{grid_codes}
use Rattle.rules.specs.declared.Names.{Names}
use Rattle.rules.specs.Names.{Tells}
use Rattle.masks.specs.Applications.{in_set, at_place}
use Rattle.rules.proofs.NameLaws.{side-named, side-flagged}
use Rattle.rules.specs.declared.Rule.{Rule}
use Rattle.rules.specs.declared.Rule.TheVariants as Ru
use Rattle.rules.specs.declared.Rule.TheVariants.{ByL, Legacy, NamingFirst}
use Rattle.rules.specs.Rules.{rsvp_te_rule, taken_by}
use Rattle.rules.proofs.Laws.{rsvp-te-taken}
use Rattle.grids.specs.Slots.{cell, IsSet, slot_of}
use Rattle.set_table.specs.Tables.{first, Table, Given, slot_at, Gave}
use Rattle.set_table.proofs.Tables.{first-none, first-free, first_taken, slots-of}
use Rattle.isis.specs.RunA.{check_a, attributes_of, side_a}
use Rattle.isis_grids.specs.declared.Which.{Which}
use Rattle.isis_grids.specs.declared.Which.TheVariants.{Naming, General, RsvpTeAlone, WithoutL}
use Rattle.isis_grids.specs.Selected.{selects, selected}
use Rattle.isis_grids.proofs.Grids.{All, all_append}
use Rattle.isis_grids.proofs.Places.{Stands, legacy-stands, live-stands}
use Rattle.isis_grids.proofs.Aslas.{live_all}
use Rattle.isis_index.specs.Index as I
use Rattle.isis_index.specs.Index.{cell_in, legacy, live, takes, in_run}
use Rattle.isis_index.specs.Started.{Started}
use Rattle.isis_index.specs.Settled.{settled, Settled, from_old, slot_by, rule_by, rsvp_te_slot, filled_by, filled_slot}
use Rattle.isis_index.specs.Indexed.{Holds, Indexed}
use Rattle.isis_index.proofs.Codes.{link-first, link-same}
use Rattle.isis_index.proofs.Cells.{cell-append, place-low}
use Rattle.masks.proofs.Sets.{place_set}
use Rattle.isis_index.proofs.Settling.{first-again}
use Rattle.isis_index.proofs.Values.{grid-code, cell-empty}
use Rattle.isis_index.proofs.Slots.{Filled, filled-holds, filled-alike, link-values, settled-first, settled-second, settled-third}

-- ---- what the sources are on side A

each_same : {A : Type 0} (f g : Element → List A) → ((e : Element) → f e ≡ g e) → (es : List Element) → each f es ≡ each g es
unfolding each
each_same f g h [] = refl
each_same f g h (e ∷ es) = ap₂ (λ (x y : List _). x ++ y) (h e) (each_same f g h es)

module _ (a : List ℕ) where
  pub old-source : in_run a legacy ≡ (side_a a).legacy
  unfolding side_a takes
  old-source = each_same (takes legacy) attributes_of (λ e. refl) (elements 1 0 a)

  pub live-source : (w : Which) → in_run a (live w) ≡ of_live (selects w) (side_a a)
  unfolding takes
  live-source w = each_same (takes (live w)) (selected w) (λ e. refl) (elements 1 0 a) ∙ sym (live_all w a)

-- By the tests of the definitions.
module _ (s : Side) where
  pub of-general : of_live (selects General) s ≡ general_set s
  unfolding general_set selects
  of-general = refl

  pub of-naming : (n : ℕ) → of_live (selects (Naming n)) s ≡ of_live (names n) s
  unfolding selects
  of-naming n = refl

  pub of-alone : of_live (selects RsvpTeAlone) s ≡ of_live rsvp_te_alone s
  unfolding selects
  of-alone = refl

  pub of-all : of_live (selects WithoutL) s ≡ of_live (λ d. not d.L) s
  unfolding selects
  of-all = refl

-- ---- all that was done

pub record Done (a : List ℕ) (named : Names) (x : Bool) (begun own middle ended given : List (List ℕ)) (r : ℕ) : Type 0 where
  pub ok : faults run_a check_a (elements 1 0 a) ≡ accepted
  pub small : length a < 65536
  pub tells : Tells (side_a a).live named
  pub started : Started named begun own
  pub walk : Settled a own begun middle (in_set named.flagged 0)
  pub old : x ≡ has_legacy (side_a a)
  pub rsvp_te : r ≡ rsvp_te_slot named x own
  pub holds : Table a ended
  pub gets : Given middle ended (from_old middle (filled_slot named x own))
  pub gives : Gave own given (at_place named.flagged) 1

-- Attributes by another name.
filled-as : {a : List ℕ} {table : List (List ℕ)} {s : ℕ} {f g : ℕ → List Attribute} → ((c : ℕ) → f c ≡ g c) → Filled a table s f → Filled a table s g
filled-as {a} e y = record {
  is = y.is;
  cells = λ k h. y.cells k h ∙ ap (cell_in (get_or grid_codes k 0)) (e (get_or grid_codes k 0));
  stands = λ c. subst (All (Stands a)) (e c) (y.stands c);
}

-- Where RSVP-TE's slot is, and which one is filled up: legacy's; the general set's, and none is; or its own, since those that name it come first.
data Slot (named : Names) (x : Bool) (own : List (List ℕ)) (filled r : ℕ) : Type 0 where
  old : filled ≡ 1 → r ≡ 1 → ((k : ℕ) (s : Side) → taken_by (rule_by named x) k s ≡ s.legacy) → Slot named x own filled r
  bare : filled ≡ 1 → r ≡ 0 → ((k : ℕ) (s : Side) → taken_by (rule_by named x) k s ≡ general_set s) → Slot named x own filled r
  first-own : filled ≡ slot_at own 7 → r ≡ slot_at own 7 → in_set named.named 0 ≡ true
      → ((k : ℕ) (s : Side) → taken_by (rule_by named x) k s ≡ cond (empty (value_of k (of_live (names 0) s))) s.legacy (of_live (names 0) s))
      → Slot named x own filled r

slot_is : (named : Names) (x : Bool) (own : List (List ℕ)) (r : ℕ) → r ≡ rsvp_te_slot named x own → Slot named x own (filled_slot named x own) r
unfolding rsvp_te_rule taken_by
slot_is named x own r e = go (in_set named.flagged 0) refl (in_set named.named 0) refl x refl
  where
    -- by whether it is named with L and named, and whether legacy has a value
    rule : Bool → Bool → Bool → Rule
    rule l n y = cond l ByL (cond n NamingFirst (cond y Legacy Ru.General))

    go : (l : Bool) → in_set named.flagged 0 ≡ l → (n : Bool) → in_set named.named 0 ≡ n → (y : Bool) → x ≡ y
        → Slot named x own (filled_slot named x own) r
    go true i n j y h = old (ap (λ (q : Rule). filled_by q (slot_at own 7)) is) (e ∙ ap (λ (q : Rule). slot_by q (slot_at own 7)) is) (λ k s. ap (λ (q : Rule). taken_by q k s) is)
      where
        is : rule (in_set named.flagged 0) (in_set named.named 0) x ≡ ByL
        is = rw i
    go false i true j y h =
        first-own (ap (λ (q : Rule). filled_by q (slot_at own 7)) is) (e ∙ ap (λ (q : Rule). slot_by q (slot_at own 7)) is) j (λ k s. ap (λ (q : Rule). taken_by q k s) is)
      where
        is : rule (in_set named.flagged 0) (in_set named.named 0) x ≡ NamingFirst
        is = rw (i, j)
    go false i false j true h = old (ap (λ (q : Rule). filled_by q (slot_at own 7)) is) (e ∙ ap (λ (q : Rule). slot_by q (slot_at own 7)) is) (λ k s. ap (λ (q : Rule). taken_by q k s) is)
      where
        is : rule (in_set named.flagged 0) (in_set named.named 0) x ≡ Legacy
        is = rw (i, j, h)
    go false i false j false h = bare (ap (λ (q : Rule). filled_by q (slot_at own 7)) is) (e ∙ ap (λ (q : Rule). slot_by q (slot_at own 7)) is) (λ k s. ap (λ (q : Rule). taken_by q k s) is)
      where
        is : rule (in_set named.flagged 0) (in_set named.named 0) x ≡ Ru.General
        is = rw (i, j, h)

zero-place : turned_place 0 ≡ 7
unfolding turned_place
zero-place = refl

module _ {a : List ℕ} {m : Names} {x : Bool} {begun own middle ended given : List (List ℕ)} {r : ℕ} (d : Done a m x begun own middle ended given r) where
  abbrev side : Side
  side = side_a a

  abbrev l : Bool
  l = in_set m.flagged 0

  -- Whether application n is named.
  abbrev is_named : ℕ → Bool
  is_named n = in_set m.named n

  abbrev slot : ℕ → ℕ
  slot n = slot_at own (turned_place n)

  abbrev walked : List (List ℕ)
  walked = d.walk.walked

  middle-is : middle ≡ set walked 2 (settled (get_or walked 2 []) l)
  middle-is = d.walk.settles

  middle-long : length middle ≡ length walked
  middle-long = ap length middle-is ∙ length-set walked 2 _

  long : length ended ≡ length begun
  long = d.gets.same ∙ middle-long ∙ d.walk.same

  -- the slot that is filled up
  abbrev filled : ℕ
  filled = filled_slot m x own

  where-is : Slot m x own filled r
  where-is = slot_is m x own r d.rsvp_te

  -- It is no slot below 3 but legacy's, and no other application's.
  r-low : (s : ℕ) → s < 3 → (s ≡ 1 → ⊥) → s ≡ filled → ⊥
  r-low s h n e = go where-is
    where
      go : Slot m x own filled r → ⊥
      go (old i z f) = n (e ∙ i)
      go (bare i z f) = n (e ∙ i)
      go (first-own i z j f) = omega (arith, (d.started.slots 0 (omega arith) j).0, ap (slot_at own) zero-place)

  r-inside : IsSet ended filled
  r-inside = go where-is
    where
      go : Slot m x own filled r → IsSet ended filled
      go (old i z f) = record { inside = omega (arith, long, d.started.three); other = λ z. omega arith }
      go (bare i z f) = record { inside = omega (arith, long, d.started.three); other = λ z. omega arith }
      go (first-own i z j f) =
          let s = d.started.slots 0 (omega arith) j in
          record { inside = omega (arith, long, s.1, ap (slot_at own) zero-place); other = λ z. omega (arith, s.0, ap (slot_at own) zero-place) }

  r-other : (n : ℕ) → 0 < n → n < 128 → is_named n ≡ true → slot n ≡ filled → ⊥
  r-other n p h e i = go where-is
    where
      go : Slot m x own filled r → ⊥
      go (old j z f) = omega (arith, (d.started.slots n h e).0)
      go (bare j z f) = omega (arith, (d.started.slots n h e).0)
      go (first-own j z k f) = omega (arith, d.started.apart n 0 h (omega arith) e k (i ∙ j ∙ sym (ap (slot_at own) zero-place)))

  -- ---- the cells of the slots

  middle-cell : (s k : ℕ) → (s ≡ 2 → ⊥) → cell middle s k ≡ cell walked s k
  middle-cell s k n = ap (λ (table : List (List ℕ)). cell table s k) middle-is
      ∙ ap (λ (row : List ℕ). get_or row k 0) (get_or-set_other walked 2 s (settled (get_or walked 2 []) l) [] n)

  end-cell : (s k : ℕ) → IsSet ended s → k < 10 → cell ended s k ≡ first (cell walked s k) (cond (eqb s filled) (cell walked 1 k) 0)
  end-cell s k i h =
      d.gets.cells s k (let b = i.inside in omega (arith, d.gets.same)) h
      ∙ ap₂ (λ (x y : ℕ). first x (cond (eqb s filled) y 0)) (middle-cell s k i.other) (middle-cell 1 k (λ z. omega arith))

  kept-cell : (s k : ℕ) → IsSet ended s → k < 10 → (s ≡ filled → ⊥) → cell ended s k ≡ cell walked s k
  kept-cell s k i h n = end-cell s k i h ∙ ap (λ (b : Bool). first (cell walked s k) (cond b (cell walked 1 k) 0)) (ne_eqb s filled n)
      ∙ first-none (cell walked s k) 0 0

  all_live : (w : Which) → All (Stands a) (of_live (selects w) side)
  all_live = live-stands a d.ok

  all_old : All (Stands a) side.legacy
  all_old = legacy-stands a d.ok

  low-set : (s : ℕ) → s < 2 → IsSet ended s
  low-set s h = record { inside = omega (arith, long, d.started.three); other = λ z. omega arith }

  filled-general : Filled a ended 0 (λ c. general_set side)
  filled-general = record {
    is = low-set 0 (omega arith);
    cells = λ k h.
        kept-cell 0 k (low-set 0 (omega arith)) h (r-low 0 (omega arith) (λ z. omega arith))
        ∙ d.walk.walk.cells (I.general k) h ∙ ap (cell_in (get_or grid_codes k 0)) (live-source a General ∙ of-general side);
    stands = λ c. subst (All (Stands a)) (of-general side) (all_live General);
  }

  old-cell : (k : ℕ) → k < 10 → cell walked 1 k ≡ cell_in (get_or grid_codes k 0) side.legacy
  old-cell k h = d.walk.walk.cells (I.old k) h ∙ ap (cell_in (get_or grid_codes k 0)) (old-source a)

  filled-old : Filled a ended 1 (λ c. side.legacy)
  filled-old = record {
    is = low-set 1 (omega arith);
    cells = λ k h. end-cell 1 k (low-set 1 (omega arith)) h ∙ twice (eqb 1 filled) (cell walked 1 k) ∙ old-cell k h;
    stands = λ c. all_old;
  }
    where
      twice : (b : Bool) (x : ℕ) → first x (cond b x 0) ≡ x
      twice true x = first-again x
      twice false x = first-none x 0 0

  own-set : (n : ℕ) → n < 128 → is_named n ≡ true → IsSet ended (slot n)
  own-set n h e = let s = d.started.slots n h e in record { inside = omega (arith, long, s.1); other = λ z. omega (arith, s.0) }

  own-cell : (n : ℕ) → n < 128 → is_named n ≡ true → (k : ℕ) → k < 10 → cell walked (slot n) k ≡ cell_in (get_or grid_codes k 0) (of_live (names n) side)
  own-cell n h e k g =
      d.walk.walk.cells (I.own n k) (h, le-leb 3 (slot n) (d.started.slots n h e).0, g)
      ∙ ap (cell_in (get_or grid_codes k 0)) (live-source a (Naming n) ∙ of-naming side n)

  all-naming : (n : ℕ) → All (Stands a) (of_live (names n) side)
  all-naming n = subst (All (Stands a)) (of-naming side n) (all_live (Naming n))

  filled-own : (n : ℕ) → n < 128 → is_named n ≡ true → (slot n ≡ filled → ⊥) → Filled a ended (slot n) (λ c. of_live (names n) side)
  filled-own n h e i = record { is = own-set n h e; cells = λ k g. kept-cell (slot n) k (own-set n h e) g i ∙ own-cell n h e k g; stands = λ c. all-naming n }

  -- RSVP-TE's: those that name it, and legacy's where they have none.
  filled-first : filled ≡ slot_at own 7 → is_named 0 ≡ true
      → Filled a ended filled (λ c. cond (empty (value_of c (of_live (names 0) side))) side.legacy (of_live (names 0) side))
  filled-first i j = record {
    is = r-inside;
    cells = λ k h.
        end-cell filled k r-inside h
        ∙ ap (λ (b : Bool). first (cell walked filled k) (cond b (cell walked 1 k) 0)) (eq-eqb filled filled refl)
        ∙ ap₂ first (ap (λ (s : ℕ). cell walked s k) (i ∙ sym (ap (slot_at own) zero-place)) ∙ own-cell 0 (omega arith) j k h) (old-cell k h)
        ∙ both k h;
    stands = λ c. pick (empty (value_of c (of_live (names 0) side)));
  }
    where
      both : (k : ℕ) → k < 10 → first (cell_in (get_or grid_codes k 0) (of_live (names 0) side)) (cell_in (get_or grid_codes k 0) side.legacy)
          ≡ cell_in (get_or grid_codes k 0) (cond (empty (value_of (get_or grid_codes k 0) (of_live (names 0) side))) side.legacy (of_live (names 0) side))
      both k h = go (eqb (cell_in (get_or grid_codes k 0) (of_live (names 0) side)) 0) refl
        where
          is-empty : empty (value_of (get_or grid_codes k 0) (of_live (names 0) side)) ≡ eqb (cell_in (get_or grid_codes k 0) (of_live (names 0) side)) 0
          is-empty = cell-empty a (get_or grid_codes k 0) (of_live (names 0) side) (all-naming 0) (grid-code k h)

          go : (b : Bool) → eqb (cell_in (get_or grid_codes k 0) (of_live (names 0) side)) 0 ≡ b
              → first (cell_in (get_or grid_codes k 0) (of_live (names 0) side)) (cell_in (get_or grid_codes k 0) side.legacy)
              ≡ cell_in (get_or grid_codes k 0) (cond (empty (value_of (get_or grid_codes k 0) (of_live (names 0) side))) side.legacy (of_live (names 0) side))
          go true e = first-free _ _ 0 (eqb-true _ 0 e)
              ∙ sym (ap (λ (b : Bool). cell_in (get_or grid_codes k 0) (cond b side.legacy (of_live (names 0) side))) (is-empty ∙ e))
          go false e = first_taken _ _ 0 (eqb-false _ 0 e)
              ∙ sym (ap (λ (b : Bool). cell_in (get_or grid_codes k 0) (cond b side.legacy (of_live (names 0) side))) (is-empty ∙ e))

      pick : (b : Bool) → All (Stands a) (cond b side.legacy (of_live (names 0) side))
      pick true = all_old
      pick false = all-naming 0

  by-rule : (k : ℕ) → taken_by (rule_by m x) k side ≡ rsvp_te_kind k side
  by-rule k =
      ap₂ (λ (y z : Bool). taken_by (rsvp_te_rule y z x) k side) (side-flagged side m d.tells 0) (side-named side m d.tells 0)
      ∙ ap (λ (z : Bool). taken_by (rsvp_te_rule (named_with_l 0 side) (named 0 side) z) k side) d.old
      ∙ rsvp-te-taken k side

  filled-rsvp-te : Filled a ended r (λ c. rsvp_te_kind c side)
  filled-rsvp-te = go where-is
    where
      at : (s : ℕ) → r ≡ s → Filled a ended s (λ c. rsvp_te_kind c side) → Filled a ended r (λ c. rsvp_te_kind c side)
      at s i y = subst (λ (t : ℕ). Filled a ended t (λ c. rsvp_te_kind c side)) (sym i) y

      go : Slot m x own filled r → Filled a ended r (λ c. rsvp_te_kind c side)
      go (old i z f) = at 1 z (filled-as (λ c. sym (f c side) ∙ by-rule c) filled-old)
      go (bare i z f) = at 0 z (filled-as (λ c. sym (f c side) ∙ by-rule c) filled-general)
      go (first-own i z j f) = at filled (z ∙ sym i) (filled-as (λ c. sym (f c side) ∙ by-rule c) (filled-first i j))

  -- What is filled up is legacy's, or RSVP-TE's own.
  filled-up : (f : ℕ → List Attribute) × Filled a ended filled f
  filled-up = go where-is
    where
      go : Slot m x own filled r → (f : ℕ → List Attribute) × Filled a ended filled f
      go (old i z f) = ((λ c. side.legacy), subst (λ (t : ℕ). Filled a ended t (λ c. side.legacy)) (sym i) filled-old)
      go (bare i z f) = ((λ c. side.legacy), subst (λ (t : ℕ). Filled a ended t (λ c. side.legacy)) (sym i) filled-old)
      go (first-own i z j f) = ((λ c. cond (empty (value_of c (of_live (names 0) side))) side.legacy (of_live (names 0) side)), filled-first i j)

  -- ---- every slot is somebody's

  any-slot : (s : ℕ) → IsSet ended s → (f : ℕ → List Attribute) × Filled a ended s f
  any-slot s i = go (eqb s filled) refl
    where
      of-named : (n : ℕ) → n < 128 → is_named n ≡ true → slot n ≡ s → (s ≡ filled → ⊥) → (f : ℕ → List Attribute) × Filled a ended s f
      of-named n h e j o = ((λ c. of_live (names n) side), subst (λ (t : ℕ). Filled a ended t (λ c. of_live (names n) side)) j (filled-own n h e (λ z. o (sym j ∙ z))))

      low : (t : ℕ) → s ≡ t → t < 3 → (f : ℕ → List Attribute) × Filled a ended s f
      low zero e h = ((λ c. general_set side), subst (λ (t : ℕ). Filled a ended t (λ c. general_set side)) (sym e) filled-general)
      low (suc zero) e h = ((λ c. side.legacy), subst (λ (t : ℕ). Filled a ended t (λ c. side.legacy)) (sym e) filled-old)
      low (suc (suc t)) e h = absurd (i.other (omega arith))

      high : (b : Bool) → ltb s 3 ≡ b → (s ≡ filled → ⊥) → (f : ℕ → List Attribute) × Filled a ended s f
      high true e o = low s refl (ltb-true s 3 e)
      high false e o = let t = d.started.taken s (ltb-false s 3 e) (let b = i.inside in omega (arith, long)) in of-named t.0 t.1 t.2 t.3 o

      go : (b : Bool) → eqb s filled ≡ b → (f : ℕ → List Attribute) × Filled a ended s f
      go true e = (filled-up.0, subst (λ (t : ℕ). Filled a ended t filled-up.0) (sym (eqb-true s filled e)) filled-up.1)
      go false e = high (ltb s 3) refl (eqb-false s filled e)

  -- ---- the link's bandwidths

  abbrev row : List ℕ
  row = get_or walked 2 []

  two-inside : 2 < length walked
  two-inside = omega (arith, d.walk.same, d.started.three)

  twelve : length row ≡ 12
  twelve = (d.walk.walk.holds.rows 2 two-inside).twelve

  link-cell : (k : ℕ) → k < 10 → cell ended 2 k ≡ get_or (settled row l) k 0
  link-cell k h =
      d.gets.cells 2 k (omega (arith, two-inside, middle-long)) h
      ∙ ap (λ (b : Bool). first (cell middle 2 k) (cond b (cell middle 1 k) 0)) (ne_eqb 2 filled (r-low 2 (omega arith) (λ z. omega arith)))
      ∙ first-none (cell middle 2 k) 0 0 ∙ ap (λ (table : List (List ℕ)). cell table 2 k) middle-is
      ∙ ap (λ (x : List ℕ). get_or x k 0) (get_or-set_same walked 2 (settled row l) [] two-inside)

  old-link : (k : ℕ) → k < 3 → get_or row k 0 ≡ cell_in (get_or link_codes k 0) side.legacy
  old-link k h = d.walk.walk.cells (I.bandwidth k) h ∙ ap (cell_in (get_or link_codes k 0)) (old-source a)

  maximum-link : get_or row 3 0 ≡ cell_in (get_or link_codes 0 0) (of_live (λ x. not x.L) side)
  maximum-link = d.walk.walk.cells I.maximum tt ∙ ap₂ cell_in (sym link-first) (live-source a WithoutL ∙ of-all side)

  alone-link : (k : ℕ) → k < 2 → get_or row (4 + k) 0 ≡ cell_in (get_or link_codes (1 + k) 0) (of_live rsvp_te_alone side)
  alone-link k h = d.walk.walk.cells (I.alone k) h ∙ ap (cell_in (get_or link_codes (1 + k) 0)) (live-source a RsvpTeAlone ∙ of-alone side)

  first-link : cell ended 2 0 ≡ cell_in (get_or link_codes 0 0) (bandwidth_kind (get_or link_codes 0 0) side)
  unfolding bandwidth_kind maximum_bandwidth
  first-link =
      link-cell 0 (omega arith) ∙ settled-first row twelve l ∙ ap₂ first (old-link 0 (omega arith)) maximum-link
      ∙ sym (cell-append (get_or link_codes 0 0) side.legacy (of_live (λ x. not x.L) side))
      ∙ sym (ap (λ (b : Bool). cell_in (get_or link_codes 0 0) (cond b (side.legacy ++ of_live (λ x. not x.L) side) (reservable_bandwidth side))) (ap (λ (c : ℕ). eqb c 1089) link-first))

  other-link : (k : ℕ) → k < 2 → cell ended 2 (1 + k) ≡ cond l (get_or row (1 + k) 0) (first (get_or row (4 + k) 0) (get_or row (1 + k) 0))
      → cell ended 2 (1 + k) ≡ cell_in (get_or link_codes (1 + k) 0) (bandwidth_kind (get_or link_codes (1 + k) 0) side)
  unfolding bandwidth_kind reservable_bandwidth
  other-link k h e =
      e ∙ by-l l ∙ ap (λ (b : Bool). cell_in c (cond b side.legacy (of_live rsvp_te_alone side ++ side.legacy))) (side-flagged side m d.tells 0)
      ∙ sym (ap (λ (b : Bool). cell_in c (cond b (maximum_bandwidth side) (cond (named_with_l 0 side) side.legacy (of_live rsvp_te_alone side ++ side.legacy)))) not-maximum)
    where
      c : ℕ
      c = get_or link_codes (1 + k) 0

      not-maximum : eqb (get_or link_codes (1 + k) 0) 1089 ≡ false
      not-maximum = ap (eqb (get_or link_codes (1 + k) 0)) (sym link-first) ∙ link-same (1 + k) 0 (omega arith) (omega arith) ∙ ne_eqb (1 + k) 0 (λ z. omega arith)

      by-l : (b : Bool)
          → cond b (get_or row (1 + k) 0) (first (get_or row (4 + k) 0) (get_or row (1 + k) 0)) ≡ cell_in (get_or link_codes (1 + k) 0) (cond b side.legacy (of_live rsvp_te_alone side ++ side.legacy))
      by-l true = old-link (1 + k) (omega arith)
      by-l false = ap₂ first (alone-link k h) (old-link (1 + k) (omega arith))
          ∙ sym (cell-append (get_or link_codes (1 + k) 0) (of_live rsvp_te_alone side) side.legacy)

  link-cells : (k : ℕ) → k < 3 → cell ended 2 k ≡ cell_in (get_or link_codes k 0) (bandwidth_kind (get_or link_codes k 0) side)
  link-cells zero h = first-link
  link-cells (suc zero) h = other-link 0 (omega arith) (link-cell 1 (omega arith) ∙ settled-second row twelve l)
  link-cells (suc (suc zero)) h = other-link 1 (omega arith) (link-cell 2 (omega arith) ∙ settled-third row twelve l)
  link-cells (suc (suc (suc k))) h = absurd (omega arith)

  link-stands : (c : ℕ) → All (Stands a) (bandwidth_kind c side)
  unfolding bandwidth_kind maximum_bandwidth reservable_bandwidth
  link-stands c = go (eqb c 1089) (named_with_l 0 side)
    where
      go : (b x : Bool)
          → All (Stands a) (cond b (side.legacy ++ of_live (λ x. not x.L) side) (cond x side.legacy (of_live rsvp_te_alone side ++ side.legacy)))
      go true x = all_append (Stands a) side.legacy _ all_old (subst (All (Stands a)) (of-all side) (all_live WithoutL))
      go false true = all_old
      go false false = all_append (Stands a) (of_live rsvp_te_alone side) _ (subst (All (Stands a)) (of-alone side) (all_live RsvpTeAlone)) all_old

  -- ---- the slot of an application

  given-slot : (n : ℕ) → n < 128 → slot_of given n ≡ cond (named_with_l n side) 1 (slot n)
  unfolding slot_of
  given-slot n h =
      d.gives.slots (turned_place n) (place-low n h)
      ∙ ap (λ (b : Bool). cond b 1 (slot n)) (place_set m.flagged n ∙ side-flagged side m d.tells n)

  few-slots : (n : ℕ) → n < 128 → slot_of given n < 256
  few-slots n h = subst (λ (s : ℕ). s < 256) (sym (given-slot n h)) (go (named_with_l n side) (is_named n) refl)
    where
      go : (x y : Bool) → is_named n ≡ y → cond x 1 (slot n) < 256
      go true y e = omega arith
      go false true e = omega (arith, (d.started.slots n h e).1, d.started.most)
      go false false e = omega (arith, d.started.others n h e)

  -- W2, W3, W4. With L legacy's slot, else its own where it is named, else the general set's.
  application-holds : (n : ℕ) → 0 < n → n < 128 → Holds a ended (slot_of given n) (λ c. application_set n side)
  unfolding application_set
  application-holds n p h =
      subst (λ (s : ℕ). Holds a ended s (λ c. application_set n side)) (sym (given-slot n h))
      (go (named_with_l n side) refl (named n side) refl)
    where
      go : (x : Bool) → named_with_l n side ≡ x → (y : Bool) → named n side ≡ y
          → Holds a ended (cond x 1 (slot n)) (λ c. cond x side.legacy (cond y (of_live (names n) side) (general_set side)))
      go true e y f = filled-holds d.small filled-old
      go false e true f = let i = side-named side m d.tells n ∙ f in filled-holds d.small (filled-own n h i (λ z. r-other n p h i z))
      go false e false f = subst (λ (s : ℕ). Holds a ended s (λ c. general_set side)) (sym (d.started.others n h (side-named side m d.tells n ∙ f))) (filled-holds d.small filled-general)

  pub indexed : Indexed a ended given r
  indexed = record {
    slots = slots-of a ended d.holds (λ s t k i j. filled-alike d.small (any-slot s i).1 (any-slot t j).1 k);
    owned = d.gives.owned;
    few = few-slots;
    unclassed = λ p h. d.gives.classes p h ∙ d.started.unclassed p h;
    application = application-holds;
    general = filled-holds d.small filled-general;
    rsvp_te = filled-holds d.small filled-rsvp-te;
    link = (omega (arith, long, d.started.three), link-values a d.small ended (λ c. bandwidth_kind c side) link-stands link-cells);
  }
