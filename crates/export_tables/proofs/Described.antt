-- Tables of sets, classes and groups that resolve a meaning describe it, and an export can be written from them. Assumes nothing.
use mathlib.Core.Path.{◌≡◌, sym, ap, ap₂, ◌∙◌, subst}
use mathlib.Core.Bool.{Bool}
use mathlib.Core.List.{List, [], ◌∷◌, map}
use Prim.Native.Nat.{ℕ, zero, suc, ◌*◌, ◌≤◌, ◌<◌}
use native.Mathlib.Omega.{arith}
use lib.ListN.{length, get_or, set, take, length-set}
use lib.Seq.{length-take-le}
use Rattle.linkstate.specs.Kinds.{codes}
use Rattle.linkstate.specs.Attributes.{srlgs}
use Rattle.linkstate.specs.Meaning.{Meaning, row}
use Rattle.linkstate.specs.Sides.{Side, general_set, application_set, rsvp_te_kind}
use Rattle.masks.specs.Sets.{turned_place}
use Rattle.srlg_sources.specs.Classes.{class_of}
use Rattle.set_bytes.specs.Standing.{numbers_in}
use Rattle.srlg_classes.specs.declared.Classes.{Classes}
use Rattle.srlg_classes.specs.Owned.{slot_at, Slots}
use Rattle.srlg_classes.specs.Sided.{Has, Classified}
use Rattle.grids.specs.Grids.{set_of, top_of}
use Rattle.grids.specs.Slots.{slot_grid, link_rows, IsSet, slot_of}
use Rattle.set_groups.specs.Table.{word, slot_in, class_in, table_groups, Named, Placed, Gives, Filled}
use Rattle.export_bytes.specs.Whole.{Tables, Entered}
use Rattle.export_bytes.specs.Describes.{Describes}
use Rattle.export_tables.specs.Resolved.{Resolves, Slotted}
use Rattle.export_tables.proofs.Fronts.{counted-length, counted-classes, counted-differ, counted_has, headed-first, headed-at, headed-groups}

-- the word of the general set: slot 0, its class, no entry before it
general-word : (g : ℕ) → g < 256 → (slot_in (256 * g) ≡ 0) × (class_in (256 * g) ≡ g)
general-word g h = (omega arith, omega arith)

module _ {run : List ℕ} {sets own owned : List (List ℕ)} {p : ℕ → Bool} {s : ℕ} {values : List ℕ} {rows classes : List (List ℕ)} {side : Side} {k : Classes}
    (slotted : Slotted run sets own p s) (kept : Slots own owned) (of : Classified values rows classes owned p side k) (few : length classes ≤ 99) where
  abbrev counted : List (List ℕ)
  counted = take k.count classes

  abbrev numbers : ℕ → List ℕ
  numbers = numbers_in values rows counted

  slot_kept : (n : ℕ) → slot_of owned n ≡ slot_of own n
  unfolding slot_of slot_at
  slot_kept n = kept.slots (turned_place n)

  class_low : (n : ℕ) → Named p n → class_of owned n < k.count
  class_low n h = (of.application n h.low h.high h.passes).low

  pub placed : Placed sets owned p
  placed =
      record {
        slot = λ n h. subst (IsSet sets) (sym (slot_kept n)) (slotted.slot n h).0;
        few = λ n h. (omega (arith, slot_kept n, (slotted.slot n h).1), omega (arith, class_low n h, of.table.room));
      }

  general : IsSet sets 0
  general = record { inside = omega (arith, slotted.link); other = λ e. omega arith }

  pub general-low : k.general < 256
  general-low = omega (arith, of.general.low, of.table.room)

  pub tables : length values ≤ 1024 → ((i : ℕ) → get_or values i 0 < 4294967296) → Tables run sets values rows counted
  tables most small = record { slots = slotted.slots; link = slotted.link; known = counted-classes values rows classes k.count of.table most small }

  has : (c : ℕ) (xs : List ℕ) → Has values rows classes k.count c xs → numbers c ≡ xs
  has c xs h = counted_has values rows classes k.count of.table c xs h

  abbrev first : List ℕ
  first = 0 ∷ 0 ∷ 256 * k.general ∷ []

  module _ {groups after : List (List ℕ)} {count : ℕ} (filled : Filled run sets owned p groups count) (is : after ≡ set groups 0 first) where
    abbrev headed : List (List ℕ)
    headed = take count after

    pub room : count ≤ length after
    room = omega (arith, ap length is, length-set groups 0 first, filled.room)

    size : length headed ≡ count
    size = length-take-le count after room

    first_entry : get_or headed 0 [] ≡ first
    first_entry = ap (λ (x : List (List ℕ)). get_or (take count x) 0 []) is ∙ headed-first groups count first filled.some filled.room

    first_word : word headed 0 ≡ 256 * k.general
    first_word = ap (λ (h : List ℕ). get_or h 2 0) first_entry

    later-word : (i : ℕ) → 1 ≤ i → i < count → word headed i ≡ word groups i
    later-word i l h = ap (λ (x : List (List ℕ)). word (take count x) i) is
        ∙ ap (λ (x : List ℕ). get_or x 2 0) (headed-at groups count first filled.some filled.room i l h)

    pub entered : Entered sets counted headed
    entered = record {
      some = omega (arith, size, filled.some);
      most = omega (arith, size, filled.most);
      slot = λ i h. slot i
          (omega (arith, size));
      class = λ i h. class i (omega (arith, size));
    }
      where
        slot : (i : ℕ) → i < count → IsSet sets (slot_in (word headed i))
        slot zero h = rw (first_word, (general-word k.general general-low).0) general
        slot (suc i) h =
            let o = filled.owned (suc i) (omega arith) h in
            rw (later-word (suc i) (omega arith) h, o.2) (placed.slot o.0 o.1)

        class : (i : ℕ) → i < count → class_in (word headed i) < length counted
        class zero h = rw (first_word, (general-word k.general general-low).1)
            (omega (arith, of.general.low, counted-length values rows classes k.count of.table))
        class (suc i) h =
            let o = filled.owned (suc i) (omega arith) h in
            rw (later-word (suc i) (omega arith) h, o.3) (omega (arith, class_low o.0 o.1, counted-length values rows classes k.count of.table))

    module _ (m : Meaning) (so : Resolves m run sets own p s side) where
      gives : Gives m run sets owned numbers p
      gives =
          record {
            only = so.only;
            named = so.named;
            set = λ n h.
                ap₂ (λ (i : ℕ) (xs : List ℕ). row (set_of run (slot_grid sets i) xs)) (slot_kept n)
                (has (class_of owned n) (srlgs (application_set n side)) (of.application n h.low h.high h.passes))
                ∙ so.set n h;
          }

      pub describes : Describes m run sets numbers headed s k.rsvp
      describes =
          record {
            top = ap (λ (xs : List ℕ). map (top_of run (link_rows sets) (slot_grid sets s) xs) codes) (has k.rsvp (srlgs (rsvp_te_kind 1096 side)) of.rsvp)
                ∙ so.top;
            general =
                ap₂ (λ (i : ℕ) (c : ℕ). row (set_of run (slot_grid sets i) (numbers c))) (ap slot_in first_word ∙ (general-word k.general general-low).0)
                (ap class_in first_word ∙ (general-word k.general general-low).1)
                ∙ ap (λ (xs : List ℕ). row (set_of run (slot_grid sets 0) xs)) (has k.general (srlgs (general_set side)) of.general)
                ∙ so.general;
            nobody = (ap (λ (h : List ℕ). get_or h 0 0) first_entry, ap (λ (h : List ℕ). get_or h 1 0) first_entry);
            low = λ n e. (so.only n e).1;
            members =
                ap (λ (x : List (List ℕ)). table_groups run sets numbers (take count x) (length (take count x))) is
                ∙ headed-groups groups count first filled.some filled.room run sets numbers
                ∙ filled.grouped numbers k.count (counted-differ values rows classes k.count of.table) class_low m gives;
          }
