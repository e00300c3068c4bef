-- An element of an accepted run A, taken: what it gives to each source comes to the source's cells. Assumes nothing.
use mathlib.Core.Path.{◌≡◌, refl, sym, ap, ◌∙◌, subst}
use mathlib.Core.Bool.{Bool, true, false, cond}
use mathlib.Core.List.{List, [], ◌∷◌}
use Prim.Native.Nat.{ℕ, ◌+◌, ◌-◌, ◌<◌}
use native.Mathlib.Omega.{arith}
use lib.Dec.{eqb}
use lib.ListN.{length, get_or}
use Rattle.linkstate.specs.Lists.{any, each}
use Rattle.linkstate.specs.Bytes.{bytes_at}
use Rattle.linkstate.specs.Elements.{elements}
use Rattle.linkstate.specs.Attributes.{Attribute, attribute}
use Rattle.linkstate.specs.Sides.{names}
use Rattle.isis_kinds.proofs.Computing.{computing}
use Rattle.octets.proofs.Laws.{length-bytes_at}
use Rattle.masks.specs.Sets.{turned_place}
use Rattle.masks.proofs.Steps.{turned-back}
use Rattle.isis.specs.Types.{code_of_type, wrong_in_a}
use Rattle.isis.specs.RunA.{attributes_of, asla_advertisements}
use Rattle.isis_check_a.proofs.Laws.{sub-tlv-other}
use Rattle.isis_grids.specs.declared.Which.{Which}
use Rattle.isis_grids.specs.Selected.{selected}
use Rattle.isis_grids.proofs.Aslas.{selected-other}
use Rattle.set_table.specs.Tables.{cell_of, Within}
use Rattle.masks.specs.declared.Applications.{Applications}
use Rattle.masks.specs.Applications.{at_place}
use Rattle.isis_index.specs.Index.{cell_in, Source, legacy, live, Spot, takes, source_of, code_of, owning, Valid, Adds, Right, from_legacy, heard_by_all, heard, told, attribute_at, Took, TookFor, Ready, here_in, part_of, Here, Owning, Told, ReadAs, Gains}
use Rattle.isis_index.specs.declared.Asla.{Asla}
use Rattle.isis_index.specs.declared.Asla.TheVariants.{ForAll, ForNamed}
use Rattle.std.specs.Prelude.{Option, Some, None}
use Rattle.isis_index.proofs.Cells.{cell-one, cell-none, no_code, place-low, adds-cells, adds_none, all-legacy}
use Rattle.isis_index.proofs.Heard.{heard-legacy, having-kept}
use Rattle.isis_index.proofs.Lists.{right_of}
use Rattle.isis_index.proofs.Pairs.{place_of}

-- ---- an ASLA, which is nobody's value itself

-- The attributes of a list that stands between two places.
abbrev list_in : List ℕ → ℕ → ℕ → List Attribute
list_in a from end = each attributes_of (elements 1 from (part_of a from end))

module _ {a : List ℕ} {at end : ℕ} (y : Here a at end) (asla : get_or a at 0 ≡ 16) where
  no_kind : code_of_type (get_or a at 0) ≡ 0
  unfolding computing
  no_kind = ap code_of_type asla

  itself-none : (owns : List (List ℕ)) (x : Spot) → Valid owns x → cell_in (code_of x) (attributes_of (here_in a at)) ≡ 0
  unfolding attributes_of attribute
  itself-none owns x v =
      let n = length (bytes_at a (at + 2) (get_or a (at + 1) 0)) in
      cell-one (code_of x) _ ∙ ap (λ (b : Bool). cond b (cell_of (at + 2) n) 0) (no_code owns (code_of_type (get_or a at 0)) 0 no_kind x v)

  module _ (owns table after : List (List ℕ)) where
    told_here : (h : Source → Bool) (ts : List Attribute) → h legacy ≡ false → ((w : Which) → selected w (here_in a at) ≡ told h ts (live w))
        → Adds owns table after (told h ts) → Adds owns table after (λ src. takes src (here_in a at))
    unfolding takes
    told_here h ts l g = adds-cells (λ x v. go (source_of x) x v)
      where
        go : (src : Source) (x : Spot) → Valid owns x → cell_in (code_of x) (told h ts src) ≡ cell_in (code_of x) (takes src (here_in a at))
        go legacy x v = ap (λ (b : Bool). cell_in (code_of x) (cond b ts [])) l ∙ cell-none (code_of x) ∙ sym (itself-none owns x v)
        go (live w) x v = ap (cell_in (code_of x)) (sym (g w))

  unheard : (src : Source) → told (λ src. false) [] src ≡ []
  unheard src = refl

  module _ {owns table have : List (List ℕ)} (r : Ready a owns table have) where
    pub gains-none : ((w : Which) → selected w (here_in a at) ≡ []) → Gains a owns table table have (λ src. takes src (here_in a at))
    gains-none g = record { holds = r.holds; having = r.having; adds = told_here owns table table (λ src. false) [] refl g (adds_none owns table (told (λ src. false) []) unheard) }

    module _ {from : ℕ} {after : List (List ℕ)} where
      pub gains-all : Told a at end from heard_by_all → Took a table after heard_by_all (list_in a from end)
          → Gains a owns table after have (λ src. takes src (here_in a at))
      gains-all t k = record {
        holds = k.holds;
        having = having-kept r.grounded k.kept r.having;
        adds = told_here owns table after heard_by_all (list_in a from end) all-legacy t.gives (k.adds owns r.grounded);
      }

      pub gains-named : (who : Applications) {had : List (List ℕ)} → Told a at end from (heard who)
          → TookFor a owns table have after had (heard who) (list_in a from end) → Gains a owns table after had (λ src. takes src (here_in a at))
      gains-named who t k = record {
        holds = k.holds;
        having = k.having;
        adds = told_here owns table after (heard who) (list_in a from end) (heard-legacy who) t.gives k.adds;
      }

-- What the header says, by its answer.
module _ {a : List ℕ} {at end : ℕ} (y : Here a at end) (r : Option Asla) (is : ReadAs a at end r) where
  pub read-unread : r ≡ None → (w : Which) → selected w (here_in a at) ≡ []
  read-unread e = subst (ReadAs a at end) e is

  pub read_all : (from : ℕ) → r ≡ Some (ForAll from) → Told a at end from heard_by_all
  read_all from e = subst (ReadAs a at end) e is

  pub read_named : (from : ℕ) (who : Applications) → r ≡ Some (ForNamed from who)
      → Told a at end from (heard who) × ((n : ℕ) → at_place who (turned_place n) ≡ any (names n) (asla_advertisements (here_in a at)))
  read_named from who e = subst (ReadAs a at end) e is

-- The masks of an ASLA have places with a slot only.
pub named-within : {a : List ℕ} {at end : ℕ} → Here a at end → (who : Applications) (owns : List (List ℕ))
    → ((n : ℕ) → at_place who (turned_place n) ≡ any (names n) (asla_advertisements (here_in a at)))
    → Owning owns (asla_advertisements (here_in a at)) → Within who (owning owns)
named-within y who owns is o p l e =
    let n = turned_place p in
    subst (λ (i : ℕ). owning owns i ≡ true) (turned-back p) (o n (place-low p l) (sym (is n) ∙ place_of who p ∙ e))

-- ---- a legacy attribute

module _ {a : List ℕ} {at end : ℕ} (y : Here a at end) (other : get_or a at 0 ≡ 16 → ⊥) where
  abbrev kind : ℕ
  kind = get_or a at 0

  abbrev value : List ℕ
  value = bytes_at a (at + 2) (get_or a (at + 1) 0)

  size_is : length value ≡ end - (at + 2)
  size_is = omega (arith, y.ends, length-bytes_at a (at + 2) (get_or a (at + 1) 0) (omega (arith, y.ends, y.inside)))

  pub legacy-right : get_or a (at + 1) 0 < 256 → Right a kind (at + 2) (end - (at + 2))
  legacy-right b = record {
    within = omega (arith, y.ends, y.inside);
    low = omega (arith, y.ends, y.inside, y.small);
    short = omega (arith, y.ends);
    right = ap (wrong_in_a kind) (sym size_is) ∙ right_of at kind value (sub-tlv-other at kind value other ∙ y.passed);
  }

  module _ {owns table have after : List (List ℕ)} (r : Ready a owns table have) where
    pub gains-legacy : ((v : List ℕ) → Took a table after from_legacy (attribute_at kind (at + 2) (end - (at + 2)) v ∷ []))
        → Gains a owns table after have (λ src. takes src (here_in a at))
    unfolding takes from_legacy attributes_of attribute
    gains-legacy k = record {
      holds = t.holds;
      having = having-kept r.grounded t.kept r.having;
      adds = adds-cells (λ x v. ap (cell_in (code_of x)) (go (source_of x))) (t.adds owns r.grounded);
    }
      where
        sent : List ℕ
        sent = cond (eqb kind 18) (0 ∷ value) value

        t : Took a table after from_legacy (attribute_at kind (at + 2) (end - (at + 2)) sent ∷ [])
        t = k sent

        go : (src : Source) → told from_legacy (attribute_at kind (at + 2) (end - (at + 2)) sent ∷ []) src ≡ takes src (here_in a at)
        go legacy = ap (λ (n : ℕ). attribute_at kind (at + 2) n sent ∷ []) (sym size_is)
        go (live w) = sym (selected-other w at kind value other)
