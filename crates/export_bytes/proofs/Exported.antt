-- The bytes that are written from the tables of a meaning are its export, and what is then answered. Assumes nothing.
use mathlib.Core.Path.{◌≡◌, sym, ◌∙◌, ap, ap₂}
use mathlib.Core.Bool.{Bool, true, false, cond}
use mathlib.Core.List.{List, [], ◌++◌, map, append-nil}
use Prim.Native.Nat.{ℕ, suc, ◌-◌, ◌≤◌, ◌<◌}
use native.Mathlib.Omega.{arith}
use borrow.Author.Tests.{lt-ltb, le-ltb}
use lib.Dec.{eqb}
use lib.ListN.{length, get_or, take, drop}
use Rattle.linkstate.specs.Lists.{all, each, numbers, empty, put}
use Rattle.linkstate.specs.Kinds.{codes, application_codes}
use Rattle.linkstate.specs.Meaning.{Meaning, row}
use Rattle.linkstate.specs.Replies as R
use Rattle.linkstate.specs.Replies.{run_a, refusal_at, fault, fault_of_call, refused_if, ◌then◌, unless}
use Rattle.linkstate.specs.Questions.{write}
use Rattle.linkstate.specs.Export.{tlv, bytes_of, present, top_value, asla_value, general_values, leaders, group_value, asla_values, tlvs, export}
use Rattle.linkstate.proofs.ListLaws.{each_append, map-append}
use Rattle.linkstate.proofs.Computing.{computing}
use Rattle.replies.specs.Told.{told_refusal, told_exported}
use Rattle.replies.specs.declared.Refusal.{Refusal}
use Rattle.std.specs.Prelude.{Ok, Err}
use Rattle.masks.specs.Applications.{in_set}
use Rattle.masks.proofs.Sets.{place_none, set-none}
use Rattle.tlv_bytes.specs.Tlvs.{in_tlvs}
use Rattle.tlv_bytes.proofs.Laws.{empty-is, tlvs-same}
use Rattle.set_bytes.specs.Standing.{numbers_in}
use Rattle.set_bytes.specs.Sets.{low_codes, high_codes}
use Rattle.set_groups.specs.Groups.{Group, group_tlv}
use Rattle.set_groups.specs.Table.{word, slot_in, class_in, entry_group, table_groups}
use Rattle.set_groups.proofs.Tlvs.{each_map, each-ext, asla-same, asla-row, tlv-is, groups-are}
use Rattle.export_bytes.specs.Sizes.{asla_of, set_size, first_entry}
use Rattle.export_bytes.specs.Whole.{slot_set, asla_tlv, entry_tlv, asla_tlvs, top_set, whole_bytes, Tables, Entered, answered}
use Rattle.export_bytes.specs.Describes.{Describes}
use Rattle.export_bytes.proofs.Laws.{set-size}

-- ---- the TLVs of equal values

low_same : (f g : ℕ → List ℕ) → map f codes ≡ map g codes → map f low_codes ≡ map g low_codes
unfolding computing
low_same f g e = ap (take 13) e

high_same : (f g : ℕ → List ℕ) → map f codes ≡ map g codes → map f high_codes ≡ map g high_codes
unfolding computing
high_same f g e = ap (drop 13) e

-- ---- the ASLA TLVs

module _ {m : Meaning} {run : List ℕ} {sets : List (List ℕ)} {values : List ℕ} {rows classes groups : List (List ℕ)} (ok : Tables run sets values rows classes)
    (entered : Entered sets classes groups) {s c : ℕ} (d : Describes m run sets (numbers_in values rows classes) groups s c) where
  abbrev srlgs : ℕ → List ℕ
  srlgs = numbers_in values rows classes

  abbrev general_set : ℕ → List ℕ
  general_set = slot_set run sets srlgs (slot_in (word groups 0)) (class_in (word groups 0))

  abbrev general_size : ℕ
  general_size = set_size sets classes (slot_in (word groups 0)) (class_in (word groups 0))

  abbrev generals : List ℕ
  generals = each bytes_of (map (tlv 1122) (general_values m))

  abbrev named : List ℕ
  named = each bytes_of (map (tlv 1122) (map (group_value m) (leaders m)))

  -- Entry 0 is the general set, which is empty where its size is 0.
  general-empty : eqb general_size 0 ≡ all empty (row m.general)
  unfolding row
  general-empty =
      ap (λ (k : ℕ). eqb k 0) (set-size ok _ _ (entered.slot 0 entered.some) (entered.class 0 entered.some))
      ∙ empty-is general_set application_codes ∙ ap (all empty) d.general

  general-tlv : entry_tlv run sets srlgs groups 0 ≡ bytes_of (tlv 1122 (asla_value (λ n. false) m.general))
  unfolding asla_tlv
  general-tlv =
      let p = in_set (asla_of (get_or groups 0 [])).members in
      ap (λ (v : List ℕ). bytes_of (tlv 1122 v)) (asla-row p general_set m.general d.general
      ∙ asla-same p (λ n. false) m.general (λ n h. set-none _ (place_none _ d.nobody.0 d.nobody.1) n))

  -- The entries behind it are the groups.
  named-are : asla_tlvs run sets srlgs groups 1 (length groups - 1) ≡ named
  unfolding table_groups entry_group asla_tlv
  named-are =
      let ks = numbers 1 (length groups - 1) in
      let of : ℕ → Group = λ i. entry_group run sets srlgs (get_or groups i []) in
      sym (each_map group_tlv of ks ∙ each-ext (λ i. group_tlv (of i)) (entry_tlv run sets srlgs groups) ks
      (λ i. tlv-is (slot_set run sets srlgs (slot_in (word groups i)) (class_in (word groups i))) _ _))
      ∙ ap (each group_tlv) d.members ∙ groups-are m d.low

  aslas-are : (first : ℕ) → first ≡ first_entry sets classes groups → asla_tlvs run sets srlgs groups first (length groups - first) ≡ generals ++ named
  unfolding first_entry general_values each numbers
  aslas-are first is = go (eqb general_size 0) general-empty is
    where
      go : (b : Bool) → b ≡ all empty (row m.general) → first ≡ cond b 1 0 → asla_tlvs run sets srlgs groups first (length groups - first) ≡ generals ++ named
      go true e z = rw (z, sym e) named-are
      go false e z =
          let n : length groups - 0 ≡ suc (length groups - 1) = omega (arith, entered.some) in
          rw (z, sym e, n) (ap₂ (λ (x y : List ℕ). x ++ y) (general-tlv ∙ sym (append-nil (bytes_of (tlv 1122 (asla_value (λ k. false) m.general)))))
          named-are)

-- ---- the export

-- The export by its parts.
export-parts : (m : Meaning)
    → export m ≡ in_tlvs (top_value m) low_codes ++ (each bytes_of (map (tlv 1122) (general_values m)) ++ each bytes_of (map (tlv 1122) (map (group_value m) (leaders m)))) ++ in_tlvs (top_value m) high_codes
unfolding export tlvs asla_values
export-parts m =
    let gs = general_values m in
    let ls = map (group_value m) (leaders m) in
    let low = present low_codes (top_value m) in
    each_append bytes_of (low ++ map (tlv 1122) (gs ++ ls)) (present high_codes (top_value m))
    ∙ ap (λ (l : List ℕ). l ++ in_tlvs (top_value m) high_codes)
    (each_append bytes_of low (map (tlv 1122) (gs ++ ls))
    ∙ ap (λ (l : List ℕ). in_tlvs (top_value m) low_codes ++ l) (ap (each bytes_of) (map-append (tlv 1122) gs ls)
    ∙ each_append bytes_of (map (tlv 1122) gs) (map (tlv 1122) ls)))

pub whole-export : {m : Meaning} {run : List ℕ} {sets : List (List ℕ)} {values : List ℕ} {rows classes groups : List (List ℕ)}
    → Tables run sets values rows classes → Entered sets classes groups
    → {s c : ℕ} → Describes m run sets (numbers_in values rows classes) groups s c → (first : ℕ) → first ≡ first_entry sets classes groups
    → whole_bytes run sets (numbers_in values rows classes) groups first s c ≡ export m
unfolding whole_bytes
whole-export {m} {run} {sets} {values} {rows} {classes} {groups} ok entered {s} {c} d first is =
    let top = top_set run sets (numbers_in values rows classes) s c in
    let low = tlvs-same top (top_value m) low_codes (low_same top (top_value m) d.top) in
    let high = tlvs-same top (top_value m) high_codes (high_same top (top_value m) d.top) in
    ap₂ (λ (y z : List ℕ). y ++ z) (ap₂ (λ (y z : List ℕ). y ++ z) low (aslas-are ok entered d first is)) high ∙ sym (export-parts m)

-- ---- the answer, over bytes that are the export

module _ {result whole : List ℕ} (is : whole ≡ result) (buffer : List ℕ) (measuring : Bool) (n : ℕ) (size : n ≡ length whole) where
  pub measured : measuring ≡ true → told_exported (Ok n) buffer ≡ answered measuring result buffer
  unfolding answered
  measured e = rw (e, size, is)

  pub too_short : measuring ≡ false → (x : Refusal) → told_refusal x ≡ refusal_at 5 run_a 0 → length buffer < n
      → told_exported (Err x) buffer ≡ answered measuring result buffer
  unfolding answered write unless ◌then◌ refused_if fault_of_call fault
  too_short e x f h =
      rw (e, lt-ltb (length buffer) (length result) (omega (arith, ap length is)))
      (ap (λ (y : R.Refusal). record { reply = R.export_refused y; buffer = buffer }) f)

  pub written : measuring ≡ false → n ≤ length buffer → {k : ℕ} {after : List ℕ} → k ≡ length whole → after ≡ put buffer 0 whole
      → told_exported (Ok k) after ≡ answered measuring result buffer
  unfolding answered write unless ◌then◌ refused_if
  written e h f g = rw (e, le-ltb (length buffer) (length result) (omega (arith, ap length is)), f, g, is)
