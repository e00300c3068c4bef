-- What is measured is the length of the bytes that are written. Assumes nothing.
use Prim.Native.Nat.{ℕ, zero, suc, ◌+◌, ◌-◌, ◌≤◌, ◌<◌}
use mathlib.Core.Path.{◌≡◌, refl, ap}
use mathlib.Core.List.{List, [], ◌∷◌, ◌++◌}
use native.Mathlib.Omega.{arith}
use lib.ListN.{length, get_or, length-append}
use Rattle.linkstate.specs.Lists.{numbers, each}
use Rattle.linkstate.specs.Kinds.{link_codes}
use Rattle.kinds.proofs.Computing.{computing}
use Rattle.tlv_bytes.specs.Tlvs.{in_tlvs}
use Rattle.tlv_bytes.proofs.Laws.{length_three}
use Rattle.set_bytes.specs.Standing.{numbers_in}
use Rattle.grids.specs.Grids.{bandwidth_of}
use Rattle.grids.specs.Slots.{slot_grid, link_rows, cell, cell_row, IsSet}
use Rattle.set_bytes.specs.Sets.{low_codes, high_codes}
use Rattle.set_bytes.proofs.Laws.{three-codes, link-kind, link_fits, kind-size, bandwidths-are, top-length}
use Rattle.export_bytes.specs.Sizes.{asla_of, row_size, link_size, sum_from, entry_size, whole_size, Measurable}
use Rattle.export_bytes.specs.Whole.{entry_tlv, asla_tlvs, top_set, whole_bytes, Tables, Entered}
use Rattle.export_bytes.proofs.Laws.{set-size, count-few, asla-length, each_last}
use Rattle.export_bytes.proofs.Parts.{link-rows}

link-codes : (1089 ≡ get_or link_codes 0 0) × (1090 ≡ get_or link_codes 1 0) × (1091 ≡ get_or link_codes 2 0)
unfolding computing
link-codes = (refl, refl, refl)

module _ {run : List ℕ} {sets : List (List ℕ)} {values : List ℕ} {rows classes groups : List (List ℕ)} (ok : Tables run sets values rows classes)
    (entered : Entered sets classes groups) where
  abbrev srlgs : ℕ → List ℕ
  srlgs = numbers_in values rows classes

  abbrev bandwidths : ℕ → List ℕ
  bandwidths = bandwidth_of run (link_rows sets)

  pub measurable : Measurable sets classes groups
  measurable = record {
    link = ok.link;
    few = count-few ok;
    some = entered.some;
    most = entered.most;
    slot = λ i h. (entered.slot i h).inside;
    class = entered.class;
  }

  row-length : (k c : ℕ) → k < 3 → c ≡ get_or link_codes k 0 → length (in_tlvs bandwidths (c ∷ [])) ≡ row_size (cell_row (cell sets 2 k))
  unfolding row_size
  row-length k c h e =
      let l : k < length link_codes = omega (arith, three-codes) in
      kind-size run (cell_row (cell sets 2 k)) bandwidths c (link-kind run sets c k l e) (link_fits run sets k l (link-rows ok))

  link-length : link_size sets 3 ≡ length (in_tlvs bandwidths link_codes)
  unfolding link_size
  link-length =
      let a = row-length 0 1089 (omega arith) link-codes.0 in
      let b = row-length 1 1090 (omega arith) link-codes.1 in
      let c = row-length 2 1091 (omega arith) link-codes.2 in
      omega (arith, length_three (bandwidths-are run (link_rows sets)))

  aslas-length : (from n : ℕ) → from + n ≤ length groups → sum_from (entry_size sets classes groups) from n ≡ length (asla_tlvs run sets srlgs groups from n)
  unfolding sum_from each numbers
  aslas-length from zero h = refl
  aslas-length from (suc n) h =
      let f = entry_tlv run sets srlgs groups in
      let l : from + n < length groups = omega arith in
      let one = asla-length ok (asla_of (get_or groups (from + n) [])) (entered.slot (from + n) l) (entered.class (from + n) l) in
      omega (arith, aslas-length from n (omega arith), one, ap length (each_last f from n), length-append (each f (numbers from n)) (f (from + n)))

  -- The whole, with RSVP-TE's set by slot and class.
  module _ {first : ℕ} (few : first ≤ 1) {s c : ℕ} (of_s : IsSet sets s) (of_c : c < length classes) where
    pub whole_length : {n : ℕ} → n ≡ whole_size sets classes groups first s c → n ≡ length (whole_bytes run sets srlgs groups first s c)
    unfolding whole_size whole_bytes
    whole_length is =
        let low = in_tlvs (top_set run sets srlgs s c) low_codes in
        let aslas = asla_tlvs run sets srlgs groups first (length groups - first) in
        let high = in_tlvs (top_set run sets srlgs s c) high_codes in
        let some = entered.some in
        omega (
          arith,
          link-length,
          set-size ok s c of_s of_c,
          aslas-length first (length groups - first) (omega arith),
          top-length run (slot_grid sets s) (srlgs c) (link_rows sets),
          length-append (low ++ aslas) high,
          length-append low aslas,
        )
