-- Laws of the TLVs of a set, piece by piece: of one kind by its row, of kinds in turn, and of three pieces with the SRLGs of a class among them. Assumes nothing.
use Rattle.std.specs.Prelude.{Some, None}
use Prim.Native.Nat.{ℕ, zero, suc, ◌+◌, ◌-◌, ◌≤◌, ◌<◌}
use mathlib.Core.Path.{◌≡◌, refl, sym, ◌∙◌, ap, ap₂}
use mathlib.Core.Bool.{Bool, true, false, cond}
use mathlib.Core.List.{List, [], ◌∷◌, ◌++◌, map}
use native.Mathlib.Omega.{arith}
use lib.Dec.{eqb}
use lib.ListN.{length, get_or, take, drop, length-append, take-append-drop}
use Rattle.linkstate.specs.Kinds.{link_codes, application_codes}
use Rattle.linkstate.specs.Export.{tlv, bytes_of}
use Rattle.kinds.specs.declared.Kind.{Kind}
use Rattle.kinds.specs.declared.Kind.TheVariants.{Link, Application}
use Rattle.kinds.specs.declared.Rule.{Rule}
use Rattle.kinds.specs.Rules.{grid_codes, rule_of_code, row_in}
use Rattle.kinds.proofs.Computing.{computing}
use Rattle.tlv_bytes.specs.Tlvs.{in_tlvs, value_at, value_size, Wrote}
use Rattle.tlv_bytes.proofs.Laws.{tlvs-none, tlvs-append, tlv-absent, tlv-present, tlvs-same, in_three, length-value, size-value, no_write, same_write, behind-room, behind-write, Three, length_three, first-room, third-room}
use Rattle.grids.specs.Grids.{row_value, grid_value, set_of, bandwidth_of, top_of, RowFits, Fits, row_read}
use Rattle.grids.specs.Slots.{row_grid, link_rows, cell, cell_row}
use Rattle.octets.specs.declared.Span.{Span}
use Rattle.grids.proofs.Laws.{row_is, row-present, row-absent, ten, grid-at, row-numbers, row_at}
use Rattle.set_bytes.specs.Standing.{srlg_tlv, Standing}
use Rattle.set_bytes.proofs.SrlgLaws.{standing_on}
use Rattle.set_bytes.specs.Sets.{low_codes, high_codes, extended_codes, middle_codes, Among}

-- ---- what the classifier tells of a code

abbrev Tells : Kind → ℕ → Type 0
Tells kind c = ((rule_of_code c).kind ≡ kind) × ((rule_of_code c).code ≡ c)

grid-rule : (k : ℕ) → k < 10 → Tells (Application k) (get_or grid_codes k 0)
unfolding computing
grid-rule zero h = (refl, refl)
grid-rule (suc zero) h = (refl, refl)
grid-rule (suc (suc zero)) h = (refl, refl)
grid-rule (suc (suc (suc zero))) h = (refl, refl)
grid-rule (suc (suc (suc (suc zero)))) h = (refl, refl)
grid-rule (suc (suc (suc (suc (suc zero))))) h = (refl, refl)
grid-rule (suc (suc (suc (suc (suc (suc zero)))))) h = (refl, refl)
grid-rule (suc (suc (suc (suc (suc (suc (suc zero))))))) h = (refl, refl)
grid-rule (suc (suc (suc (suc (suc (suc (suc (suc zero)))))))) h = (refl, refl)
grid-rule (suc (suc (suc (suc (suc (suc (suc (suc (suc zero))))))))) h = (refl, refl)
grid-rule (suc (suc (suc (suc (suc (suc (suc (suc (suc (suc k)))))))))) h = absurd (omega arith)

link-rule : (k : ℕ) → k < 3 → Tells (Link k) (get_or link_codes k 0)
unfolding computing
link-rule zero h = (refl, refl)
link-rule (suc zero) h = (refl, refl)
link-rule (suc (suc zero)) h = (refl, refl)
link-rule (suc (suc (suc k))) h = absurd (omega arith)

pub three-codes : length link_codes ≡ 3
unfolding computing
three-codes = refl

-- A rule of one of some codes, whose kinds are v 0, v 1, ..: row k is the code's.
pub record Ruled (ks : List ℕ) (r : Rule) (c k : ℕ) : Type 0 where
  pub below : k < length ks
  pub code : r.code ≡ c
  pub at : c ≡ get_or ks k 0

module _ (ks : List ℕ) (v : ℕ → Kind) (one : (i k : ℕ) → v i ≡ v k → i ≡ k) (tells : (k : ℕ) → k < length ks → Tells (v k) (get_or ks k 0)) (r : Rule) (c : ℕ) (e : r ≡ rule_of_code c) where
  kind-is : (among : Among ks c) → r.kind ≡ v among.0
  kind-is (i, h, is) = ap (λ (x : Rule). x.kind) e ∙ ap (λ (x : ℕ). (rule_of_code x).kind) is ∙ (tells i h).0

  ruled : (k : ℕ) → r.kind ≡ v k → Among ks c → Ruled ks r c k
  ruled k f (i, h, is) =
      let j : i ≡ k = one i k (sym (kind-is (i, h, is)) ∙ f) in
      record {
        below = omega arith;
        code = ap (λ (x : Rule). x.code) e ∙ ap (λ (x : ℕ). (rule_of_code x).code) is ∙ (tells i h).1 ∙ sym is;
        at = is ∙ ap (λ (x : ℕ). get_or ks x 0) j;
      }

module _ (r : Rule) (c : ℕ) (e : r ≡ rule_of_code c) where
  pub of-grid : (k : ℕ) → r.kind ≡ Application k → Among grid_codes c → Ruled grid_codes r c k
  of-grid = ruled grid_codes (λ k. Application k) (λ i k z. cc) (λ k h. grid-rule k (omega (arith, ten))) r c e

  pub of-link : (k : ℕ) → r.kind ≡ Link k → Among link_codes c → Ruled link_codes r c k
  of-link = ruled link_codes (λ k. Link k) (λ i k z. cc) (λ k h. link-rule k (omega (arith, three-codes))) r c e

  pub not-grid : ((k : ℕ) → r.kind ≡ Application k → ⊥) → Among grid_codes c → ⊥
  not-grid h a =
      h a.0 (kind-is grid_codes (λ k. Application k) (λ i k z. cc) (λ k l. grid-rule k (omega (arith, ten))) r c e a)

  pub not-link : ((k : ℕ) → r.kind ≡ Link k → ⊥) → Among link_codes c → ⊥
  not-link h a =
      h a.0 (kind-is link_codes (λ k. Link k) (λ i k z. cc) (λ k l. link-rule k (omega (arith, three-codes))) r c e a)

-- ---- the TLV of a kind, by its row

pub grid-kind : (run : List ℕ) (g : List (List ℕ)) (c k : ℕ) → k < length grid_codes → c ≡ get_or grid_codes k 0 → grid_value run g c ≡ row_value run (get_or g k [])
grid-kind run g c k h e = ap (grid_value run g) e ∙ grid-at run g k (omega (arith, ten))

link_row : (k : ℕ) → k < 3 → row_in link_codes (get_or link_codes k 0) ≡ k
unfolding computing
link_row zero h = refl
link_row (suc zero) h = refl
link_row (suc (suc zero)) h = refl
link_row (suc (suc (suc k))) h = absurd (omega arith)

module _ (run : List ℕ) (sets : List (List ℕ)) where
  pub link_at : (k : ℕ) → k < 3 → get_or (link_rows sets) k [] ≡ cell_row (cell sets 2 k)
  unfolding link_rows
  link_at k h = let z : 0 + k ≡ k = omega arith in row-numbers (λ j. cell_row (cell sets 2 j)) 3 0 k h ∙ ap (λ (j : ℕ). cell_row (cell sets 2 j)) z

  pub link-kind : (c k : ℕ) → k < length link_codes → c ≡ get_or link_codes k 0 → bandwidth_of run (link_rows sets) c ≡ row_value run (cell_row (cell sets 2 k))
  unfolding bandwidth_of
  link-kind c k h e =
      let l : k < 3 = omega (arith, three-codes) in
      ap (bandwidth_of run (link_rows sets)) e ∙ ap (λ (j : ℕ). row_value run (get_or (link_rows sets) j [])) (link_row k l) ∙ ap (row_value run) (link_at k l)

  pub link_fits : (k : ℕ) → k < length link_codes → Fits run (link_rows sets) → RowFits run (cell_row (cell sets 2 k))
  link_fits k h fits = rw (sym (link_at k (omega (arith, three-codes)))) (fits k)

  -- The same by the row of slot 2.
  abbrev pub link-cell : ℕ → List ℕ
  link-cell k = get_or (row_grid (get_or sets 2 [])) k []

  module _ (k : ℕ) (h : k < length link_codes) where
    link-is : link-cell k ≡ cell_row (cell sets 2 k)
    link-is = row_at (get_or sets 2 []) k (omega (arith, three-codes))

    pub bandwidth-kind : (c : ℕ) → c ≡ get_or link_codes k 0 → bandwidth_of run (link_rows sets) c ≡ row_value run (link-cell k)
    bandwidth-kind c e = link-kind c k h e ∙ ap (row_value run) (sym link-is)

    pub bandwidth-fits : Fits run (link_rows sets) → RowFits run (link-cell k)
    bandwidth-fits fits = rw link-is (link_fits k h fits)

-- The TLV of a row's value, if it has one.
module _ (run r : List ℕ) (c : ℕ) where
  abbrev pub row_tlv : List ℕ
  row_tlv = in_tlvs (λ _. row_value run r) (c ∷ [])

  pub kind-none : row_read r ≡ None → row_tlv ≡ []
  kind-none e = tlv-absent (λ _. row_value run r) c (row-absent r run e)

  module _ (v : Span) (e : row_read r ≡ Some v) (fits : RowFits run r) where
    pub kind_fits : (v.place + v.len ≤ length run) × (v.len < 65536)
    kind_fits = let s = row_is r v e in let w = fits.within in let h = fits.short in (omega arith, omega arith)

    pub kind-some : bytes_of (tlv c (value_at run v.place v.len)) ≡ row_tlv
    kind-some =
        let s = row_is r v e in
        sym (tlv-present (λ _. row_value run r) c (value_at run v.place v.len) (row-present r run v e) (omega (arith, length-value run v.place v.len kind_fits.0, s.2)))

  -- It is the TLV of a kind of that value.
  pub kind-tlv : (f : ℕ → List ℕ) (k : ℕ) → f k ≡ row_value run r → c ≡ k → row_tlv ≡ in_tlvs f (k ∷ [])
  kind-tlv f k is e = ap (λ (i : ℕ). in_tlvs (λ _. row_value run r) (i ∷ [])) e ∙ sym (tlvs-same f (λ _. row_value run r) (k ∷ []) (ap (λ (v : List ℕ). v ∷ []) is))

-- How many bytes the TLV of a kind has, by its row.
pub kind-size : (run r : List ℕ) (f : ℕ → List ℕ) (c : ℕ) → f c ≡ row_value run r → RowFits run r → length (in_tlvs f (c ∷ [])) ≡ cond (eqb (get_or r 1 0) 0) 0 (value_size (get_or r 1 0))
kind-size run r f c is fits = ap length (sym (kind-tlv run r c f c is refl)) ∙ go (eqb (get_or r 1 0) 0) refl
  where
    v : Span
    v = record { place = get_or r 0 0; len = get_or r 1 0 }

    go : (b : Bool) → eqb (get_or r 1 0) 0 ≡ b → length (row_tlv run r c) ≡ cond b 0 (value_size (get_or r 1 0))
    go true e = ap length (kind-none run r c (ap (λ (b : Bool). cond b None (Some v)) e))
    go false e =
        ap length (sym (kind-some run r c v (ap (λ (b : Bool). cond b None (Some v)) e) fits))
        ∙ size-value run (get_or r 0 0) (get_or r 1 0) c fits.within

-- ---- codes and their places

module _ where
  pub first_code : Among grid_codes 1088
  unfolding computing
  first_code = (0, omega arith, refl)

  pub metric-code : Among grid_codes 1092
  unfolding computing
  metric-code = (1, omega arith, refl)

  pub last_code : Among grid_codes 1173
  unfolding computing
  last_code = (9, omega arith, refl)

  pub maximum-code : Among link_codes 1089
  unfolding computing
  maximum-code = (0, omega arith, refl)

  pub reservable-code : Among link_codes 1090
  unfolding computing
  reservable-code = (1, omega arith, refl)

  pub unreserved-code : Among link_codes 1091
  unfolding computing
  unreserved-code = (2, omega arith, refl)

extended_row : (k : ℕ) → k < 7 → 1114 + k ≡ get_or grid_codes (2 + k) 0
unfolding computing
extended_row zero h = refl
extended_row (suc zero) h = refl
extended_row (suc (suc zero)) h = refl
extended_row (suc (suc (suc zero))) h = refl
extended_row (suc (suc (suc (suc zero)))) h = refl
extended_row (suc (suc (suc (suc (suc zero))))) h = refl
extended_row (suc (suc (suc (suc (suc (suc zero)))))) h = refl
extended_row (suc (suc (suc (suc (suc (suc (suc k))))))) h = absurd (omega arith)

pub extended-code : (c : ℕ) → 1114 ≤ c → c < 1121 → Among grid_codes c
extended-code c l h =
    let e : 1114 + (c - 1114) ≡ c = omega arith in
    (2 + (c - 1114), omega (arith, ten), sym e ∙ extended_row (c - 1114) (omega arith))

one_more : (k : ℕ) → k < 7 → take (k + 1) extended_codes ≡ take k extended_codes ++ ((1114 + k) ∷ [])
one_more zero h = refl
one_more (suc zero) h = refl
one_more (suc (suc zero)) h = refl
one_more (suc (suc (suc zero))) h = refl
one_more (suc (suc (suc (suc zero)))) h = refl
one_more (suc (suc (suc (suc (suc zero))))) h = refl
one_more (suc (suc (suc (suc (suc (suc zero)))))) h = refl
one_more (suc (suc (suc (suc (suc (suc (suc k))))))) h = absurd (omega arith)

-- ---- the kinds from 1114 on, one after another

module _ (f : ℕ → List ℕ) (d : List ℕ) (at : ℕ) (room : at + length (in_tlvs f extended_codes) ≤ length d) (c : ℕ) where
  abbrev pub before : List ℕ
  before = in_tlvs f (take (c - 1114) extended_codes)

  pub extended-start : c ≡ 1114 → Wrote d at before at d
  extended-start e = no_write d at (ap (λ (k : ℕ). in_tlvs f (take (k - 1114) extended_codes)) e ∙ tlvs-none f)

  module _ (l : 1114 ≤ c) (h : c < 1121) where
    next-is : before ++ in_tlvs f (c ∷ []) ≡ in_tlvs f (take (c + 1 - 1114) extended_codes)
    next-is =
        let k = c - 1114 in
        let e : c ≡ 1114 + k = omega arith in
        let m : c + 1 - 1114 ≡ k + 1 = omega arith in
        sym (ap (λ (j : ℕ). in_tlvs f (take j extended_codes)) m ∙ ap (in_tlvs f) (one_more k (omega arith)) ∙ tlvs-append f (take k extended_codes) ((1114 + k) ∷ [])
        ∙ ap (λ (j : ℕ). before ++ in_tlvs f (j ∷ [])) (sym e))

    room-here : at + length (before ++ in_tlvs f (c ∷ [])) ≤ length d
    room-here =
        let j = c + 1 - 1114 in
        let e = ap (in_tlvs f) (sym (take-append-drop j extended_codes)) ∙ tlvs-append f (take j extended_codes) (drop j extended_codes) in
        omega (arith, ap length next-is, ap length e, length-append (in_tlvs f (take j extended_codes)) (in_tlvs f (drop j extended_codes)))

    module _ {o : List ℕ} {r : ℕ} (kept : length o ≡ length d) (w : Wrote d at before r o) where
      pub extended-room : r + length (in_tlvs f (c ∷ [])) ≤ length o
      extended-room = behind-room d at before (in_tlvs f (c ∷ [])) room-here kept w

      pub extended-next : {t : ℕ} {e : List ℕ} → Wrote o r (in_tlvs f (c ∷ [])) t e → Wrote d at (in_tlvs f (take (c + 1 - 1114) extended_codes)) t e
      extended-next v = same_write next-is d at (behind-write d at before (in_tlvs f (c ∷ [])) room-here kept w v)

-- ---- sets, piece by piece

pub bandwidths-are : (run : List ℕ) (l : List (List ℕ))
    → Three (in_tlvs (bandwidth_of run l) link_codes) (in_tlvs (bandwidth_of run l) (1089 ∷ [])) (in_tlvs (bandwidth_of run l) (1090 ∷ [])) (in_tlvs (bandwidth_of run l) (1091 ∷ []))
unfolding computing
bandwidths-are run l = record { are = in_three (bandwidth_of run l) (1089 ∷ []) (1090 ∷ []) (1091 ∷ []) }

module _ (run : List ℕ) (g : List (List ℕ)) (ns : List ℕ) where
  abbrev set : ℕ → List ℕ
  set = set_of run g ns

  extended-same : map set extended_codes ≡ map (grid_value run g) extended_codes
  unfolding set_of
  extended-same = refl

  pub middle-is : Three (in_tlvs set middle_codes) (in_tlvs (grid_value run g) (1092 ∷ [])) (srlg_tlv ns) (in_tlvs (grid_value run g) extended_codes)
  unfolding computing set_of
  middle-is =
      record { are = in_three set (1092 ∷ []) (1096 ∷ []) extended_codes ∙ ap (λ (v : List ℕ). in_tlvs (grid_value run g) (1092 ∷ []) ++ srlg_tlv ns ++ v) (tlvs-same set (grid_value run g) extended_codes extended-same) }

  pub set_is : Three (in_tlvs set application_codes) (in_tlvs (grid_value run g) (1088 ∷ [])) (in_tlvs set middle_codes) (in_tlvs (grid_value run g) (1173 ∷ []))
  unfolding computing set_of
  set_is = record { are = in_three set (1088 ∷ []) middle_codes (1173 ∷ []) }

  -- How many bytes they have: those of the grid's kinds, and the SRLGs.
  grid-is : Three (in_tlvs (grid_value run g) grid_codes) (in_tlvs (grid_value run g) (1088 ∷ [])) (in_tlvs (grid_value run g) (1092 ∷ extended_codes)) (in_tlvs (grid_value run g) (1173 ∷ []))
  unfolding computing
  grid-is = record { are = in_three (grid_value run g) (1088 ∷ []) (1092 ∷ extended_codes) (1173 ∷ []) }

  metric-is : in_tlvs (grid_value run g) (1092 ∷ extended_codes) ≡ in_tlvs (grid_value run g) (1092 ∷ []) ++ in_tlvs (grid_value run g) extended_codes
  metric-is = tlvs-append (grid_value run g) (1092 ∷ []) extended_codes

  pub set-length : length (in_tlvs set application_codes) ≡ length (in_tlvs (grid_value run g) grid_codes) + length (srlg_tlv ns)
  set-length =
      omega (arith, length_three set_is, length_three middle-is, length_three grid-is, ap length metric-is, length-append (in_tlvs (grid_value run g) (1092 ∷ [])) (in_tlvs (grid_value run g) extended_codes))

  -- What stands at the top of a run.
  module _ (l : List (List ℕ)) where
    abbrev top : ℕ → List ℕ
    top = top_of run l g ns

    bandwidths-same : map top link_codes ≡ map (bandwidth_of run l) link_codes
    unfolding computing top_of
    bandwidths-same = refl

    middle-same : map top middle_codes ≡ map set middle_codes
    unfolding computing top_of
    middle-same = refl

    pub low-is : Three (in_tlvs top low_codes) (in_tlvs (grid_value run g) (1088 ∷ [])) (in_tlvs (bandwidth_of run l) link_codes) (in_tlvs set middle_codes)
    unfolding computing top_of set_of
    low-is = record {
      are =
          in_three top (1088 ∷ []) link_codes middle_codes
          ∙ ap₂ (λ (v w : List ℕ). in_tlvs (grid_value run g) (1088 ∷ []) ++ v ++ w) (tlvs-same top (bandwidth_of run l) link_codes bandwidths-same) (tlvs-same top set middle_codes middle-same);
    }

    pub high_is : in_tlvs top high_codes ≡ in_tlvs (grid_value run g) (1173 ∷ [])
    unfolding computing top_of set_of
    high_is = refl

    pub top-length : length (in_tlvs top low_codes) + length (in_tlvs top high_codes) ≡ length (in_tlvs (bandwidth_of run l) link_codes) + length (in_tlvs set application_codes)
    top-length = omega (arith, length_three low-is, ap length high_is, length_three set_is)

-- ---- three pieces, of which the first and the last have no SRLGs: where classes stand

module _ (numbers : ℕ → List ℕ) (d : List ℕ) (at : ℕ) {vs x y z : List ℕ} (is : Three vs x y z) (room : at + length vs ≤ length d) {places : List ℕ} (stand : Standing numbers places d at)
    {o : List ℕ} {r : ℕ} (kept : length o ≡ length d) (w : Wrote d at x r o) where
  pub second-stands : Standing numbers places o r
  second-stands = standing_on numbers stand x w (first-room d at is room)

  module _ {p : List ℕ} {q : ℕ} (still : length p ≡ length o) (v : Wrote o r y q p) {places' : List ℕ} (stand' : Standing numbers places' p q) where
    pub third-stands : {t : ℕ} {e : List ℕ} → Wrote p q z t e → Standing numbers places' e t
    third-stands u = standing_on numbers stand' z u (third-room d at is room kept w still v)
