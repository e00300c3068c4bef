-- What stands at the top of a run, and the whole, written part by part. Assumes nothing.
use Prim.Native.Nat.{ℕ, suc, ◌+◌, ◌-◌, ◌≤◌, ◌<◌}
use mathlib.Core.Path.{◌≡◌, refl, sym, ◌∙◌, ap, subst}
use mathlib.Core.Bool.{Bool, true, false}
use mathlib.Core.List.{List, [], ◌∷◌, ◌++◌}
use native.Mathlib.Omega.{arith}
use borrow.Author.Tests.{ltb-true, ltb-false}
use lib.Dec.{ltb}
use lib.ListN.{length, get_or}
use Rattle.linkstate.specs.Lists.{numbers, put}
use Rattle.linkstate.specs.Kinds.{link_codes}
use Rattle.kinds.specs.Rules.{grid_codes}
use Rattle.tlv_bytes.specs.Tlvs.{in_tlvs, Wrote}
use Rattle.tlv_bytes.proofs.Laws.{Three, first-room, second-room, third-room, three-write}
use Rattle.set_bytes.specs.Standing.{numbers_in, Written}
use Rattle.set_bytes.proofs.SrlgLaws.{standing_on}
use Rattle.grids.specs.Grids.{grid_value, set_of, bandwidth_of, RowFits, Fits}
use Rattle.grids.specs.Slots.{slot_grid, link_rows, IsSet}
use Rattle.grids.proofs.Laws.{slot_row}
use Rattle.set_bytes.specs.Sets.{low_codes, middle_codes, Among, Writable}
use Rattle.set_bytes.proofs.Laws.{low-is, high_is, link_at, first_code, last_code, second-stands}
use Rattle.export_bytes.specs.Whole.{asla_tlvs, top_set, whole_bytes, Tables, Entered, Open}
use Rattle.export_bytes.proofs.Laws.{open-on, writable}

link-beyond : (sets : List (List ℕ)) (j : ℕ) → get_or (link_rows sets) (suc (suc (suc j))) [] ≡ []
unfolding link_rows numbers
link-beyond sets j = refl

module _ {run : List ℕ} {sets : List (List ℕ)} {values : List ℕ} {rows classes : List (List ℕ)} (ok : Tables run sets values rows classes) where
  abbrev srlgs : ℕ → List ℕ
  srlgs = numbers_in values rows classes

  abbrev Opens : List ℕ → List ℕ → ℕ → Type 0
  Opens = Open run sets values rows classes

  -- The TLV of a kind of a grid, and those of the link's bandwidths.
  abbrev one : List (List ℕ) → ℕ → List ℕ
  one g k = in_tlvs (grid_value run g) (k ∷ [])

  abbrev bandwidths : List ℕ
  bandwidths = in_tlvs (bandwidth_of run (link_rows sets)) link_codes

  -- The rows of the link's bandwidths fit the run.
  pub link-rows : Fits run (link_rows sets)
  link-rows k = go (ltb k 3) refl
    where
      go : (b : Bool) → ltb k 3 ≡ b → RowFits run (get_or (link_rows sets) k [])
      go true e =
          subst (RowFits run) (slot_row sets 2 k (omega (arith, ltb-true k 3 e)) ∙ sym (link_at run sets k (ltb-true k 3 e))) (ok.slots.fits 2 ok.link k)
      go false e =
          let z : suc (suc (suc (k - 3))) ≡ k = omega (arith, ltb-false k 3 e) in
          subst (RowFits run) (sym (link-beyond sets (k - 3)) ∙ ap (λ (j : ℕ). get_or (link_rows sets) j []) z)
          (record { within = omega arith; short = omega arith })

  module _ {places d : List ℕ} (was : Opens places d 0) {s c : ℕ} (of_s : IsSet sets s) (of_c : c < length classes) where
    abbrev g : List (List ℕ)
    g = slot_grid sets s

    abbrev low : List ℕ
    low = in_tlvs (top_set run sets srlgs s c) low_codes

    abbrev middle : List ℕ
    middle = in_tlvs (set_of run g (srlgs c)) middle_codes

    fits-top : Fits run g
    fits-top = ok.slots.fits s of_s.inside

    -- ---- the first kind is written, then the bandwidths, then the kinds up to 1120

    module _ (room : length low ≤ length d) where
      three : Three low (one g 1088) bandwidths middle
      three = low-is run g (srlgs c) (link_rows sets)

      low-room : 0 + length low ≤ length d
      low-room = omega arith

      pub first-asks : Fits run g × Among grid_codes 1088 × (0 + length (one g 1088) ≤ length d)
      first-asks = (fits-top, first_code, first-room d 0 three low-room)

      module _ {o : List ℕ} {r : ℕ} (kept : length o ≡ length d) (w : Wrote d 0 (one g 1088) r o) where
        pub bandwidths-asks : Fits run (link_rows sets) × (2 < length sets) × (r + length bandwidths ≤ length o)
        bandwidths-asks = (link-rows, ok.link, second-room d 0 three low-room kept w)

        module _ {p : List ℕ} {q : ℕ} (still : length p ≡ length o) (v : Wrote o r bandwidths q p) where
          behind : Opens places p q
          behind = open-on ok was refl (standing_on srlgs (second-stands srlgs d 0 three low-room was.standing kept w) bandwidths v bandwidths-asks.2)

          pub middle-asks : Writable run g values rows classes places c p q × (q + length middle ≤ length p)
          middle-asks = (writable ok behind s c of_s of_c, third-room d 0 three low-room kept w still v)

          pub low-written : {t : ℕ} {places' e : List ℕ} → Written srlgs p q middle t places' e → Written srlgs d 0 low t places' e
          low-written u = (three-write d 0 three low-room kept w still v u.0, u.1)

    -- ---- these are written, then the ASLA TLVs, then the last kind

    module _ {groups : List (List ℕ)} (entered : Entered sets classes groups) {first : ℕ} (few : first ≤ 1)
        (room : length (whole_bytes run sets srlgs groups first s c) ≤ length d) where
      abbrev whole : List ℕ
      whole = whole_bytes run sets srlgs groups first s c

      abbrev aslas : List ℕ
      aslas = asla_tlvs run sets srlgs groups first (length groups - first)

      parts : Three whole low aslas (one g 1173)
      unfolding whole_bytes
      parts = record { are = ap (λ (v : List ℕ). low ++ aslas ++ v) (high_is run g (srlgs c) (link_rows sets)) }

      whole_room : 0 + length whole ≤ length d
      whole_room = omega arith

      pub low-asks : Opens places d 0 × IsSet sets s × (c < length classes) × (length low ≤ length d)
      low-asks = (was, of_s, of_c, omega (arith, first-room d 0 parts whole_room))

      module _ {places' o : List ℕ} {r : ℕ} (stay : length places' ≡ length places) (kept : length o ≡ length d) (w : Written srlgs d 0 low r places' o) where
        pub aslas-asks : Opens places' o r × Entered sets classes groups × (first ≤ 1) × (r + length aslas ≤ length o)
        aslas-asks = (open-on ok was stay w.1, entered, few, second-room d 0 parts whole_room kept w.0)

        module _ {places'' p : List ℕ} {q : ℕ} (still : length p ≡ length o) (v : Written srlgs o r aslas q places'' p) where
          pub last-asks : Fits run g × Among grid_codes 1173 × (q + length (one g 1173) ≤ length p)
          last-asks = (fits-top, last_code, third-room d 0 parts whole_room kept w.0 still v.0)

          pub whole-written : {t : ℕ} {e : List ℕ} → Wrote p q (one g 1173) t e → (t ≡ length whole) × (e ≡ put d 0 whole)
          whole-written u = let z = three-write d 0 parts whole_room kept w.0 still v.0 u in (omega (arith, z.0), z.1)
