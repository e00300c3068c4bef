-- Laws of an export's bytes: the size of a set, the TLV of an entry, and those of entries in turn. Assumes nothing.
use Prim.Native.Nat.{ℕ, zero, suc, ◌+◌, ◌-◌, ◌≤◌, ◌<◌}
use mathlib.Core.Path.{◌≡◌, refl, sym, ◌∙◌, ap, ap₂}
use mathlib.Core.List.{List, [], ◌∷◌, ◌++◌, append-nil}
use native.Mathlib.Nat.{add-zero}
use native.Mathlib.Omega.{arith}
use lib.ListN.{length, get_or, length-append}
use Rattle.linkstate.specs.Limits.{most_numbers}
use Rattle.linkstate.specs.Lists.{numbers, each}
use Rattle.linkstate.specs.Kinds.{application_codes}
use Rattle.linkstate.specs.Masks.{user}
use Rattle.linkstate.proofs.ListLaws.{each_append}
use Rattle.masks.specs.Sets.{in_sent}
use Rattle.masks.specs.declared.Applications.{Applications}
use Rattle.masks.specs.Applications.{in_set}
use Rattle.masks.proofs.Sets.{set-low, set-user}
use Rattle.kinds.specs.Rules.{grid_codes, row_in}
use Rattle.tlv_bytes.specs.Tlvs.{in_tlvs, Wrote}
use Rattle.tlv_bytes.proofs.Laws.{tlvs-small, length-value, front-most, same-room, same_write, no_write, behind-room, behind-write}
use Rattle.set_bytes.specs.Standing.{srlg_size, count_in, numbers_in, Standing, Written}
use Rattle.set_bytes.proofs.SrlgLaws.{length-srlgs, class-few, standing_on, size-bound}
use Rattle.grids.specs.Grids.{row_value, grid_value, set_of, RowFits}
use Rattle.grids.specs.Slots.{slot_grid, IsSet}
use Rattle.grids.proofs.Laws.{ten}
use Rattle.set_bytes.specs.Sets.{Writable}
use Rattle.set_bytes.proofs.Laws.{set-length}
use Rattle.tlv_bytes.specs.Fronts.{front_size, asla_front}
use Rattle.tlv_bytes.proofs.AslaLaws.{length_front, asla-is}
use Rattle.export_bytes.specs.declared.Asla.{Asla}
use Rattle.export_bytes.specs.Sizes.{asla_of, set_size, asla_size}
use Rattle.export_bytes.specs.Whole.{slot_set, asla_tlv, entry_tlv, asla_tlvs, Tables, Entered, Open}

-- ---- masks, and lists in turn

user-in : (m : Applications) (n : ℕ) → n < 64 → in_set m (user n) ≡ in_sent m.user n
unfolding user
user-in m n h = let e : 64 + n - 64 ≡ n = omega arith in set-user m (64 + n) (omega arith) ∙ ap (in_sent m.user) e

module _ (f : ℕ → List ℕ) (from : ℕ) where
  numbers-last : (n k : ℕ) → numbers k (suc n) ≡ numbers k n ++ ((k + n) ∷ [])
  unfolding numbers
  numbers-last zero k = rw (add-zero k)
  numbers-last (suc n) k = let e : k + suc n ≡ suc k + n = omega arith in rw (e, sym (numbers-last n (suc k)))

  pub each_last : (n : ℕ) → each f (numbers from (suc n)) ≡ each f (numbers from n) ++ f (from + n)
  unfolding each
  each_last n =
      ap (each f) (numbers-last n from) ∙ each_append f (numbers from n) ((from + n) ∷ [])
      ∙ ap (λ (v : List ℕ). each f (numbers from n) ++ v) (append-nil (f (from + n)))

  each_next : (i : ℕ) → from ≤ i → each f (numbers from (i - from)) ++ f i ≡ each f (numbers from (i + 1 - from))
  each_next i h =
      let a : i + 1 - from ≡ suc (i - from) = omega arith in
      let b : from + (i - from) ≡ i = omega arith in
      sym (ap (λ (k : ℕ). each f (numbers from k)) a ∙ each_last (i - from) ∙ ap (λ (k : ℕ). each f (numbers from (i - from)) ++ f k) b)

  -- Part of the entries are no longer than all.
  each-most : (n k : ℕ) → length (each f (numbers from n)) ≤ length (each f (numbers from (n + k)))
  each-most n zero = let e : n + 0 ≡ n = omega arith in omega (arith, ap (λ (j : ℕ). length (each f (numbers from j))) e)
  each-most n (suc k) =
      let e : n + suc k ≡ suc (n + k) = omega arith in
      let g = ap (λ (j : ℕ). each f (numbers from j)) e ∙ each_last (n + k) in
      omega (arith, each-most n k, ap length g, length-append (each f (numbers from (n + k))) (f (from + (n + k))))

  -- They are written from a place of a buffer on.
  module _ (d : List ℕ) (at last : ℕ) (room : at + length (each f (numbers from (last - from))) ≤ length d) where
    pub each_start : Wrote d at (each f (numbers from (from - from))) at d
    unfolding each numbers
    each_start = let e : from - from ≡ 0 = omega arith in no_write d at (ap (λ (k : ℕ). each f (numbers from k)) e)

    module _ (i : ℕ) (low : from ≤ i) (high : i < last) where
      room-here : at + length (each f (numbers from (i - from)) ++ f i) ≤ length d
      room-here =
          let e : last - from ≡ i + 1 - from + (last - (i + 1)) = omega arith in
          omega (arith, ap length (each_next i low), each-most (i + 1 - from) (last - (i + 1)), ap (λ (k : ℕ). length (each f (numbers from k))) e)

      module _ {o : List ℕ} {r : ℕ} (kept : length o ≡ length d) (w : Wrote d at (each f (numbers from (i - from))) r o) where
        pub each-room : r + length (f i) ≤ length o
        each-room = behind-room d at (each f (numbers from (i - from))) (f i) room-here kept w

        pub each-one : {t : ℕ} {x : List ℕ} → Wrote o r (f i) t x → Wrote d at (each f (numbers from (i + 1 - from))) t x
        each-one v = same_write (each_next i low) d at (behind-write d at (each f (numbers from (i - from))) (f i) room-here kept w v)

    pub each-end : (i : ℕ) → i ≡ last → {o : List ℕ} {r : ℕ} → Wrote d at (each f (numbers from (i - from))) r o
        → Wrote d at (each f (numbers from (last - from))) r o
    each-end i e w = same_write (ap (λ (k : ℕ). each f (numbers from (k - from))) e) d at w

-- ---- entries

-- The TLVs of the entries before i stand in a buffer.
pub record Passed (run : List ℕ) (sets : List (List ℕ)) (values : List ℕ) (rows classes groups : List (List ℕ)) (first : ℕ) (places d : List ℕ) (at i : ℕ)
    (places' o : List ℕ) (r : ℕ) : Type 0 where
  pub low : first ≤ i
  pub high : i ≤ length groups
  pub still : length places' ≡ length places
  pub kept : length o ≡ length d
  pub written : Written (numbers_in values rows classes) d at (asla_tlvs run sets (numbers_in values rows classes) groups first (i - first)) r places' o

module _ {run : List ℕ} {sets : List (List ℕ)} {values : List ℕ} {rows classes : List (List ℕ)} (ok : Tables run sets values rows classes) where
  abbrev srlgs : ℕ → List ℕ
  srlgs = numbers_in values rows classes

  -- The TLVs of a set, by its grid and its class; of that of an entry, and the front before them.
  abbrev set_tlvs : List (List ℕ) → ℕ → List ℕ
  set_tlvs g c = in_tlvs (set_of run g (srlgs c)) application_codes

  abbrev inner : Asla → List ℕ
  inner e = set_tlvs (slot_grid sets e.slot) e.class

  abbrev front : Asla → List ℕ
  front e = asla_front e.members (length (inner e))

  pub set-size : (s c : ℕ) → IsSet sets s → c < length classes → set_size sets classes s c ≡ length (set_tlvs (slot_grid sets s) c)
  unfolding set_size
  set-size s c of_s of_c =
      ap₂ (λ (i j : ℕ). i + j) (ok.slots.sized s of_s) (ap srlg_size (ok.known.class c of_c).counted ∙ sym (length-srlgs (srlgs c)))
      ∙ sym (set-length run (slot_grid sets s) (srlgs c))

  pub count-few : (c : ℕ) → c < length classes → count_in classes c ≤ most_numbers
  count-few c of_c = omega (arith, (ok.known.class c of_c).counted, class-few values rows classes c ok.known)

  -- No set is longer than 65,000 bytes.
  value-small : (s : ℕ) → s < length sets → (k : ℕ) → length (grid_value run (slot_grid sets s) k) ≤ 4097
  unfolding grid_value
  value-small s h k = row_small (get_or (slot_grid sets s) (row_in grid_codes k) []) (ok.slots.fits s h _)
    where
      row_small : (r : List ℕ) → RowFits run r → length (row_value run r) ≤ 4097
      row_small r fits = omega (arith, length-value run (get_or r 0 0) (get_or r 1 0) fits.within, fits.short, front-most (get_or r 1 0))

  set-small : (s c : ℕ) → IsSet sets s → c < length classes → length (set_tlvs (slot_grid sets s) c) < 65000
  set-small s c of_s of_c =
      let a = tlvs-small (grid_value run (slot_grid sets s)) 4097 (value-small s of_s.inside) grid_codes in
      let b = set-length run (slot_grid sets s) (srlgs c) in
      omega (arith, a, ten, b, length-srlgs (srlgs c), size-bound (length (srlgs c)), class-few values rows classes c ok.known)

  -- An ASLA TLV is its front and its set.
  asla-parts : (e : Asla) → front e ++ inner e ≡ asla_tlv run sets srlgs e
  unfolding asla_tlv
  asla-parts e =
      let f = slot_set run sets srlgs e.slot e.class in
      sym (asla-is e.members (in_set e.members) f f (set-low e.members) (user-in e.members) refl)

  parts-length : (e : Asla) → length (front e ++ inner e) ≡ front_size e.members + length (inner e)
  parts-length e = length-append (front e) (inner e) ∙ ap (λ (k : ℕ). k + length (inner e)) (length_front e.members (length (inner e)))

  pub asla-length : (e : Asla) → IsSet sets e.slot → e.class < length classes → length (asla_tlv run sets srlgs e) ≡ asla_size sets classes e
  unfolding asla_size
  asla-length e of_s of_c = omega (arith, ap length (asla-parts e), parts-length e, set-size e.slot e.class of_s of_c)

  -- ---- places up to which tables are written

  abbrev Opens : List ℕ → List ℕ → ℕ → Type 0
  Opens = Open run sets values rows classes

  -- The front of a buffer, where no class has a place.
  pub open-front : {places : List ℕ} → length classes ≤ length places → ((c : ℕ) → get_or places c 0 ≡ 0) → (d : List ℕ) → Opens places d 0
  open-front placed none d = record { tables = ok; placed = placed; standing = record { stands = λ c some. absurd (some (none c)) } }

  module _ {places d : List ℕ} {at : ℕ} (was : Opens places d at) where
    -- A place behind it.
    pub open-on : {places' o : List ℕ} {r : ℕ} → length places' ≡ length places → Standing srlgs places' o r → Opens places' o r
    open-on still stand = record { tables = ok; placed = omega (arith, was.placed); standing = stand }

    -- The set of a slot and a class can be written there.
    pub writable : (s c : ℕ) → IsSet sets s → c < length classes → Writable run (slot_grid sets s) values rows classes places c d at
    writable s c of_s of_c = let placed = was.placed in record { fits = ok.slots.fits s of_s.inside; known = ok.known; inside = of_c; placed = omega arith; standing = was.standing }

  -- ---- an ASLA TLV: its front is written, then its set

  module _ {places d : List ℕ} {at : ℕ} (was : Opens places d at) (e : Asla) (of_s : IsSet sets e.slot) (of_c : e.class < length classes)
      (room : at + length (asla_tlv run sets srlgs e) ≤ length d) where
    pub size-asks : (e.slot < length sets) × (e.class < length classes) × (count_in classes e.class ≤ most_numbers)
    size-asks = (of_s.inside, of_c, count-few e.class of_c)

    both-room : at + length (front e ++ inner e) ≤ length d
    both-room = same-room (asla-parts e) d at room

    module _ (size : ℕ) (es : size ≡ set_size sets classes e.slot e.class) where
      size_is : size ≡ length (inner e)
      size_is = es ∙ set-size e.slot e.class of_s of_c

      pub front-asks : (size < 65000) × (at + front_size e.members ≤ length d)
      front-asks = (omega (arith, size_is, set-small e.slot e.class of_s of_c), omega (arith, both-room, parts-length e))

      module _ {r : ℕ} {o : List ℕ} (kept : length o ≡ length d) (w : Wrote d at (asla_front e.members size) r o) where
        front-wrote : Wrote d at (front e) r o
        front-wrote = same_write (ap (asla_front e.members) size_is) d at w

        behind : Opens places o r
        behind = open-on was refl (standing_on srlgs was.standing (front e) front-wrote (omega (arith, both-room, length-append (front e) (inner e))))

        pub set-asks : Writable run (slot_grid sets e.slot) values rows classes places e.class o r × (r + length (inner e) ≤ length o)
        set-asks = (writable behind e.slot e.class of_s of_c, behind-room d at (front e) (inner e) both-room kept front-wrote)

        pub asla-written : {t : ℕ} {places' x : List ℕ} → Written srlgs o r (inner e) t places' x
            → Written srlgs d at (asla_tlv run sets srlgs e) t places' x
        asla-written v =
            (same_write (asla-parts e) d at (behind-write d at (front e) (inner e) both-room kept front-wrote v.0), v.1)

  -- ---- entries in turn

  module _ {groups : List (List ℕ)} {places d : List ℕ} {at : ℕ} (was : Opens places d at) (entered : Entered sets classes groups) {first : ℕ} (few : first ≤ 1)
      (room : at + length (asla_tlvs run sets srlgs groups first (length groups - first)) ≤ length d) where
    abbrev tlv_of : ℕ → List ℕ
    tlv_of = entry_tlv run sets srlgs groups

    abbrev To : ℕ → List ℕ → List ℕ → ℕ → Type 0
    To = Passed run sets values rows classes groups first places d at

    pub aslas-start : To first places d at
    aslas-start =
        let some = entered.some in
        record { low = omega arith; high = omega arith; still = refl; kept = refl; written = (each_start tlv_of first d at (length groups) room, was.standing) }

    module _ {i : ℕ} {places' o : List ℕ} {r : ℕ} (so : To i places' o r) where
      module _ (h : i < length groups) {e : Asla} (is : e ≡ asla_of (get_or groups i [])) where
        pub asla-asks : Opens places' o r × IsSet sets e.slot × (e.class < length classes) × (r + length (asla_tlv run sets srlgs e) ≤ length o)
        asla-asks = (
          open-on was so.still so.written.1,
          rw is (entered.slot i h),
          rw is (entered.class i h),
          rw is (each-room tlv_of first d at (length groups) room i so.low h so.kept so.written.0),
        )

        pub aslas-next : {places'' x : List ℕ} {t : ℕ} → length places'' ≡ length places' → length x ≡ length o → Written srlgs o r (asla_tlv run sets srlgs e) t places'' x
            → To (i + 1) places'' x t
        aslas-next e k v = record {
          low = omega (arith, so.low);
          high = omega arith;
          still = e ∙ so.still;
          kept = k ∙ so.kept;
          written = (each-one tlv_of first d at (length groups) room i so.low h so.kept so.written.0 (rw is at v.0), v.1);
        }

      pub aslas-end : length groups ≤ i → Written srlgs d at (asla_tlvs run sets srlgs groups first (length groups - first)) r places' o
      aslas-end h = (each-end tlv_of first d at (length groups) room i (omega (arith, so.high)) so.written.0, so.written.1)
