-- A value of a right length can be read by its kind's form: one computed test over the table of kinds, for the lengths of IS-IS and of BGP-LS alike.
use mathlib.Core.Path.{◌≡◌, refl, ap, ◌∙◌}
use mathlib.Core.Bool.{Bool, true, false, cond, ◌&&◌, ◌||◌, not}
use mathlib.Core.List.{List, [], ◌∷◌}
use Prim.Native.Nat.{ℕ}
use native.Mathlib.Omega.{arith}
use borrow.Author.Tests.{eqb-true, leb-true}
use lib.Dec.{eqb, leb}
use Rattle.linkstate.specs.Lists.{any, all, lookup}
use Rattle.linkstate.specs.Kinds.{Kind, Size, exactly, fours_from, fours_within, fits, Form, whole_number, two_numbers, float, place_and_length, srlg_count, kinds, has_code, is_code, form_of}
use Rattle.linkstate.proofs.Computing.{computing}
use Rattle.answering.specs.Standing.{Readable}

-- Whether every length of a size can be read by a form.
unfoldable pub reads_all : Form → Size → Bool
reads_all whole_number (exactly k) = leb 3 k && leb k 4
reads_all whole_number (fours_from l) = false
reads_all whole_number (fours_within l m) = false
reads_all two_numbers (exactly k) = eqb k 8
reads_all two_numbers (fours_from l) = false
reads_all two_numbers (fours_within l m) = false
reads_all float (exactly k) = eqb k 4
reads_all float (fours_from l) = false
reads_all float (fours_within l m) = false
reads_all place_and_length s = true
reads_all srlg_count s = false

and_l : (x y : Bool) → x && y ≡ true → x ≡ true
and_l true y h = refl
and_l false y h = h

and_r : (x y : Bool) → x && y ≡ true → y ≡ true
and_r true y h = h
and_r false y h = absurd (let z : ◌≡◌ {A = ℕ} 0 1 = cc in omega arith)

never : {A : Type 0} → false ≡ true → A
never e = absurd (let z : ◌≡◌ {A = ℕ} 0 1 = cc in omega arith)

pub reads : (f : Form) (s : Size) (n : ℕ) → reads_all f s ≡ true → fits s n ≡ true → Readable f n
unfolding reads_all fits
reads whole_number (exactly k) n h g =
    let e : n ≡ k = eqb-true n k g in
    (omega (arith, leb-true 3 k (and_l (leb 3 k) (leb k 4) h)), omega (arith, leb-true k 4 (and_r (leb 3 k) (leb k 4) h)))
reads whole_number (fours_from l) n h g = never h
reads whole_number (fours_within l m) n h g = never h
reads two_numbers (exactly k) n h g = eqb-true n k g ∙ eqb-true k 8 h
reads two_numbers (fours_from l) n h g = never h
reads two_numbers (fours_within l m) n h g = never h
reads float (exactly k) n h g = eqb-true n k g ∙ eqb-true k 4 h
reads float (fours_from l) n h g = never h
reads float (fours_within l m) n h g = never h
reads place_and_length s n h g = tt
reads srlg_count s n h g = never h

module _ (size : Kind → Size) where
  -- SRLG apart, every row of the table.
  row_reads : Kind → Bool
  row_reads q = eqb q.code 1096 || reads_all q.form (size q)

  in_rows : (c n : ℕ) → eqb c 1096 ≡ false → (qs : List Kind) → all row_reads qs ≡ true → any (has_code c) qs ≡ true → any (λ q. has_code c q && not (fits (size q) n)) qs ≡ false
      → Readable (lookup (has_code c) (λ q. q.form) whole_number qs) n
  unfolding any all lookup row_reads has_code
  in_rows c n s [] t k w = never k
  in_rows c n s (q ∷ qs) t k w = go (eqb c q.code) refl k w (λ i v. in_rows c n s qs (and_r (row_reads q) (all row_reads qs) t) i v)
    where
      right : (b : Bool) (x : Bool) → (not b) || x ≡ false → b ≡ true
      right true x e = refl
      right false x e = absurd (let z : ◌≡◌ {A = ℕ} 0 1 = cc in omega arith)

      form : (b : Bool) → eqb q.code 1096 ≡ b → c ≡ q.code → b || reads_all q.form (size q) ≡ true → reads_all q.form (size q) ≡ true
      form true e i h = absurd (let z : eqb c 1096 ≡ true = ap (λ (x : ℕ). eqb x 1096) i ∙ e in let y : ◌≡◌ {A = ℕ} 0 1 = cc in omega arith)
      form false e i h = h

      go : (b : Bool) → eqb c q.code ≡ b → b || any (has_code c) qs ≡ true → (b && not (fits (size q) n)) || any (λ q. has_code c q && not (fits (size q) n)) qs ≡ false
          → (any (has_code c) qs ≡ true → any (λ q. has_code c q && not (fits (size q) n)) qs ≡ false → Readable (lookup (has_code c) (λ q. q.form) whole_number qs) n)
          → Readable (cond b q.form (lookup (has_code c) (λ q. q.form) whole_number qs)) n
      go true e i v r =
          reads q.form (size q) n (form (eqb q.code 1096) refl (eqb-true c q.code e) (and_l (row_reads q) (all row_reads qs) t)) (right (fits (size q) n) _ v)
      go false e i v r = r i v

-- The lengths of a BGP-LS run.
pub readable-in-bgpls : (c n : ℕ) → is_code c ≡ true → eqb c 1096 ≡ false → any (λ q. has_code c q && not (fits q.bgpls_size n)) kinds ≡ false → Readable (form_of c) n
unfolding computing row_reads reads_all
readable-in-bgpls c n k s w = in_rows (λ q. q.bgpls_size) c n s kinds refl k w
