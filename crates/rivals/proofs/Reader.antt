-- Demand 2, the reader's side: every question to an accepted run is answered by what the run means. An attribute that is read was checked,
-- so a kind other than SRLG is never found without bytes, and it stands in the run at its place.
use mathlib.Core.Path.{◌≡◌, refl, sym, ap, ap₂, ◌∙◌, subst}
use mathlib.Core.Bool.{Bool, true, false, cond, false≢true}
use mathlib.Core.List.{List, [], ◌∷◌, Memᴰ}
use Prim.Native.Nat.{ℕ, ◌+◌, ◌<◌}
use native.Mathlib.Omega.{arith}
use borrow.Author.Tests.{eqb-true}
use lib.Dec.{eqb}
use lib.ListN.{length, drop}
use lib.Seq.{take-length}
use Rattle.linkstate.specs.Lists.{keep, each, empty, member}
use Rattle.linkstate.specs.Bytes.{bytes_at}
use Rattle.linkstate.specs.Kinds.{is_code, is_link_code, wrong_at_top, wrong_inside}
use Rattle.linkstate.specs.Masks.{user, others}
use Rattle.linkstate.specs.Replies.{run_bgp_ls, accepted, fault}
use Rattle.linkstate.specs.Elements.{elements}
use Rattle.linkstate.specs.Attributes.{Attribute, attribute, of_kind}
use Rattle.linkstate.specs.Sides.{Advertisement, general, names, named, of_live, general_set, application_set}
use Rattle.linkstate.specs.Questions.{Subject, generally, standard_no, user_no, number_too_high, set_of, given}
use Rattle.linkstate.specs.Meaning.{meaning, Accepted}
use Rattle.linkstate.specs.BgpLs.{asla_header, inner_elements, check_inner, check_top, advertisement, attributes_of, aslas, top_level, run_side, run_source}
use Rattle.linkstate.proofs.ElementLaws.{at-place, rest-place}
use Rattle.rivals.specs.Reads.{in_bgp_ls, Reads, AnsweredBy}
use Rattle.linkstate.proofs.ListLaws.{keep-mem, each-mem}
use Rattle.rivals.proofs.Sizes.{not-refused}
use Rattle.rivals.proofs.KindLaws.{code-mem, not-asla, top-bytes, inside-bytes}
use Rattle.rivals.proofs.RunLaws.{accepted-faults, faults-mem, attribute-mem, asla-mem, asla-checked, no-L}
use Rattle.rivals.proofs.SourceReads.{Held, source-reads, source-lists}

-- ---- who gets the general set

-- An application that no ASLA names.
unnamed : (r : List ℕ) (k a : ℕ) → member a others ≡ true → (run_source r).names a ≡ false → (run_source r).application a k ≡ (run_source r).general k
unfolding run_source application_set
unnamed r k a h n = let z : named a (run_side r) ≡ false = rw h at n in rw (no-L r a, z)

-- ---- where a given attribute comes from

-- The top of the run, or, for a kind of applications, one of its ASLAs.
pub data From (r : List ℕ) (k : ℕ) (t : Attribute) : Type 0 where
  at_top : Memᴰ t (top_level r) → From r k t
  in-asla : (d : Advertisement) → is_link_code k ≡ false → Memᴰ d (aslas r) → Memᴰ t d.attributes → From r k t

module _ (r : List ℕ) (k : ℕ) {t : Attribute} where
  live-from : (p : Advertisement → Bool) → is_link_code k ≡ false → Memᴰ t (of_live p (run_side r)) → From r k t
  unfolding of_live run_side
  live-from p l h =
      let q = each-mem (λ d. d.attributes) (keep p (aslas r)) h in
      in-asla q.0 l (keep-mem p (aslas r) q.1).1 q.2

  application-from : (a : ℕ) → is_link_code k ≡ false → Memᴰ t (application_set a (run_side r)) → From r k t
  unfolding application_set general_set
  application-from a l h = go (named a (run_side r)) (rw (no-L r a) at h)
    where
      go : (b : Bool) → Memᴰ t (cond b (of_live (names a) (run_side r)) (of_live general (run_side r))) → From r k t
      go true i = live-from (names a) l i
      go false i = live-from general l i

  set-from : (whom : Subject) → is_link_code k ≡ false → Memᴰ t (set_of (run_source r) whom k) → From r k t
  unfolding set_of run_source general_set
  set-from generally l h = live-from general l h
  set-from (standard_no n) l h = go (eqb n 0) h
    where
      go : (b : Bool) → Memᴰ t (cond b (top_level r) (application_set n (run_side r))) → From r k t
      go true i = at_top i
      go false i = application-from n l i
  set-from (user_no n) l h = application-from (user n) l h

  pub given-from : (whom : Subject) → Memᴰ t (given (run_source r) whom k) → From r k t
  unfolding given run_source
  given-from whom h = go (is_link_code k) refl h
    where
      go : (b : Bool) → is_link_code k ≡ b → Memᴰ t (cond b (top_level r) (set_of (run_source r) whom k)) → From r k t
      go true e i = at_top i
      go false e i = set-from whom e i

-- ---- what the checks say of it

-- It stands in the run at its place.
pub record Stands (r : List ℕ) (t : Attribute) : Type 0 where
  pub bytes : bytes_at r t.at t.len ≡ t.value
  pub len : t.len ≡ length t.value
  pub placed : 0 < t.at

-- The attributes of elements that stand in the run stand there.
attribute-stands : (r : List ℕ) (at : ℕ) (s : List ℕ) → bytes_at r at (length s) ≡ s → {t : Attribute} → Memᴰ t (each attributes_of (elements 2 at s)) → Stands r t
unfolding attribute
attribute-stands r at s e i =
    let q = attribute-mem (elements 2 at s) i in
    rw q.4 (record { bytes = at-place 2 (omega arith) r at s e q.0 q.2 q.1 q.3; len = refl; placed = omega arith })

whole-place : (r : List ℕ) → bytes_at r 0 (length r) ≡ r
unfolding bytes_at
whole-place r = take-length r

top-stands : (r : List ℕ) {t : Attribute} → Memᴰ t (top_level r) → Stands r t
unfolding top_level
top-stands r i = attribute-stands r 0 r (whole-place r) i

-- A wrong length is refused, so an accepted one is right.
right-length : (b : Bool) (at : ℕ) → cond b (fault 4 run_bgp_ls at) accepted ≡ accepted → b ≡ false
unfolding fault
right-length true at h = not-refused _ h
right-length false at h = refl

module _ (r : List ℕ) (ok : Accepted (run_source r)) where
  pub top_right : {t : Attribute} → Memᴰ t (top_level r) → eqb t.code 1122 ≡ false → wrong_at_top t.code (length t.value) ≡ false
  unfolding top_level check_top attribute
  top_right {t} i n =
      let q = attribute-mem (elements 2 0 r) i in
      let c = faults-mem run_bgp_ls check_top (elements 2 0 r) (accepted-faults r ok) q.3 in
      let m : eqb q.2 1122 ≡ false = sym (ap (λ (u : Attribute). eqb u.code 1122) q.4) ∙ n in
      rw q.4 (right-length (wrong_at_top q.2 (length q.1)) q.0 (rw m at c))

  pub inner-fits : {d : Advertisement} {t : Attribute} → Memᴰ d (aslas r) → Memᴰ t d.attributes → Stands r t × (wrong_inside t.code (length t.value) ≡ false)
  unfolding aslas check_top check_inner attribute advertisement inner_elements
  inner-fits {d} {t} i j =
      let q = asla-mem (elements 2 0 r) i in
      let at = q.0 in
      let v = q.1 in
      let c = asla-checked at v q.3 (faults-mem run_bgp_ls check_top (elements 2 0 r) (accepted-faults r ok) q.2) in
      let here : bytes_at r (at + 4) (length v) ≡ v = at-place 2 (omega arith) r 0 r (whole-place r) at 1122 v q.2 in
      let k : Memᴰ t (each attributes_of (inner_elements at v)) = subst (λ (d : Advertisement). Memᴰ t d.attributes) q.4 j in
      let a = attribute-mem (inner_elements at v) k in (
        attribute-stands r (at + 4 + asla_header v) (drop (asla_header v) v) (rest-place r (at + 4) (asla_header v) v here c.0) k,
        rw a.4 (right-length (wrong_inside a.2 (length a.1)) a.0 (faults-mem run_bgp_ls check_inner (inner_elements at v) c.1 a.3)),
      )

  -- Of a kind other than SRLG it has bytes.
  has-bytes : (k : ℕ) → is_code k ≡ true → eqb k 1096 ≡ false → {t : Attribute} → From r k t → t.code ≡ k → empty t.value ≡ false
  unfolding empty
  has-bytes k c n {t} from e = go from t.value refl
    where
      go : From r k t → (v : List ℕ) → t.value ≡ v → empty v ≡ false
      go f (b ∷ v) d = refl
      go (at_top i) [] d =
          let right = top_right i (ap (λ (x : ℕ). eqb x 1122) e ∙ not-asla (code-mem k c)) in
          absurd (false≢true (sym right ∙ ap₂ (λ (x : ℕ) (v : List ℕ). wrong_at_top x (length v)) e d ∙ top-bytes (code-mem k c) n))
      go (in-asla a l i j) [] d =
          absurd (false≢true (sym (inner-fits i j).1 ∙ ap₂ (λ (x : ℕ) (v : List ℕ). wrong_inside x (length v)) e d ∙ inside-bytes (code-mem k c) n l))

  pub from-stands : (k : ℕ) {t : Attribute} → From r k t → Stands r t
  from-stands k (at_top i) = top-stands r i
  from-stands k (in-asla d l i j) = (inner-fits i j).0

-- ---- replies

-- Every question to an accepted run, with a good application number and code, is answered by what the run means.
module _ (r : List ℕ) (ok : Accepted (run_source r)) (whom : Subject) (n : number_too_high whom ≡ false) (k : ℕ) (c : is_code k ≡ true) (list : List ℕ) where
  pub of-kind : (t : Attribute) → eqb k 1096 ≡ false → Memᴰ t (of_kind k (given (run_source r) whom k)) → Stands r t × (t.code ≡ k) × (empty t.value ≡ false)
  unfolding of_kind
  of-kind t d i =
      let q = keep-mem (λ t. eqb k t.code) (given (run_source r) whom k) i in
      let from = given-from r k whom q.1 in
      let e : t.code ≡ k = sym (eqb-true k t.code q.0) in
      (from-stands r ok k from, e, has-bytes r ok k c d from e)

  held : eqb k 1096 ≡ false → (t : Attribute) → Memᴰ t (of_kind k (given (run_source r) whom k)) → Held (run_source r) in_bgp_ls k t
  unfolding run_source
  held d t i = let q = of-kind t d i in record { code = q.1; some = q.2; bytes = q.0.bytes; len = q.0.len }

  pub run-reads : Reads (run_source r) in_bgp_ls (meaning (run_source r)) whom k list
  run-reads = source-reads (run_source r) ok whom n k c in_bgp_ls refl held list (unnamed r k)

-- Whoever wrote it.
pub run-answers : (r : List ℕ) → Accepted (run_source r) → AnsweredBy (run_source r) in_bgp_ls (meaning (run_source r))
run-answers r ok = record { reads = run-reads r ok; names = source-lists (run_source r) ok }
