-- Demand 2, over any source that is accepted: if whom nothing names gets the general set, and what is found stands in the run and has bytes, then
-- every question is answered by what the source means, and so is the list of named applications.
use mathlib.Core.Path.{◌≡◌, refl, sym, ap, ap₂, ◌∙◌, subst}
use mathlib.Core.Bool.{Bool, true, false, cond}
use mathlib.Core.List.{List, [], ◌∷◌, Memᴰ}
use Prim.Native.Nat.{ℕ}
use borrow.Author.Tests.{ltb-true, ltb-false}
use lib.Dec.{eqb, ltb}
use lib.ListN.{length}
use Rattle.linkstate.specs.Lists.{each, empty, put, member}
use Rattle.linkstate.specs.Bytes.{bytes_at, distinct, words, four, bytes_of_words}
use Rattle.linkstate.specs.Kinds.{is_code, is_link_code}
use Rattle.linkstate.specs.Masks.{user, others, as_number}
use Rattle.linkstate.specs.Replies.{run_a, refusal_at, accepted, refused, fault, fault_of_call, refused_if, ◌then◌, unless, found, ask_refused, count, listed, named_refused}
use Rattle.linkstate.specs.Attributes.{Attribute, of_kind, srlgs, first_value, value_of, reading}
use Rattle.linkstate.specs.Questions.{Source, Subject, generally, standard_no, user_no, number_too_high, set_of, given, before_answer, first_of, unwritten, srlg_answer, answer, ask, bytes_of_first, value, list_named}
use Rattle.linkstate.specs.Meaning.{meaning, Accepted}
use Rattle.rivals.specs.Reads.{application_meant, set_meant, meant, names_meant, Sent, Tells, tells_absent, tells_reading, tells_srlgs, tells_too_many, Reads}
use Rattle.rivals.proofs.SrlgLaws.{distinct-twice}
use Rattle.rivals.proofs.KindLaws.{standard-other, user-other}

-- ---- what is given, and what is meant

value-cond : (k : ℕ) (b : Bool) (x y : List Attribute) → cond b (value_of k x) (value_of k y) ≡ value_of k (cond b x y)
value-cond k true x y = refl
value-cond k false x y = refl

module _ (s : Source) (k : ℕ) (unnamed : (a : ℕ) → member a others ≡ true → s.names a ≡ false → s.application a k ≡ s.general k) where
  application-meant : (a : ℕ) → member a others ≡ true → application_meant (meaning s) a k ≡ value_of k (s.application a k)
  unfolding application_meant meaning
  application-meant a h = go (s.names a) refl
    where
      go : (b : Bool) → s.names a ≡ b → cond b (value_of k (s.application a k)) (value_of k (s.general k)) ≡ value_of k (s.application a k)
      go true e = refl
      go false e = ap (value_of k) (sym (unnamed a h e))

  set-meant : (whom : Subject) → number_too_high whom ≡ false → set_meant (meaning s) whom k ≡ value_of k (set_of s whom k)
  unfolding set_meant set_of number_too_high meaning
  set-meant generally h = refl
  set-meant (standard_no n) h = go (eqb n 0) refl
    where
      go : (b : Bool) → eqb n 0 ≡ b
          → cond b (value_of k (s.rsvp_te k)) (application_meant (meaning s) n k) ≡ value_of k (cond b (s.rsvp_te k) (s.application n k))
      go true e = refl
      go false e = application-meant n (standard-other n h e)
  set-meant (user_no n) h = application-meant (user n) (user-other n h)

  -- A meaning is read from what a question is given.
  pub meant-given : (whom : Subject) → number_too_high whom ≡ false → meant (meaning s) whom k ≡ value_of k (given s whom k)
  unfolding meant given meaning
  meant-given whom h =
      ap (λ (v : List ℕ). cond (is_link_code k) (value_of k (s.bandwidth k)) v) (set-meant whom h) ∙ value-cond k (is_link_code k) (s.bandwidth k) (set_of s whom k)

-- ---- replies

-- An attribute of the kind: it has a value, which stands in the run as it was sent.
pub record Held (s : Source) (sent : Sent) (k : ℕ) (t : Attribute) : Type 0 where
  pub code : t.code ≡ k
  pub some : empty t.value ≡ false
  pub bytes : bytes_at s.bytes t.at t.len ≡ sent k t.value
  pub len : t.len ≡ length (sent k t.value)

module _ (s : Source) (sent : Sent) (k : ℕ) (list : List ℕ) where
  -- The first attribute of a kind is told by its reading.
  first-tells : eqb k 1096 ≡ false → sent k [] ≡ [] → (ts : List Attribute) → ((t : Attribute) → Memᴰ t ts → Held s sent k t)
      → Tells s sent k (first_value ts) list (unwritten list (first_of s.spot ts)) × (bytes_of_first s.bytes ts ≡ sent k (first_value ts))
  unfolding first_value first_of bytes_of_first
  first-tells n none [] h = (tells_absent refl, sym none)
  first-tells n none (t ∷ ts) h =
      let f = h t (Memᴰ.head refl) in
      let same : record { code = k; at = t.at; len = length (sent k t.value); value = t.value } ≡ t =
      ap₂ (λ (c l : ℕ). record { code = c; at = t.at; len = l; value = t.value }) (sym f.code) (sym f.len) in
      let place : bytes_at s.bytes t.at (length (sent k t.value)) ≡ sent k t.value = sym (ap (bytes_at s.bytes t.at) f.len) ∙ f.bytes in (
        subst (λ (u : Attribute). Tells s sent k t.value list (unwritten list (found (reading s.spot u)))) same (tells_reading t.at f.some n place),
        f.bytes,
      )

  -- Different numbers are told by their count.
  srlgs-tell : eqb k 1096 ≡ true → (ns : List ℕ) → distinct ns ≡ ns → Tells s sent k (bytes_of_words ns) list (srlg_answer ns list)
  unfolding srlg_answer bytes_of_words each four empty unless refused_if fault_of_call fault
  srlgs-tell e [] d = tells_absent refl
  srlgs-tell e (n ∷ ns) d = go (ltb (length list) (length (n ∷ ns))) refl
    where
      go : (b : Bool) → ltb (length list) (length (n ∷ ns)) ≡ b
          → Tells s sent k (bytes_of_words (n ∷ ns)) list
          (unless (cond b (refused (refusal_at 5 run_a 0)) accepted) (λ r. unwritten list (ask_refused r)) (record { reply = found (count (length (n ∷ ns))); list = put list 0 (n ∷ ns) }))
      go true c = tells_too_many (n ∷ ns) refl e d refl (ltb-true (length list) (length (n ∷ ns)) c)
      go false c = tells_srlgs (n ∷ ns) refl e d refl (ltb-false (length list) (length (n ∷ ns)) c)

-- ---- every question

module _ (s : Source) (ok : Accepted s) (whom : Subject) (n : number_too_high whom ≡ false) (k : ℕ) (c : is_code k ≡ true) where
  let-pass : before_answer s whom k ≡ accepted
  unfolding before_answer refused_if ◌then◌
  let-pass = rw (n, c) ok

  attributes : List Attribute
  attributes = given s whom k

  asked_is : (list : List ℕ) → ask s whom k list ≡ answer s.spot k attributes list
  unfolding ask unless attributes
  asked_is list = rw let-pass

  value-is : value s whom k ≡ cond (eqb k 1096) [] (bytes_of_first s.bytes (of_kind k attributes))
  unfolding value unless attributes
  value-is = rw let-pass

  module _ (sent : Sent) (none : sent k [] ≡ []) (held : eqb k 1096 ≡ false → (t : Attribute) → Memᴰ t (of_kind k (given s whom k)) → Held s sent k t) (list : List ℕ) where
    tells : Tells s sent k (value_of k attributes) list (answer s.spot k attributes list)
        × (cond (eqb k 1096) [] (bytes_of_first s.bytes (of_kind k attributes)) ≡ cond (eqb k 1096) [] (sent k (value_of k attributes)))
    unfolding value_of answer srlgs attributes
    tells = go (eqb k 1096) refl
      where
        go : (b : Bool) → eqb k 1096 ≡ b
            → Tells s sent k (cond b (bytes_of_words (srlgs attributes)) (first_value (of_kind k attributes))) list
            (cond b (srlg_answer (srlgs attributes) list) (unwritten list (first_of s.spot (of_kind k attributes))))
            × (cond b [] (bytes_of_first s.bytes (of_kind k attributes)) ≡ cond b [] (sent k (cond b (bytes_of_words (srlgs attributes)) (first_value (of_kind k attributes)))))
        go true e = (srlgs-tell s sent k list e (srlgs attributes) (distinct-twice (each (λ t. words t.value) (of_kind 1096 attributes))), refl)
        go false e = first-tells s sent k list e none (of_kind k attributes) (held e)

    pub source-reads : ((a : ℕ) → member a others ≡ true → s.names a ≡ false → s.application a k ≡ s.general k) → Reads s sent (meaning s) whom k list
    unfolding attributes
    source-reads unnamed =
        let m : meant (meaning s) whom k ≡ value_of k attributes = meant-given s k unnamed whom n in
        record { asked = rw (m, asked_is list) tells.0; bytes = value-is ∙ tells.1 ∙ ap (λ (v : List ℕ). cond (eqb k 1096) [] (sent k v)) (sym m) }

-- The list of named applications.
pub source-lists : (s : Source) → Accepted s → list_named s ≡ names_meant (meaning s)
unfolding list_named unless names_meant meaning
source-lists s ok = ap (λ v. unless v named_refused (listed (as_number s.names) (as_number (λ n. s.names (user n))))) ok
