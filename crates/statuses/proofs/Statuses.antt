-- No function of the C interface answers otherwise than by the statuses of its table: 0 to 5 a question, 6 and 7 named and an export, 16 why, or 128 + n, refused by n from 1 to 7, in run A, run B or the BGP-LS run.
use mathlib.Core.Logic.{◌⊎◌, inl, inr}
use mathlib.Core.Bool.{Bool, true, false, cond, not, ◌&&◌}
use mathlib.Core.List.{List, [], ◌∷◌}
use Prim.Native.Nat.{ℕ, ◌+◌, ◌%◌, ◌≤◌}
use native.Mathlib.Omega.{arith}
use lib.Dec.{eqb, ltb}
use lib.ListN.{length, get_or}
use Rattle.linkstate.specs.Lists.{empty, any, put, member}
use Rattle.linkstate.specs.Kinds.{is_link_code, wrong_at_top, wrong_inside}
use Rattle.linkstate.specs.Replies.{Run, run_a, run_b, run_bgp_ls, place, Refusal, refusal_at, Verdict, accepted, refused, fault, fault_of_call, refused_if, ◌then◌, unless, count, Reply, absent, found, ask_refused, Named, listed, named_refused, Length, bytes, export_refused, Exported, Place}
use Rattle.linkstate.specs.Replies as R
use Rattle.linkstate.specs.Elements.{Element, element, cut, elements, faults, faults_once}
use Rattle.linkstate.specs.Attributes.{Attribute, of_kind, srlgs}
use Rattle.linkstate.specs.Questions.{Source, Subject, generally, standard_no, user_no, given, before_answer, first_of, unwritten, srlg_answer, answer, ask, list_named, write}
use Rattle.linkstate.specs.BgpLs as L
use Rattle.linkstate.specs.BgpLs.{run_verdict, run_source}
use Rattle.linkstate.specs.Masks.{user, as_number}
use Rattle.linkstate.specs.Sides.{Advertisement, names, named, named_with_l, takes_general, of_live, rsvp_te_alone}
use Rattle.linkstate.specs.Why.{Rule, Holder, Why, because, why_refused, Standing, has, legacy_why, application_why, rsvp_te_why, subject_why, carried_why, bandwidth_why, unless_ask_refused}
use Rattle.linkstate.specs.RunWhy.{run_why, top_why, stand_run}
use Rattle.linkstate.specs.Meaning.{meaning}
use Rattle.linkstate.specs.Export.{export}
use Rattle.isis.specs.RunA as A
use Rattle.isis.specs.RunB as B
use Rattle.isis.specs.Types.{wrong_in_a}
use Rattle.isis.specs.MaskHeader.{header_length, mask_too_long, l_for_nobody, l_flag}
use Rattle.isis.specs.Link.{link_verdict, link_source, export_link}
use Rattle.isis.specs.Why.{link_why, side_why, stand_a, stand_of}
use Rattle.statuses.specs.Words.{run_number, refusal_words, reply_words, ask_words, named_words, length_words, why_words}

-- ---- refusals

abbrev pub Known : Refusal → Type 0
Known r = (1 ≤ r.number) × (r.number ≤ 8) × (run_number r.at.run ≤ 2)

pub data Sound : Verdict → Type 0 where
  passes : Sound accepted
  known : {r : Refusal} → Known r → Sound (refused r)

sound-fault : (n : ℕ) (run : Run) (at : ℕ) → 1 ≤ n → n ≤ 8 → run_number run ≤ 2 → Sound (fault n run at)
unfolding fault refusal_at place
sound-fault n run at l h r = known (l, h, r)

sound-if : (b : Bool) (n : ℕ) → 1 ≤ n → n ≤ 8 → Sound (refused_if b n)
unfolding refused_if fault_of_call
sound-if true n l h = sound-fault n run_a 0 l h (omega arith)
sound-if false n l h = passes

sound-then : (u v : Verdict) → Sound u → Sound v → Sound (u then v)
unfolding ◌then◌
sound-then accepted v p q = q
sound-then (refused r) v (known p) q = known p

sound-cond : (b : Bool) (u v : Verdict) → Sound u → Sound v → Sound (cond b u v)
sound-cond true u v p q = p
sound-cond false u v p q = q

module _ (run : Run) (low : run_number run ≤ 2) (check : ℕ → ℕ → List ℕ → Verdict) (sound : (at t : ℕ) (v : List ℕ) → Sound (check at t v)) where
  sound-faults : (es : List Element) → Sound (faults run check es)
  unfolding faults
  sound-faults [] = passes
  sound-faults (cut at ∷ es) = sound-fault 3 run at (omega arith) (omega arith) low
  sound-faults (element at t v ∷ es) = sound-then (check at t v) (faults run check es) (sound at t v) (sound-faults es)

  sound-once : (is_known : ℕ → Bool) (seen : List ℕ) (es : List Element) → Sound (faults_once run is_known check seen es)
  unfolding faults_once
  sound-once is_known seen [] = passes
  sound-once is_known seen (cut at ∷ es) = sound-fault 3 run at (omega arith) (omega arith) low
  sound-once is_known seen (element at t v ∷ es) =
      sound-then _ _ (sound at t v)
      (sound-then _ _ (sound-cond (is_known t && member t seen) _ _ (sound-fault 8 run at (omega arith) (omega arith) low) passes)
      (sound-once is_known (t ∷ seen) es))

-- Faults 3 and 4 of a run.
module _ (run : Run) (low : run_number run ≤ 2) (at : ℕ) where
  three : Sound (fault 3 run at)
  three = sound-fault 3 run at (omega arith) (omega arith) low

  four : Sound (fault 4 run at)
  four = sound-fault 4 run at (omega arith) (omega arith) low

-- ---- the checks of run A, of run B, and of a BGP-LS run

a-attribute : (at t : ℕ) (v : List ℕ) → Sound (A.check_attribute at t v)
unfolding A.check_attribute
a-attribute at t v = sound-cond (wrong_in_a t (length v)) _ _ (four run_a (omega arith) at) passes

a-asla : (at : ℕ) (v : List ℕ) → Sound (A.check_asla at v)
unfolding A.check_asla
a-asla at v =
    sound-cond (ltb (length v) 2) _ _ (three run_a (omega arith) at)
    (sound-cond (mask_too_long v) _ _ passes
    (sound-cond (ltb (length v) (header_length v)) _ _ (three run_a (omega arith) at)
    (sound-cond (l_for_nobody v) _ _ passes
    (sound-cond (l_flag v) _ _ passes (sound-once run_a (omega arith) A.check_attribute a-attribute A.known_type [] (A.list_elements at v))))))

a-element : (at t : ℕ) (v : List ℕ) → Sound (A.check_a at t v)
unfolding A.check_a
a-element at t v = sound-cond (eqb t 16) _ _ (a-asla at v) (a-attribute at t v)

b-identifier : (at t : ℕ) (v : List ℕ) → Sound (B.check_identifier at t v)
unfolding B.check_identifier
b-identifier at t v = sound-cond (any (λ q. eqb t q.type && not (eqb (length v) q.len)) B.known_identifiers) _ _ (four run_b (omega arith) at) passes

b-srlg : (at : ℕ) (value v : List ℕ) → Sound (B.check_srlg at value v)
unfolding B.check_srlg
b-srlg at value v =
    sound-cond (ltb (length value) 9) _ _ (three run_b (omega arith) at)
    (sound-cond (mask_too_long v) _ _ passes
    (sound-cond (ltb (length v) (header_length v + 1)) _ _ (three run_b (omega arith) at)
    (sound-cond (ltb (length v) (header_length v + 1 + B.identifier_bytes v)) _ _ (three run_b (omega arith) at)
    (sound-then _ _ (sound-faults run_b (omega arith) B.check_identifier b-identifier (B.identifiers at v))
    (sound-cond (B.ignored v (B.identifiers at v)) _ _ passes
    (sound-cond (l_flag v) _ _ passes (sound-cond (eqb (length (B.srlg_values v) % 4) 0) _ _ passes (four run_b (omega arith) at))))))))

b-element : (at t : ℕ) (v : List ℕ) → Sound (B.check_b at t v)
unfolding B.check_b
b-element at t v = sound-cond (eqb t 238) _ _ (b-srlg at v (B.after_neighbour v)) passes

pub link-sound : (a b c : List ℕ) → Sound (link_verdict a b c)
unfolding link_verdict
link-sound a b c =
    sound-then _ _ (sound-if _ 1 (omega arith) (omega arith))
    (sound-then _ _ (sound-if _ 2 (omega arith) (omega arith))
    (sound-then _ _ (sound-faults run_a (omega arith) A.check_a a-element (elements 1 0 a))
    (sound-faults run_b (omega arith) B.check_b b-element (elements 1 0 b))))

r-inner : (at t : ℕ) (v : List ℕ) → Sound (L.check_inner at t v)
unfolding L.check_inner
r-inner at t v = sound-cond (wrong_inside t (length v)) _ _ (four run_bgp_ls (omega arith) at) passes

r-asla : (at : ℕ) (v : List ℕ) → Sound (L.check_asla at v)
unfolding L.check_asla
r-asla at v =
    sound-cond (ltb (length v) 4) _ _ (three run_bgp_ls (omega arith) at)
    (sound-cond (not (L.not_ignored v)) _ _ passes
    (sound-cond (ltb (length v) (L.asla_header v)) _ _ (three run_bgp_ls (omega arith) at)
    (sound-once run_bgp_ls (omega arith) L.check_inner r-inner L.known_inside [] (L.inner_elements at v))))

r-element : (at t : ℕ) (v : List ℕ) → Sound (L.check_top at t v)
unfolding L.check_top
r-element at t v = sound-cond (eqb t 1122) _ _ (r-asla at v) (sound-cond (wrong_at_top t (length v)) _ _ (four run_bgp_ls (omega arith) at) passes)

pub run_sound : (r : List ℕ) → Sound (run_verdict r)
unfolding run_verdict
run_sound r = sound-then _ _ (sound-if _ 1 (omega arith) (omega arith)) (sound-faults run_bgp_ls (omega arith) L.check_top r-element (elements 2 0 r))

-- ---- statuses

-- Refused by 1 to 8, in one of three runs.
abbrev pub IsRefusal : List ℕ → Type 0
IsRefusal w = (129 ≤ get_or w 0 0) × (get_or w 0 0 ≤ 136) × (get_or w 3 0 ≤ 2)

refusal-told : (r : Refusal) → Known r → IsRefusal (refusal_words r)
refusal-told r k = (omega arith, omega arith, k.2)

-- A status from a first to a last one, or a refusal.
abbrev pub Tells : ℕ → ℕ → List ℕ → Type 0
Tells first last w = ((first ≤ get_or w 0 0) × (get_or w 0 0 ≤ last)) ⊎ IsRefusal w

abbrev KnownReply : Reply → Type 0
KnownReply absent = Unit {0}
KnownReply (found x) = Unit {0}
KnownReply (ask_refused r) = Known r

reply-told : (bits : ℕ) (x : Reply) → KnownReply x → Tells 0 5 (reply_words bits x)
reply-told bits absent k = inl (omega arith, omega arith)
reply-told bits (found (R.whole n)) k = inl (omega arith, omega arith)
reply-told bits (found (R.pair m n)) k = inl (omega arith, omega arith)
reply-told bits (found (R.bandwidth x)) k = inl (omega arith, omega arith)
reply-told bits (found (R.part p n)) k = inl (omega arith, omega arith)
reply-told bits (found (R.count n)) k = inl (omega arith, omega arith)
reply-told bits (ask_refused r) k = inr (refusal-told r k)

known-first : (spot : ℕ → Place) (ts : List Attribute) → KnownReply (first_of spot ts)
unfolding first_of
known-first spot [] = tt
known-first spot (t ∷ ts) = tt

known-srlgs : (ns list : List ℕ) → KnownReply (srlg_answer ns list).reply
unfolding srlg_answer unwritten refused_if fault_of_call fault refusal_at place unless
known-srlgs ns list = go (empty ns) (ltb (length list) (length ns))
  where
    go : (b d : Bool) → KnownReply
        (cond b (unwritten list absent)
        (unless (refused_if d 5) (λ r. unwritten list (ask_refused r)) (record { reply = found (count (length ns)); list = put list 0 ns }))).reply
    go true d = tt
    go false true = (omega arith, omega arith, omega arith)
    go false false = tt

-- The rules of why refuse nothing.
data Ruled : Why → Type 0 where
  ruled : {r : Rule} {h : Holder} → Ruled (because r h)

ruled-cond : (b : Bool) (x y : Why) → Ruled x → Ruled y → Ruled (cond b x y)
ruled-cond true x y p q = p
ruled-cond false x y p q = q

module _ (k : ℕ) (s : Standing) where
  ruled-application : (n : ℕ) → Ruled (application_why n k s)
  unfolding application_why
  ruled-application n = ruled-cond (named_with_l n s.side) _ _ ruled (ruled-cond (named n s.side) _ _ ruled ruled)

  ruled-rsvp-te : Ruled (rsvp_te_why k s)
  unfolding rsvp_te_why legacy_why
  ruled-rsvp-te =
      ruled-cond (takes_general s.side) _ _ ruled
      (ruled-cond (named_with_l 0 s.side) _ _ ruled (ruled-cond (has k (of_live (names 0) s.side)) _ _ ruled ruled))

  ruled-subject : (x : Why) → Ruled x → (whom : Subject) → Ruled (subject_why x whom k s)
  unfolding subject_why
  ruled-subject x p generally = ruled
  ruled-subject x p (standard_no n) = ruled-cond (eqb n 0) _ _ p (ruled-application n)
  ruled-subject x p (user_no n) = ruled-application (user n)

  ruled-carried : (p : Advertisement → Bool) → Ruled (carried_why k p s)
  unfolding carried_why legacy_why
  ruled-carried p = ruled-cond (has k (of_live p s.side)) _ _ ruled ruled

  ruled-bandwidth : Ruled (bandwidth_why k s)
  unfolding bandwidth_why legacy_why
  ruled-bandwidth =
      ruled-cond (eqb k 1089) _ _
      (ruled-cond (has k s.side.legacy) _ _ ruled (ruled-carried (λ d. not d.L)))
      (ruled-cond (named_with_l 0 s.side) _ _ ruled (ruled-carried rsvp_te_alone))

-- A question to a source whose checks refuse soundly.
module _ (s : Source) (sound : Sound s.verdict) where
  before-sound : (whom : Subject) (k : ℕ) → Sound (before_answer s whom k)
  unfolding before_answer
  before-sound whom k = sound-then _ _ (sound-if _ 6 (omega arith) (omega arith)) (sound-then _ _ (sound-if _ 7 (omega arith) (omega arith)) sound)

  known-ask : (whom : Subject) (k : ℕ) (list : List ℕ) → KnownReply (ask s whom k list).reply
  unfolding ask answer unless unwritten
  known-ask whom k list = go (before_answer s whom k) (before-sound whom k) (eqb k 1096)
    where
      go : (v : Verdict) → Sound v → (b : Bool)
          → KnownReply (unless v (λ r. unwritten list (ask_refused r))
          (cond b (srlg_answer (srlgs (given s whom k)) list) (unwritten list (first_of s.spot (of_kind k (given s whom k)))))).reply
      go (refused r) (known p) b = p
      go accepted p true = known-srlgs (srlgs (given s whom k)) list
      go accepted p false = known-first s.spot (of_kind k (given s whom k))

  ask-tells : (whom : Subject) (k : ℕ) (list : List ℕ) → Tells 0 5 (ask_words s whom k list)
  unfolding ask_words
  ask-tells whom k list = reply-told _ (ask s whom k list).reply (known-ask whom k list)

  why-tells : (whom : Subject) (k : ℕ) (w : Why) → Ruled w → Tells 16 16 (why_words (unless_ask_refused s whom k w))
  unfolding unless_ask_refused unless
  why-tells whom k w t = go (before_answer s whom k) (before-sound whom k) w t
    where
      go : (v : Verdict) → Sound v → (w : Why) → Ruled w → Tells 16 16 (why_words (unless v why_refused w))
      go (refused r) (known p) w t = inr (refusal-told r p)
      go accepted p (because r h) ruled = inl (omega arith, omega arith)
      go accepted p (why_refused _) t = elim t [ ]

  named-tells : Tells 6 6 (named_words (list_named s))
  unfolding list_named unless
  named-tells = go s.verdict sound
    where
      go : (v : Verdict) → Sound v → Tells 6 6 (named_words (unless v named_refused (listed (as_number s.names) (as_number (λ n. s.names (user n))))))
      go (refused r) (known p) = inr (refusal-told r p)
      go accepted p = inl (omega arith, omega arith)

write-tells : (v : Verdict) → Sound v → (result buffer : List ℕ) → Tells 7 7 (length_words (write v result buffer).reply)
unfolding write unless
write-tells v sound result buffer =
    go (v then refused_if (ltb (length buffer) (length result)) 5) (sound-then v _ sound (sound-if _ 5 (omega arith) (omega arith)))
  where
    go : (v : Verdict) → Sound v
        → Tells 7 7 (length_words
        (unless {A = Exported} v (λ r. record { reply = export_refused r; buffer = buffer })
        (record { reply = bytes (length result); buffer = put buffer 0 result })).reply)
    go (refused r) (known p) = inr (refusal-told r p)
    go accepted p = inl (omega arith, omega arith)

-- ---- the functions of the interface

module _ (a b c : List ℕ) where
  sound-link : Sound (link_source a b c).verdict
  unfolding link_source
  sound-link = link-sound a b c

  pub link-ask-tells : (whom : Subject) (k : ℕ) (list : List ℕ) → Tells 0 5 (ask_words (link_source a b c) whom k list)
  link-ask-tells = ask-tells (link_source a b c) sound-link

  pub link-why-tells : (whom : Subject) (k : ℕ) → Tells 16 16 (why_words (link_why a b c whom k))
  unfolding link_why side_why
  link-why-tells whom k =
      why-tells (link_source a b c) sound-link whom k _
      (ruled-cond (is_link_code k) _ _ (ruled-bandwidth k (stand_a a))
      (ruled-subject k (stand_of a b c k) (rsvp_te_why k (stand_of a b c k)) (ruled-rsvp-te k (stand_of a b c k)) whom))

  pub link-named-tells : Tells 6 6 (named_words (list_named (link_source a b c)))
  link-named-tells = named-tells (link_source a b c) sound-link

  pub export-tells : (buffer : List ℕ) → Tells 7 7 (length_words (export_link a b c buffer).reply)
  unfolding export_link
  export-tells buffer = write-tells (link_verdict a b c) (link-sound a b c) (export (meaning (link_source a b c))) buffer

module _ (r : List ℕ) where
  sound-run : Sound (run_source r).verdict
  unfolding run_source
  sound-run = run_sound r

  pub run-ask-tells : (whom : Subject) (k : ℕ) (list : List ℕ) → Tells 0 5 (ask_words (run_source r) whom k list)
  run-ask-tells = ask-tells (run_source r) sound-run

  pub run-why-tells : (whom : Subject) (k : ℕ) → Tells 16 16 (why_words (run_why r whom k))
  unfolding run_why top_why
  run-why-tells whom k = why-tells (run_source r) sound-run whom k _ (ruled-cond (is_link_code k) _ _ ruled (ruled-subject k (stand_run r) top_why ruled whom))

  pub run-named-tells : Tells 6 6 (named_words (list_named (run_source r)))
  run-named-tells = named-tells (run_source r) sound-run
