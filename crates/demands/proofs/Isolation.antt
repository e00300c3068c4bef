-- E9, of links: what is signed in specs/Isolation.antt, from the laws over two sides. Assumes nothing.
use mathlib.Core.Path.{◌≡◌, refl, sym, ap, ap₂, ◌∙◌, subst}
use mathlib.Core.Bool.{Bool, true, false, cond, ◌&&◌, not, false≢true}
use mathlib.Core.List.{List, [], ◌∷◌, ◌++◌, Memᴰ}
use Prim.Native.Nat.{ℕ, zero, suc, ◌+◌, ◌%◌, ◌≤◌, ◌<◌}
use native.Mathlib.Omega.{arith}
use borrow.Author.Tests.{eqb-true, not-true}
use lib.Dec.{eqb, leb}
use lib.ListN.{take, drop, get_or}
use lib.Seq.{get_or-take, take-take, take-nil}
use Rattle.linkstate.specs.Lists.{keep, all, each, member}
use Rattle.linkstate.specs.Bytes.{words, distinct}
use Rattle.linkstate.specs.Kinds.{link_codes, application_codes, is_code}
use Rattle.linkstate.specs.Masks.{user}
use Rattle.linkstate.specs.Replies.{Place, Verdict, Asked, ask_refused, fault, fault_of_call, refused_if, ◌then◌, unless}
use Rattle.linkstate.specs.Elements.{Element, elements}
use Rattle.linkstate.specs.Attributes.{Attribute, attribute, of_kind, srlgs, value_of}
use Rattle.linkstate.specs.Sides.{names, application_set, rsvp_te_kind}
use Rattle.linkstate.specs.Questions.{Source, Subject, generally, standard_no, user_no, number_too_high, set_of, given, before_answer, first_of, unwritten, srlg_answer, answer, ask, value}
use Rattle.linkstate.specs.Meaning.{meaning, row, Accepted}
use Rattle.linkstate.proofs.ListLaws.{and_l, and_r, all-mem, map-ext, member-mem}
use Rattle.linkstate.proofs.Computing.{computing}
use Rattle.isis.specs.Types.{code_of_type}
use Rattle.isis.specs.MaskHeader.{l_flag, sabm_length, udabm_length, header_length, mask_too_long, l_for_nobody, advertisement}
use Rattle.isis.specs.RunA.{list_elements, attributes_of, live_asla, asla_advertisements, side_a}
use Rattle.isis.specs.RunB.{side_b}
use Rattle.isis.specs.Link.{side_of, link_source}
use Rattle.isis.proofs.Computing.{computing as isis-computing}
use Rattle.rivals.specs.Reads.{meant}
use Rattle.rivals.proofs.KindLaws.{application-code, link-code}
use Rattle.rivals.proofs.SourceReads.{meant-given}
use Rattle.demands.specs.Demands.{in_a}
use Rattle.demands.specs.Isolation.{Pairwise, none, more, SameButValue, same, other_value, ChangedFor, unchanged, changed, IsAbout, Isolated, Isolation}
use Rattle.demands.proofs.LinkReads.{unnamed, link-answers}
use Rattle.demands.proofs.IsolatedSides.{not-zero, kind-joined, value_same, with, SameOthers, Altered, unaltered, altered, AlikeBut, general-same, application-same, rsvp_te-same, bandwidth-same}

-- ---- headers

drop-take : (i j : ℕ) (l : List ℕ) → drop i (take (i + j) l) ≡ take j (drop i l)
drop-take zero j l = let e : 0 + j ≡ j = omega arith in rw e
drop-take (suc i) j [] = rw (take-nil {A = ℕ} (suc i + j), take-nil {A = ℕ} j)
drop-take (suc i) j (x ∷ l) = let e : suc i + j ≡ suc (i + j) = omega arith in rw e (drop-take i j l)

-- Two values that are equal up to the masks' end have the same L-flag, lengths and masks.
module _ (v w : List ℕ) (e : take (header_length v) v ≡ take (header_length v) w) where
  byte : (i : ℕ) → i < header_length v → get_or w i 0 ≡ get_or v i 0
  byte i h = sym (get_or-take (header_length v) w i 0 h) ∙ ap (λ (l : List ℕ). get_or l i 0) (sym e) ∙ get_or-take (header_length v) v i 0 h

  part : (i j : ℕ) → i + j ≤ header_length v → take j (drop i w) ≡ take j (drop i v)
  part i j h =
      sym (drop-take i j w)
      ∙ ap (drop i) (sym (take-take (i + j) (header_length v) w h) ∙ ap (take (i + j)) (sym e) ∙ take-take (i + j) (header_length v) v h)
      ∙ drop-take i j v

  flag_same : l_flag w ≡ l_flag v
  unfolding l_flag header_length
  flag_same = ap (λ (x : ℕ). leb 128 x) (byte 0 (omega arith))

  standard-same : sabm_length w ≡ sabm_length v
  unfolding sabm_length header_length
  standard-same = ap (λ (x : ℕ). x % 128) (byte 0 (omega arith))

  user-same : udabm_length w ≡ udabm_length v
  unfolding udabm_length header_length
  user-same = ap (λ (x : ℕ). x % 128) (byte 1 (omega arith))

  live_same : live_asla w ≡ live_asla v
  unfolding live_asla mask_too_long l_for_nobody
  live_same = rw (flag_same, standard-same, user-same)

  advertised : (ts : List Attribute) → advertisement w ts ≡ with (l_flag v) (advertisement v []).standard_mask (advertisement v []).user_mask (cond (l_flag v) [] ts)
  unfolding advertisement header_length
  advertised ts =
      rw (flag_same, standard-same, user-same, part 2 (sabm_length v) (omega arith), part (2 + sabm_length v) (udabm_length v) (omega arith))

-- ---- elements

-- Lists that are the same but for values of the applications' kinds.
kinds-same : (es fs : List Element) → Pairwise SameButValue es fs → SameOthers (each attributes_of es) (each attributes_of fs)
unfolding keep each of_kind attributes_of attribute
kinds-same [] [] none k m = refl
kinds-same [] (f ∷ fs) p k m = elim p [ ]
kinds-same (e ∷ es) [] p k m = elim p [ ]
kinds-same (e ∷ es) (f ∷ fs) (more h r) k m = kind-joined k (attributes_of e) (attributes_of f) _ _ (one e f h) (kinds-same es fs r k m)
  where
    one : (e f : Element) → SameButValue e f → of_kind k (attributes_of e) ≡ of_kind k (attributes_of f)
    one e f (same x) = refl
    one e f (other_value at t v w known len) = rw (apart (eqb k (code_of_type t)) refl)
      where
        apart : (c : Bool) → eqb k (code_of_type t) ≡ c → eqb k (code_of_type t) ≡ false
        apart true i = absurd (false≢true (sym m ∙ subst (λ (x : ℕ). member x application_codes ≡ true) (sym (eqb-true k (code_of_type t) i)) known))
        apart false i = i

asla-code : code_of_type 16 ≡ 0
unfolding isis-computing
asla-code = refl

-- Run A's own elements: a changed ASLA is no kind.
legacy-same : (b : ℕ) (es fs : List Element) → Pairwise (ChangedFor b) es fs → (k : ℕ) → eqb k 0 ≡ false → of_kind k (each attributes_of es) ≡ of_kind k (each attributes_of fs)
unfolding keep each of_kind attributes_of attribute
legacy-same b [] [] none k z = refl
legacy-same b [] (f ∷ fs) p k z = elim p [ ]
legacy-same b (e ∷ es) [] p k z = elim p [ ]
legacy-same b (e ∷ es) (f ∷ fs) (more h r) k z = kind-joined k (attributes_of e) (attributes_of f) _ _ (one e f h) (legacy-same b es fs r k z)
  where
    one : (e f : Element) → ChangedFor b e f → of_kind k (attributes_of e) ≡ of_kind k (attributes_of f)
    one e f (unchanged x) = refl
    one e f (changed at v w live alone len header list) = rw (asla-code, z)

beside : {A : Type 0} (R : A → A → Type 0) → ((x : A) → R x x) → (xs ys zs : List A) → Pairwise R ys zs → Pairwise R (xs ++ ys) (xs ++ zs)
beside R i [] ys zs p = p
beside R i (x ∷ xs) ys zs p = more (i x) (beside R i xs ys zs p)

live_alike : (b : ℕ) (es fs : List Element) → Pairwise (ChangedFor b) es fs → Pairwise (Altered b) (each asla_advertisements es) (each asla_advertisements fs)
unfolding each asla_advertisements names
live_alike b [] [] none = none
live_alike b [] (f ∷ fs) p = elim p [ ]
live_alike b (e ∷ es) [] p = elim p [ ]
live_alike b (e ∷ es) (f ∷ fs) (more h r) = one e f h (live_alike b es fs r)
  where
    one : (e f : Element) → ChangedFor b e f → Pairwise (Altered b) (each asla_advertisements es) (each asla_advertisements fs)
        → Pairwise (Altered b) (asla_advertisements e ++ each asla_advertisements es) (asla_advertisements f ++ each asla_advertisements fs)
    one e f (unchanged x) p = beside (Altered b) unaltered (asla_advertisements x) _ _ p
    one e f (changed at v w live alone len header list) p = rw (live_same v w header, live, advertised v v refl, advertised v w header) (more pair p)
      where
        lists : (c : Bool) (ts us : List Attribute) → SameOthers ts us → SameOthers (cond c [] ts) (cond c [] us)
        lists true ts us o k m = refl
        lists false ts us o k m = o k m

        pair : Altered b (with (l_flag v) (advertisement v []).standard_mask (advertisement v []).user_mask (cond (l_flag v) [] (each attributes_of (list_elements at v))))
            (with (l_flag v) (advertisement v []).standard_mask (advertisement v []).user_mask (cond (l_flag v) [] (each attributes_of (list_elements at w))))
        pair = altered _ _ _ _ _ (record { named = alone.named; alone = alone.alone }) (lists (l_flag v) _ _ (kinds-same _ _ list))

sides-alike : (b : ℕ) (a e : List ℕ) → Pairwise (ChangedFor b) (elements 1 0 a) (elements 1 0 e) → AlikeBut b (side_a a) (side_a e)
unfolding side_a
sides-alike b a e p = record { legacy = legacy-same b _ _ p; live = live_alike b _ _ p }

-- A side is alike itself.
paired : {A : Type 0} (R : A → A → Type 0) → ((x : A) → R x x) → (xs : List A) → Pairwise R xs xs
paired R i [] = none
paired R i (x ∷ xs) = more (i x) (paired R i xs)

-- ---- links

-- The link's kinds have no code 0, and are none of the applications'.
link_apart : all (λ k. not (eqb k 0) && not (member k application_codes)) link_codes ≡ true
unfolding computing
link_apart = refl

all_codes : all is_code application_codes ≡ true
unfolding computing
all_codes = refl

-- The answer of a kind is told by the attributes of that kind.
answer-same : (spot : ℕ → Place) (k : ℕ) (ts us : List Attribute) (list : List ℕ) → of_kind k ts ≡ of_kind k us → answer spot k ts list ≡ answer spot k us list
unfolding answer srlgs
answer-same spot k ts us list h = go (eqb k 1096) refl
  where
    numbers : List Attribute → Asked
    numbers xs = srlg_answer (distinct (each (λ t. words t.value) xs)) list

    go : (z : Bool) → eqb k 1096 ≡ z
        → cond z (numbers (of_kind 1096 ts)) (unwritten list (first_of spot (of_kind k ts))) ≡ cond z (numbers (of_kind 1096 us)) (unwritten list (first_of spot (of_kind k us)))
    go true i = ap numbers (subst (λ (x : ℕ). of_kind x ts ≡ of_kind x us) (eqb-true k 1096 i) h)
    go false i = ap (λ (xs : List Attribute). unwritten list (first_of spot xs)) h

ask-of : (s t : Source) → s.spot ≡ t.spot → s.verdict ≡ t.verdict → (whom : Subject) (k : ℕ) (list : List ℕ) → of_kind k (given s whom k) ≡ of_kind k (given t whom k)
    → ask s whom k list ≡ ask t whom k list
unfolding ask before_answer
ask-of s t spots verdicts whom k list h =
    ap₂ (λ (v : Verdict) (x : Asked). unless (refused_if (number_too_high whom) 6 then refused_if (not (is_code k)) 7 then v) (λ r. unwritten list (ask_refused r)) x) verdicts
    (answer-same s.spot k (given s whom k) (given t whom k) list h ∙ ap (λ (at : ℕ → Place). answer at k (given t whom k) list) spots)

-- Two links with equal B and C, whose sides A are alike but for what b alone is given.
module _ (b : ℕ) (a e f c : List ℕ) (alike : AlikeBut b (side_a a) (side_a e)) where
  -- Whichever side a kind stands on.
  sides-of : (k : ℕ) → AlikeBut b (side_of a f c k) (side_of e f c k)
  unfolding side_of
  sides-of k = go (eqb k 1096)
    where
      go : (z : Bool) → AlikeBut b (cond z (side_b f c) (side_a a)) (cond z (side_b f c) (side_a e))
      go true = record { legacy = λ k z. refl; live = paired (Altered b) unaltered (side_b f c).live }
      go false = alike

  module _ (k : ℕ) (known : Memᴰ k application_codes) where
    set_same : (whom : Subject) → (IsAbout b whom → ⊥) → of_kind k (set_of (link_source a f c) whom k) ≡ of_kind k (set_of (link_source e f c) whom k)
    unfolding set_of link_source
    set_same generally other = ap (of_kind k) (general-same b _ _ (sides-of k))
    set_same (standard_no n) other = go (eqb n 0) refl
      where
        go : (z : Bool) → eqb n 0 ≡ z
            → of_kind k (cond z (rsvp_te_kind k (side_of a f c k)) (application_set n (side_of a f c k))) ≡ of_kind k (cond z (rsvp_te_kind k (side_of e f c k)) (application_set n (side_of e f c k)))
        go true i = rsvp_te-same b _ _ (sides-of k) k (not-zero known) (λ z. other (eqb-true n 0 i ∙ sym z))
        go false i = application-same b _ _ (sides-of k) k (not-zero known) n other
    set_same (user_no n) other = application-same b _ _ (sides-of k) k (not-zero known) (user n) other

    given-same : (whom : Subject) → (IsAbout b whom → ⊥) → of_kind k (given (link_source a f c) whom k) ≡ of_kind k (given (link_source e f c) whom k)
    unfolding given
    given-same whom other = rw (application-code known).0 (set_same whom other)

  link-same : (whom : Subject) (k : ℕ) → Memᴰ k link_codes → of_kind k (given (link_source a f c) whom k) ≡ of_kind k (given (link_source e f c) whom k)
  unfolding given link_source
  link-same whom k known =
      let apart = all-mem (λ k. not (eqb k 0) && not (member k application_codes)) link_codes link_apart known in
      let zero = not-true (eqb k 0) (and_l (not (eqb k 0)) (not (member k application_codes)) apart) in
      let own = not-true (member k application_codes) (and_r (not (eqb k 0)) (not (member k application_codes)) apart) in
      rw (link-code known).0 (bandwidth-same b _ _ alike k zero own)

  module _ (ok : Accepted (link_source a f c)) (fine : Accepted (link_source e f c)) where
    ask-same : (whom : Subject) (k : ℕ) (list : List ℕ) → of_kind k (given (link_source a f c) whom k) ≡ of_kind k (given (link_source e f c) whom k)
        → ask (link_source a f c) whom k list ≡ ask (link_source e f c) whom k list
    unfolding link_source
    ask-same whom k list h = ask-of (link_source a f c) (link_source e f c) refl (ok ∙ sym fine) whom k list h

    meant-same : (whom : Subject) → (IsAbout b whom → ⊥) → number_too_high whom ≡ false → (k : ℕ) → Memᴰ k application_codes
        → meant (meaning (link_source a f c)) whom k ≡ meant (meaning (link_source e f c)) whom k
    meant-same whom other low k known =
        meant-given (link_source a f c) k (unnamed a f c k) whom low
        ∙ value_same k _ _ (given-same k known whom other)
        ∙ sym (meant-given (link_source e f c) k (unnamed e f c k) whom low)

    bytes_same : (whom : Subject) → (IsAbout b whom → ⊥) → (k : ℕ) → Memᴰ k application_codes → value (link_source a f c) whom k ≡ value (link_source e f c) whom k
    unfolding value before_answer fault fault_of_call refused_if ◌then◌ unless
    bytes_same whom other k known = go (number_too_high whom) refl
      where
        known-code : is_code k ≡ true
        known-code = all-mem is_code application_codes all_codes known

        go : (z : Bool) → number_too_high whom ≡ z → value (link_source a f c) whom k ≡ value (link_source e f c) whom k
        go true i = rw i
        go false i =
            ((link-answers a f c ok).reads whom i k known-code []).bytes
            ∙ ap (λ (v : List ℕ). cond (eqb k 1096) [] (in_a k v)) (meant-same whom other i k known)
            ∙ sym ((link-answers e f c fine).reads whom i k known-code []).bytes

    -- A set is the same where each of its kinds is.
    row_same : (ts us : ℕ → List Attribute) → ((k : ℕ) → Memᴰ k application_codes → of_kind k (ts k) ≡ of_kind k (us k)) → row (λ k. value_of k (ts k)) ≡ row (λ k. value_of k (us k))
    unfolding row
    row_same ts us h = map-ext (λ k. value_of k (ts k)) (λ k. value_of k (us k)) application_codes (λ k m. value_same k (ts k) (us k) (h k m))

    isolated : Isolated b a e f c
    unfolding meaning link_source
    isolated =
        record {
          answers = λ whom other k m list. ask-same whom k list (given-same k (member-mem k application_codes m) whom other);
          values = λ whom other k m. bytes_same whom other k (member-mem k application_codes m);
          sets = λ n other. row_same _ _ (λ k m. application-same b _ _ (sides-of k) k (not-zero m) n other);
          rsvp_te = λ other. row_same _ _ (λ k m. rsvp_te-same b _ _ (sides-of k) k (not-zero m) other);
          general = row_same _ _ (λ k m. ap (of_kind k) (general-same b _ _ (sides-of k)));
          bandwidths = λ whom k m list. ask-same whom k list (link-same whom k (member-mem k link_codes m));
        }

pub isolation : Isolation
isolation = record { links = λ b a e f c ok fine p. isolated b a e f c (sides-alike b a e p) ok fine }
