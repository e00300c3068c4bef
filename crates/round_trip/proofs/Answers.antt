-- Every question to an accepted link and the same question to its export have replies that are alike: the link's meaning answers for both.
use mathlib.Core.Path.{◌≡◌, refl, sym, ap, ◌∙◌, subst}
use mathlib.Core.Bool.{Bool, true, false, cond, false≢true}
use mathlib.Core.List.{List, []}
use Prim.Native.Nat.{ℕ}
use native.Mathlib.Omega.{arith}
use borrow.Author.Tests.{eqb-true}
use lib.Dec.{eqb}
use lib.ListN.{length, drop}
use Rattle.linkstate.specs.Lists.{empty, put}
use Rattle.linkstate.specs.Bytes.{bytes_at, words, bytes_of_words}
use Rattle.linkstate.specs.Kinds.{Form, whole_number, two_numbers, float, place_and_length, srlg_count, form_of, is_code}
use Rattle.linkstate.specs.Replies.{fault_of_call, fault, refused_if, ◌then◌, unless, run_a, run_bgp_ls, count, found, Asked, place}
use Rattle.linkstate.specs.Attributes.{Attribute, reading_as, reading}
use Rattle.linkstate.specs.Questions.{Source, Subject, number_too_high, before_answer, unwritten, ask}
use Rattle.linkstate.specs.Meaning.{Accepted}
use Rattle.linkstate.specs.BgpLs.{run_source}
use Rattle.linkstate.proofs.Computing.{computing}
use Rattle.isis.specs.Link.{link_source}
use Rattle.rivals.specs.Reads.{in_bgp_ls, Tells, tells_absent, tells_reading, tells_srlgs, tells_too_many}
use Rattle.rivals.proofs.SrlgLaws.{words-fours}
use Rattle.demands.specs.Demands.{export_of, in_a}
use Rattle.demands.proofs.Demands.{demands}
use Rattle.round_trip.specs.ReadBack.{AlikeReply, same, parts, Alike}

alike_same : (a r : List ℕ) (x y : Asked) → x ≡ y → Alike a r x y
alike_same a r x y e = record { reply = subst (λ (z : Asked). AlikeReply a r x.reply z.reply) e (same x.reply); list = ap (λ (z : Asked). z.list) e }

-- A value whose reading is its place is no TE metric, so run A has it as BGP-LS does.
own : (k : ℕ) (v : List ℕ) → form_of k ≡ place_and_length → in_a k v ≡ v
unfolding computing
own k v f = go (eqb k 1092) refl
  where
    go : (z : Bool) → eqb k 1092 ≡ z → cond z (drop 1 v) v ≡ v
    go true e = let m : form_of 1092 ≡ place_and_length = subst (λ (x : ℕ). form_of x ≡ place_and_length) (eqb-true k 1092 e) f in
        let z : ◌≡◌ {A = ℕ} 0 1 = cc in absurd (omega arith)
    go false e = refl

-- ---- two replies that tell one value

module _ (a r : List ℕ) (k : ℕ) (v : List ℕ) where
  abbrev in_link : ℕ → Attribute
  in_link o = record { code = k; at = o; len = length (in_a k v); value = v }

  abbrev in_run : ℕ → Attribute
  in_run o = record { code = k; at = o; len = length v; value = v }

  reading-alike : (i j : ℕ) → bytes_at a i (length (in_a k v)) ≡ in_a k v → bytes_at r j (length v) ≡ v
      → AlikeReply a r (found (reading (place run_a) (in_link i))) (found (reading (place run_bgp_ls) (in_run j)))
  unfolding reading reading_as
  reading-alike i j e d = go (form_of k) refl
    where
      go : (f : Form) → form_of k ≡ f → AlikeReply a r (found (reading_as f (place run_a) (in_link i))) (found (reading_as f (place run_bgp_ls) (in_run j)))
      go whole_number h = same _
      go two_numbers h = same _
      go float h = same _
      go place_and_length h =
          let o = own k v h in
          let here : bytes_at a i (length v) ≡ bytes_at r j (length v) = subst (λ (w : List ℕ). bytes_at a i (length w) ≡ w) o e ∙ sym d in
          rw o (parts i j (length v) here)
      go srlg_count h = same _

  some : {A : Type 0} → v ≡ [] → empty v ≡ false → A
  unfolding empty
  some e f = absurd (false≢true (sym f ∙ ap empty e))

  either : {A : Type 0} → eqb k 1096 ≡ true → eqb k 1096 ≡ false → A
  either e f = absurd (false≢true (sym f ∙ e))

  numbers : (ns ms : List ℕ) → bytes_of_words ns ≡ v → bytes_of_words ms ≡ v → ns ≡ ms
  numbers ns ms e d = sym (words-fours ns) ∙ ap words (e ∙ sym d) ∙ words-fours ms

  module _ (b c list : List ℕ) where
    alike : (x y : Asked) → Tells (link_source a b c) in_a k v list x → Tells (run_source r) in_bgp_ls k v list y → Alike a r x y
    unfolding link_source run_source unwritten
    alike x y (tells_absent e) (tells_absent d) = alike_same a r _ _ refl
    alike x y (tells_absent e) (tells_reading j f n i) = some e f
    alike x y (tells_absent e) (tells_srlgs ms f n i d h) = some e f
    alike x y (tells_absent e) (tells_too_many ms f n i d h) = some e f
    alike x y (tells_reading i e n p) (tells_absent d) = some d e
    alike x y (tells_reading i e n p) (tells_reading j f m q) = record { reply = reading-alike i j p q; list = refl }
    alike x y (tells_reading i e n p) (tells_srlgs ms f m d h l) = either m n
    alike x y (tells_reading i e n p) (tells_too_many ms f m d h l) = either m n
    alike x y (tells_srlgs ns e n d h l) (tells_absent f) = some f e
    alike x y (tells_srlgs ns e n d h l) (tells_reading j f m q) = either n m
    alike x y (tells_srlgs ns e n d h l) (tells_srlgs ms f m d' h' l') =
        alike_same a r _ _ (ap (λ (z : List ℕ). record { reply = found (count (length z)); list = put list 0 z }) (numbers ns ms h h'))
    alike x y (tells_srlgs ns e n d h l) (tells_too_many ms f m d' h' l') = let z = ap length (numbers ns ms h h') in absurd (omega arith)
    alike x y (tells_too_many ns e n d h l) (tells_absent f) = some f e
    alike x y (tells_too_many ns e n d h l) (tells_reading j f m q) = either n m
    alike x y (tells_too_many ns e n d h l) (tells_srlgs ms f m d' h' l') = let z = ap length (numbers ns ms h h') in absurd (omega arith)
    alike x y (tells_too_many ns e n d h l) (tells_too_many ms f m d' h' l') = alike_same a r _ _ refl

-- ---- every question

-- 6 and 7 refuse the same, whatever is asked.
refused-same : (s t : Source) (whom : Subject) (k : ℕ) (list : List ℕ) → (number_too_high whom ≡ true → ask s whom k list ≡ ask t whom k list)
    × (number_too_high whom ≡ false → is_code k ≡ false → ask s whom k list ≡ ask t whom k list)
unfolding ask before_answer refused_if ◌then◌ unless fault_of_call fault
refused-same s t whom k list = (λ e. rw e, λ e d. rw (e, d))

-- Every question, of any subject and any code.
pub export-answers : (a b c : List ℕ) → Accepted (link_source a b c) → (whom : Subject) (k : ℕ) (list : List ℕ)
    → Alike a (export_of a b c) (ask (link_source a b c) whom k list) (ask (run_source (export_of a b c)) whom k list)
export-answers a b c ok whom k list = go (number_too_high whom) refl (is_code k) refl
  where
    go : (x : Bool) → number_too_high whom ≡ x → (y : Bool) → is_code k ≡ y
        → Alike a (export_of a b c) (ask (link_source a b c) whom k list) (ask (run_source (export_of a b c)) whom k list)
    go true e y d = alike_same a (export_of a b c) _ _ ((refused-same (link_source a b c) (run_source (export_of a b c)) whom k list).0 e)
    go false e false d = alike_same a (export_of a b c) _ _ ((refused-same (link_source a b c) (run_source (export_of a b c)) whom k list).1 e d)
    go false e true d =
        let l = demands.links a b c ok in
        alike a (export_of a b c) k _ b c list _ _ (l.answers.reads whom e k d list).asked (l.exported.read_back.reads whom e k d list).asked
