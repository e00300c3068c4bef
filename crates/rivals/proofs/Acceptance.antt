-- Rule L18, what accepted means. The definitions say it of the checks of the bytes; these theorems say it of the replies: what is accepted is refused
-- a question by 5, 6 or 7 only and an export by 5 only, and what is not accepted is refused by what the checks say.
use mathlib.Core.Path.{◌≡◌, refl, sym, ap, ◌∙◌, subst}
use mathlib.Core.Bool.{Bool, true, false, cond, not, false≢true, ◌&&◌}
use mathlib.Core.List.{List, [], ◌∷◌}
use Prim.Native.Nat.{ℕ}
use native.Mathlib.Omega.{arith}
use borrow.Author.Tests.{not-true}
use lib.Dec.{eqb, ltb}
use lib.ListN.{length}
use Rattle.linkstate.specs.Lists.{all, empty, member, put}
use Rattle.linkstate.specs.Limits.{most_in_bgp_ls}
use Rattle.linkstate.specs.Kinds.{is_code, wrong_at_top, wrong_inside}
use Rattle.linkstate.specs.Attributes.{Attribute, of_kind, srlgs}
use Rattle.linkstate.specs.Replies.{Run, Place, run_a, run_bgp_ls, refusal_at, Refusal, Verdict, accepted, refused, fault, fault_of_call, refused_if, ◌then◌, unless, count, absent, found, ask_refused, Asked, bytes, export_refused, Exported}
use Rattle.linkstate.specs.Elements.{Element, element, cut, elements, faults, faults_once}
use Rattle.linkstate.specs.Questions.{Subject, generally, Source, number_too_high, given, before_answer, first_of, unwritten, srlg_answer, answer, ask, write}
use Rattle.linkstate.specs.Meaning.{Accepted}
use Rattle.linkstate.specs.BgpLs.{not_ignored, asla_header, inner_elements, check_inner, known_inside, check_asla, check_top, run_verdict, run_source}
use Rattle.linkstate.proofs.Computing.{computing}
use Rattle.linkstate.proofs.ListLaws.{all-mem, member-mem}
use Rattle.rivals.specs.Refusing.{Only5Refuses, Only567Refuse, RefusesBy}

-- ---- the numbers that a verdict may refuse by

-- What may refuse a question to what is accepted, and what the checks of a run refuse by.
abbrev pub of_calls : List ℕ
of_calls = 5 ∷ 6 ∷ 7 ∷ []

abbrev pub of_runs : List ℕ
of_runs = 1 ∷ 3 ∷ 4 ∷ 8 ∷ []

-- A verdict refuses, if at all, by one of these numbers.
pub data By (ns : List ℕ) : Verdict → Type 0 where
  by-none : By ns accepted
  by_one : (x : Refusal) → member x.number ns ≡ true → By ns (refused x)

module _ {ns : List ℕ} where
  pub by-then : {u w : Verdict} → By ns u → By ns w → By ns (u then w)
  unfolding ◌then◌
  by-then by-none k = k
  by-then (by_one x h) k = by_one x h

  pub by-fault : (n : ℕ) (run : Run) (at : ℕ) → member n ns ≡ true → By ns (fault n run at)
  unfolding fault refusal_at
  by-fault n run at h = by_one _ h

  pub by_cond : (b : Bool) {u w : Verdict} → By ns u → By ns w → By ns (cond b u w)
  by_cond true h k = h
  by_cond false h k = k

  pub by-if : (b : Bool) (n : ℕ) → member n ns ≡ true → By ns (refused_if b n)
  unfolding refused_if fault_of_call
  by-if b n h = by_cond b (by-fault n run_a 0 h) by-none

  pub by-faults : member 3 ns ≡ true → (run : Run) (check : ℕ → ℕ → List ℕ → Verdict) → ((at t : ℕ) (v : List ℕ) → By ns (check at t v))
      → (es : List Element) → By ns (faults run check es)
  unfolding faults
  by-faults h run check c [] = by-none
  by-faults h run check c (cut at ∷ es) = by-fault 3 run at h
  by-faults h run check c (element at t v ∷ es) = by-then (c at t v) (by-faults h run check c es)

  pub by-once : member 3 ns ≡ true → member 8 ns ≡ true → (run : Run) (known : ℕ → Bool) (check : ℕ → ℕ → List ℕ → Verdict) → ((at t : ℕ) (v : List ℕ) → By ns (check at t v))
      → (seen : List ℕ) (es : List Element) → By ns (faults_once run known check seen es)
  unfolding faults_once
  by-once h k run known check c seen [] = by-none
  by-once h k run known check c seen (cut at ∷ es) = by-fault 3 run at h
  by-once h k run known check c seen (element at t v ∷ es) =
      by-then (c at t v) (by-then (by_cond (known t && member t seen) (by-fault 8 run at k) by-none) (by-once h k run known check c (t ∷ seen) es))

  pub by-refuses : {v : Verdict} → By ns v → RefusesBy ns v
  by-refuses by-none x e = let z : ◌≡◌ {A = ℕ} 0 1 = cc in absurd (omega arith)
  by-refuses (by_one y h) x e = let z : y ≡ x = cc in rw z at h

  -- A refusal that comes before an answer, or in it.
  by-unless : {v : Verdict} (list : List ℕ) (a : Asked) → By ns v → ((x : Refusal) → a.reply ≡ ask_refused x → member x.number ns ≡ true)
      → (x : Refusal) → (unless v (λ r. unwritten list (ask_refused r)) a).reply ≡ ask_refused x → member x.number ns ≡ true
  unfolding unless unwritten
  by-unless list a by-none f x e = f x e
  by-unless list a (by_one y h) f x e = let z : y ≡ x = cc in rw z at h

-- ---- questions

answer-by : (spot : ℕ → Place) (k : ℕ) (ts : List Attribute) (list : List ℕ) (x : Refusal) → (answer spot k ts list).reply ≡ ask_refused x → member x.number of_calls ≡ true
unfolding answer srlg_answer unwritten first_of member
answer-by spot k ts list x e = go (eqb k 1096) e
  where
    first : (us : List Attribute) → first_of spot us ≡ ask_refused x → member x.number of_calls ≡ true
    first [] d = let z : ◌≡◌ {A = ℕ} 0 1 = cc in absurd (omega arith)
    first (t ∷ us) d = let z : ◌≡◌ {A = ℕ} 0 1 = cc in absurd (omega arith)

    several : (b : Bool) → (cond b (unwritten list absent)
        (unless (refused_if (ltb (length list) (length (srlgs ts))) 5) (λ r. unwritten list (ask_refused r)) (record { reply = found (count (length (srlgs ts))); list = put list 0 (srlgs ts) }))
        ).reply ≡ ask_refused x → member x.number of_calls ≡ true
    several true d = first [] d
    several false d = by-unless list _ (by-if {ns = of_calls} (ltb (length list) (length (srlgs ts))) 5 refl) (λ y c. let z : ◌≡◌ {A = ℕ} 0 1 = cc in absurd (omega arith)) x d

    go : (b : Bool) → (cond b (srlg_answer (srlgs ts) list) (unwritten list (first_of spot (of_kind k ts)))).reply ≡ ask_refused x → member x.number of_calls ≡ true
    go true d = several (empty (srlgs ts)) d
    go false d = first (of_kind k ts) d

-- None but 5, 6 or 7 refuses a question to what is accepted,
pub accepted-asked : (s : Source) → Accepted s → Only567Refuse s
unfolding ask before_answer member
accepted-asked s h whom k list x e =
    by-unless list (answer s.spot k (given s whom k) list)
    (by-then {ns = of_calls} (by-if (number_too_high whom) 6 refl) (by-then (by-if (not (is_code k)) 7 refl) (subst (By of_calls) (sym h) by-none)))
    (answer-by s.spot k (given s whom k) list) x e

-- and a question that 6 and 7 let pass is refused by what the bytes are refused by.
pub refused-asked : (s : Source) (x : Refusal) → s.verdict ≡ refused x → (whom : Subject) (k : ℕ) (list : List ℕ)
    → number_too_high whom ≡ false → is_code k ≡ true → ask s whom k list ≡ record { reply = ask_refused x; list = list }
unfolding ask before_answer refused_if ◌then◌ unless unwritten
refused-asked s x h whom k list n c = rw (n, c, h)

-- ---- BGP-LS runs

pub run_by : (r : List ℕ) → By of_runs (run_verdict r)
unfolding run_verdict check_top check_asla check_inner member
run_by r = by-then (by-if (ltb most_in_bgp_ls (length r)) 1 refl) (by-faults refl run_bgp_ls check_top top (elements 2 0 r))
  where
    lengths : (b : Bool) (at : ℕ) → By of_runs (cond b (fault 4 run_bgp_ls at) accepted)
    lengths b at = by_cond b (by-fault 4 run_bgp_ls at refl) by-none

    asla : (at : ℕ) (v : List ℕ) → By of_runs (check_asla at v)
    asla at v =
        by_cond (ltb (length v) 4) (by-fault 3 run_bgp_ls at refl)
        (by_cond (not (not_ignored v)) by-none
        (by_cond (ltb (length v) (asla_header v)) (by-fault 3 run_bgp_ls at refl)
        (by-once refl refl run_bgp_ls known_inside check_inner (λ o t w. lengths (wrong_inside t (length w)) o) [] (inner_elements at v))))

    top : (at t : ℕ) (v : List ℕ) → By of_runs (check_top at t v)
    top at t v = by_cond (eqb t 1122) (asla at v) (lengths (wrong_at_top t (length v)) at)

apart : all (λ n. not (member n of_calls)) of_runs ≡ true
unfolding all member
apart = refl

-- So a run is accepted exactly when none but 5, 6 or 7 refuses a question to it: the other direction.
pub asked-accepted : (r : List ℕ) → Only567Refuse (run_source r) → Accepted (run_source r)
unfolding run_source computing
asked-accepted r h = go (run_verdict r) refl
  where
    go : (v : Verdict) → run_verdict r ≡ v → v ≡ accepted
    go accepted e = refl
    go (refused x) e =
        let one : member x.number of_runs ≡ true = by-refuses (run_by r) x e in
        let other = h generally 1088 [] x (ap (λ (a : Asked). a.reply) (refused-asked (run_source r) x e generally 1088 [] refl refl)) in
        absurd (false≢true (sym (not-true (member x.number of_calls) (all-mem (λ n. not (member n of_calls)) of_runs apart (member-mem x.number of_runs one))) ∙ other))

-- ---- exports

-- None but 5 refuses the export of what is accepted,
accepted-written : (result buffer : List ℕ) (x : Refusal) → (write accepted result buffer).reply ≡ export_refused x → x.number ≡ 5
unfolding write ◌then◌ unless refused_if fault_of_call fault refusal_at
accepted-written result buffer x e = go (ltb (length buffer) (length result)) e
  where
    go : (b : Bool)
        → (unless {A = Exported} (cond b (refused (refusal_at 5 run_a 0)) accepted) (λ r. record { reply = export_refused r; buffer = buffer }) (record { reply = bytes (length result); buffer = put buffer 0 result })).reply ≡ export_refused x
        → x.number ≡ 5
    go true d = let z : x ≡ refusal_at 5 run_a 0 = cc in ap (λ (y : Refusal). y.number) z
    go false d = let z : ◌≡◌ {A = ℕ} 0 1 = cc in absurd (omega arith)

-- and what is refused is so in its export, with the buffer untouched.
refused-written : (result buffer : List ℕ) (x : Refusal) → write (refused x) result buffer ≡ record { reply = export_refused x; buffer = buffer }
unfolding write ◌then◌ unless
refused-written result buffer x = refl

-- So a link is accepted exactly when no number but 5 refuses its export, whatever its checks are, if they refuse by other numbers than 5.
pub accepted-only5 : (v : Verdict) (result : List ℕ) → v ≡ accepted → Only5Refuses (write v result)
accepted-only5 v result h buffer x e = accepted-written result buffer x (sym (ap (λ (u : Verdict). (write u result buffer).reply) h) ∙ e)

pub only5-accepted : (ns : List ℕ) (v : Verdict) (result : List ℕ) → member 5 ns ≡ false → RefusesBy ns v → Only5Refuses (write v result) → v ≡ accepted
only5-accepted ns v result none numbers only = go v refl
  where
    go : (u : Verdict) → v ≡ u → u ≡ accepted
    go accepted e = refl
    go (refused x) e =
        let told : (write v result []).reply ≡ export_refused x = ap (λ (u : Verdict). (write u result []).reply) e ∙ ap (λ (y : Exported). y.reply) (refused-written result [] x) in
        absurd (false≢true (sym none ∙ ap (λ (n : ℕ). member n ns) (sym (only [] x told)) ∙ numbers x e))
