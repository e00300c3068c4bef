-- Rule L18, of an IS-IS link: its checks refuse by 1 to 4 alone, so it is accepted exactly when no number but 5 refuses its export. Assumes nothing.
use mathlib.Core.Path.{refl}
use mathlib.Core.Bool.{Bool, cond, ◌&&◌, ◌||◌, not}
use mathlib.Core.List.{List, []}
use Prim.Native.Nat.{ℕ, ◌+◌, ◌%◌}
use lib.Dec.{ltb, eqb}
use lib.ListN.{length}
use Rattle.linkstate.specs.Lists.{any, member}
use Rattle.linkstate.specs.Limits.{most_in_ab, most_in_c}
use Rattle.linkstate.specs.Replies.{Run, accepted, fault, run_a, run_b}
use Rattle.linkstate.specs.Elements.{elements}
use Rattle.isis.specs.Types.{wrong_in_a}
use Rattle.isis.specs.MaskHeader.{l_flag, header_length, mask_too_long, l_for_nobody}
use Rattle.isis.specs.RunA.{list_elements, check_attribute, known_type, check_asla, check_a}
use Rattle.isis.specs.RunB.{after_neighbour, identifier_bytes, identifiers, srlg_values, known_identifiers, check_identifier, ignored, check_srlg, check_b}
use Rattle.isis.specs.Link.{link_verdict, export_link}
use Rattle.rivals.specs.Signed.{LinkAccepted}
use Rattle.rivals.proofs.Acceptance.{By, by-none, by-then, by-fault, by_cond, by-if, by-faults, by-once, by-refuses, accepted-only5, only5-accepted}
use Rattle.demands.specs.Demands.{of_checks}

cut_off : (run : Run) (at : ℕ) → By of_checks (fault 3 run at)
unfolding member
cut_off run at = by-fault 3 run at refl

wrong : (b : Bool) (run : Run) (at : ℕ) → By of_checks (cond b (fault 4 run at) accepted)
unfolding member
wrong b run at = by_cond b (by-fault 4 run at refl) by-none

attribute-by : (at t : ℕ) (v : List ℕ) → By of_checks (check_attribute at t v)
unfolding check_attribute
attribute-by at t v = wrong (wrong_in_a t (length v)) run_a at

asla-by : (at : ℕ) (v : List ℕ) → By of_checks (check_asla at v)
unfolding check_asla member
asla-by at v =
    by_cond (ltb (length v) 2) (cut_off run_a at)
    (by_cond (mask_too_long v) by-none
    (by_cond (ltb (length v) (header_length v)) (cut_off run_a at)
    (by_cond (l_for_nobody v) by-none (by_cond (l_flag v) by-none (by-once refl refl run_a known_type check_attribute attribute-by [] (list_elements at v))))))

a-by : (at t : ℕ) (v : List ℕ) → By of_checks (check_a at t v)
unfolding check_a
a-by at t v = by_cond (eqb t 16) (asla-by at v) (attribute-by at t v)

identifier-by : (at t : ℕ) (v : List ℕ) → By of_checks (check_identifier at t v)
unfolding check_identifier
identifier-by at t v = wrong (any (λ q. eqb t q.type && not (eqb (length v) q.len)) known_identifiers) run_b at

srlg-by : (at : ℕ) (value v : List ℕ) → By of_checks (check_srlg at value v)
unfolding check_srlg member
srlg-by at value v =
    by_cond (ltb (length value) 9) (cut_off run_b at)
    (by_cond (mask_too_long v) by-none
    (by_cond (ltb (length v) (header_length v + 1)) (cut_off run_b at)
    (by_cond (ltb (length v) (header_length v + 1 + identifier_bytes v)) (cut_off run_b at)
    (by-then (by-faults refl run_b check_identifier identifier-by (identifiers at v))
    (by_cond (ignored v (identifiers at v)) by-none
    (by_cond (l_flag v) by-none (by_cond (eqb (length (srlg_values v) % 4) 0) by-none (by-fault 4 run_b at refl))))))))

b-by : (at t : ℕ) (value : List ℕ) → By of_checks (check_b at t value)
unfolding check_b
b-by at t value = by_cond (eqb t 238) (srlg-by at value (after_neighbour value)) by-none

link-by : (a b c : List ℕ) → By of_checks (link_verdict a b c)
unfolding link_verdict member
link-by a b c =
    by-then (by-if (ltb most_in_ab (length a) || ltb most_in_ab (length b) || ltb most_in_c (length c)) 1 refl)
    (by-then (by-if (not (eqb (length c % 4) 0)) 2 refl)
    (by-then (by-faults refl run_a check_a a-by (elements 1 0 a)) (by-faults refl run_b check_b b-by (elements 1 0 b))))

pub link-accepted : (a b c : List ℕ) → LinkAccepted of_checks (link_verdict a b c) (export_link a b c)
unfolding export_link member
link-accepted a b c =
    let numbers = by-refuses (link-by a b c) in
    record { only5 = accepted-only5 (link_verdict a b c) _; accepts = only5-accepted of_checks (link_verdict a b c) _ refl numbers; numbers = numbers }
