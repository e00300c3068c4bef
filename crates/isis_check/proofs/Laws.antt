-- The verdict on a link, check by check: the refusals of the call, then run A, then run B.
use mathlib.Core.Path.{◌≡◌, refl, sym, ap, ◌∙◌, subst}
use mathlib.Core.Bool.{Bool, true, false, ◌||◌, not}
use mathlib.Core.List.{List, [], ◌∷◌}
use Prim.Native.Nat.{ℕ, ◌%◌, ◌≤◌}
use native.Mathlib.Omega.{arith}
use borrow.Author.Tests.{ne_eqb, eq-eqb, ltb-false}
use lib.Dec.{ltb, eqb}
use lib.ListN.{length}
use Rattle.linkstate.specs.Lists.{each}
use Rattle.linkstate.specs.Replies.{refused, refusal_at, fault, fault_of_call, refused_if, ◌then◌, run_a, run_b}
use Rattle.linkstate.specs.Elements.{elements, faults}
use Rattle.linkstate.proofs.ElementLaws.{none_left}
use Rattle.linkstate.proofs.ListLaws.{or_l, or_r}
use Rattle.linkstate.proofs.WalkLaws.{then-passed, then-refused}
use Rattle.isis.specs.RunA.{check_a, side_a}
use Rattle.isis.specs.RunB.{check_b, side_b}
use Rattle.isis.specs.Link.{link_verdict}
use Rattle.replies.specs.declared.Refusal.{Refusal as Fault}
use Rattle.std.specs.Prelude.{Result, Ok, Err}
use Rattle.replies.specs.Told.{told_refusal, told_checked}
use Rattle.rules.specs.declared.SideNames.{SideNames}
use Rattle.rules.specs.declared.Names.{Names}
use Rattle.rules.specs.Names.{Tells, Given, Checks, TellsSide, ChecksSide}
use Rattle.isis_check.specs.declared.Sides.{Sides}
use Rattle.isis_check.specs.Sides.{OfSides, ChecksLink}
use Rattle.isis_check.proofs.Legacy.{c-legacy}

module _ (a b c : List ℕ) where
  abbrev pub long : Bool
  long = ltb 2048 (length a) || ltb 2048 (length b) || ltb 1024 (length c)

  pub link-long : long ≡ true → refused (refusal_at 1 run_a 0) ≡ link_verdict a b c
  unfolding link_verdict refused_if fault_of_call fault ◌then◌
  link-long t = rw t

  module _ (t : long ≡ false) where
    pub link-odd : (length c % 4 ≡ 0 → ⊥) → refused (refusal_at 2 run_a 0) ≡ link_verdict a b c
    unfolding link_verdict refused_if fault_of_call fault ◌then◌
    link-odd n = rw (t, ne_eqb (length c % 4) 0 n)

    pub link-short : (length a ≤ 2048) × (length b ≤ 2048)
    link-short =
        let x = or_l (ltb 2048 (length a) || ltb 2048 (length b)) (ltb 1024 (length c)) t in
        (ltb-false 2048 (length a) (or_l (ltb 2048 (length a)) (ltb 2048 (length b)) x), ltb-false 2048 (length b) (or_r (ltb 2048 (length a)) (ltb 2048 (length b)) x))

    pub link-runs : length c % 4 ≡ 0 → (faults run_a check_a (elements 1 0 a) then faults run_b check_b (elements 1 0 b)) ≡ link_verdict a b c
    unfolding link_verdict refused_if ◌then◌
    link-runs e = rw (t, eq-eqb (length c % 4) 0 e)

    -- by what the checks of the two runs answer
    module _ (e : length c % 4 ≡ 0) (x : Result SideNames Fault) (p : ChecksSide (faults run_a check_a (elements 1 0 a)) (side_a a) x) where
      pub refused-a : (r : Fault) → x ≡ Err r → ChecksLink a b c (Err r)
      refused-a r g =
          record { told = sym (then-refused (faults run_a check_a (elements 1 0 a)) (faults run_b check_b (elements 1 0 b)) (told_refusal r) (sym p.told ∙ ap told_checked g)) ∙ link-runs e; names = tt }

      module _ (m : SideNames) (g : x ≡ Ok m) (y : Result Names Fault) (q : Checks (faults run_b check_b (elements 1 0 b)) (side_b b c).live y) where
        by-b : told_checked y ≡ link_verdict a b c
        by-b =
            q.told ∙ sym (then-passed (faults run_a check_a (elements 1 0 a)) (faults run_b check_b (elements 1 0 b)) (sym p.told ∙ ap told_checked g)) ∙ link-runs e

        pub refused-b : (r : Fault) → y ≡ Err r → ChecksLink a b c (Err r)
        refused-b r h = record { told = sym (ap told_checked h) ∙ by-b; names = tt }

        pub accepted-both : (n : Names) → y ≡ Ok n → (s : Sides) → s ≡ record { a = m; b = record { names = n; legacy = not (eqb (length c) 0) } }
            → ChecksLink a b c (Ok s)
        accepted-both n h s z =
            let in-a : TellsSide (side_a a) m = subst (λ (w : Result SideNames Fault). Given (TellsSide (side_a a)) w) g p.tells in
            let in-b : Tells (side_b b c).live n = subst (λ (w : Result Names Fault). Given (Tells (side_b b c).live) w) h q.names in
            record {
              told = sym (ap told_checked h) ∙ by-b;
              names = subst (λ (w : Sides). OfSides a b c w) (sym z) (record { in_a = in-a; in_b = (in-b, c-legacy b c e) });
            }

-- a run B of no bytes names nobody
pub none-b : (b c : List ℕ) (m : Names) → length b ≡ 0 → Tells [] m → Checks (faults run_b check_b (elements 1 0 b)) (side_b b c).live (Ok m)
unfolding side_b faults each
none-b [] c m e t = rw (none_left 1 0) (record { told = refl; names = t })
none-b (x ∷ b) c m e t = absurd (omega arith)
