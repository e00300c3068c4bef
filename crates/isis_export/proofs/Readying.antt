-- A link that passed its checks is ready for its export once its SRLGs are listed. Assumes nothing.
use mathlib.Core.Path.{◌≡◌, refl, sym, ap, ◌∙◌, subst}
use mathlib.Core.Bool.{Bool, true, ◌&&◌, ◌||◌}
use Rattle.std.specs.Prelude.{Result, Ok, Err}
use mathlib.Core.List.{List, [], ◌∷◌}
use Prim.Native.Nat.{ℕ, ◌+◌, ◌/◌, ◌≤◌, ◌<◌}
use native.Mathlib.Omega.{arith}
use borrow.Author.Tests.{ltb-false, eqb-true, leb-true}
use lib.Dec.{eqb, leb, ltb}
use lib.ListN.{length, take, length-take}
use Rattle.linkstate.specs.Attributes.{srlgs}
use Rattle.linkstate.specs.Sides.{Side, names, of_live, general_set}
use Rattle.linkstate.specs.Replies.{accepted, refused, Exported}
use Rattle.linkstate.specs.Meaning.{meaning}
use Rattle.linkstate.specs.Export.{export}
use Rattle.linkstate.proofs.ListLaws.{and_l, and_r, or_l, or_r}
use Rattle.linkstate.proofs.WalkLaws.{then-first, then-second, unrefused}
use Rattle.rules.specs.declared.SideNames.{SideNames}
use Rattle.rules.specs.Names.{TellsSide, Given}
use Rattle.srlg.specs.Ascending.{ascending}
use Rattle.srlg_ranks.specs.Ranks.{picked, keep_from}
use Rattle.srlg_table.specs.declared.Used.{Used}
use Rattle.export_tables.specs.Resolved.{Listed}
use Rattle.isis.specs.RunB.{side_b}
use Rattle.isis.specs.Link.{link_verdict, link_source}
use Rattle.isis.proofs.Computing.{computing}
use Rattle.replies.specs.declared.Refusal.{Refusal}
use Rattle.replies.specs.Told.{told_refusal, told_checked}
use Rattle.export_bytes.specs.Whole.{answered}
use Rattle.isis_check.specs.declared.Sides.{Sides}
use Rattle.isis_check.specs.Sides.{OfSides, ChecksLink}
use Rattle.isis_srlg_index.specs.declared.Indexed.{Indexed}
use Rattle.isis_srlg_index.specs.Sources.{Indexes}
use Rattle.isis_export.specs.declared.Link.{Link}
use Rattle.isis_export.specs.Stages.{PassedA, Passed, Joined, InUse, Ready}

-- ---- a link that passed its checks

passed : (a b c : List ℕ) (s : Sides) → link_verdict a b c ≡ accepted → OfSides a b c s → Passed a b c s
unfolding link_verdict
passed a b c s h x =
    let long = unrefused (ltb 2048 (length a) || ltb 2048 (length b) || ltb 1024 (length c)) 1 (then-first _ _ h) in
    let ab = or_l (ltb 2048 (length a) || ltb 2048 (length b)) (ltb 1024 (length c)) long in
    let rest = then-second _ _ (then-second _ _ h) in
    record {
      side_a = record { passed = then-first _ _ rest; short = ltb-false 2048 (length a) (or_l (ltb 2048 (length a)) (ltb 2048 (length b)) ab); tells = x.in_a };
      run_b = then-second _ _ rest;
      short = (
        ltb-false 2048 (length b) (or_r (ltb 2048 (length a)) (ltb 2048 (length b)) ab),
        ltb-false 1024 (length c) (or_r (ltb 2048 (length a) || ltb 2048 (length b)) (ltb 1024 (length c)) long),
      );
      tells = x.in_b;
    }

-- By what the checks answer.
module _ {a b c : List ℕ} {r : Result Sides Refusal} (k : ChecksLink a b c r) where
  pub verdict-refused : (x : Refusal) → r ≡ Err x → link_verdict a b c ≡ refused (told_refusal x)
  verdict-refused x e = sym k.told ∙ ap told_checked e

  pub verdict-accepted : (s : Sides) → r ≡ Ok s → link_verdict a b c ≡ accepted
  verdict-accepted s e = sym k.told ∙ ap told_checked e

  pub sides-passed : (s : Sides) → r ≡ Ok s → Passed a b c s
  sides-passed s e = passed a b c s (verdict-accepted s e) (subst (Given (OfSides a b c)) e k.names)

-- Two lengths tested at once.
empty : (xs : List ℕ) → length xs ≡ 0 → xs ≡ []
empty [] e = refl
empty (x ∷ xs) e = absurd (omega arith)

module _ (a b c : List ℕ) (none : eqb (length b) 0 && eqb (length c) 0 ≡ true) where
  no-b : b ≡ []
  no-b = empty b (eqb-true (length b) 0 (and_l (eqb (length b) 0) (eqb (length c) 0) none))

  no-c : c ≡ []
  no-c = empty c (eqb-true (length c) 0 (and_r (eqb (length b) 0) (eqb (length c) 0) none))

  pub none_passed : {s : Sides} → Passed a b c s → Passed a [] [] s
  none_passed {s} p = subst (λ (x : List ℕ). Passed a x [] s) no-b (subst (λ (x : List ℕ). Passed a b x s) no-c p)

  pub none-answered : (x : Exported) (measuring : Bool) (buffer : List ℕ) → x ≡ answered measuring (export (meaning (link_source a [] []))) buffer
      → x ≡ answered measuring (export (meaning (link_source a b c))) buffer
  none-answered x measuring buffer e = rw (no-b, no-c) e

pub both-short : (x y i j : ℕ) → leb x i && leb y j ≡ true → (x ≤ i) × (y ≤ j)
both-short x y i j t = (leb-true x i (and_l (leb x i) (leb y j) t), leb-true y j (and_r (leb x i) (leb y j) t))

-- ---- its SRLGs

module _ {side : Side} {values : List ℕ} {rows : List (List ℕ)} {r : Indexed} (is : Indexes side values rows r) where
  pub listed : {m : SideNames} → TellsSide side m
      → Listed (take r.count values) rows (record { words = (r.count + 63) / 64; sources = r.sources }) m side
  listed t =
      let l = length-take r.count values in
      record { most = omega (arith, l, is.few); small = is.small; words = omega (arith, l, is.few); sourced = is.sourced; tells = t }

  pub in_use : InUse rows (record { words = (r.count + 63) / 64; sources = r.sources })
  in_use = record { words = omega (arith, is.few); sources = is.used }

-- Without bytes in runs B and C nobody has a number.
none-general : srlgs (general_set (side_b [] [])) ≡ []
unfolding computing
none-general = refl

none-naming : (n : ℕ) → srlgs (of_live (names n) (side_b [] [])) ≡ []
unfolding computing
none-naming n = refl

none-legacy : srlgs (side_b [] []).legacy ≡ []
unfolding computing
none-legacy = refl

pub listed-none : {rows : List (List ℕ)} {m : SideNames} → TellsSide (side_b [] []) m → Listed [] rows (record { words = 0; sources = 0 }) m (side_b [] [])
unfolding picked keep_from ascending
listed-none t =
    record {
      most = omega arith;
      small = λ i. omega arith;
      words = omega arith;
      sourced =
          record {
            ascends = refl;
            within = λ j i h. absurd (omega arith);
            general = sym none-general;
            naming = λ n h. sym (none-naming n);
            by_l = λ n e. sym none-legacy;
            bare = λ e. sym none-legacy;
          };
      tells = t;
    }

-- ---- both

pub as-asked : {m n : Bool} → m ≡ n → (x : Exported) (result buffer : List ℕ) → x ≡ answered m result buffer → x ≡ answered n result buffer
as-asked h x result buffer e = e ∙ ap (λ (t : Bool). answered t result buffer) h

module _ {a b c : List ℕ} {s : Sides} {used : Used} {measuring : Bool} {n : Link} {rows : List (List ℕ)} {values : List ℕ} where
  pub ready : Passed a b c s → Joined s used measuring n → Listed values rows used s.b (side_b b c) → (0 < used.words → InUse rows used)
      → Ready a b c n rows values
  ready p j l w =
      record {
        passed = subst (PassedA a) (sym j.of.0) p.side_a;
        joined = j.both;
        listed = subst (λ (u : Used). Listed values rows u n.b (side_b b c)) (sym j.of.2)
            (subst (λ (m : SideNames). Listed values rows used m (side_b b c)) (sym j.of.1) l);
        used = subst (λ (u : Used). 0 < u.words → InUse rows u) (sym j.of.2) w;
      }
