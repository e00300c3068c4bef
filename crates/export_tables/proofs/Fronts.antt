-- The parts of tables that an export is written from: the classes that were counted, and the groups with the general set as entry 0. Assumes nothing.
use mathlib.Core.Path.{◌≡◌, sym, ap, ◌∙◌, subst}
use mathlib.Core.List.{List, []}
use Prim.Native.Nat.{ℕ, ◌-◌, ◌≤◌, ◌<◌}
use native.Mathlib.Omega.{arith}
use lib.ListN.{length, get_or, set, take, length-set}
use lib.Seq.{length-take-le, get_or-take, get_or-set_same, get_or-set_other}
use Rattle.linkstate.specs.Lists.{numbers}
use Rattle.linkstate.proofs.ListLaws.{map-ext, numbers-mem}
use Rattle.srlg_sources.specs.Classes.{Class, class_numbers, Classed}
use Rattle.set_bytes.specs.Standing.{numbers_in, Classes}
use Rattle.srlg_classes.specs.Sided.{Has}
use Rattle.set_groups.specs.Table.{entry_group, table_groups, Differ}

-- ---- the counted classes

module _ (values : List ℕ) (rows classes : List (List ℕ)) (n : ℕ) (t : Classed values rows classes n) where
  abbrev counted : List (List ℕ)
  counted = take n classes

  pub counted-length : length counted ≡ n
  counted-length = length-take-le n classes t.room

  counted-at : (c : ℕ) → c < n → get_or counted c [] ≡ get_or classes c []
  counted-at c h = get_or-take n classes c [] h

  pub counted-numbers : (c : ℕ) → c < n → numbers_in values rows counted c ≡ class_numbers values rows (get_or classes c [])
  counted-numbers c h = ap (class_numbers values rows) (counted-at c h)

  pub counted-classes : length values ≤ 1024 → ((i : ℕ) → get_or values i 0 < 4294967296) → Classes values rows counted
  counted-classes most small =
      record {
        class = λ c h. let l : c < n = omega (arith, counted-length) in subst (Class values rows) (sym (counted-at c l)) (t.class c l);
        most = most;
        small = small;
      }

  pub counted-differ : Differ (numbers_in values rows counted) n
  counted-differ c d h k e = t.different c d h k (sym (counted-numbers c h) ∙ e ∙ counted-numbers d k)

  pub counted_has : (c : ℕ) (xs : List ℕ) → Has values rows classes n c xs → numbers_in values rows counted c ≡ xs
  counted_has c xs h = counted-numbers c h.low ∙ h.numbers

-- ---- the groups, with an entry 0

module _ (groups : List (List ℕ)) (count : ℕ) (h : List ℕ) (some : 1 ≤ count) (room : count ≤ length groups) where
  abbrev headed : List (List ℕ)
  headed = take count (set groups 0 h)

  pub headed-length : length headed ≡ count
  headed-length = length-take-le count (set groups 0 h) (omega (arith, length-set groups 0 h))

  pub headed-first : get_or headed 0 [] ≡ h
  headed-first = get_or-take count (set groups 0 h) 0 [] (omega arith) ∙ get_or-set_same groups 0 h [] (omega arith)

  pub headed-at : (i : ℕ) → 1 ≤ i → i < count → get_or headed i [] ≡ get_or groups i []
  headed-at i low l = get_or-take count (set groups 0 h) i [] l ∙ get_or-set_other groups 0 i h [] (λ e. omega arith)

  pub headed-groups : (run : List ℕ) (sets : List (List ℕ)) (srlgs : ℕ → List ℕ)
      → table_groups run sets srlgs headed (length headed) ≡ table_groups run sets srlgs groups count
  unfolding table_groups
  headed-groups run sets srlgs =
      rw headed-length
      (map-ext _ _ (numbers 1 (count - 1))
      (λ i m. let q = numbers-mem 1 (count - 1) m in ap (entry_group run sets srlgs) (headed-at i q.0 (omega (arith, q.1)))))
