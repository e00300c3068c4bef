-- A value of run A whose length is right can be read by the form of its kind. Assumes nothing.
use mathlib.Core.Path.{◌≡◌, refl, sym, ◌∙◌, subst}
use mathlib.Core.Bool.{Bool, true, false, ◌&&◌, not, false≢true}
use Prim.Native.Nat.{ℕ}
use borrow.Author.Tests.{eqb-true}
use lib.Dec.{eqb}
use Rattle.linkstate.specs.Lists.{any, all}
use Rattle.linkstate.specs.Kinds.{fits, is_code, form_of}
use Rattle.linkstate.proofs.ListLaws.{any-mem, mem-any, all-mem}
use Rattle.isis.specs.Types.{TypeInA, types}
use Rattle.isis.proofs.TypeLaws.{wrong_of_code, code-tested}
use Rattle.answering.specs.Standing.{Readable}
use Rattle.answering.proofs.Lengths.{reads_all, reads}
use Rattle.isis_kinds.proofs.Computing.{computing}

-- Whether every length that a type may have can be read: a computed test over the table.
type_reads : TypeInA → Bool
type_reads q = reads_all (form_of q.code) q.size

types-read : all type_reads types ≡ true
unfolding computing reads_all type_reads
types-read = refl

has-type : (c : ℕ) → is_code c ≡ true → eqb c 1096 ≡ false → any (λ q. eqb c q.code) types ≡ true
unfolding computing
has-type = code-tested (λ c. any (λ q. eqb c q.code) types) refl

pub readable-in-a : (c n : ℕ) → is_code c ≡ true → eqb c 1096 ≡ false → wrong_of_code c n ≡ false → Readable (form_of c) n
unfolding wrong_of_code type_reads
readable-in-a c n known other right =
    let q = any-mem (λ q. eqb c q.code) types (has-type c known other) in
    let e : q.0.code ≡ c = sym (eqb-true c q.0.code q.2) in
    let r : reads_all (form_of c) q.0.size ≡ true = subst (λ (k : ℕ). reads_all (form_of k) q.0.size ≡ true) e (all-mem type_reads types types-read q.1) in
    reads (form_of c) q.0.size n r (go (fits q.0.size n) refl (λ w. mem-any (λ q. eqb c q.code && not (fits q.size n)) types q.1 (rw (q.2, w))))
  where
    go : (b : Bool) {x : Bool} → x ≡ b → (x ≡ false → any (λ q. eqb c q.code && not (fits q.size n)) types ≡ true) → b ≡ true
    go true e w = refl
    go false e w = absurd (false≢true (sym right ∙ w e))
