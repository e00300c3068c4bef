-- The turns of the walk over run A. Assumes nothing.
use mathlib.Core.Path.{◌≡◌, refl, sym, ap, ◌∙◌, subst}
use mathlib.Core.Bool.{Bool, true, false, ◌||◌, not}
use mathlib.Core.List.{List, [], ◌∷◌, ◌++◌, append_assoc, append-nil}
use Prim.Native.Nat.{ℕ, zero, suc, ◌+◌, ◌≤◌, ◌<◌}
use native.Mathlib.Omega.{arith}
use native.Mathlib.Nat.{zero-add}
use borrow.Author.Tests.{eq-eqb}
use lib.ListN.{length, get_or, replicate}
use Rattle.linkstate.specs.Lists.{any, each}
use Rattle.linkstate.specs.Bytes.{bytes_at}
use Rattle.linkstate.specs.Replies.{accepted, run_a}
use Rattle.linkstate.specs.Elements.{Element, element, elements, faults}
use Rattle.linkstate.specs.Attributes.{Attribute}
use Rattle.linkstate.specs.Sides.{names}
use Rattle.linkstate.proofs.ListLaws.{any_append}
use Rattle.linkstate.proofs.WalkLaws.{left, type-one, length-one}
use Rattle.frames.proofs.Walks.{Stands, stands}
use Rattle.isis.specs.RunA.{check_a, asla_advertisements, side_a}
use Rattle.isis_grids.proofs.Walks.{left-all, inside, passed, rest_ok, turn}
use Rattle.grids.specs.Slots.{cell}
use Rattle.set_table.specs.Tables.{slot_at, Having}
use Rattle.masks.proofs.Sets.{place_none}
use Rattle.set_table.proofs.Tables.{first-free}
use Rattle.set_table.proofs.Assigns.{empty-cell, empty-table}
use Rattle.isis_index.specs.Index.{cell_in, Source, takes, source_of, slot_in, cell_at, code_of, owning, Ground, Ready, in_run, here_in, Here, Owning, Gains, Empty, Walked}
use Rattle.isis_index.proofs.Cells.{spot-inside, adds_then, adds_none}
use Rattle.isis_index.proofs.Heard.{ground-same}

-- ---- where the walk begins

-- Nobody has a value yet.
abbrev pub nobody : List (List ℕ)
nobody = replicate 10 (replicate 2 0)

pub no-mask : (n k i : ℕ) → get_or (get_or (replicate n (replicate {A = ℕ} 2 0)) k []) i 0 ≡ 0
no-mask zero k i = refl
no-mask (suc n) zero zero = refl
no-mask (suc n) zero (suc zero) = refl
no-mask (suc n) zero (suc (suc i)) = refl
no-mask (suc n) (suc k) i = no-mask n k i

module _ (a : List ℕ) {owns table : List (List ℕ)} (g : Ground owns table) (e : Empty table) where
  having-none : Having table owns nobody (owning owns)
  having-none = record {
    ten = refl;
    told = λ k p l h n.
        place_none _ (no-mask 10 k 0) (no-mask 10 k 1) p
        ∙ sym (ap not (eq-eqb (cell table (slot_at owns p) k) 0 (empty-cell a table e (slot_at owns p) k (g.slotted.stand p h n).inside)));
  }

  gains-begin : Gains a owns table table nobody (λ src. [])
  gains-begin = record { holds = empty-table a table e; having = having-none; adds = adds_none owns table (λ src. []) (λ src. refl) }

-- ---- a turn

module _ {A : Type 0} (f : Element → List A) (a : List ℕ) (at : ℕ) (here : at < length a) (ok : faults run_a check_a (left 1 0 a at) ≡ accepted) where
  turn-here : each f (left 1 0 a at) ≡ f (here_in a at) ++ each f (left 1 0 a (at + 2 + get_or a (at + 1) 0))
  turn-here =
      turn check_a 0 a at here ok f
      ∙ ap (λ (o : ℕ). f (element o (get_or a at 0) (bytes_at a (at + 2) (get_or a (at + 1) 0))) ++ each f (left 1 0 a (at + 2 + get_or a (at + 1) 0))) (zero-add at)

pub record Walking (a : List ℕ) (owns begun table have : List (List ℕ)) (at : ℕ) : Type 0 where
  pub bound : at ≤ length a
  pub ok : faults run_a check_a (left 1 0 a at) ≡ accepted
  pub named : Owning owns (each asla_advertisements (left 1 0 a at))
  pub gone : Source → List Attribute
  pub parts : (src : Source) → gone src ++ each (takes src) (left 1 0 a at) ≡ in_run a src
  pub done : Gains a owns begun table have gone

pub walking-begin : {a : List ℕ} {owns table : List (List ℕ)} → faults run_a check_a (elements 1 0 a) ≡ accepted → Ground owns table → Empty table
    → Owning owns (side_a a).live
    → Walking a owns table table nobody 0
unfolding side_a
walking-begin {a} {owns} {table} p g e o = record {
  bound = omega arith;
  ok = ap (faults run_a check_a) (left-all 0 a) ∙ p;
  named = subst (λ (es : List Element). Owning owns (each asla_advertisements es)) (sym (left-all 0 a)) o;
  gone = λ src. [];
  parts = λ src. ap (each (takes src)) (left-all 0 a);
  done = gains-begin a g e;
}

or_right : (x y : Bool) → y ≡ true → x || y ≡ true
or_right true y e = refl
or_right false y e = e

module _ {a : List ℕ} {owns begun table have : List (List ℕ)} {at : ℕ} (w : Walking a owns begun table have at) where
  pub walking-ready : Ground owns begun → Ready a owns table have
  walking-ready g = record { holds = w.done.holds; grounded = ground-same w.done.adds.same g; having = w.done.having }

  module _ (here : at < length a) where
    pub walking-inside : at + 2 + get_or a (at + 1) 0 ≤ length a
    walking-inside = inside check_a 0 a at here w.ok

    pub walking_here : length a < 65536 → Here a at (at + 2 + get_or a (at + 1) 0)
    walking_here small = record {
      ends = refl;
      inside = walking-inside;
      small = small;
      passed = ap (λ (o : ℕ). check_a o (get_or a at 0) (bytes_at a (at + 2) (get_or a (at + 1) 0))) (sym (zero-add at)) ∙ passed check_a 0 a at here w.ok;
    }

    names-split : (n : ℕ) → any (names n) (each asla_advertisements (left 1 0 a at))
        ≡ any (names n) (asla_advertisements (here_in a at)) || any (names n) (each asla_advertisements (left 1 0 a (at + 2 + get_or a (at + 1) 0)))
    names-split n = ap (any (names n)) (turn-here asla_advertisements a at here w.ok) ∙ any_append (names n) (asla_advertisements (here_in a at)) _

    pub walking-named : Owning owns (asla_advertisements (here_in a at))
    walking-named n l e = w.named n l (names-split n ∙ ap (λ (b : Bool). b || any (names n) (each asla_advertisements (left 1 0 a (at + 2 + get_or a (at + 1) 0)))) e)

    pub walking-next : {after had : List (List ℕ)} → Gains a owns table after had (λ src. takes src (here_in a at))
        → Walking a owns begun after had (at + 2 + get_or a (at + 1) 0)
    walking-next g = record {
      bound = walking-inside;
      ok = rest_ok check_a 0 a at here w.ok;
      named = λ n l e. w.named n l (names-split n ∙ or_right (any (names n) (asla_advertisements (here_in a at))) _ e);
      gone = λ src. w.gone src ++ takes src (here_in a at);
      parts = λ src.
          append_assoc (w.gone src) (takes src (here_in a at)) _
          ∙ ap (λ (ts : List Attribute). w.gone src ++ ts) (sym (turn-here (takes src) a at here w.ok)) ∙ w.parts src;
      done = record { holds = g.holds; having = g.having; adds = adds_then w.done.adds g.adds };
    }

  -- ---- where it ends

  all-gone : left 1 0 a at ≡ [] → (src : Source) → w.gone src ≡ in_run a src
  unfolding each
  all-gone e src = sym (append-nil (w.gone src)) ∙ ap (λ (es : List Element). w.gone src ++ each (takes src) es) (sym e) ∙ w.parts src

  pub walking-end : Ground owns begun → Empty begun → left 1 0 a at ≡ [] → Walked a owns table
  walking-end g e h = record {
    holds = w.done.holds;
    cells = λ x v.
        w.done.adds.cells x v
        ∙ first-free (cell begun (slot_in owns x) (cell_at x)) _ 0 (empty-cell a begun e (slot_in owns x) (cell_at x) (spot-inside g x v))
        ∙ ap (cell_in (code_of x)) (all-gone h (source_of x));
  }

-- ---- a turn of the iterator

-- The loop stands at a place of the run: es are the elements from there on.
pub record AtPlace (a : List ℕ) (owns begun table have : List (List ℕ)) (es : List Element) : Type 0 where
  pub at : ℕ
  pub left : es ≡ left 1 0 a at
  pub walks : Walking a owns begun table have at

one : 0 < 1
one = omega arith

module _ {a : List ℕ} {owns begun table have : List (List ℕ)} {es : List Element} (p : AtPlace a owns begun table have es) where
  pub place-end : es ≡ [] → Ground owns begun → Empty begun → Walked a owns table
  place-end e g z = walking-end p.walks g z (sym p.left ∙ e)

  module _ {o t : ℕ} {v : List ℕ} {rest : List Element} (e : es ≡ element o t v ∷ rest) where
    there : Stands 1 one 0 a p.at o t v rest
    there = stands 1 one 0 a p.at (sym p.left ∙ e)

    here : p.at < length a
    here = let s = there in omega (arith, s.whole.within)

    o-is : o ≡ p.at
    o-is = let s = there in omega (arith, s.place)

    n-is : get_or a (p.at + 1) 0 ≡ length v
    n-is = sym (length-one a p.at) ∙ there.whole.size

    pub place-inside : o + 2 + length v ≤ length a
    place-inside = omega (arith, walking-inside p.walks here, o-is, n-is)

    pub place-kind : get_or a o 0 ≡ t
    place-kind = rw o-is (sym (type-one a p.at) ∙ there.whole.type)

    pub place_here : length a < 65536 → Here a o (o + 2 + length v)
    place_here small = rw (o-is, ← n-is) (walking_here p.walks here small)

    pub place-named : Owning owns (asla_advertisements (here_in a o))
    place-named = rw o-is (walking-named p.walks here)

    pub place-next : {after had : List (List ℕ)} → Gains a owns table after had (λ src. takes src (here_in a o)) → AtPlace a owns begun after had rest
    place-next {after} {had} g =
        record {
          at = p.at + 2 + get_or a (p.at + 1) 0;
          left = there.behind ∙ ap (λ (n : ℕ). left 1 0 a (p.at + 2 + n)) (sym n-is);
          walks = walking-next p.walks here (subst (λ (i : ℕ). Gains a owns table after had (λ src. takes src (here_in a i))) o-is g);
        }
