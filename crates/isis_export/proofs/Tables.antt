-- The tables of a link's export: their room, and that they resolve the link's meaning. Assumes nothing.
use mathlib.Core.Path.{◌≡◌, refl, ap, ap₂, ◌∙◌, subst}
use mathlib.Core.Bool.{Bool, true, false, ◌||◌}
use mathlib.Core.List.{List, []}
use Prim.Native.Nat.{ℕ, zero, suc, ◌+◌, ◌≤◌}
use native.Mathlib.Omega.{arith}
use lib.ListN.{length, get_or, take, replicate, length-replicate, get_or-replicate}
use Rattle.linkstate.specs.Sides.{named}
use Rattle.linkstate.proofs.Retired.{named-retired}
use Rattle.linkstate.specs.Meaning.{meaning}
use Rattle.rules.specs.declared.Names.{Names}
use Rattle.masks.specs.declared.Applications.{Applications}
use Rattle.masks.specs.Applications.{in_set, at_place}
use Rattle.rules.proofs.NameLaws.{side-named}
use Rattle.set_table.specs.Tables.{how_many, Owned, Begun}
use Rattle.set_table.proofs.Assigns.{many-same}
use Rattle.set_groups.specs.Table.{left}
use Rattle.export_tables.specs.Resolved.{Resolves, Room}
use Rattle.export_tables.proofs.Counts.{Few, few-named, few-among, few-all, left-most}
use Rattle.isis.specs.RunA.{side_a}
use Rattle.isis.specs.RunB.{side_b}
use Rattle.isis.specs.Link.{link_source}
use Rattle.isis_index.specs.Started.{Started}
use Rattle.isis_index.specs.Indexed.{Indexed}
use Rattle.isis_index.proofs.Starting.{started}
use Rattle.isis_export.proofs.Sets.{resolves}
use Rattle.isis_export.specs.declared.Link.{Link}
use Rattle.isis_export.specs.Stages.{Ready, Unowned, Enough, Roomy}

-- ---- rooms

zeros : (n i : ℕ) → get_or {A = ℕ} (replicate n 0) i 0 ≡ 0
zeros zero i = refl
zeros (suc n) zero = refl
zeros (suc n) (suc i) = zeros n i

or-first : (x y : Bool) → x ≡ true → x || y ≡ true
or-first x y e = rw e

or-second : (x y : Bool) → y ≡ true → x || y ≡ true
or-second true y e = refl
or-second false y e = e

module _ {a b c : List ℕ} {n : Link} {rows : List (List ℕ)} {values : List ℕ} (of : Ready a b c n rows values) where
  abbrev p : ℕ → Bool
  p = in_set n.who

  abbrev pa : ℕ → Bool
  pa = in_set n.a.names.named

  abbrev pb : ℕ → Bool
  pb = in_set n.b.names.named

  named_by : (i : ℕ) → p i ≡ named i (side_a a) || named i (side_b b c)
  named_by i = of.joined i ∙ ap₂ (λ (x y : Bool). x || y) (side-named (side_a a) n.a.names of.passed.tells.0 i)
      (side-named (side_b b c) n.b.names of.listed.tells.0 i)

  -- Nobody from 96 on is named.
  retired : (i : ℕ) → 96 ≤ i → p i ≡ false
  retired i h = named_by i ∙ ap₂ (λ (x y : Bool). x || y) (named-retired i h (side_a a)) (named-retired i h (side_b b c))

  -- Room for k named applications, g of them other than RSVP-TE.
  enough : (k g slots classes groups : ℕ) → k ≤ 96 → Few n.who k → left p 1 ≤ g → slots ≡ 3 + k → (3 + k ≤ classes) × (classes ≤ 99) → groups ≡ 1 + g
      → Enough n slots classes groups
  enough k g slots classes groups most f h x y z =
      let i : Few n.a.names.named k = few-among n.a.names.named n.who k
      (λ m e. of.joined m ∙ or-first (pa m) (pb m) e) f in
      let j : Few n.b.names.named k = few-among n.b.names.named n.who k
      (λ m e. of.joined m ∙ or-second (pa m) (pb m) e) f in
      record { slotted = (omega (arith, i.numbers), omega arith); classed = (omega (arith, j.bits), y.1); grouped = omega arith }

  -- For twelve, and for all.
  pub few-enough : how_many (at_place n.who) 128 ≤ 12 → Enough n 15 16 13
  few-enough h = let f = few-named n.who 12 h in enough 12 12 15 16 13 (omega arith) f f.others refl (omega arith, omega arith) refl

  pub all-enough : Enough n 99 99 96
  all-enough = enough 96 95 99 99 96 (omega arith) (few-all n.who retired) (left-most p retired) refl (omega arith, omega arith) refl

  -- What `export_rows` asks for.
  pub table-room : (sets classes groups own : List (List ℕ)) (places : List ℕ) → Roomy n sets classes groups places → length own ≡ 128
      → Room rows n.used n.b.names own p classes groups places
  table-room sets classes groups own places r whole =
      record {
        some = omega (arith, r.enough.classed.0);
        few = r.enough.classed.1;
        roomy = λ h. record { words = (of.used h).words; sources = (of.used h).sources; room = r.enough.classed.0; few = r.enough.classed.1; whole = whole };
        grouped = r.enough.grouped;
        placed = r.placed;
        unwritten = r.unwritten;
      }

  -- ---- the meaning

  pub resolved : {sets own : List (List ℕ)} {r : ℕ} → Indexed a sets own r → Resolves (meaning (link_source a b c)) a sets own p r (side_b b c)
  resolved is = resolves a b c is p named_by

-- Tables that are enough, with nothing written.
pub made-roomy : {n : Link} {s k g : ℕ} (x y z : List ℕ) → Enough n s k g → Roomy n (replicate s x) (replicate k y) (replicate g z) (replicate k 0)
made-roomy {n} {s} {k} {g} x y z h =
    record {
      enough = rw (length-replicate s x, length-replicate k y, length-replicate g z) h;
      placed = omega (arith, length-replicate k y, length-replicate {A = ℕ} k 0);
      unwritten = zeros k;
    }

-- ---- slots

-- A table of slot and class as it is made.
pub unowned-owned : (own : List (List ℕ)) → Unowned own → Owned own
unowned-owned own u = rw u.is (record { size = refl; pairs = λ q h. ap length (get_or-replicate 128 q (replicate 2 0) [] h) })

-- A set turned has as many places.
module _ (named : Names) (by : Applications) (is-named : (n : ℕ) → at_place by n ≡ in_set named.named n) where
  pub turned-many : how_many (at_place by) 128 ≡ how_many (in_set named.named) 128
  turned-many = many-same (at_place by) (in_set named.named) 128 (λ n h. is-named n)

  pub begun-started : {own after filled : List (List ℕ)} {k : ℕ} → Unowned own → Begun own after filled by k → k ≡ 3 + how_many (at_place by) 128
      → k ≤ length filled → length filled ≤ 256
      → Started named (take k filled) after
  begun-started {own} {after} {filled} {k} e b is room most =
      started named by is-named (subst (λ (x : List (List ℕ)). Begun x after filled by k) e.is b) (omega arith) (omega arith) room (take k filled) refl
