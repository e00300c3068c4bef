-- Masks that tell whom advertisements name: of one, of none, joined, and while a walk has met some of them.
use mathlib.Core.Path.{◌≡◌, refl, sym, ap, ap₂, ◌∙◌, subst}
use mathlib.Core.Bool.{Bool, true, false, ◌&&◌, ◌||◌}
use mathlib.Core.List.{List, [], ◌∷◌, ◌++◌}
use Prim.Native.Nat.{ℕ}
use Rattle.std.specs.Prelude.{Result, Err}
use Rattle.linkstate.specs.Lists.{any}
use Rattle.linkstate.specs.Masks.{in_masks}
use Rattle.linkstate.specs.Sides.{Advertisement, Side, names, named, named_with_l}
use Rattle.linkstate.proofs.ListLaws.{any_append}
use Rattle.rules.specs.declared.Names.{Names}
use Rattle.linkstate.specs.Replies.{Verdict, refused, refusal_at, fault}
use Rattle.replies.specs.declared.Refusal.{Refusal}
use Rattle.replies.specs.declared.Run.{Run}
use Rattle.replies.specs.Told.{told_refusal, told_run}
use Rattle.rules.specs.Names.{advertised, Tells, Adds, Joins, Checks, ChecksBehind}
use Rattle.masks.specs.declared.Applications.{Applications}
use Rattle.masks.specs.Applications.{in_set, at_place}
use Rattle.masks.proofs.Sets.{set-by, set-none, masks-alone}

or-false : (b : Bool) → b || false ≡ b
or-false true = refl
or-false false = refl

-- ---- names

pub tells_none : (m : Names) → ((p : ℕ) → at_place m.named p ≡ false) → ((p : ℕ) → at_place m.flagged p ≡ false) → Tells [] m
unfolding any
tells_none m p q = record { named = set-none m.named p; flagged = set-none m.flagged q }

-- the names m with those of one advertisement, by its L-flag and its masks
module _ (m r : Names) (l : Bool) (x y : List ℕ) (p : (n : ℕ) → in_set r.named n ≡ in_set m.named n || in_masks x y n) where
  named-added : (n : ℕ) → in_set r.named n ≡ in_set m.named n || any (names n) (advertised l x y ∷ [])
  unfolding any names
  named-added n = p n ∙ ap (λ (b : Bool). in_set m.named n || b) (sym (or-false (in_masks x y n)))

  pub adds-l : l ≡ true → ((n : ℕ) → in_set r.flagged n ≡ in_set m.flagged n || in_masks x y n) → Adds m (advertised l x y ∷ []) r
  unfolding any names
  adds-l e q =
      record {
        named = named-added;
        flagged = λ n. q n ∙ ap (λ (b : Bool). in_set m.flagged n || b) (sym (or-false (l && in_masks x y n) ∙ ap (λ (b : Bool). b && in_masks x y n) e));
      }

  pub adds-plain : l ≡ false → r.flagged ≡ m.flagged → Adds m (advertised l x y ∷ []) r
  unfolding any names
  adds-plain e q =
      record {
        named = named-added;
        flagged = λ n. ap (λ (a : Applications). in_set a n) q ∙ sym (or-false (in_set m.flagged n))
            ∙ ap (λ (b : Bool). in_set m.flagged n || b) (sym (or-false (l && in_masks x y n) ∙ ap (λ (b : Bool). b && in_masks x y n) e));
      }

-- a set joined with what two masks, read for nobody, have
pub joined-masks : (x y : List ℕ) (none read m r : Applications) → ((p : ℕ) → at_place none p ≡ false) → ((n : ℕ) → in_set read n ≡ in_set none n || in_masks x y n)
    → ((p : ℕ) → at_place r p ≡ at_place m p || at_place read p) → (n : ℕ) → in_set r n ≡ in_set m n || in_masks x y n
joined-masks x y none read m r e h j n =
    set-by (λ r a b. r ≡ a || b) r m read j n ∙ ap (λ (b : Bool). in_set m n || b) (masks-alone x y none read e h n)

-- of a side
module _ (s : Side) (m : Names) (t : Tells s.live m) where
  pub side-named : (n : ℕ) → in_set m.named n ≡ named n s
  unfolding named
  side-named n = t.named n

  pub side-flagged : (n : ℕ) → in_set m.flagged n ≡ named_with_l n s
  unfolding named_with_l
  side-flagged n = t.flagged n

-- two runs of one side, as two fragments are
pub tells_both : (ds es : List Advertisement) (x y r : Names) → Tells ds x → Tells es y → Joins x y r → Tells (ds ++ es) r
tells_both ds es x y r p q j =
    record {
      named = λ n. j.named n ∙ ap₂ (λ (a b : Bool). a || b) (p.named n) (q.named n) ∙ sym (any_append (names n) ds es);
      flagged = λ n. j.flagged n ∙ ap₂ (λ (a b : Bool). a || b) (p.flagged n) (q.flagged n) ∙ sym (any_append (λ d. d.L && names n d) ds es);
    }

-- ---- a walk: what was met, with what is left, is all

pub record Ahead (rest all : List Advertisement) (m : Names) : Type 0 where
  pub named : (n : ℕ) → in_set m.named n || any (names n) rest ≡ any (names n) all
  pub flagged : (n : ℕ) → in_set m.flagged n || any (λ d. d.L && names n d) rest ≡ any (λ d. d.L && names n d) all

or_assoc : (x y z : Bool) → (x || y) || z ≡ x || (y || z)
or_assoc true y z = refl
or_assoc false y z = refl

pub ahead-start : (all : List Advertisement) (m : Names) → Tells [] m → Ahead all all m
unfolding any
ahead-start all m t =
    record { named = λ n. ap (λ (b : Bool). b || any (names n) all) (t.named n); flagged = λ n. ap (λ (b : Bool). b || any (λ d. d.L && names n d) all) (t.flagged n) }

pub ahead-end : (rest all : List Advertisement) (m : Names) → rest ≡ [] → Ahead rest all m → Tells all m
unfolding any
ahead-end rest all m e h =
    record {
      named = λ n. sym (ap (λ (ds : List Advertisement). in_set m.named n || any (names n) ds) e ∙ or-false (in_set m.named n)) ∙ h.named n;
      flagged = λ n. sym (ap (λ (ds : List Advertisement). in_set m.flagged n || any (λ d. d.L && names n d) ds) e ∙ or-false (in_set m.flagged n)) ∙ h.flagged n;
    }

-- one turn of a test
turned_by : (p : Advertisement → Bool) (now ds rest all : List Advertisement) (x r : Bool) → now ≡ ds ++ rest → x || any p now ≡ any p all → r ≡ x || any p ds → r || any p rest ≡ any p all
turned_by p now ds rest all x r e h g =
    ap (λ (b : Bool). b || any p rest) g
    ∙ or_assoc x (any p ds) (any p rest)
    ∙ ap (λ (b : Bool). x || b) (sym (any_append p ds rest) ∙ ap (any p) (sym e))
    ∙ h

module _ (now ds rest all : List Advertisement) (e : now ≡ ds ++ rest) (m : Names) (h : Ahead now all m) where
  pub ahead-turn : (r : Names) → Adds m ds r → Ahead rest all r
  ahead-turn r a =
      record {
        named = λ n. turned_by (names n) now ds rest all (in_set m.named n) (in_set r.named n) e (h.named n) (a.named n);
        flagged = λ n.
            turned_by (λ d. d.L && names n d) now ds rest all (in_set m.flagged n) (in_set r.flagged n) e (h.flagged n) (a.flagged n);
      }

-- advertisements that there are none of add nobody
pub adds_none : (m : Names) → Adds m [] m
unfolding any
adds_none m = record { named = λ n. sym (or-false (in_set m.named n)); flagged = λ n. sym (or-false (in_set m.flagged n)) }

-- those of others that pass the same tests are added alike
pub adds-as : (m r : Names) (ds es : List Advertisement) → ((n : ℕ) → any (names n) ds ≡ any (names n) es)
    → ((n : ℕ) → any (λ d. d.L && names n d) ds ≡ any (λ d. d.L && names n d) es) → Adds m ds r → Adds m es r
adds-as m r ds es p q a =
    record {
      named = λ n. a.named n ∙ ap (λ (b : Bool). in_set m.named n || b) (p n);
      flagged = λ n. a.flagged n ∙ ap (λ (b : Bool). in_set m.flagged n || b) (q n);
    }

-- ---- the answer of checks

pub checks-as : {v w : Verdict} {ds : List Advertisement} {r : Result Names Refusal} → v ≡ w → Checks v ds r → Checks w ds r
checks-as e h = record { told = h.told ∙ e; names = h.names }

pub checks-for : {v : Verdict} {ds es : List Advertisement} {r : Result Names Refusal} → ds ≡ es → Checks v ds r → Checks v es r
checks-for {v} {ds} {es} {r} e h = subst (λ (l : List Advertisement). Checks v l r) e h

pub behind-as : {m : Names} {v w : Verdict} {ds : List Advertisement} {r : Result Names Refusal} → v ≡ w → ChecksBehind m v ds r → ChecksBehind m w ds r
behind-as e h = record { told = h.told ∙ e; names = h.names }

-- a refusal names nobody
module _ (n : ℕ) (run : Run) (at : ℕ) (x : Refusal) (e : told_refusal x ≡ refusal_at n (told_run run) at) where
  pub refuses : (ds : List Advertisement) → Checks (fault n (told_run run) at) ds (Err x)
  unfolding fault
  refuses ds = record { told = ap refused e; names = tt }

  pub refuses-behind : (m : Names) (ds : List Advertisement) → ChecksBehind m (fault n (told_run run) at) ds (Err x)
  unfolding fault
  refuses-behind m ds = record { told = ap refused e; names = tt }
