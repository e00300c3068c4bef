-- What names tell of advertisements: who is named, and who with L (rules W2, W3), for every number.
use Rattle.std.specs.Prelude.{◌≡◌, Bool, ◌&&◌, ◌||◌, List, [], ℕ, ◌+◌, take, drop, Result, Ok, Err}
use Rattle.linkstate.specs.Lists.{any}
use Rattle.linkstate.specs.Replies.{Verdict}
use Rattle.linkstate.specs.Sides.{Advertisement, Side, names, has_legacy}
use Rattle.replies.specs.Told.{told_checked}
use Rattle.replies.specs.declared.Refusal.{Refusal}
use Rattle.rules.specs.declared.Names.{Names}
use Rattle.rules.specs.declared.SideNames.{SideNames}
use Rattle.masks.specs.Applications.{in_set}

-- The advertisement of an L-flag and two masks; whom it names does not depend on its attributes.
abbrev pub advertised : Bool → List ℕ → List ℕ → Advertisement
advertised l standard user = record { L = l; standard_mask = standard; user_mask = user; attributes = [] }

-- The same of masks that stand at a place of a run.
abbrev pub advertised_at : Bool → ℕ → ℕ → List ℕ → ℕ → Advertisement
advertised_at l standard user s at = advertised l (take standard (drop at s)) (take user (drop (at + standard) s))

-- Names hold whom some of these advertisements name, and whom some with L. Of the live ones of a side these are `named` and `named_with_l` (`proofs/Laws`).
pub record Tells (ds : List Advertisement) (m : Names) : Type 0 where
  pub named : (n : ℕ) → in_set m.named n ≡ any (names n) ds
  pub flagged : (n : ℕ) → in_set m.flagged n ≡ any (λ d. d.L && names n d) ds

-- The names r hold whom m holds, and whom these advertisements name.
pub record Adds (m : Names) (ds : List Advertisement) (r : Names) : Type 0 where
  pub named : (n : ℕ) → in_set r.named n ≡ in_set m.named n || any (names n) ds
  pub flagged : (n : ℕ) → in_set r.flagged n ≡ in_set m.flagged n || any (λ d. d.L && names n d) ds

-- Those of two.
pub record Joins (x y r : Names) : Type 0 where
  pub named : (n : ℕ) → in_set r.named n ≡ in_set x.named n || in_set y.named n
  pub flagged : (n : ℕ) → in_set r.flagged n ≡ in_set x.flagged n || in_set y.flagged n

-- What is said of the names that checks give; nothing where they refuse.
abbrev pub Given : {A : Type 0} → (A → Type 0) → Result A Refusal → Type 0
Given P (Ok x) = P x
Given P (Err r) = Unit {0}

-- R9, W2, W3. The answer of the checks of bytes: their refusal, or whom their advertisements name.
pub record Checks (v : Verdict) (ds : List Advertisement) (r : Result Names Refusal) : Type 0 where
  pub told : told_checked r ≡ v
  pub names : Given (Tells ds) r

-- What the rule asks of a side: whom it names, and whether its legacy attributes have a value.
abbrev pub TellsSide : Side → SideNames → Type 0
TellsSide s m = Tells s.live m.names × (m.legacy ≡ has_legacy s)

-- R9, W2, W3, E2a. The answer of the checks of a side: their refusal, or what the rule asks of the side.
pub record ChecksSide (v : Verdict) (s : Side) (r : Result SideNames Refusal) : Type 0 where
  pub told : told_checked r ≡ v
  pub tells : Given (TellsSide s) r

-- The same of a part, behind bytes that name m: the refusal, or m with those that the part names.
pub record ChecksBehind (m : Names) (v : Verdict) (ds : List Advertisement) (r : Result Names Refusal) : Type 0 where
  pub told : told_checked r ≡ v
  pub names : Given (Adds m ds) r
