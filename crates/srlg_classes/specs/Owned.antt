-- The classes of applications, in a table of slot and class by the bit of a sent mask.
use Rattle.std.specs.Prelude.{◌≡◌, Bool, true, false, cond, ◌&&◌, not, List, [], ◌∷◌, ℕ, ◌+◌, ◌-◌, ◌*◌, ◌≤◌, ◌<◌, eqb, ltb, leb, length, get_or}
use Rattle.linkstate.specs.Limits.{most_sources}
use Rattle.linkstate.specs.Lists.{numbers, any}
use Rattle.linkstate.specs.Masks.{in_number}
use Rattle.masks.specs.declared.Applications.{Applications}
use Rattle.masks.specs.Applications.{in_set}
use Rattle.rules.specs.declared.Names.{Names}
use Rattle.rules.specs.declared.Rule.{Rule}
use Rattle.rules.specs.declared.Rule.TheVariants.{ByL, Naming, General, Legacy, NamingFirst, AloneFirst, LegacyFirst}
use Rattle.rules.specs.Rules.{rsvp_te_rule}
use Rattle.srlg_ranks.specs.Ranks.{in_words}
use Rattle.srlg_sources.specs.Classes.{in_class}
use Rattle.srlg_table.specs.Blocks.{size_of, naming, in_block}
use Rattle.srlg_table.specs.declared.Used.{Used}
use Rattle.srlg_table.specs.Tables.{Equal, Table}
use Rattle.srlg_classes.specs.declared.First.{First}

unfoldable pub class_at : List (List ℕ) → ℕ → ℕ
class_at own a = get_or (get_or own a []) 1 0

unfoldable pub slot_at : List (List ℕ) → ℕ → ℕ
slot_at own a = get_or (get_or own a []) 0 0

-- The slots stay.
pub record Slots (own after : List (List ℕ)) : Type 0 where
  pub size : length after ≡ 128
  pub slots : (a : ℕ) → slot_at after a ≡ slot_at own a

-- The applications that pass a test have got class c.
pub record Gave (p : ℕ → Bool) (c : ℕ) (own after : List (List ℕ)) : Type 0 where
  pub slots : Slots own after
  pub classes : (a : ℕ) → a < 128 → class_at after a ≡ cond (p a) c (class_at own a)

-- Whether bit a is in the mask of the 64 bits from `base` on.
unfoldable pub in_half : ℕ → ℕ → ℕ → Bool
in_half base m a = leb base a && (ltb a (base + 64) && in_number m (a - base))

-- Whether an application is in a mask pair without being in another.
unfoldable pub without : ℕ → ℕ → ℕ → ℕ → ℕ → Bool
without s u t v a = in_words (s ∷ u ∷ []) a && not (in_words (t ∷ v ∷ []) a)

-- The applications that are named, and not with L.
unfoldable pub plain : Names → ℕ → Bool
plain named a = without named.named.standard named.named.user named.flagged.standard named.flagged.user a

-- Whether an advertisement that names the application of bit a has the number at place i: one of the sources below n.
unfoldable pub in_named : List (List ℕ) → ℕ → ℕ → ℕ → Bool
in_named rows n a i = any (λ j. naming rows n a j && in_words (get_or rows j []) i) (numbers 0 most_sources)

-- Class c of a table has the bits that pass a test.
pub record HasBits (rows : List (List ℕ)) (words : ℕ) (classes : List (List ℕ)) (count c : ℕ) (p : ℕ → Bool) : Type 0 where
  pub low : c < count
  pub bits : Equal (64 * words) (in_class rows (get_or classes c [])) p

-- The classes of legacy values, which are source 0, and of the general ones, which are source 1.
pub record Firsts (rows : List (List ℕ)) (m words : ℕ) (classes heads : List (List ℕ)) (buckets : List ℕ) (r : First) : Type 0 where
  pub table : Table rows m words classes heads buckets r.count
  pub few : r.count ≤ 3
  pub legacy : HasBits rows words classes r.count r.legacy (in_words (get_or rows 0 []))
  pub general : HasBits rows words classes r.count r.general (in_words (get_or rows 1 []))

-- The first k blocks have their classes: each application of one has the class of the sources of a block that it is in.
pub record Assigned (rows : List (List ℕ)) (m words : ℕ) (blocks : List (List ℕ)) (k : ℕ) (classes₀ own₀ classes heads : List (List ℕ)) (buckets : List ℕ) (own : List (List ℕ)) (first count : ℕ) : Type 0 where
  pub table : Table rows m words classes heads buckets count
  pub few : (first ≤ count) × (count ≤ first + k)
  pub kept : (c : ℕ) → c < first → get_or classes c [] ≡ get_or classes₀ c []
  pub slots : Slots own₀ own
  pub inside : (l a : ℕ) → l < k → a < 128 → in_block (get_or blocks l []) a ≡ true
      → (j : ℕ) × (j < k) × (in_block (get_or blocks j []) a ≡ true) × HasBits rows words classes count (class_at own a) (in_class rows (get_or (get_or blocks j []) 2 0 ∷ get_or (get_or blocks j []) 3 0 ∷ []))
  pub outside : (a : ℕ) → a < 128 → ((l : ℕ) → l < k → in_block (get_or blocks l []) a ≡ false) → class_at own a ≡ class_at own₀ a

-- The applications that are named without L have the class of what the advertisements that name them carry; the others keep theirs.
pub record NamedOwn (rows : List (List ℕ)) (m words : ℕ) (named : Names) (classes₀ own₀ classes heads : List (List ℕ)) (buckets : List ℕ) (own : List (List ℕ)) (first count : ℕ) : Type 0 where
  pub table : Table rows m words classes heads buckets count
  pub more : first ≤ count
  pub kept : (c : ℕ) → c < first → get_or classes c [] ≡ get_or classes₀ c []
  pub slots : Slots own₀ own
  pub inside : (a : ℕ) → a < 128 → plain named a ≡ true → HasBits rows words classes count (class_at own a) (in_named rows m a)
  pub outside : (a : ℕ) → a < 128 → plain named a ≡ false → class_at own a ≡ class_at own₀ a

-- The applications that nothing names have the general class, and those that are named with L the legacy class.
pub record FirstOwn (who : Applications) (named : Names) (first : First) (own after : List (List ℕ)) : Type 0 where
  pub slots : Slots own after
  pub flagged : (a : ℕ) → a < 128 → in_words (named.flagged.standard ∷ named.flagged.user ∷ []) a ≡ true → class_at after a ≡ first.legacy
  pub others : (a : ℕ) → a < 128 → in_words (named.flagged.standard ∷ named.flagged.user ∷ []) a ≡ false → without who.standard who.user named.named.standard named.named.user a ≡ true → class_at after a ≡ first.general

-- W8, W9, W10, E2a. The class of RSVP-TE, by its rule and the class of its own numbers: class 0 has none.
abbrev pub class_by : Rule → ℕ → First → ℕ
class_by ByL c first = first.legacy
class_by (Naming n) c first = first.legacy
class_by General c first = first.general
class_by Legacy c first = first.legacy
class_by NamingFirst c first = cond (eqb c 0) first.legacy c
class_by AloneFirst c first = first.legacy
class_by LegacyFirst c first = first.legacy

-- By whom a side names, and by whether its legacy has a value. RSVP-TE's own class is at place 7.
unfoldable pub rsvp_class : Names → Bool → List (List ℕ) → First → ℕ
rsvp_class named x own first = class_by (rsvp_te_rule (in_set named.flagged 0) (in_set named.named 0) x) (class_at own 7) first

-- How many applications are named: there are no more blocks of these.
abbrev pub most_blocks : Names → ℕ
most_blocks named = size_of (in_words (named.named.standard ∷ named.named.user ∷ []))

-- What the tables must have room for: three classes, and one for each application that is named.
pub record Roomy (rows : List (List ℕ)) (used : Used) (named : Names) (classes own : List (List ℕ)) : Type 0 where
  pub words : used.words ≤ 16
  pub sources : (2 ≤ used.sources) × (used.sources ≤ most_sources) × (used.sources ≤ length rows)
  pub room : 3 + most_blocks named ≤ length classes
  pub few : length classes ≤ 99
  pub whole : length own ≡ 128
