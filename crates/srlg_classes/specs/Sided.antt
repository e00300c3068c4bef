-- What sources of SRLGs say of a side (rules W1 to W13), and the classes of what its subjects get.
use Rattle.std.specs.Prelude.{◌≡◌, Bool, true, false, ◌&&◌, List, [], ℕ, ◌*◌, ◌≤◌, ◌<◌, length, get_or}
use Rattle.linkstate.specs.Limits.{most_sources, most_numbers}
use Rattle.linkstate.specs.Lists.{numbers, any, all, member}
use Rattle.linkstate.specs.Attributes.{srlgs}
use Rattle.linkstate.specs.Sides.{Side, names, named_with_l, of_live, general_set, application_set, rsvp_te_kind}
use Rattle.masks.specs.Sets.{turned_place}
use Rattle.masks.specs.declared.Applications.{Applications}
use Rattle.masks.specs.Applications.{in_set}
use Rattle.rules.specs.declared.SideNames.{SideNames}
use Rattle.rules.specs.Names.{TellsSide}
use Rattle.srlg.specs.Ascending.{ascending}
use Rattle.srlg_ranks.specs.Ranks.{keep_from, in_words, picked}
use Rattle.srlg_sources.specs.Sources.{in_rows, numbers_of}
use Rattle.srlg_table.specs.Blocks.{naming}
use Rattle.srlg_table.specs.declared.Used.{Used}
use Rattle.srlg_sources.specs.Classes.{class_numbers, Classed, class_of}
use Rattle.srlg_classes.specs.declared.Classes.{Classes}
use Rattle.srlg_classes.specs.Owned.{Slots, in_named}

-- The first n rows over an ascending list tell the SRLGs of a side: source 1 the general ones, those of the advertisements that name an application what these carry together,
-- and source 0 the legacy ones wherever somebody gets them, which is with L, or RSVP-TE where nothing else is for it.
pub record Sourced (values : List ℕ) (rows : List (List ℕ)) (n : ℕ) (side : Side) : Type 0 where
  pub ascends : ascending values ≡ true
  pub within : (j i : ℕ) → j < n → length values ≤ i → i < most_numbers → in_words (get_or rows j []) i ≡ false
  pub general : picked values (get_or rows 1 []) ≡ srlgs (general_set side)
  pub naming : (a : ℕ) → a < 128 → keep_from (in_named rows n (turned_place a)) 0 values ≡ srlgs (of_live (names a) side)
  pub by_l : (a : ℕ) → named_with_l a side ≡ true → picked values (get_or rows 0 []) ≡ srlgs side.legacy
  pub bare : srlgs (of_live (names 0) side) ≡ [] → picked values (get_or rows 0 []) ≡ srlgs side.legacy

-- Whether a key of a source that names the application of bit a has the number v.
unfoldable pub carried : List (List ℕ) → ℕ → List ℕ → ℕ → ℕ → Bool
carried rows n keys a v = any (λ j. naming rows n a j && member v (numbers_of j keys)) (numbers 0 most_sources)

-- The same of keys that are not ranked yet: n rows without bits, and keys with the numbers of their sources.
pub record Carried (keys : List ℕ) (rows : List (List ℕ)) (n : ℕ) (side : Side) : Type 0 where
  pub few : (2 ≤ n) × (n ≤ most_sources) × (n ≤ length rows)
  pub low : all (in_rows n) keys ≡ true
  pub wide : (j : ℕ) → j < n → length (get_or rows j []) ≡ 18
  pub blank : (j i : ℕ) → j < n → i < most_numbers → in_words (get_or rows j []) i ≡ false
  pub general : (v : ℕ) → member v (numbers_of 1 keys) ≡ member v (srlgs (general_set side))
  pub naming : (a v : ℕ) → a < 128 → carried rows n keys (turned_place a) v ≡ member v (srlgs (of_live (names a) side))
  pub by_l : (a v : ℕ) → named_with_l a side ≡ true → member v (numbers_of 0 keys) ≡ member v (srlgs side.legacy)
  pub bare : (v : ℕ) → srlgs (of_live (names 0) side) ≡ [] → member v (numbers_of 0 keys) ≡ member v (srlgs side.legacy)

-- Class c of n has these numbers.
pub record Has (values : List ℕ) (rows classes : List (List ℕ)) (n c : ℕ) (xs : List ℕ) : Type 0 where
  pub low : c < n
  pub numbers : class_numbers values rows (get_or classes c []) ≡ xs

-- W2, W3, W4, W8 to W10, E2a. The classes of a side's subjects: of the applications that pass a test, RSVP-TE aside, of the general set, and of RSVP-TE.
pub record Classified (values : List ℕ) (rows classes own : List (List ℕ)) (asked : ℕ → Bool) (side : Side) (r : Classes) : Type 0 where
  pub table : Classed values rows classes r.count
  pub application : (a : ℕ) → 0 < a → a < 128 → asked a ≡ true → Has values rows classes r.count (class_of own a) (srlgs (application_set a side))
  pub general : Has values rows classes r.count r.general (srlgs (general_set side))
  pub rsvp : Has values rows classes r.count r.rsvp (srlgs (rsvp_te_kind 1096 side))

-- Slots stay, and classes are so of every side that the sources tell, and whose names and legacy attributes these are.
abbrev pub ClassifiesAll : List (List ℕ) → Used → Applications → SideNames → List (List ℕ) → List (List ℕ) → List (List ℕ) → Classes → Type 0
ClassifiesAll rows used who m own classes after r =
    Slots own after
    × ((values : List ℕ) (side : Side) → length values ≤ 64 * used.words → Sourced values rows used.sources side → TellsSide side m
    → Classified values rows classes after (in_set who) side r)
