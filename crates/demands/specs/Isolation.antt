-- What is signed for of a change to one application's values (rule E9): it does not show in what another application gets. A person signs this file beside
-- Demands.antt; `isolation` in proofs/Isolation.antt proves it.
use Rattle.std.specs.Prelude.{◌≡◌, true, List, [], ◌∷◌, ℕ, length, take}
use Rattle.linkstate.specs.Lists.{member}
use Rattle.linkstate.specs.Kinds.{link_codes, application_codes}
use Rattle.linkstate.specs.Masks.{user}
use Rattle.linkstate.specs.Elements.{Element, element, elements}
use Rattle.linkstate.specs.Sides.{Advertisement, names}
use Rattle.linkstate.specs.Questions.{Subject, generally, standard_no, user_no, ask, value}
use Rattle.linkstate.specs.Meaning.{meaning, row, Accepted}
use Rattle.isis.specs.Types.{code_of_type}
use Rattle.isis.specs.MaskHeader.{header_length, advertisement}
use Rattle.isis.specs.RunA.{list_elements, live_asla}
use Rattle.isis.specs.Link.{link_source}

-- Two lists of which each element of one stands beside one of the other, as R says.
pub data Pairwise {A : Type 0} (R : A → A → Type 0) : List A → List A → Type 0 where
  none : Pairwise R [] []
  more : {x y : A} {xs ys : List A} → R x y → Pairwise R xs ys → Pairwise R (x ∷ xs) (y ∷ ys)

-- E9b. Two elements of an attribute list: the same; or at one place, of one type that carries a kind of the applications, and of one length, with any value bytes.
pub data SameButValue : Element → Element → Type 0 where
  same : (e : Element) → SameButValue e e
  other_value : (at t : ℕ) (v w : List ℕ) → member (code_of_type t) application_codes ≡ true → length v ≡ length w → SameButValue (element at t v) (element at t w)

-- E9c. An advertisement names b and nobody else; a bit that is not read (E12) names nobody.
pub record NamesAlone (b : ℕ) (d : Advertisement) : Type 0 where
  pub named : names b d ≡ true
  pub alone : (a : ℕ) → names a d ≡ true → a ≡ b

-- E9a, E9c. Two sub-TLVs of run A: the same; or, at one place and of one length, live ASLAs with the same L-flag, mask lengths and masks, which name b alone,
-- and lists that are the same but for values.
pub data ChangedFor (b : ℕ) : Element → Element → Type 0 where
  unchanged : (e : Element) → ChangedFor b e e
  changed : (at : ℕ) (v w : List ℕ) → live_asla v ≡ true → NamesAlone b (advertisement v []) → length v ≡ length w
      → take (header_length v) v ≡ take (header_length v) w → Pairwise SameButValue (list_elements at v) (list_elements at w)
      → ChangedFor b (element at 16 v) (element at 16 w)

-- A question is about application b.
abbrev pub IsAbout : ℕ → Subject → Type 0
IsAbout b generally = ⊥
IsAbout b (standard_no n) = n ≡ b
IsAbout b (user_no n) = user n ≡ b

-- E9d. Of two links with runs A a and e, and equal runs B and C: whoever is not b gets the same of the eleven kinds,
pub record Isolated (b : ℕ) (a e f c : List ℕ) : Type 0 where
  -- in every answer, with the lent list,
  pub answers : (whom : Subject) → (IsAbout b whom → ⊥) → (k : ℕ) → member k application_codes ≡ true → (list : List ℕ)
      → ask (link_source a f c) whom k list ≡ ask (link_source e f c) whom k list
  -- in the value's bytes,
  pub values : (whom : Subject) → (IsAbout b whom → ⊥) → (k : ℕ) → member k application_codes ≡ true → value (link_source a f c) whom k ≡ value (link_source e f c) whom k
  -- and in the sets: of the other applications, of RSVP-TE where it is not b, and the general one.
  pub sets : (n : ℕ) → (n ≡ b → ⊥) → row ((meaning (link_source a f c)).set n) ≡ row ((meaning (link_source e f c)).set n)
  pub rsvp_te : (b ≡ 0 → ⊥) → row (meaning (link_source a f c)).rsvp_te ≡ row (meaning (link_source e f c)).rsvp_te
  pub general : row (meaning (link_source a f c)).general ≡ row (meaning (link_source e f c)).general
  -- The link's three kinds, which answer everyone the same, stay too.
  pub bandwidths : (whom : Subject) (k : ℕ) → member k link_codes ≡ true → (list : List ℕ) → ask (link_source a f c) whom k list ≡ ask (link_source e f c) whom k list

-- E9a. Any two accepted links with equal B and C, whose runs A have the same elements but for value bytes of the applications' kinds in live ASLAs that name b alone.
pub record Isolation : Type 0 where
  pub links : (b : ℕ) (a e f c : List ℕ) → Accepted (link_source a f c) → Accepted (link_source e f c)
      → Pairwise (ChangedFor b) (elements 1 0 a) (elements 1 0 e) → Isolated b a e f c
