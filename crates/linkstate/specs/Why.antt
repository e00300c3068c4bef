-- Why a subject gets what it gets of a kind: by which rule of "Who gets what" (rules W1 to W13), and which advertisement decides or holds the value.
use Rattle.std.specs.Prelude.{Bool, cond, ◌&&◌, ◌||◌, not, List, ℕ, eqb}
use Rattle.linkstate.specs.Lists.{any, lookup, empty}
use Rattle.linkstate.specs.Masks.{user}
use Rattle.linkstate.specs.Replies.{Run, Place, Refusal, unless}
use Rattle.linkstate.specs.Elements.{Element, element, cut}
use Rattle.linkstate.specs.Attributes.{Attribute, of_kind, srlgs}
use Rattle.linkstate.specs.Sides.{Advertisement, Side, general, names, named, named_with_l, of_live, takes_general, rsvp_te_alone}
use Rattle.linkstate.specs.Questions.{Subject, generally, standard_no, user_no, Source, before_answer}

-- The rules: an advertisement with L names the application; some name it; the general set was asked for; none names the application, so that the
-- general set counts (of RSVP-TE: and there is no legacy value, rule E2a); legacy without an L-flag; an ASLA gives a bandwidth; the top level of a BGP-LS run.
pub data Rule : Type 0 where
  by_l : Rule
  by_name : Rule
  general_asked : Rule
  unnamed : Rule
  by_legacy : Rule
  carried : Rule
  at_top : Rule

unfoldable pub rule_number : Rule → ℕ
rule_number by_l = 0
rule_number by_name = 1
rule_number general_asked = 2
rule_number unnamed = 3
rule_number by_legacy = 4
rule_number carried = 5
rule_number at_top = 6

-- What decides or holds the value: an advertisement, told by the first byte of its element; legacy values, told by their run; or nothing that is told.
pub data Holder : Type 0 where
  held_at : Place → Holder
  legacy_in : Run → Holder
  nowhere : Holder

-- The answer: a rule and what decides by it, or a refusal.
pub data Why : Type 0 where
  because : Rule → Holder → Why
  why_refused : Refusal → Why

-- A side where it stands: the place of an offset among its advertisements, the elements there, the live advertisements of each, and the run of its legacy values.
pub record Standing : Type 0 where
  pub side : Side
  pub spot : (offset : ℕ) → Place
  pub elements : List Element
  pub live : Element → List Advertisement
  pub legacy_run : Run

unfoldable pub offset_of : Element → ℕ
offset_of (element at t v) = at
offset_of (cut at) = at

-- The first live advertisement that passes a test.
unfoldable pub first : Standing → (Advertisement → Bool) → Holder
first s p = lookup (λ e. any p (s.live e)) (λ e. held_at (s.spot (offset_of e))) nowhere s.elements

infixr 20 ◌or_else◌
unfoldable pub ◌or_else◌ : Holder → Holder → Holder
(held_at p) or_else h = held_at p
(legacy_in r) or_else h = legacy_in r
nowhere or_else h = h

-- Whether attributes have a value of a kind, as a question finds it (rule K4): of SRLG, a number.
unfoldable pub has : ℕ → List Attribute → Bool
has k ts = cond (eqb k 1096) (not (empty (srlgs ts))) (not (empty (of_kind k ts)))

-- Of those that pass a test, the first that has a value of the kind; of SRLG, whose values are joined, the first. None where they have no value.
unfoldable pub holder : Standing → ℕ → (Advertisement → Bool) → Holder
holder s k p = cond (has k (of_live p s.side)) (first s (λ d. p d && (eqb k 1096 || has k d.attributes))) nowhere

-- W2. Those that name an application with L.
unfoldable pub names_with_l : ℕ → Advertisement → Bool
names_with_l n d = d.L && names n d

unfoldable pub legacy_why : Standing → Why
legacy_why s = because by_legacy (legacy_in s.legacy_run)

-- W2, W3, W4. An application other than RSVP-TE. Where it is named and none that names it has the kind, the first that names it.
unfoldable pub application_why : ℕ → ℕ → Standing → Why
application_why n k s =
    cond (named_with_l n s.side) (because by_l (first s (names_with_l n)))
    (cond (named n s.side) (because by_name (holder s k (names n) or_else first s (names n))) (because unnamed (holder s k general)))

-- E2a, W8, W9, W10. RSVP-TE: where it takes the general set, that; else legacy where none that names it has the kind.
unfoldable pub rsvp_te_why : ℕ → Standing → Why
rsvp_te_why k s =
    cond (takes_general s.side) (because unnamed (holder s k general))
    (cond (named_with_l 0 s.side) (because by_l (first s (names_with_l 0)))
    (cond (has k (of_live (names 0) s.side)) (because by_name (holder s k (names 0))) (legacy_why s)))

-- A subject, where RSVP-TE's answer is known.
unfoldable pub subject_why : Why → Subject → ℕ → Standing → Why
subject_why rsvp_te generally k s = because general_asked (holder s k general)
subject_why rsvp_te (standard_no n) k s = cond (eqb n 0) rsvp_te (application_why n k s)
subject_why rsvp_te (user_no n) k s = application_why (user n) k s

-- W11, W12. A bandwidth that one of some ASLAs gives, else legacy; whoever asks (W13).
unfoldable pub carried_why : ℕ → (Advertisement → Bool) → Standing → Why
carried_why k p s = cond (has k (of_live p s.side)) (because carried (holder s k p)) (legacy_why s)

unfoldable pub bandwidth_why : ℕ → Standing → Why
bandwidth_why k s =
    cond (eqb k 1089) (cond (has k s.side.legacy) (legacy_why s) (carried_why k (λ d. not d.L) s))
    (cond (named_with_l 0 s.side) (legacy_why s) (carried_why k rsvp_te_alone s))

-- R9. The refusals of a question come first, but 5, which only what is written can give.
unfoldable pub unless_ask_refused : Source → Subject → ℕ → Why → Why
unless_ask_refused s whom k w = unless (before_answer s whom k) why_refused w
