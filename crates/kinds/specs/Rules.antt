-- The rule that a classifier answers with, read off the one table of kinds.
use Rattle.std.specs.Prelude.{Bool, true, false, cond, not, List, [], ◌∷◌, ◌≡◌, ℕ, suc, ◌<◌, eqb, get_or}
use Rattle.linkstate.specs.Lists.{keep, lookup}
use Rattle.linkstate.specs.Kinds as T
use Rattle.linkstate.specs.Kinds.{kinds, link_codes, application_codes, has_code}
use Rattle.kinds.specs.declared.Kind.{Kind}
use Rattle.kinds.specs.declared.Kind.TheVariants.{Link, Application, Srlg, Asla, Unknown}
use Rattle.kinds.specs.declared.Size.{Size}
use Rattle.kinds.specs.declared.Size.TheVariants.{Exactly, FoursFrom, FoursWithin, Any}
use Rattle.kinds.specs.declared.Rule.{Rule}
use Rattle.kinds.specs.declared.Form.{Form}
use Rattle.kinds.specs.declared.Form.TheVariants.{WholeNumber, TwoNumbers, Float, PlaceAndLength, SrlgCount}

-- A size of the table, and the lengths that one lets pass.
unfoldable pub size_of : T.Size → Size
size_of (T.exactly n) = Exactly n
size_of (T.fours_from least) = FoursFrom least
size_of (T.fours_within least most) = FoursWithin least most

unfoldable pub fits_in : Size → ℕ → Bool
fits_in (Exactly k) n = T.fits (T.exactly k) n
fits_in (FoursFrom least) n = T.fits (T.fours_from least) n
fits_in (FoursWithin least most) n = T.fits (T.fours_within least most) n
fits_in Any n = true

-- W7. A set on side A is a grid, one row per kind but SRLG: the codes of its ten rows.
unfoldable pub grid_codes : List ℕ
grid_codes = keep (λ c. not (eqb c 1096)) application_codes

-- The row of a code in a list of codes.
unfoldable pub row_in : List ℕ → ℕ → ℕ
row_in [] c = 0
row_in (k ∷ ks) c = cond (eqb c k) 0 (suc (row_in ks c))

unfoldable pub kind_of : T.Owner → ℕ → Kind
kind_of T.link c = Link (row_in link_codes c)
kind_of T.applications c = cond (eqb c 1096) Srlg (Application (row_in grid_codes c))

abbrev pub rule : Kind → Size → ℕ → Rule
rule k s c = record { kind = k; size = s; code = c }

unfoldable pub rule_of : T.Kind → Rule
rule_of q = rule (kind_of q.owner q.code) (size_of q.bgpls_size) q.code

-- The rule of a BGP-LS code: ASLA's own, the table's, or that of an unknown one.
unfoldable pub rule_of_code : ℕ → Rule
rule_of_code c = cond (eqb c 1122) (rule Asla Any 1122) (lookup (has_code c) rule_of (rule Unknown Any 0) kinds)

-- Whether a length is wrong inside a 1122, where the link's kinds are unknown.
unfoldable pub wrong_inside_by : Kind → Size → ℕ → Bool
wrong_inside_by (Link i) s n = false
wrong_inside_by (Application i) s n = not (fits_in s n)
wrong_inside_by Srlg s n = not (fits_in s n)
wrong_inside_by Asla s n = not (fits_in s n)
wrong_inside_by Unknown s n = not (fits_in s n)

-- K4. A form of the code as one of the table.
abbrev pub told_form : Form → T.Form
told_form WholeNumber = T.whole_number
told_form TwoNumbers = T.two_numbers
told_form Float = T.float
told_form PlaceAndLength = T.place_and_length
told_form SrlgCount = T.srlg_count

-- Whether a kind is one of the fourteen, and one of the link's three.
unfoldable pub is_known : Kind → Bool
is_known (Link i) = true
is_known (Application i) = true
is_known Srlg = true
is_known Asla = false
is_known Unknown = false

unfoldable pub is_link : Kind → Bool
is_link (Link i) = true
is_link (Application i) = false
is_link Srlg = false
is_link Asla = false
is_link Unknown = false

-- Whether a kind is one of the eleven of applications.
unfoldable pub is_of_sets : Kind → Bool
is_of_sets (Link i) = false
is_of_sets (Application i) = true
is_of_sets Srlg = true
is_of_sets Asla = false
is_of_sets Unknown = false

-- A kind is that of a code: its row is the code's.
abbrev pub KindOfCode : Kind → ℕ → Type 0
KindOfCode (Link i) c = (i < 3) × (c ≡ get_or link_codes i 0)
KindOfCode (Application i) c = (i < 10) × (c ≡ get_or grid_codes i 0)
KindOfCode Srlg c = c ≡ 1096
KindOfCode Asla c = c ≡ 1122
KindOfCode Unknown c = Unit {0}
