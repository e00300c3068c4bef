-- Document 01, "The fourteen kinds" (rules K1, K2, K4; K5 and K6 stand in Questions): one table, and what it says of a BGP-LS code.
-- By which types and in which lengths a protocol carries a kind is told by a table of that protocol.
use Rattle.std.specs.Prelude.{Bool, true, false, ◌&&◌, not, List, [], ◌∷◌, map, ℕ, ◌%◌, eqb, leb}
use Rattle.linkstate.specs.Lists.{keep, any, lookup}

-- K1. The lengths that a value may have.
pub data Size : Type 0 where
  exactly : ℕ → Size
  fours_from : (least : ℕ) → Size
  fours_within : (least most : ℕ) → Size

unfoldable pub fits : Size → ℕ → Bool
fits (exactly k) n = eqb n k
fits (fours_from least) n = eqb (n % 4) 0 && leb least n
fits (fours_within least most) n = eqb (n % 4) 0 && leb least n && leb n most

-- K2. Whose the kind is: the link's (three of them), or the applications' (eleven).
pub data Owner : Type 0 where
  link : Owner
  applications : Owner

-- K4. What a value of the kind reads as.
pub data Form : Type 0 where
  whole_number : Form
  two_numbers : Form
  float : Form
  place_and_length : Form
  srlg_count : Form

pub record Kind : Type 0 where
  pub code : ℕ
  pub bgpls_size : Size
  pub owner : Owner
  pub form : Form

unfoldable pub kind : ℕ → Size → Owner → Form → Kind
kind c n o f = record { code = c; bgpls_size = n; owner = o; form = f }

-- K1, K2, K4. The table, ascending by code (RFC 9294 section 3; RFC 8571 section 2 for 1114 to 1120).
unfoldable pub kinds : List Kind
kinds =
    kind 1088 (exactly 4) applications whole_number
    ∷ kind 1089 (exactly 4) link float
    ∷ kind 1090 (exactly 4) link float
    ∷ kind 1091 (exactly 32) link place_and_length
    ∷ kind 1092 (exactly 4) applications whole_number
    ∷ kind 1096 (fours_from 0) applications srlg_count
    ∷ kind 1114 (exactly 4) applications whole_number
    ∷ kind 1115 (exactly 8) applications two_numbers
    ∷ kind 1116 (exactly 4) applications whole_number
    ∷ kind 1117 (exactly 4) applications whole_number
    ∷ kind 1118 (exactly 4) applications float
    ∷ kind 1119 (exactly 4) applications float
    ∷ kind 1120 (exactly 4) applications float
    ∷ kind 1173 (fours_from 4) applications place_and_length
    ∷ []

unfoldable pub for_applications : Owner → Bool
for_applications link = false
for_applications applications = true

unfoldable pub is_applications : Kind → Bool
is_applications q = for_applications q.owner

-- K2. The codes of all fourteen, of the link's three, and of the eleven of an application's set.
unfoldable pub codes : List ℕ
codes = map (λ q. q.code) kinds

unfoldable pub link_codes : List ℕ
link_codes = map (λ q. q.code) (keep (λ q. not (is_applications q)) kinds)

unfoldable pub application_codes : List ℕ
application_codes = map (λ q. q.code) (keep is_applications kinds)

unfoldable pub has_code : ℕ → Kind → Bool
has_code c q = eqb c q.code

-- R4. A known kind of a wrong length: at the top of a BGP-LS run, and inside a 1122.
unfoldable pub wrong_at_top : ℕ → ℕ → Bool
wrong_at_top c n = any (λ q. has_code c q && not (fits q.bgpls_size n)) kinds

-- L14. Inside a 1122 the link's kinds are unknown, as a 1122 itself is.
unfoldable pub wrong_inside : ℕ → ℕ → Bool
wrong_inside c n = any (λ q. has_code c q && not (fits q.bgpls_size n)) (keep is_applications kinds)

-- R7, K2. Whether a code belongs to one of the fourteen, and to one of the link's three.
unfoldable pub is_code : ℕ → Bool
is_code c = any (has_code c) kinds

unfoldable pub is_link_code : ℕ → Bool
is_link_code c = any (λ q. has_code c q && not (is_applications q)) kinds

unfoldable pub form_of : ℕ → Form
form_of c = lookup (has_code c) (λ q. q.form) whole_number kinds
