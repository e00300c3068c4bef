-- Groups of applications with equal sets, and an application that joins them (rules L3, L7).
use Rattle.std.specs.Prelude.{cond, ◌&&◌, ◌||◌, List, [], ◌∷◌, map, ℕ, ◌-◌, eqb, ltb, get_or}
use Rattle.linkstate.specs.Lists.{numbers, keep, same_rows}
use Rattle.linkstate.specs.Masks.{user, as_number, in_number}
use Rattle.linkstate.specs.Kinds.{application_codes}
use Rattle.linkstate.specs.Meaning.{Meaning, row}
use Rattle.linkstate.specs.Export.{tlv, bytes_of, asla_value, in_group}
use Rattle.kinds.specs.Rules.{row_in}
use Rattle.masks.specs.Sets.{turned_place}
use Rattle.masks.specs.declared.Applications.{Applications}
use Rattle.masks.specs.Applications.{in_set}

-- The values of the set that its members share, kinds ascending, and its members as two masks that are sent, of standard and of user applications.
pub record Group : Type 0 where
  pub values : List (List ℕ)
  pub standard : ℕ
  pub users : ℕ

unfoldable pub group : List (List ℕ) → ℕ → ℕ → Group
group vs s u = record { values = vs; standard = s; users = u }

-- A group with a member more.
unfoldable pub added : ℕ → Group → Group
added n g = group g.values (as_number (λ k. in_number g.standard k || eqb (turned_place k) n)) (as_number (λ k. in_number g.users k || eqb (user (turned_place k)) n))

-- L3. Application n, whose set has these values, joins the first group with the same values, or makes one of its own behind the others.
unfoldable pub join : ℕ → List (List ℕ) → List Group → List Group
join n vs [] = added n (group vs 0 0) ∷ []
join n vs (g ∷ gs) = cond (same_rows g.values vs) (added n g ∷ gs) (g ∷ join n vs gs)

-- The set of these values.
unfoldable pub value_in : List (List ℕ) → ℕ → List ℕ
value_in vs c = get_or vs (row_in application_codes c) []

-- The members of a group.
abbrev pub members : Group → Applications
members g = record { standard = g.standard; user = g.users }

-- L3. The ASLA TLV of a group.
unfoldable pub group_tlv : Group → List ℕ
group_tlv g = bytes_of (tlv 1122 (asla_value (in_set (members g)) (value_in g.values)))

-- L3, L7. The group that l leads, of its members below k, and the groups of all leaders below k.
unfoldable pub group_below : Meaning → ℕ → ℕ → Group
group_below m k l =
    group (row (m.set l)) (as_number (λ i. ltb (turned_place i) k && in_group m l (turned_place i))) (as_number (λ i. ltb (user (turned_place i)) k && in_group m l (user (turned_place i))))

unfoldable pub groups_below : Meaning → ℕ → List Group
groups_below m k = map (group_below m k) (keep (λ a. in_group m a a) (numbers 1 (k - 1)))
