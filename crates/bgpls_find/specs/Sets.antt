-- The sets of attributes that a look-up in a BGP-LS run can be about, and what it finds.
use Rattle.std.specs.Prelude.{Bool, true, false, cond, ◌&&◌, List, ℕ, ◌-◌, ◌/◌, eqb, ltb, leb, length}
use Rattle.linkstate.specs.Masks.{in_masks}
use Rattle.linkstate.specs.Attributes.{Attribute}
use Rattle.linkstate.specs.Sides.{Advertisement, names, of_live, general_set}
use Rattle.linkstate.specs.BgpLs.{top_level, run_side}
use Rattle.bgpls_find.specs.declared.Set.{Set}
use Rattle.bgpls_find.specs.declared.Set.TheVariants.{Top, Every, General, Naming}

unfoldable pub is_top : Set → Bool
is_top Top = true
is_top Every = false
is_top General = false
is_top (Naming a) = false

-- Whether a set takes the inner TLVs of a 1122 with these masks.
unfoldable pub chosen_by : Set → List ℕ → List ℕ → Bool
chosen_by Top s u = false
chosen_by Every s u = true
chosen_by General s u = eqb (length s) 0 && eqb (length u) 0
chosen_by (Naming a) s u = in_masks s u a

-- Whether the bit of the application that a set is about lies behind the end of its mask, by the lengths of the masks.
unfoldable pub ends_before : Set → ℕ → ℕ → Bool
ends_before Top s u = false
ends_before Every s u = false
ends_before General s u = false
ends_before (Naming a) s u = cond (ltb a 64) (leb s (a / 8)) (leb u ((a - 64) / 8))

unfoldable pub chosen : Set → Advertisement → Bool
chosen set d = chosen_by set d.standard_mask d.user_mask

-- The attributes of a set.
unfoldable pub attributes_in : Set → List ℕ → List Attribute
attributes_in Top r = top_level r
attributes_in Every r = of_live (λ d. true) (run_side r)
attributes_in General r = general_set (run_side r)
attributes_in (Naming a) r = of_live (names a) (run_side r)
