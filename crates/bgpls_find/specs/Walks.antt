-- What the steps of a walk over a run say, from a position on.
use Rattle.std.specs.Prelude.{◌≡◌, true, false, cond, List, [], ◌∷◌, ◌++◌, ℕ, ◌+◌, ◌-◌, ◌≤◌, ◌<◌, length, take, drop, Option, Some, None}
use Rattle.linkstate.specs.Lists.{keep, each, empty}
use Rattle.linkstate.specs.Bytes.{bytes_at}
use Rattle.linkstate.specs.Replies.{accepted, run_bgp_ls}
use Rattle.linkstate.specs.Elements.{Element, elements, faults}
use Rattle.frames.specs.Uncut as frames
use Rattle.linkstate.specs.Attributes.{Attribute}
use Rattle.linkstate.specs.Sides.{Advertisement}
use Rattle.linkstate.specs.BgpLs.{sabm_length, udabm_length, asla_header, not_ignored, inner_elements, check_inner, check_top, attributes_of, advertisements_of, advertisement}
use Rattle.bgpls_find.specs.Sets.{is_top, chosen, attributes_in}
use Rattle.bgpls_find.specs.declared.Set.{Set}
use Rattle.bgpls_find.specs.declared.Part.{Part}

-- The elements that are left, and that they pass their checks.
abbrev pub rest : List ℕ → ℕ → List Element
rest r at = elements 2 at (drop at r)

abbrev pub Passes : List ℕ → ℕ → Type 0
Passes r at = faults run_bgp_ls check_top (rest r at) ≡ accepted

-- No element of a list, whose first byte is at an offset of the run, is cut off.
abbrev pub Uncut : ℕ → List ℕ → Type 0
Uncut base s = frames.Uncut (elements 2 base s)

-- The 1122s of a set that are left, and the attributes.
unfoldable pub aslas_from : Set → List ℕ → ℕ → List Advertisement
aslas_from set r at = keep (chosen set) (each advertisements_of (rest r at))

unfoldable pub attributes_from : Set → List ℕ → ℕ → List Attribute
attributes_from set r at = cond (is_top set) (each attributes_of (rest r at)) (each (λ d. d.attributes) (aslas_from set r at))

-- The masks of a 1122 by its value, and that it has room for them.
unfoldable pub standard_mask : List ℕ → List ℕ
standard_mask v = take (sabm_length v) (drop 4 v)

unfoldable pub user_mask : List ℕ → List ℕ
user_mask v = take (udabm_length v) (drop (4 + sabm_length v) v)

pub record Sound (v : List ℕ) : Type 0 where
  pub fixed : 4 ≤ length v
  pub masks : not_ignored v ≡ true → asla_header v ≤ length v

-- The next 1122 of a set: the offset of its first byte, and the length of its value.
pub record IsAsla (set : Set) (r : List ℕ) (from at n : ℕ) : Type 0 where
  pub behind : from ≤ at
  pub within : at + 4 + n ≤ length r
  pub fixed : 4 ≤ n
  pub live : not_ignored (bytes_at r (at + 4) n) ≡ true
  pub masks : asla_header (bytes_at r (at + 4) n) ≤ n
  pub inner : faults run_bgp_ls check_inner (inner_elements at (bytes_at r (at + 4) n)) ≡ accepted
  pub passes : Passes r (at + 4 + n)
  pub left : aslas_from set r from ≡ advertisement at (bytes_at r (at + 4) n) ∷ aslas_from set r (at + 4 + n)

-- The list of elements from one byte of a run up to another: its bytes, and its attributes.
abbrev pub bytes_up_to : List ℕ → ℕ → ℕ → List ℕ
bytes_up_to r first next = take (next - first) (drop first r)

abbrev pub list_at : List ℕ → ℕ → ℕ → List Attribute
list_at r first next = each attributes_of (elements 2 first (bytes_up_to r first next))

-- The next list of elements that a set has attributes in: its first byte, and the byte after it.
pub record IsPart (set : Set) (r : List ℕ) (from first next : ℕ) : Type 0 where
  pub on : from < next
  pub start : from ≤ first
  pub order : first ≤ next
  pub within : next ≤ length r
  pub uncut : Uncut first (bytes_up_to r first next)
  pub passes : Passes r next
  pub some : empty (aslas_from set r from) ≡ false
  pub left : attributes_from set r from ≡ list_at r first next ++ attributes_from set r next

abbrev pub NextPart : Set → List ℕ → ℕ → Option Part → Type 0
NextPart set r from (Some part) = IsPart set r from part.first part.next
NextPart set r from None = (aslas_from set r from ≡ []) × (attributes_from set r from ≡ [])

-- A walk over the lists of a set stands at one of them. For the top of a run there is one, the whole run.
pub record AtList (set : Set) (r : List ℕ) (first next : ℕ) : Type 0 where
  pub order : first ≤ next
  pub within : next ≤ length r
  pub uncut : Uncut first (bytes_up_to r first next)
  pub passes : Passes r next
  pub top : is_top set ≡ true → length r ≤ next

-- It begins there: with that list and those behind it, it meets all attributes of the set.
pub record Starts (set : Set) (r : List ℕ) (first next : ℕ) : Type 0 where
  pub list : AtList set r first next
  pub all : list_at r first next ++ attributes_from set r next ≡ attributes_in set r
