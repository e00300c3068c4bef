-- Document 01, "BGP-LS bytes": the reader, and what a BGP-LS run is refused for (rules L9 to L14; RFC 9294 sections 2 and 3).
use Rattle.std.specs.Prelude.{Bool, false, cond, ◌&&◌, ◌||◌, not, List, [], ◌∷◌, ℕ, ◌+◌, eqb, ltb, length, take, drop, get_or}
use Rattle.linkstate.specs.Lists.{each, member}
use Rattle.linkstate.specs.Limits.{most_in_bgp_ls}
use Rattle.linkstate.specs.Kinds.{application_codes, wrong_at_top, wrong_inside}
use Rattle.linkstate.specs.Masks.{others}
use Rattle.linkstate.specs.Replies.{place, Verdict, accepted, fault, refused_if, ◌then◌, run_bgp_ls}
use Rattle.linkstate.specs.Elements.{Element, element, cut, elements, faults, faults_once}
use Rattle.linkstate.specs.Attributes.{Attribute, attribute}
use Rattle.linkstate.specs.Sides.{Advertisement, Side, named, general_set, application_set}
use Rattle.linkstate.specs.Questions.{Source}

-- L9. The value of a 1122: SABM length, UDABM length, two reserved bytes that nothing reads, the two masks, inner TLVs.
unfoldable pub sabm_length : List ℕ → ℕ
sabm_length v = get_or v 0 0

unfoldable pub udabm_length : List ℕ → ℕ
udabm_length v = get_or v 1 0

-- How many value bytes stand before the inner TLVs.
unfoldable pub asla_header : List ℕ → ℕ
asla_header v = 4 + sabm_length v + udabm_length v

unfoldable pub is_mask_length : ℕ → Bool
is_mask_length n = eqb n 0 || eqb n 4 || eqb n 8

-- L12. A 1122 is ignored unless both mask lengths are 0, 4 or 8.
unfoldable pub not_ignored : List ℕ → Bool
not_ignored v = is_mask_length (sabm_length v) && is_mask_length (udabm_length v)

-- The inner elements of a 1122 whose first byte is at an offset.
unfoldable pub inner_elements : ℕ → List ℕ → List Element
inner_elements at v = elements 2 (at + 4 + asla_header v) (drop (asla_header v) v)

unfoldable pub check_inner : ℕ → ℕ → List ℕ → Verdict
check_inner at t v = cond (wrong_inside t (length v)) (fault 4 run_bgp_ls at) accepted

-- E5c. What is known inside a 1122: the eleven kinds of applications.
unfoldable pub known_inside : ℕ → Bool
known_inside t = member t application_codes

-- L12, E5c. The checks of a 1122: room for its fixed bytes, its mask lengths, room for its masks, then its inner elements, none of them known twice.
unfoldable pub check_asla : ℕ → List ℕ → Verdict
check_asla at v =
    cond (ltb (length v) 4) (fault 3 run_bgp_ls at)
    (cond (not (not_ignored v)) accepted
    (cond (ltb (length v) (asla_header v)) (fault 3 run_bgp_ls at) (faults_once run_bgp_ls known_inside check_inner [] (inner_elements at v))))

unfoldable pub check_top : ℕ → ℕ → List ℕ → Verdict
check_top at t v = cond (eqb t 1122) (check_asla at v) (cond (wrong_at_top t (length v)) (fault 4 run_bgp_ls at) accepted)

-- R1, R9. The checks of a run: its size, then its elements from the start.
unfoldable pub run_verdict : List ℕ → Verdict
run_verdict r = refused_if (ltb most_in_bgp_ls (length r)) 1 then faults run_bgp_ls check_top (elements 2 0 r)

-- L9, L10. An element, at the top level or inside a 1122, as an attribute: its code is its type, known or not.
unfoldable pub attributes_of : Element → List Attribute
attributes_of (element at t v) = attribute 2 at v t v ∷ []
attributes_of (cut at) = []

-- L10. A 1122 that is not ignored, as an advertisement without L.
unfoldable pub advertisement : ℕ → List ℕ → Advertisement
advertisement at v =
    record {
      L = false;
      standard_mask = take (sabm_length v) (drop 4 v);
      user_mask = take (udabm_length v) (drop (4 + sabm_length v) v);
      attributes = each attributes_of (inner_elements at v);
    }

unfoldable pub advertisements_of : Element → List Advertisement
advertisements_of (element at t v) = cond (eqb t 1122 && not_ignored v) (advertisement at v ∷ []) []
advertisements_of (cut at) = []

-- L12, L20. The top-level 1122s that are not ignored.
unfoldable pub aslas : List ℕ → List Advertisement
aslas r = each advertisements_of (elements 2 0 r)

unfoldable pub top_level : List ℕ → List Attribute
top_level r = each attributes_of (elements 2 0 r)

unfoldable pub run_side : List ℕ → Side
run_side r = record { legacy = top_level r; live = aslas r }

-- L9, L10, L13, E2c. What questions to a run find: at the top level the bandwidths and RSVP-TE's kinds; for another application the 1122s that name it, else
-- the general ones; RSVP-TE is named by none of them, and takes none of them.
unfoldable pub run_source : List ℕ → Source
run_source r =
    record {
      spot = place run_bgp_ls;
      bytes = r;
      verdict = run_verdict r;
      bandwidth = λ k. top_level r;
      rsvp_te = λ k. top_level r;
      general = λ k. general_set (run_side r);
      names = λ a. member a others && named a (run_side r);
      application = λ a k. application_set a (run_side r);
    }
