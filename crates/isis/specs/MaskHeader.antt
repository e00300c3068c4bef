-- The L-flag, the two mask lengths and the two masks, as an ASLA sub-TLV and a TLV 238 both have them (rules A2, B2; RFC 8919 section 4.1).
-- In every definition v begins at the byte with the L-flag.
use Rattle.std.specs.Prelude.{Bool, cond, ◌&&◌, ◌||◌, List, [], ℕ, ◌+◌, ◌%◌, leb, ltb, eqb, take, drop, get_or}
use Rattle.linkstate.specs.Limits.{most_mask}
use Rattle.linkstate.specs.Attributes.{Attribute}
use Rattle.linkstate.specs.Sides.{Advertisement}

-- A2. The top bit of the first byte, the other seven, and the low seven of the second.
unfoldable pub l_flag : List ℕ → Bool
l_flag v = leb 128 (get_or v 0 0)

unfoldable pub sabm_length : List ℕ → ℕ
sabm_length v = get_or v 0 0 % 128

unfoldable pub udabm_length : List ℕ → ℕ
udabm_length v = get_or v 1 0 % 128

-- A2. How many bytes the lengths and the masks take.
unfoldable pub header_length : List ℕ → ℕ
header_length v = 2 + sabm_length v + udabm_length v

-- A3, B3. A mask length above 8: the advertisement is ignored unread.
unfoldable pub mask_too_long : List ℕ → Bool
mask_too_long v = ltb most_mask (sabm_length v) || ltb most_mask (udabm_length v)

-- A3, B3. L set though both masks are empty: ignored.
unfoldable pub l_for_nobody : List ℕ → Bool
l_for_nobody v = l_flag v && eqb (sabm_length v) 0 && eqb (udabm_length v) 0

-- A3, B3. The advertisement of these bytes; where L is set its attributes are not read, so it has none.
unfoldable pub advertisement : List ℕ → List Attribute → Advertisement
advertisement v ts =
    record {
      L = l_flag v;
      standard_mask = take (sabm_length v) (drop 2 v);
      user_mask = take (udabm_length v) (drop (2 + sabm_length v) v);
      attributes = cond (l_flag v) [] ts;
    }
