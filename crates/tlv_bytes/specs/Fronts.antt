-- What stands before the set of an ASLA TLV (rules L4, L5).
use Rattle.std.specs.Prelude.{List, [], ◌∷◌, ◌++◌, ℕ, ◌+◌}
use Rattle.linkstate.specs.Bytes.{two}
use Rattle.linkstate.specs.Masks.{mask_size, mask}
use Rattle.masks.specs.Sets.{in_sent}
use Rattle.masks.specs.declared.Applications.{Applications}

-- How many bytes that is: type, length, the lengths of the masks of a set, two zero bytes, and the masks.
unfoldable pub front_size : Applications → ℕ
front_size m = 8 + mask_size (in_sent m.standard) + mask_size (in_sent m.user)

-- L4, L5. It, before a set whose TLVs have so many bytes.
unfoldable pub asla_front : Applications → ℕ → List ℕ
asla_front m size =
    two 1122
    ++ two (4 + mask_size (in_sent m.standard) + mask_size (in_sent m.user) + size)
    ++ (mask_size (in_sent m.standard) ∷ mask_size (in_sent m.user) ∷ 0 ∷ 0 ∷ [])
    ++ mask (in_sent m.standard)
    ++ mask (in_sent m.user)
