-- A set of applications, standard and user (rule A8), by its two masks as they are sent.
use Rattle.std.specs.Prelude.{Bool, cond, ℕ, ◌-◌, ltb}
use Rattle.linkstate.specs.Masks.{in_number}
use Rattle.masks.specs.Sets.{in_sent}
use Rattle.masks.specs.declared.Applications.{Applications}

-- A8. Whether application n is in a set: `in_masks`, of the numbers of the masks.
unfoldable pub in_set : Applications → ℕ → Bool
in_set m n = cond (ltb n 64) (in_sent m.standard n) (in_sent m.user (n - 64))

-- E12a. How many bytes are read of a user mask of n bytes.
abbrev pub user_bytes : ℕ → ℕ
user_bytes n = cond (ltb n 4) n 4

-- Whether the bit at place p of a set is 1: of the standard mask from 0 on, of the user mask from 64 on. Application n stands at place `turned_place n`
-- (`place_set` of `proofs/Sets`); in a set that is turned, application n as 2 to the n, it stands at place n.
unfoldable pub at_place : Applications → ℕ → Bool
at_place m p = cond (ltb p 64) (in_number m.standard p) (in_number m.user (p - 64))
