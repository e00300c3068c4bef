-- The mask header that the code reads, and its tests: those of the bytes (`isis`, MaskHeader), said of the header.
use Rattle.std.specs.Prelude.{Bool, cond, ◌&&◌, ◌||◌, List, ℕ, ◌+◌, eqb, ltb, take, drop, Option, None, Some, Result, Ok, Err}
use Rattle.isis.specs.MaskHeader.{l_flag, sabm_length, udabm_length}
use Rattle.isis_check_a.specs.declared.Header.{Header}
use Rattle.isis_check_a.specs.declared.Past.{Past}

abbrev pub header_of : List ℕ → Header
header_of v = record { l = l_flag v; standard = sabm_length v; user = udabm_length v }

abbrev pub too_long : Header → Bool
too_long h = ltb 8 h.standard || ltb 8 h.user

abbrev pub for_nobody : Header → Bool
for_nobody h = h.l && eqb h.standard 0 && eqb h.user 0

abbrev pub bytes_before : Header → ℕ
bytes_before h = 2 + h.standard + h.user

-- Where the masks of a header end in n bytes: nowhere where one is longer than 8 bytes and the advertisement is ignored unread, else past the end or here.
unfoldable pub masks_in : Header → ℕ → Result (Option ℕ) Past
masks_in h n = cond (too_long h) (Ok None) (cond (ltb n (bytes_before h)) (Err (record { end = bytes_before h })) (Ok (Some (bytes_before h))))

-- The value of the element that stands from `at` to `end`.
abbrev pub value_in : List ℕ → ℕ → ℕ → List ℕ
value_in s at end = drop (at + 2) (take end s)
