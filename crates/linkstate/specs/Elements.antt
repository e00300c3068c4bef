-- The elements of a run: a type, a length and a value, one after the other.
-- One definition over w, the number of bytes of a type and of a length: 1 in IS-IS runs (rules A1, B1), 2 in BGP-LS runs (rule L1).
use Rattle.std.specs.Prelude.{Bool, cond, ◌&&◌, List, [], ◌∷◌, ℕ, zero, suc, pred, ◌+◌, leb, length, take, drop}
use Rattle.linkstate.specs.Lists.{member}
use Rattle.linkstate.specs.Bytes.{number}
use Rattle.linkstate.specs.Replies.{Run, Verdict, accepted, fault, ◌then◌}

-- R3. An element with the offset of its first byte, or where one begins that is longer than what holds it or has no room for its header.
pub data Element : Type 0 where
  element : (at type : ℕ) (value : List ℕ) → Element
  cut : (at : ℕ) → Element

-- The type and the length that stand at the front of bytes, and how many bytes the whole element has.
unfoldable pub type_of : ℕ → List ℕ → ℕ
type_of w s = number (take w s)

unfoldable pub length_of : ℕ → List ℕ → ℕ
length_of w s = number (take w (drop w s))

unfoldable pub size_of : ℕ → List ℕ → ℕ
size_of w s = w + w + length_of w s

-- The elements of bytes of which the first, at offset `at`, is passed over with k - 1 more where k is not 0.
unfoldable pub elements_after : ℕ → ℕ → ℕ → List ℕ → List Element
elements_after w at k [] = []
elements_after w at (suc k) (b ∷ bs) = elements_after w (suc at) k bs
elements_after w at zero (b ∷ bs) =
    cond (leb (size_of w (b ∷ bs)) (length (b ∷ bs)))
    (element at (type_of w (b ∷ bs)) (take (length_of w (b ∷ bs)) (drop (w + w) (b ∷ bs))) ∷ elements_after w (suc at) (pred (size_of w (b ∷ bs))) bs)
    (cut at ∷ [])

-- A1, B1, L1. The elements of a list whose first byte is at an offset of its run.
unfoldable pub elements : ℕ → ℕ → List ℕ → List Element
elements w at s = elements_after w at 0 s

-- R9, R10. The first refusal of elements in turn: 3 where one is cut off, else what `check` says of its offset, type and value.
unfoldable pub faults : Run → (ℕ → ℕ → List ℕ → Verdict) → List Element → Verdict
faults run check [] = accepted
faults run check (cut at ∷ es) = fault 3 run at
faults run check (element at t v ∷ es) = check at t v then faults run check es

-- E5a. The same of a list in which no known type may stand twice: 8 at an element of a known type that stood before it, after its own check and before the
-- next element. `seen` are the types before.
unfoldable pub faults_once : Run → (ℕ → Bool) → (ℕ → ℕ → List ℕ → Verdict) → List ℕ → List Element → Verdict
faults_once run known check seen [] = accepted
faults_once run known check seen (cut at ∷ es) = fault 3 run at
faults_once run known check seen (element at t v ∷ es) =
    check at t v then cond (known t && member t seen) (fault 8 run at) accepted then faults_once run known check (t ∷ seen) es
