-- The mark of bits: a number that equal sets share, so that only sets of one mark are compared. No rule of document 01 speaks of it.
use Rattle.std.specs.Prelude.{Bool, ℕ, zero, suc, ◌+◌, ◌*◌, ◌/◌, ◌%◌, ◌^◌}
use Rattle.std.specs.Int.Bits.{bit_xor}
use Rattle.linkstate.specs.Masks.{as_number}

-- A mark with a word more: the mark turned by 3 bits, and the word's bits exchanged where it has some.
unfoldable pub mixed : ℕ → ℕ → ℕ
mixed h x = bit_xor (bit_xor (h * 2 ^ 3 % 2 ^ 64) (h / 2 ^ 61)) x

-- The mark of the first words of bits.
unfoldable pub words_mark : ℕ → (ℕ → Bool) → ℕ
words_mark zero p = 0
words_mark (suc w) p = mixed (words_mark w p) (as_number (λ j. p (64 * w + j)))

-- Its 32 bits from the middle of a product.
unfoldable pub folded : ℕ → ℕ
folded h = bit_xor (h % 4294967296) (h / 4294967296) * 2654435769 / 65536 % 4294967296

unfoldable pub mark_of : ℕ → (ℕ → Bool) → ℕ
mark_of words p = folded (words_mark words p)
