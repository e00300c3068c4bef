-- What the code notes of a list of link identifiers: how often each of the five known types stands there, all in one number.
use Rattle.std.specs.Prelude.{◌≡◌, Bool, cond, ◌&&◌, ◌||◌, not, List, ℕ, ◌+◌, ◌*◌, ◌/◌, ◌%◌, eqb, ltb, drop, Option, None, Some, Result}
use Rattle.linkstate.specs.Elements.{Element, elements}
use Rattle.isis.specs.RunB.{times, repeats, identifies}
use Rattle.linkstate.specs.Replies.{Verdict}
use Rattle.replies.specs.declared.Refusal.{Refusal}
use Rattle.replies.specs.Told.{told_checked}
use Rattle.rules.specs.Names.{Given}
use Rattle.isis_check.specs.declared.Known.{Known}

abbrev pub known : ℕ → ℕ → Option Known
known n w = Some (record { length = n; weight = w })

-- The length of a known type and its weight in a tally.
unfoldable pub known_of : ℕ → Option Known
known_of t =
    cond (eqb t 4) (known 8 1)
    (cond (eqb t 6) (known 4 256)
    (cond (eqb t 8) (known 4 65536)
    (cond (eqb t 12) (known 16 16777216)
    (cond (eqb t 13) (known 16 4294967296) None))))

-- The tally: each type's count is a digit to the base 256.
unfoldable pub tally_of : List Element → ℕ
tally_of es = times 4 es + 256 * times 6 es + 65536 * times 8 es + 16777216 * times 12 es + 4294967296 * times 13 es

-- By the counts of types 4, 6, 8, 12 and 13: no type stands there twice, and a 4, both 6 and 8, or both 12 and 13 do.
unfoldable pub identified_by : ℕ → ℕ → ℕ → ℕ → ℕ → Bool
identified_by a b c d e = not (ltb 1 a || (ltb 1 b || (ltb 1 c || (ltb 1 d || ltb 1 e)))) && (ltb 0 a || (ltb 0 b && ltb 0 c) || (ltb 0 d && ltb 0 e))

-- Whether the counts that are a tally's digits are those of a list that identifies the link.
abbrev pub identified_in : ℕ → Bool
identified_in n = identified_by (n % 256) (n / 256 % 256) (n / 65536 % 256) (n / 16777216 % 256) (n / 4294967296 % 256)

-- The same of a list of identifiers, in the definitions' words.
abbrev pub once_and_paired : List Element → Bool
once_and_paired es = not (repeats es) && identifies es

-- The identifiers that stand from a place on.
abbrev pub identifiers_in : List ℕ → ℕ → List Element
identifiers_in s from = elements 1 from (drop from s)

-- What reading a list answers: its refusal, or its tally.
pub record Lists (v : Verdict) (es : List Element) (r : Result ℕ Refusal) : Type 0 where
  pub told : told_checked r ≡ v
  pub tally : Given (λ n. n ≡ tally_of es) r
