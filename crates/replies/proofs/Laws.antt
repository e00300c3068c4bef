-- What the exit of a `?` returns, and what a `let` with an `else` leaves.
use Rattle.std.proofs.Common.{◌≡◌, refl, ap, ◌∙◌, Option, None, Some, Result, Ok, Err, IsErrAnd}
use Rattle.std.proofs.lemmas.Result.{err_from_is_err_and}

-- The error that it met, where it needs no conversion.
pub passed_on : {T E : Type 0} (r : Result T E) (x : E) → IsErrAnd r (λ y. y ≡ x) → r ≡ Err x
passed_on r x h = let p = err_from_is_err_and r h in p.1 ∙ ap Err p.2

-- What is not there is None, and what did not go well is an error.
pub none-else : {A : Type 0} (o : Option A) → ((x : A) → o ≡ Some x → ⊥) → o ≡ None
none-else None h = refl
none-else (Some x) h = absurd (h x refl)

pub err-else : {A E : Type 0} (r : Result A E) → ((x : A) → r ≡ Ok x → ⊥) → (y : E) × (r ≡ Err y)
err-else (Ok x) h = absurd (h x refl)
err-else (Err y) h = (y, refl)
