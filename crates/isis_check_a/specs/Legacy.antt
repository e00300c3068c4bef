-- What of run A, outside its ASLA sub-TLVs, is a value for RSVP-TE (rule E2a): by type, since a value that passed its checks has bytes.
use Rattle.std.specs.Prelude.{Bool, false, ℕ, eqb}
use Rattle.linkstate.specs.Lists.{any}
use Rattle.linkstate.specs.Elements.{Element, element, cut}
use Rattle.linkstate.specs.Kinds.{application_codes}
use Rattle.isis.specs.Types.{code_of_type}

-- E2a. A type that carries one of the eleven kinds; an ASLA's own type, 16, carries none.
unfoldable pub for_applications : ℕ → Bool
for_applications t = any (λ k. eqb k (code_of_type t)) application_codes

unfoldable pub is_legacy : Element → Bool
is_legacy (element at t v) = for_applications t
is_legacy (cut at) = false
