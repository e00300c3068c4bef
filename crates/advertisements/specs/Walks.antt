-- What a walk over a run finds: the first advertisement that passes a test and has a kind.
use Rattle.std.specs.Prelude.{Bool, List, ℕ, Option, None, Some}
use Rattle.linkstate.specs.Lists.{lookup}
use Rattle.linkstate.specs.Replies.{place}
use Rattle.linkstate.specs.Elements.{Element, elements}
use Rattle.linkstate.specs.Why.{Holder, held_at, nowhere, offset_of}
use Rattle.replies.specs.declared.Run.{Run}
use Rattle.replies.specs.declared.Place.{Place}
use Rattle.replies.specs.Told.{told_run, told_place}
use Rattle.advertisements.specs.declared.Test.{Test}
use Rattle.advertisements.specs.Widths.{width_of}
use Rattle.advertisements.specs.Tests.{such_in}

unfoldable pub first_with : Run → (Element → Bool) → List Element → Holder
first_with run p es = lookup p (λ e. held_at (place (told_run run) (offset_of e))) nowhere es

unfoldable pub first_such : Run → Test → Option ℕ → List ℕ → Holder
first_such run test k s = first_with run (such_in run test k) (elements (width_of run) 0 s)

-- Where one is found, as who holds a value.
abbrev pub held : Option Place → Holder
held None = nowhere
held (Some p) = held_at (told_place p)
