-- What is found behind an element that is looked at, over those that are left. Assumes nothing.
use mathlib.Core.Path.{◌≡◌, refl, ap}
use mathlib.Core.Bool.{Bool, true, false, ◌||◌}
use mathlib.Core.List.{List, [], ◌∷◌}
use Rattle.std.specs.List.{list_any}
use Rattle.linkstate.specs.Lists.{any, lookup}
use Rattle.linkstate.specs.Replies.{place}
use Prim.Native.Nat.{ℕ}
use Rattle.linkstate.specs.Elements.{Element, element, cut}
use Rattle.linkstate.specs.Why.{Holder, held_at, nowhere, offset_of}
use Rattle.replies.specs.declared.Run.{Run}
use Rattle.replies.specs.Told.{told_run}
use Rattle.advertisements.specs.Walks.{first_with}

pub any-listed : (p : Element → Bool) (es : List Element) → list_any p es ≡ any p es
unfolding any
any-listed p [] = refl
any-listed p (e ∷ es) = ap (λ (b : Bool). p e || b) (any-listed p es)

module _ (run : Run) (p : Element → Bool) {es : List Element} {whole : Holder} (so : first_with run p es ≡ whole) where
  pub found-none : es ≡ [] → nowhere ≡ whole
  unfolding first_with lookup
  found-none e = rw e at so

  module _ {at t : ℕ} {v : List ℕ} {rest : List Element} (e : es ≡ element at t v ∷ rest) where
    pub found_here : p (element at t v) ≡ true → held_at (place (told_run run) at) ≡ whole
    unfolding first_with lookup offset_of
    found_here h = rw (e, h) at so

    pub found-later : p (element at t v) ≡ false → first_with run p rest ≡ whole
    unfolding first_with lookup
    found-later h = rw (e, h) at so

  pub found-cut : {at : ℕ} {rest : List Element} → es ≡ cut at ∷ rest → rest ≡ [] → p (cut at) ≡ false → nowhere ≡ whole
  unfolding first_with lookup
  found-cut e i h = rw (e, h, i) at so
