-- What *accepted* means in replies (rule L18): which numbers refuse an export, a question, and the bytes themselves.
use Rattle.std.specs.Prelude.{◌≡◌, true, List, [], ◌∷◌, ℕ}
use Rattle.linkstate.specs.Lists.{member}
use Rattle.linkstate.specs.Replies.{Refusal, Verdict, refused, ask_refused, export_refused, Exported}
use Rattle.linkstate.specs.Questions.{Source, Subject, ask}

-- L18. No number but 5 refuses an export, whatever the room.
abbrev pub Only5Refuses : (List ℕ → Exported) → Type 0
Only5Refuses exported = (buffer : List ℕ) (x : Refusal) → (exported buffer).reply ≡ export_refused x → x.number ≡ 5

-- L18. No number but 5, 6 or 7 refuses a question, whoever and whatever is asked for, whatever the room.
abbrev pub Only567Refuse : Source → Type 0
Only567Refuse s = (whom : Subject) (k : ℕ) (list : List ℕ) (x : Refusal) → (ask s whom k list).reply ≡ ask_refused x → member x.number (5 ∷ 6 ∷ 7 ∷ []) ≡ true

-- The checks of bytes refuse by these numbers alone.
abbrev pub RefusesBy : List ℕ → Verdict → Type 0
RefusesBy ns v = (x : Refusal) → v ≡ refused x → member x.number ns ≡ true
