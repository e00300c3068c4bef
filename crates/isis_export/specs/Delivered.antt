-- Demand 3, of what an export leaves: the bytes that document 01 defines, which are a rival of the link, and no rival is shorter.
use Rattle.std.specs.Prelude.{◌≡◌, List, ℕ, ◌≤◌, length, take}
use Rattle.linkstate.specs.Meaning.{meaning, Accepted}
use Rattle.linkstate.specs.Export.{export}
use Rattle.linkstate.specs.Rival.{IsRival}
use Rattle.isis.specs.Link.{link_source}

-- Of a link with the runs a, b and c whose export answered n and left the buffer so:
pub record Delivered (a b c : List ℕ) (n : ℕ) (buffer : List ℕ) : Type 0 where
  pub accepted : Accepted (link_source a b c)
  pub within : n ≤ length buffer
  pub bytes : take n buffer ≡ export (meaning (link_source a b c))
  pub rival : IsRival (meaning (link_source a b c)) (take n buffer)
  pub shortest : (r : List ℕ) → IsRival (meaning (link_source a b c)) r → n ≤ length r
