-- The widths of runs.
use Rattle.std.specs.Prelude.{ℕ}
use Rattle.replies.specs.declared.Run.{Run}
use Rattle.replies.specs.declared.Run.TheVariants.{A, B, C, BgpLs}

-- A1, B1, L1. How many bytes a type has in a run, and a length.
unfoldable pub width_of : Run → ℕ
width_of A = 1
width_of B = 1
width_of C = 1
width_of BgpLs = 2
