-- The text of each answer that has one, as the bytes that `{}` writes; numbers are in decimal.
use Rattle.std.specs.Prelude.{List, ℕ, ◌++◌, codes}
use Rattle.std.specs.Fmt.{decimal}
use Rattle.replies.specs.Told.{number_of}
use Rattle.replies.specs.declared.Run.{Run}
use Rattle.replies.specs.declared.Run.TheVariants.{A, B, C, BgpLs}
use Rattle.replies.specs.declared.Refusal.{Refusal}
use Rattle.replies.specs.declared.Reading.{Reading}
use Rattle.replies.specs.declared.Reading.TheVariants.{Number, Pair, Bandwidth, Part, Count}

-- A run by its name.
abbrev pub shown_run : Run → List ℕ
shown_run A = codes "A"
shown_run B = codes "B"
shown_run C = codes "C"
shown_run BgpLs = codes "BGP-LS"

-- A refusal by its number, run and offset.
abbrev pub shown_refusal : Refusal → List ℕ
shown_refusal r = codes "refused " ++ (decimal (number_of r.reason) ++ (codes " at " ++ (shown_run r.place.run ++ (codes " " ++ decimal r.place.offset))))

-- A reading by its numbers; a bandwidth without its value.
abbrev pub shown_reading : Reading → List ℕ
shown_reading (Number n) = decimal n
shown_reading (Pair m n) = decimal m ++ (codes " and " ++ decimal n)
shown_reading (Bandwidth _) = codes "a bandwidth"
shown_reading (Part p n) = codes "bytes at " ++ (decimal p.offset ++ (codes ", " ++ decimal n))
shown_reading (Count n) = decimal n ++ codes " SRLG"
