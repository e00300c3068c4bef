-- `bgpls_reader::answer_in_room` meets its contract: the room grows, or is enough. The measure: how many numbers have no room yet.
use Prim.Native.Nat.{◌-◌}
use Rattle.bgpls_reader.proofs.+answer_in_room.Given as goal

abbrev pub decreases-answer_in_room : goal.decreases-answer_in_room
decreases-answer_in_room l = l.n - l.room
