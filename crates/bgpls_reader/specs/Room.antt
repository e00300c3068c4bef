-- What is known when the SRLG numbers of a set have been counted.
use Rattle.std.specs.Prelude.{◌≡◌, List, ℕ, length}
use Rattle.bgpls_find.specs.declared.Start.{Start}
use Rattle.bgpls_find.specs.Sets.{attributes_in}
use Rattle.bgpls_find.specs.Walks.{Starts}
use Rattle.bgpls_find.specs.Words.{srlg_words}

pub record Counted (r : List ℕ) (start : Start) (n : ℕ) : Type 0 where
  pub starts : Starts start.set r start.first start.next
  pub count : n ≡ length (srlg_words (attributes_in start.set r))
