-- What is written so far, with the numbers of what is left, is all.
use lib.ListN.{length}
use mathlib.Core.Path.{◌≡◌}
use Rattle.frames.specs.Left.{whole_left}
use Rattle.linkstate.specs.Elements.{elements}
use Rattle.linkstate.specs.Lists.{each}
use Rattle.isis_tlvs_238.specs.Selected.{words_in}
use Rattle.isis_tlvs_238.proofs.Walks.{AtPlace, Wrote}
use Rattle.isis_tlvs_238.proofs.collect.Given as goal

abbrev pub invariant-loop-e : goal.invariant-loop-e
invariant-loop-e l = record {
  place : AtPlace l.b (whole_left l.e-iterator) l.at l.k;
  same : length l.out ≡ length l.initial.out;
  wrote : Wrote l.initial.out l.out l.at l.k (each (words_in l.which) (whole_left l.e-iterator)) (each (words_in l.which) (elements 1 0 l.b));
}
