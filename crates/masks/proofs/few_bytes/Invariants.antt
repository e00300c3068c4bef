-- From the last byte, m is the number of the bytes passed.
use Rattle.std.specs.Slice.Iter.{iter_rest}
use Rattle.std.specs.Iterator.Adapters.{rev_source}
use Rattle.masks.proofs.Steps.{Passed}
use Rattle.masks.proofs.few_bytes.Given as goal

abbrev pub invariant-loop-b : goal.invariant-loop-b
invariant-loop-b l = Passed l.s (iter_rest (rev_source l.b-iterator)) l.m
