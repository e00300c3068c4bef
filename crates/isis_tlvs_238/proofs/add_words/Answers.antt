-- Nothing of another type; of a 238 its values.
use Rattle.isis_tlvs_238.proofs.Tlvs.{other-words, wrote_nothing, wrote-part, part-few}
use native.Mathlib.Omega.{arith}
use Rattle.isis_tlvs_238.proofs.add_words.Goals as goal

pub returns-then-t-ne238 : goal.returns-then-t-ne238
returns-then-t-ne238 c = record { by_index = λ at. wrote_nothing _ _ _ (other-words at _ _ (λ e. omega arith) _); upper_bound = omega arith }

pub values_in-requires : goal.values_in-requires
values_in-requires c = λ e. c.requires.0 (omega arith)

pub returns : goal.returns
returns c = let w = c.words_into.ensures in record {
  by_index = λ at. wrote-part _ at c.args.t c.args.value.now _ _ _ _ _ (omega arith) (c.values_in.ensures.0 at) w.0 w.1;
  upper_bound = part-few c.args.value.now _ _ _ c.values_in.ensures.1 w.0;
}
