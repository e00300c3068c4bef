-- `srlg_sources::add_source` meets its contract. Assumes nothing.
use mathlib.Core.Path.{refl}
use Rattle.srlg_sources.specs.Sources.{source_row}
use Rattle.srlg_sources.proofs.add_source.Goals as goal

pub returns-clause-count_value : goal.returns-clause-count_value
unfolding source_row
returns-clause-count_value c = (c.add_words-count.ensures.value.0, refl, refl)
