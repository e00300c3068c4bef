-- `srlg_table::has_bits` meets its contract: another mark, or bits compared. Assumes nothing.
use mathlib.Core.Path.{sym, ◌∙◌}
use Rattle.srlg_sources.proofs.Joins.{class-words, source-words}
use Rattle.srlg_table.proofs.has_bits.Goals as goal

pub bits_of-y-requires : goal.bits_of-y-requires
bits_of-y-requires c = (c.requires.0, λ j h e. c.requires.1 j h (source-words c.args.class.now j h ∙ e))

pub returns : goal.returns
returns c = let k = c.args.class.now in
    let bits = c.bits_of-y.ensures in
    let same = c.same_bits.ensures in (
      λ e i h. same.0 e i h ∙ bits i h ∙ sym (class-words c.args.rows.now k i),
      λ e f g. same.1 e
          (λ i h. g i h ∙ class-words c.args.rows.now k i ∙ sym (bits i h)),
    )
