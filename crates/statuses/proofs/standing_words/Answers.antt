-- A float by the bits of its four bytes; any other form by its reading.
use Rattle.statuses.proofs.EntryLaws.{float-words, other-words}
use Rattle.octets.proofs.Laws.{part-is, length-bytes_at}
use Rattle.kinds.specs.Rules.{told_form}
use Rattle.answering.specs.Standing.{Readable}
use Rattle.replies.specs.Told.{told_spot}
use Rattle.linkstate.specs.Kinds.{Form}
use lib.ListN.{length}
use mathlib.Core.Path.{sym, ap, ◌∙◌, subst}
use Rattle.statuses.proofs.standing_words.Goals as goal

pub of_bits-requires : goal.of_bits-requires
of_bits-requires c = let a = c.args in
    let e = sym c.form_of-form.ensures ∙ ap told_form c.in-Float.is in
    ap length (part-is a.s.now a.span.place a.span.len) ∙ length-bytes_at a.s.now a.span.place a.span.len c.requires.0 ∙ subst (λ (f : Form). Readable f a.span.len) e c.requires.1

pub returns-in-Float : goal.returns-in-Float
returns-in-Float c = let a = c.args in
    c.of_bits.ensures ∙ float-words a.s.now (told_spot a.run) a.span.place a.span.len _
    (sym c.form_of-form.ensures ∙ ap told_form c.in-Float.is)

pub read_value-requires : goal.read_value-requires
read_value-requires c = (c.requires.0, subst (λ (f : Form). Readable f c.args.span.len) (sym c.form_of-form.ensures) c.requires.1)

pub returns : goal.returns
returns c = let a = c.args in
    other-words a.s.now (told_spot a.run) a.span.place a.span.len c.form_of-form.result c.in_default.not-Float _
    c.form_of-form.ensures _ c.read_value.ensures _ c.from.ensures
