-- The identifiers' refusal, then what the identifiers, the rest and L decide.
use mathlib.Core.Path.{sym, ◌∙◌}
use native.Mathlib.Omega.{arith}
use Rattle.replies.proofs.Laws.{passed_on}
use Rattle.isis_check.proofs.SrlgLaws.{lent-within, lent-short, unread-parts, unidentified-parts, whole_parts, unmeasured-parts, odd-parts}
use Rattle.isis_check.proofs.check_parts.Goals as goal

pub slice_bounds-read_identifiers-end : goal.slice_bounds-read_identifiers-end
slice_bounds-read_identifiers-end c = (lent-within _ _ _ _ _ _ c.requires.0).1

pub read_identifiers-requires : goal.read_identifiers-requires
read_identifiers-requires c = lent-short _ _ _ _ _ _ c.requires.0

pub returns-in_err-tally : goal.returns-in_err-tally
returns-in_err-tally c = rw (passed_on _ _ c.from_residual.ensures.1)
    (unread-parts _ _ _ _ _ _ c.requires.0 _ c.read_identifiers.ensures _ c.in_err-tally.was)

pub returns-then-not-tally_identifies : goal.returns-then-not-tally_identifies
returns-then-not-tally_identifies c = unidentified-parts _ _ _ _ _ _ c.requires.0 _ c.read_identifiers.ensures _ c.in_ok-tally.was
    (sym c.tally_identifies.ensures ∙ c.if-not-tally_identifies.true)

pub overflow_sub-end : goal.overflow_sub-end
overflow_sub-end c = omega (arith, c.requires.0.fits)

pub returns-then-end-values-eq0 : goal.returns-then-end-values-eq0
returns-then-end-values-eq0 c = whole_parts _ _ _ _ _ _ c.requires.0 _ c.read_identifiers.ensures _ c.in_ok-tally.was
    (sym c.tally_identifies.ensures ∙ c.if-not-tally_identifies.false) c.if-end-values-eq0.true

pub returns-then-l : goal.returns-then-l
returns-then-l c = unmeasured-parts _ _ _ _ _ _ c.requires.0 _ c.read_identifiers.ensures _ c.in_ok-tally.was
    (sym c.tally_identifies.ensures ∙ c.if-not-tally_identifies.false) c.if-l.true

pub returns : goal.returns
returns c = odd-parts _ _ _ _ _ _ c.requires.0 _ c.read_identifiers.ensures _ c.in_ok-tally.was
    (sym c.tally_identifies.ensures ∙ c.if-not-tally_identifies.false) c.if-l.false
    (λ z. omega (arith, z)) _ c.refuse_at.ensures
