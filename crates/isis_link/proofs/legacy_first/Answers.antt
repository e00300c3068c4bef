-- The first list's row, or the second's.
use Rattle.octets.proofs.Spans.{found-or-else}
use borrow.Author.Rules.{rules}
use Rattle.isis_link.proofs.legacy_first.Goals as goal

pub returns : goal.returns
returns c = found-or-else _ _ _ _ c.legacy_row.ensures _ c.or_else.ensures (λ p. search (rules, p))
