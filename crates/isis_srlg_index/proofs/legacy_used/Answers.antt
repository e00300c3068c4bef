-- `isis_srlg_index::legacy_used` meets its contract. Assumes nothing.
use mathlib.Core.Path.{sym}
use mathlib.Core.Bool.{false≢true}
use native.Mathlib.Omega.{arith}
use borrow.Author.Tests.{not-false}
use Rattle.isis_srlg_index.proofs.Gathers.{nobody-flagged}
use Rattle.isis_srlg_index.proofs.legacy_used.Goals as goal

pub returns-then-flagged-ne0 : goal.returns-then-flagged-ne0
returns-then-flagged-ne0 c = λ e. absurd (false≢true (sym e))

pub returns : goal.returns
returns c = λ e. record { nobody = nobody-flagged _ (omega arith); source = c.names_rsvp_te.ensures (not-false _ e) }
