-- By its value, if it has one.
use mathlib.Core.Path.{sym, ◌∙◌}
use native.Mathlib.Omega.{arith}
use Rattle.export_bytes.proofs.SizeLaws.{size_none, size-some}
use Rattle.export_bytes.proofs.bandwidth_size.Goals as goal

pub returns-in-Some : goal.returns-in-Some
returns-in-Some c = (c.value_size.ensures.0 ∙ sym (size-some _ _ (sym c.value_at.ensures.value ∙ c.in-Some.is)), omega (arith, c.value_size.ensures.1, c.in-Some.ensures.short))

pub returns-in-None : goal.returns-in-None
returns-in-None c = (sym (size_none _ (sym c.value_at.ensures.value ∙ c.in-None.is)), omega arith)
