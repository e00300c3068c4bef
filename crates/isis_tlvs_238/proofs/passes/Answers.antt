-- Each arm is one test of the definitions.
use Rattle.isis_tlvs_238.proofs.Tlvs.{selects-naming, general-not, general-is}
use Rattle.isis_tlvs_238.proofs.passes.Goals as goal

pub returns-then-standard-ne0 : goal.returns-then-standard-ne0
returns-then-standard-ne0 c = general-not _ _ _ c.in-General.is c.if-standard-ne0.true

pub returns-in-Naming : goal.returns-in-Naming
returns-in-Naming c = selects-naming _ _ _ _ _ c.in-Naming.is c.names.ensures

pub returns-else-standard-ne0 : goal.returns-else-standard-ne0
returns-else-standard-ne0 c = general-is _ _ _ c.in-General.is c.if-standard-ne0.false
