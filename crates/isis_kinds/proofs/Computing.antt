-- Opens the table of types and every definition of the crate and of `kinds`: a proof by computing says `unfolding computing`.
use Rattle.isis.specs.Types.{type_in_a, types, has_type, code_of_type, wrong_in_a}
use Rattle.kinds.proofs.Computing.{computing as kinds-computing}
use Rattle.isis_kinds.specs.Rules.{type_rule, rule_of_type}

unfoldable pub computing : Unit {0}
unfolding kinds-computing type_in_a types has_type code_of_type wrong_in_a type_rule rule_of_type
computing = tt
