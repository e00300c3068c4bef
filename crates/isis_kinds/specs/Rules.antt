-- The rule that the classifier of IS-IS types answers with, read off the table of types.
use Rattle.std.specs.Prelude.{cond, ℕ, eqb}
use Rattle.linkstate.specs.Lists.{lookup}
use Rattle.isis.specs.Types.{TypeInA, types, has_type}
use Rattle.kinds.specs.declared.Kind.TheVariants.{Asla, Unknown}
use Rattle.kinds.specs.declared.Size.TheVariants.{Any}
use Rattle.kinds.specs.declared.Rule.{Rule}
use Rattle.kinds.specs.Rules.{rule, size_of, rule_of_code}

-- A type's rule: the kind of its code, and its own lengths.
unfoldable pub type_rule : TypeInA → Rule
type_rule q = rule (rule_of_code q.code).kind (size_of q.size) q.code

-- The rule of an IS-IS type: ASLA's own, the table's, or that of an unknown one.
unfoldable pub rule_of_type : ℕ → Rule
rule_of_type t = cond (eqb t 16) (rule Asla Any 1122) (lookup (has_type t) type_rule (rule Unknown Any 0) types)
