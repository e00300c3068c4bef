-- The row that the rule takes is that of what the subject is given.
use Rattle.isis_link.proofs.Rows.{type-known, type-other, row-given}
use Rattle.isis.specs.RunA.{side_a}
use Rattle.isis_link.proofs.find_row.Goals as goal

pub row_by-requires : goal.row_by-requires
row_by-requires c = let t = c.type_of.ensures in let k = type-known _ _ t c.requires.known in
    (k.0, c.requires.passed, k.1, type-other _ _ t c.requires.other)

pub returns : goal.returns
returns c = λ b d. row-given _ _ c.type_of.ensures c.args.a.now b d _ _ c.requires _
    (c.decide-rule.ensures.taken (side_a c.args.a.now) c.requires.tells.0 c.requires.tells.1) _ c.row_by.ensures
