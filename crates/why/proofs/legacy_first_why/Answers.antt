-- Legacy has the kind, or not.
use Rattle.why.proofs.Rules.{legacy-there, legacy-absent}
use Rattle.advertisements.specs.Widths.{width_of}
use Rattle.why.proofs.legacy_first_why.Goals as goal

pub returns-then-has_kind : goal.returns-then-has_kind
unfolding width_of
returns-then-has_kind c = legacy-there c.args.a.now c.args.code _ c.requires c.type_in.ensures _ c.has_kind.ensures _
    c.if-has_kind.true (c.legacy_why.ensures c.args.a.now)

pub returns : goal.returns
unfolding width_of
returns c = legacy-absent c.args.a.now c.args.code _ c.requires c.type_in.ensures _ c.has_kind.ensures _
    c.if-has_kind.false c.carried_why.ensures
