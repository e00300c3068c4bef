-- The list of those before is walked to its end, or to the first of the type.
use mathlib.Core.Path.{sym, ◌∙◌}
use native.Mathlib.Omega.{arith}
use borrow.Author.Tests.{tests}
use Rattle.std.proofs.Common.{rules}
use Rattle.std.proofs.lemmas.List.{length-take-le}
use Rattle.std.proofs.lemmas.Iterator.Consumers.{YieldsList-from_first}
use Rattle.std.proofs.lemmas.Iterator.Search.{any_from_yields_List}
use Rattle.frames.specs.Left.{of_whole, whole_left}
use Rattle.repeats.proofs.Laws.{is_of, walked-none, walked-within, walked-list}
use Rattle.repeats.proofs.stood.Goals as goal

pub returns-then-from-at : goal.returns-then-from-at
returns-then-from-at g c ts h = walked-none g.W.Width.BYTES g.met.W.Width.some _ _ c.args.from _ ts h c.if-from-at.true

pub slice_bounds-behind-end : goal.slice_bounds-behind-end
slice_bounds-behind-end g c =
    let b = walked-within g.W.Width.BYTES g.met.W.Width.some _ _ c.args.from c.requires.0 c.requires.1 c.if-from-at.false in
    sym (length-take-le c.args.at c.args.s.now b.1)

pub behind-requires-clause-within : goal.behind-requires-clause-within
behind-requires-clause-within g c =
    let b = walked-within g.W.Width.BYTES g.met.W.Width.some _ _ c.args.from c.requires.0 c.requires.1 c.if-from-at.false in
    omega (arith, length-take-le c.args.at c.args.s.now b.1)

pub behind-requires-clause-uncut : goal.behind-requires-clause-uncut
behind-requires-clause-uncut g c = (walked-list g.W.Width.BYTES g.met.W.Width.some _ _ c.args.from 0 c.requires.0 c.requires.1).0

pub returns : goal.returns
returns g c ts h =
    any_from_yields_List (is_of c.args.kind) c.any.new.self _ c.any.result c.any.ensures.ran (YieldsList-from_first of_whole whole_left _ c.behind.ensures) (λ x b q k. search (rules, tests))
    ∙ (walked-list g.W.Width.BYTES g.met.W.Width.some _ _ c.args.from c.args.kind ts h).1
