-- General, then legacy.
use Rattle.srlg_classes.proofs.Assigns.{first-own}
use Rattle.srlg_classes.proofs.give_firsts.Goals as goal

pub returns : goal.returns
returns c = let a = c.args in
    first-own a.who a.named a.first a.own.now _ _ _ _ c.without-s.ensures c.without-u.ensures c.give_both.ensures c.give_both-2.ensures
