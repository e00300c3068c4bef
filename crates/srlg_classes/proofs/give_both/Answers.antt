-- `srlg_classes::give_both` meets its contract. Assumes nothing.
use Rattle.srlg_classes.proofs.Gives.{gave-both}
use Rattle.srlg_classes.proofs.give_both.Goals as goal

pub returns : goal.returns
returns c = let a = c.args in gave-both a.standard a.user a.c a.own.now _ _ c.give.ensures c.give-2.ensures
