-- No set has anybody.
use Rattle.rules.proofs.NameLaws.{tells_none}
use Rattle.rules.proofs.Names.nobody.Goals as goal

pub returns : goal.returns
returns c = tells_none _ c.nobody-named.ensures c.nobody-named.ensures
