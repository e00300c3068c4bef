-- The first k numbers are lent and sorted where they stand.
use Rattle.srlg_sort.proofs.Fronts.{lent-front}
use Rattle.isis_tlvs_238.proofs.sort_through.Goals as goal

pub returns : goal.returns
returns c = lent-front c.args.out.now _ c.args.k _ c.sort_in.auto.xs c.sort_in.ensures
