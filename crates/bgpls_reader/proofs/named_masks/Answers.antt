-- What all 1122s name, without standard 0.
use native.Mathlib.Omega.{arith}
use Rattle.bgpls_reader.proofs.NamedLaws.{names-standard, names-user}
use Rattle.bgpls_reader.proofs.named_masks.Goals as goal

pub returns : goal.returns
returns c = let r = c.args.run.bytes.now in
    let a = c.all_masks in
    let t = c.turned_set-m in
    record {
      standard = names-standard r a.result t.result a.ensures t.ensures _ (omega arith) c.without.ensures;
      user = names-user r a.result t.result a.ensures t.ensures (omega arith);
    }
