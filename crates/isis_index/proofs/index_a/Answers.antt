-- `isis_index::index_a` meets its contract: the walk, then the slots of RSVP-TE and of those with L. Assumes nothing.
use Rattle.isis_index.proofs.Starting.{started-ground, started-owning}
use Rattle.isis_index.proofs.Slots.{settled-ready}
use Rattle.isis_index.proofs.Ending.{indexed}
use Rattle.isis_index.proofs.index_a.Goals as goal

pub walk_and_settle-requires : goal.walk_and_settle-requires
walk_and_settle-requires c = let p = c.requires in (p.0, p.1, started-ground p.3, p.3.rows, started-owning p.3 p.2.0)

pub rsvp_te_slot-r-requires : goal.rsvp_te_slot-r-requires
rsvp_te_slot-r-requires c = settled-ready c.requires.3 c.walk_and_settle.ensures

pub returns : goal.returns
returns c = let p = c.requires in
    let r = c.rsvp_te_slot-r.ensures in
    indexed (record {
      ok = p.0;
      small = p.1;
      tells = p.2.0;
      old = p.2.1;
      started = p.3;
      walk = c.walk_and_settle.ensures;
      rsvp_te = r.0;
      holds = r.1;
      gets = r.2;
      gives = c.give_old.ensures;
    })
