-- What those that name RSVP-TE carry; where that is nothing, nothing was written before the legacy values.
use lib.ListN.{length}
use native.Mathlib.Omega.{arith}
use Rattle.isis_tlvs_238.proofs.Words.{collected, from-legacy, naming-carries, naming-none, nothing_then}
use Rattle.isis_tlvs_238.proofs.naming_first.Goals as goal

pub returns-then-k-gt0 : goal.returns-then-k-gt0
returns-then-k-gt0 c = let w = c.collect-k.ensures in
    collected _ _ _ _ _ (naming-carries _ _ (w.by_index c.args.c.now).0 (omega arith)) (length c.args.b.now) (w.by_index c.args.c.now) w.upper_bound c.requires.0.short_b c.requires.1

pub returns : goal.returns
returns c = let w = c.collect-k.ensures.by_index c.args.c.now in let l = c.words_into.ensures in
    from-legacy c.args.b.now c.args.c.now _ _ _ _ (naming-none _ _ w.0 (omega arith))
    (l.0, nothing_then c.args.out.now _ _ _ _ _ (omega arith) w.0 w.1 l.1) c.requires.0.short_c c.requires.2
