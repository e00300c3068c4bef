-- `srlg_table::class_of` meets its contract: a class that was found, or what became of the tables. Assumes nothing.
use lib.ListN.{get_or}
use Rattle.srlg_table.proofs.Tabling.{given-found, given-added}
use Rattle.srlg_table.proofs.class_of.Goals as goal

pub returns-in-Some : goal.returns-in-Some
returns-in-Some c = let a = c.args in
    let f = c.in-Some.ensures a.count c.requires.7 in
    given-found a.rows.now a.used.sources a.used.words (get_or a.sources 0 0) (get_or a.sources 1 0) _ a.classes.now a.heads.now a.buckets.now a.count
    c.requires.7 c.bits_of-x.ensures c.in-Some.i f.1 f.2

pub returns-in-None : goal.returns-in-None
returns-in-None c = let a = c.args in
    let p = c.requires in
    given-added a.rows.now a.used.sources a.used.words (get_or a.sources 0 0) (get_or a.sources 1 0) _ a.classes.now a.heads.now a.buckets.now a.count p.7
    c.bits_of-x.ensures _ _ _ _ _ c.mark_of-mark.ensures (c.in-None.ensures a.count p.7) p.6 (p.2, p.3, p.4) c.new_class.ensures
