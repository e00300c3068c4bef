-- SRLGs, and every other kind.
use Rattle.bgpls_reader.proofs.Laws.{asks-srlg}
use Rattle.answering.proofs.Entries.{answer-other}
use Rattle.replies.specs.Told.{subject_of}
use Rattle.linkstate.specs.BgpLs.{run_source}
use Rattle.linkstate.specs.Replies.{run_bgp_ls, place}
use borrow.Author.Tests.{ne_eqb}
use Rattle.bgpls_reader.proofs.answer_accepted.Goals as goal

pub returns-then-code-eq1096 : goal.returns-then-code-eq1096
returns-then-code-eq1096 c = let a = c.args in asks-srlg a.run.bytes.now (subject_of a.whom) _ (place run_bgp_ls) _ _ c.if-code-eq1096.true c.answer_srlg.ensures

pub answer_value-requires : goal.answer_value-requires
answer_value-requires c = let p = c.requires in (p.0, p.1, ne_eqb _ 1096 c.if-code-eq1096.false)

pub returns : goal.returns
returns c = let a = c.args in answer-other (run_source a.run.bytes.now) (subject_of a.whom) _ (place run_bgp_ls) _ _ c.if-code-eq1096.false c.answer_value.ensures
