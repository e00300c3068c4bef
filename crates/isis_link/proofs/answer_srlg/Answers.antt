-- None where there is no run to have one; else the different SRLGs of the subject, ascending, answered from a list of their own.
use Rattle.linkstate.specs.Questions.{srlg_answer}
use Rattle.replies.specs.Told.{subject_of}
use Rattle.isis_link.proofs.Laws.{none-there}
use Prim.Native.Nat.{ℕ}
use mathlib.Core.List.{List}
use mathlib.Core.Path.{ap, ◌∙◌}
use Rattle.isis_link.proofs.answer_srlg.Goals as goal

pub returns-then-b-c : goal.returns-then-b-c
returns-then-b-c c = let q = c.args in none-there q.b.now q.c.now (subject_of q.whom) q.list.now c.if-b-c.true

pub returns : goal.returns
returns c = let q = c.args in
    c.answer_front.ensures ∙ ap (λ (ns : List ℕ). srlg_answer ns q.list.now)
    c.srlgs_of-k.ensures.0
