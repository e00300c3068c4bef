-- By the run of the side.
use mathlib.Core.Path.{refl}
use Rattle.replies.specs.declared.Run.TheVariants.{A, B, C, BgpLs}
use Rattle.isis.specs.Why.{stand_a, stand_b}
use Rattle.linkstate.specs.RunWhy.{stand_run}
use Rattle.why.specs.Runs.{standing}
use Rattle.why.proofs.Rules.{legacy-by}
use Rattle.why.proofs.legacy_why.Goals as goal

pub returns-in-A : goal.returns-in-A
unfolding standing stand_a stand_b stand_run
returns-in-A c = legacy-by _ A A c.in-A.is (λ s. refl)

pub returns-in-B : goal.returns-in-B
unfolding standing stand_a stand_b stand_run
returns-in-B c = legacy-by _ B C c.in-B.is (λ s. refl)

pub returns-in-C : goal.returns-in-C
unfolding standing stand_a stand_b stand_run
returns-in-C c = legacy-by _ C C c.in-C.is (λ s. refl)

pub returns-in-BgpLs : goal.returns-in-BgpLs
unfolding standing stand_a stand_b stand_run
returns-in-BgpLs c = legacy-by _ BgpLs BgpLs c.in-BgpLs.is (λ s. refl)
