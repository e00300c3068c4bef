-- Rule by rule.
use Rattle.isis_link.proofs.Rows.{takes, naming-first}
use Rattle.isis_grids.specs.Selected.{selects}
use Rattle.rules.specs.declared.Rule.TheVariants.{ByL, Naming, General, Legacy, NamingFirst, AloneFirst, LegacyFirst}
use Rattle.rules.specs.Rules.{taken_by}
use Rattle.linkstate.specs.Sides.{general_set}
use mathlib.Core.Path.{refl}
use Rattle.isis_link.proofs.row_by.Goals as goal

pub returns-in-ByL : goal.returns-in-ByL
unfolding taken_by
returns-in-ByL c = takes c.args.a.now _ _ ByL _ _ c.in-ByL.is refl c.legacy_row.ensures

pub returns-in-Naming : goal.returns-in-Naming
unfolding taken_by selects
returns-in-Naming c = takes c.args.a.now _ _ (Naming _) _ _ c.in-Naming.is refl c.live_row.ensures

pub returns-in-General : goal.returns-in-General
unfolding taken_by general_set selects
returns-in-General c = takes c.args.a.now _ _ General _ _ c.in-General.is refl c.live_row-in-General.ensures

pub returns-in-Legacy : goal.returns-in-Legacy
unfolding taken_by
returns-in-Legacy c = takes c.args.a.now _ _ Legacy _ _ c.in-Legacy.is refl c.legacy_row-in-Legacy.ensures

pub returns-in-NamingFirst : goal.returns-in-NamingFirst
returns-in-NamingFirst c = let p = c.requires in
    takes c.args.a.now _ _ NamingFirst _ _ c.in-NamingFirst.is (naming-first c.args.a.now p.1 _ p.2 p.3)
    c.live_first.ensures

pub returns-in-AloneFirst : goal.returns-in-AloneFirst
unfolding taken_by selects
returns-in-AloneFirst c = takes c.args.a.now _ _ AloneFirst _ _ c.in-AloneFirst.is refl c.live_first-in-AloneFirst.ensures

pub returns-in-LegacyFirst : goal.returns-in-LegacyFirst
unfolding taken_by selects
returns-in-LegacyFirst c = takes c.args.a.now _ _ LegacyFirst _ _ c.in-LegacyFirst.is refl c.legacy_first.ensures
