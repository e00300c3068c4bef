-- Rule by rule; those of a bandwidth are none of SRLG's.
use lib.ListN.{length}
use mathlib.Core.Path.{refl}
use Rattle.linkstate.specs.Sides.{general_set}
use Rattle.rules.specs.declared.Rule.TheVariants.{ByL, Naming, General, Legacy, AloneFirst, LegacyFirst}
use Rattle.rules.specs.Rules.{taken_by}
use Rattle.isis.specs.RunB.{side_b}
use Rattle.isis_tlvs_238.specs.Selected.{selects}
use Rattle.isis_tlvs_238.proofs.Words.{collected, from-legacy, by-rule, fronts-by, no-bandwidth}
use Rattle.isis_tlvs_238.proofs.words_by.Goals as goal

pub returns-in-ByL : goal.returns-in-ByL
unfolding taken_by
returns-in-ByL c = from-legacy c.args.b.now c.args.c.now _ _ _ _ (by-rule _ _ ByL _ c.in-ByL.is refl) c.words_into.ensures c.requires.0.short_c c.requires.2

pub returns-in-Naming : goal.returns-in-Naming
unfolding taken_by selects
returns-in-Naming c = let w = c.collect.ensures in
    collected _ _ _ _ _ (by-rule (side_b c.args.b.now c.args.c.now) _ (Naming _) _ c.in-Naming.is refl)
    (length c.args.b.now) (w.by_index c.args.c.now) w.upper_bound c.requires.0.short_b c.requires.1

pub returns-in-General : goal.returns-in-General
unfolding taken_by general_set selects
returns-in-General c = let w = c.collect-in-General.ensures in
    collected _ _ _ _ _ (by-rule (side_b c.args.b.now c.args.c.now) _ General _ c.in-General.is refl)
    (length c.args.b.now) (w.by_index c.args.c.now) w.upper_bound c.requires.0.short_b c.requires.1

pub returns-in-Legacy : goal.returns-in-Legacy
unfolding taken_by
returns-in-Legacy c = from-legacy c.args.b.now c.args.c.now _ _ _ _ (by-rule _ _ Legacy _ c.in-Legacy.is refl) c.words_into-in-Legacy.ensures c.requires.0.short_c c.requires.2

pub returns-in-NamingFirst : goal.returns-in-NamingFirst
returns-in-NamingFirst c = fronts-by (side_b c.args.b.now c.args.c.now) _ _ _ _ _ c.in-NamingFirst.is c.naming_first.ensures

pub returns-in-AloneFirst : goal.returns-in-AloneFirst
returns-in-AloneFirst c = no-bandwidth _ AloneFirst c.in-AloneFirst.is (λ z. z) c.requires.3

pub returns-in-LegacyFirst : goal.returns-in-LegacyFirst
returns-in-LegacyFirst c = no-bandwidth _ LegacyFirst c.in-LegacyFirst.is (λ z. z) c.requires.3
