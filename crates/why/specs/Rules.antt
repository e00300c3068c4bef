-- What is told by a rule: `linkstate`, Why, rule by rule.
use Rattle.std.specs.Prelude.{cond, not, ℕ}
use Rattle.linkstate.specs.Sides.{names, general, rsvp_te_alone, of_live}
use Rattle.linkstate.specs.Questions.{Subject, generally, standard_no, user_no}
use Rattle.linkstate.specs.Why as W
use Rattle.linkstate.specs.Why.{Why, because, Standing, names_with_l, first, has, holder, ◌or_else◌, legacy_why, carried_why}
use Rattle.rules.specs.declared.Rule.{Rule}
use Rattle.rules.specs.declared.Rule.TheVariants.{ByL, Naming, General, Legacy, NamingFirst, AloneFirst, LegacyFirst}
use Rattle.why.specs.Runs.{number_of}

-- W4. The general ones count where the general set is asked for, and where none names the application.
unfoldable pub general_rule : Subject → W.Rule
general_rule generally = W.general_asked
general_rule (standard_no n) = W.unnamed
general_rule (user_no n) = W.unnamed

-- W3. Those that name an application: the one that holds the value, else the first.
unfoldable pub naming_why : ℕ → ℕ → Standing → Why
naming_why n k s = because W.by_name (holder s k (names n) or_else first s (names n))

-- W9. Those that name RSVP-TE, where they have the kind, else legacy.
unfoldable pub naming_first_why : ℕ → Standing → Why
naming_first_why k s = cond (has k (of_live (names 0) s.side)) (because W.by_name (holder s k (names 0))) (legacy_why s)

-- W11. Legacy, if it has the kind, else one without L that has it.
unfoldable pub legacy_first_why : ℕ → Standing → Why
legacy_first_why k s = cond (has k s.side.legacy) (legacy_why s) (carried_why k (λ d. not d.L) s)

-- By the rule of a subject, and by that of a bandwidth of the link; a rule that neither has is told as legacy.
unfoldable pub why_by : Rule → Subject → ℕ → Standing → Why
why_by ByL whom k s = because W.by_l (first s (names_with_l (number_of whom)))
why_by (Naming n) whom k s = naming_why n k s
why_by General whom k s = because (general_rule whom) (holder s k general)
why_by NamingFirst whom k s = naming_first_why k s
why_by Legacy whom k s = legacy_why s
why_by AloneFirst whom k s = legacy_why s
why_by LegacyFirst whom k s = legacy_why s

unfoldable pub bandwidth_by : Rule → ℕ → Standing → Why
bandwidth_by LegacyFirst k s = legacy_first_why k s
bandwidth_by AloneFirst k s = carried_why k rsvp_te_alone s
bandwidth_by ByL k s = legacy_why s
bandwidth_by (Naming n) k s = legacy_why s
bandwidth_by General k s = legacy_why s
bandwidth_by Legacy k s = legacy_why s
bandwidth_by NamingFirst k s = legacy_why s
