-- By which rule a subject gets a kind of a side, and what a rule takes there: the tests of `linkstate`, Sides, in their order.
use Rattle.std.specs.Prelude.{Bool, cond, not, List, ◌++◌, ℕ, eqb}
use Rattle.linkstate.specs.Lists.{empty}
use Rattle.linkstate.specs.Kinds.{is_link_code}
use Rattle.linkstate.specs.Masks.{user}
use Rattle.linkstate.specs.Attributes.{Attribute, value_of}
use Rattle.linkstate.specs.Sides.{Side, names, named, named_with_l, of_live, general_set, application_set, has_legacy, rsvp_te_kind, rsvp_te_alone, bandwidth_kind}
use Rattle.linkstate.specs.Questions.{Subject, generally, standard_no, user_no}
use Rattle.rules.specs.declared.Rule.{Rule}
use Rattle.rules.specs.declared.Rule.TheVariants.{ByL, Naming, General, Legacy, NamingFirst, AloneFirst, LegacyFirst}

-- W2, W3, W4. Application n, which is not RSVP-TE, by whether it is named with L and named.
unfoldable pub application_rule : ℕ → Bool → Bool → Rule
application_rule n l named = cond l ByL (cond named (Naming n) General)

-- W8, W9, W10, E2a. RSVP-TE, by the same two and by whether legacy has a value of the eleven kinds; where nothing names it there is nothing but legacy, and the
-- general set where that has none.
unfoldable pub rsvp_te_rule : Bool → Bool → Bool → Rule
rsvp_te_rule l named legacy = cond l ByL (cond named NamingFirst (cond legacy Legacy General))

-- W11, W12. A bandwidth of the link, by how RSVP-TE is named.
unfoldable pub bandwidth_rule : ℕ → Bool → Bool → Rule
bandwidth_rule k l named = cond (eqb k 1089) LegacyFirst (cond l ByL (cond named AloneFirst Legacy))

-- W2 to W13, E2a. The rule of a subject on a side, by how it is named there; and of a kind: of a bandwidth of the link by how RSVP-TE is named, whoever asks.
unfoldable pub subject_rule : Subject → Side → Rule
subject_rule generally s = General
subject_rule (standard_no n) s = cond (eqb n 0) (rsvp_te_rule (named_with_l 0 s) (named 0 s) (has_legacy s)) (application_rule n (named_with_l n s) (named n s))
subject_rule (user_no n) s = application_rule (user n) (named_with_l (user n) s) (named (user n) s)

unfoldable pub rule_on : Subject → ℕ → Side → Rule
rule_on whom k s = cond (is_link_code k) (bandwidth_rule k (named_with_l 0 s) (named 0 s)) (subject_rule whom s)

-- W2 to W12. What a rule takes, of kind k, on a side.
unfoldable pub taken_by : Rule → ℕ → Side → List Attribute
taken_by ByL k s = s.legacy
taken_by (Naming n) k s = of_live (names n) s
taken_by General k s = general_set s
taken_by Legacy k s = s.legacy
taken_by NamingFirst k s = cond (empty (value_of k (of_live (names 0) s))) s.legacy (of_live (names 0) s)
taken_by AloneFirst k s = of_live rsvp_te_alone s ++ s.legacy
taken_by LegacyFirst k s = s.legacy ++ of_live (λ d. not d.L) s

-- W13. What a subject gets of a kind on the side that the kind stands on: of a bandwidth of the link what everyone gets, else of its own set.
unfoldable pub set_on : Subject → ℕ → Side → List Attribute
set_on generally k s = general_set s
set_on (standard_no n) k s = cond (eqb n 0) (rsvp_te_kind k s) (application_set n s)
set_on (user_no n) k s = application_set (user n) s

unfoldable pub given_on : Subject → ℕ → Side → List Attribute
given_on whom k s = cond (is_link_code k) (bandwidth_kind k s) (set_on whom k s)
