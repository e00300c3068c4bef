-- The set that a question is about, subject by subject.
use Rattle.bgpls_reader.proofs.ValueLaws.{asks-top, asks-general, asks-rsvp-te, asks-standard, asks-user, low-user}
use Rattle.bgpls_find.proofs.SetLaws.{starts-top}
use native.Mathlib.Omega.{arith}
use mathlib.Core.Path.{sym, ◌∙◌}
use Rattle.bgpls_reader.proofs.set_asked.Goals as goal

pub returns-then-is_link_code : goal.returns-then-is_link_code
returns-then-is_link_code c = record {
  begins = starts-top _ c.args.run.passed;
  all = asks-top _ _ c.args.whom (sym c.is_link_code.ensures ∙ c.if-is_link_code.true);
}

pub returns-then-n-eq0 : goal.returns-then-n-eq0
returns-then-n-eq0 c = record {
  begins = starts-top _ c.args.run.passed;
  all = asks-rsvp-te _ _ c.args.whom (sym c.is_link_code.ensures ∙ c.if-is_link_code.false) _ c.in-Standard.is c.if-n-eq0.true;
}

pub overflow_add-n : goal.overflow_add-n
overflow_add-n c = omega (arith, low-user c.args.whom _ c.in-User.is c.requires)

pub returns-in-General : goal.returns-in-General
returns-in-General c = record {
  begins = c.general_start.ensures.begins;
  all = asks-general _ _ c.args.whom (sym c.is_link_code.ensures ∙ c.if-is_link_code.false) _ c.in-General.is c.general_start.ensures.all;
}

pub returns-else-n-eq0 : goal.returns-else-n-eq0
returns-else-n-eq0 c = record {
  begins = c.set_of.ensures.begins;
  all = asks-standard _ _ c.args.whom (sym c.is_link_code.ensures ∙ c.if-is_link_code.false) _ _ c.in-Standard.is c.if-n-eq0.false c.set_of.ensures.all;
}

pub returns-in-User : goal.returns-in-User
returns-in-User c = record {
  begins = c.set_of-in-User.ensures.begins;
  all = asks-user _ _ c.args.whom (sym c.is_link_code.ensures ∙ c.if-is_link_code.false) _ _ c.in-User.is c.set_of-in-User.ensures.all;
}
