-- RSVP-TE's bit first, then both masks.
use native.Mathlib.Omega.{arith}
use Rattle.isis_grids.proofs.Taken.{masks-fit, lent-short, not_first, alone-lent}
use Rattle.isis_grids.proofs.is_alone.Goals as goal

pub returns-then-not-names_in : goal.returns-then-not-names_in
returns-then-not-names_in c = not_first _ c.requires _ c.names_in.ensures c.if-not-names_in.true

pub slice_bounds-rsvp_te_alone-end : goal.slice_bounds-rsvp_te_alone-end
slice_bounds-rsvp_te_alone-end c = omega (arith, (masks-fit _ c.requires).2)

pub slice_bounds-rsvp_te_alone-end-2 : goal.slice_bounds-rsvp_te_alone-end-2
slice_bounds-rsvp_te_alone-end-2 c = omega (arith, (masks-fit _ c.requires).2)

pub rsvp_te_alone-requires : goal.rsvp_te_alone-requires
rsvp_te_alone-requires c = rw (c.from-m.ensures, c.from.ensures) (lent-short _ c.requires)

pub returns : goal.returns
returns c = alone-lent _ c.requires _ (rw (c.from-m.ensures, c.from.ensures) at c.rsvp_te_alone.ensures)
