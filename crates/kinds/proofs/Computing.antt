-- Opens every definition of the crate at once: a proof by computing says `unfolding computing`.
use Rattle.kinds.specs.Rules.{size_of, fits_in, grid_codes, row_in, kind_of, rule_of, rule_of_code, wrong_inside_by, is_known, is_link, is_of_sets}
use Rattle.linkstate.proofs.Computing.{computing as linkstate-computing}

unfoldable pub computing : Unit {0}
unfolding linkstate-computing size_of fits_in grid_codes row_in kind_of rule_of rule_of_code wrong_inside_by is_known is_link is_of_sets
computing = tt
