-- Opens every definition of the crate at once: a proof by computing says `unfolding computing`.
use Rattle.isis.specs.Types.{type_in_a, types, has_type, code_of_type, wrong_in_a}
use Rattle.isis.specs.MaskHeader.{l_flag, sabm_length, udabm_length, header_length, mask_too_long, l_for_nobody, advertisement}
use Rattle.isis.specs.RunA.{list_elements, check_attribute, known_type, check_asla, check_a, attributes_of, live_asla, asla_advertisements, side_a}
use Rattle.isis.specs.RunB.{after_neighbour, identifier_bytes, identifiers, srlg_values, identifier, known_identifiers, check_identifier, is_of_type, times, repeats, identifies, ignored, check_srlg, check_b, srlg_attribute, live_srlg, srlg_advertisement, srlg_advertisements, side_b}
use Rattle.isis.specs.Link.{link_verdict, side_of, link_source, export_link}
use Rattle.isis.specs.Why.{stand_a, stand_b, stand_of, side_why, link_why}
use Rattle.isis.specs.Starred.{M, S, G, Z, subjects, metrics_of, export_of, metric, empty_replies, msg_bytes, msg_in_room}
use Rattle.linkstate.proofs.Computing.{computing as linkstate-computing}

unfoldable pub computing : Unit {0}
unfolding linkstate-computing type_in_a types has_type code_of_type wrong_in_a l_flag sabm_length udabm_length header_length mask_too_long l_for_nobody advertisement list_elements check_attribute known_type check_asla check_a attributes_of live_asla asla_advertisements side_a after_neighbour identifier_bytes identifiers srlg_values identifier known_identifiers check_identifier is_of_type times repeats identifies ignored check_srlg check_b srlg_attribute live_srlg srlg_advertisement srlg_advertisements side_b link_verdict side_of link_source export_link stand_a stand_b stand_of side_why link_why M S G Z subjects metrics_of export_of metric empty_replies msg_bytes msg_in_room
computing = tt
