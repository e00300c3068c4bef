-- Opens every definition of the crate at once: a proof by computing says `unfolding computing`.
use Rattle.linkstate.specs.Lists.{numbers, keep, any, all, count, each, lookup, empty, put, member, same_bytes, same_rows}
use Rattle.linkstate.specs.Bytes.{number_from, number, two, four, bytes_at, words, insert, distinct, bytes_of_words}
use Rattle.linkstate.specs.Replies.{place, refusal_at, fault, fault_of_call, refused_if, ◌then◌, unless}
use Rattle.linkstate.specs.Elements.{type_of, length_of, size_of, elements_after, elements, faults, faults_once}
use Rattle.linkstate.specs.Kinds.{fits, kind, kinds, for_applications, is_applications, codes, link_codes, application_codes, has_code, wrong_at_top, wrong_inside, is_code, is_link_code, form_of}
use Rattle.linkstate.specs.Masks.{bit, user, in_masks, others, one, powers_below, as_number, in_number, last_below, bytes_to_hold, mask_size, mask_byte, mask}
use Rattle.linkstate.specs.Attributes.{attribute, of_kind, srlgs, first_value, value_of, reading_as, reading}
use Rattle.linkstate.specs.Sides.{general, names, named, named_with_l, of_live, general_set, application_set, has_legacy, takes_general, rsvp_te_kind, rsvp_te_alone, maximum_bandwidth, reservable_bandwidth, bandwidth_kind}
use Rattle.linkstate.specs.Questions.{number_too_high, set_of, given, before_answer, first_of, unwritten, srlg_answer, answer, ask, bytes_of_first, value, list_named, write}
use Rattle.linkstate.specs.Meaning.{meaning, row}
use Rattle.linkstate.specs.Export.{bytes_of, present, top_value, asla_value, general_values, leader, in_group, leaders, group_value, asla_values, tlvs, export}
use Rattle.linkstate.specs.BgpLs.{sabm_length, udabm_length, asla_header, is_mask_length, not_ignored, inner_elements, check_inner, known_inside, check_asla, check_top, run_verdict, attributes_of, advertisement, advertisements_of, aslas, top_level, run_side, run_source}
use Rattle.linkstate.specs.Why.{rule_number, offset_of, first, ◌or_else◌, has, holder, names_with_l, legacy_why, application_why, rsvp_te_why, subject_why, carried_why, bandwidth_why, unless_ask_refused}
use Rattle.linkstate.specs.RunWhy.{stand_run, top_why, run_why}

unfoldable pub computing : Unit {0}
unfolding numbers keep any all count each lookup empty put member same_bytes same_rows number_from number two four bytes_at words insert distinct bytes_of_words place refusal_at fault fault_of_call refused_if ◌then◌ unless type_of length_of size_of elements_after elements faults faults_once fits kind kinds for_applications is_applications codes link_codes application_codes has_code wrong_at_top wrong_inside is_code is_link_code form_of bit user in_masks others one powers_below as_number in_number last_below bytes_to_hold mask_size mask_byte mask attribute of_kind srlgs first_value value_of reading_as reading general names named named_with_l of_live general_set application_set has_legacy takes_general rsvp_te_kind rsvp_te_alone maximum_bandwidth reservable_bandwidth bandwidth_kind number_too_high set_of given before_answer first_of unwritten srlg_answer answer ask bytes_of_first value list_named write meaning row bytes_of present top_value asla_value general_values leader in_group leaders group_value asla_values tlvs export sabm_length udabm_length asla_header is_mask_length not_ignored inner_elements check_inner known_inside check_asla check_top run_verdict attributes_of advertisement advertisements_of aslas top_level run_side run_source rule_number offset_of first ◌or_else◌ has holder names_with_l legacy_why application_why rsvp_te_why subject_why carried_why bandwidth_why unless_ask_refused stand_run top_why run_why
computing = tt
