-- With L, or where it is not taken, nothing is read; else the values follow the identifiers.
use native.Mathlib.Omega.{arith}
use lib.ListN.{length}
use Prim.Native.Nat.{◌+◌, ◌≤◌}
use mathlib.Core.Path.{◌≡◌, refl, sym, ap, ◌∙◌}
use Rattle.linkstate.specs.Bytes.{words}
use Rattle.isis.specs.RunB.{identifier_bytes}
use Rattle.isis.specs.MaskHeader.{header_length}
use Rattle.isis_check.proofs.SrlgLaws.{behind, behind-length, length-byte}
use Rattle.isis_check_a.proofs.Laws.{header-l, header-bytes, rest-is, rest-length}
use Rattle.isis_tlvs_238.proofs.Tlvs.{after_is, behind-listed, taken-within, words-l, words-not, words-at}
use Rattle.isis_tlvs_238.proofs.values_in.Goals as goal
use Rattle.isis_tlvs_238.proofs.values_in.Goals.{After-header_length-length_byte as Known, After-from as Read}

-- The length byte of the identifiers, and that they lie within what follows the neighbour bytes.
bytes : (k : Known) → k.header_length-length_byte.result ≡ header_length (behind k.args.value.now)
bytes k = k.header_length-length_byte.ensures ∙ header-bytes _ _ k.read_header-h.ensures.0

inside : (k : Known) → header_length (behind k.args.value.now) + 1 + identifier_bytes (behind k.args.value.now) ≤ length (behind k.args.value.now)
inside k = (behind-listed _ (k.requires refl)).listed (taken-within 0 _ _ _ (k.taken.ensures 0) k.if-not-taken.false)

pub slice_bounds-v-start : goal.slice_bounds-v-start
slice_bounds-v-start c = omega (arith, (c.requires refl).0)

pub read_header-h-requires : goal.read_header-h-requires
read_header-h-requires c = (behind-listed _ (c.requires refl)).fixed

pub returns-then-h : goal.returns-then-h
returns-then-h c = (λ at. words-l at _ _ _ refl (after_is _ (c.requires refl).0) _ (sym (header-l _ _ c.read_header-h.ensures.0) ∙ c.if-h.true), omega arith)

pub taken-requires : goal.taken-requires
taken-requires c = (c.read_header-h.ensures.0, behind-listed _ (c.requires refl))

pub returns-then-not-taken : goal.returns-then-not-taken
returns-then-not-taken c = (λ at. words-not at _ _ _ refl (after_is _ (c.requires refl).0) _ _ (c.taken.ensures at) c.if-not-taken.true, omega arith)

pub bounds-v-length_byte : goal.bounds-v-length_byte
bounds-v-length_byte c = let k = (goal.at.bounds-v-length_byte c).After-header_length-length_byte in omega (arith, bytes k, inside k)

-- Where the values begin.
start : (k : Read) → k.header_length-length_byte.result + 1 + k.from.result ≡ header_length (behind k.args.value.now) + 1 + identifier_bytes (behind k.args.value.now)
start k = let b = k.header_length-length_byte.ensures ∙ header-bytes _ _ k.read_header-h.ensures.0 in
    omega (arith, b, k.from.ensures, length-byte (behind k.args.value.now) k.header_length-length_byte.result b)

pub slice_bounds-result-count : goal.slice_bounds-result-count
slice_bounds-result-count c = let k = (goal.at.slice_bounds-result-count c).After-header_length-length_byte in omega (arith, start (goal.at.slice_bounds-result-count c).After-from, inside k)

pub slice_bounds-result-start : goal.slice_bounds-result-start
slice_bounds-result-start c = let k = (goal.at.slice_bounds-result-start c).After-header_length-length_byte in omega (arith, start (goal.at.slice_bounds-result-start c).After-from, inside k)

pub returns : goal.returns
returns c = let k = (goal.at.returns c).After-header_length-length_byte in
    let v = behind c.args.value.now in
    let e = start (goal.at.returns c).After-from in
    let h : c.header_length-length_byte.result + 1 + c.from.result ≤ length v = omega (arith, e, inside k) in (
      λ at.
          ap words (rest-is v (c.header_length-length_byte.result + 1 + c.from.result) h)
          ∙ words-at at _ _ _ refl (after_is _ (c.requires refl).0) _ _ _ (c.taken.ensures at) c.if-not-taken.false
          (sym (header-l _ _ c.read_header-h.ensures.0) ∙ c.if-h.false) e,
      omega (arith, rest-length v (c.header_length-length_byte.result + 1 + c.from.result) h, behind-length c.args.value.now),
    )
