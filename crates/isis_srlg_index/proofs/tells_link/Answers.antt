-- `isis_srlg_index::tells_link` meets its contract. Assumes nothing.
use Prim.Native.Nat.{ℕ, ◌+◌}
use mathlib.Core.Path.{◌∙◌, ap}
use native.Mathlib.Omega.{arith}
use lib.ListN.{length-take}
use Rattle.isis_check_a.proofs.Laws.{header-bytes}
use Rattle.isis_check.proofs.SrlgLaws.{length-byte}
use Rattle.isis_srlg_index.proofs.Said.{header-sizes}
use Rattle.isis_srlg_index.proofs.Identified.{live-told}
use Rattle.isis_srlg_index.proofs.tells_link.Goals as goal

pub header_length-length_byte-requires : goal.header_length-length_byte-requires
header_length-length_byte-requires c = let (a, b, e) = header-sizes c.args.v.now c.args.h c.requires.0.header c.requires.0.masks in
    (omega arith, omega arith)

pub overflow_add-list : goal.overflow_add-list
overflow_add-list c =
    let e = c.header_length-length_byte.ensures ∙ header-bytes _ _ c.requires.0.header in
    omega (arith, e, c.requires.0.inside, c.requires.0.size)

pub bounds-v-length_byte : goal.bounds-v-length_byte
bounds-v-length_byte c =
    let e = c.header_length-length_byte.ensures ∙ header-bytes _ _ c.requires.0.header in
    omega (arith, e, c.requires.0.inside)

pub overflow_add-end : goal.overflow_add-end
overflow_add-end c =
    let e = c.header_length-length_byte.ensures ∙ header-bytes _ _ c.requires.0.header in
    let r = c.requires.0 in
    omega (arith, e, r.inside, r.size, length-byte _ _ e)

pub slice_bounds-identifies_link-end : goal.slice_bounds-identifies_link-end
slice_bounds-identifies_link-end c =
    let e = c.header_length-length_byte.ensures ∙ header-bytes _ _ c.requires.0.header in
    let r = c.requires.0 in
    omega (arith, e, r.inside, length-byte _ _ e)

pub identifies_link-requires : goal.identifies_link-requires
identifies_link-requires c = simp length-take (omega (arith, c.type_inv.v c.header_length-length_byte.result))

pub returns : goal.returns
returns c =
    let e = c.header_length-length_byte.ensures ∙ header-bytes _ _ c.requires.0.header in
    λ at.
    live-told at c.args.v.now _ _ _ c.requires.1 c.requires.0.masks (ap (λ (n : ℕ). n + 1) e)
    (ap (λ (n : ℕ). c.header_length-length_byte.result + 1 + n) (length-byte _ _ e))
    (rw c.from.ensures at c.identifies_link.ensures)
