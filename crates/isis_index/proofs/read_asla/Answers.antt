-- `isis_index::read_asla` meets its contract, test by test. Assumes nothing.
use mathlib.Core.Path.{◌∙◌, sym, refl}
use native.Mathlib.Omega.{arith}
use Rattle.isis_index.proofs.Aslas.{header-there, unread-l, unread-long, masks-there, told-all, told_named, named_here}
use borrow.Author.Rules.{rules}
use Rattle.isis_index.proofs.read_asla.Goals as goal

pub read_header-h-requires : goal.read_header-h-requires
read_header-h-requires c = header-there c.requires.0 c.requires.1

pub returns-then-h : goal.returns-then-h
returns-then-h c = unread-l c.requires.0 c.requires.1 _ c.read_header-h.ensures.0 c.if-h.true

pub returns-then-mask_too_long : goal.returns-then-mask_too_long
returns-then-mask_too_long c = unread-long c.requires.0 c.requires.1 _ c.read_header-h.ensures.0 c.if-h.false (sym c.mask_too_long.ensures ∙ c.if-mask_too_long.true)

pub returns-then-from-masks : goal.returns-then-from-masks
returns-then-from-masks c = told-all c.requires.0 c.requires.1 _ c.read_header-h.ensures.0 c.if-h.false
    (sym c.mask_too_long.ensures ∙ c.if-mask_too_long.false) _ refl c.if-from-masks.true

pub with_masks-who-requires : goal.with_masks-who-requires
with_masks-who-requires c = let m = masks-there c.requires.0 c.requires.1 _ c.read_header-h.ensures.0 c.if-h.false
    (sym c.mask_too_long.ensures ∙ c.if-mask_too_long.false) in
    (m.0, m.1, omega (arith, m.2, c.requires.0.inside), omega (arith, c.requires.0.small))

pub returns : goal.returns
returns c = let q = c.read_header-h.ensures.0 in
    let l = c.if-h.false in
    let m = sym c.mask_too_long.ensures ∙ c.if-mask_too_long.false in
    let d = c.if-from-masks.false in
    let w = c.with_masks-who.ensures in
    let z = c.nobody.ensures in (
      told_named c.requires.0 c.requires.1 _ q l m _ _ (search rules) (search rules) (λ z. d (omega arith)) z w _ refl,
      named_here c.requires.0 c.requires.1 _ q l m _ _ (search rules) (search rules) (λ z. d (omega arith)) z w,
    )
