-- Nobody, or the blocks.
use Prim.Native.Nat.{ℕ, ◌<◌}
use mathlib.Core.Path.{◌≡◌, sym, ◌∙◌}
use mathlib.Core.List.{[], ◌∷◌}
use native.Mathlib.Omega.{arith}
use Rattle.srlg_ranks.specs.Ranks.{in_words}
use Rattle.srlg_classes.specs.Owned.{plain}
use Rattle.srlg_classes.proofs.Assigns.{plain-pair, plain-few, block-rowed, block-few, named-blocks, named_none}
use Rattle.srlg_classes.proofs.give_named.Goals as goal
use Rattle.srlg_classes.proofs.give_named.Goals.{After-meets}

-- the applications that are looked at
are : (c : After-meets) → (a : ℕ) → a < 128 → in_words (c.without-s.result ∷ c.without-u.result ∷ []) a ≡ plain c.args.named a
are c = plain-pair c.args.named _ _ c.without-s.ensures c.without-u.ensures

pub returns-then-not-meets : goal.returns-then-not-meets
returns-then-not-meets c = let a = c.args in
    let none = c.meets.ensures.1 c.if-not-meets.true in
    named_none a.rows.now a.used.sources a.used.words a.named a.classes.now a.heads.now a.buckets.now a.own.now a.count
    (λ i h. sym (are (goal.at.returns-then-not-meets c).After-meets i h) ∙ none i h) c.requires.9 c.requires.10

pub blocks_of-m-requires : goal.blocks_of-m-requires
blocks_of-m-requires c = (
  c.requires.1,
  c.requires.2,
  c.requires.3,
  c.meets.ensures.0 c.if-not-meets.false,
  omega (arith, c.requires.4, plain-few c.args.named _ _ (are (goal.at.blocks_of-m-requires c).After-meets)),
)

pub assign-requires : goal.assign-requires
assign-requires c = let w = c.blocks_of-m in
    let a = c.args in
    let few = block-few a.rows.now a.used.sources _ _ _ w.result w.ensures in
    let most = plain-few a.named _ _ (are (goal.at.assign-requires c).After-meets) in (
      c.requires.0,
      c.requires.3,
      omega (arith, few, most, c.requires.4, w.auto.blocks),
      omega (arith, few, most, c.requires.5),
      omega (arith, few, most, c.requires.6),
      omega (arith, few, most, c.requires.5, c.requires.7),
      c.requires.8,
      c.requires.9,
      block-rowed a.rows.now a.used.sources _ _ _ w.result w.ensures,
      c.requires.10,
    )

pub returns : goal.returns
returns c = let w = c.blocks_of-m in
    let a = c.args in
    named-blocks a.rows.now a.used.sources _ _ _ w.result w.ensures a.named a.used.words a.classes.now a.own.now _ _ _ _ a.count _
    (are (goal.at.returns c).After-meets) c.assign.ensures
