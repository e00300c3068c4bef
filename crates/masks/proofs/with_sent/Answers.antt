-- No byte, eight at once, or byte by byte.
use mathlib.Core.Path.{ap, ◌∙◌}
use Prim.Native.Nat.{ℕ}
use native.Mathlib.Nat.{add-sub_cancel_left}
use lib.ListN.{take, drop}
use Rattle.masks.specs.Sets.{little_endian}
use native.Mathlib.Omega.{arith}
use Rattle.masks.proofs.Steps.{sent-same, sent-joined, small-part, front-part}
use Rattle.masks.proofs.with_sent.Goals as goal

pub returns-then-n-eq0 : goal.returns-then-n-eq0
returns-then-n-eq0 c = sent-same _ _ _ c.if-n-eq0.true

pub returns-in-Some : goal.returns-in-Some
returns-in-Some c = let a = c.args in
    sent-joined _ _ _ _ (small-part a.s.now (λ i. omega (arith, c.type_inv.s i)) a.at a.n) (c.front_bytes.ensures ∙ ap little_endian (front-part a.s.now _ a.at a.n c.requires.1 c.in-Some.ensures.cases.same)) c.joined.ensures

pub returns : goal.returns
returns c = let a = c.args in
    sent-joined _ _ _ _ (small-part a.s.now (λ i. omega (arith, c.type_inv.s i)) a.at a.n)
    (c.few_bytes.ensures ∙ ap (λ (i : ℕ). little_endian (take i (drop a.at a.s.now))) (add-sub_cancel_left a.at a.n)) c.joined-2.ensures
