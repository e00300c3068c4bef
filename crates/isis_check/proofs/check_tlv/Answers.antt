-- The answer of its checks, with its masks where it is live.
use mathlib.Core.Path.{◌≡◌, ap, ◌∙◌}
use Rattle.std.specs.Prelude.{Ok}
use Prim.Native.Nat.{◌+◌}
use native.Mathlib.Omega.{arith}
use Rattle.rules.proofs.NameLaws.{behind-as, refuses-behind}
use Rattle.replies.specs.declared.Run.TheVariants.{B}
use Rattle.replies.proofs.Laws.{passed_on}
use Rattle.isis_check_a.specs.Headers.{header_of}
use Rattle.isis_check_a.proofs.Laws.{part_in}
use Rattle.isis_check.specs.Parts.{behind_in}
use Rattle.isis_check.proofs.SrlgLaws.{tlv-short, refused-tlv, ignored-tlv, live-masks, named-tlv}
use Rattle.isis_check.proofs.check_tlv.Goals as goal
use Rattle.isis_check.proofs.check_tlv.Goals.{After-read_header-h}

-- the header is that of what follows the neighbour bytes
read : (c : After-read_header-h) → let a = c.args in c.read_header-h.result ≡ header_of (behind_in a.b.now a.at a.end)
read c = c.read_header-h.ensures.0 ∙ ap header_of (part_in c.args.b.now c.args.end c.requires.1 (c.args.at + 9) (omega arith))

pub returns-then-end-head : goal.returns-then-end-head
returns-then-end-head c = behind-as (tlv-short _ _ _ c.requires.1 c.requires.0 (omega arith)) (refuses-behind 3 B _ _ c.refuse_at.ensures _ _)

pub check_srlg-requires : goal.check_srlg-requires
check_srlg-requires c = (omega arith, c.requires.1, c.requires.2, read (goal.at.check_srlg-requires c).After-read_header-h, c.read_header-h.ensures.1, c.read_header-h.ensures.2)

pub returns-in_err-live : goal.returns-in_err-live
returns-in_err-live c = rw (passed_on _ _ c.from_residual.ensures.1) (refused-tlv _ _ _ c.requires.1 _ c.check_srlg.ensures _ _ c.in_err-live.was)

pub returns-then-not-live : goal.returns-then-not-live
returns-then-not-live c = ignored-tlv _ _ _ c.requires.1 _ c.check_srlg.ensures _ (c.in_ok-live.was ∙ ap Ok c.if-not-live.true)

pub with_advertisement-requires : goal.with_advertisement-requires
with_advertisement-requires c = let m = live-masks _ _ _ c.requires.1 _ c.check_srlg.ensures c.args.names (c.in_ok-live.was ∙ ap Ok c.if-not-live.false) (omega arith) _ (read (goal.at.with_advertisement-requires c).After-read_header-h) in
    (m.0, m.1, omega (arith, m.2), c.requires.2)

pub returns : goal.returns
returns c = named-tlv _ _ _ c.requires.1 _ c.check_srlg.ensures _ (c.in_ok-live.was ∙ ap Ok c.if-not-live.false) (omega arith) _ (read (goal.at.returns c).After-read_header-h) _ c.with_advertisement.ensures
