-- `isis_export::export_bare` meets its contract: nobody has a number. Assumes nothing.
use mathlib.Core.List.{[]}
use native.Mathlib.Omega.{arith}
use Rattle.isis_export.proofs.Readying.{listed-none, ready, as-asked}
use Rattle.isis_export.proofs.export_bare.Goals as goal

pub export_listed-requires : goal.export_listed-requires
export_listed-requires c = let p = c.requires in
    (omega arith, ([], [], ready p c.link_of-n.ensures (listed-none p.tells) (λ h. absurd (omega arith))))

pub returns : goal.returns
returns c = let p = c.requires in
    as-asked c.link_of-n.ensures.of.3 _ _ _
    (c.export_listed.ensures [] [] (ready p c.link_of-n.ensures (listed-none p.tells) (λ h. absurd (omega arith))))
