-- `isis_export::export_keys` meets its contract: the SRLGs of runs B and C are listed, and the link is ready. Assumes nothing.
use Rattle.isis_export.proofs.Readying.{listed, in_use, ready, as-asked}
use Rattle.isis_export.proofs.export_keys.Goals as goal

pub export_listed-requires : goal.export_listed-requires
export_listed-requires c =
    let p = c.requires.0 in
    let is = c.index_srlgs-k.ensures in
    (is.few.1, (_, _, ready p c.link_of-n.ensures (listed is p.tells) (λ h. in_use is)))

pub returns : goal.returns
returns c =
    let p = c.requires.0 in
    let is = c.index_srlgs-k.ensures in
    let n = c.link_of-n.ensures in
    as-asked n.of.3 _ _ _ (c.export_listed.ensures _ _ (ready p n (listed is p.tells) (λ h. in_use is)))
