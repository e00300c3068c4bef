-- No value, nothing; else the TLV of the row's value.
use mathlib.Core.Path.{sym, ◌∙◌}
use mathlib.Core.List.{[]}
use lib.ListN.{get_or}
use Rattle.tlv_bytes.proofs.Laws.{no_write, same-room, same_write}
use Rattle.set_bytes.proofs.Laws.{kind-none, kind_fits, kind-some}
use Rattle.set_bytes.proofs.write_cell.Goals as goal

pub returns-in_default : goal.returns-in_default
returns-in_default g c = let a = c.args in
    no_write a.out.now a.at (kind-none a.run.now (get_or (g.G.Grid.rows a.g.now) a.k []) a.code (sym c.value.ensures ∙ c.in_default.is))

pub write_value-requires : goal.write_value-requires
write_value-requires g c = let a = c.args in
    let r = get_or (g.G.Grid.rows a.g.now) a.k [] in
    let e = sym c.value.ensures ∙ c.in-Some.is in
    let f = kind_fits a.run.now r a.code _ e c.requires.1 in
    (f.0, f.1, same-room (kind-some a.run.now r a.code _ e c.requires.1) a.out.now a.at c.requires.2)

pub returns : goal.returns
returns g c = let a = c.args in
    let r = get_or (g.G.Grid.rows a.g.now) a.k [] in
    same_write (kind-some a.run.now r a.code _ (sym c.value.ensures ∙ c.in-Some.is) c.requires.1) a.out.now a.at c.write_value.ensures
