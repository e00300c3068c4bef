-- `isis_index::add_asla` meets its contract, by what the header says. Assumes nothing.
use Rattle.isis_index.proofs.Taking.{read-unread, read_all, read_named, gains-none, gains-all, gains-named, named-within}
use Rattle.std.specs.Prelude.{Some}
use mathlib.Core.Path.{ap, ◌∙◌}
use Rattle.isis_index.proofs.add_asla.Goals as goal

pub general_list-requires : goal.general_list-requires
general_list-requires c = let t = read_all c.requires.1 _ c.read_asla.ensures _ (c.in-Some-ForAll.is ∙ ap Some c.in-Some-ForAll.field-0-is) in
    (c.requires.0.holds, c.requires.0.grounded.three, t.listed)

pub named_list-requires : goal.named_list-requires
named_list-requires c = let t = read_named c.requires.1 _ c.read_asla.ensures _ _ (c.in-Some-ForNamed.is ∙ ap Some c.in-Some-ForNamed.field-0-is) in
    (c.requires.0, t.0.listed, named-within c.requires.1 _ c.args.own.now t.1 c.requires.3)

pub returns-in-None : goal.returns-in-None
returns-in-None c = gains-none c.requires.1 c.requires.2 c.requires.0 (read-unread c.requires.1 _ c.read_asla.ensures c.in-None.is)

pub returns-in-Some-ForAll : goal.returns-in-Some-ForAll
returns-in-Some-ForAll c = let t = read_all c.requires.1 _ c.read_asla.ensures _ (c.in-Some-ForAll.is ∙ ap Some c.in-Some-ForAll.field-0-is) in
    gains-all c.requires.1 c.requires.2 c.requires.0 t c.general_list.ensures

pub returns-in-Some-ForNamed : goal.returns-in-Some-ForNamed
returns-in-Some-ForNamed c = let t = read_named c.requires.1 _ c.read_asla.ensures _ _ (c.in-Some-ForNamed.is ∙ ap Some c.in-Some-ForNamed.field-0-is) in
    gains-named c.requires.1 c.requires.2 c.requires.0 _ t.0 c.named_list.ensures
