-- By their bytes; a value and none have different lengths.
use mathlib.Core.Path.{◌∙◌, sym}
use mathlib.Core.List.{[]}
use lib.ListN.{get_or}
use native.Mathlib.Omega.{arith}
use Rattle.grids.proofs.Laws.{row_is, row-none, rows-differ, rows-say, none-say}
use Rattle.grids.proofs.same_value.Goals as goal

pub same_parts-requires : goal.same_parts-requires
same_parts-requires g c =
    let x = row_is (get_or (g.G.Grid.rows c.args.g.now) c.args.k []) _ (sym c.in-Some-Some.ensures) in
    let y = row_is (get_or (g.H.Grid.rows c.args.h.now) c.args.k []) _ (sym c.in-Some-Some.ensures') in
    let f = c.requires.fits in
    (omega (arith, x.0, x.1, f.0.within, y.0, y.1, f.1.within), omega (arith, x.0, x.1, f.0.within, y.0, y.1, f.1.within))

pub returns-in-Some-Some : goal.returns-in-Some-Some
returns-in-Some-Some g c =
    let x = row_is (get_or (g.G.Grid.rows c.args.g.now) c.args.k []) _ (sym c.in-Some-Some.ensures) in
    let y = row_is (get_or (g.H.Grid.rows c.args.h.now) c.args.k []) _ (sym c.in-Some-Some.ensures') in
    rows-say _ _ _ c.requires.fits.0 c.requires.fits.1 c.requires.alike _ (rw (sym x.0, sym x.1, sym y.0, sym y.1) c.same_parts.ensures)

pub returns-in-None-None : goal.returns-in-None-None
returns-in-None-None g c =
    let x = get_or (g.G.Grid.rows c.args.g.now) c.args.k [] in
    let y = get_or (g.H.Grid.rows c.args.h.now) c.args.k [] in
    none-say c.args.run.now x y (row-none x (sym c.value.ensures ∙ c.in-None-None.is-0)) (row-none y (sym c.value-2.ensures ∙ c.in-None-None.is-1))

pub returns-in_default : goal.returns-in_default
returns-in_default g c =
    let x = row_is (get_or (g.G.Grid.rows c.args.g.now) c.args.k []) _ (sym c.in_default.ensures) in
    let y = row-none (get_or (g.H.Grid.rows c.args.h.now) c.args.k []) (sym c.value-2.ensures ∙ c.in_default.is-1) in
    rows-differ _ _ _ c.requires.fits.0 c.requires.fits.1 c.requires.alike (λ e. omega (arith, x.1, x.2, y, e))

pub returns-in_default-2 : goal.returns-in_default-2
returns-in_default-2 g c =
    let x = row-none (get_or (g.G.Grid.rows c.args.g.now) c.args.k []) (sym c.value.ensures ∙ c.in_default.is-0) in
    let y = row_is (get_or (g.H.Grid.rows c.args.h.now) c.args.k []) _ (sym c.in_default.ensures) in
    rows-differ _ _ _ c.requires.fits.0 c.requires.fits.1 c.requires.alike (λ e. omega (arith, x, y.1, y.2, e))
