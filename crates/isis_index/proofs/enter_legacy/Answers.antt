-- `isis_index::enter_legacy` meets its contract, kind by kind. Assumes nothing.
use native.Mathlib.Omega.{arith}
use Rattle.isis.specs.Types.{code_of_type}
use Rattle.isis_kinds.proofs.Laws.{kind-read}
use Rattle.set_table.specs.Tables.{cell_of}
use Rattle.isis_index.specs.Index.{from_legacy}
use Rattle.isis_index.proofs.Codes.{value-grid, value-link, silent}
use Rattle.isis_index.proofs.Cells.{legacy-grid, legacy-link, nothing, took-only, took-none, a-set}
use Rattle.isis_index.proofs.enter_legacy.Goals as goal

pub enter_link-requires : goal.enter_link-requires
enter_link-requires c = let k = kind-read c.args.t _ _ c.classify_type-rule.ensures c.in-Link.is in
    (omega (arith, c.requires.1), (c.requires.0.rows 2 (omega (arith, c.requires.1))).twelve, omega (arith, k.0), c.requires.2.low, c.requires.2.short)

pub enter_one-requires : goal.enter_one-requires
enter_one-requires c = let k = kind-read c.args.t _ _ c.classify_type-rule.ensures c.in-Application.is in
    (c.requires.0, a-set 1 c.requires.1 (omega arith), k.0, value-grid c.requires.2 _ k.0 k.1)

pub returns-in-Link : goal.returns-in-Link
returns-in-Link c = let a = c.args in
    let k = kind-read a.t _ _ c.classify_type-rule.ensures c.in-Link.is in
    let r = c.enter_link.ensures in
    λ v. took-only a.a.now a.sets.now _ from_legacy a.t a.place a.n v 2 _ (omega arith) (r.0 a.a.now c.requires.0 (value-link c.requires.2 _ k.0 k.1)) r.1 (λ owns x w. legacy-link owns (code_of_type a.t) (cell_of a.place a.n) _ k.0 k.1 x w)

pub returns-in-Application : goal.returns-in-Application
returns-in-Application c = let a = c.args in
    let k = kind-read a.t _ _ c.classify_type-rule.ensures c.in-Application.is in
    let r = c.enter_one.ensures in
    λ v. took-only a.a.now a.sets.now _ from_legacy a.t a.place a.n v 1 _ (omega arith) r.0 r.1 (λ owns x w. legacy-grid owns (code_of_type a.t) (cell_of a.place a.n) _ k.0 k.1 x w)

pub returns-in-Srlg : goal.returns-in-Srlg
returns-in-Srlg c = let a = c.args in
    let k = silent a.t _ c.classify_type-rule.ensures c.in-Srlg.is in
    λ v. took-none a.a.now a.sets.now from_legacy a.t a.place a.n v c.requires.0 (λ owns x w. nothing owns (code_of_type a.t) (cell_of a.place a.n) from_legacy k x w)
