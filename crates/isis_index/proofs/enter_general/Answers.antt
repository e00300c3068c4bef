-- `isis_index::enter_general` meets its contract, kind by kind. Assumes nothing.
use native.Mathlib.Omega.{arith}
use mathlib.Core.Path.{◌∙◌, ap}
use lib.ListN.{get_or}
use Prim.Native.Nat.{ℕ}
use Rattle.linkstate.specs.Kinds.{link_codes}
use Rattle.isis.specs.Types.{code_of_type}
use Rattle.isis_kinds.proofs.Laws.{kind-read}
use Rattle.set_table.specs.Tables.{cell_of}
use Rattle.isis_index.specs.Index.{heard_by_all}
use Rattle.isis_index.proofs.Codes.{value-grid, value-link, silent}
use Rattle.isis_index.proofs.Cells.{general-grid, maximum-only, unheard-link, nothing, took-only, took-none, a-set, all_without, all-legacy, all-alone}
use Rattle.isis_index.proofs.enter_general.Goals as goal

pub enter_link-requires : goal.enter_link-requires
enter_link-requires c = (omega (arith, c.requires.1), (c.requires.0.rows 2 (omega (arith, c.requires.1))).twelve, omega arith, c.requires.2.low, c.requires.2.short)

pub enter_one-requires : goal.enter_one-requires
enter_one-requires c = let k = kind-read c.args.t _ _ c.classify_type-rule.ensures c.in-Application.is in
    (c.requires.0, a-set _ c.requires.1 (omega arith), k.0, value-grid c.requires.2 _ k.0 k.1)

pub returns-then-k-eq0 : goal.returns-then-k-eq0
returns-then-k-eq0 c = let a = c.args in
    let k = kind-read a.t _ _ c.classify_type-rule.ensures c.in-Link.is in
    let r = c.enter_link.ensures in
    λ v. took-only a.a.now a.sets.now _ heard_by_all a.t a.place a.n v 2 3 (omega arith) (r.0 a.a.now c.requires.0 (value-link c.requires.2 _ k.0 k.1)) r.1
    (λ owns x w. maximum-only owns (code_of_type a.t) (cell_of a.place a.n) heard_by_all all_without all-legacy (k.1 ∙ ap (λ (i : ℕ). get_or link_codes i 0) c.if-k-eq0.true) x w)

pub returns-else-k-eq0 : goal.returns-else-k-eq0
returns-else-k-eq0 c = let a = c.args in
    let k = kind-read a.t _ _ c.classify_type-rule.ensures c.in-Link.is in
    λ v. took-none a.a.now a.sets.now heard_by_all a.t a.place a.n v c.requires.0 (λ owns x w. unheard-link owns (code_of_type a.t) (cell_of a.place a.n) heard_by_all all-legacy all-alone _ k.0 c.if-k-eq0.false k.1 x w)

pub returns-in-Application : goal.returns-in-Application
returns-in-Application c = let a = c.args in
    let k = kind-read a.t _ _ c.classify_type-rule.ensures c.in-Application.is in
    let r = c.enter_one.ensures in
    λ v. took-only a.a.now a.sets.now _ heard_by_all a.t a.place a.n v 0 _ (omega arith) r.0 r.1 (λ owns x w. general-grid owns (code_of_type a.t) (cell_of a.place a.n) _ k.0 k.1 x w)

pub returns-in-Srlg : goal.returns-in-Srlg
returns-in-Srlg c = let a = c.args in
    let k = silent a.t _ c.classify_type-rule.ensures c.in-Srlg.is in
    λ v. took-none a.a.now a.sets.now heard_by_all a.t a.place a.n v c.requires.0 (λ owns x w. nothing owns (code_of_type a.t) (cell_of a.place a.n) heard_by_all k x w)
