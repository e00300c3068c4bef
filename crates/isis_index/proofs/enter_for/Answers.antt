-- `isis_index::enter_for` meets its contract, kind by kind. Assumes nothing.
use native.Mathlib.Omega.{arith}
use mathlib.Core.Path.{◌∙◌, ap}
use lib.ListN.{get_or}
use Prim.Native.Nat.{ℕ}
use Rattle.linkstate.specs.Kinds.{link_codes}
use Rattle.isis.specs.Types.{code_of_type}
use Rattle.isis_kinds.proofs.Laws.{kind-read}
use Rattle.set_table.specs.Tables.{cell_of}
use Rattle.isis_index.specs.Index.{owning, heard}
use Rattle.isis_index.proofs.Codes.{value-grid, value-link, silent}
use Rattle.isis_index.proofs.Cells.{maximum-only, unheard-link, nothing}
use Rattle.isis_index.proofs.Heard.{heard-legacy, heard-without, heard-alone, alone-link, for-only, for-named, for-none}
use Rattle.isis_index.proofs.enter_for.Goals as goal

pub enter_link-requires : goal.enter_link-requires
enter_link-requires c = let h = c.requires.0.grounded.three in
    (omega (arith, h), (c.requires.0.holds.rows 2 (omega (arith, h))).twelve, omega arith, c.requires.1.low, c.requires.1.short)

pub returns-then-k-eq0 : goal.returns-then-k-eq0
returns-then-k-eq0 c = let a = c.args in
    let k = kind-read a.t _ _ c.classify_type-rule.ensures c.in-Link.is in
    let r = c.enter_link.ensures in
    λ v. for-only a.a.now a.own.now a.sets.now a.have.now _ c.requires.0 a.who a.t a.place a.n v 3 (r.0 a.a.now c.requires.0.holds (value-link c.requires.1 _ k.0 k.1)) r.1
    (λ x w. maximum-only a.own.now (code_of_type a.t) (cell_of a.place a.n) (heard a.who) (heard-without a.who) (heard-legacy a.who) (k.1 ∙ ap (λ (i : ℕ). get_or link_codes i 0) c.if-k-eq0.true) x w)

pub overflow_add-k : goal.overflow_add-k
overflow_add-k c = let a = c.args in
    let k = kind-read a.t _ _ c.classify_type-rule.ensures c.in-Link.is in omega (arith, k.0)

pub enter_link-requires-then-who : goal.enter_link-requires-then-who
enter_link-requires-then-who c = let h = c.requires.0.grounded.three in
    let k = kind-read c.args.t _ _ c.classify_type-rule.ensures c.in-Link.is in
    (omega (arith, h), (c.requires.0.holds.rows 2 (omega (arith, h))).twelve, omega (arith, k.0), c.requires.1.low, c.requires.1.short)

pub enter_named-requires : goal.enter_named-requires
enter_named-requires c = let a = c.args in
    let k = kind-read a.t _ _ c.classify_type-rule.ensures c.in-Application.is in
    (c.requires.0.holds, k.0, value-grid c.requires.1 _ k.0 k.1, (owning a.own.now, c.requires.0.grounded.slotted, c.requires.0.having, c.requires.2))

pub returns-then-who : goal.returns-then-who
returns-then-who c = let a = c.args in
    let k = kind-read a.t _ _ c.classify_type-rule.ensures c.in-Link.is in
    let r = c.enter_link-then-who.ensures in
    λ v. for-only a.a.now a.own.now a.sets.now a.have.now _ c.requires.0 a.who a.t a.place a.n v _ (r.0 a.a.now c.requires.0.holds (value-link c.requires.1 _ k.0 k.1)) r.1
    (λ x w. alone-link a.own.now a.who (code_of_type a.t) (cell_of a.place a.n) c.if-who.true _ k.0 c.if-k-eq0.false k.1 x w)

pub returns-else-who : goal.returns-else-who
returns-else-who c = let a = c.args in
    let k = kind-read a.t _ _ c.classify_type-rule.ensures c.in-Link.is in
    λ v. for-none a.a.now a.own.now a.sets.now a.have.now c.requires.0 a.who a.t a.place a.n v
    (λ x w. unheard-link a.own.now (code_of_type a.t) (cell_of a.place a.n) (heard a.who) (heard-legacy a.who) (heard-alone a.who ∙ c.if-who.false) _ k.0 c.if-k-eq0.false k.1 x w)

pub returns-in-Application : goal.returns-in-Application
returns-in-Application c = let a = c.args in
    let k = kind-read a.t _ _ c.classify_type-rule.ensures c.in-Application.is in
    let r = c.enter_named.ensures in
    λ v. for-named a.a.now a.own.now a.sets.now a.have.now _ c.requires.0 a.who a.t a.place a.n v c.requires.2 _ k.0 k.1 _ r.0 r.1 (r.2 (owning a.own.now) c.requires.0.grounded.slotted c.requires.0.having c.requires.2)

pub returns-in-Srlg : goal.returns-in-Srlg
returns-in-Srlg c = let a = c.args in
    let k = silent a.t _ c.classify_type-rule.ensures c.in-Srlg.is in
    λ v. for-none a.a.now a.own.now a.sets.now a.have.now c.requires.0 a.who a.t a.place a.n v (λ x w. nothing a.own.now (code_of_type a.t) (cell_of a.place a.n) (heard a.who) k x w)
