-- `isis_srlg_index::add_tlv` meets its contract: no number, general ones, nobody, or a source. Assumes nothing.
use native.Mathlib.Omega.{arith}
use Rattle.isis_srlg_index.proofs.Said.{adds_none, adds-nobody, adds-generals, adds-source, lent-few, part-few}
use mathlib.Core.Path.{◌≡◌, refl, subst}
use mathlib.Core.List.{[]}
use Rattle.isis_tlvs_238.specs.declared.Which.{Which}
use Rattle.isis_tlvs_238.specs.Selected.{words_in}
use Prim.Native.Nat.{ℕ}
use Rattle.linkstate.specs.Elements.{element}
use Rattle.isis_tlvs_238.specs.declared.Which.TheVariants.{Naming, General}
use Rattle.isis_srlg_index.specs.Sources.{Says, Reads, nothing}
use Rattle.isis_srlg_index.proofs.add_tlv.Goals as goal
use Rattle.isis_srlg_index.proofs.add_tlv.Goals.{In-Some as Known}

pub read_tlv-requires : goal.read_tlv-requires
read_tlv-requires c = let p = c.requires in (p.passed, p.size)

pub returns-in_default : goal.returns-in_default
returns-in_default c =
    let none : (at : ℕ) → (w : Which) → words_in w (element at c.args.t c.args.value.now) ≡ [] = λ at. subst (Reads (element at c.args.t c.args.value.now) c.args.value.now) c.in_default.is (c.read_tlv.ensures at) in
    record { by_index = λ at. nothing (λ n. none at (Naming n)) (none at General) refl refl refl; count_bound = (omega arith, omega arith) }

-- What is read of the TLV.
says : (k : Known) (at : ℕ) → Says (element at k.args.t k.args.value.now) k.args.value.now k.in-Some.tlv
says k at = subst (Reads (element at k.args.t k.args.value.now) k.args.value.now) k.in-Some.is (k.read_tlv.ensures at)

pub overflow_sub-value : goal.overflow_sub-value
overflow_sub-value c = omega (arith, (says (goal.at.overflow_sub-value c).In-Some 0).within)

pub returns-then-value-start-lt4 : goal.returns-then-value-start-lt4
returns-then-value-start-lt4 c =
    let a = c.args in
    record {
      by_index = λ at. adds_none _ _ _ (says (goal.at.returns-then-value-start-lt4 c).In-Some at) a.keys.now a.rows.now a.k (omega arith);
      count_bound = (omega arith, omega arith);
    }

pub add_words-count-requires : goal.add_words-count-requires
add_words-count-requires c = (omega arith, omega (arith, c.requires.numbers, part-few c.args.value.now c.in-Some.tlv.start))

pub returns-then-tlv : goal.returns-then-tlv
returns-then-tlv c =
    let a = c.args in
    let y = says (goal.at.returns-then-tlv c).In-Some in
    let w = c.add_words-count.ensures in
    record {
      by_index = λ at. adds-generals _ _ _ (y at) a.keys.now a.rows.now a.k _ _ c.if-tlv.true w.value w.small refl;
      count_bound = (lent-few _ _ _ (y 0) a.keys.now a.rows.now a.k _ w.value.0, omega arith);
    }

pub returns-then-who-eq0 : goal.returns-then-who-eq0
returns-then-who-eq0 c =
    let a = c.args in
    record {
      by_index = λ at. adds-nobody _ _ _ (says (goal.at.returns-then-who-eq0 c).In-Some at) a.keys.now a.rows.now a.k c.if-tlv.false c.if-who-eq0.true;
      count_bound = (omega arith, omega arith);
    }

pub add_source-requires : goal.add_source-requires
add_source-requires c =
    let y = says (goal.at.add_source-requires c).In-Some 0 in
    let few = part-few c.args.value.now c.in-Some.tlv.start in
    (c.requires.few.1, c.requires.source (y.head (omega (arith, y.within)) c.if-tlv.false), omega (arith, c.requires.numbers))

pub returns : goal.returns
returns c =
    let a = c.args in
    let y = says (goal.at.returns c).In-Some in
    let w = c.add_source.ensures in
    record {
      by_index = λ at. adds-source _ _ _ (y at) a.keys.now a.rows.now a.k _ _ _ c.if-tlv.false (omega arith) w.count_value w.keys_after;
      count_bound = (
        lent-few _ _ _ (y 0) a.keys.now a.rows.now a.k _ w.count_value.0,
        omega (arith, w.count_value.1, (y 0).head (omega (arith, (y 0).within)) c.if-tlv.false),
      );
    }
