-- Each form reads what it says; SRLGs never come here.
use Rattle.answering.proofs.ReadingLaws.{readable-as, reads_whole, reads-pair, reads-float, reads-part}
use Rattle.kinds.specs.declared.Form.TheVariants.{WholeNumber, TwoNumbers, Float, SrlgCount}
use native.Mathlib.Omega.{arith}
use Rattle.answering.proofs.read_value.Goals as goal

pub read_number-requires : goal.read_number-requires
read_number-requires c = let p = c.requires in let l = readable-as _ WholeNumber _ c.in-WholeNumber.is p.1 in (p.0, l.0, l.1)

pub read32-first-requires : goal.read32-first-requires
read32-first-requires c = let p = c.requires in omega (arith, p.0, readable-as _ TwoNumbers _ c.in-TwoNumbers.is p.1)

pub read32-second-requires : goal.read32-second-requires
read32-second-requires c = let p = c.requires in omega (arith, p.0, readable-as _ TwoNumbers _ c.in-TwoNumbers.is p.1)

pub float_at-requires : goal.float_at-requires
float_at-requires c = let p = c.requires in omega (arith, p.0, readable-as _ Float _ c.in-Float.is p.1)

pub returns-in-WholeNumber : goal.returns-in-WholeNumber
returns-in-WholeNumber c = reads_whole _ _ _ _ _ _ c.in-WholeNumber.is c.read_number.ensures

pub returns-in-TwoNumbers : goal.returns-in-TwoNumbers
returns-in-TwoNumbers c = let p = c.requires in
    reads-pair _ _ _ _ _ _ _ c.in-TwoNumbers.is (readable-as _ TwoNumbers _ c.in-TwoNumbers.is p.1) p.0 c.read32-first.ensures.0 c.read32-second.ensures.0

pub returns-in-Float : goal.returns-in-Float
returns-in-Float c = let p = c.requires in
    reads-float _ _ _ _ _ _ c.in-Float.is (readable-as _ Float _ c.in-Float.is p.1) c.float_at.ensures

pub returns-in-PlaceAndLength : goal.returns-in-PlaceAndLength
returns-in-PlaceAndLength c = reads-part _ _ _ _ _ c.in-PlaceAndLength.is

pub returns-in-SrlgCount : goal.returns-in-SrlgCount
returns-in-SrlgCount c = absurd (readable-as _ SrlgCount _ c.in-SrlgCount.is c.requires.1)
