-- The turns of the loops over attribute lists. Assumes nothing.
use mathlib.Core.Path.{◌≡◌, refl, sym, ap, ap₂, ◌∙◌, subst}
use mathlib.Core.Bool.{Bool, true, false, cond}
use mathlib.Core.List.{List, [], ◌∷◌, ◌++◌, append_assoc, append-nil}
use Prim.Native.Nat.{ℕ, ◌+◌, ◌-◌, ◌≤◌, ◌<◌}
use native.Mathlib.Omega.{arith}
use lib.Dec.{eqb}
use lib.ListN.{length, get_or}
use Rattle.linkstate.specs.Lists.{each}
use Rattle.linkstate.specs.Bytes.{bytes_at}
use Rattle.linkstate.specs.Replies.{accepted, run_a, fault}
use Rattle.linkstate.specs.Elements.{Element, element, elements, faults}
use Rattle.linkstate.specs.Attributes.{Attribute, attribute}
use Rattle.linkstate.proofs.WalkLaws.{left, not-accepted, type-one, length-one}
use Rattle.frames.proofs.Walks.{Stands, stands}
use Rattle.octets.proofs.Laws.{length-bytes_at, get_d-bytes_at}
use Rattle.isis.specs.Types.{code_of_type, wrong_in_a}
use Rattle.isis.specs.RunA.{check_attribute, attributes_of}
use Rattle.isis_grids.proofs.Walks.{left-all, inside, passed, rest_ok, turn}
use Rattle.set_table.specs.Tables.{Table}
use Rattle.isis_index.specs.Index.{Source, source_of, Right, part_of, Listed, told, attribute_at, Took, TookFor, Ready}
use Rattle.isis_index.proofs.Cells.{adds_then, adds-as, adds_none, kept-none, kept_then}
use Rattle.isis_index.proofs.Heard.{ground-same}

-- An attribute that has passed its check.
pub right_of : (at t : ℕ) (v : List ℕ) → check_attribute at t v ≡ accepted → wrong_in_a t (length v) ≡ false
unfolding check_attribute
right_of at t v h = go (wrong_in_a t (length v)) h
  where
    go : (b : Bool) → cond b (fault 4 run_a at) accepted ≡ accepted → b ≡ false
    go true e = absurd (not-accepted 4 run_a at e)
    go false e = refl

-- ---- the attribute at a position of a list that stands in run A

module _ {a : List ℕ} {from end : ℕ} (l : Listed a from end) where
  list-size : length (part_of a from end) ≡ end - from
  unfolding bytes_at
  list-size = let o = l.order in let i = l.inside in length-bytes_at a from (end - from) (omega arith)

  byte_at : (i : ℕ) → i < end - from → get_or (part_of a from end) i 0 ≡ get_or a (from + i) 0
  unfolding bytes_at
  byte_at i h = get_d-bytes_at a from (end - from) i h

  module _ (at : ℕ) (low : from ≤ at) (here : at < end) (ok : faults run_a check_attribute (left 1 from (part_of a from end) (at - from)) ≡ accepted) where
    abbrev list : List ℕ
    list = part_of a from end

    abbrev i : ℕ
    i = at - from

    abbrev kind : ℕ
    kind = get_or a at 0

    abbrev size : ℕ
    size = get_or a (at + 1) 0

    inner : i < length list
    inner = omega (arith, list-size)

    kind-is : get_or list i 0 ≡ kind
    kind-is = byte_at i (omega arith) ∙ ap (λ (k : ℕ). get_or a k 0) (omega arith)

    inside-list : i + 2 + get_or list (i + 1) 0 ≤ length list
    inside-list = inside check_attribute from list i inner ok

    size_is : get_or list (i + 1) 0 ≡ size
    size_is = byte_at (i + 1) (omega (arith, inside-list, list-size)) ∙ ap (λ (k : ℕ). get_or a k 0) (omega arith)

    pub list_inside : at + 2 + size ≤ end
    list_inside = omega (arith, inside-list, size_is, list-size)

    pub list-ok-next : faults run_a check_attribute (left 1 from list (at + 2 + size - from)) ≡ accepted
    list-ok-next =
        let e : i + 2 + get_or list (i + 1) 0 ≡ at + 2 + size - from = omega (arith, size_is) in
        ap (λ (k : ℕ). faults run_a check_attribute (left 1 from list k)) (sym e) ∙ rest_ok check_attribute from list i inner ok

    value-size : length (bytes_at list (i + 2) (get_or list (i + 1) 0)) ≡ size
    value-size = length-bytes_at list (i + 2) (get_or list (i + 1) 0) inside-list ∙ size_is

    right-length : wrong_in_a kind size ≡ false
    right-length = ap₂ wrong_in_a (sym kind-is) (sym value-size) ∙ right_of (from + i) (get_or list i 0) _ (passed check_attribute from list i inner ok)

    pub list_right : size < 256 → Right a kind (at + 2) size
    list_right b = record {
      within = omega (arith, list_inside, l.inside);
      low = omega (arith, list_inside, l.inside, l.small);
      short = omega arith;
      right = right-length;
    }

    -- The attribute here, and those that follow.
    abbrev pub value_here : List ℕ
    value_here = cond (eqb (get_or list i 0) 18) (0 ∷ bytes_at list (i + 2) (get_or list (i + 1) 0)) (bytes_at list (i + 2) (get_or list (i + 1) 0))

    pub one-here : each attributes_of (left 1 from list i) ≡ attribute_at kind (at + 2) size value_here ∷ each attributes_of (left 1 from list (at + 2 + size - from))
    unfolding attributes_of attribute
    one-here =
        let e : i + 2 + get_or list (i + 1) 0 ≡ at + 2 + size - from = omega (arith, size_is) in
        let p : from + i + 2 ≡ at + 2 = omega arith in
        turn check_attribute from list i inner ok attributes_of
        ∙ ap₂ (λ (n k : ℕ). record { code = code_of_type (get_or list i 0); at = from + i + 2; len = n; value = value_here } ∷ each attributes_of (left 1 from list k)) value-size e
        ∙ ap₂ (λ (t q : ℕ). attribute_at t q size value_here ∷ each attributes_of (left 1 from list (at + 2 + size - from))) kind-is p

-- ---- what has been read of a list, and what is left

told-append : (h : Source → Bool) (ts us : List Attribute) (src : Source) → told h ts src ++ told h us src ≡ told h (ts ++ us) src
told-append h ts us src = go (h src)
  where
    go : (b : Bool) → cond b ts [] ++ cond b us [] ≡ cond b (ts ++ us) []
    go true = refl
    go false = refl

pub told_none : (h : Source → Bool) (src : Source) → told h [] src ≡ []
told_none h src = go (h src)
  where
    go : (b : Bool) → cond {A = List Attribute} b [] [] ≡ []
    go true = refl
    go false = refl

-- Attributes after attributes.
pub took-then : {run : List ℕ} {table mid after : List (List ℕ)} {h : Source → Bool} {ts us : List Attribute} → Took run table mid h ts
    → Took run mid after h us → Took run table after h (ts ++ us)
took-then {run} {table} {mid} {after} {h} {ts} {us} a b = record {
  holds = b.holds;
  kept = kept_then a.kept b.kept;
  adds = λ owns g. adds-as (λ x v. told-append h ts us (source_of x)) (adds_then (a.adds owns g) (b.adds owns (ground-same a.kept.same g)));
}

pub took-empty : (run : List ℕ) (table : List (List ℕ)) (h : Source → Bool) → Table run table → Took run table table h []
took-empty run table h t = record { holds = t; kept = kept-none table; adds = λ owns g. adds_none owns table (told h []) (told_none h) }

pub for-then : {run : List ℕ} {owns table have mid had after has : List (List ℕ)} {h : Source → Bool} {ts us : List Attribute}
    → TookFor run owns table have mid had h ts → TookFor run owns mid had after has h us → TookFor run owns table have after has h (ts ++ us)
for-then {run} {owns} {table} {have} {mid} {had} {after} {has} {h} {ts} {us} a b = record {
  holds = b.holds;
  having = b.having;
  adds = adds-as (λ x v. told-append h ts us (source_of x)) (adds_then a.adds b.adds);
}

pub for-empty : (run : List ℕ) (owns table have : List (List ℕ)) (h : Source → Bool) → Ready run owns table have → TookFor run owns table have table have h []
for-empty run owns table have h r = record { holds = r.holds; having = r.having; adds = adds_none owns table (told h []) (told_none h) }

-- ---- the two loops, over what has been taken

-- P: what a loop has done with the attributes so far.
pub record Reading (a : List ℕ) (from end at : ℕ) (P : List Attribute → Type 0) : Type 0 where
  pub low : from ≤ at
  pub high : at ≤ end
  pub ok : faults run_a check_attribute (left 1 from (part_of a from end) (at - from)) ≡ accepted
  pub gone : List Attribute
  pub parts : gone ++ each attributes_of (left 1 from (part_of a from end) (at - from)) ≡ each attributes_of (elements 1 from (part_of a from end))
  pub done : P gone

module _ {a : List ℕ} {from end : ℕ} (l : Listed a from end) where
  all_left : left 1 from (part_of a from end) (from - from) ≡ elements 1 from (part_of a from end)
  all_left = let z : from - from ≡ 0 = omega arith in ap (left 1 from (part_of a from end)) z ∙ left-all from (part_of a from end)

  pub reading-begin : {P : List Attribute → Type 0} → P [] → Reading a from end from P
  reading-begin p = record {
    low = omega arith;
    high = l.order;
    ok = ap (faults run_a check_attribute) all_left ∙ l.passed;
    gone = [];
    parts = ap (each attributes_of) all_left;
    done = p;
  }

  module _ {at : ℕ} {P : List Attribute → Type 0} (r : Reading a from end at P) (here : at < end) where
    pub reading-inside : at + 2 + get_or a (at + 1) 0 ≤ end
    reading-inside = list_inside l at r.low here r.ok

    pub reading-right : get_or a (at + 1) 0 < 256 → Right a (get_or a at 0) (at + 2) (get_or a (at + 1) 0)
    reading-right b = list_right l at r.low here r.ok b

    pub reading-next : {Q : List Attribute → Type 0} → ((v : List ℕ) → Q (r.gone ++ (attribute_at (get_or a at 0) (at + 2) (get_or a (at + 1) 0) v ∷ [])))
        → Reading a from end (at + 2 + get_or a (at + 1) 0) Q
    reading-next q =
        let v = value_here l at r.low here r.ok in
        let t = attribute_at (get_or a at 0) (at + 2) (get_or a (at + 1) 0) v in
        let o = r.low in
        record {
          low = omega arith;
          high = reading-inside;
          ok = list-ok-next l at r.low here r.ok;
          gone = r.gone ++ (t ∷ []);
          parts = append_assoc r.gone (t ∷ []) _ ∙ ap (λ (ts : List Attribute). r.gone ++ ts) (sym (one-here l at r.low here r.ok)) ∙ r.parts;
          done = q v;
        }

-- ---- a turn of the iterator

-- The loop stands at a place of the run: es are the elements from there on.
pub record AtPlace (a : List ℕ) (from end : ℕ) (es : List Element) (P : List Attribute → Type 0) : Type 0 where
  pub at : ℕ
  pub left : es ≡ left 1 from (part_of a from end) (at - from)
  pub reads : Reading a from end at P

one : 0 < 1
one = omega arith

module _ {a : List ℕ} {from end : ℕ} (l : Listed a from end) {es : List Element} where
  pub place-begin : {P : List Attribute → Type 0} → es ≡ elements 1 from (part_of a from end) → P [] → AtPlace a from end es P
  place-begin e p = record { at = from; left = e ∙ sym (all_left l); reads = reading-begin l p }

  pub place-end : {P : List Attribute → Type 0} → AtPlace a from end es P → es ≡ [] → P (each attributes_of (elements 1 from (part_of a from end)))
  unfolding each
  place-end {P} p e =
      subst P (sym (append-nil p.reads.gone) ∙ ap (λ (es : List Element). p.reads.gone ++ each attributes_of es) (sym e ∙ p.left) ∙ p.reads.parts) p.reads.done

  module _ {P : List Attribute → Type 0} (p : AtPlace a from end es P) {o t : ℕ} {v : List ℕ} {rest : List Element} (e : es ≡ element o t v ∷ rest) where
    there : Stands 1 one from (part_of a from end) (p.at - from) o t v rest
    there = stands 1 one from (part_of a from end) (p.at - from) (sym p.left ∙ e)

    here : p.at < end
    here = let s = there in let r = p.reads in omega (arith, s.whole.within, list-size l)

    -- The offset, the type and the length are those that stand there.
    o-is : o ≡ p.at
    o-is = let s = there in let r = p.reads in omega (arith, s.place)

    t-is : get_or a p.at 0 ≡ t
    t-is = let r = p.reads in sym (kind-is l p.at r.low here r.ok) ∙ sym (type-one (part_of a from end) (p.at - from)) ∙ there.whole.type

    n-is : get_or a (p.at + 1) 0 ≡ length v
    n-is = let r = p.reads in sym (size_is l p.at r.low here r.ok) ∙ sym (length-one (part_of a from end) (p.at - from)) ∙ there.whole.size

    pub place-right : ((i : ℕ) → get_or a i 0 < 256) → Right a t (o + 2) (length v)
    place-right b = rw (← t-is, o-is, ← n-is) (reading-right l p.reads here (b (p.at + 1)))

    pub place-next : {Q : List Attribute → Type 0} → ((v' : List ℕ) → Q (p.reads.gone ++ (attribute_at t (o + 2) (length v) v' ∷ []))) → AtPlace a from end rest Q
    place-next q =
        record {
          at = p.at + 2 + get_or a (p.at + 1) 0;
          left = there.behind ∙ ap (left 1 from (part_of a from end)) (let r = p.reads in omega (arith, n-is, r.low));
          reads = reading-next l p.reads here (λ v'. rw (t-is, n-is, sym o-is) (q v'));
        }

-- ---- the turns, as the code has them

pub general-ready : {run : List ℕ} {table sets : List (List ℕ)} {h : Source → Bool} {from end at : ℕ} → 3 ≤ length table
    → Reading run from end at (Took run table sets h) → Table run sets × (3 ≤ length sets)
general-ready m r = (r.done.holds, omega (arith, r.done.kept.same))

pub named-ready : {run : List ℕ} {owns table have sets had : List (List ℕ)} {h : Source → Bool} {from end at : ℕ} → Ready run owns table have
    → Reading run from end at (TookFor run owns table have sets had h) → Ready run owns sets had
named-ready y r = record { holds = r.done.holds; grounded = ground-same r.done.adds.same y.grounded; having = r.done.having }
