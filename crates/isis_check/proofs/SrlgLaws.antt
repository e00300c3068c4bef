-- A TLV 238, check by check: its parts, and what its identifiers decide.
use mathlib.Core.Path.{◌≡◌, refl, sym, ap, ap₂, ◌∙◌, subst}
use mathlib.Core.Bool.{Bool, true, false, cond, ◌&&◌, ◌||◌, not}
use mathlib.Core.List.{List, [], ◌∷◌}
use mathlib.Core.Logic.{◌⊎◌, inl, inr}
use Prim.Native.Nat.{ℕ, ◌+◌, ◌-◌, ◌%◌, ◌≤◌, ◌<◌}
use native.Mathlib.Omega.{arith}
use borrow.Author.Tests.{lt-ltb, le-ltb, eq-eqb, ne_eqb, leb-true, leb-false}
use Rattle.std.specs.Prelude.{min, leb}
use lib.Dec.{eqb}
use lib.ListN.{length, take, drop, get_or, length-drop, drop_of_length-le}
use lib.Seq.{drop-drop, get_or-drop, get_or-take, length-take-le, take_all, take-nil}
use Rattle.linkstate.specs.Lists.{any, count}
use Rattle.linkstate.specs.Replies.{Verdict, accepted, refused, Refusal, refusal_at, fault, ◌then◌, run_b}
use Rattle.linkstate.specs.Elements.{Element, element, elements, faults}
use Rattle.linkstate.specs.Sides.{names}
use Rattle.linkstate.proofs.ElementLaws.{none_left}
use Rattle.replies.specs.declared.Refusal.{Refusal as Fault}
use Rattle.std.specs.Prelude.{None, Some, Result, Ok, Err}
use Rattle.replies.specs.Told.{told_refusal, told_checked}
use Rattle.rules.specs.declared.Names.{Names}
use Rattle.rules.specs.Names.{advertised_at, Adds, Given, ChecksBehind}
use Rattle.rules.proofs.NameLaws.{adds_none}
use Rattle.isis.specs.MaskHeader.{header_length, mask_too_long, l_for_nobody, advertisement}
use Rattle.isis.specs.RunB.{identifier_bytes, identifiers, srlg_values, check_identifier, identifier, known_identifiers, times, repeats, identifies, ignored, live_srlg, check_srlg, check_b, after_neighbour, srlg_advertisement, srlg_advertisements}
use Rattle.isis_check_a.specs.declared.Header.{Header}
use Rattle.isis_check_a.specs.declared.Past.{Past}
use Rattle.isis_check_a.specs.Headers.{header_of, masks_in, value_in}
use Rattle.isis_check_a.proofs.Laws.{rest-is, header-l, header-bytes, masks-say, front-is, lent_length, part_in, part-of-part, part-in-length}
use Rattle.isis_check_a.proofs.Naming.{masks-small, adds-value, adds-read}
use Rattle.isis_check.specs.Identifiers.{identified_in, once_and_paired, identifiers_in, tally_of, Lists}
use Rattle.isis_check.proofs.LawsOfB.{tally-tells}
use Rattle.isis_check.specs.Parts.{parts_verdict, behind_in, Within, Lives, Judges}

-- What repeats or does not identify is what does not identify once.
judged : (r i b : Bool) → not r && i ≡ b → (r || not i) ≡ not b
judged true i b e = ap not e
judged false i b e = ap not e

-- ---- the parts

module _ (b : List ℕ) (l : Bool) (from to end at : ℕ) (w : Within b l from to end at) where
  -- what follows the neighbour bytes, and the identifiers that the walk is lent
  abbrev v : List ℕ
  v = behind_in b at end

  abbrev lent : List Element
  lent = identifiers_in (take (to - 0) b) from

  pub lent-within : (from ≤ to) × (to ≤ length b)
  lent-within = (omega (arith, w.values), omega (arith, w.fits, w.inside))

  lent-size : length (take (to - 0) b) ≡ to
  lent-size = lent_length b to lent-within.1

  pub lent-short : (from ≤ length (take (to - 0) b)) × (length (take (to - 0) b) < from + 256)
  lent-short = (omega (arith, lent-within.0, lent-size), omega (arith, w.small, lent-size))

  lent_is : lent ≡ identifiers at v
  unfolding identifiers
  lent_is =
      let i : from ≡ at + 2 + 7 + header_length v + 1 = omega (arith, w.list) in
      let j : from ≡ at + 9 + (header_length v + 1) = omega (arith, w.list) in
      let k : to - from ≡ identifier_bytes v = omega (arith, w.values) in
      let p : drop from (take (to - 0) b) ≡ take (to - from) (drop from b)
      = ap (drop from) (front-is b to lent-within.1) ∙ sym (part_in b to lent-within.1 from lent-within.0) in
      let q : take (to - from) (drop from b) ≡ take (to - from) (drop from (take end b))
      = sym (part-of-part b end w.inside from (omega (arith, lent-within.0, w.fits)) (to - from) (omega (arith, lent-within.0, w.fits))) in
      let r : drop from (take end b) ≡ drop (header_length v + 1) v = ap (λ (o : ℕ). drop o (take end b)) j ∙ sym (drop-drop (header_length v + 1) (at + 9) (take end b)) in
      ap₂ (λ (o : ℕ) (s : List ℕ). elements 1 o s) i (p ∙ q ∙ ap₂ (λ (n : ℕ) (s : List ℕ). take n s) k r)

  behind-size : length v ≡ end - (at + 9)
  behind-size = part-in-length b end w.inside (at + 9) w.head

  pub header-inside : header_length v ≤ length v
  header-inside = omega (arith, w.list, w.values, w.fits, behind-size)

  pub parts-refused : (r : Refusal) → refused r ≡ faults run_b check_identifier lent → refused r ≡ parts_verdict at v
  unfolding parts_verdict ◌then◌
  parts-refused r e = rw (sym (ap (faults run_b check_identifier) lent_is) ∙ sym e)

  module _ (p : accepted ≡ faults run_b check_identifier lent) where
    passed : faults run_b check_identifier (identifiers at v) ≡ accepted
    passed = sym (ap (faults run_b check_identifier) lent_is) ∙ sym p

    -- what is left of the verdict, whether the 238 is ignored and has L or not
    behind-lists : Bool → Bool → Bool → Verdict
    behind-lists ignored l fours = cond ignored accepted (cond l accepted (cond fours accepted (fault 4 run_b at)))

    rest : length (srlg_values v) ≡ end - to
    unfolding srlg_values
    rest =
        let e : header_length v + 1 + identifier_bytes v ≡ to - (at + 9) = omega (arith, w.list, w.values) in
        rw e (length-drop (to - (at + 9)) v ∙ omega (arith, behind-size, w.list, w.values, w.fits))

    parts_is : (f : Bool) → eqb ((end - to) % 4) 0 ≡ f → behind-lists (ignored v (identifiers at v)) l f ≡ parts_verdict at v
    unfolding parts_verdict ◌then◌ behind-lists
    parts_is f e = rw (passed, sym w.flag, rest, e)

    -- an advertisement is ignored where L is set for nobody, or its identifiers do not identify the link
    decided : (b : Bool) → once_and_paired lent ≡ b → ignored v (identifiers at v) ≡ l_for_nobody v || not b
    unfolding ignored
    decided b t = go (l_for_nobody v)
      where
        go : (x : Bool) → x || repeats (identifiers at v) || not (identifies (identifiers at v)) ≡ x || not b
        go true = refl
        go false = judged (repeats (identifiers at v)) (identifies (identifiers at v)) b (sym (ap once_and_paired lent_is) ∙ t)

    or-true : (x : Bool) → x || true ≡ true
    or-true true = refl
    or-true false = refl

    or-none : (x : Bool) → x || false ≡ x
    or-none true = refl
    or-none false = refl

    pub parts-ignored : once_and_paired lent ≡ false → Judges (parts_verdict at v) at v (Ok false)
    unfolding behind-lists live_srlg
    parts-ignored t =
        let i = decided false t ∙ or-true (l_for_nobody v) in
        record { told = sym (ap (λ (x : Bool). behind-lists x l (eqb ((end - to) % 4) 0)) i) ∙ parts_is (eqb ((end - to) % 4) 0) refl; lives = rw (w.readable, i) }

    module _ (t : once_and_paired lent ≡ true) where
      alive : Lives at v true
      unfolding live_srlg
      alive = (w.readable, header-inside, (rw (w.readable, decided true t ∙ or-none (l_for_nobody v))))

      -- a rest of whole values
      pub parts-fours : (end - to) % 4 ≡ 0 → Judges (parts_verdict at v) at v (Ok true)
      unfolding behind-lists
      parts-fours e = record { told = go (ignored v (identifiers at v)) l ∙ parts_is true (eq-eqb ((end - to) % 4) 0 e); lives = alive }
        where
          go : (i l : Bool) → accepted ≡ behind-lists i l true
          go true l = refl
          go false true = refl
          go false false = refl

      -- with L the values are not read
      pub parts-l : l ≡ true → Judges (parts_verdict at v) at v (Ok true)
      unfolding behind-lists
      parts-l f = record { told = go (ignored v (identifiers at v)) l f ∙ parts_is (eqb ((end - to) % 4) 0) refl; lives = alive }
        where
          go : (i l : Bool) → l ≡ true → accepted ≡ behind-lists i l (eqb ((end - to) % 4) 0)
          go true l e = refl
          go false l e = rw e

      pub parts-odd : l ≡ false → ((end - to) % 4 ≡ 0 → ⊥) → fault 4 run_b at ≡ parts_verdict at v
      unfolding behind-lists l_for_nobody
      parts-odd f e = sym (ap₂ (λ (i j : Bool). behind-lists i j false) (decided true t ∙ not-nobody) f) ∙ parts_is false (ne_eqb ((end - to) % 4) 0 e)
        where
          not-nobody : l_for_nobody v || false ≡ false
          not-nobody = rw (sym w.flag ∙ f)

  -- by what reading the identifiers answered
  module _ (x : Result ℕ Fault) (read : Lists (faults run_b check_identifier lent) lent x) where
    abbrev Answers : Result Bool Fault → Type 0
    Answers r = Judges (parts_verdict at v) at v r

    pub unread-parts : (r : Fault) → x ≡ Err r → Answers (Err r)
    unread-parts r e = record { told = parts-refused (told_refusal r) (sym (ap told_checked e) ∙ read.told); lives = tt }

    module _ (n : ℕ) (e : x ≡ Ok n) where
      all-passed : accepted ≡ faults run_b check_identifier lent
      all-passed = sym (ap told_checked e) ∙ read.told

      says : (t : Bool) → identified_in n ≡ t → once_and_paired lent ≡ t
      says t i =
          sym (tally-tells (take (to - 0) b) from lent-short.1 lent-short.0 n (subst (λ (q : Result ℕ Fault). Given (λ k. k ≡ tally_of lent) q) e read.tally)) ∙ i

      pub unidentified-parts : identified_in n ≡ false → Answers (Ok false)
      unidentified-parts i = parts-ignored all-passed (says false i)

      module _ (i : identified_in n ≡ true) where
        pub whole_parts : (end - to) % 4 ≡ 0 → Answers (Ok true)
        whole_parts z = parts-fours all-passed (says true i) z

        pub unmeasured-parts : l ≡ true → Answers (Ok true)
        unmeasured-parts f = parts-l all-passed (says true i) f

        pub odd-parts : l ≡ false → ((end - to) % 4 ≡ 0 → ⊥) → (r : Fault) → told_refusal r ≡ refusal_at 4 run_b at → Answers (Err r)
        unfolding fault
        odd-parts f z r g = record { told = ap refused g ∙ parts-odd all-passed (says true i) f z; lives = tt }

-- ---- a TLV 238

-- What follows the neighbour bytes, as it is lent.
abbrev pub behind : List ℕ → List ℕ
behind value = take (length value - 7) (drop 7 value)

pub behind-length : (value : List ℕ) → length (behind value) ≡ length value - 7
behind-length value = length-take-le (length value - 7) (drop 7 value) (omega (arith, length-drop 7 value))

pub behind-is : (at : ℕ) (value : List ℕ) → 7 ≤ length value → check_srlg at value (behind value) ≡ check_srlg at value (after_neighbour value)
unfolding after_neighbour
behind-is at value h = ap (check_srlg at value) (rest-is value 7 h)

pub length-byte : (v : List ℕ) (n : ℕ) → n ≡ header_length v → get_or v n 0 ≡ identifier_bytes v
unfolding identifier_bytes
length-byte v n e = ap (λ (k : ℕ). get_or v k 0) e

module _ (at : ℕ) (value v : List ℕ) where
  pub srlg-short : length value < 9 → fault 3 run_b at ≡ check_srlg at value v
  unfolding check_srlg
  srlg-short h = rw (lt-ltb (length value) 9 h)

  module _ (h : 9 ≤ length value) where
    pub srlg-ignored : mask_too_long v ≡ true → accepted ≡ check_srlg at value v
    unfolding check_srlg
    srlg-ignored m = rw (le-ltb (length value) 9 h, m)

    module _ (m : mask_too_long v ≡ false) where
      pub srlg-no-list : length v < header_length v + 1 → fault 3 run_b at ≡ check_srlg at value v
      unfolding check_srlg
      srlg-no-list p = rw (le-ltb (length value) 9 h, m, lt-ltb (length v) (header_length v + 1) p)

      module _ (p : header_length v + 1 ≤ length v) where
        pub srlg-past : length v < header_length v + 1 + identifier_bytes v → fault 3 run_b at ≡ check_srlg at value v
        unfolding check_srlg
        srlg-past q = rw (le-ltb (length value) 9 h, m, le-ltb (length v) (header_length v + 1) p, lt-ltb (length v) (header_length v + 1 + identifier_bytes v) q)

        pub srlg-parts : header_length v + 1 + identifier_bytes v ≤ length v → parts_verdict at v ≡ check_srlg at value v
        unfolding check_srlg parts_verdict
        srlg-parts q = rw (le-ltb (length value) 9 h, m, le-ltb (length v) (header_length v + 1) p, le-ltb (length v) (header_length v + 1 + identifier_bytes v) q)

-- ---- the TLV 238 that stands in run B from one place to another

module _ (b : List ℕ) (at end : ℕ) (fits : end ≤ length b) where
  abbrev value : List ℕ
  value = value_in b at end

  abbrev after : List ℕ
  after = behind_in b at end

  after_is : after_neighbour value ≡ after
  unfolding after_neighbour
  after_is = let e : at + 2 + 7 ≡ at + 9 = omega arith in drop-drop 7 (at + 2) (take end b) ∙ ap (λ (o : ℕ). drop o (take end b)) e

  checked-as : check_srlg at value after ≡ check_b at 238 value
  unfolding check_b
  checked-as = ap (check_srlg at value) (sym after_is)

  pub value-size : at + 2 ≤ end → length value ≡ end - (at + 2)
  value-size h = part-in-length b end fits (at + 2) h

  pub after-size : at + 9 ≤ end → length after ≡ end - (at + 9)
  after-size h = part-in-length b end fits (at + 9) h

  pub tlv-short : at + 2 ≤ end → end < at + 9 + 2 → fault 3 run_b at ≡ check_b at 238 value
  tlv-short h g = srlg-short at value after (omega (arith, value-size h)) ∙ checked-as

  module _ (h : at + 11 ≤ end) where
    nine : 9 ≤ length value
    nine = omega (arith, value-size (omega arith))

    pub tlv-ignored : mask_too_long after ≡ true → Judges (check_b at 238 value) at after (Ok false)
    unfolding live_srlg
    tlv-ignored m = record { told = srlg-ignored at value after nine m ∙ checked-as; lives = rw m }

    module _ (m : mask_too_long after ≡ false) where
      pub tlv-no-list : end < at + 9 + header_length after + 1 → fault 3 run_b at ≡ check_b at 238 value
      tlv-no-list g = srlg-no-list at value after nine m (omega (arith, after-size (omega arith))) ∙ checked-as

      module _ (g : at + 9 + header_length after + 1 ≤ end) where
        list-fits : header_length after + 1 ≤ length after
        list-fits = omega (arith, after-size (omega arith))

        pub tlv-past : end < at + 9 + header_length after + 1 + identifier_bytes after → fault 3 run_b at ≡ check_b at 238 value
        tlv-past q = srlg-past at value after nine m list-fits (omega (arith, after-size (omega arith))) ∙ checked-as

        pub tlv-parts : at + 9 + header_length after + 1 + identifier_bytes after ≤ end → (r : Result Bool Fault) → Judges (parts_verdict at after) at after r → Judges (check_b at 238 value) at after r
        tlv-parts q r j = record { told = j.told ∙ srlg-parts at value after nine m list-fits (omega (arith, after-size (omega arith))) ∙ checked-as; lives = j.lives }

  -- by what its header says of its masks, in all but the last byte
  module _ (h : at + 11 ≤ end) (x : Header) (is : x ≡ header_of after) where
    abbrev room : ℕ
    room = end - (at + 9) - 1

    refused-by : (r : Fault) → told_refusal r ≡ refusal_at 3 run_b at → fault 3 run_b at ≡ check_b at 238 value → Judges (check_b at 238 value) at after (Err r)
    unfolding fault
    refused-by r g e = record { told = ap refused g ∙ e; lives = tt }

    pub ignored-srlg : masks_in x room ≡ Ok None → Judges (check_b at 238 value) at after (Ok false)
    ignored-srlg e = tlv-ignored h (masks-say x room after is (Ok None) e)

    pub past-srlg : (p : Past) → masks_in x room ≡ Err p → (r : Fault) → told_refusal r ≡ refusal_at 3 run_b at → Judges (check_b at 238 value) at after (Err r)
    past-srlg p e r g = let s = masks-say x room after is (Err p) e in refused-by r g (tlv-no-list h s.0 (omega (arith, s.1)))

    module _ (masks : ℕ) (e : masks_in x room ≡ Ok (Some masks)) where
      short-masks : mask_too_long after ≡ false
      short-masks = (masks-say x room after is (Ok (Some masks)) e).0

      masks-are : masks ≡ header_length after
      masks-are = (masks-say x room after is (Ok (Some masks)) e).1

      pub masks-end-in : at + 9 + masks + 1 ≤ end
      masks-end-in = omega (arith, (masks-say x room after is (Ok (Some masks)) e).2)

      list-bytes : get_or b (at + 9 + masks) 0 ≡ identifier_bytes after
      list-bytes =
          sym (get_or-drop (at + 9) (take end b) masks 0 ∙ get_or-take end b (at + 9 + masks) 0 (omega (arith, masks-end-in))) ∙ length-byte after masks masks-are

      pub cut-srlg : end < at + 9 + masks + 1 + get_or b (at + 9 + masks) 0 → (r : Fault) → told_refusal r ≡ refusal_at 3 run_b at
          → Judges (check_b at 238 value) at after (Err r)
      cut-srlg q r g = refused-by r g (tlv-past h short-masks (omega (arith, masks-are, masks-end-in)) (omega (arith, masks-are, list-bytes)))

      module _ (q : at + 9 + masks + 1 + get_or b (at + 9 + masks) 0 ≤ end) where
        pub within-srlg : get_or b (at + 9 + masks) 0 < 256 → Within b x.l (at + 9 + masks + 1) (at + 9 + masks + 1 + get_or b (at + 9 + masks) 0) end at
        within-srlg k =
            record {
              inside = fits;
              head = omega arith;
              flag = header-l x after is;
              readable = short-masks;
              list = ap (λ (n : ℕ). at + 9 + n + 1) masks-are;
              values = ap (λ (n : ℕ). at + 9 + masks + 1 + n) list-bytes;
              fits = q;
              small = omega arith;
            }

        pub parts-srlg : (r : Result Bool Fault) → Judges (parts_verdict at after) at after r → Judges (check_b at 238 value) at after r
        parts-srlg r j = tlv-parts h short-masks (omega (arith, masks-are, masks-end-in)) (omega (arith, masks-are, list-bytes)) r j

  -- whom it names, by the answer of its checks
  module _ (r : Result Bool Fault) (j : Judges (check_b at 238 value) at after r) (m : Names) where
    abbrev Names-it : Result Names Fault → Type 0
    Names-it x = ChecksBehind m (check_b at 238 value) (srlg_advertisements (element at 238 value)) x

    pub refused-tlv : (x : Fault) → r ≡ Err x → Names-it (Err x)
    refused-tlv x e = record { told = ap told_checked (sym e) ∙ j.told; names = tt }

    pub ignored-tlv : r ≡ Ok false → Names-it (Ok m)
    unfolding srlg_advertisements
    ignored-tlv e =
        let z : live_srlg at (after_neighbour value) ≡ false = ap (live_srlg at) after_is ∙ subst (λ (q : Result Bool Fault). Given (Lives at after) q) e j.lives in
        record { told = ap told_checked (sym e) ∙ j.told; names = rw z (adds_none m) }

    live-tlv : r ≡ Ok true → (x : Names) → Adds m (advertisement after [] ∷ []) x → Names-it (Ok x)
    unfolding srlg_advertisements srlg_advertisement names advertisement
    live-tlv e x a =
        let l = subst (λ (q : Result Bool Fault). Given (Lives at after) q) e j.lives in
        record {
          told = ap told_checked (sym e) ∙ j.told;
          names = rw (after_is, l.2) (adds-read after (srlg_advertisement at after) (λ n. refl) refl false refl m x a);
        }

    -- where it is live its masks can be read at their place
    module _ (e : r ≡ Ok true) (h : at + 9 ≤ end) (x : Header) (is : x ≡ header_of after) where
      alive-says : Lives at after true
      alive-says = subst (λ (q : Result Bool Fault). Given (Lives at after) q) e j.lives

      masks-inside : at + 9 + header_length after ≤ end
      masks-inside = omega (arith, alive-says.1, after-size h)

      pub live-masks : (x.standard ≤ 8) × (x.user ≤ 8) × (at + 9 + 2 + x.standard + x.user ≤ end)
      live-masks =
          let s = masks-small b end fits (at + 9) x is alive-says.0 in
          (s.0, s.1, omega (arith, masks-inside, header-bytes x after is))

      pub named-tlv : (y : Names) → Adds m (advertised_at x.l x.standard x.user b (at + 9 + 2) ∷ []) y → Names-it (Ok y)
      named-tlv y a = live-tlv e y (adds-value b end fits (at + 9) x is masks-inside m y a)

-- ---- a TLV of run B

module _ (at t : ℕ) (value : List ℕ) where
  pub tlv-srlg : t ≡ 238 → check_srlg at value (after_neighbour value) ≡ check_b at t value
  unfolding check_b
  tlv-srlg e = rw e

  pub tlv-checks : (m : Names) (r : Result Names Fault) → t ≡ 238 → ChecksBehind m (check_b at 238 value) (srlg_advertisements (element at 238 value)) r
      → ChecksBehind m (check_b at t value) (srlg_advertisements (element at t value)) r
  tlv-checks m r e c = subst (λ (i : ℕ). ChecksBehind m (check_b at i value) (srlg_advertisements (element at i value)) r) (sym e) c

  module _ (n : t ≡ 238 → ⊥) where
    pub tlv-other : check_b at t value ≡ accepted
    unfolding check_b
    tlv-other = rw (ne_eqb t 238 n)

    pub other-nobody : srlg_advertisements (element at t value) ≡ []
    unfolding srlg_advertisements
    other-nobody = rw (ne_eqb t 238 n)

-- ---- whether a 238 is live

-- The lesser of two numbers is one of them.
pub least-of : (r x y : ℕ) → r ≡ min x y → (r ≤ x) × (r ≤ y) × ((r ≡ x) ⊎ (r ≡ y))
least-of r x y e = (omega arith, omega arith, go (leb x y) refl)
  where
    go : (b : Bool) → leb x y ≡ b → (r ≡ x) ⊎ (r ≡ y)
    go true h = inl (omega (arith, leb-true x y h))
    go false h = inr (omega (arith, leb-false x y h))

-- A part that is not longer than what is there is the same part.
pub part-within : (v : List ℕ) (from n to : ℕ) → from ≤ length v → to ≤ from + n → to ≤ length v → (to ≡ from + n) ⊎ (to ≡ length v) → take (to - from) (drop from v) ≡ take n (drop from v)
part-within v from n to h p q (inl e) = let z : to - from ≡ n = omega arith in ap (λ (k : ℕ). take k (drop from v)) z
part-within v from n to h p q (inr e) = take_all (to - from) (drop from v) (omega (arith, length-drop from v)) ∙ sym (take_all n (drop from v) (omega (arith, length-drop from v)))

pub part-short : (v : List ℕ) (from to n : ℕ) → to ≤ from + n → to ≤ length v → n < 256 → length (take (to - from) (drop from v)) < 256
part-short v from to n h p q = omega (arith, length-take-le (to - from) (drop from v) (omega (arith, length-drop from v)))

-- No identifiers, no link.
none-identify : (m n : Bool) → false ≡ not (m || (n || repeats [] || not (identifies [])))
unfolding repeats identifies times count any known_identifiers identifier
none-identify true n = refl
none-identify false true = refl
none-identify false false = refl

module _ (v : List ℕ) (at : ℕ) where
  pub live-short : length v ≤ header_length v → false ≡ live_srlg at v
  unfolding live_srlg ignored identifiers
  live-short h =
      rw (drop_of_length-le v {i = header_length v + 1} (omega arith), take-nil {A = ℕ} (identifier_bytes v), none_left 1 (at + 2 + 7 + header_length v + 1))
      (none-identify (mask_too_long v) (l_for_nobody v))

  pub live-too-long : mask_too_long v ≡ true → false ≡ live_srlg at v
  unfolding live_srlg
  live-too-long m = rw m

  pub live-nobody : l_for_nobody v ≡ true → false ≡ live_srlg at v
  unfolding live_srlg ignored
  live-nobody n = rw n (go (mask_too_long v))
    where
      go : (m : Bool) → false ≡ not (m || true)
      go true = refl
      go false = refl

  -- as its identifiers say
  pub live-says : (s : List ℕ) (r : Bool) → mask_too_long v ≡ false → l_for_nobody v ≡ false → s ≡ take (identifier_bytes v) (drop (header_length v + 1) v)
      → ((base : ℕ) → r ≡ once_and_paired (elements 1 base s)) → r ≡ live_srlg at v
  unfolding live_srlg ignored identifiers
  live-says s r m n e f =
      let es : List Element = elements 1 (at + 2 + 7 + header_length v + 1) s in
      rw (m, n, sym e) (sym (ap not (judged (repeats es) (identifies es) r (sym (f (at + 2 + 7 + header_length v + 1)))) ∙ not-not r))
    where
      not-not : (b : Bool) → not (not b) ≡ b
      not-not true = refl
      not-not false = refl
