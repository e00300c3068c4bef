-- Whom one ASLA names, and what one turn of a loop that checks a run does to whom it names.
-- The turns serve every run whose elements have one type byte and one length byte.
use mathlib.Core.Path.{◌≡◌, refl, sym, ap, ap₂, ◌∙◌, subst}
use mathlib.Core.Bool.{Bool, true, false, cond, ◌&&◌, ◌||◌, not}
use mathlib.Core.List.{List, [], ◌∷◌, ◌++◌}
use Prim.Native.Nat.{ℕ, ◌+◌, ◌-◌, ◌/◌, ◌%◌, ◌^◌, ◌≤◌}
use native.Mathlib.Omega.{arith}
use native.Mathlib.Nat.{zero-div}
use borrow.Author.Tests.{eqb-true, ne_eqb, ltb-false}
use lib.Dec.{eqb, ltb}
use lib.ListN.{length, take, drop}
use lib.Seq.{drop-drop}
use Rattle.linkstate.specs.Lists.{any, each}
use Rattle.linkstate.specs.Bytes.{bytes_at}
use Rattle.linkstate.specs.Masks.{bit}
use Rattle.linkstate.proofs.Retired.{in-nobody}
use Rattle.linkstate.specs.Replies.{Run, run_a, Verdict, accepted, refused, Refusal, fault}
use Rattle.linkstate.specs.Elements.{Element, element, cut, elements, faults, faults_once}
use Rattle.linkstate.specs.Sides.{Advertisement, names}
use Rattle.linkstate.proofs.ListLaws.{and_l, and_r, and-false, or_l, or_r}
use Rattle.replies.specs.declared.Refusal.{Refusal as Fault}
use Rattle.std.specs.Prelude.{Option, None, Some, Result, Ok, Err}
use Rattle.replies.specs.Told.{told_refusal, told_checked}
use Rattle.rules.specs.declared.Names.{Names}
use Rattle.rules.specs.Names.{advertised, advertised_at, Tells, Adds, Checks, Given, ChecksBehind}
use Rattle.rules.proofs.NameLaws.{Ahead, ahead-start, ahead-end, ahead-turn, adds_none, adds-as}
use Rattle.frames.proofs.Walks.{checked-all, check-cut, check-passed, check-refused}
use Rattle.isis.specs.Types.{wrong_in_a}
use Rattle.isis.specs.MaskHeader.{l_flag, sabm_length, udabm_length, header_length, mask_too_long, l_for_nobody, advertisement}
use Rattle.isis.specs.RunA.{attributes_of, list_elements, live_asla, asla_advertisements, check_attribute, known_type, check_asla, check_a}
use Rattle.isis_check_a.specs.declared.Header.{Header}
use Rattle.isis_check_a.specs.declared.Past.{Past}
use Rattle.isis_check_a.specs.Headers.{header_of, too_long, masks_in, value_in}
use Rattle.isis_check_a.proofs.Laws.{attribute-fits, attribute-wrong, sub-tlv-asla, sub-tlv-other, header-l, header-too-long, header-bytes, drop-take, front-is, part_in, part-of-part, part-in-length, Ends, masks-say, asla-ignored, asla-past, asla-l, asla-list}

-- ---- the masks behind a header that stands at a place

-- v is what follows the place, as far as the element goes
module _ (s : List ℕ) (end : ℕ) (fits : end ≤ length s) (at : ℕ) (h : Header) (e : h ≡ header_of (drop at (take end s))) where
  abbrev v : List ℕ
  v = drop at (take end s)

  pub masks-small : mask_too_long v ≡ false → (h.standard ≤ 8) × (h.user ≤ 8)
  masks-small short =
      let t : too_long h ≡ false = header-too-long h v e ∙ short in
      (ltb-false 8 h.standard (or_l (ltb 8 h.standard) (ltb 8 h.user) t), ltb-false 8 h.user (or_r (ltb 8 h.standard) (ltb 8 h.user) t))

  module _ (inside : at + header_length v ≤ end) where
    masks-end-in : at + 2 + h.standard + h.user ≤ end
    masks-end-in = omega (arith, header-bytes h v e)

    part-behind : (i n : ℕ) → at + i + n ≤ end → take n (drop (at + i) s) ≡ take n (drop i v)
    part-behind i n g = sym (ap (take n) (drop-drop i at (take end s)) ∙ part-of-part s end fits (at + i) (omega arith) n g)

    is-advertised : advertised_at h.l h.standard h.user s (at + 2) ≡ advertisement v []
    unfolding advertisement
    is-advertised =
        let x : h.standard ≡ sabm_length v = ap (λ (y : Header). y.standard) e in
        let u : h.user ≡ udabm_length v = ap (λ (y : Header). y.user) e in
        let k : at + 2 + h.standard ≡ at + (2 + h.standard) = omega arith in
        let m = masks-end-in in
        let p : take h.standard (drop (at + 2) s) ≡ take (sabm_length v) (drop 2 v) = part-behind 2 h.standard (omega arith) ∙ ap (λ (n : ℕ). take n (drop 2 v)) x in
        let q : take h.user (drop (at + 2 + h.standard) s) ≡ take (udabm_length v) (drop (2 + sabm_length v) v)
        = ap (λ (i : ℕ). take h.user (drop i s)) k ∙ part-behind (2 + h.standard) h.user (omega arith) ∙ ap₂ (λ (n i : ℕ). take n (drop (2 + i) v)) u x in
        rw (p, q, header-l h v e) (go (l_flag v))
      where
        go : (b : Bool) → advertised b (take (sabm_length v) (drop 2 v)) (take (udabm_length v) (drop (2 + sabm_length v) v))
            ≡ record { L = b; standard_mask = take (sabm_length v) (drop 2 v); user_mask = take (udabm_length v) (drop (2 + sabm_length v) v); attributes = cond b [] [] }
        go true = refl
        go false = refl

    pub adds-value : (m r : Names) → Adds m (advertised_at h.l h.standard h.user s (at + 2) ∷ []) r → Adds m (advertisement v [] ∷ []) r
    adds-value m r a = subst (λ (d : Advertisement). Adds m (d ∷ []) r) is-advertised a

-- ---- an ASLA

no-bit : (n : ℕ) → bit [] n ≡ false
unfolding bit
no-bit n = let z : 0 / 2 ^ (7 - n % 8) ≡ 0 = zero-div (2 ^ (7 - n % 8)) in rw z

-- Where L is set for nobody, nobody is named.
pub names-nobody : (n : ℕ) (v : List ℕ) → l_for_nobody v ≡ true → names n (advertisement v []) ≡ false
unfolding names advertisement l_for_nobody
names-nobody n v h =
    let p = and_l (l_flag v && eqb (sabm_length v) 0) (eqb (udabm_length v) 0) h in
    let s = eqb-true (sabm_length v) 0 (and_r (l_flag v) (eqb (sabm_length v) 0) p) in
    let u = eqb-true (udabm_length v) 0 (and_r (l_flag v && eqb (sabm_length v) 0) (eqb (udabm_length v) 0) h) in
    rw (s, u) (in-nobody [] [] n (no-bit n) (no-bit (n - 64)))

or-false : (b : Bool) → b || false ≡ b
or-false true = refl
or-false false = refl

-- A test of masks and L-flag that fails where L is set for nobody. It holds of a value's advertisement, if there is one, exactly where the value is not ignored otherwise and it holds of the masks.
pub any-read : (p : Advertisement → Bool) (v : List ℕ) → (l_for_nobody v ≡ true → p (advertisement v []) ≡ false) → (d : Advertisement) → p d ≡ p (advertisement v [])
    → (ignored : Bool) → any p (cond (not (ignored || l_for_nobody v)) (d ∷ []) []) ≡ not ignored && p (advertisement v [])
unfolding any
any-read p v nobody d same ignored = go ignored (l_for_nobody v) refl
  where
    go : (m n : Bool) → l_for_nobody v ≡ n → any p (cond (not (m || n)) (d ∷ []) []) ≡ not m && p (advertisement v [])
    go true n e = refl
    go false true e = sym (nobody e)
    go false false e = or-false (p d) ∙ same

module _ (n : ℕ) (v : List ℕ) where
  pub flagged-nobody : l_for_nobody v ≡ true → l_flag v && names n (advertisement v []) ≡ false
  flagged-nobody h = ap (λ (b : Bool). l_flag v && b) (names-nobody n v h) ∙ and-false (l_flag v)

-- Of a value that is not ignored by its mask lengths those that the bytes name are added.
module _ (v : List ℕ) (d : Advertisement) (same : (n : ℕ) → names n d ≡ names n (advertisement v [])) (l : d.L ≡ l_flag v) where
  any-named : (n : ℕ) → any (names n) (advertisement v [] ∷ []) ≡ any (names n) (cond (not (false || l_for_nobody v)) (d ∷ []) [])
  unfolding any
  any-named n = or-false (names n (advertisement v [])) ∙ sym (any-read (names n) v (names-nobody n v) d (same n) false)

  any-flagged : (n : ℕ) → any (λ x. x.L && names n x) (advertisement v [] ∷ []) ≡ any (λ x. x.L && names n x) (cond (not (false || l_for_nobody v)) (d ∷ []) [])
  unfolding any advertisement
  any-flagged n =
      or-false (l_flag v && names n (advertisement v []))
      ∙ sym (any-read (λ x. x.L && names n x) v (flagged-nobody n v) d (ap₂ (λ (x y : Bool). x && y) l (same n)) false)

  pub adds-read : (ignored : Bool) → ignored ≡ false → (m r : Names) → Adds m (advertisement v [] ∷ []) r → Adds m (cond (not (ignored || l_for_nobody v)) (d ∷ []) []) r
  adds-read ignored e m r a = rw e (adds-as m r (advertisement v [] ∷ []) (cond (not (false || l_for_nobody v)) (d ∷ []) []) any-named any-flagged a)

module _ (at : ℕ) (v : List ℕ) where
  pub asla-adds : mask_too_long v ≡ false → (m r : Names) → Adds m (advertisement v [] ∷ []) r → Adds m (asla_advertisements (element at 16 v)) r
  unfolding asla_advertisements live_asla names advertisement
  asla-adds t m r a = adds-read v (advertisement v (each attributes_of (list_elements at v))) (λ n. refl) refl (mask_too_long v) t m r a

  pub asla-none : mask_too_long v ≡ true → (m : Names) → Adds m (asla_advertisements (element at 16 v)) m
  unfolding asla_advertisements live_asla
  asla-none t m = rw t (adds_none m)

-- ---- the ASLA that stands from one place of run A to another, whose header is h: what each answer about its masks tells

module _ (a : List ℕ) (at end : ℕ) (fits : end ≤ length a) (two : at + 2 + 2 ≤ end) (h : Header) (is : h ≡ header_of (take (end - (at + 2)) (drop (at + 2) a))) where
  abbrev asla : List ℕ
  asla = value_in a at end

  abbrev Answers : Names → Result Names Fault → Type 0
  Answers m r = ChecksBehind m (check_asla at asla) (asla_advertisements (element at 16 asla)) r

  header-in : h ≡ header_of asla
  header-in = is ∙ ap header_of (part_in a end fits (at + 2) (omega arith))

  asla-length : length asla ≡ end - (at + 2)
  asla-length = part-in-length a end fits (at + 2) (omega arith)

  said : (x : Result (Option ℕ) Past) → masks_in h (end - (at + 2)) ≡ x → Ends h (end - (at + 2)) asla header-in x
  said x e = masks-say h (end - (at + 2)) asla header-in x e

  pub ignored-in : masks_in h (end - (at + 2)) ≡ Ok None → (m : Names) → Answers m (Ok m)
  ignored-in e m = record { told = asla-ignored at asla (omega (arith, asla-length)) (said (Ok None) e); names = asla-none at asla (said (Ok None) e) m }

  pub past-in : (x : Past) → masks_in h (end - (at + 2)) ≡ Err x → fault 3 run_a at ≡ check_asla at asla
  past-in x e = let s = said (Err x) e in asla-past at asla (omega (arith, asla-length)) s.0 (omega (arith, asla-length, s.1))

  module _ (list : ℕ) (e : masks_in h (end - (at + 2)) ≡ Ok (Some list)) where
    short-in : mask_too_long asla ≡ false
    short-in = (said (Ok (Some list)) e).0

    list-is : list ≡ header_length asla
    list-is = (said (Ok (Some list)) e).1

    pub list-in : at + 2 + list ≤ end
    list-in = omega (arith, (said (Ok (Some list)) e).2)

    pub masks-in : (h.standard ≤ 8) × (h.user ≤ 8) × (at + 2 + 2 + h.standard + h.user ≤ end)
    masks-in =
        let s = masks-small a end fits (at + 2) h header-in short-in in
        (s.0, s.1, omega (arith, list-in, list-is, header-bytes h asla header-in))

    module _ (m r : Names) (adds : Adds m (advertised_at h.l h.standard h.user a (at + 2 + 2) ∷ []) r) where
      names_in : Adds m (asla_advertisements (element at 16 asla)) r
      names_in = asla-adds at asla short-in m r (adds-value a end fits (at + 2) h header-in (omega (arith, list-in, list-is)) m r adds)

      pub flagged-in : h.l ≡ true → Answers m (Ok r)
      flagged-in l =
          record {
            told = asla-l at asla (omega (arith, asla-length)) short-in list list-is (omega (arith, asla-length, list-in)) (sym (header-l h asla header-in) ∙ l);
            names = names_in;
          }

      -- the list stands at the end of the run's front, which is lent
      module _ (l : h.l ≡ false) (c : Result Unit Fault) (told : told_checked c ≡ faults_once run_a known_type check_attribute [] (elements 1 (at + 2 + list) (drop (at + 2 + list) (take (end - 0) a)))) where
        list-told : told_checked c ≡ check_asla at asla
        list-told =
            told
            ∙ ap (λ (s : List ℕ). faults_once run_a known_type check_attribute [] (elements 1 (at + 2 + list) s)) (ap (drop (at + 2 + list)) (front-is a end fits) ∙ sym (drop-drop list (at + 2) (take end a)))
            ∙ asla-list at asla (omega (arith, asla-length)) short-in list list-is (omega (arith, asla-length, list-in)) (sym (header-l h asla header-in) ∙ l)

        pub listed_in : (u : Unit) → c ≡ Ok u → Answers m (Ok r)
        listed_in u g = record { told = ap told_checked (sym g) ∙ list-told; names = names_in }

        pub refused-in : (x : Fault) → c ≡ Err x → Answers m (Err x)
        refused-in x g = record { told = ap told_checked (sym g) ∙ list-told; names = tt }

pub other-nobody : (at t : ℕ) (v : List ℕ) → (t ≡ 16 → ⊥) → asla_advertisements (element at t v) ≡ []
unfolding asla_advertisements
other-nobody at t v h = rw (ne_eqb t 16 h)

-- ---- the turns of a loop that checks the elements `all` of a run and notes the advertisements that they give

module _ (run : Run) (check : ℕ → ℕ → List ℕ → Verdict) (f : Element → List Advertisement) (all : List Element) where
  -- what is left passes or not as the whole does, and with whom was met names whom the whole names
  pub record Walked (rest : List Element) (m : Names) : Type 0 where
    pub verdict : faults run check rest ≡ faults run check all
    pub ahead : Ahead (each f rest) (each f all) m

  abbrev Told : Result Names Fault → Type 0
  Told r = Checks (faults run check all) (each f all) r

  pub walked_start : (m : Names) → Tells [] m → Walked all m
  walked_start m t = record { verdict = refl; ahead = ahead-start (each f all) m t }

  module _ {es : List Element} {m : Names} (w : Walked es m) where
    pub walked_end : es ≡ [] → Told (Ok m)
    unfolding each
    walked_end e =
        record { told = checked-all run check e ∙ w.verdict; names = ahead-end (each f es) (each f all) m (ap (each f) e) w.ahead }

    pub walked-cut : {at : ℕ} {rest : List Element} → es ≡ cut at ∷ rest → fault 3 run at ≡ faults run check all
    walked-cut e = check-cut run check e ∙ w.verdict

    module _ {at t : ℕ} {v : List ℕ} {rest : List Element} (e : es ≡ element at t v ∷ rest) where
      left-turn : each f es ≡ f (element at t v) ++ each f rest
      unfolding each
      left-turn = ap (each f) e

      passed : check at t v ≡ accepted → faults run check rest ≡ faults run check all
      passed a = check-passed run check e a ∙ w.verdict

      pub walked_stop : (r : Refusal) → check at t v ≡ refused r → refused r ≡ faults run check all
      walked_stop r a = check-refused run check e r a ∙ w.verdict

      -- an element that names nobody
      pub walked-over : check at t v ≡ accepted → f (element at t v) ≡ [] → Walked rest m
      walked-over a z =
          record {
            verdict = passed a;
            ahead =
                ahead-turn (each f es) (f (element at t v)) (each f rest) (each f all) left-turn m w.ahead m
                (subst (λ (ds : List Advertisement). Adds m ds m) (sym z) (adds_none m));
          }

      -- one whose checks answer whom it names
      module _ (r : Result Names Fault) (c : ChecksBehind m (check at t v) (f (element at t v)) r) where
        pub walked_on : (y : Names) → r ≡ Ok y → Walked rest y
        walked_on y g =
            record {
              verdict = passed (sym c.told ∙ ap told_checked g);
              ahead =
                  ahead-turn (each f es) (f (element at t v)) (each f rest) (each f all) left-turn m w.ahead y
                  (subst (λ (q : Result Names Fault). Given (Adds m (f (element at t v))) q) g c.names);
            }

        pub walked-refused : (x : Fault) → r ≡ Err x → Told (Err x)
        walked-refused x g = record { told = walked_stop (told_refusal x) (sym c.told ∙ ap told_checked g); names = tt }

-- An element that stands in a run, by its places.
pub standing-value : (s : List ℕ) (at : ℕ) (x : List ℕ) → x ≡ bytes_at s (at + 2) (length x) → x ≡ value_in s at (at + 2 + length x)
unfolding bytes_at
standing-value s at x e = e ∙ sym (drop-take (at + 2) (length x) s)

-- ---- the turns of run A

pub asla-checks : (at t : ℕ) (v : List ℕ) (m : Names) (r : Result Names Fault) → t ≡ 16 → ChecksBehind m (check_asla at v) (asla_advertisements (element at 16 v)) r
    → ChecksBehind m (check_a at t v) (asla_advertisements (element at t v)) r
asla-checks at t v m r e c =
    record { told = c.told ∙ sub-tlv-asla at t v e; names = subst (λ (i : ℕ). Given (Adds m (asla_advertisements (element at i v))) r) (sym e) c.names }

module _ (all : List Element) {es : List Element} {m : Names} (w : Walked run_a check_a asla_advertisements all es m)
    {at t : ℕ} {v : List ℕ} {rest : List Element} (e : es ≡ element at t v ∷ rest) (h : t ≡ 16 → ⊥) where
  pub legacy-wrong : wrong_in_a t (length v) ≡ true → fault 4 run_a at ≡ faults run_a check_a all
  unfolding fault
  legacy-wrong x = walked_stop run_a check_a asla_advertisements all w e _ (sym (sub-tlv-other at t _ h) ∙ attribute-wrong at t _ _ refl x)

  pub legacy-over : wrong_in_a t (length v) ≡ false → Walked run_a check_a asla_advertisements all rest m
  legacy-over x =
      walked-over run_a check_a asla_advertisements all w e
      (sym (sub-tlv-other at t _ h) ∙ attribute-fits at t _ _ refl x) (other-nobody at t _ h)
