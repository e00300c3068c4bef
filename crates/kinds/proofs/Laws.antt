-- The table of kinds against the classifier's range, and what a rule says of lengths and codes.
use mathlib.Core.Path.{◌≡◌, refl, sym, ap, ap₂, ◌∙◌, subst}
use mathlib.Core.Bool.{Bool, true, false, cond, ◌&&◌, ◌||◌, not}
use mathlib.Core.List.{List, [], ◌∷◌}
use Prim.Native.Nat.{ℕ, zero, suc, ◌+◌, ◌-◌, ◌≤◌, ◌<◌}
use native.Mathlib.Omega.{arith}
use borrow.Author.Tests.{eqb-true, ne_eqb}
use lib.Dec.{eqb, lit<}
use Rattle.linkstate.specs.Lists.{any, keep, lookup, member}
use Rattle.linkstate.specs.Kinds as T
use Rattle.linkstate.specs.Kinds.{kinds, application_codes, has_code, is_applications, wrong_at_top, wrong_inside}
use Rattle.kinds.specs.declared.Kind.TheVariants.{Application, Srlg, Asla, Unknown}
use Rattle.kinds.specs.declared.Size.TheVariants.{Exactly, Any}
use Rattle.kinds.specs.declared.Rule.{Rule}
use Rattle.kinds.specs.Rules.{grid_codes, row_in, rule, rule_of, size_of, kind_of, rule_of_code, fits_in, wrong_inside_by, is_known, is_link, is_of_sets, KindOfCode}
use Rattle.kinds.proofs.Computing.{computing}

-- a fact at seven numbers in a row holds in their range
pub seven : (P : ℕ → Type 0) (k : ℕ) → P k → P (k + 1) → P (k + 2) → P (k + 3) → P (k + 4) → P (k + 5) → P (k + 6) → (b : ℕ) → k ≤ b → b < k + 7 → P b
seven P k p0 p1 p2 p3 p4 p5 p6 b h g = let e : k + (b - k) ≡ b = omega arith in subst P e (go (b - k) (omega arith))
  where
    go : (d : ℕ) → d < 7 → P (k + d)
    go zero l = let e : k ≡ k + 0 = omega arith in subst P e p0
    go (suc zero) l = p1
    go (suc (suc zero)) l = p2
    go (suc (suc (suc zero))) l = p3
    go (suc (suc (suc (suc zero)))) l = p4
    go (suc (suc (suc (suc (suc zero))))) l = p5
    go (suc (suc (suc (suc (suc (suc zero)))))) l = p6
    go (suc (suc (suc (suc (suc (suc (suc d))))))) l = absurd (omega arith)

-- BGP-LS codes 1114 to 1120
pub code-range : (c : ℕ) → 1114 ≤ c → c < 1121 → rule (Application (c - 1112)) (Exactly (cond (eqb c 1115) 8 4)) c ≡ rule_of_code c
unfolding computing
code-range = seven (λ c. rule (Application (c - 1112)) (Exactly (cond (eqb c 1115) 8 4)) c ≡ rule_of_code c) 1114 refl refl refl refl refl refl refl

-- any other code is unknown
pub code-unknown : (c : ℕ)
    → (c ≡ 1088 → ⊥) → (c ≡ 1089 → ⊥) → (c ≡ 1090 → ⊥) → (c ≡ 1091 → ⊥) → (c ≡ 1092 → ⊥) → (c ≡ 1096 → ⊥) → (c ≡ 1122 → ⊥) → (c ≡ 1173 → ⊥)
    → ((k : ℕ) → 1114 ≤ k → k < 1121 → c ≡ k → ⊥)
    → rule Unknown Any 0 ≡ rule_of_code c
unfolding computing
code-unknown c n88 n89 n90 n91 n92 n96 n122 n173 out =
    let away : (k : ℕ) → 1114 ≤ k → k < 1121 → eqb c k ≡ false = λ k h g. ne_eqb c k (out k h g) in
    simp (ne_eqb c 1088 n88, ne_eqb c 1089 n89, ne_eqb c 1090 n90, ne_eqb c 1091 n91, ne_eqb c 1092 n92, ne_eqb c 1096 n96, ne_eqb c 1122 n122, ne_eqb c 1173 n173, away 1114 (omega arith) (omega arith), away 1115 (omega arith) (omega arith), away 1116 (omega arith) (omega arith), away 1117 (omega arith) (omega arith), away 1118 (omega arith) (omega arith), away 1119 (omega arith) (omega arith), away 1120 (omega arith) (omega arith))

-- ---- rules and lengths: a table's row is found once, so a wrong length is one that does not fit the rule's size

abbrev pub Once : {A : Type 0} → (A → Bool) → List A → Type 0
Once p [] = Unit {0}
Once p (q ∷ qs) = (p q ≡ true → any p qs ≡ false) × Once p qs

none-wrong : {A : Type 0} (p g : A → Bool) (qs : List A) → any p qs ≡ false → any (λ q. p q && g q) qs ≡ false
unfolding any
none-wrong p g [] h = refl
none-wrong p g (q ∷ qs) h = go (p q) h (λ e. none-wrong p g qs e)
  where
    go : (b : Bool) → b || any p qs ≡ false → (any p qs ≡ false → any (λ q. p q && g q) qs ≡ false) → (b && g q) || any (λ q. p q && g q) qs ≡ false
    go true h f = absurd (let z : ◌≡◌ {A = ℕ} 0 1 = cc in omega arith)
    go false h f = f h

any-lookup : {A : Type 0} (p g : A → Bool) (qs : List A) → Once p qs → any (λ q. p q && g q) qs ≡ lookup p g false qs
unfolding any lookup
any-lookup p g [] o = refl
any-lookup p g (q ∷ qs) o = go (p q) (g q) o.0 (any-lookup p g qs o.1)
  where
    go : (b c : Bool) → (b ≡ true → any p qs ≡ false) → any (λ q. p q && g q) qs ≡ lookup p g false qs → (b && c) || any (λ q. p q && g q) qs ≡ cond b c (lookup p g false qs)
    go true true h f = refl
    go true false h f = none-wrong p g qs (h refl)
    go false c h f = f

lookup-map : {A B C : Type 0} (f : B → C) (p : A → Bool) (g : A → B) (h : A → C) (d : B) (qs : List A) → ((q : A) → f (g q) ≡ h q) → f (lookup p g d qs) ≡ lookup p h (f d) qs
unfolding lookup
lookup-map f p g h d [] e = refl
lookup-map f p g h d (q ∷ qs) e = go (p q) (e q) (lookup-map f p g h d qs e)
  where
    go : (b : Bool) → f (g q) ≡ h q → f (lookup p g d qs) ≡ lookup p h (f d) qs → f (cond b (g q) (lookup p g d qs)) ≡ cond b (h q) (lookup p h (f d) qs)
    go true x y = x
    go false x y = y

-- No key stands twice in a table: a computed test, where a row answers to its own key alone.
module _ {A : Type 0} (p : ℕ → A → Bool) (key : A → ℕ) where
  unfoldable pub alone : List A → Bool
  alone [] = true
  alone (q ∷ qs) = not (any (p (key q)) qs) && alone qs

  pub once : ((t : ℕ) (q : A) → p t q ≡ true → key q ≡ t) → (qs : List A) → alone qs ≡ true → (t : ℕ) → Once (p t) qs
  unfolding alone
  once own [] h t = tt
  once own (q ∷ qs) h t = go (any (p (key q)) qs) refl (alone qs) refl h (λ e. once own qs e t)
    where
      go : (b : Bool) → any (p (key q)) qs ≡ b → (c : Bool) → alone qs ≡ c → not b && c ≡ true → (alone qs ≡ true → Once (p t) qs) → Once (p t) (q ∷ qs)
      go true e c f h r = absurd (let z : ◌≡◌ {A = ℕ} 0 1 = cc in omega arith)
      go false e true f h r = (λ x. subst (λ (k : ℕ). any (p k) qs ≡ false) (own t q x) e, r f)
      go false e false f h r = absurd (let z : ◌≡◌ {A = ℕ} 0 1 = cc in omega arith)

codes-once : (c : ℕ) → Once (has_code c) kinds
unfolding computing alone
codes-once = once has_code (λ q. q.code) (λ c q h. sym (eqb-true c q.code h)) kinds refl

pub size_fits : (s : T.Size) (n : ℕ) → fits_in (size_of s) n ≡ T.fits s n
unfolding fits_in size_of
size_fits (T.exactly k) n = refl
size_fits (T.fours_from l) n = refl
size_fits (T.fours_within l m) n = refl

-- What a test f says of the rule that is found by p is what a test of the table's row says. ASLA's own rule stands apart: it has no row.
module _ {A : Type 0} (qs : List A) (p : ℕ → A → Bool) (own : A → Rule) (asla t : ℕ) (f : Rule → Bool) (wrong : A → Bool) where
  pub by-rule : Once (p t) qs → ((q : A) → f (own q) ≡ wrong q) → f (rule Unknown Any 0) ≡ false → f (rule Asla Any 1122) ≡ false → lookup (p asla) wrong false qs ≡ false
      → any (λ q. p t q && wrong q) qs ≡ f (cond (eqb t asla) (rule Asla Any 1122) (lookup (p t) own (rule Unknown Any 0) qs))
  by-rule o same unknown apart h = any-lookup (p t) wrong qs o ∙ go (eqb t asla) refl
    where
      go : (b : Bool) → eqb t asla ≡ b → lookup (p t) wrong false qs ≡ f (cond b (rule Asla Any 1122) (lookup (p t) own (rule Unknown Any 0) qs))
      go true e = subst (λ (x : ℕ). lookup (p x) wrong false qs ≡ false) (sym (eqb-true t asla e)) h ∙ sym apart
      go false e = ap (λ (d : Bool). lookup (p t) wrong d qs) (sym unknown) ∙ sym (lookup-map f (p t) own wrong (rule Unknown Any 0) qs same)

-- What p finds among those with g.
pub any-kept : {A : Type 0} (p g : A → Bool) (qs : List A) → any (λ q. p q && g q) qs ≡ any p (keep g qs)
unfolding any keep
any-kept p g [] = refl
any-kept p g (q ∷ qs) = go (p q) (g q) refl (any-kept p g qs)
  where
    go : (y x : Bool) → p q ≡ y → any (λ q. p q && g q) qs ≡ any p (keep g qs) → (y && x) || any (λ q. p q && g q) qs ≡ any p (cond x (q ∷ keep g qs) (keep g qs))
    go true true i e = ap₂ (λ (b c : Bool). b || c) (sym i) e
    go false true i e = ap₂ (λ (b c : Bool). b || c) (sym i) e
    go true false i e = e
    go false false i e = e

-- A wrong length is one that does not fit the rule's size.
pub wrong-at-top : (c n : ℕ) → wrong_at_top c n ≡ not (fits_in (rule_of_code c).size n)
unfolding computing
wrong-at-top c n =
    by-rule kinds has_code rule_of 1122 c (λ r. not (fits_in r.size n)) (λ q. not (T.fits q.bgpls_size n)) (codes-once c) (λ q. ap not (size_fits q.bgpls_size n)) refl refl refl

-- Inside a 1122 the link's kinds are unknown.
any-keep : {A : Type 0} (a p g : A → Bool) (qs : List A) → any (λ q. p q && g q) (keep a qs) ≡ any (λ q. p q && (a q && g q)) qs
unfolding any keep
any-keep a p g [] = refl
any-keep {A = A} a p g (q ∷ qs) = go (a q) (p q) (g q) refl refl (any-keep a p g qs)
  where
    go : (x y z : Bool) → p q ≡ y → g q ≡ z → any (λ q. p q && g q) (keep a qs) ≡ any (λ q. p q && (a q && g q)) qs
        → any (λ q. p q && g q) (cond x (q ∷ keep a qs) (keep a qs)) ≡ (y && (x && z)) || any (λ q. p q && (a q && g q)) qs
    go true y z i j e = ap₂ (λ (b : Bool) (c : Bool). b || c) (ap₂ (λ (b : Bool) (c : Bool). b && c) i j) e
    go false true z i j e = e
    go false false z i j e = e

owner-wrong : (o : T.Owner) (c : ℕ) (s : T.Size) (n : ℕ) → wrong_inside_by (kind_of o c) (size_of s) n ≡ T.for_applications o && not (T.fits s n)
unfolding wrong_inside_by kind_of T.for_applications
owner-wrong T.link c s n = refl
owner-wrong T.applications c s n = go (eqb c 1096)
  where
    go : (b : Bool) → wrong_inside_by (cond b Srlg (Application (row_in grid_codes c))) (size_of s) n ≡ not (T.fits s n)
    go true = ap not (size_fits s n)
    go false = ap not (size_fits s n)

pub wrong-inside : (c n : ℕ) → wrong_inside c n ≡ wrong_inside_by (rule_of_code c).kind (rule_of_code c).size n
unfolding computing
wrong-inside c n =
    any-keep is_applications (has_code c) (λ q. not (T.fits q.bgpls_size n)) kinds
    ∙ by-rule kinds has_code rule_of 1122 c (λ r. wrong_inside_by r.kind r.size n) (λ q. is_applications q && not (T.fits q.bgpls_size n)) (codes-once c)
    (λ q. owner-wrong q.owner q.code q.bgpls_size n) refl refl refl

-- ---- codes by their rule

any-true : {A : Type 0} (p : A → Bool) (qs : List A) → any p qs ≡ any (λ q. p q && true) qs
unfolding any
any-true p [] = refl
any-true p (q ∷ qs) = ap₂ (λ (b : Bool) (c : Bool). b || c) (and-true (p q)) (any-true p qs)
  where
    and-true : (b : Bool) → b ≡ b && true
    and-true true = refl
    and-true false = refl

owner-known : (o : T.Owner) (c : ℕ) → is_known (kind_of o c) ≡ true
unfolding is_known kind_of
owner-known T.link c = refl
owner-known T.applications c = go (eqb c 1096)
  where
    go : (b : Bool) → is_known (cond b Srlg (Application (row_in grid_codes c))) ≡ true
    go true = refl
    go false = refl

owner-link : (o : T.Owner) (c : ℕ) → is_link (kind_of o c) ≡ not (T.for_applications o)
unfolding is_link kind_of T.for_applications
owner-link T.link c = refl
owner-link T.applications c = go (eqb c 1096)
  where
    go : (b : Bool) → is_link (cond b Srlg (Application (row_in grid_codes c))) ≡ false
    go true = refl
    go false = refl

pub code-known : (c : ℕ) → T.is_code c ≡ is_known (rule_of_code c).kind
unfolding computing
code-known c =
    any-true (has_code c) kinds
    ∙ by-rule kinds has_code rule_of 1122 c (λ r. is_known r.kind) (λ q. true) (codes-once c) (λ q. owner-known q.owner q.code) refl refl refl

pub code-link : (c : ℕ) → T.is_link_code c ≡ is_link (rule_of_code c).kind
unfolding computing
code-link c =
    by-rule kinds has_code rule_of 1122 c (λ r. is_link r.kind) (λ q. not (is_applications q)) (codes-once c) (λ q. owner-link q.owner q.code) refl refl refl

owner-sets : (o : T.Owner) (c : ℕ) → is_of_sets (kind_of o c) ≡ T.for_applications o
unfolding is_of_sets kind_of T.for_applications
owner-sets T.link c = refl
owner-sets T.applications c = go (eqb c 1096)
  where
    go : (b : Bool) → is_of_sets (cond b Srlg (Application (row_in grid_codes c))) ≡ true
    go true = refl
    go false = refl

pub code-of-sets : (c : ℕ) → member c application_codes ≡ is_of_sets (rule_of_code c).kind
unfolding computing
code-of-sets c =
    sym (any-kept (has_code c) is_applications kinds)
    ∙ by-rule kinds has_code rule_of 1122 c (λ r. is_of_sets r.kind) is_applications (codes-once c) (λ q. owner-sets q.owner q.code) refl refl refl

-- every row of the table stands in its place
Placed : List T.Kind → Type 0
Placed [] = Unit {0}
Placed (q ∷ qs) = KindOfCode (kind_of q.owner q.code) q.code × Placed qs

placed : Placed kinds
unfolding computing Placed
placed =
    ((lit< tt, refl), ((lit< tt, refl), ((lit< tt, refl), ((lit< tt, refl), ((lit< tt, refl), (refl, ((lit< tt, refl), ((lit< tt, refl), ((lit< tt, refl), ((lit< tt, refl), ((lit< tt, refl), ((lit< tt, refl), ((lit< tt, refl), ((lit< tt, refl), tt))))))))))))))

-- the row that is found, or none
module _ (c : ℕ) where
  found : List T.Kind → Rule
  found qs = lookup (has_code c) rule_of (rule Unknown Any 0) qs

  found_right : (qs : List T.Kind) → Placed qs → KindOfCode (found qs).kind c
  unfolding found Placed lookup rule_of has_code
  found_right [] h = tt
  found_right (q ∷ qs) h = go (eqb c q.code) refl (found_right qs h.1)
    where
      go : (b : Bool) → eqb c q.code ≡ b → KindOfCode (found qs).kind c → KindOfCode (cond b (rule_of q) (found qs)).kind c
      go true e r = subst (λ (x : ℕ). KindOfCode (kind_of q.owner q.code) x) (sym (eqb-true c q.code e)) h.0
      go false e r = r

  pub kind-of-code : KindOfCode (rule_of_code c).kind c
  unfolding rule_of_code found
  kind-of-code = go (eqb c 1122) refl (found_right kinds placed)
    where
      go : (b : Bool) → eqb c 1122 ≡ b → KindOfCode (found kinds).kind c → KindOfCode (cond b (rule Asla Any 1122) (found kinds)).kind c
      go true e r = eqb-true c 1122 e
      go false e r = r

-- ---- forms

cond_same : {A : Type 0} (b : Bool) (x : A) → cond b x x ≡ x
cond_same true x = refl
cond_same false x = refl

-- the three bandwidths in a row
pub float-range : (c : ℕ) → 1118 ≤ c → c < 1121 → T.float ≡ T.form_of c
unfolding computing
float-range c h g = let e : 1118 + (c - 1118) ≡ c = omega arith in subst (λ (k : ℕ). T.float ≡ T.form_of k) e (go (c - 1118) (omega arith))
  where
    go : (d : ℕ) → d < 3 → T.float ≡ T.form_of (1118 + d)
    go zero l = refl
    go (suc zero) l = refl
    go (suc (suc zero)) l = refl
    go (suc (suc (suc d))) l = absurd (omega arith)

-- any other code reads as a whole number
pub form-other : (c : ℕ) → (c ≡ 1089 → ⊥) → (c ≡ 1090 → ⊥) → (c ≡ 1091 → ⊥) → (c ≡ 1096 → ⊥) → (c ≡ 1115 → ⊥) → (c ≡ 1173 → ⊥) → ((k : ℕ) → 1118 ≤ k → k < 1121 → c ≡ k → ⊥)
    → T.whole_number ≡ T.form_of c
unfolding computing
form-other c n89 n90 n91 n96 n115 n173 out =
    let away : (k : ℕ) → 1118 ≤ k → k < 1121 → eqb c k ≡ false = λ k h g. ne_eqb c k (out k h g) in
    simp (ne_eqb c 1089 n89, ne_eqb c 1090 n90, ne_eqb c 1091 n91, ne_eqb c 1096 n96, ne_eqb c 1115 n115, ne_eqb c 1173 n173, away 1118 (omega arith) (omega arith), away 1119 (omega arith) (omega arith), away 1120 (omega arith) (omega arith), cond_same)
