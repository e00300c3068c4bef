-- Demand 2, our bytes read by our reader: whatever is asked of the export of a meaning, for the link, RSVP-TE, the general set or any other application,
-- is answered by that meaning, and the applications that it lists are those that the meaning names.
use mathlib.Core.Path.{◌≡◌, refl, sym, ap₂, ◌∙◌}
use mathlib.Core.Bool.{Bool, true, false, cond, false≢true}
use mathlib.Core.List.{List}
use Prim.Native.Nat.{ℕ, ◌<◌}
use native.Mathlib.Omega.{arith}
use borrow.Author.Tests.{eqb-true, le-ltb}
use lib.Dec.{eqb}
use Rattle.linkstate.specs.Lists.{member}
use Rattle.linkstate.specs.Kinds.{application_codes, link_codes, is_code, is_link_code}
use Rattle.linkstate.specs.Masks.{user, others}
use Rattle.linkstate.specs.Replies.{unless, listed}
use Rattle.linkstate.specs.Questions.{Subject, generally, standard_no, user_no, number_too_high, list_named}
use Rattle.linkstate.specs.Meaning.{Meaning, meaning, row, Same}
use Rattle.linkstate.specs.BgpLs.{run_source}
use Rattle.linkstate.specs.Export.{export}
use Rattle.linkstate.specs.WellFormed.{WellFormed}
use Rattle.linkstate.proofs.Computing.{computing}
use Rattle.linkstate.proofs.MaskLaws.{number_same}
use Rattle.rivals.specs.Reads.{application_meant, set_meant, meant, names_meant, in_bgp_ls, Reads, AnsweredBy}
use Rattle.linkstate.proofs.ListLaws.{map_at}
use Rattle.rivals.proofs.KindLaws.{standard-other, user-other, code-mem, link-mem, application-mem}
use Rattle.rivals.proofs.RoundTrip.{export-is-rival}
use Rattle.rivals.proofs.Reader.{run-reads}

-- ---- the same meaning, the same replies

module _ (m n : Meaning) (same : Same m n) (k : ℕ) (c : is_code k ≡ true) where
  in_row : is_link_code k ≡ false → (f g : ℕ → List ℕ) → row f ≡ row g → f k ≡ g k
  unfolding row
  in_row l f g e = map_at f g application_codes e (application-mem (code-mem k c) l)

  same-application : is_link_code k ≡ false → (a : ℕ) → member a others ≡ true → application_meant m a k ≡ application_meant n a k
  unfolding application_meant
  same-application l a h = go (m.named a) refl
    where
      go : (b : Bool) → m.named a ≡ b → cond b (m.set a k) (m.general k) ≡ cond (n.named a) (n.set a k) (n.general k)
      go true e = let z : n.named a ≡ true = sym (same.named a h) ∙ e in rw z (in_row l (m.set a) (n.set a) (same.set a h e))
      go false e = let z : n.named a ≡ false = sym (same.named a h) ∙ e in rw z (in_row l m.general n.general same.general)

  same_set : is_link_code k ≡ false → (whom : Subject) → number_too_high whom ≡ false → set_meant m whom k ≡ set_meant n whom k
  unfolding set_meant number_too_high
  same_set l generally h = in_row l m.general n.general same.general
  same_set l (standard_no i) h = go (eqb i 0) refl
    where
      go : (b : Bool) → eqb i 0 ≡ b → cond b (m.rsvp_te k) (application_meant m i k) ≡ cond b (n.rsvp_te k) (application_meant n i k)
      go true e = in_row l m.rsvp_te n.rsvp_te same.rsvp_te
      go false e = same-application l i (standard-other i h e)
  same_set l (user_no i) h = same-application l (user i) (user-other i h)

  pub same-meant : (whom : Subject) → number_too_high whom ≡ false → meant m whom k ≡ meant n whom k
  unfolding meant
  same-meant whom h = go (is_link_code k) refl
    where
      go : (b : Bool) → is_link_code k ≡ b → cond b (m.bandwidth k) (set_meant m whom k) ≡ cond b (n.bandwidth k) (set_meant n whom k)
      go true e = map_at m.bandwidth n.bandwidth link_codes same.bandwidth (link-mem (code-mem k c) e)
      go false e = same_set e whom h

rsvp_te-apart : member 0 others ≡ false
unfolding computing
rsvp_te-apart = refl

-- ---- the export

module _ (m : Meaning) (ok : WellFormed m) where
  -- Every question to it, with a good application number and code, is answered by the meaning.
  export-reads : (whom : Subject) → number_too_high whom ≡ false → (k : ℕ) → is_code k ≡ true → (list : List ℕ) → Reads (run_source (export m)) in_bgp_ls m whom k list
  export-reads whom h k c list =
      let rival = export-is-rival m ok in
      let reads = run-reads (export m) rival.accepted whom h k c list in
      let e : meant m whom k ≡ meant (meaning (run_source (export m))) whom k = same-meant m (meaning (run_source (export m))) rival.same k c whom h in
      record { asked = rw e reads.asked; bytes = rw e reads.bytes }

  -- What is none of the others is named by neither.
  names_apart : (a : ℕ) → member a others ≡ false → (run_source (export m)).names a ≡ m.named a
  unfolding run_source
  names_apart a h = rw h (go (m.named a) refl)
    where
      go : (b : Bool) → m.named a ≡ b → false ≡ b
      go true e = absurd (false≢true (sym h ∙ ok.named_only a e))
      go false e = refl

  names-standard : (n : ℕ) → n < 64 → (run_source (export m)).names n ≡ m.named n
  unfolding meaning
  names-standard n l = go (eqb n 0) refl
    where
      go : (b : Bool) → eqb n 0 ≡ b → (run_source (export m)).names n ≡ m.named n
      go true e = let z : n ≡ 0 = eqb-true n 0 e in rw z (names_apart 0 rsvp_te-apart)
      go false e = sym ((export-is-rival m ok).same.named n (standard-other n (le-ltb 63 n (omega arith)) e))

  names-user : (n : ℕ) → n < 64 → (run_source (export m)).names (user n) ≡ m.named (user n)
  unfolding meaning
  names-user n l = go (member (user n) others) refl
    where
      go : (b : Bool) → member (user n) others ≡ b → (run_source (export m)).names (user n) ≡ m.named (user n)
      go true e = sym ((export-is-rival m ok).same.named (user n) e)
      go false e = names_apart (user n) e

  -- It lists the applications that the meaning names.
  export-lists : list_named (run_source (export m)) ≡ names_meant m
  unfolding list_named unless names_meant
  export-lists =
      rw (export-is-rival m ok).accepted
      (ap₂ listed (number_same (run_source (export m)).names m.named names-standard)
      (number_same (λ n. (run_source (export m)).names (user n)) (λ n. m.named (user n)) names-user))

  pub export-answers : AnsweredBy (run_source (export m)) in_bgp_ls m
  export-answers = record { reads = export-reads; names = export-lists }
