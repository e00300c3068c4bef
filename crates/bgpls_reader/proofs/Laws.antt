-- SRLGs of a run from their counted numbers, and the run's source.
use mathlib.Core.Path.{◌≡◌, refl, ap, ◌∙◌}
use mathlib.Core.List.{List, [], ◌∷◌}
use Prim.Native.Nat.{ℕ, ◌*◌, ◌≤◌}
use native.Mathlib.Omega.{arith}
use lib.ListN.{length, take, replicate, length-replicate}
use Rattle.linkstate.specs.Lists.{empty, put}
use Rattle.linkstate.specs.Bytes.{distinct}
use Rattle.linkstate.specs.Attributes.{Attribute, srlgs}
use Rattle.std.proofs.Common.{true, false}
use Rattle.answering.proofs.Entries.{asked_bytes, asked-low, asked-known, ask-answered}
use Rattle.linkstate.specs.Kinds.{is_code}
use Rattle.linkstate.specs.Replies.{run_bgp_ls, place, Verdict, accepted, Asked, absent, listed, unless, Place}
use Rattle.linkstate.specs.Masks.{user, as_number}
use Rattle.linkstate.specs.Questions.{Subject, number_too_high, before_answer, ask, given, unwritten, srlg_answer, answer, bytes_of_first, list_named}
use Rattle.linkstate.specs.BgpLs.{run_verdict, run_source}
use Rattle.octets.proofs.Laws.{front-is}
use Rattle.bgpls_find.specs.Words.{srlg_words}

-- The numbers of attributes, sorted, are their SRLGs.
pub words-answer : (x : Asked) (ts : List Attribute) (n : ℕ) (xs after ns list : List ℕ) → n ≤ length xs → n ≡ length (srlg_words ts)
    → after ≡ put xs 0 (srlg_words ts)
    → ns ≡ distinct (take n after) → x ≡ srlg_answer ns list → x ≡ srlg_answer (srlgs ts) list
unfolding srlgs srlg_words
words-answer x ts n xs after ns list h c w s e =
    let front : take n after ≡ srlg_words ts = ap (λ (i : ℕ). take i after) c ∙ ap (take (length (srlg_words ts))) w
    ∙ front-is xs (srlg_words ts) (omega arith) in
    e ∙ ap (λ (l : List ℕ). srlg_answer l list) (s ∙ ap distinct front)

-- Without numbers the answer is absent.
pub none-answer : (ts : List Attribute) (n : ℕ) (list : List ℕ) → n ≡ length (srlg_words ts) → n ≡ 0
    → record { reply = absent; list = list } ≡ srlg_answer (srlgs ts) list
unfolding srlgs srlg_words srlg_answer unwritten distinct empty
none-answer ts n list c z = go (srlg_words ts) (omega arith)
  where
    go : (ws : List ℕ) → length ws ≡ 0 → record { reply = absent; list = list } ≡ srlg_answer (distinct ws) list
    go [] h = refl
    go (w ∷ ws) h = let f : ⊥ = omega arith in absurd f

-- A list of k zeros has room for k numbers, and for twice as many in two halves.
pub room : (n k : ℕ) → n ≤ k → n ≤ length {A = ℕ} (replicate k 0)
room n k h = rw length-replicate h

pub half_room : (n k : ℕ) → n ≤ 2 * k → n ≤ 2 * length {A = ℕ} (replicate k 0)
half_room n k h = rw length-replicate h

-- The answer to a question for SRLGs.
pub asks-srlg : (r : List ℕ) (whom : Subject) (k : ℕ) (spot : ℕ → Place) (list : List ℕ) (x : Asked) → k ≡ 1096
    → x ≡ srlg_answer (srlgs (given (run_source r) whom 1096)) list
    → x ≡ answer spot k (given (run_source r) whom k) list
unfolding answer
asks-srlg r whom k spot list x h e = rw h e

pub of-set : (x : Asked) (ts us : List Attribute) (list : List ℕ) → ts ≡ us → x ≡ srlg_answer (srlgs ts) list → x ≡ srlg_answer (srlgs us) list
of-set x ts us list e h = h ∙ ap (λ (l : List Attribute). srlg_answer (srlgs l) list) e

-- A verdict that was told of the run is its source's, and so are its bytes.
pub of-run : (r : List ℕ) (v : Verdict) → v ≡ run_verdict r → v ≡ (run_source r).verdict
unfolding run_source
of-run r v e = e

pub source-bytes : (r v : List ℕ) (ts : List Attribute) → v ≡ bytes_of_first r ts → v ≡ bytes_of_first (run_source r).bytes ts
unfolding run_source
source-bytes r v ts e = e

pub lists : (r : List ℕ) (s u : ℕ) → accepted ≡ (run_source r).verdict → s ≡ as_number (run_source r).names
    → u ≡ as_number (λ n. (run_source r).names (user n)) → listed s u ≡ list_named (run_source r)
unfolding list_named unless
lists r s u v hs hu = rw (← v, hs, hu)

-- What an accepted question asks of the run and of itself.
module _ (r : List ℕ) (whom : Subject) (k : ℕ) (e : before_answer (run_source r) whom k ≡ accepted) where
  pub asked-run : run_verdict r ≡ accepted
  unfolding run_source
  asked-run = asked_bytes (run_source r) whom k e

  pub granted : (run_verdict r ≡ accepted) × (number_too_high whom ≡ false) × (is_code k ≡ true)
  granted = (asked-run, asked-low (run_source r) whom k e, asked-known (run_source r) whom k e)

  pub answered : (list : List ℕ) (x : Asked) → x ≡ answer (place run_bgp_ls) k (given (run_source r) whom k) list → x ≡ ask (run_source r) whom k list
  unfolding run_source
  answered list x h = h ∙ ask-answered (run_source r) whom k list e
