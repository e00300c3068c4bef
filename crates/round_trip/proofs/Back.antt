-- What a function leaves that exports a link and asks the export.
use mathlib.Core.Path.{◌≡◌, refl, sym, ap, ◌∙◌, subst}
use mathlib.Core.List.{List}
use Prim.Native.Nat.{ℕ, ◌-◌}
use native.Mathlib.Omega.{arith}
use lib.ListN.{take, drop}
use Rattle.linkstate.specs.Replies.{Refusal, ask_refused, Asked, Named}
use Rattle.linkstate.specs.Questions.{Subject, unwritten, ask, list_named}
use Rattle.linkstate.specs.BgpLs.{run_source}
use Rattle.isis.specs.Link.{link_source}
use Rattle.demands.proofs.Demands.{demands}
use Rattle.isis_export.proofs.Delivered.{delivered}
use Rattle.round_trip.specs.ReadBack.{Alike, Refuses, Writes, AskedBack, refused_back, asked_back, NamedBack, named_back}
use Rattle.round_trip.proofs.Answers.{export-answers}

module _ (a b c buffer after : List ℕ) (n : ℕ) (w : Writes a b c buffer after n) where
  abbrev run : List ℕ
  run = take n after

  -- The same, as the part of the buffer that the code takes.
  abbrev front : List ℕ
  front = take (n - 0) (drop 0 after)

  front-is : front ≡ run
  front-is = let e : n - 0 ≡ n = omega arith in rw e

  pub asked-back : (whom : Subject) (k : ℕ) (list : List ℕ) (x : Asked) → x ≡ ask (run_source front) whom k list → AskedBack a b c buffer after whom k list x
  asked-back whom k list x h =
      let d = delivered a b c buffer n after w in
      let e : x ≡ ask (run_source run) whom k list = h ∙ ap (λ (r : List ℕ). ask (run_source r) whom k list) front-is in
      asked_back n w e
      (subst (λ (y : Asked). Alike a run (ask (link_source a b c) whom k list) y) (sym e)
      (subst (λ (r : List ℕ). Alike a r (ask (link_source a b c) whom k list) (ask (run_source r) whom k list)) (sym d.bytes)
      (export-answers a b c d.accepted whom k list)))

  pub named_back_lem : (x : Named) → x ≡ list_named (run_source front) → NamedBack a b c buffer after x
  named_back_lem x h =
      let d = delivered a b c buffer n after w in
      let l = demands.links a b c d.accepted in
      let e : x ≡ list_named (run_source run) = h ∙ ap (λ (r : List ℕ). list_named (run_source r)) front-is in
      named_back n w e (l.answers.names ∙ sym l.exported.read_back.names ∙ ap (λ (r : List ℕ). list_named (run_source r)) (sym d.bytes) ∙ sym e)

pub refused-back : (a b c buffer after : List ℕ) (whom : Subject) (k : ℕ) (list : List ℕ) (r : Refusal) → Refuses a b c buffer after r
    → AskedBack a b c buffer after whom k list (record { reply = ask_refused r; list = list })
unfolding unwritten
refused-back a b c buffer after whom k list r e = refused_back r e refl
