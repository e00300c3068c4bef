-- By the contract of `export`, what it writes is a rival of the link, and no rival is shorter. Assumes nothing.
use mathlib.Core.Path.{◌≡◌, refl, sym, ap, subst, ◌∙◌}
use mathlib.Core.Bool.{Bool, true, false, cond}
use Rattle.std.specs.Prelude.{Result}
use mathlib.Core.List.{List}
use Prim.Native.Nat.{ℕ, ◌+◌, ◌≤◌}
use native.Mathlib.Omega.{arith}
use lib.Dec.{ltb}
use lib.ListN.{length, take, drop, length-take}
use lib.Seq.{take_at}
use Rattle.linkstate.specs.Lists.{put}
use Rattle.linkstate.specs.Replies.{Verdict, accepted, refused, refused_if, ◌then◌, unless, fault_of_call, fault, Length, Exported, bytes, export_refused}
use Rattle.linkstate.specs.Questions.{write}
use Rattle.linkstate.specs.Meaning.{meaning}
use Rattle.linkstate.specs.Export.{export}
use Rattle.linkstate.specs.Rival.{IsRival}
use Rattle.isis.specs.Link.{link_verdict, link_source, export_link}
use Rattle.replies.specs.declared.Refusal.{Refusal}
use Rattle.replies.specs.Told.{told_written, told_exported}
use Rattle.demands.proofs.Demands.{demands}
use Rattle.isis_export.specs.Delivered.{Delivered}

abbrev told : Length → List ℕ → Exported
told r b = record { reply = r; buffer = b }

-- An answer that is a length: there was no refusal, and the bytes stand at the front.
record Wrote (v : Verdict) (result : List ℕ) (n : ℕ) (after : List ℕ) : Type 0 where
  passed : v ≡ accepted
  size : n ≡ length result
  front : take n after ≡ result

front_of : (result buffer : List ℕ) → take (length result) (put buffer 0 result) ≡ result
unfolding put
front_of result buffer = take_at result (drop (0 + length result) buffer) (length result) refl

wrote : (v : Verdict) (result buffer : List ℕ) (n : ℕ) (after : List ℕ) → write v result buffer ≡ told (bytes n) after → Wrote v result n after
unfolding write unless ◌then◌ refused_if fault_of_call fault
wrote (refused x) result buffer n after e = let z : ◌≡◌ {A = ℕ} 0 1 = cc (ap (λ (y : Exported). y.reply) e) in absurd (omega arith)
wrote accepted result buffer n after e = go (ltb (length buffer) (length result)) e
  where
    go : (t : Bool) → unless (cond t (fault_of_call 5) accepted) (λ r. told (export_refused r) buffer) (told (bytes (length result)) (put buffer 0 result))
        ≡ told (bytes n) after → Wrote accepted result n after
    go true e = let z : ◌≡◌ {A = ℕ} 0 1 = cc (ap (λ (x : Exported). x.reply) e) in absurd (omega arith)
    go false e =
        let r : bytes (length result) ≡ bytes n = ap (λ (x : Exported). x.reply) e in
        let i : length result ≡ n = cc in
        let j : put buffer 0 result ≡ after = ap (λ (x : Exported). x.buffer) e in
        record { passed = refl; size = sym i; front = rw (sym i, sym j) (front_of result buffer) }

-- A part of n elements lies in a list that has as many.
within : (n : ℕ) (l : List ℕ) → length (take n l) ≡ n → n ≤ length l
within n l e = omega (arith, length-take n l)

pub delivered : (a b c buffer : List ℕ) (n : ℕ) (after : List ℕ) → export_link a b c buffer ≡ told (bytes n) after → Delivered a b c n after
unfolding export_link link_source
delivered a b c buffer n after e =
    let w = wrote (link_verdict a b c) (export (meaning (link_source a b c))) buffer n after e in
    let d = demands.links a b c w.passed in
    record {
      accepted = w.passed;
      within = within n after (ap length w.front ∙ sym w.size);
      bytes = w.front;
      rival = subst (λ (r : List ℕ). IsRival (meaning (link_source a b c)) r) (sym w.front) d.exported.rival;
      shortest = λ r i. rw w.size (d.exported.shortest r i);
    }

-- The same, of the answer that the code gives.
pub delivered-as : (a b c buffer : List ℕ) (r : Result ℕ Refusal) (after : List ℕ) → told_exported r after ≡ export_link a b c buffer → (n : ℕ) → told_written r ≡ bytes n
    → Delivered a b c n after
delivered-as a b c buffer r after e n i = delivered a b c buffer n after (sym e ∙ ap (λ (x : Length). told x after) i)
