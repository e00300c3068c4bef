-- What the entries answer, from what the checks of the link and its tables do. Assumes nothing.
use mathlib.Core.Path.{◌≡◌, refl, ap, ◌∙◌}
use mathlib.Core.Bool.{Bool, true, false}
use Rattle.std.specs.Prelude.{Result}
use mathlib.Core.List.{List}
use Prim.Native.Nat.{ℕ}
use lib.ListN.{length}
use Rattle.linkstate.specs.Replies.{Verdict, accepted, refused, Refusal, ◌then◌, unless, Exported, bytes, export_refused}
use Rattle.linkstate.specs.Questions.{write}
use Rattle.linkstate.specs.Meaning.{meaning}
use Rattle.linkstate.specs.Export.{export}
use Rattle.isis.specs.Link.{link_verdict, link_source, export_link}
use Rattle.replies.specs.declared.Refusal as Code
use Rattle.replies.specs.Told.{told_written, told_exported}
use Rattle.export_bytes.specs.Whole.{answered}
use Rattle.isis_export.specs.Delivered.{Delivered}
use Rattle.isis_export.specs.Answers.{export_length, answered_link}
use Rattle.isis_export.proofs.Delivered.{delivered-as}

module _ (measuring : Bool) (a b c buffer : List ℕ) where
  pub link-refused : (r : Refusal) → link_verdict a b c ≡ refused r → record { reply = export_refused r; buffer = buffer } ≡ answered_link measuring a b c buffer
  unfolding answered_link unless
  link-refused r e = rw e

  pub link-accepted : link_verdict a b c ≡ accepted → (x : Exported) → x ≡ answered measuring (export (meaning (link_source a b c))) buffer
      → x ≡ answered_link measuring a b c buffer
  unfolding answered_link unless
  link-accepted e x h = rw e h

-- Written, it is the third service, and what was written is delivered.
module _ (a b c buffer : List ℕ) where
  as-export : answered_link false a b c buffer ≡ export_link a b c buffer
  unfolding answered_link answered export_link write unless ◌then◌
  as-export = go (link_verdict a b c)
    where
      go : (v : Verdict) → unless v (λ r. record { reply = export_refused r; buffer = buffer }) (write accepted (export (meaning (link_source a b c))) buffer)
          ≡ write v (export (meaning (link_source a b c))) buffer
      go accepted = refl
      go (refused r) = refl

  pub exported : (r : Result ℕ Code.Refusal) (after : List ℕ) → told_exported r after ≡ answered_link false a b c buffer
      → (told_exported r after ≡ export_link a b c buffer) × ((n : ℕ) → told_written r ≡ bytes n → Delivered a b c n after)
  exported r after e = let x = e ∙ as-export in (x, delivered-as a b c buffer r after x)

  -- Measured, it is the length alone.
  as-length : (answered_link true a b c buffer).reply ≡ export_length a b c
  unfolding answered_link answered export_length unless
  as-length = go (link_verdict a b c)
    where
      go : (v : Verdict) → (unless {A = Exported} v (λ r. record { reply = export_refused r; buffer = buffer })
          (record { reply = bytes (length (export (meaning (link_source a b c)))); buffer = buffer })).reply
          ≡ unless v export_refused (bytes (length (export (meaning (link_source a b c)))))
      go accepted = refl
      go (refused r) = refl

  pub measured : (r : Result ℕ Code.Refusal) (after : List ℕ) → told_exported r after ≡ answered_link true a b c buffer → told_written r ≡ export_length a b c
  measured r after e = ap (λ (x : Exported). x.reply) e ∙ as-length
