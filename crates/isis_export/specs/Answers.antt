-- What the export of a link answers where it is written, and where its length alone is asked for.
use Rattle.std.specs.Prelude.{Bool, List, ℕ, length}
use Rattle.linkstate.specs.Replies.{unless, Length, bytes, export_refused, Exported}
use Rattle.linkstate.specs.Meaning.{meaning}
use Rattle.linkstate.specs.Export.{export}
use Rattle.isis.specs.Link.{link_verdict, link_source}
use Rattle.export_bytes.specs.Whole.{answered}

-- K5, R9. How long the export of a link is: refused as the export is but for 5, else the length of its bytes.
unfoldable pub export_length : List ℕ → List ℕ → List ℕ → Length
export_length a b c = unless (link_verdict a b c) export_refused (bytes (length (export (meaning (link_source a b c)))))

-- What an accepted link answers, measured or written.
abbrev pub accepted_link : Bool → List ℕ → List ℕ → List ℕ → List ℕ → Exported
accepted_link measuring a b c buffer = answered measuring (export (meaning (link_source a b c))) buffer

-- Either of the two: refused as the link is, else what an accepted link answers.
unfoldable pub answered_link : Bool → List ℕ → List ℕ → List ℕ → List ℕ → Exported
answered_link measuring a b c buffer = unless (link_verdict a b c) (λ r. record { reply = export_refused r; buffer = buffer })
    (accepted_link measuring a b c buffer)
