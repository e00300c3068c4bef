-- Demand 2, on the code: a link is exported, and what was written answers every question as the link does.
use Rattle.std.specs.Prelude.{◌≡◌, List, ℕ, take}
use Rattle.linkstate.specs.Bytes.{bytes_at}
use Rattle.linkstate.specs.Replies.{Refusal, run_a, run_bgp_ls, place, part, Reply, found, ask_refused, Asked, Named, named_refused, bytes, export_refused}
use Rattle.linkstate.specs.Questions.{Subject, unwritten, ask, list_named}
use Rattle.linkstate.specs.BgpLs.{run_source}
use Rattle.isis.specs.Link.{link_source, export_link}

-- Replies to one question, of a link with this run A and of these BGP-LS bytes, are alike: the same, or, where a reply is a place, at both places
-- stand the same bytes.
pub data AlikeReply (a run : List ℕ) : Reply → Reply → Type 0 where
  same : (r : Reply) → AlikeReply a run r r
  parts : (i j n : ℕ) → bytes_at a i n ≡ bytes_at run j n → AlikeReply a run (found (part (place run_a i) n)) (found (part (place run_bgp_ls j) n))

pub record Alike (a run : List ℕ) (of_link of_run : Asked) : Type 0 where
  pub reply : AlikeReply a run of_link.reply of_run.reply
  pub list : of_link.list ≡ of_run.list

module _ (a b c buffer after : List ℕ) where
  -- What an export leaves where it is refused, and where it wrote n bytes.
  abbrev pub Refuses : Refusal → Type 0
  Refuses r = export_link a b c buffer ≡ record { reply = export_refused r; buffer = after }

  abbrev pub Writes : ℕ → Type 0
  Writes n = export_link a b c buffer ≡ record { reply = bytes n; buffer = after }

  -- A question to the export of a link: refused as the export is; else answered by the bytes written, and as the link answers it.
  pub data AskedBack (whom : Subject) (k : ℕ) (list : List ℕ) (x : Asked) : Type 0 where
    refused_back : (r : Refusal) → Refuses r → x ≡ unwritten list (ask_refused r) → AskedBack whom k list x
    asked_back : (n : ℕ) → Writes n → x ≡ ask (run_source (take n after)) whom k list → Alike a (take n after) (ask (link_source a b c) whom k list) x → AskedBack whom k list x

  -- The named applications of the export of a link: those of the bytes written, and of the link.
  pub data NamedBack (x : Named) : Type 0 where
    refused_names : (r : Refusal) → Refuses r → x ≡ named_refused r → NamedBack x
    named_back : (n : ℕ) → Writes n → x ≡ list_named (run_source (take n after)) → list_named (link_source a b c) ≡ x → NamedBack x
