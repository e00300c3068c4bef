-- What is signed: the theorems about well-formed meanings, at the meaning of an accepted IS-IS link; those about runs; and what accepted means. Assumes nothing.
use mathlib.Core.List.{List}
use Prim.Native.Nat.{ℕ}
use Rattle.linkstate.specs.Limits.{most_of_isis, longest_of_isis}
use Rattle.linkstate.specs.Meaning.{Accepted}
use Rattle.isis.specs.Link.{link_source}
use Rattle.rivals.specs.Signed.{OfLink}
use Rattle.rivals.proofs.Reader.{run-answers}
use Rattle.rivals.proofs.Signed.{of-link, of-run}
use Rattle.demands.specs.Demands.{in_a, Demands}
use Rattle.demands.proofs.AcceptedLinks.{accepted-is-well-formed}
use Rattle.demands.proofs.Bounds.{accepted-is-within}
use Rattle.demands.proofs.LinkReads.{link-answers}
use Rattle.demands.proofs.LinkAccepted.{link-accepted}

links : (a b c : List ℕ) → Accepted (link_source a b c) → OfLink (link_source a b c) in_a most_of_isis longest_of_isis
links a b c h = of-link (link_source a b c) in_a (link-answers a b c h) (accepted-is-well-formed a b c h) (accepted-is-within a b c h)

pub demands : Demands
demands = record { links = links; runs = run-answers; accepted_links = link-accepted; accepted_runs = of-run }
