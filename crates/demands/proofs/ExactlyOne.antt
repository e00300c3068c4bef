-- Why a rival names each application in exactly one ASLA TLV: without that, the export would not be the shortest. Here SR Policy and LFA share a long extended
-- group and differ in their metric; a run that names both once for the group, and each once more for its metric, has the link's meaning in fewer bytes.
use mathlib.Core.Path.{◌≡◌, refl}
use mathlib.Core.Bool.{Bool, true, false, ◌||◌}
use mathlib.Core.List.{List, [], ◌∷◌, ◌++◌, map}
use Prim.Native.Nat.{ℕ, ◌<◌}
use native.Mathlib.Omega.{arith}
use borrow.Author.Tests.{eqb-true}
use lib.Dec.{eqb, lit<}
use lib.ListN.{length, replicate}
use Rattle.linkstate.specs.Lists.{member, count}
use Rattle.linkstate.specs.Masks.{others}
use Rattle.linkstate.specs.Sides.{names}
use Rattle.linkstate.specs.Meaning.{meaning, row, Same, Accepted}
use Rattle.linkstate.specs.BgpLs.{run_source, aslas}
use Rattle.isis.specs.Link.{link_source}
use Rattle.isis.proofs.Computing.{computing}
use Rattle.demands.specs.Demands.{meaning_of, export_of}

-- An extended group of 32 bytes for both, metric 20 for SR Policy, 21 for LFA: as run A, and as BGP-LS TLVs in the same arrangement.
unfoldable pub link : List ℕ
link =
    (0x10 ∷ 37 ∷ 1 ∷ 0 ∷ 0x60 ∷ 14 ∷ 32 ∷ replicate 32 7) ++ (0x10 ∷ 8 ∷ 1 ∷ 0 ∷ 0x40 ∷ 18 ∷ 3 ∷ 0 ∷ 0 ∷ 20 ∷ []) ++ (0x10 ∷ 8 ∷ 1 ∷ 0 ∷ 0x20 ∷ 18 ∷ 3 ∷ 0 ∷ 0 ∷ 21 ∷ [])

unfoldable pub run : List ℕ
run =
    (0x04 ∷ 0x62 ∷ 0 ∷ 44 ∷ 4 ∷ 0 ∷ 0 ∷ 0 ∷ 0x60 ∷ 0 ∷ 0 ∷ 0 ∷ 0x04 ∷ 0x95 ∷ 0 ∷ 32 ∷ replicate 32 7)
    ++ (0x04 ∷ 0x62 ∷ 0 ∷ 16 ∷ 4 ∷ 0 ∷ 0 ∷ 0 ∷ 0x40 ∷ 0 ∷ 0 ∷ 0 ∷ 0x04 ∷ 0x44 ∷ 0 ∷ 4 ∷ 0 ∷ 0 ∷ 0 ∷ 20 ∷ [])
    ++ (0x04 ∷ 0x62 ∷ 0 ∷ 16 ∷ 4 ∷ 0 ∷ 0 ∷ 0 ∷ 0x20 ∷ 0 ∷ 0 ∷ 0 ∷ 0x04 ∷ 0x44 ∷ 0 ∷ 4 ∷ 0 ∷ 0 ∷ 0 ∷ 21 ∷ [])

-- Equal at every number of a list, where the lists of what they give are.
pointwise : {B : Type 0} (f g : ℕ → B) (xs : List ℕ) → map f xs ≡ map g xs → (a : ℕ) → member a xs ≡ true → f a ≡ g a
unfolding member
pointwise f g [] e a h = let z : ◌≡◌ {A = ℕ} 0 1 = cc in absurd (omega arith)
pointwise f g (x ∷ xs) e a h = go (eqb a x) refl h (λ i. pointwise f g xs (cc) a i)
  where
    go : (b : Bool) → eqb a x ≡ b → b || member a xs ≡ true → (member a xs ≡ true → f a ≡ g a) → f a ≡ g a
    go true p i r = let q : a ≡ x = eqb-true a x p in let s : f x ≡ g x = cc in cc
    go false p i r = r i

pub shorter-if-named-twice : Accepted (link_source link [] []) × Accepted (run_source run) × Same (meaning_of link [] []) (meaning (run_source run)) × (length run < length (export_of link [] []))
    × (count (names 1) (aslas run) ≡ 2)
unfolding computing link run
shorter-if-named-twice = (
  refl,
  refl,
  record {
    bandwidth = refl;
    rsvp_te = refl;
    general = refl;
    named = pointwise (meaning_of link [] []).named (meaning (run_source run)).named others refl;
    set = λ a h n. pointwise (λ a. row ((meaning_of link [] []).set a)) (λ a. row ((meaning (run_source run)).set a)) others refl a h;
  },
  lit< tt,
  refl,
)
