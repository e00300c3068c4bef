-- What writing the TLVs of a set asks for, and the codes that are written together (rules K2, L2).
use Rattle.std.specs.Prelude.{◌≡◌, List, [], ◌∷◌, ℕ, ◌<◌, length, get_or, ltb}
use Rattle.linkstate.specs.Lists.{keep}
use Rattle.linkstate.specs.Kinds.{codes}
use Rattle.grids.specs.Grids.{Fits}
use Rattle.set_bytes.specs.Standing.{numbers_in, Classes, Standing}

-- L2. The codes at the top of a run that come before the ASLA TLVs and after them.
abbrev pub low_codes : List ℕ
low_codes = keep (λ k. ltb k 1122) codes

abbrev pub high_codes : List ℕ
high_codes = keep (λ k. ltb 1122 k) codes

-- Codes that stand together both in a set and at the top of a run: those of rows in turn, and with them the TE metric and the SRLGs.
abbrev pub extended_codes : List ℕ
extended_codes = 1114 ∷ 1115 ∷ 1116 ∷ 1117 ∷ 1118 ∷ 1119 ∷ 1120 ∷ []

abbrev pub middle_codes : List ℕ
middle_codes = 1092 ∷ 1096 ∷ extended_codes

-- One of some codes, by its place among them.
abbrev pub Among : List ℕ → ℕ → Type 0
Among ks c = (k : ℕ) × (k < length ks) × (c ≡ get_or ks k 0)

-- A grid over a run and class c of a table, whose TLVs can be written at a place of a buffer: classes that were written before stand in it.
pub record Writable (run : List ℕ) (g : List (List ℕ)) (values : List ℕ) (rows classes : List (List ℕ)) (places : List ℕ) (c : ℕ) (buffer : List ℕ) (at : ℕ) : Type 0 where
  pub fits : Fits run g
  pub known : Classes values rows classes
  pub inside : c < length classes
  pub placed : c < length places
  pub standing : Standing (numbers_in values rows classes) places buffer at
