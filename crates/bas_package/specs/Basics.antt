-- A file of the basic package: options, IBOUND, HNOFLO, STRT (TM 6-A16, BAS6).
use Rattle.std.specs.Prelude.{◌≡◌, ℕ, ℤ, List, All, length, Bool, not, ◌&&◌, Result, Ok, Err, if◌then◌else◌, codes}
use Rattle.std.specs.List.{list_any}
use Rattle.decimal_input.specs.{declared.dec.Dec.Dec, IsDec}
use Rattle.outside.specs.{FileSet, refusal, words, declared.codes.Code.TheVariants.OutOfProfile, declared.inputs.Refusal.Refusal}
use Rattle.record_lines.specs.{is_word, line_at, Left, left_from, without_comments, ◌>>=◌}
use Rattle.array_reader.specs.{layers, number_at, real, whole, number}
use Rattle.model_types.specs.{declared.grid.Grid.Grid, cell_count, declared.model.FlowModel.FlowModel}

-- free format, and neither of the options XSECTION and CHTOCH, in any letter case
abbrev pub is_in_profile : List (List ℕ) → Bool
is_in_profile options =
    list_any (is_word (codes "FREE")) options
    && (not (list_any (is_word (codes "XSECTION")) options) && not (list_any (is_word (codes "CHTOCH")) options))

unfoldable pub option_line : List ℕ → Left → Result (Unit {0} × Left) Refusal
option_line file left = do
  line ← line_at file left
  if is_in_profile (words line.0.bytes) then Ok (tt, line.1) else Err (refusal OutOfProfile file line.0.number)

-- HNOFLO, which is a number
unfoldable pub head_item : List ℕ → Left → Result (Unit {0} × Left) Refusal
head_item file left = do
  line ← line_at file left
  hnoflo ← number_at number file line.0.number (words line.0.bytes)
  Ok (tt, line.1)

-- a model with IBOUND and STRT
abbrev pub with_basics : FlowModel → List ℤ → List Dec → FlowModel
with_basics m ibound strt = record m { ibound = ibound; strt = strt }

-- IBOUND and STRT are an array for each layer
unfoldable pub basics_of : FileSet → List ℕ → List ℕ → Grid → Result (List ℤ × List Dec) Refusal
basics_of files file bytes grid = do
  options ← option_line file (without_comments (left_from 1 bytes))
  ibound ← layers whole files file grid.layers grid.rows grid.cols options.1
  hnoflo ← head_item file ibound.1
  strt ← layers real files file grid.layers grid.rows grid.cols hnoflo.1
  Ok (ibound.0, strt.0)

-- the model with IBOUND and STRT of the file
unfoldable pub bas_of : FileSet → List ℕ → List ℕ → FlowModel → Result FlowModel Refusal
bas_of files file bytes m = do
  basics ← basics_of files file bytes m.grid
  Ok (with_basics m basics.0 basics.1)

-- a model with IBOUND and STRT for each cell, which is else the one before
pub record HasBasics (m n : FlowModel) : Type 0 where
  pub ibound : length n.ibound ≡ cell_count m.grid
  pub strt : (length n.strt ≡ cell_count m.grid) × All IsDec n.strt
  pub only : n ≡ with_basics m n.ibound n.strt
