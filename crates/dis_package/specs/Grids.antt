-- Widths and elevations (TM 6-A16, DIS, items 3 to 6).
use Rattle.std.specs.Prelude.{ℕ, ℤ, List, [], ◌++◌, Result, Ok, Err, if◌then◌else◌}
use Rattle.std.specs.List.{list_all}
use Rattle.decimal_input.specs.declared.dec.Dec.{Dec}
use Rattle.outside.specs.{FileSet, refusal, declared.codes.Code.TheVariants.BadGrid, declared.inputs.Refusal.Refusal}
use Rattle.record_lines.specs.{Left, ◌>>=◌, each_number}
use Rattle.array_reader.specs.{array_at, real_layer, layer_or, real}
use Rattle.model_types.specs.{declared.grid.Grid.Grid, int_at, no_number, is_nonzero}
use Rattle.number_limits.specs.{is_positive}
use Rattle.dis_package.specs.{declared.frame.Size.Size, declared.bottoms.Bottoms.Bottoms}

-- DELR or DELC: numbers above 0, refused as a whole on the line of their control record
unfoldable pub widths : FileSet → List ℕ → ℕ → Left → Result (List Dec × Left) Refusal
widths files file count left = do
  read ← array_at real files file 1 count left
  if list_all is_positive read.0.0 then Ok (read.0.0, read.1) else Err (refusal BadGrid file read.0.1)

-- after the layers above: the bottom of layer k (from 0), then that of the bed below it, which is 0 everywhere where there is no bed
unfoldable pub bottom_at : FileSet → List ℕ → Size → List ℤ → ℕ → (Bottoms × Left) → Result (Bottoms × Left) Refusal
bottom_at files file size laycbd k s = do
  bottom ← real_layer files file size.rows size.cols s.1
  bed ← layer_or files file size.rows size.cols (is_nonzero (int_at laycbd k)) no_number bottom.1
  Ok (record { layers = s.0.layers ++ bottom.0; beds = s.0.beds ++ bed.0 }, bed.1)

unfoldable pub bottoms_of : FileSet → List ℕ → Size → List ℤ → ℕ → Left → Result (Bottoms × Left) Refusal
bottoms_of files file size laycbd count left = each_number (bottom_at files file size laycbd) 0 count (record { layers = []; beds = [] }, left)

-- DELR, DELC, the top of layer 1, and the bottoms
unfoldable pub grid_of : FileSet → List ℕ → Size → List ℤ → Left → Result (Grid × Left) Refusal
grid_of files file size laycbd left = do
  delr ← widths files file size.cols left
  delc ← widths files file size.rows delr.1
  top ← real_layer files file size.rows size.cols delc.1
  bottoms ← bottoms_of files file size laycbd size.layers top.1
  Ok (
    record {
      layers = size.layers;
      rows = size.rows;
      cols = size.cols;
      delr = delr.0;
      delc = delc.0;
      top = top.0;
      bottom = bottoms.0.layers;
      laycbd = laycbd;
      bed_bottom = bottoms.0.beds;
    },
    bottoms.1,
  )
