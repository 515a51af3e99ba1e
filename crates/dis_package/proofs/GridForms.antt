-- What is read of widths and elevations.
use Rattle.dis_package.proofs.Common.{◌≡◌, ℕ, ◌+◌, ◌*◌, false, List, length, replicate, All, refl, arith, ℤ, ◌-◌, All-nil, All-append, IsDec, FileSet, Left, real, IsGrid, int_at, is_nonzero}
use Rattle.dis_package.proofs.Common.{no_number, IsPositive, is_positive, IsSize, widths, bottom_at, bottoms_of, grid_of, Size, array_is, number_is, multiplied_is, GivesOnly, ok_gives_only, then_}
use Rattle.dis_package.proofs.Common.{if_passed, Grid, all_positive_of, IsGridWithin, IsOfBeds, Limits, counted_gives}
use Rattle.std.specs.List.{list_all}
use Rattle.decimal_input.specs.declared.dec.Dec.{Dec}
use Rattle.number_limits.proofs.Canonical.{no_number_is}
use Rattle.dis_package.specs.declared.bottoms.Bottoms.{Bottoms}
use Rattle.dis_package.proofs.FrameForms.{IsSizeWithin, AreBeds}
use Rattle.array_text.proofs.LayerForms.{layer_is, layer_or_is, one_more, AreLayers, no_layers, one_more_layer}

module _ (files : FileSet) (file : List ℕ) where
  widths_are : (count : ℕ) (left : Left) → GivesOnly (λ x. (length x.0 ≡ count) × All IsPositive x.0) (widths files file count left)
  unfolding widths
  widths_are count left =
      then_ _ (array_is real IsDec number_is multiplied_is files file 1 count left) (λ read are. if_passed (list_all is_positive read.0.0) _ _
      (λ passed. ok_gives_only (omega (arith, are.0), all_positive_of read.0.0 are.1 passed)))

-- what is asked of the layer k of a list that is 0 where there is no bed
abbrev pub IsBedLayer : List ℤ → ℕ → ℕ → List Dec → Type 0
IsBedLayer laycbd n k ys = is_nonzero (int_at laycbd k) ≡ false → ys ≡ replicate n no_number

-- the bottoms of i layers, and of the beds below them
record AreBottoms (size : Size) (laycbd : List ℤ) (i : ℕ) (s : Bottoms × Left) : Type 0 where
  pub layers : (length s.0.layers ≡ i * (size.rows * size.cols)) × All IsDec s.0.layers
  pub decimals : All IsDec s.0.beds
  pub beds : AreLayers (size.rows * size.cols) (IsBedLayer laycbd (size.rows * size.cols)) i s.0.beds

-- a grid by these limits with these beds
pub record IsReadGrid (limits : Limits) (laycbd : List ℤ) (g : Grid) : Type 0 where
  pub grid : IsGrid g
  pub within : IsGridWithin limits g
  pub beds : IsOfBeds g g.bed_bottom
  pub same : g.laycbd ≡ laycbd

module _ (files : FileSet) (file : List ℕ) (size : Size) (laycbd : List ℤ) where
  one_bottom : (i : ℕ) (s : Bottoms × Left) → AreBottoms size laycbd i s → GivesOnly (AreBottoms size laycbd (i + 1)) (bottom_at files file size laycbd i s)
  unfolding bottom_at
  one_bottom i s so =
      let cells = size.rows * size.cols in
      then_ _ (layer_is files file size.rows size.cols s.1) (λ bottom a. then_ _ (layer_or_is files file size.rows size.cols (is_nonzero (int_at laycbd i)) no_number bottom.1 no_number_is)
      (λ bed b. ok_gives_only (record {
        layers = one_more IsDec cells i s.0.layers bottom.0 so.layers a;
        decimals = All-append IsDec s.0.beds bed.0 so.decimals b.1;
        beds = one_more_layer cells (IsBedLayer laycbd cells) i s.0.beds bed.0 so.beds b.0 b.2;
      })))

  bottoms_are : (count : ℕ) (left : Left) → GivesOnly (AreBottoms size laycbd count) (bottoms_of files file size laycbd count left)
  unfolding bottoms_of
  bottoms_are count left =
      counted_gives (bottom_at files file size laycbd) (AreBottoms size laycbd) one_bottom count _
      (record { layers = (omega arith, All-nil IsDec); decimals = All-nil IsDec; beds = no_layers (size.rows * size.cols) (IsBedLayer laycbd (size.rows * size.cols)) })

  pub grid_is : (limits : Limits) (left : Left) → IsSize size → IsSizeWithin limits size → AreBeds size.layers laycbd →
      GivesOnly (λ x. IsReadGrid limits laycbd x.0) (grid_of files file size laycbd left)
  unfolding grid_of
  grid_is limits left sizes w beds =
      then_ _ (widths_are files file size.cols left) (λ delr a. then_ _ (widths_are files file size.rows delr.1) (λ delc b. then_ _ (layer_is files file size.rows size.cols delc.1)
      (λ top c. then_ _ (bottoms_are size.layers top.1) (λ bottoms are. ok_gives_only (record {
        grid = record {
          size = record { layers = sizes.layers; rows = sizes.rows; cols = sizes.cols; cells = sizes.cells };
          delr = a;
          delc = b;
          top = c;
          bottom = are.layers;
          laycbd = beds.count;
          no_last_bed = beds.last;
          bed_bottom = (are.beds.count, are.decimals);
        };
        within = record { layers = w.layers; rows = w.rows; cols = w.cols; cells = w.cells };
        beds = are.beds.each;
        same = refl;
      })))))
