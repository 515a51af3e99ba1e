-- DIS items 3 to 6 are read as written.
use Rattle.model_text.proofs.Common.{◌≡◌, ℕ, ◌+◌, ◌*◌, ◌<◌, ◌≤◌, Bool, true, false, if◌then◌else◌, List, [], ◌++◌, length, take, replicate, All, refl, arith, list_all, All-weaker, Dec, IsDec, FileSet}
use Rattle.model_text.proofs.Common.{real, real_layer, layer_or, Grid, layer_size, cell_count, HasSize, IsGrid, int_at, is_nonzero, no_number, IsPositive, is_positive, number_word, real_array, Takes}
use Rattle.model_text.proofs.Common.{one, real_one, reals_written, arrays_read_back, layer_values, each_layer, dis_item_3, dis_item_4, dis_item_5, dis_item_6, IsOfBeds, ◌-◌, drop, ◌∙◌, length-drop}
use Rattle.model_text.proofs.Common.{length-take-le, take_all, All-take, All-drop, array_takes, takes_none, takes_where, then_takes, last_takes, counted_take, widths, bottom_at, bottoms_of, grid_of}
use Rattle.model_text.proofs.Common.{drop-take, take-append-drop, take-take, list_all-from_AllPass, positive_is}
use Rattle.model_text.specs.{real_layer as real_layer_lines}
use Rattle.dis_package.specs.{declared.frame.Size.Size, declared.bottoms.Bottoms.Bottoms}
use Rattle.std.proofs.Math.Nat.{mul-le-mul_right}

take_more : {X : Type 0} (a b : ℕ) (xs : List X) → take a xs ++ take b (drop a xs) ≡ take (a + b) xs
take_more a b xs = let low : a ≤ a + b = omega arith in rw (← take-take a (a + b) xs low, ← drop-take a b xs) (take-append-drop a (take (a + b) xs))

module _ (g : Grid) where
  -- the layers above layer k, with layer k
  pub one_more_layer : {X : Type 0} (k : ℕ) (xs : List X) → take (k * layer_size g) xs ++ layer_values g k xs ≡ take ((k + 1) * layer_size g) xs
  one_more_layer k xs = let e : k * layer_size g + layer_size g ≡ (k + 1) * layer_size g = omega arith in take_more (k * layer_size g) (layer_size g) xs ∙ rw e refl

  pub layer_length : {X : Type 0} (k : ℕ) (xs : List X) → k < g.layers → length xs ≡ cell_count g → length (layer_values g k xs) ≡ layer_size g
  layer_length k xs low e =
      let room : (k + 1) * layer_size g ≤ g.layers * layer_size g = mul-le-mul_right (layer_size g) (omega arith) in
      let back : length (drop (k * layer_size g) xs) ≡ length xs - k * layer_size g = length-drop (k * layer_size g) xs in
      length-take-le (layer_size g) (drop (k * layer_size g) xs) (omega arith)

  pub layer_has : {X : Type 0} (P : X → Type 0) (k : ℕ) (xs : List X) → All P xs → All P (layer_values g k xs)
  layer_has P k xs h = All-take P (layer_size g) (drop (k * layer_size g) xs) (All-drop P (k * layer_size g) xs h)

  pub all_layers : {X : Type 0} (xs : List X) → length xs ≡ cell_count g → take (g.layers * layer_size g) xs ≡ xs
  all_layers xs e = take_all (g.layers * layer_size g) xs (omega arith)

all_above : (xs : List Dec) → All (λ d. IsPositive d) xs → list_all is_positive xs ≡ true
all_above xs h = list_all-from_AllPass is_positive xs (All-weaker (λ d. IsPositive d) (λ d. is_positive d ≡ true) positive_is xs h)

-- an array of widths
widths_take : (files : FileSet) (file : List ℕ) (count : ℕ) (xs : List Dec) → 1 ≤ count → (length xs ≡ count) × All (λ d. IsPositive d) xs →
    Takes (widths files file count) (real_array 1 count xs) (λ left. (xs, left))
unfolding widths real_array
widths_take files file count xs some h =
    let numbers = All-weaker (λ d. IsPositive d) (λ d. IsDec d) (λ d k. k.decimal) xs h.1 in
    array_takes _ real number_word one files file 1 count xs real_one some (omega (arith, h.0)) (reals_written xs numbers) (λ n left. rw (all_above xs h.1) refl)

module _ (files : FileSet) (file : List ℕ) (g : Grid) (size : HasSize g) where
  pub reals_take : (xs : List Dec) → (length xs ≡ layer_size g) × All IsDec xs → Takes (real_layer files file g.rows g.cols) (real_array g.rows g.cols xs) (λ left. (xs, left))
  reals_take xs h = arrays_read_back.layers files file g.rows g.cols xs size.cols.0 h.0 h.1

  -- a layer of a list by cell
  pub layer_takes : (xs : List Dec) → (length xs ≡ cell_count g) × All IsDec xs → (k : ℕ) → k < g.layers →
      Takes (real_layer files file g.rows g.cols) (real_layer_lines g xs k) (λ left. (layer_values g k xs, left))
  layer_takes xs h k low = reals_take (layer_values g k xs) (layer_length g k xs low h.0, layer_has g IsDec k xs h.1)

  -- a layer that is written where the file has it
  pub layer_or_takes : (b : Bool) (xs : List Dec) (other : Dec) → (length xs ≡ cell_count g) × All IsDec xs → (k : ℕ) → k < g.layers →
      (b ≡ false → layer_values g k xs ≡ replicate (layer_size g) other)
      → Takes (layer_or files file g.rows g.cols b other) (if b then real_layer_lines g xs k else []) (λ left. (layer_values g k xs, left))
  unfolding layer_or
  layer_or_takes b xs other h k low none = takes_where b (λ e. layer_takes xs h k low) (λ e. rw (none e) takes_none)

module _ (files : FileSet) (file : List ℕ) (g : Grid) (h : IsGrid g) (beds : IsOfBeds g g.bed_bottom) where
  abbrev size_of : Size
  size_of = record { layers = g.layers; rows = g.rows; cols = g.cols }

  -- the elevations of the first k layers
  abbrev upper : ℕ → Bottoms
  upper k = record { layers = take (k * layer_size g) g.bottom; beds = take (k * layer_size g) g.bed_bottom }

  bottom_takes : (k : ℕ) → k < g.layers → Takes (λ left. bottom_at files file size_of g.laycbd k (upper k, left)) (dis_item_6 g k) (λ left. (upper (k + 1), left))
  unfolding bottom_at dis_item_6
  bottom_takes k low =
      then_takes _ (layer_takes files file g h.size g.bottom h.bottom k low)
      (last_takes _ (layer_or_takes files file g h.size (is_nonzero (int_at g.laycbd k)) g.bed_bottom no_number h.bed_bottom k low (beds k low))
      (λ left. rw (one_more_layer g k g.bottom, one_more_layer g k g.bed_bottom) refl))

  bottoms_take : Takes (bottoms_of files file size_of g.laycbd g.layers) (each_layer g (dis_item_6 g)) (λ left. (record { layers = g.bottom; beds = g.bed_bottom }, left))
  unfolding bottoms_of
  bottoms_take =
      let none : 0 * layer_size g ≡ 0 = omega arith in
      rw (none, all_layers g g.bottom h.bottom.0, all_layers g g.bed_bottom h.bed_bottom.0) at
      (counted_take (bottom_at files file size_of g.laycbd) (dis_item_6 g) (λ k left. (upper k, left)) g.layers bottom_takes)

  -- items 3 to 6
  pub grid_takes : Takes (grid_of files file size_of g.laycbd) (dis_item_3 g ++ (dis_item_4 g ++ (dis_item_5 g ++ each_layer g (dis_item_6 g)))) (λ left. (g, left))
  unfolding grid_of dis_item_3 dis_item_4 dis_item_5
  grid_takes =
      then_takes _ (widths_take files file g.cols g.delr h.size.cols.0 h.delr) (then_takes _ (widths_take files file g.rows g.delc h.size.rows.0 h.delc)
      (then_takes _ (reals_take files file g h.size g.top h.top) (last_takes _ bottoms_take (λ left. refl))))
