-- The file of BAS6 is read as written.
use Rattle.model_text.proofs.Common.{◌≡◌, ℕ, zero, suc, ◌+◌, ◌*◌, ◌<◌, List, [], ◌∷◌, ◌++◌, length, drop, Result, Ok, refl, sym, arith, false, codes, flat_map, range_with_len, drop_all, drop-drop}
use Rattle.model_text.proofs.Common.{take-append-drop, FileSet, Refusal, Left, is_comment, appended_readings, real, layer_array, real_layer, integer_layer, layers, Grid, FlowModel, layer_size}
use Rattle.model_text.proofs.Common.{cell_count, IsShort, Line, line_text, text, Takes, line_by_test, arrays_read_back, layer_values, each_layer, IsDiscretized, IsBasic, bas_item_1, bas_item_2}
use Rattle.model_text.proofs.Common.{bas_item_3, bas_item_4, bas_lines, head_item, basics_of, with_basics, bas_of, takes_none, then_takes, last_takes, line_takes}
use Rattle.array_reader.specs.{whole}
use Rattle.model_text.specs.{real_layer as real_layer_lines, integer_layer as integer_layer_lines}
use Rattle.bas_package.specs.{option_line}
use Rattle.model_text.proofs.{DisTexts.file_takes, DisTexts.line_is_item, GridTexts.layer_length, GridTexts.layer_has, GridTexts.layer_takes, FrameTexts.zero_number_item}

-- Readings that each take a layer's lines take those of all layers.
module _ {X : Type 0} (read : Left → Result (List X × Left) Refusal) (g : Grid) (lines : ℕ → List Line) (xs : List X) (whole_list : length xs ≡ cell_count g)
    (each : (k : ℕ) → k < g.layers → Takes read (lines k) (λ left. (layer_values g k xs, left))) where
  from_layer : (k : ℕ) → layer_values g k xs ++ drop ((k + 1) * layer_size g) xs ≡ drop (k * layer_size g) xs
  from_layer k =
      let e : (k + 1) * layer_size g ≡ k * layer_size g + layer_size g = omega arith in
      let back : drop ((k + 1) * layer_size g) xs ≡ drop (layer_size g) (drop (k * layer_size g) xs) = rw e (sym (drop-drop (layer_size g) (k * layer_size g) xs)) in
      rw back (take-append-drop (layer_size g) (drop (k * layer_size g) xs))

  layers_from : (count k : ℕ) → k + count ≡ g.layers → Takes (appended_readings count read) (flat_map lines (range_with_len k count)) (λ left. (drop (k * layer_size g) xs, left))
  unfolding appended_readings
  layers_from zero k e =
      let same : k ≡ g.layers = omega arith in
      let none : drop (k * layer_size g) xs ≡ [] = drop_all (k * layer_size g) xs (rw same (omega arith)) in
      rw none takes_none
  layers_from (suc count) k e = then_takes _ (each k (omega arith)) (last_takes _ (layers_from count (k + 1) (omega arith)) (λ left. rw (from_layer k) refl))

  pub layers_take : Takes (appended_readings g.layers read) (each_layer g lines) (λ left. (xs, left))
  layers_take = let none : 0 * layer_size g ≡ 0 = omega arith in rw none at (layers_from g.layers 0 (omega arith))

module _ (files : FileSet) (file : List ℕ) (m : FlowModel) (d : IsDiscretized m) (b : IsBasic m) where
  integer_layer_takes : (k : ℕ) → k < m.grid.layers → Takes (integer_layer files file m.grid.rows m.grid.cols) (integer_layer_lines m.grid m.ibound k) (λ left. (layer_values m.grid k m.ibound, left))
  integer_layer_takes k low =
      arrays_read_back.integer_layers files file m.grid.rows m.grid.cols (layer_values m.grid k m.ibound) d.grid.size.cols.0
      (layer_length m.grid k m.ibound low b.ibound.0) (layer_has m.grid (λ z. IsShort z) k m.ibound b.ibound.1)

  ibound_takes : Takes (layers whole files file m.grid.layers m.grid.rows m.grid.cols) (bas_item_2 m) (λ left. (m.ibound, left))
  unfolding layers bas_item_2 integer_layer
  ibound_takes = layers_take (layer_array whole files file m.grid.rows m.grid.cols) m.grid (integer_layer_lines m.grid m.ibound) m.ibound b.ibound.0 integer_layer_takes

  strt_takes : Takes (layers real files file m.grid.layers m.grid.rows m.grid.cols) (bas_item_4 m) (λ left. (m.strt, left))
  unfolding layers bas_item_4 real_layer
  strt_takes = layers_take (layer_array real files file m.grid.rows m.grid.cols) m.grid (real_layer_lines m.grid m.strt) m.strt b.strt.0 (layer_takes files file m.grid d.grid.size m.strt b.strt)

  options_take : Takes (option_line file) (bas_item_1 ∷ []) (λ left. (tt, left))
  unfolding option_line bas_item_1
  options_take = line_takes _ file (line_by_test bas_item_1 refl) (λ n e. rw e takes_none)

  head_takes : Takes (head_item file) (bas_item_3 ∷ []) (λ left. (tt, left))
  unfolding head_item bas_item_3
  head_takes = line_takes _ file (line_by_test bas_item_3 refl) (λ n e. rw (e, zero_number_item file n []) takes_none)

  options_are_item : is_comment (line_text bas_item_1) ≡ false
  unfolding bas_item_1
  options_are_item = line_is_item (codes "FREE") [] (omega arith) refl

  basics_read : basics_of files file (text (bas_lines m)) m.grid ≡ Ok (m.ibound, m.strt)
  unfolding basics_of bas_lines
  basics_read = file_takes _ options_are_item options_take (then_takes _ ibound_takes (then_takes _ head_takes (last_takes _ strt_takes (λ left. refl))))

  pub bas_reads : (begun : FlowModel) → begun.grid ≡ m.grid → bas_of files file (text (bas_lines m)) begun ≡ Ok (with_basics begun m.ibound m.strt)
  unfolding bas_of
  bas_reads begun same = rw (same, basics_read) refl
