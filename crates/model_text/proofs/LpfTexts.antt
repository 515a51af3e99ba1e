-- The file of LPF is read as written.
use Rattle.model_text.proofs.Common.{◌≡◌, ℕ, ◌+◌, ◌*◌, ◌<◌, Bool, true, false, not, ◌||◌, List, [], ◌∷◌, length, map, take, Ok, refl, sym, ap, ◌∙◌, arith, codes, take_all, FileSet, is_comment}
use Rattle.model_text.proofs.Common.{FlowModel, Period, layer_size, int_at, is_nonzero, dec_at, no_number, without_stresses, is_transient, with_properties, contents_of, lpf_of, layer_at, layers_of}
use Rattle.model_text.proofs.Common.{storage_layer, properties_of, nth_layer, line_text, text, Takes, each_layer, storage_option, lpf_item_1, lpf_arrays, lpf_lines, IsDiscretized, HasFlow}
use Rattle.model_text.proofs.Common.{layer_values, if◌then◌else◌, replicate, get_or-replicate, nil_from_length, Dec, takes_none, takes_where, then_takes, drop_all, last_takes, counted_take}
use Rattle.model_text.specs.{real_layer}
use Rattle.model_text.proofs.{GridTexts.one_more_layer, GridTexts.all_layers, GridTexts.layer_takes, GridTexts.layer_or_takes, DisTexts.line_is_item, DisTexts.file_takes, SettingTexts.settings_take}
use Rattle.model_text.proofs.{SettingTexts.option_takes, SettingTexts.minus_one}
use Rattle.lpf_package.specs.declared.layer.Properties.{Properties}

-- LPF items 10 to 15 of a layer are read as written.
module _ (files : FileSet) (file : List ℕ) (m : FlowModel) (d : IsDiscretized m) (f : HasFlow m) where
  abbrev pub transient : Bool
  transient = is_transient m.periods

  abbrev pub chani : List Dec
  chani = replicate m.grid.layers minus_one

  no_storage : transient ≡ false → m.ss ≡ []
  no_storage e = nil_from_length m.ss (rw e at f.ss.0)

  storage_takes : (k : ℕ) → k < m.grid.layers →
      Takes (storage_layer files file (nth_layer m.grid chani transient k)) (if transient then real_layer m.grid m.ss k else []) (λ left.
      (layer_values m.grid k m.ss, left))
  unfolding storage_layer
  storage_takes k low =
      takes_where transient (λ e. layer_takes files file m.grid d.grid.size m.ss (rw e at f.ss.0, f.ss.1) k low)
      (λ e. rw (no_storage e, drop_all {X = Dec} (k * layer_size m.grid) [] (omega arith), take_all {A = Dec} (layer_size m.grid) [] (omega arith)) takes_none)

  -- what is made of each array of properties
  abbrev made : (List Dec → List Dec) → Properties
  made f = record { hk = f m.hk; hani = f m.hani; vka = f m.vka; ss = f m.ss; vkcb = f m.vkcb }

  -- the properties of the layers above layer k
  abbrev above : ℕ → Properties
  above k = made (λ xs. take (k * layer_size m.grid) xs)

  arrays_take : (k : ℕ) → k < m.grid.layers → Takes (properties_of files file (nth_layer m.grid chani transient k)) (lpf_arrays m k) (λ left. (made (layer_values m.grid k), left))
  unfolding properties_of lpf_arrays
  arrays_take k low =
      let g = m.grid in
      let size = d.grid.size in
      let none : dec_at chani k ≡ minus_one = get_or-replicate m.grid.layers k minus_one no_number low in
      let ss = rw none at (storage_takes k low) in
      rw none (then_takes _ (layer_takes files file g size m.hk f.hk k low) (then_takes _ (layer_or_takes files file g size true m.hani minus_one f.hani k low (λ e. absurd (cc)))
      (then_takes _ (layer_takes files file g size m.vka f.vka k low) (then_takes _ ss
      (last_takes _ (layer_or_takes files file g size (is_nonzero (int_at g.laycbd k)) m.vkcb no_number f.vkcb k low (f.beds k low)) (λ left. refl))))))

  layer_step : (k : ℕ) → k < m.grid.layers → Takes (λ left. layer_at files file m.grid chani transient k (above k, left)) (lpf_arrays m k) (λ left. (above (k + 1), left))
  unfolding layer_at
  layer_step k low =
      let g = m.grid in
      last_takes _ (arrays_take k low) (λ left. rw (one_more_layer g k m.hk, one_more_layer g k m.hani, one_more_layer g k m.vka, one_more_layer g k m.ss, one_more_layer g k m.vkcb) refl)

  all_storage : (b : Bool) → transient ≡ b → take (m.grid.layers * layer_size m.grid) m.ss ≡ m.ss
  all_storage true e = all_layers m.grid m.ss (rw e at f.ss.0)
  all_storage false e = take_all (m.grid.layers * layer_size m.grid) m.ss (let none : length m.ss ≡ 0 = rw e at f.ss.0 in omega arith)

  layers_take : Takes (layers_of files file m.grid chani transient m.grid.layers) (each_layer m.grid (lpf_arrays m)) (λ left. (made (λ xs. xs), left))
  unfolding layers_of
  layers_take =
      let g = m.grid in
      let none : 0 * layer_size g ≡ 0 = omega arith in
      rw (none, all_layers g m.hk f.hk.0, all_layers g m.hani f.hani.0, all_layers g m.vka f.vka.0, all_storage transient refl, all_layers g m.vkcb f.vkcb.0) at
      (counted_take (layer_at files file g chani transient) (lpf_arrays m) (λ k left. (above k, left)) g.layers layer_step)

  option_is_item : is_comment (line_text (lpf_item_1 m)) ≡ false
  unfolding lpf_item_1
  option_is_item = line_is_item (codes "0") (codes "0" ∷ codes "0" ∷ storage_option m.coefficient) (omega arith) refl

  pub contents_read : contents_of files file (text (lpf_lines m)) m.grid transient
      ≡ Ok (record { coefficient = m.coefficient; layvka = m.layvka; properties = record { hk = m.hk; hani = m.hani; vka = m.vka; ss = m.ss; vkcb = m.vkcb } })
  unfolding contents_of lpf_lines
  contents_read = file_takes _ option_is_item (option_takes file m) (then_takes _ (settings_take file m d f) (last_takes _ layers_take (λ left. refl)))

-- stresses don't matter to whether a period is transient
bare_transient : (ps : List Period) → is_transient (map without_stresses ps) ≡ is_transient ps
bare_transient [] = refl
bare_transient (p ∷ ps) = ap (λ (b : Bool). not p.steady || b) (bare_transient ps)

same_transient : (ps qs : List Period) → map without_stresses ps ≡ map without_stresses qs → is_transient ps ≡ is_transient qs
same_transient ps qs e = sym (bare_transient ps) ∙ (ap (λ (xs : List Period). is_transient xs) e ∙ bare_transient qs)

module _ (files : FileSet) (file : List ℕ) (m : FlowModel) (d : IsDiscretized m) (f : HasFlow m) where
  pub lpf_reads : (basic : FlowModel) → basic.grid ≡ m.grid → map without_stresses basic.periods ≡ map without_stresses m.periods
      → lpf_of files file (text (lpf_lines m)) basic
      ≡ Ok (with_properties basic m.coefficient m.layvka (record { hk = m.hk; hani = m.hani; vka = m.vka; ss = m.ss; vkcb = m.vkcb }))
  unfolding lpf_of
  lpf_reads basic same times = rw (same, same_transient basic.periods m.periods times, contents_read files file m d f) refl
