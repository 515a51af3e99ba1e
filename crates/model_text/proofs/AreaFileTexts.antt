-- The files of RCH and EVT are read as written.
use Rattle.model_text.proofs.Common.{◌≡◌, ℕ, ℤ, Bool, true, false, if◌then◌else◌, List, [], ◌∷◌, ◌++◌, length, All, Ok, refl, arith, codes, All-head, All-tail, Dec, FileSet, Grid, HasSize, is_int}
use Rattle.model_text.proofs.Common.{real_layer, area_at, array_or, arrays_of, nothing_yet, flags_of, is_option, IsReals, HasArrays, ArrayKind, with_area, contents, arrays_in, option_line, period_at}
use Rattle.model_text.proofs.Common.{periods_of, tested_area, unit_if, integer_word, Line, IsLine, text, real_array, Takes, line_by_test, HasPackage, with_areas, rch_item_2, rch_items, rch_lines}
use Rattle.model_text.proofs.Common.{evt_item_2, evt_items, evt_lines, flat_map, AllZip, FlowModel, Period, recharge_arrays, rch_of, evaporation_arrays, evt_of, takes_none, takes_where, then_takes}
use Rattle.model_text.proofs.Common.{last_takes, line_takes, Area}
use Rattle.model_text.proofs.{FrameTexts.zero_item, DisTexts.line_is_item, DisTexts.item_takes, DisTexts.file_takes, DisTexts.each_takes, GridTexts.reals_take, AreaTexts.flag_reads}
use Rattle.model_text.proofs.{AreaTexts.flag_if_reads, AreaTexts.option_reads, AreaTexts.option_is_short, AreaTexts.option_is_item, AreaTexts.option_is_line, AreaTexts.layers_lines}
use Rattle.model_text.proofs.{AreaTexts.layers_take}
use Rattle.model_types.specs.declared.period.Stresses.{Stresses}
use Rattle.period_arrays.specs.declared.area.InForce.{InForce}

-- each array is read anew
abbrev flags : Bool → Line
flags evaporates = if evaporates then codes "1" ∷ codes "1" ∷ codes "1" ∷ codes "1" ∷ [] else codes "1" ∷ codes "1" ∷ []

flags_are_line : (evaporates : Bool) → IsLine (flags evaporates)
flags_are_line true = line_by_test (flags true) refl
flags_are_line false = line_by_test (flags false) refl

flags_read : (file : List ℕ) (line : ℕ) (evaporates layered listed : Bool)
    → flags_of (record { evaporates = evaporates; layered = layered }) file line listed (flags evaporates) ≡ Ok (record { surface = evaporates; rate = true; depth = evaporates; layer = layered })
unfolding flags_of
flags_read file line true layered listed = rw (flag_reads file line listed, flag_reads file line listed, flag_reads file line listed, flag_if_reads file line layered listed) refl
flags_read file line false layered listed = rw (flag_reads file line listed, flag_if_reads file line layered listed) refl

unit_reads : (file : List ℕ) (line : ℕ) (evaporates : Bool) → unit_if evaporates file line (codes "0" ∷ []) ≡ Ok tt
unit_reads file line true = rw (zero_item file line []) refl
unit_reads file line false = refl

-- arrays in force that lack those which the file lacks
record Lacks (kind : ArrayKind) (option : ℤ) (last : InForce) : Type 0 where
  surfaces : kind.evaporates ≡ false → last.area.surfaces ≡ []
  depths : kind.evaporates ≡ false → last.area.depths ≡ []
  layers : is_int option 2 ≡ false → last.area.layers ≡ []

module _ (kind : ArrayKind) (files : FileSet) (file : List ℕ) (g : Grid) (size : HasSize g) (ibound : List ℤ) (option : ℤ) (good : is_option option ≡ true)
    (bare : (s : Stresses) → kind.evaporates ≡ false → ((kind.area s).surfaces ≡ []) × ((kind.area s).depths ≡ [])) where
  abbrev reals_if : Bool → List Dec → List Line
  reals_if present xs = if present then real_array g.rows g.cols xs else []

  abbrev array_lines : Area → List Line
  array_lines a = reals_if kind.evaporates a.surfaces ++ (real_array g.rows g.cols a.rates ++ (reals_if kind.evaporates a.depths ++ layers_lines g option a.layers))

  abbrev items : Period → List Line
  items p = flags kind.evaporates ∷ array_lines (kind.area p.stresses)

  abbrev now : Period → InForce
  now p = record { listed = true; area = kind.area p.stresses }

  abbrev CanWrite : Period → Type 0
  CanWrite p = HasArrays kind g ibound option (kind.area p.stresses)

  lacks_now : (p : Period) → CanWrite p → Lacks kind option (now p)
  lacks_now p can = record { surfaces = λ e. (bare p.stresses e).0; depths = λ e. (bare p.stresses e).1; layers = can.is.layers.none }

  reals_if_take : (present : Bool) (xs : List Dec) → (present ≡ false → xs ≡ []) → (present ≡ true → IsReals g xs) → (last : List Dec) → (present ≡ false → last ≡ [])
      → Takes (array_or (real_layer files file g.rows g.cols) present last) (reals_if present xs) (λ left. (xs, left))
  reals_if_take present xs empty whole last none = takes_where present (λ e. reals_take files file g size xs (whole e)) (λ e. rw (none e, empty e) takes_none)

  module _ (before p : Period) (last : InForce) (h : CanWrite p) (lacks : Lacks kind option last) where
    abbrev a : Area
    a = kind.area p.stresses

    arrays_take : Takes (arrays_of files file g (record { surface = kind.evaporates; rate = true; depth = kind.evaporates; layer = is_int option 2 }) last.area) (array_lines a) (λ left. (a, left))
    unfolding arrays_of
    arrays_take =
        then_takes _ (reals_if_take kind.evaporates a.surfaces (λ e. (bare p.stresses e).0) h.is.surfaces last.area.surfaces lacks.surfaces)
        (then_takes _ (reals_take files file g size a.rates h.is.rates)
        (then_takes _ (reals_if_take kind.evaporates a.depths (λ e. (bare p.stresses e).1) h.is.depths last.area.depths lacks.depths)
        (last_takes _ (layers_take files file g size option a.layers h.is.layers last.area.layers lacks.layers) (λ left. refl))))

    area_takes : Takes (λ left. area_at (contents kind option) files file g (last, left)) (items p) (λ left. (a, (now p, left)))
    unfolding area_at
    area_takes = line_takes _ file (flags_are_line kind.evaporates) (λ n e. rw (e, flags_read file n kind.evaporates (is_int option 2) last.listed) (last_takes _ arrays_take (λ left. refl)))

    tested_takes : Takes (λ left. tested_area kind files file g ibound option (last, left)) (items p) (λ left. (a, (now p, left)))
    unfolding tested_area
    tested_takes = last_takes _ area_takes (λ left. rw (h.passed file) refl)

    period_takes : Takes (λ left. period_at kind files file g ibound option before (last, left)) (items p) (λ left. (with_area kind before a, (now p, left)))
    unfolding period_at
    period_takes = last_takes _ tested_takes (λ left. refl)

  zipped : (before ps : List Period) → length before ≡ length ps → All (λ p. CanWrite p) ps → AllZip (λ b p. CanWrite p) before ps
  zipped [] [] e can = tt
  zipped [] (p ∷ ps) e can = absurd (omega arith)
  zipped (b ∷ before) [] e can = absurd (omega arith)
  zipped (b ∷ before) (p ∷ ps) e can = (All-head (λ q. CanWrite q) p ps can, zipped before ps (omega arith) (All-tail (λ q. CanWrite q) p ps can))

  periods_take : (before ps : List Period) → length before ≡ length ps → All (λ p. CanWrite p) ps →
      Takes (periods_of kind files file g ibound option before) (flat_map items ps) (λ left. with_areas kind before ps)
  unfolding periods_of
  periods_take before ps e can =
      last_takes _ (each_takes (period_at kind files file g ibound option) items (λ b p. with_area kind b (kind.area p.stresses)) (λ s p. now p) (λ b p. CanWrite p) (Lacks kind option)
      (λ b p s h lacks. period_takes b p s h lacks) (λ b p s h. lacks_now p h) (with_areas kind) refl (λ b p bs ps. refl) before ps (zipped before ps e can) nothing_yet
      (record { surfaces = λ f. refl; depths = λ f. refl; layers = λ f. refl }))
      (λ left. refl)

  abbrev head : Line
  head = integer_word option ∷ codes "0" ∷ []

  head_takes : Takes (option_line kind file) (head ∷ []) (λ left. (option, left))
  unfolding option_line
  head_takes =
      item_takes _ file (option_is_line option good) (option_is_item option good).2
      (λ n e. rw (e, option_reads file n option (codes "0" ∷ []) (option_is_short option good) good, unit_reads file n kind.evaporates) takes_none)

  arrays_read : (before ps : List Period) → length before ≡ length ps → All (λ p. CanWrite p) ps
      → arrays_in kind files file (text (head ∷ flat_map items ps)) g ibound before ≡ Ok (record { option = option; periods = with_areas kind before ps })
  unfolding arrays_in
  arrays_read before ps e can =
      let k = option_is_item option good in
      file_takes _ (line_is_item (integer_word option) (codes "0" ∷ []) k.0 k.1) head_takes (last_takes _ (periods_take before ps e can) (λ left. refl))

module _ (files : FileSet) (file : List ℕ) (m : FlowModel) (size : HasSize m.grid) where
  pub rch_reads : HasPackage recharge_arrays m.nrchop m → (before : FlowModel) → before.grid ≡ m.grid → length before.periods ≡ length m.periods
      → rch_of files file (text (rch_lines m)) before ≡ Ok (record before { nrchop = m.nrchop; periods = with_areas recharge_arrays before.periods m.periods })
  unfolding rch_of rch_lines rch_item_2 rch_items
  rch_reads h before same e =
      rw (
        same,
        arrays_read recharge_arrays files file m.grid size before.ibound m.nrchop h.active (λ s f. (refl, refl)) before.periods m.periods e
            (λ k d lt. let a = h.arrays k d lt in record { is = a.is; passed = λ other. refl }),
      ) refl

  pub evt_reads : HasPackage evaporation_arrays m.nevtop m → (before : FlowModel) → before.grid ≡ m.grid → before.ibound ≡ m.ibound → length before.periods ≡ length m.periods
      → evt_of files file (text (evt_lines m)) before ≡ Ok (record before { nevtop = m.nevtop; periods = with_areas evaporation_arrays before.periods m.periods })
  unfolding evt_of evt_lines evt_item_2 evt_items
  evt_reads h before same cells e =
      rw (same, cells, arrays_read evaporation_arrays files file m.grid size m.ibound m.nevtop h.active (λ s f. absurd (let clash : true ≡ false = f in cc)) before.periods m.periods e h.arrays) refl
