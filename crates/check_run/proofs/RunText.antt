-- The text of a run's listing is that of its steps, and is read as these.
use Rattle.check_run.proofs.Common.{Limits, Option, ◌≡◌, ℕ, List, [], ◌∷◌, ◌++◌, map, get_or, Contains, Ok, refl, sym, ap, ◌∙◌, subst, arith, Bool, zero, suc, ◌+◌, ◌<◌, true, length, concat}
use Rattle.check_run.proofs.Common.{append_assoc, append-nil, get_or_default, get_or-map, length-map, Bound, FlowModel, TimeStep, times, IsModel, cell_count, is_variable, index_of, variable_cells}
use Rattle.check_run.proofs.Common.{HeadsFit, bound_at, pairs_in, pairs_small, all_step_lines, ended_line, first_line, first_text, step_lines, step_text, IsTime, IsWritable, ListingsAreReadAgain}
use Rattle.check_run.proofs.Common.{all_lines, listing_at, AreCellBounds, IsListedStep, Task, Step, Whole, AllSteps, IsStep, deck_task, listing, text_of, Steps, IsReadable, RunIsReadAgain, as_listed}
use Rattle.check_run.proofs.Common.{variable_bounds, Decks, StartHeadsFit, time_of, Entries, entries_at, no_entries, no_bound, IsHead, AreWords, passing, at_rank, is_at, below_is, index_is}
use Rattle.check_run.proofs.Common.{AreGridHeads, index_below, ListedStep}
use Rattle.listing_run.specs.{is_between}
use Rattle.listing_io.specs.{end_line as last_row, listing as rows_of, text_of as text}
use Rattle.std.proofs.lemmas.List.Concat.{flat_map-append}
use Rattle.run_puts.specs.{end_line}
use Rattle.check_run.proofs.RunListed.{are_listed}

module _ (limits : Limits) (ds : Decks) (s : ℕ) (zones : Option (List ℕ)) (rounds : ℕ) (quick : Bool) where
  abbrev task : Task
  task = deck_task limits ds s zones rounds quick

  -- the lines of a step, at its time
  step_rows : (at : TimeStep) (old : List Bound) (v : Step) → IsStep task at old v → text_of task v ≡ text (step_lines ds.first s at v.heads v.budget v.zones)
  unfolding step_text
  step_rows at old v is =
      let T : TimeStep → List ℕ = λ t. text (step_lines ds.first s t v.heads v.budget v.zones) in
      ap T is.time

  rows_text : (old : List Bound) (rest : List TimeStep) (values : List Step) → Steps task old rest values Whole →
      concat (map (text_of task) values ++ (end_line ∷ [])) ≡ text (all_step_lines ds.first s rest (map as_listed values) ++ (last_row ∷ []))
  unfolding all_step_lines
  rows_text old [] [] h = refl
  rows_text old [] (v ∷ values) h = absurd h
  rows_text old (at ∷ rest) [] h = absurd h
  rows_text old (at ∷ rest) (v ∷ values) (is, h) =
      let here = step_lines ds.first s at v.heads v.budget v.zones in
      let more = all_step_lines ds.first s rest (map as_listed values) in
      ap (λ (t : List ℕ). text_of task v ++ t) (rows_text v.heads rest values h)
      ∙ ap (λ (t : List ℕ). t ++ text (more ++ (last_row ∷ []))) (step_rows at old v is)
      ∙ sym (flat_map-append ended_line here (more ++ (last_row ∷ [])))
      ∙ ap text (sym (append_assoc here more (last_row ∷ [])))

  whole_text : (values : List Step) → AllSteps task values Whole → concat (listing task values end_line) ≡ text (rows_of (is_between task) ds.first s (map as_listed values))
  unfolding first_text rows_of
  whole_text values h =
      let others = concat (map (text_of task) values ++ (end_line ∷ [])) in
      ap (λ (t : List ℕ). t ++ others) (append-nil (ended_line (first_line (is_between task) ds.first s)))
      ∙ ap (λ (t : List ℕ). ended_line (first_line (is_between task) ds.first s) ++ t) (rows_text h.start (times ds.first) values h.steps)

is_time : (m : FlowModel) (at : TimeStep) → IsModel m → Contains (times m) at → IsTime at
is_time m at model there =
    let h = time_of m at model there in
    let few = h.valid.times.nstp.1 in
    let last = h.period.1 in
    let step = h.step.1 in
    let periods = model.few in
    record { period = omega (arith, last, periods); step = omega (arith, step, few) }

writable : (ds : Decks) (s : ℕ) (zones : Option (List ℕ)) → IsReadable ds s zones → IsWritable ds.first s
writable ds s zones h = record {
  size = h.decks.first.grid.size;
  digits = h.digits;
  unit = h.unit;
  times = λ i d lt. is_time ds.first (get_or (times ds.first) i d) h.decks.first (i, lt, get_or_default (times ds.first) i _ d lt);
}

pub run_read : HeadsFit → StartHeadsFit → ListingsAreReadAgain → RunIsReadAgain
run_read fits start_fits again limits ds s zones rounds quick values readable h =
    let pairs = pairs_in ds.first zones in
    let P : List ℕ → Type 0 = λ bytes. listing_at (is_between (deck_task limits ds s zones rounds quick)) ds.first s pairs (all_lines bytes) ≡ Ok (map as_listed values) in
    subst P (sym (whole_text limits ds s zones rounds quick values h))
    (again (is_between (deck_task limits ds s zones rounds quick)) ds.first s pairs (map as_listed values) (writable ds s zones readable) (λ p.
    pairs_small ds.first zones p readable.numbers) (are_listed fits limits ds s zones rounds quick readable.decks readable.numbers start_fits values h))

-- The listed bounds of a problem's cells, and of all cells of the grid.
abbrev AreHeads : Bound → Type 0
AreHeads b = IsHead b.low × IsHead b.high

-- A listed step has heads of all cells, in range.

pub in_range : (m : FlowModel) (c : ℕ) (bs : List Bound) → AreCellBounds m c bs → (k : ℕ) (d : Bound) → k < length bs → AreHeads (get_or bs k d)
in_range m c [] h k d lt = absurd (omega (arith, lt))
in_range m c (b ∷ bs) h zero d lt = (h.0.low, h.0.high)
in_range m c (b ∷ bs) h (suc k) d lt = in_range m (c + 1) bs h.1 k d (omega (arith, lt))

pub grid_of : (m : FlowModel) (w : ListedStep) → IsListedStep m w → AreGridHeads m w.heads
grid_of m w h = record { whole = h.whole; range = in_range m 0 w.heads h.heads }

-- The cells of a problem.

mapped : (heads : List Bound) (p : List Entries) → map (λ (e : Entries). bound_at heads e.id) p ≡ map (bound_at heads) (map (λ (e : Entries). e.id) p)
mapped heads [] = refl
mapped heads (e ∷ p) = ap (λ bs. bound_at heads e.id ∷ bs) (mapped heads p)

module _ (ds : Decks) (at : TimeStep) (heads : List Bound) (p : List Entries) (cells : map (λ (e : Entries). e.id) p ≡ variable_cells ds.first at.period) where
  abbrev cell_bounds : List Bound
  cell_bounds = map (λ (e : Entries). bound_at heads e.id) p

  pub bounds_are : cell_bounds ≡ variable_bounds ds at heads
  bounds_are = mapped heads p ∙ ap (map (bound_at heads)) cells

  pub id_is : (k : ℕ) → k < length p → (entries_at p k).id ≡ get_or (variable_cells ds.first at.period) k 0
  id_is k lt = sym (get_or-map (λ (e : Entries). e.id) p k no_entries 0 lt) ∙ ap (λ cs. get_or cs k 0) cells

  pub count_is : length p ≡ length (variable_cells ds.first at.period)
  count_is = sym (length-map p (λ (e : Entries). e.id)) ∙ ap length cells

  pub id_within : (k : ℕ) → k < length p → (entries_at p k).id < cell_count ds.first.grid
  id_within k lt =
      let all : variable_cells ds.first at.period ≡ passing (is_variable ds.first at.period) (cell_count ds.first.grid) = below_is ds.first at.period (cell_count ds.first.grid) in
      let place = is_at (is_variable ds.first at.period) (cell_count ds.first.grid) k (omega (arith, lt, count_is, ap length all)) in
      let is : (entries_at p k).id ≡ get_or (passing (is_variable ds.first at.period) (cell_count ds.first.grid)) k 0 = id_is k lt ∙ ap (λ cs. get_or cs k 0) all in
      omega (arith, is, place.within)

  module _ (grid : AreGridHeads ds.first heads) where
    bound_fits : (k : ℕ) → k < length p → AreHeads (bound_at cell_bounds k)
    bound_fits k lt =
        let within : (entries_at p k).id < length heads = omega (arith, id_within k lt, grid.whole) in
        subst AreHeads (sym (get_or-map (λ (e : Entries). bound_at heads e.id) p k no_entries no_bound lt)) (grid.range (entries_at p k).id no_bound within)

    pub are_words : AreWords p cell_bounds
    are_words = record {
      whole = length-map p (λ (e : Entries). bound_at heads e.id);
      low = λ k lt. (bound_fits k lt).0;
      high = λ k lt. (bound_fits k lt).1;
    }

-- The bound of a variable cell's index is the cell's.
pub variable_listed : (ds : Decks) (at : TimeStep) (heads : List Bound) (c : ℕ) → is_variable ds.first at.period c ≡ true → c < cell_count ds.first.grid →
    bound_at (variable_bounds ds at heads) (index_of ds.first at.period c) ≡ bound_at heads c
variable_listed ds at heads c v lt =
    get_or-map (bound_at heads) (variable_cells ds.first at.period) (index_of ds.first at.period c) 0 no_bound (index_below ds.first at.period c v lt)
    ∙ ap (bound_at heads) (
    ap (λ cs. get_or cs (index_of ds.first at.period c) 0) (below_is ds.first at.period (cell_count ds.first.grid))
    ∙ ap (λ k. get_or (passing (is_variable ds.first at.period) (cell_count ds.first.grid)) k 0) (index_is ds.first at.period c)
    ∙ at_rank (is_variable ds.first at.period) (cell_count ds.first.grid) c v lt
    )
