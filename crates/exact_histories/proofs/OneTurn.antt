-- One step of one deck or of two: each choice of the step has a solution, from exact heads within the old ones, and one alone.
use Rattle.exact_histories.proofs.Common.{Limits, ◌≡◌, ◌<◌, ◌∙◌, [], ◌∷◌, ℕ, true, inl, inr, refl, sym, subst, arith, ℤ, List, Option, length, map, All, Fraction, Same, Same-sym, Same-trans}
use Rattle.exact_histories.proofs.Common.{FlowModel, TimeStep, Bound, share, heads_of, variable_heads, HeadsEnclose, AreSameHeads, IsBefore, problem_encloses, pair_encloses, IsPosed, IsStepBy}
use Rattle.exact_histories.proofs.Common.{Entries, cases_Bool, cell_count, cell_at, no_cell, HasSize, is_variable, is_constant, index_of, variable_cells, exact_step, PairKind, Solved, None, Some}
use Rattle.exact_histories.proofs.Common.{Decks, IsChoiceOf, Choice, SolvesChoiceAt, step_from, chosen_cells, lies_encloses, ExactCell, ExactLink, HasAtMostOne, steps_enclose, Edges, IsProblem}
use Rattle.exact_histories.proofs.Common.{EnclosesStep, problem_fits, IsCellBetween, IsStepBetween, none, are_linked, time_of}
use Rattle.deck_span.proofs.ThreeLists.{three_at, three_lengths}
use Rattle.model_types.proofs.Members.{All-In}
use Rattle.exact_solutions.proofs.HeldSteps.{solution_exists, solution_is_one, same_share}
use Rattle.problem_builder.proofs.{Members.variable_active, Members.variable-In, Steps.cells_of, Problems.is_problem}
use Rattle.step_chain.proofs.{Limits.cut_by, Limits.held_by, Assembled.active_constant, Assembled.index_below, Assembled.count_of, Assembled.number_of}
use Rattle.certificate_check.proofs.Cut.{words_enclose}
use Rattle.problem_builder.specs.{ProblemFits as ModelProblemFits}
use Rattle.exact_histories.proofs.{GridVectors.HasVector, GridVectors.LinkedWithin, GridVectors.vector_exists, SameSteps.balances_same, Ceilings.held_above}

-- a problem of a model meets the conditions on problems
model_fits : ModelProblemFits
model_fits m s at old p valid time grid h =
    is_problem m s at old valid (time_of m at valid time) grid p (cells_of m s at old p h)

-- the links of a choice lead to cells of its step
no_cell_between : IsCellBetween no_cell no_cell no_cell
no_cell_between = record { id = refl; flows = none; links = refl; fixed = none; rivers = none; drains = none; evaps = none }

linked_between : (e f g : List ExactCell) → IsStepBetween e f g → LinkedWithin e → LinkedWithin f
linked_between e f g h linked c i =
    let count : length f ≡ length e = (three_lengths IsCellBetween e f g h).0 in
    let links : (cell_at f c).links ≡ (cell_at e c).links = (three_at IsCellBetween e f g c no_cell no_cell no_cell h no_cell_between).links in
    let P : ℕ → Type 0 = λ n. All (λ (x : ExactLink). x.cell < n) (cell_at f c).links in
    let Q : List ExactLink → Type 0 = All (λ (x : ExactLink). x.cell < length e) in
    subst P (sym count) (subst Q (sym links) (linked c (omega (arith, i, count))))

linked : (a : FlowModel) (o : Option FlowModel) (at : TimeStep) (x : Choice) → IsChoiceOf a o at x → HasSize a.grid → (before : ℕ → Fraction) → LinkedWithin (step_from before x.cells)
linked a None at x h size before = subst LinkedWithin (sym (h.cells before)) (are_linked a at.period at.step before size).range
linked a (Some b) at x h size before =
    linked_between (exact_step a at.period at.step before) (step_from before x.cells) (exact_step b at.period at.step before) (h.cells before) (are_linked a at.period at.step before size).range

-- the numbers of a choice's cells don't depend on the heads before
ids_from : (before : ℕ → Fraction) (cs : List ExactCell) → map (λ z. z.id) cs ≡ map (λ z. z.id) (step_from before cs)
ids_from before [] = refl
ids_from before (c ∷ cs) = λ i. c.id ∷ ids_from before cs i

module _ (limits : Limits) (ds : Decks) (s : ℕ) (at : TimeStep) (old : List Bound) where
  -- each solution of a choice, from exact heads within the old ones, lands within the new ones
  abbrev pub Lands : List Bound → Type 0
  Lands new =
      (x : Choice) → IsChoiceOf ds.first ds.second at x → (before : ℕ → Fraction) (d : ℕ) (X : ℕ → ℤ) → HeadsEnclose ds.first old before → 0 < d →
      SolvesChoiceAt ds.first at x before d X → HeadsEnclose ds.first new (heads_of d X)

  pub record IsTurn (new : List Bound) : Type 0 where
    pub start : IsBefore ds at old
    pub problem : List Entries
    pub barrier : Edges
    pub posed : IsPosed limits ds s at old problem barrier
    pub lands : Lands new

  pub turn_of : (kind : PairKind) (x : Solved) → IsBefore ds at old → IsStepBy limits ds s at old kind x → IsTurn x.heads
  turn_of kind x start step = record { start = start; problem = x.problem; barrier = step.barrier; posed = step.posed; lands = lands }
    where
      lands : Lands x.heads
      lands y chosen before d X olds some solves =
          let move = steps_enclose (problem_fits model_fits) problem_encloses pair_encloses words_enclose limits ds s at old kind x start step y chosen before d X
          (record { within = olds; some = some; solves = solves }) in
          lies_encloses ds.first x.heads d X some move.heads

-- a turn's problem
module _ (limits : Limits) (ds : Decks) (s : ℕ) (at : TimeStep) (old new : List Bound) (turn : IsTurn limits ds s at old new) (x : Choice)
    (chosen : IsChoiceOf ds.first ds.second at x) (before : ℕ → Fraction) (olds : HeadsEnclose ds.first old before) where
  abbrev step : List ExactCell
  step = step_from before x.cells

  ids : map (λ z. z.id) step ≡ variable_cells ds.first at.period
  ids = chosen_cells ds at x chosen before

  fits : IsProblem turn.problem
  fits = problem_fits model_fits ds s at old turn.problem turn.start turn.posed.problem

  encloses : EnclosesStep s turn.problem step
  encloses = problem_encloses ds s at old turn.problem turn.start turn.posed.problem x chosen before olds

  pub has_vector : HasVector ds.first at x before
  has_vector =
      let (d, X, some, solves) = solution_exists turn.problem fits (held_by limits turn.problem turn.barrier turn.posed.barrier)
      (held_above turn.problem turn.barrier.ceiling (cut_by limits turn.problem turn.barrier turn.posed.barrier).ceilings) s step encloses in
      vector_exists ds.first at x before d X ids (linked ds.first ds.second at x chosen turn.start.decks.first.grid.size before) some solves

  has_at_most_one : HasAtMostOne step
  has_at_most_one = solution_is_one turn.problem fits (held_by limits turn.problem turn.barrier turn.posed.barrier) s step encloses

  -- two solutions, from heads before that are the same numbers
  module _ (other : ℕ → Fraction) (same : AreSameHeads ds.first other before) (d e : ℕ) (X Y : ℕ → ℤ) (some_d : 0 < d) (some_e : 0 < e)
      (first : SolvesChoiceAt ds.first at x before d X) (second : SolvesChoiceAt ds.first at x other e Y) where
    all_same : All (λ c. Same (other c) (before c)) (map (λ z. z.id) x.cells)
    all_same = subst (λ (cs : List ℕ). All (λ c. Same (other c) (before c)) cs) (sym (ids_from before x.cells ∙ ids))
        (All-In (λ c. Same (other c) (before c)) (variable_cells ds.first at.period) (λ c in_cells.
        let (v, lt) = variable-In ds.first at.period (cell_count ds.first.grid) c in_cells in
        same c (record { within = lt; active = variable_active ds.first at.period c v })))

    variable_same : (c : ℕ) → c < cell_count ds.first.grid → is_variable ds.first at.period c ≡ true → Same (share d (X c)) (share e (Y c))
    variable_same c lt v =
        let turned = balances_same x.cells other before all_same e e Y Y some_e some_e (λ z. refl) second.balances in
        let inside : index_of ds.first at.period c < length step = omega (arith, count_of ds.first at.period step ids, index_below ds.first at.period c v lt) in
        let one = has_at_most_one d e (variable_heads step X) (variable_heads step Y) some_d some_e first.balances turned (index_of ds.first at.period c) inside in
        subst (λ (i : ℕ). Same (share d (X i)) (share e (Y i))) (number_of ds.first at.period c step ids v lt) one

    constant_same : (c : ℕ) → c < cell_count ds.first.grid → is_constant ds.first at.period c ≡ true → Same (share d (X c)) (share e (Y c))
    constant_same c lt k = Same-trans (Same-sym (same_share d _ (X c) some_d (first.constant c lt k))) (same_share e _ (Y c) some_e (second.constant c lt k))

    pub heads_same : AreSameHeads ds.first (heads_of d X) (heads_of e Y)
    heads_same c act = elim (cases_Bool (is_variable ds.first at.period c)) [
      | inl v ↦ variable_same c act.within v
      | inr v ↦ constant_same c act.within (active_constant ds.first at.period c act.active v)
    ]
