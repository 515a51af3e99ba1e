-- A problem of decks has one cell for each variable cell of the first deck.
use Rattle.deck_problems.proofs.Common.{◌≡◌, ◌∙◌, ℕ, Option, Some, None, List, length, Bound, Entries, FlowModel, TimeStep, variable_cells, IsProblemOf, hull_count, Decks, IsProblemFor, IsProblemBy}
use Rattle.deck_problems.proofs.Common.{length-map, whole_cell, cells_of, ap, IsModel, IfSome, IsSecond, AreDecks}
use Rattle.deck_problems.proofs.OneProblem.{hull_parts}

model_count : (m : FlowModel) (s : ℕ) (at : TimeStep) (old : List Bound) (p : List Entries) → IsProblemOf m s at old p → length p ≡ length (variable_cells m at.period)
model_count m s at old p h = ap length (cells_of m s at old p h).each ∙ length-map (variable_cells m at.period) (whole_cell m s at old)

count_by : (a : FlowModel) (o : Option FlowModel) (s : ℕ) (at : TimeStep) (old : List Bound) (p : List Entries) → IsModel a → IfSome o (IsSecond a) →
    IsProblemBy a o s at old p → length p ≡ length (variable_cells a at.period)
count_by a None s at old p valid second h = model_count a s at old p h
count_by a (Some b) s at old p valid second h = let k = hull_parts a b s at old p valid second.alike h in hull_count k.first k.second p k.hull ∙ model_count a s at old k.first k.is_first

pub problem_count : (d : Decks) (s : ℕ) (at : TimeStep) (old : List Bound) (p : List Entries) → AreDecks d → IsProblemFor d s at old p → length p ≡ length (variable_cells d.first at.period)
problem_count d s at old p decks h = count_by d.first d.second s at old p decks.first decks.second h
