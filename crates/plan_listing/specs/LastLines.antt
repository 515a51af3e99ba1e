-- The last lines of a plan's run or check that name a part of a step, or a place in it.
use Rattle.std.specs.Prelude.{ℕ, List, [], ◌∷◌, ◌++◌, codes}
use Rattle.step_problem.specs.{declared.place.NoBound.NoBound, side_name, term_name}
use Rattle.model_types.specs.{declared.grid.Grid.Grid, declared.time_steps.TimeStep.TimeStep, place}
use Rattle.listing_io.specs.{declared.pair_lines.CellWord.CellWord, cell_word, ended_line, numbers_text, time_text}
use Rattle.listing_io.specs.declared.pair_lines.CellWord.TheVariants as word
unfoldable use Rattle.listing_io.specs.{no_bound_text}
use Rattle.plan_chain.specs.declared.step.PlanPart.{PlanPart}
use Rattle.plan_chain.specs.declared.step.PlanPart.TheVariants as part
use Rattle.plan_listing.specs.declared.last_lines.PlanPlace.{PlanPlace}
use Rattle.plan_listing.specs.declared.last_lines.PlanPlace.TheVariants as places

-- the word after the line of a run that ends at a part
abbrev pub part_word : PlanPart → List ℕ
part_word part.Base = []
part_word part.Planned = codes " PLAN"
part_word part.Differences = codes " DRAWDOWN"

-- a part has no bounds in a step
unfoldable pub plan_no_bound_line : Grid → TimeStep → PlanPart → NoBound → List ℕ
plan_no_bound_line g at p n = ended_line (no_bound_text g at n ++ part_word p)

-- the rounds didn't settle a part of a step
unfoldable pub plan_unfinished_line : TimeStep → PlanPart → List ℕ
plan_unfinished_line at p = ended_line (codes "UNFINISHED" ++ time_text at ++ part_word p)

-- the word of a part's lines
abbrev pub line_word : PlanPart → CellWord
line_word part.Base = word.Base
line_word part.Planned = word.Plan
line_word part.Differences = word.Drawdown

-- the first place of a listing that isn't certified, by the word of its line; of a cell its side is named as well
abbrev pub plan_place : Grid → PlanPlace → List ℕ
plan_place g (places.Cell p c side) = codes " " ++ cell_word (line_word p) ++ numbers_text (place g c) ++ codes " " ++ side_name side
plan_place g (places.Source t) = codes " SOURCE " ++ term_name t
plan_place g (places.Zone a b) = codes " ZONE" ++ numbers_text (a ∷ b ∷ [])

unfoldable pub plan_not_certified_line : Grid → TimeStep → PlanPlace → List ℕ
plan_not_certified_line g at p = ended_line (codes "NOT CERTIFIED" ++ time_text at ++ plan_place g p)
