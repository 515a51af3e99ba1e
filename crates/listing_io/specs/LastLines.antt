-- The last lines of a run that name a refusal, a time step, or a place in it.
use Rattle.std.specs.Prelude.{ℕ, Option, Some, None, List, [], ◌∷◌, ◌++◌, codes}
use Rattle.outside.specs.{CodeRow, code_row, declared.inputs.Refusal.Refusal}
use Rattle.step_problem.specs.{declared.place.NoBound.NoBound, declared.place.Place.Place, declared.refusal.StepRefusal.StepRefusal, refusal_of, word_of}
use Rattle.step_problem.specs.{side_name, dir_name, term_name}
use Rattle.step_problem.specs.declared.place.Place.TheVariants as places
use Rattle.model_types.specs.{declared.grid.Grid.Grid, declared.time_steps.TimeStep.TimeStep, place}
use Rattle.listing_io.specs.Listing.{ended_line, numbers_text}

-- the number and the word of a refusal
abbrev pub code_text : CodeRow → List ℕ
code_text row = numbers_text (row.number ∷ []) ++ codes " " ++ row.word

-- layer, row and column, where a cell is meant
abbrev pub cell_text : Option (List ℕ) → List ℕ
cell_text None = []
cell_text (Some at) = numbers_text at

-- the files are refused: the refusal, the file, the line, and the cell where one is meant
unfoldable pub refused_line : Refusal → List ℕ
refused_line r = ended_line (codes "REFUSED" ++ code_text (code_row r.code) ++ codes " " ++ r.file ++ numbers_text (r.line ∷ []) ++ cell_text r.at)

-- the word of a step's refusal, by its number
abbrev pub word_or_none : Option StepRefusal → List ℕ
word_or_none None = []
word_or_none (Some refusal) = word_of refusal

abbrev pub step_word : ℕ → List ℕ
step_word n = word_or_none (refusal_of n)

abbrev pub time_text : TimeStep → List ℕ
time_text at = numbers_text (at.period ∷ at.step ∷ [])

-- where a step has no bound: the cell; or the way and the name of a budget term; or two zones
abbrev pub fault_place : Grid → Place → List ℕ
fault_place g (places.Cell c side) = numbers_text (place g c)
fault_place g (places.Term dir t) = codes " " ++ dir_name dir ++ codes " " ++ term_name t
fault_place g (places.Zone a b) = codes " ZONE" ++ numbers_text (a ∷ b ∷ [])

unfoldable pub no_bound_text : Grid → TimeStep → NoBound → List ℕ
no_bound_text g at n = codes "NOBOUND" ++ code_text (record { number = n.code; word = step_word n.code }) ++ time_text at ++ fault_place g n.place

unfoldable pub no_bound_line : Grid → TimeStep → NoBound → List ℕ
no_bound_line g at n = ended_line (no_bound_text g at n)

-- the rounds didn't settle a step
unfoldable pub unfinished_line : TimeStep → List ℕ
unfinished_line at = ended_line (codes "UNFINISHED" ++ time_text at)

-- the first place of a listing that isn't certified; of a cell its side is named as well
abbrev pub open_place : Grid → Place → List ℕ
open_place g (places.Cell c side) = numbers_text (place g c) ++ codes " " ++ side_name side
open_place g (places.Term dir t) = fault_place g (places.Term dir t)
open_place g (places.Zone a b) = fault_place g (places.Zone a b)

unfoldable pub not_certified_line : Grid → TimeStep → Place → List ℕ
not_certified_line g at place = ended_line (codes "NOT CERTIFIED" ++ time_text at ++ open_place g place)

-- the first cell at which not all heads between the listed ones are gentle
unfoldable pub not_gentle_line : Grid → TimeStep → ℕ → List ℕ
not_gentle_line g at c = ended_line (codes "NOT CERTIFIED" ++ time_text at ++ numbers_text (place g c) ++ codes " GENTLE")
