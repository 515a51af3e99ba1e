-- The lines of a listing, version 2, in their order: the first line, for each time step the line STEP, the lines HEAD
-- of the active cells, the lines IN and OUT of the budget's terms and the lines ZONE of the zone flows, and the line
-- END.
use Rattle.std.specs.Prelude.{ℕ, ◌+◌, ◌-◌, ◌^◌, Bool, cond, List, [], ◌∷◌, ◌++◌, codes, decimal, map, true, false}
use Rattle.std.specs.{Fmt.signed_decimal, List.flat_map, List.range_with_len, List.zip}
use Rattle.step_problem.specs.{declared.heads.Bound.Bound, declared.place.Dir.Dir, declared.place.Dir.TheVariants.In, declared.place.Dir.TheVariants.Out}
use Rattle.step_problem.specs.{declared.place.Term.Term, declared.place.Term.TheVariants.Storage, declared.place.Term.TheVariants.ConstantHead}
use Rattle.step_problem.specs.{declared.place.Term.TheVariants.Wells, declared.place.Term.TheVariants.Drains, declared.place.Term.TheVariants.RiverLeakage}
use Rattle.step_problem.specs.{declared.place.Term.TheVariants.HeadDepBounds, declared.place.Term.TheVariants.Recharge, declared.place.Term.TheVariants.Et}
use Rattle.step_problem.specs.{declared.place.ZoneFlow.ZoneFlow, head_limit, dir_name, term_name, Entries.Entries}
use Rattle.budget_bounds.specs.{declared.pair.TermPair.TermPair, declared.pair.Budget.Budget, bounds_in}
use Rattle.model_types.specs.{declared.grid.Grid.Grid, declared.model.FlowModel.FlowModel, declared.time_steps.TimeStep.TimeStep, cell_count, place, is_active}
use Rattle.model_types.specs.{is_nonzero, times}
use Rattle.listing_io.specs.{declared.listing.ListedStep.ListedStep, declared.pair_lines.CellWord.CellWord, declared.pair_lines.CellWord.TheVariants.Head}
use Rattle.listing_io.specs.{declared.pair_lines.CellWord.TheVariants.Base, declared.pair_lines.CellWord.TheVariants.Plan}
use Rattle.listing_io.specs.{declared.pair_lines.CellWord.TheVariants.Drawdown, Forms.Form, Forms.pair_line}

-- a line, without its line feed
abbrev pub Line : Type 0
Line = List ℕ

-- a line and its line feed; the text of lines
abbrev pub ended_line : Line → List ℕ
ended_line line = line ++ codes "\n"

abbrev pub text_of : List Line → List ℕ
text_of rows = flat_map ended_line rows

-- numbers in decimal, each after a blank
abbrev pub numbers_text : List ℕ → List ℕ
numbers_text [] = []
numbers_text (n ∷ ns) = codes " " ++ decimal n ++ numbers_text ns

-- a first line: its title, the digits of conductances, and LENUNI as it was read
abbrev pub digits_line : List ℕ → FlowModel → ℕ → Line
digits_line title m s = title ++ codes " DIGITS" ++ numbers_text (s ∷ []) ++ codes " UNIT " ++ signed_decimal m.lenuni

-- that of a listing for all models between two decks has one more word
abbrev pub titled_line : List ℕ → Bool → FlowModel → ℕ → Line
titled_line title false m s = digits_line title m s
titled_line title true m s = digits_line title m s ++ codes " TO"

-- the title of a listing is its name and its version
abbrev pub first_line : Bool → FlowModel → ℕ → Line
first_line between m s = titled_line (codes "HEADS 2") between m s

-- that of a listing of a model with convertible layers ends with their word
abbrev pub convertible_first_line : FlowModel → ℕ → Line
convertible_first_line m s = first_line false m s ++ codes " CONVERTIBLE"

-- a time step, by its stress period and its number
abbrev pub step_line : TimeStep → Line
step_line at = codes "STEP" ++ numbers_text (at.period ∷ at.step ∷ [])

-- heads have 9 decimals
abbrev pub head_form : Form
head_form = record { places = 9; limit = head_limit; back = [] }

-- flows have s + 9 decimals, and a magnitude below 2^126 units; a name may follow them
abbrev pub flow_form : ℕ → List ℕ → Form
flow_form s back = record { places = s + 9; limit = 2 ^ 126 - 1; back = back }

-- the word of a cell's line: its heads; its heads without a plan, those with it, and their difference
abbrev pub cell_word : CellWord → List ℕ
cell_word Head = codes "HEAD"
cell_word Base = codes "BASE"
cell_word Plan = codes "PLAN"
cell_word Drawdown = codes "DRAWDOWN"

-- a cell: its layer, row and column, its lower and its upper head
abbrev pub cell_front : CellWord → Grid → ℕ → List ℕ
cell_front w g c = cell_word w ++ numbers_text (place g c) ++ codes " "

abbrev pub head_front : Grid → ℕ → List ℕ
head_front g c = cell_front Head g c

abbrev pub head_pair : Bound → TermPair
head_pair b = record { lo = b.low; hi = b.high }

abbrev pub cell_line : CellWord → Grid → ℕ → Bound → Line
cell_line w g c b = pair_line (cell_front w g c) head_form (head_pair b)

abbrev pub head_line : Grid → ℕ → Bound → Line
head_line g c b = cell_line Head g c b

-- the lines of a grid's cells, with these heads; a cell with IBOUND 0 has no line
unfoldable pub head_lines : FlowModel → List Bound → List Line
head_lines m bs = flat_map (λ e. cond (is_active m e.0) (head_line m.grid e.0 e.1 ∷ []) []) (zip (range_with_len 0 (cell_count m.grid)) bs)

-- a term: its lower and its upper flow into the variable cells, or out of them, and its name (TM 6-A16, chapter 3, the volumetric budget)
abbrev pub dir_front : Dir → List ℕ
dir_front dir = dir_name dir ++ codes " "

abbrev pub term_form : ℕ → Term → Form
term_form s t = flow_form s (codes " " ++ term_name t)

abbrev pub term_line : ℕ → Dir → Term → TermPair → Line
term_line s dir t p = pair_line (dir_front dir) (term_form s t) p

-- what a term gives more under a plan
abbrev pub source_front : List ℕ
source_front = codes "SOURCE "

abbrev pub source_line : ℕ → Term → TermPair → Line
source_line s t p = pair_line source_front (term_form s t) p

-- whether the model has EVT: NEVTOP isn't 0
abbrev pub has_evt : FlowModel → Bool
has_evt m = is_nonzero m.nevtop

-- the terms in their order; ET is printed only where the model has EVT
abbrev pub printed_terms : Bool → List Term
printed_terms evt = Storage ∷ ConstantHead ∷ Wells ∷ Drains ∷ RiverLeakage ∷ HeadDepBounds ∷ Recharge ∷ cond evt (Et ∷ []) []

unfoldable pub term_lines : FlowModel → ℕ → Dir → Budget → List Line
term_lines m s dir b = map (λ t. term_line s dir t (bounds_in b dir t)) (printed_terms (has_evt m))

-- a zone flow: its two zones, its lower and its upper value
abbrev pub zone_pair : ZoneFlow → TermPair
zone_pair z = record { lo = z.lo; hi = z.hi }

abbrev pub zone_front : ℕ → ℕ → List ℕ
zone_front a b = codes "ZONE" ++ numbers_text (a ∷ b ∷ []) ++ codes " "

abbrev pub zone_line : ℕ → ZoneFlow → Line
zone_line s z = pair_line (zone_front z.from z.to) (flow_form s []) (zone_pair z)

-- a whole step; its heads are those of all cells of the grid
unfoldable pub step_lines : FlowModel → ℕ → TimeStep → List Bound → Budget → List ZoneFlow → List Line
step_lines m s at heads b zones = step_line at ∷ (head_lines m heads ++ (term_lines m s In b ++ (term_lines m s Out b ++ map (zone_line s) zones)))

abbrev pub end_line : Line
end_line = codes "END"

-- the lines of several things, each by its own of another list
abbrev pub each_lines : {A X : Type 0} → (A → X → List Line) → List A → List X → List Line
each_lines row xs ys = flat_map (λ e. row e.0 e.1) (zip xs ys)

-- several steps, at these times
unfoldable pub all_step_lines : FlowModel → ℕ → List TimeStep → List ListedStep → List Line
all_step_lines m s ats steps = each_lines (λ at x. step_lines m s at x.heads x.budget x.zones) ats steps

-- a whole listing, of a model or of all models between two decks
unfoldable pub listing : Bool → FlowModel → ℕ → List ListedStep → List Line
listing between m s steps = first_line between m s ∷ (all_step_lines m s (times m) steps ++ (end_line ∷ []))

-- a whole listing of a model with convertible layers
unfoldable pub convertible_listing : FlowModel → ℕ → List ListedStep → List Line
convertible_listing m s steps = convertible_first_line m s ∷ (all_step_lines m s (times m) steps ++ (end_line ∷ []))

-- The pieces of a run: the first line, and a step.
unfoldable pub first_text : Bool → FlowModel → ℕ → List ℕ
first_text between m s = text_of (first_line between m s ∷ [])

unfoldable pub step_text : FlowModel → ℕ → TimeStep → List Bound → Budget → List ZoneFlow → List ℕ
step_text m s at heads b zones = text_of (step_lines m s at heads b zones)

-- The text of a view: the line WATCH, and the line HEAD of each variable cell.
-- a view of a time step, by its stress period and its number
abbrev pub watch_line : TimeStep → Line
watch_line at = codes "WATCH" ++ numbers_text (at.period ∷ at.step ∷ [])

-- the variable cells of a problem, with these heads
unfoldable pub variable_lines : Grid → List Entries → List Bound → List Line
variable_lines g p bs = each_lines (λ e b. head_line g e.id b ∷ []) p bs

unfoldable pub view_text : Grid → TimeStep → List Entries → List Bound → List ℕ
view_text g at p heads = ended_line (watch_line at) ++ text_of (variable_lines g p heads)
