-- Reading a listing: the lines that are due, one after another. A refusal is the number of the first line of another form than the one due.
use Rattle.std.specs.Prelude.{◌≡◌, ℕ, Bool, true, false, ◌||◌, codes, if◌then◌else◌, List, [], ◌∷◌, Option, Some, None, Result, Ok, Err}
use Rattle.std.specs.{List.range_with_len, Str.bytes_eq}
use Rattle.outside.specs.{declared.codes.Code.TheVariants.BadListing, declared.inputs.Refusal.Refusal, refusal, lines}
use Rattle.record_lines.specs.{next_number, ◌>>=◌, for_each}
use Rattle.step_problem.specs.{declared.heads.Bound.Bound, declared.place.Dir.Dir, declared.place.Dir.TheVariants.In, declared.place.Dir.TheVariants.Out}
use Rattle.step_problem.specs.{declared.place.Term.Term, declared.place.ZoneFlow.ZoneFlow, declared.place.Term.TheVariants.Et}
use Rattle.budget_bounds.specs.{declared.pair.TermPair.TermPair, all_terms, no_pair}
use Rattle.model_types.specs.{declared.model.FlowModel.FlowModel, declared.time_steps.TimeStep.TimeStep, cell_count, is_active, times}
use Rattle.zone_pairs.specs.declared.pair.ZonePair.{ZonePair}
use Rattle.listing_io.specs.{declared.listing.ListedStep.ListedStep, declared.fault.Fault.Fault, declared.fault.Fault.TheVariants.BadLine}
use Rattle.listing_io.specs.{declared.fault.Fault.TheVariants.Memory, Forms.Form, Forms.pair_in, Listing.Line, Listing.convertible_first_line}
use Rattle.listing_io.specs.{Listing.first_line, Listing.step_line, Listing.head_form, Listing.head_front, Listing.dir_front, Listing.term_form}
use Rattle.listing_io.specs.{Listing.flow_form, Listing.zone_front, Listing.has_evt, Listing.end_line}

-- the lines left, and the number of the first of them
pub record Left : Type 0 where
  pub lines : List Line
  pub number : ℕ

-- all lines of a text, counted from 1
abbrev pub all_lines : List ℕ → Left
all_lines text = record { lines = lines text; number = 1 }

abbrev pub first_of : ℕ → List Line → Result (Line × Left) ℕ
first_of n [] = Err n
first_of n (line ∷ more) = Ok (line, record { lines = more; number = next_number n })

-- the next line; a missing one has the number of the last line plus one
abbrev pub line_at : Left → Result (Line × Left) ℕ
line_at left = first_of left.number left.lines

abbrev pub or_refused : {X : Type 0} → ℕ → Option X → Result X ℕ
or_refused n None = Err n
or_refused n (Some x) = Ok x

-- the two numbers of the next line, which must have this beginning and this form
unfoldable pub pair_at : List ℕ → Form → Left → Result (TermPair × Left) ℕ
pair_at front f left = do
  line ← line_at left
  p ← or_refused left.number (pair_in front f line.0)
  Ok (p, line.1)

-- the next line must be this one
unfoldable pub text_at : Line → Left → Result Left ℕ
text_at text left = do
  line ← line_at left
  if bytes_eq text line.0 then Ok line.1 else Err left.number

abbrev pub bound_of : TermPair → Bound
bound_of p = record { low = p.lo; high = p.hi }

-- a line that isn't there is zeros
abbrev pub pair_if : Bool → List ℕ → Form → Left → Result (TermPair × Left) ℕ
pair_if true front f left = pair_at front f left
pair_if false front f left = Ok (no_pair, left)

-- the heads of a cell: no line where there is no flow
abbrev pub head_if : Bool → List ℕ → Left → Result (Bound × Left) ℕ
head_if flag front left = pair_if flag front head_form left >>= λ p. Ok (bound_of p.0, p.1)

-- the heads of a grid's cells
unfoldable pub heads_at : FlowModel → Left → Result (List Bound × Left) ℕ
heads_at m left = for_each (λ c. head_if (is_active m c) (head_front m.grid c)) (range_with_len 0 (cell_count m.grid)) left

-- whether a term has a line; ET has one where the model has EVT
abbrev pub is_printed : Bool → Term → Bool
is_printed evt Et = evt
is_printed evt other = true

abbrev pub term_if : Bool → ℕ → Dir → Term → Left → Result (TermPair × Left) ℕ
term_if flag s dir t left = pair_if flag (dir_front dir) (term_form s t) left

-- the terms in one direction
unfoldable pub terms_at : Bool → ℕ → Dir → Left → Result (List TermPair × Left) ℕ
terms_at evt s dir left = for_each (λ t. term_if (is_printed evt t) s dir t) all_terms left

-- the flow between two zones
abbrev pub flow_of : ZonePair → TermPair → ZoneFlow
flow_of z p = record { from = z.from; to = z.to; lo = p.lo; hi = p.hi }

unfoldable pub flow_at : ℕ → ZonePair → Left → Result (ZoneFlow × Left) ℕ
flow_at s z left = do
  p ← pair_at (zone_front z.from z.to) (flow_form s []) left
  Ok (flow_of z p.0, p.1)

-- a whole step, where flows between these pairs of zones are due
unfoldable pub step_with : FlowModel → ℕ → List ZonePair → TimeStep → Left → Result (ListedStep × Left) ℕ
step_with m s pairs at left = do
  after ← text_at (step_line at) left
  heads ← heads_at m after
  into ← terms_at (has_evt m) s In heads.1
  out ← terms_at (has_evt m) s Out into.1
  flows ← for_each (flow_at s) pairs out.1
  Ok (record { heads = heads.0; budget = record { into = into.0; out = out.0 }; zones = flows.0 }, flows.1)

-- where `pairs` has the pairs of zones of each stress period, by its number
abbrev pub step_at : FlowModel → ℕ → (ℕ → List ZonePair) → TimeStep → Left → Result (ListedStep × Left) ℕ
step_at m s pairs at left = step_with m s (pairs at.period) at left

-- the first line of version 1 has no digits and no unit
abbrev pub first_line_before : Line
first_line_before = codes "HEADS 1"

-- the first line of version 2; of a model's listing it may be that of version 1
abbrev pub is_first : Bool → FlowModel → ℕ → Line → Bool
is_first false m s line = bytes_eq (first_line false m s) line || bytes_eq first_line_before line
is_first true m s line = bytes_eq (first_line true m s) line

unfoldable pub first_at : Bool → FlowModel → ℕ → Left → Result Left ℕ
first_at between m s left = do
  line ← line_at left
  if is_first between m s line.0 then Ok line.1 else Err left.number

-- no line may be left
abbrev pub none_of : ℕ → List Line → Result (Unit {0}) ℕ
none_of n [] = Ok tt
none_of n (line ∷ more) = Err n

abbrev pub over_at : Left → Result (Unit {0}) ℕ
over_at left = none_of left.number left.lines

-- what follows the first line: the steps, the line END, and no others
abbrev pub steps_to_end : FlowModel → ℕ → (ℕ → List ZonePair) → Left → Result (List ListedStep) ℕ
steps_to_end m s pairs after = do
  steps ← for_each (step_at m s pairs) (times m) after
  end ← text_at end_line steps.1
  over ← over_at end
  Ok steps.0

-- a whole listing: its steps, or the number of the first line of another form than the one due
unfoldable pub listing_at : Bool → FlowModel → ℕ → (ℕ → List ZonePair) → Left → Result (List ListedStep) ℕ
listing_at between m s pairs left = first_at between m s left >>= steps_to_end m s pairs

-- that of a model with convertible layers, which has its own first line
unfoldable pub convertible_listing_at : FlowModel → ℕ → (ℕ → List ZonePair) → Left → Result (List ListedStep) ℕ
convertible_listing_at m s pairs left = text_at (convertible_first_line m s) left >>= steps_to_end m s pairs

-- the listing of a file, or BadListing at that line
abbrev pub or_bad_listing : List ℕ → Result (List ListedStep) ℕ → Result (List ListedStep) Refusal
or_bad_listing file (Ok steps) = Ok steps
or_bad_listing file (Err n) = Err (refusal BadListing file n)

abbrev pub listing_in : Bool → FlowModel → ℕ → (ℕ → List ZonePair) → List ℕ → List ℕ → Result (List ListedStep) Refusal
listing_in between m s pairs file text = or_bad_listing file (listing_at between m s pairs (all_lines text))

abbrev pub convertible_listing_in : FlowModel → ℕ → (ℕ → List ZonePair) → List ℕ → List ℕ → Result (List ListedStep) Refusal
convertible_listing_in m s pairs file text = or_bad_listing file (convertible_listing_at m s pairs (all_lines text))

-- What a call returned, seen by view, and what it left to be read: what reading gives, unless memory ran out.
abbrev pub Stops : {Y : Type 0} → Fault → Result Y ℕ → Type 0
Stops (BadLine n) read = read ≡ Err n
Stops Memory read = Unit {0}

abbrev pub Gives : {X Y S : Type 0} → (X → Y) → Result X Fault → S → Result (Y × S) ℕ → Type 0
Gives view (Ok x) after read = read ≡ Ok (view x, after)
Gives view (Err fault) after read = Stops fault read

abbrev pub ReadsOrStops : {S : Type 0} → Result (Unit {0}) Fault → S → Result S ℕ → Type 0
ReadsOrStops (Ok done) after read = read ≡ Ok after
ReadsOrStops (Err fault) after read = Stops fault read

-- the same where nothing is left to be read
abbrev pub Has : {X Y : Type 0} → (X → Y) → Result X Fault → Result Y ℕ → Type 0
Has view (Ok x) read = read ≡ Ok (view x)
Has view (Err fault) read = Stops fault read
