-- The first line of a file of the discretization: NLAY NROW NCOL NPER ITMUNI LENUNI (TM 6-A16, DIS, item 1).
use Rattle.std.specs.Prelude.{ℕ, ◌*◌, List, nat_le, Option, Some, None, Result, Ok, Err, if◌then◌else◌, ◌-◌, ℤ, [], ◌∷◌, ◌++◌, ◌+◌, Bool, true, false, not}
use Rattle.std.specs.Prelude.{◌&&◌, ◌||◌, codes, pos}
use Rattle.outside.specs.{refusal, words, FileSet, declared.codes.Code.TheVariants.BadGrid, declared.inputs.Refusal.Refusal}
use Rattle.record_lines.specs.{◌>>=◌, repeated_reading, Left, beginning, is_word, line_at, left_from, without_comments}
use Rattle.array_reader.specs.{number_at, integer, number, value_alone, zero_at}
use Rattle.model_types.specs.{declared.limits.Limits.Limits, most_layers, most_in_row, most_cells, no_stresses, declared.period.Period.Period}
use Rattle.model_types.specs.{declared.grid.Grid.Grid, declared.model.FlowModel.FlowModel}
use Rattle.number_limits.specs.{within, is_positive, is_one, is_at_most, is_at_least}
use Rattle.dis_package.specs.{declared.frame.Frame.Frame, declared.frame.Size.Size, declared.periods.Time.Time, Grids.grid_of}
use Rattle.decimal_input.specs.{size}

abbrev pub inside : Option ℕ → Refusal → Result ℕ Refusal
inside None r = Err r
inside (Some n) r = Ok n

-- the next word as a count from 1 to a limit
unfoldable pub count_at : List ℕ → ℕ → ℕ → List (List ℕ) → Result (ℕ × List (List ℕ)) Refusal
count_at file line limit words = do
  z ← number_at integer file line words
  n ← inside (within z.0 limit) (refusal BadGrid file line)
  Ok (n, z.1)

-- layers, rows and columns, and cells, each at most what the limits say
unfoldable pub size_at : Limits → List ℕ → ℕ → List (List ℕ) → Result (Size × List (List ℕ)) Refusal
size_at limits file line words = do
  layers ← count_at file line (most_layers limits) words
  rows ← count_at file line (most_in_row limits) layers.1
  cols ← count_at file line (most_in_row limits) rows.1
  if nat_le (layers.0 * (rows.0 * cols.0)) (most_cells limits)
      then Ok (record { layers = layers.0; rows = rows.0; cols = cols.0 }, cols.1) else Err (refusal BadGrid file line)

-- at most 1000 stress periods
unfoldable pub frame_of : Limits → List ℕ → ℕ → List (List ℕ) → Result Frame Refusal
frame_of limits file line words = do
  size ← size_at limits file line words
  periods ← count_at file line 1000 size.1
  itmuni ← number_at integer file line periods.1
  lenuni ← number_at integer file line itmuni.1
  Ok (record { size = size.0; periods = periods.0; lenuni = lenuni.0 })

-- LAYCBD: an integer for each layer, not 0 where a confining bed lies below it; none lies below the last layer (TM 6-A16, DIS, item 2).
unfoldable pub beds_of : List ℕ → ℕ → Left → Result (List ℤ × Left) Refusal
beds_of file layers left = do
  above ← repeated_reading (layers - 1) (value_alone integer file) (beginning, left)
  last ← zero_at file above.1
  Ok (above.0 ++ last.0 ∷ [], last.1.1)

-- The lines of the stress periods: PERLEN NSTP TSMULT and SS or TR (TM 6-A16, DIS, item 7). Limits are this program's own.
-- whether the period is steady, SS, or transient, TR, in any letter case
abbrev pub kind_of : List (List ℕ) → Option Bool
kind_of [] = None
kind_of (w ∷ ws) = if is_word (codes "SS") w then Some true else (if is_word (codes "TR") w then Some false else None)

abbrev pub kind_or_refusal : Option Bool → Refusal → Result Bool Refusal
kind_or_refusal None r = Err r
kind_or_refusal (Some steady) r = Ok steady

-- a transient period's TSMULT is 1, or it is from 0.001 to 1000 and NSTP is at most 1000
abbrev pub is_growth : Time → Bool
is_growth t = is_one t.tsmult || (nat_le t.nstp 1000 && (is_at_least 3 (size t.tsmult) && is_at_most 1000 (size t.tsmult)))

-- PERLEN isn't below 0, and is above 0 in a transient period; TSMULT is above 0
abbrev pub is_time : Time → Bool
is_time t = if t.steady then not t.perlen.neg && is_positive t.tsmult else (is_positive t.perlen && is_positive t.tsmult) && is_growth t

-- NSTP is at most 100000
unfoldable pub time_of : List ℕ → ℕ → List (List ℕ) → Result Time Refusal
time_of file line words = do
  perlen ← number_at number file line words
  nstp ← count_at file line 100000 perlen.1
  tsmult ← number_at number file line nstp.1
  steady ← kind_or_refusal (kind_of tsmult.1) (refusal BadGrid file line)
  Ok (record { perlen = perlen.0; nstp = nstp.0; tsmult = tsmult.0; steady = steady })

-- a period of these times, without stresses
abbrev pub period_of : Time → Period
period_of t = record { perlen = t.perlen; nstp = t.nstp; tsmult = t.tsmult; steady = t.steady; stresses = no_stresses }

-- a period after periods with this many steps; with its own they are at most 100000
unfoldable pub period_at : List ℕ → (ℕ × Left) → Result (Period × (ℕ × Left)) Refusal
period_at file s = do
  line ← line_at file s.1
  time ← time_of file line.0.number (words line.0.bytes)
  if is_time time && nat_le (s.0 + time.nstp) 100000 then Ok (period_of time, (s.0 + time.nstp, line.1)) else Err (refusal BadGrid file line.0.number)

unfoldable pub periods_of : List ℕ → ℕ → Left → Result (List Period) Refusal
periods_of file count left = repeated_reading count (period_at file) (0, left) >>= λ x. Ok x.0

-- A file of the discretization, item by item (TM 6-A16, DIS).
-- a model of which only this has been read
abbrev pub model_of_grid : Grid → ℤ → List Period → FlowModel
model_of_grid grid lenuni periods =
    record {
      grid = grid;
      lenuni = lenuni;
      ibound = [];
      strt = [];
      layvka = [];
      coefficient = false;
      hk = [];
      hani = [];
      vka = [];
      ss = [];
      vkcb = [];
      nrchop = pos 0;
      nevtop = pos 0;
      periods = periods;
    }

-- the first line, and LAYCBD
unfoldable pub head_of : Limits → List ℕ → Left → Result ((Frame × List ℤ) × Left) Refusal
head_of limits file left = do
  line ← line_at file left
  frame ← frame_of limits file line.0.number (words line.0.bytes)
  laycbd ← beds_of file frame.size.layers line.1
  Ok ((frame, laycbd.0), laycbd.1)

unfoldable pub dis_of : Limits → FileSet → List ℕ → List ℕ → Result FlowModel Refusal
dis_of limits files file bytes = do
  head ← head_of limits file (without_comments (left_from 1 bytes))
  grid ← grid_of files file head.0.0.size head.0.1 head.1
  periods ← periods_of file head.0.0.periods grid.1
  Ok (model_of_grid grid.0 head.0.0.lenuni periods)
