-- A listing summed up in a few numbers.
use Rattle.std.specs.Prelude.{ℕ, ◌+◌, ℤ, pos, ◌+ℤ◌, ◌-ℤ◌, cond, List, [], ◌∷◌, ◌++◌, length, ◌*◌, ◌≡◌, codes}
use Rattle.std.specs.{Int.int_max, List.flat_map, List.fold}
use Rattle.step_problem.specs.{declared.heads.Bound.Bound, IsMagnitudeAtMost, cell_limit, head_limit}
use Rattle.model_types.specs.{declared.model.FlowModel.FlowModel, is_active}
use Rattle.listing_run.specs.{declared.solving.Step.Step, declared.text.ListingEnd.ListingEnd, declared.text.ListingEnd.TheVariants.Whole}
use Rattle.listing_run.specs.{declared.steps.Task.Task, EnclosesHistories, AllSteps}
use Rattle.listing_summary.specs.declared.summary.Summary.{Summary}
use Rattle.fixed_text.specs.{fixed_text}
use Rattle.listing_io.specs.{ended_line, numbers_text}

-- The bounds that a step's lines HEAD print: those of the cells from c on whose IBOUND isn't 0.
unfoldable pub printed_bounds : FlowModel → ℕ → List Bound → List Bound
printed_bounds m c [] = []
printed_bounds m c (b ∷ bs) = cond (is_active m c) (b ∷ []) [] ++ printed_bounds m (c + 1) bs

-- the bounds of all lines HEAD of a listing
abbrev pub printed_heads : FlowModel → List Step → List Bound
printed_heads m values = flat_map (λ v. printed_bounds m 0 v.heads) values

-- the most heads of a listing: 100000 time steps
abbrev pub most_heads : ℕ
most_heads = 100000 * cell_limit

-- the upper head less the lower one
abbrev pub width : Bound → ℤ
width b = b.high -ℤ b.low

-- The greatest width. Constant cells whose heads have at most nine decimals have the width 0.
abbrev pub widest : List Bound → ℤ
widest bs = fold (λ w b. int_max (width b) w) (pos 0) bs

-- the sums of the lower and of the upper heads
abbrev pub low_sum : List Bound → ℤ
low_sum bs = fold (λ s b. s +ℤ b.low) (pos 0) bs

abbrev pub high_sum : List Bound → ℤ
high_sum bs = fold (λ s b. s +ℤ b.high) (pos 0) bs

-- The summary of a listing of a model: the numbers of its lines STEP and HEAD, the greatest width of a line HEAD, and
-- the sums of their lower and upper heads, in units of 10^-9.
abbrev pub summary_of : FlowModel → List Step → Summary
summary_of m values =
    record {
      steps = length values;
      heads = length (printed_heads m values);
      widest = widest (printed_heads m values);
      low_sum = low_sum (printed_heads m values);
      high_sum = high_sum (printed_heads m values);
    }

-- A summary from one line HEAD and one step to the next, and facts that the counting calls pass to each other.
-- nothing is counted yet
abbrev pub nothing : Summary
nothing = record { steps = 0; heads = 0; widest = pos 0; low_sum = pos 0; high_sum = pos 0 }

-- after one more line HEAD
abbrev pub with_head_line : Summary → Bound → Summary
with_head_line s b =
    record {
      steps = s.steps;
      heads = s.heads + 1;
      widest = int_max (width b) s.widest;
      low_sum = s.low_sum +ℤ b.low;
      high_sum = s.high_sum +ℤ b.high;
    }

-- after one more step, with these heads of all cells
abbrev pub with_step : FlowModel → Summary → List Bound → Summary
with_step m s heads = record (fold with_head_line s (printed_bounds m 0 heads)) { steps = s.steps + 1 }

-- the sums are no greater than this many heads can make them
pub record Fits (s : Summary) : Type 0 where
  pub widest : IsMagnitudeAtMost s.widest (2 * head_limit)
  pub low : IsMagnitudeAtMost s.low_sum (s.heads * head_limit)
  pub high : IsMagnitudeAtMost s.high_sum (s.heads * head_limit)

-- What a summary says about its task.
-- The steps of the task up to this end have values, which enclose every history if they are all, and this is the summary
-- of their listing.
pub record IsSummarized (k : Task) (s : Summary) (last : ListingEnd) : Type 0 where
  pub values : List Step
  pub steps : AllSteps k values last
  pub encloses : last ≡ Whole → EnclosesHistories k values
  pub is : s ≡ summary_of k.decks.first values

-- The text of a made model's summary.
-- a line of a word and whole numbers
abbrev pub count_line : List ℕ → List ℕ → List ℕ
count_line word ns = ended_line (word ++ numbers_text ns)

-- a line of a word and a head with 9 decimals
abbrev pub head_line : List ℕ → ℤ → List ℕ
head_line word z = ended_line (word ++ codes " " ++ fixed_text 9 z)

unfoldable pub summary_text : ℕ → ℕ → Summary → List ℕ
summary_text seed size s =
    count_line (codes "MADE") (seed ∷ size ∷ []) ++ count_line (codes "STEPS") (s.steps ∷ [])
    ++ count_line (codes "HEADS") (s.heads ∷ []) ++ head_line (codes "WIDEST") s.widest
    ++ head_line (codes "LOWSUM") s.low_sum ++ head_line (codes "HIGHSUM") s.high_sum ++ codes "END\n"
