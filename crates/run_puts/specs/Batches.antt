-- A batch of jobs. `IsJobEnd job e` says that the job may end with this status and this text.
use Rattle.std.specs.Prelude.{List, ◌≡◌, [], ◌∷◌, ◌++◌, map}
use Rattle.std.specs.List.{AllZip}
use Rattle.run_puts.specs.{Runs.Text, Runs.end_line, declared.puts.Status.Status, declared.job_end.JobEnd.JobEnd}
use Rattle.run_puts.specs.declared.puts.Status.TheVariants as status

-- How a batch whose jobs ran ends, and with which pieces.
-- the first of two statuses that isn't Ok
abbrev pub or_else : Status → Status → Status
or_else status.Ok later = later
or_else first later = first

-- the status of the first job that didn't end Ok, or Ok where each did
abbrev pub first_not_ok : List JobEnd → Status
first_not_ok [] = status.Ok
first_not_ok (e ∷ ends) = or_else e.status (first_not_ok ends)

abbrev pub texts : List JobEnd → List Text
texts ends = map (λ e. e.text.items) ends

-- a batch whose jobs ended so has this status and these pieces: the text of each job, in order, and END
pub record IsEnded (ends : List JobEnd) (end : Status) (pieces : List Text) : Type 0 where
  pub status_is : end ≡ first_not_ok ends
  pub are : pieces ≡ texts ends ++ (end_line ∷ [])

-- one end for each job, in the order of the jobs, and the status and pieces of a batch whose jobs ended so
pub record IsBatch {Job : Type 0} (IsJobEnd : Job → JobEnd → Type 0) (jobs : List Job) (end : Status) (pieces : List Text) : Type 0 where
  pub ends : List JobEnd
  pub each : AllZip IsJobEnd jobs ends
  pub ended : IsEnded ends end pieces
