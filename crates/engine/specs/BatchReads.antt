-- What the reading of a batch returns.
use Rattle.std.specs.Prelude.{ℕ, List, Result, Ok, Err, IfOk, All}
use Rattle.std.specs.{declared.vec.Vec.Vec, declared.alloc.Global.Global}
use Rattle.outside.specs.{FileSet, IsReading, declared.inputs.InputFault.InputFault}
use Rattle.listing_run.specs.{IsTask}
use Rattle.engine.specs.{declared.job.Job.Job, Cases.jobs_read, Cases.names_read}
use Rattle.command_line.specs.{AskedBatch}
use Rattle.outside.specs.declared.inputs.InputFault.TheVariants as input

-- each task that is to be listed meets the conditions on tasks
abbrev pub AreTasks : List Job → Type 0
AreTasks jobs = All (λ job. IfOk job.read IsTask) jobs

-- a reading of a batch gave its jobs
abbrev pub IsBatchRead : AskedBatch → FileSet → Result (Vec Job Global) InputFault → Type 0
IsBatchRead b files answer = IsReading (λ (jobs : Vec Job Global). jobs.items) (jobs_read files b) answer

-- the names of the list, or its first refusal
abbrev pub HasNames : AskedBatch → FileSet → Result (Vec (List ℕ) Global) InputFault → Type 0
HasNames b files answer = IsReading (λ (names : Vec (List ℕ) Global). names.items) (names_read files b) answer

-- a reading whose fault is no refusal
abbrev pub NeverRefused : {T : Type 0} → Result T InputFault → Type 0
NeverRefused (Ok value) = Unit {0}
NeverRefused (Err (input.Refused refusal)) = ⊥
NeverRefused (Err input.ReadFault) = Unit {0}
NeverRefused (Err input.Memory) = Unit {0}
