pub mod Batches
pub mod Statuses
pub mod Runs
pub use Rattle.run_puts.specs.Batches.{IsBatch, IsEnded, first_not_ok, or_else, texts}
pub use Rattle.run_puts.specs.Runs.{Begins, EndsOutOfMemory, IsEnd, IsLast, IsPut, IsRun, IsTail, NeverCut, PutsMore, Text, all_due, cut, early, end_line}
pub use Rattle.run_puts.specs.Runs.{failed, memory_put, nothing, read_fault_line, sink_wanting, status_after, wanting, whole}
pub use Rattle.run_puts.specs.Statuses.{Agree, IsUnfinished, code_of}
