-- Names that several proofs of this crate cite, of the crates below and of its own definitions, passed on from one place. Declares nothing.
pub use Rattle.std.proofs.Common.{Err, IfSome, List, None, Ok, Option, Result, Some, [], ap, arith, drop, drop-cons, get_or, inl, inr, length, map, refl, subst, suc, sym, take, take-append-drop}
pub use Rattle.std.proofs.Common.{take_all, ℕ, ◌++◌, ◌+◌, ◌<◌, ◌∙◌, ◌∷◌, ◌≡◌, ◌≤◌, ◌⊎◌}
pub use Rattle.std.proofs.lemmas.List.{append-nil, append_assoc, get_or-map, length-map, map-append, take_more}
pub use Rattle.std.specs.List.{AllZip, concat}
pub use Rattle.outside.specs.{Put, PutMakes, PutsMake, Rose, Seen, failed_put, whole_put, declared.traits.SinkError.SinkError}
pub use Rattle.run_puts.specs.{Agree, Begins, EndsOutOfMemory, IsBatch, IsEnd, IsEnded, IsLast, IsPut, IsRun, IsTail, IsUnfinished, NeverCut, Text, all_due, cut, early, end_line, failed, first_not_ok}
pub use Rattle.run_puts.specs.{memory_put, nothing, or_else, sink_wanting, status_after, texts, wanting, whole, declared.job_end.JobEnd.JobEnd, declared.puts.Status.Status}
