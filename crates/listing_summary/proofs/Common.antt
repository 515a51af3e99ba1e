-- Names that several proofs of this crate cite, of the crates below and of its own definitions, passed on from one place. Declares nothing.
pub use Rattle.std.proofs.Common.{All, Bool, List, [], ap, arith, cond, drop, get_or, length, refl, rules, subst, sym, ℕ, ℤ, ◌*◌, ◌++◌, ◌+ℤ◌, ◌+◌, ◌<◌, ◌^◌, ◌∙◌, ◌∷◌, ◌≡◌, ◌≤◌}
pub use Rattle.std.specs.List.{fold}
pub use Rattle.listing_run.specs.{EndsAt, IsAtFirst, IsNext, IsWalk, times_left, with_heads}
pub use Rattle.listing_summary.specs.{Fits, IsSummarized, most_heads, nothing, printed_heads, summary_of, width, with_head_line, with_step, declared.summary.Summary.Summary}
unfoldable pub use Rattle.listing_summary.specs.{printed_bounds}
pub use Rattle.model_types.specs.{cell_count, is_active}
pub use Rattle.step_problem.specs.{Edges, IsHead, IsMagnitudeAtMost, cell_limit, no_bound, declared.heads.Bound.Bound}
