pub mod Lines
pub mod LastLines
pub mod Reading
pub mod Laws
pub use Rattle.plan_listing.specs.LastLines.{line_word, part_word, plan_place}
unfoldable pub use Rattle.plan_listing.specs.LastLines.{plan_no_bound_line, plan_not_certified_line, plan_unfinished_line}
pub use Rattle.plan_listing.specs.Laws.{AreBoundsOf, AreListedPlan, AreSources, IsListedPlanStep, PlanListingsAreApart, PlanListingsAreNoListings}
pub use Rattle.plan_listing.specs.Laws.{PlanListingsAreReadAgain, PlanListingsWereWritten}
pub use Rattle.plan_listing.specs.Lines.{line_of, plan_cell_lines, plan_cells, plan_first_line, source_terms}
unfoldable pub use Rattle.plan_listing.specs.Lines.{cells_lines, plan_first_text, plan_listing_lines, plan_step_lines, plan_step_text, source_lines}
pub use Rattle.plan_listing.specs.Reading.{is_source, plan_listing_in, plan_step_at, plan_step_of}
unfoldable pub use Rattle.plan_listing.specs.Reading.{plan_cell_at, plan_cells_at, plan_listing_at, plan_step_with, sources_at}
