pub mod Summaries
pub use Rattle.listing_summary.specs.Summaries.{Fits, IsSummarized, count_line, head_line, most_heads, nothing, printed_heads, summary_of, width}
pub use Rattle.listing_summary.specs.Summaries.{with_head_line, with_step}
unfoldable pub use Rattle.listing_summary.specs.Summaries.{printed_bounds, summary_text}
