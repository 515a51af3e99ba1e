pub mod Terms
pub use Rattle.gentle_terms.specs.Terms.{HistoryTermsLieBetween, InOrder, TermsAreInOrder, TermsLieAt, TermsLieFrom, stored_term}
unfoldable pub use Rattle.gentle_terms.specs.Terms.{water_term}
