pub mod Puts
pub use Rattle.view_puts.specs.Puts.{AreAllShown, IsPutOf, IsStopPut, LeadOn, ViewPuts, no_lead, no_view}
