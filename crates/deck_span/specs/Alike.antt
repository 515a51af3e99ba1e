-- When two models are alike: they have the same shape, so that models and choices lie between them.
use Rattle.std.specs.Prelude.{◌≡◌, ◌==◌, length}
use Rattle.std.specs.List.{AllZip}
use Rattle.decimal_input.specs.declared.dec.Dec.{Dec}
use Rattle.model_types.specs.{declared.model.FlowModel.FlowModel, declared.period.Period.Period, declared.entry.Entry.Entry}
use Rattle.model_types.specs.{declared.entry.Entry.TheVariants.Well, declared.entry.Entry.TheVariants.River, declared.entry.Entry.TheVariants.Drain}
use Rattle.model_types.specs.{declared.entry.Entry.TheVariants.General, no_number}
use Rattle.model_types.specs.declared.entry.Given.{Given}
use Rattle.deck_span.specs.Models.{period_frame, frame}

-- an entry of a list with its numbers at 0: its package and its cell
abbrev pub entry_frame : Entry → Entry
entry_frame (Well cell q) = Well cell no_number
entry_frame (River cell stage cond bottom) = River cell no_number no_number no_number
entry_frame (Drain cell elevation cond) = Drain cell no_number no_number
entry_frame (General cell head cond) = General cell no_number no_number

-- entries of WEL, RIV, DRN and GHB: the same package and cell
abbrev pub AreEntriesAlike : Entry → Entry → Type 0
AreEntriesAlike a b = entry_frame b ≡ entry_frame a

-- rates of EVT: both are 0, or neither
abbrev pub AreRatesAlike : Dec → Dec → Type 0
AreRatesAlike a b = (b.digits == 0) ≡ (a.digits == 0)

-- entries of CHD: the same cell
abbrev pub AreGivenAlike : Given → Given → Type 0
AreGivenAlike a b = b.cell ≡ a.cell

-- Two periods: the same frame, lists of the same cells in the same order, arrays of one length, and EVT's rate is 0 at
-- the same places.
pub record ArePeriodsAlike (a b : Period) : Type 0 where
  pub same : period_frame b ≡ period_frame a
  pub wells : AllZip AreEntriesAlike a.stresses.wells b.stresses.wells
  pub rivers : AllZip AreEntriesAlike a.stresses.rivers b.stresses.rivers
  pub drains : AllZip AreEntriesAlike a.stresses.drains b.stresses.drains
  pub generals : AllZip AreEntriesAlike a.stresses.generals b.stresses.generals
  pub given : AllZip AreGivenAlike a.stresses.given b.stresses.given
  pub recharge : length b.stresses.recharge ≡ length a.stresses.recharge
  pub surf : length b.stresses.surf ≡ length a.stresses.surf
  pub evtr : AllZip AreRatesAlike a.stresses.evtr b.stresses.evtr

-- two models
pub record AreAlike (a b : FlowModel) : Type 0 where
  pub same : frame b ≡ frame a
  pub strt : length b.strt ≡ length a.strt
  pub periods : AllZip ArePeriodsAlike a.periods b.periods
