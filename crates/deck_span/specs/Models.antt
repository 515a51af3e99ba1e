-- When a model lies between two others: the three differ in numbers of their stresses and in STRT alone, and each of
-- these lies between the two others' number at its place. Which number may differ:
-- WEL: the rate. RIV: stage, conductance, bottom. DRN: elevation, conductance. GHB: head, conductance. RCH: the flux.
-- EVT: surface and rate, and a rate is 0 in all three or in none. CHD: the head at each part of the period. BAS6: STRT.
use Rattle.std.specs.Prelude.{◌≡◌, ◌==◌, [], ◌≤◌}
use Rattle.decimal_input.specs.{declared.dec.Dec.Dec, number, size, Ratio, Ratios.den}
use Rattle.model_types.specs.{declared.grid.CellId.CellId, declared.model.FlowModel.FlowModel, declared.period.Period.Period, no_stresses, between_heads}
use Rattle.model_types.specs.{declared.entry.Entry.Entry, declared.entry.Entry.TheVariants.Well, declared.entry.Entry.TheVariants.River}
use Rattle.model_types.specs.{declared.entry.Entry.TheVariants.Drain, declared.entry.Entry.TheVariants.General}
use Rattle.model_types.specs.declared.entry.Given.{Given}
use Rattle.deck_span.specs.Steps.{AllThree, IsFractionBetween, IsRatioBetween}

-- numbers of a file
abbrev pub IsDecBetween : Dec → Dec → Dec → Type 0
IsDecBetween a m b = IsFractionBetween (number a) (number m) (number b)

-- numbers of a file that can't be negative, as conductances
abbrev pub IsSizeBetween : Dec → Dec → Dec → Type 0
IsSizeBetween a m b = IsRatioBetween (size a) (size m) (size b)

-- entries of WEL, RIV, DRN and GHB: the same package and cell, and each number between
pub data IsEntryBetween : Entry → Entry → Entry → Type 0 where
  wells : {cell : CellId} {q₁ q₂ q₃ : Dec} → IsDecBetween q₁ q₂ q₃ → IsEntryBetween (Well cell q₁) (Well cell q₂) (Well cell q₃)
  rivers : {cell : CellId} {s₁ s₂ s₃ k₁ k₂ k₃ r₁ r₂ r₃ : Dec} → IsDecBetween s₁ s₂ s₃ → IsSizeBetween k₁ k₂ k₃ → IsDecBetween r₁ r₂ r₃ →
      IsEntryBetween (River cell s₁ k₁ r₁) (River cell s₂ k₂ r₂) (River cell s₃ k₃ r₃)
  drains : {cell : CellId} {e₁ e₂ e₃ k₁ k₂ k₃ : Dec} → IsDecBetween e₁ e₂ e₃ → IsSizeBetween k₁ k₂ k₃ →
      IsEntryBetween (Drain cell e₁ k₁) (Drain cell e₂ k₂) (Drain cell e₃ k₃)
  generals : {cell : CellId} {h₁ h₂ h₃ k₁ k₂ k₃ : Dec} → IsDecBetween h₁ h₂ h₃ → IsSizeBetween k₁ k₂ k₃ →
      IsEntryBetween (General cell h₁ k₁) (General cell h₂ k₂) (General cell h₃ k₃)

-- Entries of CHD: the head at each part of the period lies between the others' heads there, and so does Ehead, which later periods keep
-- (TM 6-A16, chapter 6, CHD: a head goes linearly from Shead to Ehead).
pub record IsGivenBetween (a m b : Given) : Type 0 where
  pub cell : m.cell ≡ a.cell
  pub alike : b.cell ≡ a.cell
  pub heads : (part : Ratio) → part.num ≤ den part → IsFractionBetween (between_heads a part) (between_heads m part) (between_heads b part)
  pub end : IsFractionBetween (number a.ehead) (number m.ehead) (number b.ehead)

-- rates of EVT: a cell whose rate is 0 has no evapotranspiration
pub record IsRateBetween (a m b : Dec) : Type 0 where
  pub rate : IsSizeBetween a m b
  pub idle : (m.digits == 0) ≡ (a.digits == 0)
  pub alike : (b.digits == 0) ≡ (a.digits == 0)

-- a period without the numbers that may differ: its length and steps, and IRCH, IEVT and EXDP, stay
abbrev pub period_frame : Period → Period
period_frame p = record p { stresses = record no_stresses { irch = p.stresses.irch; exdp = p.stresses.exdp; ievt = p.stresses.ievt } }

-- a model without them: its grid, IBOUND, options, HK, HANI, VKA, VKCB and SS stay
abbrev pub frame : FlowModel → FlowModel
frame m = record m { strt = []; periods = [] }

pub record IsPeriodBetween (a m b : Period) : Type 0 where
  pub same : period_frame m ≡ period_frame a
  pub alike : period_frame b ≡ period_frame a
  pub wells : AllThree IsEntryBetween a.stresses.wells m.stresses.wells b.stresses.wells
  pub rivers : AllThree IsEntryBetween a.stresses.rivers m.stresses.rivers b.stresses.rivers
  pub drains : AllThree IsEntryBetween a.stresses.drains m.stresses.drains b.stresses.drains
  pub generals : AllThree IsEntryBetween a.stresses.generals m.stresses.generals b.stresses.generals
  pub given : AllThree IsGivenBetween a.stresses.given m.stresses.given b.stresses.given
  pub recharge : AllThree IsDecBetween a.stresses.recharge m.stresses.recharge b.stresses.recharge
  pub surf : AllThree IsDecBetween a.stresses.surf m.stresses.surf b.stresses.surf
  pub evtr : AllThree IsRateBetween a.stresses.evtr m.stresses.evtr b.stresses.evtr

-- the model m lies between the models a and b
pub record IsBetween (a m b : FlowModel) : Type 0 where
  pub same : frame m ≡ frame a
  pub alike : frame b ≡ frame a
  pub strt : AllThree IsDecBetween a.strt m.strt b.strt
  pub periods : AllThree IsPeriodBetween a.periods m.periods b.periods
