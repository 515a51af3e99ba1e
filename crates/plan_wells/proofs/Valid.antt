-- A valid model with a plan's wells is valid.
use Rattle.plan_wells.proofs.Common.{◌≡◌, ◌≤◌, ℕ, refl, true, inl, inr, arith, All, List, length, nat_le, le-leb, leb-true, length-append, All-append, All-weaker, AllPass-from_list_all}
use Rattle.plan_wells.proofs.Common.{list_all-from_AllPass, IsBedChecked, IsCellValid, IsEntryValid, IsEvapValid, IsPeriod, IsTimed, cell_count, evap_sources, most_entries, Entry, Well, River, Drain}
use Rattle.plan_wells.proofs.Common.{General, FlowModel, Period, IsWell, PlainAreFew, PlannedAreValid, are_few, with_plan, with_wells}
use Rattle.model_types.specs.declared.limits.Limits.TheVariants.{Plain, Wide}
use Rattle.plan_wells.proofs.Added.{all_planned, as_many, period_is, planned_periods, sum_kept}

well_valid : (cells : ℕ) (x : Entry) → IsWell cells x → IsEntryValid cells x
well_valid cells (Well c q) h = h
well_valid cells (River c s k b) h = absurd h
well_valid cells (Drain c e k) h = absurd h
well_valid cells (General c e k) h = absurd h

timed : (w : List Entry) (p : Period) → IsTimed p → IsTimed (with_wells p w)
timed w p t = record {
  nstp = t.nstp;
  perlen = t.perlen;
  lasts = t.lasts;
  tsmult = t.tsmult;
  growth = λ e. elim (t.growth e) [ inl h ↦ inl h | inr h ↦ inr (record { few = h.few; least = h.least; most = h.most }) ];
}

module _ (m : FlowModel) (plan : List (List Entry)) where
  abbrev own : FlowModel
  own = with_plan plan m

  abbrev cells : ℕ
  cells = cell_count m.grid

  -- a period is valid once its wells are few
  abbrev IsValidIfFew : Period → Type 0
  IsValidIfFew q = length q.stresses.wells ≤ most_entries Wide → IsPeriod own q

  period_valid : (p : Period) (w : List Entry) → IsPeriod m p → All (IsWell cells) w → IsValidIfFew (with_wells p w)
  period_valid p w h all few = record {
    times = timed w p h.times;
    stresses = record {
      wells = record { few = few; entries = All-append (IsEntryValid cells) p.stresses.wells w h.stresses.wells.entries (All-weaker (IsWell cells) (IsEntryValid cells) (well_valid cells) w all) };
      rivers = h.stresses.rivers;
      drains = h.stresses.drains;
      generals = h.stresses.generals;
      given = h.stresses.given;
      recharge = h.stresses.recharge;
      irch = h.stresses.irch;
      surf = h.stresses.surf;
      evtr = h.stresses.evtr;
      exdp = h.stresses.exdp;
      ievt = h.stresses.ievt;
    };
  }

  few_are : are_few own ≡ true → All (λ q. length q.stresses.wells ≤ most_entries Wide) own.periods
  few_are e k d lt = leb-true _ (most_entries Wide) (AllPass-from_list_all (λ q. nat_le (length q.stresses.wells) (most_entries Wide)) own.periods e k d lt)

  cell_valid : (c : ℕ) → IsCellValid m c → IsCellValid own c
  cell_valid c h = record { thick = h.thick; strt = h.strt; hk = h.hk; hani = h.hani; vka = h.vka; ss = h.ss }

  bed_checked : (c : ℕ) → IsBedChecked m c → IsBedChecked own c
  bed_checked c (inl e) = inl e
  bed_checked c (inr h) = inr (record { thick = h.thick; vkcb = h.vkcb })

  evaps_valid : length plan ≡ length m.periods → (p c : ℕ) → All IsEvapValid (evap_sources m p c) → All IsEvapValid (evap_sources own p c)
  evaps_valid long p c h = rw (period_is m plan p long) h

pub planned_are_valid : PlannedAreValid
planned_are_valid limits plan m valid is few = record {
  grid = valid.grid;
  ibound = valid.ibound;
  strt = valid.strt;
  layvka = valid.layvka;
  hk = valid.hk;
  hani = valid.hani;
  vka = valid.vka;
  vkcb = valid.vkcb;
  ss = elim valid.ss [
    | inl all ↦ inl (all_planned (λ p. p.steady ≡ true) (λ p. p.steady ≡ true) (λ w. Unit {0}) (λ p w h k. h) m.periods plan all (λ k d lt. tt))
    | inr e ↦ inr e
  ];
  cells = λ c h a. cell_valid m plan c (valid.cells c h a);
  beds = λ c h a b e. bed_checked m plan c (valid.beds c h a b e);
  nrchop = valid.nrchop;
  nevtop = valid.nevtop;
  some = omega (arith, many, valid.some);
  few = omega (arith, many, valid.few);
  steps = omega (arith, sum_kept (λ p. p.nstp) (λ p w. refl) m.periods plan is.long, valid.steps);
  periods = λ k d lt. whole k d lt (few_are m plan few k d lt);
  evaps = λ p c h a. evaps_valid m plan is.long p c (valid.evaps p c h a);
}
  where
    many : length (planned_periods m.periods plan) ≡ length m.periods
    many = as_many m.periods plan is.long

    whole : All (IsValidIfFew m plan) (planned_periods m.periods plan)
    whole = all_planned (IsPeriod m) (IsValidIfFew m plan) (All (IsWell (cell_count m.grid))) (period_valid m plan) m.periods plan valid.periods is.wells

pub plain_are_few : PlainAreFew
plain_are_few plan m own is = list_all-from_AllPass (λ q. nat_le (length q.stresses.wells) (most_entries Wide)) (planned_periods m.periods plan) (λ k d lt. le-leb _ (most_entries Wide) (few k d lt))
  where
    both : (p : Period) (w : List Entry) → length p.stresses.wells ≤ most_entries Plain → length w ≤ most_entries Plain → length (with_wells p w).stresses.wells ≤ most_entries Wide
    both p w h k = omega (arith, length-append p.stresses.wells w, h, k)

    few : All (λ q. length q.stresses.wells ≤ most_entries Wide) (planned_periods m.periods plan)
    few = all_planned (λ p. length p.stresses.wells ≤ most_entries Plain) (λ q. length q.stresses.wells ≤ most_entries Wide) (λ w. length w ≤ most_entries Plain) both m.periods plan own is.few
