-- What a file of RCH or of EVT gives.
use Rattle.model_reader.proofs.Common.{ok_gives_only, then_, GivesOnly, evaporation_arrays, evt_of, steps, entries_in, kind_of, IsListOf, ListKind, Wells, HasSize, cell_count, Grid, Limits, FlowModel}
use Rattle.model_reader.proofs.Common.{Period, Stresses, FileSet, ArrayKind, arrays_in, is_option, with_area, Area, ◌>>=◌, All, List, Ok, false, inr, map, pos, refl, subst, sym, true, ℕ, ℤ, ◌∙◌, ◌≡◌}
use Rattle.model_reader.proofs.Common.{rch_of, recharge_arrays, IsArea}
use Rattle.model_reader.proofs.{CheckForms.columns_again, PeriodForms.ByOption, PeriodForms.IsKnown, PeriodForms.IsOption, PeriodForms.IsStage, PeriodForms.no_option, PeriodForms.with_stresses}
use Rattle.period_arrays.proofs.FileForms.{IsTested, arrays_are_read}

-- a model with the arrays of a file by its option, on which NRCHOP and NEVTOP depend so; option 0 where there is no file
pub record HasOption (limits : Limits) (core : FlowModel) (rain air : ℤ → ℤ) (n : FlowModel) : Type 0 where
  pub option : ℤ
  pub by : IsOption option
  pub stage : IsStage limits core (rain option) (air option) n

module _ (limits : Limits) (kind : ArrayKind) (files : FileSet) (file bytes : List ℕ) (core : FlowModel) (size : HasSize core.grid) (rain air : ℤ → ℤ) where
  abbrev Known : ℤ → Period → Type 0
  Known option = IsKnown limits core.grid core.ibound (rain option) (air option)

  abbrev at_stage : ℤ → List Period → FlowModel
  at_stage option ps = record core { nrchop = rain option; nevtop = air option; periods = ps }

  pub package_is : ((option : ℤ) → is_option option ≡ true → (p : Period) (a : Area) → Known (pos 0) p → IsTested kind file core.grid core.ibound option a → Known option (with_area kind p a))
      → (ps : List Period) → All (Known (pos 0)) ps → map steps ps ≡ map steps core.periods
      → GivesOnly (HasOption limits core rain air) (arrays_in kind files file bytes core.grid core.ibound ps >>= λ a. Ok (at_stage a.option a.periods))
  package_is put ps all same =
      then_ _ (arrays_are_read kind files file core.grid size core.ibound (Known (pos 0)) Known put bytes ps all)
      (λ a are. ok_gives_only (record { option = a.option; by = inr are.active; stage = record { is = refl; same = are.same ∙ same; each = are.each } }))

module _ (limits : Limits) (file : List ℕ) (g : Grid) (ibound : List ℤ) (p : Period) (a : Area) where
  abbrev IsList : ListKind → Stresses → Type 0
  IsList k s = IsListOf limits (kind_of k) (cell_count g) p (entries_in k s)

  rain_put : (k : ListKind) (s : Stresses) → IsList k s → IsList k (recharge_arrays.put s a)
  rain_put Wells s h = h
  rain_put k s h = h

  by_option : (kind : ArrayKind) (option : ℤ) (b : Area) → is_option option ≡ true → IsArea kind.evaporates g option b →
      ((other : List ℕ) → kind.test other g ibound option b ≡ Ok tt) → ByOption kind g ibound option b
  by_option kind option b active is passed = record { none = λ e. absurd (no_option (subst (λ (z : ℤ). is_option z ≡ true) e active)); some = λ e. record { is = is; passed = passed } }

  recharged : (option : ℤ) → is_option option ≡ true → IsKnown limits g ibound (pos 0) (pos 0) p → IsTested recharge_arrays file g ibound option a →
      IsKnown limits g ibound option (pos 0) (with_area recharge_arrays p a)
  recharged option active h is = with_stresses limits g ibound option (pos 0) p (recharge_arrays.put p.stresses a) h.times (λ k. rain_put k p.stresses (h.entries k)) h.given (record {
    rch = by_option recharge_arrays option _ active (record {
      surfaces = λ e. absurd (let clash : false ≡ true = e in cc);
      rates = is.has.rates;
      depths = λ e.
          absurd (let clash : false ≡ true = e in cc);
      layers = is.has.layers;
    }) (λ other. refl);
    evt = h.arrays.evt;
  })

  air_put : (k : ListKind) (s : Stresses) → IsList k s → IsList k (evaporation_arrays.put s a)
  air_put Wells s h = h
  air_put k s h = h

  evaporating : (nrchop option : ℤ) → is_option option ≡ true → IsKnown limits g ibound nrchop (pos 0) p → IsTested evaporation_arrays file g ibound option a →
      IsKnown limits g ibound nrchop option (with_area evaporation_arrays p a)
  evaporating nrchop option active h is = with_stresses limits g ibound nrchop option p (evaporation_arrays.put p.stresses a) h.times (λ k. air_put k p.stresses (h.entries k)) h.given (record {
    rch = h.arrays.rch;
    evt = by_option evaporation_arrays option _ active is.has (λ other. columns_again file other g ibound option a is.passed);
  })

module _ (limits : Limits) (files : FileSet) (file bytes : List ℕ) (core : FlowModel) (size : HasSize core.grid) where
  pub rch_is : (m : FlowModel) → IsStage limits core (pos 0) (pos 0) m → GivesOnly (HasOption limits core (λ z. z) (λ z. pos 0)) (rch_of files file bytes m)
  unfolding rch_of
  rch_is m stage =
      subst (λ (x : FlowModel). GivesOnly (HasOption limits core (λ z. z) (λ z. pos 0)) (rch_of files file bytes x)) (sym stage.is)
      (package_is limits recharge_arrays files file bytes core size (λ z. z) (λ z. pos 0) (λ z active p a. recharged limits file core.grid core.ibound p a z active) m.periods stage.each stage.same)

  pub evt_is : (nrchop : ℤ) (m : FlowModel) → IsStage limits core nrchop (pos 0) m → GivesOnly (HasOption limits core (λ z. nrchop) (λ z. z)) (evt_of files file bytes m)
  unfolding evt_of
  evt_is nrchop m stage =
      subst (λ (x : FlowModel). GivesOnly (HasOption limits core (λ z. nrchop) (λ z. z)) (evt_of files file bytes x)) (sym stage.is)
      (package_is limits evaporation_arrays files file bytes core size (λ z. nrchop) (λ z. z) (λ z active p a.
      evaporating limits file core.grid core.ibound p a nrchop z active) m.periods stage.each stage.same)
