-- What is known of the stress periods of a model while its packages of stresses are read.
use Rattle.model_reader.proofs.Common.{ArrayKind, Area, HasArrays, no_area, recharge_arrays, evaporation_arrays, steps, Kind, entries_in, given_heads, kind_of, with_entries, with_list, IsListOf}
use Rattle.model_reader.proofs.Common.{ListKind, Drains, Generals, Rivers, Wells, is_option, IsGrowing, IsTimed, cell_count, number_one, Grid, Limits, FlowModel, Period, Stresses, All, List, []}
use Rattle.model_reader.proofs.Common.{false, inl, inr, map, pos, refl, subst, sym, true, ℕ, ℤ, ◌∙◌, ◌≡◌, ◌⊎◌, drains, generals, rivers, wells}
use Rattle.model_types.specs.declared.entry.Entry.{Entry}
use Rattle.model_types.specs.declared.entry.Given.{Given}

-- RCH or EVT is there by an option, or it isn't there
abbrev pub IsOption : ℤ → Type 0
IsOption z = (z ≡ pos 0) ⊎ (is_option z ≡ true)

-- its arrays by this option
pub record ByOption (kind : ArrayKind) (g : Grid) (ibound : List ℤ) (option : ℤ) (a : Area) : Type 0 where
  pub none : option ≡ pos 0 → a ≡ no_area
  pub some : is_option option ≡ true → HasArrays kind g ibound option a

-- recharge and evapotranspiration of stresses by NRCHOP and NEVTOP
pub record AreByOptions (g : Grid) (ibound : List ℤ) (nrchop nevtop : ℤ) (s : Stresses) : Type 0 where
  pub rch : ByOption recharge_arrays g ibound nrchop (recharge_arrays.area s)
  pub evt : ByOption evaporation_arrays g ibound nevtop (evaporation_arrays.area s)

-- stresses without their lists
abbrev pub arrays_of : Stresses → Stresses
arrays_of s = record s { wells = []; rivers = []; drains = []; generals = []; given = [] }

-- a period of a model with this grid, IBOUND, NRCHOP and NEVTOP, read by these limits
pub record IsKnown (limits : Limits) (g : Grid) (ibound : List ℤ) (nrchop nevtop : ℤ) (p : Period) : Type 0 where
  pub times : IsTimed p
  pub entries : (k : ListKind) → IsListOf limits (kind_of k) (cell_count g) p (entries_in k p.stresses)
  pub given : IsListOf limits given_heads (cell_count g) p p.stresses.given
  pub arrays : AreByOptions g ibound nrchop nevtop (arrays_of p.stresses)

-- another model with its own options and stresses
pub record IsStage (limits : Limits) (core : FlowModel) (nrchop nevtop : ℤ) (m : FlowModel) : Type 0 where
  pub is : m ≡ record core { nrchop = nrchop; nevtop = nevtop; periods = m.periods }
  pub same : map steps m.periods ≡ map steps core.periods
  pub each : All (IsKnown limits core.grid core.ibound nrchop nevtop) m.periods

module _ (p : Period) (s : Stresses) where
  grown : (p.tsmult ≡ number_one) ⊎ IsGrowing p → (p.tsmult ≡ number_one) ⊎ IsGrowing (record p { stresses = s })
  grown (inl e) = inl e
  grown (inr g) = inr (record { few = g.few; least = g.least; most = g.most })

  -- other stresses leave a period's times
  pub timed : IsTimed p → IsTimed (record p { stresses = s })
  timed t = record { nstp = t.nstp; perlen = t.perlen; lasts = t.lasts; tsmult = t.tsmult; growth = λ transient. grown (t.growth transient) }

-- a list of a period is one of another period that may have it
pub list_again : {E : Type 0} (limits : Limits) (kind : Kind E) (cells : ℕ) (p q : Period) (xs : List E) → kind.suits q xs ≡ kind.suits p xs →
    IsListOf limits kind cells p xs → IsListOf limits kind cells q xs
list_again limits kind cells p q xs same h = record { few = h.few; entries = h.entries; once = h.once; suits = same ∙ h.suits }

pub no_option : is_option (pos 0) ≡ true → ⊥
no_option e = let clash : false ≡ true = e in cc

module _ (limits : Limits) (g : Grid) (ibound : List ℤ) (nrchop nevtop : ℤ) (p : Period) where
  abbrev IsList : {E : Type 0} → Kind E → List E → Type 0
  IsList kind xs = IsListOf limits kind (cell_count g) p xs

  abbrev Known : Period → Type 0
  Known = IsKnown limits g ibound nrchop nevtop

  -- the period with other stresses
  pub with_stresses : (s : Stresses) → IsTimed p → ((k : ListKind) → IsList (kind_of k) (entries_in k s)) → IsList given_heads s.given → AreByOptions g ibound nrchop nevtop (arrays_of s)
      → Known (record p { stresses = s })
  with_stresses s times entries given arrays = record {
    times = timed p s times;
    entries = λ k. list_again limits (kind_of k) (cell_count g) p (record p { stresses = s }) (entries_in k s) refl (entries k);
    given = list_again limits given_heads (cell_count g) p (record p { stresses = s }) s.given refl given;
    arrays = arrays;
  }

  entries_put : (k j : ListKind) (s : Stresses) (xs : List Entry) → IsList (kind_of k) xs → IsList (kind_of j) (entries_in j s) → IsList (kind_of j) (entries_in j (with_entries k s xs))
  entries_put Wells Wells s xs list last = list
  entries_put Rivers Rivers s xs list last = list
  entries_put Drains Drains s xs list last = list
  entries_put Generals Generals s xs list last = list
  entries_put k j s xs list last = last

  others_kept : (k : ListKind) (s : Stresses) (xs : List Entry) → ((with_entries k s xs).given ≡ s.given) × (arrays_of (with_entries k s xs) ≡ arrays_of s)
  others_kept Wells s xs = (refl, refl)
  others_kept k s xs = (refl, refl)

  pub with_entry_list : (k : ListKind) (xs : List Entry) → Known p → IsList (kind_of k) xs → Known (with_list (kind_of k) p xs)
  with_entry_list k xs h list =
      let kept = others_kept k p.stresses xs in
      with_stresses (with_entries k p.stresses xs) h.times (λ j. entries_put k j p.stresses xs list (h.entries j))
      (subst (λ ys. IsList given_heads ys) (sym kept.0) h.given) (subst (AreByOptions g ibound nrchop nevtop) (sym kept.1) h.arrays)

  given_put : (k : ListKind) (s : Stresses) (xs : List Given) → IsList (kind_of k) (entries_in k s) → IsList (kind_of k) (entries_in k (record s { given = xs }))
  given_put Wells s xs h = h
  given_put k s xs h = h

  pub with_given_list : (xs : List Given) → Known p → IsList given_heads xs → Known (with_list given_heads p xs)
  with_given_list xs h list = with_stresses (record p.stresses { given = xs }) h.times (λ k. given_put k p.stresses xs (h.entries k)) list h.arrays
