-- The packages of stresses are read one after the other, each where the name file names it.
use Rattle.model_reader.proofs.Common.{ok_gives_only, goes_on, then_, GivesOnly, Dec, IsNewPeriod, without_stresses, evt_of, Kind, entries_in, given_heads, kind_of, package_of, with_list, IsEntry}
use Rattle.model_reader.proofs.Common.{IsListOf, ListKind, Drains, Generals, Rivers, Wells, file_in, stresses, where_named, with_stresses, HasSize, IsTimed, cell_count, Grid, Limits, FlowModel}
use Rattle.model_reader.proofs.Common.{Period, file_of, Pairs, Chd, Drn, Evt, Ghb, Rch, Riv, Wel, FileSet, file_at, All, Bool, List, None, Option, Some, [], arith, false, inl, Refusal, Result, map}
use Rattle.model_reader.proofs.Common.{pos, refl, subst, sym, true, ℕ, ℤ, ◌∙◌, ◌≡◌, All-nil, if◌then◌else◌, rch_of, wells, lists_are, steps, entry_place_is_cell}
use Rattle.model_types.specs.declared.grid.CellId.{CellId}
use Rattle.model_reader.proofs.RchForms.{HasOption, evt_is, rch_is}
use Rattle.model_reader.proofs.PeriodForms.{IsKnown, IsOption, IsStage, no_option, with_entry_list, with_given_list}

-- a list package, from one stage to the next
module _ {E : Type 0} (limits : Limits) (kind : Kind E) (placed : (c : CellId) (ds : List Dec) → kind.place (kind.entry c ds) ≡ c.0) (core : FlowModel) (size : HasSize core.grid) (nrchop : ℤ)
    (put : (p : Period) (xs : List E) → IsKnown limits core.grid core.ibound nrchop (pos 0) p → IsListOf limits kind (cell_count core.grid) p xs →
    IsKnown limits core.grid core.ibound nrchop (pos 0) (with_list kind p xs)) where
  abbrev at_stage : List Period → FlowModel
  at_stage ps = record core { nrchop = nrchop; nevtop = pos 0; periods = ps }

  abbrev Known : Period → Type 0
  Known p = IsKnown limits core.grid core.ibound nrchop (pos 0) p

  from_stage : (file bytes : List ℕ) (ps : List Period) → All Known ps → map steps ps ≡ map steps core.periods →
      GivesOnly (IsStage limits core nrchop (pos 0)) (package_of limits kind file bytes (at_stage ps))
  unfolding package_of
  from_stage file bytes ps all same =
      then_ _ (lists_are limits kind placed file core.grid size Known Known put bytes ps all) (λ qs are. ok_gives_only (record { is = refl; same = are.1 ∙ same; each = are.0 }))

  pub package_is : (file bytes : List ℕ) (m : FlowModel) → IsStage limits core nrchop (pos 0) m → GivesOnly (IsStage limits core nrchop (pos 0)) (package_of limits kind file bytes m)
  package_is file bytes m stage =
      subst (λ (x : FlowModel). GivesOnly (IsStage limits core nrchop (pos 0)) (package_of limits kind file bytes x)) (sym stage.is) (from_stage file bytes m.periods stage.each stage.same)

-- a period without stresses
empty_list : {E : Type 0} (limits : Limits) (kind : Kind E) (cells : ℕ) (p : Period) → kind.suits p [] ≡ true → IsListOf limits kind cells p []
empty_list limits kind cells p suits = record { few = omega arith; entries = All-nil (IsEntry kind cells); once = λ e i j d lt low. absurd (omega (arith, low)); suits = suits }

either : (b : Bool) → (if b then true else true) ≡ true
either true = refl
either false = refl

no_entries : (limits : Limits) (cells : ℕ) (p : Period) (k : ListKind) → IsListOf limits (kind_of k) cells (without_stresses p) (entries_in k (without_stresses p).stresses)
no_entries limits cells p Wells = empty_list limits wells cells (without_stresses p) refl
no_entries limits cells p k = empty_list limits (kind_of k) cells (without_stresses p) refl

bare : (limits : Limits) (g : Grid) (ibound : List ℤ) (p : Period) → IsTimed (without_stresses p) → IsKnown limits g ibound (pos 0) (pos 0) (without_stresses p)
bare limits g ibound p times = grind (arith, no_entries, empty_list, either, no_option)

new_known : (limits : Limits) (g : Grid) (ibound : List ℤ) (p : Period) → IsNewPeriod p → IsKnown limits g ibound (pos 0) (pos 0) p
new_known limits g ibound p h = subst (λ (q : Period). IsKnown limits g ibound (pos 0) (pos 0) q) (sym h.new) (bare limits g ibound p (subst (λ (q : Period). IsTimed q) h.new h.times))

pub first_stage : (limits : Limits) (core : FlowModel) → core.nrchop ≡ pos 0 → core.nevtop ≡ pos 0 → All IsNewPeriod core.periods → IsStage limits core (pos 0) (pos 0) core
first_stage limits core r e new = grind (arith, new_known)

-- a model with stresses
pub record IsStressed (limits : Limits) (core n : FlowModel) : Type 0 where
  pub nrchop : ℤ
  pub nevtop : ℤ
  pub options : IsOption nrchop × IsOption nevtop
  pub stage : IsStage limits core nrchop nevtop n

module _ (limits : Limits) (core : FlowModel) (size : HasSize core.grid) (files : FileSet) where
  -- a package that is read where the name file names it
  named_is : (P : FlowModel → Type 0) (read : List ℕ → List ℕ → FlowModel → Result FlowModel Refusal) (m : FlowModel) → P m →
      ((name bytes : List ℕ) → GivesOnly P (read name bytes m)) → (named : Option (List ℕ))
      → GivesOnly P (where_named named (file_in read files) m)
  unfolding file_in
  named_is P read m here is None = ok_gives_only here
  named_is P read m here is (Some name) = goes_on (file_at files name) _ (λ bytes e. is name bytes)

  list_stage : {E : Type 0} (kind : Kind E) → ((c : CellId) (ds : List Dec) → kind.place (kind.entry c ds) ≡ c.0) → (nrchop : ℤ)
      → ((p : Period) (xs : List E) → IsKnown limits core.grid core.ibound nrchop (pos 0) p → IsListOf limits kind (cell_count core.grid) p xs →
      IsKnown limits core.grid core.ibound nrchop (pos 0) (with_list kind p xs))
      → (named : Option (List ℕ)) (m : FlowModel) → IsStage limits core nrchop (pos 0) m → GivesOnly (IsStage limits core nrchop (pos 0)) (where_named named (file_in (package_of limits kind) files) m)
  list_stage kind placed nrchop put named m stage = named_is _ _ m stage (λ name bytes. package_is limits kind placed core size nrchop put name bytes m stage) named

  entries_stage : (k : ListKind) (named : Option (List ℕ)) (m : FlowModel) → IsStage limits core (pos 0) (pos 0) m
      → GivesOnly (IsStage limits core (pos 0) (pos 0)) (where_named named (file_in (package_of limits (kind_of k)) files) m)
  entries_stage k = list_stage (kind_of k) (entry_place_is_cell k) (pos 0) (λ p. with_entry_list limits core.grid core.ibound (pos 0) (pos 0) p k)

  rain_stage : (named : Option (List ℕ)) (m : FlowModel) → IsStage limits core (pos 0) (pos 0) m →
      GivesOnly (HasOption limits core (λ z. z) (λ z. pos 0)) (where_named named (file_in (rch_of files) files) m)
  rain_stage named m stage = named_is _ _ m (record { option = pos 0; by = inl refl; stage = stage }) (λ name bytes. rch_is limits files name bytes core size m stage) named

  air_stage : (nrchop : ℤ) (named : Option (List ℕ)) (m : FlowModel) → IsStage limits core nrchop (pos 0) m →
      GivesOnly (HasOption limits core (λ z. nrchop) (λ z. z)) (where_named named (file_in (evt_of files) files) m)
  air_stage nrchop named m stage = named_is _ _ m (record { option = pos 0; by = inl refl; stage = stage }) (λ name bytes. evt_is limits files name bytes core size nrchop m stage) named

  pub stresses_are : (names : Pairs) → IsStage limits core (pos 0) (pos 0) core → GivesOnly (IsStressed limits core) (with_stresses limits files names stresses core)
  unfolding with_stresses
  stresses_are names stage =
      then_ _ (entries_stage Wells (file_of Wel names) core stage) (λ wel a. then_ _ (entries_stage Rivers (file_of Riv names) wel a) (λ riv b. then_ _ (entries_stage Drains (file_of Drn names) riv b)
      (λ drn c. then_ _ (entries_stage Generals (file_of Ghb names) drn c) (λ ghb d. then_ _ (rain_stage (file_of Rch names) ghb d)
      (λ rch rain. then_ _ (list_stage given_heads (λ c ds. refl) rain.option (λ p. with_given_list limits core.grid core.ibound rain.option (pos 0) p) (file_of Chd names) rch rain.stage)
      (λ chd given. then_ _ (air_stage rain.option (file_of Evt names) chd given)
      (λ evt is. ok_gives_only (record { nrchop = rain.option; nevtop = is.option; options = (rain.by, is.by); stage = is.stage }))))))))
