-- What a file of WEL gives is a plan.
use Rattle.plan_wells.proofs.Common.{◌≡◌, ◌≤◌, ◌∙◌, arith, ℕ, Bool, ap, refl, subst, sym, All, List, length, map, replicate, Result, Ok, Err, length-map, length-replicate, All-map, All-replicate}
use Rattle.plan_wells.proofs.Common.{All-weaker, HasSize, cell_count, most_entries, no_number, no_period, Entry, FlowModel, Period, IsPlan, IsWell, plan_of}
use Rattle.outside.specs.{declared.inputs.Refusal.Refusal, declared.inputs.TextFault.TextFault, declared.inputs.TextFault.TheVariants.Memory, declared.inputs.TextFault.TheVariants.Refused}
use Rattle.record_lines.specs.{StopsText, ◌>>=◌}
use Rattle.model_types.specs.{declared.grid.Grid.Grid, declared.limits.Limits.Limits}
use Rattle.list_package.specs.{IsEntry, IsListOf, lists_of, package_of, with_list}
use Rattle.list_package.proofs.ListForms.{lists_are, steps}
use Rattle.stress_packages.specs.{wells}

abbrev pub wells_in : Period → List Entry
wells_in p = p.stresses.wells

record IsListed (limits : Limits) (cells : ℕ) (p : Period) : Type 0 where
  few : length p.stresses.wells ≤ most_entries limits
  wells : All (IsWell cells) p.stresses.wells

is_well : (cells : ℕ) (x : Entry) → IsEntry wells cells x → IsWell cells x
is_well cells x h =
    let one : length h.numbers ≡ 1 = h.count in
    subst (IsWell cells) (sym h.is) (h.inside, h.canonical 0 no_number (omega (arith, one)))

listed : (limits : Limits) (cells : ℕ) (p : Period) (xs : List Entry) → Unit {0} → IsListOf limits wells cells p xs → IsListed limits cells (with_list wells p xs)
listed limits cells p xs known h = record { few = h.few; wells = All-weaker (IsEntry wells cells) (IsWell cells) (is_well cells) xs h.entries }

pub is_plan : (limits : Limits) (file bytes : List ℕ) (g : Grid) (n : ℕ) (ps : List Period) → HasSize g → lists_of limits wells file bytes g (replicate n no_period) ≡ Ok ps →
    IsPlan limits g n (map wells_in ps)
is_plan limits file bytes g n ps size e =
    let known = All-replicate (λ (p : Period). Unit {0}) n no_period tt in
    let are = (lists_are limits wells (λ c ds. refl) file g size (λ p. Unit {0}) (IsListed limits (cell_count g)) (listed limits (cell_count g)) bytes (replicate n no_period) known).gives ps e in
    record {
      long = length-map ps wells_in ∙ sym (length-map ps steps) ∙ ap (λ (xs : List (ℕ × Bool)). length xs) are.1 ∙ length-map (replicate n no_period) steps ∙ length-replicate n no_period;
      few = All-map (λ (list : List Entry). length list ≤ most_entries limits) wells_in ps (All-weaker (IsListed limits (cell_count g)) _ (λ p h. h.few) ps are.0);
      wells = All-map (All (IsWell (cell_count g))) wells_in ps (All-weaker (IsListed limits (cell_count g)) _ (λ p h. h.wells) ps are.0);
    }

-- the lists, from what the reader of WEL gives
abbrev pub given : List (List Entry) → Result (List (List Entry)) Refusal
given lists = Ok lists

abbrev read_as : List Period → Result (List Period) Refusal
read_as ps = Ok ps

abbrev refused_by : Refusal → Result (List (List Entry)) Refusal
refused_by r = Err r

module _ (own : FlowModel) where
  plan_given : (read : Result (List Period) Refusal) (v : FlowModel) → (read >>= λ ps. Ok (record own { periods = ps })) ≡ Ok v →
      ((read >>= λ ps. Ok (map wells_in ps)) ≡ Ok (map wells_in v.periods)) × (read ≡ Ok v.periods) × (v ≡ record own { periods = v.periods })
  plan_given (Ok ps) v e =
      let is : record own { periods = ps } ≡ v = cc in
      let same : ps ≡ v.periods = ap (λ (w : FlowModel). w.periods) is in
      (ap (λ (xs : List Period). given (map wells_in xs)) same, ap (λ (xs : List Period). read_as xs) same, sym is ∙ ap (λ (xs : List Period). record own { periods = xs }) same)
  plan_given (Err r) v e = absurd (cc)

  plan_refused : (read : Result (List Period) Refusal) (r : Refusal) → (read >>= λ ps. Ok (record own { periods = ps })) ≡ Err r → (read >>= λ ps. Ok (map wells_in ps)) ≡ Err r
  plan_refused (Ok ps) r e = absurd (cc)
  plan_refused (Err q) r e = let same : q ≡ r = cc in ap (λ (x : Refusal). refused_by x) same

  -- what stops the reader of WEL stops that of a plan
  stops : (read : Result (List Period) Refusal) (fault : TextFault) → StopsText fault (read >>= λ ps. Ok (record own { periods = ps })) → StopsText fault (read >>= λ ps. Ok (map wells_in ps))
  stops read (Refused r) h = plan_refused read r h
  stops read Memory h = tt

-- the file read into a model whose periods have no stresses
module _ (limits : Limits) (file bytes : List ℕ) (m blank : FlowModel) (are : blank ≡ record m { periods = replicate (length m.periods) no_period }) where
  pub plan_stops : (fault : TextFault) → StopsText fault (package_of limits wells file bytes blank) → StopsText fault (plan_of limits file bytes m.grid (length m.periods))
  unfolding package_of
  plan_stops fault h =
      stops m (lists_of limits wells file bytes m.grid (replicate (length m.periods) no_period)) fault
      (subst (λ (b : FlowModel). StopsText fault (package_of limits wells file bytes b)) are h)

  pub plan_reads : (v : FlowModel) → package_of limits wells file bytes blank ≡ Ok v →
      (plan_of limits file bytes m.grid (length m.periods) ≡ Ok (map wells_in v.periods)) × (lists_of limits wells file bytes m.grid (replicate (length m.periods) no_period) ≡ Ok v.periods)
      × (v ≡ record m { periods = v.periods })
  unfolding package_of
  plan_reads v h =
      plan_given m (lists_of limits wells file bytes m.grid (replicate (length m.periods) no_period)) v
      (subst (λ (b : FlowModel). package_of limits wells file bytes b ≡ Ok v) are h)
