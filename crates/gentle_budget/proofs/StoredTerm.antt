-- The term of stored water encloses the exact one at the listed heads.
use Rattle.gentle_budget.proofs.Common.{◌≡◌, ℕ, ℤ, ◌+◌, ◌+ℤ◌, ◌<◌, List, [], ◌∷◌, All, get_or, map, refl, sym, ap, ◌∙◌, subst, arith, Contains, All-head, All-tail, EnclosesSigned, Fraction}
use Rattle.gentle_budget.proofs.Common.{fraction_total, total, Entries, Bound, Side, High, Low, Dir, In, Out, heads_on, TermPair, exact_part, part, IsModel, times, variable_cells, FlowModel, TimeStep}
use Rattle.gentle_budget.proofs.Common.{ConvertibleLayers, listed_heads, storage_flow, with_yield, one_head, stored_term, joined_pair, storage_term, stored_pair}
use mathlib.Core.List.{map-map}
use Rattle.cell_balance.proofs.Enclosing.{in_encloses, none_encloses, out_encloses, plus_encloses}
use Rattle.problem_builder.specs.{HeadsEnclose, IsActive, bound_at}
use Rattle.water_storage.specs.{ArePairs, stored_flow}
use Rattle.water_storage.proofs.Flows.{stored_flows_enclose}
unfoldable use Rattle.budget_bounds.specs.{parts}

-- a sum of bounds encloses the sum of what they enclose
sum_holds : (lo hi : ℕ → ℤ) (k : ℕ) (f : ℕ → Fraction) (cs : List ℕ) → All (λ c. EnclosesSigned (lo c) (hi c) k (f c)) cs →
    EnclosesSigned (total lo cs) (total hi cs) k (fraction_total f cs)
sum_holds lo hi k f [] h = none_encloses k
sum_holds lo hi k f (c ∷ cs) h =
    plus_encloses _ _ _ _ k _ _ (All-head (λ x. EnclosesSigned (lo x) (hi x) k (f x)) c cs h) (sum_holds lo hi k f cs (All-tail (λ x. EnclosesSigned (lo x) (hi x) k (f x)) c cs h))

-- the parts of pairs by cell
parts_are : (dir : Dir) (g : ℕ → TermPair) (cs : List ℕ) → parts dir (map g cs) ≡ record { lo = total (λ c. (part dir (g c)).lo) cs; hi = total (λ c. (part dir (g c)).hi) cs }
unfolding parts
parts_are dir g [] = refl
parts_are dir g (c ∷ cs) = ap (λ (x : TermPair). record { lo = (part dir (g c)).lo +ℤ x.lo; hi = (part dir (g c)).hi +ℤ x.hi }) (parts_are dir g cs)

part_holds : (dir : Dir) (x : TermPair) (k : ℕ) (f : Fraction) → EnclosesSigned x.lo x.hi k f → EnclosesSigned (part dir x).lo (part dir x).hi k (exact_part dir f)
part_holds In x k f h = in_encloses x.lo x.hi k f h
part_holds Out x k f h = out_encloses x.lo x.hi k f h

module _ (m : FlowModel) (w : ConvertibleLayers) (s : ℕ) (at : TimeStep) (old listed : List Bound) where
  -- both bounds of the flow of stored water to the head of a side
  abbrev pub pair_on : Side → ℕ → TermPair
  pair_on side c = record {
    lo = stored_flow m w s at c Low (bound_at old c) (one_head (heads_on side listed c));
    hi = stored_flow m w s at c High (bound_at old c) (one_head (heads_on side listed c));
  }

  abbrev pub parts_on : Dir → Side → List ℕ → TermPair
  parts_on dir side cs = parts dir (map (pair_on side) cs)

  -- the term joins those of both sides
  joined_parts : (dir : Dir) (cs : List ℕ) → joined_pair dir (parts_on dir Low cs) (parts_on dir High cs) ≡ parts dir (map (stored_pair m w s at old listed) cs)
  joined_parts In cs =
      (λ i. record { lo = (parts_are In (pair_on High) cs i).lo; hi = (parts_are In (pair_on Low) cs i).hi }) ∙ sym (parts_are In (stored_pair m w s at old listed) cs)
  joined_parts Out cs =
      (λ i. record { lo = (parts_are Out (pair_on Low) cs i).lo; hi = (parts_are Out (pair_on High) cs i).hi }) ∙ sym (parts_are Out (stored_pair m w s at old listed) cs)

  pub joined_storage : (dir : Dir) (p : List Entries) (cs : List ℕ) → map (λ e. e.id) p ≡ cs → joined_pair dir (parts_on dir Low cs) (parts_on dir High cs) ≡ storage_term m w s at old listed p dir
  joined_storage dir p cs e =
      joined_parts dir cs ∙ ap (λ xs. parts dir (map (stored_pair m w s at old listed) xs)) (sym e)
      ∙ ap (parts dir) (map-map (stored_pair m w s at old listed) (λ (x : Entries). x.id) p)

  -- what is known of a variable cell
  pub record IsStored (side : Side) (before : ℕ → Fraction) (c : ℕ) : Type 0 where
    pub active : IsActive m c
    pub fits : ArePairs m w s at c
    pub head : EnclosesSigned (heads_on side listed c) (heads_on side listed c) 9 (listed_heads m at (heads_on side listed) c)

  pub side_storage : (side : Side) (dir : Dir) (before : ℕ → Fraction) → IsModel m → IsModel (with_yield m w) → Contains (times m) at → HeadsEnclose m old before →
      All (IsStored side before) (variable_cells m at.period) → EnclosesSigned (parts_on dir side (variable_cells m at.period)).lo (parts_on dir side (variable_cells m at.period)).hi (s + 9)
      (stored_term m w at before (listed_heads m at (heads_on side listed)) dir)
  side_storage side dir before valid yields time inside cells =
      let x = heads_on side listed in
      let cs = variable_cells m at.period in
      let f = λ (c : ℕ). exact_part dir (storage_flow m w at.period at.step c (before c) (listed_heads m at x c)) in
      let each : All (λ c. EnclosesSigned (part dir (pair_on side c)).lo (part dir (pair_on side c)).hi (s + 9) (f c)) cs = λ i d lt.
      (let here = cells i d lt in
      let c = get_or cs i d in
      part_holds dir (pair_on side c) (s + 9) _
      (stored_flows_enclose m w s at c (bound_at old c) (one_head (x c)) (before c) (listed_heads m at x c) valid yields time here.active here.fits (inside c here.active) here.head)) in
      let P : TermPair → Type 0 = λ y. EnclosesSigned y.lo y.hi (s + 9) (fraction_total f cs) in
      subst P (sym (parts_are dir (pair_on side) cs)) (sum_holds (λ c. (part dir (pair_on side c)).lo) (λ c. (part dir (pair_on side c)).hi) (s + 9) f cs each)
