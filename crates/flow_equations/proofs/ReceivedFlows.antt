-- The recharge of a cell, and what evapotranspiration takes at the two ends of its range.
use Rattle.flow_equations.proofs.Common.{◌≡◌, ℕ, ◌*◌, ◌<◌, inl, Bool, false, cond, Option, Some, None, List, ◌++◌, map, refl, sym, ap, ◌∙◌, subst, arith, ℤ, pos, neg_ℤ, ◌+ℤ◌, ◌-ℤ◌, ◌*ℤ◌, mul-pos, All}
use Rattle.flow_equations.proofs.Common.{Contains, filter_map, ints, clamps, Dec, number, size, Ratio, times, Fraction, den, whole, as_fraction, opposite, IsOver, with_sign, ExactFlow, minus, greater}
use Rattle.flow_equations.proofs.Common.{IsOver-plus, IsOver-times, IsOver-minus, IsOver-negated, IsOver-none, IsOver-signed, IsOver-greater, same_over, FlowModel, Entry, Well, place_in_layer, dec_at}
use Rattle.flow_equations.proofs.Common.{area, IsPositive, period_at, EvapSource, is_chosen, evap_conductance, FlowSource, local_entries, as_well, All-In, map-In, filter_map-In, Contains-In}
use Rattle.flow_equations.proofs.Common.{exact_flow, exact_evap, recharge_of, ReceivesRecharge, Evaporates, Received, Pumped, option_to_list}
use Rattle.std.specs.Int.{int_max}
use Rattle.decimal_input.specs.{Ratios.den as ratio_den, Fractions.plus, Fractions.times as product, Fractions.Same}
use Rattle.decimal_input.proofs.FloorLaws.{Same-trans}
use Rattle.step_problem.specs.declared.entry.FlowKind.TheVariants.{Wells, Recharge}
use Rattle.cell_balance.proofs.EntryFlows.{flows_are_right}
use Rattle.flow_equations.proofs.{Downwards.IsValue, Downwards.own_value, Downwards.value_over, Downwards.size_positive, TurnedFlows.over_first, TurnedFlows.own_share}

module _ (m : FlowModel) (p n : ℕ) (old : ℕ → Fraction) (c : ℕ) where
  abbrev rate : Dec
  rate = dec_at (period_at m p).stresses.recharge (place_in_layer m.grid c)

  abbrev chosen : Bool
  chosen = is_chosen m m.nrchop (period_at m p).stresses.irch c

  abbrev flows : Option Dec → List ExactFlow
  flows r = map (exact_flow m p n old c) (map Received (option_to_list r) ++ filter_map as_well (local_entries m p c))

  -- a well's flow alone comes of an entry
  of_entry : (e : Entry) (s : FlowSource) → as_well e ≡ Some s → (exact_flow m p n old c s).kind ≡ Wells
  of_entry (Well k q) s e = let is : Some (Pumped q) ≡ Some s = e in let same : Pumped q ≡ s = cc in ap (λ z. (exact_flow m p n old c z).kind) (sym same)
  of_entry x s e = absurd (let bad : None ≡ Some s = e in cc)

  wells_alone : All (λ x. x.kind ≡ Wells) (flows None)
  wells_alone = All-In (λ x. x.kind ≡ Wells) (flows None) (λ x i.
      let (s, j, e) = map-In (exact_flow m p n old c) (filter_map as_well (local_entries m p c)) x i in
      let (y, k, f) = filter_map-In as_well (local_entries m p c) s j in
      subst (λ (z : ExactFlow). z.kind ≡ Wells) e (of_entry y s f))

  pub receives : ReceivesRecharge m p n old c
  receives = record {
    chosen = (λ e. subst (λ (b : Bool). Contains (flows (cond b (Some rate) None)) (record { kind = Recharge; flow = recharge_of m p c })) (sym e) (Contains-In (flows (Some rate)) _ (inl refl)));
    other = (λ e. subst (λ (b : Bool). All (λ x. x.kind ≡ Wells) (flows (cond b (Some rate) None))) (sym e) wells_alone);
  }

-- a number of the input that is above 0 is its magnitude
as_size : (d : Dec) → d.neg ≡ false → number d ≡ as_fraction (size d)
as_size d e = λ i. record { num = with_sign (e i) (size d).num; less = (size d).less }

module _ (m : FlowModel) (c : ℕ) (x : EvapSource) (h : IsPositive x.depth) where
  abbrev rates : Ratio
  rates = times (size x.rate) (area m c)

  abbrev deep : Ratio
  deep = size x.depth

  abbrev s : Fraction
  s = number x.surface

  abbrev C : Ratio
  C = evap_conductance m c x

  value : IsValue C (rates.num * ratio_den deep) (ratio_den rates * deep.num)
  value = value_over (size_positive x.depth h) (own_value rates) (own_value deep)

  abbrev D : ℕ
  D = den s * ratio_den deep

  surface_over : IsOver D s (s.num *ℤ pos (ratio_den deep))
  surface_over = over_first s (as_fraction deep)

  depth_over : IsOver D (number x.depth) (pos (deep.num * den s))
  depth_over = subst (λ (f : Fraction). IsOver D f (pos (deep.num * den s))) (sym (as_size x.depth h.sign)) (record { is = ap pos (turn deep.num (den s) (ratio_den deep)) })
    where
      turn : (n a b : ℕ) → n * (a * b) ≡ n * a * b
      turn n a b = omega arith

  -- the surface less the extinction elevation is the extinction depth
  room_over : IsOver D (greater (minus s (plus s (opposite (number x.depth)))) (whole (pos 0))) (pos (deep.num * den s))
  room_over = subst (λ (z : ℤ). IsOver D (greater (minus s (plus s (opposite (number x.depth)))) (whole (pos 0))) z) (room (s.num *ℤ pos (ratio_den deep)) (deep.num * den s))
      (IsOver-greater D _ _ _ _ (IsOver-minus D s (plus s (opposite (number x.depth))) _ _ surface_over
      (IsOver-plus D s (opposite (number x.depth)) _ _ surface_over (IsOver-negated D (number x.depth) _ depth_over))) (IsOver-none D))
    where
      room : (a : ℤ) (n : ℕ) → int_max (a -ℤ (a +ℤ neg_ℤ (pos n))) (pos 0) ≡ pos n
      room a n = omega (arith, ints, clamps)

  abbrev full : Fraction
  full = product (as_fraction C) (greater (minus s (plus s (opposite (number x.depth)))) (whole (pos 0)))

  abbrev taken : ℕ
  taken = C.num * (deep.num * den s)

  full_over : IsOver (ratio_den C * D) full (pos taken)
  full_over = IsOver-times (ratio_den C) D (as_fraction C) (greater (minus s (plus s (opposite (number x.depth)))) (whole (pos 0))) (pos C.num)
      (pos (deep.num * den s)) (IsOver-signed (ratio_den C) C C.num (own_share C)) room_over

  rates_over : IsOver (ratio_den C * D) (as_fraction rates) (pos taken)
  rates_over = IsOver-signed (ratio_den C * D) rates taken
      (record {
        is = (λ i. rates.num * (value.bottom i * D)) ∙ turn rates.num (ratio_den rates) deep.num (den s) (ratio_den deep) ∙ (λ i.
            (sym value.num i * (deep.num * den s)) * ratio_den rates);
      })
    where
      turn : (r d n s z : ℕ) → r * ((d * n) * (s * z)) ≡ ((r * z) * (n * s)) * d
      turn r d n s z = omega arith

  some : 0 < ratio_den C * D
  some = mul-pos (omega arith) (mul-pos (omega arith) (omega arith))

  greatest_rate : Same (opposite full) (opposite (as_fraction rates))
  greatest_rate = same_over (ratio_den C * D) _ _ _ _ some (IsOver-negated (ratio_den C * D) full _ full_over) (IsOver-negated (ratio_den C * D) (as_fraction rates) _ rates_over) refl

  pub evaporates_by_depth : (p n : ℕ) (old : ℕ → Fraction) (v : Fraction) → Evaporates m c v x (exact_evap m p n old c x)
  evaporates_by_depth p n old v =
      let laws = flows_are_right.evaps v (exact_evap m p n old c x) in
      record { above = (λ le. Same-trans (laws.above le) greatest_rate); below = laws.below }
