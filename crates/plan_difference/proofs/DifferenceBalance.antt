-- The balance of a difference's cell is the difference of the two plans' balances.
use Rattle.plan_difference.proofs.Common.{◌≡◌, ℕ, ◌*◌, ◌<◌, ◌∙◌, ap, sym, refl, subst, arith, mul-pos, ℤ, pos, ◌*ℤ◌, ◌+ℤ◌, ◌-ℤ◌, neg_ℤ, List, [], ◌∷◌, ◌++◌, length, AllZip, Same-sym, Same-trans}
use Rattle.plan_difference.proofs.Common.{Fraction, IsOver, Ratio, as_fraction, fraction_total, Same, den, plus, times, as_diff, diffs, same_diff, sub_mul, Goes-first, Goes-second, fraction_over}
use Rattle.plan_difference.proofs.Common.{same_over, heads_over, IsOver-minus, IsOver-signed, IsOver-times, over_zero, ExactCell, ExactFixed, ExactLink, balance, cell_at, drain_flow, evap_flow}
use Rattle.plan_difference.proofs.Common.{fixed_flow, link_flow, minus, river_flow, share, AreInOneWeather, DifferenceSolvesIt, IsDifferenceCell, known_difference, known_differences, zero-*ℤ}
use Rattle.plan_difference.proofs.Common.{ExactFlow, AreFlowsApart}
use Rattle.decimal_input.specs.Ratios.{den as ratio_den}
use Rattle.plan_difference.proofs.Sames.{difference_of_sums, difference_of_totals, nothing_after, same_is_over, same_self, sums_same, total_of_both}

-- one conductance: the difference of two flows is the flow over the difference of the heads
pub branch_difference : (r : Ratio) (m : ℕ) → 0 < m → (p q u w s t : Fraction) (a b x y : ℤ) → IsOver m p a → IsOver m q b → IsOver m u x → IsOver m w y →
    IsOver m s (a -ℤ x) → IsOver m t (b -ℤ y) →
    Same (minus (times (as_fraction r) (minus p q)) (times (as_fraction r) (minus u w))) (times (as_fraction r) (minus s t))
branch_difference r m some p q u w s t a b x y op oq ou ow os ot =
    same_over (ratio_den r * m) _ _ _ _ (mul-pos (omega arith) some)
    (IsOver-minus (ratio_den r * m) _ _ _ _ (flow p q a b op oq) (flow u w x y ou ow)) (flow s t (a -ℤ x) (b -ℤ y) os ot) (ring (pos r.num) a b x y)
  where
    flow : (f g : Fraction) (z z' : ℤ) → IsOver m f z → IsOver m g z' → IsOver (ratio_den r * m) (times (as_fraction r) (minus f g)) (pos r.num *ℤ (z -ℤ z'))
    flow f g z z' of og =
        IsOver-times (ratio_den r) m (as_fraction r) (minus f g) (pos r.num) (z -ℤ z') (IsOver-signed (ratio_den r) r r.num (record { is = omega arith }))
        (IsOver-minus m f g z z' of og)

    ring : (c a b x y : ℤ) → c *ℤ (a -ℤ b) -ℤ c *ℤ (x -ℤ y) ≡ c *ℤ (a -ℤ x -ℤ (b -ℤ y))
    ring c a b x y = rw (as_diff c, as_diff a, as_diff b, as_diff x, as_diff y) (simp diffs (same_diff _ _ _ _ (omega arith)))

module _ (d : ℕ) (some : 0 < d) (X Y : ℕ → ℤ) (c : ℕ) where
  -- the heads of the two plans and their differences, of all cells and of this one
  abbrev xs : ℕ → Fraction
  xs k = share d (X k)

  abbrev ys : ℕ → Fraction
  ys k = share d (Y k)

  abbrev zs : ℕ → Fraction
  zs k = share d (X k -ℤ Y k)

  abbrev v : Fraction
  v = share d (X c)

  abbrev w : Fraction
  w = share d (Y c)

  abbrev z : Fraction
  z = share d (X c -ℤ Y c)

  links_differ : (l : ExactLink) → Same (minus (link_flow xs v l) (link_flow ys w l)) (link_flow zs z l)
  links_differ l =
      branch_difference l.conductance d some (share d (X l.cell)) v (share d (Y l.cell)) w (share d (X l.cell -ℤ Y l.cell)) z (X l.cell) (X c) (Y l.cell) (Y c)
      (own (X l.cell)) (own (X c)) (own (Y l.cell)) (own (Y c)) (own (X l.cell -ℤ Y l.cell)) (own (X c -ℤ Y c))
    where
      own : (k : ℤ) → IsOver d (share d k) k
      own k = record { is = ap (λ (n : ℕ). k *ℤ pos n) (omega arith) }

  pub known_differ : (p q : ExactFixed) → q.conductance ≡ p.conductance → Same (minus (fixed_flow v p) (fixed_flow w q)) (fixed_flow z (known_difference p q))
  known_differ p q e =
      let m = den p.head * den q.head in
      let (a, over_a) = fraction_over m d p.head (Goes-first (den p.head) (den q.head)) in
      let (b, over_b) = fraction_over m d q.head (Goes-second (den p.head) (den q.head)) in
      let there : IsOver (m * d) z (X c *ℤ pos m -ℤ Y c *ℤ pos m) = subst (λ (k : ℤ). IsOver (m * d) z k) (sub_mul (X c) (Y c) (pos m)) (heads_over m d some (X c -ℤ Y c)) in
      rw e
      (branch_difference p.conductance (m * d) (mul-pos (mul-pos (omega arith) (omega arith)) some) p.head v q.head w (minus p.head q.head) z a (X c *ℤ pos m) b (Y c *ℤ pos m)
      over_a (heads_over m d some (X c)) over_b (heads_over m d some (Y c)) (IsOver-minus (m * d) p.head q.head a b over_a over_b) there)

  all_links_differ : (ls : List ExactLink) → Same (minus (fraction_total (link_flow xs v) ls) (fraction_total (link_flow ys w) ls)) (fraction_total (link_flow zs z) ls)
  all_links_differ [] = record { same = refl }
  all_links_differ (l ∷ ls) = difference_of_sums _ _ _ _ _ _ (links_differ l) (all_links_differ ls)

  all_known_differ : (ps qs : List ExactFixed) → AllZip (λ p q. q.conductance ≡ p.conductance) ps qs →
      Same (minus (fraction_total (fixed_flow v) ps) (fraction_total (fixed_flow w) qs)) (fraction_total (fixed_flow z) (known_differences ps qs))
  all_known_differ [] [] all = record { same = refl }
  all_known_differ (p ∷ ps) (q ∷ qs) all = difference_of_sums _ _ _ _ _ _ (known_differ p q all.0) (all_known_differ ps qs all.1)
  all_known_differ _ _ all = absurd all

  -- what all branches of the difference to known heads give
  branches_together : (ks rs ds es : List ExactFixed) → Same (fraction_total (fixed_flow z) (ks ++ (rs ++ (ds ++ es))))
      (plus (fraction_total (fixed_flow z) ks) (plus (fraction_total (fixed_flow z) rs) (plus (fraction_total (fixed_flow z) ds) (fraction_total (fixed_flow z) es))))
  branches_together ks rs ds es =
      let give = fraction_total (fixed_flow z) in
      Same-trans (total_of_both (fixed_flow z) ks (rs ++ (ds ++ es)))
      (sums_same (give ks) (give ks) _ _ (same_self (give ks)) (Same-trans (total_of_both (fixed_flow z) rs (ds ++ es))
      (sums_same (give rs) (give rs) _ _ (same_self (give rs)) (total_of_both (fixed_flow z) ds es))))

  pub balance_of_difference : (qs : List ExactFlow) (x y g : ExactCell) → AreInOneWeather x y → AreFlowsApart qs x y → IsDifferenceCell v w z qs x y g →
      Same (minus (balance x v xs) (balance y w ys)) (balance g z zs)
  balance_of_difference qs x y g weather flows is =
      let flow = minus (fraction_total (λ q. q.flow) x.flows) (fraction_total (λ q. q.flow) y.flows) in
      let links = fraction_total (link_flow zs z) x.links in
      let known = known_differences x.fixed y.fixed in
      let branches = fraction_total (fixed_flow z) (known ++ (is.of_rivers ++ (is.of_drains ++ is.of_evaps))) in
      let apart = Same-trans (nothing_after branches) (branches_together known is.of_rivers is.of_drains is.of_evaps) in
      let tail = Same-sym (sums_same (fraction_total (λ q. q.flow) qs) flow _ _ flows.same (sums_same links links _ _ (same_self links) apart)) in
      rw (weather.links, weather.rivers, weather.drains, weather.evaps, is.links, is.flows, is.fixed, is.no_ramps.0, is.no_ramps.1, is.no_ramps.2)
      (Same-trans (difference_of_sums _ _ _ _ flow _ (same_self flow)
      (difference_of_sums _ _ _ _ links _ (all_links_differ x.links)
      (difference_of_sums _ _ _ _ _ _ (all_known_differ x.fixed y.fixed weather.known)
      (difference_of_sums _ _ _ _ _ _ (difference_of_totals _ (river_flow v) (river_flow w) (fixed_flow z) (λ r b ramp. ramp.same) x.rivers is.of_rivers is.rivers)
      (difference_of_sums _ _ _ _ _ _ (difference_of_totals _ (drain_flow v) (drain_flow w) (fixed_flow z) (λ r b ramp. ramp.same) x.drains is.of_drains is.drains)
      (difference_of_totals _ (evap_flow v) (evap_flow w) (fixed_flow z) (λ r b ramp. ramp.same) x.evaps is.of_evaps is.evaps)))))) tail)

pub difference_solves_it : DifferenceSolvesIt
difference_solves_it d X Y qs e f g some weather apart is solves_x solves_y c i =
    let here : c < length e = omega (arith, is.as_many) in
    let same = balance_of_difference d some X Y c (qs c) (cell_at e c) (cell_at f c) (cell_at g c) (weather.cells c here) (apart c here) (is.cells c here) in
    none _ _ (Same-sym same) (nothing _ _ (solves_x c here) (solves_y c (omega (arith, weather.as_many))))
  where
    nothing : (p q : Fraction) → p.num ≡ pos 0 → q.num ≡ pos 0 → (minus p q).num ≡ pos 0
    nothing p q a b = rw (a, b) (sums (pos (den p)) (pos (den q)))
      where
        sums : (k l : ℤ) → pos 0 *ℤ l +ℤ neg_ℤ (pos 0) *ℤ k ≡ pos 0
        sums k l = rw (zero-*ℤ k, zero-*ℤ l) refl

    none : (p q : Fraction) → Same p q → q.num ≡ pos 0 → p.num ≡ pos 0
    none p q s e = over_zero 1 p (omega arith) (same_is_over 1 p q (pos 0) s (record { is = ap (λ (k : ℤ). k *ℤ pos 1) e ∙ sym (zero-*ℤ (pos (den q))) }))
