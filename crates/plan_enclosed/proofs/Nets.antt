-- What a listed term gives more in the other plan's step is the sum of what its branches give more.
use Rattle.plan_enclosed.proofs.Common.{AllZip, AllZip-length, AreInOneWeather, Bool, ConstantHead, Drains, Et, ExactCell, ExactFixed, ExactFlow, FixedKind, Fraction, HeadDepBounds, IsDifferenceCell}
use Rattle.plan_enclosed.proofs.Common.{List, Recharge, RiverLeakage, Same, Same-sym, Storage, Term, Wells, [], ap, arith, den, drain_flow, evap_flow, exact_fixed_of, false, filter, fixed_flow}
use Rattle.plan_enclosed.proofs.Common.{fixed_term, fraction_total, ints, is_listed, is_term, known_difference, known_differences, length, map, minus, mul-pos, neg_ℤ, opposite, refl, river_flow}
use Rattle.plan_enclosed.proofs.Common.{same_over, share, suc, sym, total_below, true, zero, ℕ, ℤ, ◌*◌, ◌++◌, ◌-ℤ◌, ◌<◌, ◌∷◌, ◌≡◌, exact_singles, Goes-first, Goes-second, fraction_over, IsOver-minus}
use Rattle.plan_enclosed.proofs.Common.{IsOver-negated, known_differ, difference_of_sums, difference_of_totals, same_is_over}
use Rattle.plan_enclosed.proofs.Gains.{after_rivers, exact_drains, exact_evaps, exact_known, exact_ramps, exact_rivers, gain, exact_gains}
use Rattle.plan_enclosed.proofs.Lists.{back_is, front_is, total_map}

turned_same : (a b c : Fraction) → Same (minus a b) c → Same (minus b a) (opposite c)
turned_same a b c s =
    let n = den a * den b * 1 in
    let (x, p) = fraction_over (den a * den b) 1 a (Goes-first (den a) (den b)) in
    let (y, q) = fraction_over (den a * den b) 1 b (Goes-second (den a) (den b)) in
    same_over n (minus b a) (opposite c) (y -ℤ x) (neg_ℤ (x -ℤ y)) (mul-pos (mul-pos (omega arith) (omega arith)) (omega arith)) (IsOver-minus n b a y x q p)
    (IsOver-negated n c (x -ℤ y) (same_is_over n c (minus a b) (x -ℤ y) (Same-sym s) (IsOver-minus n a b x y p q))) (omega (arith, ints))

module _ (d : ℕ) (some : 0 < d) (X Y : ℕ → ℤ) (c : ℕ) where
  abbrev v : Fraction
  v = share d (X c)

  abbrev w : Fraction
  w = share d (Y c)

  abbrev z : Fraction
  z = share d (X c -ℤ Y c)

  abbrev AreAlike : List ExactFixed → List ExactFixed → Type 0
  AreAlike = AllZip (λ p q. q.kind ≡ p.kind)

  abbrev HaveSame : List ExactFixed → List ExactFixed → Type 0
  HaveSame = AllZip (λ p q. q.conductance ≡ p.conductance)

  known_count : (ps qs : List ExactFixed) → HaveSame ps qs → length (known_differences ps qs) ≡ length ps
  known_count [] [] h = refl
  known_count [] (q ∷ qs) h = absurd h
  known_count (p ∷ ps) [] h = absurd h
  known_count (p ∷ ps) (q ∷ qs) h = ap suc (known_count ps qs h.1)

  abbrev Differ : (FixedKind → Bool) → List ExactFixed → List ExactFixed → Type 0
  Differ T ps qs =
      Same (minus (fraction_total (fixed_flow w) (filter (λ r. T r.kind) qs)) (fraction_total (fixed_flow v) (filter (λ r. T r.kind) ps)))
      (fraction_total (gain z) (filter (λ r. T r.kind) (known_differences ps qs)))

  one_known : (T : FixedKind → Bool) (p q : ExactFixed) (ps qs : List ExactFixed) → q.conductance ≡ p.conductance → Differ T ps qs → (b : Bool) → T p.kind ≡ b → T q.kind ≡ b →
      Differ T (p ∷ ps) (q ∷ qs)
  one_known T p q ps qs same rest true e f =
      rw (e, f) (difference_of_sums _ _ _ _ _ _
      (turned_same (fixed_flow v p) (fixed_flow w q) (fixed_flow z (known_difference p q)) (known_differ d some X Y c p q same)) rest)
  one_known T p q ps qs same rest false e f = rw (e, f) rest

  kept_known : (T : FixedKind → Bool) (ps qs : List ExactFixed) → HaveSame ps qs → AreAlike ps qs → Differ T ps qs
  kept_known T [] [] h k = record { same = refl }
  kept_known T [] (q ∷ qs) h k = absurd h
  kept_known T (p ∷ ps) [] h k = absurd h
  kept_known T (p ∷ ps) (q ∷ qs) h k = one_known T p q ps qs h.0 (kept_known T ps qs h.1 k.1) (T p.kind) refl (ap T k.0)

  module _ (qs : List ExactFlow) (x y g : ExactCell) (is : IsDifferenceCell v w z qs x y g) (weather : AreInOneWeather x y) (kinds : AreAlike x.fixed y.fixed) where
    known_is : exact_known x g ≡ known_differences x.fixed y.fixed
    known_is =
        front_is (length x.fixed) (known_differences x.fixed y.fixed) (is.of_rivers ++ (is.of_drains ++ is.of_evaps)) g.fixed is.fixed
        (known_count x.fixed y.fixed weather.known)

    ramps_are : exact_ramps x g ≡ is.of_rivers ++ (is.of_drains ++ is.of_evaps)
    ramps_are =
        back_is (length x.fixed) (known_differences x.fixed y.fixed) (is.of_rivers ++ (is.of_drains ++ is.of_evaps)) g.fixed is.fixed
        (known_count x.fixed y.fixed weather.known)

    rivers_are : exact_rivers x g ≡ is.of_rivers
    rivers_are = front_is (length x.rivers) is.of_rivers (is.of_drains ++ is.of_evaps) (exact_ramps x g) ramps_are (sym (AllZip-length _ x.rivers is.of_rivers is.rivers))

    others_are : after_rivers x g ≡ is.of_drains ++ is.of_evaps
    others_are = back_is (length x.rivers) is.of_rivers (is.of_drains ++ is.of_evaps) (exact_ramps x g) ramps_are (sym (AllZip-length _ x.rivers is.of_rivers is.rivers))

    drains_are : exact_drains x g ≡ is.of_drains
    drains_are = front_is (length x.drains) is.of_drains is.of_evaps (after_rivers x g) others_are (sym (AllZip-length _ x.drains is.of_drains is.drains))

    evaps_are : exact_evaps x g ≡ is.of_evaps
    evaps_are = back_is (length x.drains) is.of_drains is.of_evaps (after_rivers x g) others_are (sym (AllZip-length _ x.drains is.of_drains is.drains))

    of_kind : (t : Term) → Same (minus (fraction_total (λ q. q) (map (fixed_flow w) (exact_fixed_of t y.fixed))) (fraction_total (λ q. q) (map (fixed_flow v) (exact_fixed_of t x.fixed))))
        (fraction_total (λ q. q) (map (gain z) (exact_fixed_of t (exact_known x g))))
    of_kind t =
        rw (
          total_map (fixed_flow w) (exact_fixed_of t y.fixed),
          total_map (fixed_flow v) (exact_fixed_of t x.fixed),
          known_is,
          total_map (gain z) (exact_fixed_of t (known_differences x.fixed y.fixed)),
        )
        (kept_known (λ k. is_term t (fixed_term k)) x.fixed y.fixed weather.known kinds)

    pub singles_differ : (t : Term) → is_listed t ≡ true →
        Same (minus (fraction_total (λ q. q) (exact_singles t y w)) (fraction_total (λ q. q) (exact_singles t x v))) (fraction_total (λ q. q) (exact_gains t x g z))
    unfolding exact_singles exact_gains
    singles_differ Storage l = of_kind Storage
    singles_differ ConstantHead l = of_kind ConstantHead
    singles_differ Wells l = absurd cc
    singles_differ Drains l =
        rw (weather.drains, total_map (drain_flow w) x.drains, total_map (drain_flow v) x.drains, drains_are, total_map (gain z) is.of_drains)
        (difference_of_totals _ (drain_flow w) (drain_flow v) (gain z) (λ r b h. turned_same (drain_flow v r) (drain_flow w r) (fixed_flow z b) h.same) x.drains is.of_drains is.drains)
    singles_differ RiverLeakage l =
        rw (weather.rivers, total_map (river_flow w) x.rivers, total_map (river_flow v) x.rivers, rivers_are, total_map (gain z) is.of_rivers)
        (difference_of_totals _ (river_flow w) (river_flow v) (gain z) (λ r b h. turned_same (river_flow v r) (river_flow w r) (fixed_flow z b) h.same) x.rivers is.of_rivers is.rivers)
    singles_differ HeadDepBounds l = of_kind HeadDepBounds
    singles_differ Recharge l = absurd cc
    singles_differ Et l =
        rw (weather.evaps, total_map (evap_flow w) x.evaps, total_map (evap_flow v) x.evaps, evaps_are, total_map (gain z) is.of_evaps)
        (difference_of_totals _ (evap_flow w) (evap_flow v) (gain z) (λ r b h. turned_same (evap_flow v r) (evap_flow w r) (fixed_flow z b) h.same) x.evaps is.of_evaps is.evaps)

-- over all cells
pub totals_differ : (n : ℕ) (a b h : ℕ → Fraction) → ((k : ℕ) → k < n → Same (minus (a k) (b k)) (h k)) → Same (minus (total_below n a) (total_below n b)) (total_below n h)
totals_differ zero a b h each = record { same = refl }
totals_differ (suc n) a b h each = difference_of_sums _ _ _ _ _ _ (totals_differ n a b h (λ k lt. each k (omega arith))) (each n (omega arith))
