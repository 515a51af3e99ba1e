-- The balance of a problem's cell at whole heads encloses the exact balance there.
use Rattle.gentle_check.proofs.Common.{◌≡◌, ℕ, ◌+◌, List, [], ◌∷◌, inl, inr, refl, subst, arith, All, ℤ, ◌+ℤ◌, ints, EnclosesSigned, Fraction, CellEncloses, DrainEncloses, EvapEncloses, ExactCell}
use Rattle.gentle_check.proofs.Common.{ExactLink, FixedEncloses, FlowEncloses, LinkEncloses, RiverEncloses, drain_flow, evap_flow, fixed_flow, link_flow, river_flow, plus_encloses, total_encloses}
use Rattle.gentle_check.proofs.Common.{Entries, High, Low, balance, flow_bound, In, In-All, plus}
use Rattle.std.specs.List.{AllZip}
use Rattle.cell_balance.specs.{balance as exact_balance}
use Rattle.cell_balance.proofs.EntryBounds.{bounds_hold}
use Rattle.step_problem.specs.{drain_flow as drain_on, evap_flow as evap_on, fixed_flow as fixed_on, link_flow as link_on, river_flow as river_on}

-- related place by place, and what holds of the items of the second list
both : {X Y : Type 0} (R : X → Y → Type 0) (P : Y → Type 0) (xs : List X) (ys : List Y) → AllZip R xs ys → ((y : Y) → In ys y → P y) → AllZip (λ x y. R x y × P y) xs ys
both R P [] [] h k = tt
both R P [] (y ∷ ys) h k = absurd h
both R P (x ∷ xs) [] h k = absurd h
both R P (x ∷ xs) (y ∷ ys) h k = ((h.0, k y (inl refl)), both R P xs ys h.1 (λ z i. k z (inr i)))

six : (a b c d e f : ℤ) → a +ℤ (b +ℤ (c +ℤ (d +ℤ (e +ℤ f)))) ≡ a +ℤ b +ℤ c +ℤ d +ℤ e +ℤ f
six a b c d e f = omega (arith, ints)

-- six sums, of which each encloses its part
six_enclose : (a b c d e f a' b' c' d' e' f' : ℤ) (k : ℕ) (A B C D E F : Fraction) → EnclosesSigned a a' k A → EnclosesSigned b b' k B → EnclosesSigned c c' k C →
    EnclosesSigned d d' k D → EnclosesSigned e e' k E → EnclosesSigned f f' k F →
    EnclosesSigned (a +ℤ b +ℤ c +ℤ d +ℤ e +ℤ f) (a' +ℤ b' +ℤ c' +ℤ d' +ℤ e' +ℤ f') k (plus A (plus B (plus C (plus D (plus E F)))))
six_enclose a b c d e f a' b' c' d' e' f' k A B C D E F ha hb hc hd he hf =
    let nested = plus_encloses a a' _ _ k A _ ha (plus_encloses b b' _ _ k B _ hb (plus_encloses c c' _ _ k C _ hc
    (plus_encloses d d' _ _ k D _ hd (plus_encloses e e' f f' k E F he hf)))) in
    let low = six a b c d e f in
    let high = six a' b' c' d' e' f' in
    let all = plus A (plus B (plus C (plus D (plus E F)))) in
    subst (λ (z : ℤ). EnclosesSigned z (a' +ℤ b' +ℤ c' +ℤ d' +ℤ e' +ℤ f') k all) low
    (subst (λ (z : ℤ). EnclosesSigned (a +ℤ (b +ℤ (c +ℤ (d +ℤ (e +ℤ f))))) z k all) high nested)

-- at the cell's head v, which is z, where cell k has the head h k, which is H k
module _ (s : ℕ) (v : Fraction) (z : ℤ) (own : EnclosesSigned z z 9 v) (h : ℕ → Fraction) (H : ℕ → ℤ) where
  abbrev pub IsKnown : ExactLink → Type 0
  IsKnown x = EnclosesSigned (H x.cell) (H x.cell) 9 (h x.cell)

  pub cell_balance_encloses : (p : Entries) (e : ExactCell) → CellEncloses s p e → All IsKnown e.links →
      EnclosesSigned (balance Low p z H) (balance High p z H) (s + 9) (exact_balance e v h)
  cell_balance_encloses p e r known =
      let flows = total_encloses (FlowEncloses s) (flow_bound Low) (flow_bound High) (s + 9) (λ x. x.flow) (λ x y k. k.flow) p.flows e.flows r.flows in
      let links = total_encloses (λ x y. LinkEncloses s x y × IsKnown y) (link_on Low H z) (link_on High H z) (s + 9) (link_flow h v)
      (λ x y k. (bounds_hold s v z z own).links x y h H H k.0 k.1) p.links e.links (both (LinkEncloses s) IsKnown p.links e.links r.links (λ y i. In-All IsKnown e.links y known i)) in
      let fixed = total_encloses (FixedEncloses s) (fixed_on Low z) (fixed_on High z) (s + 9) (fixed_flow v) (λ x y k. (bounds_hold s v z z own).fixed x y k) p.fixed e.fixed r.fixed in
      let rivers = total_encloses (RiverEncloses s) (river_on Low z) (river_on High z) (s + 9) (river_flow v) (λ x y k. (bounds_hold s v z z own).rivers x y k) p.rivers e.rivers r.rivers in
      let drains = total_encloses (DrainEncloses s) (drain_on Low z) (drain_on High z) (s + 9) (drain_flow v) (λ x y k. (bounds_hold s v z z own).drains x y k) p.drains e.drains r.drains in
      let evaps = total_encloses (EvapEncloses s) (evap_on Low z) (evap_on High z) (s + 9) (evap_flow v) (λ x y k. (bounds_hold s v z z own).evaps x y k) p.evaps e.evaps r.evaps in
      six_enclose _ _ _ _ _ _ _ _ _ _ _ _ (s + 9) _ _ _ _ _ _ flows links fixed rivers drains evaps
