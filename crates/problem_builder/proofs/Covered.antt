-- Active cells above a cell, layer by layer.
use Rattle.problem_builder.proofs.Common.{◌≡◌, ℕ, suc, ◌+◌, ◌*◌, ◌-◌, ◌/◌, ◌%◌, ◌<◌, ◌≤◌, Bool, true, false, [], ◌∷◌, ◌++◌, refl, ap, ◌∙◌, arith, not, ◌&&◌, ◌||◌, range_with_len, list_any, FlowModel}
use Rattle.problem_builder.proofs.Common.{layer_size, layer_of, place_in_layer, HasSize, is_active, is_highest, range_more}
use Rattle.std.proofs.{lemmas.Nat.div-add-mod', lemmas.Nat.div-mul-add, lemmas.Nat.mod-mul-add, lemmas.Nat.mod_below, lemmas.List.Folds.list_any-append}
use Rattle.model_types.proofs.Numbering.{size_some}

range_last : (k : ℕ) → range_with_len 0 (suc k) ≡ range_with_len 0 k ++ k ∷ []
range_last k = range_more 0 k ∙ ap (λ q. range_with_len 0 k ++ q ∷ []) (let e : 0 + k ≡ k = omega arith in e)

-- whether a layer before k has an active cell at this place of the layer
abbrev any_above : FlowModel → ℕ → ℕ → Bool
any_above m k place = list_any (λ l. is_active m (l * layer_size m.grid + place)) (range_with_len 0 k)

or_false : (a b : Bool) → (a || (b || false)) ≡ (a || b)
or_false true true = refl
or_false true false = refl
or_false false true = refl
or_false false false = refl

not_or : (a b : Bool) → not (a || b) ≡ (not b && not a)
not_or true true = refl
not_or true false = refl
not_or false true = refl
not_or false false = refl

any_more : (m : FlowModel) (k place : ℕ) → any_above m (suc k) place ≡ (any_above m k place || is_active m (k * layer_size m.grid + place))
any_more m k place = ap (list_any (λ l. is_active m (l * layer_size m.grid + place))) (range_last k) ∙ list_any-append (λ l. is_active m (l * layer_size m.grid + place)) (range_with_len 0 k) (k ∷ [])
    ∙ or_false (any_above m k place) (is_active m (k * layer_size m.grid + place))

module _ (m : FlowModel) (c : ℕ) (size : HasSize m.grid) where
  abbrev L : ℕ
  L = layer_size m.grid

  some : 0 < L
  some = size_some m.grid size

  -- in the first layer no cell lies above
  pub first_layer : c < L → is_highest m c ≡ true
  first_layer lt =
      let zero_layer : layer_of m.grid c ≡ 0 = (let e : c ≡ 0 * L + c = omega arith in ap (λ x. x / L) e ∙ div-mul-add 0 L c lt) in
      ap (λ k. not (any_above m k (place_in_layer m.grid c))) zero_layer

  -- in another one the cell above, or those above that one
  above_more : L ≤ c → any_above m (layer_of m.grid c) (place_in_layer m.grid c) ≡ (any_above m (layer_of m.grid (c - L)) (place_in_layer m.grid (c - L)) || is_active m (c - L))
  above_more le =
      let d = c - L in
      let whole = div-add-mod' d L in
      let below = mod_below d L some in
      let same : c ≡ (d / L + 1) * L + d % L = omega (arith, whole, le) in
      let layer : layer_of m.grid c ≡ suc (layer_of m.grid d) = ap (λ x. x / L) same ∙ div-mul-add (d / L + 1) L (d % L) below ∙ (let e : d / L + 1 ≡ suc (d / L) = omega arith in e) in
      let place : place_in_layer m.grid c ≡ place_in_layer m.grid d = ap (λ x. x % L) same ∙ mod-mul-add (d / L + 1) L (d % L) below in
      let here : layer_of m.grid d * L + place_in_layer m.grid d ≡ d = whole in
      (λ t. any_above m (layer t) (place t)) ∙ any_more m (layer_of m.grid d) (place_in_layer m.grid d) ∙ ap (λ z. any_above m (layer_of m.grid d) (place_in_layer m.grid d) || is_active m z) here

  highest_by : L ≤ c → (b : Bool) → is_active m (c - L) ≡ b → is_highest m c ≡ (not b && is_highest m (c - L))
  highest_by le b e = let others = any_above m (layer_of m.grid (c - L)) (place_in_layer m.grid (c - L)) in ap not (above_more le) ∙ not_or others
      (is_active m (c - L)) ∙ ap (λ z. not z && not others) e

  pub under_active : L ≤ c → is_active m (c - L) ≡ true → is_highest m c ≡ false
  under_active le e = highest_by le true e

  pub under_inactive : L ≤ c → is_active m (c - L) ≡ false → is_highest m c ≡ is_highest m (c - L)
  under_inactive le e = highest_by le false e
