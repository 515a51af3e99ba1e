-- The cell of a column of layers that an option chooses.
use Rattle.flow_equations.proofs.Common.{◌≡◌, ℕ, zero, suc, ◌+◌, ◌*◌, ◌<◌, inl, inr, Bool, true, false, ◌&&◌, ◌||◌, List, [], ◌∷◌, refl, sym, ap, ◌∙◌, arith, ℤ, pos, negsuc, ◌==◌, range_with_len}
use Rattle.flow_equations.proofs.Common.{list_any, eqb-true, cases_lt, false≢true, and_parts, not-true, FlowModel, layer_size, layer_of, place_in_layer, int_at, is_active, is_int, is_chosen}
use Rattle.flow_equations.proofs.Common.{is_highest, range_more, ChoosesOneCell, or_cases, or_right, ints, list_any-append}
use Rattle.std.proofs.lemmas.Nat.{div-add-mod'}

int_is : (z : ℤ) (k : ℕ) → is_int z k ≡ true → z ≡ pos k
int_is (pos n) k e = ap pos (eqb-true n k e)
int_is (negsuc n) k e = absurd (false≢true e)

-- what an option chooses a cell by
data Chosen (m : FlowModel) (option : ℤ) (layers : List ℤ) (c : ℕ) : Type 0 where
  ByTop : option ≡ pos 1 → layer_of m.grid c ≡ 0 → Chosen m option layers c
  ByName : option ≡ pos 2 → int_at layers (place_in_layer m.grid c) ≡ pos (suc (layer_of m.grid c)) → Chosen m option layers c
  ByHeight : option ≡ pos 3 → is_active m c ≡ true → is_highest m c ≡ true → Chosen m option layers c

chosen_by : (m : FlowModel) (option : ℤ) (layers : List ℤ) (c : ℕ) → is_chosen m option layers c ≡ true → Chosen m option layers c
chosen_by m option layers c e = elim (or_cases _ _ e) [
  | inl first ↦ elim (or_cases _ _ first) [
    | inl top ↦ (let (o, l) = and_parts _ _ top in ByTop (int_is option 1 o) (eqb-true (layer_of m.grid c) 0 l))
    | inr name ↦ (let (o, l) = and_parts _ _ name in ByName (int_is option 2 o) (int_is _ _ l))
  ]
  | inr high ↦ (let (before, h) = and_parts _ _ high in let (o, a) = and_parts _ _ before in ByHeight (int_is option 3 o) a h)
]

-- a test that holds at k below n
any_at : (p : ℕ → Bool) (n k : ℕ) → k < n → p k ≡ true → list_any p (range_with_len 0 n) ≡ true
any_at p zero k lt e = absurd (omega arith)
any_at p (suc n) k lt e = ap (list_any p) (range_more 0 n) ∙ list_any-append p (range_with_len 0 n) ((0 + n) ∷ []) ∙ elim (cases_lt k n) [
  | inl below ↦ ap (λ b. b || list_any p ((0 + n) ∷ [])) (any_at p n k below e)
  | inr le ↦ (let last : p (0 + n) ≡ true = ap p (omega (arith, lt, le)) ∙ e in ap (λ b. list_any p (range_with_len 0 n) || (b || false)) last ∙ or_right (list_any p (range_with_len 0 n)) true refl)
]

module _ (m : FlowModel) (layers : List ℤ) (a b : ℕ) (place : place_in_layer m.grid a ≡ place_in_layer m.grid b) where
  same_cell : layer_of m.grid a ≡ layer_of m.grid b → a ≡ b
  same_cell e = sym (div-add-mod' a (layer_size m.grid)) ∙ (λ i. e i * layer_size m.grid + place i) ∙ div-add-mod' b (layer_size m.grid)

  -- no active cell lies above the highest one
  not_above : is_active m a ≡ true → is_highest m b ≡ true → layer_of m.grid a < layer_of m.grid b → ⊥
  not_above active highest lt =
      let here : is_active m (layer_of m.grid a * layer_size m.grid + place_in_layer m.grid b) ≡ true =
      ap (is_active m) ((λ i. layer_of m.grid a * layer_size m.grid + sym place i) ∙ div-add-mod' a (layer_size m.grid)) ∙ active in
      let some = any_at (λ k. is_active m (k * layer_size m.grid + place_in_layer m.grid b)) (layer_of m.grid b) (layer_of m.grid a) lt here in
      false≢true (sym (not-true _ highest) ∙ some)

module _ (m : FlowModel) (layers : List ℤ) where
  one_of : (option : ℤ) (a b : ℕ) → place_in_layer m.grid a ≡ place_in_layer m.grid b → Chosen m option layers a → Chosen m option layers b → a ≡ b
  one_of option a b e (ByTop o l) (ByTop q k) = same_cell m layers a b e (l ∙ sym k)
  one_of option a b e (ByTop o l) (ByName q k) = absurd (omega (arith, ints, o, q))
  one_of option a b e (ByTop o l) (ByHeight q k h) = absurd (omega (arith, ints, o, q))
  one_of option a b e (ByName o l) (ByTop q k) = absurd (omega (arith, ints, o, q))
  one_of option a b e (ByName o l) (ByName q k) = same_cell m layers a b e (let same = sym l ∙ ap (int_at layers) e ∙ k in omega (arith, ints, same))
  one_of option a b e (ByName o l) (ByHeight q k h) = absurd (omega (arith, ints, o, q))
  one_of option a b e (ByHeight o l h) (ByTop q k) = absurd (omega (arith, ints, o, q))
  one_of option a b e (ByHeight o l h) (ByName q k) = absurd (omega (arith, ints, o, q))
  one_of option a b e (ByHeight o l h) (ByHeight q k g) = elim (cases_lt (layer_of m.grid a) (layer_of m.grid b)) [
    | inl above ↦ absurd (not_above m layers a b e l g above)
    | inr le ↦ elim (cases_lt (layer_of m.grid b) (layer_of m.grid a)) [
      | inl below ↦ absurd (not_above m layers b a (sym e) k h below)
      | inr ge ↦ same_cell m layers a b e (omega (arith, le, ge))
    ]
  ]

  at_top : (c : ℕ) → layer_of m.grid c ≡ 0 → is_chosen m (pos 1) layers c ≡ true
  at_top c e = ap (λ l. ((l == 0) || false) || false) e

  by_name : (c : ℕ) → int_at layers (place_in_layer m.grid c) ≡ pos (suc (layer_of m.grid c)) → is_chosen m (pos 2) layers c ≡ true
  by_name c e = ap (λ z. is_int z (suc (layer_of m.grid c)) || false) e ∙ ap (λ b. b || false) (let itself : (suc (layer_of m.grid c) == suc (layer_of m.grid c)) ≡ true = grind arith in itself)

  by_height : (c : ℕ) → is_active m c ≡ true → is_highest m c ≡ true → is_chosen m (pos 3) layers c ≡ true
  by_height c active highest = λ i. active i && highest i

  pub chooses_one : ChoosesOneCell m layers
  chooses_one = record {
    one = (λ option a b e p q. one_of option a b e (chosen_by m option layers a p) (chosen_by m option layers b q));
    top = at_top;
    named = by_name;
    highest = by_height;
  }
