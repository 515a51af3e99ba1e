-- The neighbours of a cell by its place, and by the faces along the three axes.
use Rattle.model_types.proofs.Common.{◌≡◌, ℕ, zero, suc, ◌+◌, ◌*◌, ◌-◌, ◌%◌, ◌<◌, ◌≤◌, inl, inr, Bool, true, false, cond, Option, Some, None, [], ◌∷◌, map, refl, sym, ap, ◌∙◌, arith, nat_le, nat_lt}
use Rattle.model_types.proofs.Common.{leb-true, leb-false, le-leb, cases_Bool, div-add-mod', mod-mul-add, mod_below, mul-le-mul_right, Grid, Face, Row, Column, Vertical, layer_size, cell_count}
use Rattle.model_types.proofs.Common.{layer_of, row_of, column_of, left, right, back, front, up, down, has_before, has_after, face_before, face_after, HasSize}
use Rattle.std.specs.Option.{option_map}
use Rattle.model_types.proofs.Numbering.{size_some, in_layer, place_below, row_below, column_below, place_gives}

-- the end of an optional face
abbrev pub end_of : Option Face → Option ℕ
end_of = option_map (λ x. x.end)

-- two optional numbers are one where their tests agree and, where these pass, the numbers
end_is : (a b : Bool) (x : Face) (k : ℕ) → (a ≡ true → b ≡ true) → (b ≡ true → a ≡ true) → (b ≡ true → x.end ≡ k) → end_of (cond a (Some x) None) ≡ cond b (Some k) None
end_is true true x k p q e = ap Some (e refl)
end_is true false x k p q e = absurd (grind (arith, p refl))
end_is false true x k p q e = absurd (grind (arith, q refl))
end_is false false x k p q e = refl

-- A cell has a number before it at distance s where it has a place before it, if a is that place, b what is left, and n the number of places.
module _ (s a b n : ℕ) (below : b < s) where
  before_place : nat_le s (a * s + b) ≡ true → nat_lt 0 a ≡ true
  before_place e = le-leb 1 a (some a (leb-true s (a * s + b) e))
    where
      some : (a : ℕ) → s ≤ a * s + b → 1 ≤ a
      some zero le = absurd (omega arith)
      some (suc a) le = omega arith

  place_before : nat_lt 0 a ≡ true → nat_le s (a * s + b) ≡ true
  place_before e = let p : 1 * s ≤ a * s = mul-le-mul_right s (leb-true 1 a e) in le-leb s (a * s + b) (omega (arith, p))

  after_place : nat_lt (a * s + b + s) (n * s) ≡ true → nat_lt (a + 1) n ≡ true
  after_place e = elim (cases_Bool (nat_lt (a + 1) n)) [
    | inl is ↦ is
    | inr isnt ↦ (let le : n ≤ a + 1 = omega (arith, leb-false (suc (a + 1)) n isnt) in
        let fits : n * s ≤ (a + 1) * s = mul-le-mul_right s le in
        absurd (omega (arith, fits, leb-true (suc (a * s + b + s)) (n * s) e)))
  ]

  place_after : nat_lt (a + 1) n ≡ true → nat_lt (a * s + b + s) (n * s) ≡ true
  place_after e =
      let fits : (a + 2) * s ≤ n * s = mul-le-mul_right s (let r = leb-true (suc (a + 1)) n e in omega (arith, r)) in
      le-leb (suc (a * s + b + s)) (n * s) (omega (arith, fits, below))

-- one row, and one layer, less and more
row_less : (k i i' j r n c : ℕ) → i ≡ i' + 1 → (k * r + i) * n + j ≡ c → c - n ≡ (k * r + i') * n + j
row_less k i i' j r n c p e =
    let more : (k * r + (i' + 1)) * n + j ≡ (k * r + i') * n + j + n = grind arith in
    let put : (k * r + i) * n + j ≡ (k * r + (i' + 1)) * n + j = ap (λ x. (k * r + x) * n + j) p in
    omega (arith, more, e, put)

row_more : (k i j r n c : ℕ) → (k * r + i) * n + j ≡ c → c + n ≡ (k * r + (i + 1)) * n + j
row_more k i j r n c e = grind (arith)

layer_less : (k k' i j r n c : ℕ) → k ≡ k' + 1 → (k * r + i) * n + j ≡ c → c - r * n ≡ (k' * r + i) * n + j
layer_less k k' i j r n c p e =
    let more : ((k' + 1) * r + i) * n + j ≡ (k' * r + i) * n + j + r * n = grind arith in
    let put : (k * r + i) * n + j ≡ ((k' + 1) * r + i) * n + j = ap (λ x. (x * r + i) * n + j) p in
    omega (arith, more, e, put)

layer_more : (k i j r n c : ℕ) → (k * r + i) * n + j ≡ c → c + r * n ≡ ((k + 1) * r + i) * n + j
layer_more k i j r n c e = grind (arith)

module _ (g : Grid) (h : HasSize g) (c : ℕ) (within : c < cell_count g) where
  row_place : c % layer_size g ≡ row_of g c * g.cols + column_of g c
  row_place =
      let is = place_gives g h c within in
      let split = in_layer g h (layer_of g c) (row_of g c) (column_of g c) in
      ap (λ n. n % layer_size g) (sym is ∙ split) ∙ mod-mul-add (layer_of g c) (layer_size g) (row_of g c * g.cols + column_of g c)
      (place_below g h (row_of g c) (column_of g c) (row_below g h c within) (column_below g h c within))

  layer_place : c ≡ layer_of g c * layer_size g + c % layer_size g
  layer_place = sym (div-add-mod' c (layer_size g))

  left_is : end_of (face_before g Row c) ≡ left g c
  left_is =
      let is = place_gives g h c within in
      end_is (has_before g Row c) (nat_lt 0 (column_of g c)) _ _ (λ e. e) (λ e. e) (λ e. omega (arith, is, leb-true 1 (column_of g c) e))

  right_is : end_of (face_after g Row c) ≡ right g c
  right_is =
      let is = place_gives g h c within in
      end_is (has_after g Row c) (nat_lt (column_of g c + 1) g.cols) _ _ (λ e. e) (λ e. e) (λ e. omega (arith, is))

  back_is : end_of (face_before g Column c) ≡ back g c
  back_is =
      let same : has_before g Column c ≡ nat_le g.cols (row_of g c * g.cols + column_of g c) = ap (nat_le g.cols) row_place in
      end_is (has_before g Column c) (nat_lt 0 (row_of g c)) _ _
      (λ e. before_place g.cols (row_of g c) (column_of g c) g.rows (column_below g h c within) (sym same ∙ e))
      (λ e. same ∙ place_before g.cols (row_of g c) (column_of g c) g.rows (column_below g h c within) e)
      (λ e. row_less (layer_of g c) (row_of g c) (row_of g c - 1) (column_of g c) g.rows g.cols c (omega (arith, leb-true 1 (row_of g c) e)) (place_gives g h c within))

  front_is : end_of (face_after g Column c) ≡ front g c
  front_is =
      let same : has_after g Column c ≡ nat_lt (row_of g c * g.cols + column_of g c + g.cols) (g.rows * g.cols) = ap (λ n. nat_lt (n + g.cols) (g.rows * g.cols)) row_place in
      end_is (has_after g Column c) (nat_lt (row_of g c + 1) g.rows) _ _
      (λ e. after_place g.cols (row_of g c) (column_of g c) g.rows (column_below g h c within) (sym same ∙ e))
      (λ e. same ∙ place_after g.cols (row_of g c) (column_of g c) g.rows (column_below g h c within) e)
      (λ e. row_more (layer_of g c) (row_of g c) (column_of g c) g.rows g.cols c (place_gives g h c within))

  small : c % cell_count g ≡ layer_of g c * layer_size g + c % layer_size g
  small = let whole : c ≡ 0 * cell_count g + c = omega arith in ap (λ n. n % cell_count g) whole ∙ mod-mul-add 0 (cell_count g) c within ∙ layer_place

  up_is : end_of (face_before g Vertical c) ≡ up g c
  up_is =
      let same : has_before g Vertical c ≡ nat_le (layer_size g) (layer_of g c * layer_size g + c % layer_size g) = ap (nat_le (layer_size g)) small in
      let fits = mod_below c (layer_size g) (size_some g h) in
      end_is (has_before g Vertical c) (nat_lt 0 (layer_of g c)) _ _
      (λ e. before_place (layer_size g) (layer_of g c) (c % layer_size g) g.layers fits (sym same ∙ e))
      (λ e. same ∙ place_before (layer_size g) (layer_of g c) (c % layer_size g) g.layers fits e)
      (λ e. layer_less (layer_of g c) (layer_of g c - 1) (row_of g c) (column_of g c) g.rows g.cols c (omega (arith, leb-true 1 (layer_of g c) e)) (place_gives g h c within))

  down_is : end_of (face_after g Vertical c) ≡ down g c
  down_is =
      let same : has_after g Vertical c ≡ nat_lt (layer_of g c * layer_size g + c % layer_size g + layer_size g) (g.layers * layer_size g) = ap (λ n. nat_lt (n + layer_size g) (cell_count g)) small in
      let fits = mod_below c (layer_size g) (size_some g h) in
      end_is (has_after g Vertical c) (nat_lt (layer_of g c + 1) g.layers) _ _
      (λ e. after_place (layer_size g) (layer_of g c) (c % layer_size g) g.layers fits (sym same ∙ e))
      (λ e. same ∙ place_after (layer_size g) (layer_of g c) (c % layer_size g) g.layers fits e)
      (λ e. layer_more (layer_of g c) (row_of g c) (column_of g c) g.rows g.cols c (place_gives g h c within))

  pub ends_are : (p q r x y z : Option Face) →
      p ≡ face_before g Vertical c → q ≡ face_before g Column c → r ≡ face_before g Row c → x ≡ face_after g Row c → y ≡ face_after g Column c → z ≡ face_after g Vertical c →
      map end_of (p ∷ q ∷ r ∷ x ∷ y ∷ z ∷ []) ≡ up g c ∷ back g c ∷ left g c ∷ right g c ∷ front g c ∷ down g c ∷ []
  ends_are p q r x y z e₁ e₂ e₃ e₄ e₅ e₆ i =
      (ap end_of e₁ ∙ up_is) i ∷ (ap end_of e₂ ∙ back_is) i ∷ (ap end_of e₃ ∙ left_is) i ∷ (ap end_of e₄ ∙ right_is) i ∷ (ap end_of e₅ ∙ front_is) i ∷ (ap end_of e₆ ∙ down_is) i ∷ []
