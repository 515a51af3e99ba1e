-- Saturated thickness in whole numbers over one denominator: it rises with the head, by no more than the head does, and stays where the cell is full.
use Rattle.water_enclosure.proofs.Common.{◌≡◌, ℕ, suc, ◌*◌, ◌-◌, ◌<◌, ◌≤◌, ◌⊎◌, inl, inr, Bool, true, false, cond, ℤ, pos, negsuc, neg_ℤ, ◌+ℤ◌, ◌-ℤ◌, ◌*ℤ◌, ◌≤ℤ◌, ◌<ℤ◌, refl, ap, ◌∙◌, arith, mul-pos}
use Rattle.water_enclosure.proofs.Common.{true≢false, by_lt_z, clamps, ints, unsigned_abs, IsOver-lesser, IsOver-minus, lesser, minus, neg_times, Fraction, IsOver, IsShare, number, FlowModel}
use Rattle.water_enclosure.proofs.Common.{bottom_at, gap, thickness, top_at, ConvertibleLayers, is_convertible}
use Rattle.std.specs.Int.{int_min}
use Rattle.decimal_input.specs.Fractions.{den}
unfoldable use Rattle.water_table.specs.{saturated_thickness}

abs_share : (n : ℤ) (M k D : ℕ) → 0 < M → n *ℤ pos M ≡ pos k *ℤ pos D → unsigned_abs n * M ≡ k * D
abs_share (pos x) M k D some e = omega (arith, ints, e)
abs_share (negsuc x) M k D some e = absurd (omega (arith, ints, e, mul-pos {m = suc x} (omega arith) some))

pub gap_share : (M : ℕ) (f g : Fraction) (a b : ℤ) → 0 < M → IsOver M f a → IsOver M g b → b ≤ℤ a → IsShare M (gap f g) (unsigned_abs (a -ℤ b))
gap_share M f g a b some p q le =
    let same : f.num *ℤ pos (den g) -ℤ g.num *ℤ pos (den f) ≡ f.num *ℤ pos (den g) +ℤ neg_ℤ g.num *ℤ pos (den f) = omega (arith, ints, neg_times g.num (pos (den f))) in
    let back : a -ℤ b ≡ pos (unsigned_abs (a -ℤ b)) = omega (arith, ints, le) in
    record { is = abs_share _ M (unsigned_abs (a -ℤ b)) (den (minus f g)) some (ap (λ (n : ℤ). n *ℤ pos M) same ∙ (IsOver-minus M f g a b p q).is ∙ ap (λ (n : ℤ). n *ℤ pos (den (minus f g))) back) }

-- of a cell with top T and bottom B, at the head z, where its layer is convertible or not
abbrev pub thick : Bool → ℤ → ℤ → ℤ → ℕ
thick b T B z = cond b (unsigned_abs (int_min z T -ℤ B)) (unsigned_abs (T -ℤ B))

pub thick_some : (b : Bool) (T B z : ℤ) → B <ℤ T → (b ≡ true → B <ℤ z) → 0 < thick b T B z
thick_some true T B z room wet = omega (arith, ints, clamps, room, wet refl)
thick_some false T B z room wet = omega (arith, ints, room)

pub thick_rises : (b : Bool) (T B z z' : ℤ) → B <ℤ T → (b ≡ true → B <ℤ z) → z ≤ℤ z' → thick b T B z ≤ thick b T B z'
thick_rises true T B z z' room wet le = omega (arith, ints, clamps, room, wet refl, le)
thick_rises false T B z z' room wet le = omega arith

pub thick_within : (b : Bool) (T B z z' : ℤ) → B <ℤ T → (b ≡ true → B <ℤ z) → z ≤ℤ z' → (pos (thick b T B z') -ℤ pos (thick b T B z)) ≤ℤ (z' -ℤ z)
thick_within true T B z z' room wet le = omega (arith, ints, clamps, room, wet refl, le)
thick_within false T B z z' room wet le = omega (arith, ints, le)

-- where the cell is full at both heads
pub thick_stays : (b : Bool) (T B z z' : ℤ) → (b ≡ false) ⊎ (T ≤ℤ z) → (b ≡ false) ⊎ (T ≤ℤ z') → thick b T B z ≡ thick b T B z'
thick_stays false T B z z' full full' = refl
thick_stays true T B z z' (inl e) full' = absurd (true≢false e)
thick_stays true T B z z' (inr h) (inl e) = absurd (true≢false e)
thick_stays true T B z z' (inr h) (inr h') = ap (λ (x : ℤ). unsigned_abs (x -ℤ B)) (let e : int_min z T ≡ int_min z' T = omega (arith, ints, clamps, h, h') in e)

-- from the head z to a head at or above the bottom the fall is within the thickness, or the thickness stays if the head rises
pub thick_to_bottom : (b : Bool) (T B z z' low : ℤ) → B <ℤ T → (b ≡ true → B <ℤ z) → (b ≡ true → B ≤ℤ low) → z ≤ℤ z' → ((z -ℤ low) ≤ℤ pos (thick b T B z)) ⊎ (thick b T B z ≡ thick b T B z')
thick_to_bottom false T B z z' low room wet over le = inr refl
thick_to_bottom true T B z z' low room wet over le = by_lt_z z T (λ partly. inl (omega (arith, ints, clamps, room, wet refl, over refl, partly))) (λ full.
    inr (thick_stays true T B z z' (inr full) (inr (omega (arith, ints, full, le)))))

module _ (m : FlowModel) (w : ConvertibleLayers) (c : ℕ) where
  -- a cell's top and bottom over M
  pub record CellOver (M : ℕ) : Type 0 where
    pub T : ℤ
    pub B : ℤ
    pub top : IsOver M (number (top_at m c)) T
    pub bottom : IsOver M (number (bottom_at m c)) B
    pub room : B <ℤ T

  -- a head of the cell that is above its bottom where its layer is convertible
  abbrev pub IsWet : ℤ → ℤ → Type 0
  IsWet B z = is_convertible m w c ≡ true → B <ℤ z

  pub thick_share : (M : ℕ) → 0 < M → (s : CellOver M) (h : ℕ → Fraction) (z : ℤ) → IsOver M (h c) z → IsWet s.B z → IsShare M (saturated_thickness m w h c) (thick (is_convertible m w c) s.T s.B z)
  unfolding saturated_thickness
  thick_share M some s h z o wet = by_layer (is_convertible m w c) wet
    where
      by_layer : (b : Bool) → (b ≡ true → s.B <ℤ z) → IsShare M (cond b (gap (lesser (h c) (number (top_at m c))) (number (bottom_at m c))) (thickness m c)) (thick b s.T s.B z)
      by_layer true wet = gap_share M (lesser (h c) (number (top_at m c))) (number (bottom_at m c)) (int_min z s.T) s.B some
          (IsOver-lesser M (h c) (number (top_at m c)) z s.T o s.top) s.bottom (let r = s.room in let q = wet refl in omega (arith, ints, clamps, r, q))
      by_layer false wet = gap_share M (number (top_at m c)) (number (bottom_at m c)) s.T s.B some s.top s.bottom (let r = s.room in omega (arith, ints, r))
