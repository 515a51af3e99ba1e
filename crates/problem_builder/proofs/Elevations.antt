-- Elevations of a valid model are numbers of the input, and a bed is one where its elevations differ.
use Rattle.problem_builder.proofs.Common.{◌≡◌, ℕ, suc, ◌+◌, ◌-◌, ◌<◌, inl, inr, Bool, true, false, cond, sym, ap, ◌∙◌, pos, ◌*ℤ◌, Dec, IsDec, number, Fraction, FlowModel, cell_count, layer_size}
use Rattle.problem_builder.proofs.Common.{dec_at, is_active, has_bed, top_at, bottom_at, lowest, bed_thickness, IsModel, IsBedValid, nat_lt, no_gap, dec_at_is}
use Rattle.decimal_input.proofs.Unique.{one_number}

either : (b : Bool) (x y : Dec) → IsDec x → IsDec y → IsDec (cond b x y)
either true x y h k = h
either false x y h k = k

pub bottom_valid : (m : FlowModel) (c : ℕ) → IsModel m → IsDec (bottom_at m c)
bottom_valid m c valid = dec_at_is m.grid.bottom c valid.grid.bottom.1

pub lowest_valid : (m : FlowModel) (c : ℕ) → IsModel m → IsDec (lowest m c)
lowest_valid m c valid = either (has_bed m c) (dec_at m.grid.bed_bottom c) (bottom_at m c) (dec_at_is m.grid.bed_bottom c valid.grid.bed_bottom.1) (bottom_valid m c valid)

pub top_valid : (m : FlowModel) (c : ℕ) → IsModel m → IsDec (top_at m c)
top_valid m c valid = either (nat_lt c (layer_size m.grid)) (dec_at m.grid.top c) (lowest m (c - layer_size m.grid)) (dec_at_is m.grid.top c valid.grid.top.1)
    (lowest_valid m (c - layer_size m.grid) valid)

pub no_bed_gap : (m : FlowModel) (c : ℕ) → has_bed m c ≡ false → (bed_thickness m c).num ≡ 0
no_bed_gap m c e = no_gap (number (lowest m c)) (number (bottom_at m c)) (ap (λ b. number (cond b (dec_at m.grid.bed_bottom c) (dec_at m.grid.bottom c))) e)

pub same_bed_gap : (m : FlowModel) (c : ℕ) → lowest m c ≡ bottom_at m c → (bed_thickness m c).num ≡ 0
same_bed_gap m c e = no_gap (number (lowest m c)) (number (bottom_at m c)) (ap number e)

pub bed_valid : (m : FlowModel) (c : ℕ) → IsModel m → c + layer_size m.grid < cell_count m.grid → is_active m c ≡ true → is_active m (c + layer_size m.grid) ≡
    true → has_bed m c ≡ true → (lowest m c ≡ bottom_at m c → ⊥) → IsBedValid m c
bed_valid m c valid lt x y e differ = elim (valid.beds c lt x y e) [
  | inl same ↦ absurd (differ (one_number (lowest m c) (bottom_at m c) (lowest_valid m c valid) (bottom_valid m c valid)
      (record {
        same = ap (λ (f : Fraction). f.num *ℤ pos (suc (number (bottom_at m c)).less)) same ∙ ap (λ (f : Fraction).
            (number (bottom_at m c)).num *ℤ pos (suc f.less)) (sym same);
      })))
  | inr k ↦ k
]
