-- The laws of exact balances, from their whole numbers.
use Rattle.cell_balance.proofs.Common.{◌≡◌, ℕ, ◌*◌, ◌<◌, ◌⊎◌, inl, inr, refl, subst, arith, ℤ, pos, ◌*ℤ◌, ◌≤ℤ◌, List, length, All, Bool, true, mul-pos, AllZip, cases_eq, ints, clamps, Ratio, Fraction}
use Rattle.cell_balance.proofs.Common.{fraction_total, IsOver, IsShare, AtMost, total, ExactCell, cell_at, no_cell, link_flow, balance, share, total_inside, IsClosed, deep_flow, LiesBelow}
use Rattle.cell_balance.proofs.Common.{LinksCancel, BalanceFalls, BalanceRises, DryLaw, mul_mono_right, mul_mono, loss_falls, total_mono, mul_comm}
use Rattle.cell_balance.proofs.{Zips.AllZip-at, Zips.AllZip-length, Zips.All-zip, Zips.IsDry, Zips.WholeCell, Zips.whole_at, Zips.no_whole, Zips.whole_link, Zips.whole_balance, Zips.whole_deep}
use Rattle.cell_balance.proofs.{Zips.whole_fixed, Zips.whole_river, Zips.whole_drain, Zips.whole_evap, Scaling.IsOver-total, Scaling.over_zero, Scaling.none_shared, Enclosing.over_le}
use Rattle.cell_balance.proofs.{Enclosing.le_over, Enclosing.IsOver-inside, Over.LinkOver, Over.FixedOver, Over.RiverOver, Over.DrainOver, Over.CellOver, Over.deep_over, Over.link_over}
use Rattle.cell_balance.proofs.{Over.balance_over, Denominators.cell_common, Denominators.step_common, Encloses.whole_cell, Encloses.whole_step, Encloses.share_is, Mutual.mutual_whole}
use Rattle.cell_balance.proofs.{Conducting.closed_cancel, Conducting.dry_law, Deep.total_at_most, Deep.same_z}

-- A whole balance falls weakly in its own head and rises weakly in the others.
pub whole_falls : (w : WholeCell) (v y : ℤ) (Y : ℕ → ℤ) → v ≤ℤ y → whole_balance w y Y ≤ℤ whole_balance w v Y
whole_falls w v y Y le =
    omega (
      arith,
      ints,
      total_mono (whole_link Y y) (whole_link Y v) w.links (λ x. mul_mono x.c _ _ (omega (arith, ints))),
      total_mono (whole_fixed y) (whole_fixed v) w.fixed (λ x. mul_mono x.c _ _ (omega (arith, ints))),
      total_mono (whole_river y) (whole_river v) w.rivers (λ x. mul_mono x.c _ _ (omega (arith, ints, clamps))),
      total_mono (whole_drain y) (whole_drain v) w.drains (λ x. loss_falls x.c _ _ (omega (arith, ints, clamps))),
      total_mono (whole_evap y) (whole_evap v) w.evaps (λ x. loss_falls x.c _ _ (omega (arith, ints, clamps))),
    )

pub whole_rises : (w : WholeCell) (v : ℤ) (Y Z : ℕ → ℤ) → All (λ x. Y x.cell ≤ℤ Z x.cell) w.links → whole_balance w v Y ≤ℤ whole_balance w v Z
whole_rises w v Y Z each =
    omega (arith, ints, total_at_most (λ x. Y x.cell ≤ℤ Z x.cell) (whole_link Y v) (whole_link Z v) w.links (λ x h. mul_mono x.c _ _ (omega (arith, ints))) each)

-- numerators over d, over n * d
pub heads_over : (n d : ℕ) → 0 < d → (z : ℤ) → IsOver (n * d) (share d z) (z *ℤ pos n)
heads_over n d some z = subst (λ (k : ℕ). IsOver k (share d z) (z *ℤ pos n)) (mul_comm d n) (share_is d n z some)

pub balance_falls : BalanceFalls
balance_falls c d v w X some le =
    let (n, some_n, common) = cell_common c in
    let (u, over) = whole_cell n 1 d c common in
    let heads = λ (k : ℕ). heads_over n d some (X k) in
    le_over (n * 1 * (n * d)) _ _ _ _ (mul-pos (omega arith) (mul-pos some_n some))
    (balance_over (n * 1) (n * d) (share d w) (w *ℤ pos n) (heads_over n d some w) (λ k. share d (X k)) (λ k. X k *ℤ pos n) heads c u over)
    (balance_over (n * 1) (n * d) (share d v) (v *ℤ pos n) (heads_over n d some v) (λ k. share d (X k)) (λ k. X k *ℤ pos n) heads c u over)
    (whole_falls u (v *ℤ pos n) (w *ℤ pos n) (λ k. X k *ℤ pos n) (mul_mono_right n v w le))

pub balance_rises : BalanceRises
balance_rises c d v X Z some each =
    let (n, some_n, common) = cell_common c in
    let (u, over) = whole_cell n 1 d c common in
    le_over (n * 1 * (n * d)) _ _ _ _ (mul-pos (omega arith) (mul-pos some_n some))
    (balance_over (n * 1) (n * d) (share d v) (v *ℤ pos n) (heads_over n d some v) (λ k. share d (X k)) (λ k. X k *ℤ pos n) (λ k. heads_over n d some (X k)) c u over)
    (balance_over (n * 1) (n * d) (share d v) (v *ℤ pos n) (heads_over n d some v) (λ k. share d (Z k)) (λ k. Z k *ℤ pos n) (λ k. heads_over n d some (Z k)) c u over)
    (whole_rises u (v *ℤ pos n) (λ k. X k *ℤ pos n) (λ k. Z k *ℤ pos n)
    (All-zip (LinkOver (n * 1) (n * d)) (λ x. X x.cell ≤ℤ Z x.cell) (λ x. (X x.cell *ℤ pos n) ≤ℤ (Z x.cell *ℤ pos n)) (λ x y r h.
    subst (λ (k : ℕ). (X k *ℤ pos n) ≤ℤ (Z k *ℤ pos n)) r.same (mul_mono_right n _ _ h)) c.links u.links over.links each))

module _ (k m : ℕ) (e : List ExactCell) (w : List WholeCell) (over : AllZip (CellOver k m) e w) where
  pub same_length : length e ≡ length w
  same_length = AllZip-length (CellOver k m) e w over

  pub cell_over : (c : ℕ) → c < length e → CellOver k m (cell_at e c) (whole_at w c)
  cell_over c i = AllZip-at (CellOver k m) e w c no_cell no_whole over i

  pub closed_whole : (inside : ℕ → Bool) → IsClosed e inside → (c : ℕ) → c < length w → inside c ≡ true → All (λ x. inside x.cell ≡ true) (whole_at w c).links
  closed_whole inside closed c i t =
      let here : c < length e = omega (arith, same_length, i) in
      All-zip (LinkOver k m) (λ x. inside x.cell ≡ true) (λ x. inside x.cell ≡ true) (λ x y r h. subst (λ (z : ℕ). inside z ≡ true) r.same h)
      (cell_at e c).links (whole_at w c).links (cell_over c here).links (closed c here t)

  dry_over : (v : Fraction) (y : ℤ) (c : ExactCell) (u : WholeCell) → IsOver m v y → CellOver k m c u → LiesBelow v c → IsDry y u
  dry_over v y c u own o h = record {
    fixed = All-zip (FixedOver k m) (λ x. 0 < x.conductance.num → AtMost v x.head) (λ x. (x.c ≡ 0) ⊎ (y ≤ℤ x.top)) (λ x z r b.
        case x.conductance z.c x.head z.top r.c r.top b) c.fixed u.fixed o.fixed h.fixed;
    rivers = All-zip (RiverOver k m) (λ x. 0 < x.conductance.num → AtMost v x.bottom) (λ x. (x.c ≡ 0) ⊎ (y ≤ℤ x.foot)) (λ x z r b.
        case x.conductance z.c x.bottom z.foot r.c r.foot b) c.rivers u.rivers o.rivers h.rivers;
    drains = All-zip (DrainOver k m) (λ x. 0 < x.conductance.num → AtMost v x.elevation) (λ x. (x.c ≡ 0) ⊎ (y ≤ℤ x.foot)) (λ x z r b.
        case x.conductance z.c x.elevation z.foot r.c r.foot b) c.drains u.drains o.drains h.drains;
  }
    where
      case : (r : Ratio) (c : ℕ) (f : Fraction) (z : ℤ) → IsShare k r c → IsOver m f z → (0 < r.num → AtMost v f) → (c ≡ 0) ⊎ (y ≤ℤ z)
      case r c f z part over_f below =
          elim (cases_eq r.num 0) [
            | inl none ↦ inl (none_shared k c r none part)
            | inr some ↦ inr (over_le m v f y z own over_f (below (omega arith)))
          ]

pub links_cancel : LinksCancel
links_cancel e inside d X linked closed some =
    let (n, some_n, common) = step_common e in
    let (w, over) = whole_step n 1 d e common in
    let heads = λ (k : ℕ). heads_over n d some (X k) in
    let Y = λ (k : ℕ). X k *ℤ pos n in
    let both = mutual_whole (n * 1) (n * d) e w linked over in
    let none = closed_cancel w inside Y both (closed_whole (n * 1) (n * d) e w over inside closed) in
    let sum = IsOver-inside (n * 1 * (n * d)) (length e) inside (λ c. fraction_total (link_flow (λ k. share d (X k)) (share d (X c))) (cell_at e c).links) (λ c.
    total (whole_link Y (Y c)) (whole_at w c).links)
    (λ c i. IsOver-total (LinkOver (n * 1) (n * d)) (n * 1 * (n * d)) _ _
    (link_over (n * 1) (n * d) (share d (X c)) (Y c) (heads c) (λ k. share d (X k)) Y heads) (cell_at e c).links (whole_at w c).links
    (cell_over (n * 1) (n * d) e w over c i).links) in
    over_zero (n * 1 * (n * d)) _ (mul-pos (omega arith) (mul-pos some_n some))
    (subst (λ (z : ℤ). IsOver (n * 1 * (n * d))
    (total_inside (length e) inside (λ c. fraction_total (link_flow (λ k. share d (X k)) (share d (X c))) (cell_at e c).links)) z)
    (rw (same_length (n * 1) (n * d) e w over) none) sum)

pub exact_dry_law : DryLaw
exact_dry_law e inside d X linked closed some below =
    let (n, some_n, common) = step_common e in
    let (w, over) = whole_step n 1 d e common in
    let heads = λ (k : ℕ). heads_over n d some (X k) in
    let Y = λ (k : ℕ). X k *ℤ pos n in
    let both = mutual_whole (n * 1) (n * d) e w linked over in
    let same = same_length (n * 1) (n * d) e w over in
    let law = dry_law w Y both inside Y (λ c i t.
    let here : c < length e = omega (arith, same, i) in (
      same_z (Y c),
      dry_over (n * 1) (n * d) e w over (share d (X c)) (Y c) (cell_at e c) (whole_at w c) (heads c) (cell_over (n * 1) (n * d) e w over c here)
          (below c here t),
    )) (closed_whole (n * 1) (n * d) e w over inside closed) in
    le_over (n * 1 * (n * d)) _ _ _ _ (mul-pos (omega arith) (mul-pos some_n some))
    (IsOver-inside (n * 1 * (n * d)) (length e) inside (λ c. deep_flow (cell_at e c)) (λ c. whole_deep (whole_at w c)) (λ c i.
    deep_over (n * 1) (n * d) (cell_at e c) (whole_at w c) (cell_over (n * 1) (n * d) e w over c i)))
    (IsOver-inside (n * 1 * (n * d)) (length e) inside (λ c. balance (cell_at e c) (share d (X c)) (λ k. share d (X k))) (λ c.
    whole_balance (whole_at w c) (Y c) Y) (λ c i. balance_over (n * 1) (n * d) (share d (X c)) (Y c) (heads c) (λ k. share d (X k)) Y heads (cell_at e c)
    (whole_at w c) (cell_over (n * 1) (n * d) e w over c i)))
    (rw same law)
