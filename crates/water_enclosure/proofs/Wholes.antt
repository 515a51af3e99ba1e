-- A step at given heads in whole numbers: what each cell gets over its links, and by its own head.
use Rattle.water_enclosure.proofs.Common.{over_multiple, ◌≡◌, ℕ, zero, suc, ◌*◌, ◌+◌, ◌<◌, ◌≤◌, inl, inr, List, [], ◌∷◌, All, map, ℤ, pos, ◌+ℤ◌, ◌-ℤ◌, ◌*ℤ◌, ◌≤ℤ◌, refl, ap, sym, ◌∙◌, subst, arith}
use Rattle.water_enclosure.proofs.Common.{cases_eq, cases_lt, eq-eqb, ne_eqb, ints, All-head, All-tail, AllZip, Goes, by_weight, weight, LinkOver, WholeCell, WholeLink, whole_balance, whole_drain}
use Rattle.water_enclosure.proofs.Common.{whole_evap, whole_fixed, whole_link, whole_river, ExactLink, sum_below, Fraction, IsOver, IsShare, CellFlows, gain_from_first}
use Rattle.step_problem.specs.{total}
use Rattle.std.proofs.Math.IntN.{zero-*ℤ}
use Rattle.cell_balance.proofs.Deep.{add_mul}

pub spread : (M T : ℕ) (f : Fraction) (z : ℤ) → Goes M T → IsOver M f z → (y : ℤ) × IsOver T f y
spread M T f z (q, e) o = (z *ℤ pos q, subst (λ (k : ℕ). IsOver k f (z *ℤ pos q)) (sym e) (over_multiple M q f z o))

-- a family of fractions that stays the same from place n on
pub everywhere : (M n : ℕ) (f : ℕ → Fraction) → ((k : ℕ) → n < k → f k ≡ f n) → ((k : ℕ) → k < suc n → (z : ℤ) × IsOver M (f k) z) → (k : ℕ) → (z : ℤ) × IsOver M (f k) z
everywhere M n f stays at k = elim (cases_lt n k) [
  | inl past ↦ let (z, o) = at n (omega arith) in (z, subst (λ (x : Fraction). IsOver M x z) (sym (stays k past)) o)
  | inr here ↦ at k (omega (arith, here))
]

-- all but the flows over links
abbrev pub own_whole : WholeCell → ℤ → ℤ
own_whole w y = total (λ q. q) w.flows +ℤ (total (whole_fixed y) w.fixed +ℤ (total (whole_river y) w.rivers +ℤ (total (whole_drain y) w.drains +ℤ total (whole_evap y) w.evaps)))

pub apart : (w : WholeCell) (y : ℤ) (Y : ℕ → ℤ) → whole_balance w y Y ≡ own_whole w y +ℤ total (whole_link Y y) w.links
apart w y Y = six (total (λ q. q) w.flows) (total (whole_link Y y) w.links) (total (whole_fixed y) w.fixed) (total (whole_river y) w.rivers)
    (total (whole_drain y) w.drains) (total (whole_evap y) w.evaps)
  where
    six : (a b c d e f : ℤ) → a +ℤ b +ℤ c +ℤ d +ℤ e +ℤ f ≡ a +ℤ (c +ℤ (d +ℤ (e +ℤ f))) +ℤ b
    six a b c d e f = omega (arith, ints)

-- what a cell gets over its links, by the cells that they lead to
pub gain_is : (f : CellFlows) (i n : ℕ) → gain_from_first f i n ≡ sum_below n (f.pair i)
gain_is f i zero = refl
gain_is f i (suc n) = ap (λ (z : ℤ). z +ℤ f.pair i n) (gain_is f i n)

pub links_by_cell : (n : ℕ) (links : List WholeLink) (Y : ℕ → ℤ) (y : ℤ) → All (λ x. x.cell < n) links → total (whole_link Y y) links ≡ sum_below n (λ k. weight links k *ℤ (Y k -ℤ y))
links_by_cell n links Y y range = by_weight n links (λ k. Y k -ℤ y) range

-- Links from the same sources, with other conductances: what they give to one cell is in order where each of them is.
module _ {S : Type 0} (k m j : ℕ) (a b : S → ExactLink) (D D' : ℤ) (same : (s : S) → (a s).cell ≡ (b s).cell) where
  abbrev pub EachInOrder : S → Type 0
  EachInOrder s = (a s).cell ≡ j → (c c' : ℕ) → IsShare k (a s).conductance c → IsShare k (b s).conductance c' → (pos c *ℤ D) ≤ℤ (pos c' *ℤ D')

  pub weights_in_order : (xs : List S) (ws ws' : List WholeLink) → AllZip (LinkOver k m) (map a xs) ws → AllZip (LinkOver k m) (map b xs) ws' →
      All EachInOrder xs → (weight ws j *ℤ D) ≤ℤ (weight ws' j *ℤ D')
  weights_in_order [] [] [] z z' each = rw (zero-*ℤ D, zero-*ℤ D') (omega (arith, ints))
  weights_in_order [] (v ∷ ws) ws' z z' each = absurd z
  weights_in_order [] [] (v ∷ ws') z z' each = absurd z'
  weights_in_order (s ∷ xs) [] ws' z z' each = absurd z
  weights_in_order (s ∷ xs) (v ∷ ws) [] z z' each = absurd z'
  weights_in_order (s ∷ xs) (v ∷ ws) (v' ∷ ws') z z' each =
      let more = weights_in_order xs ws ws' z.1 z'.1 (All-tail EachInOrder s xs each) in
      let here = sym z.0.same in
      let there = sym z'.0.same in
      elim (cases_eq v.cell j) [
        | inl leads ↦
            let leads' : v'.cell ≡ j = there ∙ sym (same s) ∙ sym here ∙ leads in
            let one = All-head EachInOrder s xs each (sym here ∙ leads) v.c v'.c z.0.c z'.0.c in
            rw (eq-eqb v.cell j leads, eq-eqb v'.cell j leads', add_mul (pos v.c) (weight ws j) D, add_mul (pos v'.c) (weight ws' j) D') (omega (arith, ints, one, more))
        | inr other ↦
            let other' : v'.cell ≡ j → ⊥ = λ e. other (here ∙ same s ∙ sym there ∙ e) in
            rw (ne_eqb v.cell j other, ne_eqb v'.cell j other', add_mul (pos 0) (weight ws j) D, add_mul (pos 0) (weight ws' j) D', zero-*ℤ D, zero-*ℤ D') (omega (arith, ints, more))
      ]
