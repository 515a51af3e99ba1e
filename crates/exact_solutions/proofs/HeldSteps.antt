-- Each exact step that a problem encloses has a solution where its components are held below and above, and one alone where they are held below.
use Rattle.exact_solutions.proofs.Common.{step_common, ◌*◌, ◌^◌, ◌∙◌, arith, length, pos, mul-pos, ◌+ℤ◌, ◌<◌, ◌≡◌, ◌≤ℤ◌, List, inl, inr, ℕ, ℤ, ◌*ℤ◌, ap, sym, mutual_whole, whole_step, AllZip-length}
use Rattle.exact_solutions.proofs.Common.{WholeCell, WholeEntry, whole_at, CellWithin, DrainWithin, RiverWithin, last_factors_swap, AllZip, ints, All-contains, total, entries_at, HeldHaveASolution}
use Rattle.exact_solutions.proofs.Common.{HeldHaveAtMostOne, IsAnchoredAbove, IsHeldAbove, ramps_from, a_of, b_of, q_of, ramps_at_cell, open_conductance, open_conductance_at, IsHeldFromAbove}
use Rattle.exact_solutions.proofs.Common.{both_ways, All-back, none_conduct, total_positive, CellEncloses, share, Fraction, IsOver, Same, den}
use Rattle.decimal_input.proofs.Powers.{ten_pos}
use Rattle.cell_balance.proofs.Enclosed.{step_within, entries_are_linked, links_good}
use Rattle.exact_solutions.proofs.{LinearSteps.cancel_same, LinearSteps.one_whole_solution, OneRamp.whole_solution_exists, WholeSolutions.solves_step, WholeSolutions.solves_whole}
use Rattle.step_problem.specs.Entries.{Entries}
use Rattle.cell_balance.proofs.HeldBelow.{held_below, closed_set_holds_lead, no_fixed, some_conducts, cell_within}

-- Heads over two denominators are the same number where they are the same over the product.
pub share_den : (d : ℕ) (z : ℤ) → 0 < d → den (share d z) ≡ d
share_den d z some = omega arith

pub crossed_same : (d k : ℕ) (x y : ℤ) → 0 < d → 0 < k → x *ℤ pos k ≡ y *ℤ pos d → Same (share d x) (share k y)
crossed_same d k x y some_d some_k e = record { same = ap (λ (z : ℕ). x *ℤ pos z) (share_den k y some_k) ∙ e ∙ ap (λ (z : ℕ). y *ℤ pos z) (sym (share_den d x some_d)) }

pub same_crossed : (d k : ℕ) (x y : ℤ) → 0 < d → 0 < k → Same (share d x) (share k y) → x *ℤ pos k ≡ y *ℤ pos d
same_crossed d k x y some_d some_k s = sym (ap (λ (z : ℕ). x *ℤ pos z) (share_den k y some_k)) ∙ s.same ∙ ap (λ (z : ℕ). y *ℤ pos z) (share_den d x some_d)

pub same_share : (d : ℕ) (f : Fraction) (x : ℤ) → 0 < d → IsOver d f x → Same f (share d x)
same_share d f x some over = record { same = ap (λ (z : ℕ). f.num *ℤ pos z) (share_den d x some) ∙ over.is }

module _ (m n : ℕ) (some_m : 0 < m) (some_n : 0 < n) (p : List Entries) (w : List WholeCell)
    (within : AllZip (CellWithin m n (length p)) p w)
  where
    same_length : length p ≡ length w
    same_length = AllZip-length (CellWithin m n (length p)) p w within

    -- held above
    pub held_above : IsHeldAbove p → IsHeldFromAbove (length w) (a_of w) (b_of w) (q_of w) (ramps_from 0 w)
    held_above held S closed none c h inside =
        let i : c < length p = omega (arith, h, same_length) in
        let (j, k, way, anchored) = held c i in
        let (k_in, there) = closed_set_holds_lead m n some_m some_n p w within S closed j c k i inside way in
        no_highest k k_in (none k (omega (arith, k_in, same_length)) there) anchored
      where
        first : (b : ℕ) (r d e : ℤ) → pos 0 ≤ℤ r → pos 0 ≤ℤ d → pos 0 ≤ℤ e → pos b +ℤ (r +ℤ (d +ℤ e)) ≡ pos 0 → (b ≡ 0) × (r ≡ pos 0) × (d ≡ pos 0)
        first b r d e h k l s = (omega (arith, ints), omega (arith, ints), omega (arith, ints))

        no_highest : (k : ℕ) → k < length p → pos (b_of w k) +ℤ total (open_conductance_at k) (ramps_from 0 w) ≡ pos 0 → IsAnchoredAbove p k → ⊥
        no_highest k k_in e anchored =
            let u = whole_at w k in
            let (no_b, no_r, no_d) = first (b_of w k) (total (λ (x : WholeEntry). pos x.c) u.rivers) (total (λ (x : WholeEntry). pos x.c) u.drains) (total (λ (x : WholeEntry). pos 0) u.evaps)
            (total_positive (λ (x : WholeEntry). x.c) u.rivers) (total_positive (λ (x : WholeEntry). x.c) u.drains) (total_positive (λ (x : WholeEntry). 0) u.evaps)
            (rw (ramps_at_cell (λ r. pos (open_conductance r.c r.top)) k w) at e) in
            elim anchored [
              | inl (x, has, conducts) ↦ All-contains (λ x. 0 < x.lo → ⊥) (entries_at p k).fixed x (no_fixed m n some_m some_n p w within k k_in no_b) has conducts
              | inr (inl (x, has, conducts)) ↦ All-contains (λ x. 0 < x.lo → ⊥) (entries_at p k).rivers x
                  (All-back (RiverWithin m n) (λ x. 0 < x.lo → ⊥) (λ x. x.c ≡ 0) (λ x y r e. some_conducts m n some_m some_n p w within x.lo x.hi y.c r.c e)
                  (entries_at p k).rivers u.rivers (cell_within m n p w within k k_in).rivers (none_conduct (λ (x : WholeEntry). x.c) u.rivers no_r)) has
                  conducts
              | inr (inr (x, has, conducts)) ↦ All-contains (λ x. 0 < x.lo → ⊥) (entries_at p k).drains x
                  (All-back (DrainWithin m n) (λ x. 0 < x.lo → ⊥) (λ x. x.c ≡ 0) (λ x y r e. some_conducts m n some_m some_n p w within x.lo x.hi y.c r.c e)
                  (entries_at p k).drains u.drains (cell_within m n p w within k k_in).drains (none_conduct (λ (x : WholeEntry). x.c) u.drains no_d)) has
                  conducts
            ]

pub solution_exists : HeldHaveASolution
solution_exists p fits held above s e encloses =
    let (n, some_n, common) = step_common e in
    let (w, over) = whole_step n (10 ^ s) (10 ^ 9) e common in
    let within = step_within s n n (length p) p e w encloses.cells over (links_good p fits) in
    let both = mutual_whole (n * 10 ^ s) (n * 10 ^ 9) e w (entries_are_linked s p e fits encloses) over in
    let (d, X, is) = whole_solution_exists (length w) (a_of w) (both_ways w both) (b_of w) (q_of w) (ramps_from 0 w)
    (held_below n n some_n some_n p w within held) (held_above n n some_n some_n p w within above) in (
      n * 10 ^ 9 * d,
      X,
      mul-pos (mul-pos some_n (ten_pos 9)) is.some,
      solves_step (n * 10 ^ s) (n * 10 ^ 9) (mul-pos some_n (ten_pos s)) (mul-pos some_n (ten_pos 9)) e w over both d X is,
    )

pub solution_is_one : HeldHaveAtMostOne
solution_is_one p fits held s e encloses d k X Y some_d some_k solves_x solves_y c i =
    let (n, some_n, common) = step_common e in
    let (w, over) = whole_step n (10 ^ s) (10 ^ 9) e common in
    let within = step_within s n n (length p) p e w encloses.cells over (links_good p fits) in
    let both = mutual_whole (n * 10 ^ s) (n * 10 ^ 9) e w (entries_are_linked s p e fits encloses) over in
    let some_k' = mul-pos some_n (ten_pos s) in
    let some_m = mul-pos some_n (ten_pos 9) in
    let x = solves_whole (n * 10 ^ s) (n * 10 ^ 9) some_k' some_m e w over both d X some_d solves_x in
    let y = solves_whole (n * 10 ^ s) (n * 10 ^ 9) some_k' some_m e w over both k Y some_k solves_y in
    let same = one_whole_solution (length w) (a_of w) (b_of w) (q_of w) (ramps_from 0 w) (both_ways w both)
    (held_below n n some_n some_n p w within held) d k _ _ x y c
    (omega (arith, i, AllZip-length (CellEncloses s) p e encloses.cells, AllZip-length (CellWithin n n (length p)) p w within)) in
    crossed_same d k (X c) (Y c) some_d some_k (cancel_same (n * 10 ^ 9) _ _ some_m (last_factors_swap (X c) (pos k) (pos (n * 10 ^ 9)) ∙ same ∙ last_factors_swap (Y c) (pos (n * 10 ^ 9)) (pos d)))
