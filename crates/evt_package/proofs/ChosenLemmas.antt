-- The cell that an option chooses is the one of its column.
use Rattle.evt_package.proofs.Common.{◌≡◌, ◌⊎◌, inl, inr, ℕ, zero, suc, ◌+◌, ◌-◌, ◌*◌, ◌<◌, ◌≤◌, Bool, true, false, ◌&&◌, ◌||◌, ◌==◌, nat_le, nat_lt, List, ℤ, pos, negsuc, Some, get_or, length, refl}
use Rattle.evt_package.proofs.Common.{sym, ap, ◌∙◌, zero-add, arith, if◌then◌else◌, and_parts, not-true, eqb-true, le-leb, lt-ltb, div-add-mod', Grid, FlowModel, cell_count, layer_of, layer_size}
use Rattle.evt_package.proofs.Common.{place_in_layer, HasSize, int_at, is_active, is_nonzero, is_chosen, is_highest, is_int, layer_below, within, chosen_cell, highest_active, in_layer}
use Rattle.std.proofs.{lemmas.Bool.Decides.leb_tells, lemmas.List.Folds.list_any_at, lemmas.List.FromFn.get_or-range_with_len, lemmas.List.FromFn.length-range_with_len}
use Rattle.std.specs.List.{list_any, range_with_len}

-- the first active layer t is found
found_at : (g : Grid) (ibound : List ℤ) (i n k t : ℕ) → k ≤ t → t < k + n → is_nonzero (int_at ibound (t * layer_size g + i)) ≡ true
    → ((j : ℕ) → j < t → is_nonzero (int_at ibound (j * layer_size g + i)) ≡ false) → highest_active g ibound i k n ≡ Some (t * layer_size g + i)
unfolding highest_active
found_at g ibound i zero k t low high active above = absurd (omega (arith, low, high))
found_at g ibound i (suc n) k t low high active above = by_case (leb_tells (k + 1) t) (λ past. found_at g ibound i n (k + 1) t past (omega (arith, high)) active above)
  where
    by_case : ((nat_le (k + 1) t ≡ true) × (k + 1 ≤ t)) ⊎ ((nat_le (k + 1) t ≡ false) × (t < k + 1)) →
        (k + 1 ≤ t → highest_active g ibound i (k + 1) n ≡ Some (t * layer_size g + i)) →
        (if is_nonzero (int_at ibound (k * layer_size g + i)) then Some (k * layer_size g + i) else highest_active g ibound i (k + 1) n) ≡
        Some (t * layer_size g + i)
    by_case (inl a) later =
        let no : is_nonzero (int_at ibound (k * layer_size g + i)) ≡ false = above k (omega (arith, a.1)) in
        rw no (later a.1)
    by_case (inr a) later =
        let same : k ≡ t = omega (arith, a.1, low) in
        rw (same, active) refl

int_is : (z : ℤ) (k : ℕ) → is_int z k ≡ true → z ≡ pos k
int_is (pos n) k e = ap pos (eqb-true n k e)
int_is (negsuc n) k e = absurd (let clash : false ≡ true = e in cc)

-- nothing above the highest cell is active
above_highest : (m : FlowModel) (c : ℕ) → is_highest m c ≡ true → (j : ℕ) → j < layer_of m.grid c → is_active m (j * layer_size m.grid + place_in_layer m.grid c) ≡ false
above_highest m c h j lt = by_case (is_active m (j * layer_size m.grid + place_in_layer m.grid c)) refl
  where
    by_case : (b : Bool) → is_active m (j * layer_size m.grid + place_in_layer m.grid c) ≡ b → is_active m (j * layer_size m.grid + place_in_layer m.grid c) ≡ false
    by_case false e = e
    by_case true e =
        let it : get_or (range_with_len 0 (layer_of m.grid c)) j 0 ≡ j = get_or-range_with_len 0 (layer_of m.grid c) j 0 lt ∙ zero-add j in
        let inside : j < length (range_with_len 0 (layer_of m.grid c)) = rw (length-range_with_len 0 (layer_of m.grid c)) lt in
        let some : list_any (λ k. is_active m (k * layer_size m.grid + place_in_layer m.grid c)) (range_with_len 0 (layer_of m.grid c)) ≡ true =
        list_any_at (λ k. is_active m (k * layer_size m.grid + place_in_layer m.grid c)) (range_with_len 0 (layer_of m.grid c)) j 0 inside (rw it e) in
        let none : list_any (λ k. is_active m (k * layer_size m.grid + place_in_layer m.grid c)) (range_with_len 0 (layer_of m.grid c)) ≡ false = not-true _ h in
        absurd (let clash : true ≡ false = sym some ∙ none in cc)

its_place : (g : Grid) (c : ℕ) → layer_of g c * layer_size g + place_in_layer g c ≡ c
its_place g c = div-add-mod' c (layer_size g)

first_layer : (g : Grid) (c : ℕ) → layer_of g c ≡ 0 → Some (place_in_layer g c) ≡ Some c
first_layer g c e =
    let here : 0 * layer_size g + place_in_layer g c ≡ c = ap (λ k. k * layer_size g + place_in_layer g c) (sym e) ∙ its_place g c in
    let same : place_in_layer g c ≡ c = omega (arith, here) in
    ap Some same

named : (g : Grid) (i k : ℕ) (z : ℤ) → z ≡ pos (suc k) → k < g.layers → in_layer g i (within z g.layers) ≡ Some (k * layer_size g + i)
named g i k z e lt =
    let some : nat_lt 0 (suc k) ≡ true = lt-ltb 0 (suc k) (omega arith) in
    let few : nat_le (suc k) g.layers ≡ true = le-leb (suc k) g.layers (omega (arith, lt)) in
    let before : suc k - 1 ≡ k = omega arith in
    rw (e, some, few, before) refl

pub chosen_is : (m : FlowModel) (option : ℤ) (layers : List ℤ) (c : ℕ) → HasSize m.grid → c < cell_count m.grid → is_active m c ≡ true →
    is_chosen m option layers c ≡ true → chosen_cell m.grid m.ibound option layers (place_in_layer m.grid c) ≡ Some c
chosen_is m option layers c size lt active h =
    by_part (parts (is_int option 1 && (layer_of m.grid c == 0))
    (is_int option 2 && is_int (int_at layers (place_in_layer m.grid c)) (suc (layer_of m.grid c))) _ h)
  where
    below : layer_of m.grid c < m.grid.layers
    below = layer_below m.grid size c lt

    parts : (x y z : Bool) → (x || y || z) ≡ true → (x ≡ true) ⊎ ((y ≡ true) ⊎ (z ≡ true))
    parts true y z e = inl refl
    parts false true z e = inr (inl refl)
    parts false false z e = inr (inr e)

    by_part : ((is_int option 1 && (layer_of m.grid c == 0)) ≡ true) ⊎
        (((is_int option 2 && is_int (int_at layers (place_in_layer m.grid c)) (suc (layer_of m.grid c))) ≡ true) ⊎
        ((is_int option 3 && is_active m c && is_highest m c) ≡ true))
        → chosen_cell m.grid m.ibound option layers (place_in_layer m.grid c) ≡ Some c
    by_part (inl p) = let q = and_parts (is_int option 1) (layer_of m.grid c == 0) p in rw (int_is option 1 q.0) (first_layer m.grid c (eqb-true (layer_of m.grid c) 0 q.1))
    by_part (inr (inl p)) =
        let q = and_parts (is_int option 2) (is_int (int_at layers (place_in_layer m.grid c)) (suc (layer_of m.grid c))) p in
        rw (int_is option 2 q.0) (named m.grid (place_in_layer m.grid c) (layer_of m.grid c) _
        (int_is (int_at layers (place_in_layer m.grid c)) (suc (layer_of m.grid c)) q.1) below ∙ ap Some (its_place m.grid c))
    by_part (inr (inr p)) =
        let q = and_parts (is_int option 3 && is_active m c) (is_highest m c) p in
        let three = int_is option 3 (and_parts (is_int option 3) (is_active m c) q.0).0 in
        rw three (found_at m.grid m.ibound (place_in_layer m.grid c) m.grid.layers 0 (layer_of m.grid c) (omega arith) (omega (arith, below))
        (rw (its_place m.grid c) active) (above_highest m c q.1) ∙ ap Some (its_place m.grid c))
