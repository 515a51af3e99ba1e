-- Gentle heads at which cells gain more lie lower: both steps in whole numbers over one denominator, and the comparison over pair flows.
use Rattle.water_enclosure.proofs.Common.{◌≡◌, ℕ, zero, suc, ◌*◌, ◌+◌, ◌<◌, inl, inr, List, All, length, Bool, true, false, cond, ℤ, pos, neg_ℤ, ◌+ℤ◌, ◌-ℤ◌, ◌*ℤ◌, ◌≤ℤ◌, ◌<ℤ◌, refl, ap, sym, ◌∙◌}
use Rattle.water_enclosure.proofs.Common.{subst, arith, mul-pos, and_parts, cases_eq, cond-false, cond-true, eq-eqb, ne_eqb, get_or_past, nat_eq, not, ◌&&◌, ints, All-from_get_or, All-get_or, AllZip}
use Rattle.water_enclosure.proofs.Common.{Goes-first, Goes-second, Goes-trans, step_common, IsMutual, weight, below_over, le_over, over_le, CellOver, DrainOver, EvapOver, FixedOver, FlowOver}
use Rattle.water_enclosure.proofs.Common.{RiverOver, balance_over, drain_over, evap_over, fixed_over, river_over, IsOver-minus, IsOver-plus, IsOver-signed, IsOver-times, IsOver-total, AllZip-at}
use Rattle.water_enclosure.proofs.Common.{AllZip-length, WholeCell, no_whole, whole_at, whole_balance, whole_drain, whole_evap, whole_fixed, whole_river, ExactCell, IsBelow, drain_flow, evap_flow}
use Rattle.water_enclosure.proofs.Common.{fixed_flow, minus, no_cell, river_flow, share, Fraction, IsOver, as_fraction, fraction_total, AtMost, plus, times, end_within, passing_are, All-In, In}
use Rattle.water_enclosure.proofs.Common.{In-All, Face, FlowModel, TimeStep, IsModel, cell_count, constant_faces, is_active, is_constant, is_variable, variable_cells, variable_faces, CellFlows}
use Rattle.water_enclosure.proofs.Common.{AreComparable, ConvertibleLayers, FallsGently, IsGentle, conductance_at, constant_branch, convertible_cell, convertible_step, heads_at, variable_branch}
use Rattle.water_enclosure.proofs.Common.{variable_cell, water_balance, AtMost-of, common_denominator_exists, plus_rises, GreaterBalancesLieLower, OwnFlowsAreAtMost, mul_neg}
use Rattle.cell_balance.proofs.{Encloses.whole_step, Mutual.mutual_whole}
use Rattle.pair_flows.specs.{balance as pair_balance}
use Rattle.pair_flows.proofs.Ordered.{greater_balances_lie_lower as pairs_lie_lower}
use Rattle.water_table.proofs.Waters.{storage_flow_rises}
use Rattle.water_enclosure.proofs.{Linked.are_linked, Linked.cell_is, Linked.index_names_cell, Linked.step_length, Linked.variable_at, Cells.variable_active, Neighbours.face_in_order}
use Rattle.water_enclosure.proofs.{Neighbours.variable_in_order, Own.drain_falls, Own.evap_falls, Own.fixed_falls, Own.front_falls, Own.river_falls, Own.total_falls, Wholes.EachInOrder, Wholes.apart}
use Rattle.water_enclosure.proofs.{Wholes.everywhere, Wholes.gain_is, Wholes.links_by_cell, Wholes.own_whole, Wholes.spread, Wholes.weights_in_order}
unfoldable use Rattle.model_types.specs.{constant_head}
unfoldable use Rattle.water_table.specs.{storage_flow}

-- all that cell c gets by its own head v, but for storage
abbrev own_flow : ExactCell → Fraction → Fraction
own_flow e v = plus (fraction_total (λ x. x.flow) e.flows)
    (plus (fraction_total (fixed_flow v) e.fixed)
    (plus (fraction_total (river_flow v) e.rivers) (plus (fraction_total (drain_flow v) e.drains) (fraction_total (evap_flow v) e.evaps))))

own_over : (k m : ℕ) (e : ExactCell) (u : WholeCell) (v : Fraction) (y : ℤ) → IsOver m v y → CellOver k m e u → IsOver (k * m) (own_flow e v) (own_whole u y)
own_over k m e u v y own o =
    IsOver-plus (k * m) _ _ _ _ (IsOver-total (FlowOver k m) (k * m) (λ x. x.flow) (λ q. q) (λ x q s. s.flow) e.flows u.flows o.flows)
    (IsOver-plus (k * m) _ _ _ _ (IsOver-total (FixedOver k m) (k * m) (fixed_flow v) (whole_fixed y) (fixed_over k m v y own) e.fixed u.fixed o.fixed)
    (IsOver-plus (k * m) _ _ _ _ (IsOver-total (RiverOver k m) (k * m) (river_flow v) (whole_river y) (river_over k m v y own) e.rivers u.rivers o.rivers)
    (IsOver-plus (k * m) _ _ _ _ (IsOver-total (DrainOver k m) (k * m) (drain_flow v) (whole_drain y) (drain_over k m v y own) e.drains u.drains o.drains)
    (IsOver-total (EvapOver k m) (k * m) (evap_flow v) (whole_evap y) (evap_over k m v y own) e.evaps u.evaps o.evaps))))

-- A step at the heads h in whole numbers.
module _ (m : FlowModel) (w : ConvertibleLayers) (at : TimeStep) (valid : IsModel m) where
  abbrev count : ℕ
  count = length (variable_cells m at.period)

  abbrev number : ℕ → ℕ
  number = variable_cell m at.period

  record InWholes (k d : ℕ) (old h : ℕ → Fraction) : Type 0 where
    cells : List WholeCell
    over : AllZip (CellOver k d) (convertible_step m w at h) cells
    Y : ℕ → ℤ
    heads : (i : ℕ) → IsOver d (h (number i)) (Y i)
    S : ℕ → ℤ
    stores : (i : ℕ) → i < count → IsOver (k * d) (storage_flow m w at.period at.step (number i) (old (number i)) (h (number i))) (S i)

  module _ (k d : ℕ) (old h : ℕ → Fraction) (s : InWholes k d old h) where
    same_length : length s.cells ≡ count
    same_length = sym (AllZip-length (CellOver k d) (convertible_step m w at h) s.cells s.over) ∙ step_length m at valid.grid.size w h

    abbrev flows : CellFlows
    flows = record { pair = λ i j. weight (whole_at s.cells i).links j *ℤ (s.Y j -ℤ s.Y i); own = λ i. own_whole (whole_at s.cells i) (s.Y i) +ℤ s.S i }

    both_ways : IsMutual s.cells
    both_ways = mutual_whole k d (convertible_step m w at h) s.cells (are_linked m at valid.grid.size w h) s.over

    cell_over : (i : ℕ) → i < count → CellOver k d (convertible_cell m w at h (number i)) (whole_at s.cells i)
    cell_over i lt =
        let here : i < length (convertible_step m w at h) = omega (arith, lt, step_length m at valid.grid.size w h) in
        subst (λ (e : ExactCell). CellOver k d e (whole_at s.cells i)) (cell_is m at valid.grid.size w h i here)
        (AllZip-at (CellOver k d) (convertible_step m w at h) s.cells i no_cell no_whole s.over here)

    cancel : (i j : ℕ) → i < count → j < count → flows.pair i j ≡ neg_ℤ (flows.pair j i)
    cancel i j a b = rw (both_ways.same i j (omega (arith, a, same_length)) (omega (arith, b, same_length))) (turned_flow (weight (whole_at s.cells j).links i) (s.Y j) (s.Y i))
      where
        turned_flow : (a x y : ℤ) → a *ℤ (x -ℤ y) ≡ neg_ℤ (a *ℤ (y -ℤ x))
        turned_flow a x y = ap (λ (z : ℤ). a *ℤ z) (let e : x -ℤ y ≡ neg_ℤ (y -ℤ x) = omega (arith, ints) in e) ∙ mul_neg a (y -ℤ x)

    balance_is : (i : ℕ) → i < count → pair_balance count flows i ≡ whole_balance (whole_at s.cells i) (s.Y i) s.Y +ℤ s.S i
    balance_is i lt =
        let range = subst (λ (n : ℕ). All (λ x. x.cell < n) (whole_at s.cells i).links) same_length (both_ways.range i (omega (arith, lt, same_length))) in
        let links = links_by_cell count (whole_at s.cells i).links s.Y (s.Y i) range in
        let gain = gain_is flows i count in
        let parts = apart (whole_at s.cells i) (s.Y i) s.Y in
        omega (arith, ints, links, gain, parts)

    balance_is_over : (i : ℕ) → i < count → IsOver (k * d) (water_balance m w at old h (number i)) (pair_balance count flows i)
    balance_is_over i lt =
        subst (λ (z : ℤ). IsOver (k * d) (water_balance m w at old h (number i)) z) (sym (balance_is i lt))
        (IsOver-plus (k * d) _ _ _ _ (balance_over k d (h (number i)) (s.Y i) (s.heads i) (λ j. h (number j)) s.Y s.heads (convertible_cell m w at h (number i))
        (whole_at s.cells i) (cell_over i lt)) (s.stores i lt))

-- A step at the heads h and at the heads g, both in whole numbers over one denominator.
module _ (m : FlowModel) (w : ConvertibleLayers) (at : TimeStep) (valid : IsModel m) (old older h g : ℕ → Fraction) where
  abbrev n : ℕ
  n = length (variable_cells m at.period)

  abbrev named_cell : ℕ → ℕ
  named_cell = variable_cell m at.period

  abbrev stored_flow : (ℕ → Fraction) → (ℕ → Fraction) → ℕ → Fraction
  stored_flow o f i = storage_flow m w at.period at.step (named_cell i) (o (named_cell i)) (f (named_cell i))

  record Both : Type 0 where
    k : ℕ
    d : ℕ
    some : 0 < k * d
    some_d : 0 < d
    at_h : InWholes m w at valid k d old h
    at_g : InWholes m w at valid k d older g

  -- past the last index the cell is 0
  stays : (f : ℕ → Fraction) (i : ℕ) → n < i → f (named_cell i) ≡ f (named_cell n)
  stays f i past = ap f (get_or_past (variable_cells m at.period) i 0 (omega (arith, past)) ∙ sym (get_or_past (variable_cells m at.period) n 0 (omega arith)))

  both : Both
  both =
      let (D1, s1, goes1) = step_common (convertible_step m w at h) in
      let (D2, s2, goes2) = step_common (convertible_step m w at g) in
      let (M1, t1, heads1) = common_denominator_exists (suc n) (λ i. h (named_cell i)) in
      let (M2, t2, heads2) = common_denominator_exists (suc n) (λ i. g (named_cell i)) in
      let (M3, t3, stores1) = common_denominator_exists n (stored_flow old h) in
      let (M4, t4, stores2) = common_denominator_exists n (stored_flow older g) in
      let N = D1 * D2 in
      let k = N * (M3 * M4) in
      let d = N * (M1 * M2) in
      let (w1, over1) = whole_step N (M3 * M4) (M1 * M2) (convertible_step m w at h) (Goes-trans _ D1 N goes1 (Goes-first D1 D2)) in
      let (w2, over2) = whole_step N (M3 * M4) (M1 * M2) (convertible_step m w at g) (Goes-trans _ D2 N goes2 (Goes-second D1 D2)) in
      let all1 = everywhere M1 n (λ i. h (named_cell i)) (stays h) heads1 in
      let all2 = everywhere M2 n (λ i. g (named_cell i)) (stays g) heads2 in
      let up1 = λ (i : ℕ). spread M1 d (h (named_cell i)) (all1 i).0 (N * M2, first_of N M1 M2) (all1 i).1 in
      let up2 = λ (i : ℕ). spread M2 d (g (named_cell i)) (all2 i).0 (N * M1, second_of N M1 M2) (all2 i).1 in
      let kept1 = λ (i : ℕ) (lt : i < n). spread M3 (k * d) (stored_flow old h i) (stores1 i lt).0 (N * M4 * d, third_of N M3 M4 d) (stores1 i lt).1 in
      let kept2 = λ (i : ℕ) (lt : i < n). spread M4 (k * d) (stored_flow older g i) (stores2 i lt).0 (N * M3 * d, fourth_of N M3 M4 d) (stores2 i lt).1 in
      let sums1 = chosen n (k * d) (stored_flow old h) kept1 in
      let sums2 = chosen n (k * d) (stored_flow older g) kept2 in
      let some_d : 0 < d = mul-pos (mul-pos s1 s2) (mul-pos t1 t2) in
      record {
        k = k;
        d = d;
        some = mul-pos (mul-pos (mul-pos s1 s2) (mul-pos t3 t4)) some_d;
        some_d = some_d;
        at_h = record { cells = w1; over = over1; Y = λ i. (up1 i).0; heads = λ i. (up1 i).1; S = sums1.0; stores = sums1.1 };
        at_g = record { cells = w2; over = over2; Y = λ i. (up2 i).0; heads = λ i. (up2 i).1; S = sums2.0; stores = sums2.1 };
      }
    where
      first_of : (N a b : ℕ) → N * (a * b) ≡ a * (N * b)
      first_of N a b = omega arith

      second_of : (N a b : ℕ) → N * (a * b) ≡ b * (N * a)
      second_of N a b = omega arith

      third_of : (N a b d : ℕ) → N * (a * b) * d ≡ a * (N * b * d)
      third_of N a b d = omega arith

      fourth_of : (N a b d : ℕ) → N * (a * b) * d ≡ b * (N * a * d)
      fourth_of N a b d = omega arith

      -- numbers that are known below n, as a function
      chosen : (n T : ℕ) (f : ℕ → Fraction) → ((i : ℕ) → i < n → (z : ℤ) × IsOver T (f i) z) → (S : ℕ → ℤ) × ((i : ℕ) → i < n → IsOver T (f i) (S i))
      chosen zero T f each = (λ i. pos 0, λ i lt. absurd (omega (arith, lt)))
      chosen (suc n) T f each =
          let (S, rest) = chosen n T f (λ i lt. each i (omega (arith, lt))) in
          let (z, last) = each n (omega arith) in (
            λ i. cond (nat_eq i n) z (S i),
            λ i lt. elim (cases_eq i n) [
              | inl is ↦ subst (λ (y : ℤ). IsOver T (f i) y) (sym (cond-true (nat_eq i n) z (S i) (eq-eqb i n is))) (subst (λ (j : ℕ). IsOver T (f j) z) (sym is) last)
              | inr other ↦ subst (λ (y : ℤ). IsOver T (f i) y) (sym (cond-false (nat_eq i n) z (S i) (ne_eqb i n other))) (rest i (omega (arith, lt, other)))
            ],
          )

  module _ (gentle_h : IsGentle m w at.period h) (gentle_g : IsGentle m w at.period g)
      (known_h : (c : ℕ) → is_constant m at.period c ≡ true → h c ≡ constant_head m at.period at.step c)
      (known_g : (c : ℕ) → is_constant m at.period c ≡ true → g c ≡ constant_head m at.period at.step c)
      (olds : All (λ c. AtMost (old c) (older c)) (variable_cells m at.period)) where
    module _ (i : ℕ) (lt : i < n) (falls : AtMost (g (named_cell i)) (h (named_cell i))) where
      abbrev c : ℕ
      c = named_cell i

      within : c < cell_count m.grid
      within = (variable_at m at valid.grid.size i lt).within

      variable : is_variable m at.period c ≡ true
      variable = (variable_at m at valid.grid.size i lt).passes

      active : is_active m c ≡ true
      active = variable_active m at.period c variable

      constant_falls : (x : Face) → In (constant_faces m at.period c) x → AtMost (fixed_flow (h c) (constant_branch m w at h x)) (fixed_flow (g c) (constant_branch m w at g x))
      constant_falls x is_in =
          let (face, ends) = passing_are m.grid (is_constant m at.period) c x is_in in
          let active_end = (and_parts (is_active m x.end) _ ends).0 in
          let eh = known_h x.end ends in
          let eg = known_g x.end ends in
          let same : AtMost (h x.end) (g x.end) = AtMost-of (h x.end) (g x.end) (eh ∙ sym eg) in
          let back : AtMost (g x.end) (h x.end) = AtMost-of (g x.end) (h x.end) (eg ∙ sym eh) in
          let fact = face_in_order m w valid at.period h g gentle_h gentle_g c x within active face active_end falls same
          (In-All (λ (f : Face). FallsGently m w g c f.axis f.end) (constant_faces m at.period c) x (gentle_g.falls c within variable).1 is_in)
          (inr back) in
          subst (λ (f : Fraction). AtMost (times (as_fraction (conductance_at m w h x.axis x.first)) (minus f (h c)))
          (times (as_fraction (conductance_at m w g x.axis x.first)) (minus (constant_head m at.period at.step x.end) (g c)))) eh
          (subst (λ (f : Fraction). AtMost (times (as_fraction (conductance_at m w h x.axis x.first)) (minus (h x.end) (h c)))
          (times (as_fraction (conductance_at m w g x.axis x.first)) (minus f (g c)))) eg fact)

      own_falls : AtMost (own_flow (convertible_cell m w at h c) (h c)) (own_flow (convertible_cell m w at g c) (g c))
      own_falls =
          plus_rises _ _ _ _ (AtMost-of _ _ refl)
          (plus_rises _ _ _ _ (front_falls (fixed_flow (h c)) (fixed_flow (g c)) (constant_branch m w at h) (constant_branch m w at g) (constant_faces m at.period c) _
          (All-In (λ (x : Face). AtMost (fixed_flow (h c) (constant_branch m w at h x)) (fixed_flow (g c) (constant_branch m w at g x))) (constant_faces m at.period c) constant_falls)
          (total_falls (fixed_flow (h c)) (fixed_flow (g c)) (fixed_falls (h c) (g c) falls) _))
          (plus_rises _ _ _ _ (total_falls (river_flow (h c)) (river_flow (g c)) (river_falls (h c) (g c) falls) _)
          (plus_rises _ _ _ _ (total_falls (drain_flow (h c)) (drain_flow (g c)) (drain_falls (h c) (g c) falls) _)
          (total_falls (evap_flow (h c)) (evap_flow (g c)) (evap_falls (h c) (g c) falls) _))))

      stored_falls : AtMost (stored_flow old h i) (stored_flow older g i)
      stored_falls = storage_flow_rises m w c at.period at.step (old c) (older c) (h c) (g c) (All-get_or (λ c. AtMost (old c) (older c)) (variable_cells m at.period) i 0 lt olds) falls

    abbrev F : CellFlows
    F = flows m w at valid both.k both.d old h both.at_h

    abbrev G : CellFlows
    G = flows m w at valid both.k both.d older g both.at_g

    fall_of : (i : ℕ) → both.at_g.Y i ≤ℤ both.at_h.Y i → AtMost (g (named_cell i)) (h (named_cell i))
    fall_of i le = le_over both.d _ _ _ _ both.some_d (both.at_g.heads i) (both.at_h.heads i) le

    own_in_order : (i : ℕ) → i < n → both.at_g.Y i <ℤ both.at_h.Y i → F.own i ≤ℤ G.own i
    own_in_order i lt less =
        let falls = fall_of i (omega (arith, ints, less)) in
        let o = over_le (both.k * both.d) _ _ _ _
        (own_over both.k both.d (convertible_cell m w at h (named_cell i)) (whole_at both.at_h.cells i) (h (named_cell i)) (both.at_h.Y i) (both.at_h.heads i)
        (cell_over m w at valid both.k both.d old h both.at_h i lt))
        (own_over both.k both.d (convertible_cell m w at g (named_cell i)) (whole_at both.at_g.cells i) (g (named_cell i)) (both.at_g.Y i) (both.at_g.heads i)
        (cell_over m w at valid both.k both.d older g both.at_g i lt)) (own_falls i lt falls) in
        let s = over_le (both.k * both.d) _ _ _ _ (both.at_h.stores i lt) (both.at_g.stores i lt) (stored_falls i lt falls) in
        omega (arith, ints, o, s)

    link_in_order : (i j : ℕ) → i < n → both.at_g.Y i <ℤ both.at_h.Y i → both.at_h.Y j ≤ℤ both.at_g.Y j → (x : Face) → In (variable_faces m at.period (named_cell i)) x →
        EachInOrder both.k both.d j (variable_branch m w at h) (variable_branch m w at g) (both.at_h.Y j -ℤ both.at_h.Y i) (both.at_g.Y j -ℤ both.at_g.Y i) (λ s. refl) x
    link_in_order i j lt less le x is_in leads c c' share share' =
        let falls = fall_of i (omega (arith, ints, less)) in
        let (face, ends) = passing_are m.grid (is_variable m at.period) (named_cell i) x is_in in
        let inside = end_within m.grid (named_cell i) x valid.grid.size (within i lt falls) face in
        let at_end : named_cell j ≡ x.end = ap named_cell (sym leads) ∙ index_names_cell m at valid.grid.size x.end ends inside in
        let head_h = subst (λ (e : ℕ). IsOver both.d (h e) (both.at_h.Y j)) at_end (both.at_h.heads j) in
        let head_g = subst (λ (e : ℕ). IsOver both.d (g e) (both.at_g.Y j)) at_end (both.at_g.heads j) in
        let rises = le_over both.d _ _ _ _ both.some_d head_h head_g le in
        let fact = variable_in_order m w valid at.period h g gentle_h gentle_g (named_cell i) x (within i lt falls) (active i lt falls)
        (variable_active m at.period x.end ends) (variable i lt falls) face ends falls rises in
        over_le (both.k * both.d) _ _ _ _ (IsOver-times both.k both.d _ _ _ _ (IsOver-signed both.k _ c share) (IsOver-minus both.d _ _ _ _ head_h (both.at_h.heads i)))
        (IsOver-times both.k both.d _ _ _ _ (IsOver-signed both.k _ c' share') (IsOver-minus both.d _ _ _ _ head_g (both.at_g.heads i))) fact

    pair_in_order : (i j : ℕ) → i < n → j < n → both.at_g.Y i <ℤ both.at_h.Y i → both.at_h.Y j ≤ℤ both.at_g.Y j → F.pair i j ≤ℤ G.pair i j
    pair_in_order i j lt lt' less le =
        weights_in_order both.k both.d j (variable_branch m w at h) (variable_branch m w at g) (both.at_h.Y j -ℤ both.at_h.Y i) (both.at_g.Y j -ℤ both.at_g.Y i)
        (λ s. refl) (variable_faces m at.period (named_cell i))
        (whole_at both.at_h.cells i).links (whole_at both.at_g.cells i).links (cell_over m w at valid both.k both.d old h both.at_h i lt).links
        (cell_over m w at valid both.k both.d older g both.at_g i lt).links
        (All-In (EachInOrder both.k both.d j (variable_branch m w at h) (variable_branch m w at g) (both.at_h.Y j -ℤ both.at_h.Y i)
        (both.at_g.Y j -ℤ both.at_g.Y i) (λ s. refl)) (variable_faces m at.period (named_cell i)) (link_in_order i j lt less le))

    comparable : AreComparable n both.at_h.Y both.at_g.Y F G
    comparable = record {
      cancel = (cancel m w at valid both.k both.d old h both.at_h, cancel m w at valid both.k both.d older g both.at_g);
      own = own_in_order;
      pair = pair_in_order;
    }

    pub heads_in_order : All (λ c. IsBelow (water_balance m w at older g c) (water_balance m w at old h c)) (variable_cells m at.period) → All (λ c. AtMost (h c) (g c)) (variable_cells m at.period)
    heads_in_order gains = All-from_get_or (λ c. AtMost (h c) (g c)) (variable_cells m at.period) 0 (λ i lt.
        le_over both.d _ _ _ _ both.some_d (both.at_h.heads i) (both.at_g.heads i) (pairs_lie_lower n both.at_h.Y both.at_g.Y F G comparable
        (λ j lt' higher. below_over (both.k * both.d) _ _ _ _ both.some (balance_is_over m w at valid both.k both.d older g both.at_g j lt')
        (balance_is_over m w at valid both.k both.d old h both.at_h j lt')
        (All-get_or (λ c. IsBelow (water_balance m w at older g c) (water_balance m w at old h c)) (variable_cells m at.period) j 0 lt' gains)) i lt))

    -- each flow that follows from a cell's own head
    pub own_flows_at_most : All (λ c. AtMost (g c) (h c)) (variable_cells m at.period) → All (OwnFlowsAreAtMost m w at old h older g) (variable_cells m at.period)
    own_flows_at_most below = All-from_get_or (OwnFlowsAreAtMost m w at old h older g) (variable_cells m at.period) 0 (λ i lt.
        at_index i lt (All-get_or (λ c. AtMost (g c) (h c)) (variable_cells m at.period) i 0 lt below))
      where
        of_all : {X : Type 0} (P : X → Type 0) (xs : List X) → ((x : X) → P x) → All P xs
        of_all P xs each = All-In P xs (λ x is_in. each x)

        at_index : (i : ℕ) → i < n → AtMost (g (named_cell i)) (h (named_cell i)) → OwnFlowsAreAtMost m w at old h older g (named_cell i)
        at_index i lt falls = record {
          constants = All-In (λ (x : Face).
              AtMost (fixed_flow (h (named_cell i)) (constant_branch m w at h x)) (fixed_flow (g (named_cell i)) (constant_branch m w at g x)))
              (constant_faces m at.period (named_cell i)) (constant_falls i lt falls);
          generals = of_all (λ x. AtMost (fixed_flow (h (named_cell i)) x) (fixed_flow (g (named_cell i)) x)) _ (fixed_falls (h (named_cell i)) (g (named_cell i)) falls);
          rivers = of_all (λ x. AtMost (river_flow (h (named_cell i)) x) (river_flow (g (named_cell i)) x)) _ (river_falls (h (named_cell i)) (g (named_cell i)) falls);
          drains = of_all (λ x. AtMost (drain_flow (h (named_cell i)) x) (drain_flow (g (named_cell i)) x)) _ (drain_falls (h (named_cell i)) (g (named_cell i)) falls);
          evaps = of_all (λ x. AtMost (evap_flow (h (named_cell i)) x) (evap_flow (g (named_cell i)) x)) _ (evap_falls (h (named_cell i)) (g (named_cell i)) falls);
          storage = stored_falls i lt falls;
        }

-- the heads of a step in constant-head cells, and in variable ones
pub known_at : (m : FlowModel) (at : TimeStep) (d : ℕ) (X : ℕ → ℤ) (c : ℕ) → is_constant m at.period c ≡ true → heads_at m at d X c ≡ constant_head m at.period at.step c
known_at m at d X c e = cond-true (is_constant m at.period c) _ _ e

pub variable_at_head : (m : FlowModel) (at : TimeStep) (d : ℕ) (X : ℕ → ℤ) (c : ℕ) → is_variable m at.period c ≡ true → heads_at m at d X c ≡ share d (X c)
variable_at_head m at d X c e = ap (λ (b : Bool). cond (is_active m c && not b) (constant_head m at.period at.step c) (share d (X c))) e ∙ cond-false
    (is_active m c && false) _ _ (none (is_active m c))
  where
    none : (b : Bool) → (b && false) ≡ false
    none true = refl
    none false = refl

pub greater_balances_lie_lower : GreaterBalancesLieLower
greater_balances_lie_lower m w at old older d e X Z valid gentle gentle' olds gains =
    let h = heads_at m at d X in
    let g = heads_at m at e Z in
    let order = heads_in_order m w at valid old older h g gentle gentle' (known_at m at d X) (known_at m at e Z) olds gains in
    All-from_get_or (λ c. AtMost (share d (X c)) (share e (Z c))) (variable_cells m at.period) 0 (λ i lt.
    let is = (variable_at m at valid.grid.size i lt).passes in
    let c = variable_cell m at.period i in
    subst (λ (f : Fraction). AtMost f (share e (Z c))) (variable_at_head m at d X c is)
    (subst (λ (f : Fraction). AtMost (h c) f) (variable_at_head m at e Z c is) (All-get_or (λ c. AtMost (h c) (g c)) (variable_cells m at.period) i 0 lt order)))
