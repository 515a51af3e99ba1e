-- The heads of a side are in range and in order, and enclose the exact ones.
use Rattle.gentle_steps.proofs.Common.{◌≡◌, ℕ, ◌<◌, ◌^◌, Bool, true, false, cond, List, length, get_or, refl, sym, ap, ◌∙◌, subst, arith, ints, ℤ, ◌≤ℤ◌, EnclosesSigned, Fraction, heads_on, side_bound}
use Rattle.gentle_steps.proofs.Common.{side_bounds, IsModel, cell_count, is_active, is_constant, is_variable, FlowModel, TimeStep, AreGridHeads, HeadsEnclose, IsTimeOf, constant_bound, known_bound}
use Rattle.gentle_steps.proofs.Common.{IsHead, no_bound, Bound, Side, High, Low, AreOrdered, listed_heads, get_or-map-range_with_len, length-map-range_with_len, not, ◌&&◌, den, cancel_right, le-trans}
use Rattle.gentle_steps.proofs.Common.{constant_head_is_enclosed, head_range, known_at, variable_at_head, one_head, own_bounds}

-- both heads of a bound are in range
abbrev InRange : Bound → Type 0
InRange b = IsHead b.low × IsHead b.high

no_heads : InRange no_bound
no_heads = (record { above = omega (arith, ints); below = omega (arith, ints) }, record { above = omega (arith, ints); below = omega (arith, ints) })

-- bounds that enclose a number are in order
order_of : (lo hi : ℤ) (k : ℕ) (f : Fraction) → EnclosesSigned lo hi k f → lo ≤ℤ hi
order_of lo hi k f e = cancel_right (den f) lo hi (omega arith) (le-trans _ _ _ e.lower e.upper)

-- an active cell that isn't variable is constant
pub active_constant : (m : FlowModel) (p c : ℕ) → is_active m c ≡ true → is_variable m p c ≡ false → is_constant m p c ≡ true
active_constant m p c e f = ap (λ active. active && not (is_variable m p c)) e ∙ ap not f

module _ (m : FlowModel) (at : TimeStep) (listed : List Bound) (side : Side) (valid : IsModel m) (time : IsTimeOf m at) (grid : AreGridHeads m listed) where
  abbrev bounds : List Bound
  bounds = side_bounds m at listed side

  item : (c : ℕ) (d : Bound) → c < cell_count m.grid → get_or bounds c d ≡ side_bound m at listed side c
  item c d lt = get_or-map-range_with_len (side_bound m at listed side) 0 (cell_count m.grid) c c d lt (omega arith)

  count : length bounds ≡ cell_count m.grid
  count = length-map-range_with_len (side_bound m at listed side) 0 (cell_count m.grid)

  listed_range : (c : ℕ) (other : Side) → c < cell_count m.grid → IsHead (heads_on other listed c)
  listed_range c Low lt = (grid.range c no_bound (omega (arith, lt, grid.whole))).0
  listed_range c High lt = (grid.range c no_bound (omega (arith, lt, grid.whole))).1

  module _ (c : ℕ) (lt : c < cell_count m.grid) where
    known_range : (k : Bool) → is_constant m at.period c ≡ k → InRange (cond k (constant_bound m at c) no_bound)
    known_range true e = head_range m at valid time c lt e
    known_range false e = no_heads

    range_by : (v : Bool) → InRange (cond v (one_head (heads_on side listed c)) (known_bound m at c))
    range_by true = (listed_range c side lt, listed_range c side lt)
    range_by false = known_range (is_constant m at.period c) refl

    known_order : (k : Bool) → (cond k (constant_bound m at c) no_bound).low ≤ℤ (cond k (constant_bound m at c) no_bound).high
    known_order true = order_of _ _ 9 _ (constant_head_is_enclosed m at valid time c)
    known_order false = omega (arith, ints)

    order_by : (v : Bool) → (cond v (one_head (heads_on side listed c)) (known_bound m at c)).low ≤ℤ (cond v (one_head (heads_on side listed c)) (known_bound m at c)).high
    order_by true = omega (arith, ints)
    order_by false = known_order (is_constant m at.period c)

    abbrev x : ℕ → ℤ
    x = heads_on side listed

    module _ (active : is_active m c ≡ true) where
      enclosed_by : (v : Bool) → is_variable m at.period c ≡ v → EnclosesSigned (cond v (one_head (x c)) (known_bound m at c)).low
          (cond v (one_head (x c)) (known_bound m at c)).high 9 (listed_heads m at x c)
      enclosed_by true e = subst (EnclosesSigned (x c) (x c) 9) (sym (variable_at_head m at (10 ^ 9) x c e)) (own_bounds (x c))
      enclosed_by false e =
          let k = active_constant m at.period c active e in
          let given = constant_head_is_enclosed m at valid time c in
          let b : known_bound m at c ≡ constant_bound m at c = ap (λ (t : Bool). cond t (constant_bound m at c) no_bound) k in
          let P : Bound → Type 0 = λ d. EnclosesSigned d.low d.high 9 (listed_heads m at x c) in
          subst P (sym b) (subst (EnclosesSigned (constant_bound m at c).low (constant_bound m at c).high 9) (sym (known_at m at (10 ^ 9) x c k)) given)

  pub side_grid : AreGridHeads m bounds
  side_grid = record {
    whole = count;
    range = (λ c d lt. let inside : c < cell_count m.grid = omega (arith, lt, count) in
        subst InRange (sym (item c d inside)) (range_by c inside (is_variable m at.period c)));
  }

  pub side_ordered : AreOrdered m bounds
  side_ordered c lt = let P : Bound → Type 0 = λ b. b.low ≤ℤ b.high in subst P (sym (item c no_bound lt)) (order_by c lt (is_variable m at.period c))

  pub side_encloses : HeadsEnclose m bounds (listed_heads m at (heads_on side listed))
  side_encloses c here =
      let P : Bound → Type 0 = λ b. EnclosesSigned b.low b.high 9 (listed_heads m at (heads_on side listed) c) in
      subst P (sym (item c no_bound here.within)) (enclosed_by c here.within here.active (is_variable m at.period c) refl)
