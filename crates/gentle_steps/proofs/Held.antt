-- Listed heads that hold have the signs.
use Rattle.gentle_steps.proofs.Common.{◌≡◌, ℕ, ◌<◌, ◌^◌, Bool, true, false, List, length, refl, sym, subst, arith, ints, ℤ, ◌≤ℤ◌, heads_on, EnclosesSigned, HeldStepsHaveSigns, side_bounds}
use Rattle.gentle_steps.proofs.Common.{variable_bounds, IsModel, is_variable, variable_cells, FlowModel, TimeStep, AreGridHeads, HeadsEnclose, IsActive, IsTimeOf, lower_at, upper_at, Entries, Bound}
use Rattle.gentle_steps.proofs.Common.{High, Low, Side, AreOrdered, listed_heads, Fraction, ConvertibleLayers, variable_cell, den, le-trans, mul_mono_right, constant_head, constant_head_is_enclosed}
use Rattle.gentle_steps.proofs.Common.{time_of, variable_at, known_at, variable_at_head, ArePairs, HaveSide, ConstantsReach, HeadsHold, own_bounds}
use Rattle.cell_balance.specs.{share}
use Rattle.gentle_heads.proofs.Between.{all_between_are_gentle}
use Rattle.gentle_check.proofs.Signs.{signs_are_shown}
use Rattle.gentle_steps.proofs.{Cells.problem_length, Cells.heads_are, Cells.side_cells, SideHeads.active_constant, SideHeads.side_encloses, SideHeads.side_ordered}

-- wider bounds enclose what narrower ones do
pub wider_encloses : (a b lo hi : ℤ) (k : ℕ) (f : Fraction) → a ≤ℤ lo → hi ≤ℤ b → EnclosesSigned lo hi k f → EnclosesSigned a b k f
wider_encloses a b lo hi k f below above e = record {
  lower = le-trans _ _ _ (mul_mono_right (den f) a lo below) e.lower;
  upper = le-trans _ _ _ e.upper (mul_mono_right (den f) hi b above);
}

module _ (m : FlowModel) (at : TimeStep) (listed : List Bound) (valid : IsModel m) (time : IsTimeOf m at) (ordered : AreOrdered m listed)
    (reach : ConstantsReach m at listed) where
  -- the listed bounds enclose the heads of each side
  between : (side : Side) (c : ℕ) → lower_at listed c ≤ℤ upper_at listed c →
      (lower_at listed c ≤ℤ heads_on side listed c) × (heads_on side listed c ≤ℤ upper_at listed c)
  between Low c le = (omega (arith, ints), le)
  between High c le = (le, omega (arith, ints))

  module _ (side : Side) (c : ℕ) (here : IsActive m c) where
    abbrev x : ℕ → ℤ
    x = heads_on side listed

    enclosed_by : (v : Bool) → is_variable m at.period c ≡ v → EnclosesSigned (lower_at listed c) (upper_at listed c) 9 (listed_heads m at x c)
    enclosed_by true e =
        let inside = between side c (ordered c here.within) in
        subst (EnclosesSigned (lower_at listed c) (upper_at listed c) 9) (sym (variable_at_head m at (10 ^ 9) x c e))
        (wider_encloses _ _ (x c) (x c) 9 (share (10 ^ 9) (x c)) inside.0 inside.1 (own_bounds (x c)))
    enclosed_by false e =
        let k = active_constant m at.period c here.active e in
        let given = constant_head_is_enclosed m at valid time c in
        subst (EnclosesSigned (lower_at listed c) (upper_at listed c) 9) (sym (known_at m at (10 ^ 9) x c k))
        (wider_encloses _ _ _ _ 9 (constant_head m at.period at.step c) (reach c here.within Low k) (reach c here.within High k) given)

  pub listed_encloses : (side : Side) → HeadsEnclose m listed (listed_heads m at (heads_on side listed))
  listed_encloses side c here = enclosed_by side c here (is_variable m at.period c) refl

module _ (m : FlowModel) (w : ConvertibleLayers) (s : ℕ) (at : TimeStep) (old listed : List Bound) (p q : List Entries) (valid : IsModel m)
    (time : IsTimeOf m at) (grid : AreGridHeads m listed) (h : HeadsHold m w s at old listed p q) where
  stored : (i : ℕ) → i < length (variable_cells m at.period) → ArePairs m w s at (variable_cell m at.period i)
  stored i lt = let there = variable_at m at valid.grid.size i lt in h.posed.stored (variable_cell m at.period i) there.within there.passes

  pub low_side : (before : ℕ → Fraction) → HeadsEnclose m old before →
      HaveSide m w s at p (side_bounds m at listed Low) old (lower_at listed) (heads_on Low (variable_bounds m at listed)) before
  low_side before inside = record {
    ordered = side_ordered m at listed Low valid time grid;
    within = side_encloses m at listed Low valid time grid;
    old_within = inside;
    problem = h.posed.low;
    stored = stored;
    heads_are = heads_are m at valid p (side_cells m w s at listed Low p h.posed.low) listed grid Low;
  }

  pub high_side : (before : ℕ → Fraction) → HeadsEnclose m old before →
      HaveSide m w s at q (side_bounds m at listed High) old (upper_at listed) (heads_on High (variable_bounds m at listed)) before
  high_side before inside = record {
    ordered = side_ordered m at listed High valid time grid;
    within = side_encloses m at listed High valid time grid;
    old_within = inside;
    problem = h.posed.high;
    stored = stored;
    heads_are = heads_are m at valid q (side_cells m w s at listed High q h.posed.high) listed grid High;
  }

pub held_steps_have_signs : HeldStepsHaveSigns
held_steps_have_signs m w s at old listed p q low high valid yields there grid low_old high_old h =
    let time = time_of m at valid there in
    let lower = listed_encloses m at listed valid time h.gently.ordered h.constants Low in
    let upper = listed_encloses m at listed valid time h.gently.ordered h.constants High in
    let cells = side_cells m w s at listed Low p h.posed.low in
    let inside = λ (i : ℕ) (lt : i < length (variable_cells m at.period)). (let e : i < length p = omega (arith, lt, problem_length m at valid p cells) in e) in
    record {
      signs = signs_are_shown m w s at p q (side_bounds m at listed Low) (side_bounds m at listed High) old (record { low = lower_at listed; high = upper_at listed })
          (heads_on Low (variable_bounds m at listed)) (heads_on High (variable_bounds m at listed)) low high valid yields there
          (low_side m w s at old listed p q valid time grid h low low_old) (high_side m w s at old listed p q valid time grid h high high_old)
          (all_between_are_gentle m w at.period listed (listed_heads m at (lower_at listed)) valid h.gently.gentle lower)
          (all_between_are_gentle m w at.period listed (listed_heads m at (upper_at listed)) valid h.gently.gentle upper)
          (λ i lt. h.signs i (inside i lt) Low) (λ i lt. h.signs i (inside i lt) High);
      low_within = lower;
      high_within = upper;
    }
