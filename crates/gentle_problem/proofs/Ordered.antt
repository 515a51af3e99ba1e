-- The pair of a face has its bounds in order.
use Rattle.gentle_problem.proofs.Common.{◌≡◌, ℕ, ◌+◌, ◌^◌, ◌≤◌, inl, inr, Bool, true, false, cond, Option, List, sym, subst, refl, arith, le_of_mul-le-mul_right, Encloses, Fraction, Ratio, share}
use Rattle.gentle_problem.proofs.Common.{Bound, FlowModel, Axis, IsModel, stride, Pair, HeadsEnclose, IsBranch, no_pair, ConvertibleLayers, AreOrdered, face_formula, has_depth, pair_at_heads}
use Rattle.gentle_problem.proofs.Common.{face_in_bounds}
use Rattle.std.proofs.{lemmas.Bool.and_parts, lemmas.Int.ints}
use Rattle.std.specs.Option.{unwrap_or}
use Rattle.std.specs.Prelude.{◌&&◌}
use Rattle.decimal_input.specs.Ratios.{den}
use Rattle.step_problem.specs.{lower_at}
use Rattle.conductance_bounds.specs.{Term}
use Rattle.conductance_bounds.proofs.Capped.{below_case}
unfoldable use Rattle.conductance_bounds.specs.{capped_pair, pair}

-- bounds that enclose a number are in order
in_order : (lo hi s : ℕ) (r : Ratio) → Encloses lo hi s r → lo ≤ hi
in_order lo hi s r e = le_of_mul-le-mul_right {k = den r} (omega (arith, e.lower, e.upper)) (omega arith)

capped_in_order : (t : Term) (s : ℕ) → (pair t s).lo ≤ (pair t s).hi → (capped_pair t s).lo ≤ (capped_pair t s).hi
unfolding capped_pair
capped_in_order t s h =
    let large : Pair = record { lo = 1; hi = 2 ^ 60 } in
    let P : Option Pair → Type 0 = λ o. (unwrap_or o large).lo ≤ (unwrap_or o large).hi in
    elim (below_case (2 ^ 60) (pair t s)) [ inl small ↦ subst P (sym small.1) h | inr past ↦ subst P (sym past.1) (omega arith) ]

module _ (m : FlowModel) (heads : List Bound) (ordered : AreOrdered m heads) where
  -- the lower heads lie within the bounds
  abbrev lower : ℕ → Fraction
  lower c = share (10 ^ 9) (lower_at heads c)

  lower_within : HeadsEnclose m heads lower
  lower_within c active =
      let h = ordered c active.within in
      record { lower = omega (arith, ints); upper = omega (arith, ints, h) }

  module _ (w : ConvertibleLayers) (s : ℕ) (valid : IsModel m) (axis : Axis) (a : ℕ) (k : IsBranch m axis a) where
    by_depth : (b : Bool) → (has_depth m w heads a && has_depth m w heads (a + stride m.grid axis)) ≡ b →
        (cond b (capped_pair (face_formula m w heads axis a) s) no_pair).lo ≤ (cond b (capped_pair (face_formula m w heads axis a) s) no_pair).hi
    by_depth true e =
        let both = and_parts (has_depth m w heads a) _ e in
        capped_in_order (face_formula m w heads axis a) s (in_order _ _ s _ (face_in_bounds m w lower valid heads lower_within s axis a k both.0 both.1))
    by_depth false e = omega arith

    pub pair_in_order : (pair_at_heads m w heads s axis a).lo ≤ (pair_at_heads m w heads s axis a).hi
    pair_in_order = by_depth (has_depth m w heads a && has_depth m w heads (a + stride m.grid axis)) refl
