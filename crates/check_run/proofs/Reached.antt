-- The constant cells of a time whose listed bounds reach far enough.
use Rattle.check_run.proofs.Common.{◌≡◌, ℕ, ◌+◌, ◌<◌, ◌≤◌, inl, inr, true, cond, List, Contains, sym, ap, ◌∙◌, subst, arith, cases_order, Bound, Side, Low, High, FlowModel, TimeStep, cell_count}
use Rattle.check_run.proofs.Common.{is_constant, kind_of, times, bound_at, constant_not_variable, same_bound, IsConstantCell, ReachesAt, ReachesOn, Decks, AreDecks, AreConstantHeadsFor}
use Rattle.check_run.proofs.Common.{ConstantPairIsOne, constant_kind, AllReach, IsFirstUnreached}
use Rattle.model_types.specs.declared.given_heads.Kind.TheVariants.{NoFlow, Constant, Variable}

kind_constant : (m : FlowModel) (p c : ℕ) → is_constant m p c ≡ true → kind_of m p c ≡ Constant
kind_constant m p c e = ap (λ v. cond v Variable (cond (is_constant m p c) Constant NoFlow)) (constant_not_variable m p c e) ∙ ap (λ k. cond k Constant NoFlow) e

module _ (ds : Decks) (at : TimeStep) (Reaches : ℕ → Side → Type 0) where
  -- the constant cells below n reach so far
  abbrev pub AreReached : ℕ → Type 0
  AreReached n = (c : ℕ) → c < n → IsConstantCell ds at c → (side : Side) → Reaches c side

  pub reached_next : (n : ℕ) → (IsConstantCell ds at n → kind_of ds.first at.period n ≡ Constant → (side : Side) → Reaches n side) → AreReached n → AreReached (n + 1)
  reached_next n here before c lt cell side = elim (cases_order c n) [
    | inl same ↦ (let P : ℕ → Type 0 = λ k. Reaches k side in
        let this : IsConstantCell ds at n = subst (IsConstantCell ds at) same cell in
        subst P (sym same) (here this (kind_constant ds.first at.period n this.constant) side))
    | inr (inl less) ↦ before c less cell side
    | inr (inr more) ↦ absurd (omega (arith, lt, more))
  ]

  pub all_reached : (n : ℕ) → cell_count ds.first.grid ≤ n → AreReached n → AllReach ds at Reaches
  all_reached n past before c cell side = before c (omega (arith, cell.within, past)) cell side

  pub first_unreached : (n : ℕ) (side : Side) → n < cell_count ds.first.grid → kind_of ds.first at.period n ≡ Constant → (Reaches n side → ⊥) →
      (IsConstantCell ds at n → side ≡ High → Reaches n Low) → AreReached n → IsFirstUnreached ds at Reaches n side
  first_unreached n side lt kind short low before =
      let cell : IsConstantCell ds at n = record { within = lt; constant = constant_kind ds.first at.period n kind } in
      record { cell = cell; short = short; least = before; low_first = low cell }

-- A constant cell's bound is as wide as its pair where it is as wide as the one among the constant heads.
module _ (ds : Decks) (at : TimeStep) (constant_heads heads : List Bound) (are : AreConstantHeadsFor ds at constant_heads)
    (one : ConstantPairIsOne) (valid : AreDecks ds) (time : Contains (times ds.first) at) where
  pub reaches : (c : ℕ) (side : Side) → IsConstantCell ds at c → ReachesOn side (bound_at heads c) (bound_at constant_heads c) → ReachesAt ds at heads c side
  reaches c side cell h = λ pair is.
      let held = (are.each c cell.within).constant cell.constant in
      let same = one ds at c _ _ pair.low pair.high (record { decks = valid; time = time; within = cell.within; constant = cell.constant }) held is in
      let P : Bound → Type 0 = ReachesOn side (bound_at heads c) in
      subst P (same_bound (bound_at constant_heads c) pair same) h

  pub reached : (c : ℕ) (side : Side) → c < cell_count ds.first.grid → is_constant ds.first at.period c ≡ true → ReachesAt ds at heads c side →
      ReachesOn side (bound_at heads c) (bound_at constant_heads c)
  reached c side lt is h = h (bound_at constant_heads c) ((are.each c lt).constant is)
