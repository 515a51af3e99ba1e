-- The budget that a call makes of both sides and of sums that stop at the limit.
use Rattle.gentle_budget.proofs.Common.{◌≡◌, ◌∙◌, ℕ, Bool, true, false, List, Result, Ok, Err, refl, sym, ap, if◌then◌else◌, Entries, Bound, High, Low, Dir, In, Out, NoBound, Storage, TermPair}
use Rattle.gentle_budget.proofs.Common.{Budget, capped_term, is_small, too_large, ◌>>=◌, FlowModel, TimeStep, ConvertibleLayers, budget_at, joined_budget, side_budget, storage_term, stored_or_large}
use Rattle.gentle_budget.proofs.Sums.{capped_small, small_capped}

abbrev if_small : NoBound → Bool → TermPair → Result TermPair NoBound
if_small n b x = if b then Ok x else Err n

capped_or_large : (x : TermPair) (n : NoBound) (b : Bool) → is_small x ≡ b → if_small n (is_small (capped_term x)) (capped_term x) ≡ if_small n (is_small x) x
capped_or_large x n true e = λ i. if_small n (small_capped x i) (capped_small x e i)
capped_or_large x n false e =
    ap (λ (b : Bool). if_small n b (capped_term x)) (small_capped x ∙ e) ∙ sym (ap (λ (b : Bool). if_small n b x) e)

value_is : (n : NoBound) (b : Bool) (x y : TermPair) → if_small n b x ≡ Ok y → x ≡ y
value_is n true x y e = cc
value_is n false x y e = absurd cc

module _ (m : FlowModel) (w : ConvertibleLayers) (s : ℕ) (at : TimeStep) (old listed : List Bound) (p q : List Entries) where
  abbrev stored : Dir → TermPair
  stored = storage_term m w s at old listed p

  -- the test of a sum that stops at the limit
  pub tested : (dir : Dir) (sum : TermPair) (r : Result TermPair NoBound) → sum ≡ capped_term (stored dir) → r ≡ if_small (too_large dir Storage) (is_small sum) sum →
      r ≡ stored_or_large m w s at old listed p dir
  tested dir sum r e h =
      h ∙ ap (λ (x : TermPair). if_small (too_large dir Storage) (is_small x) x) e ∙ capped_or_large (stored dir) (too_large dir Storage) (is_small (stored dir)) refl

  pub tested_value : (dir : Dir) (x : TermPair) (r : Result TermPair NoBound) → r ≡ stored_or_large m w s at old listed p dir → r ≡ Ok x → stored dir ≡ x
  tested_value dir x r is e = value_is (too_large dir Storage) (is_small (stored dir)) (stored dir) x (sym is ∙ e)

  abbrev chain : Result Budget NoBound → Result Budget NoBound → Result TermPair NoBound → Result TermPair NoBound → Result Budget NoBound
  chain a b c d = a >>= (λ low. b >>= (λ high. c >>= (λ x. d >>= (λ y. Ok (joined_budget low high stored)))))

  module _ (low high : Budget) (is_low : side_budget listed Low p ≡ Ok low) (is_high : side_budget listed High q ≡ Ok high) where
    pub no_stored_in : (n : NoBound) → stored_or_large m w s at old listed p In ≡ Err n → budget_at m w s at old listed p q ≡ Err n
    no_stored_in n e = λ i. chain (is_low i) (is_high i) (e i) (stored_or_large m w s at old listed p Out)

    module _ (x : TermPair) (is_in : stored_or_large m w s at old listed p In ≡ Ok x) where
      pub no_stored_out : (n : NoBound) → stored_or_large m w s at old listed p Out ≡ Err n → budget_at m w s at old listed p q ≡ Err n
      no_stored_out n e = λ i. chain (is_low i) (is_high i) (is_in i) (e i)

      pub all_stored : (y : TermPair) (b : Budget) → stored_or_large m w s at old listed p Out ≡ Ok y → b ≡ joined_budget low high stored → budget_at m w s at old listed p q ≡ Ok b
      all_stored y b e is = (λ i. chain (is_low i) (is_high i) (is_in i) (e i)) ∙ ap (λ (z : Budget). Ok z) (sym is)
