-- Tables under another name, or by another number.
use Rattle.problem_builder.proofs.Common.{◌≡◌, ℕ, Option, None, List, sym, subst, Given, Filled, IsGivenIn, FlowModel, ArePeriodTables}
use Rattle.problem_builder.specs.declared.index.PeriodTables.{PeriodTables}

-- a list with the same items
pub filled_as : {X : Type 0} (P : ℕ → X → Type 0) (d : X) (n : ℕ) (xs ys : List X) → xs ≡ ys → Filled P d n ys → Filled P d n xs
filled_as P d n xs ys e h = subst (λ zs. Filled P d n zs) (sym e) h

-- a list that is named by a CHD list under another name
pub named_as : (xs ys : List Given) (n k : ℕ) (t : List (Option Given)) → xs ≡ ys → n ≡ k → Filled (IsGivenIn xs) None n t → Filled (IsGivenIn ys) None k t
named_as xs ys n k t e f h = subst (λ (q : ℕ). Filled (IsGivenIn ys) None q t) f (subst (λ (zs : List Given). Filled (IsGivenIn zs) None n t) e h)

pub period_as : (m : FlowModel) (s p q : ℕ) (t : PeriodTables) → q ≡ p → ArePeriodTables m s q t → ArePeriodTables m s p t
period_as m s p q t e h = subst (λ (k : ℕ). ArePeriodTables m s k t) e h
