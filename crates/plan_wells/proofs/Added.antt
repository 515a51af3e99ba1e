-- What stays of the periods of a model to which wells are added.
use Rattle.plan_wells.proofs.Common.{◌≡◌, ℕ, zero, suc, ◌-◌, ap, refl, arith, List, [], ◌∷◌, length, take, get_or, All, flat_map, sum_by, All-cons, All-head, All-nil, All-tail, sum_by-cons, no_period}
use Rattle.plan_wells.proofs.Common.{period_at, Entry, FlowModel, Period, zip_with, with_plan, with_wells}

abbrev pub planned_periods : List Period → List (List Entry) → List Period
planned_periods ps plan = zip_with with_wells ps plan

pub as_many : (ps : List Period) (plan : List (List Entry)) → length plan ≡ length ps → length (planned_periods ps plan) ≡ length ps
as_many [] plan e = refl
as_many (p ∷ ps) [] e = absurd (omega (arith, e))
as_many (p ∷ ps) (w ∷ plan) e = ap suc (as_many ps plan (omega (arith, e)))

-- what holds of each period with each list
pub all_planned : (P Q : Period → Type 0) (R : List Entry → Type 0) → ((p : Period) (w : List Entry) → P p → R w → Q (with_wells p w)) → (ps : List Period) (plan : List (List Entry)) →
    All P ps → All R plan → All Q (planned_periods ps plan)
all_planned P Q R each [] plan all lists = All-nil Q
all_planned P Q R each (p ∷ ps) [] all lists = All-nil Q
all_planned P Q R each (p ∷ ps) (w ∷ plan) all lists =
    All-cons Q (with_wells p w) (planned_periods ps plan) (each p w (All-head P p ps all) (All-head R w plan lists))
    (all_planned P Q R each ps plan (All-tail P p ps all) (All-tail R w plan lists))

-- sums and lists of what wells don't change
pub sum_kept : (f : Period → ℕ) → ((p : Period) (w : List Entry) → f (with_wells p w) ≡ f p) → (ps : List Period) (plan : List (List Entry)) → length plan ≡ length ps →
    sum_by f (planned_periods ps plan) ≡ sum_by f ps
sum_kept f same [] plan e = refl
sum_kept f same (p ∷ ps) [] e = absurd (omega (arith, e))
sum_kept f same (p ∷ ps) (w ∷ plan) e =
    rw (sum_by-cons f (with_wells p w) (planned_periods ps plan), sum_by-cons f p ps, same p w, sum_kept f same ps plan (omega (arith, e))) refl

pub lists_kept : {X : Type 0} (f : Period → List X) → ((p : Period) (w : List Entry) → f (with_wells p w) ≡ f p) → (k : ℕ) (ps : List Period) (plan : List (List Entry)) →
    length plan ≡ length ps → flat_map f (take k (planned_periods ps plan)) ≡ flat_map f (take k ps)
lists_kept f same zero ps plan e = refl
lists_kept f same (suc k) [] plan e = refl
lists_kept f same (suc k) (p ∷ ps) [] e = absurd (omega (arith, e))
lists_kept f same (suc k) (p ∷ ps) (w ∷ plan) e =
    let first = same p w in
    let others = lists_kept f same k ps plan (omega (arith, e)) in
    cc

-- the period of a number
pub planned_at : (ps : List Period) (plan : List (List Entry)) (i : ℕ) → length plan ≡ length ps → get_or (planned_periods ps plan) i no_period ≡ with_wells (get_or ps i no_period) (get_or plan i [])
planned_at [] [] i e = refl
planned_at [] (w ∷ plan) i e = absurd (omega (arith, e))
planned_at (p ∷ ps) [] i e = absurd (omega (arith, e))
planned_at (p ∷ ps) (w ∷ plan) zero e = refl
planned_at (p ∷ ps) (w ∷ plan) (suc i) e = planned_at ps plan i (omega (arith, e))

pub period_is : (m : FlowModel) (plan : List (List Entry)) (p : ℕ) → length plan ≡ length m.periods → period_at (with_plan plan m) p ≡ with_wells (period_at m p) (get_or plan (p - 1) [])
period_is m plan p e = planned_at m.periods plan (p - 1) e
