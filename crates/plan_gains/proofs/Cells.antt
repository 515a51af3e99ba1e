-- What a term's branches in a cell are.
use Rattle.plan_gains.proofs.Common.{[], ap, filter, filter_all, map, refl, ℤ, ◌≡◌, branch_gain, branches_of, counts, Entries, Term, of_drains, of_evaps, of_rivers, well_gain, gains, ConstantHead}
use Rattle.plan_gains.proofs.Common.{Drains, Et, HeadDepBounds, Recharge, RiverLeakage, Storage, Wells}

-- what a term's branches give is what it gives
pub gains_by : (t : Term) (base x : Entries) (l u : ℤ) → (t ≡ Wells → ⊥) → (t ≡ Recharge → ⊥) →
    map (branch_gain l u) (filter (λ b. counts t b) (branches_of t base x)) ≡ gains t base x l u
unfolding gains
gains_by Storage base x l u w r = refl
gains_by ConstantHead base x l u w r = refl
gains_by Wells base x l u w r = absurd (w refl)
gains_by Drains base x l u w r = ap (map (branch_gain l u)) (filter_all (of_drains base x))
gains_by RiverLeakage base x l u w r = ap (map (branch_gain l u)) (filter_all (of_rivers base x))
gains_by HeadDepBounds base x l u w r = refl
gains_by Recharge base x l u w r = absurd (r refl)
gains_by Et base x l u w r = ap (map (branch_gain l u)) (filter_all (of_evaps base x))

pub wells_are : (t : Term) (base x : Entries) (l u : ℤ) → t ≡ Wells → map well_gain x.flows ≡ gains t base x l u
unfolding gains
wells_are Wells base x l u is = refl
wells_are Storage base x l u is = absurd cc
wells_are ConstantHead base x l u is = absurd cc
wells_are Drains base x l u is = absurd cc
wells_are RiverLeakage base x l u is = absurd cc
wells_are HeadDepBounds base x l u is = absurd cc
wells_are Recharge base x l u is = absurd cc
wells_are Et base x l u is = absurd cc

pub none_are : (t : Term) (base x : Entries) (l u : ℤ) → t ≡ Recharge → gains t base x l u ≡ []
unfolding gains
none_are Recharge base x l u is = refl
none_are Storage base x l u is = absurd cc
none_are ConstantHead base x l u is = absurd cc
none_are Wells base x l u is = absurd cc
none_are Drains base x l u is = absurd cc
none_are RiverLeakage base x l u is = absurd cc
none_are HeadDepBounds base x l u is = absurd cc
none_are Et base x l u is = absurd cc
