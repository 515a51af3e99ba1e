-- Each step keeps the rule of the queue.
use Rattle.batch_book.proofs.Common.{◌≡◌, ℕ, zero, suc, ◌+◌, ◌-◌, ◌<◌, ◌≤◌, List, [], ◌∷◌, ◌++◌, length, set, sym, refl, ap, arith, numbers_from, weigh, AreOnce}
use mathlib.Core.Option.{some, some-injective, some-ne-none}
use lib.ListN.{get_elem?}
use Rattle.crossbeam_queue.specs.Fifo.{Pushes, Pops, Forks, Learns}

weigh_append : {X : Type 0} (h : X → ℕ) (xs ys : List X) → weigh h (xs ++ ys) ≡ weigh h xs + weigh h ys
weigh_append h [] ys = omega arith
weigh_append h (x ∷ xs) ys = let e = weigh_append h xs ys in omega arith

module _ {X : Type 0} (f : X → ℕ) where
  -- the total after one view has changed
  weigh_set : (views : List X) (pass : ℕ) (v w : X) → get_elem? views pass ≡ some v → weigh f (set views pass w) + f v ≡ weigh f views + f w
  weigh_set [] pass v w e = absurd (some-ne-none v (sym e))
  weigh_set (x ∷ xs) zero v w e = let same : f x ≡ f v = ap f (some-injective x v e) in omega arith
  weigh_set (x ∷ xs) (suc pass) v w e = let t = weigh_set xs pass v w e in omega arith

  -- a view weighs no more than all
  weigh_one : (views : List X) (pass : ℕ) (v : X) → get_elem? views pass ≡ some v → f v ≤ weigh f views
  weigh_one [] pass v e = absurd (some-ne-none v (sym e))
  weigh_one (x ∷ xs) zero v e = let same : f x ≡ f v = ap f (some-injective x v e) in omega arith
  weigh_one (x ∷ xs) (suc pass) v e = let t = weigh_one xs pass v e in omega arith

pub push_keeps_once : (n cap pass : ℕ) (v rest : List ℕ) (x : ℕ) → v ≡ x ∷ rest → Pushes (AreOnce n) cap pass v x (λ w. v ≡ x ∷ w)
push_keeps_once n cap pass v rest x is items views room once at = (
  rest,
  (λ h.
      let t = weigh_set (weigh h) views pass v rest at in
      let m = once h in
      let a = weigh_append h items (x ∷ []) in
      let e : weigh h v ≡ h x + weigh h rest = ap (weigh h) is in
      omega arith),
  is,
)

-- a weight that is 0 at each number below n, and at no other
abbrev past : ℕ → ℕ → ℕ
past n x = (x + 1) - n

none_past : (n first count : ℕ) → first + count ≤ n → weigh (past n) (numbers_from first count) ≡ 0
none_past n first zero h = refl
none_past n first (suc count) h = let e = none_past n (first + 1) count (omega arith) in omega arith

pub takes : (n pass : ℕ) (v : List ℕ) → Pops (AreOnce n) pass v (λ x w. (x < n) × (w ≡ x ∷ v))
takes n pass v x items views once at = (
  x ∷ v,
  (λ h.
      let t = weigh_set (weigh h) views pass v (x ∷ v) at in
      let m = once h in
      omega arith),
  ((let m = once (past n) in let z = none_past n 0 n (omega arith) in omega arith), refl),
)

pub deals : (n pass : ℕ) (v : List ℕ) → Forks (AreOnce n) pass v v []
deals n pass v items views once at = λ h.
    let t = weigh_set (weigh h) views pass v v at in
    let m = once h in
    let a = weigh_append (weigh h) (set views pass v) ([] ∷ []) in
    omega arith

-- each number weighs 1
abbrev one_each : ℕ → ℕ
one_each x = 1

counted : (xs : List ℕ) → weigh one_each xs ≡ length xs
counted [] = refl
counted (x ∷ xs) = let e = counted xs in omega arith

all_counted : (first count : ℕ) → weigh one_each (numbers_from first count) ≡ count
all_counted first zero = refl
all_counted first (suc count) = let e = all_counted (first + 1) count in omega arith

pub learned_items_are_few : (n pass : ℕ) (v : List ℕ) → Learns (AreOnce n) pass v (λ items. length items + length v ≤ n)
learned_items_are_few n pass v items views once at =
    let m = once one_each in
    let a = counted items in
    let b = counted v in
    let c = all_counted 0 n in
    let d = weigh_one (weigh one_each) views pass v at in
    omega arith

-- the first of the numbers that are left
pub numbers_step : (job count : ℕ) → job < count → numbers_from job (count - job) ≡ job ∷ numbers_from (job + 1) (count - (job + 1))
numbers_step job count h = let e : count - job ≡ suc (count - (job + 1)) = omega arith in ap (numbers_from job) e

pub same_rest : (x y : ℕ) (xs ys : List ℕ) → x ∷ xs ≡ y ∷ ys → xs ≡ ys
same_rest x y xs ys e = cc
