-- What a search begins with, one cell after another.
use Rattle.barrier_vector.proofs.Common.{◌≡◌, ℕ, zero, suc, ◌+◌, ◌<◌, ◌⊎◌, inl, inr, refl, sym, ◌∙◌, ap, subst, arith, List, [], length, min, Option, None, Some, cases_eq, cases_lt, mark_at}
use Rattle.barrier_vector.proofs.Common.{path_limit, AreBegun, Spreads, set, get_or-set_same, get_or-set_other, length-set, replicate, count_unmarked}
use Rattle.barrier_vector.proofs.{Spreading.no_both, Spreading.spread_as, Spreading.spread_then, Levels.same_some}

-- The roots of a list, one after another.
abbrev RootBelow : List (Option ℕ) → ℕ → ℕ → Type 0
RootBelow own i k = (k < i) × (d : ℕ) × (mark_at own k ≡ Some d)

module _ (own : List (Option ℕ)) (i : ℕ) (old mid : List (Option ℕ)) (paths a : List ℕ) (s : AreBegun own i old mid paths a) where
  -- cell i is a root
  pub begun_root : (d v : ℕ) (new : List (Option ℕ)) (paths' b : List ℕ) → i < length own → mark_at own i ≡ Some d → paths' ≡ set paths i v → v ≡
      min (d + 0) path_limit → Spreads (λ k. k ≡ i) 0 mid new a b → AreBegun own (i + 1) old new paths' b
  begun_root d v new paths' b h root is v_is t = record {
    marks = spread_as (λ k. RootBelow own i k ⊎ (k ≡ i)) (RootBelow own (i + 1)) 0 old new [] b to from (spread_then (RootBelow own i) (λ k. k ≡ i) 0 old mid new [] a b s.marks t);
    paths_are = λ c e c_in c_is.
        elim (cases_eq c i) [
          | inl at ↦
              let same = same_some (mark_at own i) d e root (subst (λ (z : ℕ). mark_at own z ≡ Some e) at c_is) in
              rw (is, at) (get_or-set_same paths i v 0 (subst (λ (n : ℕ). i < n) (sym s.whole) h) ∙ cut same)
          | inr other ↦ rw is (get_or-set_other paths i c v 0 other ∙ s.paths_are c e (omega (arith, c_in, other)) c_is)
        ];
    whole = ap (λ (z : List ℕ). length z) is ∙ length-set paths i v ∙ s.whole;
  }
    where
      cut : {e : ℕ} → d ≡ e → v ≡ min e path_limit
      cut {e} same = omega (arith, v_is, same)

      to : (k : ℕ) → RootBelow own i k ⊎ (k ≡ i) → RootBelow own (i + 1) k
      to k (inl (c_in, e, is)) = (omega arith, e, is)
      to k (inr at) = (omega arith, d, subst (λ (z : ℕ). mark_at own z ≡ Some d) (sym at) root)

      from : (k : ℕ) → RootBelow own (i + 1) k → RootBelow own i k ⊎ (k ≡ i)
      from k (c_in, e, is) = elim (cases_lt k i) [ inl less ↦ inl (less, e, is) | inr more ↦ inr (omega arith) ]

  -- cell i is no root
  pub begun_other : mark_at own i ≡ None → AreBegun own (i + 1) old mid paths a
  begun_other none = record {
    marks = spread_as (RootBelow own i) (RootBelow own (i + 1)) 0 old mid [] a (λ k (c_in, e, is). (omega arith, e, is)) (λ k (c_in, e, is). (earlier k e c_in is, e, is)) s.marks;
    paths_are = λ c e c_in is. s.paths_are c e (earlier c e c_in is) is;
    whole = s.whole;
  }
    where
      earlier : (k e : ℕ) → k < i + 1 → mark_at own k ≡ Some e → k < i
      earlier k e k_in is = elim (cases_lt k i) [
        | inl less ↦ less
        | inr more ↦ let at : k ≡ i = omega arith in absurd
            (no_both (mark_at own i) e none (subst (λ (z : ℕ). mark_at own z ≡ Some e) at is))
      ]

-- a list without marks
abbrev without_marks : ℕ → List (Option ℕ)
without_marks n = replicate n None

none_at : (n c : ℕ) → mark_at (without_marks n) c ≡ None
none_at zero c = refl
none_at (suc n) zero = refl
none_at (suc n) (suc c) = none_at n c

length_is : (n : ℕ) → length (without_marks n) ≡ n
length_is zero = refl
length_is (suc n) = ap suc (length_is n)

all_unmarked : (n : ℕ) → count_unmarked (without_marks n) ≡ n
all_unmarked zero = refl
all_unmarked (suc n) = ap suc (all_unmarked n)

pub all_none : (n : ℕ) (m : List (Option ℕ)) → m ≡ replicate n None → (length m ≡ n) × ((c : ℕ) → mark_at m c ≡ None) × (count_unmarked m ≡ n)
all_none n m e = (
  ap (λ (z : List (Option ℕ)). length z) e ∙ length_is n,
  (λ c. ap (λ (z : List (Option ℕ)). mark_at z c) e ∙ none_at n c),
  ap (λ (z : List (Option ℕ)). count_unmarked z) e ∙ all_unmarked n,
)
