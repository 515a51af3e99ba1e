-- Indices of variable cells, one after the other.
use Rattle.problem_builder.proofs.Common.{◌≡◌, ℕ, suc, ◌+◌, ◌≤◌, true, false, sym, ap, ◌∙◌, arith, FlowModel, is_variable, index_of, rank, rank_passes, rank_fails, rank_few, index_is}

module _ (m : FlowModel) (p : ℕ) where
  pub first_index : index_of m p 0 ≡ 0
  first_index = index_is m p 0

  pub index_more : (c : ℕ) → is_variable m p c ≡ true → index_of m p (c + 1) ≡ index_of m p c + 1
  index_more c v = index_is m p (c + 1) ∙ ap (rank (is_variable m p)) (let e : c + 1 ≡ suc c = omega arith in e) ∙ rank_passes (is_variable m p) c v ∙ ap suc
      (sym (index_is m p c)) ∙ (let e : suc (index_of m p c) ≡ index_of m p c + 1 = omega arith in e)

  pub index_same : (c : ℕ) → is_variable m p c ≡ false → index_of m p (c + 1) ≡ index_of m p c
  index_same c v = index_is m p (c + 1) ∙ ap (rank (is_variable m p)) (let e : c + 1 ≡ suc c = omega arith in e) ∙ rank_fails (is_variable m p) c v ∙ sym (index_is m p c)

  pub index_few : (c : ℕ) → index_of m p c ≤ c
  index_few c = omega (arith, index_is m p c, rank_few (is_variable m p) c)
