-- Relaxed heads keep the order of heads.
use Rattle.cell_relax.proofs.Common.{inl, inr, subst, sym, ℤ, ◌≤ℤ◌, Low, High, entries_at, le_trans, balance_rises, RelaxedKeepOrder}

pub relaxed_keep_order : RelaxedKeepOrder
relaxed_keep_order Low p c h k r s above from to =
    elim from.reached [
      | inl e ↦ subst (λ (x : ℤ). x ≤ℤ s) (sym e) (le_trans _ _ _ above.own to.no_looser)
      | inr (head, can) ↦ to.furthest r head (le_trans _ _ _ can (balance_rises Low (entries_at p c) r h k above.others))
    ]
relaxed_keep_order High p c h k r s above from to =
    elim to.reached [
      | inl e ↦ subst (λ (x : ℤ). r ≤ℤ x) (sym e) (le_trans _ _ _ from.no_looser above.own)
      | inr (head, can) ↦ from.furthest s head (le_trans _ _ _ (balance_rises High (entries_at p c) s h k above.others) can)
    ]
