use Rattle.check_run.proofs.Common.{ℕ, ◌≤◌, subst, sym, option_map, AreDeckTables, ListingEncloses, IfOk-weaker}
use Rattle.check_run.proofs.listing.check_listing.Goals as goal

pub check_steps-requires-clause-digits : goal.check_steps-requires-clause-digits
check_steps-requires-clause-digits c = let D : ℕ → Type 0 = λ k. k ≤ 18 in subst D (sym c.in-Ok.ensures.first.digits) c.requires.digits

pub check_steps-requires-clause-tables : goal.check_steps-requires-clause-tables
check_steps-requires-clause-tables c =
    let T : ℕ → Type 0 = λ k. AreDeckTables c.args.decks.now k c.in-Ok.tables in
    subst T (sym c.in-Ok.ensures.first.digits) c.in-Ok.ensures

pub returns-in-Ok-clause-verdict : goal.returns-in-Ok-clause-verdict
returns-in-Ok-clause-verdict c = IfOk-weaker c.check_steps.result _ _ (λ v h. rw c.in-Ok.ensures.first.digits at h.verdict) c.check_steps.ensures

pub returns-in-Ok-clause-only : goal.returns-in-Ok-clause-only
returns-in-Ok-clause-only c = IfOk-weaker c.check_steps.result _ _ (λ v h. rw c.in-Ok.ensures.first.digits at h.only) c.check_steps.ensures

pub returns-in-Ok-clause-encloses : goal.returns-in-Ok-clause-encloses
returns-in-Ok-clause-encloses c =
    let E : ℕ → Type 0 = λ k. ListingEncloses c.args.decks.now k (option_map (λ z. z.now) c.args.zones) c.args.listing.now in
    IfOk-weaker c.check_steps.result _ _ (λ v h is. subst E c.in-Ok.ensures.first.digits (h.encloses is)) c.check_steps.ensures

pub returns-in-Ok-clause-history : goal.returns-in-Ok-clause-history
returns-in-Ok-clause-history c = IfOk-weaker c.check_steps.result _ _ (λ v h. h.history) c.check_steps.ensures
