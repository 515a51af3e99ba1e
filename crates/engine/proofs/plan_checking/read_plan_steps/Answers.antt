use Rattle.engine.proofs.Common.{Vec, Global, ℕ, List, Option, Result, subst, StopsText, pairs_in, read_by_name, Refusal, Ok, Err, file_at, input_fault, option_map, plan_steps_read, AreListedPlan}
use Rattle.engine.proofs.Common.{plan_listing_in, ListedPlanStep}
use Rattle.engine.proofs.Readings.{read_then, passed_reading, text_read, unread_then}
use Rattle.engine.proofs.plan_checking.read_plan_steps.Goals as goal

pub returns-in_err-bytes-clause-reads : goal.returns-in_err-bytes-clause-reads
returns-in_err-bytes-clause-reads g c = λ files agree.
    passed_reading (λ (l : List ListedPlanStep). l) (plan_steps_read c.args.between files c.args.file.now c.args.task.now) c.from_residual.result _
    c.from_residual.ensures.1
    (unread_then (λ (l : List ListedPlanStep). l) (read_by_name c.args.file.now (file_at files)) _ (λ (v : Vec ℕ Global). v.items) c.in_err-bytes.field-0.0
    (c.in_err-bytes.ensures.reads files agree))

pub returns-in_err-listing-clause-reads : goal.returns-in_err-listing-clause-reads
returns-in_err-listing-clause-reads g c = λ files agree.
    let k = c.args.task.now in
    let f : List ℕ → Result (List ListedPlanStep) Refusal = plan_listing_in c.args.between k.base.first k.digits (pairs_in k.base.first k.zones) c.args.file.now in
    let F : Option (List ℕ) → List ℕ → Result (List ListedPlanStep) Refusal =
    λ z. plan_listing_in c.args.between k.base.first k.digits (pairs_in k.base.first z) c.args.file.now in
    let P : List ℕ → Type 0 = λ b. StopsText c.in_err-listing.field-0.0 (F (option_map (λ z. z.now) c.zone_slice.result) b) in
    let Q : Option (List ℕ) → Type 0 = λ z. StopsText c.in_err-listing.field-0.0 (F z c.in_ok-bytes.bytes.items) in
    passed_reading (λ (l : List ListedPlanStep). l) (plan_steps_read c.args.between files c.args.file.now k) c.from_residual-in_err-listing.result
    _ c.from_residual-in_err-listing.ensures.1
    (read_then (λ (l : List ListedPlanStep). l) (read_by_name c.args.file.now (file_at files)) f c.in_ok-bytes.bytes.items
    (Err (input_fault c.in_err-listing.field-0.0)) (c.in_ok-bytes.ensures.reads files agree)
    (text_read (λ (l : List ListedPlanStep). l) _ c.in_err-listing.field-0.0 (subst Q c.zone_slice.ensures (subst P c.as_slice.ensures.value c.in_err-listing.ensures.reads))))

pub returns-clause-reads : goal.returns-clause-reads
returns-clause-reads g c = λ files agree.
    let k = c.args.task.now in
    let F : Option (List ℕ) → List ℕ → Result (List ListedPlanStep) Refusal =
    λ z. plan_listing_in c.args.between k.base.first k.digits (pairs_in k.base.first z) c.args.file.now in
    let P : List ℕ → Type 0 = λ b. Path (Result (List ListedPlanStep) Refusal) (F (option_map (λ z. z.now) c.zone_slice.result) b) (Ok c.in_ok-listing.listing) in
    let Q : Option (List ℕ) → Type 0 = λ z. Path (Result (List ListedPlanStep) Refusal) (F z c.in_ok-bytes.bytes.items) (Ok c.in_ok-listing.listing) in
    read_then (λ (l : List ListedPlanStep). l) (read_by_name c.args.file.now (file_at files)) _ c.in_ok-bytes.bytes.items (Ok c.in_ok-listing.listing)
    (c.in_ok-bytes.ensures.reads files agree) (subst Q c.zone_slice.ensures (subst P c.as_slice.ensures.value c.in_ok-listing.ensures.reads))

pub returns-clause-listed : goal.returns-clause-listed
returns-clause-listed g c =
    let k = c.args.task.now in
    let L : Option (List ℕ) → Type 0 = λ z. AreListedPlan k.base.first (pairs_in k.base.first z) c.in_ok-listing.listing in
    subst L c.zone_slice.ensures c.in_ok-listing.ensures.listed
