use Rattle.engine.proofs.Common.{List, ℕ, Option, Ok, Err, subst, pairs_in, AreListed, check_of, IsReading, ListedStep, ZonedListing, refl, zones_read, ◌≡◌, convertible_listing_read}
use Rattle.engine.proofs.Common.{convertible_steps_read}
use Rattle.engine.proofs.Readings.{read_then, passed_reading, unread_then}
use Rattle.engine.proofs.convertible_checking.read_convertible_listed.Goals as goal

pub returns-in_err-zones-clause-reads : goal.returns-in_err-zones-clause-reads
returns-in_err-zones-clause-reads g c = λ files agree.
    passed_reading (λ (l : ZonedListing). l) (convertible_listing_read files (check_of c.args.asked) c.args.model.now) c.from_residual.result _ c.from_residual.ensures.1
    (unread_then (λ (l : ZonedListing). l) (zones_read files (check_of c.args.asked).zones c.args.model.now) _ (λ z. z) c.in_err-zones.field-0.0 (c.in_err-zones.ensures.zones files agree))

pub returns-in_err-steps-clause-reads : goal.returns-in_err-steps-clause-reads
returns-in_err-steps-clause-reads g c = λ files agree.
    let asked = check_of c.args.asked in
    let m = c.args.model.now in
    let zones = c.in_ok-zones.zones in
    let S : Option (List ℕ) → Type 0 = λ z. IsReading {T = List ListedStep} (λ l. l) (convertible_steps_read files asked m z) (Err c.in_err-steps.field-0.0) in
    passed_reading (λ (l : ZonedListing). l) (convertible_listing_read files (check_of c.args.asked) c.args.model.now) c.from_residual-in_err-steps.result _ c.from_residual-in_err-steps.ensures.1
    (read_then (λ (l : ZonedListing). l) (zones_read files asked.zones m) _ zones (Err c.in_err-steps.field-0.0)
    (c.in_ok-zones.ensures.zones files (c.read_convertible_steps.ensures.folder.since files agree))
    (unread_then (λ (l : ZonedListing). l) (convertible_steps_read files asked m zones) _ (λ l. l) c.in_err-steps.field-0.0
    (subst S c.zone_slice.ensures (c.in_err-steps.ensures.reads files agree))))

pub returns-clause-reads : goal.returns-clause-reads
returns-clause-reads g c = λ files agree.
    let S : Option (List ℕ) → Type 0 = λ z. convertible_steps_read files (check_of c.args.asked) c.args.model.now z ≡ Ok c.in_ok-steps.steps in
    rw (c.in_ok-zones.ensures.zones files (c.read_convertible_steps.ensures.folder.since files agree), subst S c.zone_slice.ensures (c.in_ok-steps.ensures.reads files agree)) refl

pub returns-clause-listed : goal.returns-clause-listed
returns-clause-listed g c =
    let L : Option (List ℕ) → Type 0 = λ z. AreListed c.args.model.now (pairs_in c.args.model.now z) c.in_ok-steps.steps in
    record { zones = c.in_ok-zones.ensures.fit; steps = subst L c.zone_slice.ensures c.in_ok-steps.ensures.listed }

pub read_convertible_steps-requires-clause-may : goal.read_convertible_steps-requires-clause-may
read_convertible_steps-requires-clause-may g c = c.in_ok-zones.ensures.folder.still _ c.requires.may
