use Rattle.engine.proofs.Common.{Vec, Global, ℕ, List, Result, option_map, subst, StopsText, pairs_in, check_of, read_by_name, Refusal, ListedStep, Ok, Err, file_at, input_fault}
use Rattle.engine.proofs.Common.{convertible_listing_in, convertible_steps_read}
use Rattle.engine.proofs.Readings.{read_then, passed_reading, text_read, unread_then}
use Rattle.engine.proofs.convertible_checking.read_convertible_steps.Goals as goal

pub returns-in_err-bytes-clause-reads : goal.returns-in_err-bytes-clause-reads
returns-in_err-bytes-clause-reads g c = λ files agree.
    passed_reading (λ (l : List ListedStep). l)
    (convertible_steps_read files (check_of c.args.asked) c.args.model.now (option_map (λ z. z.now) c.args.zones)) c.from_residual.result _
    c.from_residual.ensures.1
    (unread_then (λ (l : List ListedStep). l) (read_by_name c.args.asked.listing.now (file_at files)) _ (λ (v : Vec ℕ Global). v.items) c.in_err-bytes.field-0.0
    (c.in_err-bytes.ensures.reads files agree))

pub returns-in_err-listing-clause-reads : goal.returns-in_err-listing-clause-reads
returns-in_err-listing-clause-reads g c = λ files agree.
    let m = c.args.model.now in
    let f : List ℕ → Result (List ListedStep) Refusal = convertible_listing_in m (check_of c.args.asked).digits (pairs_in m (option_map (λ z. z.now) c.args.zones)) c.args.asked.listing.now in
    let P : List ℕ → Type 0 = λ b. StopsText c.in_err-listing.field-0.0 (f b) in
    passed_reading (λ (l : List ListedStep). l)
    (convertible_steps_read files (check_of c.args.asked) c.args.model.now (option_map (λ z. z.now) c.args.zones)) c.from_residual-in_err-listing.result
    _ c.from_residual-in_err-listing.ensures.1
    (read_then (λ (l : List ListedStep). l) (read_by_name c.args.asked.listing.now (file_at files)) f c.in_ok-bytes.bytes.items
    (Err (input_fault c.in_err-listing.field-0.0)) (c.in_ok-bytes.ensures.reads files agree)
    (text_read (λ (l : List ListedStep). l) _ c.in_err-listing.field-0.0 (subst P c.as_slice.ensures.value c.in_err-listing.ensures.reads)))

pub returns-clause-reads : goal.returns-clause-reads
returns-clause-reads g c = λ files agree.
    read_then (λ (l : List ListedStep). l) (read_by_name c.args.asked.listing.now (file_at files)) _ c.in_ok-bytes.bytes.items (Ok c.in_ok-listing.listing)
    (c.in_ok-bytes.ensures.reads files agree) (rw c.as_slice.ensures.value at c.in_ok-listing.ensures.reads)
