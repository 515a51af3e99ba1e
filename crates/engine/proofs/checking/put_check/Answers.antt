use Rattle.engine.proofs.Common.{◌≡◌, ℕ, List, Option, subst, sym, pairs_in, AreListed, NeverCut, lacks_at_first, IsVerdict, ListingEncloses, IsCheck, lone_line_is_run, refl, Limits, Decks}
use Rattle.engine.proofs.Common.{ZonedListing, ListingVerdict, Status, Put, IsEnd, IsRun, verdict_line, verdict_status, listing, Certified, HaveOneHistory}
use Rattle.engine.proofs.Ends.{puts_more}
use Rattle.engine.proofs.checking.put_check.Goals as goal

puts_verdict : (limits : Limits) (d : Decks) (s : ℕ) (listing : ZonedListing) (v : ListingVerdict) (end : Status) (puts : List Put) →
    IsVerdict limits d s listing.zones listing.steps v → (v ≡ Certified → ListingEncloses d s listing.zones listing.steps) →
    (v ≡ Certified → HaveOneHistory d) →
    IsEnd (verdict_line d.first.grid v) (verdict_status v) end puts → IsRun (IsCheck limits d s listing) NeverCut end puts
puts_verdict limits d s listing v end puts is encloses history h =
    lone_line_is_run (IsCheck limits d s listing) NeverCut (verdict_line d.first.grid v) (verdict_status v) end puts
    (record { verdict = v; is = is; encloses = encloses; history = history; status = refl; are = refl }) h

pub check_listing-requires-clause-listing : goal.check_listing-requires-clause-listing
check_listing-requires-clause-listing g c =
    let L : Option (List ℕ) → Type 0 = λ z. AreListed c.args.decks.now.first (pairs_in c.args.decks.now.first z) c.args.listing.now.steps in
    subst L (sym c.zone_slice.ensures) c.requires.listing.steps

pub returns-in-Ok : goal.returns-in-Ok
returns-in-Ok g c =
    let V : Option (List ℕ) → Type 0 = λ z. IsVerdict c.args.limits c.args.decks.now c.args.digits z c.args.listing.now.steps c.in-Ok.verdict in
    let E : Option (List ℕ) → Type 0 = λ z. c.in-Ok.verdict ≡ Certified → ListingEncloses c.args.decks.now c.args.digits z c.args.listing.now.steps in
    let verdict = subst V c.zone_slice.ensures c.in-Ok.ensures.verdict in
    let encloses = subst E c.zone_slice.ensures c.in-Ok.ensures.encloses in
    puts_more g.K.Sink.leads c.put_verdict.ensures (λ more p.
    puts_verdict c.args.limits c.args.decks.now c.args.digits c.args.listing.now c.in-Ok.verdict c.put_verdict.result more verdict encloses c.in-Ok.ensures.history p)

pub returns-in-Err : goal.returns-in-Err
returns-in-Err g c = puts_more g.K.Sink.leads c.put_memory.ensures (λ more m.
    lacks_at_first (IsCheck c.args.limits c.args.decks.now c.args.digits c.args.listing.now) NeverCut c.put_memory.result more m)
