use Rattle.engine.proofs.Common.{◌≡◌, ℕ, List, Option, subst, sym, pairs_in, AreListed, NeverCut, lacks_at_first, lone_line_is_run, refl, ZonedListing, Status, Put, IsEnd, IsRun, FlowModel}
use Rattle.engine.proofs.Common.{ConvertibleLayers, AreZones, GentleVerdict, IsConvertibleCheck, gentle_verdict_line, gentle_verdict_status, HasGentleHistories}
use Rattle.gentle_run.specs.{IsVerdict, ListingEncloses, declared.verdict.GentleVerdict.TheVariants.Certified}
use Rattle.engine.proofs.Ends.{puts_more}
use Rattle.engine.proofs.convertible_checking.put_convertible_check.Goals as goal

puts_verdict : (m : FlowModel) (w : ConvertibleLayers) (s : ℕ) (listing : ZonedListing) (v : GentleVerdict) (end : Status) (puts : List Put) →
    IsVerdict m w s listing.zones listing.steps v → (v ≡ Certified → ListingEncloses s m w listing.zones listing.steps) →
    (v ≡ Certified → HasGentleHistories s m w listing.steps) → IsEnd (gentle_verdict_line m.grid v) (gentle_verdict_status v) end puts → IsRun (IsConvertibleCheck m w s listing) NeverCut end puts
puts_verdict m w s listing v end puts is encloses exists h =
    lone_line_is_run (IsConvertibleCheck m w s listing) NeverCut (gentle_verdict_line m.grid v) (gentle_verdict_status v) end puts
    (record { verdict = v; is = is; encloses = encloses; exists = exists; status = refl; are = refl }) h

pub check_listing-requires-clause-listing : goal.check_listing-requires-clause-listing
check_listing-requires-clause-listing g c =
    let L : Option (List ℕ) → Type 0 = λ z. AreListed c.args.model.now (pairs_in c.args.model.now z) c.args.listing.now.steps in
    subst L (sym c.zone_slice.ensures) c.requires.listing.steps

pub check_listing-requires-clause-zones : goal.check_listing-requires-clause-zones
check_listing-requires-clause-zones g c =
    let Z : Option (List ℕ) → Type 0 = λ z. AreZones c.args.model.now z in
    subst Z (sym c.zone_slice.ensures) c.requires.listing.zones

pub returns-in-Ok : goal.returns-in-Ok
returns-in-Ok g c =
    let m = c.args.model.now in
    let w = c.args.layers.now in
    let steps = c.args.listing.now.steps in
    let V : Option (List ℕ) → Type 0 = λ z. IsVerdict m w c.args.digits z steps c.in-Ok.verdict in
    let E : Option (List ℕ) → Type 0 = λ z. c.in-Ok.verdict ≡ Certified → ListingEncloses c.args.digits m w z steps in
    let is = subst V c.zone_slice.ensures c.in-Ok.ensures.verdict in
    let W : GentleVerdict → Type 0 = λ v. IsVerdict m w c.args.digits c.args.listing.now.zones steps v in
    let exists : c.in-Ok.verdict ≡ Certified → HasGentleHistories c.args.digits m w steps = λ holds unit some most. c.certified_has_history.ensures c.args.digits m w c.args.listing.now.zones
    steps unit c.requires.model c.requires.yields c.requires.listing.steps (subst W holds is) some most in
    puts_more g.K.Sink.leads c.put_gentle_verdict.ensures (λ more p. puts_verdict m w c.args.digits c.args.listing.now c.in-Ok.verdict c.put_gentle_verdict.result more is
    (subst E c.zone_slice.ensures c.in-Ok.ensures.encloses) exists p)

pub returns-in-Err : goal.returns-in-Err
returns-in-Err g c = puts_more g.K.Sink.leads c.put_memory.ensures (λ more m.
    lacks_at_first (IsConvertibleCheck c.args.model.now c.args.layers.now c.args.digits c.args.listing.now) NeverCut c.put_memory.result more m)
