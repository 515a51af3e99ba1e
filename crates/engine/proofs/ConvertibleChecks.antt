-- What a check of a listing of a model with convertible layers that ended Ok says, and that it has one end.
use Rattle.engine.proofs.Common.{◌≡◌, ◌∙◌, ℕ, List, [], ◌∷◌, Ok, Option, ap, concat, refl, subst, sym, FileSet, FlowModel, IsModel, Status, Text, Appends, AskedCheck, IsListed, ZonedListing}
use Rattle.engine.proofs.Common.{certified_line, read_by_name, zones_read, ConvertibleLayers, convertible_reads, GentleVerdict, Refused, Steep, ConvertibleVerdict, IsConvertibleCheck}
use Rattle.engine.proofs.Common.{convertible_listing_read, convertible_steps_read, gentle_verdict_line, gentle_verdict_status, Low}
use Rattle.water_table.specs.{with_yield}
use Rattle.gentle_run.specs.{IsVerdict, VerdictIsOne, declared.verdict.GentleVerdict.TheVariants.Certified as Holds, declared.verdict.GentleVerdict.TheVariants.Fails}
use Rattle.engine.proofs.{Certifying.IsFault, Readings.named_read, Readings.zoned_parts}
use Rattle.step_problem.specs.declared.place.Place.TheVariants.{Cell}
use Rattle.run_puts.specs.declared.puts.Status.TheVariants as status

-- a check whose status is Ok has certified the listing
gentle_certified : (v : GentleVerdict) → status.Ok ≡ gentle_verdict_status v → v ≡ Holds
gentle_certified Holds e = refl
gentle_certified (Steep at c) e = absurd (let bad : status.Ok ≡ status.NotCertified at.period at.step (Cell c Low) = e in cc)
gentle_certified (Fails at place) e = absurd (let bad : status.Ok ≡ status.NotCertified at.period at.step place = e in cc)
gentle_certified (Refused at n) e = absurd (let bad : status.Ok ≡ status.NoBound at.period at.step n = e in cc)

verdict_is_no_fault : (v : GentleVerdict) → IsFault (gentle_verdict_status v) → ⊥
verdict_is_no_fault Holds h = h
verdict_is_no_fault other h = h

module _ (m : FlowModel) (w : ConvertibleLayers) (s : ℕ) (listing : ZonedListing) where
  pub convertible_check_is_no_fault : (end : Status) (pieces : List Text) → IsConvertibleCheck m w s listing end pieces → IsFault end → ⊥
  convertible_check_is_no_fault end pieces c h = verdict_is_no_fault c.verdict (subst IsFault c.status h)

  module _ (law : VerdictIsOne) (model : IsModel m) (yields : IsModel (with_yield m w)) (listed : IsListed m listing) where
    pub one_convertible_end : (meant end : Status) (p q : List Text) → IsConvertibleCheck m w s listing meant p → IsConvertibleCheck m w s listing end q → end ≡ meant
    one_convertible_end meant end p q x y =
        y.status ∙ ap gentle_verdict_status (law m w s listing.zones listing.steps y.verdict x.verdict model yields listed.steps y.is x.is) ∙ sym x.status

    -- where the verdict is that the listing is certified, its end is Ok
    pub convertible_certifies : IsVerdict m w s listing.zones listing.steps Holds → (end : Status) (q : List Text) → IsConvertibleCheck m w s listing end q → end ≡ status.Ok
    convertible_certifies verdict end q y =
        y.status ∙ ap gentle_verdict_status (law m w s listing.zones listing.steps y.verdict Holds model yields listed.steps y.is verdict)

pub convertible_checked : (files : FileSet) (asked : AskedCheck) (m : FlowModel) (w : ConvertibleLayers) (listing : ZonedListing) →
    read_by_name asked.name (convertible_reads asked.limits files) ≡ Ok (m, w) → IsModel m → convertible_listing_read files asked m ≡ Ok listing →
    (pieces : List Text) → IsConvertibleCheck m w asked.digits listing status.Ok pieces → (old new : Option (List ℕ)) →
    ((all : List Text) → pieces ≡ all → Appends old new (concat all)) → ConvertibleVerdict asked files old new
convertible_checked files asked m w listing read model listed pieces c old new appended =
    let parts = zoned_parts (zones_read files asked.zones m) (convertible_steps_read files asked m) listing listed in
    let holds = gentle_certified c.verdict c.status in
    let L : GentleVerdict → Type 0 = λ v. pieces ≡ gentle_verdict_line m.grid v ∷ [] in
    let V : GentleVerdict → Type 0 = λ v. IsVerdict m w asked.digits listing.zones listing.steps v in
    record {
      certified = record {
        model = m;
        layers = w;
        read = named_read asked.name (convertible_reads asked.limits files) (m, w) read;
        valid = model;
        zones = listing.zones;
        zoned = parts.0;
        steps = listing.steps;
        listed = parts.1;
        written = appended (certified_line ∷ []) (subst L holds c.are);
        encloses = c.encloses holds;
        exists = c.exists holds;
      };
      verdict = subst V holds c.is;
    }
