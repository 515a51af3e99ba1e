-- The public clauses, from all that a run comes to.
use Rattle.engine.proofs.Common.{◌≡◌, List, Option, Ok, subst, sym, ◌∙◌, ap, refl, inl, inr, ◌⊎◌, FileSet, Rose, Put, Seen, PutsMake, Text, Agree, Status, After, Saying, one_valid, Case, Listing}
use Rattle.engine.proofs.Common.{Making, Checking, Writing, CutOf, Defines, made_task, GoesWell, IsRunOf, IsStopped, IsValid, Planning, Difference, Comparing, IsPlain, ReadsFolder, EndsOk}
use Rattle.engine.proofs.Common.{EndIsDefined, Wanted, Jobs, case_of, PlanChecking, ConvertibleChecking}
use Rattle.engine.proofs.{Certifying.IsFault, Certifying.certifies, Certifying.check_is_no_fault, Certifying.one_end, Certifying.stopped_by_fault, ListingEnds.statuses_agree, ListingEnds.goes_through}
use Rattle.engine.proofs.{ListingEnds.jobs_agree, ListingEnds.jobs_end_ok, ListingEnds.jobs_no_fault, ListingEnds.listing_is_no_fault, OkRuns.Laws, OkRuns.valid_of, PlanChecks.one_plan_end}
use Rattle.engine.proofs.{PlanChecks.plan_certifies, PlanChecks.plan_check_is_no_fault, Plans.plan_goes_through, Plans.plan_is_no_fault, Plans.plans_agree, Dues.Ended, Dues.read_failed}
use Rattle.engine.proofs.{Dues.write_failed, Dues.run_ended, Dues.end_decided, Dues.end_comes, ConvertibleChecks.convertible_certifies, ConvertibleChecks.convertible_check_is_no_fault}
use Rattle.engine.proofs.{ConvertibleChecks.one_convertible_end}
use Rattle.run_puts.specs.declared.puts.Status.TheVariants as status
use Rattle.listing_run.specs.declared.text.ListingEnd.TheVariants as ends

-- no case defines the end of a fault outside or of lack of memory
defines_no_fault : (case : Case) (end : Status) (pieces : List Text) → Defines case end pieces → IsFault end → ⊥
defines_no_fault (Listing k) end pieces d h = listing_is_no_fault k end pieces d h
defines_no_fault (Planning k) end pieces d h = plan_is_no_fault k end pieces d h
defines_no_fault (Making seed size (Ok m)) end pieces d h = listing_is_no_fault (made_task m) end d.all d.listed h
defines_no_fault (Checking limits m s steps) end pieces d h = check_is_no_fault limits m s steps end pieces d h
defines_no_fault (PlanChecking k steps) end pieces d h = plan_check_is_no_fault k steps end pieces d h
defines_no_fault (ConvertibleChecking m w s listing) end pieces d h = convertible_check_is_no_fault m w s listing end pieces d h
defines_no_fault (Jobs jobs) end pieces d h = jobs_no_fault jobs d.ends d.each (subst IsFault d.ended.status_is h)
defines_no_fault (Comparing a b c) end pieces (inl unlike) h = subst IsFault unlike.status h
defines_no_fault (Comparing a b c) end pieces (inr (alike, d)) h = defines_no_fault c end pieces d h
defines_no_fault (After text c) end pieces d h = defines_no_fault c end d.others d.then h
defines_no_fault other end pieces d h = subst IsFault d.0 h

decides : (laws : Laws) (case : Case) (meant end : Status) (p q : List Text) → IsPlain case → IsValid case → Defines case meant p → Defines case end q → Agree meant end
decides laws (Listing k) meant end p q plain valid x y = statuses_agree laws k valid plain meant end p q x y
decides laws (Planning k) meant end p q plain valid x y = plans_agree laws.one_plan k valid plain meant end p q x y
decides laws (Making seed size (Ok m)) meant end p q plain valid x y = statuses_agree laws (made_task m) (one_valid m valid) refl meant end x.all y.all x.listed y.listed
decides laws (Checking limits m s steps) meant end p q plain (model, listed) x y = inr (inl (one_end limits m s steps laws.verdict model listed meant end p q x y))
decides laws (PlanChecking k steps) meant end p q plain (task, quick, listed) x y = inr (inl (one_plan_end k steps laws.plan_verdict task quick listed meant end p q x y))
decides laws (ConvertibleChecking m w s l) meant end p q plain (model, yields, listed) x y =
    inr (inl (one_convertible_end m w s l laws.gentle_verdict model yields listed meant end p q x y))
decides laws (Jobs jobs) meant end p q plain valid x y = jobs_agree laws jobs meant end p q plain valid x y
decides laws (Comparing a b c) meant end p q plain valid (inl x) (inl y) =
    inr (inl (y.status ∙ ap (λ (d : Difference). status.Refused (b.unlike d))
    (laws.difference a b.model y.difference x.difference y.first x.first) ∙ sym x.status))
decides laws (Comparing a b c) meant end p q plain valid (inl x) (inr (alike, y)) = absurd (x.unlike alike)
decides laws (Comparing a b c) meant end p q plain valid (inr (alike, x)) (inl y) = absurd (y.unlike alike)
decides laws (Comparing a b c) meant end p q plain (inl never) (inr (alike, x)) (inr (also, y)) = absurd (never alike)
decides laws (Comparing a b c) meant end p q plain (inr valid) (inr (alike, x)) (inr (also, y)) = decides laws c meant end p q plain valid x y
decides laws (After text c) meant end p q plain valid x y = decides laws c meant end x.others y.others plain valid x.then y.then
decides laws other meant end p q plain valid x y = inr (inl (y.0 ∙ sym x.0))

-- a case that goes well has no other end than Ok
ends_well : (laws : Laws) (case : Case) → GoesWell case → IsValid case → (end : Status) (q : List Text) → Defines case end q → end ≡ status.Ok
ends_well laws (Listing k) goes valid end q y = goes_through k goes end q y
ends_well laws (Planning k) goes valid end q y = plan_goes_through k goes end q y
ends_well laws (Making seed size (Ok m)) goes valid end q y = goes_through (made_task m) goes end y.all y.listed
ends_well laws (Checking limits d s l) verdict (valid, listed) end q y = certifies limits d s l laws.verdict valid listed verdict end q y
ends_well laws (PlanChecking k steps) verdict (task, quick, listed) end q y = plan_certifies k steps laws.plan_verdict task quick listed verdict end q y
ends_well laws (ConvertibleChecking m w s l) verdict (model, yields, listed) end q y = convertible_certifies m w s l laws.gentle_verdict model yields listed verdict end q y
ends_well laws (Jobs jobs) each valid end q y = jobs_end_ok jobs end q each y
ends_well laws (Writing m) goes valid end q y = y.0
ends_well laws (Saying text) goes valid end q y = y.0
ends_well laws (After text c) goes valid end q y = ends_well laws c goes valid end y.others y.then
ends_well laws (Comparing a b case) (alike, goes) valid end q (inl unlike) = absurd (unlike.unlike alike)
ends_well laws (Comparing a b case) (alike, goes) (inl never) end q (inr y) = absurd (never alike)
ends_well laws (Comparing a b case) (alike, goes) (inr valid) end q (inr (also, y)) = ends_well laws case goes valid end q y
ends_well laws other goes valid end q y = absurd goes

-- The end of a run, beside which a write failed or none did.
module _ (read_fault beside : Type 0) (order : Option Wanted) (files : FileSet) (end : Status) (puts : List Put) (old new : Seen)
    (makes : PutsMake old puts new) (run : IsRunOf read_fault beside (case_of order files) end puts) where
  abbrev case : Case
  case = case_of order files

  goes : (meant : Status) (pieces : List Text) → Defines case meant pieces → IsStopped meant → ⊥
  goes meant pieces d stops = defines_no_fault case meant pieces d (stopped_by_fault meant stops)

  pub read_rose : end ≡ status.ReadFault → read_fault
  read_rose e = (read_failed (read_fault × ReadsFolder case) beside (Defines case) (CutOf case) goes end puts run e).0

  pub put_rose : end ≡ status.WriteFault → Rose old.faults new.faults ⊎ beside
  put_rose e = write_failed (read_fault × ReadsFolder case) beside (Defines case) (CutOf case) goes end puts old new run e makes

  abbrev pub Fault : Type 0
  Fault = read_fault ⊎ (Rose old.faults new.faults ⊎ beside)

  comes : Ended Fault (Defines case) end
  comes = run_ended (read_fault × ReadsFolder case) beside (Defines case) (CutOf case) goes Fault (λ f. inl f.0) old new (λ f. inr f) end puts run makes

  module _ (laws : Laws) (valid : IsStopped end ⊎ IsValid case) where
    pub decided : EndIsDefined Fault order files end
    decided = λ plain meant pieces x. end_decided Fault (Defines case) end meant (λ q y. decides laws case meant end pieces q plain (valid_of case end (goes end q y) valid) x y) comes

    pub complete : EndsOk Fault order files end
    complete = λ well. end_comes Fault (Defines case) end (λ q y. ends_well laws case well (valid_of case end (goes end q y) valid) end q y) comes
