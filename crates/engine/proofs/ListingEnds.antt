-- The ends of listings, and of the jobs of a batch: none is a fault, and which is certain.
use Rattle.engine.proofs.Common.{TimeStep, JobEnd, AllZip, first_not_ok, or_else, IsBatch, batch_settles, batches_agree, AreDecks, IsRunText, JobDefines, model_line, IsJobEnd, IsValidJob, GoesThrough}
use Rattle.engine.proofs.Common.{Job, IsListing, status_of, AllSteps, ListingEnd, Step, Task, Refusal, Agree, Text, Status, Err, IfOk, Ok, Result, ap, inl, inr, refl, subst, sym, ◌∙◌, ◌∷◌, ◌≡◌, List}
use Rattle.engine.proofs.Common.{[], All-head, All-tail, All, NoBound, false}
use Rattle.engine.proofs.{Certifying.IsFault, OkRuns.Laws}
use Rattle.run_puts.specs.declared.puts.Status.TheVariants as status
use Rattle.listing_run.specs.declared.text.ListingEnd.TheVariants as ends

-- no listing ends with a fault outside or for lack of memory
last_is_no_fault : (last : ListingEnd) → IsFault (status_of last) → ⊥
last_is_no_fault ends.Whole h = h
last_is_no_fault other h = h

pub listing_is_no_fault : (k : Task) (end : Status) (pieces : List Text) → IsListing k end pieces → IsFault end → ⊥
listing_is_no_fault k end pieces l h = last_is_no_fault l.last (subst IsFault l.status h)

same_refusal : (s t : TimeStep) (a b : NoBound) → s ≡ t → a ≡ b → status.NoBound t.period t.step b ≡ status.NoBound s.period s.step a
same_refusal s t a b at is = sym (ap (λ (x : TimeStep). status.NoBound x.period x.step a) at ∙ ap (λ n. status.NoBound t.period t.step n) is)

module _ (laws : Laws) (k : Task) (valid : AreDecks k.decks) (plain : k.quick ≡ false) where
  ends_agree : (meant end : ListingEnd) (values others : List Step) → AllSteps k values meant → AllSteps k others end → Agree (status_of meant) (status_of end)
  ends_agree ends.Whole ends.Whole values others x y = inr (inl refl)
  ends_agree ends.Whole (ends.NoBound at n) values others x y = absurd (laws.bound k values others at n valid plain x y)
  ends_agree (ends.NoBound at n) ends.Whole values others x y = absurd (laws.bound k others values at n valid plain y x)
  ends_agree (ends.NoBound at n) (ends.NoBound t m) values others x y = let one = laws.refusal k values others at t n m valid plain x y in inr (inl (same_refusal at t n m one.0 one.1))
  ends_agree (ends.Unfinished at) end values others x y = inl tt
  ends_agree meant (ends.Unfinished at) values others x y = inr (inr tt)

  pub statuses_agree : (meant end : Status) (p q : List Text) → IsListing k meant p → IsListing k end q → Agree meant end
  statuses_agree meant end p q x y =
      let P : Status → Type 0 = λ s. Agree s end in
      let Q : Status → Type 0 = λ s. Agree (status_of x.last) s in
      subst P (sym x.status) (subst Q (sym y.status) (ends_agree x.last y.last x.values y.values x.steps y.steps))

-- where no step has a refusal, and the rounds leave none open, no other end comes
module _ (k : Task) (goes : GoesThrough k) where
  all_done : (last : ListingEnd) (values : List Step) → AllSteps k values last → status_of last ≡ status.Ok
  all_done ends.Whole values x = refl
  all_done (ends.NoBound at n) values x = absurd (goes.no_refusal values at n x)
  all_done (ends.Unfinished at) values x = absurd (goes.none_open values at x)

  pub goes_through : (end : Status) (q : List Text) → IsListing k end q → end ≡ status.Ok
  goes_through end q y = y.status ∙ all_done y.last y.values y.steps

-- The jobs of a batch.

job_no_fault : (read : Result Task Refusal) (end : Status) (pieces : List Text) → JobDefines read end pieces → IsFault end → ⊥
job_no_fault (Ok k) end pieces d h = listing_is_no_fault k end pieces d h
job_no_fault (Err refusal) end pieces d h = subst IsFault d.0 h

no_fault_of : (first later : Status) → (IsFault first → ⊥) → (IsFault later → ⊥) → IsFault (or_else first later) → ⊥
no_fault_of status.Ok later f g h = g h
no_fault_of other later f g h = f h

pub jobs_no_fault : (jobs : List Job) (es : List JobEnd) → AllZip IsJobEnd jobs es → IsFault (first_not_ok es) → ⊥
jobs_no_fault [] [] h f = f
jobs_no_fault [] (e ∷ es) h f = absurd h
jobs_no_fault (job ∷ jobs) [] h f = absurd h
jobs_no_fault (job ∷ jobs) (e ∷ es) (x, h) f = no_fault_of e.status (first_not_ok es) (job_no_fault job.read e.status x.pieces x.defined) (jobs_no_fault jobs es h) f

-- what holds of each job, and of its end
with_jobs : (P : Job → Type 0) (R : Job → JobEnd → Type 0) (jobs : List Job) (es : List JobEnd) → All P jobs → AllZip R jobs es → AllZip (λ job e. P job × R job e) jobs es
with_jobs P R [] [] each h = tt
with_jobs P R [] (e ∷ es) each h = absurd h
with_jobs P R (job ∷ jobs) [] each h = absurd h
with_jobs P R (job ∷ jobs) (e ∷ es) each (x, h) = ((All-head P job jobs each, x), with_jobs P R jobs es (All-tail P job jobs each) h)

-- the job is no listing with --quick
abbrev IsPlainJob : Job → Type 0
IsPlainJob job = IfOk job.read (λ k. k.quick ≡ false)

-- an end of a job whose model is valid and whose listing is not quick
abbrev IsPlainEnd : Job → JobEnd → Type 0
IsPlainEnd job e = IsPlainJob job × (IsValidJob job × IsJobEnd job e)

module _ (laws : Laws) where
  read_agree : (read : Result Task Refusal) (line : Text) (a c : JobEnd) → IfOk read (λ k. k.quick ≡ false) → IfOk read (λ k. AreDecks k.decks) →
      IsRunText read line a → IsRunText read line c → Agree a.status c.status
  read_agree (Ok k) line a c plain valid x y = statuses_agree laws k valid plain a.status c.status x.pieces y.pieces x.defined y.defined
  read_agree (Err refusal) line a c plain valid x y = inr (inl (y.defined.0 ∙ sym x.defined.0))

  job_agree : (job : Job) (a c : JobEnd) → IsPlainEnd job a → IsPlainEnd job c → Agree a.status c.status
  job_agree job a c x y = read_agree job.read (model_line job.name) a c x.0 x.1.0 x.1.1 y.1.1

  plain_ends : (jobs : List Job) (es : List JobEnd) → All IsPlainJob jobs → All IsValidJob jobs → AllZip IsJobEnd jobs es → AllZip IsPlainEnd jobs es
  plain_ends jobs es plain valid h = with_jobs IsPlainJob (λ job e. IsValidJob job × IsJobEnd job e) jobs es plain (with_jobs IsValidJob IsJobEnd jobs es valid h)

  pub jobs_agree : (jobs : List Job) (meant end : Status) (p q : List Text) → All IsPlainJob jobs → All IsValidJob jobs → IsBatch IsJobEnd jobs meant p → IsBatch IsJobEnd jobs end q → Agree meant end
  jobs_agree jobs meant end p q plain valid x y =
      let both : Agree (first_not_ok x.ends) (first_not_ok y.ends) =
      batches_agree IsPlainEnd job_agree jobs x.ends y.ends (plain_ends jobs x.ends plain valid x.each) (plain_ends jobs y.ends plain valid y.each) in
      let P : Status → Type 0 = λ s. Agree s (first_not_ok y.ends) in
      let Q : Status → Type 0 = λ s. Agree meant s in
      subst Q (sym y.ended.status_is) (subst P (sym x.ended.status_is) both)

abbrev Settles : Job → Type 0
Settles job = (task : Task) × (job.read ≡ Ok task) × GoesThrough task

job_settles : (job : Job) (e : JobEnd) → Settles job × IsJobEnd job e → e.status ≡ status.Ok
job_settles job e ((task, is, goes), x) =
    let P : Result Task Refusal → Type 0 = λ r. JobDefines r e.status x.pieces in
    goes_through task goes e.status x.pieces (subst P is x.defined)

pub jobs_end_ok : (jobs : List Job) (end : Status) (q : List Text) → All Settles jobs → IsBatch IsJobEnd jobs end q → end ≡ status.Ok
jobs_end_ok jobs end q each y = y.ended.status_is ∙ batch_settles (λ job e. Settles job × IsJobEnd job e) job_settles jobs y.ends (with_jobs Settles IsJobEnd jobs y.ends each y.each)
