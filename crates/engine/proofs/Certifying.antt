-- What a check that ended Ok says, and that a check has one end.
use Rattle.engine.proofs.Common.{[], ◌≡◌, ℕ, List, ◌∷◌, Ok, map, subst, sym, ap, refl, inl, inr, ◌∙◌, ◌+◌, ◌<◌, ◌++◌, length, take, get_or, Result, IfOk, FileSet, Put, Seen, PutsMake, whole_put}
use Rattle.engine.proofs.Common.{FlowModel, IsModel, place, ZonedListing, Text, Status, all_written, ListingVerdict, Fails, VerdictIsOne, IsVerdict, AskedCheck, Checking, listing_read, read_by_name}
use Rattle.engine.proofs.Common.{steps_read, zones_read, IsCheck, certified_line, verdict_line, verdict_status, Defines, OneVerdict, IsListed, IsStopped, AreTasks, AskedBatch, job_of, Limits, Decks}
use Rattle.engine.proofs.Common.{AreDecks, one_deck, listing, IsTask, reads, map-append, take_more, All-push, Refusal, Task, Job, job_task, ◌>>=◌, false}
use Rattle.check_run.specs.declared.verdict.ListingVerdict.TheVariants.{Certified as Holds, Refused as Unbounded}
use Rattle.engine.proofs.Readings.{named_read, zoned_parts}
use Rattle.run_puts.specs.declared.puts.Status.TheVariants as status
use Rattle.outside.specs.declared.inputs.InputFault.TheVariants as input
use Rattle.outside.specs.declared.inputs.TextFault.TheVariants as texts

-- a fault outside or lack of memory, which no words and files define
abbrev pub IsFault : Status → Type 0
IsFault status.ReadFault = Unit {0}
IsFault status.WriteFault = Unit {0}
IsFault status.Memory = Unit {0}
IsFault other = ⊥

pub stopped_by_fault : (end : Status) → IsStopped end → IsFault end
stopped_by_fault end (inl e) = subst IsFault (sym e) tt
stopped_by_fault end (inr (inl e)) = subst IsFault (sym e) tt
stopped_by_fault end (inr (inr e)) = subst IsFault (sym e) tt

pub not_stopped : IsStopped status.Ok → ⊥
not_stopped stops = stopped_by_fault status.Ok stops

-- a check whose status is Ok has certified the listing
pub is_certified : (v : ListingVerdict) → status.Ok ≡ verdict_status v → v ≡ Holds
is_certified Holds e = refl
is_certified (Fails at place) e = absurd (let bad : status.Ok ≡ status.NotCertified at.period at.step place = e in cc)
is_certified (Unbounded at n) e = absurd (let bad : status.Ok ≡ status.NoBound at.period at.step n = e in cc)

verdict_is_no_fault : (v : ListingVerdict) → IsFault (verdict_status v) → ⊥
verdict_is_no_fault Holds h = h
verdict_is_no_fault other h = h

pub check_is_no_fault : (limits : Limits) (m : Decks) (s : ℕ) (listing : ZonedListing) (end : Status) (pieces : List Text) → IsCheck limits m s listing end pieces → IsFault end → ⊥
check_is_no_fault limits m s listing end pieces c h = verdict_is_no_fault c.verdict (subst IsFault c.status h)

module _ (files : FileSet) (old new : Seen) (puts : List Put) (pieces : List Text) (asked : AskedCheck) (written : puts ≡ map whole_put pieces) (makes : PutsMake old puts new) where
  pub certified_and_one : (f : FlowModel) (listing : ZonedListing) → IsModel f → read_by_name asked.name (reads asked.limits files) ≡ Ok f →
      listing_read false files asked f ≡ Ok listing → Defines (Checking asked.limits (one_deck f) asked.digits listing) status.Ok pieces →
      OneVerdict asked files old.written new.written
  certified_and_one f listing model read listed d =
      let parts = zoned_parts (zones_read files asked.zones f) (steps_read false files asked f) listing listed in
      let is = named_read asked.name (reads asked.limits files) f read in
      let holds = is_certified d.verdict d.status in
      let L : ListingVerdict → Type 0 = λ v. pieces ≡ verdict_line f.grid v ∷ [] in
      let V : ListingVerdict → Type 0 = λ v. IsVerdict asked.limits (one_deck f) asked.digits listing.zones listing.steps v in
      let history = d.history holds in
      record {
        certified = record {
          model = f;
          read = is;
          valid = model;
          zones = listing.zones;
          zoned = parts.0;
          steps = listing.steps;
          listed = parts.1;
          written = all_written (certified_line ∷ []) old new puts (written ∙ ap (map whole_put) (subst L holds d.are)) makes;
          encloses = d.encloses holds;
          solvable = history.solvable;
          one = history.one;
        };
        verdict = subst V holds d.is;
      }

-- A check has one end.
module _ (limits : Limits) (m : Decks) (s : ℕ) (listing : ZonedListing) where
  pub one_end : VerdictIsOne → AreDecks m → IsListed m.first listing → (meant end : Status) (p q : List Text) → IsCheck limits m s listing meant p → IsCheck limits m s listing end q → end ≡ meant
  one_end law model listed meant end p q x y = y.status ∙ ap verdict_status (law limits m s listing.zones listing.steps y.verdict x.verdict model listed.steps y.is x.is) ∙ sym x.status

  -- where the verdict is that the listing is certified, its end is Ok
  pub certifies : VerdictIsOne → AreDecks m → IsListed m.first listing → IsVerdict limits m s listing.zones listing.steps Holds →
      (end : Status) (q : List Text) → IsCheck limits m s listing end q → end ≡ status.Ok
  certifies law model listed verdict end q y = y.status ∙ ap verdict_status (law limits m s listing.zones listing.steps y.verdict Holds model listed.steps y.is verdict)

-- The jobs of a batch, name by name, and what the reading of its list gives.
abbrev made_job : Text → Result Task Refusal → Job
made_job name read = record { name = name; read = read }

-- a job whose files were read as these: a model, or a refusal
pub job_read : (b : AskedBatch) (fs : FileSet) (name text copy : Text) (r : Result FlowModel Refusal) → text ≡ name → copy ≡ name → reads b.limits fs text ≡ r →
    made_job copy (r >>= λ m. Ok (job_task b m)) ≡ job_of b fs name
job_read b fs name text copy r same copied h = rw (copied, ← h, same) refl

-- one more job
pub jobs_read_more : (f : Text → Job) (names : List Text) (i : ℕ) (name : Text) (jobs : List Job) (job : Job) → i < length names → name ≡ get_or names i name →
    jobs ≡ map f (take i names) → job ≡ f name → jobs ++ (job ∷ []) ≡ map f (take (i + 1) names)
jobs_read_more f names i name jobs job h at was is =
    let more : take (i + 1) names ≡ take i names ++ (name ∷ []) = take_more names i name h ∙ ap (λ n. take i names ++ (n ∷ [])) (sym at) in
    rw (was, is, more) (sym (map-append f (take i names) (name ∷ [])))

pub tasks_more : (jobs : List Job) (job : Job) → AreTasks jobs → IfOk job.read IsTask → AreTasks (jobs ++ (job ∷ []))
tasks_more jobs job was is = All-push (λ (j : Job). IfOk j.read IsTask) jobs job was is
