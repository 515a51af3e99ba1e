-- The public clauses of a run, from all that it comes to.
use Rattle.engine.proofs.Common.{[], Wanted, HasNoList, AskedBatch, Batch, Case, IsStopped, HasEnded, IsJobListing, Jobs, case_of, job_of, job_task, names_read, CutOf, Defines, IsJobEnd, IsRunText}
use Rattle.engine.proofs.Common.{ReadsFolder, model_line, IsValid, IsValidJob, Rose, Put, PutsMake, Seen, FileSet, whole_put, Text, end_line, Status, List, None, Option, Some, inl, inr, subst, sym}
use Rattle.engine.proofs.Common.{◌∙◌, ◌≡◌, ◌⊎◌, Err, IfOk, Ok, Result, ap, map, refl, ◌++◌, ◌∷◌, texts, JobEnd, AreDecks, history_exists, history_is_one, IsWhole, whole_listing, IsListing, listing}
use Rattle.engine.proofs.Common.{reads, FlowModel, Refusal, all_written, All-head, All-tail, AllZip, concat, All, ◌>>=◌, Batched, case_read, IsRunResult, OneOf, FolderUse, Serves, SinkUse}
use Rattle.engine.proofs.Common.{failed_write, sink_use, PutsMore}
use Rattle.outside.specs.declared.traits.Sink.{Ghosts as SinkOf}
use Rattle.engine.proofs.{Outcomes.complete, Outcomes.decided, Outcomes.put_rose, Outcomes.read_rose, Certifying.not_stopped, OkRuns.Laws, OkRuns.headline_of, OkRuns.one_of, OkRuns.valid_of}
use Rattle.engine.proofs.{Dues.Delivers, Dues.delivers, Labels.job_pairs, Labels.listing_times}
use Rattle.run_puts.specs.declared.puts.Status.TheVariants as status

-- The headline of a batch whose jobs ran.
module _ (laws : Laws) (b : AskedBatch) (files : FileSet) where
  -- the text of a job that ended Ok
  job_listing : (name : Text) (e : JobEnd) (r : Result FlowModel Refusal) → reads b.limits files name ≡ r →
      IfOk (r >>= λ m. Ok (job_task b m)) (λ k. AreDecks k.decks) → IsRunText (r >>= λ m. Ok (job_task b m)) (model_line name) e → e.status ≡ status.Ok →
      IsJobListing b files name e.text.items
  job_listing name e (Err refusal) is valid h ok = absurd (let bad : status.Refused refusal ≡ status.Ok = sym h.defined.0 ∙ ok in cc)
  job_listing name e (Ok m) is valid h ok = of_whole (whole_listing (job_task b m) h.pieces (let P : Status → Type 0 = λ s. IsListing (job_task b m) s h.pieces in subst P ok h.defined))
    where
      of_whole : IsWhole (job_task b m) h.pieces → IsJobListing b files name e.text.items
      of_whole w = record {
        model = m;
        read = is;
        valid = valid.first;
        values = w.values;
        steps = w.steps;
        only = λ plain others steps. laws.one (job_task b m) w.values others valid plain w.steps steps;
        is = h.text ∙ ap (λ (p : List Text). model_line name ++ concat p) w.are;
        at = listing_times (job_task b m) w.values w.steps;
        pairs = job_pairs b m w.values valid.first w.steps;
        encloses = w.encloses;
        solvable = history_exists b.limits m b.digits None b.rounds b.quick w.values valid.first w.steps;
        one = history_is_one b.limits m b.digits None b.rounds b.quick w.values valid.first w.steps;
      }

  all_ended : (names : List Text) (ends : List JobEnd) → All IsValidJob (map (job_of b files) names) → AllZip IsJobEnd (map (job_of b files) names) ends → AllZip (HasEnded b files) names ends
  all_ended [] [] valid h = tt
  all_ended [] (e ∷ ends) valid h = absurd h
  all_ended (name ∷ names) [] valid h = absurd h
  all_ended (name ∷ names) (e ∷ ends) valid (x, h) = (
    record {
      end = x;
      listing = job_listing name e (reads b.limits files name) refl
          (All-head IsValidJob (job_of b files name) (map (job_of b files) names) valid) x;
    },
    all_ended names ends (All-tail IsValidJob (job_of b files name) (map (job_of b files) names) valid) h,
  )

  module _ (end : Status) (old new : Seen) (puts : List Put) (makes : PutsMake old puts new) where
    of_names : (names : List Text) → names_read files b ≡ Ok names → All IsValidJob (map (job_of b files) names) →
        Delivers (Defines (Jobs (map (job_of b files) names))) end puts → Batched b files end old.written new.written
    of_names names read valid d = record {
      names = names;
      read = read;
      ends = d.defines.ends;
      each = all_ended names d.defines.ends valid d.defines.each;
      status_is = d.defines.ended.status_is;
      written = all_written (texts d.defines.ends ++ (end_line ∷ [])) old new puts (d.written ∙ ap (map whole_put) d.defines.ended.are) makes;
    }

    abbrev Of : Result (List Text) Refusal → Case
    Of r = case_read (r >>= λ names. Ok (map (job_of b files) names)) Jobs

    of_list : (r : Result (List Text) Refusal) → names_read files b ≡ r → IsValid (Of r) → Delivers (Defines (Of r)) end puts → HasNoList b files end ⊎ Batched b files end old.written new.written
    of_list (Ok names) read valid d = inr (of_names names read valid d)
    of_list (Err refusal) read valid d = inl (refusal, read, d.defines.0)

    pub batched : (order : Option Wanted) → order ≡ Some (Batch b) → IsValid (case_of order files) → Delivers (Defines (case_of order files)) end puts →
        HasNoList b files end ⊎ Batched b files end old.written new.written
    batched order wanted valid d =
        let P : Option Wanted → Type 0 = λ o. IsValid (case_of o files) × Delivers (Defines (case_of o files)) end puts in
        let x = subst P wanted (valid, d) in
        of_list (names_read files b) refl x.0 x.1

-- The result of a run of an order.
module _ (order : Option Wanted) (folder : FolderUse) (beside out : SinkUse) (end : Status) (puts : List Put) (makes : PutsMake out.old puts out.new)
    (laws : Laws) (on : out.leads puts) (some : (files : FileSet) × folder.agrees files) (all : Serves order folder beside end puts) where
  was_valid : (IsStopped end → ⊥) → (files : FileSet) → folder.agrees files → IsValid (case_of order files)
  was_valid goes files agree = valid_of (case_of order files) end goes (all files agree).valid

  was_delivered : (IsStopped end → ⊥) → (files : FileSet) → folder.agrees files → Delivers (Defines (case_of order files)) end puts
  was_delivered goes files agree =
      delivers (Rose folder.before folder.after × ReadsFolder (case_of order files)) (failed_write beside) (Defines (case_of order files)) (CutOf (case_of order files))
      end puts (all files agree).run goes

  batch : (IsStopped end → ⊥) → (b : AskedBatch) → order ≡ Some (Batch b) → (files : FileSet) → folder.agrees files →
      HasNoList b files end ⊎ Batched b files end out.old.written out.new.written
  batch goes b wanted files agree = batched laws b files end out.old out.new puts makes order wanted (was_valid goes files agree) (was_delivered goes files agree)

  one : end ≡ status.Ok → (files : FileSet) → folder.agrees files → OneOf order files end out.old.written out.new.written
  one ok files agree =
      one_of laws order files end puts out.old out.new makes ok (was_valid goes files agree) (was_delivered goes files agree) (λ b wanted. whole b (batch goes b wanted files agree))
    where
      goes : IsStopped end → ⊥
      goes stops = not_stopped (subst IsStopped ok stops)

      whole : (b : AskedBatch) → HasNoList b files end ⊎ Batched b files end out.old.written out.new.written → Batched b files end out.old.written out.new.written
      whole b (inl (refusal, read, is)) = absurd (let bad : status.Refused refusal ≡ status.Ok = sym is ∙ ok in cc)
      whole b (inr h) = h

  result_of : IsRunResult order folder beside out end
  result_of = record {
    puts = λ files agree. record { puts = puts; leads_on = on; run = (all files agree).run };
    side = λ files agree. (all files agree).side;
    watched = λ ok j views files agree. (all files agree).watched ok j views;
    told = some;
    headline = λ ok files agree. headline_of order files end out.old.written out.new.written (one ok files agree);
    one = one;
    batch = batch;
    read_fault = read_rose (Rose folder.before folder.after) (failed_write beside) order some.0 end puts out.old out.new makes (all some.0 some.1).run;
    write_fault = put_rose (Rose folder.before folder.after) (failed_write beside) order some.0 end puts out.old out.new makes (all some.0 some.1).run;
    decided = λ files agree. decided (Rose folder.before folder.after) (failed_write beside) order files end puts out.old out.new makes (all files agree).run
        laws (all files agree).valid;
    complete = λ files agree. complete (Rose folder.before folder.after) (failed_write beside) order files end puts out.old out.new makes (all files agree).run
        laws (all files agree).valid;
  }

-- by what it puts to its output
pub run_result : {S : Type 0} (K : SinkOf S) (old new : S) (order : Option Wanted) (folder : FolderUse) (beside : SinkUse) (end : Status) →
    ((s : S) → K.leads s [] s) → ((s : S) (puts : List Put) (t : S) → K.leads s puts t → PutsMake (K.seen s) puts (K.seen t)) → Laws →
    ((files : FileSet) × folder.agrees files) → PutsMore K.leads old new (Serves order folder beside end) → IsRunResult order folder beside (sink_use K old new) end
run_result K old new order folder beside end rests tells laws some serves =
    let r = serves old [] (rests old) in
    result_of order folder beside (sink_use K old new) end r.0 (tells old r.0 new r.1) laws r.1 some r.2
