-- The ends of a run, by its words, its reading and its listing.
use Rattle.engine.proofs.Common.{[], ◌≡◌, ℕ, List, ◌∷◌, Ok, Err, Result, IfOk, subst, sym, ap, refl, inl, inr, FileSet, Rose, Put, IsReading, with_limit, Refusal, usage_line, FlowModel, IsModel}
use Rattle.engine.proofs.Common.{most_bytes, refused_line, read_fault_line, IsEnd, IsLast, EndsOutOfMemory, wanting, memory_put, status_after, Text, Status, tail_late, lone_line_is_run}
use Rattle.engine.proofs.Common.{lacks_at_first, run_of_less, Case, NoWords, made_model, Due, ReadsFolder, CutOf, IsMade, Answers, IsStopped, IsValid, defined, unread, read_by_name, made_task}
use Rattle.engine.proofs.Common.{summed_text, IsReadingEnd, made_fault, InputFault, ListingEnd, last_line, listing, status_of, made_files, made_name, Plain, IsSummarized, reads, Defines, InputCounts}
use Rattle.engine.proofs.Common.{IsRun, case_read, Making, PutsMore, IsFaultOf}
use Rattle.engine.proofs.Dues.{late_stops}
use Rattle.listing_summary.specs.declared.summary.Summary.{Summary}
use Rattle.outside.specs.declared.inputs.InputFault.TheVariants as input
use Rattle.run_puts.specs.declared.puts.Status.TheVariants as status

-- puts of which this holds are puts of which more holds
pub puts_more : {S : Type 0} {old new : S} {P Q : List Put → Type 0} (leads : S → List Put → S → Type 0) → PutsMore leads old new P → ((more : List Put) → P more → Q more) → PutsMore leads old new Q
puts_more leads put holds = λ start puts h. let m = put start puts h in (m.0, m.1, holds m.0 m.2)

pub wanting_stops : (end : Status) (puts : List Put) → EndsOutOfMemory end puts → IsStopped end
wanting_stops end puts (answer, s, t) = let P : Status → Type 0 = IsStopped in subst P (sym s)
    (late_stops (status_after answer) (tail_late [] (status_after answer) (memory_put answer ∷ []) (wanting [] answer)))

pub read_stops : (end : Status) (puts : List Put) → IsLast read_fault_line status.ReadFault end puts → IsStopped end
read_stops end puts (inl (e, t)) = inl e
read_stops end puts (inr t) = late_stops end (tail_late (read_fault_line ∷ []) end puts t)

module _ {case : Case} {n m : ℕ} {end : Status} {puts : List Put} where
  pub ends_without_words : EndsOutOfMemory end puts → Answers case n m end puts
  ends_without_words h = record { run = lacks_at_first (Due (Rose n m) ⊥ case) (CutOf case) end puts h; valid = inl (wanting_stops end puts h) }

  -- one line, which the case defines
  pub lone_defined : (line : Text) (meant : Status) → Defines case meant (line ∷ []) → IsValid case → IsEnd line meant end puts → Answers case n m end puts
  lone_defined line meant d valid h = record { run = lone_line_is_run (Due (Rose n m) ⊥ case) (CutOf case) line meant end puts (defined meant (line ∷ []) d) h; valid = inr valid }

  pub read_fault_line_answers : ReadsFolder case → Rose n m → IsLast read_fault_line status.ReadFault end puts → Answers case n m end puts
  read_fault_line_answers worded rose h =
      record {
        run = lone_line_is_run (Due (Rose n m) ⊥ case) (CutOf case) read_fault_line status.ReadFault end puts (unread (rose, worded)) (inl h);
        valid =
            inl (read_stops end puts h);
      }

  -- as the case defines
  pub ends_defined : IsRun (Defines case) (CutOf case) end puts → IsValid case → Answers case n m end puts
  ends_defined h valid = record { run = run_of_less (Defines case) (Due (Rose n m) ⊥ case) (CutOf case) (λ meant pieces d. defined meant pieces d) end puts h; valid = inr valid }

  -- a case that is this one
  pub of_case : (other : Case) → other ≡ case → Answers other n m end puts → Answers case n m end puts
  of_case other is a = let P : Case → Type 0 = λ c. Answers c n m end puts in subst P is a

pub read_reads : {T : Type 0} (come : T → Case) → ((x : T) → ReadsFolder (come x)) → (r : Result T Refusal) → ReadsFolder (case_read r come)
read_reads come reads (Ok x) = reads x
read_reads come reads (Err refusal) = tt

-- what could not be read has a fault of its case
pub fault_of_reading : {T V : Type 0} (r : Result T Refusal) (come : T → Case) (view : V → T) → ((x : T) → ReadsFolder (come x)) → (fault : InputFault) →
    IsReading view r (Err fault) → IsFaultOf (case_read r come) fault
fault_of_reading {T} r come view reads (input.Refused refusal) is =
    let P : Result T Refusal → Type 0 = λ y. IsFaultOf (case_read y come) (input.Refused refusal) in
    subst P (sym is) ((refl, refl), tt)
fault_of_reading r come view reads input.ReadFault is = read_reads come reads r
fault_of_reading r come view reads input.Memory is = tt

module _ {n m : ℕ} {end : Status} {puts : List Put} where
  -- a run ends by a fault of its case
  pub fault_ends : (T : Type 0) (case : Case) (fault : InputFault) → IsFaultOf case fault → InputCounts {T = T} n m (Err fault) → IsReadingEnd fault end puts →
      Answers case n m end puts
  fault_ends T case (input.Refused refusal) (d, valid) counts h = lone_defined (refused_line refusal) (status.Refused refusal) d valid h
  fault_ends T case input.ReadFault read counts h = read_fault_line_answers read counts h
  fault_ends T case input.Memory f counts h = ends_without_words h

  pub ends_usage : IsLast usage_line status.Usage end puts → Answers NoWords n m end puts
  ends_usage h = lone_defined usage_line status.Usage (refl, refl) tt (inl h)

  -- A reading that comes to a case.
  module _ {T : Type 0} (r : Result T Refusal) (come : T → Case) where
    pub ends_read : (x : T) → r ≡ Ok x → Answers (come x) n m end puts → Answers (case_read r come) n m end puts
    ends_read x is a = let P : Result T Refusal → Type 0 = λ y. Answers (case_read y come) n m end puts in subst P (sym is) a

    pub ends_unread : {V : Type 0} (view : V → T) → ((x : T) → ReadsFolder (come x)) → (fault : InputFault) → IsReading view r (Err fault) →
        InputCounts {T = V} n m (Err fault) → IsReadingEnd fault end puts → Answers (case_read r come) n m end puts
    ends_unread {V} view reads fault is counts h = fault_ends V (case_read r come) fault (fault_of_reading r come view reads fault is) counts h

-- The ends of the run of a made model, which reads no folder.
module _ (seed size : ℕ) where
  abbrev Made : Case
  Made = Making seed size (made_model seed size)

  alone : (read : Result FlowModel Refusal) → made_model seed size ≡ read → IfOk read IsModel → (line : Text) (meant end : Status) (puts : List Put) →
      IsMade seed size read meant (line ∷ []) → IsEnd line meant end puts → (n : ℕ) → Answers Made n n end puts
  alone read is valid line meant end puts due h n =
      let A : Result FlowModel Refusal → Type 0 = λ r. Answers (Making seed size r) n n end puts in
      subst A (sym is) (lone_defined line meant due valid h)

  -- what a folder of these files reads as
  pub made_reading : (files : FileSet) (answer : Result FlowModel InputFault) → files ≡ with_limit (most_bytes Plain) (made_files seed size) →
      IsReading (λ m. m) (read_by_name made_name (reads Plain files)) answer → IsReading (λ m. m) (made_model seed size) answer
  made_reading files answer is h = subst (λ (fs : FileSet). IsReading (λ m. m) (read_by_name made_name (reads Plain fs)) answer) is h

  -- a listing of the made model ended so, of which this is the summary
  pub made_ended : (m : FlowModel) (s : Summary) (last : ListingEnd) (end : Status) (puts : List Put) → made_model seed size ≡ Ok m → IsModel m →
      IsSummarized (made_task m) s last → IsEnd (summed_text seed size m.grid s last) (status_of last) end puts → (n : ℕ) → Answers Made n n end puts
  made_ended m s last end puts is valid h line =
      let one : IsMade seed size (Ok m) (status_of last) (summed_text seed size m.grid s last ∷ []) = record {
        all = listing (made_task m) h.values (last_line m.grid last);
        listed = record { last = last; status = refl; values = h.values; steps = h.steps; encloses = h.encloses; are = refl };
        are = ap (λ x. summed_text seed size m.grid x last ∷ []) h.is;
      } in
      alone (Ok m) is valid (summed_text seed size m.grid s last) (status_of last) end puts one line

  pub made_unread : (fault : InputFault) (end : Status) (puts : List Put) → IsReading {T = FlowModel} (λ m. m) (made_model seed size) (Err fault) →
      IsReadingEnd (made_fault fault) end puts → (n : ℕ) → Answers Made n n end puts
  made_unread (input.Refused refusal) end puts is h n = alone (Err refusal) is tt (refused_line refusal) (status.Refused refusal) end puts (refl, refl) h n
  made_unread input.ReadFault end puts is h n = ends_without_words h
  made_unread input.Memory end puts is h n = ends_without_words h
