-- The result of a run beside which a side sink is led.
use Rattle.engine.proofs.Common.{[], ◌≡◌, ℕ, true, List, Option, Some, None, sym, subst, inl, inr, FileSet, Put, InputFault, Wanted, Text, ◌∙◌, read_fault_line, Status, Task, wanting_not_ok, Case}
use Rattle.engine.proofs.Common.{Answers, AnswersBeside, IsReadingEnd, SidePuts, views_in, IsListingOf, CutOf, case_of, Due, IsRunOf, IsValid, broken_off, defined, unread, run_of_less, line_not_ok}
use Rattle.engine.proofs.Common.{FolderUse, SinkUse, ViewsPut, failed_write, Rose}
use Rattle.engine.specs.Watched.{Watched}
use Rattle.outside.specs.declared.inputs.InputFault.TheVariants as input
use Rattle.run_puts.specs.declared.puts.Status.TheVariants as status

-- nothing was put to the side
quiet : (leads : List Put → Type 0) (case : Case) (views : Option ℕ) → leads [] → SidePuts leads case views
quiet leads case None h = h
quiet leads case (Some n) h = inl h

-- the views of a listing: of its first steps, and where it ended Ok of all
first_views : (beside : SinkUse) (end : Status) (k : Task) (case : Case) (views : Option ℕ) → IsListingOf k case → ViewsPut k views beside end →
    SidePuts beside.leads case views
first_views beside end k case None has h = h
first_views beside end k case (Some n) has (inl h, w) = inl h
first_views beside end k case (Some n) has (inr v, w) = inr (record { task = k; is = has; watched = v })

all_views : (beside : SinkUse) (end : Status) (k : Task) (case : Case) (views : Option ℕ) → IsListingOf k case → ViewsPut k views beside end → end ≡ status.Ok →
    (j : ℕ) → views ≡ Some j → Watched true case j beside.leads
all_views beside end k case None has h e j is = absurd (let bad : Path (Option ℕ) None (Some j) = is in cc)
all_views beside end k case (Some n) has h e j is =
    let both : Path (Option ℕ) (Some n) (Some j) = is in
    let same : n ≡ j = cc in
    let P : ℕ → Type 0 = λ i. Watched true case i beside.leads in
    subst P same (record { task = k; is = has; watched = h.1 e })

pub reading_not_ok : (fault : InputFault) (end : Status) (puts : List Put) → IsReadingEnd fault end puts → end ≡ status.Ok → ⊥
reading_not_ok (input.Refused refusal) end puts h = line_not_ok _ (status.Refused refusal) end puts (λ x. let bad : status.Refused refusal ≡ status.Ok = x in cc) h
reading_not_ok input.ReadFault end puts h = line_not_ok read_fault_line status.ReadFault end puts (λ x. let bad : status.ReadFault ≡ status.Ok = x in cc) (inl h)
reading_not_ok input.Memory end puts h = wanting_not_ok end puts h

-- nothing failed beside
run_alone : (read_failed beside : Type 0) (c : Case) (end : Status) (puts : List Put) → IsRunOf read_failed ⊥ c end puts → IsRunOf read_failed beside c end puts
run_alone read_failed beside c = run_of_less (Due read_failed ⊥ c) (Due read_failed beside c) (CutOf c) due_alone
  where
    due_alone : (end : Status) (pieces : List Text) → Due read_failed ⊥ c end pieces → Due read_failed beside c end pieces
    due_alone end pieces (defined meant all d) = defined meant all d
    due_alone end pieces (unread f) = unread f
    due_alone end pieces (broken_off all f d) = absurd f

module _ {folder : FolderUse} {beside : SinkUse} {end : Status} {puts : List Put} where
  -- an order that is this one
  pub of_order : (files : FileSet) (order asked : Option Wanted) → order ≡ asked → AnswersBeside (case_of asked files) (views_in asked) folder beside end puts →
      AnswersBeside (case_of order files) (views_in order) folder beside end puts
  of_order files order asked is a =
      let P : Option Wanted → Type 0 = λ o. AnswersBeside (case_of o files) (views_in o) folder beside end puts in
      subst P (sym is) a

  -- no view is put, since none is asked for or the run didn't end Ok
  unseen : (case : Case) (views : Option ℕ) → beside.leads [] → Answers case folder.before folder.after end puts →
      (end ≡ status.Ok → (j : ℕ) → views ≡ Some j → ⊥) → AnswersBeside case views folder beside end puts
  unseen case views silent a never = record {
    run = run_alone (Rose folder.before folder.after) (failed_write beside) case end puts a.run;
    valid = a.valid;
    watched = λ e j v. absurd (never e j v);
    side = quiet beside.leads case views silent;
  }

  pub without_views : (files : FileSet) (order asked : Option Wanted) → beside.leads [] → order ≡ asked → views_in asked ≡ None →
      Answers (case_of asked files) folder.before folder.after end puts → AnswersBeside (case_of order files) (views_in order) folder beside end puts
  without_views files order asked silent is none a =
      of_order files order asked is (unseen (case_of asked files) (views_in asked) silent a (λ e j v.
      let bad : Path (Option ℕ) None (Some j) = sym none ∙ v in cc))

  pub not_ok : (case : Case) (views : Option ℕ) → beside.leads [] → Answers case folder.before folder.after end puts → (end ≡ status.Ok → ⊥) →
      AnswersBeside case views folder beside end puts
  not_ok case views silent a bad = unseen case views silent a (λ e j v. bad e)

  -- a run of a case that lists a task, beside which views were put
  pub of_listing : (k : Task) (c : Case) → IsListingOf k c → IsValid c → (watch : Option ℕ) → IsRunOf (Rose folder.before folder.after) (failed_write beside) c end puts →
      ViewsPut k watch beside end → AnswersBeside c watch folder beside end puts
  of_listing k c has valid watch run views = record {
    run = run;
    valid = inr valid;
    watched = all_views beside end k c watch has views;
    side = first_views beside end k c watch has views;
  }
