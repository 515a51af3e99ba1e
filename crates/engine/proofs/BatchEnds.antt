-- The ends of a batch, by its reading and its jobs.
use Rattle.engine.proofs.Common.{[], Job, Text, ends_of_jobs, JobEnd, Wanted, AreDecks, AreTasks, Batch, IsJobEnd, IsRunText, defined, model_line, IsValidJob, CheckPlan, CheckText, Plan, Words, Run}
use Rattle.engine.proofs.Common.{Check, Write, Make, MayRead, files_of, files_if, refused_line, IsTask, Task, folder_name, WordsMay, Refusal, Err, IfOk, List, None, Ok, Result, Some, ap, refl, subst}
use Rattle.engine.proofs.Common.{sym, ℕ, ◌++◌, ◌∙◌, ◌∷◌, ◌≡◌, Option, append-nil, All-weaker, All-head, All-tail, AllZip, All, slice_get, option_to_list, Order, but_batch, wanted_by, IfOk-at_ok}
use Rattle.engine.proofs.Common.{IfOk-weaker, WordsFault, IsOrder, CheckConvertible}
use Rattle.std.specs.Prelude.{IfSome, length}
use Rattle.command_line.specs.declared.order.BatchOrder.{BatchOrder}
use Rattle.batch_book.specs.{AreJobEnds}
use Rattle.command_line.specs.declared.order.Order.TheVariants as order
use Rattle.command_line.specs.declared.order.WordsFault.TheVariants as fault
use Rattle.outside.specs.declared.inputs.InputFault.TheVariants as input
use Rattle.run_puts.specs.declared.puts.Status.TheVariants as status

-- the line of a refusal, after the bytes before it
pub refusal_text : (refusal : Refusal) (before : Text) (e : JobEnd) → e.status ≡ status.Refused refusal → e.text.items ≡ before ++ refused_line refusal → IsRunText (Err refusal) before e
refusal_text refusal before e is text = record {
  pieces = refused_line refusal ∷ [];
  defined = (is, refl);
  text = text ∙ ap (λ (l : Text). before ++ l) (sym (append-nil (refused_line refusal)));
}

-- an end of the run of what was read, after the line of the name
pub end_of_read : {E : Type 0} (job : Job) (text : Text) (read : Result Task Refusal) (r : Result JobEnd E) → job.read ≡ read → text ≡ model_line job.name →
    IfOk r (IsRunText read text) → IfOk r (IsJobEnd job)
end_of_read job text read (Ok e) is named end =
    let P : Result Task Refusal → Text → Type 0 = λ c t. IsRunText c t e in
    let Q : Text → Type 0 = λ t. P job.read t in
    let R : Result Task Refusal → Type 0 = λ c. P c text in
    subst Q named (subst R (sym is) end)
end_of_read job text read (Err error) is named end = tt

-- ends that workers found, each of its job, are one end for each job
pub jobs_ended : (jobs seen : List Job) (ends : List JobEnd) → seen ≡ jobs → AreJobEnds (λ i e. IfSome (slice_get seen i) (λ job. IsJobEnd job e)) (length seen) ends → AllZip IsJobEnd jobs ends
jobs_ended jobs seen ends is h = let P : List Job → Type 0 = λ js. AllZip IsJobEnd js ends in subst P is (ends_of_jobs IsJobEnd seen ends h.whole h.each)

-- the models of tasks are valid
pub valid_jobs : (jobs : List Job) → AreTasks jobs → All IsValidJob jobs
valid_jobs jobs h = All-weaker (λ (job : Job). IfOk job.read IsTask) IsValidJob (λ job t. by_read job.read t) jobs h
  where
    by_read : (r : Result Task Refusal) → IfOk r IsTask → IfOk r (λ k. AreDecks k.decks)
    by_read (Ok k) t = t.decks
    by_read (Err refusal) t = tt

-- The files of a command are those that its words name.
module _ (may : List ℕ → Type 0) where
  abbrev pub May : Text → Type 0
  May name = may (folder_name name)

  -- the files of a command
  abbrev pub MayDo : Wanted → Type 0
  MayDo (Run a to) = MayRead may a.name to a.zones
  MayDo (Plan a to) = MayRead may a.name to a.zones × May a.wells
  MayDo (CheckPlan a wells to) = MayRead may a.name to a.zones × May wells × May a.listing
  MayDo (CheckConvertible a) = MayRead may a.name None a.zones × May a.listing
  MayDo (Make seed size) = Unit {0}
  MayDo (Check a to) = MayRead may a.name to a.zones × May a.listing
  MayDo (Batch b) = May b.list
  MayDo (Write limits name) = May name
  MayDo (CheckText asked) = May asked.text
  MayDo Words = Unit {0}

  next_may : (x : Option Text) (rest : List Text) → All May (option_to_list x ++ rest) → IfSome x May × All May rest
  next_may None rest h = (tt, h)
  next_may (Some name) rest h = (All-head May name rest h, All-tail May name rest h)

  -- the name file, a second one and a zone file, and what comes after them
  three_may : (name : Text) (to zones : Option Text) (rest : List Text) → All May (name ∷ (option_to_list to ++ (option_to_list zones ++ rest))) → MayRead may name to zones × All May rest
  three_may name to zones rest h =
      let second = next_may to (option_to_list zones ++ rest) (All-tail May name (option_to_list to ++ (option_to_list zones ++ rest)) h) in
      let third = next_may zones rest second.1 in
      ((All-head May name (option_to_list to ++ (option_to_list zones ++ rest)) h, second.0, third.0), third.1)

  files_may : (w : Wanted) → WordsMay may (files_of w) → MayDo w
  files_may (Run a to) h = (three_may a.name to a.zones [] (subst (λ (files : List Text). All May (a.name ∷ (option_to_list to ++ files))) (sym (append-nil (option_to_list a.zones))) h)).0
  files_may (Check a to) h = let p = three_may a.name to a.zones (a.listing ∷ []) h in (p.0, All-head May a.listing [] p.1)
  files_may (Plan a to) h = let p = three_may a.name to a.zones (a.wells ∷ []) h in (p.0, All-head May a.wells [] p.1)
  files_may (CheckPlan a wells to) h =
      let p = three_may a.name to a.zones (wells ∷ (a.listing ∷ [])) h in
      (p.0, All-head May wells (a.listing ∷ []) p.1, All-head May a.listing [] (All-tail May wells (a.listing ∷ []) p.1))
  files_may (CheckConvertible a) h = let p = three_may a.name None a.zones (a.listing ∷ []) h in (p.0, All-head May a.listing [] p.1)
  files_may (Make seed size) h = tt
  files_may (Batch b) h = All-head May b.list [] h
  files_may (Write limits name) h = All-head May name [] h
  files_may (CheckText asked) h = All-head May asked.text [] h
  files_may Words h = tt

  -- the files of the order that was read
  pub order_may : (words : Option Wanted) (read : Result Order WordsFault) → WordsMay may (files_if words) → IfOk read (λ o. words ≡ Some (wanted_by o)) →
      IfOk read (λ o. WordsMay may (files_of (wanted_by o)))
  order_may words read h is = IfOk-weaker read (λ o. words ≡ Some (wanted_by o)) _ (λ o e. subst (λ (w : Option Wanted). WordsMay may (files_if w)) e h) is

  pub may_do : (read : Result Order WordsFault) (o p : Order) → IfOk read (λ o. WordsMay may (files_of (wanted_by o))) → read ≡ Ok o → o ≡ p → MayDo (wanted_by p)
  may_do read o p h is same = files_may (wanted_by p) (subst (λ (x : Order). WordsMay may (files_of (wanted_by x))) same (IfOk-at_ok (λ o. WordsMay may (files_of (wanted_by o))) is h))

-- what was read of the words has their order, but a batch
pub is_order : (words : Option Wanted) (read : Result Order WordsFault) → IfOk read (λ o. words ≡ Some (wanted_by o)) → (read ≡ Err fault.Usage → words ≡ None) → IsOrder read (but_batch words)
is_order words read is none = (IfOk-weaker read (λ o. words ≡ Some (wanted_by o)) _ (λ o e. ap but_batch e) is, λ e. ap but_batch (none e))

pub order_read : (one : Option Wanted) (read : Result Order WordsFault) (o p : Order) → IfOk read (λ o. one ≡ but_batch (Some (wanted_by o))) → read ≡ Ok o →
    o ≡ p → one ≡ but_batch (Some (wanted_by p))
order_read one read o p h is same = IfOk-at_ok (λ o. one ≡ but_batch (Some (wanted_by o))) is h ∙ ap (λ (x : Order). but_batch (Some (wanted_by x))) same

-- an order that is for no batch
pub not_a_batch : (o : Order) → ((b : BatchOrder) → o ≡ order.Batch b → ⊥) → but_batch (Some (wanted_by o)) ≡ Some (wanted_by o)
not_a_batch (order.Batch b) other = absurd (other b refl)
not_a_batch o other = refl

-- a file that might be asked for may still be
pub file_still : (may more : List ℕ → Type 0) (file : Option Text) → ((name : List ℕ) → may name → more name) → IfSome file (λ name. may (folder_name name)) →
    IfSome file (λ name. more (folder_name name))
file_still may more None still h = tt
file_still may more (Some name) still h = still _ h
