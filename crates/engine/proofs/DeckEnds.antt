-- The ends of a command that reads decks, one or two, and then lists them, checks a listing of them, or writes the first one.
use Rattle.engine.proofs.Common.{subst, reads, [], ◌≡◌, ℕ, List, ◌∷◌, Ok, Err, Result, Option, None, Some, sym, ap, inl, inr, ◌∙◌, FileSet, Rose, InputCounts, Put, InputFault, Refusal, FlowModel}
use Rattle.engine.proofs.Common.{refused_line, IsRun, Status, Task, ListingOrder, AskedCheck, Case, Refuses, Checking, Writing, read_by_name, Due, ReadsFolder, CutOf, AreDecksAs, Answers}
use Rattle.engine.proofs.Common.{IsReadingEnd, IsValid, defined, Decks, Comparing, IsListingOf, Begins, all_due, cut, early, nothing, whole, Second, one_deck, Limits, of_both, of_first, of_second}
use Rattle.engine.proofs.Common.{AreAlike, IfSome, option_map, is_some, unread, case_decks, IsDecksRefusal, listing_read, second_in, two, zones_read, AskedPlan, Bor, PlanTask, Text, text_if}
use Rattle.engine.proofs.Common.{parts_read, planned_task, broken_off, case_named, case_read, case_listed, Defines, IsRunOf, IsFaultOf, refl}
use Rattle.engine.proofs.Ends.{fault_ends, of_case, read_reads}
use Rattle.outside.specs.declared.inputs.InputFault.TheVariants as input
use Rattle.run_puts.specs.declared.puts.Status.TheVariants as status

-- what decks come to: they are listed, what a plan does to them comes to a case, a listing of them is checked, or the first one is written
abbrev pub to_list : FileSet → ListingOrder → Decks → Case
to_list files asked d = case_read (zones_read files asked.zones d.first) (case_listed asked d)

abbrev pub to_check : FileSet → AskedCheck → Option Text → Decks → Case
to_check files asked to d = case_read (listing_read (is_some to) files asked d.first) (Checking asked.limits d asked.digits)

abbrev pub to_plan : FileSet → AskedPlan → (PlanTask → Case) → Decks → Case
to_plan files asked come d = case_read (parts_read files asked d) (λ p. come (planned_task asked d p))

abbrev pub to_write : Decks → Case
to_write d = Writing d.first

-- a second deck in the form of the code
pub is_second : (to : Option (Bor Text)) → is_some to ≡ is_some (text_if to)
is_second None = refl
is_second (Some last) = refl

-- the folder is read
decks_reads : (first : Result FlowModel Refusal) (second : Option (Result Second Refusal)) (come : Decks → Case) → ((d : Decks) → ReadsFolder (come d)) → ReadsFolder (case_decks first second come)
decks_reads (Ok a) None come reads = reads (one_deck a)
decks_reads (Ok a) (Some second) come reads = read_reads (λ b. Comparing a b (come (two a b.model))) (λ b. tt) second
decks_reads (Err refusal) second come reads = tt

-- The case of decks: where there is a second one they are compared.
abbrev pub within : FlowModel → Option Second → Case → Case
within a None case = case
within a (Some b) case = Comparing a b case

decks_within : (a : FlowModel) (last : Option Second) (second : Option FlowModel) (come : Decks → Case) → second ≡ option_map (λ b. b.model) last →
    case_decks (Ok a) (option_map (λ b. Ok b) last) come ≡ within a last (come (record { first = a; second = second }))
decks_within a None second come e = ap (λ (x : Option FlowModel). come (record { first = a; second = x })) (sym e)
decks_within a (Some b) second come e = ap (λ (x : Option FlowModel). Comparing a b (come (record { first = a; second = x }))) (sym e)

-- the case of decks that were read
pub case_within : (limits : Limits) (name : Text) (to : Option Text) (files : FileSet) (come : Decks → Case) (d : Decks) (p : AreDecksAs limits name to files (Ok d)) →
    within d.first p.last (come d) ≡ case_named files limits name to come
case_within limits name to files come d p = sym ((λ i. case_decks (p.is_first i) (p.is_second i) come) ∙ decks_within d.first p.last d.second come p.are)

pub within_defines : (a : FlowModel) (last : Option Second) (case : Case) (end : Status) (pieces : List Text) → IfSome last (λ b. AreAlike a b.model) →
    Defines case end pieces → Defines (within a last case) end pieces
within_defines a None case end pieces alike d = d
within_defines a (Some b) case end pieces alike d = inr (alike, d)

pub within_lists : (a : FlowModel) (last : Option Second) (k : Task) (case : Case) → IfSome last (λ b. AreAlike a b.model) → IsListingOf k case → IsListingOf k (within a last case)
within_lists a None k case alike h = h
within_lists a (Some b) k case alike h = (alike, h)

within_cut : (a : FlowModel) (last : Option Second) (case : Case) → IfSome last (λ b. AreAlike a b.model) → (pieces : List Text) → CutOf case pieces → CutOf (within a last case) pieces
within_cut a None case alike pieces c = c
within_cut a (Some b) case alike pieces c = (alike, c)

pub within_valid : (a : FlowModel) (last : Option Second) (case : Case) → IsValid case → IsValid (within a last case)
within_valid a None case h = h
within_valid a (Some b) case h = inr h

due_within : (failed beside : Type 0) (a : FlowModel) (last : Option Second) (case : Case) → IfSome last (λ b. AreAlike a b.model) →
    (end : Status) (pieces : List Text) → Due failed beside case end pieces → Due failed beside (within a last case) end pieces
due_within failed beside a None case alike end pieces d = d
due_within failed beside a (Some b) case alike end pieces (defined meant all d) = defined meant all (inr (alike, d))
due_within failed beside a (Some b) case alike end pieces (unread (f, worded)) = unread (f, tt)
due_within failed beside a (Some b) case alike end pieces (broken_off all f c) = broken_off all f (alike, c)

-- a run under weaker conditions on its pieces
begins_map : {P Q : Status → List Text → Type 0} {C D : List Text → Type 0} → ((end : Status) (pieces : List Text) → P end pieces → Q end pieces) →
    ((pieces : List Text) → C pieces → D pieces) → (before after : List Text) → Begins P C before after → Begins Q D before after
begins_map f g before after nothing = nothing
begins_map f g before after (all_due end some next rest d) = all_due end some next rest (f _ _ d)
begins_map f g before after (cut some rest c) = cut some rest (g _ c)

pub run_map : {P Q : Status → List Text → Type 0} {C D : List Text → Type 0} → ((end : Status) (pieces : List Text) → P end pieces → Q end pieces) →
    ((pieces : List Text) → C pieces → D pieces) → (end : Status) (puts : List Put) → IsRun P C end puts → IsRun Q D end puts
run_map f g end puts (whole meant pieces due) = whole meant pieces (f _ _ due)
run_map f g end puts (early meant before after tail b t) = early meant before after tail (begins_map f g before after b) t

pub run_within : (failed beside : Type 0) (a : FlowModel) (last : Option Second) (case : Case) → IfSome last (λ b. AreAlike a b.model) →
    (end : Status) (puts : List Put) → IsRunOf failed beside case end puts → IsRunOf failed beside (within a last case) end puts
run_within failed beside a last case alike = run_map (due_within failed beside a last case alike) (within_cut a last case alike)

pub within_ends : {n m : ℕ} {end : Status} {puts : List Put} (a : FlowModel) (last : Option Second) (case : Case) → IfSome last (λ b. AreAlike a b.model) →
    Answers case n m end puts → Answers (within a last case) n m end puts
within_ends {n} {m} {end} {puts} a last case alike x = record {
  run = run_within (Rose n m) ⊥ a last case alike end puts x.run;
  valid = elim (x.valid) [ inl stops ↦ inl stops | inr h ↦ inr (within_valid a last case h) ];
}

-- a fault of the case of decks
within_fault : (a : FlowModel) (last : Option Second) (case : Case) → IfSome last (λ b. AreAlike a b.model) → (fault : InputFault) → IsFaultOf case fault →
    IsFaultOf (within a last case) fault
within_fault a last case alike (input.Refused refusal) (d, valid) =
    (within_defines a last case (status.Refused refusal) (refused_line refusal ∷ []) alike d, within_valid a last case valid)
within_fault a None case alike input.ReadFault f = f
within_fault a (Some b) case alike input.ReadFault f = tt
within_fault a last case alike input.Memory f = tt

module _ (limits : Limits) (name : Text) (to : Option Text) (files : FileSet) (come : Decks → Case) where
  abbrev Here : Case
  Here = case_named files limits name to come

  refused_case : (refusal : Refusal) (other : Case) → Here ≡ other → IsFaultOf other (input.Refused refusal) → IsFaultOf Here (input.Refused refusal)
  refused_case refusal other is f = let P : Case → Type 0 = λ c. IsFaultOf c (input.Refused refusal) in subst P (sym is) f

  refused_by : (refusal : Refusal) → IsDecksRefusal (read_by_name name (reads limits files))
      (option_map (λ last. read_by_name last (second_in limits files)) to) refusal → IsFaultOf Here (input.Refused refusal)
  refused_by refusal (of_first h) =
      refused_case refusal (Refuses refusal) (ap (λ x. case_decks x (option_map (λ last. read_by_name last (second_in limits files)) to) come) h) ((refl, refl), tt)
  refused_by refusal (of_second a h k) = refused_case refusal (Refuses refusal) (λ i. case_decks (h i) (k i) come) ((refl, refl), tt)
  refused_by refusal (of_both a b d h k first never same) = refused_case refusal (Comparing a b (come (two a b.model))) (λ i. case_decks (h i) (k i) come) (
    inl (record { difference = d; first = first; unlike = never; status = ap status.Refused same; are = ap (λ (x : Refusal). refused_line x ∷ []) same }),
    inl never,
  )

  -- no decks were read
  pub fault_of_decks : ((d : Decks) → ReadsFolder (come d)) → (fault : InputFault) → AreDecksAs limits name to files (Err fault) → IsFaultOf Here fault
  fault_of_decks all (input.Refused refusal) p = refused_by refusal p
  fault_of_decks all input.ReadFault p = decks_reads (read_by_name name (reads limits files)) (option_map (λ last. read_by_name last (second_in limits files)) to) come all
  fault_of_decks all input.Memory p = tt

  -- decks were read, and what comes then has a fault
  pub decked_fault : (d : Decks) → AreDecksAs limits name to files (Ok d) → (fault : InputFault) → IsFaultOf (come d) fault → IsFaultOf Here fault
  decked_fault d p fault f =
      let P : Case → Type 0 = λ c. IsFaultOf c fault in
      subst P (case_within limits name to files come d p) (within_fault d.first p.last (come d) p.alike fault f)

  module _ {n m : ℕ} {end : Status} {puts : List Put} where
    pub ends_undecked : ((d : Decks) → ReadsFolder (come d)) → (fault : InputFault) → AreDecksAs limits name to files (Err fault) →
        InputCounts {T = Decks} n m (Err fault) → IsReadingEnd fault end puts → Answers Here n m end puts
    ends_undecked all fault p counts h = fault_ends Decks Here fault (fault_of_decks all fault p) counts h

    -- decks were read
    pub ends_decked : (d : Decks) → AreDecksAs limits name to files (Ok d) → Answers (come d) n m end puts → Answers Here n m end puts
    ends_decked d p a = of_case (within d.first p.last (come d)) (case_within limits name to files come d p) (within_ends d.first p.last (come d) p.alike a)
