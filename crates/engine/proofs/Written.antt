-- What a run wrote is certified.
use Rattle.engine.proofs.Common.{[], ◌≡◌, ℕ, Bool, List, ◌∷◌, map, Option, None, Some, Result, Ok, Err, refl, sym, ap, ◌∙◌, subst, arith, ℤ, unsigned_abs, concat, FileSet, Refusal, FlowModel, Wanted}
use Rattle.engine.proofs.Common.{order_of_words, pairs_in, AreNumbers, ListedStep, all_lines, listing_at, or_bad_listing, one_valid, Text, end_line, IsListing, listing, IsWhole, whole_listing}
use Rattle.engine.proofs.Common.{ZonedListing, Case, Checking, case_of, listing_read, steps_read, task_of, zones_read, IsCheck, certified_line, Defines, Limits, unit_is_short, IsReadable}
use Rattle.engine.proofs.Common.{RunIsCertified, RunIsReadAgain, as_listed, Step, ChecksWritten, WrittenIsCertified, Task, reads, AreDecks, is_some, listing_in, ◌>>=◌, case_read, option_map}
use Rattle.engine.proofs.Common.{ListingOrder, Decks, read_by_name, OneSpan, span_task_of, have_one, AreItsSteps, OneListing, run_encloses, zones_of, check_digits, numbers_small}
use Rattle.check_run.specs.declared.verdict.ListingVerdict.TheVariants.{Certified as Holds}
use Rattle.engine.proofs.{Readings.decks_read, Readings.named_read, DeckEnds.case_within, DeckEnds.to_check, DeckEnds.within_defines}
use Rattle.run_puts.specs.declared.puts.Status.TheVariants as status
use Rattle.listing_run.specs.declared.text.ListingEnd.TheVariants as ends

pub some_ok : (x y : Option (List ℕ)) → Path (Result (Option (List ℕ)) Refusal) (Ok x) (Ok y) → x ≡ y
some_ok x y h = cc

some_mapped : {A B : Type 0} (f : A → B) (x : Option A) → is_some (option_map f x) ≡ is_some x
some_mapped f None = refl
some_mapped f (Some x) = refl

-- The check of what a run wrote.
module _ (certified : RunIsCertified) (again : RunIsReadAgain) (k : Task) (pieces words : List Text) (files : FileSet) (decks : AreDecks k.decks) (numbers : AreNumbers k.zones)
    (whole : IsWhole k pieces) (h : ChecksWritten words files k (concat pieces)) where
  abbrev between : Bool
  between = is_some k.decks.second

  abbrev listing_of : ZonedListing
  listing_of = record { zones = k.zones; steps = map as_listed whole.values }

  readable : IsReadable k.decks k.digits k.zones
  readable = record {
    decks = decks;
    numbers = numbers;
    digits = let few = check_digits words h.asked h.to h.wanted in let same = h.digits in omega (arith, few, same);
    unit = unit_is_short h.asked.limits files h.asked.name k.decks.first (named_read h.asked.name (reads h.asked.limits files) k.decks.first h.read);
  }

  abbrev listing_of_bytes : List ℕ → Result (List ListedStep) Refusal
  listing_of_bytes = listing_in between k.decks.first h.asked.digits (pairs_in k.decks.first k.zones) h.asked.listing

  steps_of_bytes : listing_of_bytes (concat pieces) ≡ Ok (map as_listed whole.values)
  steps_of_bytes =
      let pairs = pairs_in k.decks.first k.zones in
      let steps = map as_listed whole.values in
      let P : List Text → Type 0 = λ t. listing_at between k.decks.first k.digits pairs (all_lines (concat t)) ≡ Ok steps in
      let D : ℕ → Type 0 = λ s. listing_at between k.decks.first s pairs (all_lines (concat pieces)) ≡ Ok steps in
      ap (or_bad_listing h.asked.listing) (subst D (sym h.digits) (subst P (sym whole.are) (again k.limits k.decks k.digits k.zones k.rounds k.quick whole.values readable whole.steps)))

  steps_are : steps_read between files h.asked k.decks.first k.zones ≡ Ok (map as_listed whole.values)
  steps_are = ap (λ (r : Result (List ℕ) Refusal). r >>= listing_of_bytes) h.listing ∙ steps_of_bytes

  read : listing_read between files h.asked k.decks.first ≡ Ok listing_of
  read = rw (h.zoned, steps_are) refl

  checked : IsCheck k.limits k.decks k.digits listing_of status.Ok (certified_line ∷ [])
  checked = record {
    verdict = Holds;
    is = certified k.limits k.decks k.digits k.zones k.rounds k.quick whole.values decks numbers whole.steps;
    encloses = λ e. run_encloses k.limits k.decks k.digits k.zones k.rounds k.quick whole.values whole.steps whole.encloses;
    history = λ e. have_one k whole.values decks whole.steps;
    status = refl;
    are = refl;
  }

  has_second : is_some h.to ≡ between
  has_second =
      let read_named : Text → Result FlowModel Refusal = λ last. read_by_name last (reads h.asked.limits files) in
      let was_read : FlowModel → Result FlowModel Refusal = λ m. Ok m in
      sym (some_mapped read_named h.to) ∙ ap (λ (o : Option (Result FlowModel Refusal)). is_some o) h.read_to ∙ some_mapped was_read k.decks.second

  pub check_defines : Defines (case_of (order_of_words words) files) status.Ok (certified_line ∷ [])
  check_defines =
      let p = decks_read h.asked.limits h.asked.name h.to files k.decks.first k.decks.second h.read h.read_to decks.second in
      let come : Decks → Case = to_check files h.asked h.to in
      let D : ℕ → Type 0 = λ s. IsCheck k.limits k.decks s listing_of status.Ok (certified_line ∷ []) in
      let L : Limits → Type 0 = λ l. IsCheck l k.decks h.asked.digits listing_of status.Ok (certified_line ∷ []) in
      let R : Result ZonedListing Refusal → Type 0 = λ r. Defines (case_read r (Checking h.asked.limits k.decks h.asked.digits)) status.Ok (certified_line ∷ []) in
      let B : Bool → Type 0 = λ b. R (listing_read b files h.asked k.decks.first) in
      let C : Case → Type 0 = λ c. Defines c status.Ok (certified_line ∷ []) in
      let W : Option Wanted → Type 0 = λ o. C (case_of o files) in
      let here : C (come k.decks) = subst B (sym has_second) (subst R (sym read) (subst L (sym h.limits) (subst D (sym h.digits) checked))) in
      subst W (sym h.wanted) (subst C (case_within h.asked.limits h.asked.name h.to files come k.decks p)
      (within_defines k.decks.first p.last (come k.decks) status.Ok (certified_line ∷ []) p.alike here))

pub written_is_certified : RunIsCertified → RunIsReadAgain → WrittenIsCertified
written_is_certified certified again k pieces words files decks numbers listed = check_defines certified again k pieces words files decks numbers (whole_listing k pieces listed)

-- zones that were read are at most 999
pub read_numbers : (files : FileSet) (o : Option Text) (m : FlowModel) (zones : Option (List ℕ)) → zones_read files o m ≡ Ok zones → AreNumbers zones
read_numbers files None m zones h = subst AreNumbers (some_ok None zones h) tt
read_numbers files (Some name) m zones h = by_zones (zones_of files m.grid name) refl h
  where
    by_zones : (r : Result (List ℤ) Refusal) → zones_of files m.grid name ≡ r → (r >>= λ zs. Ok (Some (map unsigned_abs zs))) ≡ Ok zones → AreNumbers zones
    by_zones (Ok zs) is e = subst AreNumbers (some_ok (Some (map unsigned_abs zs)) zones e) (numbers_small files m.grid name zs is)
    by_zones (Err refusal) is e = absurd (let bad : Path (Result (Option (List ℕ)) Refusal) (Err refusal) (Ok zones) = e in cc)

-- The bytes of a listing of all steps, which enclose their histories.
module _ (written : WrittenIsCertified) (asked : ListingOrder) (files : FileSet) (bytes : List ℕ) (checks : List Text) (others : FileSet) where
  whole_is_certified : (k : Task) (values : List Step) (a : FlowModel) → AreDecks k.decks → zones_read files asked.zones a ≡ Ok k.zones → AreItsSteps k values →
      bytes ≡ concat (listing k values end_line) →
      ChecksWritten checks others k bytes → Defines (case_of (order_of_words checks) others) status.Ok (certified_line ∷ [])
  whole_is_certified k values a decks zoned all is check =
      let C : List ℕ → Type 0 = λ bs. ChecksWritten checks others k bs in
      let one : IsListing k status.Ok (listing k values end_line) = record { last = ends.Whole; status = refl; values = values; steps = all.steps; encloses = λ e. all.encloses; are = refl } in
      written k (listing k values end_line) checks others decks (read_numbers files asked.zones a k.zones zoned) one (subst C is check)

  pub one_listing_is_certified : (h : OneListing asked files (Some []) (Some bytes)) → ChecksWritten checks others (task_of asked h.headline.model h.headline.zones) bytes →
      Defines (case_of (order_of_words checks) others) status.Ok (certified_line ∷ [])
  one_listing_is_certified h =
      let x = h.headline in
      whole_is_certified (task_of asked x.model x.zones) x.values x.model (one_valid x.model x.valid) x.zoned h.values x.written

  pub one_span_is_certified : (to : Text) (h : OneSpan asked to files (Some []) (Some bytes)) →
      ChecksWritten checks others (span_task_of asked h.headline.decks.first h.headline.decks.second h.headline.zones) bytes →
      Defines (case_of (order_of_words checks) others) status.Ok (certified_line ∷ [])
  one_span_is_certified to h =
      let x = h.headline in
      let both = x.decks in
      whole_is_certified (span_task_of asked both.first both.second x.zones) x.values both.first
      (record { first = both.valid; second = record { model = both.valid_to; alike = both.alike } }) x.zoned h.values x.written
