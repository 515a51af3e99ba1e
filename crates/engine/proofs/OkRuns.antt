-- What a run that ended Ok has put, by what its words ask for and its files are read as.
use Rattle.engine.proofs.Common.{[], ◌≡◌, ℕ, List, ◌∷◌, Option, Some, None, Result, Ok, Err, map, subst, ◌∙◌, ap, refl, inl, inr, ◌⊎◌, append-nil, FileSet, Put, Seen, PutsMake, whole_put, Refusal}
use Rattle.engine.proofs.Common.{FlowModel, IsModel, made_files, made_name, Text, end_line, whole, Status, all_written, one_deck, AreDecks, one_valid, ListingEnd, AllSteps, listing, IsWhole, is_whole}
use Rattle.engine.proofs.Common.{whole_listing, history_exists, history_is_one, VerdictIsOne, ListingOrder, Case, Run, Make, Check, Write, Listing, Making, Checking, case_of, listing_read, made_model}
use Rattle.engine.proofs.Common.{read_by_name, task_of, zones_read, OneDeck, Defines, made_task, summed_text, OneSummary, IfOk, IsStopped, IsValid, Plain, Limits, ListingIsOne, ListingExcludesRefusal}
use Rattle.engine.proofs.Common.{RefusalIsOne, Comparing, two, true, Second, most_bytes, with_limit, case_decks, span_task_of, deck_text, deck_reads, summary_of, summary_text, HeadlineOf, OneOf}
use Rattle.engine.proofs.Common.{Wanted, AskedBatch, Batch, second_in, reads, Decks, Batched, case_read, OneListing, false, DifferenceIsOne, Appends, Bool, CheckText, IsSaid, OneDeckListing}
use Rattle.engine.proofs.Common.{OneDeckSpan, OneSpan, RunHeadline, RunSpanHeadline, Task, Words, after_text, case_listed, concat, decks_text, words_text, zoned_text, ◌++◌, AreText, AskedText}
use Rattle.engine.proofs.Common.{ListingVerdict, OneTextVerdict, IsVerdict, case_parts, case_rest, certified_line, file_at, is_some, option_map, pairs_in, sym, verdict_line, unwrap_or, StandsIn}
use Rattle.engine.proofs.Common.{parts_text, steps_after, unlike, Part, ByDeck, AreReadAs, AskedCheck, AskedPlan, OnePlan, Plan, PlanListingIsOne, PlanListingsEnclose, PlanParts, Planning, parts_read}
use Rattle.engine.proofs.Common.{planned_task, PlanChecking, PlanVerdict, as_plan, plan_steps_read, to_plan_check, CheckPlan, PlanVerdictIsOne, CheckConvertible, convertible_reads}
use Rattle.engine.proofs.Common.{ConvertibleChecking, convertible_listing_read, to_convertible_check}
use Rattle.gentle_run.specs.{VerdictIsOne as GentleVerdictIsOne}
use Rattle.engine.proofs.{ConvertibleChecks.convertible_checked, Certifying.certified_and_one, Certifying.is_certified, Dues.Delivers, Labels.listing_pairs, Labels.listing_times, Readings.named_read}
use Rattle.engine.proofs.{Spans.span_checked, Spans.span_listed, PlanChecks.plan_checked, Plans.one_read_as, Plans.plan_listed, Plans.two_read_as, DeckEnds.to_check, DeckEnds.to_list}
use Rattle.engine.proofs.{DeckEnds.to_plan, DeckEnds.to_write, Afters.valid_after, Texts.lines_are_text, Texts.ended_after, Texts.said, Texts.steps_stated, Stating.first_part, Stating.grown}
use Rattle.engine.proofs.{Stating.last_part, Stating.span_stated, Stating.stated}
use Rattle.listing_io.specs.{text_of}
use Rattle.stated_text.proofs.Stands.{parts_stand_in_text}
unfoldable use Rattle.stated_text.specs.{parts_in}
unfoldable use Rattle.listing_io.specs.{listing as rows_of}
use Rattle.run_puts.specs.declared.puts.Status.TheVariants as status
use Rattle.listing_run.specs.declared.text.ListingEnd.TheVariants as ends

-- what was read is valid, where the run did not stop
pub valid_of : (case : Case) (end : Status) → (IsStopped end → ⊥) → IsStopped end ⊎ IsValid case → IsValid case
valid_of case end goes (inl stops) = absurd (goes stops)
valid_of case end goes (inr valid) = valid

-- the laws of listings, of verdicts and of plans
pub record Laws : Type 0 where
  pub one : ListingIsOne
  pub bound : ListingExcludesRefusal
  pub refusal : RefusalIsOne
  pub verdict : VerdictIsOne
  pub difference : DifferenceIsOne
  pub plans : PlanListingsEnclose
  pub one_plan : PlanListingIsOne
  pub plan_verdict : PlanVerdictIsOne
  pub gentle_verdict : GentleVerdictIsOne

pub laws_of : ListingIsOne → ListingExcludesRefusal → RefusalIsOne → VerdictIsOne → DifferenceIsOne → PlanListingsEnclose → PlanListingIsOne → PlanVerdictIsOne → GentleVerdictIsOne → Laws
laws_of one bound refusal verdict difference plans one_plan plan_verdict gentle_verdict = record {
  one = one;
  bound = bound;
  refusal = refusal;
  verdict = verdict;
  difference = difference;
  plans = plans;
  one_plan = one_plan;
  plan_verdict = plan_verdict;
  gentle_verdict = gentle_verdict;
}

-- the text of decks, as the one that stands in a text
text_is : (d : Decks) (zones : Option (List ℕ)) → parts_text d.first d.second zones ≡ decks_text d zones
text_is d zones = by_second d.second
  where
    by_second : (second : Option FlowModel) → parts_text d.first second zones ≡ decks_text (record { first = d.first; second = second }) zones
    by_second None = refl
    by_second (Some m) = refl

module _ (laws : Laws) (old new : Seen) (puts : List Put) (pieces : List Text) (written : puts ≡ map whole_put pieces) (makes : PutsMake old puts new) where
  -- of a made model
  of_made : (seed size : ℕ) (read : Result FlowModel Refusal) → made_model seed size ≡ read → IfOk read IsModel → Defines (Making seed size read) status.Ok pieces →
      OneSummary seed size old.written new.written
  of_made seed size (Err refusal) is valid x = absurd (let bad : status.Ok ≡ status.Refused refusal = x.0 in cc)
  of_made seed size (Ok m) is model x =
      let k = made_task m in
      let whole = is_whole x.listed.last x.listed.status in
      let values = x.listed.values in
      let S : ListingEnd → Type 0 = λ last. AllSteps k values last in
      let steps : AllSteps k values ends.Whole = subst S whole x.listed.steps in
      let T : ListingEnd → Type 0 = λ last. pieces ≡ summed_text seed size m.grid (summary_of m values) last ∷ [] in
      let text : pieces ≡ summary_text seed size (summary_of m values) ∷ [] = subst T whole x.are in
      let P : List ℕ → Type 0 = λ t. Appends old.written new.written t in
      let all = subst P (append-nil (summary_text seed size (summary_of m values)))
      (all_written (summary_text seed size (summary_of m values) ∷ []) old new puts (written ∙ ap (map whole_put) text) makes) in
      let read = named_read made_name (reads Plain (with_limit (most_bytes Plain) (made_files seed size))) m is in
      record {
        made = record {
          model = m;
          read = read;
          valid = model;
          values = values;
          written = all;
          encloses = x.listed.encloses whole;
          solvable = history_exists k.limits m k.digits None k.rounds false values model steps;
          one = history_is_one k.limits m k.digits None k.rounds false values model steps;
        };
        steps = steps;
        only = λ others also. laws.one k values others (one_valid m model) refl steps also;
      }

  module _ (files : FileSet) where
    -- the pieces of a listing, or of a text and then a listing, were appended
    appended : (all : List Text) → pieces ≡ all → Appends old.written new.written (concat all)
    appended all are = all_written all old new puts (written ∙ ap (map whole_put) are) makes

    abbrev listing_of : (asked : ListingOrder) (m : FlowModel) (zones : Option (List ℕ)) → read_by_name asked.name (reads asked.limits files) ≡ Ok m →
        zones_read files asked.zones m ≡ Ok zones → AreDecks (one_deck m) →
        (listed : List Text) (v : IsWhole (task_of asked m zones) listed) (before after : Option (List ℕ)) →
        Appends before after (concat (listing (task_of asked m zones) v.values end_line)) → OneListing asked files before after
    listing_of asked m zones read zoned valid listed v before after text = record {
      headline = record {
        model = m;
        read = named_read asked.name (reads asked.limits files) m read;
        valid = valid.first;
        zones = zones;
        zoned = zoned;
        values = v.values;
        written = text;
        at = listing_times (task_of asked m zones) v.values v.steps;
        pairs = listing_pairs (task_of asked m zones) valid v.values v.steps;
        encloses = v.encloses;
        solvable = history_exists asked.limits m asked.digits zones asked.rounds asked.quick v.values valid.first v.steps;
        one = history_is_one asked.limits m asked.digits zones asked.rounds asked.quick v.values valid.first v.steps;
      };
      values = record { steps = v.steps; only = λ plain others steps. laws.one (task_of asked m zones) v.values others valid plain v.steps steps; encloses = v.encloses };
    }

    -- a listing, after the text of its deck where that is asked for
    module _ (asked : ListingOrder) (m : FlowModel) (zones : Option (List ℕ)) (read : read_by_name asked.name (reads asked.limits files) ≡ Ok m)
        (zoned : zones_read files asked.zones m ≡ Ok zones) where
      abbrev Whole : List Text → Type 0
      Whole listed = IsWhole (task_of asked m zones) listed

      of_plain : AreDecks (one_deck m) → Whole pieces → OneListing asked files old.written new.written
      of_plain valid v = listing_of asked m zones read zoned valid pieces v old.written new.written (appended (listing (task_of asked m zones) v.values end_line) v.are)

      of_deck_first : AreDecks (one_deck m) → (listed : List Text) → pieces ≡ decks_text (one_deck m) zones ∷ listed → Whole listed → OneDeckListing asked files old.written new.written
      of_deck_first valid listed are v =
          let deck = zoned_text m zones in
          let text = concat (listing (task_of asked m zones) v.values end_line) in
          let mid = grown old.written deck in
          let all = appended (decks_text (one_deck m) zones ∷ listing (task_of asked m zones) v.values end_line) (are ∙ ap (λ (ps : List Text). decks_text (one_deck m) zones ∷ ps) v.are) in
          let P : List ℕ → Type 0 = λ t. Appends old.written new.written (t ++ text) in
          let one = listing_of asked m zones read zoned valid listed v mid new.written (last_part old.written new.written deck text (subst P (append-nil deck) all)) in
          record {
            headline = record {
              mid = mid;
              listing = one.headline;
              deck = first_part old.written deck;
              again = deck_reads asked.limits files asked.name m one.headline.read;
              stated = stated asked files old.written mid new.written one.headline (first_part old.written deck);
            };
            values = one.values;
          }

      of_listing : (deck : Bool) → AreDecks (one_deck m) →
          Defines (after_text deck (decks_text (one_deck m) zones) (Listing (task_of asked m zones))) status.Ok pieces
          → ByDeck deck (OneListing asked files old.written new.written) (OneDeckListing asked files old.written new.written)
      of_listing true valid d = of_deck_first valid d.others d.are (whole_listing (task_of asked m zones) d.others d.then)
      of_listing false valid d = of_plain valid (whole_listing (task_of asked m zones) pieces d)

    -- the same of two decks
    module _ (asked : ListingOrder) (to : Text) (a : FlowModel) (b : Second) (first : read_by_name asked.name (reads asked.limits files) ≡ Ok a)
        (second : read_by_name to (second_in asked.limits files) ≡ Ok b)
        (zones : Option (List ℕ)) (zoned : zones_read files asked.zones a ≡ Ok zones) where
      abbrev k : Task
      k = span_task_of asked a b.model zones

      span_plain : AreDecks (two a b.model) → IsWhole k pieces → OneSpan asked to files old.written new.written
      span_plain valid v = span_listed laws.one files a b asked to first second zones zoned valid pieces v old.written new.written (appended (listing k v.values end_line) v.are)

      span_decks_first : AreDecks (two a b.model) → (listed : List Text) → pieces ≡ decks_text (two a b.model) zones ∷ listed → IsWhole k listed → OneDeckSpan asked to files old.written new.written
      span_decks_first valid listed are v =
          let one_part = zoned_text a zones in
          let other_part = zoned_text b.model zones in
          let decks = one_part ++ other_part in
          let text = concat (listing k v.values end_line) in
          let between = grown old.written one_part in
          let mid = grown old.written decks in
          let all = appended (decks_text (two a b.model) zones ∷ listing k v.values end_line) (are ∙ ap (λ (ps : List Text). decks_text (two a b.model) zones ∷ ps) v.are) in
          let one = span_listed laws.one files a b asked to first second zones zoned valid listed v mid new.written (last_part old.written new.written decks text all) in
          record {
            headline = record {
              mid = mid;
              listing = one.headline;
              decks = first_part old.written decks;
              again = deck_reads asked.limits files asked.name a one.headline.decks.read;
              again_to = deck_reads asked.limits files to b.model one.headline.decks.read_to;
              stated = span_stated asked to files old.written between mid new.written one.headline (first_part old.written one_part)
                  (last_part old.written mid one_part other_part (first_part old.written decks));
            };
            values = one.values;
          }

      of_span : (deck : Bool) → AreDecks (two a b.model) → Defines (after_text deck (decks_text (two a b.model) zones) (Listing k)) status.Ok pieces →
          ByDeck deck (OneSpan asked to files old.written new.written) (OneDeckSpan asked to files old.written new.written)
      of_span true valid d = span_decks_first valid d.others d.are (whole_listing k d.others d.then)
      of_span false valid d = span_plain valid (whole_listing k pieces d)

    -- a text that was said
    of_text : (text : Text) → IsSaid text status.Ok pieces → Appends old.written new.written text
    of_text text d = let P : List ℕ → Type 0 = λ t. Appends old.written new.written t in subst P (append-nil text) (appended (text ∷ []) d.1)

    of_deck : (limits : Limits) (name : Text) (m : FlowModel) → read_by_name name (reads limits files) ≡ Ok m → IsModel m → IsSaid (deck_text m) status.Ok pieces →
        OneDeck limits name files old.written new.written
    of_deck limits name m is valid d =
        let read = named_read name (reads limits files) m is in
        record {
          model = m;
          read = read;
          valid = valid;
          written = of_text (deck_text m) d;
          again = deck_reads limits files name m read;
        }

    -- where a run of this case ended Ok, this holds
    abbrev AfterOk : Case → Type 0 → Type 0
    AfterOk case Holds = IsValid case → Defines case status.Ok pieces → Holds

    -- of a plan
    of_plan : (asked : AskedPlan) (to : Option Text) (d : Decks) (p : PlanParts) → (AreDecks d → AreReadAs asked.limits files asked.name to d) →
        parts_read files asked d ≡ Ok p → AfterOk (Planning (planned_task asked d p)) (OnePlan asked to files old.written new.written)
    of_plan asked to d p read was valid listed =
        plan_listed laws.plans laws.one_plan files asked to d p (read valid.base) was valid pieces listed old.written new.written (λ all are. appended all are)

    -- of what is read, of a deck, and of two that are alike
    of_read : {T Holds : Type 0} (r : Result T Refusal) (come : T → Case) → ((x : T) → r ≡ Ok x → AfterOk (come x) Holds) → AfterOk (case_read r come) Holds
    of_read (Ok x) come holds = holds x refl
    of_read (Err refusal) come holds = λ valid d. absurd (let bad : status.Ok ≡ status.Refused refusal = d.0 in cc)

    -- of a check of a plan's listing
    of_plan_check : (asked : AskedCheck) (name : Text) (to : Option Text) (d : Decks) (p : PlanParts) → (AreDecks d → AreReadAs asked.limits files asked.name to d) →
        parts_read files (as_plan asked name) d ≡ Ok p →
        AfterOk (to_plan_check (is_some to) files asked.listing (planned_task (as_plan asked name) d p)) (PlanVerdict asked name to files old.written new.written)
    of_plan_check asked name to d p read was =
        let k = planned_task (as_plan asked name) d p in
        of_read (plan_steps_read (is_some to) files asked.listing k) (PlanChecking k) (λ steps listed valid c.
        plan_checked files asked name to d p (read valid.0.base) was valid.0 steps listed pieces c old.written new.written (λ all are. appended all are))

    of_one : {Holds : Type 0} (r : Result FlowModel Refusal) (come : Decks → Case) → ((a : FlowModel) → r ≡ Ok a → AfterOk (come (one_deck a)) Holds) → AfterOk (case_decks r None come) Holds
    of_one (Ok a) come holds = holds a refl
    of_one (Err refusal) come holds = λ valid d. absurd (let bad : status.Ok ≡ status.Refused refusal = d.0 in cc)

    of_alike : {Holds : Type 0} (a : FlowModel) (b : Second) (case : Case) → AfterOk case Holds → AfterOk (Comparing a b case) Holds
    of_alike a b case holds valid (inl unlike) = absurd (let bad : status.Ok ≡ status.Refused (b.unlike unlike.difference) = unlike.status in cc)
    of_alike a b case holds (inl never) (inr (alike, d)) = absurd (never alike)
    of_alike a b case holds (inr valid) (inr (alike, d)) = holds valid d

    of_two : {Holds : Type 0} (r : Result FlowModel Refusal) (s : Result Second Refusal) (come : Decks → Case) →
        ((a : FlowModel) (b : Second) → r ≡ Ok a → s ≡ Ok b → AfterOk (come (two a b.model)) Holds) → AfterOk (case_decks r (Some s) come) Holds
    of_two (Ok a) s come holds = of_read s (λ b. Comparing a b (come (two a b.model))) (λ b is. of_alike a b (come (two a b.model)) (holds a b refl is))
    of_two (Err refusal) s come holds = λ valid d. absurd (let bad : status.Ok ≡ status.Refused refusal = d.0 in cc)

    -- a text: its decks, and the listing after them
    module _ (asked : AskedText) (bytes : List ℕ) (read : read_by_name asked.text (file_at files) ≡ Ok bytes) where
      of_rest : (d : Decks) (zones : Option (List ℕ)) (line : ℕ) (rest : List ℕ) → bytes ≡ decks_text d zones ++ rest →
          AfterOk (case_rest asked d zones line rest) (OneTextVerdict asked files old.written new.written)
      of_rest d zones line rest is =
          of_read (steps_after (is_some d.second) d.first asked.digits (pairs_in d.first zones) asked.text line rest) (λ steps.
          Checking asked.limits d asked.digits (record { zones = zones; steps = steps }))
          (λ steps listed valid c.
          let holds = is_certified c.verdict c.status in
          let L : ListingVerdict → Type 0 = λ v. pieces ≡ verdict_line d.first.grid v ∷ [] in
          let V : ListingVerdict → Type 0 = λ v. IsVerdict asked.limits d asked.digits zones steps v in
          let rows = rows_of (is_some d.second) d.first asked.digits steps in
          let text = decks_text d zones ++ text_of rows in
          let R : List (List ℕ) → Type 0 = λ ls. AreText rest (text_of ls) in
          let lines_are = steps_stated (is_some d.second) d.first asked.digits (pairs_in d.first zones) asked.text line rest steps listed in
          let B : List ℕ → Type 0 = λ b. AreText b text in
          record {
            certified = record {
              bytes = bytes;
              read = named_read asked.text (file_at files) bytes read;
              text = text;
              is = subst B (sym is) (ended_after (decks_text d zones) rest (text_of rows) (subst R lines_are (lines_are_text rest)));
              stated = said asked.digits zones d.first steps d.second text refl valid.0 valid.1.steps (c.encloses holds) (c.history holds);
              written = appended (certified_line ∷ []) (subst L holds c.are);
            };
            decks = d;
            zones = zones;
            steps = steps;
            is = refl;
            verdict = subst V holds c.is;
          })

      of_parts : (a : Part) (second : Option Part) → StandsIn bytes a.model (option_map (λ b. b.model) second) a.zones (unwrap_or second a).rest →
          AfterOk (case_parts asked a second) (OneTextVerdict asked files old.written new.written)
      of_parts a None is = of_rest (one_deck a.model) a.zones a.line a.rest (is ∙ ap (λ (t : List ℕ). t ++ a.rest) (text_is (one_deck a.model) a.zones))
      of_parts a (Some b) is = of_alike a.model (record { model = b.model; unlike = unlike asked.text b }) (case_rest asked (two a.model b.model) a.zones b.line b.rest)
          (of_rest (two a.model b.model) a.zones b.line b.rest (is ∙ ap (λ (t : List ℕ). t ++ b.rest) (text_is (two a.model b.model) a.zones)))

    one_by : (order : Option Wanted) (end : Status) → ((b : AskedBatch) → order ≡ Some (Batch b) → Batched b files end old.written new.written) →
        AfterOk (case_of order files) (OneOf order files end old.written new.written)
    one_by None end batched = λ valid d. absurd (let bad : status.Ok ≡ status.Usage = d.0 in cc)
    one_by (Some (Run asked None)) end batched = of_one (read_by_name asked.name (reads asked.limits files)) (to_list files asked) (λ m read.
        of_read (zones_read files asked.zones m) (case_listed asked (one_deck m))
        (λ zones zoned valid d. of_listing asked m zones read zoned asked.deck (valid_after asked.deck (decks_text (one_deck m) zones) (Listing (task_of asked m zones)) valid) d))
    one_by (Some (Run asked (Some to))) end batched =
        of_two (read_by_name asked.name (reads asked.limits files)) (read_by_name to (second_in asked.limits files)) (to_list files asked) (λ a b first second.
        of_read (zones_read files asked.zones a) (case_listed asked (two a b.model))
        (λ zones zoned valid d. of_span asked to a b first second zones zoned asked.deck
        (valid_after asked.deck (decks_text (two a b.model) zones) (Listing (span_task_of asked a b.model zones)) valid) d))
    one_by (Some (Plan asked None)) end batched = of_one (read_by_name asked.name (reads asked.limits files)) (to_plan files asked Planning) (λ m read.
        of_read (parts_read files asked (one_deck m)) (λ p. Planning (planned_task asked (one_deck m) p))
        (λ p was. of_plan asked None (one_deck m) p (λ valid. one_read_as files asked m read valid) was))
    one_by (Some (Plan asked (Some to))) end batched =
        of_two (read_by_name asked.name (reads asked.limits files)) (read_by_name to (second_in asked.limits files)) (to_plan files asked Planning) (λ a b first second.
        of_read (parts_read files asked (two a b.model)) (λ p. Planning (planned_task asked (two a b.model) p))
        (λ p was. of_plan asked (Some to) (two a b.model) p (λ valid. two_read_as files asked to a b first second valid) was))
    one_by (Some (Make seed size)) end batched = of_made seed size (made_model seed size) refl
    one_by (Some (Check asked None)) end batched = of_one (read_by_name asked.name (reads asked.limits files)) (to_check files asked None) (λ m read.
        of_read (listing_read false files asked m) (Checking asked.limits (one_deck m) asked.digits)
        (λ listing listed valid d. certified_and_one files old new puts pieces asked written makes m listing valid.0.first read listed d))
    one_by (Some (Check asked (Some to))) end batched =
        of_two (read_by_name asked.name (reads asked.limits files)) (read_by_name to (second_in asked.limits files)) (to_check files asked (Some to))
        (λ a b first second. of_read (listing_read true files asked a) (Checking asked.limits (two a b.model) asked.digits)
        (λ listing listed valid d. span_checked laws.one files a b old new puts pieces written makes asked to first second listing listed valid.0 d))
    one_by (Some (CheckPlan asked name None)) end batched =
        let come = to_plan_check false files asked.listing in
        of_one (read_by_name asked.name (reads asked.limits files)) (to_plan files (as_plan asked name) come) (λ m read.
        of_read (parts_read files (as_plan asked name) (one_deck m)) (λ p. come (planned_task (as_plan asked name) (one_deck m) p))
        (λ p was. of_plan_check asked name None (one_deck m) p (λ valid. one_read_as files (as_plan asked name) m read valid) was))
    one_by (Some (CheckPlan asked name (Some to))) end batched =
        let come = to_plan_check true files asked.listing in
        of_two (read_by_name asked.name (reads asked.limits files)) (read_by_name to (second_in asked.limits files)) (to_plan files (as_plan asked name) come)
        (λ a b first second. of_read (parts_read files (as_plan asked name) (two a b.model)) (λ p. come (planned_task (as_plan asked name) (two a b.model) p))
        (λ p was. of_plan_check asked name (Some to) (two a b.model) p (λ valid. two_read_as files (as_plan asked name) to a b first second valid) was))
    one_by (Some (CheckConvertible asked)) end batched =
        of_read (read_by_name asked.name (convertible_reads asked.limits files)) (to_convertible_check files asked) (λ x read.
        of_read (convertible_listing_read files asked x.0) (ConvertibleChecking x.0 x.1 asked.digits)
        (λ listing listed valid c. convertible_checked files asked x.0 x.1 listing read valid.0 listed pieces c old.written new.written (λ all are. appended all are)))
    one_by (Some (Batch b)) end batched = λ valid d. batched b refl
    one_by (Some (CheckText asked)) end batched =
        of_read (read_by_name asked.text (file_at files)) _ (λ bytes read.
        of_read (parts_in asked.limits asked.text bytes) (λ p. case_parts asked p.first p.second) (λ p parts.
        of_parts asked bytes read p.first p.second (parts_stand_in_text asked.limits asked.text bytes p parts)))
    one_by (Some Words) end batched = λ valid d. of_text words_text d
    one_by (Some (Write limits name)) end batched = of_one (read_by_name name (reads limits files)) to_write (λ m read valid d. of_deck limits name m read valid d)

pub one_of : (laws : Laws) (order : Option Wanted) (files : FileSet) (end : Status) (puts : List Put) (old new : Seen) → PutsMake old puts new → end ≡
    status.Ok → IsValid (case_of order files) → Delivers (Defines (case_of order files)) end puts →
    ((b : AskedBatch) → order ≡ Some (Batch b) → Batched b files end old.written new.written) → OneOf order files end old.written new.written
one_of laws order files end puts old new makes ok valid d batched =
    let D : Status → Type 0 = λ s. Defines (case_of order files) s d.pieces in
    one_by laws old new puts d.pieces d.written makes files order end batched valid (subst D ok d.defines)

-- the headline
pub headline_of : (order : Option Wanted) (files : FileSet) (end : Status) (old new : Option (List ℕ)) → OneOf order files end old new →
    HeadlineOf order files end old new
headline_of None files end old new o = o
headline_of (Some (Run asked None)) files end old new o = by_deck asked.deck o
  where
    by_deck : (deck : Bool) → ByDeck deck (OneListing asked files old new) (OneDeckListing asked files old new) → RunHeadline deck asked files old new
    by_deck true x = x.headline
    by_deck false x = x.headline
headline_of (Some (Run asked (Some to))) files end old new o = by_deck asked.deck o
  where
    by_deck : (deck : Bool) → ByDeck deck (OneSpan asked to files old new) (OneDeckSpan asked to files old new) → RunSpanHeadline deck asked to files old new
    by_deck true x = x.headline
    by_deck false x = x.headline
headline_of (Some (Plan asked to)) files end old new o = o.headline
headline_of (Some (Check asked None)) files end old new o = o.certified
headline_of (Some (Check asked (Some to))) files end old new o = o.certified
headline_of (Some (CheckPlan asked name to)) files end old new o = o.certified
headline_of (Some (CheckConvertible asked)) files end old new o = o.certified
headline_of (Some (Make seed size)) files end old new o = o.made
headline_of (Some (Batch b)) files end old new o = o
headline_of (Some (CheckText asked)) files end old new o = o.certified
headline_of (Some Words) files end old new o = o
headline_of (Some (Write limits name)) files end old new o = o
