-- What a run of two decks, or the check of such a listing, that ended Ok says.
use Rattle.engine.proofs.Common.{[], ◌≡◌, ℕ, List, ◌∷◌, Option, Ok, map, subst, ap, ◌∙◌, true, FileSet, Put, Seen, PutsMake, whole_put, FlowModel, ZonedListing, Text, end_line, all_written, AreDecks}
use Rattle.engine.proofs.Common.{read_by_name, steps_read, zones_read, certified_line, ListingOrder, AskedCheck, listing_read, span_task_of, IsCheck, verdict_line, ArePairOf, OneSpan, SpanVerdict}
use Rattle.engine.proofs.Common.{Second, second_in, listing, ListingIsOne, have_one, IsWhole, Limits, two, ListingVerdict, IsVerdict, reads, Appends, concat}
use Rattle.engine.proofs.{Certifying.is_certified, Labels.listing_pairs, Labels.listing_times, Readings.named_read, Readings.second_parts, Readings.zoned_parts}
use Rattle.run_puts.specs.declared.puts.Status.TheVariants as status
use Rattle.listing_run.specs.declared.text.ListingEnd.TheVariants as ends

-- the files of two names that were read, and are alike
abbrev pair_of : (limits : Limits) (files : FileSet) (name to : Text) (a : FlowModel) (b : Second) → read_by_name name (reads limits files) ≡ Ok a →
    read_by_name to (second_in limits files) ≡ Ok b → AreDecks (two a b.model) → ArePairOf limits files name to
pair_of limits files name to a b first second valid = record {
  first = a;
  read = named_read name (reads limits files) a first;
  valid = valid.first;
  second = b.model;
  read_to = second_parts limits files to b (named_read to (second_in limits files) b second);
  valid_to = valid.second.model;
  alike = valid.second.alike;
}

module _ (one : ListingIsOne) (files : FileSet) (a : FlowModel) (b : Second) where
  -- a run
  abbrev pub span_listed : (s : ListingOrder) (to : Text) → read_by_name s.name (reads s.limits files) ≡ Ok a → read_by_name to (second_in s.limits files) ≡
      Ok b → (zones : Option (List ℕ)) → zones_read files s.zones a ≡ Ok zones →
      AreDecks (two a b.model) → (pieces : List Text) (v : IsWhole (span_task_of s a b.model zones) pieces) (old new : Option (List ℕ)) →
      Appends old new (concat (listing (span_task_of s a b.model zones) v.values end_line)) → OneSpan s to files old new
  span_listed s to first second zones zoned valid pieces v old new written =
      let k = span_task_of s a b.model zones in
      record {
        headline = record {
          decks = pair_of s.limits files s.name to a b first second valid;
          zones = zones;
          zoned = zoned;
          values = v.values;
          written = written;
          at = listing_times k v.values v.steps;
          pairs = listing_pairs k valid v.values v.steps;
          encloses = v.encloses;
          choices = have_one k v.values valid v.steps;
        };
        values = record { steps = v.steps; only = λ plain others steps. one k v.values others valid plain v.steps steps; encloses = v.encloses };
      }

  -- a check
  pub span_checked : (old new : Seen) (puts : List Put) (pieces : List Text) → puts ≡ map whole_put pieces → PutsMake old puts new →
      (s : AskedCheck) (to : Text) → read_by_name s.name (reads s.limits files) ≡ Ok a → read_by_name to (second_in s.limits files) ≡ Ok b →
      (l : ZonedListing) → listing_read true files s a ≡ Ok l →
      AreDecks (two a b.model) → IsCheck s.limits (two a b.model) s.digits l status.Ok pieces → SpanVerdict s to files old.written new.written
  span_checked old new puts pieces written makes s to first second l listed valid d =
      let parts = zoned_parts (zones_read files s.zones a) (steps_read true files s a) l listed in
      let holds = is_certified d.verdict d.status in
      let L : ListingVerdict → Type 0 = λ v. pieces ≡ verdict_line a.grid v ∷ [] in
      let V : ListingVerdict → Type 0 = λ v. IsVerdict s.limits (two a b.model) s.digits l.zones l.steps v in
      record {
        certified = record {
          decks = pair_of s.limits files s.name to a b first second valid;
          zones = l.zones;
          zoned = parts.0;
          steps = l.steps;
          listed = parts.1;
          written = all_written (certified_line ∷ []) old new puts (written ∙ ap (map whole_put) (subst L holds d.are)) makes;
          encloses = d.encloses holds;
          choices = d.history holds;
        };
        verdict = subst V holds d.is;
      }
