-- What is read of a text, part by part.
use Rattle.stated_text.proofs.Common.{◌≡◌, ℕ, true, false, List, Option, Some, None, Result, Ok, Err, refl, Limits, FlowModel, StopsText, TextFile, begins_part, cut_at, lines, or_bad, part_at}
use Rattle.stated_text.proofs.Common.{part_of, parts_in, zoned_model, HasText, TextFault, Part}
use Rattle.stated_text.proofs.Faults.{stops_first, stops_then}
use Rattle.outside.specs.declared.inputs.TextFault.TheVariants as texts

-- a part, by its files and what they are read as
module _ (limits : Limits) (text : List ℕ) (n : ℕ) (given : Option (Option (List ℕ))) (bytes : List ℕ) where
  pub no_files : (out : TextFault) → StopsText out (or_bad text (cut_at n (lines bytes))) → StopsText out (part_at limits text n given bytes)
  unfolding part_at
  no_files out h = stops_first (or_bad text (cut_at n (lines bytes))) _ out h

  module _ (files : List TextFile) (cut : or_bad text (cut_at n (lines bytes)) ≡ Ok files) where
    pub no_model : (out : TextFault) → StopsText out (zoned_model limits text files) → StopsText out (part_at limits text n given bytes)
    unfolding part_at
    no_model out h = stops_then (or_bad text (cut_at n (lines bytes))) _ files out cut (stops_first (zoned_model limits text files) _ out h)

    pub whole_part : (m : FlowModel) (zones : Option (List ℕ)) → zoned_model limits text files ≡ Ok (m, zones) → (result : Result Part TextFault) →
        HasText (λ (p : Part). p) result (part_of text n given bytes files m zones) → HasText (λ (p : Part). p) result (part_at limits text n given bytes)
    unfolding part_at
    whole_part m zones read (Ok p) h = rw (cut, read) h
    whole_part m zones read (Err (texts.Refused r)) h = rw (cut, read) h
    whole_part m zones read (Err texts.Memory) h = tt

module _ (limits : Limits) (text bytes : List ℕ) where
  pub no_first : (out : TextFault) → StopsText out (part_at limits text 1 None bytes) → StopsText out (parts_in limits text bytes)
  unfolding parts_in
  no_first out h = stops_first (part_at limits text 1 None bytes) _ out h

  module _ (first : Part) (read : part_at limits text 1 None bytes ≡ Ok first) where
    pub one_part : begins_part (lines first.rest) ≡ false → parts_in limits text bytes ≡ Ok (record { first = first; second = None })
    unfolding parts_in
    one_part none = rw (read, none) refl

    module _ (another : begins_part (lines first.rest) ≡ true) where
      pub two_parts : (second : Part) → part_at limits text first.line (Some first.zones) first.rest ≡ Ok second → parts_in limits text bytes ≡ Ok (record { first = first; second = Some second })
      unfolding parts_in
      two_parts second is = rw (read, another, is) refl

      pub no_second : (out : TextFault) → StopsText out (part_at limits text first.line (Some first.zones) first.rest) → StopsText out (parts_in limits text bytes)
      unfolding parts_in
      no_second (texts.Refused r) h = rw (read, another, h) refl
      no_second texts.Memory h = tt
