-- What stands in a text that is read.
use Rattle.stated_text.proofs.Common.{◌≡◌, ℕ, Bool, true, false, List, ◌++◌, append_assoc, append-nil, Option, Some, None, Result, Ok, Err, refl, sym, ap, ◌∙◌, ◌>>=◌, Refusal, Limits, FlowModel}
use Rattle.stated_text.proofs.Common.{StandsIn, TextFile, after_due, begins_part, cut_at, last_of, lines, or_bad, part_at, part_of, parts_in, second_at, zoned_model, option_map, unwrap_or, zoned_text}
use Rattle.stated_text.proofs.Common.{GivesOnly, Part}
use Rattle.stated_text.proofs.DueTexts.{due_stands}
use Rattle.record_lines.proofs.Readings.{ok_gives_only, goes_on, err_gives_only}
use Rattle.stated_text.specs.declared.part.Parts.{Parts}

-- what follows the text of a part's model, with its zones or given ones
abbrev IsAfter : Option (Option (List ℕ)) → List ℕ → Part → Type 0
IsAfter given bytes p = bytes ≡ zoned_text p.model (unwrap_or given p.zones) ++ p.rest

module _ (limits : Limits) (text : List ℕ) where
  after_is : (n : ℕ) (given : Option (Option (List ℕ))) (bytes : List ℕ) (files : List TextFile) (m : FlowModel) (zones : Option (List ℕ)) →
      GivesOnly (IsAfter given bytes) (part_of text n given bytes files m zones)
  after_is n given bytes files m zones = by_rest (after_due n bytes (zoned_text m (unwrap_or given zones))) refl
    where
      by_rest : (r : Result (List ℕ × ℕ) ℕ) → after_due n bytes (zoned_text m (unwrap_or given zones)) ≡ r →
          GivesOnly (IsAfter given bytes) (or_bad text r >>= λ after. Ok (record { files = files; model = m; zones = zones; rest = after.0; line = after.1 }))
      by_rest (Ok after) e = ok_gives_only (due_stands n bytes (zoned_text m (unwrap_or given zones)) after.0 after.1 e)
      by_rest (Err k) e = err_gives_only

  part_stands : (n : ℕ) (given : Option (Option (List ℕ))) (bytes : List ℕ) → GivesOnly (IsAfter given bytes) (part_at limits text n given bytes)
  unfolding part_at
  part_stands n given bytes =
      goes_on (or_bad text (cut_at n (lines bytes))) _ (λ files a. goes_on (zoned_model limits text files) _ (λ read b. after_is n given bytes files read.0 read.1))

  abbrev Stand : List ℕ → Parts → Type 0
  Stand bytes p = StandsIn bytes p.first.model (option_map (λ b. b.model) p.second) p.first.zones (last_of p).rest

  one_stands : (bytes : List ℕ) (first : Part) → IsAfter None bytes first → Stand bytes (record { first = first; second = None })
  one_stands bytes first h = h ∙ ap (λ (t : List ℕ). t ++ first.rest) (sym (append-nil (zoned_text first.model first.zones)))

  two_stand : (bytes : List ℕ) (first second : Part) → IsAfter None bytes first → IsAfter (Some first.zones) first.rest second → Stand bytes (record { first = first; second = Some second })
  two_stand bytes first second h k =
      h ∙ ap (λ t. zoned_text first.model first.zones ++ t) k
      ∙ sym (append_assoc (zoned_text first.model first.zones) (zoned_text second.model first.zones) second.rest)

  parts_stand : (bytes : List ℕ) → GivesOnly (Stand bytes) (parts_in limits text bytes)
  unfolding parts_in
  parts_stand bytes = goes_on (part_at limits text 1 None bytes) _ (λ first a. by_test first ((part_stands 1 None bytes).gives first a) (begins_part (lines first.rest)) refl)
    where
      by_second : (first : Part) → IsAfter None bytes first → (r : Result Part Refusal) → part_at limits text first.line (Some first.zones) first.rest ≡ r →
          GivesOnly (Stand bytes) ((r >>= λ part. Ok (Some part)) >>= λ second. Ok (record { first = first; second = second }))
      by_second first h (Ok second) e = ok_gives_only (two_stand bytes first second h ((part_stands first.line (Some first.zones) first.rest).gives second e))
      by_second first h (Err q) e = err_gives_only

      by_test : (first : Part) → IsAfter None bytes first → (b : Bool) → begins_part (lines first.rest) ≡ b →
          GivesOnly (Stand bytes) (second_at limits text first >>= λ second. Ok (record { first = first; second = second }))
      by_test first h true e = rw e (by_second first h (part_at limits text first.line (Some first.zones) first.rest) refl)
      by_test first h false e = rw e (ok_gives_only (one_stands bytes first h))

-- by the definition of what is read
pub parts_stand_in_text : (limits : Limits) (text bytes : List ℕ) (p : Parts) → parts_in limits text bytes ≡ Ok p →
    StandsIn bytes p.first.model (option_map (λ b. b.model) p.second) p.first.zones (last_of p).rest
parts_stand_in_text limits text bytes p h = (parts_stand limits text bytes).gives p h
