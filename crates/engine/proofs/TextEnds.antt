-- The ends of the check of a text.
use Rattle.engine.proofs.Common.{◌∷◌, [], ℕ, List, Err, Result, ap, inl, refl, Answers, AreAlike, Case, Comparing, Difference, InputCounts, IsReadingEnd, Put, Refusal, Second, Status, input_fault}
use Rattle.engine.proofs.Common.{refused_line, StopsText, case_read, ReadsFolder, FlowModel, IsFirstDifference, AskedText, Checking, None, Option, Some, case_parts, false, one_deck, pairs_in}
use Rattle.engine.proofs.Common.{TextFault, IsRefused, steps_after, Part}
use Rattle.engine.proofs.{Ends.ends_unread, Ends.ends_without_words, Ends.lone_defined, Ends.read_reads, Readings.text_read}
use Rattle.outside.specs.declared.inputs.TextFault.TheVariants as texts
use Rattle.run_puts.specs.declared.puts.Status.TheVariants as status

-- the folder is read for a text
pub parts_read : (asked : AskedText) (a : Part) (second : Option Part) → ReadsFolder (case_parts asked a second)
parts_read asked a None = read_reads (λ steps. Checking asked.limits (one_deck a.model) asked.digits (record { zones = a.zones; steps = steps })) (λ steps. tt)
    (steps_after false a.model asked.digits (pairs_in a.model a.zones) asked.text a.line a.rest)
parts_read asked a (Some b) = tt

text_counts : (T : Type 0) (fault : TextFault) (n : ℕ) → InputCounts {T = T} n n (Err (input_fault fault))
text_counts T (texts.Refused refusal) n = refl
text_counts T texts.Memory n = refl

module _ {n : ℕ} {end : Status} {puts : List Put} where
  -- a reading of a text that stopped
  pub ends_stopped : {T : Type 0} (r : Result T Refusal) (come : T → Case) → ((x : T) → ReadsFolder (come x)) → (fault : TextFault) → StopsText fault r →
      IsReadingEnd (input_fault fault) end puts → Answers (case_read r come) n n end puts
  ends_stopped {T} r come reads fault stops h =
      ends_unread r come (λ (x : T). x) reads (input_fault fault) (text_read (λ (x : T). x) r fault stops) (text_counts T fault n) h

  -- two decks of a text that aren't alike
  pub ends_unlike : (a : FlowModel) (b : Second) (case : Case) (d : Difference) → IsFirstDifference a b.model d → (AreAlike a b.model → ⊥) → (fault : TextFault) →
      IsRefused (b.unlike d) fault → IsReadingEnd (input_fault fault) end puts → Answers (Comparing a b case) n n end puts
  ends_unlike a b case d first never (texts.Refused r) is h =
      lone_defined (refused_line r) (status.Refused r)
      (inl (record { difference = d; first = first; unlike = never; status = ap status.Refused is; are = ap (λ (x : Refusal). refused_line x ∷ []) is }))
      (inl never) h
  ends_unlike a b case d first never texts.Memory is h = ends_without_words h
