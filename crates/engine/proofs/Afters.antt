-- A run that puts a text first, and then what is due without it.
use Rattle.engine.proofs.Common.{[], ◌≡◌, ◌++◌, ◌∷◌, Bool, true, false, List, None, Option, Some, inl, inr, refl, subst, sym, ◌∙◌, Put, Text, Status, whole_put, After, Begins, Case, CutOf, Due}
use Rattle.engine.proofs.Common.{IsCutListing, IsFirstPut, IsListingBeside, IsListingOf, IsRun, IsRunOf, IsValid, Listing, PutsMore, ReadsFolder, Task, after_text, all_due, broken_off, cut, defined}
use Rattle.engine.proofs.Common.{early, puts_are_joined, lacks_at_first, left, listed, nothing, put_not_ok, unread, wanting_not_ok, run_of_less, whole, ℕ, IsFirstIf, SinkUse, ViewsPut}
use Rattle.engine.proofs.DeckEnds.{run_map}
use Rattle.run_puts.specs.declared.puts.Status.TheVariants as status

-- puts of which this holds, and then puts of which that holds
pub puts_then : {S : Type 0} {old mid new : S} {P Q R : List Put → Type 0} (leads : S → List Put → S → Type 0) → PutsMore leads old mid P →
    PutsMore leads mid new Q → ((first more : List Put) → P first → Q more → R (first ++ more)) → PutsMore leads old new R
puts_then {S} {old} {mid} {new} leads first second joins = λ start puts h.
    let a = first start puts h in
    let b = second start (puts ++ a.0) a.1 in
    (a.0 ++ b.0, puts_are_joined (λ ps. leads start ps new) puts a.0 b.0 b.1, joins a.0 b.0 a.2 b.2)

-- a run of a listing beside which views were put, as one of its case
pub listing_run : (beside : Type 0) (k : Task) (end : Status) (puts : List Put) → IsRun (IsListingBeside beside k) (IsCutListing k) end puts → IsRunOf ⊥ beside (Listing k) end puts
listing_run beside k = run_map due (λ pieces c. c)
  where
    due : (end : Status) (pieces : List Text) → IsListingBeside beside k end pieces → Due ⊥ beside (Listing k) end pieces
    due end pieces (listed meant all d) = defined meant all d
    due end pieces (left all f d) = broken_off all f d

-- a run in which no read failed
pub never_unread : (failed beside : Type 0) (c : Case) (end : Status) (puts : List Put) → IsRunOf ⊥ beside c end puts → IsRunOf failed beside c end puts
never_unread failed beside c = run_of_less (Due ⊥ beside c) (Due failed beside c) (CutOf c) due
  where
    due : (end : Status) (pieces : List Text) → Due ⊥ beside c end pieces → Due failed beside c end pieces
    due end pieces (defined meant all d) = defined meant all d
    due end pieces (unread f) = absurd f.0
    due end pieces (broken_off all f d) = broken_off all f d

module _ (beside : Type 0) (text : Text) (case : Case) where
  alone : CutOf (After text case) (text ∷ [])
  alone = record { others = []; are = refl; then = inl refl }

  due_after : (end : Status) (pieces : List Text) → Due ⊥ beside case end pieces → Due ⊥ beside (After text case) end (text ∷ pieces)
  due_after end pieces (defined meant all d) = defined meant (text ∷ all) (record { others = all; are = refl; then = d })
  due_after end pieces (unread f) = absurd f.0
  due_after end pieces (broken_off all f c) = broken_off (text ∷ all) f (record { others = all; are = refl; then = inr c })

  begins_after : (before after : List Text) → Begins (Due ⊥ beside case) (CutOf case) before after → Begins (Due ⊥ beside (After text case)) (CutOf (After text case)) (text ∷ before) after
  begins_after before after nothing = cut (text ∷ []) [] alone
  begins_after before after (all_due end some next rest d) = all_due end (text ∷ some) next rest (due_after end (some ++ (next ∷ rest)) d)
  begins_after before after (cut some rest c) = cut (text ∷ some) rest (record { others = some ++ rest; are = refl; then = inr c })

  after_run : (end : Status) (more : List Put) → IsRunOf ⊥ beside case end more → IsRunOf ⊥ beside (After text case) end (whole_put text ∷ more)
  after_run end more (whole meant pieces due) = whole meant (text ∷ pieces) (due_after meant pieces due)
  after_run end more (early meant before after tail b t) = early meant (text ∷ before) after tail (begins_after before after b) t

  -- the text was taken, and then the case was run
  run_after : (end : Status) (first more : List Put) → IsFirstPut text None first → IsRunOf ⊥ beside case end more → IsRunOf ⊥ beside (After text case) end (first ++ more)
  run_after end first more (inl is) run = let P : List Put → Type 0 = λ ps. IsRunOf ⊥ beside (After text case) end (ps ++ more) in subst P (sym is) (after_run end more run)
  run_after end first more (inr (other, same, w)) run = absurd (let bad : Path (Option Status) None (Some other) = same in cc)

  -- the text ended the run
  run_before : (end : Status) (puts : List Put) → IsFirstPut text (Some end) puts → IsRunOf ⊥ beside (After text case) end puts
  run_before end puts (inl h) = early end [] (text ∷ []) puts (cut [] (text ∷ []) alone) (h [])
  run_before end puts (inr (other, same, w)) =
      let is : other ≡ end = (let both : Path (Option Status) (Some end) (Some other) = same in cc) in
      let P : Status → Type 0 = λ s. IsRunOf ⊥ beside (After text case) s puts in
      subst P is (lacks_at_first (Due ⊥ beside (After text case)) (CutOf (After text case)) other puts w)

-- a run that the text ended didn't end Ok
before_not_ok : (text : Text) (end : Status) (puts : List Put) → IsFirstPut text (Some end) puts → end ≡ status.Ok → ⊥
before_not_ok text end puts (inl h) e = put_not_ok text end puts h e
before_not_ok text end puts (inr (other, same, w)) e =
    let is : end ≡ other = (let both : Path (Option Status) (Some end) (Some other) = same in cc) in
    wanting_not_ok other puts w (sym is ∙ e)

-- A text that is put first, if that is asked for.
module _ (beside : Type 0) (text : Text) (case : Case) where
  pub run_first : (deck : Bool) (end : Status) (first more : List Put) → IsFirstIf deck text None first → IsRunOf ⊥ beside case end more →
      IsRunOf ⊥ beside (after_text deck text case) end (first ++ more)
  run_first true end first more h run = run_after beside text case end first more h run
  run_first false end first more (none, is) run = let P : List Put → Type 0 = λ ps. IsRunOf ⊥ beside case end (ps ++ more) in subst P (sym is) run

  pub ended_first : (deck : Bool) (end : Status) (puts : List Put) → IsFirstIf deck text (Some end) puts → IsRunOf ⊥ beside (after_text deck text case) end puts
  ended_first true end puts h = run_before beside text case end puts h
  ended_first false end puts h = absurd (let bad : Path (Option Status) (Some end) None = h.0 in cc)

-- a run that the text ended didn't end Ok
pub first_not_ok : (deck : Bool) (text : Text) (end : Status) (puts : List Put) → IsFirstIf deck text (Some end) puts → end ≡ status.Ok → ⊥
first_not_ok true text end puts h e = before_not_ok text end puts h e
first_not_ok false text end puts h e = absurd (let bad : Path (Option Status) (Some end) None = h.0 in cc)

-- no view was put
pub no_views : (k : Task) (views : Option ℕ) (beside : SinkUse) (end : Status) → (end ≡ status.Ok → ⊥) → beside.leads [] → ViewsPut k views beside end
no_views k None beside end never h = h
no_views k (Some n) beside end never h = (inl h, λ e. absurd (never e))

-- A case after a text, if that is asked for.
module _ (deck : Bool) (text : Text) where
  pub after_lists : (k : Task) → IsListingOf k (after_text deck text (Listing k))
  after_lists k = by_deck deck
    where
      by_deck : (b : Bool) → IsListingOf k (after_text b text (Listing k))
      by_deck true = refl
      by_deck false = refl

  pub after_valid : (case : Case) → IsValid case → IsValid (after_text deck text case)
  after_valid case h = by_deck deck
    where
      by_deck : (b : Bool) → IsValid (after_text b text case)
      by_deck true = h
      by_deck false = h

  pub valid_after : (case : Case) → IsValid (after_text deck text case) → IsValid case
  valid_after case = by_deck deck
    where
      by_deck : (b : Bool) → IsValid (after_text b text case) → IsValid case
      by_deck true h = h
      by_deck false h = h

  pub after_reads : (case : Case) → ReadsFolder case → ReadsFolder (after_text deck text case)
  after_reads case h = by_deck deck
    where
      by_deck : (b : Bool) → ReadsFolder (after_text b text case)
      by_deck true = tt
      by_deck false = h
