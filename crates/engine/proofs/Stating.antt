-- What stands between the bytes before a deck and those after its listing, and that a deck has the listing of the files that it was written from.
use Rattle.engine.proofs.Common.{[], ◌≡◌, ◌≤◌, ◌++◌, ℕ, ℤ, Bool, List, ◌∷◌, Option, None, Some, Result, Ok, ap, sym, subst, ◌∙◌, append_assoc, All, length, concat, FileSet, Refusal, FlowModel, Limits}
use Rattle.engine.proofs.Common.{Decks, Text, Step, Task, AllSteps, end_line, listing, one_deck, task_of, deck_reads, deck_text, most_bytes, reads, two, with_limit, zones_read, start_head, Appends}
use Rattle.engine.proofs.Common.{File, deck_name, deck_files, checked_task, BoundAll, BoundChoices, Bounds, deck_task, DeckAndListingAreStated, DecksAndListingAreStated, SameModelHasSameListing}
use Rattle.engine.proofs.Common.{DeckHasSameListing, SameDeckHasSameModel, ListingOrder, option_map, refl, zoned_text, SpanStated, Stated, Choice, step_from}
use Rattle.engine.specs.{Headline.Headline, SpanHeadline.SpanHeadline}
use Rattle.decimal_input.specs.{Fraction}
use Rattle.flow_equations.specs.{exact_step, heads_of}
use Rattle.cell_balance.specs.{ExactCell}
use Rattle.engine.proofs.Written.{some_ok}
use Rattle.listing_run.specs.declared.text.ListingEnd.TheVariants as ends

-- what was appended, and then more
appended : (old mid new : Option (List ℕ)) (x y : List ℕ) → Appends old mid x → Appends mid new y → Appends old new (x ++ y)
appended None mid new x y first more = tt
appended (Some a) None new x y first more = absurd first
appended (Some a) (Some b) None x y first more = absurd more
appended (Some a) (Some b) (Some c) x y first more =
    let was : b ≡ a ++ x = first in
    let now : c ≡ b ++ y = more in
    now ∙ ap (λ (t : List ℕ). t ++ y) was ∙ append_assoc a x y

-- What a task encloses doesn't depend on its limits and rounds, and on whether it is quick.
module _ (limits : Limits) (ds : Decks) (s : ℕ) (zones : Option (List ℕ)) (rounds : ℕ) (quick : Bool) where
  abbrev task : Task
  task = deck_task limits ds s zones rounds quick

  step_stated : (m : FlowModel) (v : Step) (e : List ExactCell) (d : ℕ) (X : ℕ → ℤ) → Bounds task m v e d X → Bounds (checked_task ds s zones) m v e d X
  step_stated m v e d X b = record { heads = b.heads; budget = b.budget; zones = b.zones }

  bounds_stated : (m : FlowModel) (d : ℕ) (before : ℕ → Fraction) (values : List Step) (Xs : List (ℕ → ℤ)) → BoundAll task m d before values Xs →
      BoundAll (checked_task ds s zones) m d before values Xs
  bounds_stated m d before [] [] b = tt
  bounds_stated m d before [] (X ∷ Xs) b = absurd b
  bounds_stated m d before (v ∷ values) [] b = absurd b
  bounds_stated m d before (v ∷ values) (X ∷ Xs) (b, more) = (step_stated m v (exact_step m v.at.period v.at.step before) d X b, bounds_stated m d (heads_of d X) values Xs more)

  choices_stated : (m : FlowModel) (d : ℕ) (before : ℕ → Fraction) (values : List Step) (xs : List Choice) (Xs : List (ℕ → ℤ)) →
      BoundChoices task m d before values xs Xs → BoundChoices (checked_task ds s zones) m d before values xs Xs
  choices_stated m d before [] [] [] c = tt
  choices_stated m d before (v ∷ values) (x ∷ xs) (X ∷ Xs) (c, more) = (step_stated m v (step_from before x.cells) d X c, choices_stated m d (heads_of d X) values xs Xs more)
  choices_stated m d before _ _ _ c = absurd c

one_model : (r : Result FlowModel Refusal) (a b : FlowModel) → r ≡ Ok a → r ≡ Ok b → a ≡ b
one_model r a b first second = cc

-- without zones the text of a deck is what `heads write` puts
unzoned : (m : FlowModel) → deck_text m ≡ zoned_text m None
unfolding deck_text zoned_text
unzoned m = refl

-- the text of the deck, and then the listing
pub stated : (asked : ListingOrder) (files : FileSet) (old mid new : Option (List ℕ)) (h : Headline asked files mid new) → Appends old mid (zoned_text h.model h.zones) → Stated old new
stated asked files old mid new h deck = record {
  model = h.model;
  valid = h.valid;
  zones = h.zones;
  digits = asked.digits;
  values = h.values;
  written = appended old mid new (zoned_text h.model h.zones) (concat (listing (task_of asked h.model h.zones) h.values end_line)) deck h.written;
  at = h.at;
  pairs = h.pairs;
  encloses = λ d history solves. bounds_stated asked.limits (one_deck h.model) asked.digits h.zones asked.rounds asked.quick h.model d
      (start_head h.model) h.values history (h.encloses d history solves);
  solvable = h.solvable;
  one = h.one;
}

pub deck_and_listing : DeckAndListingAreStated
deck_and_listing asked files old mid new deck h unzoned_run =
    let same = one_model (reads asked.limits files asked.name) deck.model h.model deck.read h.read in
    let P : FlowModel → Type 0 = λ m. Appends old mid (deck_text m) in
    let Z : Option (List ℕ) → Type 0 = λ zones. Appends old mid (zoned_text h.model zones) in
    let T : List ℕ → Type 0 = λ t. Appends old mid t in
    stated asked files old mid new h (subst Z (sym unzoned_run) (subst T (unzoned h.model) (subst P same deck.written)))

-- the texts of two decks, and then the listing
pub span_stated : (asked : ListingOrder) (to : Text) (files : FileSet) (old mid last new : Option (List ℕ)) (h : SpanHeadline asked to files last new) →
    Appends old mid (zoned_text h.decks.first h.zones) → Appends mid last (zoned_text h.decks.second h.zones) → SpanStated old new
span_stated asked to files old mid last new h deck other =
    let p = h.decks in
    let ds = two p.first p.second in
    let listed = concat (listing (deck_task asked.limits ds asked.digits h.zones asked.rounds asked.quick) h.values end_line) in
    record {
      first = p.first;
      valid = p.valid;
      second = p.second;
      valid_to = p.valid_to;
      zones = h.zones;
      digits = asked.digits;
      values = h.values;
      written = appended old mid new (zoned_text p.first h.zones) (zoned_text p.second h.zones ++ listed) deck (appended mid last new (zoned_text p.second h.zones) listed other h.written);
      at = h.at;
      pairs = h.pairs;
      encloses = λ start xs are d history solves. choices_stated asked.limits ds asked.digits h.zones asked.rounds asked.quick p.first d start h.values xs history
          (h.encloses start xs are d history solves);
      choices = h.choices;
    }

pub decks_and_listing : DecksAndListingAreStated
decks_and_listing asked to files old mid last new deck other h unzoned_run =
    let p = h.decks in
    let same = one_model (reads asked.limits files asked.name) deck.model p.first deck.read p.read in
    let same_to = one_model (reads asked.limits files to) other.model p.second other.read p.read_to in
    let P : FlowModel → Type 0 = λ m. Appends old mid (deck_text m) in
    let Q : FlowModel → Type 0 = λ m. Appends mid last (deck_text m) in
    let Z : FlowModel → Option (List ℕ) → Type 0 = λ m zones. Appends old mid (zoned_text m zones) in
    let Y : FlowModel → Option (List ℕ) → Type 0 = λ m zones. Appends mid last (zoned_text m zones) in
    let T : List ℕ → Type 0 = λ t. Appends old mid t in
    let U : List ℕ → Type 0 = λ t. Appends mid last t in
    span_stated asked to files old mid last new h (subst (Z p.first) (sym unzoned_run) (subst T (unzoned p.first) (subst P same deck.written)))
    (subst (Y p.second) (sym unzoned_run) (subst U (unzoned p.second) (subst Q same_to other.written)))

-- What was appended as one text, in two parts.
abbrev pub grown : Option (List ℕ) → List ℕ → Option (List ℕ)
grown old x = option_map (λ (b : List ℕ). b ++ x) old

pub first_part : (old : Option (List ℕ)) (x : List ℕ) → Appends old (grown old x) x
first_part None x = tt
first_part (Some a) x = refl

pub last_part : (old new : Option (List ℕ)) (x y : List ℕ) → Appends old new (x ++ y) → Appends (grown old x) new y
last_part None new x y h = tt
last_part (Some a) None x y h = absurd h
last_part (Some a) (Some c) x y h = let is : c ≡ a ++ (x ++ y) = h in is ∙ sym (append_assoc a x y)

pub same_listing : SameModelHasSameListing
same_listing asked name zones files others bytes anew plain h o model same_zones =
    let x = h.headline in
    let y = o.headline in
    let M : FlowModel → Type 0 = λ m. AllSteps (task_of asked m y.zones) y.values ends.Whole in
    let Z : Option (List ℕ) → Type 0 = λ z. AllSteps (task_of asked x.model z) y.values ends.Whole in
    let values = h.values.only plain y.values (subst Z same_zones (subst M model o.values.steps)) in
    let was : bytes ≡ concat (listing (task_of asked x.model x.zones) x.values end_line) = x.written in
    let now : anew ≡ concat (listing (task_of asked y.model y.zones) y.values end_line) = y.written in
    now ∙ ap (λ (m : FlowModel). concat (listing (task_of asked m y.zones) y.values end_line)) model ∙ ap (λ (z : Option (List ℕ)).
    concat (listing (task_of asked x.model z) y.values end_line)) same_zones
    ∙ ap (λ (vs : List Step). concat (listing (task_of asked x.model x.zones) vs end_line)) values ∙ sym was

-- without a zone file there are no zones
without_zones : (files : FileSet) (named : Option Text) (m : FlowModel) (zones : Option (List ℕ)) → named ≡ None → zones_read files named m ≡ Ok zones → zones ≡ None
without_zones files None m zones is read = sym (some_ok None zones read)
without_zones files (Some name) m zones is read = absurd (let bad : Path (Option Text) (Some name) None = is in cc)

pub deck_listing : DeckHasSameListing
deck_listing asked files bytes anew plain unzoned h short small o =
    let x = h.headline in
    let y = o.headline in
    let deck = with_limit (most_bytes asked.limits) (deck_files x.model) in
    let again = deck_reads asked.limits files asked.name x.model x.read short small in
    let model = one_model (reads asked.limits deck deck_name) y.model x.model y.read again in
    let zones = without_zones deck asked.zones y.model y.zones unzoned y.zoned ∙ sym (without_zones files asked.zones x.model x.zones unzoned x.zoned) in
    same_listing asked deck_name asked.zones files deck bytes anew plain h o model zones

pub same_deck : SameDeckHasSameModel
same_deck limits files others name other a b read_a read_b short_a short_b small same =
    let deck : FileSet = with_limit (most_bytes limits) (deck_files a) in
    let S : List File → Type 0 = λ fs. All (λ f. length f.bytes ≤ most_bytes limits) fs in
    let R : List File → Type 0 = λ fs. reads limits (with_limit (most_bytes limits) fs) deck_name ≡ Ok b in
    one_model (reads limits deck deck_name) a b (deck_reads limits files name a read_a short_a small) (subst R (sym same) (deck_reads limits others other b read_b short_b (subst S same small)))
