-- What a reading gives, by the name and the files of the folder.
use Rattle.engine.proofs.Common.{IsRefusedBy, ◌≡◌, ℕ, ◌≤◌, Bool, true, length, List, Option, None, Some, Result, Ok, Err, IfOk, sym, ap, refl, ◌∙◌, codes, if◌then◌else◌, map, subst, ℤ, unsigned_abs}
use Rattle.engine.proofs.Common.{length-map, FileSet, IsReading, file_refusal, input_fault, IsGoodName, is_good_name, InputFault, Refusal, Has, Stops, StopsText, FlowModel, IsModel, Text, ListedStep}
use Rattle.engine.proofs.Common.{AreZonesOf, ZonedListing, read_by_name, Limits, not_alike, ◌>>=◌, model_of, one_deck, AreDecksAs, second_by, Second, of_both, of_first, of_second, InputCounts}
use Rattle.engine.proofs.Common.{cell_count, AreDecks, Decks, AreDecksOf, IsNoSecond, IfErr, second_in, reads, ReadsOn, names_in, AreAlike, IfSome, option_map, IsSecond, err_from_is_err_and, IsErrAnd}
use Rattle.engine.proofs.Common.{BadName, TextFault}
use Rattle.std.proofs.Common.{false, All}
use Rattle.name_file.specs.Pairs.{Pairs}
use Rattle.engine.specs.declared.two_decks.Second.{Second as SecondBy}
use Rattle.outside.specs.declared.traits.Folder.{Ghosts as FolderOf}
use Rattle.outside.proofs.NameTests.{is_taken, is_good}
use Rattle.model_reader.proofs.ReadLemmas.{both_read as in_a_row}
use Rattle.outside.specs.declared.inputs.TextFault.TheVariants as texts
use Rattle.outside.specs.declared.inputs.InputFault.TheVariants as input

not_good : (name : Text) → (IsGoodName name → ⊥) → is_good_name name ≡ false
not_good name bad = by_test (is_good_name name) refl
  where
    by_test : (b : Bool) → is_good_name name ≡ b → is_good_name name ≡ false
    by_test true e = absurd (bad (is_good name e))
    by_test false e = e

-- a name that isn't taken stands for its refusal, and another one for what its files read as
pub bad_named : {T : Type 0} (name : Text) (read : Text → Result T Refusal) → (IsGoodName name → ⊥) → read_by_name name read ≡ Err (file_refusal BadName (codes "-"))
bad_named name read bad = rw (not_good name bad) refl

pub good_named : {T : Type 0} (name : Text) (read : Text → Result T Refusal) → IsGoodName name → read_by_name name read ≡ read name
good_named name read good = rw (is_taken name good) refl

-- what a reading of a name gave
module _ {T V : Type 0} (view : V → T) (name : Text) (r : Result T Refusal) where
  pub bad_reading : (fault : InputFault) → (IsGoodName name → ⊥) → IsRefusedBy (file_refusal BadName (codes "-")) fault → IsReading view (read_by_name name (λ n. r)) (Err fault)
  bad_reading (input.Refused refusal) bad is = bad_named name (λ n. r) bad ∙ ap Err (sym is)
  bad_reading other bad is = tt

  pub good_reading : (answer : Result V InputFault) → IsGoodName name → IsReading view r answer → IsReading view (read_by_name name (λ n. r)) answer
  good_reading answer good h = let P : Result T Refusal → Type 0 = λ x. IsReading view x answer in subst P (sym (good_named name (λ n. r) good)) h

pub reading_of : {T V : Type 0} (view : V → T) (r : Result T Refusal) (answer : Result V InputFault) → Has view answer r → IsReading view r answer
reading_of view r (Ok x) h = h
reading_of view r (Err (input.Refused refusal)) h = h
reading_of view r (Err other) h = tt

-- a reading that ended with the error of a call
pub passed_reading : {T V : Type 0} (view : V → T) (r : Result T Refusal) (answer : Result V InputFault) (fault : InputFault) →
    IsErrAnd answer (λ f. f ≡ fault) → IsReading view r (Err fault) → IsReading view r answer
passed_reading view r answer fault is h = let p = err_from_is_err_and answer is in subst (IsReading view r) (sym (p.1 ∙ ap Err p.2)) h

-- two readings in a row: the first one stopped, or the second one gave this
module _ {T U W : Type 0} (view : W → U) (r : Result T Refusal) (f : T → Result U Refusal) where
  pub stops_first : (fault : InputFault) → Stops fault r → IsReading view (r >>= f) (Err fault)
  stops_first (input.Refused refusal) h = rw h refl
  stops_first other h = tt

  pub unread_then : {V : Type 0} (first : V → T) (fault : InputFault) → IsReading first r (Err fault) → IsReading view (r >>= f) (Err fault)
  unread_then first (input.Refused refusal) h = rw h refl
  unread_then first other h = tt

  pub read_then : (x : T) (answer : Result W InputFault) → r ≡ Ok x → IsReading view (f x) answer → IsReading view (r >>= f) answer
  read_then x answer is h = let P : Result T Refusal → Type 0 = λ y. IsReading view (y >>= f) answer in subst P (sym is) h

-- a fault of a text, as one of a reading
pub text_read : {T V : Type 0} (view : V → T) (read : Result T Refusal) (fault : TextFault) → StopsText fault read → IsReading view read (Err (input_fault fault))
text_read view read (texts.Refused refusal) h = h
text_read view read texts.Memory h = tt

-- what a name stands for that isn't refused, files under it read as
pub named_read : {T : Type 0} (name : Text) (read : Text → Result T Refusal) (v : T) → read_by_name name read ≡ Ok v → read name ≡ Ok v
named_read {T} name read v = by_test (is_good_name name)
  where
    by_test : (b : Bool) → (if b then read name else Err (file_refusal BadName (codes "-"))) ≡ Ok v → read name ≡ Ok v
    by_test true e = e
    by_test false e = absurd (let bad : Path (Result T Refusal) (Err (file_refusal BadName (codes "-"))) (Ok v) = e in cc)

-- what reading a name file and then its packages gives
module _ (limits : Limits) (fs : FileSet) (name : Text) where
  pub unread_names : (fault : InputFault) → Stops fault (names_in fs name) → Stops fault (second_in limits fs name)
  unfolding second_in
  unread_names (input.Refused refusal) h = rw h refl
  unread_names other h = tt

  module _ (pairs : Pairs) (are : names_in fs name ≡ Ok pairs) where
    pub unread_model : (fault : InputFault) → Stops fault (model_of limits fs pairs) → Stops fault (second_in limits fs name)
    unfolding second_in
    unread_model (input.Refused refusal) h = rw (are, h) refl
    unread_model other h = tt

    pub second_read : (m : FlowModel) → model_of limits fs pairs ≡ Ok m → second_in limits fs name ≡ Ok (record { model = m; unlike = not_alike name pairs m.grid })
    unfolding second_in
    second_read m h = rw (are, h) refl

-- The model of the second deck of a name is the one that its files read as.
module _ (limits : Limits) (files : FileSet) (name : Text) where
  abbrev model_by : Result Second Refusal → Result FlowModel Refusal
  model_by r = r >>= λ b. Ok b.model

  reads_by : reads limits files name ≡ model_by (second_in limits files name)
  unfolding second_in reads
  reads_by = by_names (names_in files name)
    where
      by_model : (pairs : Pairs) (r : Result FlowModel Refusal) → r ≡ model_by (r >>= λ m. Ok (record { model = m; unlike = not_alike name pairs m.grid }))
      by_model pairs (Ok m) = refl
      by_model pairs (Err refusal) = refl

      by_names : (r : Result Pairs Refusal) → (r >>= model_of limits files) ≡
          model_by (r >>= λ pairs. model_of limits files pairs >>= λ m. Ok (record { model = m; unlike = not_alike name pairs m.grid }))
      by_names (Ok pairs) = by_model pairs (model_of limits files pairs)
      by_names (Err refusal) = refl

  named_by : read_by_name name (reads limits files) ≡ model_by (read_by_name name (second_in limits files))
  named_by = by_test (is_good_name name)
    where
      by_test : (good : Bool) → (if good then reads limits files name else Err (file_refusal BadName (codes "-"))) ≡
          model_by (if good then second_in limits files name else Err (file_refusal BadName (codes "-")))
      by_test true = reads_by
      by_test false = refl

  pub second_parts : (b : Second) → second_in limits files name ≡ Ok b → reads limits files name ≡ Ok b.model
  second_parts b h = reads_by ∙ ap model_by h

  named_second : (b : FlowModel) → read_by_name name (reads limits files) ≡ Ok b → (last : Second) × (read_by_name name (second_in limits files) ≡ Ok last) × (last.model ≡ b)
  named_second b h = by_second (read_by_name name (second_in limits files)) refl (sym named_by ∙ h)
    where
      by_second : (r : Result Second Refusal) → read_by_name name (second_in limits files) ≡ r → model_by r ≡ Ok b → (last : Second) ×
          (read_by_name name (second_in limits files) ≡ Ok last) × (last.model ≡ b)
      by_second (Ok last) is e = (last, is, (let same : Path (Result FlowModel Refusal) (Ok last.model) (Ok b) = e in cc))
      by_second (Err refusal) is e = absurd (let bad : Path (Result FlowModel Refusal) (Err refusal) (Ok b) = e in cc)

-- The decks.

-- the first deck's fault
pub unread_first : (limits : Limits) (name : Text) (to : Option Text) (fs : FileSet) (fault : InputFault) →
    IsReading {T = FlowModel} (λ m. m) (read_by_name name (reads limits fs)) (Err fault) → AreDecksAs limits name to fs (Err fault)
unread_first limits name to fs (input.Refused refusal) h = of_first h
unread_first limits name to fs other h = tt

module _ (limits : Limits) (name : Text) (fs : FileSet) (a : FlowModel) (h : read_by_name name (reads limits fs) ≡ Ok a) where
  -- one deck was read
  pub one_read : AreDecksAs limits name None fs (Ok (one_deck a))
  one_read = record { last = None; is_first = h; is_second = refl; are = refl; alike = tt }

  -- the second deck's fault
  pub unread_second : (to : Text) (fault : InputFault) → IsReading second_by (read_by_name to (second_in limits fs)) (Err fault) → AreDecksAs limits name (Some to) fs (Err fault)
  unread_second to (input.Refused refusal) k = of_second a h (ap (λ x. Some x) k)
  unread_second to other k = tt

  -- two were compared
  pub compared_decks : (to : Text) (b : SecondBy) → read_by_name to (second_in limits fs) ≡ Ok (second_by b) → (r : Result Decks InputFault) →
      IfOk r (AreDecksOf a b.model) → IfErr r (IsNoSecond a (second_by b)) → AreDecksAs limits name (Some to) fs r
  compared_decks to b k (Ok d) (is, alike) e =
      let P : Decks → Type 0 = λ x. AreDecksAs limits name (Some to) fs (Ok x) in
      subst P (sym is) (record { last = Some (second_by b); is_first = h; is_second = ap (λ x. Some x) k; are = refl; alike = alike })
  compared_decks to b k (Err (input.Refused refusal)) x (d, first, never, is) = of_both a (second_by b) d h (ap (λ x. Some x) k) first never is
  compared_decks to b k (Err other) x e = tt

-- One deck was read, or two that are alike.
pub decks_read : (limits : Limits) (name : Text) (to : Option Text) (fs : FileSet) (a : FlowModel) (second : Option FlowModel) → read_by_name name (reads limits fs) ≡ Ok a →
    option_map (λ last. read_by_name last (reads limits fs)) to ≡ option_map (λ m. Ok m) second → IfSome second (IsSecond a) → AreDecksAs limits name to fs (Ok (record { first = a; second = second }))
decks_read limits name None fs a None h k valid = one_read limits name fs a h
decks_read limits name (Some to) fs a (Some b) h k valid =
    let (last, is, same) = named_second limits fs to b (let same : Path (Option (Result FlowModel Refusal)) (Some (read_by_name to (reads limits fs))) (Some (Ok b)) = k in cc) in
    record {
      last = Some last;
      is_first = h;
      is_second = ap (λ (r : Result Second Refusal). Some r) is;
      are = ap (λ (m : FlowModel). Some m) (sym same);
      alike =
          subst (AreAlike a) (sym same) valid.alike;
    }
decks_read limits name None fs a (Some b) h k valid = absurd (let bad : Path (Option (Result FlowModel Refusal)) None (Some (Ok b)) = k in cc)
decks_read limits name (Some to) fs a None h k valid = absurd (let bad : Path (Option (Result FlowModel Refusal)) (Some (read_by_name to (reads limits fs))) None = k in cc)

pub compared_valid : (a b : FlowModel) (r : Result Decks InputFault) → IsModel a → IsModel b → IfOk r (AreDecksOf a b) → IfOk r AreDecks
compared_valid a b (Ok d) first second (is, alike) = subst AreDecks (sym is) (record { first = first; second = record { model = second; alike = alike } })
compared_valid a b (Err fault) first second e = tt

-- a fault of one reading, as one of another
same_fault : (T U : Type 0) (n m : ℕ) (fault : InputFault) → InputCounts {T = T} n m (Err fault) → InputCounts {T = U} n m (Err fault)
same_fault T U n m (input.Refused refusal) h = h
same_fault T U n m input.ReadFault h = h
same_fault T U n m input.Memory h = h

-- a reading that stops does the same to its folder as one of another kind that stops so
stops_alike : {S T U : Type 0} (F : FolderOf S) (old new : S) (fault : InputFault) → ReadsOn {T = T} F old new (Err fault) → ReadsOn {T = U} F old new (Err fault)
stops_alike {T = T} {U = U} F old new fault h = record { since = h.since; counts = same_fault T U (F.faults old) (F.faults new) fault h.counts; still = h.still }

-- what a reading does to its folder whose fault is passed on
pub stops_as : {S T U : Type 0} (F : FolderOf S) (old new : S) (fault : InputFault) (result : Result U InputFault) → IsErrAnd result (λ f. f ≡ fault) →
    ReadsOn {T = T} F old new (Err fault) → ReadsOn F old new result
stops_as F old new fault result is h = let p = err_from_is_err_and result is in subst (ReadsOn F old new) (sym (p.1 ∙ ap Err p.2)) (stops_alike F old new fault h)

-- and one that doesn't stop, with a result that no read fault is
pub reads_as : {S T U : Type 0} (F : FolderOf S) (old new : S) (x : T) (result : Result U InputFault) → ReadsOn {T = T} F old new (Ok x) →
    InputCounts (F.faults old) (F.faults old) result → ReadsOn F old new result
reads_as F old new x result h is = record { since = h.since; counts = subst (λ n. InputCounts (F.faults old) n result) (sym h.counts) is; still = h.still }

-- what two readings in a row do to their folder, of which the second one stops
pub stops_after : {S T U V : Type 0} (F : FolderOf S) (old mid new : S) (x : T) (fault : InputFault) → ReadsOn {T = T} F old mid (Ok x) →
    ReadsOn {T = U} F mid new (Err fault) → ReadsOn {T = V} F old new (Err fault)
stops_after F old mid new x fault first second = in_a_row first (stops_alike F mid new fault second)

-- and where neither stops, with a result that no read fault is
pub reads_both : {S T U V : Type 0} (F : FolderOf S) (old mid new : S) (x : T) (y : U) (result : Result V InputFault) → ReadsOn {T = T} F old mid (Ok x) →
    ReadsOn {T = U} F mid new (Ok y) → InputCounts (F.faults old) (F.faults old) result → ReadsOn {T = V} F old new result
reads_both F old mid new x y result first second = reads_as F old new y result (in_a_row first second)

refused_counts : (T : Type 0) (refusal : Refusal) (fault : InputFault) (n : ℕ) → IsRefusedBy refusal fault → InputCounts {T = T} n n (Err fault)
refused_counts T refusal (input.Refused given) n is = refl
refused_counts T refusal input.ReadFault n is = absurd is
refused_counts T refusal input.Memory n is = refl

pub compared_counts : (a : FlowModel) (b : Second) (r : Result Decks InputFault) (n : ℕ) → IfErr r (IsNoSecond a b) → InputCounts n n r
compared_counts a b (Ok d) n e = refl
compared_counts a b (Err fault) n (d, first, never, is) = refused_counts Decks (b.unlike d) fault n is

-- The zones of a zone file.

-- one number for each cell, each at most 999
pub zones_fit : (m : FlowModel) (zones : List ℤ) (numbers : List ℕ) → numbers ≡ map unsigned_abs zones → length zones ≡ cell_count m.grid → All (λ z. z ≤ 999) numbers → AreZonesOf m numbers
zones_fit m zones numbers is count limits = record { count = ap length is ∙ length-map zones unsigned_abs ∙ count; limits = limits }

pub zones_were_read : (read : Result (List ℤ) Refusal) (zones : List ℤ) (numbers : List ℕ) → read ≡ Ok zones → numbers ≡ map unsigned_abs zones →
    (read >>= λ zs. Ok (Some (map unsigned_abs zs))) ≡ Ok (Some numbers)
zones_were_read read zones numbers h is = rw (h, is) refl

same_listing : (x y : ZonedListing) → Path (Result ZonedListing Refusal) (Ok x) (Ok y) → x ≡ y
same_listing x y h = cc

-- what a listing and its zones were read from
pub zoned_parts : (z : Result (Option (List ℕ)) Refusal) (read : Option (List ℕ) → Result (List ListedStep) Refusal) (l : ZonedListing) →
    (z >>= λ zones. read zones >>= λ steps. Ok (record { zones = zones; steps = steps })) ≡ Ok l → (z ≡ Ok l.zones) × (read l.zones ≡ Ok l.steps)
zoned_parts (Err refusal) read l h = absurd (let bad : Path (Result ZonedListing Refusal) (Err refusal) (Ok l) = h in cc)
zoned_parts (Ok zones) read l h = by_steps (read zones) refl h
  where
    by_steps : (r : Result (List ListedStep) Refusal) → read zones ≡ r → (r >>= λ steps. Ok (record { zones = zones; steps = steps })) ≡ Ok l →
        (Path (Result (Option (List ℕ)) Refusal) (Ok zones) (Ok l.zones)) × (read l.zones ≡ Ok l.steps)
    by_steps (Err refusal) e k = absurd (let bad : Path (Result ZonedListing Refusal) (Err refusal) (Ok l) = k in cc)
    by_steps (Ok steps) e k =
        let same : record { zones = zones; steps = steps } ≡ l = same_listing (record { zones = zones; steps = steps }) l k in
        let P : ZonedListing → Type 0 = λ x. (Path (Result (Option (List ℕ)) Refusal) (Ok zones) (Ok x.zones)) × (read x.zones ≡ Ok x.steps) in
        subst P same (refl, e)
