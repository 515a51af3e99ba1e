-- Readings one after the other, and what comes of the whole.
use Rattle.model_reader.proofs.Common.{◌≡◌, ℕ, List, Ok, length, refl, sym, subst, FileSet, file_at, input_fault, Stops, StopsText, FlowModel, check_result, bas_in, basics_tested, lpf_in, lpf_of, ◌+◌}
use Rattle.model_reader.proofs.Common.{◌<◌, Result, ◌>>=◌, Has, stress_in, with_stresses, ◌∙◌, drop, drop-cons, get_or, add-one, ReadsOn, ◌≤◌, InputCounts, Properties, stops_all, Pairs, bas_of}
use Rattle.model_reader.proofs.Common.{Refusal, InputFault, Limits, drop_all}
use Rattle.outside.specs.{declared.inputs.TextFault.TextFault, declared.traits.Folder.Ghosts as FolderOf}
use Rattle.name_file.specs.declared.package.Package.{Package}
use Rattle.outside.specs.declared.inputs.TextFault.TheVariants as texts

-- what two readings in a row do to their folder
pub both_read : {S T U : Type 0} {F : FolderOf S} {old mid new : S} {x : T} {result : Result U InputFault} → ReadsOn F old mid (Ok x) → ReadsOn F mid new result → ReadsOn F old new result
both_read {F = F} {new = new} {result = result} first second = record {
  since = λ files agree. first.since files (second.since files agree);
  counts = subst (λ n. InputCounts n (F.faults new) result) first.counts second.counts;
  still = λ name h. second.still name (first.still name h);
}

-- what comes of the rest comes of the whole
pub goes_on : {X Y T : Type 0} (view : T → Y) (answer : Result T InputFault) (r : Result X Refusal) (k : X → Result Y Refusal) (v : X) → r ≡ Ok v → Has view answer (k v) → Has view answer (r >>= k)
goes_on {X} view answer r k v e h = subst (λ (x : Result X Refusal). Has view answer (x >>= k)) (sym e) h

-- a text's reading that stops stops the whole
pub text_stops_here : {X Y : Type 0} (fault : TextFault) (r : Result X Refusal) (k : X → Result Y Refusal) → StopsText fault r → Stops (input_fault fault) (r >>= k)
text_stops_here (texts.Refused refusal) r k h = rw h refl
text_stops_here texts.Memory r k h = tt

-- nothing was read
pub reads_nothing : {S T : Type 0} {F : FolderOf S} {s : S} {x : T} → ReadsOn F s s (Ok x)
reads_nothing = record { since = λ files agree. agree; counts = refl; still = λ name h. h }

-- the next package of stresses is read, or its reading stops
module _ (limits : Limits) (files : FileSet) (names : Pairs) (ks : List Package) (i : ℕ) (d : Package) (inside : i < length ks) (m : FlowModel) where
  next : with_stresses limits files names (drop i ks) m ≡ (stress_in limits files names (get_or ks i d) m >>= with_stresses limits files names (drop (i + 1) ks))
  unfolding with_stresses
  next = rw (drop-cons ks i d inside, add-one i) refl

  pub stress_read : (n : FlowModel) (r : Result FlowModel Refusal) → stress_in limits files names (get_or ks i d) m ≡ Ok n →
      with_stresses limits files names (drop i ks) m ≡ r → with_stresses limits files names (drop (i + 1) ks) n ≡ r
  stress_read n r h so_far = let one : with_stresses limits files names (drop i ks) m ≡ with_stresses limits files names (drop (i + 1) ks) n = next ∙ rw h refl in sym one ∙ so_far

  pub stress_stops : (fault : InputFault) (r : Result FlowModel Refusal) → Stops fault (stress_in limits files names (get_or ks i d) m) →
      with_stresses limits files names (drop i ks) m ≡ r → Stops fault r
  stress_stops fault r h so_far = subst (Stops fault) so_far
      (subst (Stops fault) (sym next) (stops_all fault (stress_in limits files names (get_or ks i d) m) (with_stresses limits files names (drop (i + 1) ks)) h))

pub stresses_done : (limits : Limits) (files : FileSet) (names : Pairs) (ks : List Package) (i : ℕ) (m : FlowModel) (r : Result FlowModel Refusal) → length ks ≤ i
    → with_stresses limits files names (drop i ks) m ≡ r → r ≡ Ok m
unfolding with_stresses
stresses_done limits files names ks i m r le so_far = let none : with_stresses limits files names (drop i ks) m ≡ Ok m = rw (drop_all i ks le) refl in sym so_far ∙ none

-- the file and its reading, and then the tests
pub bas_next : (files : FileSet) (dis bas bytes : List ℕ) (begun read basic : FlowModel) → file_at files bas ≡ Ok bytes → read ≡ begun → bas_of files bas bytes read ≡ Ok basic
    → bas_in files dis bas begun ≡ (basics_tested dis bas basic >>= λ tested. Ok basic)
unfolding bas_in
bas_next files dis bas bytes begun read basic a same b = rw (a, ← same, b) refl

pub lpf_next : (files : FileSet) (lpf bytes : List ℕ) (basic read flow : FlowModel) → file_at files lpf ≡ Ok bytes → read ≡ basic → lpf_of files lpf bytes read ≡ Ok flow
    → lpf_in files lpf basic ≡ (check_result flow lpf Properties >>= λ good. Ok flow)
unfolding lpf_in
lpf_next files lpf bytes basic read flow a same b = rw (a, ← same, b) refl
