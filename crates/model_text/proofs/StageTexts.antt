-- A model's packages of stresses are read one after the other, each where the model has it.
use Rattle.model_text.proofs.Common.{◌≡◌, ◌⊎◌, inl, inr, ℕ, zero, suc, ℤ, pos, negsuc, Bool, true, false, not, nat_lt, if◌then◌else◌, List, [], ◌∷◌, length, map, All, Option, Some, None, Ok, refl, ap}
use Rattle.model_text.proofs.Common.{◌∙◌, arith, AllZip, or_parts, nat_tests, nil_from_length, All-head, All-tail, FileSet, file_at, FlowModel, Period, HasSize, cell_count, is_int, where_named, text}
use Rattle.model_text.proofs.Common.{Line, list_lines, is_listed, HasLists, HasPackage, LacksPackage, IsListOf, with_lists, ListsReadAsWritten, with_areas, Result, Refusal, no_area, is_option}
use Rattle.model_text.proofs.Common.{ArrayKind, with_area, Limits, Dec, Kind, Area}
use Rattle.model_reader.specs.{file_in}
use Rattle.list_package.specs.{with_list as put, package_of}

-- the model with these options, and with each period at this stage
abbrev pub staged : FlowModel → ℤ → ℤ → (Period → Period) → FlowModel
staged m nrchop nevtop stage = record m { nrchop = nrchop; nevtop = nevtop; periods = map stage m.periods }

is_empty : {X : Type 0} (xs : List X) → nat_lt 0 (length xs) ≡ false → xs ≡ []
is_empty xs h = let none : length xs ≡ 0 = grind (arith, nat_tests) in nil_from_length xs none

pub same_stage : (f g : Period → Period) (P : Period → Type 0) → ((p : Period) → P p → g p ≡ f p) → (ps : List Period) → All P ps → map g ps ≡ map f ps
same_stage f g P same [] h = refl
same_stage f g P same (p ∷ ps) h = rw (same p (All-head P p ps h)) (ap (λ (qs : List Period). f p ∷ qs) (same_stage f g P same ps (All-tail P p ps h)))

-- a package is read where the model has it
read_where : (files : FileSet) (name : List ℕ) (lines : List Line) (read : List ℕ → List ℕ → FlowModel → Result FlowModel Refusal) (before after : FlowModel) (b : Bool) (named : Option (List ℕ))
    → named ≡ (if b then Some name else None) → (b ≡ true → file_at files name ≡ Ok (text lines)) → (b ≡ true → read name (text lines) before ≡ Ok after) → (b ≡ false → after ≡ before)
    → where_named named (file_in read files) before ≡ Ok after
unfolding file_in
read_where files name lines read before after true named asked there reads same = rw (asked, there refl, reads refl) refl
read_where files name lines read before after false named asked there reads same = rw (asked, same refl) refl

-- A list package: the next stage has its lists.
module _ {E : Type 0} (kind : Kind E) (stage : Period → Period) where
  abbrev pub with_list : Period → Period
  with_list p = put kind (stage p) (kind.list p.stresses)

  abbrev lists_of : List Period → List (List E)
  lists_of ps = map (λ p. kind.list p.stresses) ps

  lists_put : (ps : List Period) → with_lists kind (map stage ps) (lists_of ps) ≡ map with_list ps
  lists_put [] = refl
  lists_put (p ∷ ps) = ap (λ (qs : List Period). with_list p ∷ qs) (lists_put ps)

  none_put : ((p : Period) → put kind (stage p) [] ≡ stage p) → (ps : List Period) → is_listed (λ p. kind.list p.stresses) ps ≡ false → map with_list ps ≡ map stage ps
  none_put empty [] none = refl
  none_put empty (p ∷ ps) none =
      let parts = or_parts (nat_lt 0 (length (kind.list p.stresses))) (is_listed (λ q. kind.list q.stresses) ps) none in
      let bare : kind.list p.stresses ≡ [] = is_empty (kind.list p.stresses) parts.0 in
      let first : with_list p ≡ stage p = ap (λ (xs : List E). put kind (stage p) xs) bare ∙ empty p in
      rw first (ap (λ (qs : List Period). stage p ∷ qs) (none_put empty ps parts.1))

  all_lists : (limits : Limits) (cells : ℕ) → ((p : Period) (xs : List E) → kind.suits (stage p) xs ≡ kind.suits p xs) → (ps : List Period)
      → All (λ p. IsListOf limits kind cells p (kind.list p.stresses)) ps → AllZip (λ p xs. IsListOf limits kind cells p xs) (map stage ps) (lists_of ps)
  all_lists limits cells same [] h = tt
  all_lists limits cells same (p ∷ ps) h =
      let first : IsListOf limits kind cells p (kind.list p.stresses) = All-head (λ q. IsListOf limits kind cells q (kind.list q.stresses)) p ps h in
      let rest = All-tail (λ q. IsListOf limits kind cells q (kind.list q.stresses)) p ps h in
      (record { few = first.few; entries = first.entries; once = first.once; suits = same p (kind.list p.stresses) ∙ first.suits }, all_lists limits cells same ps rest)

module _ {E : Type 0} (limits : Limits) (kind : Kind E) (cell : E → ℕ) (numbers : E → List Dec) (reads : ListsReadAsWritten kind cell numbers)
    (m : FlowModel) (size : HasSize m.grid) (lists : HasLists limits kind m) (files : FileSet) (name : List ℕ) (nrchop nevtop : ℤ) (stage : Period → Period)
    (suits : (p : Period) (xs : List E) → kind.suits (stage p) xs ≡ kind.suits p xs) (empty : (p : Period) → put kind (stage p) [] ≡ stage p) where
  pub list_stage : (named : Option (List ℕ)) → named ≡ (if is_listed (λ p. kind.list p.stresses) m.periods then Some name else None)
      → (is_listed (λ p. kind.list p.stresses) m.periods ≡ true → file_at files name ≡ Ok (text (list_lines m.grid cell numbers (map (λ p. kind.list p.stresses) m.periods))))
      → where_named named (file_in (package_of limits kind) files) (staged m nrchop nevtop stage) ≡ Ok (staged m nrchop nevtop (with_list kind stage))
  unfolding package_of
  list_stage named asked there =
      let good = all_lists kind stage limits (cell_count m.grid) suits m.periods lists in
      let read = reads limits name m.grid (map stage m.periods) (map (λ p. kind.list p.stresses) m.periods) size good in
      read_where files name _ _ _ _ (is_listed (λ p. kind.list p.stresses) m.periods) named asked there (λ e. rw (read, lists_put kind stage m.periods) refl)
      (λ e. rw (none_put kind stage empty m.periods e) refl)

option_is_some : (z : ℤ) → is_option z ≡ true → is_int z 0 ≡ false
option_is_some (pos zero) h = absurd (cc)
option_is_some (pos (suc n)) h = grind (arith, nat_tests)
option_is_some (negsuc n) h = absurd (cc)

-- The next stage has the arrays of this kind.
abbrev pub with_arrays : ArrayKind → (Period → Period) → Period → Period
with_arrays kind stage p = with_area kind (stage p) (kind.area p.stresses)

pub arrays_put : (kind : ArrayKind) (stage : Period → Period) (ps : List Period) → with_areas kind (map stage ps) ps ≡ map (with_arrays kind stage) ps
arrays_put kind stage [] = refl
arrays_put kind stage (p ∷ ps) = ap (λ (qs : List Period). with_arrays kind stage p ∷ qs) (arrays_put kind stage ps)

module _ (kind : ArrayKind) (m : FlowModel) (option : ℤ) (files : FileSet) (name : List ℕ) (lines : List Line) (read : List ℕ → List ℕ → FlowModel → Result FlowModel Refusal)
    (at : ℤ → List Period → FlowModel) (stage : Period → Period) (empty : (p : Period) → with_area kind (stage p) no_area ≡ stage p)
    (reads : HasPackage kind option m → read name (text lines) (at (pos 0) (map stage m.periods)) ≡ Ok (at option (with_areas kind (map stage m.periods) m.periods))) where
  pub arrays_stage : (named : Option (List ℕ)) → HasPackage kind option m ⊎ LacksPackage kind option m → named ≡ (if not (is_int option 0) then Some name else None)
      → (not (is_int option 0) ≡ true → file_at files name ≡ Ok (text lines)) → where_named named (file_in read files) (at (pos 0) (map stage m.periods)) ≡
      Ok (at option (map (with_arrays kind stage) m.periods))
  arrays_stage named (inl w) asked there =
      let is_in : is_int option 0 ≡ false = option_is_some option w.active in
      read_where files name lines read _ _ true named (rw is_in at asked) (λ e. there (rw is_in refl)) (λ e. rw (arrays_put kind stage m.periods) at (reads w))
      (λ e. absurd (let clash : true ≡ false = e in cc))
  arrays_stage named (inr w) asked there =
      let out : is_int option 0 ≡ true = rw w.off refl in
      let same = same_stage stage (with_arrays kind stage) (λ p. kind.area p.stresses ≡ no_area) (λ p e. ap (λ (a : Area). with_area kind (stage p) a) e ∙ empty p) m.periods w.none in
      read_where files name lines read _ _ false named (rw out at asked) (λ e. absurd (let clash : false ≡ true = e in cc)) (λ e.
      absurd (let clash : false ≡ true = e in cc)) (λ e. rw (w.off, same) refl)
