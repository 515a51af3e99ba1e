-- Some files agree with what was read, whatever it is.
use Rattle.outside.proofs.Common.{◌≡◌, ℕ, ◌+◌, Bool, true, false, List, [], ◌∷◌, cond, Option, None, IfSome, arith, refl, sym, subst, ◌∙◌, inl, inr, Some, get_or, Contains, length-replicate, bytes_eq}
use Rattle.outside.proofs.Common.{File, bytes_under, Read, IsAsFound, AgreeWith, reading_of, FileSet, IsOneMore, with_limit, ReadState, AgreesWith, FoundNames, IsNamedBy, FoundMay, lines, words}
use Rattle.outside.proofs.Common.{IsFound, IsNoLongerThan, Contains-get_or, Contains-append_right}
use Rattle.std.specs.Prelude.{IsSomeAnd, replicate}
use Rattle.std.proofs.lemmas.Slice.Eq.{bytes_eq-Decides}
use Rattle.outside.specs.{declared.traits.Found.Found, declared.traits.Found.TheVariants.Bytes, declared.traits.Found.TheVariants.Missing, declared.traits.Found.TheVariants.TooLong}

abbrev without : List ℕ → List File → List File
without name [] = []
without name (f ∷ files) = cond (bytes_eq name f.name) (without name files) (f ∷ without name files)

abbrev shown : List ℕ → ℕ → Found → List File → List File
shown name limit (Bytes v) files = record { name = name; bytes = v.items } ∷ files
shown name limit Missing files = without name files
shown name limit TooLong files = record { name = name; bytes = replicate (limit + 1) 0 } ∷ files

abbrev shown_all : ℕ → List Read → List File
shown_all limit [] = []
shown_all limit (r ∷ readings) = shown r.name limit r.found (shown_all limit readings)

module _ (n m : List ℕ) (f : File) (files : List File) where
  gone_more : bytes_under n (without n files) ≡ None → (b : Bool) → bytes_eq n f.name ≡ b → bytes_under n (without n (f ∷ files)) ≡ None
  gone_more rest true e = rw e rest
  gone_more rest false e = rw e (rw e rest)

  kept_more : bytes_eq m n ≡ false → bytes_under m (without n files) ≡ bytes_under m files → (b c : Bool) → bytes_eq n f.name ≡ b → bytes_eq m f.name ≡ c →
      bytes_under m (without n (f ∷ files)) ≡ bytes_under m (f ∷ files)
  kept_more apart rest true true e d = absurd (let same = (bytes_eq-Decides m n).1 ((bytes_eq-Decides m f.name).0 d ∙ sym ((bytes_eq-Decides n f.name).0 e)) in cc)
  kept_more apart rest true false e d = rw (e, d) rest
  kept_more apart rest false true e d = rw e (rw d refl)
  kept_more apart rest false false e d = rw e (rw d rest)

gone : (n : List ℕ) (files : List File) → bytes_under n (without n files) ≡ None
gone n [] = refl
gone n (f ∷ files) = gone_more n n f files (gone n files) (bytes_eq n f.name) refl

-- under another name nothing changes
kept : (n m : List ℕ) (files : List File) → bytes_eq m n ≡ false → bytes_under m (without n files) ≡ bytes_under m files
kept n m [] apart = refl
kept n m (f ∷ files) apart = kept_more n m f files apart (kept n m files apart) (bytes_eq n f.name) (bytes_eq m f.name) refl refl

module _ (files : List File) (m n : List ℕ) (limit : ℕ) where
  here : (found : Found) → bytes_eq m n ≡ true → IsAsFound (bytes_under m (shown n limit found files)) limit found
  here (Bytes v) e = rw e refl
  here Missing e = let P : List ℕ → Type 0 = λ k. bytes_under k (without n files) ≡ None in subst P (sym ((bytes_eq-Decides m n).0 e)) (gone n files)
  here TooLong e = rw e (omega (arith, length-replicate {A = ℕ} (limit + 1) 0))

  there : (found : Found) → bytes_eq m n ≡ false → bytes_under m (shown n limit found files) ≡ bytes_under m files
  there (Bytes v) e = rw e refl
  there Missing e = kept n m files e
  there TooLong e = rw e refl

module _ (limit : ℕ) where
  abbrev Holds : List ℕ → List File → Option Read → Type 0
  Holds name files reading = IfSome reading (λ r. IsAsFound (bytes_under name files) limit r.found)

  agrees_more : (r : Read) (readings : List Read) (files : List File) (name : List ℕ) → Holds name files (reading_of name readings) → (b : Bool) →
      bytes_eq name r.name ≡ b → Holds name (shown r.name limit r.found files) (reading_of name (r ∷ readings))
  agrees_more r readings files name rest true e = rw e (here files name r.name limit r.found e)
  agrees_more r readings files name rest false e = rw (e, there files name r.name limit r.found e) rest

  agrees : (readings : List Read) → AgreeWith limit readings (shown_all limit readings)
  agrees [] name = tt
  agrees (r ∷ readings) name = agrees_more r readings (shown_all limit readings) name (agrees readings name) (bytes_eq name r.name) refl

  -- some files agree with what was read
  pub some_agree : (readings : List Read) → (files : List File) × AgreeWith limit readings files
  some_agree readings = (shown_all limit readings, agrees readings)

-- and a folder's limit
pub all_agree : (s : ReadState) → (files : FileSet) × AgreesWith s files
all_agree s = let (files, agree) = some_agree s.limit s.readings in (with_limit s.limit files, (refl, agree))

-- Names that were given, or that are words of a file that was read.
-- what holds of each name among the words of what was found
found_may : (P : List ℕ → Type 0) (found : Found) → ((name : List ℕ) → FoundNames name found → P name) → FoundMay P found
found_may P (Bytes v) h = λ k d lt i e less.
    h _ (get_or (lines v.items) k d, Contains-get_or (lines v.items) k d lt, (get_or (words (get_or (lines v.items) k d)) i e, Contains-get_or (words (get_or (lines v.items) k d)) i e less, refl))
found_may P Missing h = tt
found_may P TooLong h = tt

-- each word of what was found may be asked for, if it is named
pub found_asked : (given : List (List ℕ)) (readings : List Read) (found : Found) → ((name : List ℕ) → FoundNames name found → IsNamedBy given readings name) →
    FoundMay (λ name. IsNamedBy given readings name) found
found_asked given readings found named = found_may (λ name. IsNamedBy given readings name) found named

module _ {X : Type 0} (x : X) (xs : List X) where
  at_front : (y : X) → x ≡ y → Contains (x ∷ xs) y
  at_front y e = subst (Contains (x ∷ xs)) e (0, omega arith, refl)

  behind : (y : X) → Contains xs y → Contains (x ∷ xs) y
  behind y h = Contains-append_right (x ∷ []) xs y h

module _ (name : List ℕ) (x : Read) (readings : List Read) (r : Read) where
  first_or_rest : ((reading_of name readings ≡ Some r) → Contains readings r) → (b : Bool) → bytes_eq name x.name ≡ b → reading_of name (x ∷ readings) ≡ Some r → Contains (x ∷ readings) r
  first_or_rest rest true is e = let same : Some x ≡ Some r = rw is at e in at_front x readings r cc
  first_or_rest rest false is e = behind x readings r (rest (rw is at e))

-- a reading of a name is one of the readings
pub reading_kept : (name : List ℕ) (readings : List Read) (r : Read) → reading_of name readings ≡ Some r → Contains readings r
reading_kept name [] r e = absurd cc
reading_kept name (x ∷ readings) r e = first_or_rest name x readings r (reading_kept name readings r) (bytes_eq name x.name) refl e

module _ (given : List (List ℕ)) (readings : List Read) where
  -- a word of what was found before is named
  pub known_named : (name : List ℕ) (r : Read) → reading_of name readings ≡ Some r → (word : List ℕ) → FoundNames word r.found → IsNamedBy given readings word
  known_named name r is word h = inr (r, reading_kept name readings r is, h)

-- What a folder answers, by the readings that it keeps.
-- what is under a name, and within the limit
pub is_found : (files : List File) (name : List ℕ) (limit : ℕ) (found : Found) → IsAsFound (bytes_under name files) limit found → IsNoLongerThan limit found → IsFound files name limit found
is_found files name limit (Bytes v) is within = (is, within)
is_found files name limit Missing is within = is
is_found files name limit TooLong is within = is

module _ (limit : ℕ) where
  -- a reading of this name says what is under it
  pub by_reading : (readings : List Read) (files : List File) (name : List ℕ) (r : Read) → AgreeWith limit readings files → reading_of name readings ≡ Some r →
      IsAsFound (bytes_under name files) limit r.found
  by_reading readings files name r agree is = let P : Option Read → Type 0 = λ o. IfSome o (λ r. IsAsFound (bytes_under name files) limit r.found) in subst P is (agree name)

  module _ (readings : List Read) (files : List File) (r : Read) where
    abbrev IsRead : List ℕ → Option Read → Type 0
    IsRead name reading = IfSome reading (λ x. IsAsFound (bytes_under name files) limit x.found)

    by_name : reading_of r.name readings ≡ None → AgreeWith limit (r ∷ readings) files → (name : List ℕ) (b : Bool) → bytes_eq name r.name ≡ b → IsRead name (reading_of name readings)
    by_name missing agree name true e =
        let P : List ℕ → Type 0 = λ n. reading_of n readings ≡ None in
        let none = subst P (sym ((bytes_eq-Decides name r.name).0 e)) missing in
        subst (IsRead name) (sym none) tt
    by_name missing agree name false e = let P : Bool → Type 0 = λ b. IsRead name (cond b (Some r) (reading_of name readings)) in subst P e (agree name)

    -- what agrees with one reading more, of a name that had none, agreed before
    pub earlier : reading_of r.name readings ≡ None → AgreeWith limit (r ∷ readings) files → AgreeWith limit readings files
    earlier missing agree name = by_name missing agree name (bytes_eq name r.name) refl

-- One reading more, of a name that had none.
module _ (name : List ℕ) (readings : List Read) where
  pub more_agrees : (limit : ℕ) (more : List Read) (files : List File) → IsOneMore name readings more → reading_of name readings ≡ None → AgreeWith limit more files → AgreeWith limit readings files
  more_agrees limit [] files is missing agree = absurd is
  more_agrees limit (r ∷ rest) files is missing agree = earlier limit readings files r (rw is.0 missing) (subst (λ rs. AgreeWith limit (r ∷ rs) files) is.1 agree)

  -- what was named is named after it
  pub more_named : (given : List (List ℕ)) (more : List Read) → IsOneMore name readings more → (other : List ℕ) → IsNamedBy given readings other → IsNamedBy given more other
  more_named given [] is other h = absurd is
  more_named given (r ∷ rest) is other (inl h) = inl h
  more_named given (r ∷ rest) is other (inr h) = inr (h.0, rw is.1 (behind r readings h.0 h.1), h.2)

  pub more_known : (more : List Read) → IsOneMore name readings more → IsSomeAnd (reading_of name more) (λ _. Unit {0})
  more_known [] is = absurd is
  more_known (r ∷ rest) is = rw ((bytes_eq-Decides name r.name).1 (sym is.0)) tt
