-- What a reading gives, from what its parts give.
use Rattle.record_lines.proofs.Common.{◌≡◌, ℕ, zero, suc, ◌+◌, ◌*◌, Bool, true, false, if◌then◌else◌, List, [], ◌∷◌, length, All, Result, Ok, Err, refl, subst, arith, GivesOnly, ◌>>=◌}
use Rattle.record_lines.proofs.Common.{repeated_reading, appended_readings, each_number, FileSet, length-append, All-nil, All-cons, All-append}

module _ {A E : Type 0} {P : A → Type 0} where
  pub ok_gives_only : {x : A} → P x → GivesOnly {A = A} {E = E} P (Ok x)
  ok_gives_only {x} h = record { gives = λ y e. subst P (same y e) h }
    where
      same : (y : A) → Path (Result A E) (Ok x) (Ok y) → x ≡ y
      same y e = cc

  pub err_gives_only : {e : E} → GivesOnly {A = A} {E = E} P (Err e)
  err_gives_only {e} = record { gives = λ y h. absurd (clash y h) }
    where
      clash : (y : A) → Path (Result A E) (Err e) (Ok y) → ⊥
      clash y h = cc

  -- a test that is passed, and a fault that is not found
  pub if_passed : (b : Bool) (e : E) (r : Result A E) → (b ≡ true → GivesOnly P r) → GivesOnly P (if b then r else Err e)
  if_passed true e r h = h refl
  if_passed false e r h = err_gives_only

  pub if_clear : (b : Bool) (e : E) (r : Result A E) → (b ≡ false → GivesOnly P r) → GivesOnly P (if b then Err e else r)
  if_clear true e r h = err_gives_only
  if_clear false e r h = h refl

  pub either : {x y : Result A E} (b : Bool) → GivesOnly P x → GivesOnly P y → GivesOnly P (if b then x else y)
  either true g h = g
  either false g h = h

module _ {A B E : Type 0} {Q : B → Type 0} where
  -- a reading that goes on with what was read
  pub goes_on : (r : Result A E) (f : A → Result B E) → ((x : A) → r ≡ Ok x → GivesOnly Q (f x)) → GivesOnly Q (r >>= f)
  goes_on (Ok x) f h = h x refl
  goes_on (Err e) f h = err_gives_only

  pub then_ : {P : A → Type 0} {r : Result A E} (f : A → Result B E) → GivesOnly P r → ((x : A) → P x → GivesOnly Q (f x)) → GivesOnly Q (r >>= f)
  then_ {r = r} f g h = goes_on r f (λ x e. h x (g.gives x e))

pub gives_only_less : {A E : Type 0} {P Q : A → Type 0} {r : Result A E} → GivesOnly P r → ((x : A) → P x → Q x) → GivesOnly Q r
gives_only_less g h = record { gives = λ x e. h x (g.gives x e) }

-- what is read of each of the files that agree with a folder, of which there are some
pub some_give : {X E : Type 0} {P : X → Type 0} {read : FileSet → Result X E} {A : FileSet → Type 0} {x : X} → ((files : FileSet) → GivesOnly P (read files))
    → ((files : FileSet) × A files) → ((files : FileSet) → A files → read files ≡ Ok x) → P x
some_give each some is = (each some.0).gives _ (is some.0 some.1)

-- readings in a row, with what is known of the list by the state at its start
module _ {X S E : Type 0} (read : S → Result (X × S) E) (R : ℕ → S → List X × S → Type 0) (none : (s : S) → R 0 s ([], s))
    (one : (n : ℕ) (s : S) → GivesOnly (λ x. (more : List X × S) → R n x.1 more → R (suc n) s (x.0 ∷ more.0, more.1)) (read s)) where
  pub repeated_gives : (n : ℕ) (s : S) → GivesOnly (R n s) (repeated_reading n read s)
  unfolding repeated_reading
  repeated_gives zero s = ok_gives_only (none s)
  repeated_gives (suc n) s = then_ _ (one n s) (λ x k. then_ _ (repeated_gives n x.1) (λ more h. ok_gives_only (k more h)))

module _ {X S E : Type 0} (read : S → Result (X × S) E) (P : X → Type 0) (each : (s : S) → GivesOnly (λ x. P x.0) (read s)) where
  pub repeated_are : (n : ℕ) (s : S) → GivesOnly (λ x. (length x.0 ≡ n) × All P x.0) (repeated_reading n read s)
  repeated_are = repeated_gives read (λ n s x. (length x.0 ≡ n) × All P x.0) (λ s. (refl, All-nil P))
      (λ n s. gives_only_less (each s) (λ x p more h. (omega (arith, h.0), All-cons P x.0 more.0 p h.1)))

module _ {X S E : Type 0} (read : S → Result (List X × S) E) (width : ℕ) (P : X → Type 0) (each : (s : S) → GivesOnly (λ x. (length x.0 ≡ width) × All P x.0) (read s)) where
  pub appended_are : (n : ℕ) (s : S) → GivesOnly (λ x. (length x.0 ≡ n * width) × All P x.0) (appended_readings n read s)
  unfolding appended_readings
  appended_are zero s = ok_gives_only (omega arith, All-nil P)
  appended_are (suc n) s = then_ _ (each s) (λ x p. then_ _ (appended_are n x.1) (λ more h. ok_gives_only (omega (arith, length-append x.0 more.0, p.0, h.0), All-append P x.0 more.0 p.1 h.1)))

-- what each reading keeps of the state, readings in a row keep
module _ {X S E : Type 0} (Q : S → Type 0) where
  pub repeated_held : (read : S → Result (X × S) E) → ((s : S) → Q s → GivesOnly (λ x. Q x.1) (read s)) → (n : ℕ) (s : S) → Q s → GivesOnly (λ x. Q x.1) (repeated_reading n read s)
  unfolding repeated_reading
  repeated_held read held zero s h = ok_gives_only h
  repeated_held read held (suc n) s h = then_ _ (held s h) (λ x hx. then_ _ (repeated_held read held n x.1 hx) (λ more hm. ok_gives_only hm))

  pub appended_held : (read : S → Result (List X × S) E) → ((s : S) → Q s → GivesOnly (λ x. Q x.1) (read s)) → (n : ℕ) (s : S) → Q s → GivesOnly (λ x. Q x.1) (appended_readings n read s)
  unfolding appended_readings
  appended_held read held zero s h = ok_gives_only h
  appended_held read held (suc n) s h = then_ _ (held s h) (λ x hx. then_ _ (appended_held read held n x.1 hx) (λ more hm. ok_gives_only hm))

-- counted steps
module _ {S E : Type 0} (step : ℕ → S → Result S E) (I : ℕ → S → Type 0) (each : (i : ℕ) (s : S) → I i s → GivesOnly (I (i + 1)) (step i s)) where
  steps_give : (n i : ℕ) (s : S) → I i s → GivesOnly (I (i + n)) (each_number step i n s)
  unfolding each_number
  steps_give zero i s start = let e : i + 0 ≡ i = omega arith in ok_gives_only (rw e start)
  steps_give (suc n) i s start =
      let e : i + suc n ≡ (i + 1) + n = omega arith in
      rw e (then_ _ (each i s start) (λ t so. steps_give n (i + 1) t so))

  pub counted_gives : (n : ℕ) (s : S) → I 0 s → GivesOnly (I n) (each_number step 0 n s)
  counted_gives n s start = let e : 0 + n ≡ n = omega arith in rw e at (steps_give n 0 s start)
