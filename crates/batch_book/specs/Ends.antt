-- The ends of jobs, each in the place of its job. `IsEnd job e` says that e is an end of the job with this number.
use Rattle.std.specs.Prelude.{◌≡◌, ℕ, ◌<◌, ◌^◌, List, [], ◌∷◌, length, Option, None, Some, IfSome, slice_get, slice_index_or}

-- the end in the place of a job, where it has one
abbrev pub end_at : {E : Type 0} → List (Option E) → ℕ → Option E
end_at places job = slice_index_or places job None

-- the job has an end
abbrev pub HasEnd : {E : Type 0} → List (Option E) → ℕ → Type 0
HasEnd {E} places job = (e : E) × (end_at places job ≡ Some e)

-- each end is an end of the job of its place
abbrev pub AreOwn : {E : Type 0} → (ℕ → E → Type 0) → List (Option E) → Type 0
AreOwn IsEnd places = (job : ℕ) → IfSome (end_at places job) (IsEnd job)

-- a place for each of `count` jobs, and each end is an end of the job of its place
pub record IsBook {E : Type 0} (IsEnd : ℕ → E → Type 0) (count : ℕ) (places : List (Option E)) : Type 0 where
  pub whole : length places ≡ count
  pub fits : count < 2 ^ 32
  pub own : AreOwn IsEnd places

-- the first of two ends, or the second where there is no first
abbrev pub first_of : {E : Type 0} → Option E → Option E → Option E
first_of None other = other
first_of (Some e) other = Some e

-- e is put into the place of a job; a job that has an end keeps it, and no other place changes
pub record IsPut {E : Type 0} (old : List (Option E)) (job : ℕ) (e : E) (new : List (Option E)) : Type 0 where
  pub here : end_at new job ≡ first_of (end_at old job) (Some e)
  pub others : (k : ℕ) → (k ≡ job → ⊥) → end_at new k ≡ end_at old k

-- the ends of others are moved to the jobs that have none
abbrev pub IsGathered : {E : Type 0} → List (Option E) → List (Option E) → List (Option E) → Type 0
IsGathered old others new = (job : ℕ) → job < length old → end_at new job ≡ first_of (end_at old job) (end_at others job)

-- the least of `count` jobs without an end, or none exactly where each job has one
abbrev pub IsMissing : {E : Type 0} → List (Option E) → ℕ → Option ℕ → Type 0
IsMissing places count None = (job : ℕ) → job < count → HasEnd places job
IsMissing places count (Some least) = (least < count) × (end_at places least ≡ None) × ((job : ℕ) → job < least → HasEnd places job)

-- one end for each of `count` jobs: entry i is an end of job i
pub record AreJobEnds {E : Type 0} (IsEnd : ℕ → E → Type 0) (count : ℕ) (ends : List E) : Type 0 where
  pub whole : length ends ≡ count
  pub each : (job : ℕ) (e : E) → slice_get ends job ≡ Some e → IsEnd job e

-- the ends of the places that have one, in order
abbrev pub those_there : {E : Type 0} → List (Option E) → List E
those_there [] = []
those_there (None ∷ places) = those_there places
those_there (Some e ∷ places) = e ∷ those_there places
