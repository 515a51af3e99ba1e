-- A folder as clauses see it: a finite map from names to bytes.
use Rattle.std.specs.Prelude.{◌≡◌, ℕ, ◌<◌, ◌≤◌, List, [], ◌∷◌, length, cond, None, Some, IfSome, IsSomeAnd, Option, ◌⊎◌, Contains}
use Rattle.std.specs.Str.{bytes_eq}
use Rattle.outside.specs.{declared.traits.Found.Found, declared.traits.Found.TheVariants.Bytes, declared.traits.Found.TheVariants.Missing}
use Rattle.outside.specs.{declared.traits.Found.TheVariants.TooLong, Names.folder_name, Names.lines, Names.words}

-- a file: its name and its bytes
pub record File : Type 0 where
  pub name : List ℕ
  pub bytes : List ℕ

-- files, and how many bytes of one are read
pub record FileSet : Type 0 where
  pub files : List File
  pub limit : ℕ

-- these files, with this limit
abbrev pub with_limit : ℕ → List File → FileSet
with_limit limit files = record { files = files; limit = limit }

-- the bytes under a name: those of the first file of that name
abbrev pub bytes_under : List ℕ → List File → Option (List ℕ)
bytes_under name [] = None
bytes_under name (f ∷ files) = cond (bytes_eq name f.name) (Some f.bytes) (bytes_under name files)

-- what a reading of a file of at most limit bytes returns
abbrev pub IsFound : List File → List ℕ → ℕ → Found → Type 0
IsFound files name limit (Bytes v) = (bytes_under name files ≡ Some v.items) × (length v.items ≤ limit)
IsFound files name limit Missing = bytes_under name files ≡ None
IsFound files name limit TooLong = IsSomeAnd (bytes_under name files) (λ bytes. limit < length bytes)

-- bytes that were found are at most this many
abbrev pub IsNoLongerThan : ℕ → Found → Type 0
IsNoLongerThan limit (Bytes v) = length v.items ≤ limit
IsNoLongerThan limit Missing = Unit {0}
IsNoLongerThan limit TooLong = Unit {0}

-- what a reading of all remaining bytes, at most limit, returns
abbrev pub IsWholeReading : ℕ → Option (List ℕ) → Found → Type 0
IsWholeReading limit left (Bytes v) = IfSome left (λ bytes. v.items ≡ bytes) × (length v.items ≤ limit)
IsWholeReading limit left Missing = ⊥
IsWholeReading limit left TooLong = IfSome left (λ bytes. limit < length bytes)

-- What a folder of the system has read, and which files agree with it. It has one limit for all.
-- a reading: the name that was asked for, and what was found
pub record Read : Type 0 where
  pub name : List ℕ
  pub found : Found

-- the words given at the start, the limit, the readings, and the faults
pub record ReadState : Type 0 where
  pub given : List (List ℕ)
  pub limit : ℕ
  pub readings : List Read
  pub faults : ℕ

-- the reading of a name
abbrev pub reading_of : List ℕ → List Read → Option Read
reading_of name [] = None
reading_of name (r ∷ readings) = cond (bytes_eq name r.name) (Some r) (reading_of name readings)

-- the readings with one more, of this name
abbrev pub IsOneMore : List ℕ → List Read → List Read → Type 0
IsOneMore name readings [] = ⊥
IsOneMore name readings (r ∷ more) = (r.name ≡ name) × (more ≡ readings)

-- the bytes under a name are what was found there, where at most limit bytes were asked for
abbrev pub IsAsFound : Option (List ℕ) → ℕ → Found → Type 0
IsAsFound under limit (Bytes v) = under ≡ Some v.items
IsAsFound under limit Missing = under ≡ None
IsAsFound under limit TooLong = IsSomeAnd under (λ bytes. limit < length bytes)

-- the files under each name that was read are what was found there
abbrev pub AgreeWith : ℕ → List Read → List File → Type 0
AgreeWith limit readings files = (name : List ℕ) → IfSome (reading_of name readings) (λ r. IsAsFound (bytes_under name files) limit r.found)

-- the same, of files of which as many bytes are read as of those of the folder
abbrev pub AgreesWith : ReadState → FileSet → Type 0
AgreesWith s files = (files.limit ≡ s.limit) × AgreeWith s.limit s.readings files.files

-- one of these words is this name, with a slash for each backslash
abbrev pub AreNaming : List (List ℕ) → List ℕ → Type 0
AreNaming ws name = (word : List ℕ) × Contains ws word × (folder_name word ≡ name)

-- a word of what was found is this name
abbrev pub FoundNames : List ℕ → Found → Type 0
FoundNames name (Bytes v) = (line : List ℕ) × Contains (lines v.items) line × AreNaming (words line) name
FoundNames name Missing = ⊥
FoundNames name TooLong = ⊥

-- a word that was given, or a word of a file that was read, is this name
abbrev pub IsNamedBy : List (List ℕ) → List Read → List ℕ → Type 0
IsNamedBy given readings name = AreNaming given name ⊎ ((r : Read) × Contains readings r × FoundNames name r.found)

abbrev pub IsNamed : ReadState → List ℕ → Type 0
IsNamed s name = IsNamedBy s.given s.readings name

-- the folder may be asked for a file by such a name
abbrev pub MayAsk : ReadState → List ℕ → Type 0
MayAsk s name = IsNamed s name
