-- The packages of a model and the names of their files.
use Rattle.std.specs.Prelude.{◌≡◌, ℕ, Bool, true, false, List, map, Option, is_some, All}
use Rattle.std.specs.{List.IsDistinct, Map.lookup}
use Rattle.outside.specs.{IsGoodName, folder_name}
use Rattle.name_file.specs.declared.package.Package.{Package}
use Rattle.name_file.specs.declared.package.Package.TheVariants.{Dis, Bas, Lpf, Wel, Riv, Drn, Ghb, Rch, Chd, Evt}

-- pairs of a package and its file's name, in the order of the name file
abbrev pub Pairs : Type 0
Pairs = List (Package × List ℕ)

-- two packages are the same one
abbrev pub is_same_package : Package → Package → Bool
is_same_package Dis Dis = true
is_same_package Bas Bas = true
is_same_package Lpf Lpf = true
is_same_package Wel Wel = true
is_same_package Riv Riv = true
is_same_package Drn Drn = true
is_same_package Ghb Ghb = true
is_same_package Rch Rch = true
is_same_package Chd Chd = true
is_same_package Evt Evt = true
is_same_package asked other = false

-- the file of the pair that has this package; None where no pair has it
abbrev pub file_of : Package → Pairs → Option (List ℕ)
file_of asked names = lookup (is_same_package asked) names

abbrev pub has_package : Package → Pairs → Bool
has_package asked names = is_some (file_of asked names)

-- the packages that have a pair
abbrev pub packages_of : Pairs → List Package
packages_of names = map (λ pair. pair.0) names

-- each package at most once, and each name a good one
pub record AreFiles (names : Pairs) : Type 0 where
  pub distinct : IsDistinct is_same_package (packages_of names)
  pub good : All (λ pair. IsGoodName pair.1) names

-- every model has the discretization, the basic package and the layer-property flow package
pub record HasNeededPackages (names : Pairs) : Type 0 where
  pub discretization : has_package Dis names ≡ true
  pub basic : has_package Bas names ≡ true
  pub flow : has_package Lpf names ≡ true

-- whether every model has the package
abbrev pub is_needed : Package → Bool
is_needed Dis = true
is_needed Bas = true
is_needed Lpf = true
is_needed Wel = false
is_needed Riv = false
is_needed Drn = false
is_needed Ghb = false
is_needed Rch = false
is_needed Chd = false
is_needed Evt = false

-- Files of packages that a folder may be asked for.
-- the file of each package may be
pub record NamesMay (may : List ℕ → Type 0) (names : Pairs) : Type 0 where
  pub each : All (λ pair. may (folder_name pair.1)) names
