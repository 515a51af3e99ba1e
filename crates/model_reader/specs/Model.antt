-- A model from its files, in reading order: each file is read when its turn comes.
use Rattle.std.specs.Prelude.{ℕ, List, Result, Ok, [], ◌∷◌, unwrap_or, Option, Some, None}
use Rattle.outside.specs.{FileSet, file_at, declared.inputs.Refusal.Refusal}
use Rattle.record_lines.specs.{◌>>=◌}
use Rattle.name_file.specs.Pairs.{Pairs}
use Rattle.name_file.specs.{file_of, names_of}
use Rattle.name_file.specs.declared.package.Package.TheVariants.{Dis, Bas, Lpf, Wel, Riv, Drn, Ghb, Rch, Chd, Evt}
use Rattle.model_types.specs.{declared.limits.Limits.Limits, declared.model.FlowModel.FlowModel}
use Rattle.dis_package.specs.{dis_of}
use Rattle.bas_package.specs.{bas_of}
use Rattle.lpf_package.specs.{lpf_of}
use Rattle.number_limits.specs.{check_result}
use Rattle.number_limits.specs.declared.passing.Check.TheVariants.{Thickness, StartHead, Properties}
use Rattle.name_file.specs.declared.package.Package.{Package}
use Rattle.list_package.specs.{given_heads, package_of}
use Rattle.stress_packages.specs.{wells, rivers, drains, generals, rch_of}
use Rattle.evt_package.specs.{evt_of}

-- The packages of a model.
-- the packages that a name file names
unfoldable pub names_in : FileSet → List ℕ → Result Pairs Refusal
names_in files name = do
  bytes ← file_at files name
  names_of name bytes

-- the file of a package that every model has
abbrev pub needed_file : Package → Pairs → List ℕ
needed_file asked names = unwrap_or (file_of asked names) []

-- the model with a package, if the name file names one
abbrev pub where_named : Option (List ℕ) → (List ℕ → FlowModel → Result FlowModel Refusal) → FlowModel → Result FlowModel Refusal
where_named None read m = Ok m
where_named (Some name) read m = read name m

-- the model that a package's reading gives for a file
unfoldable pub file_in : (List ℕ → List ℕ → FlowModel → Result FlowModel Refusal) → FileSet → List ℕ → FlowModel → Result FlowModel Refusal
file_in read files name m = do
  bytes ← file_at files name
  read name bytes m

-- the reading of a package of stresses
abbrev pub stress_of : Limits → FileSet → Package → List ℕ → List ℕ → FlowModel → Result FlowModel Refusal
stress_of limits files Wel = package_of limits wells
stress_of limits files Riv = package_of limits rivers
stress_of limits files Drn = package_of limits drains
stress_of limits files Ghb = package_of limits generals
stress_of limits files Rch = rch_of files
stress_of limits files Chd = package_of limits given_heads
stress_of limits files Evt = evt_of files
stress_of limits files other = λ file bytes m. Ok m

abbrev pub stress_in : Limits → FileSet → Pairs → Package → FlowModel → Result FlowModel Refusal
stress_in limits files names k = where_named (file_of k names) (file_in (stress_of limits files k) files)

-- The stresses of a model, in reading order: each file is read when its turn comes, where the name file names it.
abbrev pub stresses : List Package
stresses = Wel ∷ Riv ∷ Drn ∷ Ghb ∷ Rch ∷ Chd ∷ Evt ∷ []

unfoldable pub with_stresses : Limits → FileSet → Pairs → List Package → FlowModel → Result FlowModel Refusal
with_stresses limits files names [] m = Ok m
with_stresses limits files names (k ∷ ks) m = stress_in limits files names k m >>= with_stresses limits files names ks

unfoldable pub dis_in : Limits → FileSet → List ℕ → Result FlowModel Refusal
dis_in limits files dis = do
  bytes ← file_at files dis
  dis_of limits files dis bytes

-- the thickness of cells is refused with the file of the discretization, and then starting heads with that of BAS6
unfoldable pub basics_tested : List ℕ → List ℕ → FlowModel → Result (Unit {0}) Refusal
basics_tested dis bas basic = do
  thick ← check_result basic dis Thickness
  check_result basic bas StartHead

unfoldable pub bas_in : FileSet → List ℕ → List ℕ → FlowModel → Result FlowModel Refusal
bas_in files dis bas begun = do
  bytes ← file_at files bas
  basic ← bas_of files bas bytes begun
  tested ← basics_tested dis bas basic
  Ok basic

unfoldable pub lpf_in : FileSet → List ℕ → FlowModel → Result FlowModel Refusal
lpf_in files lpf basic = do
  bytes ← file_at files lpf
  flow ← lpf_of files lpf bytes basic
  good ← check_result flow lpf Properties
  Ok flow

-- DIS, BAS6, LPF, and then the stresses
unfoldable pub model_of : Limits → FileSet → Pairs → Result FlowModel Refusal
model_of limits files names = do
  begun ← dis_in limits files (needed_file Dis names)
  basic ← bas_in files (needed_file Dis names) (needed_file Bas names) begun
  flow ← lpf_in files (needed_file Lpf names) basic
  with_stresses limits files names stresses flow

-- the model that a name file describes, or the first refusal
unfoldable pub reads : Limits → FileSet → List ℕ → Result FlowModel Refusal
reads limits files name = do
  names ← names_in files name
  model_of limits files names
