-- A model with convertible layers from its files, in reading order: as a confined model, with the other reading of LPF.
use Rattle.std.specs.Prelude.{ℕ, List, Result, Ok}
use Rattle.outside.specs.{FileSet, file_at, declared.inputs.Refusal.Refusal}
use Rattle.record_lines.specs.{◌>>=◌}
use Rattle.name_file.specs.Pairs.{Pairs}
use Rattle.name_file.specs.declared.package.Package.TheVariants.{Bas, Dis, Lpf}
use Rattle.model_types.specs.{declared.limits.Limits.Limits, declared.model.FlowModel.FlowModel}
use Rattle.number_limits.specs.{check_result, declared.passing.Check.TheVariants.Properties}
use Rattle.model_reader.specs.{bas_in, dis_in, names_in, needed_file, stresses, with_stresses}
use Rattle.water_table.specs.declared.convertible_layers.ConvertibleLayers.{ConvertibleLayers}
use Rattle.convertible_reader.specs.{Flow.convertible_lpf_of, Yields.yields_tested}

-- LPF; then the properties of cells are tested, and then SY
unfoldable pub convertible_lpf_in : FileSet → List ℕ → FlowModel → Result (FlowModel × ConvertibleLayers) Refusal
convertible_lpf_in files lpf basic = do
  bytes ← file_at files lpf
  read ← convertible_lpf_of files lpf bytes basic
  good ← check_result read.0 lpf Properties
  yields ← yields_tested read.0 read.1 lpf
  Ok read

-- DIS, BAS6, LPF, and then the stresses
unfoldable pub convertible_model_of : Limits → FileSet → Pairs → Result (FlowModel × ConvertibleLayers) Refusal
convertible_model_of limits files names = do
  begun ← dis_in limits files (needed_file Dis names)
  basic ← bas_in files (needed_file Dis names) (needed_file Bas names) begun
  flow ← convertible_lpf_in files (needed_file Lpf names) basic
  model ← with_stresses limits files names stresses flow.0
  Ok (model, flow.1)

-- the model that a name file describes and its convertible layers, or the first refusal
unfoldable pub convertible_reads : Limits → FileSet → List ℕ → Result (FlowModel × ConvertibleLayers) Refusal
convertible_reads limits files name = do
  names ← names_in files name
  convertible_model_of limits files names
