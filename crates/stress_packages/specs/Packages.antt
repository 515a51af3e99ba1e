-- The packages of wells, rivers, drains and general heads (TM 6-A16, WEL, RIV, DRN, GHB).
use Rattle.model_types.specs.{declared.entry.Entry.Entry, declared.model.FlowModel.FlowModel}
use Rattle.list_package.specs.declared.entries.ListKind.TheVariants.{Wells, Rivers, Drains, Generals}
use Rattle.list_package.specs.{kind_of, Kind}
use Rattle.std.specs.Prelude.{ℕ, false, List, [], Result, Ok}
use Rattle.outside.specs.{FileSet, declared.inputs.Refusal.Refusal}
use Rattle.record_lines.specs.{◌>>=◌}
use Rattle.period_arrays.specs.{ArrayKind, arrays_in, declared.read.ArrayFile.ArrayFile}

abbrev pub wells : Kind Entry
wells = kind_of Wells

abbrev pub rivers : Kind Entry
rivers = kind_of Rivers

abbrev pub drains : Kind Entry
drains = kind_of Drains

abbrev pub generals : Kind Entry
generals = kind_of Generals

-- The recharge package (TM 6-A16, RCH).
-- RECH, and under option 2 IRCH
abbrev pub recharge_arrays : ArrayKind
recharge_arrays = record {
  evaporates = false;
  area = λ s. record { surfaces = []; rates = s.recharge; depths = []; layers = s.irch };
  put = λ s area. record s { recharge = area.rates; irch = area.layers };
  test = λ file grid ibound option area. Ok tt;
}

-- the model with NRCHOP and the arrays of its periods
abbrev pub with_recharge : FlowModel → ArrayFile → FlowModel
with_recharge m a = record m { nrchop = a.option; periods = a.periods }

unfoldable pub rch_of : FileSet → List ℕ → List ℕ → FlowModel → Result FlowModel Refusal
rch_of files file bytes m = do
  arrays ← arrays_in recharge_arrays files file bytes m.grid m.ibound m.periods
  Ok (with_recharge m arrays)
