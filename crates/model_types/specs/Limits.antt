-- The limits that a model is read by, plain or wide: this program's own.
use Rattle.std.specs.Prelude.{ℕ}
use Rattle.model_types.specs.{declared.limits.Limits.Limits, declared.limits.Limits.TheVariants.Plain, declared.limits.Limits.TheVariants.Wide}

-- NLAY
abbrev pub most_layers : Limits → ℕ
most_layers Plain = 64
most_layers Wide = 1024

-- NROW, and NCOL
abbrev pub most_in_row : Limits → ℕ
most_in_row Plain = 1024
most_in_row Wide = 4096

-- the cells of a grid
abbrev pub most_cells : Limits → ℕ
most_cells Plain = 65536
most_cells Wide = 4194304

-- the bytes of a file: 64 MiB, 1 GiB
abbrev pub most_bytes : Limits → ℕ
most_bytes Plain = 67108864
most_bytes Wide = 1073741824

-- the entries of a list for a stress period
abbrev pub most_entries : Limits → ℕ
most_entries Plain = 65536
most_entries Wide = 4194304
