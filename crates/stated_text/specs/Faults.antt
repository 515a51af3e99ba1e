-- What calls return.
use Rattle.std.specs.Prelude.{◌≡◌, ℕ, List, ◌∷◌, ◌++◌, Result, Ok}
use Rattle.outside.specs.{declared.inputs.Refusal.Refusal, declared.inputs.InputFault.InputFault, declared.inputs.TextFault.TextFault}
use Rattle.outside.specs.declared.inputs.InputFault.TheVariants as input
use Rattle.outside.specs.declared.inputs.TextFault.TheVariants as texts
use Rattle.record_lines.specs.{◌>>=◌}
use Rattle.listing_io.specs.{Line}
use Rattle.stated_text.specs.{Cut.TextFile, Cut.later, Cut.pieces, Parts.in_text}

-- a file that is begun, with the bytes that follow and the files after them
abbrev pub after : TextFile → List ℕ × List TextFile → Result (List TextFile) ℕ
after begun p = Ok (record begun { bytes = begun.bytes ++ p.0 } ∷ p.1)

abbrev pub cut_after : TextFile → ℕ → List Line → Result (List TextFile) ℕ
cut_after begun n rows = pieces n rows >>= after begun

-- this refusal, or lack of memory
abbrev pub IsRefused : Refusal → TextFault → Type 0
IsRefused r (texts.Refused q) = q ≡ r
IsRefused r texts.Memory = Unit {0}

-- a refusal of a file as one of the text; any other fault is lack of memory
abbrev pub IsMovedFault : List ℕ → List TextFile → InputFault → TextFault → Type 0
IsMovedFault text files (input.Refused r) fault = IsRefused (in_text text files r) fault
IsMovedFault text files other fault = fault ≡ texts.Memory

-- a refusal n lines later
abbrev pub IsLaterFault : ℕ → TextFault → TextFault → Type 0
IsLaterFault n (texts.Refused r) fault = fault ≡ texts.Refused (record r { line = later n r.line })
IsLaterFault n texts.Memory fault = fault ≡ texts.Memory
