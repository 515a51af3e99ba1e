-- What a reading did to its folder, where another value or fault is returned.
use Rattle.convertible_reader.proofs.Common.{Err, Ok, ReadsOn, input_fault}
use Rattle.outside.specs.{declared.inputs.InputFault.InputFault, declared.inputs.InputFault.TheVariants.Memory, declared.inputs.InputFault.TheVariants.ReadFault}
use Rattle.outside.specs.{declared.inputs.InputFault.TheVariants.Refused, declared.inputs.TextFault.TextFault, declared.traits.Folder.Ghosts as FolderOf}
use Rattle.outside.specs.declared.inputs.TextFault.TheVariants as texts

module _ {S T U : Type 0} {F : FolderOf S} {old new : S} where
  pub read_of_value : {x : T} {y : U} → ReadsOn F old new (Ok x) → ReadsOn F old new (Ok y)
  read_of_value h = record { since = h.since; counts = h.counts; still = h.still }

  pub read_of_text : {x : T} (fault : TextFault) → ReadsOn F old new (Ok x) → ReadsOn {T = U} F old new (Err (input_fault fault))
  read_of_text (texts.Refused refusal) h = record { since = h.since; counts = h.counts; still = h.still }
  read_of_text texts.Memory h = record { since = h.since; counts = h.counts; still = h.still }

  pub read_of_fault : (fault : InputFault) → ReadsOn {T = T} F old new (Err fault) → ReadsOn {T = U} F old new (Err fault)
  read_of_fault (Refused refusal) h = record { since = h.since; counts = h.counts; still = h.still }
  read_of_fault ReadFault h = record { since = h.since; counts = h.counts; still = h.still }
  read_of_fault Memory h = record { since = h.since; counts = h.counts; still = h.still }
