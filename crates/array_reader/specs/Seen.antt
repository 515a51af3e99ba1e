-- A control record as contracts see it.
use Rattle.outside.specs.{IsGoodName}
use Rattle.array_reader.specs.Control as spec
use Rattle.array_reader.specs.declared.control.Control.{Control}
use Rattle.array_reader.specs.declared.control.Control.TheVariants.{Constant, Internal, Named}

abbrev pub control_of : {X : Type 0} → Control X → spec.Control X
control_of (Constant value) = spec.constant value
control_of (Internal by) = spec.internal by
control_of (Named name by) = spec.named name.now by

-- its value, or its multiplier, is good; and its name is a good file name
abbrev pub Has_good : {X : Type 0} → (X → Type 0) → Control X → Type 0
Has_good Good (Constant value) = Good value
Has_good Good (Internal by) = Good by
Has_good Good (Named name by) = Good by × IsGoodName name.now
