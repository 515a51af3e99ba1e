-- The refusals of a step: the number and the word that each is printed with.
use Rattle.std.specs.Prelude.{ℕ, ◌==◌, List, [], ◌∷◌, Option, codes}
use Rattle.std.specs.List.{find}
use Rattle.step_problem.specs.declared.refusal.StepRefusal.{StepRefusal}
use Rattle.step_problem.specs.declared.refusal.StepRefusal.TheVariants.{ConductanceTooSmall, ConductanceTooLarge, FlowTooLarge, NoBarrierLow, NoBarrierHigh}
use Rattle.step_problem.specs.declared.refusal.StepRefusal.TheVariants.{RangeLow, RangeHigh}
use Rattle.step_problem.specs.declared.heads.Side.{Side}
use Rattle.step_problem.specs.declared.heads.Side.TheVariants.{Low, High}
use Rattle.step_problem.specs.declared.place.Dir.{Dir}
use Rattle.step_problem.specs.declared.place.Dir.TheVariants.{In, Out}
use Rattle.step_problem.specs.declared.place.Term.{Term}
use Rattle.step_problem.specs.declared.place.Term.TheVariants.{Storage, ConstantHead, Wells, Drains, RiverLeakage, HeadDepBounds, Recharge, Et}

abbrev pub number_of : StepRefusal → ℕ
number_of ConductanceTooSmall = 21
number_of ConductanceTooLarge = 22
number_of FlowTooLarge = 23
number_of NoBarrierLow = 24
number_of NoBarrierHigh = 25
number_of RangeLow = 26
number_of RangeHigh = 27

abbrev pub word_of : StepRefusal → List ℕ
word_of ConductanceTooSmall = codes "ConductanceTooSmall"
word_of ConductanceTooLarge = codes "ConductanceTooLarge"
word_of FlowTooLarge = codes "FlowTooLarge"
word_of NoBarrierLow = codes "NoBarrierLow"
word_of NoBarrierHigh = codes "NoBarrierHigh"
word_of RangeLow = codes "RangeLow"
word_of RangeHigh = codes "RangeHigh"

abbrev pub all_refusals : List StepRefusal
all_refusals = ConductanceTooSmall ∷ ConductanceTooLarge ∷ FlowTooLarge ∷ NoBarrierLow ∷ NoBarrierHigh ∷ RangeLow ∷ RangeHigh ∷ []

-- the refusal that has this number
abbrev pub refusal_of : ℕ → Option StepRefusal
refusal_of number = find (λ refusal. number_of refusal == number) all_refusals

-- The words of the listing, as ASCII text.
abbrev pub side_name : Side → List ℕ
side_name Low = codes "LOW"
side_name High = codes "HIGH"

abbrev pub dir_name : Dir → List ℕ
dir_name In = codes "IN"
dir_name Out = codes "OUT"

-- the terms of the volumetric budget (TM 6-A16, chapter 3)
abbrev pub term_name : Term → List ℕ
term_name Storage = codes "STORAGE"
term_name ConstantHead = codes "CONSTANT HEAD"
term_name Wells = codes "WELLS"
term_name Drains = codes "DRAINS"
term_name RiverLeakage = codes "RIVER LEAKAGE"
term_name HeadDepBounds = codes "HEAD DEP BOUNDS"
term_name Recharge = codes "RECHARGE"
term_name Et = codes "ET"
