-- What an optional item says by its cases, and lists of all cells.
use Rattle.gentle_steps.proofs.Common.{Option, Some, None, MatchOption}

pub option_weaker : {X : Type 0} (o : Option X) (P Q : Type 0) (R S : X → Type 0) → (P → Q) → ((x : X) → R x → S x) → MatchOption o P R → MatchOption o Q S
option_weaker None P Q R S f g h = f h
option_weaker (Some x) P Q R S f g h = g x h
