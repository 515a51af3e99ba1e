-- The files that a command may ask for.
use Rattle.std.specs.Prelude.{List, Option, IfSome, ℕ}
use Rattle.outside.specs.{folder_name}
use Rattle.run_puts.specs.{Text}

-- the files of a deck, of a second one if there is one, and of zones if there are some, may be asked for
abbrev pub MayRead : (List ℕ → Type 0) → (name : Text) (to zones : Option Text) → Type 0
MayRead may name to zones = may (folder_name name) × IfSome to (λ last. may (folder_name last)) × IfSome zones (λ file. may (folder_name file))
