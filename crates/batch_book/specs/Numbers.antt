-- Job numbers in a queue and with the passes of the workers who took them.
use Rattle.std.specs.Prelude.{◌≡◌, ℕ, zero, suc, ◌+◌, List, [], ◌∷◌}

-- `count` numbers, from the first on
abbrev pub numbers_from : ℕ → ℕ → List ℕ
numbers_from first zero = []
numbers_from first (suc count) = first ∷ numbers_from (first + 1) count

-- the weights of the entries, added up
abbrev pub weigh : {X : Type 0} → (X → ℕ) → List X → ℕ
weigh h [] = 0
weigh h (x ∷ xs) = h x + weigh h xs

-- The numbers in the queue and those with the passes are together 0 to count - 1, each once: whatever weight each number is given, both weigh the same.
abbrev pub AreOnce : ℕ → List ℕ → List (List ℕ) → Type 0
AreOnce count items held = (h : ℕ → ℕ) → weigh h items + weigh (weigh h) held ≡ weigh h (numbers_from 0 count)
