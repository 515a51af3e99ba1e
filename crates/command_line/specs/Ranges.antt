-- The ranges of an order's numbers.
use Rattle.std.specs.Prelude.{◌≡◌, ℕ, ◌≤◌, Bool, false}

-- workers and rounds
abbrev pub AreSettlersNumbers : ℕ → ℕ → Type 0
AreSettlersNumbers workers rounds = (1 ≤ workers) × (workers ≤ 64) × (1 ≤ rounds) × (rounds ≤ 4000000000)

-- turns of the watching seat, of a listing that is not quick
abbrev pub AreTurns : Bool → ℕ → Type 0
AreTurns quick n = (1 ≤ n) × (n ≤ 1000) × (quick ≡ false)

abbrev pub IsMakeable : ℕ → ℕ → Type 0
IsMakeable seed size = (seed ≤ 2147483647) × (1 ≤ size) × (size ≤ 64)
