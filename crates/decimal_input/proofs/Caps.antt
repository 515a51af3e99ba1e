use Rattle.decimal_input.proofs.Common.{◌≡◌, ℕ, ◌+◌, ◌-◌, ◌*◌, List, [], ◌∷◌, min, arith, number_from}

-- numbers that agree up to the cap do so with more digits behind them
pub same_cap : (a b : ℕ) (xs : List ℕ) → min a 10000 ≡ min b 10000 → min (number_from a xs) 10000 ≡ min (number_from b xs) 10000
same_cap a b [] h = h
same_cap a b (x ∷ xs) h = same_cap (a * 10 + (x - 48)) (b * 10 + (x - 48)) xs (omega arith)
