-- One value of a list of zeros.
use Rattle.array_reader.proofs.Common.{◌≡◌, ℕ, List, ℤ, Result, Ok, Err, refl, Left, StopsText, Taking, zero_at, zero_step, TextFault, Refused, Memory}

pub step_goes : (file : List ℕ) (i : ℕ) (s after : Taking × Left) (z : ℤ) → zero_at file s ≡ Ok (z, after) → zero_step file i s ≡ Ok after
unfolding zero_step
step_goes file i s after z h = rw h refl

pub step_stops : (file : List ℕ) (i : ℕ) (s : Taking × Left) (fault : TextFault) → StopsText fault (zero_at file s) → StopsText fault (zero_step file i s)
unfolding zero_step
step_stops file i s (Refused r) h = rw h refl
step_stops file i s Memory h = tt
