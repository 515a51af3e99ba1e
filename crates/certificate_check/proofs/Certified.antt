-- A certificate encloses what its barrier encloses.
use Rattle.certificate_check.proofs.Common.{ℕ, ◌<◌, List, length, ℤ, Edges, head_at, IsCertificate, IsProblem, pair_certifies, SettledPairEncloses, certified_bounds_enclose}
use Rattle.step_problem.specs.Entries.{Entries}
use Rattle.cell_balance.specs.{ExactCell, EnclosesStep, EnclosesSolutions, SolvesStep, LiesBetween, IsHeldBelow}

module _ (p : List Entries) (b : Edges) (l u : ℕ → ℤ) where
  pub certificate_compares : IsProblem p → IsCertificate p b l u → IsHeldBelow p → (s : ℕ) (e : List ExactCell) (d : ℕ) (X : ℕ → ℤ) → EnclosesStep s p e →
      0 < d → SolvesStep e d X → LiesBetween (length p) d X (head_at b.floor) (head_at b.ceiling) → LiesBetween (length p) d X l u
  certificate_compares problem certificate held s e d X encloses some solves barrier =
      certified_bounds_enclose p b l u s e d X
      (record { problem = problem; held = held; certificate = certificate; encloses = encloses; some = some; solves = solves; barrier = barrier })

  pub certificate_encloses : IsProblem p → IsCertificate p b l u → IsHeldBelow p → EnclosesSolutions p (head_at b.floor) (head_at b.ceiling) → EnclosesSolutions p l u
  certificate_encloses problem certificate held barrier s e d X encloses some solves =
      certificate_compares problem certificate held s e d X encloses some solves (barrier s e d X encloses some solves)

-- the settled pair is a certificate
pub settled_encloses : SettledPairEncloses
settled_encloses p b l u problem edges held pair = certificate_encloses p b l u problem (pair_certifies p b l u problem edges pair) held
