-- What is first is one.
use Rattle.gentle_run.proofs.Common.{◌≡◌, ℕ, ◌<◌, inl, inr, refl, cases_order, Side, High, Low, IsFirst}

pub first_is_one : (P : ℕ → Type 0) (n c d : ℕ) → IsFirst P n c → IsFirst P n d → c ≡ d
first_is_one P n c d f g = elim (cases_order c d) [
  | inl same ↦ same
  | inr (inl less) ↦ absurd (f.fails (g.before c less))
  | inr (inr more) ↦ absurd (g.fails (f.before d more))
]

-- of two sides the first on which H fails
pub side_is_one : (H : Side → Type 0) (x y : Side) → (H x → ⊥) × (x ≡ High → H Low) → (H y → ⊥) × (y ≡ High → H Low) → x ≡ y
side_is_one H Low Low f g = refl
side_is_one H High High f g = refl
side_is_one H Low High f g = absurd (f.0 (g.1 refl))
side_is_one H High Low f g = absurd (g.0 (f.1 refl))
