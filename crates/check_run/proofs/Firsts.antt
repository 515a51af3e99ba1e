-- What is first is one: a cell and its side, a term of a budget, and a pair of zones.
use Rattle.check_run.proofs.Common.{◌≡◌, ◌∙◌, ℕ, ◌<◌, inl, inr, List, [], ◌∷◌, refl, sym, ap, subst, arith, AllZip, cases_order, Side, Low, High, Dir, Out, Term, ZoneFlow, Budget, IsFirstUncovered}
use Rattle.check_run.proofs.Common.{line_of, CoversFlow, IsFirstNarrow, In, length, map, get_or, pos, get_or-map, length-map, ZonePair, zones_of_flow}
use Rattle.budget_bounds.proofs.Enclosed.{same_place, place_within}
use Rattle.step_problem.specs.declared.place.Place.TheVariants as places

module _ (H : ℕ → Side → Type 0) where
  -- H fails there, and nowhere before
  pub record IsFirst (c : ℕ) (side : Side) : Type 0 where
    pub fails : H c side → ⊥
    pub least : (d : ℕ) → d < c → (other : Side) → H d other
    pub low_first : side ≡ High → H c Low

  same_side : (c : ℕ) (x y : Side) → IsFirst c x → IsFirst c y → x ≡ y
  same_side c Low Low f g = refl
  same_side c High High f g = refl
  same_side c Low High f g = absurd (f.fails (g.low_first refl))
  same_side c High Low f g = absurd (g.fails (f.low_first refl))

  pub first_one : (c d : ℕ) (x y : Side) → IsFirst c x → IsFirst d y → (c ≡ d) × (x ≡ y)
  first_one c d x y f g = elim (cases_order c d) [
    | inl same ↦ (let P : ℕ → Type 0 = λ k. IsFirst k x in (same, same_side d x y (subst P same f) g))
    | inr (inl less) ↦ absurd (f.fails (g.least c less x))
    | inr (inr more) ↦ absurd (g.fails (f.least d more y))
  ]

same_line : (d e : Dir) (t u : Term) → line_of d t ≡ line_of e u → places.Term d t ≡ places.Term e u
same_line In In t u h = ap (places.Term In) (same_place t u h)
same_line Out Out t u h = ap (places.Term Out) (same_place t u (omega (arith, h)))
same_line In Out t u h = absurd (omega (arith, h, place_within t))
same_line Out In t u h = absurd (omega (arith, h, place_within u))

pub term_one : (listed computed : Budget) (d e : Dir) (t u : Term) → IsFirstUncovered listed computed d t → IsFirstUncovered listed computed e u → places.Term d t ≡ places.Term e u
term_one listed computed d e t u f g = grind (arith, cases_order, same_line)

-- the first listed flow that is too narrow
pub narrow_one : (listed computed : List ZoneFlow) (a b c d : ℕ) → IsFirstNarrow listed computed a b → IsFirstNarrow listed computed c d → (a ≡ c) × (b ≡ d)
narrow_one [] computed a b c d f g = absurd f
narrow_one (v ∷ listed) [] a b c d f g = absurd f
narrow_one (v ∷ listed) (w ∷ computed) a b c d (inl f) (inl g) = (f.1 ∙ sym g.1, f.2 ∙ sym g.2)
narrow_one (v ∷ listed) (w ∷ computed) a b c d (inl f) (inr g) = absurd (f.0 g.0)
narrow_one (v ∷ listed) (w ∷ computed) a b c d (inr f) (inl g) = absurd (g.0 f.0)
narrow_one (v ∷ listed) (w ∷ computed) a b c d (inr f) (inr g) = narrow_one listed computed a b c d f.1 g.1

pub never_narrow : (listed computed : List ZoneFlow) (a b : ℕ) → IsFirstNarrow listed computed a b → AllZip CoversFlow listed computed → ⊥
never_narrow [] computed a b f wide = f
never_narrow (v ∷ listed) [] a b f wide = f
never_narrow (v ∷ listed) (w ∷ computed) a b (inl f) wide = f.0 wide.0
never_narrow (v ∷ listed) (w ∷ computed) a b (inr f) wide = never_narrow listed computed a b f.1 wide.1

-- The walk over listed flows between zones and computed ones.
-- what holds of the rest holds of all
pub record GoesOn (listed computed xs ys : List ZoneFlow) : Type 0 where
  pub wide : AllZip CoversFlow xs ys → AllZip CoversFlow listed computed
  pub narrow : (a b : ℕ) → IsFirstNarrow xs ys a b → IsFirstNarrow listed computed a b

abbrev no_flow : ZoneFlow
no_flow = record { from = 0; to = 0; lo = pos 0; hi = pos 0 }

module _ (listed computed : List ZoneFlow) (same : map zones_of_flow listed ≡ map zones_of_flow computed) where
  as_many : length listed ≡ length computed
  as_many = sym (length-map listed zones_of_flow) ∙ ap length same ∙ length-map computed zones_of_flow

  pub same_zones_at : (i : ℕ) → i < length listed → zones_of_flow (get_or listed i no_flow) ≡ zones_of_flow (get_or computed i no_flow)
  same_zones_at i lt =
      let none : ZonePair = zones_of_flow no_flow in
      sym (get_or-map zones_of_flow listed i no_flow none lt) ∙ ap (λ zs. get_or zs i none) same ∙ get_or-map zones_of_flow computed i no_flow none (omega (arith, lt, as_many))
