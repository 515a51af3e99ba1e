-- Each cell of a problem has a floor or a cause against one, and a ceiling or a cause against one.
use Rattle.step_or_refusal.proofs.Common.{ℕ, ◌+◌, ◌<◌, ◌⊎◌, inl, inr, refl, arith, List, length, ℤ, pos, ◌-ℤ◌, cases_lt, Side, Low, High, IsProblem, entries_at, Entries, anchor_on, AnchorRoot}
use Rattle.step_or_refusal.proofs.Common.{IsUnanchored, moved_out, IsAnchoredBound, IsBoundOn, need, ceil_over, IsPath, HasNoBound, base_on, Decided, first_or_none, lead_is_path}
use Rattle.barrier_vector.proofs.{CarriedRoots.reaches_within, Components.carried_decided, Components.inner_path, Components.longest_path_exists, Ways.LeadTo, Ways.leading_decided}

module _ (p : List Entries) (ok : IsProblem p) where
  module _ (side : Side) (q : ℕ) where
    root_or_not : (c : ℕ) → Decided ((d : ℕ) × AnchorRoot side p q c d)
    root_or_not c =
        elim (cases_lt c (length p)) [
          | inr past ↦ inr (λ r. let h = r.1.0 in omega (arith, h, past))
          | inl h ↦ elim (cases_lt 0 (anchor_on side (entries_at p c))) [
            | inr fails ↦ inr (λ r. let some = r.1.1 in omega (arith, some, fails))
            | inl some ↦ inl (ceil_over q (anchor_on side (entries_at p c)), (h, some, refl))
          ]
        ]

    led : (c k : ℕ) → Decided (LeadTo p c k × (0 < anchor_on side (entries_at p k)))
    led c k =
        elim (leading_decided p ok c k) [
          | inr apart ↦ inr (λ both. apart both.0)
          | inl way ↦ elim (cases_lt 0 (anchor_on side (entries_at p k))) [
            | inl some ↦ inl (way, some)
            | inr fails ↦ inr (λ both. let some = both.1 in omega (arith, some, fails))
          ]
        ]

    -- a cell has a path to an anchor, or no links lead from it to one
    path_or_none : (c : ℕ) → c < length p → ((s : ℕ) × IsPath p q (AnchorRoot side p q) c s) ⊎ IsUnanchored side p c
    path_or_none c within =
        elim (first_or_none (λ k. LeadTo p c k × (0 < anchor_on side (entries_at p k))) (length p) (λ k h. led c k)) [
          | inl (k, is) ↦ inl (lead_is_path p q (AnchorRoot side p q) root_or_not is.has.0.0 c
              (record { root = k; drop = ceil_over q (anchor_on side (entries_at p k)); is_root = (is.within, is.has.1, refl); reaches = is.has.0.1 }))
          | inr none ↦ inr (λ j k way. elim (cases_lt 0 (anchor_on side (entries_at p k)))
              [ inl some ↦ absurd (none k (reaches_within p ok j c k within way) ((j, way), some)) | inr fails ↦ omega (arith, fails) ])
        ]

  anchored_or_not : (side : Side) (c : ℕ) → c < length p → ((f : ℤ) × IsAnchoredBound side p c f) ⊎ IsUnanchored side p c
  anchored_or_not side c h =
      elim (path_or_none side (need side p) c h) [
        | inl (s, is) ↦ inl (moved_out side (base_on side p) s, (s, is, refl))
        | inr none ↦ inr none
      ]

  pub bound_or_none : (side : Side) (c : ℕ) → c < length p → ((f : ℤ) × IsBoundOn side p c f) ⊎ HasNoBound side p c
  bound_or_none High c h = anchored_or_not High c h
  bound_or_none Low c h =
      elim (anchored_or_not Low c h) [
        | inl (f, is) ↦ inl (f, inl is)
        | inr none ↦ elim (carried_decided p ok c) [
          | inr fails ↦ inr (none, fails)
          | inl carried ↦
              let (s, s_is) = inner_path p ok c h in
              let (t, t_is) = longest_path_exists p ok c h in
              inl (base_on Low p -ℤ pos (s + t), inr (none, carried, s, s_is, t, t_is, refl))
        ]
      ]
