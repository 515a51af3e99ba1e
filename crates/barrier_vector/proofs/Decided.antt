-- Searches that end: the first of finitely many numbers with a property, any or the least entry of a list, or none.
use Rattle.barrier_vector.proofs.Common.{◌≡◌, ℕ, zero, suc, ◌<◌, ◌≤◌, ◌⊎◌, inl, inr, refl, subst, arith, List, [], ◌∷◌, Contains, Bool, true, false, ◌+◌, sym, cases_lt, Link, Entries, entries_at}
use Rattle.barrier_vector.proofs.Common.{ceil_over, LeadsToRoot, IsLevel, SumsTo, IsPath}

-- P holds, or it doesn't
abbrev pub Decided : Type 0 → Type 0
Decided P = P ⊎ (P → ⊥)

-- the decision as a test
abbrev pub test_of : (P : Type 0) → Decided P → Bool
test_of P (inl holds) = true
test_of P (inr fails) = false

pub test_true : (P : Type 0) (d : Decided P) → test_of P d ≡ true → P
test_true P (inl holds) e = holds
test_true P (inr fails) e = absurd cc

pub true_test : (P : Type 0) (d : Decided P) → P → test_of P d ≡ true
true_test P (inl holds) h = refl
true_test P (inr fails) h = absurd (fails h)

-- c is the least number below n with the property P
pub record IsFirstBelow (P : ℕ → Type 0) (n c : ℕ) : Type 0 where
  pub within : c < n
  pub has : P c
  pub least : (d : ℕ) → d < c → P d → ⊥

pub first_or_none : (P : ℕ → Type 0) (n : ℕ) → ((c : ℕ) → c < n → Decided (P c)) → ((c : ℕ) × IsFirstBelow P n c) ⊎ ((c : ℕ) → c < n → P c → ⊥)
first_or_none P zero decide = inr (λ c h has. omega arith)
first_or_none P (suc n) decide =
    elim (first_or_none P n (λ c h. decide c (omega arith))) [
      | inl (c, is) ↦ inl (c, record { within = omega (arith, is.within); has = is.has; least = is.least })
      | inr none ↦ elim (decide n (omega arith)) [
        | inl has ↦ inl (n, record { within = omega arith; has = has; least = none })
        | inr fails ↦ inr (λ c h has. elim (cases_lt c n) [ inl less ↦ none c less has | inr past ↦ let at : c ≡ n = omega arith in fails (subst P at has) ])
      ]
    ]

-- what holds of the first entry and of each other one
pub of_all : {X : Type 0} (P : X → Type 0) (x : X) (xs : List X) → P x → ((z : X) → Contains xs z → P z) → (z : X) → Contains (x ∷ xs) z → P z
of_all P x xs here rest z (zero, h, e) = subst P e here
of_all P x xs here rest z (suc k, h, e) = rest z (k, omega arith, e)

pub of_none : {X : Type 0} (P : X → Type 0) (z : X) → Contains [] z → P z
of_none P z has = absurd (omega (arith, has.1))

pub first_entry : {X : Type 0} (x : X) (xs : List X) → Contains (x ∷ xs) x
first_entry x xs = (0, omega arith, refl)

pub later_entry : {X : Type 0} (x z : X) (xs : List X) → Contains xs z → Contains (x ∷ xs) z
later_entry x z xs has = (suc has.0, omega (arith, has.1), has.2)

-- some entry of a list has a property, or none has
pub any_of : {X : Type 0} (P : X → Type 0) (xs : List X) → ((x : X) → Decided (P x)) → Decided ((x : X) × Contains xs x × P x)
any_of P [] decide = inr (λ h. of_none (λ z. ⊥) h.0 h.1)
any_of P (x ∷ xs) decide =
    elim (decide x) [
      | inl here ↦ inl (x, first_entry x xs, here)
      | inr fails ↦ elim (any_of P xs decide) [
        | inl (z, has, is) ↦ inl (z, later_entry x z xs has, is)
        | inr none ↦ inr (λ h. of_all (λ z. P z → ⊥) x xs fails (λ z has is. none (z, has, is)) h.0 h.1 h.2)
      ]
    ]

-- x is an entry with the property P, and no other such entry has a lesser number
pub record IsLeastOf {X : Type 0} (P : X → Type 0) (number : X → ℕ) (xs : List X) (x : X) : Type 0 where
  pub has : Contains xs x
  pub is : P x
  pub least : (z : X) → Contains xs z → P z → number x ≤ number z

pub least_of : {X : Type 0} (P : X → Type 0) (number : X → ℕ) (xs : List X) → ((x : X) → Contains xs x → Decided (P x)) → ((x : X) × IsLeastOf P number xs x) ⊎ ((x : X) → Contains xs x → P x → ⊥)
least_of P number [] decide = inr (λ x has is. of_none (λ z. ⊥) x has)
least_of P number (x ∷ xs) decide =
    elim (least_of P number xs (λ z has. decide z (later_entry x z xs has))) [
      | inl (y, l) ↦ elim (decide x (first_entry x xs)) [
        | inl here ↦ elim (cases_lt (number y) (number x)) [
          | inl less ↦ inl (y, record { has = later_entry x y xs l.has; is = l.is; least = of_all (λ z. P z → number y ≤ number z) x xs (λ h. omega (arith, less)) l.least })
          | inr more ↦ inl (
            x,
            record {
              has = first_entry x xs;
              is = here;
              least =
                  of_all (λ z. P z → number x ≤ number z) x xs (λ h. omega arith) (λ z has is. let le = l.least z has is in omega (arith, le, more));
            },
          )
        ]
        | inr fails ↦ inl (y, record { has = later_entry x y xs l.has; is = l.is; least = of_all (λ z. P z → number y ≤ number z) x xs (λ h. absurd (fails h)) l.least })
      ]
      | inr none ↦ elim (decide x (first_entry x xs)) [
        | inl here ↦ inl (x, record { has = first_entry x xs; is = here; least = of_all (λ z. P z → number x ≤ number z) x xs (λ h. omega arith) (λ z has is. absurd (none z has is)) })
        | inr fails ↦ inr (of_all (λ z. P z → ⊥) x xs fails none)
      ]
    ]

-- A cell from which links lead to a root has a level, a parent and a path.
module _ (p : List Entries) (q : ℕ) (Root : ℕ → ℕ → Type 0) (root_or_not : (c : ℕ) → Decided ((d : ℕ) × Root c d)) where
  further : (k c : ℕ) (x : Link) → Contains (entries_at p c).links x → LeadsToRoot p q Root k x.cell → LeadsToRoot p q Root (suc k) c
  further k c x has l = record { root = l.root; drop = l.drop; is_root = l.is_root; reaches = (x, has, l.reaches) }

  leads_decided : (k c : ℕ) → Decided (LeadsToRoot p q Root k c)
  leads_decided zero c =
      elim (root_or_not c) [
        | inl (d, is) ↦ inl (record { root = c; drop = d; is_root = is; reaches = refl })
        | inr fails ↦ inr (λ l. fails (l.drop, subst (λ (z : ℕ). Root z l.drop) (sym l.reaches) l.is_root))
      ]
  leads_decided (suc k) c =
      elim (any_of (λ (x : Link). LeadsToRoot p q Root k x.cell) (entries_at p c).links (λ x. leads_decided k x.cell)) [
        | inl (x, has, l) ↦ inl (further k c x has l)
        | inr none ↦ inr (λ l. let (x, has, way) = l.reaches in none (x, has, record { root = l.root; drop = l.drop; is_root = l.is_root; reaches = way }))
      ]

  level : (j c : ℕ) → LeadsToRoot p q Root j c → (k : ℕ) × IsLevel p q Root c k
  level j c l =
      elim (first_or_none (λ k. LeadsToRoot p q Root k c) (suc j) (λ k h. leads_decided k c)) [
        | inl (k, is) ↦ (k, record { leads = is.has; least = λ i m. elim (cases_lt i k) [ inl less ↦ absurd (is.least i less m) | inr more ↦ more ] })
        | inr none ↦ absurd (none j (omega arith) l)
      ]

  -- a neighbour from which one link less leads to a root is one level nearer
  nearer : (k c : ℕ) → IsLevel p q Root c (suc k) → (x : Link) → Contains (entries_at p c).links x → LeadsToRoot p q Root k x.cell → IsLevel p q Root x.cell k
  nearer k c at x has l = record { leads = l; least = λ j m. let le = at.least (suc j) (further j c x has m) in omega (arith, le) }

  sum : (k c : ℕ) → IsLevel p q Root c k → (s : ℕ) × SumsTo p q Root k c s
  sum zero c at = (at.leads.drop, subst (λ (z : ℕ). Root z at.leads.drop) (sym at.leads.reaches) at.leads.is_root)
  sum (suc k) c at =
      elim (least_of (λ (x : Link). IsLevel p q Root x.cell k) (λ x. x.cell) (entries_at p c).links (λ x has.
      elim (leads_decided k x.cell) [ inl l ↦ inl (nearer k c at x has l) | inr fails ↦ inr (λ level. fails level.leads) ])) [
        | inl (x, is) ↦ let (rest, sums) = sum k x.cell is.is in (ceil_over q x.lo + rest, (x, record { has = is.has; level = is.is; least = is.least }, rest, sums, refl))
        | inr none ↦
            let (x, has, way) = at.leads.reaches in
            absurd (none x has (nearer k c at x has (record { root = at.leads.root; drop = at.leads.drop; is_root = at.leads.is_root; reaches = way })))
      ]

  pub lead_is_path : (j c : ℕ) → LeadsToRoot p q Root j c → (s : ℕ) × IsPath p q Root c s
  lead_is_path j c l = let (k, at) = level j c l in let (s, sums) = sum k c at in (s, record { level = k; is_level = at; sums = sums })
