-- Lists that are related place by place.
use Rattle.cell_balance.proofs.Common.{◌≡◌, ℕ, suc, zero, ◌<◌, refl, ap, arith, List, [], ◌∷◌, length, get_or, All, AllZip, All-cons, All-head, All-tail, All-nil, int_max, int_min, total}
use Rattle.cell_balance.proofs.Common.{IsBetweenWhole, IsBetweenSigned, Flow, Link, Fixed, River, Drain, Evap, Entries}
use Rattle.std.specs.Prelude.{slice_index_or, ℤ, pos, neg_ℤ, ◌+ℤ◌, ◌-ℤ◌, ◌*ℤ◌, ◌*◌, ◌⊎◌, ◌≤ℤ◌}

-- at one place
pub AllZip-at : {X Y : Type 0} (R : X → Y → Type 0) (xs : List X) (ys : List Y) (i : ℕ) (d : X) (e : Y) → AllZip R xs ys → i < length xs → R (get_or xs i d) (get_or ys i e)
AllZip-at R [] ys i d e h k = absurd (omega arith)
AllZip-at R (x ∷ xs) [] i d e h k = absurd h
AllZip-at R (x ∷ xs) (y ∷ ys) zero d e h k = h.0
AllZip-at R (x ∷ xs) (y ∷ ys) (suc i) d e h k = AllZip-at R xs ys i d e h.1 (omega arith)

pub AllZip-length : {X Y : Type 0} (R : X → Y → Type 0) (xs : List X) (ys : List Y) → AllZip R xs ys → length xs ≡ length ys
AllZip-length R [] [] h = refl
AllZip-length R (x ∷ xs) (y ∷ ys) h = ap suc (AllZip-length R xs ys h.1)
AllZip-length _ _ _ h = absurd h

-- a fact of each left element passes to the right one
pub All-zip : {X Y : Type 0} (R : X → Y → Type 0) (P : X → Type 0) (Q : Y → Type 0) → ((x : X) (y : Y) → R x y → P x → Q y) → (xs : List X) (ys : List Y) → AllZip R xs ys → All P xs → All Q ys
All-zip R P Q each [] [] h a = All-nil Q
All-zip R P Q each (x ∷ xs) (y ∷ ys) h a = All-cons Q y ys (each x y h.0 (All-head P x xs a)) (All-zip R P Q each xs ys h.1 (All-tail P x xs a))
All-zip _ _ _ each _ _ h a = absurd h

-- two relations in a row, where a fact holds of each left element
pub AllZip-compose : {X Y Z : Type 0} (R : X → Y → Type 0) (S : Y → Z → Type 0) (T : X → Z → Type 0) (P : X → Type 0) →
    ((x : X) (y : Y) (z : Z) → R x y → S y z → P x → T x z) → (xs : List X) (ys : List Y) (zs : List Z) → AllZip R xs ys → AllZip S ys zs → All P xs →
    AllZip T xs zs
AllZip-compose R S T P each [] [] [] h k a = tt
AllZip-compose R S T P each [] (y ∷ ys) zs h k a = absurd h
AllZip-compose R S T P each (x ∷ xs) [] zs h k a = absurd h
AllZip-compose R S T P each (x ∷ xs) (y ∷ ys) (z ∷ zs) h k a =
    (each x y z h.0 k.0 (All-head P x xs a), AllZip-compose R S T P each xs ys zs h.1 k.1 (All-tail P x xs a))
AllZip-compose _ _ _ _ each _ _ _ h k a = absurd k

pub AllZip-right : {X Y : Type 0} (R : X → Y → Type 0) (P : Y → Type 0) → ((x : X) (y : Y) → R x y → P y) → (xs : List X) (ys : List Y) → AllZip R xs ys → All P ys
AllZip-right R P each [] [] h = All-nil P
AllZip-right R P each (x ∷ xs) (y ∷ ys) h = All-cons P y ys (each x y h.0) (AllZip-right R P each xs ys h.1)
AllZip-right _ _ each _ _ h = absurd h

-- An exact step in whole numbers: conductances over one denominator, heads over another, flows over the product of the two.
pub record WholeLink : Type 0 where
  pub cell : ℕ
  pub c : ℕ

-- a conductance, and the two heads that an entry's flow turns on: of a known head and of a drain the two are one
pub record WholeEntry : Type 0 where
  pub c : ℕ
  pub top : ℤ
  pub foot : ℤ

pub record WholeCell : Type 0 where
  pub flows : List ℤ
  pub links : List WholeLink
  pub fixed : List WholeEntry
  pub rivers : List WholeEntry
  pub drains : List WholeEntry
  pub evaps : List WholeEntry

abbrev pub no_whole : WholeCell
no_whole = record { flows = []; links = []; fixed = []; rivers = []; drains = []; evaps = [] }

abbrev pub whole_at : List WholeCell → ℕ → WholeCell
whole_at w c = slice_index_or w c no_whole

-- the flow of each kind into a cell whose head is v; the cell of index k has the head h k
abbrev pub whole_link : (ℕ → ℤ) → ℤ → WholeLink → ℤ
whole_link h v x = pos x.c *ℤ (h x.cell -ℤ v)

abbrev pub whole_fixed : ℤ → WholeEntry → ℤ
whole_fixed v x = pos x.c *ℤ (x.top -ℤ v)

abbrev pub whole_river : ℤ → WholeEntry → ℤ
whole_river v x = pos x.c *ℤ (x.top -ℤ int_max v x.foot)

abbrev pub whole_drain : ℤ → WholeEntry → ℤ
whole_drain v x = neg_ℤ (pos x.c *ℤ int_max (v -ℤ x.foot) (pos 0))

abbrev pub whole_evap : ℤ → WholeEntry → ℤ
whole_evap v x = neg_ℤ (pos x.c *ℤ int_max (int_min v x.top -ℤ x.foot) (pos 0))

abbrev pub whole_balance : WholeCell → ℤ → (ℕ → ℤ) → ℤ
whole_balance w v h =
    total (λ q. q) w.flows +ℤ total (whole_link h v) w.links +ℤ total (whole_fixed v) w.fixed
    +ℤ total (whole_river v) w.rivers +ℤ total (whole_drain v) w.drains +ℤ total (whole_evap v) w.evaps

-- a river at its bottom, an evaporation at its full rate, and the flow into a cell whose head lies below all bottoms
abbrev pub whole_deep_river : WholeEntry → ℤ
whole_deep_river x = pos x.c *ℤ (x.top -ℤ x.foot)

abbrev pub whole_full : WholeEntry → ℤ
whole_full x = pos x.c *ℤ int_max (x.top -ℤ x.foot) (pos 0)

abbrev pub whole_deep : WholeCell → ℤ
whole_deep w = total (λ q. q) w.flows +ℤ total whole_deep_river w.rivers -ℤ total whole_full w.evaps

-- When the bounds of a problem's entries enclose whole numbers: conductances over m, heads over n, flows over m * n.
module _ (m n : ℕ) where
  pub record FlowWithin (p : Flow) (q : ℤ) : Type 0 where
    pub flow : IsBetweenSigned p.lo p.hi (m * n) q

  -- a link leads to one of the first `cells` cells, and certainly conducts
  pub record LinkWithin (cells : ℕ) (p : Link) (w : WholeLink) : Type 0 where
    pub same : p.cell ≡ w.cell
    pub range : p.cell < cells
    pub conducts : 0 < p.lo
    pub c : IsBetweenWhole p.lo p.hi m w.c

  -- an entry of which the heads are known by bounds
  pub record EntryWithin (lo hi : ℕ) (top_lo top_hi foot_lo foot_hi : ℤ) (w : WholeEntry) : Type 0 where
    pub c : IsBetweenWhole lo hi m w.c
    pub top : IsBetweenSigned top_lo top_hi n w.top
    pub foot : IsBetweenSigned foot_lo foot_hi n w.foot

  abbrev pub FixedWithin : Fixed → WholeEntry → Type 0
  FixedWithin p = EntryWithin p.lo p.hi p.head_lo p.head_hi p.head_lo p.head_hi

  abbrev pub RiverWithin : River → WholeEntry → Type 0
  RiverWithin p = EntryWithin p.lo p.hi p.stage_lo p.stage_hi p.bottom_lo p.bottom_hi

  abbrev pub DrainWithin : Drain → WholeEntry → Type 0
  DrainWithin p = EntryWithin p.lo p.hi p.elev_lo p.elev_hi p.elev_lo p.elev_hi

  abbrev pub EvapWithin : Evap → WholeEntry → Type 0
  EvapWithin p = EntryWithin p.lo p.hi p.surf_lo p.surf_hi p.ext_lo p.ext_hi

  pub record CellWithin (cells : ℕ) (p : Entries) (w : WholeCell) : Type 0 where
    pub flows : AllZip FlowWithin p.flows w.flows
    pub links : AllZip (LinkWithin cells) p.links w.links
    pub fixed : AllZip FixedWithin p.fixed w.fixed
    pub rivers : AllZip RiverWithin p.rivers w.rivers
    pub drains : AllZip DrainWithin p.drains w.drains
    pub evaps : AllZip EvapWithin p.evaps w.evaps

-- a cell of which no entry that conducts has its head, bottom or elevation below t
pub record IsDry (t : ℤ) (w : WholeCell) : Type 0 where
  pub fixed : All (λ x. (x.c ≡ 0) ⊎ (t ≤ℤ x.top)) w.fixed
  pub rivers : All (λ x. (x.c ≡ 0) ⊎ (t ≤ℤ x.foot)) w.rivers
  pub drains : All (λ x. (x.c ≡ 0) ⊎ (t ≤ℤ x.foot)) w.drains
