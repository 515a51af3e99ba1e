-- Two models have at most one first difference.
use Rattle.deck_span.proofs.Common.{◌≡◌, ℕ, ◌<◌, List, [], ◌∷◌, Option, Some, None, take, subst, sym, ap, ◌∙◌, arith, inl, inr, Dec, Package, Dis, Lpf, Bas, Wel, Riv, Drn, Ghb, Rch, Chd, Evt}
use Rattle.deck_span.proofs.Common.{FlowModel, Period, cell_count, layer_size, cell_of, AreSame, IsFirst, InOrder, IsFirstOfLayers, IsLayerCell, IsListCell, cell_in_grid, SharesIn, IsCellIn}
use Rattle.deck_span.proofs.Common.{IsHeadCell, IsPeriodCell, AreGivenAlike, AreEntriesAlike, AreRatesAlike, IsCell, bottoms, properties, array_at, Shares, comparing_order, IsFirstDifference}
use Rattle.deck_span.proofs.Common.{cases_order, CellId, All-head, All-tail, slice_get}
use Rattle.std.specs.Prelude.{All, ◌/◌, ◌⊎◌, zero, suc, ◌≤◌}
use Rattle.deck_span.specs.declared.difference.Difference.{Difference}
use Rattle.deck_span.proofs.Layers.{first_is_one}

same_some : {X : Type 0} (x y : X) → Path (Option X) (Some x) (Some y) → x ≡ y
same_some x y e = cc

-- of two parts, the first one that isn't shared is the same one
in_order : {S C L D M R : Type 0} → (C → D → R) → (L → M → R) → InOrder S C L → InOrder S D M → R
in_order first later (inl (not_shared, c)) (inl (also, d)) = first c d
in_order first later (inl (not_shared, c)) (inr (shared, m)) = absurd (not_shared shared)
in_order first later (inr (shared, l)) (inl (not_shared, d)) = absurd (not_shared shared)
in_order first later (inr (shared, l)) (inr (also, m)) = later l m

none_one : (c d : Option CellId) → c ≡ None → d ≡ None → c ≡ d
none_one c d e f = e ∙ sym f

second_one : {X : Type 0} (R : X → X → Type 0) (xs ys : List X) (k l : ℕ) (f : IsFirst R xs ys k) (g : IsFirst R xs ys l) → f.second ≡ g.second
second_one R xs ys k l f g = same_some f.second g.second (sym f.of_second ∙ ap (slice_get ys) (first_is_one R xs ys k l f g) ∙ g.of_second)

list_one : {X : Type 0} (R : X → X → Type 0) (number : ℕ → X → ℕ) (cells : ℕ) (xs ys : List X) (c d : Option CellId) → IsListCell R number cells xs ys c → IsListCell R number cells xs ys d → c ≡ d
list_one R number cells xs ys c d = in_order (none_one c d) (λ f g.
    f.names ∙ ap (λ k. cell_in_grid cells (number k f.first.second)) (first_is_one R xs ys f.place g.place f.first g.first)
    ∙ ap (λ y. cell_in_grid cells (number g.place y)) (second_one R xs ys f.place g.place f.first g.first) ∙ sym g.names)

layers_one : (size : ℕ) (xss yss : List (List Dec)) (k l : ℕ) → IsFirstOfLayers size xss yss k → IsFirstOfLayers size xss yss l → k ≡ l
layers_one size xss yss k l f g = by_order (f.others g.array l g.first) (g.others f.array k f.first)
  where
    same_array : f.array ≡ g.array → k ≡ l
    same_array e = first_is_one AreSame _ _ k l (subst (λ i. IsFirst AreSame (array_at xss i) (array_at yss i) k) e f.first) g.first

    by_order : (k / size < l / size) ⊎ ((k / size ≡ l / size) × (f.array ≤ g.array)) → (l / size < k / size) ⊎ ((l / size ≡ k / size) × (g.array ≤ f.array)) → k ≡ l
    by_order (inl a) (inl b) = absurd (omega (arith, a, b))
    by_order (inl a) (inr b) = absurd (omega (arith, a, b.0))
    by_order (inr a) (inl b) = absurd (omega (arith, a.0, b))
    by_order (inr a) (inr b) = same_array (omega (arith, a.1, b.1))

layer_one : (size cells : ℕ) (xss yss : List (List Dec)) (c d : Option CellId) → IsLayerCell size cells xss yss c → IsLayerCell size cells xss yss d → c ≡ d
layer_one size cells xss yss c d f g = f.names ∙ ap (cell_in_grid cells) (layers_one size xss yss f.place g.place f.first g.first) ∙ sym g.names

-- The cell of a package.

head_one : (kind : Package) (a b : FlowModel) (c d : Option CellId) → IsHeadCell kind a b c → IsHeadCell kind a b d → c ≡ d
head_one Dis a b c d f g = in_order (none_one c d) (in_order (list_one AreSame (λ place y. place) (cell_count b.grid) a.grid.top b.grid.top c d)
    (layer_one (layer_size b.grid) (cell_count b.grid) (bottoms a.grid) (bottoms b.grid) c d)) f g
head_one Bas a b c d f g = in_order (list_one AreSame (λ place y. place) (cell_count b.grid) a.ibound b.ibound c d) (none_one c d) f g
head_one Lpf a b c d f g = in_order (none_one c d) (layer_one (layer_size b.grid) (cell_count b.grid) (properties a) (properties b) c d) f g
head_one Rch a b c d f g = none_one c d f g
head_one Evt a b c d f g = none_one c d f g
head_one kind a b c d f g = absurd f

in_one : (kind : Package) (cells : ℕ) (p q : Period) (c d : Option CellId) → IsCellIn kind cells p q c → IsCellIn kind cells p q d → c ≡ d
in_one Dis cells p q c d f g = none_one c d f g
in_one Bas cells p q c d f g = absurd f
in_one Lpf cells p q c d f g = absurd f
in_one Wel cells p q c d f g = list_one AreEntriesAlike (λ place x. cell_of x) cells p.stresses.wells q.stresses.wells c d f g
in_one Riv cells p q c d f g = list_one AreEntriesAlike (λ place x. cell_of x) cells p.stresses.rivers q.stresses.rivers c d f g
in_one Drn cells p q c d f g = list_one AreEntriesAlike (λ place x. cell_of x) cells p.stresses.drains q.stresses.drains c d f g
in_one Ghb cells p q c d f g = list_one AreEntriesAlike (λ place x. cell_of x) cells p.stresses.generals q.stresses.generals c d f g
in_one Chd cells p q c d f g = list_one AreGivenAlike (λ place x. x.cell.0) cells p.stresses.given q.stresses.given c d f g
in_one Rch cells p q c d f g = in_order (none_one c d) (list_one AreSame (λ place y. place) cells p.stresses.irch q.stresses.irch c d) f g
in_one Evt cells p q c d f g =
    in_order (none_one c d) (in_order (list_one AreRatesAlike (λ place y. place) cells p.stresses.evtr q.stresses.evtr c d)
    (in_order (list_one AreSame (λ place y. place) cells p.stresses.exdp q.stresses.exdp c d) (list_one AreSame (λ place y. place) cells p.stresses.ievt q.stresses.ievt c d))) f g

period_one : (kind : Package) (cells : ℕ) (ps qs : List Period) (c d : Option CellId) → IsPeriodCell kind cells ps qs c → IsPeriodCell kind cells ps qs d → c ≡ d
period_one kind cells ps qs c d f g =
    let seconds = second_one (SharesIn kind) ps qs f.period g.period f.first g.first in
    let firsts : f.first.first ≡ g.first.first =
    same_some f.first.first g.first.first (sym f.first.of_first ∙ ap (slice_get ps)
    (first_is_one (SharesIn kind) ps qs f.period g.period f.first g.first) ∙ g.first.of_first) in
    let P : Period → Type 0 = λ p. IsCellIn kind cells p f.first.second c in
    let Q : Period → Type 0 = λ q. IsCellIn kind cells g.first.first q c in
    in_one kind cells g.first.first g.first.second c d (subst Q seconds (subst P firsts f.names)) g.names

cell_one : (kind : Package) (a b : FlowModel) (c d : Option CellId) → IsCell kind a b c → IsCell kind a b d → c ≡ d
cell_one kind a b c d = in_order (head_one kind a b c d) (in_order (none_one c d) (period_one kind (cell_count b.grid) a.periods b.periods c d))

-- The package.

shared_below : (P : Package → Type 0) (kinds : List Package) (n i : ℕ) (x : Package) → All P (take n kinds) → i < n → slice_get kinds i ≡ Some x → P x
shared_below P [] n i x h lt e = absurd (let bad : Path (Option Package) None (Some x) = e in cc)
shared_below P (k ∷ kinds) zero i x h lt e = absurd (omega (arith, lt))
shared_below P (k ∷ kinds) (suc n) zero x h lt e = subst P (same_some k x e) (All-head P k (take n kinds) h)
shared_below P (k ∷ kinds) (suc n) (suc i) x h lt e = shared_below P kinds n i x (All-tail P k (take n kinds) h) (omega (arith, lt)) e

module _ (a b : FlowModel) (d e : Difference) (f : IsFirstDifference a b d) (g : IsFirstDifference a b e) where
  place_one : f.place ≡ g.place
  place_one = elim (cases_order f.place g.place) [
    | inl same ↦ same
    | inr (inl less) ↦ absurd (f.unlike (shared_below (λ x. Shares x a b) comparing_order g.place f.place d.package g.before less f.kind))
    | inr (inr more) ↦ absurd (g.unlike (shared_below (λ x. Shares x a b) comparing_order f.place g.place e.package f.before more g.kind))
  ]

  package_one : d.package ≡ e.package
  package_one = same_some d.package e.package (sym f.kind ∙ ap (slice_get comparing_order) place_one ∙ g.kind)

  pub difference_one : d ≡ e
  difference_one =
      let C : Package → Type 0 = λ k. IsCell k a b d.cell in
      let cells = cell_one e.package a b d.cell e.cell (subst C package_one f.cell) g.cell in
      λ i. record { «package» = package_one i; cell = cells i }
