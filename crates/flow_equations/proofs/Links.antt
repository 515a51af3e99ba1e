-- The links of an exact step: other variable cells, each once, and the same conductance at both ends.
use Rattle.flow_equations.proofs.Common.{◌≡◌, ℕ, ◌<◌, inr, Bool, true, List, [], ◌∷◌, length, get_or, map, refl, sym, ap, ◌∙◌, subst, arith, Fraction, Same, ExactLink, ExactCell, cell_at, no_cell}
use Rattle.flow_equations.proofs.Common.{FlowModel, cell_count, is_variable, variable_below, variable_cells, index_of, variable_faces, HasSize, In, In-map, map-In, Contains-In, All-In, Ordered}
use Rattle.flow_equations.proofs.Common.{Ordered-at, passing, rank, rank_below, at_rank, is_at, IsAt, exact_step, exact_cell, exact_link, HasLinkBack, AreLinked, no_link, get_or-map, length-map}
use Rattle.model_types.specs.declared.face.Face.{Face}
use Rattle.model_types.proofs.Leads.{IsFaceOf, passing_are, passing_have, end_within, face_back, turned, ends_ascend}

pub Ordered-map : {X Y : Type 0} (R : X → X → Type 0) (S : Y → Y → Type 0) (f : X → Y) (xs : List X) → ((x y : X) → In xs x → In xs y → R x y → S (f x) (f y)) → Ordered R xs → Ordered S (map f xs)
Ordered-map R S f [] h k = tt
Ordered-map R S f (x ∷ xs) h k = grind (arith, map-In, Ordered-map R S f xs (λ a b i j. h a b (inr i) (inr j)) k.1)

map_back : {X Y : Type 0} (f : X → Y) (g : Y → X) → ((x : X) → g (f x) ≡ x) → (xs : List X) → map g (map f xs) ≡ xs
map_back f g h [] = refl
map_back f g h (x ∷ xs) = λ i. h x i ∷ map_back f g h xs i

pub ids_are : (m : FlowModel) (p n : ℕ) (old : ℕ → Fraction) → map (λ e. e.id) (exact_step m p n old) ≡ variable_cells m p
ids_are m p n old = map_back (exact_cell m p n old) (λ e. e.id) (λ c. refl) (variable_cells m p)

pub below_is : (m : FlowModel) (p n : ℕ) → variable_below m p n ≡ passing (is_variable m p) n
unfolding variable_below
below_is m p n = refl

pub index_is : (m : FlowModel) (p c : ℕ) → index_of m p c ≡ rank (is_variable m p) c
index_is m p c = ap length (below_is m p c)

module _ (m : FlowModel) (p n : ℕ) (old : ℕ → Fraction) (size : HasSize m.grid) where
  abbrev step : List ExactCell
  step = exact_step m p n old

  abbrev test : ℕ → Bool
  test = is_variable m p

  -- the number of the cell of an index
  abbrev number : ℕ → ℕ
  number i = get_or (passing test (cell_count m.grid)) i 0

  count_is : length step ≡ rank test (cell_count m.grid)
  count_is = length-map (variable_cells m p) (exact_cell m p n old) ∙ ap length (below_is m p (cell_count m.grid))

  place : (i : ℕ) → i < length step → IsAt test (cell_count m.grid) i (number i)
  place i lt = is_at test (cell_count m.grid) i (omega (arith, lt, count_is))

  cell_is : (i : ℕ) → i < length step → cell_at step i ≡ exact_cell m p n old (number i)
  cell_is i lt =
      get_or-map (exact_cell m p n old) (variable_cells m p) i 0 no_cell (omega (arith, lt, length-map (variable_cells m p) (exact_cell m p n old)))
      ∙ ap (λ cs. exact_cell m p n old (get_or cs i 0)) (below_is m p (cell_count m.grid))

  index_within : (c : ℕ) → test c ≡ true → c < cell_count m.grid → rank test c < length step
  index_within c v lt = omega (arith, count_is, rank_below test c (cell_count m.grid) v lt)

  module _ (i : ℕ) (lt : i < length step) where
    abbrev here : ℕ
    here = number i

    links_are : (cell_at step i).links ≡ map (exact_link m p n old) (variable_faces m p here)
    links_are = ap (λ (e : ExactCell). e.links) (cell_is i lt)

    -- a link of the cell comes from a face to a variable neighbour
    from_face : (x : ExactLink) → In (cell_at step i).links x → (f : Face) × IsFaceOf m.grid here f × (test f.end ≡ true) × (exact_link m p n old f ≡ x)
    from_face x j =
        let (f, k, e) = map-In (exact_link m p n old) (variable_faces m p here) x (subst (λ xs. In xs x) links_are j) in
        let (g, v) = passing_are m.grid test here f k in
        (f, g, v, e)

    in_range : (x : ExactLink) → In (cell_at step i).links x → x.cell < length step
    in_range x j =
        let (f, g, v, e) = from_face x j in
        omega (arith, (let q : index_of m p f.end ≡ x.cell = ap (λ (y : ExactLink). y.cell) e in q), index_is m p f.end, index_within f.end v (end_within m.grid here f size (place i lt).within g))

    ordered : Ordered (λ (x y : ExactLink). x.cell < y.cell) (map (exact_link m p n old) (variable_faces m p here))
    ordered = Ordered-map (λ (x y : Face). x.end < y.end) (λ (x y : ExactLink). x.cell < y.cell) (exact_link m p n old) (variable_faces m p here)
        (λ x y a b less. omega (arith, index_is m p x.end, index_is m p y.end, rank_below test x.end y.end (passing_are m.grid test here x a).1 less))
        (ends_ascend m.grid here test size)

    -- the link back, at the other end
    back : (x : ExactLink) → In (cell_at step i).links x → HasLinkBack step i x
    back x j =
        let (f, g, v, e) = from_face x j in
        let inside = end_within m.grid here f size (place i lt).within g in
        let there : x.cell ≡ rank test f.end = sym (ap (λ (y : ExactLink). y.cell) e) ∙ index_is m p f.end in
        let named : number x.cell ≡ f.end = ap number there ∙ at_rank test (cell_count m.grid) f.end v inside in
        let links : (cell_at step x.cell).links ≡ map (exact_link m p n old) (variable_faces m p f.end) =
        ap (λ (y : ExactCell). y.links) (cell_is x.cell (in_range x j)) ∙ ap (λ c. map (exact_link m p n old) (variable_faces m p c)) named in
        let member : In (variable_faces m p f.end) (turned here f) = passing_have m.grid test f.end (turned here f) (face_back m.grid here f size g) (place i lt).passes in
        record {
          back = exact_link m p n old (turned here f);
          is_there = Contains-In (cell_at step x.cell).links (exact_link m p n old (turned here f))
              (subst (λ xs. In xs (exact_link m p n old (turned here f))) (sym links) (In-map (exact_link m p n old) (variable_faces m p f.end) (turned here f) member));
          leads_back = index_is m p here ∙ (place i lt).index;
          same = subst (λ (y : ExactLink). Same (exact_link m p n old (turned here f)).conductance y.conductance) e (record { cross = refl });
        }

    distinct : (a b : ℕ) → a < b → b < length (cell_at step i).links → (get_or (cell_at step i).links a no_link).cell ≡ (get_or (cell_at step i).links b no_link).cell → ⊥
    distinct a b less k same = omega (
      arith,
      same,
      Ordered-at (λ (x y : ExactLink). x.cell < y.cell) (cell_at step i).links a b no_link
          (subst (Ordered (λ (x y : ExactLink). x.cell < y.cell)) (sym links_are) ordered) less k,
    )

  pub are_linked : AreLinked step
  are_linked = record {
    range = (λ i lt. All-In (λ x. x.cell < length step) (cell_at step i).links (in_range i lt));
    apart = (λ i a b lt less k same. distinct i lt a b less k same);
    ends = (λ i lt. All-In (HasLinkBack step i) (cell_at step i).links (back i lt));
  }
