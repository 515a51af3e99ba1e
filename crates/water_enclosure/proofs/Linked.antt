-- The links of a step at given heads: other variable cells, each once, and the same conductance at both ends.
use Rattle.water_enclosure.proofs.Common.{◌≡◌, ℕ, ◌<◌, Bool, true, List, length, get_or, map, refl, sym, ap, ◌∙◌, subst, arith, get_or-map, length-map, AreLinked, ExactCell, ExactLink, HasLinkBack}
use Rattle.water_enclosure.proofs.Common.{no_cell, no_link, Fraction, Same, IsFaceOf, passing_are, passing_have, end_within, face_back, turned, ends_ascend, All-In, Contains-In, In, In-map, Ordered}
use Rattle.water_enclosure.proofs.Common.{Ordered-at, map-In, Face, FlowModel, TimeStep, HasSize, cell_count, index_of, is_variable, variable_cells, variable_faces, ConvertibleLayers}
use Rattle.water_enclosure.proofs.Common.{convertible_cell, convertible_step, variable_branch, variable_cell}
use Rattle.cell_balance.specs.{cell_at}
use Rattle.flow_equations.proofs.Links.{Ordered-map, below_is, index_is}
use Rattle.model_types.proofs.Ranks.{IsAt, at_rank, is_at, rank, rank_below}

module _ (m : FlowModel) (at : TimeStep) (size : HasSize m.grid) where
  abbrev pub test : ℕ → Bool
  test = is_variable m at.period

  count_is : length (variable_cells m at.period) ≡ rank test (cell_count m.grid)
  count_is = ap length (below_is m at.period (cell_count m.grid))

  -- the cell of an index is variable, lies in the grid and has this index
  pub variable_at : (i : ℕ) → i < length (variable_cells m at.period) → IsAt test (cell_count m.grid) i (variable_cell m at.period i)
  variable_at i lt = subst (λ cs. IsAt test (cell_count m.grid) i (get_or cs i 0)) (sym (below_is m at.period (cell_count m.grid))) (is_at test (cell_count m.grid) i (omega (arith, lt, count_is)))

  -- the index of a variable cell leads back to it
  pub index_within : (c : ℕ) → test c ≡ true → c < cell_count m.grid → index_of m at.period c < length (variable_cells m at.period)
  index_within c v lt = omega (arith, count_is, index_is m at.period c, rank_below test c (cell_count m.grid) v lt)

  pub index_names_cell : (c : ℕ) → test c ≡ true → c < cell_count m.grid → variable_cell m at.period (index_of m at.period c) ≡ c
  index_names_cell c v lt = (λ j. get_or (below_is m at.period (cell_count m.grid) j) (index_is m at.period c j) 0) ∙ at_rank test (cell_count m.grid) c v lt

  module _ (w : ConvertibleLayers) (h : ℕ → Fraction) where
    abbrev step : List ExactCell
    step = convertible_step m w at h

    pub step_length : length step ≡ length (variable_cells m at.period)
    step_length = length-map (variable_cells m at.period) (convertible_cell m w at h)

    pub cell_is : (i : ℕ) → i < length step → cell_at step i ≡ convertible_cell m w at h (variable_cell m at.period i)
    cell_is i lt = get_or-map (convertible_cell m w at h) (variable_cells m at.period) i 0 no_cell (omega (arith, lt, step_length))

    module _ (i : ℕ) (lt : i < length step) where
      abbrev here : ℕ
      here = variable_cell m at.period i

      place : IsAt test (cell_count m.grid) i here
      place = variable_at i (omega (arith, lt, step_length))

      links_are : (cell_at step i).links ≡ map (variable_branch m w at h) (variable_faces m at.period here)
      links_are = ap (λ (e : ExactCell). e.links) (cell_is i lt)

      -- a link of the cell comes from a face to a variable neighbour
      from_face : (x : ExactLink) → In (cell_at step i).links x → (f : Face) × IsFaceOf m.grid here f × (test f.end ≡ true) × (variable_branch m w at h f ≡ x)
      from_face x j =
          let (f, k, e) = map-In (variable_branch m w at h) (variable_faces m at.period here) x (subst (λ xs. In xs x) links_are j) in
          let (g, v) = passing_are m.grid test here f k in
          (f, g, v, e)

      in_range : (x : ExactLink) → In (cell_at step i).links x → x.cell < length step
      in_range x j =
          let (f, g, v, e) = from_face x j in
          omega (arith, step_length, (let q : index_of m at.period f.end ≡ x.cell = ap (λ (y : ExactLink). y.cell) e in q), index_within f.end v (end_within m.grid here f size place.within g))

      ordered : Ordered (λ (x y : ExactLink). x.cell < y.cell) (map (variable_branch m w at h) (variable_faces m at.period here))
      ordered = Ordered-map (λ (x y : Face). x.end < y.end) (λ (x y : ExactLink). x.cell < y.cell) (variable_branch m w at h) (variable_faces m at.period here)
          (λ x y a b less. omega (arith, index_is m at.period x.end, index_is m at.period y.end, rank_below test x.end y.end (passing_are m.grid test here x a).1 less))
          (ends_ascend m.grid here test size)

      -- the link back, at the other end
      back : (x : ExactLink) → In (cell_at step i).links x → HasLinkBack step i x
      back x j =
          let (f, g, v, e) = from_face x j in
          let inside = end_within m.grid here f size place.within g in
          let there : x.cell ≡ index_of m at.period f.end = sym (ap (λ (y : ExactLink). y.cell) e) in
          let at_end : variable_cell m at.period x.cell ≡ f.end = ap (variable_cell m at.period) there ∙ index_names_cell f.end v inside in
          let links : (cell_at step x.cell).links ≡ map (variable_branch m w at h) (variable_faces m at.period f.end) =
          ap (λ (y : ExactCell). y.links) (cell_is x.cell (in_range x j)) ∙ ap (λ c.
          map (variable_branch m w at h) (variable_faces m at.period c)) at_end in
          let member : In (variable_faces m at.period f.end) (turned here f) = passing_have m.grid test f.end (turned here f) (face_back m.grid here f size g) place.passes in
          record {
            back = variable_branch m w at h (turned here f);
            is_there = Contains-In (cell_at step x.cell).links (variable_branch m w at h (turned here f))
                (subst (λ xs. In xs (variable_branch m w at h (turned here f))) (sym links) (In-map (variable_branch m w at h) (variable_faces m at.period f.end) (turned here f) member));
            leads_back = index_is m at.period here ∙ place.index;
            same = subst (λ (y : ExactLink). Same (variable_branch m w at h (turned here f)).conductance y.conductance) e (record { cross = refl });
          }

      distinct : (a b : ℕ) → a < b → b < length (cell_at step i).links → (get_or (cell_at step i).links a no_link).cell ≡ (get_or (cell_at step i).links b no_link).cell → ⊥
      distinct a b less k same = omega (
        arith,
        same,
        Ordered-at (λ (x y : ExactLink). x.cell < y.cell) (cell_at step i).links a b no_link
            (subst (Ordered (λ (x y : ExactLink). x.cell < y.cell)) (sym links_are) ordered) less k,
      )

    pub are_linked : AreLinked step
    are_linked = record {
      range = (λ i lt. All-In (λ x. x.cell < length step) (cell_at step i).links (in_range i lt));
      apart = (λ i a b lt less k same. distinct i lt a b less k same);
      ends = (λ i lt. All-In (HasLinkBack step i) (cell_at step i).links (back i lt));
    }
