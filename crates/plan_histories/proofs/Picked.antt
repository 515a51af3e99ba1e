-- The entries of one cell, of lists one after the other.
use Rattle.plan_histories.proofs.Common.{◌≡◌, ◌∙◌, ℕ, ap, refl, sym, All, List, [], ◌∷◌, ◌++◌, None, Option, cons_option, filter, filter_map, append-nil, All-filter, All-head, All-tail, filter-append}
use Rattle.plan_histories.proofs.Common.{filter_map-append, ◌==◌, cell_of, entries_of, Entry}

module _ {X : Type 0} (f : Entry → Option X) (c : ℕ) where
  abbrev pub picked : List Entry → List X
  picked xs = filter_map f (entries_of c xs)

  pub picked_append : (xs ys : List Entry) → picked (xs ++ ys) ≡ picked xs ++ picked ys
  unfolding entries_of
  picked_append xs ys =
      ap (λ (zs : List Entry). filter_map f zs) (filter-append (λ (x : Entry). cell_of x == c) xs ys)
      ∙ filter_map-append f (filter (λ (x : Entry). cell_of x == c) xs) (filter (λ (x : Entry). cell_of x == c) ys)

  none_of : (xs : List Entry) → All (λ x. f x ≡ None) xs → filter_map f xs ≡ []
  none_of [] all = refl
  none_of (x ∷ xs) all =
      ap (λ (o : Option X). cons_option o (filter_map f xs)) (All-head (λ (y : Entry). f y ≡ None) x xs all) ∙ none_of xs (All-tail (λ (y : Entry). f y ≡ None) x xs all)

  pub picked_none : (xs : List Entry) → All (λ x. f x ≡ None) xs → picked xs ≡ []
  unfolding entries_of
  picked_none xs all = none_of _ (All-filter (λ (x : Entry). cell_of x == c) (λ (y : Entry). f y ≡ None) xs all)

  -- wells that are added among entries that are no wells, and among wells
  pub kept : (a w b : List Entry) → All (λ x. f x ≡ None) w → picked ((a ++ w) ++ b) ≡ picked (a ++ b)
  kept a w b none =
      picked_append (a ++ w) b ∙ ap (λ (xs : List X). xs ++ picked b) (picked_append a w ∙ ap (λ (xs : List X). picked a ++ xs) (picked_none w none) ∙ append-nil (picked a)) ∙ sym (picked_append a b)

  pub added : (a w b : List Entry) → All (λ x. f x ≡ None) b → picked ((a ++ w) ++ b) ≡ picked (a ++ b) ++ picked w
  added a w b none =
      picked_append (a ++ w) b ∙ ap (λ (xs : List X). picked (a ++ w) ++ xs) (picked_none b none) ∙ append-nil (picked (a ++ w)) ∙ picked_append a w
      ∙ ap (λ (xs : List X). xs ++ picked w) (sym (picked_append a b ∙ ap (λ (xs : List X). picked a ++ xs) (picked_none b none) ∙ append-nil (picked a)))
