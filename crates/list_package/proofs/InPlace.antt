-- A value is read for each element of a list, and takes its place.
use Rattle.list_package.proofs.Common.{◌≡◌, ℕ, ◌+◌, ◌<◌, ◌≤◌, List, ◌∷◌, Ok, Result, length, refl, get_or, take, drop, add-one, arith, set, each_done, each_goes_on, ends_all, for_each, with_front}
use Rattle.list_package.proofs.Common.{stops_all, Stops, StopsText, Refusal, drop-set-lt, drop_all, take_all, take_more_set}
use Rattle.outside.specs.{declared.inputs.InputFault.InputFault, declared.inputs.TextFault.TextFault}
use Rattle.std.proofs.Math.Seq.{drop-cons}

module _ {X S : Type 0} (read : X → S → Result (X × S) Refusal) (xs : List X) (i : ℕ) (s : S) (total : Result (List X × S) Refusal)
    (so_far : with_front (take i xs) (for_each read (drop i xs) s) ≡ total) where
  module _ (d : X) (inside : i < length xs) where
    next_is : drop i xs ≡ get_or xs i d ∷ drop (i + 1) xs
    next_is = rw (add-one, drop-cons xs i d) refl

    pub one_more_put : (x : X) (after : S) → read (get_or xs i d) s ≡ Ok (x, after) → with_front (take (i + 1) (set xs i x)) (for_each read (drop (i + 1) (set xs i x)) after) ≡ total
    one_more_put x after h =
        rw (take_more_set xs i x inside, drop-set-lt (i + 1) xs i x (omega arith)) (each_goes_on read (take i xs) (drop i xs) (drop (i + 1) xs) (get_or xs i d) s after x total next_is h so_far)

    -- reading stops in the middle
    pub put_stops : (fault : InputFault) → Stops fault (read (get_or xs i d) s) → Stops fault total
    unfolding for_each
    put_stops fault h = rw (← so_far, next_is) (stops_all fault _ _ (stops_all fault (read (get_or xs i d) s) _ h))

    pub put_ends : (fault : TextFault) → StopsText fault (read (get_or xs i d) s) → StopsText fault total
    unfolding for_each
    put_ends fault h = rw (← so_far, next_is) (ends_all fault _ _ (ends_all fault (read (get_or xs i d) s) _ h))

  pub all_put : length xs ≤ i → total ≡ Ok (xs, s)
  all_put le = each_done read xs (drop i xs) s total (drop_all i xs le) (rw (take_all i xs le) at so_far)
