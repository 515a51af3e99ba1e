-- What a file of a list package gives.
use Rattle.list_package.proofs.Common.{integer, number_at, ok_gives_only, goes_on, if_clear, if_passed, then_, GivesOnly, Dec, IsListOf, Kind, count_of, has_parameters, header_of, is_reused}
use Rattle.list_package.proofs.Common.{item_line, list_at, list_of, lists_of, period_at, periods_of, with_list, HasSize, cell_count, most_entries, CellId, Grid, Limits, Period, refusal, words}
use Rattle.list_package.proofs.Common.{TooManyEntries, Left, for_each, left_from, line_at, without_comments, All, Bool, IfSome, List, None, Option, Some, is_some, map, nat_le, negsuc, not, pos, refl}
use Rattle.list_package.proofs.Common.{ℕ, ℤ, ◌&&◌, ◌≡◌, ◌≤◌, [], ◌∷◌, Result, All-cons, All-head, All-nil, All-tail, Refusal}
use Rattle.list_package.specs.{declared.header.Count.Count, declared.header.Count.TheVariants.Entries, declared.header.Count.TheVariants.Again}
use Rattle.std.proofs.lemmas.Bool.{leb-true}
use Rattle.list_package.proofs.EntryForms.{IsNewList, no_list, new_list_is}

-- the numbers and kinds of steps
abbrev pub steps : Period → ℕ × Bool
steps p = (p.nstp, p.steady)

cons_same : {A : Type 0} (x y : A) (xs ys : List A) → x ≡ y → xs ≡ ys → x ∷ xs ≡ y ∷ ys
cons_same x y xs ys e f = cc

-- periods that are read with a state
module _ {S : Type 0} (read : Period → S → Result (Period × S) Refusal) (I : S → Type 0) (P Q : Period → Type 0)
    (step : (p : Period) (s : S) → I s → P p → GivesOnly (λ x. Q x.0 × I x.1 × (steps x.0 ≡ steps p)) (read p s)) where
  pub each_are : (ps : List Period) (s : S) → I s → All P ps → GivesOnly (λ x. All Q x.0 × (map steps x.0 ≡ map steps ps)) (for_each read ps s)
  unfolding for_each
  each_are [] s good all = ok_gives_only (All-nil Q, refl)
  each_are (p ∷ ps) s good all =
      then_ _ (step p s good (All-head P p ps all)) (λ x one. then_ _ (each_are ps x.1 one.1 (All-tail P p ps all))
      (λ more rest. ok_gives_only (All-cons Q x.0 more.0 one.0 rest.0, cons_same (steps x.0) (steps p) (map steps more.0) (map steps ps) one.2 rest.1)))

-- ITMP as a count of entries
abbrev IsFew : Limits → Count → Type 0
IsFew limits (Entries n) = n ≤ most_entries limits
IsFew limits Again = Unit {0}

count_is : (limits : Limits) (z : ℤ) (r : Refusal) → GivesOnly (IsFew limits) (count_of limits z r)
count_is limits (pos n) r = if_passed (nat_le n (most_entries limits)) _ _ (λ few. ok_gives_only (leb-true n (most_entries limits) few))
count_is limits (negsuc n) r = ok_gives_only tt

header_is : (limits : Limits) (file : List ℕ) (line : ℕ) (listed : Bool) (ws : List (List ℕ)) → GivesOnly (IsFew limits) (header_of limits file line listed ws)
unfolding header_of
header_is limits file line listed ws =
    goes_on (number_at integer file line ws) _ (λ itmp e. then_ _ (count_is limits itmp.0 (refusal TooManyEntries file line)) (λ count few. if_clear (is_reused count && not listed) _ _
    (λ a. if_clear (has_parameters itmp.1) _ _ (λ b. ok_gives_only few))))

module _ {E : Type 0} (limits : Limits) (kind : Kind E) (placed : (c : CellId) (ds : List Dec) → kind.place (kind.entry c ds) ≡ c.0) (file : List ℕ) (g : Grid) (size : HasSize g) where
  abbrev IsList : List E → Type 0
  IsList xs = IsNewList kind (cell_count g) limits xs

  abbrev State : Type 0
  State = Option (List E) × Left

  chosen_is : (c : Count) (last : Option (List E)) (left : Left) → IsFew limits c → IfSome last IsList → GivesOnly (λ x. IsList x.0) (list_of kind file g c last left)
  chosen_is (Entries n) last left few good = new_list_is kind placed file g size limits n left few
  chosen_is Again None left few good = ok_gives_only (no_list kind (cell_count g) limits)
  chosen_is Again (Some list) left few good = ok_gives_only good

  list_is : (p : Period) (s : State) → IfSome s.0 IsList → GivesOnly (λ x. IsListOf limits kind (cell_count g) p x.0 × IfSome x.1.0 IsList) (list_at limits kind file g p s)
  unfolding list_at
  list_is p s good =
      goes_on (line_at file s.1) _ (λ line e. then_ _ (header_is limits file line.0.number (is_some s.0) (words line.0.bytes)) (λ count few. then_ _ (chosen_is count s.0 line.1 few good)
      (λ list new. if_passed (kind.suits p list.0) _ _ (λ suits. ok_gives_only (record { few = new.few; entries = new.entries; once = new.once; suits = suits }, new)))))

  module _ (P Q : Period → Type 0) (put : (p : Period) (xs : List E) → P p → IsListOf limits kind (cell_count g) p xs → Q (with_list kind p xs)) where
    period_is : (p : Period) (s : State) → IfSome s.0 IsList → P p → GivesOnly (λ x. Q x.0 × IfSome x.1.0 IsList × (steps x.0 ≡ steps p)) (period_at limits kind file g p s)
    unfolding period_at
    period_is p s good known = then_ _ (list_is p s good) (λ list is. ok_gives_only (put p list.0 known is.0, is.1, refl))

    pub lists_are : (bytes : List ℕ) (ps : List Period) → All P ps → GivesOnly (λ qs. All Q qs × (map steps qs ≡ map steps ps)) (lists_of limits kind file bytes g ps)
    unfolding lists_of periods_of
    lists_are bytes ps all =
        goes_on (item_line file (without_comments (left_from 1 bytes))) _ (λ line a. goes_on (number_at integer file line.0.number (words line.0.bytes)) _
        (λ most b. then_ _ (each_are (period_at limits kind file g) (λ (s : State). IfSome s.0 IsList) P Q period_is ps (None, line.1) tt all) (λ x are. ok_gives_only are)))
