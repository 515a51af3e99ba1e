-- What is counted, one line HEAD after another.
use Rattle.listing_summary.proofs.Common.{◌≡◌, ℕ, ◌+◌, ◌<◌, ◌≤◌, ◌^◌, List, [], ◌∷◌, ◌++◌, length, drop, get_or, cond, refl, sym, ap, ◌∙◌, arith, ℤ, ◌+ℤ◌, fold, Bound, IsHead, IsMagnitudeAtMost}
use Rattle.listing_summary.proofs.Common.{Summary, with_head_line, with_step, nothing, Fits, printed_bounds, printed_heads, summary_of, width, Bool, Edges, EndsAt, IsAtFirst, IsNext, IsWalk}
use Rattle.listing_summary.proofs.Common.{times_left, IsSummarized, is_active, most_heads}
use Rattle.listing_run.specs.{declared.solving.Step.Step, declared.text.ListingEnd.ListingEnd, declared.steps.Steps.Steps, declared.steps.Task.Task}
use Rattle.std.proofs.{lemmas.Int.ints, lemmas.Int.clamps, lemmas.List.drop_more, lemmas.List.drop_all, lemmas.List.length-append, lemmas.List.Sums.fold-append, lemmas.List.Sums.fold_push}
use Rattle.std.specs.Int.{int_max}
use Rattle.model_types.specs.declared.model.FlowModel.{FlowModel}
use Rattle.step_problem.specs.Entries.{Entries}
use Rattle.listing_run.proofs.UnderWay.{IsSolved, encloses_if_whole, solved_steps_are_all, none_solved, one_more_solved}

-- the cells that are left
pub one_cell : (m : FlowModel) (bs : List Bound) (c : ℕ) (d : Bound) (s t whole : Summary) → c < length bs → t ≡
    fold with_head_line s (cond (is_active m c) (get_or bs c d ∷ []) []) → fold with_head_line s (printed_bounds m c (drop c bs)) ≡ whole →
    fold with_head_line t (printed_bounds m (c + 1) (drop (c + 1) bs)) ≡ whole
unfolding printed_bounds
one_cell m bs c d s t whole within is so_far =
    let rest = printed_bounds m (c + 1) (drop (c + 1) bs) in
    let here : List Bound = cond (is_active m c) (get_or bs c d ∷ []) [] in
    let split : fold with_head_line s (printed_bounds m c (drop c bs)) ≡ fold with_head_line (fold with_head_line s here) rest =
    rw (drop_more bs c d within) (fold-append with_head_line s here rest) in
    ap (λ x. fold with_head_line x rest) is ∙ sym split ∙ so_far

pub no_cell : (m : FlowModel) (bs : List Bound) (c : ℕ) (s whole : Summary) → length bs ≤ c → fold with_head_line s (printed_bounds m c (drop c bs)) ≡ whole → s ≡ whole
unfolding printed_bounds
no_cell m bs c s whole past so_far =
    let none : fold with_head_line s (printed_bounds m c (drop c bs)) ≡ s = rw (drop_all c bs past) refl in
    sym none ∙ so_far

-- a sum that fits has room for one head more
pub low_room : (s : Summary) → Fits s → s.heads < most_heads → IsMagnitudeAtMost s.low_sum (2 ^ 101)
low_room s fits room = record { above = omega (arith, ints, fits.low.above); below = omega (arith, ints, fits.low.below) }

pub high_room : (s : Summary) → Fits s → s.heads < most_heads → IsMagnitudeAtMost s.high_sum (2 ^ 101)
high_room s fits room = record { above = omega (arith, ints, fits.high.above); below = omega (arith, ints, fits.high.below) }

-- the sums fit, counted or not
pub fits_more : (s : Summary) (b : Bound) → Fits s → IsHead b.low → IsHead b.high → Fits (with_head_line s b)
fits_more s b fits low high = record {
  widest = record {
    above = omega (arith, ints, clamps, fits.widest.above, fits.widest.below, low.above, low.below, high.above, high.below);
    below =
        omega (arith, ints, clamps, fits.widest.above, fits.widest.below, low.above, low.below, high.above, high.below);
  };
  low = record { above = omega (arith, ints, fits.low.above, low.above); below = omega (arith, ints, fits.low.below, low.below) };
  high = record { above = omega (arith, ints, fits.high.above, high.above); below = omega (arith, ints, fits.high.below, high.below) };
}

-- a summary by its numbers
abbrev made : ℕ → ℕ → ℤ → ℤ → ℤ → Summary
made steps heads w l u = record { steps = steps; heads = heads; widest = w; low_sum = l; high_sum = u }

same : {a b i j : ℕ} {w x l m u v : ℤ} → a ≡ b → i ≡ j → w ≡ x → l ≡ m → u ≡ v → made a i w l u ≡ made b j x m v
same p q r s t = rw (p, q, r, s, t) refl

abbrev wider : ℤ → Bound → ℤ
wider w b = int_max (width b) w

abbrev lower : ℤ → Bound → ℤ
lower s b = s +ℤ b.low

abbrev upper : ℤ → Bound → ℤ
upper s b = s +ℤ b.high

-- each number of a count, by itself
counted_all : (s : Summary) (bs : List Bound) → fold with_head_line s bs ≡ made s.steps (s.heads + length bs) (fold wider s.widest bs) (fold lower s.low_sum bs) (fold upper s.high_sum bs)
counted_all s [] = same refl (omega arith) refl refl refl
counted_all s (b ∷ bs) = counted_all (with_head_line s b) bs ∙ same refl (omega arith) refl refl refl

stepped_all : (m : FlowModel) (s : Summary) (values : List Step) → fold (λ s v. with_step m s v.heads) s values ≡
    made (s.steps + length values) (s.heads + length (printed_heads m values)) (fold wider s.widest (printed_heads m values))
    (fold lower s.low_sum (printed_heads m values)) (fold upper s.high_sum (printed_heads m values))
stepped_all m s [] = same (omega arith) (omega arith) refl refl refl
stepped_all m s (v ∷ values) =
    let first : List Bound = printed_bounds m 0 v.heads in
    let more : List Bound = printed_heads m values in
    let e = counted_all s first in
    let heads : (fold with_head_line s first).heads ≡ s.heads + length first = ap (λ (x : Summary). x.heads) e in
    stepped_all m (with_step m s v.heads) values ∙ same
    (omega arith)
    (let both = length-append first more in omega (arith, heads, both))
    (ap (λ (x : Summary). fold wider x.widest more) e ∙ sym (fold-append wider s.widest first more))
    (ap (λ (x : Summary). fold lower x.low_sum more) e ∙ sym (fold-append lower s.low_sum first more))
    (ap (λ (x : Summary). fold upper x.high_sum more) e ∙ sym (fold-append upper s.high_sum first more))

-- all steps, one after another
abbrev pub all_counted : FlowModel → List Step → Summary
all_counted m values = fold (λ s v. with_step m s v.heads) nothing values

pub one_step : (m : FlowModel) (values : List Step) (v : Step) (heads : List Bound) (s t : Summary) → heads ≡ v.heads → s ≡ all_counted m values → t ≡
    with_step m s heads → t ≡ all_counted m (values ++ (v ∷ []))
one_step m values v heads s t same so_far is =
    is ∙ ap (λ hs. with_step m s hs) same ∙ ap (λ x. with_step m x v.heads) so_far ∙ sym (fold_push (λ s v. with_step m s v.heads) nothing values v)

pub all_counted_is : (m : FlowModel) (values : List Step) → all_counted m values ≡ summary_of m values
all_counted_is m values = stepped_all m nothing values ∙ same (omega arith) (omega arith) refl refl refl

-- The steps are counted, from one to the next, up to the listing's end.
module _ (k : Task) where
  -- the steps so far are solved and counted
  pub record IsCounted (s : Steps) (n : Summary) : Type 0 where
    pub values : List Step
    pub solved : IsSolved k s.heads (times_left s) values
    pub counts : n ≡ all_counted k.decks.first values

  pub none_counted : (s : Steps) (n : Summary) → n ≡ nothing → IsWalk k s → IsAtFirst k s → IsCounted s n
  none_counted s n none w f = record { values = []; solved = none_solved k s w f; counts = none }

  pub one_more_counted : {S : Type 0} (leads : S → List Entries → Edges → Bool → S → Type 0) (s t : Steps) (before after : S) (v : Step) (n m : Summary) →
      IsNext leads k s t before after v → m ≡ with_step k.decks.first n t.heads → IsCounted s n → IsCounted t m
  one_more_counted leads s t before after v n m next is so = record {
    values = so.values ++ (v ∷ []);
    solved = one_more_solved k leads s t before after v so.values so.solved next;
    counts = one_step k.decks.first so.values v t.heads n m next.heads so.counts is;
  }

  pub all_counted_to_end : (s : Steps) (n : Summary) (last : ListingEnd) → EndsAt k last s.heads (times_left s) → IsCounted s n → IsSummarized k n last
  all_counted_to_end s n last here so = record {
    values = so.values;
    steps = solved_steps_are_all k s.heads (times_left s) so.values last so.solved here;
    encloses = encloses_if_whole k s.heads (times_left s) so.values last so.solved here;
    is = so.counts ∙ all_counted_is k.decks.first so.values;
  }
