-- The listed heads of a problem's cells are words of the problem.
use Rattle.gentle_budget.proofs.Common.{◌≡◌, ℕ, ◌<◌, List, All, length, get_or, map, sym, subst, get_or-map, length-map, entries_at, no_bound, no_entries, IsHead, Entries, Bound, Side, High, Low}
use Rattle.gentle_budget.proofs.Common.{AreWords, heads_on, AreHeads, one_head, side_words}

module _ (listed : List Bound) (side : Side) (p : List Entries) (heads : All AreHeads listed) (ids : (k : ℕ) → k < length p → (entries_at p k).id < length listed) where
  head_fits : (other : Side) (c : ℕ) → c < length listed → IsHead (heads_on other listed c)
  head_fits Low c lt = (heads c no_bound lt).low
  head_fits High c lt = (heads c no_bound lt).high

  abbrev word : Entries → Bound
  word e = one_head (heads_on side listed e.id)

  word_at : (P : Bound → Type 0) (k : ℕ) → k < length p → P (word (entries_at p k)) → P (get_or (side_words listed side p) k no_bound)
  word_at P k lt h = subst P (sym (get_or-map word p k no_entries no_bound lt)) h

  pub words_fit : AreWords p (side_words listed side p)
  words_fit = record {
    whole = length-map p word;
    low = (λ k lt. word_at (λ b. IsHead b.low) k lt (head_fits side (entries_at p k).id (ids k lt)));
    high = (λ k lt. word_at (λ b. IsHead b.high) k lt (head_fits side (entries_at p k).id (ids k lt)));
  }
