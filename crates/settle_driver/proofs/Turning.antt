-- One cell's words are relaxed.
use Rattle.settle_driver.proofs.Common.{◌≡◌, ℕ, ◌<◌, refl, sym, ◌∙◌, ap, subst, Bool, true, false, List, length, ℤ, slice_index_or, slice_set, get_or-set_same, not, ◌&&◌, Bound, Low, High, Entries}
use Rattle.settle_driver.proofs.Common.{no_bound, lower_at, upper_at, IsRaise, IsSink, IsRelaxedCell, set-get_or}
use Rattle.std.specs.Ordering.{int_eq}
use Rattle.std.proofs.lemmas.Bool.Decides.{Decides-int_eq}

pub relaxed_set : (p : List Entries) (w : List Bound) (c : ℕ) (l h : ℤ) → c < length w → IsRaise p (lower_at w) c l → IsSink p (upper_at w) c h →
    IsRelaxedCell p w (slice_set w c (record { low = l; high = h })) c
relaxed_set p w c l h i r s Low = subst (IsRaise p (lower_at w) c) (sym (ap (λ (b : Bound). b.low) (get_or-set_same w c (record { low = l; high = h }) no_bound i))) r
relaxed_set p w c l h i r s High = subst (IsSink p (upper_at w) c) (sym (ap (λ (b : Bound). b.high) (get_or-set_same w c (record { low = l; high = h }) no_bound i))) s

both : (a b : Bool) → not (a && b) ≡ false → (a ≡ true) × (b ≡ true)
both true true e = (refl, refl)
both true false e = absurd cc
both false b e = absurd cc

-- where the new bound is equal to the old one the words stay
pub still_set : (w : List Bound) (c : ℕ) (l h : ℤ) (d : Bound) (moved : Bool) → moved ≡
    not (int_eq l (slice_index_or w c d).low && int_eq h (slice_index_or w c d).high) → moved ≡ false → slice_set w c (record { low = l; high = h }) ≡ w
still_set w c l h d moved is e =
    let old = slice_index_or w c d in
    let (a, b) = both (int_eq l old.low) (int_eq h old.high) (sym is ∙ e) in
    let low : l ≡ old.low = (Decides-int_eq l old.low).0 a in
    let high : h ≡ old.high = (Decides-int_eq h old.high).0 b in
    let same : record { low = l; high = h } ≡ old = rw (low, high) refl in
    ap (λ (x : Bound). slice_set w c x) same ∙ set-get_or w c d
