-- What a set of keys has gained after one more face, or one more cell.
use Rattle.zone_pairs.proofs.Common.{◌≡◌, ℕ, suc, ◌+◌, ◌<◌, ◌≤◌, length, Bool, true, false, ◌||◌, refl, sym, ap, ◌∙◌, List, [], ◌∷◌, take, get_or, arith, list_any, nat_cmp, take_all, FlowModel}
use Rattle.zone_pairs.proofs.Common.{is_variable, variable_below, ZonePair, Gains, pair_of}
use Rattle.std.specs.BTreeSet.{BTreeSet, contains}
use Rattle.std.proofs.lemmas.List.Folds.{list_any-append, list_any_more}
use Rattle.model_types.proofs.Ranks.{fails_next, passes_next, passing}

either : (a b c : Bool) → ((a || b) || c) ≡ (a || (b || c))
either true b c = refl
either false b c = refl

or_none : (b : Bool) → (b || false) ≡ b
or_none true = refl
or_none false = refl

-- first those of one test, then those of another
pub gains_both : (old mid new : BTreeSet ℕ) (f g : ZonePair → Bool) → Gains old mid f → Gains mid new g → Gains old new (λ z. f z || g z)
gains_both old mid new f g h k q = grind (arith, either)

pub gains_same : (old new : BTreeSet ℕ) (f g : ZonePair → Bool) → ((z : ZonePair) → f z ≡ g z) → Gains old new f → Gains old new g
gains_same old new f g e h q = h q ∙ ap (λ b. contains nat_cmp old q || b) (e (pair_of q))

pub gains_nothing : (keys : BTreeSet ℕ) → Gains keys keys (λ z. false)
gains_nothing keys q = sym (or_none (contains nat_cmp keys q))

-- one more item of a list
pub gains_item : {X : Type 0} (old mid new : BTreeSet ℕ) (f : ZonePair → X → Bool) (xs : List X) (i : ℕ) (d : X) → i < length xs →
    Gains old mid (λ z. list_any (f z) (take i xs)) → Gains mid new (λ z. f z (get_or xs i d)) → Gains old new (λ z. list_any (f z) (take (i + 1) xs))
gains_item old mid new f xs i d lt h k = grind (arith, gains_same, list_any_more, gains_both)

pub gains_all : {X : Type 0} (old new : BTreeSet ℕ) (f : ZonePair → X → Bool) (xs : List X) (i : ℕ) → length xs ≤ i →
    Gains old new (λ z. list_any (f z) (take i xs)) → Gains old new (λ z. list_any (f z) xs)
gains_all old new f xs i over h = gains_same old new (λ z. list_any (f z) (take i xs)) (λ z. list_any (f z) xs) (λ z. ap (list_any (f z)) (take_all i xs over)) h

-- one more cell, which is variable or not
module _ (m : FlowModel) (p : ℕ) where
  module _ (test : ℕ → Bool) (c : ℕ) where
    last : c + 1 ≡ suc c
    last = omega arith

    any_passes : is_variable m p c ≡ true → list_any test (variable_below m p (c + 1)) ≡ (list_any test (variable_below m p c) || test c)
    unfolding variable_below
    any_passes is =
        ap (list_any test) (ap (passing (is_variable m p)) last ∙ passes_next (is_variable m p) c is)
        ∙ list_any-append test (variable_below m p c) (c ∷ [])
        ∙ ap (λ b. list_any test (variable_below m p c) || b) (or_none (test c))

    any_fails : is_variable m p c ≡ false → list_any test (variable_below m p (c + 1)) ≡ list_any test (variable_below m p c)
    unfolding variable_below
    any_fails is = ap (list_any test) (ap (passing (is_variable m p)) last ∙ fails_next (is_variable m p) c is)

  module _ (old mid : BTreeSet ℕ) (f : ZonePair → ℕ → Bool) (c : ℕ) (before : Gains old mid (λ z. list_any (f z) (variable_below m p c))) where
    pub gains_cell : (new : BTreeSet ℕ) → is_variable m p c ≡ true → Gains mid new (λ z. f z c) → Gains old new (λ z. list_any (f z) (variable_below m p (c + 1)))
    gains_cell new is h =
        gains_same old new (λ z. list_any (f z) (variable_below m p c) || f z c) (λ z. list_any (f z) (variable_below m p (c + 1)))
        (λ z. sym (any_passes (f z) c is)) (gains_both old mid new (λ z. list_any (f z) (variable_below m p c)) (λ z. f z c) before h)

    pub gains_no_cell : is_variable m p c ≡ false → Gains old mid (λ z. list_any (f z) (variable_below m p (c + 1)))
    gains_no_cell is =
        gains_same old mid (λ z. list_any (f z) (variable_below m p c)) (λ z. list_any (f z) (variable_below m p (c + 1))) (λ z. sym (any_fails (f z) c is)) before
