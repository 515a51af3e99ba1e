-- One more text in a row of texts, and the draws that go with it.
use Rattle.model_maker.proofs.Common.{◌≡◌, ℕ, zero, suc, ◌+◌, ◌*◌, ◌++◌, refl, sym, ap, ◌∙◌, arith, subst, after, next_state, Text, gap, hk_row, hk_text, texts_below}
use Rattle.std.proofs.lemmas.List.{append_assoc, append-nil}

pub no_text : (t : Text) (f : ℕ → Text) → t ≡ t ++ texts_below 0 f
unfolding texts_below
no_text t f = sym (append-nil t)

texts_more : (t : Text) (i : ℕ) (f : ℕ → Text) → (t ++ texts_below i f) ++ f i ≡ t ++ texts_below (i + 1) f
unfolding texts_below
texts_more t i f = let e : i + 1 ≡ suc i = omega arith in rw e (append_assoc t (texts_below i f) (f i))

pub one_more : (t u v : Text) (i : ℕ) (f : ℕ → Text) → u ≡ t ++ texts_below i f → v ≡ u ++ f i → v ≡ t ++ texts_below (i + 1) f
one_more t u v i f so_far next = next ∙ ap (λ s. s ++ f i) so_far ∙ texts_more t i f

pub after_none : (x : ℕ) → x ≡ after 0 x
unfolding after
after_none x = refl

after_more : (i x : ℕ) → next_state (after i x) ≡ after (i + 1) x
unfolding after
after_more i x = let e : i + 1 ≡ suc i = omega arith in rw e refl

after_both : (a b x : ℕ) → after a (after b x) ≡ after (b + a) x
unfolding after
after_both zero b x = let e : b + zero ≡ b = omega arith in rw e refl
after_both (suc a) b x = let e : b + suc a ≡ suc (b + a) = omega arith in rw e (ap next_state (after_both a b x))

pub after_twice : (n x : ℕ) → after n (after n x) ≡ after (2 * n) x
after_twice n x = let e : n + n ≡ 2 * n = omega arith in after_both n n x ∙ ap (λ k. after k x) e

-- one more value, drawn at y
module _ (t u v : Text) (i x y : ℕ) where
  abbrev value : ℕ → Text
  value j = gap j ++ hk_text (after j x)

  pub one_value : u ≡ t ++ texts_below i value → y ≡ after i x → v ≡ u ++ (gap i ++ hk_text y) → v ≡ t ++ texts_below (i + 1) value
  one_value so_far is next = let P : ℕ → Type 0 = λ z. v ≡ u ++ (gap i ++ hk_text z) in one_more t u v i value so_far (subst P is next)

pub next_value : (i x y z : ℕ) → y ≡ after i x → z ≡ next_state y → z ≡ after (i + 1) x
next_value i x y z is next = next ∙ ap next_state is ∙ after_more i x

pub no_rows : (n x : ℕ) → x ≡ after (0 * n) x
no_rows n x = let e : 0 ≡ 0 * n = omega arith in after_none x ∙ ap (λ k. after k x) e

-- one more row of n values, the first one drawn at y
module _ (t u v : Text) (n i x y : ℕ) where
  abbrev row : ℕ → Text
  row j = hk_row n (after (j * n) x)

  pub one_row : u ≡ t ++ texts_below i row → y ≡ after (i * n) x → v ≡ u ++ hk_row n y → v ≡ t ++ texts_below (i + 1) row
  one_row so_far is next = let P : ℕ → Type 0 = λ z. v ≡ u ++ hk_row n z in one_more t u v i row so_far (subst P is next)

pub next_row : (n i x y z : ℕ) → y ≡ after (i * n) x → z ≡ after n y → z ≡ after ((i + 1) * n) x
next_row n i x y z is next =
    let e : i * n + n ≡ (i + 1) * n = omega arith in
    next ∙ ap (after n) is ∙ after_both n (i * n) x ∙ ap (λ k. after k x) e
