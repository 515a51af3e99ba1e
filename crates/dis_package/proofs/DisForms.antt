-- What a file of the discretization gives.
use Rattle.dis_package.proofs.Common.{◌≡◌, ℕ, ℤ, List, length, All, refl, ◌≤◌, sum_by, sym, subst, arith, suc, ◌+◌, nat_le, ◌&&◌, ◌∷◌, IsDec, FileSet, refusal, words, Left, left_from}
use Rattle.dis_package.proofs.Common.{without_comments, line_at, number_at, number, FlowModel, item_is, GivesOnly, IsShort, ok_gives_only, goes_on, then_, if_passed, gives_only_less, repeated_gives}
use Rattle.dis_package.proofs.Common.{All-nil, All-cons, Period, dis_of, IsNewPeriod, periods_of, IsTime, kind_or_refusal, is_time, time_of, period_of, period_at, IsBegun, kind_of, Limits, and_parts}
use Rattle.dis_package.proofs.Common.{leb-true, BadGrid, number_is, IsGridWithin, All-weaker, IsTimed, Bool, true, false, not, ◌||◌, ◌⊎◌, inl, inr, ◌∙◌, if◌then◌else◌, size, is_growth, IsGrowing}
use Rattle.dis_package.proofs.Common.{number_one, not-true, is_at_most, is_at_least, is_one, is_positive, positive_of, one_of}
use Rattle.std.proofs.lemmas.List.Sums.{sum_by-cons}
use Rattle.dis_package.proofs.{FrameForms.head_is, FrameForms.count_is, GridForms.grid_is}
use Rattle.number_limits.proofs.MagnitudeLemmas.{at_least_thousandth, at_most_thousand}
use Rattle.dis_package.specs.declared.periods.Time.{Time}

-- What the tests of a period's line tell of its times.
growing : (t : Time) → (nat_le t.nstp 1000 && (is_at_least 3 (size t.tsmult) && is_at_most 1000 (size t.tsmult))) ≡ true → IsGrowing (period_of t)
growing t e = grind (arith, and_parts, nat_le, leb-true, at_least_thousandth, at_most_thousand)

grown : (t : Time) → is_growth t ≡ true → (t.tsmult ≡ number_one) ⊎ IsGrowing (period_of t)
grown t e = by_case (is_one t.tsmult) refl e
  where
    by_case : (b : Bool) → is_one t.tsmult ≡ b → (b || (nat_le t.nstp 1000 && (is_at_least 3 (size t.tsmult) && is_at_most 1000 (size t.tsmult)))) ≡ true →
        (t.tsmult ≡ number_one) ⊎ IsGrowing (period_of t)
    by_case true is so = inl (one_of t.tsmult is)
    by_case false is so = inr (growing t so)

timed : (t : Time) → IsTime t → is_time t ≡ true → IsTimed (period_of t)
timed t form e = by_case t.steady refl e
  where
    by_case : (b : Bool) → t.steady ≡ b → (if b then not t.perlen.neg && is_positive t.tsmult else (is_positive t.perlen && is_positive t.tsmult) && is_growth t) ≡ true → IsTimed (period_of t)
    by_case true is so =
        let p = and_parts (not t.perlen.neg) (is_positive t.tsmult) so in
        record {
          nstp = form.nstp;
          perlen = record { decimal = form.perlen; sign = not-true t.perlen.neg p.0 };
          lasts = λ f. absurd (let clash : true ≡ false = sym is ∙ f in cc);
          tsmult = positive_of t.tsmult form.tsmult p.1;
          growth = λ f. absurd (let clash : true ≡ false = sym is ∙ f in cc);
        }
    by_case false is so =
        let p = and_parts (is_positive t.perlen && is_positive t.tsmult) (is_growth t) so in
        let q = and_parts (is_positive t.perlen) (is_positive t.tsmult) p.0 in
        let long = positive_of t.perlen form.perlen q.0 in
        record {
          nstp = form.nstp;
          perlen = record { decimal = form.perlen; sign = long.sign };
          lasts = λ f. long;
          tsmult = positive_of t.tsmult form.tsmult q.1;
          growth = λ f. grown t p.1;
        }

pub new_of : (p : Period) (t : Time) → p ≡ period_of t → IsTime t → is_time t ≡ true → IsNewPeriod p
new_of p t is form e = subst IsNewPeriod (sym is) (record { times = timed t form e; new = refl })

-- What is read of the stress periods' lines.
abbrev nstp : Period → ℕ
nstp p = p.nstp

-- periods after this many steps, and the steps with theirs
pub record ArePeriods (count before after : ℕ) (ps : List Period) : Type 0 where
  pub many : length ps ≡ count
  pub new : All IsNewPeriod ps
  pub sum : before + sum_by (λ p. p.nstp) ps ≡ after
  pub few : after ≤ 100000

module _ (file : List ℕ) where
  number_at_is : (line : ℕ) (ws : List (List ℕ)) → GivesOnly (λ x. IsDec x.0) (number_at number file line ws)
  number_at_is = item_is number IsDec number_is file

  time_is : (line : ℕ) (ws : List (List ℕ)) → GivesOnly IsTime (time_of file line ws)
  unfolding time_of
  time_is line ws =
      then_ _ (number_at_is line ws) (λ perlen a. then_ _ (count_is file line 100000 perlen.1) (λ nstp b. then_ _ (number_at_is line nstp.1)
      (λ tsmult c. goes_on (kind_or_refusal (kind_of tsmult.1) (refusal BadGrid file line)) _ (λ steady e. ok_gives_only (record { perlen = a; nstp = b; tsmult = c })))))

  period_is : (s : ℕ × Left) → GivesOnly (λ x. IsNewPeriod x.0 × (s.0 + x.0.nstp ≡ x.1.0) × (x.1.0 ≤ 100000)) (period_at file s)
  unfolding period_at
  period_is s =
      goes_on (line_at file s.1) _ (λ line e. then_ _ (time_is line.0.number (words line.0.bytes)) (λ time is. if_passed (is_time time && nat_le (s.0 + time.nstp) 100000) _ _ (λ passed.
      let p = and_parts (is_time time) (nat_le (s.0 + time.nstp) 100000) passed in
      ok_gives_only (new_of (period_of time) time refl is p.0, refl, leb-true (s.0 + time.nstp) 100000 p.1))))

  -- from at most so many steps on
  abbrev AreNext : ℕ → ℕ × Left → List Period × (ℕ × Left) → Type 0
  AreNext count s x = s.0 ≤ 100000 → ArePeriods count s.0 x.1.0 x.0

  next_period : (n : ℕ) (s : ℕ × Left) → GivesOnly (λ x. (more : List Period × (ℕ × Left)) → AreNext n x.1 more → AreNext (suc n) s (x.0 ∷ more.0, more.1)) (period_at file s)
  next_period n s = gives_only_less (period_is s) (λ x one more rest few.
      let steps : s.0 + x.0.nstp ≡ x.1.0 = one.1 in
      let are : ArePeriods n x.1.0 more.1.0 more.0 = rest one.2 in
      record {
        many = omega (arith, are.many);
        new = All-cons IsNewPeriod x.0 more.0 one.0 are.new;
        sum = omega (arith, steps, are.sum, sum_by-cons nstp x.0 more.0);
        few = are.few;
      })

  -- stress periods, of which there are this many
  pub periods_are : (count : ℕ) (left : Left) → GivesOnly (λ ps. (length ps ≡ count) × All IsNewPeriod ps × (sum_by (λ p. p.nstp) ps ≤ 100000)) (periods_of file count left)
  unfolding periods_of
  periods_are count left =
      then_ _ (repeated_gives (period_at file) AreNext (λ s few. record { many = refl; new = All-nil IsNewPeriod; sum = omega arith; few = few }) next_period count (0, left)) (λ x next.
      let are : ArePeriods count 0 x.1.0 x.0 = next (omega arith) in
      let sum : 0 + sum_by nstp x.0 ≡ x.1.0 = are.sum in
      let most : x.1.0 ≤ 100000 = are.few in
      ok_gives_only (are.many, are.new, omega (arith, sum, most)))

-- a model that was begun by these limits
pub record IsStarted (limits : Limits) (m : FlowModel) : Type 0 where
  pub begun : IsBegun m
  pub within : IsGridWithin limits m.grid

pub dis_is : (limits : Limits) (files : FileSet) (file bytes : List ℕ) → GivesOnly (IsStarted limits) (dis_of limits files file bytes)
unfolding dis_of
dis_is limits files file bytes =
    then_ _ (head_is file limits (without_comments (left_from 1 bytes))) (λ head a. then_ _ (grid_is files file head.0.0.size head.0.1 limits head.1 a.0.size a.3 a.2) (λ grid g.
    then_ _ (periods_are file head.0.0.periods grid.1) (λ periods ps.
    let many : length periods ≡ head.0.0.periods = ps.0 in
    ok_gives_only (record {
      begun = record {
        discretized = record {
          grid = g.grid;
          laycbd = subst (λ (zs : List ℤ). All IsShort zs) (sym g.same) a.2.short;
          bed_bottom = g.beds;
          lenuni = a.1;
          some = rw many a.0.periods.0;
          few = rw many a.0.periods.1;
          steps = ps.2;
          times = All-weaker IsNewPeriod IsTimed (λ p h. h.times) periods ps.1;
        };
        periods = ps.1;
        new = refl;
      };
      within = g.within;
    }))))
