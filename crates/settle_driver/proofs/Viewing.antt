-- Views that follow one another, and what a watching seat has seen.
use Rattle.settle_driver.proofs.Common.{◌≡◌, ℕ, ◌+◌, ◌*◌, ◌<◌, ◌⊎◌, inl, inr, refl, sym, subst, arith, Bool, true, false, List, length, ℤ, ◌≤ℤ◌, Result, Ok, Err, ints, Bound, Low, High, Entries}
use Rattle.settle_driver.proofs.Common.{IsHead, Edges, head_at, lower_at, upper_at, AreNoLooser, HeadTable, HeadSeat, AreNoTighterThanSettled, IsSeatOf, ShowsSeen, barrier_of, seen_of, ArePastBarrier}
use Rattle.settle_driver.proofs.Common.{EnclosesPair, had_memory, AddsViews, AddsTurns, AddsPhases, zero, suc, ◌∙◌, IsTrue, ◌↔◌, false≢true}
use Rattle.std.specs.{Result.is_ok, declared.vec.Vec.Vec, declared.alloc.Global.Global}
use Rattle.step_problem.specs.{declared.heads.SettleFault.SettleFault, declared.heads.SettleFault.TheVariants.Unfinished, declared.heads.SettleFault.TheVariants.Memory}

pub some_cell : (n : ℕ) (none : Bool) → IsTrue none ↔ (n ≡ 0) → none ≡ false → 0 < n
some_cell zero none iff e = absurd (false≢true (sym e ∙ iff.1 refl))
some_cell (suc n) none iff e = omega arith

-- heads are an answer of a settling that had memory
pub ok_had_memory : (r : Result (Vec Bound Global) SettleFault) → is_ok r ≡ true → had_memory r ≡ true
ok_had_memory (Ok heads) e = refl
ok_had_memory (Err (Unfinished o)) e = refl
ok_had_memory (Err Memory) e = absurd cc

module _ {V : Type 0} (viewed : V → List Entries → Edges → ℕ → V → Type 0) (stopped : V → Type 0) (p : List Entries) (b : Edges) where
  pub no_views : (v : V) → AddsViews viewed stopped p b 0 v v
  no_views v = record {
    more = λ start n h. let e : n ≡ n + 0 = omega arith in subst (λ (k : ℕ). viewed start p b k v) e h;
    stays = λ s. s;
  }

  pub views_add_up : (i j : ℕ) (a m z : V) → AddsViews viewed stopped p b i a m → AddsViews viewed stopped p b j m z → AddsViews viewed stopped p b (i + j) a z
  views_add_up i j a m z first next = record {
    more = λ start n h. let e : (n + i) + j ≡ n + (i + j) = omega arith in subst (λ (k : ℕ). viewed start p b k z) e (next.more start (n + i) (first.more start n h));
    stays = λ s. next.stays (first.stays s);
  }

  count_adds_up : (k l i j : ℕ) (m z : V) → (stopped m → stopped z) → stopped m ⊎ (i ≡ k) → stopped z ⊎ (j ≡ l) → stopped z ⊎ (i + j ≡ k + l)
  count_adds_up k l i j m z stays (inl s) after = inl (stays s)
  count_adds_up k l i j m z stays (inr e) (inl s) = inl s
  count_adds_up k l i j m z stays (inr e) (inr d) = inr (omega (arith, e, d))

  turns_add_up : (k l : ℕ) (made : Bool) (a m z : V) → AddsTurns viewed stopped p b k true a m → AddsTurns viewed stopped p b l made m z → AddsTurns viewed stopped p b (k + l) made a z
  turns_add_up k l made a m z first next = record {
    count = first.count + next.count;
    views = views_add_up first.count next.count a m z first.views next.views;
    each_turn = λ e. count_adds_up k l first.count next.count m z next.views.stays (first.each_turn refl) (next.each_turn e);
  }

  pub no_turns : (turns : ℕ) (v : V) → AddsTurns viewed stopped p b (0 * turns) true v v
  no_turns turns v = record { count = 0; views = no_views v; each_turn = λ e. inr (omega arith) }

  -- the turns of one phase more
  pub one_phase_more : (k turns : ℕ) (made : Bool) (a m z : V) → AddsTurns viewed stopped p b (k * turns) true a m →
      AddsTurns viewed stopped p b turns made m z → AddsTurns viewed stopped p b ((k + 1) * turns) made a z
  one_phase_more k turns made a m z first next =
      let e : k * turns + turns ≡ (k + 1) * turns = omega arith in subst (λ (n : ℕ). AddsTurns viewed stopped p b n made a z) e (turns_add_up (k * turns) turns made a m z first next)

  some_phases : (k i turns : ℕ) (z : V) → 0 < k → stopped z ⊎ (i ≡ k * turns) → stopped z ⊎ ((phases : ℕ) × (0 < phases) × (i ≡ phases * turns))
  some_phases k i turns z some (inl s) = inl s
  some_phases k i turns z some (inr e) = inr (k, some, e)

  -- a settling of a phase or more
  pub phases_made : (k turns : ℕ) (made : Bool) (a z : V) → 0 < k → 0 < length p → AddsTurns viewed stopped p b (k * turns) made a z → AddsPhases viewed stopped p b turns made a z
  phases_made k turns made a z some cell whole = record {
    count = whole.count;
    views = whole.views;
    no_cell = λ e. absurd (omega (arith, e, cell));
    each_phase = λ e _. some_phases k whole.count turns z some (whole.each_turn e);
  }

  -- where a phase has no views, no view is as many as a phase has
  pub no_phases : (made : Bool) (v : V) → AddsPhases viewed stopped p b 0 made v v
  no_phases made v = record {
    count = 0;
    views = no_views v;
    no_cell = λ _. refl;
    each_phase = λ _ _. inr (1, omega arith, omega arith);
  }

  -- what is said of a settling that had memory holds where it ended with heads
  pub phases_ended : (r : Result (Vec Bound Global) SettleFault) (turns : ℕ) (a z : V) → AddsPhases viewed stopped p b turns (had_memory r) a z → AddsPhases viewed stopped p b turns (is_ok r) a z
  phases_ended r turns a z s = record {
    count = s.count;
    views = s.views;
    no_cell = s.no_cell;
    each_phase = λ e some. s.each_phase (ok_had_memory r e) some;
  }

  phases_of_both : (i j turns : ℕ) (m z : V) → (stopped m → stopped z) → stopped m ⊎ ((k : ℕ) × (0 < k) × (i ≡ k * turns)) → stopped z ⊎
      ((l : ℕ) × (0 < l) × (j ≡ l * turns)) → stopped z ⊎ ((n : ℕ) × (0 < n) × (i + j ≡ n * turns))
  phases_of_both i j turns m z stays (inl s) after = inl (stays s)
  phases_of_both i j turns m z stays (inr h) (inl s) = inl s
  phases_of_both i j turns m z stays (inr (k, some, e)) (inr (l, some', d)) = inr (k + l, omega (arith, some), omega (arith, e, d))

  -- one settling after another
  pub phases_add_up : (made : Bool) (turns : ℕ) (a m z : V) → AddsPhases viewed stopped p b turns true a m → AddsPhases viewed stopped p b turns made m z → AddsPhases viewed stopped p b turns made a z
  phases_add_up made turns a m z first next = record {
    count = first.count + next.count;
    views = views_add_up first.count next.count a m z first.views next.views;
    no_cell = λ none. omega (arith, first.no_cell none, next.no_cell none);
    each_phase = λ e some. phases_of_both first.count next.count turns m z next.views.stays (first.each_phase refl some) (next.each_phase e some);
  }

-- what a seat sees later is past the barrier too
pub still_past_barrier : (p ps : List Entries) (b : Edges) (old new : List Bound) → ps ≡ p → ArePastBarrier p b old → AreNoLooser ps old new → ArePastBarrier p b new
still_past_barrier p ps b old new same past tighter =
    let inside : (c : ℕ) → c < length p → c < length ps = λ c h. subst (λ (q : List Entries). c < length q) (sym same) h in
    record {
      low = λ c h. let x = past.low c h in let y : lower_at old c ≤ℤ lower_at new c = tighter Low c (inside c h) in omega (arith, ints, x, y);
      high = λ c h. let x = past.high c h in let y : upper_at new c ≤ℤ upper_at old c = tighter High c (inside c h) in omega (arith, ints, x, y);
    }

-- What a seat has just seen encloses the settled pair.
seen_encloses : (t : HeadTable) (s : HeadSeat) (heads : List Bound) → length heads ≡ length t.problem.now → IsSeatOf t s → ShowsSeen t.problem.now s heads →
    AreNoTighterThanSettled t.problem.now (barrier_of t) heads → ArePastBarrier t.problem.now (barrier_of t) (seen_of s)
    → EnclosesPair t.problem.now (barrier_of t) heads
seen_encloses t s heads whole seat shows held past =
    let sound = s.sound in
    let inside : (c : ℕ) → c < length t.problem.now → c < length s.seat.me.0.problem = λ c h. subst (λ (q : List Entries). c < length q) (sym seat.problem) h in record {
      words = record {
        whole = whole;
        low = λ c h. subst IsHead (sym (shows Low c h)) (sound.heads Low c (inside c h));
        high = λ c h. subst IsHead (sym (shows High c h)) (sound.heads High c (inside c h));
      };
      past_barrier = record {
        low = λ c h. subst (λ (x : ℤ). head_at (barrier_of t).floor c ≤ℤ x) (sym (shows Low c h)) (past.low c h);
        high = λ c h. subst (λ (x : ℤ). x ≤ℤ head_at (barrier_of t).ceiling c) (sym (shows High c h)) (past.high c h);
      };
      pair = record {
        low = λ l u pair c h. held Low c h l pair.low.heads pair.low.settled pair.low.past_barrier;
        high = λ l u pair c h. held High c h u pair.high.heads pair.high.settled pair.high.past_barrier;
      };
    }

pub look_encloses : (p : List Entries) (b : Edges) (t : HeadTable) (s : HeadSeat) (heads : List Bound) → t.problem.now ≡ p → barrier_of t ≡ b → length heads ≡
    length p → IsSeatOf t s → ShowsSeen t.problem.now s heads → AreNoTighterThanSettled t.problem.now (barrier_of t) heads → ArePastBarrier p b (seen_of s) →
    EnclosesPair p b heads
look_encloses p b t s heads same edges whole seat shows held past = grind (arith, seen_encloses)
