-- What a step does to its settler, by the clause of the call that solved it.
use Rattle.listing_run.proofs.Common.{IfErr, IfOk, ◌≡◌, ◌∙◌, ℕ, List, length, Bool, true, false, inl, inr, sym, subst, refl, ℤ, Option, None, [], ◌∷◌, Result, Ok, Err, SinkError, Bound, Entries}
use Rattle.listing_run.proofs.Common.{Edges, IsSettledPair, lower_at, upper_at, TimeStep, times, EachChoice, AreStartHeadsFor, IsProblemFor, Text, end_line, LieBetween, IsPosed, edges_by}
use Rattle.listing_run.proofs.Common.{LiesBetweenBy, LeadsBy, LeadsOrRests, Steps, Task, IsSettledBy, PairEncloses, Reaches, ReachesFirst, RestsOrSettles, RestsOrSettlesFirst, rests, settled}
use Rattle.listing_run.proofs.Common.{IsAtFirst, IsNextText, IsWalk, times_left, EnclosesHistories, IsListing, last_line, listing, status_of, AllSteps, Limits, Plain, Wide, step_from, variable_heads}
use Rattle.listing_run.proofs.Common.{LiesBetween, ListingEnd, Step, ◌⊎◌, begun}
use Rattle.settle_driver.specs.{HoldsPair}
use Rattle.cell_balance.proofs.Deep.{le_trans_z}
use Rattle.listing_run.proofs.UnderWay.{all_left, first_same}
use Rattle.decimal_input.proofs.FloorLaws.{mul_mono_right}
use Rattle.run_puts.specs.declared.puts.Status.TheVariants as status
use Rattle.listing_run.specs.declared.text.ListingEnd.TheVariants as ends

module _ (k : Task) (s : ℕ) (at : TimeStep) (old : List Bound) (digits : s ≡ k.digits) where
  -- what lies between a pair lies between heads that hold it
  between : (p : List Entries) (b : Edges) (d : ℕ) (X l u : ℕ → ℤ) (heads : List Bound) → IsSettledPair p b l u → HoldsPair p b heads →
      LiesBetween (length p) d X l u → LiesBetween (length p) d X (lower_at heads) (upper_at heads)
  between p b d X l u heads pair shown v = record {
    low = λ c lt. le_trans_z _ _ _ (mul_mono_right d (lower_at heads c) (l c) (shown.low l u pair c lt)) (v.low c lt);
    high = λ c lt. le_trans_z _ _ _ (v.high c lt) (mul_mono_right d (u c) (upper_at heads c) (shown.high l u pair c lt));
  }

  between_by : (limits : Limits) (p : List Entries) (b : Edges) (d : ℕ) (X l u : ℕ → ℤ) (heads : List Bound) → IsSettledPair p b l u → HoldsPair p b heads →
      LiesBetweenBy limits (length p) d X l u → LiesBetweenBy limits (length p) d X (lower_at heads) (upper_at heads)
  between_by Plain p b d X l u heads pair shown v = between p b d X l u heads pair shown v
  between_by Wide p b d X l u heads pair shown v = λ range. between p b d X l u heads pair shown (v range)

  pair_encloses : (p : List Entries) (b : Edges) (l u : ℕ → ℤ) → IsSettledPair p (edges_by k.limits b) l u →
      EachChoice k.decks at (λ y. LieBetween k.limits k.decks.first at y old p l u) → PairEncloses k.limits k.decks at old p b
  pair_encloses p b l u pair encloses heads shown =
      λ y chosen before d X move.
      between_by k.limits p (edges_by k.limits b) d (variable_heads (step_from before y.cells) X) l u heads pair shown (encloses y chosen before d X move)

  module _ {S : Type 0} (leads : S → List Entries → Edges → Bool → S → Type 0) (before after : S) where
    -- a step's problem, ended with heads or without
    pub led_problem_settles : (ended : Bool) (p : List Entries) → IsProblemFor k.decks s at old p → LeadsBy leads k.limits k.decks at old p ended before after →
        IsSettledBy leads k at old ended before after
    led_problem_settles ended p is l =
        let P : ℕ → Type 0 = λ n. IsPosed k.limits k.decks n at old p l.barrier in
        record {
          problem = p;
          barrier = l.barrier;
          posed = subst P digits (record { problem = is; barrier = l.is });
          encloses = pair_encloses p l.barrier l.low l.high l.pair l.encloses;
          led = l.led;
        }

    -- a step without heads
    pub rests_or_settles : LeadsOrRests leads k.limits k.decks s at old before after → RestsOrSettles leads k at old before after
    rests_or_settles (inl e) = inl e
    rests_or_settles (inr (p, is, ended, plain, l)) = inr (ended, led_problem_settles ended p is l)

module _ {S : Type 0} (begins : S → ℕ → ℕ → S → Type 0) (leads : S → List Entries → Edges → Bool → S → Type 0) (stop : S → Option SinkError) where
  module _ (k : Task) where
    -- the steps so far: what the settler did with the rest, from the heads of the last one on, it did with all
    pub record AreSettledSoFar (first : S) (s : Steps) (now : S) : Type 0 where
      pub start : List Bound
      pub is_start : AreStartHeadsFor k.decks start
      pub reaches : (whole : Bool) (end : S) → Reaches begins leads stop k whole s.heads (times_left s) now end → Reaches begins leads stop k whole start (times k.decks.first) first end

    pub none_settled : {s : Steps} {first : S} → IsWalk k s → IsAtFirst k s → AreSettledSoFar first s first
    none_settled {s = s} {first = first} w f = record {
      start = s.heads;
      is_start = f.start;
      reaches = λ whole end h. let P : List TimeStep → Type 0 = λ ts. Reaches begins leads stop k whole s.heads ts first end in subst P (all_left k s w f) h;
    }

    pub one_more_settled : {first before told after : S} {s t : Steps} {at : TimeStep} {rest : List TimeStep} {text : Text} → times_left s ≡ at ∷ rest →
        AreSettledSoFar first s before → begins before at.period at.step told → IsNextText leads k s t told after text → stop after ≡ None →
        AreSettledSoFar first t after
    one_more_settled {before = before} {told = told} {after = after} {s = s} {t = t} {at = at} {rest = rest} e so b text_is none =
        let n = text_is.next in
        let v = text_is.value in
        let B : TimeStep → Type 0 = λ a. begins before a.period a.step told in
        let now : B n.at = subst B (first_same at n.at rest (times_left t) (sym e ∙ n.time)) b in
        record {
          start = so.start;
          is_start = so.is_start;
          reaches = λ whole end h.
              let R : List TimeStep → Type 0 = λ ts. Reaches begins leads stop k whole s.heads ts before end in
              let H : List Bound → Type 0 = λ hs. Reaches begins leads stop k whole hs (times_left t) after end in
              so.reaches whole end (subst R (sym n.time) (settled s.heads n.at (times_left t) v before told after end n.is now n.led none (subst H n.heads h)));
        }

    -- nothing more was done; with no time left the account is whole
    pub reaches_so_far : {whole : Bool} {first now : S} {s : Steps} → (whole ≡ false) ⊎ (times_left s ≡ []) → AreSettledSoFar first s now → ReachesFirst begins leads stop k whole first now
    reaches_so_far {whole = whole} {now = now} {s = s} end so = record { start = so.start; is_start = so.is_start; reaches = so.reaches whole now (rests s.heads (times_left s) now end) }

    -- the problem of the next step, whatever the result of the call that solved it
    next_rests_or_settles : {X E : Type 0} (bytes : X → Text) (s t : Steps) (at : TimeStep) (rest : List TimeStep) (told after : S) (r : Result X E) → times_left s ≡ at ∷ rest →
        IfOk r (λ x. IsNextText leads k s t told after (bytes x)) → IfErr r (λ _. RestsOrSettlesFirst leads k (times_left s) s.heads told after) → RestsOrSettles leads k at s.heads told after
    next_rests_or_settles bytes s t at rest told after (Ok x) e n l =
        let P : TimeStep → Type 0 = λ a. RestsOrSettles leads k a s.heads told after in
        subst P (sym (first_same at n.next.at rest (times_left t) (sym e ∙ n.next.time))) (inr (true, n.next.led))
    next_rests_or_settles bytes s t at rest told after (Err fault) e n l = let P : List TimeStep → Type 0 = λ ts. RestsOrSettlesFirst leads k ts s.heads told after in subst P e l

    -- one step more was begun, whatever its result
    pub reaches_more : {X E : Type 0} (bytes : X → Text) {s : Steps} (t : Steps) {at : TimeStep} {rest : List TimeStep} {first before told after : S} (r : Result X E) →
        times_left s ≡ at ∷ rest → AreSettledSoFar first s before → begins before at.period at.step told →
        IfOk r (λ x. IsNextText leads k s t told after (bytes x)) → IfErr r (λ _. RestsOrSettlesFirst leads k (times_left s) s.heads told after) → ReachesFirst begins leads stop k false first after
    reaches_more bytes {s = s} t {at = at} {rest = rest} {before = before} {told = told} {after = after} r e so b n l =
        let R : List TimeStep → Type 0 = λ ts. Reaches begins leads stop k false s.heads ts before after in
        record {
          start = so.start;
          is_start = so.is_start;
          reaches = so.reaches false after (subst R (sym e) (begun s.heads at rest before told after refl b (next_rests_or_settles bytes s t at rest told after r e n l)));
        }

-- A listing whose status is Ok is whole.
pub record IsWhole (k : Task) (pieces : List Text) : Type 0 where
  pub values : List Step
  pub steps : AllSteps k values ends.Whole
  pub encloses : EnclosesHistories k values
  pub are : pieces ≡ listing k values end_line

pub is_whole : (last : ListingEnd) → status.Ok ≡ status_of last → last ≡ ends.Whole
is_whole ends.Whole e = refl
is_whole (ends.NoBound at n) e = absurd (let bad : status.Ok ≡ status.NoBound at.period at.step n = e in cc)
is_whole (ends.Unfinished at) e = absurd (let bad : status.Ok ≡ status.Unfinished at.period at.step = e in cc)

pub whole_listing : (k : Task) (pieces : List Text) → IsListing k status.Ok pieces → IsWhole k pieces
whole_listing k pieces l =
    let whole = is_whole l.last l.status in
    let S : ListingEnd → Type 0 = λ last. AllSteps k l.values last in
    let P : ListingEnd → Type 0 = λ last. pieces ≡ listing k l.values (last_line k.decks.first.grid last) in
    record { values = l.values; steps = subst S whole l.steps; encloses = l.encloses whole; are = subst P whole l.are }
