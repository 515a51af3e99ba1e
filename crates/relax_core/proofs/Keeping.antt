-- Every event, and so every list of events, keeps what a state keeps and loosens no word.
use Rattle.relax_core.proofs.Common.{◌≡◌, ℕ, ◌<◌, List, [], ◌∷◌, length, All, ℤ, sym, subst, arith, All-get_or, All-set, All-weaker, Bound, Side, Low, High, Entries, IsProblem, Edges, AreOnTheWay}
use Rattle.relax_core.proofs.Common.{IsAsTight, AreNoLooser, tighter_of, other, heads_on, exchange_is_as_tight, is_side, each_side, Event, See, Raise, Sink, Claim, Core, seen_by, with_head, Becomes}
use Rattle.relax_core.proofs.Common.{IsNamed, Relaxes, Step, Path, WasSeen, IsKept, ap, get_or-set_same, get_or-set_other, length-set, no_bound, lower_at, upper_at, head_of, tighter_first}
use Rattle.relax_core.proofs.Common.{tighter_second, tighter_is_one, ◌∙◌, IsHead, same_on_the_way, turn_keeps, still_seen, own_turn_keeps_seen, same_seen, refl, IsRelaxedOn, OnTheWay, WereSeen}
use Rattle.relax_core.proofs.Common.{edge_on, IsExchange}
use mathlib.Core.Logic.{dite}
use native.Mathlib.Decide.{ℕ_discrete}

-- What bounds read on each side after one head of them is replaced.
abbrev bound_with : Side → List Bound → ℕ → ℤ → Bound
bound_with Low bs c h = record { low = h; high = upper_at bs c }
bound_with High bs c h = record { low = lower_at bs c; high = h }

pub seen_length : (side : Side) (bs : List Bound) (c : ℕ) (h : ℤ) → length (with_head side bs c h) ≡ length bs
seen_length Low bs c h = length-set bs c _
seen_length High bs c h = length-set bs c _

pub seen_here : (side : Side) (bs : List Bound) (c : ℕ) (h : ℤ) → c < length bs → heads_on side (with_head side bs c h) c ≡ h
seen_here Low bs c h l = ap (λ (b : Bound). b.low) (get_or-set_same bs c (bound_with Low bs c h) no_bound l)
seen_here High bs c h l = ap (λ (b : Bound). b.high) (get_or-set_same bs c (bound_with High bs c h) no_bound l)

both_else : (side t : Side) (bs : List Bound) (c : ℕ) (h : ℤ) (d : ℕ) → (d ≡ c → ⊥) → heads_on t (with_head side bs c h) d ≡ heads_on t bs d
both_else Low t bs c h d ne = ap (head_of t) (get_or-set_other bs c d (bound_with Low bs c h) no_bound ne)
both_else High t bs c h d ne = ap (head_of t) (get_or-set_other bs c d (bound_with High bs c h) no_bound ne)

pub seen_else : (side : Side) (bs : List Bound) (c : ℕ) (h : ℤ) (d : ℕ) → (d ≡ c → ⊥) → heads_on side (with_head side bs c h) d ≡ heads_on side bs d
seen_else side = both_else side side

pub other_seen : (side : Side) (bs : List Bound) (c : ℕ) (h : ℤ) → c < length bs → (d : ℕ) → heads_on (other side) (with_head side bs c h) d ≡ heads_on (other side) bs d
other_seen side bs c h l d = dite (ℕ_discrete d c)
    (λ e. subst (λ (k : ℕ). heads_on (other side) (with_head side bs c h) k ≡ heads_on (other side) bs k) (sym e) (at side))
    (λ ne. both_else side (other side) bs c h d ne)
  where
    at : (s : Side) → heads_on (other s) (with_head s bs c h) c ≡ heads_on (other s) bs c
    at Low = ap (λ (b : Bound). b.high) (get_or-set_same bs c (bound_with Low bs c h) no_bound l)
    at High = ap (λ (b : Bound). b.low) (get_or-set_same bs c (bound_with High bs c h) no_bound l)

-- the tighter of the word and r is put there
pub tighter_exchange : (side : Side) (ws : List Bound) (c : ℕ) (r : ℤ) → c < length ws →
    IsExchange (IsAsTight side) (heads_on side ws) c r (tighter_of side (heads_on side ws c) r) (heads_on side (with_head side ws c (tighter_of side (heads_on side ws c) r)))
tighter_exchange side ws c r wide = record {
  here = seen_here side ws c _ wide;
  elsewhere = seen_else side ws c _;
  old = tighter_first side _ r;
  new = tighter_second side _ r;
  one = tighter_is_one side _ r;
}

-- One exchange, or one look, on words and on what was seen of them.
-- words on the way from a barrier are so on each side
pub way_on : (side : Side) (p : List Entries) (b : Edges) (ws : List Bound) → AreOnTheWay p b ws → OnTheWay side p (edge_on side b) (heads_on side ws)
way_on Low p b ws k = k.low
way_on High p b ws k = k.high

module _ (p : List Entries) (ok : IsProblem p) (side : Side) where
  -- a look
  pub look : (ws v : List Bound) (c : ℕ) → c < length p → IsHead (heads_on side ws c) → WasSeen p ws v → WasSeen p ws (with_head side v c (heads_on side ws c))
  look ws v c h head f = let long : c < length v = omega (arith, f.whole) in record {
    whole = seen_length side v c _ ∙ f.whole;
    heads = each_side side (λ t. WereSeen t p (heads_on t ws) (heads_on t (with_head side v c (heads_on side ws c))))
        (own_turn_keeps_seen (is_side side p ok) (heads_on side ws) (heads_on side v) _ c head (seen_here side v c _ long) (seen_else side v c _) (f.heads side))
        (same_seen (is_side (other side) p ok) (heads_on (other side) ws) (heads_on (other side) ws) (heads_on (other side) v) _ (λ d i. refl) (λ d i.
        other_seen side v c _ long d) (f.heads (other side)));
  }

  module _ (ws : List Bound) (c : ℕ) (r : ℤ) where
    -- the words after an exchange for the tighter of the word and r
    abbrev pub exchanged : List Bound
    exchanged = with_head side ws c (tighter_of side (heads_on side ws c) r)

    -- what was seen of the words before was seen of the words after
    pub still : c < length ws → (u : List Bound) → WasSeen p ws u → WasSeen p exchanged u
    still wide u f = record {
      whole = f.whole;
      heads = each_side side (λ t. WereSeen t p (heads_on t exchanged) (heads_on t u))
          (still_seen (is_side side p ok) (heads_on side ws) (heads_on side exchanged) (heads_on side u)
          (exchange_is_as_tight (is_side side p ok) (heads_on side ws) c r _ _ (tighter_exchange side ws c r wide)) (f.heads side))
          (same_seen (is_side (other side) p ok) (heads_on (other side) ws) (heads_on (other side) exchanged) (heads_on (other side) u)
          (heads_on (other side) u) (λ d i. other_seen side ws c _ wide d) (λ d i. refl) (f.heads (other side)));
    }

    module _ (b : Edges) (v : List Bound) (h : c < length p) (k : AreOnTheWay p b ws) (f : WasSeen p ws v) (turn : IsRelaxedOn side p (heads_on side v) c r) where
      wide : c < length ws
      wide = omega (arith, k.whole, h)

      way : (t : Side) → OnTheWay t p (edge_on t b) (heads_on t exchanged)
      way = each_side side (λ t. OnTheWay t p (edge_on t b) (heads_on t exchanged))
          (turn_keeps (is_side side p ok) (edge_on side b) (heads_on side ws) (heads_on side v) (heads_on side exchanged) c r _ h (way_on side p b ws k)
          (f.heads side) turn (tighter_exchange side ws c r wide))
          (same_on_the_way (is_side (other side) p ok) (edge_on (other side) b) (heads_on (other side) ws) (heads_on (other side) exchanged) (λ d i.
          other_seen side ws c _ wide d) (way_on (other side) p b ws k))

      -- an exchange for the relaxed head from seen heads keeps the words on the way
      pub exchange_words : AreOnTheWay p b exchanged
      exchange_words = record { whole = seen_length side ws c _ ∙ k.whole; low = way Low; high = way High }

      -- what the actor has then seen
      pub exchange_seen : WasSeen p exchanged (with_head side v c (tighter_of side (heads_on side ws c) r))
      exchange_seen =
          subst (λ (y : ℤ). WasSeen p exchanged (with_head side v c y)) (seen_here side ws c (tighter_of side (heads_on side ws c) r) wide)
          (look exchanged v c h ((way side).heads c h) (still wide v f))

-- words of the state after, from facts of the words that it becomes
becomes_kept : (p : List Entries) (b : Edges) (s t : Core) (ws : List Bound) (a : ℕ) (v : List Bound) → Becomes s t ws a v → IsKept p b s → AreOnTheWay p b ws →
    ((u : List Bound) → WasSeen p s.words u → WasSeen p ws u) → WasSeen p ws v → IsKept p b t
becomes_kept p b s t ws a v e k way still mine = record {
  words = subst (AreOnTheWay p b) (sym e.words) way;
  seen = subst (λ (l : List Bound). All (WasSeen p l) t.seen) (sym e.words)
      (subst (All (WasSeen p ws)) (sym e.seen) (All-set (WasSeen p ws) s.seen a v mine (All-weaker (WasSeen p s.words) (WasSeen p ws) still s.seen k.seen)));
}

same_kept : (p : List Entries) (b : Edges) (s t : Core) → t.words ≡ s.words → t.seen ≡ s.seen → IsKept p b s → IsKept p b t
same_kept p b s t e g k = record {
  words = subst (AreOnTheWay p b) (sym e) k.words;
  seen = subst (λ (l : List Bound). All (WasSeen p l) t.seen) (sym e) (subst (All (WasSeen p s.words)) (sym g) k.seen);
}

module _ (p : List Entries) (ok : IsProblem p) where
  refl_on : (side : Side) (x : ℤ) → IsAsTight side x x
  refl_on side = (is_side side p ok).refl

  same_no_looser : (s t : Core) → t.words ≡ s.words → AreNoLooser p s.words t.words
  same_no_looser s t e = subst (AreNoLooser p s.words) (sym e) (λ side c h. refl_on side _)

  -- an event loosens no word
  relax_no_looser : (side : Side) (s t : Core) (c : ℕ) (r : ℤ) → c < length s.words → t.words ≡ with_head side s.words c (tighter_of side (heads_on side s.words c) r) → AreNoLooser p s.words t.words
  relax_no_looser side s t c r wide e = subst (AreNoLooser p s.words) (sym e)
      (each_side side (λ u. (d : ℕ) → d < length p →
      IsAsTight u (heads_on u s.words d) (heads_on u (with_head side s.words c (tighter_of side (heads_on side s.words c) r)) d))
      (exchange_is_as_tight (is_side side p ok) (heads_on side s.words) c r _ _ (tighter_exchange side s.words c r wide))
      (λ d h. subst (IsAsTight (other side) (heads_on (other side) s.words d)) (sym (other_seen side s.words c _ wide d)) (refl_on (other side) _)))

  pub step_no_looser : (e : Event) (s t : Core) → length s.words ≡ length p → IsNamed p s e → Step p e s t → AreNoLooser p s.words t.words
  step_no_looser (See a c side) s t whole named step = same_no_looser s t step.words
  step_no_looser (Raise a c) s t whole named step = relax_no_looser Low s t c step.0 (omega (arith, named.1)) step.2.words
  step_no_looser (Sink a c) s t whole named step = relax_no_looser High s t c step.0 (omega (arith, named.1)) step.2.words
  step_no_looser (Claim a) s t whole named step = same_no_looser s t step.0

  module _ (b : Edges) where
    -- what the actor of an event has seen fits the words
    its_seen : (s : Core) (a : ℕ) → a < length s.seen → IsKept p b s → WasSeen p s.words (seen_by s a)
    its_seen s a h k = All-get_or (WasSeen p s.words) s.seen a [] h k.seen

    relax_keeps : (side : Side) (s t : Core) (a c : ℕ) → a < length s.seen → c < length p → Relaxes p side s t a c → IsKept p b s → IsKept p b t
    relax_keeps side s t a c i h (r, turn, step) k =
        let f = its_seen s a i k in
        let wide : c < length s.words = omega (arith, h, k.words.whole) in
        becomes_kept p b s t _ a _ step k (exchange_words p ok side s.words c r b (seen_by s a) h k.words f turn)
        (still p ok side s.words c r wide) (exchange_seen p ok side s.words c r b (seen_by s a) h k.words f turn)

    -- an event keeps what a state keeps
    pub step_keeps : (e : Event) (s t : Core) → IsNamed p s e → Step p e s t → IsKept p b s → IsKept p b t
    step_keeps (See a c side) s t named step k =
        becomes_kept p b s t s.words a _ step k k.words (λ u f. f)
        (look p ok side s.words (seen_by s a) c named.1 ((way_on side p b s.words k.words).heads c named.1) (its_seen s a named.0 k))
    step_keeps (Raise a c) s t named step k = relax_keeps Low s t a c named.0 named.1 step k
    step_keeps (Sink a c) s t named step k = relax_keeps High s t a c named.0 named.1 step k
    step_keeps (Claim a) s t named step k = same_kept p b s t step.0 step.1 k

    pub path_keeps : (es : List Event) (s t : Core) → IsKept p b s → Path p es s t → IsKept p b t × AreNoLooser p s.words t.words
    path_keeps [] s t k path = (same_kept p b s t path.0 path.1 k, same_no_looser s t path.0)
    path_keeps (e ∷ es) s t k (named, (m, step, path)) =
        let one = step_no_looser e s m k.words.whole named step in
        let (kept, rest) = path_keeps es m t (step_keeps e s m named step k) path in
        (kept, λ side c h. (is_side side p ok).trans _ _ _ (one side c h) (rest side c h))
