-- Every event keeps words and what was seen in range.
use Rattle.relax_core.proofs.Common.{ℕ, ◌<◌, List, [], length, All, ℤ, sym, subst, ◌∙◌, arith, All-get_or, All-set, Bound, Side, Low, High, Entries, IsHead, IsProblem, relaxed_head, by_cell, other}
use Rattle.relax_core.proofs.Common.{heads_on, AreWords, is_side, each_side, Event, See, Raise, Sink, Claim, Core, seen_by, with_head, Becomes, IsInRange, IsNamed, Relaxes, Step, tighter_head}
use Rattle.relax_core.proofs.Common.{heads_in_range}
use Rattle.relax_core.proofs.Keeping.{seen_length, seen_here, seen_else, other_seen}

module _ (p : List Entries) where
  put_in_range : (side : Side) (bs : List Bound) (c : ℕ) (h : ℤ) → c < length p → AreWords p bs → IsHead h → AreWords p (with_head side bs c h)
  put_in_range side bs c h i w head = record { whole = seen_length side bs c h ∙ w.whole; low = on Low; high = on High }
    where
      long : c < length bs
      long = omega (arith, w.whole, i)

      on : (t : Side) (d : ℕ) → d < length p → IsHead (heads_on t (with_head side bs c h) d)
      on = each_side side (λ t. (d : ℕ) → d < length p → IsHead (heads_on t (with_head side bs c h) d))
          (λ d j. by_cell (λ k z. IsHead z) (heads_on side bs) (heads_on side (with_head side bs c h)) c h (seen_here side bs c h long)
          (seen_else side bs c h) head d (λ ne. heads_in_range side p bs w d j))
          (λ d j. subst IsHead (sym (other_seen side bs c h long d)) (heads_in_range (other side) p bs w d j))

  becomes_in_range : (s t : Core) (ws : List Bound) (a : ℕ) (v : List Bound) → Becomes s t ws a v → IsInRange p s → AreWords p ws → AreWords p v → IsInRange p t
  becomes_in_range s t ws a v e range words seen = record {
    words = subst (AreWords p) (sym e.words) words;
    seen = subst (All (AreWords p)) (sym e.seen) (All-set (AreWords p) s.seen a v seen range.seen);
  }

  pub seen_in_range : (s : Core) (a : ℕ) → a < length s.seen → IsInRange p s → AreWords p (seen_by s a)
  seen_in_range s a h range = All-get_or (AreWords p) s.seen a [] h range.seen

  relax_in_range : IsProblem p → (side : Side) (s t : Core) (a c : ℕ) → a < length s.seen → c < length p → Relaxes p side s t a c → IsInRange p s → IsInRange p t
  relax_in_range ok side s t a c h i (r, turn, step) range =
      let v = seen_in_range s a h range in
      let head = tighter_head side _ r (heads_in_range side p s.words range.words c i)
      (relaxed_head (is_side side p ok) (heads_on side (seen_by s a)) c r (heads_in_range side p (seen_by s a) v c i) turn) in
      becomes_in_range s t _ a _ step range (put_in_range side s.words c _ i range.words head) (put_in_range side (seen_by s a) c _ i v head)

  pub step_in_range : IsProblem p → (e : Event) (s t : Core) → IsNamed p s e → Step p e s t → IsInRange p s → IsInRange p t
  step_in_range ok (See a c side) s t named step range =
      becomes_in_range s t _ a _ step range range.words (put_in_range side (seen_by s a) c _ named.1 (seen_in_range s a named.0 range) (heads_in_range side p s.words range.words c named.1))
  step_in_range ok (Raise a c) s t named step range = relax_in_range ok Low s t a c named.0 named.1 step range
  step_in_range ok (Sink a c) s t named step range = relax_in_range ok High s t a c named.0 named.1 step range
  step_in_range ok (Claim a) s t named step range = record {
    words = subst (AreWords p) (sym step.0) range.words;
    seen = subst (All (AreWords p)) (sym step.1) range.seen;
  }
