-- A look at a word, and an exchange of a word for the tighter of itself and a relaxed head, keep the rule.
-- What a seat has seen after either is sound, and it is a seat of the same table.
use Rattle.head_table.proofs.Common.{◌≡◌, ℕ, ◌≢◌, List, get_or, set, true, sym, ap, ◌∙◌, subst, ⊎_elim, some, get_elem?, State, Me, keeps, stepped, at_set, Entries, Edges, Known, IsKnown, IsTableKept}
use Rattle.head_table.proofs.Common.{◌<◌, length, refl, arith, none, step, Allows, Side, IsHead, IsProblem, own_turn_keeps_seen, IsAsTight, other, heads_on, is_side, each_side, head_of_word, word_of}
use Rattle.head_table.proofs.Common.{words_on, edge_on, WereSeen, IsNoTighterThanSettled, SeesHead, load_play, ℤ, length-set, turn_keeps, exchange_is_as_tight, still_seen, IsRelaxedOn, tighter_word}
use Rattle.head_table.proofs.Common.{OnTheWay, exchange_play, IsSound, seen_length, seen_here, seen_else, other_seen, with_head, IsExchange}
use lib.Seq.{set-get_or}
use Rattle.head_table.proofs.WordReads.{at_word, word_within, word_here, word_else, other_words, tighter_old, tighter_new, tighter_one}

abbrev pub KnownMe : Type 0
KnownMe = Me (Unit {0}) Known

abbrev pub KnownState : Type 0
KnownState = State (Unit {0}) Known

-- what me has seen, but for the head h of cell c
abbrev now_seen : Side → KnownMe → ℕ → ℤ → Known
now_seen side me c h = record me.0 { seen = with_head side me.0.seen c h }

sees_head : (side : Side) (me : KnownMe) (c : ℕ) (h : ℤ) → c < length me.0.seen → SeesHead side me c h (now_seen side me c h, me.1)
sees_head side me c h long = grind (arith, seen_length, seen_here, seen_else, other_seen)

-- what is asked of each live view, after one view has changed
pub views_stay : (P : Known → Type 0) (vs : List Known) (id : ℕ) (w : Known) → (w.live ≡ true → P w) → ((j : ℕ) (v : Known) → get_elem? vs j ≡ some v → v.live ≡ true → P v)
    → (j : ℕ) (v : Known) → get_elem? (set vs id w) j ≡ some v → v.live ≡ true → P v
views_stay P vs id w mine others j v e live = ⊎_elim (λ (t : (j ≡ id) × (w ≡ v)). subst P t.1 (mine (ap (λ (u : Known). u.live) t.1 ∙ live)))
    (λ (t : (j ≢ id) × (get_elem? vs j ≡ some v)). others j v t.1 live) (at_set vs id j w v e)

module _ (cells : List Entries) (edges : Edges) where
  abbrev pub Rule : KnownState → Type 0
  Rule = IsTableKept cells edges

  -- a step that changes no word
  pub unmoved : (s : KnownState) (k : Rule s) (i id : ℕ) (me : KnownMe) (w : Known) → IsKnown cells edges s.words w → Rule (stepped s i (get_or s.words i 0) id me.1 w keeps)
  unmoved s k i id me w mine = subst (λ (ws : List ℕ). Rule record { words = ws; homes = s.homes; views = set s.views id w }) (sym (set-get_or s.words i 0)) record {
    wide = k.wide;
    way = k.way;
    each_seat = views_stay (IsKnown cells edges s.words) s.views id w (λ _. mine) k.each_seat;
  }

  module _ (ok : IsProblem cells) where
    known_now : (side : Side) (ws : List ℕ) (me : KnownMe) (c : ℕ) (h : ℤ) → c < length cells → IsHead (words_on side ws c) → h ≡ words_on side ws c →
        IsKnown cells edges ws me.0 → IsKnown cells edges ws (now_seen side me c h)
    known_now side ws me c h lt range here mine = let long : c < length me.0.seen = omega (arith, mine.whole) in record {
      problem_is = mine.problem_is;
      barrier_is = mine.barrier_is;
      whole = seen_length side me.0.seen c _ ∙ mine.whole;
      heads = each_side side (λ t. WereSeen t cells (words_on t ws) (heads_on t (now_seen side me c h).seen))
          (own_turn_keeps_seen (is_side side cells ok) (words_on side ws) (heads_on side me.0.seen) (heads_on side (now_seen side me c h).seen) c range
          (seen_here side me.0.seen c h long ∙ here) (seen_else side me.0.seen c h) (mine.heads side))
          (subst (WereSeen (other side) cells (words_on (other side) ws)) (λ i d. sym (other_seen side me.0.seen c h long d) i) (mine.heads (other side)));
    }

    pub looks : (side : Side) (slots id : ℕ) (me : KnownMe) (c : ℕ) → c < length cells → me.0.live ≡ true →
        Allows Rule slots id me (word_of side c) (λ n. n) (load_play (step slots (word_of side c) 0 0 none) me)
    looks side slots id me c h live s k _ at small =
        let x : ℕ = get_or s.words (word_of side c) 0 in let mine = k.each_seat id me.0 at live in
        let long : c < length me.0.seen = omega (arith, mine.whole) in
        let w : Known = now_seen side me c (head_of_word x) in (
          w,
          keeps,
          tt,
          unmoved s k (word_of side c) id me w (known_now side s.words me c (head_of_word x) h ((k.way side).heads c h) refl mine),
          λ t d e. at_word side t c d (λ (u : Side) (j : ℕ). IsHead (head_of_word x) × IsAsTight u (heads_on u me.0.seen j) (head_of_word x) ×
              SeesHead u me j (head_of_word x) (w, me.1) × IsNoTighterThanSettled u me.0.problem (edge_on u me.0.barrier) j (head_of_word x)) (sym e) (
                (k.way side).heads c h,
                (mine.heads side).behind c h,
                sees_head side me c (head_of_word x) long,
                subst (λ (ps : List Entries). IsNoTighterThanSettled side ps (edge_on side me.0.barrier) c (head_of_word x)) (sym mine.problem_is)
                    (subst (λ (f : Edges). IsNoTighterThanSettled side cells (edge_on side f) c (head_of_word x)) (sym mine.barrier_is) (λ m heads settled past.
                    (k.way side).under m heads settled past c h)),
              ),
        )

    pub exchanges : (side : Side) (slots id : ℕ) (me : KnownMe) (c k : ℕ) → c < length cells → me.0.live ≡ true → IsRelaxedOn side cells (heads_on side me.0.seen) c (head_of_word k)
        → Allows Rule slots id me (word_of side c) (λ n. tighter_word side n k) (exchange_play (step slots (word_of side c) k 0 none) me)
    exchanges side slots id me c k h live turn s r _ at small =
        let x : ℕ = get_or s.words (word_of side c) 0 in let y : ℕ = tighter_word side x k in let ws : List ℕ = set s.words (word_of side c) y in
        let mine = r.each_seat id me.0 at live in let long : c < length me.0.seen = omega (arith, mine.whole) in
        let wide : word_of side c < length s.words = subst (λ (n : ℕ). word_of side c < n) (sym r.wide) (word_within side c (length cells) h) in
        let here : words_on side ws c ≡ head_of_word y = word_here side s.words c y wide in
        let exchange : IsExchange (IsAsTight side) (words_on side s.words) c (head_of_word k) (head_of_word y) (words_on side ws) = record {
          here = here;
          elsewhere = word_else side s.words c y;
          old = tighter_old side x k;
          new = tighter_new side x k;
          one = tighter_one side x k;
        } in
        let way' : OnTheWay side cells (edge_on side edges) (words_on side ws) =
        turn_keeps (is_side side cells ok) (edge_on side edges) (words_on side s.words) (heads_on side me.0.seen) (words_on side ws) c (head_of_word k)
        (head_of_word y) h (r.way side) (mine.heads side) turn exchange in
        let stays : (v : Known) → IsKnown cells edges s.words v → IsKnown cells edges ws v = λ v f. record {
          problem_is = f.problem_is;
          barrier_is = f.barrier_is;
          whole = f.whole;
          heads = each_side side (λ t. WereSeen t cells (words_on t ws) (heads_on t v.seen))
              (still_seen (is_side side cells ok) (words_on side s.words) (words_on side ws) (heads_on side v.seen)
              (exchange_is_as_tight (is_side side cells ok) (words_on side s.words) c (head_of_word k) (head_of_word y) (words_on side ws) exchange) (f.heads side))
              (subst (λ (g : ℕ → ℤ). WereSeen (other side) cells g (heads_on (other side) v.seen)) (sym (other_words side s.words c y)) (f.heads (other side)));
        } in
        let w : Known = now_seen side me c (head_of_word y) in (
          w,
          keeps,
          tt,
          record {
            wide = length-set s.words (word_of side c) y ∙ r.wide;
            way = each_side side (λ t. OnTheWay t cells (edge_on t edges) (words_on t ws)) way'
                (subst (OnTheWay (other side) cells (edge_on (other side) edges)) (sym (other_words side s.words c y)) (r.way (other side)));
            each_seat = views_stay (IsKnown cells edges ws) s.views id w (λ _.
                known_now side ws me c (head_of_word y) h (way'.heads c h) (sym here) (stays me.0 mine)) (λ j v e l. stays v (r.each_seat j v e l));
          },
          λ t d e. at_word side t c d (λ (u : Side) (j : ℕ). IsHead (head_of_word x) × IsHead (head_of_word (tighter_word u x k)) ×
              IsAsTight u (heads_on u me.0.seen j) (head_of_word x) × SeesHead u me j (head_of_word (tighter_word u x k)) (w, me.1)) (sym e) (
                (r.way side).heads c h,
                subst IsHead here (way'.heads c h),
                (mine.heads side).behind c h,
                sees_head side me c (head_of_word y) long,
              ),
        )

pub sound_seen : (side : Side) (m m' : KnownMe) (c : ℕ) (h : ℤ) → IsSound m.0 → IsHead h → SeesHead side m c h m' → IsSound m'.0
sound_seen side m m' c h s ok e = grind (arith, each_side)
