-- What a viewer put to its sink, by what it was told and shown.
use Rattle.engine.proofs.Common.{◌≡◌, ◌∙◌, ◌⊎◌, ℕ, ◌+◌, ◌*◌, ◌<◌, List, [], ◌∷◌, ◌++◌, length, map, Bool, true, Option, Some, None, inl, inr, ap, sym, subst, refl, arith, is_some, append_assoc}
use Rattle.engine.proofs.Common.{append-nil, map-append, All-append, All-cons, All-nil, All-weaker, Rose, Put, PutsMake, Seen, failed_put, whole_put, SinkError, Bound, Entries, Edges, TimeStep}
use Rattle.engine.proofs.Common.{AddsPhases, EnclosesPair, Text, failed, AreAllShown, IsStopPut, LeadOn, ViewPuts, no_lead, Task, Step, IsStep, IsSettledBy, PairEncloses, Reaches, ReachesFirst, begun}
use Rattle.engine.proofs.Common.{rests, settled, AreViews, AreWatched, ArePutInTurn, IsView, IsWatched, Shows, lines_of, edges_by, false, view_text, early_rose}
use Rattle.std.proofs.Common.{All}
use Rattle.view_puts.proofs.Views.{lead_more}
use Rattle.model_types.specs.{times as times_of}
use Rattle.outside.specs.declared.traits.SinkError.TheVariants as error
use Rattle.run_puts.specs.declared.puts.Status.TheVariants as status

pieces_of : (text : List Bound → List ℕ) (views : List (List Bound)) → map (λ heads. whole_put (text heads)) views ≡ map whole_put (map text views)
pieces_of text [] = refl
pieces_of text (v ∷ views) = ap (λ (ps : List Put). whole_put (text v) ∷ ps) (pieces_of text views)

all_views : (k : Task) (at : TimeStep) (old : List Bound) (p : List Entries) (b : Edges) (text : List Bound → List ℕ) →
    PairEncloses k.limits k.decks at old p b → (views : List (List Bound)) → AreAllShown text (EnclosesPair p (edges_by k.limits b)) views →
    All (IsView k at old p (edges_by k.limits b)) views
all_views k at old p b text encloses views h = All-weaker (EnclosesPair p (edges_by k.limits b)) (IsView k at old p (edges_by k.limits b)) (λ heads shown.
    record { pair = shown; solutions = encloses heads shown.pair }) views (each views h)
  where
    each : (vs : List (List Bound)) → AreAllShown text (EnclosesPair p (edges_by k.limits b)) vs → All (EnclosesPair p (edges_by k.limits b)) vs
    each [] h = All-nil (EnclosesPair p (edges_by k.limits b))
    each (v ∷ vs) h = All-cons (EnclosesPair p (edges_by k.limits b)) v vs h.0 (each vs h.1)

no_views : (views : List (List Bound)) → length views ≡ 0 → views ≡ []
no_views [] e = refl
no_views (v ∷ views) e = absurd (let no : ⊥ = omega (arith, e) in no)

-- a sink of texts that were taken, and then of one whose write failed
write_failed : (texts : List Text) (text : Text) (old new : Seen) → PutsMake old (map whole_put texts ++ (failed_put text error.Write ∷ [])) new → Rose old.faults new.faults
write_failed texts text old new makes = early_rose texts (text ∷ []) status.WriteFault _ old new (failed text []) refl makes

not_whole : false ≡ true → ⊥
not_whole e = cc

-- these puts end with one whose write failed
abbrev IsWriteRefused : List Put → Type 0
IsWriteRefused puts = (before : List Text) × (text : Text) × (puts ≡ map whole_put before ++ failed_put text error.Write ∷ [])

-- texts that were taken, before puts
more_puts : (here before : List Text) (puts last : List Put) → puts ≡ map whole_put before ++ last → map whole_put here ++ puts ≡ map whole_put (here ++ before) ++ last
more_puts here before puts last e = grind (arith, append_assoc, map-append)

more_in_turn : (whole : Bool) (here texts : List Text) (puts : List Put) → ArePutInTurn whole texts puts → ArePutInTurn whole (here ++ texts) (map whole_put here ++ puts)
more_in_turn whole here texts puts (inl e) = inl (ap (λ (ps : List Put). map whole_put here ++ ps) e ∙ sym (map-append whole_put here texts))
more_in_turn whole here texts puts (inr (part, before, last, error, is, e)) = inr (
  part,
  here ++ before,
  last,
  error,
  ap (λ (ts : List Text). here ++ ts) is ∙ sym (append_assoc here before (last ∷ [])),
  more_puts here before puts (failed_put last error ∷ []) e,
)

more_refused : (here : List Text) (puts : List Put) → IsWriteRefused puts → IsWriteRefused (map whole_put here ++ puts)
more_refused here puts (before, text, e) = (here ++ before, text, more_puts here before puts (failed_put text error.Write ∷ []) e)

no_first_views : (whole : Bool) (k : Task) (n : ℕ) (old : List Bound) (times : List TimeStep) → (whole ≡ false) ⊎ (times ≡ []) → AreWatched whole k n old times []
no_first_views whole k n old [] end = refl
no_first_views whole k n old (at ∷ times) (inl part) = inl (part, inl refl)
no_first_views whole k n old (at ∷ times) (inr e) = absurd (let bad : at ∷ times ≡ [] = e in cc)

-- A viewer of the states V: its sink, the grid of its texts, the time that it was told, and why it has stopped.
module _ {V W : Type 0} (leads : W → List Put → W → Type 0) (sink : V → W) (text_of : V → ℕ → ℕ → List Entries → List Bound → List ℕ) (period step : V → ℕ) (stop : V → Option SinkError)
    (begins : V → ℕ → ℕ → V → Type 0) (viewed : V → List Entries → Edges → ℕ → V → Type 0) (stopped : V → Type 0)
    (is_begun : (s t : V) (i j : ℕ) → begins s i j t → (sink t ≡ sink s) × (text_of t ≡ text_of s) × (period t ≡ i) × (step t ≡ j) × (stop t ≡ stop s))
    (is_viewed : (s t : V) (p : List Entries) (b : Edges) (n : ℕ) → viewed s p b n t → (text_of t ≡ text_of s) ×
    ViewPuts (text_of s (period s) (step s) p) (EnclosesPair p b) (LeadOn leads (sink s) (sink t)) n (stop s) (stop t))
    (is_stopped : (s : V) → stopped s → is_some (stop s) ≡ true)
    (no_view : (s : V) (p : List Entries) (b : Edges) → viewed s p b 0 s) where
  -- the puts of a settling
  record Shown (p : List Entries) (b : Edges) (count : ℕ) (s t : V) : Type 0 where
    pub same_text : text_of t ≡ text_of s
    pub puts : ViewPuts (text_of s (period s) (step s) p) (EnclosesPair p b) (LeadOn leads (sink s) (sink t)) (0 + count) (stop s) (stop t)

  shown : (n : ℕ) (p : List Entries) (b : Edges) (ended : Bool) (s t : V) (h : AddsPhases viewed stopped p b n ended s t) → Shown p b h.count s t
  shown n p b ended s t h = let r = is_viewed s t p b (0 + h.count) (h.views.more s 0 (no_view s p b)) in record { same_text = r.0; puts = r.1 }

  -- the steps from a state on, or the first of them
  record ViewedFrom (whole : Bool) (k : Task) (n : ℕ) (old : List Bound) (times : List TimeStep) (s t : V) : Type 0 where
    pub texts : List Text
    pub views : AreWatched whole k n old times texts
    pub puts : List Put
    pub in_turn : ArePutInTurn whole texts puts
    pub led : LeadOn leads (sink s) (sink t) puts
    pub failed : stop t ≡ Some error.Write → IsWriteRefused puts

  no_write : (o : Option SinkError) → o ≡ None → o ≡ Some error.Write → ⊥
  no_write o none wrote = let bad : Path (Option SinkError) None (Some error.Write) = sym none ∙ wrote in cc

  none_viewed : (whole : Bool) (k : Task) (n : ℕ) (old : List Bound) (times : List TimeStep) (s t : V) → (whole ≡ false) ⊎ (times ≡ []) → sink t ≡ sink s →
      stop t ≡ None → ViewedFrom whole k n old times s t
  none_viewed whole k n old times s t end same none = record {
    texts = [];
    views = no_first_views whole k n old times end;
    puts = [];
    in_turn = inl refl;
    led = (let P : W → Type 0 = λ w. LeadOn leads (sink s) w [] in subst P (sym same) (no_lead leads (sink s)));
    failed = λ wrote. absurd (no_write (stop t) none wrote);
  }

  module _ (k : Task) (n : ℕ) (at : TimeStep) (old : List Bound) (s told done : V) (fits : text_of s ≡ lines_of k.decks.first.grid) (none : stop s ≡ None)
      (b : begins s at.period at.step told) (ended : Bool) (by : IsSettledBy (Shows viewed stopped n) k at old ended told done) where
    abbrev p : List Entries
    p = by.problem

    abbrev e : Edges
    e = edges_by k.limits by.barrier

    abbrev text : List Bound → List ℕ
    text = view_text k.decks.first.grid at p

    abbrev View : List Bound → Type 0
    View = IsView k at old p e

    told_is : (sink told ≡ sink s) × (text_of told ≡ text_of s) × (period told ≡ at.period) × (step told ≡ at.step) × (stop told ≡ stop s)
    told_is = is_begun s told at.period at.step b

    -- the views of the step, whether its settling ended with heads or not
    views_put : ViewPuts text (EnclosesPair p e) (LeadOn leads (sink told) (sink done)) (0 + by.led.count) None (stop done)
    views_put =
        let D : List Put → Type 0 = LeadOn leads (sink told) (sink done) in
        let count : ℕ = 0 + by.led.count in
        let v = (shown n p e ended told done by.led).puts in
        let G : (ℕ → ℕ → List Entries → List Bound → List ℕ) → Type 0 = λ w. ViewPuts (w (period told) (step told) p) (EnclosesPair p e) D count (stop told) (stop done) in
        let I : ℕ → Type 0 = λ i. ViewPuts (lines_of k.decks.first.grid i (step told) p) (EnclosesPair p e) D count (stop told) (stop done) in
        let J : ℕ → Type 0 = λ j. ViewPuts (lines_of k.decks.first.grid at.period j p) (EnclosesPair p e) D count (stop told) (stop done) in
        let A : Option SinkError → Type 0 = λ o. ViewPuts text (EnclosesPair p e) D count o (stop done) in
        subst A (told_is.4 ∙ none) (subst J told_is.3 (subst I told_is.2 (subst G (told_is.1 ∙ fits) v)))

    all_here : All View views_put.views
    all_here = all_views k at old p by.barrier text by.encloses views_put.views views_put.shown

    -- the views that were put: those taken, and where one was refused that too
    record Here (puts : List Put) : Type 0 where
      pub heads : List (List Bound)
      pub enclose : All View heads
      pub in_turn : ArePutInTurn false (map text heads) puts

    abbrev pieces : List Put
    pieces = map (λ heads. whole_put (text heads)) views_put.views

    ends_with : (last end : List Put) → last ≡ end → pieces ++ last ≡ map whole_put (map text views_put.views) ++ end
    ends_with last end h = rw (h, pieces_of text views_put.views) refl

    all_taken : (last : List Put) → last ≡ [] → Here (pieces ++ last)
    all_taken last h =
        let same : pieces ++ last ≡ map whole_put (map text views_put.views) = rw h (append-nil pieces ∙ pieces_of text views_put.views) in
        record { heads = views_put.views; enclose = all_here; in_turn = inl same }

    one_refused : (heads : List Bound) (f : SinkError) (last : List Put) → EnclosesPair p e heads → last ≡ failed_put (text heads) f ∷ [] → Here (pieces ++ last)
    one_refused heads f last shown h =
        record {
          heads = views_put.views ++ heads ∷ [];
          enclose = All-append View views_put.views (heads ∷ []) all_here (All-cons View heads [] (record { pair = shown; solutions = by.encloses heads shown.pair }) (All-nil View));
          in_turn = inr (refl, map text views_put.views, text heads, f, map-append text views_put.views (heads ∷ []), ends_with last (failed_put (text heads) f ∷ []) h);
        }

    here_put : (o : Option SinkError) (last : List Put) → IsStopPut text (EnclosesPair p e) None o last → Here (pieces ++ last)
    here_put None last h = all_taken last h
    here_put (Some f) last (inl (m, h)) = all_taken last h
    here_put (Some f) last (inr (heads, shown, h)) = one_refused heads f last shown h

    last_failed : (o : Option SinkError) (last : List Put) → IsStopPut text (EnclosesPair p e) None o last → o ≡ Some error.Write → (text : Text) × (last ≡ failed_put text error.Write ∷ [])
    last_failed None last h wrote = absurd (let bad : Path (Option SinkError) None (Some error.Write) = wrote in cc)
    last_failed (Some error.Memory) last h wrote = absurd (let bad : Path (Option SinkError) (Some error.Memory) (Some error.Write) = wrote in cc)
    last_failed (Some error.Write) last (inl (m, h)) wrote = absurd (let bad : error.Write ≡ error.Memory = m in cc)
    last_failed (Some error.Write) last (inr (heads, shown, h)) wrote = (text heads, h)

    here_failed : stop done ≡ Some error.Write → IsWriteRefused (pieces ++ views_put.last)
    here_failed wrote =
        let r = last_failed (stop done) views_put.last views_put.stop wrote in
        (map text views_put.views, r.0, ends_with views_put.last (failed_put r.0 error.Write ∷ []) r.1)

    -- they are views of this step, and no others
    some_viewed : (times : List TimeStep) → ViewedFrom false k n old (at ∷ times) s done
    some_viewed times =
        let h = here_put (stop done) views_put.last views_put.stop in
        let P : W → Type 0 = λ w. LeadOn leads w (sink done) (pieces ++ views_put.last) in
        record {
          texts = map text h.heads;
          views = inl (
            refl,
            inr (record {
              problem = p;
              barrier = by.barrier;
              posed = by.posed;
              views = h.heads;
              no_cell = λ part. absurd (not_whole part);
              each = λ part. absurd (not_whole part);
              enclose = h.enclose;
              are = refl;
            }),
          );
          puts = pieces ++ views_put.last;
          in_turn = h.in_turn;
          led = subst P told_is.0 views_put.led;
          failed = here_failed;
        }

    -- a settling that ended with heads, and had not to stop, has all its views
    module _ (whole : ended ≡ true) (goes : stop done ≡ None) where
      some_phases : 0 < length p → (phases : ℕ) × (0 < phases) × (length views_put.views ≡ phases * n)
      some_phases some = by_stop (by.led.each_phase whole some)
        where
          by_stop : stopped done ⊎ ((phases : ℕ) × (0 < phases) × (by.led.count ≡ phases * n)) → (phases : ℕ) × (0 < phases) × (length views_put.views ≡ phases * n)
          by_stop (inl over) = let P : Option SinkError → Type 0 = λ o. is_some o ≡ true in absurd (let bad : false ≡ true = subst P goes (is_stopped done over) in cc)
          by_stop (inr (phases, above, h)) = let c = views_put.count in (phases, above, omega (arith, c, h))

      step_views : AreViews true k n at old (map text views_put.views)
      step_views = record {
        problem = p;
        barrier = by.barrier;
        posed = by.posed;
        views = views_put.views;
        no_cell = λ all none_here. let c = views_put.count in let z = by.led.no_cell none_here in no_views views_put.views (omega (arith, c, z));
        each = λ all. some_phases;
        enclose = all_here;
        are = refl;
      }

      step_led : LeadOn leads (sink s) (sink done) (map whole_put (map text views_put.views))
      step_led =
          let L : List Put → Type 0 = LeadOn leads (sink told) (sink done) in
          let Q : W → Type 0 = λ w. LeadOn leads w (sink done) (map whole_put (map text views_put.views)) in
          let O : Option SinkError → Type 0 = λ o. IsStopPut text (EnclosesPair p e) None o views_put.last in
          let nothing : views_put.last ≡ [] = subst O goes views_put.stop in
          let same : pieces ++ views_put.last ≡ map whole_put (map text views_put.views) = rw nothing (append-nil pieces ∙ pieces_of text views_put.views) in
          subst Q told_is.0 (subst L same views_put.led)

      done_fits : text_of done ≡ lines_of k.decks.first.grid
      done_fits = (shown n p e ended told done by.led).same_text ∙ told_is.1 ∙ fits

      all_viewed : (part : Bool) (times : List TimeStep) (v : Step) (t : V) → IsStep k at old v → ViewedFrom part k n v.heads times done t → ViewedFrom part k n old (at ∷ times) s t
      all_viewed part times v t is later = record {
        texts = map text views_put.views ++ later.texts;
        views = inr (v, map text views_put.views, later.texts, is, step_views, refl, later.views);
        puts = map whole_put (map text views_put.views) ++ later.puts;
        in_turn = more_in_turn part (map text views_put.views) later.texts later.puts later.in_turn;
        led = lead_more leads (sink s) (sink done) (sink t) _ _ step_led later.led;
        failed = λ wrote. more_refused (map text views_put.views) later.puts (later.failed wrote);
      }

  viewed_from : (whole : Bool) (k : Task) (n : ℕ) (old : List Bound) (times : List TimeStep) (s t : V) → text_of s ≡ lines_of k.decks.first.grid → stop s ≡
      None → Reaches begins (Shows viewed stopped n) stop k whole old times s t → ViewedFrom whole k n old times s t
  viewed_from whole k n old times s t fits none (rests o ts u end) = none_viewed whole k n o ts u u end refl none
  viewed_from whole k n old times s t fits none (begun o at ts u told v part b (inl same)) =
      let is = is_begun u told at.period at.step b in
      none_viewed whole k n o (at ∷ ts) u v (inl part) (ap sink same ∙ is.0) (ap stop same ∙ is.4 ∙ none)
  viewed_from whole k n old times s t fits none (begun o at ts u told v part b (inr (ended, by))) =
      let P : Bool → Type 0 = λ w. ViewedFrom w k n o (at ∷ ts) u v in
      subst P (sym part) (some_viewed k n at o u told v fits none b ended by ts)
  viewed_from whole k n old times s t fits none (settled o at ts v u told done w is b by goes rest) =
      let later = viewed_from whole k n v.heads ts done w (done_fits k n at o u told done fits none b true by refl goes) goes rest in
      all_viewed k n at o u told done fits none b true by refl goes whole ts v w is later

  module _ (starts : (s : W) → leads s [] s) (k : Task) (n : ℕ) (s t : V) (fits : text_of s ≡ lines_of k.decks.first.grid) (none : stop s ≡ None) where
    pub is_watched : (whole : Bool) → ReachesFirst begins (Shows viewed stopped n) stop k whole s t → IsWatched whole k n (λ puts. leads (sink s) puts (sink t))
    is_watched whole h =
        let w = viewed_from whole k n h.start (times_of k.decks.first) s t fits none h.reaches in
        record { start = h.start; is_start = h.is_start; texts = w.texts; watched = w.views; puts = w.puts; in_turn = w.in_turn; led = w.led (sink s) [] (starts (sink s)) }

    pub side_puts : (t ≡ s) ⊎ ReachesFirst begins (Shows viewed stopped n) stop k false s t → leads (sink s) [] (sink t) ⊎ IsWatched false k n (λ puts. leads (sink s) puts (sink t))
    side_puts (inl same) = inl (let P : V → Type 0 = λ x. leads (sink s) [] (sink x) in subst P (sym same) (starts (sink s)))
    side_puts (inr h) = inr (is_watched false h)

    -- where the viewer has stopped since a write failed, one has
    pub side_rose : (seen : W → Seen) → ((s : W) (puts : List Put) (t : W) → leads s puts t → PutsMake (seen s) puts (seen t)) → (t ≡ s) ⊎
        ReachesFirst begins (Shows viewed stopped n) stop k false s t → stop t ≡ Some error.Write → Rose (seen (sink s)).faults (seen (sink t)).faults
    side_rose seen tells (inl same) wrote = absurd (no_write (stop t) (ap stop same ∙ none) wrote)
    side_rose seen tells (inr h) wrote =
        let w = viewed_from false k n h.start (times_of k.decks.first) s t fits none h.reaches in
        let r = w.failed wrote in
        let M : List Put → Type 0 = λ ps. PutsMake (seen (sink s)) ps (seen (sink t)) in
        write_failed r.0 r.1 (seen (sink s)) (seen (sink t)) (subst M r.2 (tells (sink s) w.puts (sink t) (w.led (sink s) [] (starts (sink s)))))
