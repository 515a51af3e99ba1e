-- What a viewer that puts to a sink put in a run.
use Rattle.engine.proofs.Common.{◌≡◌, ◌∙◌, ◌⊎◌, ℕ, List, [], true, false, Option, None, Some, ap, refl, Bool, inl, inr, sym, subst, is_some, Rose, Put, PutsMake, Seen, SinkError, Bound, Entries}
use Rattle.engine.proofs.Common.{Edges, EnclosesPair, LeadOn, ViewPuts, no_lead, no_view, Task, ReachesFirst, IsSettledBy, Reaches, RestsOrSettles, rests, settled, IsWatched, Shows, lines_of}
use Rattle.engine.proofs.Common.{TimeStep, times, begun, edges_by}
use Rattle.outside.specs.{declared.traits.SinkError.TheVariants.Write, declared.traits.Sink.Ghosts as SinkOf}
use Rattle.view_puts.specs.declared.viewer.SinkViewer.{SinkViewer}
use Rattle.engine.proofs.Viewed.{is_watched, side_puts, side_rose}

-- What a settler did that shows heads to a viewer, said of the viewer.
module _ {S V : Type 0} (begins : S → ℕ → ℕ → S → Type 0) (leads : S → List Entries → Edges → Bool → S → Type 0) (stop : S → Option SinkError)
    (begins' : V → ℕ → ℕ → V → Type 0) (leads' : V → List Entries → Edges → Bool → V → Type 0) (stop' : V → Option SinkError)
    (of : S → V) (Keeps : S → Type 0)
    (tells : (s t : S) (period step : ℕ) → Keeps s → begins s period step t → Keeps t × begins' (of s) period step (of t))
    (led : (s t : S) (p : List Entries) (b : Edges) (ended : Bool) → Keeps s → leads s p b ended t → Keeps t × leads' (of s) p b ended (of t))
    (same : (s : S) → stop s ≡ stop' (of s)) where
  by_other : (k : Task) (at : TimeStep) (old : List Bound) (ended : Bool) (s t : S) → Keeps s → IsSettledBy leads k at old ended s t → Keeps t × IsSettledBy leads' k at old ended (of s) (of t)
  by_other k at old ended s t keeps by =
      let r = led s t by.problem (edges_by k.limits by.barrier) ended keeps by.led in
      (r.0, record { problem = by.problem; barrier = by.barrier; posed = by.posed; encloses = by.encloses; led = r.1 })

  rest_or_settle : (k : Task) (at : TimeStep) (old : List Bound) (s t : S) → Keeps s → RestsOrSettles leads k at old s t → Keeps t × RestsOrSettles leads' k at old (of s) (of t)
  rest_or_settle k at old s t keeps (inl e) = (subst Keeps (sym e) keeps, inl (ap of e))
  rest_or_settle k at old s t keeps (inr (ended, by)) = let r = by_other k at old ended s t keeps by in (r.0, inr (ended, r.1))

  reached : (whole : Bool) (k : Task) (old : List Bound) (times : List TimeStep) (s t : S) → Keeps s → Reaches begins leads stop k whole old times s t →
      Keeps t × Reaches begins' leads' stop' k whole old times (of s) (of t)
  reached whole k old times s t keeps (rests o ts u end) = (keeps, rests o ts (of u) end)
  reached whole k old times s t keeps (begun o at ts u told v cut b r) =
      let now = tells u told at.period at.step keeps b in
      let after = rest_or_settle k at o told v now.0 r in
      (after.0, begun o at ts (of u) (of told) (of v) cut now.1 after.1)
  reached whole k old times s t keeps (settled o at ts v u told done w is b by none rest) =
      let now = tells u told at.period at.step keeps b in
      let after = by_other k at o true told done now.0 by in
      let more = reached whole k v.heads ts done w after.0 rest in
      (more.0, settled o at ts v (of u) (of told) (of done) (of w) is now.1 after.1 (sym (same done) ∙ none) more.1)

  reached_first : (whole : Bool) (k : Task) (s t : S) → Keeps s → ReachesFirst begins leads stop k whole s t → Keeps t × ReachesFirst begins' leads' stop' k whole (of s) (of t)
  reached_first whole k s t keeps h = let r = reached whole k h.start (times k.decks.first) s t keeps h.reaches in (r.0, record { start = h.start; is_start = h.is_start; reaches = r.1 })

  pub told_of : (k : Task) (s t : S) → Keeps s → (t ≡ s) ⊎ ReachesFirst begins leads stop k false s t →
      Keeps t × ((of t ≡ of s) ⊎ ReachesFirst begins' leads' stop' k false (of s) (of t)) × (ReachesFirst begins leads stop k true s t → ReachesFirst begins' leads' stop' k true (of s) (of t))
  told_of k s t keeps (inl e) = (subst Keeps (sym e) keeps, inl (ap of e), λ all. (reached_first true k s t keeps all).1)
  told_of k s t keeps (inr h) = let r = reached_first false k s t keeps h in (r.0, inr r.1, λ all. (reached_first true k s t keeps all).1)

module _ {W : Type 0} (K : SinkOf W) where
  abbrev Viewer : Type 0
  Viewer = SinkViewer W K

  abbrev leads : W → List Put → W → Type 0
  leads = K.leads

  abbrev begins : Viewer → ℕ → ℕ → Viewer → Type 0
  begins s i j t = (t.sink ≡ s.sink) × (t.grid ≡ s.grid) × (t.at ≡ record { period = i; step = j }) × (t.stop ≡ s.stop)

  abbrev viewed : Viewer → List Entries → Edges → ℕ → Viewer → Type 0
  viewed s p b n t = (t.sink.ghost_name ≡ s.sink.ghost_name) × (t.grid ≡ s.grid) × (t.at ≡ s.at) ×
      ViewPuts (lines_of s.grid.now s.at.period s.at.step p) (EnclosesPair p b) (LeadOn leads s.sink.now t.sink.now) n s.stop t.stop

  abbrev stopped : Viewer → Type 0
  stopped s = is_some s.stop ≡ true

  abbrev stop : Viewer → Option SinkError
  stop s = s.stop

  abbrev sink : Viewer → W
  sink s = s.sink.now

  abbrev text_of : Viewer → ℕ → ℕ → List Entries → List Bound → List ℕ
  text_of s = lines_of s.grid.now

  is_begun : (s t : Viewer) (i j : ℕ) → begins s i j t → (sink t ≡ sink s) × (text_of t ≡ text_of s) × (t.at.period ≡ i) × (t.at.step ≡ j) × (stop t ≡ stop s)
  is_begun s t i j e = (ap (λ x. x.now) e.0, ap (λ x. lines_of x.now) e.1, ap (λ (at : TimeStep). at.period) e.2, ap (λ (at : TimeStep). at.step) e.2, e.3)

  is_viewed : (s t : Viewer) (p : List Entries) (b : Edges) (n : ℕ) → viewed s p b n t → (text_of t ≡ text_of s) ×
      ViewPuts (text_of s s.at.period s.at.step p) (EnclosesPair p b) (LeadOn leads (sink s) (sink t)) n (stop s) (stop t)
  is_viewed s t p b n h = (ap (λ x. lines_of x.now) h.1, h.3)

  no_view_yet : (s : Viewer) (p : List Entries) (b : Edges) → viewed s p b 0 s
  no_view_yet s p b = (refl, refl, refl, no_view (lines_of s.grid.now s.at.period s.at.step p) (EnclosesPair p b) (LeadOn leads s.sink.now s.sink.now) s.stop (no_lead leads s.sink.now))

  abbrev ReachesBy : ℕ → Task → Viewer → Viewer → Type 0
  ReachesBy n k first now = (now ≡ first) ⊎ ReachesFirst begins (Shows viewed stopped n) stop k false first now

  -- the sink stays the same reference
  pub same_sink : (n : ℕ) (k : Task) (first now : Viewer) → ReachesBy n k first now → now.sink.ghost_name ≡ first.sink.ghost_name
  same_sink n k first now h =
      (told_of begins (Shows viewed stopped n) stop begins (Shows viewed stopped n) stop (λ s. s) (λ s. s.sink.ghost_name ≡ first.sink.ghost_name)
      (λ s t i j same b. (ap (λ x. x.ghost_name) b.0 ∙ same, b))
      (λ s t p b ended same l. ((l.views.more s 0 (no_view_yet s p b)).0 ∙ same, l))
      (λ s. refl) k first now refl h).0

  module _ (starts : (s : W) → leads s [] s) (k : Task) (n : ℕ) (first now : Viewer) (fits : first.grid.now ≡ k.decks.first.grid) (none : first.stop ≡ None) where
    pub puts_of_side : ReachesBy n k first now →
        leads first.sink.now [] now.sink.now ⊎ IsWatched false k n (λ puts. leads first.sink.now puts now.sink.now)
    puts_of_side h = side_puts leads sink text_of (λ s. s.at.period) (λ s. s.at.step) stop begins viewed stopped is_begun is_viewed (λ s h.
        h) no_view_yet starts k n first now (ap lines_of fits) none h

    pub side_failed : (seen : W → Seen) → ((s : W) (puts : List Put) (t : W) → leads s puts t → PutsMake (seen s) puts (seen t)) → ReachesBy n k first now →
        now.stop ≡ Some Write → Rose (seen first.sink.now).faults (seen now.sink.now).faults
    side_failed seen tells h wrote = side_rose leads sink text_of (λ s. s.at.period) (λ s. s.at.step) stop begins viewed stopped is_begun is_viewed (λ s h.
        h) no_view_yet starts k n first now (ap lines_of fits) none seen tells h wrote

    pub views_of_all : ReachesFirst begins (Shows viewed stopped n) stop k true first now → IsWatched true k n (λ puts. leads first.sink.now puts now.sink.now)
    views_of_all all = is_watched leads sink text_of (λ s. s.at.period) (λ s. s.at.step) stop begins viewed stopped is_begun is_viewed (λ s h.
        h) no_view_yet starts k n first now (ap lines_of fits) none true all
