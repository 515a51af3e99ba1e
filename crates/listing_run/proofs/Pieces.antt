-- The pieces of a listing so far, put or added to a text, and how it ends.
use Rattle.listing_run.proofs.Common.{◌≡◌, ◌∙◌, List, [], ◌∷◌, ◌++◌, Bool, Result, Ok, Err, Some, ap, refl, subst, sym, map-append, append_assoc, append-nil, Put, whole_put, Entries, Edges, Text}
use Rattle.listing_run.proofs.Common.{IsRun, IsEnd, IsPut, EndsOutOfMemory, Status, IsAt, at_more, ends_or_lacks, lacks_after, stops_at, ListingEnd, Step, Steps, Task, IsCutListing, IsListing}
use Rattle.listing_run.proofs.Common.{IsPushed, first_pieces, last_line, listing, status_of, text_of, EndsAt, IsAtFirst, IsNextText, IsWalk, times_left, is_between, first_text, map, inl, inr}
use Rattle.listing_run.proofs.Common.{SinkError, TimeStep, whole, IsLate, late_not_ok, tail_late, run_of_less, IsStopEnd, IsListingBeside, left, listed, memory_put, status_after, wanting, concat}
use Rattle.std.proofs.Common.{IfOk}
use Rattle.listing_run.proofs.UnderWay.{IsSolved, cut_listing, encloses_if_whole, solved_steps_are_all, is_listing, none_solved, one_more_solved}
use Rattle.outside.specs.declared.traits.SinkError.TheVariants as error
use Rattle.run_puts.specs.declared.puts.Status.TheVariants as status
use Rattle.listing_run.specs.declared.text.ListingEnd.TheVariants as ends

-- the pieces of one step more
pub begun_more : (k : Task) (values : List Step) (v : Step) → first_pieces k values ++ (text_of k v ∷ []) ≡ first_pieces k (values ++ (v ∷ []))
begun_more k values v = ap (λ ts. first_text (is_between k) k.decks.first k.digits ∷ ts) (sym (map-append (text_of k) values (v ∷ [])))

module _ (k : Task) where
  -- all pieces of the steps so far are put, but the one at hand
  pub record IsUnderWay (s : Steps) (pending : Text) (puts : List Put) : Type 0 where
    pub values : List Step
    pub here : IsAt (IsListing k) (IsCutListing k) (first_pieces k values) pending puts
    pub solved : IsSolved k s.heads (times_left s) values

  pub under_way_at_first : (s : Steps) (first : Text) → first ≡ first_text (is_between k) k.decks.first k.digits → IsWalk k s → IsAtFirst k s → IsUnderWay s first []
  under_way_at_first s first same w f = record { values = []; here = record { before = []; all = ap (λ t. t ∷ []) (sym same); written = refl }; solved = none_solved k s w f }

  pub under_way_more : {S : Type 0} {leads : S → List Entries → Edges → Bool → S → Type 0} {s t : Steps} {before after : S} {pending text : Text}
      {puts tail : List Put} → IsUnderWay s pending puts → tail ≡ whole_put pending ∷ [] → IsNextText leads k s t before after text →
      IsUnderWay t text (puts ++ tail)
  under_way_more {leads = leads} {s = s} {t = t} {before = before} {after = after} {pending = pending} {text = text} {puts = puts} {tail = tail} u e n =
      let P : List Text → Type 0 = λ ts. IsAt (IsListing k) (IsCutListing k) ts text (puts ++ tail) in
      record {
        values = u.values ++ (n.value ∷ []);
        here = subst P (ap (λ x. first_pieces k u.values ++ (x ∷ [])) n.written ∙ begun_more k u.values n.value)
            (at_more (IsListing k) (IsCutListing k) (first_pieces k u.values) pending text puts tail u.here e);
        solved = one_more_solved k leads s t before after n.value u.values u.solved n.next;
      }

  abbrev IsRunOf : Status → List Put → Type 0
  IsRunOf end puts = IsRun (IsListing k) (IsCutListing k) end puts

  module _ (s : Steps) (pending : Text) (puts tail : List Put) (end : Status) (u : IsUnderWay s pending puts) where
    cut_here : IsCutListing k (first_pieces k u.values)
    cut_here = cut_listing k s.heads (times_left s) u.values u.solved

    pub ends_at_piece : IsPut pending (Some end) tail → IsRunOf end (puts ++ tail)
    ends_at_piece h = stops_at (IsListing k) (IsCutListing k) (first_pieces k u.values) pending puts tail end u.here cut_here h

    pub ends_wanting : (rest : List Put) → tail ≡ whole_put pending ∷ [] → EndsOutOfMemory end rest → IsRunOf end (puts ++ tail ++ rest)
    ends_wanting rest e h = lacks_after (IsListing k) (IsCutListing k) (first_pieces k u.values) pending puts tail rest end u.here cut_here e h

    pub ends_with_line : (rest : List Put) (last : ListingEnd) → tail ≡ whole_put pending ∷ [] → EndsAt k last s.heads (times_left s) →
        IsEnd (last_line k.decks.first.grid last) (status_of last) end rest → IsRunOf end (puts ++ tail ++ rest)
    ends_with_line rest last e here h = ends_or_lacks (IsListing k) (IsCutListing k) (first_pieces k u.values) pending (last_line k.decks.first.grid last)
        (status_of last) end puts tail rest u.here cut_here e (is_listing k s.heads (times_left s) u.values last u.solved here) h

concat_append : (a b : List Text) → concat (a ++ b) ≡ concat a ++ concat b
concat_append [] b = refl
concat_append (x ∷ a) b = ap (λ t. x ++ t) (concat_append a b) ∙ sym (append_assoc x (concat a) (concat b))

concat_one : (before : List Text) (line : Text) → concat (before ++ (line ∷ [])) ≡ concat before ++ line
concat_one before line = concat_append before (line ∷ []) ∙ ap (λ t. concat before ++ t) (append-nil line)

pub if_ok_both : {X E : Type 0} {P Q R : X → Type 0} (r : Result X E) → ((x : X) → P x → Q x → R x) → IfOk r P → IfOk r Q → IfOk r R
if_ok_both (Ok x) takes p q = takes x p q
if_ok_both (Err e) takes p q = tt

module _ (k : Task) (start : Text) where
  -- the steps so far are solved, and their text was added
  pub record IsText (s : Steps) (text : Text) : Type 0 where
    pub values : List Step
    pub solved : IsSolved k s.heads (times_left s) values
    pub written : text ≡ start ++ concat (first_pieces k values)

  pub text_at_first : (s : Steps) (first text : Text) → first ≡ first_text (is_between k) k.decks.first k.digits → text ≡ start ++ first → IsWalk k s → IsAtFirst k s → IsText s text
  text_at_first s first text same is w f =
      record {
        values = [];
        solved = none_solved k s w f;
        written =
            is ∙ ap (λ t. start ++ t) (same ∙ sym (append-nil (first_text (is_between k) k.decks.first k.digits)));
      }

  -- a line was added
  with_line : (values : List Step) (text line new : Text) → text ≡ start ++ concat (first_pieces k values) → new ≡ text ++ line → new ≡ start ++ concat (listing k values line)
  with_line values text line new was is =
      is ∙ (ap (λ t. t ++ line) was ∙ (append_assoc start (concat (first_pieces k values)) line ∙ ap (λ t. start ++ t) (sym (concat_one (first_pieces k values) line))))

  pub text_more : {S : Type 0} {leads : S → List Entries → Edges → Bool → S → Type 0} {s t : Steps} {before after : S} {text step new : Text} →
      IsNextText leads k s t before after step → new ≡ text ++ step → IsText s text → IsText t new
  text_more {leads = leads} {s = s} {t = t} {before = before} {after = after} {text = text} {new = new} n is so = record {
    values = so.values ++ (n.value ∷ []);
    solved = one_more_solved k leads s t before after n.value so.values so.solved n.next;
    written = with_line so.values text (text_of k n.value) new so.written (is ∙ ap (λ x. text ++ x) n.written) ∙ ap (λ ts. start ++ concat ts) (begun_more k so.values n.value);
  }

  pub text_ended : (s : Steps) (last : ListingEnd) (end : Status) (text new : Text) → EndsAt k last s.heads (times_left s) → end ≡ status_of last → new ≡
      text ++ last_line k.decks.first.grid last → IsText s text → IsPushed k end start new
  text_ended s last end text new here meant is so = record {
    pieces = listing k so.values (last_line k.decks.first.grid last);
    listed = record {
      last = last;
      status = meant;
      values = so.values;
      steps = solved_steps_are_all k s.heads (times_left s) so.values last so.solved here;
      encloses = encloses_if_whole k s.heads (times_left s) so.values last so.solved here;
      are = refl;
    };
    text = with_line so.values text (last_line k.decks.first.grid last) new so.written is;
  }

-- Runs that end before all steps are listed, and runs beside which a write failed.
-- a run that ended so didn't end Ok
pub put_not_ok : (pending : Text) (end : Status) (tail : List Put) → IsPut pending (Some end) tail → end ≡ status.Ok → ⊥
put_not_ok pending end tail h = late_not_ok end (tail_late (pending ∷ []) end tail (h []))

pub wanting_not_ok : (end : Status) (tail : List Put) → EndsOutOfMemory end tail → end ≡ status.Ok → ⊥
wanting_not_ok end tail (answer, s, t) =
    let P : Status → Type 0 = IsLate in
    late_not_ok end (subst P (sym s) (tail_late [] (status_after answer) (memory_put answer ∷ []) (wanting [] answer)))

-- a listing that ended at a step didn't end Ok
pub line_not_ok : (line : Text) (meant end : Status) (tail : List Put) → (meant ≡ status.Ok → ⊥) → IsEnd line meant end tail → end ≡ status.Ok → ⊥
line_not_ok line meant end tail not (inl (inl (same, t))) e = not (sym same ∙ e)
line_not_ok line meant end tail not (inl (inr t)) e = late_not_ok end (tail_late (line ∷ []) end tail t) e
line_not_ok line meant end tail not (inr w) e = wanting_not_ok end tail w e

broken_not_ok : (k : Task) (s : Steps) (at : TimeStep) (rest : List TimeStep) (last : ListingEnd) → times_left s ≡ at ∷ rest → EndsAt k last s.heads (times_left s) → status_of last ≡ status.Ok → ⊥
broken_not_ok k s at rest ends.Whole e h ok = let P : List TimeStep → Type 0 = λ ts. EndsAt k ends.Whole s.heads ts in subst P e h
broken_not_ok k s at rest (ends.NoBound t n) e h ok = let bad : status.NoBound t.period t.step n ≡ status.Ok = ok in cc
broken_not_ok k s at rest (ends.Unfinished t) e h ok = let bad : status.Unfinished t.period t.step ≡ status.Ok = ok in cc

pub end_not_ok : (k : Task) (s : Steps) (at : TimeStep) (rest : List TimeStep) (last : ListingEnd) (end : Status) (tail : List Put) → times_left s ≡ at ∷ rest →
    EndsAt k last s.heads (times_left s) → IsEnd (last_line k.decks.first.grid last) (status_of last) end tail → end ≡ status.Ok → ⊥
end_not_ok k s at rest last end tail e h = line_not_ok (last_line k.decks.first.grid last) (status_of last) end tail (broken_not_ok k s at rest last e h)

pub stop_end_not_ok : (fault : SinkError) (end : Status) (tail : List Put) → IsStopEnd fault end tail → end ≡ status.Ok → ⊥
stop_end_not_ok error.Write end tail (same, t) e = let bad : status.WriteFault ≡ status.Ok = sym same ∙ e in cc
stop_end_not_ok error.Memory end tail h e = wanting_not_ok end tail h e

module _ (failed : Type 0) (k : Task) where
  pub cut_listing_is_beside : (end : Status) (puts : List Put) → IsRun (IsListing k) (IsCutListing k) end puts → IsRun (IsListingBeside failed k) (IsCutListing k) end puts
  cut_listing_is_beside end puts h = run_of_less (IsListing k) (IsListingBeside failed k) (IsCutListing k) (λ meant pieces d. listed meant pieces d) end puts h

  pub ends_stopped : (fault : SinkError) (s : Steps) (pending : Text) (puts tail rest : List Put) (end : Status) → IsUnderWay k s pending puts → tail ≡
      whole_put pending ∷ [] → (fault ≡ error.Write → failed) → IsStopEnd fault end rest →
      IsRun (IsListingBeside failed k) (IsCutListing k) end (puts ++ tail ++ rest)
  ends_stopped error.Write s pending puts tail rest end u e why (same, none) =
      let i = u.here in
      let both : puts ++ tail ≡ map whole_put (i.before ++ (pending ∷ [])) = rw (e, i.written) (sym (map-append whole_put i.before (pending ∷ []))) in
      let all : puts ++ tail ≡ map whole_put (first_pieces k u.values) = both ∙ ap (map whole_put) (sym i.all) in
      let Q : List Put → Type 0 = λ ps. IsRun (IsListingBeside failed k) (IsCutListing k) status.WriteFault ps in
      let cut = cut_listing k s.heads (times_left s) u.values u.solved in
      let ran : Q (puts ++ tail) = subst Q (sym all) (whole status.WriteFault (first_pieces k u.values) (left (first_pieces k u.values) (why refl) cut)) in
      rw (same, none) (subst Q (sym (append-nil (puts ++ tail))) ran)
  ends_stopped error.Memory s pending puts tail rest end u e why h = cut_listing_is_beside end (puts ++ tail ++ rest) (ends_wanting k s pending puts tail end u rest e h)

-- a write failed beside by another account
beside_taken : (failed other : Type 0) (k : Task) → (failed → other) → (end : Status) (pieces : List Text) → IsListingBeside failed k end pieces → IsListingBeside other k end pieces
beside_taken failed other k takes end pieces (listed meant all d) = listed meant all d
beside_taken failed other k takes end pieces (left all f c) = left all (takes f) c

pub beside_by : (failed other : Type 0) (k : Task) → (failed → other) → (end : Status) (puts : List Put) →
    IsRun (IsListingBeside failed k) (IsCutListing k) end puts → IsRun (IsListingBeside other k) (IsCutListing k) end puts
beside_by failed other k takes end puts h = run_of_less (IsListingBeside failed k) (IsListingBeside other k) (IsCutListing k) (beside_taken failed other k takes) end puts h

-- nothing beside can fail to be written
listed_alone : (failed : Type 0) (k : Task) → (failed → ⊥) → (end : Status) (pieces : List Text) → IsListingBeside failed k end pieces → IsListing k end pieces
listed_alone failed k never end pieces (listed meant all d) = d
listed_alone failed k never end pieces (left all f c) = absurd (never f)

pub alone : (failed : Type 0) (k : Task) → (failed → ⊥) → (end : Status) (puts : List Put) → IsRun (IsListingBeside failed k) (IsCutListing k) end puts → IsRun (IsListing k) (IsCutListing k) end puts
alone failed k never end puts h = run_of_less (IsListingBeside failed k) (IsListing k) (IsCutListing k) (listed_alone failed k never) end puts h
