-- The pieces of a plan's listing so far, and how it ends.
use Rattle.plan_run.proofs.Common.{◌≡◌, ◌∙◌, ◌∷◌, ◌++◌, List, [], Some, ap, is_some, map-append, refl, subst, sym, ListingEndsAt, EndsOutOfMemory, IsAt, IsAtFirst, IsCutPlanListing, IsEnd, IsNextText}
use Rattle.plan_run.proofs.Common.{IsPlanListing, IsPlanWalk, IsPut, IsRun, ListedPlanStep, PlanEnd, PlanTask, PlanWalk, Put, Status, Text, at_more, ends_or_lacks, first_pieces, plan_first_text}
use Rattle.plan_run.proofs.Common.{lacks_after, last_line, status_of, stops_at, text_of, times_left, whole_put}
use Rattle.plan_run.proofs.Walking.{IsSolved, cut_listing, is_listing, none_solved, one_more_solved}

-- the pieces of one step more
begun_more : (k : PlanTask) (values : List ListedPlanStep) (x : ListedPlanStep) → first_pieces k values ++ (text_of k x ∷ []) ≡ first_pieces k (values ++ (x ∷ []))
begun_more k values x = ap (λ ts. plan_first_text (is_some k.base.second) k.base.first k.digits ∷ ts) (sym (map-append (text_of k) values (x ∷ [])))

module _ (k : PlanTask) where
  -- all pieces of the steps so far are put, but the one at hand
  pub record IsUnderWay (w : PlanWalk) (pending : Text) (puts : List Put) : Type 0 where
    pub values : List ListedPlanStep
    pub here : IsAt (IsPlanListing k) (IsCutPlanListing k) (first_pieces k values) pending puts
    pub solved : IsSolved k w.heads (times_left w) values

  pub under_way_at_first : (w : PlanWalk) (first : Text) → first ≡ plan_first_text (is_some k.base.second) k.base.first k.digits → IsPlanWalk k w →
      IsAtFirst k w → IsUnderWay w first []
  under_way_at_first w first same is at_first =
      record { values = []; here = record { before = []; all = ap (λ t. t ∷ []) (sym same); written = refl }; solved = none_solved k w is at_first }

  pub under_way_more : (s t : PlanWalk) (pending text : Text) (puts tail : List Put) → IsUnderWay s pending puts → tail ≡ whole_put pending ∷ [] →
      IsNextText k s t text → IsUnderWay t text (puts ++ tail)
  under_way_more s t pending text puts tail u e n =
      let P : List Text → Type 0 = λ ts. IsAt (IsPlanListing k) (IsCutPlanListing k) ts text (puts ++ tail) in
      record {
        values = u.values ++ (n.value ∷ []);
        here = subst P (ap (λ x. first_pieces k u.values ++ (x ∷ [])) n.written ∙ begun_more k u.values n.value)
            (at_more (IsPlanListing k) (IsCutPlanListing k) (first_pieces k u.values) pending text puts tail u.here e);
        solved = one_more_solved k s t text u.values u.solved n;
      }

  abbrev IsRunOf : Status → List Put → Type 0
  IsRunOf end puts = IsRun (IsPlanListing k) (IsCutPlanListing k) end puts

  module _ (w : PlanWalk) (pending : Text) (puts tail : List Put) (end : Status) (u : IsUnderWay w pending puts) where
    cut_here : IsCutPlanListing k (first_pieces k u.values)
    cut_here = cut_listing k w.heads (times_left w) u.values u.solved

    pub ends_at_piece : IsPut pending (Some end) tail → IsRunOf end (puts ++ tail)
    ends_at_piece h = stops_at (IsPlanListing k) (IsCutPlanListing k) (first_pieces k u.values) pending puts tail end u.here cut_here h

    pub ends_wanting : (rest : List Put) → tail ≡ whole_put pending ∷ [] → EndsOutOfMemory end rest → IsRunOf end (puts ++ tail ++ rest)
    ends_wanting rest e h = lacks_after (IsPlanListing k) (IsCutPlanListing k) (first_pieces k u.values) pending puts tail rest end u.here cut_here e h

    pub ends_with_line : (rest : List Put) (last : PlanEnd) → tail ≡ whole_put pending ∷ [] → ListingEndsAt k last w.heads (times_left w) →
        IsEnd (last_line k.base.first.grid last) (status_of last) end rest → IsRunOf end (puts ++ tail ++ rest)
    ends_with_line rest last e here h = ends_or_lacks (IsPlanListing k) (IsCutPlanListing k) (first_pieces k u.values) pending (last_line k.base.first.grid last)
        (status_of last) end puts tail rest u.here cut_here e (is_listing k w.heads (times_left w) u.values last u.solved here) h
