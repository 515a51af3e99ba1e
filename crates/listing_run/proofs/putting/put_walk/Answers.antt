use Rattle.listing_run.proofs.Common.{rules, ◌≡◌, ◌+◌, ◌∷◌, [], ◌++◌, drop, List, Some, None, true, false, inl, inr, refl, subst, sym, ◌∙◌, ap, append-nil, Put, whole_put, TimeStep, puts_are_joined}
use Rattle.listing_run.proofs.Common.{joined_thrice, put_was, lacks_at_first, IsListingBeside, IsCutListing, EndsAt, IsNextText, times_left, Write, first_text}
use Rattle.listing_run.specs.declared.text.ListingEnd.TheVariants.{Whole}
use Rattle.listing_run.proofs.{Pieces.ends_at_piece, Pieces.ends_wanting, Pieces.ends_with_line, Pieces.under_way_at_first, Pieces.under_way_more, Pieces.cut_listing_is_beside, Pieces.end_not_ok}
use Rattle.listing_run.proofs.{Pieces.ends_stopped, Pieces.put_not_ok, Pieces.stop_end_not_ok, Pieces.wanting_not_ok, Settled.none_settled, Settled.one_more_settled, Settled.reaches_more}
use Rattle.listing_run.proofs.{Settled.reaches_so_far, UnderWay.fewer_left}
use Rattle.listing_run.proofs.putting.put_walk.Goals as goal

pub returns-in_default-clause-puts : goal.returns-in_default-clause-puts
returns-in_default-clause-puts g c = λ start puts h.
    let m = c.put_memory.ensures start puts h in (
      m.0,
      m.1,
      (
        lacks_at_first (IsListingBeside (g.S.StepSettler.stop c.args.settler.now ≡ Some Write) c.args.task.now)
            (IsCutListing c.args.task.now) c.put_memory.result m.0 m.2,
        λ e. absurd (wanting_not_ok c.put_memory.result m.0 m.2 e),
      ),
    )

pub returns-in_default-clause-reaches : goal.returns-in_default-clause-reaches
returns-in_default-clause-reaches g c = inl refl

pub loop-at-init : goal.loop-at-init
loop-at-init g c = record {
  ready = c.requires.ready;
  rounds = c.requires.rounds;
  walk = c.requires.walk;
  puts = λ start puts h.
      let L : List Put → Type 0 = λ s. g.K.Sink.leads start s c.args.out.now in (
        [],
        subst L (sym (append-nil puts)) h,
        under_way_at_first c.args.task.now c.args.steps.now c.in-Ok.pending.items
            (c.in-Ok.ensures ∙ ap (λ b. first_text b c.args.task.now.decks.first c.args.task.now.digits) c.is_some.ensures) c.requires.walk c.requires.first,
      );
  goes_on = c.requires.goes_on;
  settled = none_settled _ _ _ _ c.requires.walk c.requires.first;
}

pub returns-in-Some-put-clause-puts : goal.returns-in-Some-put-clause-puts
returns-in-Some-put-clause-puts g c = λ start puts h.
    let i = c.loop-at.invariant.puts start puts h in
    let p = c.put_while_solving-put.ensures.puts start (puts ++ i.0) i.1 in
    let was = put_was c.as_slice.result.now c.loop-at.pending.items _ (Some c.in-Some-put.status) p.0 c.as_slice.ensures.value c.in-Some-put.is p.2 in (
      i.0 ++ p.0,
      puts_are_joined (λ s. g.K.Sink.leads start s c.put_while_solving-put.new.out) puts i.0 p.0 p.1,
      (
        cut_listing_is_beside _ c.args.task.now c.in-Some-put.status (i.0 ++ p.0)
            (ends_at_piece c.args.task.now c.loop-at.steps c.loop-at.pending.items i.0 p.0 c.in-Some-put.status i.2 was),
        λ e.
            absurd (put_not_ok c.loop-at.pending.items c.in-Some-put.status p.0 was e),
      ),
    )

pub returns-in-Some-put-clause-reaches : goal.returns-in-Some-put-clause-reaches
returns-in-Some-put-clause-reaches g c =
    inr (reaches_more _ _ _ _ (λ t. t.items) _ _ c.in-Some.ensures.left c.loop-at.invariant.settled c.begin_step.ensures.begins
    c.put_while_solving-put.ensures.next c.put_while_solving-put.ensures.led)

pub returns-in-Some-stop-clause-puts : goal.returns-in-Some-stop-clause-puts
returns-in-Some-stop-clause-puts g c = λ start puts h.
    let i = c.loop-at.invariant.puts start puts h in
    let p = c.put_while_solving-put.ensures.puts start (puts ++ i.0) i.1 in
    let m = c.end_stopped.ensures start (puts ++ i.0 ++ p.0) p.1 in
    let was : p.0 ≡ whole_put c.loop-at.pending.items ∷ [] = put_was c.as_slice.result.now c.loop-at.pending.items _ None p.0 c.as_slice.ensures.value c.in_default-put.is p.2 in (
      i.0 ++ p.0 ++ m.0,
      joined_thrice (λ s. g.K.Sink.leads start s c.end_stopped.new.out) puts i.0 p.0 m.0 m.1,
      (
        ends_stopped (g.S.StepSettler.stop c.put_while_solving-put.new.settler ≡
            Some Write) c.args.task.now c.in-Some-stop.error c.loop-at.steps c.loop-at.pending.items i.0 p.0 m.0 c.end_stopped.result i.2 was (λ w.
            sym c.stop.ensures ∙ c.in-Some-stop.is ∙ ap Some w) m.2,
        λ e. absurd (stop_end_not_ok c.in-Some-stop.error c.end_stopped.result m.0 m.2 e),
      ),
    )

pub returns-in-Some-stop-clause-reaches : goal.returns-in-Some-stop-clause-reaches
returns-in-Some-stop-clause-reaches g c =
    inr (reaches_more _ _ _ _ (λ t. t.items) _ _ c.in-Some.ensures.left c.loop-at.invariant.settled c.begin_step.ensures.begins
    c.put_while_solving-put.ensures.next c.put_while_solving-put.ensures.led)

pub loop-at-preserved : goal.loop-at-preserved
loop-at-preserved g c =
    let next : IsNextText g.S.Settler.leads c.args.task.now c.loop-at.steps c.put_while_solving-put.new.steps c.begin_step.new.settler
    c.put_while_solving-put.new.settler c.in-Ok-next.text.items = search rules in
    record {
      ready = c.put_while_solving-put.ensures.ready;
      rounds = c.put_while_solving-put.ensures.rounds ∙ c.begin_step.ensures.rounds ∙ c.loop-at.invariant.rounds;
      walk = c.put_while_solving-put.ensures.walk;
      puts = λ start puts h.
          let i = c.loop-at.invariant.puts start puts h in
          let p = c.put_while_solving-put.ensures.puts start (puts ++ i.0) i.1 in
          let was : p.0 ≡ whole_put c.loop-at.pending.items ∷ [] = put_was c.as_slice.result.now c.loop-at.pending.items _ None p.0 c.as_slice.ensures.value c.in_default-put.is p.2 in (
            i.0 ++ p.0,
            puts_are_joined (λ s. g.K.Sink.leads start s c.put_while_solving-put.new.out) puts i.0 p.0 p.1,
            under_way_more _ i.2 was next,
          );
      goes_on = sym c.stop.ensures ∙ c.in_default-stop.is;
      settled = one_more_settled _ _ _ _ c.in-Some.ensures.left c.loop-at.invariant.settled c.begin_step.ensures.begins next
          (sym c.stop.ensures ∙ c.in_default-stop.is);
    }

pub returns-in-Err-End-clause-puts : goal.returns-in-Err-End-clause-puts
returns-in-Err-End-clause-puts g c = λ start puts h.
    let i = c.loop-at.invariant.puts start puts h in
    let p = c.put_while_solving-put.ensures.puts start (puts ++ i.0) i.1 in
    let m = c.put_end.ensures start (puts ++ i.0 ++ p.0) p.1 in
    let here : EndsAt c.args.task.now c.in-Err-End.end c.loop-at.steps.heads (times_left c.loop-at.steps) = search rules in
    let was : p.0 ≡ whole_put c.loop-at.pending.items ∷ [] = put_was c.as_slice.result.now c.loop-at.pending.items _ None p.0 c.as_slice.ensures.value c.in_default-put.is p.2 in (
      i.0 ++ p.0 ++ m.0,
      joined_thrice (λ s. g.K.Sink.leads start s c.put_end.new.out) puts i.0 p.0 m.0 m.1,
      (
        cut_listing_is_beside _ c.args.task.now c.put_end.result (i.0 ++ p.0 ++ m.0)
            (ends_with_line c.args.task.now c.loop-at.steps c.loop-at.pending.items i.0 p.0 c.put_end.result i.2 m.0 c.in-Err-End.end was here m.2),
        λ e.
            absurd (end_not_ok c.args.task.now c.loop-at.steps c.in-Some.at
            (drop (c.loop-at.steps.done + 1) c.loop-at.steps.times) c.in-Err-End.end c.put_end.result m.0 c.in-Some.ensures.left here m.2 e),
      ),
    )

pub returns-in-Err-End-clause-reaches : goal.returns-in-Err-End-clause-reaches
returns-in-Err-End-clause-reaches g c =
    inr (reaches_more _ _ _ _ (λ t. t.items) _ _ c.in-Some.ensures.left c.loop-at.invariant.settled c.begin_step.ensures.begins
    c.put_while_solving-put.ensures.next c.put_while_solving-put.ensures.led)

pub returns-in-Err-Memory-clause-puts : goal.returns-in-Err-Memory-clause-puts
returns-in-Err-Memory-clause-puts g c = λ start puts h.
    let i = c.loop-at.invariant.puts start puts h in
    let p = c.put_while_solving-put.ensures.puts start (puts ++ i.0) i.1 in
    let m = c.put_memory-in-Err-Memory.ensures start (puts ++ i.0 ++ p.0) p.1 in
    let was : p.0 ≡ whole_put c.loop-at.pending.items ∷ [] = put_was c.as_slice.result.now c.loop-at.pending.items _ None p.0 c.as_slice.ensures.value c.in_default-put.is p.2 in (
      i.0 ++ p.0 ++ m.0,
      joined_thrice (λ s. g.K.Sink.leads start s c.put_memory-in-Err-Memory.new.out) puts i.0 p.0 m.0 m.1,
      (
        cut_listing_is_beside _ c.args.task.now c.put_memory-in-Err-Memory.result (i.0 ++ p.0 ++ m.0)
            (ends_wanting c.args.task.now c.loop-at.steps c.loop-at.pending.items i.0 p.0 c.put_memory-in-Err-Memory.result i.2 m.0 was m.2),
        λ e.
            absurd (wanting_not_ok c.put_memory-in-Err-Memory.result m.0 m.2 e),
      ),
    )

pub returns-in-Err-Memory-clause-reaches : goal.returns-in-Err-Memory-clause-reaches
returns-in-Err-Memory-clause-reaches g c =
    inr (reaches_more _ _ _ _ (λ t. t.items) _ _ c.in-Some.ensures.left c.loop-at.invariant.settled c.begin_step.ensures.begins
    c.put_while_solving-put.ensures.next c.put_while_solving-put.ensures.led)

pub returns-in-Some-put_piece-clause-puts : goal.returns-in-Some-put_piece-clause-puts
returns-in-Some-put_piece-clause-puts g c = λ start puts h.
    let i = c.loop-at.invariant.puts start puts h in
    let p = c.put_piece.ensures start (puts ++ i.0) i.1 in
    let was = put_was c.as_slice-2.result.now c.loop-at.pending.items _ (Some c.in-Some-put_piece.status) p.0 c.as_slice-2.ensures.value c.in-Some-put_piece.is p.2 in (
      i.0 ++ p.0,
      puts_are_joined (λ s. g.K.Sink.leads start s c.put_piece.new.out) puts i.0 p.0 p.1,
      (
        cut_listing_is_beside _ c.args.task.now c.in-Some-put_piece.status (i.0 ++ p.0)
            (ends_at_piece c.args.task.now c.loop-at.steps c.loop-at.pending.items i.0 p.0 c.in-Some-put_piece.status i.2 was),
        λ e.
            absurd (put_not_ok c.loop-at.pending.items c.in-Some-put_piece.status p.0 was e),
      ),
    )

pub returns-clause-puts : goal.returns-clause-puts
returns-clause-puts g c = λ start puts h.
    let k = c.args.task.now in
    let s = c.loop-at.steps in
    let i = c.loop-at.invariant.puts start puts h in
    let p = c.put_piece.ensures start (puts ++ i.0) i.1 in
    let m = c.put_end-2.ensures start (puts ++ i.0 ++ p.0) p.1 in
    let was : p.0 ≡ whole_put c.loop-at.pending.items ∷ [] = put_was c.as_slice-2.result.now c.loop-at.pending.items _ None p.0 c.as_slice-2.ensures.value c.in_default-put_piece.is p.2 in
    let none : times_left s ≡ [] = c.in_default-time.ensures.left in
    let E : List TimeStep → Type 0 = λ times. EndsAt k Whole s.heads times in (
      i.0 ++ p.0 ++ m.0,
      joined_thrice (λ s. g.K.Sink.leads start s c.put_end-2.new.out) puts i.0 p.0 m.0 m.1,
      (
        cut_listing_is_beside _ k c.put_end-2.result (i.0 ++ p.0 ++ m.0) (ends_with_line k s c.loop-at.pending.items i.0 p.0 c.put_end-2.result i.2 m.0 Whole was
            (subst E (sym none) tt) m.2),
        λ e. reaches_so_far _ _ _ _ (inr none) c.loop-at.invariant.settled,
      ),
    )

pub returns-in-Some-put_piece-clause-reaches : goal.returns-in-Some-put_piece-clause-reaches
returns-in-Some-put_piece-clause-reaches g c =
    inr (reaches_so_far _ _ _ _ (inl refl) c.loop-at.invariant.settled)

pub returns-clause-reaches : goal.returns-clause-reaches
returns-clause-reaches g c = inr (reaches_so_far _ _ _ _ (inl refl) c.loop-at.invariant.settled)

pub loop-at-smaller : goal.loop-at-smaller
loop-at-smaller g c =
    let next : IsNextText g.S.Settler.leads c.args.task.now c.loop-at.steps c.put_while_solving-put.new.steps c.begin_step.new.settler
    c.put_while_solving-put.new.settler c.in-Ok-next.text.items = search rules in
    fewer_left next
