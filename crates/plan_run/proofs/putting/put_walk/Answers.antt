use Rattle.plan_run.proofs.Common.{rules, ◌≡◌, ◌∷◌, [], ◌++◌, List, Some, None, subst, sym, ◌∙◌, ap, append-nil, Put, whole_put, puts_are_joined, ListingEndsAt, IsCutPlanListing, IsNextText}
use Rattle.plan_run.proofs.Common.{IsPlanListing, joined_thrice, lacks_at_first, plan_first_text, put_was, times_left}
use Rattle.plan_run.proofs.{Pieces.ends_at_piece, Pieces.ends_wanting, Pieces.ends_with_line, Pieces.under_way_at_first, Pieces.under_way_more, Walking.fewer_left}
use Rattle.plan_run.proofs.putting.put_walk.Goals as goal

pub returns-in_default : goal.returns-in_default
returns-in_default g c = λ start puts h.
    let m = c.put_memory.ensures start puts h in
    (m.0, m.1, lacks_at_first (IsPlanListing c.args.task.now) (IsCutPlanListing c.args.task.now) c.put_memory.result m.0 m.2)

pub loop-status-init : goal.loop-status-init
loop-status-init g c = record {
  ready = c.requires.ready;
  rounds = c.requires.rounds;
  walk = c.requires.walk;
  puts = λ start puts h.
      let L : List Put → Type 0 = λ s. g.K.Sink.leads start s c.args.out.now in (
        [],
        subst L (sym (append-nil puts)) h,
        under_way_at_first c.args.task.now c.args.walk.now c.in-Ok.pending.items
            (c.in-Ok.ensures ∙ ap (λ b. plan_first_text b c.args.task.now.base.first c.args.task.now.digits) c.is_some.ensures) c.requires.walk c.requires.first,
      );
}

pub returns-in-Some : goal.returns-in-Some
returns-in-Some g c = λ start puts h.
    let i = c.loop-status.invariant.puts start puts h in
    let p = c.put_while_solving-put.ensures.puts start (puts ++ i.0) i.1 in
    let was = put_was c.as_slice.result.now c.loop-status.pending.items _ (Some c.in-Some.status) p.0 c.as_slice.ensures.value c.in-Some.is p.2 in (
      i.0 ++ p.0,
      puts_are_joined (λ s. g.K.Sink.leads start s c.put_while_solving-put.new.out) puts i.0 p.0 p.1,
      ends_at_piece c.args.task.now c.loop-status.walk c.loop-status.pending.items i.0 p.0 c.in-Some.status i.2 was,
    )

pub loop-status-preserved : goal.loop-status-preserved
loop-status-preserved g c =
    let next : IsNextText c.args.task.now c.loop-status.walk c.put_while_solving-put.new.walk c.in-Ok-next.text.items = search rules in
    record {
      ready = c.put_while_solving-put.ensures.ready;
      rounds = c.put_while_solving-put.ensures.rounds ∙ c.loop-status.invariant.rounds;
      walk = c.put_while_solving-put.ensures.walk;
      puts = λ start puts h.
          let i = c.loop-status.invariant.puts start puts h in
          let p = c.put_while_solving-put.ensures.puts start (puts ++ i.0) i.1 in
          let was : p.0 ≡ whole_put c.loop-status.pending.items ∷ [] = put_was c.as_slice.result.now c.loop-status.pending.items _ None p.0 c.as_slice.ensures.value c.in_default-put.is p.2 in (
            i.0 ++ p.0,
            puts_are_joined (λ s. g.K.Sink.leads start s c.put_while_solving-put.new.out) puts i.0 p.0 p.1,
            under_way_more c.args.task.now c.loop-status.walk c.put_while_solving-put.new.walk c.loop-status.pending.items c.in-Ok-next.text.items i.0 p.0 i.2 was next,
          );
    }

pub returns-in-Err-End : goal.returns-in-Err-End
returns-in-Err-End g c = λ start puts h.
    let i = c.loop-status.invariant.puts start puts h in
    let p = c.put_while_solving-put.ensures.puts start (puts ++ i.0) i.1 in
    let m = c.put_end.ensures start (puts ++ i.0 ++ p.0) p.1 in
    let here : ListingEndsAt c.args.task.now c.in-Err-End.end c.loop-status.walk.heads (times_left c.loop-status.walk) = search rules in
    let was : p.0 ≡ whole_put c.loop-status.pending.items ∷ [] = put_was c.as_slice.result.now c.loop-status.pending.items _ None p.0 c.as_slice.ensures.value c.in_default-put.is p.2 in (
      i.0 ++ p.0 ++ m.0,
      joined_thrice (λ s. g.K.Sink.leads start s c.put_end.new.out) puts i.0 p.0 m.0 m.1,
      ends_with_line c.args.task.now c.loop-status.walk c.loop-status.pending.items i.0 p.0 c.put_end.result i.2 m.0 c.in-Err-End.end was here m.2,
    )

pub returns-in-Err-Memory : goal.returns-in-Err-Memory
returns-in-Err-Memory g c = λ start puts h.
    let i = c.loop-status.invariant.puts start puts h in
    let p = c.put_while_solving-put.ensures.puts start (puts ++ i.0) i.1 in
    let m = c.put_memory-in-Err-Memory.ensures start (puts ++ i.0 ++ p.0) p.1 in
    let was : p.0 ≡ whole_put c.loop-status.pending.items ∷ [] = put_was c.as_slice.result.now c.loop-status.pending.items _ None p.0 c.as_slice.ensures.value c.in_default-put.is p.2 in (
      i.0 ++ p.0 ++ m.0,
      joined_thrice (λ s. g.K.Sink.leads start s c.put_memory-in-Err-Memory.new.out) puts i.0 p.0 m.0 m.1,
      ends_wanting c.args.task.now c.loop-status.walk c.loop-status.pending.items i.0 p.0 c.put_memory-in-Err-Memory.result i.2 m.0 was m.2,
    )

pub loop-status-smaller : goal.loop-status-smaller
loop-status-smaller g c =
    let next : IsNextText c.args.task.now c.loop-status.walk c.put_while_solving-put.new.walk c.in-Ok-next.text.items = search rules in
    fewer_left c.args.task.now c.loop-status.walk c.put_while_solving-put.new.walk c.in-Ok-next.text.items next
