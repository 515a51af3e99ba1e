use Rattle.listing_run.proofs.Common.{◌≡◌, ◌∙◌, ◌++◌, ap, Text, Status, last_line, status_of, EndsAt, IsNextText, times_left, first_text}
use Rattle.listing_run.proofs.{Pieces.if_ok_both, Pieces.text_at_first, Pieces.text_ended, Pieces.text_more, UnderWay.fewer_left}
use Rattle.listing_run.proofs.text.push_steps.Goals as goal

pub loop-step-init : goal.loop-step-init
loop-step-init g c =
    let start : Text = c.args.text.now.items in
    record {
      ready = c.requires.ready;
      rounds = c.requires.rounds;
      walk = c.requires.walk;
      text = text_at_first c.args.task.now start c.args.steps.now c.in_ok-first.first.items c.extend_from_slice.new.self.items
          (c.in_ok-first.ensures ∙ ap (λ b. first_text b c.args.task.now.decks.first c.args.task.now.digits) c.is_some.ensures)
          (c.in_ok-extend_from_slice.ensures.items ∙ ap (λ t. start ++ t) c.as_slice.ensures.value) c.requires.walk c.requires.first;
    }

pub loop-step-preserved : goal.loop-step-preserved
loop-step-preserved g c =
    let text : Text = c.loop-step.text.items in
    let next : IsNextText g.S.Settler.leads c.args.task.now c.loop-step.steps c.next_text.new.self c.loop-step.settler c.next_text.new.settler c.in-Ok.step.items = c.in-Ok.ensures.next in
    record {
      ready = c.next_text.ensures.ready;
      rounds = c.next_text.ensures.rounds ∙ c.loop-step.invariant.rounds;
      walk = c.next_text.ensures.walk;
      text = text_more _ _ next
          (c.in_ok-extend_from_slice-in-Ok.ensures.items ∙ ap (λ t. text ++ t) c.as_slice-in-Ok.ensures.value) c.loop-step.invariant.text;
    }

pub returns-in-Err-End : goal.returns-in-Err-End
returns-in-Err-End g c =
    let start : Text = c.args.text.now.items in
    let here : EndsAt c.args.task.now c.in-Err-End.end c.loop-step.steps.heads (times_left c.loop-step.steps) = rw c.in-Err-End.field-0-is at c.in-Err-End.ensures.stop in
    let ended = λ (status : Status) (meant : status ≡ status_of c.in-Err-End.end) (is : c.push_end.new.text.items ≡
    c.loop-step.text.items ++ last_line c.args.task.now.decks.first.grid c.in-Err-End.end).
    text_ended c.args.task.now start c.loop-step.steps c.in-Err-End.end status c.loop-step.text.items c.push_end.new.text.items here meant is c.loop-step.invariant.text in
    if_ok_both c.push_end.result ended c.push_end.ensures.status c.push_end.ensures.text

pub loop-step-smaller : goal.loop-step-smaller
loop-step-smaller g c =
    fewer_left c.in-Ok.ensures.next
