use Rattle.plan_run.proofs.Common.{Ok, Option, subst, ◌≡◌, FlowModel, second_planned}
use Rattle.plan_run.proofs.WithWells.{decks_are, long_for_second}
use Rattle.plan_run.proofs.decks.planned_decks.Goals as goal

pub planned_second-requires : goal.planned_second-requires
planned_second-requires c =
    let d = c.args.decks.now in
    record { long = rw c.as_ref.ensures.value (long_for_second c.args.plan.now c.args.file.now c.requires.plan.0 d.first d.second c.requires.decks.second c.requires.plan.1) }

pub returns-in-Ok-clause-valid : goal.returns-in-Ok-clause-valid
returns-in-Ok-clause-valid c =
    let d = c.args.decks.now in
    let P : Option FlowModel → Type 0 = λ o. second_planned c.args.plan.now c.args.file.now o ≡ Ok c.in-Ok.second in
    decks_are c.args.plan.now c.args.file.now c.planned_are_valid.ensures.valid c.planned_are_alike.ensures.alike c.requires.plan.0 d.first c.requires.plan.1
    d.second c.in_ok-first.first c.in-Ok.second c.requires.decks.first c.requires.decks.second c.in_ok-first.ensures (subst P c.as_ref.ensures.value c.in-Ok.ensures)
