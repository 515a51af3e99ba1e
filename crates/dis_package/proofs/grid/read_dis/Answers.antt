use Rattle.dis_package.proofs.Common.{rules, ◌≡◌, ◌∙◌, ap, LinesMay, without_comments, begun_held, model_of_grid, some_give}
use Rattle.dis_package.proofs.{Forward.head_leaves, DisForms.dis_is, FrameForms.frame_is, ModelLemmas.dis_read, ModelLemmas.dis_stops, ModelLemmas.head_read}
use Rattle.dis_package.proofs.grid.read_dis.Goals as goal

pub grid_of-requires : goal.grid_of-requires
grid_of-requires g c =
    let model_of_grid : LinesMay (g.F.Folder.may c.args.folder.now) c.skip_comments.new.self = rw (c.skip_comments.ensures, c.new-lines.ensures) (begun_held _ _ c.requires.text) in
    record {
      lines = head_leaves c.args.limits _ _ _ _ _
          (head_read c.args.limits c.args.file.now _ _ _ _ _ c.in_ok-frame.frame c.in_ok-laycbd.laycbd.items c.in_ok-line.ensures c.of-words.ensures
          c.in_ok-frame.ensures.frame c.in_ok-laycbd.ensures.beds) model_of_grid;
    }

pub returns-in-Err-clause-model : goal.returns-in-Err-clause-model
returns-in-Err-clause-model g c = λ files agree.
    rw c.from.ensures (dis_stops c.args.limits c.in-Err.fault files _ _ _ _ _ (c.skip_comments.ensures ∙ ap without_comments c.new-lines.ensures)
    (head_read c.args.limits c.args.file.now _ _ _ _ _ c.in_ok-frame.frame c.in_ok-laycbd.laycbd.items c.in_ok-line.ensures c.of-words.ensures
    c.in_ok-frame.ensures.frame c.in_ok-laycbd.ensures.beds) (c.in_ok-grid.ensures.grid files agree) c.in-Err.ensures.periods)

pub returns-in-Ok-clause-model : goal.returns-in-Ok-clause-model
returns-in-Ok-clause-model g c = λ files agree.
    let made : c.begun_model.result ≡ model_of_grid c.in_ok-grid.grid c.in_ok-frame.frame.lenuni c.in-Ok.periods.items = search rules in
    dis_read c.args.limits files _ _ _ _ _ _ _ (c.skip_comments.ensures ∙ ap without_comments c.new-lines.ensures)
    (head_read c.args.limits c.args.file.now _ _ _ _ _ c.in_ok-frame.frame c.in_ok-laycbd.laycbd.items c.in_ok-line.ensures c.of-words.ensures
    c.in_ok-frame.ensures.frame c.in_ok-laycbd.ensures.beds) (c.in_ok-grid.ensures.grid files agree) c.in-Ok.ensures.periods made

pub returns-in-Ok-clause-form : goal.returns-in-Ok-clause-form
returns-in-Ok-clause-form g c = (some_give (λ files. dis_is c.args.limits files c.args.file.now c.args.bytes.now) c.some_agree.ensures (returns-in-Ok-clause-model g c)).begun

pub beds_of-requires : goal.beds_of-requires
beds_of-requires g c = ((frame_is c.args.file.now _ c.args.limits _).gives _ c.in_ok-frame.ensures.frame).0.size.layers.0
