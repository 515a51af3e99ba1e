use Rattle.engine.proofs.Common.{◌≡◌, ℕ, subst, sym, ◌∙◌, code_of, IsStopNumber}
use Rattle.std.specs.Process.{exit_status}
use Rattle.engine.proofs.Numbers.{ok_from_zero, stop_number}
use Rattle.engine.proofs.commands.serve.Goals as goal

pub returns-clause-serves : goal.returns-clause-serves
returns-clause-serves g c =
    let run = c.run-status.ensures.runs in
    let is : exit_status c.from.result ≡ code_of c.run-status.result = c.from.ensures ∙ c.code.ensures in
    record {
      end = c.run-status.result;
      number_is = is;
      run = run;
      limit = λ files agree. c.requires.limit files (c.run-status.ensures.since files agree);
      headline = λ zero files agree. run.headline (ok_from_zero c.run-status.result (sym is ∙ zero)) files agree;
      one = λ zero files agree. run.one (ok_from_zero c.run-status.result (sym is ∙ zero)) files agree;
      batch = λ goes. run.batch (λ stops. goes (let P : ℕ → Type 0 = IsStopNumber in subst P (sym is) (stop_number c.run-status.result stops)));
    }

pub returns-clause-watched : goal.returns-clause-watched
returns-clause-watched g c = λ zero n asked files agree.
    let is : exit_status c.from.result ≡ code_of c.run-status.result = c.from.ensures ∙ c.code.ensures in
    c.run-status.ensures.runs.watched (ok_from_zero c.run-status.result (sym is ∙ zero)) n asked files agree
