use Rattle.outside.proofs.Common.{rules, ◌≡◌, None, reading_of}
use Rattle.outside.proofs.Agreeing.{more_agrees, more_known, more_named}
use Rattle.outside.proofs.real_folder.RealFolder.ask.Goals as goal

pub returns-clause-known : goal.returns-clause-known
returns-clause-known g c = more_known _ _ _ c.in_ok-read_anew.ensures.ok

pub returns-clause-still : goal.returns-clause-still
returns-clause-still g c = λ other h. rw c.in_ok-read_anew.ensures.given (more_named _ _ c.args.self.now.given _ c.in_ok-read_anew.ensures.ok other h)

pub returns-clause-since : goal.returns-clause-since
returns-clause-since g c = λ files agree.
    let missing : reading_of c.args.name.now c.args.self.now.readings ≡ None = search rules in
    (rw (← c.in_ok-read_anew.ensures.limit) agree.0, rw (← c.in_ok-read_anew.ensures.limit) (more_agrees _ _ _ _ files.files c.in_ok-read_anew.ensures.ok missing agree.1))
