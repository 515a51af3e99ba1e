use Rattle.check_run.proofs.RunText.{run_read}
use Rattle.check_run.proofs.laws.run_is_read_again.Goals as goal

pub returns : goal.returns
returns c = run_read c.heads_fit.ensures c.start_heads.ensures.fit c.listings_are_read_again.ensures
