use Rattle.outside.proofs.Agreeing.{all_agree}
use Rattle.outside.proofs.real_folder.RealFolderFolder.some_agree.Goals as goal

pub returns : goal.returns
returns g c = all_agree c.args.self.now
