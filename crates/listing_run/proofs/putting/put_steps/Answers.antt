use Rattle.listing_run.proofs.Common.{◌≡◌, Some, inl, refl, lacks_at_first, IsListingBeside, IsCutListing, Write}
use Rattle.listing_run.proofs.Pieces.{wanting_not_ok}
use Rattle.listing_run.proofs.putting.put_steps.Goals as goal

pub returns-in_default-clause-puts : goal.returns-in_default-clause-puts
returns-in_default-clause-puts g c = λ start puts h.
    let m = c.put_memory.ensures start puts h in (
      m.0,
      m.1,
      (
        lacks_at_first (IsListingBeside (g.S.StepSettler.stop c.args.settler.now ≡ Some Write) c.args.task.now)
            (IsCutListing c.args.task.now) c.put_memory.result m.0 m.2,
        λ e. absurd (wanting_not_ok c.put_memory.result m.0 m.2 e),
      ),
    )

pub returns-in_default-clause-reaches : goal.returns-in_default-clause-reaches
returns-in_default-clause-reaches g c = inl refl
