use Rattle.model_writer.proofs.Common.{packages, has, part_bytes}
use Rattle.name_file.specs.declared.package.Package.TheVariants.{Dis}
use Rattle.model_writer.proofs.ListTexts.{one_more}
use Rattle.model_writer.proofs.deck_text.push_parts.Goals as goal

pub loop-kind-preserved : goal.loop-kind-preserved
loop-kind-preserved c =
    one_more (has c.args.model.now) (part_bytes c.args.model.now c.args.named) packages c.loop-kind.kind-index Dis _ _ _ c.loop-kind-test.true c.loop-kind.invariant c.in_ok-push_part_if.ensures
