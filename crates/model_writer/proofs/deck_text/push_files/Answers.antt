use Rattle.model_writer.proofs.ListTexts.{files_are}
use Rattle.model_writer.proofs.deck_text.push_files.Goals as goal

pub returns : goal.returns
returns c = files_are c.args.model.now c.args.text.now.items _ _ _ c.in_ok-push_file_line.ensures c.in_ok-push_parts.ensures c.in_ok-push_parts-2.ensures
