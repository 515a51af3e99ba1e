use Rattle.std.specs.Prelude.{option_map}
use Rattle.model_writer.proofs.ListTexts.{deck_is}
use Rattle.model_writer.proofs.deck_text.push_deck.Goals as goal

pub returns : goal.returns
returns c = deck_is c.args.model.now (option_map (λ z. z.now) c.args.zones) c.args.text.now.items _ _ _ c.in_ok-push_files.ensures c.in_ok-push_zones.ensures c.in_ok-extend_from_slice.ensures.items
