use Rattle.std.proofs.Common.{rules}
use Rattle.stated_text.proofs.CutTexts.{named}
use Rattle.stated_text.proofs.cutting.name_in.Goals as goal

pub returns-then-eq : goal.returns-then-eq
returns-then-eq c = named c.args.line.now (λ t. t.now) _ _ c.good_name.result c.split_at.ensures.front c.split_at.ensures.back (search rules) c.good_name.ensures
