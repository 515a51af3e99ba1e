use Rattle.outside.proofs.GoodNames.{IsGoodName-IsUtf8}
use Rattle.outside.proofs.names.good_name.Goals as goal

pub returns-in-Err : goal.returns-in-Err
returns-in-Err c = λ good. c.in-Err.ensures.cases.0 (IsGoodName-IsUtf8 _ good)
