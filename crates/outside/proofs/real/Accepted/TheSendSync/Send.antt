-- What a writer has accepted owns nothing, so it may go to another thread.
use Rattle.outside.proofs.Common.{RattleType, the_row, the_type}
use denote.Param.Send.{IsSend, owning_send, sendable}

pub send : (W : RattleType) → IsSend W → IsSend (the_row W)
send W w = owning_send (the_type W) (search sendable, tt) (λ d. tt) (λ k x w. tt)
