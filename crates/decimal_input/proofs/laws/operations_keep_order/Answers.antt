use Rattle.decimal_input.proofs.Orders.{plus-AtMost, times-AtMost, over-AtMost}
use Rattle.decimal_input.proofs.laws.operations_keep_order.Goals as goal

pub returns : goal.returns
returns c = record {
  sums = λ a b c d p q. plus-AtMost p q;
  products = λ a b c d p q. times-AtMost p q;
  quotients = λ a b c d some_c some_d p q. over-AtMost some_d some_c p q;
}
