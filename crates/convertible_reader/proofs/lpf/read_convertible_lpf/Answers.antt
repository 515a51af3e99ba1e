use Rattle.convertible_reader.proofs.Common.{AreLayersOf, ConvertibleLayers, FlowModel, HasFlow, convertible_lpf_of, gives_only_less, rules, some_give}
use Rattle.convertible_reader.proofs.FlowForms.{lpf_is}
use Rattle.convertible_reader.proofs.lpf.read_convertible_lpf.Goals as goal

pub returns-in-Ok-clause-form : goal.returns-in-Ok-clause-form
unfolding convertible_lpf_of
returns-in-Ok-clause-form g c =
    some_give {P = λ (x : FlowModel × ConvertibleLayers). HasFlow x.0} {x = (_, c.in-Ok.layers)}
    (λ files. gives_only_less (lpf_is files c.args.file.now c.args.bytes.now c.args.model) (λ y is. is.0)) c.some_agree.ensures (search rules)

pub returns-in-Ok-clause-layers : goal.returns-in-Ok-clause-layers
unfolding convertible_lpf_of
returns-in-Ok-clause-layers g c =
    some_give {P = λ (x : FlowModel × ConvertibleLayers). AreLayersOf x.0 x.1} {x = (_, c.in-Ok.layers)}
    (λ files. gives_only_less (lpf_is files c.args.file.now c.args.bytes.now c.args.model) (λ y is. is.2)) c.some_agree.ensures (search rules)
