use Rattle.view_puts.proofs.Common.{[], ◌∷◌, Put}
use Rattle.view_puts.proofs.Views.{is_put_of}
use Rattle.view_puts.proofs.viewer.put_text.Goals as goal

pub returns-in-Ok : goal.returns-in-Ok
returns-in-Ok g c =
    let put : Put = record { piece = c.as_slice.result.now; answer = c.put.result } in (
      put ∷ [],
      is_put_of _ c.args.text c.in-Ok.text c.put.result c.err.result c.as_slice.result.now c.in-Ok.is c.err.ensures.value c.as_slice.ensures.value,
      λ start before h. c.put.ensures.leads start before h,
    )
