use Rattle.gentle_heads.proofs.walk.is_gentle_at.Goals as goal

pub returns : goal.returns
returns c =
    let all = c.all_three.ensures in (
      λ t. record {
        wet = c.is_wet-wet.ensures.0 (all.0 t).0;
        falls = c.falls_at-falls.ensures.0 (all.0 t).1;
        over_bottom = c.is_over_bottom-over.ensures.0 (all.0 t).2;
      },
      λ g. all.1 (c.is_wet-wet.ensures.1 g.wet, c.falls_at-falls.ensures.1 g.falls, c.is_over_bottom-over.ensures.1 g.over_bottom),
    )
