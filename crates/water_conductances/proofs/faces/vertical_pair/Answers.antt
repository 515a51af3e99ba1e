use Rattle.water_conductances.proofs.Common.{◌≡◌, ◌+◌, ap, sym, subst, arith, ◌∙◌, cell_below_means_layers, delc_positive, delr_positive, Bed, IsBed, small_pair, vertical_of, IsPositive, dec_at}
use Rattle.water_conductances.proofs.Common.{layer_size, one, vkcb_at, kept_pair, span_in, layer_half}
use Rattle.problem_builder.proofs.Halves.{bed_fits}
use Rattle.water_conductances.proofs.Pairs.{bed_is}
unfoldable use Rattle.conductance_bounds.specs.{capped_pair}
use Rattle.water_conductances.proofs.faces.vertical_pair.Goals as goal

pub returns : goal.returns
unfolding capped_pair
returns c =
    let m = c.args.model.now in
    let a = c.args.first in
    let t = span_in c.args.beds.now a in
    let x = c.layer_half-a.ensures.is in
    let y = c.layer_half-b.ensures.is ∙ ap (λ k. layer_half m c.args.y (a + k)) c.layer_size.ensures.size in
    let span = c.span_at-span.ensures ∙ bed_is m a t (c.requires.beds.each a (omega (arith, c.requires.branch.within)) c.requires.branch.within c.requires.branch.first c.requires.branch.second) in
    let vkcb = c.dec_at-vkcb.ensures ∙ ap (λ xs. dec_at xs a) c.as_slice.ensures in
    let r = c.delr_at.ensures in
    let d = c.delc_at.ensures in
    c.capped_pair.ensures ∙ ap kept_pair (c.vert_branch.ensures.rounded one one one ∙ (λ i.
    small_pair (vertical_of (x i) (y i) (record { thick_lo = (span i).lo; thick_hi = (span i).hi; vkcb = vkcb i }) (r i) (d i) one one one) c.args.s))

pub layer_half-a-requires-clause-layers : goal.layer_half-a-requires-clause-layers
layer_half-a-requires-clause-layers c = cell_below_means_layers c.args.model.now.grid.layers (layer_size c.args.model.now.grid) c.args.first c.requires.branch.within

pub layer_half-b-requires-clause-layers : goal.layer_half-b-requires-clause-layers
layer_half-b-requires-clause-layers c = cell_below_means_layers c.args.model.now.grid.layers (layer_size c.args.model.now.grid) c.args.first c.requires.branch.within

pub vert_branch-requires-clause-bed : goal.vert_branch-requires-clause-bed
vert_branch-requires-clause-bed c =
    let m = c.args.model.now in
    let a = c.args.first in
    let span = c.span_at-span.ensures in
    let vkcb = c.dec_at-vkcb.ensures ∙ ap (λ xs. dec_at xs a) c.as_slice.ensures in
    let made : Bed = record { thick_lo = c.span_at-span.result.lo; thick_hi = c.span_at-span.result.hi; vkcb = c.dec_at-vkcb.result } in
    let bed : made ≡ record { thick_lo = (span_in c.args.beds.now a).lo; thick_hi = (span_in c.args.beds.now a).hi; vkcb = vkcb_at m a } = λ i.
    record { thick_lo = (span i).lo; thick_hi = (span i).hi; vkcb = vkcb i } in
    let P : Bed → Type 0 = λ z. IsBed z in
    subst P (sym bed) (bed_fits m a (span_in c.args.beds.now a)
    (c.requires.beds.each a (omega (arith, c.requires.branch.within)) c.requires.branch.within c.requires.branch.first c.requires.branch.second))

pub vert_branch-requires-clause-delr : goal.vert_branch-requires-clause-delr
vert_branch-requires-clause-delr c = subst IsPositive (sym c.delr_at.ensures) (delr_positive c.args.model.now c.args.first c.requires.model)

pub vert_branch-requires-clause-delc : goal.vert_branch-requires-clause-delc
vert_branch-requires-clause-delc c = subst IsPositive (sym c.delc_at.ensures) (delc_positive c.args.model.now c.args.first c.requires.model)
