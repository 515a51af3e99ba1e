use Rattle.problem_builder.proofs.Common.{capped_pair, small_pair, ◌≡◌, ◌+◌, ap, sym, subst, arith, ◌∙◌, IsBed, vertical_of, layer_size, dec_at, thickness, bed_thickness, vkcb_at, IsPositive, span_in}
use Rattle.problem_builder.proofs.Common.{layer_half, cell_below_means_layers, delr_positive, delc_positive}
use Rattle.conductance_bounds.specs.declared.vertical.Bed.{Bed}
use Rattle.problem_builder.proofs.{Halves.bed_tests, Halves.bed_fits, Fits.kept_pair}
use Rattle.problem_builder.proofs.faces.vertical_pair.Goals as goal

pub returns : goal.returns
unfolding capped_pair
returns c =
    let m = c.args.model.now in
    let a = c.args.first in
    let b = a + layer_size m.grid in
    let t = span_in c.args.beds.now a in
    let x = c.vert_half-a.ensures.is in
    let y = c.vert_half-b.ensures.is ∙ ap (λ k. layer_half m (a + k)) c.layer_size.ensures.size in
    let span = c.span_at-span.ensures in
    let vkcb = c.dec_at-vkcb.ensures ∙ ap (λ xs. dec_at xs a) c.as_slice.ensures in
    let r = c.delr_at.ensures in
    let d = c.delc_at.ensures in
    let plain = (λ q. vertical_of (x q) (y q) (record { thick_lo = (span q).lo; thick_hi = (span q).hi; vkcb = vkcb q }) (r q) (d q) (thickness m a) (thickness m b) (bed_thickness m a))
    ∙ bed_tests m a t (c.requires.beds.each a (omega (arith, c.requires.branch.within)) c.requires.branch.within c.requires.branch.first c.requires.branch.second) in
    c.capped_pair.ensures ∙ ap kept_pair (c.vert_branch.ensures.rounded (thickness m a) (thickness m b) (bed_thickness m a) ∙ ap (λ z. small_pair z c.args.s) plain)

pub vert_half-a-requires-clause-layers : goal.vert_half-a-requires-clause-layers
vert_half-a-requires-clause-layers c = cell_below_means_layers c.args.model.now.grid.layers (layer_size c.args.model.now.grid) c.args.first c.requires.branch.within

pub vert_half-b-requires-clause-layers : goal.vert_half-b-requires-clause-layers
vert_half-b-requires-clause-layers c = cell_below_means_layers c.args.model.now.grid.layers (layer_size c.args.model.now.grid) c.args.first c.requires.branch.within

pub vert_branch-requires-clause-bed : goal.vert_branch-requires-clause-bed
vert_branch-requires-clause-bed c =
    let m = c.args.model.now in
    let a = c.args.first in
    let span = c.span_at-span.ensures in
    let vkcb = c.dec_at-vkcb.ensures ∙ ap (λ xs. dec_at xs a) c.as_slice.ensures in
    let made : Bed = record { thick_lo = c.span_at-span.result.lo; thick_hi = c.span_at-span.result.hi; vkcb = c.dec_at-vkcb.result } in
    let bed : made ≡ record { thick_lo = (span_in c.args.beds.now a).lo; thick_hi = (span_in c.args.beds.now a).hi; vkcb = vkcb_at m a } = λ t.
    record { thick_lo = (span t).lo; thick_hi = (span t).hi; vkcb = vkcb t } in
    let P : Bed → Type 0 = λ z. IsBed z in
    subst P (sym bed) (bed_fits m a (span_in c.args.beds.now a)
    (c.requires.beds.each a (omega (arith, c.requires.branch.within)) c.requires.branch.within c.requires.branch.first c.requires.branch.second))

pub vert_branch-requires-clause-delr : goal.vert_branch-requires-clause-delr
vert_branch-requires-clause-delr c = subst IsPositive (sym c.delr_at.ensures) (delr_positive c.args.model.now c.args.first c.requires.model)

pub vert_branch-requires-clause-delc : goal.vert_branch-requires-clause-delc
vert_branch-requires-clause-delc c = subst IsPositive (sym c.delc_at.ensures) (delc_positive c.args.model.now c.args.first c.requires.model)
