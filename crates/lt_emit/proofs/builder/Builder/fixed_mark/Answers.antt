use Rattle.std.specs.List.{list_all}
use Rattle.std.proofs.Common.{◌≡◌, true, refl, sym, ap, List, [], Some, slice_get, subst}
use Rattle.lt_ir.specs.declared.pure.Pure.{Pure}
use Rattle.lt_ir.specs.declared.node.Node.TheVariants as node
use Rattle.lt_ir.specs.PureView.{pure_of}
use Rattle.lt_ir.specs.Ranges.{is_lookable}
use Rattle.lt_emit.specs.Emission.{counts_at}
use Rattle.lt_emit.proofs.Spent.{within, fitting}
use Rattle.lt_emit.proofs.builder.Builder.fixed_mark.Goals as goal

pub returns : goal.returns
returns c =
    within c.label_mark.ensures.code (λ from here it p known.
    let made = p [] known in
    let Is : List Pure → Type 0 =
    λ qs. slice_get it.nodes (it.point from) ≡ Some (node.Mark made.0 c.truth.result qs (it.point c.args.to)) in
    (made.0, _, made.1, c.truth.ensures, subst Is c.new.ensures.items made.2)) (λ here. grind fitting)

pub label_mark-requires-clause-there : goal.label_mark-requires-clause-there
label_mark-requires-clause-there c =
    let b = c.args.self.now in
    let Are : List Pure → Type 0 = λ qs. list_all (λ q. is_lookable (counts_at b) (pure_of q)) qs ≡ true in
    (ap (is_lookable (counts_at b)) c.truth.ensures, subst Are (sym c.new.ensures.items) refl)
