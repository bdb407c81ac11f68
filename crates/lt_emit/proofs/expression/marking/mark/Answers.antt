use Rattle.std.proofs.Common.{◌≡◌, ℕ, true, length, ap, subst, ◌∙◌}
use Rattle.lt_tree.specs.Typing.ValueView.{value_of, bindings_in}
use Rattle.lt_code.specs.Predicates.{pure_in, pures_bound}
use Rattle.lt_emit.specs.Emission.{here_of, counts_at, site_in}
use Rattle.lt_emit.specs.Known.{IsMarked}
use Rattle.lt_emit.specs.Names.{names_at}
use Rattle.lt_emit.proofs.Spent.{within_here, fitting}
use Rattle.lt_emit.proofs.MarkRows.{mark_is, mark_stands}
use Rattle.lt_ir.specs.Ranges.{is_lookable, is_variable}
use Rattle.lt_emit.proofs.Variables.{variable_in}
use Rattle.lt_emit.proofs.Lookable.{pure_lookable, bound_lookable}
use Rattle.lt_emit.proofs.expression.marking.mark.Goals as goal

pub returns-clause-enters : goal.returns-clause-enters
returns-clause-enters c known =
    let here = here_of c.args.b.now in
    c.label_mark.ensures.enters (_, subst (IsMarked here) (mark_is here.types c.args.m.now) known)

pub returns-clause-code : goal.returns-clause-code
returns-clause-code c =
    within_here c.label_mark.ensures.code (λ from it p.
    let here = here_of c.args.b.now in
    let names = (site_in here it).names in
    mark_stands here it c.args.m.now c.in_ok-predicate.predicate c.in_ok-bound.bound.items from c.args.to
    (c.in_ok-predicate.ensures ∙ ap (λ v. pure_in names (value_of here.types v)) c.deref.ensures)
    (c.in_ok-bound.ensures ∙ ap (λ row. pures_bound names (bindings_in here.types row)) c.as_slice.ensures.value) p) (grind fitting)

-- the variables of its expressions are there
pub label_mark-requires-clause-there : goal.label_mark-requires-clause-there
label_mark-requires-clause-there c =
    let b = c.args.b.now in
    let names = names_at b.site.now in
    let there : (k : ℕ) → is_variable (counts_at b) (names.variable k) ≡ true =
    λ k. variable_in (here_of b) (length b.nodes.items) (length b.structs.items) b.registers k in (
      ap (is_lookable (counts_at b)) c.in_ok-predicate.ensures ∙ pure_lookable (counts_at b) names there (value_of (here_of b).types c.deref.result.now),
      bound_lookable (counts_at b) names there c.in_ok-bound.bound.items (bindings_in (here_of b).types c.as_slice.result.now) c.in_ok-bound.ensures,
    )
