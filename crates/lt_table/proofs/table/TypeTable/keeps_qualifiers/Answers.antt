use Rattle.std.proofs.Common.{Bool, sym, ap, subst, ◌∙◌}
use Rattle.lt_tree.specs.View as view
use Rattle.lt_tree.specs.Typing.Types.{CType, include, own_qualifiers}
use Rattle.lt_tree.specs.Typing.TypeRows.{type_in}
use Rattle.lt_table.specs.TablePointers.{BothPointTo}
use Rattle.lt_table.proofs.table.TypeTable.keeps_qualifiers.Goals as goal

keep : CType → CType → Bool
keep a b = include (own_qualifiers a) (own_qualifiers b)

pub returns-in_ok-q-in-Some-clause-value : goal.returns-in_ok-q-in-Some-clause-value
unfolding keep
returns-in_ok-q-in-Some-clause-value c = λ longer more.
    let there = subst (BothPointTo c.args.self.now c.args.t c.args.u) c.in-Some.is c.in_ok-a.ensures.targets in
    c.include.ensures ∙ ap (λ p. include p (view.qualifiers_of c.in_ok-q-in-Some.q)) (c.in_ok-p-in-Some.ensures.value longer more)
    ∙ ap (include (own_qualifiers (type_in longer c.in-Some.a))) (c.in_ok-q-in-Some.ensures.value longer more) ∙ sym (there.2 keep longer more)

pub returns-in-None-clause-value : goal.returns-in-None-clause-value
unfolding keep
returns-in-None-clause-value c = λ longer more.
    sym (subst (BothPointTo c.args.self.now c.args.t c.args.u) c.in-None.is c.in_ok-a.ensures.targets keep longer more)
