use Rattle.std.proofs.Common.{Err, ◌+◌, ◌++◌, map, drop, refl, ap, ◌∙◌}
use Rattle.std.proofs.lemmas.List.{drop_all}
use Rattle.lt_tree.specs.UnitView as source
use Rattle.lt_tree.specs.Typing.Steps.{Goes, goes_on, gives}
use Rattle.lt_tree.specs.Typing.StatementView.{local_of}
use Rattle.lt_tree.specs.Typing.DeclarationTyping as typing
use Rattle.lt_declare.specs.DeclaredViews.{specified_of}
use Rattle.lt_env.proofs.Goings.{longer_still}
use Rattle.lt_type.proofs.Sequences.{stopped}
use Rattle.lt_type.proofs.Turns.{turns_start, turns_on, turns_stop, turns_end, lacks_memory, opened, collected, all_alone}
use Rattle.lt_unit.specs.UnitViews.{locals_of, local_in, with_storage}
use Rattle.lt_unit.proofs.Declarations.{locals_more}
use Rattle.lt_unit.proofs.declaration.init_declarators.Goals as goal

pub more-init : goal.more-init
more-init c = turns_start (λ types a k. ap (λ l. gives (locals_of types l ++ a) k) c.new-all.ensures.items)

pub returns-in_err-local : goal.returns-in_err-local
returns-in_err-local c =
    turns_stop (λ types v known. goes_on (typing.init_declarators (with_storage c.args.class (specified_of types c.args.it.now)) (map source.init_declarator_of (drop (c.more.d-index + 1) c.args.list.now)) known) (λ rest. gives (v ++ rest))) c.more.invariant
    (λ types k. ap (λ l. typing.init_declarators (with_storage c.args.class (specified_of types c.args.it.now)) (map source.init_declarator_of l) k) (opened c.args.list.now c.more.d-index c.d-item.result c.more-test.true c.d-item.is))
    c.in_err-local.ensures (stopped c.from_residual.ensures)

pub returns-in_err-with_local : goal.returns-in_err-with_local
returns-in_err-with_local c =
    lacks_memory (longer_still _ _ _ c.more.invariant.grows c.in_ok-local.ensures.grows) (stopped c.from_residual-in_err-with_local.ensures ∙ ap Err c.in_err-with_local.ensures.stops)

pub more-preserved : goal.more-preserved
more-preserved c =
    turns_on (λ types v known. goes_on (typing.init_declarators (with_storage c.args.class (specified_of types c.args.it.now)) (map source.init_declarator_of (drop (c.more.d-index + 1) c.args.list.now)) known) (λ rest. gives (v ++ rest))) c.more.invariant
    (λ types k. ap (λ l. typing.init_declarators (with_storage c.args.class (specified_of types c.args.it.now)) (map source.init_declarator_of l) k) (opened c.args.list.now c.more.d-index c.d-item.result c.more-test.true c.d-item.is))
    c.in_ok-local.ensures
    (λ types k. collected (typing.init_declarators (with_storage c.args.class (specified_of types c.args.it.now)) (map source.init_declarator_of (drop (c.more.d-index + 1) c.args.list.now)) k) (λ rest. local_in types c.in_ok-local.local ++ rest) (λ t. locals_of types c.more.all.items ++ t) (λ t. locals_of types c.with_local.new.all.items ++ t)
    (λ t. locals_more _ _ _ t (c.in_ok-with_local.ensures.added types)))

pub returns : goal.returns
returns c =
    turns_end c.more.invariant (λ types k.
    ap (λ l. goes_on (typing.init_declarators (with_storage c.args.class (specified_of types c.args.it.now)) (map source.init_declarator_of l) k) (λ xs. gives (locals_of types c.more.all.items ++ xs))) (drop_all c.more.d-index c.args.list.now c.more-test.false)
    ∙ ap (λ l. Goes l k) (all_alone (local_of types) c.more.all.items))
