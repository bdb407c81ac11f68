use Rattle.std.proofs.Common.{◌+◌, ◌∷◌, [], map, drop, refl, ap, ◌∙◌}
use Rattle.std.proofs.lemmas.List.{drop_all}
use Rattle.lt_tree.specs.UnitView as source
use Rattle.lt_tree.specs.Typing.StatementView as view
use Rattle.lt_tree.specs.Typing.Steps.{goes_on, gives}
use Rattle.lt_tree.specs.Typing.StatementTyping as typing
use Rattle.lt_env.proofs.Goings.{longer_still}
use Rattle.lt_type.proofs.Sequences.{stopped}
use Rattle.lt_type.proofs.Turns.{lacks_memory, turns_on, turns_stop, turns_end, opened, collected}
use Rattle.lt_unit.proofs.CaseTurns.{turns_so, label_first, labelled_before, labels_more, all_labels}
use Rattle.lt_unit.proofs.cases.labels.Goals as goal

pub list-init : goal.list-init
list-init c =
    turns_so (λ types k. refl) (λ types others k. ap (λ l. gives (labelled_before (map view.label_of l) others) k) c.new-all.ensures.items)

pub returns-in_err-made : goal.returns-in_err-made
returns-in_err-made c =
    turns_stop (λ types one k. goes_on (typing.labels (map source.label_of (drop (c.list.one-index + 1) c.args.list.now)) c.args.ty one.seen k) (λ others. gives (labelled_before one.labels others))) c.list.invariant
    (λ types k. ap (λ l. typing.labels (map source.label_of l) c.args.ty c.list.seen k) (opened c.args.list.now c.list.one-index c.one-item.result c.list-test.true c.one-item.is)
    ∙ label_first (source.label_of c.one-item.result) (map source.label_of (drop (c.list.one-index + 1) c.args.list.now)) c.args.ty c.list.seen k)
    c.in_err-made.ensures (stopped c.from_residual.ensures)

pub returns-in_err-push : goal.returns-in_err-push
returns-in_err-push c =
    lacks_memory (longer_still _ _ _ c.list.invariant.grows c.in_ok-made.ensures.grows) (stopped c.from_residual-in_err-push.ensures)

pub list-preserved : goal.list-preserved
list-preserved c =
    turns_on (λ types one k. goes_on (typing.labels (map source.label_of (drop (c.list.one-index + 1) c.args.list.now)) c.args.ty one.seen k) (λ others. gives (labelled_before one.labels others))) c.list.invariant
    (λ types k. ap (λ l. typing.labels (map source.label_of l) c.args.ty c.list.seen k) (opened c.args.list.now c.list.one-index c.one-item.result c.list-test.true c.one-item.is)
    ∙ label_first (source.label_of c.one-item.result) (map source.label_of (drop (c.list.one-index + 1) c.args.list.now)) c.args.ty c.list.seen k)
    c.in_ok-made.ensures
    (λ types k. collected (typing.labels (map source.label_of (drop (c.list.one-index + 1) c.args.list.now)) c.args.ty c.label.new.seen k) (labelled_before (view.label_of c.in_ok-made.made ∷ [])) (labelled_before (map view.label_of c.list.all.items)) (labelled_before (map view.label_of c.push.new.self.items))
    (λ others. labels_more view.label_of c.list.all.items c.push.new.self.items c.in_ok-made.made others c.in_ok-push.ensures.items))

pub returns : goal.returns
returns c =
    turns_end c.list.invariant (λ types k.
    ap (λ l. goes_on (typing.labels (map source.label_of l) c.args.ty c.list.seen k) (λ others. gives (labelled_before (map view.label_of c.list.all.items) others))) (drop_all c.list.one-index c.args.list.now c.list-test.false)
    ∙ ap (λ o. gives o k) (all_labels (map view.label_of c.list.all.items) c.list.seen))
