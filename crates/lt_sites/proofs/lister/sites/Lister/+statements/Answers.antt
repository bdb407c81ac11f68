use Rattle.std.proofs.Common.{refl, sym, ap, ◌∙◌, arith}
use Rattle.lt_tree.specs.View.{mark_of}
use Rattle.lt_tree.specs.UnitView.{declaration_of, statement_of, items_in, cases_in}
use Rattle.lt_tree.specs.Nodes.{a_declared_item, a_stated_item, a_marked_item, a_statement, in_items, in_cases}
use Rattle.lt_sites.specs.Sites.{in_node}
use Rattle.lt_sites.specs.Listed.{listed, entries, inside, item_of}
use Rattle.lt_sites.proofs.Grown.{ok_then, left, no_fewer, two, at_end, whole, one_more}
use Rattle.lt_sites.proofs.Nodes.{statement_node}
use Rattle.lt_sites.proofs.UnitRows.{compound_within, switch_within, items_more}
use Rattle.lt_sites.proofs.lister.sites.Lister.+statements.Goals as goal

pub items-items-init : goal.items-items-init
items-items-init t c = at_end (λ xs. in_items (items_in xs)) c.args.list.now _ (entries c.args.self.now) refl refl

pub items-items-preserved : goal.items-items-preserved
items-items-preserved t c =
    one_more (λ xs. in_items (items_in xs)) _ c.args.list.now c.items.at c.index-list-at.result (entries c.args.self.now) (entries c.items.self) (entries c.item.new.self) (omega arith) (omega arith) c.index-list-at.is
    (λ rest. items_more c.index-list-at.result (items_in rest)) c.items.invariant c.in_ok-item.ensures

pub items-returns : goal.items-returns
items-returns t c = whole (λ xs. in_items (items_in xs)) c.args.list.now c.items.at (entries c.args.self.now) (entries c.items.self) c.items-test.false c.items.invariant

pub cases-cases-init : goal.cases-cases-init
cases-cases-init t c = at_end (λ xs. in_cases (cases_in xs)) c.args.list.now _ (entries c.args.self.now) refl refl

pub cases-cases-preserved : goal.cases-cases-preserved
cases-cases-preserved t c =
    one_more (λ xs. in_cases (cases_in xs)) _ c.args.list.now c.cases.at c.index-list-at.result (entries c.args.self.now) (entries c.cases.self) (entries c.case.new.self) (omega arith) (omega arith) c.index-list-at.is
    (λ rest. refl) c.cases.invariant c.in_ok-case.ensures

pub cases-returns : goal.cases-returns
cases-returns t c = whole (λ xs. in_cases (cases_in xs)) c.args.list.now c.cases.at (entries c.args.self.now) (entries c.cases.self) c.cases-test.false c.cases.invariant

pub item-leave-requires : goal.item-leave-requires
item-leave-requires t c = no_fewer _ (entries c.args.self.now) _ _ c.in_ok-declaration-in-Declaration.ensures c.len-start.ensures

pub item-returns-in_ok-declaration-in-Declaration : goal.item-returns-in_ok-declaration-in-Declaration
item-returns-in_ok-declaration-in-Declaration t c =
    ok_then _ _ c.leave.ensures
    (left (a_declared_item (declaration_of c.in-Declaration.declaration)) _ (entries c.args.self.now) _ _ 0 refl c.in_ok-declaration-in-Declaration.ensures c.len-start.ensures refl
    ∙ ap (λ i. listed (in_node (item_of i)) (entries c.args.self.now)) (sym c.in-Declaration.is))

pub item-leave-requires-in-Statement : goal.item-leave-requires-in-Statement
item-leave-requires-in-Statement t c = no_fewer _ (entries c.args.self.now) _ _ c.in_ok-statement-in-Statement.ensures c.len-start.ensures

pub item-returns-in_ok-statement-in-Statement : goal.item-returns-in_ok-statement-in-Statement
item-returns-in_ok-statement-in-Statement t c =
    ok_then _ _ c.leave-in-Statement.ensures
    (left (a_stated_item (statement_of c.in-Statement.x)) _ (entries c.args.self.now) _ _ 0 refl c.in_ok-statement-in-Statement.ensures c.len-start.ensures refl
    ∙ ap (λ i. listed (in_node (item_of i)) (entries c.args.self.now)) (sym c.in-Statement.is))

pub item-leave-requires-in-Mark : goal.item-leave-requires-in-Mark
item-leave-requires-in-Mark t c = no_fewer _ (entries c.args.self.now) _ _ c.in_ok-mark-in-Mark.ensures c.len-start.ensures

pub item-returns-in_ok-mark-in-Mark : goal.item-returns-in_ok-mark-in-Mark
item-returns-in_ok-mark-in-Mark t c =
    ok_then _ _ c.leave-in-Mark.ensures
    (left (a_marked_item (mark_of c.in-Mark.mark)) _ (entries c.args.self.now) _ _ 0 refl c.in_ok-mark-in-Mark.ensures c.len-start.ensures refl
    ∙ ap (λ i. listed (in_node (item_of i)) (entries c.args.self.now)) (sym c.in-Mark.is))

pub statement-leave-requires : goal.statement-leave-requires
statement-leave-requires t c = no_fewer _ (entries c.args.self.now) _ _ c.in_ok-head.ensures.nodes c.len-start.ensures

pub statement-returns : goal.statement-returns
statement-returns t c =
    let x = statement_of c.args.x.now in
    ok_then _ _ c.leave.ensures (left (a_statement x) (inside (a_statement x)) (entries c.args.self.now) _ _ _ (statement_node x) c.in_ok-head.ensures.nodes c.len-start.ensures c.in_ok-head.ensures.head)

pub statement_parts-returns-in_ok-items-in-Compound-clause-nodes : goal.statement_parts-returns-in_ok-items-in-Compound-clause-nodes
statement_parts-returns-in_ok-items-in-Compound-clause-nodes t c =
    c.in_ok-items-in-Compound.ensures ∙ ap (λ ns. listed ns (entries c.args.self.now)) (compound_within c.args.x.now c.in-Compound.list _ c.in-Compound.is c.as_slice.ensures.value)

pub statement_parts-returns-in_ok-expression-in-Switch-clause-nodes : goal.statement_parts-returns-in_ok-expression-in-Switch-clause-nodes
statement_parts-returns-in_ok-expression-in-Switch-clause-nodes t c =
    c.in_ok-expression-in-Switch.ensures
    ∙ two _ _ _ _ c.in_ok-cases-in-Switch.ensures ∙ ap (λ ns. listed ns (entries c.args.self.now)) (switch_within c.args.x.now c.in-Switch.operand c.in-Switch.list _ c.in-Switch.is c.as_slice-in-Switch.ensures.value)
