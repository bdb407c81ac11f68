use Rattle.std.proofs.Common.{◌+◌, false, Err, [], ◌∷◌, map, option_map, drop, refl, sym, ap, ◌∙◌}
use Rattle.std.proofs.lemmas.List.{drop_all}
use Rattle.lt_tree.specs.View.{expression_of}
use Rattle.lt_tree.specs.UnitView.{declaration_of, statement_of, start_of, items_in, cases_in, label_of}
use Rattle.lt_tree.specs.Typing.TypedTree as e
use Rattle.lt_tree.specs.Typing.StatementView as view
use Rattle.lt_tree.specs.Typing.Steps.{◌>>=◌, ◌>>◌, goes_on, gives, in_block, settle}
use Rattle.lt_tree.specs.Typing.Expressions.{as_truth}
use Rattle.lt_tree.specs.Typing.ExpressionTyping as expressions
use Rattle.lt_tree.specs.Typing.StatementTyping as typing
use Rattle.lt_env.specs.Going.{answering}
use Rattle.lt_env.proofs.Goings.{longer_still, as_long}
use Rattle.lt_type.proofs.Sequences.{gives_entered, gives_then, gives_stops, gives_so, gives_in_block, stops_in_block, stopped}
use Rattle.lt_type.proofs.Turns.{lacks_memory, turns_start, turns_on, turns_stop, turns_end, opened, collected, before, before_more}
use Rattle.lt_unit.specs.Inside as inside
use Rattle.lt_unit.specs.SwitchHeads as heads
use Rattle.lt_unit.specs.CaseParts.{case_made}
use Rattle.lt_unit.specs.ItemParts.{joined}
use Rattle.lt_unit.specs.UnitViews.{around_of, statement_in}
use Rattle.lt_unit.proofs.Lasting.{gives_it}
use Rattle.lt_unit.proofs.LeftOut.{test_walk, value_walk}
use Rattle.lt_unit.proofs.HeldLists.{compound_seen, switch_seen}
use Rattle.lt_unit.proofs.ItemTurns.{item_first, one_declaration, items_more, all_items}
use Rattle.lt_unit.proofs.CaseTurns.{turns_so, case_first, case_before, all_cases}
use Rattle.lt_unit.proofs.+statements.Goals as goal

pub statement::in_its_block-returns-in_err-open : goal.statement::in_its_block-returns-in_err-open
statement::in_its_block-returns-in_err-open t c =
    lacks_memory (rw c.open.ensures.types (as_long _)) (stopped c.from_residual.ensures ∙ ap Err c.in_err-open.ensures.stops)

pub statement::in_its_block-returns-in_err-made : goal.statement::in_its_block-returns-in_err-made
statement::in_its_block-returns-in_err-made t c =
    stops_in_block c.new.result c.new.ensures c.in_ok-open.ensures.opened c.in_err-made.ensures (stopped c.from_residual-in_err-made.ensures)

pub statement::in_its_block-returns : goal.statement::in_its_block-returns
statement::in_its_block-returns t c =
    gives_in_block c.new.result c.new.ensures c.in_ok-open.ensures.opened c.in_ok-made.ensures c.close-frame.ensures.closed

pub statement::if_alone-returns-in_err-open : goal.statement::if_alone-returns-in_err-open
statement::if_alone-returns-in_err-open t c =
    lacks_memory (rw (c.open.ensures.types, c.in_ok-node.ensures.entered) (as_long _)) (stopped c.from_residual-in_err-open.ensures ∙ ap Err c.in_err-open.ensures.stops)

pub statement::if_alone-returns-in_err-made : goal.statement::if_alone-returns-in_err-made
statement::if_alone-returns-in_err-made t c =
    gives_entered (λ types node. in_block (inside.if_inside node (expression_of c.args.test.now) (statement_of c.args.body.now) (around_of types c.args.around)))
    c.in_ok-node.ensures.entered c.in_ok-node.ensures.node (
    stops_in_block c.new.result c.new.ensures c.in_ok-open.ensures.opened c.in_err-made.ensures (stopped c.from_residual-in_err-made.ensures))

pub statement::if_alone-returns : goal.statement::if_alone-returns
statement::if_alone-returns t c =
    gives_entered (λ types node. in_block (inside.if_inside node (expression_of c.args.test.now) (statement_of c.args.body.now) (around_of types c.args.around)))
    c.in_ok-node.ensures.entered c.in_ok-node.ensures.node (
    gives_in_block c.new.result c.new.ensures c.in_ok-open.ensures.opened c.in_ok-made.ensures c.close-frame.ensures.closed)

pub statement::if_else-returns-in_err-open : goal.statement::if_else-returns-in_err-open
statement::if_else-returns-in_err-open t c =
    lacks_memory (rw (c.open.ensures.types, c.in_ok-node.ensures.entered) (as_long _)) (stopped c.from_residual-in_err-open.ensures ∙ ap Err c.in_err-open.ensures.stops)

pub statement::if_else-returns-in_err-made : goal.statement::if_else-returns-in_err-made
statement::if_else-returns-in_err-made t c =
    gives_entered (λ types node. in_block (inside.if_else_inside node (expression_of c.args.test.now) (statement_of c.args.body.now) (statement_of c.args.other.now) (around_of types c.args.around)))
    c.in_ok-node.ensures.entered c.in_ok-node.ensures.node (
    stops_in_block c.new.result c.new.ensures c.in_ok-open.ensures.opened c.in_err-made.ensures (stopped c.from_residual-in_err-made.ensures))

pub statement::if_else-returns : goal.statement::if_else-returns
statement::if_else-returns t c =
    gives_entered (λ types node. in_block (inside.if_else_inside node (expression_of c.args.test.now) (statement_of c.args.body.now) (statement_of c.args.other.now) (around_of types c.args.around)))
    c.in_ok-node.ensures.entered c.in_ok-node.ensures.node (
    gives_in_block c.new.result c.new.ensures c.in_ok-open.ensures.opened c.in_ok-made.ensures c.close-frame.ensures.closed)

pub statement::while_loop-returns-in_err-open : goal.statement::while_loop-returns-in_err-open
statement::while_loop-returns-in_err-open t c =
    lacks_memory (rw (c.open.ensures.types, c.in_ok-node.ensures.entered) (as_long _)) (stopped c.from_residual-in_err-open.ensures ∙ ap Err c.in_err-open.ensures.stops)

pub statement::while_loop-returns-in_err-made : goal.statement::while_loop-returns-in_err-made
statement::while_loop-returns-in_err-made t c =
    gives_entered (λ types node. in_block (inside.while_inside node (expression_of c.args.test.now) (statement_of c.args.body.now) (around_of types c.args.around)))
    c.in_ok-node.ensures.entered c.in_ok-node.ensures.node (
    stops_in_block c.new.result c.new.ensures c.in_ok-open.ensures.opened c.in_err-made.ensures (stopped c.from_residual-in_err-made.ensures))

pub statement::while_loop-returns : goal.statement::while_loop-returns
statement::while_loop-returns t c =
    gives_entered (λ types node. in_block (inside.while_inside node (expression_of c.args.test.now) (statement_of c.args.body.now) (around_of types c.args.around)))
    c.in_ok-node.ensures.entered c.in_ok-node.ensures.node (
    gives_in_block c.new.result c.new.ensures c.in_ok-open.ensures.opened c.in_ok-made.ensures c.close-frame.ensures.closed)

pub statement::do_loop-returns-in_err-open : goal.statement::do_loop-returns-in_err-open
statement::do_loop-returns-in_err-open t c =
    lacks_memory (rw (c.open.ensures.types, c.in_ok-node.ensures.entered) (as_long _)) (stopped c.from_residual-in_err-open.ensures ∙ ap Err c.in_err-open.ensures.stops)

pub statement::do_loop-returns-in_err-made : goal.statement::do_loop-returns-in_err-made
statement::do_loop-returns-in_err-made t c =
    gives_entered (λ types node. in_block (inside.do_inside node (statement_of c.args.body.now) (expression_of c.args.test.now) (around_of types c.args.around)))
    c.in_ok-node.ensures.entered c.in_ok-node.ensures.node (
    stops_in_block c.new.result c.new.ensures c.in_ok-open.ensures.opened c.in_err-made.ensures (stopped c.from_residual-in_err-made.ensures))

pub statement::do_loop-returns : goal.statement::do_loop-returns
statement::do_loop-returns t c =
    gives_entered (λ types node. in_block (inside.do_inside node (statement_of c.args.body.now) (expression_of c.args.test.now) (around_of types c.args.around)))
    c.in_ok-node.ensures.entered c.in_ok-node.ensures.node (
    gives_in_block c.new.result c.new.ensures c.in_ok-open.ensures.opened c.in_ok-made.ensures c.close-frame.ensures.closed)

pub statement::for_loop-returns-in_err-open : goal.statement::for_loop-returns-in_err-open
statement::for_loop-returns-in_err-open t c =
    lacks_memory (rw (c.open.ensures.types, c.in_ok-node.ensures.entered) (as_long _)) (stopped c.from_residual-in_err-open.ensures ∙ ap Err c.in_err-open.ensures.stops)

pub statement::for_loop-returns-in_err-made : goal.statement::for_loop-returns-in_err-made
statement::for_loop-returns-in_err-made t c =
    gives_entered (λ types node. in_block (inside.for_inside node (start_of c.args.start.now) (option_map expression_of c.args.test.now) (option_map expression_of c.args.step.now) (statement_of c.args.body.now) (around_of types c.args.around)))
    c.in_ok-node.ensures.entered c.in_ok-node.ensures.node (
    stops_in_block c.new.result c.new.ensures c.in_ok-open.ensures.opened c.in_err-made.ensures (stopped c.from_residual-in_err-made.ensures))

pub statement::for_loop-returns : goal.statement::for_loop-returns
statement::for_loop-returns t c =
    gives_entered (λ types node. in_block (inside.for_inside node (start_of c.args.start.now) (option_map expression_of c.args.test.now) (option_map expression_of c.args.step.now) (statement_of c.args.body.now) (around_of types c.args.around)))
    c.in_ok-node.ensures.entered c.in_ok-node.ensures.node (
    gives_in_block c.new.result c.new.ensures c.in_ok-open.ensures.opened c.in_ok-made.ensures c.close-frame.ensures.closed)

pub statement::switch-returns-in_err-open : goal.statement::switch-returns-in_err-open
statement::switch-returns-in_err-open t c =
    lacks_memory (rw (c.open.ensures.types, c.in_ok-node.ensures.entered) (as_long _)) (stopped c.from_residual-in_err-open.ensures ∙ ap Err c.in_err-open.ensures.stops)

pub statement::switch-returns-in_err-made : goal.statement::switch-returns-in_err-made
statement::switch-returns-in_err-made t c =
    gives_entered (λ types node. in_block (inside.switch_inside node (expression_of c.args.operand.now) (cases_in c.args.list.now) (around_of types c.args.around)))
    c.in_ok-node.ensures.entered c.in_ok-node.ensures.node (
    stops_in_block c.new.result c.new.ensures c.in_ok-open.ensures.opened c.in_err-made.ensures (stopped c.from_residual-in_err-made.ensures))

pub statement::switch-returns : goal.statement::switch-returns
statement::switch-returns t c =
    gives_entered (λ types node. in_block (inside.switch_inside node (expression_of c.args.operand.now) (cases_in c.args.list.now) (around_of types c.args.around)))
    c.in_ok-node.ensures.entered c.in_ok-node.ensures.node (
    gives_in_block c.new.result c.new.ensures c.in_ok-open.ensures.opened c.in_ok-made.ensures c.close-frame.ensures.closed)

pub statement::compound-returns-in_err-open : goal.statement::compound-returns-in_err-open
statement::compound-returns-in_err-open t c =
    lacks_memory (rw (c.open.ensures.types, c.in_ok-_node.ensures.entered) (as_long _)) (stopped c.from_residual-in_err-open.ensures ∙ ap Err c.in_err-open.ensures.stops)

pub statement::compound-returns-in_err-made : goal.statement::compound-returns-in_err-made
statement::compound-returns-in_err-made t c =
    gives_entered (λ types node. in_block (typing.items (items_in c.args.list.now) (around_of types c.args.around)) >>= (λ l. gives (e.Compound l)))
    c.in_ok-_node.ensures.entered c.in_ok-_node.ensures.node (
    gives_stops _ (stops_in_block c.new.result c.new.ensures c.in_ok-open.ensures.opened c.in_err-made.ensures refl) (stopped c.from_residual-in_err-made.ensures))

pub statement::compound-returns-in_err-all : goal.statement::compound-returns-in_err-all
statement::compound-returns-in_err-all t c =
    gives_entered (λ types node. in_block (typing.items (items_in c.args.list.now) (around_of types c.args.around)) >>= (λ l. gives (e.Compound l)))
    c.in_ok-_node.ensures.entered c.in_ok-_node.ensures.node (
    gives_then _ (gives_in_block c.new.result c.new.ensures c.in_ok-open.ensures.opened c.in_ok-made.ensures c.close-frame.ensures.closed) (lacks_memory (as_long _) (stopped c.from_residual-in_err-all.ensures)))

pub statement::compound-returns : goal.statement::compound-returns
statement::compound-returns t c =
    gives_entered (λ types node. in_block (typing.items (items_in c.args.list.now) (around_of types c.args.around)) >>= (λ l. gives (e.Compound l)))
    c.in_ok-_node.ensures.entered c.in_ok-_node.ensures.node (
    gives_then _ (gives_in_block c.new.result c.new.ensures c.in_ok-open.ensures.opened c.in_ok-made.ensures c.close-frame.ensures.closed)
    (gives_it (λ types. e.Compound (view.items_in types c.in_ok-made.made.items)) (λ types. ap (view.statement_of types) c.in_ok-all.ensures ∙ c.compound.ensures types)))

pub statement::if_inside-returns-in_err-first : goal.statement::if_inside-returns-in_err-first
statement::if_inside-returns-in_err-first t c =
    gives_then (λ types x. in_block (typing.statement (statement_of c.args.body.now) (around_of types c.args.around)) >>= (λ first. inside.if_end c.args.node x first)) c.in_ok-x.ensures (
    gives_stops _ c.in_err-first.ensures (stopped c.from_residual-in_err-first.ensures))

pub statement::if_inside-returns : goal.statement::if_inside-returns
statement::if_inside-returns t c =
    gives_then (λ types x. in_block (typing.statement (statement_of c.args.body.now) (around_of types c.args.around)) >>= (λ first. inside.if_end c.args.node x first)) c.in_ok-x.ensures (
    gives_then _ c.in_ok-first.ensures (
    c.if_end.ensures))

pub statement::if_else_inside-returns-in_err-first : goal.statement::if_else_inside-returns-in_err-first
statement::if_else_inside-returns-in_err-first t c =
    gives_then (λ types x. in_block (typing.statement (statement_of c.args.body.now) (around_of types c.args.around)) >>= (λ first. in_block (typing.statement (statement_of c.args.other.now) (around_of types c.args.around)) >>= (λ second. inside.if_else_end c.args.node x first second))) c.in_ok-x.ensures (
    gives_stops _ c.in_err-first.ensures (stopped c.from_residual-in_err-first.ensures))

pub statement::if_else_inside-returns-in_err-second : goal.statement::if_else_inside-returns-in_err-second
statement::if_else_inside-returns-in_err-second t c =
    gives_then (λ types x. in_block (typing.statement (statement_of c.args.body.now) (around_of types c.args.around)) >>= (λ first. in_block (typing.statement (statement_of c.args.other.now) (around_of types c.args.around)) >>= (λ second. inside.if_else_end c.args.node x first second))) c.in_ok-x.ensures (
    gives_then _ c.in_ok-first.ensures (
    gives_stops _ c.in_err-second.ensures (stopped c.from_residual-in_err-second.ensures)))

pub statement::if_else_inside-returns : goal.statement::if_else_inside-returns
statement::if_else_inside-returns t c =
    gives_then (λ types x. in_block (typing.statement (statement_of c.args.body.now) (around_of types c.args.around)) >>= (λ first. in_block (typing.statement (statement_of c.args.other.now) (around_of types c.args.around)) >>= (λ second. inside.if_else_end c.args.node x first second))) c.in_ok-x.ensures (
    gives_then _ c.in_ok-first.ensures (
    gives_then _ c.in_ok-second.ensures (
    c.if_else_end.ensures)))

pub statement::while_inside-returns-in_err-first : goal.statement::while_inside-returns-in_err-first
statement::while_inside-returns-in_err-first t c =
    gives_then (λ types x. in_block (typing.statement (statement_of c.args.body.now) (typing.in_a_loop (around_of types c.args.around))) >>= (λ first. inside.while_end c.args.node x first)) c.in_ok-x.ensures (
    gives_stops _ (gives_so (λ types k. ap (λ a. in_block (typing.statement (statement_of c.args.body.now) a) k) (c.in_a_loop.ensures types)) c.in_err-first.ensures) (stopped c.from_residual-in_err-first.ensures))

pub statement::while_inside-returns : goal.statement::while_inside-returns
statement::while_inside-returns t c =
    gives_then (λ types x. in_block (typing.statement (statement_of c.args.body.now) (typing.in_a_loop (around_of types c.args.around))) >>= (λ first. inside.while_end c.args.node x first)) c.in_ok-x.ensures (
    gives_then _ (gives_so (λ types k. ap (λ a. in_block (typing.statement (statement_of c.args.body.now) a) k) (c.in_a_loop.ensures types)) c.in_ok-first.ensures) (
    c.while_end.ensures))

pub statement::do_inside-returns-in_err-first : goal.statement::do_inside-returns-in_err-first
statement::do_inside-returns-in_err-first t c =
    gives_stops (λ types first. expressions.expression (expression_of c.args.test.now) as_truth >>= (λ x. inside.do_end c.args.node first x)) (gives_so (λ types k. ap (λ a. in_block (typing.statement (statement_of c.args.body.now) a) k) (c.in_a_loop.ensures types)) c.in_err-first.ensures) (stopped c.from_residual.ensures)

pub statement::do_inside-returns-in_err-x : goal.statement::do_inside-returns-in_err-x
statement::do_inside-returns-in_err-x t c =
    gives_then (λ types first. expressions.expression (expression_of c.args.test.now) as_truth >>= (λ x. inside.do_end c.args.node first x)) (gives_so (λ types k. ap (λ a. in_block (typing.statement (statement_of c.args.body.now) a) k) (c.in_a_loop.ensures types)) c.in_ok-first.ensures) (
    gives_stops _ c.in_err-x.ensures (stopped c.from_residual-in_err-x.ensures))

pub statement::do_inside-returns : goal.statement::do_inside-returns
statement::do_inside-returns t c =
    gives_then (λ types first. expressions.expression (expression_of c.args.test.now) as_truth >>= (λ x. inside.do_end c.args.node first x)) (gives_so (λ types k. ap (λ a. in_block (typing.statement (statement_of c.args.body.now) a) k) (c.in_a_loop.ensures types)) c.in_ok-first.ensures) (
    gives_then _ c.in_ok-x.ensures (
    c.do_end.ensures))

pub statement::for_inside-returns-in_err-x : goal.statement::for_inside-returns-in_err-x
statement::for_inside-returns-in_err-x t c =
    gives_then (λ types begin. typing.optional_test (option_map expression_of c.args.test.now) >>= (λ x. typing.optional_expression (option_map expression_of c.args.step.now) >>= (λ y. in_block (typing.statement (statement_of c.args.body.now) (typing.in_a_loop (around_of types c.args.around))) >>= (λ first. inside.for_end c.args.node begin x y first)))) c.in_ok-begin.ensures (
    gives_stops _ (gives_so (λ types k. test_walk (option_map expression_of c.args.test.now) k) c.in_err-x.ensures) (stopped c.from_residual-in_err-x.ensures))

pub statement::for_inside-returns-in_err-y : goal.statement::for_inside-returns-in_err-y
statement::for_inside-returns-in_err-y t c =
    gives_then (λ types begin. typing.optional_test (option_map expression_of c.args.test.now) >>= (λ x. typing.optional_expression (option_map expression_of c.args.step.now) >>= (λ y. in_block (typing.statement (statement_of c.args.body.now) (typing.in_a_loop (around_of types c.args.around))) >>= (λ first. inside.for_end c.args.node begin x y first)))) c.in_ok-begin.ensures (
    gives_then _ (gives_so (λ types k. test_walk (option_map expression_of c.args.test.now) k) c.in_ok-x.ensures) (
    gives_stops _ (gives_so (λ types k. value_walk (option_map expression_of c.args.step.now) k) c.in_err-y.ensures) (stopped c.from_residual-in_err-y.ensures)))

pub statement::for_inside-returns-in_err-first : goal.statement::for_inside-returns-in_err-first
statement::for_inside-returns-in_err-first t c =
    gives_then (λ types begin. typing.optional_test (option_map expression_of c.args.test.now) >>= (λ x. typing.optional_expression (option_map expression_of c.args.step.now) >>= (λ y. in_block (typing.statement (statement_of c.args.body.now) (typing.in_a_loop (around_of types c.args.around))) >>= (λ first. inside.for_end c.args.node begin x y first)))) c.in_ok-begin.ensures (
    gives_then _ (gives_so (λ types k. test_walk (option_map expression_of c.args.test.now) k) c.in_ok-x.ensures) (
    gives_then _ (gives_so (λ types k. value_walk (option_map expression_of c.args.step.now) k) c.in_ok-y.ensures) (
    gives_stops _ (gives_so (λ types k. ap (λ a. in_block (typing.statement (statement_of c.args.body.now) a) k) (c.in_a_loop.ensures types)) c.in_err-first.ensures) (stopped c.from_residual-in_err-first.ensures))))

pub statement::for_inside-returns : goal.statement::for_inside-returns
statement::for_inside-returns t c =
    gives_then (λ types begin. typing.optional_test (option_map expression_of c.args.test.now) >>= (λ x. typing.optional_expression (option_map expression_of c.args.step.now) >>= (λ y. in_block (typing.statement (statement_of c.args.body.now) (typing.in_a_loop (around_of types c.args.around))) >>= (λ first. inside.for_end c.args.node begin x y first)))) c.in_ok-begin.ensures (
    gives_then _ (gives_so (λ types k. test_walk (option_map expression_of c.args.test.now) k) c.in_ok-x.ensures) (
    gives_then _ (gives_so (λ types k. value_walk (option_map expression_of c.args.step.now) k) c.in_ok-y.ensures) (
    gives_then _ (gives_so (λ types k. ap (λ a. in_block (typing.statement (statement_of c.args.body.now) a) k) (c.in_a_loop.ensures types)) c.in_ok-first.ensures) (
    c.for_end.ensures))))

pub statement::switch_inside-returns-in_err-head : goal.statement::switch_inside-returns-in_err-head
statement::switch_inside-returns-in_err-head t c =
    gives_then (λ types x. answering (λ known. heads.switch_head known.model x) >>= (λ head. typing.cases (cases_in c.args.list.now) head.type (record { values = []; has_default = false }) (typing.in_a_switch (around_of types c.args.around)) >>= (λ list. settle c.args.node head.faults >> gives (e.Switch head.value list)))) c.in_ok-x.ensures (
    gives_stops (λ types head. typing.cases (cases_in c.args.list.now) head.type (record { values = []; has_default = false }) (typing.in_a_switch (around_of types c.args.around)) >>= (λ list. settle c.args.node head.faults >> gives (e.Switch head.value list))) c.in_err-head.ensures (stopped c.from_residual-in_err-head.ensures))

pub statement::switch_inside-returns-in_err-list : goal.statement::switch_inside-returns-in_err-list
statement::switch_inside-returns-in_err-list t c =
    gives_then (λ types x. answering (λ known. heads.switch_head known.model x) >>= (λ head. typing.cases (cases_in c.args.list.now) head.type (record { values = []; has_default = false }) (typing.in_a_switch (around_of types c.args.around)) >>= (λ list. settle c.args.node head.faults >> gives (e.Switch head.value list)))) c.in_ok-x.ensures (
    gives_then (λ types head. typing.cases (cases_in c.args.list.now) head.type (record { values = []; has_default = false }) (typing.in_a_switch (around_of types c.args.around)) >>= (λ list. settle c.args.node head.faults >> gives (e.Switch head.value list))) c.in_ok-head.ensures (
    gives_stops (λ types list. settle c.args.node (heads.head_of types c.in_ok-head.head).faults >> gives (e.Switch (heads.head_of types c.in_ok-head.head).value list)) (gives_so (λ types k. ap (λ a. typing.cases (cases_in c.args.list.now) c.in_ok-head.head.ty (record { values = []; has_default = false }) a k) (c.in_a_switch.ensures types)) c.in_err-list.ensures) (stopped c.from_residual-in_err-list.ensures)))

pub statement::switch_inside-returns : goal.statement::switch_inside-returns
statement::switch_inside-returns t c =
    gives_then (λ types x. answering (λ known. heads.switch_head known.model x) >>= (λ head. typing.cases (cases_in c.args.list.now) head.type (record { values = []; has_default = false }) (typing.in_a_switch (around_of types c.args.around)) >>= (λ list. settle c.args.node head.faults >> gives (e.Switch head.value list)))) c.in_ok-x.ensures (
    gives_then (λ types head. typing.cases (cases_in c.args.list.now) head.type (record { values = []; has_default = false }) (typing.in_a_switch (around_of types c.args.around)) >>= (λ list. settle c.args.node head.faults >> gives (e.Switch head.value list))) c.in_ok-head.ensures (
    gives_then (λ types list. settle c.args.node (heads.head_of types c.in_ok-head.head).faults >> gives (e.Switch (heads.head_of types c.in_ok-head.head).value list)) (gives_so (λ types k. ap (λ a. typing.cases (cases_in c.args.list.now) c.in_ok-head.head.ty (record { values = []; has_default = false }) a k) (c.in_a_switch.ensures types)) c.in_ok-list.ensures) (
    c.switch_end.ensures)))

pub statement::statement-returns-in-Compound : goal.statement::statement-returns-in-Compound
statement::statement-returns-in-Compound t c =
    gives_so (λ types k. ap (λ s. typing.statement s (around_of types c.args.around) k) (compound_seen c.args.s.now _ _ c.in-Compound.is c.as_slice.ensures.value)) c.compound.ensures

pub statement::statement-returns-in-Expression : goal.statement::statement-returns-in-Expression
statement::statement-returns-in-Expression t c =
    gives_so (λ types k. ap (λ s. typing.statement (statement_of s) (around_of types c.args.around) k) (sym c.in-Expression.is)) (c.evaluates.ensures (around_of [] c.args.around))

pub statement::statement-returns-in-Null : goal.statement::statement-returns-in-Null
statement::statement-returns-in-Null t c =
    gives_so (λ types k. ap (λ s. typing.statement (statement_of s) (around_of types c.args.around) k) (sym c.in-Null.is)) (c.null.ensures (around_of [] c.args.around))

pub statement::statement-returns-in-Switch : goal.statement::statement-returns-in-Switch
statement::statement-returns-in-Switch t c =
    gives_so (λ types k. ap (λ s. typing.statement s (around_of types c.args.around) k) (switch_seen c.args.s.now _ _ _ c.in-Switch.is c.as_slice-in-Switch.ensures.value)) c.switch.ensures

pub items::items-list-init : goal.items::items-list-init
items::items-list-init t c =
    turns_start (λ types r k. ap (λ l. gives (before (view.item_before types) l r) k) c.new-all.ensures.items)

pub items::items-returns-in_err-made : goal.items::items-returns-in_err-made
items::items-returns-in_err-made t c =
    turns_stop (λ types v k. goes_on (typing.items (items_in (drop (c.list.item-index + 1) c.args.list.now)) (around_of types c.args.around) k) (λ r. gives (joined v r))) c.list.invariant
    (λ types k. ap (λ l. typing.items (items_in l) (around_of types c.args.around) k) (opened c.args.list.now c.list.item-index c.item-item.result c.list-test.true c.item-item.is)
    ∙ item_first c.item-item.result (drop (c.list.item-index + 1) c.args.list.now) (around_of types c.args.around) k)
    c.in_err-made.ensures (stopped c.from_residual.ensures)

pub items::items-returns-in_err-append : goal.items::items-returns-in_err-append
items::items-returns-in_err-append t c =
    lacks_memory (longer_still _ _ _ c.list.invariant.grows c.in_ok-made.ensures.grows) (stopped c.from_residual-in_err-append.ensures)

pub items::items-list-preserved : goal.items::items-list-preserved
items::items-list-preserved t c =
    turns_on (λ types v k. goes_on (typing.items (items_in (drop (c.list.item-index + 1) c.args.list.now)) (around_of types c.args.around) k) (λ r. gives (joined v r))) c.list.invariant
    (λ types k. ap (λ l. typing.items (items_in l) (around_of types c.args.around) k) (opened c.args.list.now c.list.item-index c.item-item.result c.list-test.true c.item-item.is)
    ∙ item_first c.item-item.result (drop (c.list.item-index + 1) c.args.list.now) (around_of types c.args.around) k)
    c.in_ok-made.ensures
    (λ types k. collected (typing.items (items_in (drop (c.list.item-index + 1) c.args.list.now)) (around_of types c.args.around) k) (joined (view.items_in types c.in_ok-made.made.items)) (before (view.item_before types) c.list.all.items) (before (view.item_before types) c.append.new.all.items)
    (λ r. items_more types c.list.all.items c.append.new.all.items c.in_ok-made.made.items r c.in_ok-append.ensures))

pub items::items-returns : goal.items::items-returns
items::items-returns t c =
    turns_end c.list.invariant (λ types k.
    ap (λ l. goes_on (typing.items (items_in l) (around_of types c.args.around) k) (λ r. gives (before (view.item_before types) c.list.all.items r))) (drop_all c.list.item-index c.args.list.now c.list-test.false)
    ∙ ap (λ r. gives r k) (all_items types c.list.all.items))

pub items::one-returns-in-Declaration : goal.items::one-returns-in-Declaration
items::one-returns-in-Declaration t c =
    gives_so (λ types k. one_declaration (declaration_of c.in-Declaration.d) (around_of types c.args.around) k ∙ ap (λ i. typing.items (items_in (i ∷ [])) (around_of types c.args.around) k) (sym c.in-Declaration.is)) c.created.ensures

pub items::one-returns-in-Statement : goal.items::one-returns-in-Statement
items::one-returns-in-Statement t c =
    gives_so (λ types k. ap (λ i. typing.items (items_in (i ∷ [])) (around_of types c.args.around) k) (sym c.in-Statement.is)) c.performed.ensures

pub items::one-returns-in-Mark : goal.items::one-returns-in-Mark
items::one-returns-in-Mark t c =
    gives_so (λ types k. ap (λ i. typing.items (items_in (i ∷ [])) (around_of types c.args.around) k) (sym c.in-Mark.is)) c.labelled.ensures

pub items::performed-returns-in_err-made : goal.items::performed-returns-in_err-made
items::performed-returns-in_err-made t c =
    gives_entered (λ types node. typing.statement (statement_of c.args.s.now) (around_of types c.args.around) >>= (λ m. gives (e.a_statement m e.no_items)))
    c.in_ok-_node.ensures.entered c.in_ok-_node.ensures.node (
    gives_stops _ c.in_err-made.ensures (stopped c.from_residual-in_err-made.ensures))

pub items::performed-returns-in_err-all : goal.items::performed-returns-in_err-all
items::performed-returns-in_err-all t c =
    gives_entered (λ types node. typing.statement (statement_of c.args.s.now) (around_of types c.args.around) >>= (λ m. gives (e.a_statement m e.no_items)))
    c.in_ok-_node.ensures.entered c.in_ok-_node.ensures.node (
    gives_then _ c.in_ok-made.ensures (lacks_memory (as_long _) (stopped c.from_residual-in_err-all.ensures)))

pub items::performed-returns : goal.items::performed-returns
items::performed-returns t c =
    gives_entered (λ types node. typing.statement (statement_of c.args.s.now) (around_of types c.args.around) >>= (λ m. gives (e.a_statement m e.no_items)))
    c.in_ok-_node.ensures.entered c.in_ok-_node.ensures.node (
    gives_then _ c.in_ok-made.ensures
    (gives_it (λ types. e.a_statement (statement_in types c.in_ok-made.made) e.no_items) (λ types.
    ap (view.items_in types) c.in_ok-all.ensures ∙ c.performed.ensures types e.no_items ∙ ap (λ s. e.a_statement (view.statement_of types s) e.no_items) c.into_inner.ensures)))

pub cases::cases-list-init : goal.cases::cases-list-init
cases::cases-list-init t c =
    turns_so (λ types k. ap (λ s. typing.cases (cases_in c.args.list.now) c.args.ty s (around_of types c.args.around) k) (sym c.new-seen.ensures)) (λ types r k. ap (λ l. gives (before (case_before types) l r) k) c.new-all.ensures.items)

pub cases::cases-returns-in_err-made : goal.cases::cases-returns-in_err-made
cases::cases-returns-in_err-made t c =
    turns_stop (λ types made k. goes_on (typing.cases (cases_in (drop (c.list.one-index + 1) c.args.list.now)) c.args.ty made.seen (around_of types c.args.around) k) (λ r. gives (e.a_case made.labels made.body r))) c.list.invariant
    (λ types k. ap (λ l. typing.cases (cases_in l) c.args.ty c.list.seen (around_of types c.args.around) k) (opened c.args.list.now c.list.one-index c.one-item.result c.list-test.true c.one-item.is)
    ∙ case_first (map label_of c.one-item.result.labels.items) (statement_of c.one-item.result.statement) (cases_in (drop (c.list.one-index + 1) c.args.list.now)) c.args.ty c.list.seen (around_of types c.args.around) k)
    c.in_err-made.ensures (stopped c.from_residual.ensures)

pub cases::cases-returns-in_err-push : goal.cases::cases-returns-in_err-push
cases::cases-returns-in_err-push t c =
    lacks_memory (longer_still _ _ _ c.list.invariant.grows c.in_ok-made.ensures.grows) (stopped c.from_residual-in_err-push.ensures)

pub cases::cases-list-preserved : goal.cases::cases-list-preserved
cases::cases-list-preserved t c =
    turns_on (λ types made k. goes_on (typing.cases (cases_in (drop (c.list.one-index + 1) c.args.list.now)) c.args.ty made.seen (around_of types c.args.around) k) (λ r. gives (e.a_case made.labels made.body r))) c.list.invariant
    (λ types k. ap (λ l. typing.cases (cases_in l) c.args.ty c.list.seen (around_of types c.args.around) k) (opened c.args.list.now c.list.one-index c.one-item.result c.list-test.true c.one-item.is)
    ∙ case_first (map label_of c.one-item.result.labels.items) (statement_of c.one-item.result.statement) (cases_in (drop (c.list.one-index + 1) c.args.list.now)) c.args.ty c.list.seen (around_of types c.args.around) k)
    c.in_ok-made.ensures
    (λ types k. collected (typing.cases (cases_in (drop (c.list.one-index + 1) c.args.list.now)) c.args.ty c.one_case.new.seen (around_of types c.args.around) k) (case_before types c.in_ok-made.made) (before (case_before types) c.list.all.items) (before (case_before types) c.push.new.self.items)
    (λ r. before_more (case_before types) c.list.all.items c.push.new.self.items c.in_ok-made.made r c.in_ok-push.ensures.items))

pub cases::cases-returns : goal.cases::cases-returns
cases::cases-returns t c =
    turns_end c.list.invariant (λ types k.
    ap (λ l. goes_on (typing.cases (cases_in l) c.args.ty c.list.seen (around_of types c.args.around) k) (λ r. gives (before (case_before types) c.list.all.items r))) (drop_all c.list.one-index c.args.list.now c.list-test.false)
    ∙ ap (λ r. gives r k) (all_cases types c.list.all.items))

pub cases::one_case-returns-in_err-made : goal.cases::one_case-returns-in_err-made
cases::one_case-returns-in_err-made t c =
    gives_then (λ types it. in_block (typing.statement (statement_of c.args.one.now.statement) (around_of types c.args.around)) >>= (λ body. gives (case_made it.labels body it.seen))) (gives_so (λ types k. ap (λ l. typing.labels (map label_of l) c.args.ty c.args.seen.now k) c.as_slice.ensures.value) c.in_ok-all.ensures) (
    gives_stops _ c.in_err-made.ensures (stopped c.from_residual-in_err-made.ensures))

pub cases::one_case-returns : goal.cases::one_case-returns
cases::one_case-returns t c =
    gives_then (λ types it. in_block (typing.statement (statement_of c.args.one.now.statement) (around_of types c.args.around)) >>= (λ body. gives (case_made it.labels body it.seen))) (gives_so (λ types k. ap (λ l. typing.labels (map label_of l) c.args.ty c.args.seen.now k) c.as_slice.ensures.value) c.in_ok-all.ensures) (
    gives_then _ c.in_ok-made.ensures
    (gives_it (λ types. case_made (map view.label_of c.in_ok-all.all.items) (statement_in types c.in_ok-made.made) c.labels.new.seen)
    (λ types. ap (λ s. case_made (map view.label_of c.in_ok-all.all.items) (view.statement_of types s) c.labels.new.seen) c.into_inner.ensures)))
