use Rattle.std.proofs.Common.{◌≡◌, ◌*◌, ◌-◌, ◌<◌, ◌≤◌, take, ℕ, List, reverse, length, slice_get, arith, Some, Option, refl, ap, sym, subst, ◌∙◌}
use Rattle.std.proofs.lemmas.Option.{slice_get_read}
use Rattle.lt_tree.specs.declared.typed.statement.Item.{Item}
use Rattle.lt_tree.specs.Typing.TypedTree as e
use Rattle.lt_tree.specs.Typing.ValueView.{value_of}
use Rattle.lt_tree.specs.Typing.StatementView.{statement_of, for_start_of, maybe_of, items_in, cases_in}
use Rattle.lt_tree.proofs.TypedRows.{items_are, cases_are}
use Rattle.lt_ir.specs.declared.node.Arm.{Arm}
use Rattle.lt_code.specs.Costs.{alone}
use Rattle.lt_emit.specs.Emission.{here_of, site_in, Adds, GivesWithin}
use Rattle.lt_emit.proofs.Adding.{grows_both}
use Rattle.lt_emit.proofs.Spent.{within, then1, then2, then3, after_adds, put_beside, as_given, spends_within, fitting}
use Rattle.lt_lower.specs.Stands.{maybe_at, do_cost, DoStands, HasTurns, declared_in, declared_by, declared_along, item_cost, ItemStands, HasExits, cases_cost, HasCases, HasArms}
use Rattle.lt_lower.specs.Known.{IsKnownStatement}
use Rattle.lt_lower.specs.Opening.{IsKnownItem}
use Rattle.lt_lower.specs.declared.flow.Exits.{Exits as HeldExits}
use Rattle.lt_lower.proofs.Flows.{flow_arm, looped2, looped3, loop2_spends, loop3_spends, hole_point, patched_point, point_after, exits_after}
use Rattle.lt_lower.proofs.Ends.{for_stands, for_known, for_fits}
use Rattle.lt_lower.proofs.Items.{items_none, items_more, items_all, opens_none, opens_more}
use Rattle.lt_lower.proofs.Cases.{cases_put, cases_spend, all_cases_spend, arms_put, default_put_there, cases_all, choice_stands}
use Rattle.lt_lower.proofs.flow.statements.+flow.Goals as goal

pub if_alone-returns-clause-code : goal.if_alone-returns-clause-code
if_alone-returns-clause-code t c =
    then2 c.in_ok-on.ensures.code c.in_ok-test.ensures c.tick.ensures.code
    (λ from here it p q r known. (_, r, (_, _, q known.0, p known.1, refl))) (λ here. grind fitting)

pub if_else-returns-clause-code : goal.if_else-returns-clause-code
if_else-returns-clause-code t c =
    then3 c.in_ok-off.ensures.code c.in_ok-on.ensures.code c.in_ok-test.ensures c.tick.ensures.code
    (λ from here it p q r s known. (_, s, (_, _, r known.0, q known.1, p known.2))) (λ here. grind fitting)

pub while_loop-returns-clause-code : goal.while_loop-returns-clause-code
while_loop-returns-clause-code t c =
    then1 c.in_ok-head.ensures c.tick.ensures.code
    (λ from here it p q known. (_, q, p known.0 tt known.1)) (λ here. grind fitting)

pub turns-returns : goal.turns-returns
turns-returns t c =
    let stepped = c.in_ok-stepped.ensures.gives.code.adds in
    let turn = c.in_ok-turn.ensures.code.gives.code.adds in
    let tested = c.in_ok-tested.ensures.gives.code.adds in
    record {
      gives = record {
        code = record {
          adds = looped3 c.in_ok-head.ensures stepped turn tested c.patch.ensures
              (λ here it p q r at known_test known_step known. (_, _, _, at, r known_test, q known, p known_step));
          within = patched_point c.in_ok-head.head c.patch.ensures (point_after c.in_ok-head.head
              (grows_both stepped.grows (grows_both turn.grows tested.grows)) (hole_point c.in_ok-head.ensures));
        };
      };
      spends = spends_within (loop3_spends c.in_ok-head.ensures c.in_ok-stepped.ensures c.in_ok-turn.ensures.code c.in_ok-tested.ensures c.patch.ensures)
          (grind fitting);
    }

pub do_loop-returns-clause-code : goal.do_loop-returns-clause-code
do_loop-returns-clause-code t c =
    after_adds {P = DoStands c.args.body.now c.args.v.now c.args.x c.in_ok-turn.turn} (do_cost c.args.body.now c.args.v.now)
    (looped2 c.in_ok-again.ensures c.in_ok-turn.ensures.code.gives.code.adds c.in_ok-tested.ensures.gives.code.adds c.patch.ensures
    (λ here it p q at known_test known. (_, _, p known, at, q known_test)))
    (spends_within (loop2_spends c.in_ok-again.ensures c.in_ok-turn.ensures.code c.in_ok-tested.ensures c.patch.ensures) (grind fitting)) c.tick.ensures.code
    (λ from here it p q known. (_, q, p known.1 known.0)) (λ here. grind fitting)

pub for_loop-returns-clause-code : goal.for_loop-returns-clause-code
for_loop-returns-clause-code t c =
    then2 (put_beside (λ here. alone (5 * declared_in c.args.start.now)) c.in_ok-inside.ensures.adds c.in_ok-inside.ensures.spends
    c.in_ok-head.ensures) c.in_ok-first.ensures c.tick.ensures.code
    (λ from here it head r s known.
    let p = head.0 in
    let q = head.1 in
    let start = for_start_of here.types c.args.start.now in
    let test = maybe_of here.types c.args.test.now in
    let step = maybe_of here.types c.args.step.now in
    let Turns : Option e.Value → Option e.Value → Type 0 = λ u v. HasTurns u v c.args.body.now c.in_ok-inside.inside c.in_ok-head.head here it in
    let turning = subst (λ u. Turns u step) (c.given.ensures here.types) (subst (λ v. Turns (maybe_at here.types c.given.result) v) (c.given-2.ensures here.types) q) in
    let body = statement_of here.types c.args.body.now in
    let all = for_known here start test step body known in
    for_stands (site_in here it) start test step body _ _ _ _ _ s (r all.0) p (turning all.1 all.2 all.3))
    (λ here. for_fits here.program.functions here.types c.args.start.now _ _ _ _ _ (c.given.ensures here.types) (c.given-2.ensures here.types))

pub flows-returns-in-Evaluates-clause-code : goal.flows-returns-in-Evaluates-clause-code
flows-returns-in-Evaluates-clause-code t c =
    flow_arm (λ types. statement_of types c.args.s.now) (λ types. e.Evaluates (value_of types c.deref.result.now)) c.args.x
    (λ types. ap (statement_of types) c.in-Evaluates.is ∙ ap (λ v. e.Evaluates (value_of types v)) (sym c.deref.ensures))
    c.evaluates.ensures.code

pub flows-returns-in-Null-clause-code : goal.flows-returns-in-Null-clause-code
flows-returns-in-Null-clause-code t c =
    flow_arm (λ types. statement_of types c.args.s.now) (λ types. e.Null) c.args.x
    (λ types. ap (statement_of types) c.in-Null.is)
    (within c.tick.ensures.code (λ from here it p known. p) (λ here. grind fitting))

pub flows-returns-in-If-clause-code : goal.flows-returns-in-If-clause-code
flows-returns-in-If-clause-code t c =
    flow_arm (λ types. statement_of types c.args.s.now) (λ types. e.If (value_of types c.deref-in-If.result.now) (statement_of types c.deref-in-If-2.result.now)) c.args.x
    (λ types. ap (statement_of types) c.in-If.is ∙ ap (λ v. e.If (value_of types v) (statement_of types c.in-If.body.value)) (sym c.deref-in-If.ensures) ∙ ap (λ v. e.If (value_of types c.deref-in-If.result.now) (statement_of types v)) (sym c.deref-in-If-2.ensures))
    c.if_alone.ensures.code

pub flows-returns-in-IfElse-clause-code : goal.flows-returns-in-IfElse-clause-code
flows-returns-in-IfElse-clause-code t c =
    flow_arm (λ types. statement_of types c.args.s.now) (λ types. e.IfElse (value_of types c.deref-in-IfElse.result.now) (statement_of types c.deref-in-IfElse-2.result.now) (statement_of types c.deref-in-IfElse-3.result.now)) c.args.x
    (λ types. ap (statement_of types) c.in-IfElse.is ∙ ap (λ v. e.IfElse (value_of types v) (statement_of types c.in-IfElse.body.value) (statement_of types c.in-IfElse.other.value)) (sym c.deref-in-IfElse.ensures) ∙ ap (λ v. e.IfElse (value_of types c.deref-in-IfElse.result.now) (statement_of types v) (statement_of types c.in-IfElse.other.value)) (sym c.deref-in-IfElse-2.ensures) ∙ ap (λ v. e.IfElse (value_of types c.deref-in-IfElse.result.now) (statement_of types c.deref-in-IfElse-2.result.now) (statement_of types v)) (sym c.deref-in-IfElse-3.ensures))
    c.if_else.ensures.code

pub flows-returns-in-While-clause-code : goal.flows-returns-in-While-clause-code
flows-returns-in-While-clause-code t c =
    flow_arm (λ types. statement_of types c.args.s.now) (λ types. e.While (value_of types c.deref-in-While.result.now) (statement_of types c.deref-in-While-2.result.now)) c.args.x
    (λ types. ap (statement_of types) c.in-While.is ∙ ap (λ v. e.While (value_of types v) (statement_of types c.in-While.body.value)) (sym c.deref-in-While.ensures) ∙ ap (λ v. e.While (value_of types c.deref-in-While.result.now) (statement_of types v)) (sym c.deref-in-While-2.ensures))
    c.while_loop.ensures.code

pub flows-returns-in-Do-clause-code : goal.flows-returns-in-Do-clause-code
flows-returns-in-Do-clause-code t c =
    flow_arm (λ types. statement_of types c.args.s.now) (λ types. e.Do (statement_of types c.deref-in-Do.result.now) (value_of types c.deref-in-Do-2.result.now)) c.args.x
    (λ types. ap (statement_of types) c.in-Do.is ∙ ap (λ v. e.Do (statement_of types v) (value_of types c.in-Do.test.value)) (sym c.deref-in-Do.ensures) ∙ ap (λ v. e.Do (statement_of types c.deref-in-Do.result.now) (value_of types v)) (sym c.deref-in-Do-2.ensures))
    c.do_loop.ensures.code

pub flows-returns-in-For-clause-code : goal.flows-returns-in-For-clause-code
flows-returns-in-For-clause-code t c =
    flow_arm (λ types. statement_of types c.args.s.now)
    (λ types. e.For (for_start_of types c.in-For.start) (maybe_of types c.in-For.test) (maybe_of types c.in-For.step) (statement_of types c.deref-in-For.result.now)) c.args.x
    (λ types. ap (statement_of types) c.in-For.is
    ∙ ap (λ v. e.For (for_start_of types c.in-For.start) (maybe_of types c.in-For.test) (maybe_of types c.in-For.step) (statement_of types v)) (sym c.deref-in-For.ensures))
    c.for_loop.ensures.code

pub flows-returns-in-Break-clause-code : goal.flows-returns-in-Break-clause-code
flows-returns-in-Break-clause-code t c =
    flow_arm (λ types. statement_of types c.args.s.now) (λ types. e.Break) c.args.x
    (λ types. ap (statement_of types) c.in-Break.is)
    (within c.tick-in-Break.ensures.code (λ from here it p known. p) (λ here. grind fitting))

pub flows-returns-in-Continue-clause-code : goal.flows-returns-in-Continue-clause-code
flows-returns-in-Continue-clause-code t c =
    flow_arm (λ types. statement_of types c.args.s.now) (λ types. e.Continue) c.args.x
    (λ types. ap (statement_of types) c.in-Continue.is)
    (within c.tick-in-Continue.ensures.code (λ from here it p known. p) (λ here. grind fitting))

pub flows-returns-in-Return-clause-code : goal.flows-returns-in-Return-clause-code
flows-returns-in-Return-clause-code t c =
    flow_arm (λ types. statement_of types c.args.s.now) (λ types. e.Return (maybe_of types c.in-Return.value)) c.args.x
    (λ types. ap (statement_of types) c.in-Return.is)
    c.returns.ensures.code

pub flows-returns-in-Compound-clause-code : goal.flows-returns-in-Compound-clause-code
flows-returns-in-Compound-clause-code t c =
    flow_arm (λ types. statement_of types c.args.s.now) (λ types. e.Compound (items_in types c.as_slice.result.now)) c.args.x
    (λ types. ap (statement_of types) c.in-Compound.is ∙ ap e.Compound (items_are types c.in-Compound.its)
    ∙ ap (λ row. e.Compound (items_in types row)) (sym c.as_slice.ensures.value))
    c.items.ensures.code

pub item-returns-in-Local-clause-code : goal.item-returns-in-Local-clause-code
item-returns-in-Local-clause-code t c =
    let Is : Item → Type 0 = λ it. GivesWithin c.args.b.now c.opening.new.b c.opening.result (item_cost it) (ItemStands it c.args.x c.args.to) in
    subst Is (sym c.in-Local.is) c.opening.ensures.code

pub item-returns-in-Statement-clause-code : goal.item-returns-in-Statement-clause-code
item-returns-in-Statement-clause-code t c =
    let Is : Item → Type 0 = λ it. GivesWithin c.args.b.now c.flows.new.b c.flows.result (item_cost it) (ItemStands it c.args.x c.args.to) in
    subst Is (sym c.in-Statement.is) c.flows.ensures.code

pub item-returns-in-Label-clause-code : goal.item-returns-in-Label-clause-code
item-returns-in-Label-clause-code t c =
    let Is : Item → Type 0 = λ it. GivesWithin c.args.b.now c.mark.new.b c.mark.result (item_cost it) (ItemStands it c.args.x c.args.to) in
    subst Is (sym c.in-Label.is) c.mark.ensures.code

pub items-items-init : goal.items-items-init
items-items-init t c =
    let exits = c.in_ok-exits.exits.items in
    let ends = c.in_ok-exits.ensures in
    let k = length c.args.its.now in
    let there : k < length exits = omega (arith, ends.each) in
    let at : slice_get exits k ≡ Some c.index.result.now = slice_get_read exits (length exits) k c.index.result.now refl there c.index.ensures in
    record {
      code = items_none c.args.its.now exits k c.index.result.now (omega arith) at (ends.within k c.index.result.now at).next;
      opens = opens_none c.args.b.now _ c.args.its.now exits c.args.x c.index.result.now ends.adds.grows ends.spends ends.unchanged at;
    }

pub items-items-preserved : goal.items-items-preserved
items-items-preserved t c =
    let at : slice_get c.in_ok-exits.exits.items (c.items.at - 1) ≡ Some c.exits_at-x.result =
    ap (λ row. slice_get row (c.items.at - 1)) (sym c.as_slice.ensures.value) ∙ c.exits_at-x.ensures.value in
    let fits : c.items.at ≤ length c.args.its.now = omega (arith, c.items.auto.at) in
    record {
      code = items_more c.args.its.now c.in_ok-exits.exits.items c.items.at c.items.from c.index-its-at.result c.exits_at-x.result c.in_ok-from.from
          c.items-test.true fits c.in_ok-exits.ensures.each c.index-its-at.is at c.items.invariant.code c.in_ok-from.ensures.code;
      opens = opens_more c.args.its.now c.args.x c.items.at c.items.from c.index-its-at.result c.in_ok-from.from c.items-test.true fits
          c.index-its-at.is (grows_both c.in_ok-exits.ensures.adds.grows c.items.invariant.code.emits.adds.grows) c.items.invariant.opens
          c.in_ok-from.ensures.enters;
    }

pub items-exits_at-x-requires : goal.items-exits_at-x-requires
items-exits_at-x-requires t c =
    let Each : List HeldExits → Type 0 = λ row. (k : ℕ) (x : HeldExits) → slice_get row k ≡ Some x → HasExits c.items.b x in
    let Long : List HeldExits → Type 0 = λ row. c.items.at - 1 < length row in
    let is = c.as_slice.ensures.value in
    let there : c.items.at - 1 < length c.in_ok-exits.exits.items = omega (arith, c.in_ok-exits.ensures.each, c.items.auto.at) in
    record {
      one = subst Long (sym is) there;
      each = subst Each (sym is) (λ k x at. exits_after x c.items.invariant.code.emits.adds.grows (c.in_ok-exits.ensures.within k x at));
    }

pub items-returns-clause-code : goal.items-returns-clause-code
items-returns-clause-code t c =
    as_given (items_all c.args.its.now c.in_ok-exits.exits.items c.items.at c.items.from c.args.x (omega arith)
    c.in_ok-exits.ensures.first c.in_ok-exits.ensures.adds c.in_ok-exits.ensures.spends c.items.invariant.code)

pub items-returns-clause-enters : goal.items-returns-clause-enters
items-returns-clause-enters t c known sound behind =
    let first : c.items.at ≡ 0 = omega arith in
    c.items.invariant.opens known sound behind (ap (λ n. declared_along (take n c.args.its.now)) first)

pub flows-returns-in-Switch-clause-code : goal.flows-returns-in-Switch-clause-code
flows-returns-in-Switch-clause-code t c =
    flow_arm (λ types. statement_of types c.args.s.now)
    (λ types. e.Switch (value_of types c.deref-in-Switch.result.now) (cases_in types c.as_slice-in-Switch.result.now)) c.args.x
    (λ types. ap (statement_of types) c.in-Switch.is ∙ ap (e.Switch (value_of types c.in-Switch.v.value)) (cases_are types c.in-Switch.its)
    ∙ ap (λ v. e.Switch (value_of types v) (cases_in types c.in-Switch.its.items)) (sym c.deref-in-Switch.ensures)
    ∙ ap (λ row. e.Switch (value_of types c.deref-in-Switch.result.now) (cases_in types row)) (sym c.as_slice-in-Switch.ensures.value))
    c.switch.ensures.code

pub switch-returns-clause-code : goal.switch-returns-clause-code
switch-returns-clause-code t c =
    then2 (put_beside (cases_cost c.args.its.now) c.in_ok-all.ensures.adds c.in_ok-all.ensures.spends c.in_ok-chosen.ensures)
    c.in_ok-value.ensures c.tick.ensures.code
    (λ from here it first r s known.
    let all = first.0 known.1 in
    let q = first.1 in
    let chosen = choice_stands here it all.0 c.in_ok-all.all c.args.x.next c.unwrap_or.result c.in_ok-chosen.chosen c.unwrap_or.ensures all.2 all.3 q in
    (_, s, (_, r known.0, (_, all.0, q.0, chosen, all.1)))) (λ here. grind fitting)

pub cases-cases-preserved : goal.cases-cases-preserved
cases-cases-preserved t c =
    let it = c.index-its-at.result in
    let entered = c.cases.all in
    let all = c.case.new.all in
    let puts = c.in_ok-case.ensures in
    record {
      adds = cases_put c.args.its.now c.args.x c.cases.at it entered all c.cases-test.true (omega (arith, c.cases.auto.at)) c.index-its-at.is
          c.cases.invariant.adds puts;
      spends = cases_spend c.args.its.now c.args.x c.cases.at it entered all c.cases-test.true (omega (arith, c.cases.auto.at)) c.index-its-at.is
          c.cases.invariant.adds.grows c.cases.invariant.spends puts;
      exits = exits_after c.args.x puts.code.adds.grows c.cases.invariant.exits;
      within = puts.code.within;
      arms = arms_put c.args.x it entered all c.cases.invariant.arms puts;
      default = default_put_there c.args.x it entered all c.cases.invariant.default puts;
    }

pub cases-returns : goal.cases-returns
cases-returns t c =
    let is : c.reverse.new.self.items ≡ reverse c.cases.all.arms.items = c.reverse.ensures.items in
    let Stands : List Arm → Type 0 = λ arms.
    Adds c.args.b.now c.cases.b (HasCases c.args.its.now c.args.x c.cases.all.from arms c.cases.all.default) in
    record {
      adds = subst Stands (sym is) (cases_all c.args.its.now c.args.x c.cases.at c.cases.all.from (reverse c.cases.all.arms.items)
          c.cases.all.default (omega arith) c.cases.invariant.adds);
      spends = all_cases_spend c.args.its.now c.cases.at (omega arith) c.cases.invariant.spends;
      within = c.cases.invariant.within;
      arms = subst (HasArms c.cases.b) (sym is) c.cases.invariant.arms;
      default = c.cases.invariant.default;
    }

-- ---- entrances

pub if_alone-returns-clause-enters : goal.if_alone-returns-clause-enters
if_alone-returns-clause-enters t c sound =
    c.tick.ensures.enters (c.in_ok-test.ensures.gives.code.adds.grows.sound (c.in_ok-on.ensures.code.gives.code.adds.grows.sound sound))

pub if_else-returns-clause-enters : goal.if_else-returns-clause-enters
if_else-returns-clause-enters t c sound =
    c.tick.ensures.enters (c.in_ok-test.ensures.gives.code.adds.grows.sound (c.in_ok-on.ensures.code.gives.code.adds.grows.sound
    (c.in_ok-off.ensures.code.gives.code.adds.grows.sound sound)))

pub while_loop-returns-clause-enters : goal.while_loop-returns-clause-enters
while_loop-returns-clause-enters t c sound = c.tick.ensures.enters (c.in_ok-head.ensures.gives.code.adds.grows.sound sound)

pub do_loop-returns-clause-enters : goal.do_loop-returns-clause-enters
do_loop-returns-clause-enters t c sound =
    c.tick.ensures.enters (c.patch.ensures.sound (c.in_ok-tested.ensures.gives.code.adds.grows.sound
    (c.in_ok-turn.ensures.code.gives.code.adds.grows.sound (c.in_ok-again.ensures.grows.sound sound))))

pub for_loop-returns-clause-enters : goal.for_loop-returns-clause-enters
for_loop-returns-clause-enters t c sound =
    c.tick.ensures.enters (c.in_ok-first.ensures.gives.code.adds.grows.sound (c.in_ok-head.ensures.gives.code.adds.grows.sound
    (c.in_ok-inside.ensures.adds.grows.sound sound)))

pub switch-returns-clause-enters : goal.switch-returns-clause-enters
switch-returns-clause-enters t c sound =
    c.tick.ensures.enters (c.in_ok-value.ensures.gives.code.adds.grows.sound (c.in_ok-chosen.ensures.gives.code.adds.grows.sound
    (c.in_ok-all.ensures.adds.grows.sound sound)))

pub flows-returns-in-Evaluates-clause-enters : goal.flows-returns-in-Evaluates-clause-enters
flows-returns-in-Evaluates-clause-enters t c known sound behind = c.evaluates.ensures.enters sound

pub flows-returns-in-Null-clause-enters : goal.flows-returns-in-Null-clause-enters
flows-returns-in-Null-clause-enters t c known sound behind = c.tick.ensures.enters sound

pub flows-returns-in-If-clause-enters : goal.flows-returns-in-If-clause-enters
flows-returns-in-If-clause-enters t c known sound behind = c.if_alone.ensures.enters sound

pub flows-returns-in-IfElse-clause-enters : goal.flows-returns-in-IfElse-clause-enters
flows-returns-in-IfElse-clause-enters t c known sound behind = c.if_else.ensures.enters sound

pub flows-returns-in-While-clause-enters : goal.flows-returns-in-While-clause-enters
flows-returns-in-While-clause-enters t c known sound behind = c.while_loop.ensures.enters sound

pub flows-returns-in-Do-clause-enters : goal.flows-returns-in-Do-clause-enters
flows-returns-in-Do-clause-enters t c known sound behind = c.do_loop.ensures.enters sound

pub flows-returns-in-For-clause-enters : goal.flows-returns-in-For-clause-enters
flows-returns-in-For-clause-enters t c known sound behind = c.for_loop.ensures.enters sound

pub flows-returns-in-Switch-clause-enters : goal.flows-returns-in-Switch-clause-enters
flows-returns-in-Switch-clause-enters t c known sound behind = c.switch.ensures.enters sound

pub flows-returns-in-Break-clause-enters : goal.flows-returns-in-Break-clause-enters
flows-returns-in-Break-clause-enters t c known sound behind = c.tick-in-Break.ensures.enters sound

pub flows-returns-in-Continue-clause-enters : goal.flows-returns-in-Continue-clause-enters
flows-returns-in-Continue-clause-enters t c known sound behind = c.tick-in-Continue.ensures.enters sound

pub flows-returns-in-Return-clause-enters : goal.flows-returns-in-Return-clause-enters
flows-returns-in-Return-clause-enters t c known sound behind = c.returns.ensures.enters sound

pub flows-returns-in-Compound-clause-enters : goal.flows-returns-in-Compound-clause-enters
flows-returns-in-Compound-clause-enters t c known sound behind =
    let here = here_of c.args.b.now in
    let is = ap (statement_of here.types) c.in-Compound.is ∙ ap e.Compound (items_are here.types c.in-Compound.its)
    ∙ ap (λ row. e.Compound (items_in here.types row)) (sym c.as_slice.ensures.value) in
    c.items.ensures.enters (subst (IsKnownStatement here) is known) sound behind

pub item-returns-in-Local-clause-enters : goal.item-returns-in-Local-clause-enters
item-returns-in-Local-clause-enters t c known sound behind =
    let Is : Item → Type 0 = λ it. IsKnownItem it (here_of c.args.b.now) in
    c.opening.ensures.enters (subst Is c.in-Local.is known) sound

pub item-returns-in-Statement-clause-enters : goal.item-returns-in-Statement-clause-enters
item-returns-in-Statement-clause-enters t c known sound behind =
    let Is : Item → Type 0 = λ it. IsKnownItem it (here_of c.args.b.now) in
    c.flows.ensures.enters (subst Is c.in-Statement.is known) sound (behind (ap declared_by c.in-Statement.is))

pub item-returns-in-Label-clause-enters : goal.item-returns-in-Label-clause-enters
item-returns-in-Label-clause-enters t c known sound behind =
    let Is : Item → Type 0 = λ it. IsKnownItem it (here_of c.args.b.now) in
    c.mark.ensures.enters (subst Is c.in-Label.is known) sound
