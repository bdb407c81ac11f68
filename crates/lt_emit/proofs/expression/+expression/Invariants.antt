use denote.Param.Weighed.{most}
use Rattle.std.proofs.Common.{◌+◌, ◌*◌, max, drop}
use Rattle.lt_tree.specs.declared.typed.tree.Value.{size-Value}
use Rattle.lt_tree.specs.declared.typed.tree.Place.{size-Place}
use Rattle.lt_emit.specs.Emission.{EmitsWithin}
use Rattle.lt_emit.specs.Connecting.{PartsStand, parts_cost}
use Rattle.lt_emit.specs.Calling.{ArgumentsStand, arguments_cost}
use Rattle.lt_emit.proofs.expression.+expression.Given as goal

-- measures: the depth of what is gone over, and which function calls which at the same depth

abbrev pub decreases-value : goal.decreases-value
decreases-value l = 8 * goal.size-value l

abbrev pub decreases-place : goal.decreases-place
decreases-place l = 8 * goal.size-place l

abbrev pub decreases-test : goal.decreases-test
decreases-test l = 8 * goal.size-test l + 2

abbrev pub decreases-load : goal.decreases-load
decreases-load l = 8 * goal.size-load l + 2

abbrev pub decreases-pointed : goal.decreases-pointed
decreases-pointed l = 8 * goal.size-pointed l + 2

abbrev pub decreases-negated_test : goal.decreases-negated_test
decreases-negated_test l = 8 * goal.size-negated_test l + 3

abbrev pub decreases-operands : goal.decreases-operands
decreases-operands l = 8 * max (size-Value l.left.now) (size-Value l.right.now) + 2

abbrev pub decreases-arithmetic : goal.decreases-arithmetic
decreases-arithmetic l = 8 * max (size-Value l.left.now) (size-Value l.right.now) + 3

abbrev pub decreases-negation : goal.decreases-negation
decreases-negation l = 8 * goal.size-negation l + 3

abbrev pub decreases-plain_test : goal.decreases-plain_test
decreases-plain_test l = 8 * goal.size-plain_test l + 1

abbrev pub decreases-operators::conversion : goal.decreases-operators::conversion
decreases-operators::conversion l = 8 * goal.size-operators::conversion l + 2

abbrev pub decreases-operators::minus : goal.decreases-operators::minus
decreases-operators::minus l = 8 * goal.size-operators::minus l + 2

abbrev pub decreases-operators::complement : goal.decreases-operators::complement
decreases-operators::complement l = 8 * goal.size-operators::complement l + 2

abbrev pub decreases-operators::movement : goal.decreases-operators::movement
decreases-operators::movement l = 8 * max (size-Value l.left.now) (size-Value l.right.now) + 3

abbrev pub decreases-operators::distance : goal.decreases-operators::distance
decreases-operators::distance l = 8 * max (size-Value l.left.now) (size-Value l.right.now) + 3

abbrev pub decreases-operators::comparison : goal.decreases-operators::comparison
decreases-operators::comparison l = 8 * max (size-Value l.left.now) (size-Value l.right.now) + 3

abbrev pub decreases-operators::element : goal.decreases-operators::element
decreases-operators::element l = 8 * max (size-Value l.left.now) (size-Value l.right.now) + 3

abbrev pub decreases-operators::part : goal.decreases-operators::part
decreases-operators::part l = 8 * goal.size-operators::part l + 2

abbrev pub decreases-assigning::assign : goal.decreases-assigning::assign
decreases-assigning::assign l = 8 * max (size-Place l.target.now) (size-Value l.v.now) + 2

abbrev pub decreases-assigning::update : goal.decreases-assigning::update
decreases-assigning::update l = 8 * max (size-Place l.target.now) (size-Value l.v.now) + 2

abbrev pub decreases-assigning::step : goal.decreases-assigning::step
decreases-assigning::step l = 8 * goal.size-assigning::step l + 2

abbrev pub decreases-marking::after : goal.decreases-marking::after
decreases-marking::after l = 8 * goal.size-marking::after l + 2

abbrev pub decreases-marking::marked : goal.decreases-marking::marked
decreases-marking::marked l = 8 * size-Value l.v.now + 1

abbrev pub decreases-marking::marked_test : goal.decreases-marking::marked_test
decreases-marking::marked_test l = 8 * size-Value l.v.now + 3

abbrev pub decreases-marking::decided_test : goal.decreases-marking::decided_test
decreases-marking::decided_test l = 8 * size-Value l.operand.now + 3

abbrev pub decreases-marking::decided : goal.decreases-marking::decided
decreases-marking::decided l = 8 * size-Value l.operand.now + 4

abbrev pub decreases-connecting::second : goal.decreases-connecting::second
decreases-connecting::second l = 8 * size-Value l.right.now + 3

abbrev pub decreases-connecting::conjunction : goal.decreases-connecting::conjunction
decreases-connecting::conjunction l = 8 * max (size-Value l.left.now) (size-Value l.right.now) + 4

abbrev pub decreases-connecting::disjunction : goal.decreases-connecting::disjunction
decreases-connecting::disjunction l = 8 * max (size-Value l.left.now) (size-Value l.right.now) + 4

abbrev pub decreases-connecting::connected_test : goal.decreases-connecting::connected_test
decreases-connecting::connected_test l = 8 * max (size-Value l.left.now) (size-Value l.right.now) + 5

abbrev pub decreases-connecting::connected : goal.decreases-connecting::connected
decreases-connecting::connected l = 8 * max (size-Value l.left.now) (size-Value l.right.now) + 6

abbrev pub decreases-connecting::branch : goal.decreases-connecting::branch
decreases-connecting::branch l = 8 * size-Value l.v.now + 1

abbrev pub decreases-connecting::conditional : goal.decreases-connecting::conditional
decreases-connecting::conditional l = 8 * max (size-Value l.tested.now) (max (size-Value l.left.now) (size-Value l.right.now)) + 3

abbrev pub decreases-connecting::comma_part : goal.decreases-connecting::comma_part
decreases-connecting::comma_part l = 8 * size-Value l.v.now + 1

abbrev pub decreases-connecting::comma : goal.decreases-connecting::comma
decreases-connecting::comma l = 8 * most size-Value l.parts.now + 2

abbrev pub decreases-calling::values : goal.decreases-calling::values
decreases-calling::values l = 8 * most size-Value l.arguments.now + 2

abbrev pub decreases-calling::call : goal.decreases-calling::call
decreases-calling::call l = 8 * most size-Value l.arguments.now + 3

-- the parts of a comma expression from one on
abbrev pub invariant-connecting::comma-parts : goal.invariant-connecting::comma-parts
invariant-connecting::comma-parts l =
    EmitsWithin l.initial.b l.b l.from (parts_cost (drop l.at l.parts) l.register)
    (PartsStand l.last_fate (drop l.at l.parts) l.register l.to l.from)

-- the arguments of a call from one on
abbrev pub invariant-calling::values-arguments : goal.invariant-calling::values-arguments
invariant-calling::values-arguments l =
    EmitsWithin l.initial.b l.b l.from (arguments_cost (drop l.at l.arguments) (l.register + l.at))
    (ArgumentsStand (drop l.at l.arguments) (l.register + l.at) l.to l.from)
