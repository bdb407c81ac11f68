use Rattle.std.proofs.Common.{◌≡◌, ◌≢◌, ℕ, ℤ, ap, sym, subst, ◌∙◌, SFits, rules, ◌+◌, ◌-◌, ◌<◌, ◌≤◌, Bool, length, drop, nat_eq, refl, arith}
use Rattle.std.specs.Int.{w128}
use Rattle.std.proofs.lemmas.Int.{to_z-of_z}
use Rattle.lt_meaning.specs.Expressions.{Fate}
use Rattle.lt_code.specs.Code.{value_code, call}
use Rattle.lt_tree.specs.Typing.Types.{Void}
use Rattle.lt_tree.specs.Typing.TypeRows.{type_in}
use Rattle.lt_tree.specs.Typing.ValueView.{value_of, place_of, conversion_of, side_of, when_of, values_in, marks_in}
use Rattle.lt_tree.proofs.TypedRows.{call_is, comma_is, marked_is}
use Rattle.lt_tree.specs.Typing.TypedTree as e
use Rattle.lt_tree.specs.declared.typed.tree.Conversion.{Conversion}
use Rattle.lt_tree.specs.declared.typed.tree.Conversion.TheVariants as how
use Rattle.lt_emit.specs.Fate.{fate_of}
use Rattle.lt_emit.specs.Emission.{site_in}
use Rattle.lt_emit.specs.Operators.{changed}
use Rattle.lt_emit.proofs.Spent.{then1, then2, then3, then4, then5, within, none_within, one_more_within, all_within, as_given, fitting}
use Rattle.lt_emit.proofs.Changing.{update_is, update_knows, update_fits, step_is, step_knows, step_fits, kept_below}
use Rattle.lt_emit.proofs.Conversions.{converted_is, made_here, left_out, not_void}
use Rattle.lt_emit.specs.Known.{named_in}
use Rattle.lt_emit.proofs.Arms.{plain_arm, value_arm, fated, place_arm, test_arm, plain_tested, plain_nodes}
use Rattle.lt_emit.specs.Stands.{HasTest}
use Rattle.lt_emit.specs.Calling.{ArgumentsStand, arguments_cost}
use Rattle.lt_emit.specs.Connecting.{PartsStand, parts_cost, parts_from}
use Rattle.lt_tree.specs.declared.expression.LogicalOp.{LogicalOp}
use Rattle.lt_emit.proofs.Arguments.{arguments_counted, arguments_nodes, arguments_behind, arguments_all, values_more, call_stands}
use Rattle.lt_emit.proofs.CommaParts.{last_is, part_stands, comma_stands}
use Rattle.lt_emit.proofs.Connected.{connected_and, connected_or}
use Rattle.lt_emit.proofs.expression.+expression.Goals as goal

pub load-returns : goal.load-returns
load-returns t c =
    then1 c.in_ok-read.ensures c.place.ensures (λ from here it p q known fate. (p.0, (_, q known, p.1))) (λ here. grind fitting)

pub arithmetic-returns : goal.arithmetic-returns
arithmetic-returns t c =
    then1 c.in_ok-applied.ensures.code c.operands.ensures
    (λ from here it p q known fate. (p.1.2, (_, q known.0 known.1, p.0))) (λ here. grind fitting)

pub operands-returns : goal.operands-returns
operands-returns t c =
    then2 c.in_ok-joined.ensures c.in_ok-second.ensures c.value-2.ensures
    (λ from here it p q r left right. (_, r left, (_, q right, p))) (λ here. grind fitting)

pub pointed-returns : goal.pointed-returns
pointed-returns t c =
    then1 c.in_ok-converted.ensures c.value.ensures (λ from here it p q known. (p.0, (_, q known, p.1))) (λ here. grind fitting)

pub negated_test-returns : goal.negated_test-returns
negated_test-returns t c = within c.test.ensures (λ from here it p known. p known) (λ here. grind fitting)

pub value-returns-in-Constant : goal.value-returns-in-Constant
value-returns-in-Constant t c =
    let fits : SFits w128 c.in-Constant.number = search rules in
    plain_arm c.args.v.now c.args.fate c.args.register c.args.to
    (λ types. e.Constant (type_in types c.in-Constant.field-0) c.in-Constant.number)
    (λ types. ap (value_of types) c.in-Constant.is)
    (within c.constant.ensures (λ from here it p known fate.
    let Is : ℤ → Type 0 = λ z. value_code (site_in here it) fate (e.Constant Void z) c.args.register (it.point from) (it.point c.args.to) in
    subst Is (to_z-of_z w128 _ fits) p) (λ here. grind fitting))

pub value-returns-in-Load : goal.value-returns-in-Load
value-returns-in-Load t c =
    plain_arm c.args.v.now c.args.fate c.args.register c.args.to
    (λ types. e.Load (type_in types c.in-Load.ty) (place_of types c.deref.result.now))
    (λ types. ap (value_of types) c.in-Load.is ∙ ap (λ p. e.Load (type_in types c.in-Load.ty) (place_of types p)) (sym c.deref.ensures))
    c.load.ensures

pub value-returns-in-Not : goal.value-returns-in-Not
value-returns-in-Not t c =
    plain_arm c.args.v.now c.args.fate c.args.register c.args.to
    (λ types. e.Not (type_in types c.in-Not.field-0) (value_of types c.deref-in-Not.result.now))
    (λ types. ap (value_of types) c.in-Not.is ∙ ap (λ v. e.Not (type_in types c.in-Not.field-0) (value_of types v)) (sym c.deref-in-Not.ensures))
    c.negation.ensures

pub value-returns-in-Arithmetic : goal.value-returns-in-Arithmetic
value-returns-in-Arithmetic t c =
    plain_arm c.args.v.now c.args.fate c.args.register c.args.to
    (λ types. e.Arithmetic (type_in types c.in-Arithmetic.ty) c.in-Arithmetic.op c.in-Arithmetic.operands
    (value_of types c.deref-in-Arithmetic.result.now) (value_of types c.deref-in-Arithmetic-2.result.now))
    (λ types. ap (value_of types) c.in-Arithmetic.is
    ∙ ap (λ v. e.Arithmetic (type_in types c.in-Arithmetic.ty) c.in-Arithmetic.op c.in-Arithmetic.operands (value_of types v)
    (value_of types c.in-Arithmetic.right.value)) (sym c.deref-in-Arithmetic.ensures)
    ∙ ap (λ v. e.Arithmetic (type_in types c.in-Arithmetic.ty) c.in-Arithmetic.op c.in-Arithmetic.operands
    (value_of types c.deref-in-Arithmetic.result.now) (value_of types v)) (sym c.deref-in-Arithmetic-2.ensures))
    c.arithmetic.ensures

pub test-returns-in-Not : goal.test-returns-in-Not
test-returns-in-Not t c =
    test_arm c.args.v.now c.args.register c.args.on c.args.off
    (λ types. e.Not (type_in types c.in-Not.field-0) (value_of types c.deref.result.now))
    (λ types. ap (value_of types) c.in-Not.is ∙ ap (λ v. e.Not (type_in types c.in-Not.field-0) (value_of types v)) (sym c.deref.ensures))
    c.negated_test.ensures

pub place-returns-in-Object : goal.place-returns-in-Object
place-returns-in-Object t c =
    place_arm c.args.p.now c.args.register c.args.to
    (λ types. e.Object (type_in types c.in-Object.field-0) c.in-Object.number)
    (λ types. ap (place_of types) c.in-Object.is)
    (within c.address.ensures (λ from here it p known. p) (λ here. grind fitting))

pub place-returns-in-Pointed : goal.place-returns-in-Pointed
place-returns-in-Pointed t c =
    place_arm c.args.p.now c.args.register c.args.to
    (λ types. e.Pointed (type_in types c.in-Pointed.field-0) (value_of types c.deref.result.now))
    (λ types. ap (place_of types) c.in-Pointed.is ∙ ap (λ v. e.Pointed (type_in types c.in-Pointed.field-0) (value_of types v)) (sym c.deref.ensures))
    c.pointed.ensures

pub place-returns-in-Held : goal.place-returns-in-Held
place-returns-in-Held t c =
    place_arm c.args.p.now c.args.register c.args.to
    (λ types. e.Held (type_in types c.in-Held.field-0) (value_of types c.deref-in-Held.result.now))
    (λ types. ap (place_of types) c.in-Held.is ∙ ap (λ v. e.Held (type_in types c.in-Held.field-0) (value_of types v)) (sym c.deref-in-Held.ensures))
    c.pointed-in-Held.ensures

pub negation-returns : goal.negation-returns
negation-returns t c =
    then2 c.in_ok-on.ensures c.in_ok-off.ensures c.test.ensures
    (λ from here it p q r known fate. (p.0, (_, _, r known, p.1, q.1))) (λ here. grind fitting)

pub plain_test-returns : goal.plain_test-returns
plain_test-returns t c =
    then1 c.in_ok-tested.ensures c.value.ensures
    (λ from here it p q known. plain_tested (site_in here it) (it.point from) _ (c.requires.plain here.types) (q known) p.0)
    (λ here. grind (fitting, plain_nodes (value_of here.types c.args.v.now) (c.requires.plain here.types)))

-- ---- conversions and operators

pub operators::conversion-returns-in_ok-dropped : goal.operators::conversion-returns-in_ok-dropped
operators::conversion-returns-in_ok-dropped t c =
    let is : c.args.how ≡ how.ToVoid = search rules in
    then1 c.in_ok-dropped.ensures c.value.ensures (λ from here it p q known.
    let Is : Conversion → Type 0 =
    λ how. value_code (site_in here it) (fate_of c.args.fate) (e.Convert (conversion_of how) (type_in here.types c.args.ty)
    (value_of here.types c.args.operand.now)) c.args.register (it.point from) (it.point c.args.to) in
    subst Is (sym is) (p.0, (_, q known, p.1))) (λ here. grind fitting)

pub operators::conversion-returns-in_ok-converted : goal.operators::conversion-returns-in_ok-converted
operators::conversion-returns-in_ok-converted t c =
    let other : c.args.how ≢ how.ToVoid = search rules in
    then1 c.in_ok-converted.ensures c.value-then-converts.ensures (λ from here it p q known.
    converted_is (site_in here it) (fate_of c.args.fate) (conversion_of c.args.how) _ _ c.args.register _ _ _
    (not_void c.args.how other)
    (fated (site_in here it) _ _ c.args.register _ _ c.inside.ensures (q known))
    (made_here (site_in here it) (fate_of c.args.fate) (conversion_of c.args.how) _ c.args.register _ _
    (sym c.if-converts.ensures) p)) (λ here. grind fitting)

pub operators::conversion-returns-else-converts : goal.operators::conversion-returns-else-converts
operators::conversion-returns-else-converts t c =
    let other : c.args.how ≢ how.ToVoid = search rules in
    within c.value-else-converts.ensures (λ from here it q known.
    converted_is (site_in here it) (fate_of c.args.fate) (conversion_of c.args.how) _ _ c.args.register _ _ _
    (not_void c.args.how other)
    (fated (site_in here it) _ _ c.args.register _ _ c.inside-else-converts.ensures (q known))
    (left_out (site_in here it) (fate_of c.args.fate) (conversion_of c.args.how) _ c.args.register _
    (sym c.if-converts.ensures))) (λ here. grind fitting)

pub operators::minus-returns : goal.operators::minus-returns
operators::minus-returns t c =
    then1 c.in_ok-negated.ensures c.value.ensures (λ from here it p q known fate. (p.0, (_, q known, p.1))) (λ here. grind fitting)

pub operators::complement-returns : goal.operators::complement-returns
operators::complement-returns t c =
    then1 c.in_ok-complemented.ensures c.value.ensures (λ from here it p q known fate. (p.0, (_, q known, p.1))) (λ here. grind fitting)

pub operators::movement-returns : goal.operators::movement-returns
operators::movement-returns t c =
    then1 c.in_ok-moved.ensures c.operands.ensures
    (λ from here it p q known fate. (p.0, (_, q known.0 known.1, p.1))) (λ here. grind fitting)

pub operators::distance-returns : goal.operators::distance-returns
operators::distance-returns t c =
    then1 c.in_ok-subtracted.ensures.code c.operands.ensures
    (λ from here it p q known fate. (p.1.2, (_, q known.0 known.1, p.0))) (λ here. grind fitting)

pub operators::comparison-returns : goal.operators::comparison-returns
operators::comparison-returns t c =
    then1 c.in_ok-compared.ensures.code c.operands.ensures
    (λ from here it p q known fate. (p.1.2, (_, q known.0 known.1, p.0))) (λ here. grind fitting)

pub operators::element-returns : goal.operators::element-returns
operators::element-returns t c =
    then1 c.in_ok-moved.ensures c.operands.ensures
    (λ from here it p q known. (p.0, (_, q known.0 known.1, p.1))) (λ here. grind fitting)

pub operators::part-returns : goal.operators::part-returns
operators::part-returns t c =
    then1 c.in_ok-member.ensures c.place.ensures (λ from here it p q known. (p.0, (_, q known, p.1))) (λ here. grind fitting)

-- ---- assignments

pub assigning::assign-returns : goal.assigning::assign-returns
assigning::assign-returns t c =
    then2 c.in_ok-stored.ensures c.in_ok-right.ensures c.place.ensures
    (λ from here it p q r known fate. (p.0, (_, r known.0, (_, q known.1, p.1)))) (λ here. grind fitting)

pub assigning::update-returns : goal.assigning::update-returns
assigning::update-returns t c =
    then4 c.in_ok-changed.ensures c.in_ok-joined.ensures c.in_ok-right.ensures
    c.in_ok-read.ensures c.place.ensures
    (λ from here it p j q l r known fate.
    let both = update_knows (named_in here) c.args.change _ _ _ known in
    update_is (site_in here it) fate c.args.change _ _ _ c.args.register _ _
    (p.0, (_, (_, r both.0, l.1), (_, (_, q both.1, j), p.1))))
    (λ here. update_fits here.program.functions c.args.change _ _ _ c.args.register _ (grind fitting))

pub assigning::step-returns : goal.assigning::step-returns
assigning::step-returns t c =
    then3 c.in_ok-changed.ensures c.in_ok-one.ensures c.in_ok-read.ensures c.place.ensures
    (λ from here it p o l r known fate.
    let Is : ℕ → Type 0 =
    λ gives. changed c.args.change (site_in here it) (type_in here.types c.args.ty) c.args.register gives
    (it.point c.in_ok-changed.changed) (it.point c.args.to) in
    let new = subst Is c.kept_in-gives.ensures p in
    step_is (site_in here it) fate c.args.change _ _ _ c.args.register _ _
    (new.0, (_, (_, r (step_knows (named_in here) c.args.change _ _ _ known), l.1), (_, o.1, new.1))))
    (λ here. step_fits here.program.functions c.args.change _ _ _ c.args.register _
    (grind (fitting, c.kept_in-gives.ensures, kept_below (when_of c.args.when) (c.args.register + 1) (c.args.register + 3))))

-- ---- what is done in each case

pub value-returns-in-Whole : goal.value-returns-in-Whole
value-returns-in-Whole t c =
    plain_arm c.args.v.now c.args.fate c.args.register c.args.to
    (λ types. e.Whole (type_in types c.in-Whole.field-0) (place_of types c.deref-in-Whole.result.now))
    (λ types. ap (value_of types) c.in-Whole.is
    ∙ ap (λ p. e.Whole (type_in types c.in-Whole.field-0) (place_of types p)) (sym c.deref-in-Whole.ensures))
    (within c.place.ensures (λ from here it p known fate. p known) (λ here. grind fitting))

pub value-returns-in-Decay : goal.value-returns-in-Decay
value-returns-in-Decay t c =
    plain_arm c.args.v.now c.args.fate c.args.register c.args.to
    (λ types. e.Decay (type_in types c.in-Decay.field-0) (place_of types c.deref-in-Decay.result.now))
    (λ types. ap (value_of types) c.in-Decay.is
    ∙ ap (λ p. e.Decay (type_in types c.in-Decay.field-0) (place_of types p)) (sym c.deref-in-Decay.ensures))
    (within c.place-in-Decay.ensures (λ from here it p known fate. p known) (λ here. grind fitting))

pub value-returns-in-AddressOf : goal.value-returns-in-AddressOf
value-returns-in-AddressOf t c =
    plain_arm c.args.v.now c.args.fate c.args.register c.args.to
    (λ types. e.AddressOf (type_in types c.in-AddressOf.field-0) (place_of types c.deref-in-AddressOf.result.now))
    (λ types. ap (value_of types) c.in-AddressOf.is
    ∙ ap (λ p. e.AddressOf (type_in types c.in-AddressOf.field-0) (place_of types p)) (sym c.deref-in-AddressOf.ensures))
    (within c.place-in-AddressOf.ensures (λ from here it p known fate. p known) (λ here. grind fitting))

pub value-returns-in-Convert : goal.value-returns-in-Convert
value-returns-in-Convert t c =
    value_arm c.args.v.now c.args.fate c.args.register c.args.to
    (λ types. e.Convert (conversion_of c.in-Convert.how) (type_in types c.in-Convert.ty) (value_of types c.deref-in-Convert.result.now))
    (λ types. ap (value_of types) c.in-Convert.is
    ∙ ap (λ v. e.Convert (conversion_of c.in-Convert.how) (type_in types c.in-Convert.ty) (value_of types v)) (sym c.deref-in-Convert.ensures))
    c.conversion.ensures

pub value-returns-in-Minus : goal.value-returns-in-Minus
value-returns-in-Minus t c =
    plain_arm c.args.v.now c.args.fate c.args.register c.args.to
    (λ types. e.Minus (type_in types c.in-Minus.ty) (value_of types c.deref-in-Minus.result.now))
    (λ types. ap (value_of types) c.in-Minus.is
    ∙ ap (λ v. e.Minus (type_in types c.in-Minus.ty) (value_of types v)) (sym c.deref-in-Minus.ensures))
    c.minus.ensures

pub value-returns-in-Complement : goal.value-returns-in-Complement
value-returns-in-Complement t c =
    plain_arm c.args.v.now c.args.fate c.args.register c.args.to
    (λ types. e.Complement (type_in types c.in-Complement.ty) (value_of types c.deref-in-Complement.result.now))
    (λ types. ap (value_of types) c.in-Complement.is
    ∙ ap (λ v. e.Complement (type_in types c.in-Complement.ty) (value_of types v)) (sym c.deref-in-Complement.ensures))
    c.complement.ensures

pub value-returns-in-Move : goal.value-returns-in-Move
value-returns-in-Move t c =
    plain_arm c.args.v.now c.args.fate c.args.register c.args.to
    (λ types. e.Move (type_in types c.in-Move.ty) c.in-Move.op c.in-Move.size (side_of c.in-Move.pointer) (value_of types c.deref-in-Move.result.now) (value_of types c.deref-in-Move-2.result.now))
    (λ types. ap (value_of types) c.in-Move.is
    ∙ ap (λ v. e.Move (type_in types c.in-Move.ty) c.in-Move.op c.in-Move.size (side_of c.in-Move.pointer) (value_of types v) (value_of types c.in-Move.right.value)) (sym c.deref-in-Move.ensures)
    ∙ ap (λ v. e.Move (type_in types c.in-Move.ty) c.in-Move.op c.in-Move.size (side_of c.in-Move.pointer) (value_of types c.deref-in-Move.result.now) (value_of types v)) (sym c.deref-in-Move-2.ensures))
    c.movement.ensures

pub value-returns-in-Distance : goal.value-returns-in-Distance
value-returns-in-Distance t c =
    plain_arm c.args.v.now c.args.fate c.args.register c.args.to
    (λ types. e.Distance (type_in types c.in-Distance.ty) c.in-Distance.size (value_of types c.deref-in-Distance.result.now) (value_of types c.deref-in-Distance-2.result.now))
    (λ types. ap (value_of types) c.in-Distance.is
    ∙ ap (λ v. e.Distance (type_in types c.in-Distance.ty) c.in-Distance.size (value_of types v) (value_of types c.in-Distance.right.value)) (sym c.deref-in-Distance.ensures)
    ∙ ap (λ v. e.Distance (type_in types c.in-Distance.ty) c.in-Distance.size (value_of types c.deref-in-Distance.result.now) (value_of types v)) (sym c.deref-in-Distance-2.ensures))
    c.distance.ensures

pub value-returns-in-Compare : goal.value-returns-in-Compare
value-returns-in-Compare t c =
    plain_arm c.args.v.now c.args.fate c.args.register c.args.to
    (λ types. e.Compare (type_in types c.in-Compare.field-0) c.in-Compare.op (value_of types c.deref-in-Compare.result.now) (value_of types c.deref-in-Compare-2.result.now))
    (λ types. ap (value_of types) c.in-Compare.is
    ∙ ap (λ v. e.Compare (type_in types c.in-Compare.field-0) c.in-Compare.op (value_of types v) (value_of types c.in-Compare.right.value)) (sym c.deref-in-Compare.ensures)
    ∙ ap (λ v. e.Compare (type_in types c.in-Compare.field-0) c.in-Compare.op (value_of types c.deref-in-Compare.result.now) (value_of types v)) (sym c.deref-in-Compare-2.ensures))
    c.comparison.ensures

pub value-returns-in-Assign : goal.value-returns-in-Assign
value-returns-in-Assign t c =
    plain_arm c.args.v.now c.args.fate c.args.register c.args.to
    (λ types. e.Assign (type_in types c.in-Assign.ty) (place_of types c.deref-in-Assign.result.now) (value_of types c.deref-in-Assign-2.result.now))
    (λ types. ap (value_of types) c.in-Assign.is
    ∙ ap (λ p. e.Assign (type_in types c.in-Assign.ty) (place_of types p) (value_of types c.in-Assign.v.value)) (sym c.deref-in-Assign.ensures)
    ∙ ap (λ v. e.Assign (type_in types c.in-Assign.ty) (place_of types c.deref-in-Assign.result.now) (value_of types v)) (sym c.deref-in-Assign-2.ensures))
    c.assign.ensures

pub value-returns-in-Update : goal.value-returns-in-Update
value-returns-in-Update t c =
    plain_arm c.args.v.now c.args.fate c.args.register c.args.to
    (λ types. e.Update (type_in types c.in-Update.ty) c.in-Update.op c.in-Update.operands (place_of types c.deref-in-Update.result.now) (value_of types c.deref-in-Update-2.result.now))
    (λ types. ap (value_of types) c.in-Update.is
    ∙ ap (λ p. e.Update (type_in types c.in-Update.ty) c.in-Update.op c.in-Update.operands (place_of types p) (value_of types c.in-Update.value.value)) (sym c.deref-in-Update.ensures)
    ∙ ap (λ v. e.Update (type_in types c.in-Update.ty) c.in-Update.op c.in-Update.operands (place_of types c.deref-in-Update.result.now) (value_of types v)) (sym c.deref-in-Update-2.ensures))
    c.update.ensures

pub value-returns-in-UpdatePointer : goal.value-returns-in-UpdatePointer
value-returns-in-UpdatePointer t c =
    plain_arm c.args.v.now c.args.fate c.args.register c.args.to
    (λ types. e.UpdatePointer (type_in types c.in-UpdatePointer.ty) c.in-UpdatePointer.op c.in-UpdatePointer.size (place_of types c.deref-in-UpdatePointer.result.now) (value_of types c.deref-in-UpdatePointer-2.result.now))
    (λ types. ap (value_of types) c.in-UpdatePointer.is
    ∙ ap (λ p. e.UpdatePointer (type_in types c.in-UpdatePointer.ty) c.in-UpdatePointer.op c.in-UpdatePointer.size (place_of types p) (value_of types c.in-UpdatePointer.value.value)) (sym c.deref-in-UpdatePointer.ensures)
    ∙ ap (λ v. e.UpdatePointer (type_in types c.in-UpdatePointer.ty) c.in-UpdatePointer.op c.in-UpdatePointer.size (place_of types c.deref-in-UpdatePointer.result.now) (value_of types v)) (sym c.deref-in-UpdatePointer-2.ensures))
    c.update-in-UpdatePointer.ensures

pub value-returns-in-Step : goal.value-returns-in-Step
value-returns-in-Step t c =
    plain_arm c.args.v.now c.args.fate c.args.register c.args.to
    (λ types. e.Step (type_in types c.in-Step.ty) (when_of c.in-Step.gives) c.in-Step.op c.in-Step.operands (place_of types c.deref-in-Step.result.now))
    (λ types. ap (value_of types) c.in-Step.is
    ∙ ap (λ p. e.Step (type_in types c.in-Step.ty) (when_of c.in-Step.gives) c.in-Step.op c.in-Step.operands (place_of types p)) (sym c.deref-in-Step.ensures))
    c.step.ensures

pub value-returns-in-StepPointer : goal.value-returns-in-StepPointer
value-returns-in-StepPointer t c =
    plain_arm c.args.v.now c.args.fate c.args.register c.args.to
    (λ types. e.StepPointer (type_in types c.in-StepPointer.ty) (when_of c.in-StepPointer.gives) c.in-StepPointer.op c.in-StepPointer.size (place_of types c.deref-in-StepPointer.result.now))
    (λ types. ap (value_of types) c.in-StepPointer.is
    ∙ ap (λ p. e.StepPointer (type_in types c.in-StepPointer.ty) (when_of c.in-StepPointer.gives) c.in-StepPointer.op c.in-StepPointer.size (place_of types p)) (sym c.deref-in-StepPointer.ensures))
    c.step-in-StepPointer.ensures

pub place-returns-in-Element : goal.place-returns-in-Element
place-returns-in-Element t c =
    place_arm c.args.p.now c.args.register c.args.to
    (λ types. e.Element (type_in types c.in-Element.ty) c.in-Element.size (side_of c.in-Element.pointer) (value_of types c.deref-in-Element.result.now) (value_of types c.deref-in-Element-2.result.now))
    (λ types. ap (place_of types) c.in-Element.is
    ∙ ap (λ v. e.Element (type_in types c.in-Element.ty) c.in-Element.size (side_of c.in-Element.pointer) (value_of types v) (value_of types c.in-Element.right.value)) (sym c.deref-in-Element.ensures)
    ∙ ap (λ v. e.Element (type_in types c.in-Element.ty) c.in-Element.size (side_of c.in-Element.pointer) (value_of types c.deref-in-Element.result.now) (value_of types v)) (sym c.deref-in-Element-2.ensures))
    c.element.ensures

pub place-returns-in-Part : goal.place-returns-in-Part
place-returns-in-Part t c =
    place_arm c.args.p.now c.args.register c.args.to
    (λ types. e.Part (type_in types c.in-Part.ty) c.in-Part.offset (place_of types c.deref-in-Part.result.now))
    (λ types. ap (place_of types) c.in-Part.is
    ∙ ap (λ p. e.Part (type_in types c.in-Part.ty) c.in-Part.offset (place_of types p)) (sym c.deref-in-Part.ensures))
    c.part.ensures

-- ---- marks behind expressions

pub marking::after-returns : goal.marking::after-returns
marking::after-returns t c =
    then1 c.in_ok-marked.ensures c.value.ensures (λ from here it p q known.
    (_, fated (site_in here it) _ _ c.args.register _ _ c.of_last.ensures (q known.0), p known.1)) (λ here. grind fitting)

pub value-returns-in-After : goal.value-returns-in-After
value-returns-in-After t c =
    value_arm c.args.v.now c.args.fate c.args.register c.args.to
    (λ types. e.After (type_in types c.in-After.field-0) (value_of types c.deref-in-After.result.now) c.in-After.id)
    (λ types. ap (value_of types) c.in-After.is
    ∙ ap (λ v. e.After (type_in types c.in-After.field-0) (value_of types v) c.in-After.id) (sym c.deref-in-After.ensures))
    c.after.ensures

-- ---- marks, and what stands behind them

pub marking::marked-returns : goal.marking::marked-returns
marking::marked-returns t c =
    then1 c.in_ok-behind.ensures c.marks.ensures (λ from here it p q known.
    (_, q known.0, fated (site_in here it) (value_of here.types c.args.v.now) c.of_last.result _ _ _ c.of_last.ensures (p known.1))) (λ here. grind fitting)

pub marking::marked_test-returns : goal.marking::marked_test-returns
marking::marked_test-returns t c =
    then1 c.in_ok-behind.ensures c.marks.ensures (λ from here it p q known. (_, q known.0, p known.1)) (λ here. grind fitting)

pub marking::decided-returns : goal.marking::decided-returns
marking::decided-returns t c =
    then2 c.in_ok-on.ensures c.in_ok-off.ensures c.decided_test.ensures
    (λ from here it p q r known fate. (p.0, (_, _, r known, p.1, q.1))) (λ here. grind fitting)

pub marking::decided_test-returns : goal.marking::decided_test-returns
marking::decided_test-returns t c =
    then2 c.in_ok-marked_on.ensures c.in_ok-marked_off.ensures c.test.ensures
    (λ from here it p q r known. (_, _, r known.0, p known.1 known.2, q known.1 known.2)) (λ here. grind fitting)

-- ---- `&&`, `||`, `?:` and `,`

pub connecting::connected-returns : goal.connecting::connected-returns
connecting::connected-returns t c =
    then2 c.in_ok-on.ensures c.in_ok-off.ensures c.connected_test.ensures
    (λ from here it p q r known fate. (p.0, (_, _, r known, p.1, q.1))) (λ here. grind fitting)

pub connecting::connected_test-returns-in-And : goal.connecting::connected_test-returns-in-And
connecting::connected_test-returns-in-And t c =
    within c.conjunction.ensures (λ from here it p.
    let Is : LogicalOp → Type 0 = λ op. HasTest (λ types. e.Logical Void op (value_of types c.args.left.now) (value_of types c.args.right.now))
    c.args.register c.args.on c.args.off from here it in
    subst Is (sym c.in-And.is) p) (λ here. grind fitting)

pub connecting::connected_test-returns-in-Or : goal.connecting::connected_test-returns-in-Or
connecting::connected_test-returns-in-Or t c =
    within c.disjunction.ensures (λ from here it p.
    let Is : LogicalOp → Type 0 = λ op. HasTest (λ types. e.Logical Void op (value_of types c.args.left.now) (value_of types c.args.right.now))
    c.args.register c.args.on c.args.off from here it in
    subst Is (sym c.in-Or.is) p) (λ here. grind fitting)

pub connecting::conjunction-returns : goal.connecting::conjunction-returns
connecting::conjunction-returns t c =
    then2 c.in_ok-further.ensures c.in_ok-settled.ensures c.test.ensures
    (λ from here it p q r known. connected_and (site_in here it) (value_of here.types c.args.left.now) (value_of here.types c.args.right.now)
    c.args.register (it.point from) (it.point c.args.on) (it.point c.args.off) _ _ (r known.0) (p known.1) q) (λ here. grind fitting)

pub connecting::disjunction-returns : goal.connecting::disjunction-returns
connecting::disjunction-returns t c =
    then2 c.in_ok-further.ensures c.in_ok-settled.ensures c.test.ensures
    (λ from here it p q r known. connected_or (site_in here it) (value_of here.types c.args.left.now) (value_of here.types c.args.right.now)
    c.args.register (it.point from) (it.point c.args.on) (it.point c.args.off) _ _ (r known.0) (p known.1) q) (λ here. grind fitting)

pub connecting::second-returns : goal.connecting::second-returns
connecting::second-returns t c =
    then3 c.in_ok-joined_on.ensures c.in_ok-joined_off.ensures c.in_ok-tested.ensures c.clash-3.ensures
    (λ from here it p q r s known. (_, _, (_, s, r known), p, q)) (λ here. grind fitting)

pub connecting::conditional-returns : goal.connecting::conditional-returns
connecting::conditional-returns t c =
    then3 c.in_ok-joined.ensures c.in_ok-on.ensures c.in_ok-off.ensures c.test.ensures
    (λ from here it p q r s known. (p.0, (_, (_, _, s known.0, q known.1, r known.2), p.1))) (λ here. grind fitting)

pub connecting::branch-returns : goal.connecting::branch-returns
connecting::branch-returns t c =
    then1 c.in_ok-chosen.ensures c.clash.ensures (λ from here it p q known.
    (_, q, fated (site_in here it) (value_of here.types c.args.v.now) c.of_branch.result _ _ _ c.of_branch.ensures (p known))) (λ here. grind fitting)

pub connecting::comma_part-returns : goal.connecting::comma_part-returns
connecting::comma_part-returns t c =
    then1 c.in_ok-behind.ensures c.value.ensures (λ from here it p q known.
    (_, fated (site_in here it) (value_of here.types c.args.v.now) c.of_part.result _ _ _ c.of_part.ensures (q known), p)) (λ here. grind fitting)

pub connecting::comma-parts-init : goal.connecting::comma-parts-init
connecting::comma-parts-init t c =
    none_within (λ row k. parts_cost row c.args.register) (λ row k. PartsStand c.of_last-last_fate.result row c.args.register c.args.to)
    c.args.parts.now _ c.args.to (omega arith) c.requires
    (λ here it known. refl)

pub connecting::comma-parts-preserved : goal.connecting::comma-parts-preserved
connecting::comma-parts-preserved t c =
    let parts = c.args.parts.now in
    let k = c.parts.at in
    let some : 0 < k = c.parts-test.true in
    let fits : k ≤ length parts = omega (arith, c.parts.auto.at) in
    let whole : (k - 1) + 1 ≡ k = omega (arith, some) in
    one_more_within (λ row k. parts_cost row c.args.register) (λ row k. PartsStand c.of_last-last_fate.result row c.args.register c.args.to)
    parts k c.parts.from c.index-parts-at.result c.in_ok-from.from some fits c.index-parts-at.is c.parts.invariant c.in_ok-from.ensures
    (λ here it p q known. part_stands (site_in here it) (fate_of c.of_last-last_fate.result) _ (value_of here.types c.index-parts-at.result)
    (values_in here.types (drop k parts)) c.args.register _ _ _
    (ap (λ n. nat_eq n (length parts)) whole ∙ last_is here.types parts k fits) (q known.0) (p known.1)) (λ here. grind fitting)

pub connecting::comma-returns : goal.connecting::comma-returns
connecting::comma-returns t c =
    then1 (as_given {P = PartsStand c.of_last-last_fate.result c.args.parts.now c.args.register c.args.to}
    (all_within (λ row k. parts_cost row c.args.register)
    (λ row k. PartsStand c.of_last-last_fate.result row c.args.register c.args.to) c.args.parts.now c.parts.at c.parts.from (omega arith) c.parts.invariant))
    c.constant.ensures
    (λ from here it p q known.
    let Of : Fate → Type 0 = λ f. parts_from (site_in here it) f (values_in here.types c.args.parts.now) c.args.register (it.point c.parts.from) (it.point c.args.to) in
    comma_stands (site_in here it) (fate_of c.args.fate) (values_in here.types c.args.parts.now) c.args.register _ _ _ q (subst Of c.of_last-last_fate.ensures (p known))) (λ here. grind fitting)

-- ---- calls

pub calling::values-arguments-init : goal.calling::values-arguments-init
calling::values-arguments-init t c =
    none_within (λ row k. arguments_cost row (c.args.register + k)) (λ row k. ArgumentsStand row (c.args.register + k) c.args.to)
    c.args.arguments.now _ c.args.to (omega arith) c.requires.point
    (λ here it known. refl)

pub calling::values-arguments-preserved : goal.calling::values-arguments-preserved
calling::values-arguments-preserved t c =
    let row = c.args.arguments.now in
    let k = c.arguments.at in
    let some : 0 < k = c.arguments-test.true in
    one_more_within (λ row k. arguments_cost row (c.args.register + k)) (λ row k. ArgumentsStand row (c.args.register + k) c.args.to)
    row k c.arguments.from c.index-arguments-at.result c.in_ok-from.from some (omega (arith, c.arguments.auto.at)) c.index-arguments-at.is
    c.arguments.invariant c.in_ok-from.ensures
    (λ here it p q known. values_more (site_in here it) here.types (drop k row) c.args.register k _ _ _ c.index-arguments-at.result some
    (q known.0) (p known.1)) (λ here. grind (fitting, some))

pub calling::values-returns : goal.calling::values-returns
calling::values-returns t c =
    as_given (arguments_all c.args.arguments.now c.arguments.at c.args.register c.args.to c.arguments.from (omega arith) c.arguments.invariant)

pub calling::call-returns : goal.calling::call-returns
calling::call-returns t c =
    then5 c.in_ok-called.ensures c.in_ok-ticked.ensures.code c.in_ok-passed.ensures c.in_ok-settled.ensures
    c.in_ok-joined.ensures c.values.ensures
    (λ from here it p q r s u v known.
    let t = type_in here.types c.args.ty in
    let vs = values_in here.types c.args.arguments.now in
    let Takes : Bool → Type 0 = λ b. call (site_in here it).stands here.stubs here.program.functions b c.args.name.now t c.args.register (length c.args.arguments.now)
    (it.point c.in_ok-called.called) (it.point c.args.to) in
    call_stands (site_in here it) (fate_of c.args.fate) t c.args.name.now vs c.args.register (length c.args.arguments.now) _ _ _ _ _ _ _ _
    (arguments_counted here.types c.args.arguments.now) (v known.1) u.1 u.2 s r q.0 (subst Takes c.takes.ensures (p known.0)))
    (λ here.
    let vs = values_in here.types c.args.arguments.now in
    grind (fitting, arguments_nodes vs, arguments_behind vs, arguments_counted here.types c.args.arguments.now))

-- ---- their arms

pub value-returns-in-Logical : goal.value-returns-in-Logical
value-returns-in-Logical t c =
    plain_arm c.args.v.now c.args.fate c.args.register c.args.to
    (λ types. e.Logical (type_in types c.in-Logical.field-0) c.in-Logical.op (value_of types c.deref-in-Logical.result.now) (value_of types c.deref-in-Logical-2.result.now))
    (λ types. ap (value_of types) c.in-Logical.is
    ∙ ap (λ v. e.Logical (type_in types c.in-Logical.field-0) c.in-Logical.op (value_of types v) (value_of types c.in-Logical.right.value)) (sym c.deref-in-Logical.ensures)
    ∙ ap (λ v. e.Logical (type_in types c.in-Logical.field-0) c.in-Logical.op (value_of types c.deref-in-Logical.result.now) (value_of types v)) (sym c.deref-in-Logical-2.ensures))
    c.connected.ensures

pub test-returns-in-Logical : goal.test-returns-in-Logical
test-returns-in-Logical t c =
    test_arm c.args.v.now c.args.register c.args.on c.args.off
    (λ types. e.Logical (type_in types c.in-Logical.field-0) c.in-Logical.op (value_of types c.deref-in-Logical.result.now) (value_of types c.deref-in-Logical-2.result.now))
    (λ types. ap (value_of types) c.in-Logical.is
    ∙ ap (λ v. e.Logical (type_in types c.in-Logical.field-0) c.in-Logical.op (value_of types v) (value_of types c.in-Logical.right.value)) (sym c.deref-in-Logical.ensures)
    ∙ ap (λ v. e.Logical (type_in types c.in-Logical.field-0) c.in-Logical.op (value_of types c.deref-in-Logical.result.now) (value_of types v)) (sym c.deref-in-Logical-2.ensures))
    c.connected_test.ensures

pub value-returns-in-Conditional : goal.value-returns-in-Conditional
value-returns-in-Conditional t c =
    value_arm c.args.v.now c.args.fate c.args.register c.args.to
    (λ types. e.Conditional (type_in types c.in-Conditional.field-0) (value_of types c.deref-in-Conditional.result.now) (value_of types c.deref-in-Conditional-2.result.now) (value_of types c.deref-in-Conditional-3.result.now))
    (λ types. ap (value_of types) c.in-Conditional.is
    ∙ ap (λ v. e.Conditional (type_in types c.in-Conditional.field-0) (value_of types v) (value_of types c.in-Conditional.left.value) (value_of types c.in-Conditional.right.value)) (sym c.deref-in-Conditional.ensures)
    ∙ ap (λ v. e.Conditional (type_in types c.in-Conditional.field-0) (value_of types c.deref-in-Conditional.result.now) (value_of types v) (value_of types c.in-Conditional.right.value)) (sym c.deref-in-Conditional-2.ensures)
    ∙ ap (λ v. e.Conditional (type_in types c.in-Conditional.field-0) (value_of types c.deref-in-Conditional.result.now) (value_of types c.deref-in-Conditional-2.result.now) (value_of types v)) (sym c.deref-in-Conditional-3.ensures))
    c.conditional.ensures

pub value-returns-in-Call : goal.value-returns-in-Call
value-returns-in-Call t c =
    value_arm c.args.v.now c.args.fate c.args.register c.args.to
    (λ types. e.Call (type_in types c.in-Call.ty) c.in-Call.name (values_in types c.as_slice.result.now))
    (λ types. call_is types c.in-Call.ty c.in-Call.name c.in-Call.all c.args.v.now c.in-Call.is
    ∙ ap (λ row. e.Call (type_in types c.in-Call.ty) c.in-Call.name (values_in types row)) (sym c.as_slice.ensures.value))
    c.call.ensures

pub value-returns-in-Comma : goal.value-returns-in-Comma
value-returns-in-Comma t c =
    value_arm c.args.v.now c.args.fate c.args.register c.args.to
    (λ types. e.Comma (type_in types c.in-Comma.field-0) (values_in types c.as_slice-in-Comma.result.now))
    (λ types. comma_is types c.in-Comma.field-0 c.in-Comma.parts c.args.v.now c.in-Comma.is
    ∙ ap (λ row. e.Comma (type_in types c.in-Comma.field-0) (values_in types row)) (sym c.as_slice-in-Comma.ensures.value))
    c.comma.ensures

pub value-returns-in-Marked : goal.value-returns-in-Marked
value-returns-in-Marked t c =
    value_arm c.args.v.now c.args.fate c.args.register c.args.to
    (λ types. e.Marked (type_in types c.in-Marked.field-0) (marks_in types c.as_slice-in-Marked.result.now) (value_of types c.deref-in-Marked.result.now))
    (λ types. marked_is types c.in-Marked.field-0 c.in-Marked.marks c.in-Marked.v c.args.v.now c.in-Marked.is
    ∙ ap (λ row. e.Marked (type_in types c.in-Marked.field-0) (marks_in types row) (value_of types c.in-Marked.v.value)) (sym c.as_slice-in-Marked.ensures.value)
    ∙ ap (λ v. e.Marked (type_in types c.in-Marked.field-0) (marks_in types c.as_slice-in-Marked.result.now) (value_of types v)) (sym c.deref-in-Marked.ensures))
    c.marked.ensures

pub test-returns-in-Marked : goal.test-returns-in-Marked
test-returns-in-Marked t c =
    test_arm c.args.v.now c.args.register c.args.on c.args.off
    (λ types. e.Marked (type_in types c.in-Marked.field-0) (marks_in types c.as_slice.result.now) (value_of types c.deref-in-Marked.result.now))
    (λ types. marked_is types c.in-Marked.field-0 c.in-Marked.marks c.in-Marked.v c.args.v.now c.in-Marked.is
    ∙ ap (λ row. e.Marked (type_in types c.in-Marked.field-0) (marks_in types row) (value_of types c.in-Marked.v.value)) (sym c.as_slice.ensures.value)
    ∙ ap (λ v. e.Marked (type_in types c.in-Marked.field-0) (marks_in types c.as_slice.result.now) (value_of types v)) (sym c.deref-in-Marked.ensures))
    c.marked_test.ensures

pub value-returns-in-Decide : goal.value-returns-in-Decide
value-returns-in-Decide t c =
    plain_arm c.args.v.now c.args.fate c.args.register c.args.to
    (λ types. e.Decide (type_in types c.in-Decide.ty) (value_of types c.deref-in-Decide.result.now) c.in-Decide.when_true c.in-Decide.when_false)
    (λ types. ap (value_of types) c.in-Decide.is
    ∙ ap (λ v. e.Decide (type_in types c.in-Decide.ty) (value_of types v) c.in-Decide.when_true c.in-Decide.when_false) (sym c.deref-in-Decide.ensures))
    c.decided.ensures

pub test-returns-in-Decide : goal.test-returns-in-Decide
test-returns-in-Decide t c =
    test_arm c.args.v.now c.args.register c.args.on c.args.off
    (λ types. e.Decide (type_in types c.in-Decide.ty) (value_of types c.deref-in-Decide.result.now) c.in-Decide.when_true c.in-Decide.when_false)
    (λ types. ap (value_of types) c.in-Decide.is
    ∙ ap (λ v. e.Decide (type_in types c.in-Decide.ty) (value_of types v) c.in-Decide.when_true c.in-Decide.when_false) (sym c.deref-in-Decide.ensures))
    c.decided_test.ensures
