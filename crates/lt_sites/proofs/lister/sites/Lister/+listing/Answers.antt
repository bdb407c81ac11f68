use Rattle.std.proofs.Common.{refl, sym, ap, ◌∙◌, arith}
use Rattle.lt_tree.specs.declared.mark.Binding.{Binding}
use Rattle.lt_tree.specs.View.{expression_of, mark_of, member_of}
use Rattle.lt_tree.specs.Records.{maybe_in, declarator_of, expressions_in, marks_in, bindings_in, types_in, members_in, member_declarators_in, enumerators_in, parts_in, parameter_list_in}
use Rattle.lt_tree.specs.Nodes.{a_declarator, a_mark, a_member, an_enumerator, an_expression, in_expression, in_expressions, in_marks, in_bindings, in_types, in_members, in_member_declarators, in_enumerators, in_parts, in_parameter_list}
use Rattle.lt_sites.specs.Listed.{listed, entries, inside}
use Rattle.lt_sites.proofs.Grown.{ok_then, left, no_fewer, two, at_end, whole, one_more}
use Rattle.lt_sites.proofs.Nodes.{expression_node}
use Rattle.lt_sites.proofs.Rows.{call_within, comma_within, marked_within, sizeof_within, cast_within, named_node, parted_node, mark_node, member_node, members_more, struct_nodes, enum_nodes, parts_more, parameters_nodes}
use Rattle.lt_sites.proofs.lister.sites.Lister.+listing.Goals as goal
use Rattle.lt_sites.proofs.lister.sites.Lister.+listing.Goals.{declarator-else-is_none-via-then-is_none+else-is_empty, declarator-else-is_none-via-else-is_none}

-- ---- rows

pub expressions-expressions-init : goal.expressions-expressions-init
expressions-expressions-init t c = at_end (λ xs. in_expressions (expressions_in xs)) c.args.list.now _ (entries c.args.self.now) refl refl

pub expressions-expressions-preserved : goal.expressions-expressions-preserved
expressions-expressions-preserved t c =
    one_more (λ xs. in_expressions (expressions_in xs)) _ c.args.list.now c.expressions.at c.index-list-at.result (entries c.args.self.now) (entries c.expressions.self) (entries c.expression.new.self) (omega arith) (omega arith) c.index-list-at.is
    (λ rest. refl) c.expressions.invariant c.in_ok-expression.ensures

pub expressions-returns : goal.expressions-returns
expressions-returns t c = whole (λ xs. in_expressions (expressions_in xs)) c.args.list.now c.expressions.at (entries c.args.self.now) (entries c.expressions.self) c.expressions-test.false c.expressions.invariant

pub marks-marks-init : goal.marks-marks-init
marks-marks-init t c = at_end (λ xs. in_marks (marks_in xs)) c.args.list.now _ (entries c.args.self.now) refl refl

pub marks-marks-preserved : goal.marks-marks-preserved
marks-marks-preserved t c =
    one_more (λ xs. in_marks (marks_in xs)) _ c.args.list.now c.marks.at c.index-list-at.result (entries c.args.self.now) (entries c.marks.self) (entries c.mark.new.self) (omega arith) (omega arith) c.index-list-at.is
    (λ rest. refl) c.marks.invariant c.in_ok-mark.ensures

pub marks-returns : goal.marks-returns
marks-returns t c = whole (λ xs. in_marks (marks_in xs)) c.args.list.now c.marks.at (entries c.args.self.now) (entries c.marks.self) c.marks-test.false c.marks.invariant

pub bindings-bindings-init : goal.bindings-bindings-init
bindings-bindings-init t c = at_end (λ xs. in_bindings (bindings_in xs)) c.args.list.now _ (entries c.args.self.now) refl refl

pub bindings-bindings-preserved : goal.bindings-bindings-preserved
bindings-bindings-preserved t c =
    one_more (λ xs. in_bindings (bindings_in xs)) (in_expression (expression_of c.index-list-at.result.value)) c.args.list.now c.bindings.at c.index-list-at.result (entries c.args.self.now) (entries c.bindings.self) (entries c.expression.new.self) (omega arith) (omega arith) c.index-list-at.is
    (λ rest. refl) c.bindings.invariant (c.in_ok-expression.ensures ∙ ap (λ (b : Binding). listed (in_expression (expression_of b.value)) (entries c.bindings.self)) (sym c.index-list-at.is))

pub bindings-returns : goal.bindings-returns
bindings-returns t c = whole (λ xs. in_bindings (bindings_in xs)) c.args.list.now c.bindings.at (entries c.args.self.now) (entries c.bindings.self) c.bindings-test.false c.bindings.invariant

pub types-types-init : goal.types-types-init
types-types-init t c = at_end (λ xs. in_types (types_in xs)) c.args.list.now _ (entries c.args.self.now) refl refl

pub types-types-preserved : goal.types-types-preserved
types-types-preserved t c =
    one_more (λ xs. in_types (types_in xs)) _ c.args.list.now c.types.at c.index-list-at.result (entries c.args.self.now) (entries c.types.self) (entries c.type_specifier.new.self) (omega arith) (omega arith) c.index-list-at.is
    (λ rest. refl) c.types.invariant c.in_ok-type_specifier.ensures

pub types-returns : goal.types-returns
types-returns t c = whole (λ xs. in_types (types_in xs)) c.args.list.now c.types.at (entries c.args.self.now) (entries c.types.self) c.types-test.false c.types.invariant

pub members-members-init : goal.members-members-init
members-members-init t c = at_end (λ xs. in_members (members_in xs)) c.args.list.now _ (entries c.args.self.now) refl refl

pub members-members-preserved : goal.members-members-preserved
members-members-preserved t c =
    one_more (λ xs. in_members (members_in xs)) _ c.args.list.now c.members.at c.index-list-at.result (entries c.args.self.now) (entries c.members.self) (entries c.member.new.self) (omega arith) (omega arith) c.index-list-at.is
    (members_more c.index-list-at.result) c.members.invariant c.in_ok-member.ensures

pub members-returns : goal.members-returns
members-returns t c = whole (λ xs. in_members (members_in xs)) c.args.list.now c.members.at (entries c.args.self.now) (entries c.members.self) c.members-test.false c.members.invariant

pub member_declarators-declarators-init : goal.member_declarators-declarators-init
member_declarators-declarators-init t c = at_end (λ xs. in_member_declarators (member_declarators_in xs)) c.args.list.now _ (entries c.args.self.now) refl refl

pub member_declarators-declarators-preserved : goal.member_declarators-declarators-preserved
member_declarators-declarators-preserved t c =
    one_more (λ xs. in_member_declarators (member_declarators_in xs)) _ c.args.list.now c.declarators.at c.index-list-at.result (entries c.args.self.now) (entries c.declarators.self) (entries c.member_declarator.new.self) (omega arith) (omega arith) c.index-list-at.is
    (λ rest. refl) c.declarators.invariant c.in_ok-member_declarator.ensures

pub member_declarators-returns : goal.member_declarators-returns
member_declarators-returns t c = whole (λ xs. in_member_declarators (member_declarators_in xs)) c.args.list.now c.declarators.at (entries c.args.self.now) (entries c.declarators.self) c.declarators-test.false c.declarators.invariant

pub enumerators-enumerators-init : goal.enumerators-enumerators-init
enumerators-enumerators-init t c = at_end (λ xs. in_enumerators (enumerators_in xs)) c.args.list.now _ (entries c.args.self.now) refl refl

pub enumerators-enumerators-preserved : goal.enumerators-enumerators-preserved
enumerators-enumerators-preserved t c =
    one_more (λ xs. in_enumerators (enumerators_in xs)) _ c.args.list.now c.enumerators.at c.index-list-at.result (entries c.args.self.now) (entries c.enumerators.self) (entries c.enumerator.new.self) (omega arith) (omega arith) c.index-list-at.is
    (λ rest. refl) c.enumerators.invariant c.in_ok-enumerator.ensures

pub enumerators-returns : goal.enumerators-returns
enumerators-returns t c = whole (λ xs. in_enumerators (enumerators_in xs)) c.args.list.now c.enumerators.at (entries c.args.self.now) (entries c.enumerators.self) c.enumerators-test.false c.enumerators.invariant

pub parts-parts-init : goal.parts-parts-init
parts-parts-init t c = at_end (λ xs. in_parts (parts_in xs)) c.args.list.now _ (entries c.args.self.now) refl refl

pub parts-parts-preserved : goal.parts-parts-preserved
parts-parts-preserved t c =
    one_more (λ xs. in_parts (parts_in xs)) _ c.args.list.now c.parts.at c.index-list-at.result (entries c.args.self.now) (entries c.parts.self) (entries c.part.new.self) (omega arith) (omega arith) c.index-list-at.is
    (λ rest. parts_more c.index-list-at.result (parts_in rest)) c.parts.invariant c.in_ok-part.ensures

pub parts-returns : goal.parts-returns
parts-returns t c = whole (λ xs. in_parts (parts_in xs)) c.args.list.now c.parts.at (entries c.args.self.now) (entries c.parts.self) c.parts-test.false c.parts.invariant

pub parameter_list-parameters-init : goal.parameter_list-parameters-init
parameter_list-parameters-init t c = at_end (λ xs. in_parameter_list (parameter_list_in xs)) c.args.list.now _ (entries c.args.self.now) refl refl

pub parameter_list-parameters-preserved : goal.parameter_list-parameters-preserved
parameter_list-parameters-preserved t c =
    one_more (λ xs. in_parameter_list (parameter_list_in xs)) _ c.args.list.now c.parameters.at c.index-list-at.result (entries c.args.self.now) (entries c.parameters.self) (entries c.parameter.new.self) (omega arith) (omega arith) c.index-list-at.is
    (λ rest. refl) c.parameters.invariant c.in_ok-parameter.ensures

pub parameter_list-returns : goal.parameter_list-returns
parameter_list-returns t c = whole (λ xs. in_parameter_list (parameter_list_in xs)) c.args.list.now c.parameters.at (entries c.args.self.now) (entries c.parameters.self) c.parameters-test.false c.parameters.invariant

-- ---- nodes

pub expression-leave-requires : goal.expression-leave-requires
expression-leave-requires t c = no_fewer _ (entries c.args.self.now) _ _ c.in_ok-operands.ensures c.len-start.ensures

pub expression-returns : goal.expression-returns
expression-returns t c =
    let e = expression_of c.args.e.now in
    ok_then _ _ c.leave.ensures (left (an_expression e) (inside (an_expression e)) (entries c.args.self.now) _ _ 0 (expression_node e) c.in_ok-operands.ensures c.len-start.ensures refl)

pub enumerator-leave-requires : goal.enumerator-leave-requires
enumerator-leave-requires t c = no_fewer _ (entries c.args.self.now) _ _ c.in_ok-maybe.ensures c.len-start.ensures

pub enumerator-returns : goal.enumerator-returns
enumerator-returns t c =
    let e = c.args.enumerator.now in
    ok_then _ _ c.leave.ensures (left (an_enumerator e.name (maybe_in e.value)) _ (entries c.args.self.now) _ _ 0 refl c.in_ok-maybe.ensures c.len-start.ensures refl)

pub mark-leave-requires : goal.mark-leave-requires
mark-leave-requires t c = no_fewer _ (entries c.args.self.now) _ _ (c.in_ok-expression.ensures ∙ two _ _ _ _ c.in_ok-bindings.ensures) c.len-start.ensures

pub mark-returns : goal.mark-returns
mark-returns t c =
    let m = c.args.mark.now in
    ok_then _ _ c.leave.ensures
    (left (a_mark (mark_of m)) _ (entries c.args.self.now) _ _ 0 (mark_node m)
    (c.in_ok-expression.ensures ∙ two _ _ _ _ (c.in_ok-bindings.ensures ∙ ap (λ xs. listed (in_bindings (bindings_in xs)) (entries c.args.self.now)) c.as_slice.ensures.value)) c.len-start.ensures refl)

pub member-leave-requires : goal.member-leave-requires
member-leave-requires t c = no_fewer _ (entries c.args.self.now) _ _ (c.in_ok-specifiers.ensures ∙ two _ _ _ _ c.in_ok-member_declarators.ensures) c.len-start.ensures

pub member-returns : goal.member-returns
member-returns t c =
    let m = c.args.member.now in
    ok_then _ _ c.leave.ensures
    (left (a_member (member_of m)) _ (entries c.args.self.now) _ _ 0 (member_node m)
    (c.in_ok-specifiers.ensures ∙ two _ _ _ _ (c.in_ok-member_declarators.ensures ∙ ap (λ xs. listed (in_member_declarators (member_declarators_in xs)) (entries c.args.self.now)) c.as_slice.ensures.value)) c.len-start.ensures refl)

pub declarator-leave-requires : goal.declarator-leave-requires
declarator-leave-requires t c = no_fewer _ (entries c.args.self.now) _ _ c.in_ok-parts.ensures c.len-start.ensures

pub declarator-returns : goal.declarator-returns
declarator-returns t c =
    let d = c.args.declarator.now in
    let before = entries c.args.self.now in
    let parts = c.in_ok-parts.ensures ∙ ap (λ xs. listed (in_parts (parts_in xs)) before) c.as_slice.ensures.value in
    elim c.else-is_none.branch [
      | declarator-else-is_none-via-then-is_none+else-is_empty w ↦
          ok_then _ _ c.leave.ensures (left (a_declarator (declarator_of d)) _ before _ _ 0 (parted_node d.name d.parts.items _ (cc) w.if-is_empty.ensures) parts c.len-start.ensures refl)
      | declarator-else-is_none-via-else-is_none w ↦
          ok_then _ _ c.leave.ensures (left (a_declarator (declarator_of d)) _ before _ _ 0 (named_node d.name d.parts.items w.if-is_none.ensures) parts c.len-start.ensures refl)
    ]

-- ---- inside of a node

pub operands-returns-in_ok-expressions-in-Call : goal.operands-returns-in_ok-expressions-in-Call
operands-returns-in_ok-expressions-in-Call t c =
    ok_then _ _ c.expression.ensures
    (two _ _ _ _ c.in_ok-expressions-in-Call.ensures ∙ ap (λ ns. listed ns (entries c.args.self.now)) (call_within c.args.e.now c.in-Call.callee c.in-Call.arguments _ _ c.in-Call.is c.deref.ensures c.as_slice.ensures.value))

pub operands-returns-in-SizeofType : goal.operands-returns-in-SizeofType
operands-returns-in-SizeofType t c =
    ok_then _ _ c.type_name.ensures (ap (λ ns. listed ns (entries c.args.self.now)) (sizeof_within c.args.e.now c.in-SizeofType.name _ c.in-SizeofType.is c.deref-in-SizeofType.ensures))

pub operands-returns-in_ok-expression-in-Cast : goal.operands-returns-in_ok-expression-in-Cast
operands-returns-in_ok-expression-in-Cast t c =
    ok_then _ _ c.type_name-in-Cast.ensures
    (two _ _ _ _ c.in_ok-expression-in-Cast.ensures ∙ ap (λ ns. listed ns (entries c.args.self.now)) (cast_within c.args.e.now c.in-Cast.name c.in-Cast.operand _ _ c.in-Cast.is c.deref-in-Cast-2.ensures c.deref-in-Cast.ensures))

pub operands-returns-in-Comma : goal.operands-returns-in-Comma
operands-returns-in-Comma t c =
    ok_then _ _ c.expressions-in-Comma.ensures (ap (λ ns. listed ns (entries c.args.self.now)) (comma_within c.args.e.now c.in-Comma.parts _ c.in-Comma.is c.as_slice-in-Comma.ensures.value))

pub operands-returns-in_ok-expression-in-Marked : goal.operands-returns-in_ok-expression-in-Marked
operands-returns-in_ok-expression-in-Marked t c =
    ok_then _ _ c.marks.ensures
    (two _ _ _ _ c.in_ok-expression-in-Marked.ensures ∙ ap (λ ns. listed ns (entries c.args.self.now)) (marked_within c.args.e.now c.in-Marked.marks c.in-Marked.value _ _ c.in-Marked.is c.deref-in-Marked.ensures c.as_slice-in-Marked.ensures.value))

pub type_specifier-returns-in-Struct : goal.type_specifier-returns-in-Struct
type_specifier-returns-in-Struct t c =
    ok_then _ _ c.members.ensures (ap (λ ns. listed ns (entries c.args.self.now)) (struct_nodes c.args.kind.now _ c.in-Struct.members _ c.in-Struct.is c.as_slice.ensures.value))

pub type_specifier-returns-in-Enum : goal.type_specifier-returns-in-Enum
type_specifier-returns-in-Enum t c =
    ok_then _ _ c.enumerators.ensures (ap (λ ns. listed ns (entries c.args.self.now)) (enum_nodes c.args.kind.now _ c.in-Enum.enumerators _ c.in-Enum.is c.as_slice-in-Enum.ensures.value))

pub parameters-returns-in-Listed : goal.parameters-returns-in-Listed
parameters-returns-in-Listed t c =
    ok_then _ _ c.parameter_list.ensures (ap (λ ns. listed ns (entries c.args.self.now)) (parameters_nodes c.args.parameters.now c.in-Listed.list _ c.in-Listed.is c.as_slice.ensures.value))
