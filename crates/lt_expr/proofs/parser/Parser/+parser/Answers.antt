use Rattle.std.proofs.Common.{◌≡◌, ◌-◌, false, length, drop, Some, refl, ap, sym, ◌∙◌, arith}
use Rattle.lt_tree.specs.declared.specifier.MemberDeclarator.{MemberDeclarator}
use Rattle.lt_tree.specs.declared.specifier.Enumerator.{Enumerator}
use Rattle.lt_tree.specs.Tree as tree
use Rattle.lt_tree.specs.View.{qualifiers_of, member_of}
use Rattle.lt_tree.specs.Records.{expressions_in, specifiers_of, declarator_of, parts_in, members_in, member_declarators_in, enumerators_in, maybe_in, parameter_list_in}
use Rattle.lt_tree.specs.Grammar.{joined}
use Rattle.lt_tree.specs.Scope.{after_parts, after_specifiers, after_member, after_members, after_member_declarator, after_member_declarators, after_enumerator, after_enumerators}
use Rattle.lt_expr.specs.Boxes.{boxed}
use Rattle.lt_expr.specs.Front.{Rest, behind, ended, qualifiers}
use Rattle.lt_expr.specs.FoundView.{specifier_of, found_of}
use Rattle.lt_expr.specs.Specifier.{after_specifier}
use Rattle.lt_expr.specs.Namings.{naming_of, part_alone}
use Rattle.lt_expr.specs.Parsing.{Parsing, rest_of, scope_of, GoesOn}
use Rattle.lt_expr.specs.Reading as reading
use Rattle.lt_expr.proofs.Calls.{gives_on}
use Rattle.lt_expr.proofs.ExpressionTurns.{parts_turn, parts_end, arguments_turn, arguments_begin, arguments_end, commas_read}
use Rattle.lt_expr.proofs.MarkTurns.{marks_turn, marks_end, bindings_turn, bindings_end}
use Rattle.lt_expr.proofs.MemberTurns.{OneDeclarator, OneEnumerator, specifiers_first, specifier_alone, further_turn, further_end, further_hide, members_turn, members_end, members_hide, one_declarator, declarators_turn, declarators_end, declarators_hide, one_enumerator, enumerators_turn, enumerators_over, enumerators_end, enumerators_hide}
use Rattle.lt_expr.proofs.HiddenNames.{joined_hidden, gathered_after}
use Rattle.lt_expr.proofs.Joins.{parts_push, parts_append}
use Rattle.lt_expr.proofs.Loops.{turned, stopped}
use Rattle.lt_expr.proofs.Scopes.{same_scope, read_there, within_here, within_on, within_declares, within_through, declares}
use Rattle.lt_expr.proofs.Turns.{OneParameter, goes_on, pointers_turn, direct_turn, suffixes_turn, suffixes_end, suffixes_hide, one_parameter, parameters_turn, parameters_end, below_one, below_next}
use Rattle.lt_expr.proofs.parser.Parser.+parser.Goals as goal

-- ---- expressions

pub boxed_expression-returns : goal.boxed_expression-returns
boxed_expression-returns t c =
    let on = goes_on c.args.self.now c.marked.new.self c.reopened.new.self c.in_ok-first.ensures.1 c.in_ok-first-2.ensures.2 in
    let on' = goes_on c.args.self.now c.reopened.new.self c.advance.new.self on c.advance.ensures.on in
    gives_on boxed c.args.self.now c.parts.new.self c.comma.new.parser c.comma.result _ _
    (goes_on c.args.self.now c.advance.new.self c.parts.new.self on' c.in_ok-parts.ensures.1)
    (commas_read c.args.depth c.in_ok-depth.depth (boxed c.in_ok-first.first) c.in_ok-first-2.first.items c.in_ok-parts.parts.items c.start-start.result
    c.args.self.now c.marked.new.self c.reopened.new.self c.advance.new.self c.parts.new.self
    c.in_ok-depth.ensures c.start-start.ensures c.in_ok-first.ensures.0 c.in_ok-first.ensures.1 (sym c.sees.ensures ∙ c.if-not-sees.false)
    c.in_ok-first-2.ensures.0 c.in_ok-first-2.ensures.1 c.in_ok-first-2.ensures.2 c.advance.ensures.rest c.advance.ensures.on c.in_ok-parts.ensures.0)
    c.comma.ensures

pub parts-returns-then-not-sees : goal.parts-returns-then-not-sees
parts-returns-then-not-sees t c = (
  sym c.more.invariant.read
      ∙ parts_end c.more.parts.items c.put.new.list.items c.in_ok-part.part.value c.more.depth c.in_ok-depth.depth c.more.self c.marked.new.self c.in_ok-depth.ensures c.in_ok-part.ensures.0
      (sym c.sees.ensures ∙ c.if-not-sees.true) c.in_ok-put.ensures,
  goes_on c.args.self.now c.more.self c.marked.new.self c.more.invariant.on c.in_ok-part.ensures.1,
)

pub parts-more-preserved : goal.parts-more-preserved
parts-more-preserved t c = record {
  read =
      parts_turn c.more.parts.items c.put.new.list.items c.in_ok-part.part.value c.more.depth c.in_ok-depth.depth c.more.self c.marked.new.self c.advance.new.self c.in_ok-depth.ensures c.in_ok-part.ensures.0 c.in_ok-part.ensures.1
      (sym c.sees.ensures ∙ c.if-not-sees.false) c.advance.ensures.rest c.advance.ensures.on c.in_ok-put.ensures
      ∙ c.more.invariant.read;
  within = (let h = c.more.invariant.within in let k = c.in_ok-depth.ensures in omega arith);
  on = goes_on c.args.self.now c.marked.new.self c.advance.new.self (goes_on c.args.self.now c.more.self c.marked.new.self c.more.invariant.on c.in_ok-part.ensures.1) c.advance.ensures.on;
}

pub arguments-returns-then-not-sees : goal.arguments-returns-then-not-sees
arguments-returns-then-not-sees t c = (
  arguments_begin (reading.arguments c.args.depth (scope_of c.args.self.now) (rest_of c.args.self.now)) (rest_of c.args.self.now) (sym c.sees.ensures ∙ c.if-sees.false)
      ∙ sym c.more.invariant.read
      ∙ arguments_end c.more.arguments.items c.put.new.list.items c.in_ok-argument.argument.value c.more.depth c.in_ok-depth.depth c.more.self c.boxed_assignment.new.self c.in_ok-depth.ensures c.in_ok-argument.ensures.0
      (sym c.sees-in-more.ensures ∙ c.if-not-sees.true) c.in_ok-put.ensures,
  goes_on c.args.self.now c.more.self c.boxed_assignment.new.self c.more.invariant.on c.in_ok-argument.ensures.1,
)

pub arguments-more-preserved : goal.arguments-more-preserved
arguments-more-preserved t c = record {
  read =
      arguments_turn c.more.arguments.items c.put.new.list.items c.in_ok-argument.argument.value c.more.depth c.in_ok-depth.depth c.more.self c.boxed_assignment.new.self c.advance.new.self c.in_ok-depth.ensures
      c.in_ok-argument.ensures.0 c.in_ok-argument.ensures.1 (sym c.sees-in-more.ensures ∙ c.if-not-sees.false) c.advance.ensures.rest c.advance.ensures.on c.in_ok-put.ensures
      ∙ c.more.invariant.read;
  within = (let h = c.more.invariant.within in let k = c.in_ok-depth.ensures in omega arith);
  on = goes_on c.args.self.now c.boxed_assignment.new.self c.advance.new.self (goes_on c.args.self.now c.more.self c.boxed_assignment.new.self c.more.invariant.on c.in_ok-argument.ensures.1) c.advance.ensures.on;
}

-- ---- marks

pub bindings-returns-then-not-sees : goal.bindings-returns-then-not-sees
bindings-returns-then-not-sees t c = (
  sym c.more.invariant.read
      ∙ bindings_end c.more.bound.items c.bind.new.list.items (record { name = c.in_ok-name.name; value = c.in_ok-value.value.value }) c.more.depth c.in_ok-depth.depth c.more.self c.bound_name.new.self c.boxed_assignment.new.self
      c.in_ok-depth.ensures c.in_ok-name.ensures.0 c.in_ok-name.ensures.1 c.in_ok-value.ensures.0 (sym c.sees.ensures ∙ c.if-not-sees.true) c.in_ok-bind.ensures,
  goes_on c.args.self.now c.bound_name.new.self c.boxed_assignment.new.self (goes_on c.args.self.now c.more.self c.bound_name.new.self c.more.invariant.on c.in_ok-name.ensures.1) c.in_ok-value.ensures.1,
)

pub bindings-more-preserved : goal.bindings-more-preserved
bindings-more-preserved t c = record {
  read =
      bindings_turn c.more.bound.items c.bind.new.list.items (record { name = c.in_ok-name.name; value = c.in_ok-value.value.value }) c.more.depth c.in_ok-depth.depth c.more.self c.bound_name.new.self c.boxed_assignment.new.self
      c.in_ok-depth.ensures c.in_ok-name.ensures.0 c.in_ok-name.ensures.1 c.in_ok-value.ensures.0 c.in_ok-value.ensures.1 (sym c.sees.ensures ∙ c.if-not-sees.false) c.in_ok-bind.ensures
      ∙ c.more.invariant.read;
  within = (let h = c.more.invariant.within in let k = c.in_ok-depth.ensures in omega arith);
  on = goes_on c.args.self.now c.bound_name.new.self c.boxed_assignment.new.self (goes_on c.args.self.now c.more.self c.bound_name.new.self c.more.invariant.on c.in_ok-name.ensures.1) c.in_ok-value.ensures.1;
}

pub marks-returns-then-not-begins_mark : goal.marks-returns-then-not-begins_mark
marks-returns-then-not-begins_mark t c = (
  sym c.more.invariant.read
      ∙ marks_end c.more.marks.items c.push.new.self.items c.in_ok-mark.mark c.more.depth c.in_ok-depth.depth c.more.self c.mark.new.self c.expect.new.self
      c.in_ok-depth.ensures c.in_ok-mark.ensures.0 c.in_ok-expect.ensures.0 (sym c.begins_mark.ensures ∙ c.if-not-begins_mark.true) c.in_ok-push.ensures.items,
  goes_on c.args.self.now c.mark.new.self c.expect.new.self (goes_on c.args.self.now c.more.self c.mark.new.self c.more.invariant.on c.in_ok-mark.ensures.1) c.in_ok-expect.ensures.1,
)

pub marks-more-preserved : goal.marks-more-preserved
marks-more-preserved t c = record {
  read =
      marks_turn c.more.marks.items c.push.new.self.items c.in_ok-mark.mark c.more.depth c.in_ok-depth.depth c.more.self c.mark.new.self c.expect.new.self
      c.in_ok-depth.ensures c.in_ok-mark.ensures.0 c.in_ok-mark.ensures.1 c.in_ok-expect.ensures.0 c.in_ok-expect.ensures.1 (sym c.begins_mark.ensures ∙ c.if-not-begins_mark.false) c.in_ok-push.ensures.items
      ∙ c.more.invariant.read;
  within = (let h = c.more.invariant.within in let k = c.in_ok-depth.ensures in omega arith);
  on = goes_on c.args.self.now c.mark.new.self c.expect.new.self (goes_on c.args.self.now c.more.self c.mark.new.self c.more.invariant.on c.in_ok-mark.ensures.1) c.in_ok-expect.ensures.1;
}

-- ---- specifiers

pub inner_specifiers-returns : goal.inner_specifiers-returns
inner_specifiers-returns t c =
    let scope = scope_of c.args.self.now in
    let found = found_of c.in_ok-found.found in
    let read = c.in_ok-found.ensures in (
      specifiers_first _ _ scope _ _ found c.in_ok-depth.ensures (sym c.begins_specifier.ensures ∙ c.if-not-begins_specifier.false) read.0 ∙ ap (λ s. Some (s, rest_of c.further.new.self)) (sym c.in_ok-all.ensures),
      declares _ _ _ (within_declares _ _ _ _ (within_here _) read.1)
          (read.1.scope ∙ sym (gathered_after found.words found.types scope) ∙ ap (λ s. after_specifiers s scope) (sym c.in_ok-all.ensures)),
    )

pub specifier-returns-else-sees-2 : goal.specifier-returns-else-sees-2
specifier-returns-else-sees-2 t c =
    specifier_alone specifier_of c.args.depth c.in_ok-depth.depth c.args.self.now c.one_specifier.new.self c.one_specifier.result c.in_ok-depth.ensures
    (sym c.sees.ensures ∙ c.if-sees.false) (sym c.sees-else-sees.ensures ∙ c.if-sees-2.false) c.one_specifier.ensures

pub further-more-preserved : goal.further-more-preserved
further-more-preserved t c =
    let one = c.in_ok-one.ensures in
    let s = specifier_of c.in_ok-one.one in
    let scope = one.1.scope in
    record {
      read =
          further_turn c.more.found c.in_ok-found.found s c.more.typed c.leaves_typed-typed.result c.more.depth c.in_ok-depth.depth c.more.self c.specifier.new.self c.in_ok-depth.ensures
          (sym c.begins_specifier.ensures ∙ c.if-not-begins_specifier.false) one.0 scope c.leaves_typed-typed.ensures c.in_ok-found.ensures
          ∙ c.more.invariant.read;
      within = (let h = c.more.invariant.within in let k = c.in_ok-depth.ensures in omega arith);
      scope = scope ∙ ap (after_specifier s) c.more.invariant.scope ∙ sym (further_hide (found_of c.more.found) (found_of c.in_ok-found.found) s (scope_of c.args.self.now) c.in_ok-found.ensures);
      names = within_declares _ _ _ _ c.more.invariant.names one.1;
    }

pub further-returns-then-not-begins_specifier : goal.further-returns-then-not-begins_specifier
further-returns-then-not-begins_specifier t c = (
  sym c.more.invariant.read ∙ further_end c.more.found c.more.typed c.more.depth c.in_ok-depth.depth c.more.self c.in_ok-depth.ensures (sym c.begins_specifier.ensures ∙ c.if-not-begins_specifier.true),
  declares _ _ _ c.more.invariant.names c.more.invariant.scope,
)

pub members-returns-then-sees : goal.members-returns-then-sees
members-returns-then-sees t c = (
  sym c.more.invariant.read
      ∙ members_end c.more.members.items c.more.depth c.in_ok-depth.depth c.more.self c.advance.new.self c.in_ok-depth.ensures (sym c.sees.ensures ∙ c.if-sees.true) c.advance.ensures.rest,
  declares _ _ _ (within_on _ _ _ c.more.invariant.names c.advance.ensures.on) (same_scope _ _ c.advance.ensures.on ∙ c.more.invariant.scope),
)

pub members-more-preserved : goal.members-more-preserved
members-more-preserved t c =
    let m = c.in_ok-member.member in
    let one = c.in_ok-member.ensures in
    record {
      read =
          members_turn c.more.members.items c.push.new.self.items m c.more.depth c.in_ok-depth.depth c.more.self c.member.new.self c.in_ok-depth.ensures (sym c.sees.ensures ∙ c.if-sees.false)
          one.0 one.1.scope c.in_ok-push.ensures.items
          ∙ c.more.invariant.read;
      within = (let h = c.more.invariant.within in let k = c.in_ok-depth.ensures in omega arith);
      scope =
          one.1.scope ∙ ap (after_member (member_of m)) c.more.invariant.scope
          ∙ sym (members_hide c.more.members.items m (scope_of c.args.self.now))
          ∙ ap (λ xs. after_members (members_in xs) (scope_of c.args.self.now)) (sym c.in_ok-push.ensures.items);
      names = within_declares _ _ _ _ c.more.invariant.names one.1;
    }

pub member_declarators-returns-then-not-sees : goal.member_declarators-returns-then-not-sees
member_declarators-returns-then-not-sees t c =
    let d : MemberDeclarator = record { declarator = c.in_ok-declarator.declarator; width = c.in_ok-width.width } in
    let naming = naming_of c.more.naming in
    let first = c.in_ok-declarator.ensures in
    let second = c.in_ok-width.ensures in
    let one : OneDeclarator c.in_ok-depth.depth naming c.more.self c.after_sign.new.self d =
    one_declarator c.in_ok-depth.depth naming c.more.self c.inner_declarator.new.self c.after_sign.new.self d first.0 first.1 second.0 second.1 in
    let end = c.in_ok-expect.ensures in (
      sym c.more.invariant.read
          ∙ declarators_end c.more.declarators.items c.push.new.self.items d naming c.more.depth c.in_ok-depth.depth c.more.self c.after_sign.new.self c.expect.new.self c.in_ok-depth.ensures one
          (sym c.sees.ensures ∙ c.if-not-sees.true) end.0 c.in_ok-push.ensures.items,
      declares _ _ _ (within_on _ _ _ (within_through _ _ _ c.more.invariant.names one.names) end.1)
          (same_scope _ _ end.1 ∙ one.scope ∙ ap (after_member_declarator (declarator_of d.declarator) (maybe_in d.width)) c.more.invariant.scope
          ∙ sym (declarators_hide c.more.declarators.items d (scope_of c.args.self.now))
          ∙ ap (λ xs. after_member_declarators (member_declarators_in xs) (scope_of c.args.self.now)) (sym c.in_ok-push.ensures.items)),
    )

pub member_declarators-more-preserved : goal.member_declarators-more-preserved
member_declarators-more-preserved t c =
    let d : MemberDeclarator = record { declarator = c.in_ok-declarator.declarator; width = c.in_ok-width.width } in
    let naming = naming_of c.more.naming in
    let first = c.in_ok-declarator.ensures in
    let second = c.in_ok-width.ensures in
    let one : OneDeclarator c.in_ok-depth.depth naming c.more.self c.after_sign.new.self d =
    one_declarator c.in_ok-depth.depth naming c.more.self c.inner_declarator.new.self c.after_sign.new.self d first.0 first.1 second.0 second.1 in
    record {
      read =
          declarators_turn c.more.declarators.items c.push.new.self.items d naming c.more.depth c.in_ok-depth.depth c.more.self c.after_sign.new.self c.advance.new.self c.in_ok-depth.ensures one
          (sym c.sees.ensures ∙ c.if-not-sees.false) c.advance.ensures.rest c.advance.ensures.on c.in_ok-push.ensures.items
          ∙ c.more.invariant.read;
      within = (let h = c.more.invariant.within in let k = c.in_ok-depth.ensures in omega arith);
      scope =
          same_scope _ _ c.advance.ensures.on ∙ one.scope ∙ ap (after_member_declarator (declarator_of d.declarator) (maybe_in d.width)) c.more.invariant.scope
          ∙ sym (declarators_hide c.more.declarators.items d (scope_of c.args.self.now))
          ∙ ap (λ xs. after_member_declarators (member_declarators_in xs) (scope_of c.args.self.now)) (sym c.in_ok-push.ensures.items);
      names = within_on _ _ _ (within_through _ _ _ c.more.invariant.names one.names) c.advance.ensures.on;
    }

pub enumerators-returns-then-not-sees : goal.enumerators-returns-then-not-sees
enumerators-returns-then-not-sees t c =
    let e : Enumerator = record { name = c.in_ok-name.name; value = c.in_ok-value.value } in
    let value = c.in_ok-value.ensures in
    let one : OneEnumerator c.in_ok-depth.depth c.more.self c.declare_enumerator.new.self e =
    one_enumerator c.in_ok-depth.depth c.start-start.result c.more.self c.name.new.self c.after_sign.new.self c.end.new.self c.declare_enumerator.new.self e c.start-start.ensures c.in_ok-name.ensures.0 c.in_ok-name.ensures.1
    value.0 value.1 c.in_ok-end.ensures.0 c.in_ok-end.ensures.1 c.in_ok-declare_enumerator.ensures in
    let names = within_through _ _ _ c.more.invariant.names one.names in
    let scope =
    one.scope ∙ ap (after_enumerator e.name (maybe_in e.value)) c.more.invariant.scope
    ∙ sym (enumerators_hide c.more.enumerators.items e (scope_of c.args.self.now))
    ∙ ap (λ xs. after_enumerators (enumerators_in xs) (scope_of c.args.self.now)) (sym c.in_ok-push.ensures.items) in
    let end = c.in_ok-expect.ensures in (
      sym c.more.invariant.read
          ∙ enumerators_end c.more.enumerators.items c.push.new.self.items e c.more.depth c.in_ok-depth.depth c.more.self c.declare_enumerator.new.self c.expect.new.self c.in_ok-depth.ensures one
          (sym c.sees.ensures ∙ c.if-not-sees.true) end.0 c.in_ok-push.ensures.items,
      declares _ _ _ (within_on _ _ _ names end.1) (same_scope _ _ end.1 ∙ scope),
    )

pub enumerators-returns-then-sees : goal.enumerators-returns-then-sees
enumerators-returns-then-sees t c =
    let e : Enumerator = record { name = c.in_ok-name.name; value = c.in_ok-value.value } in
    let value = c.in_ok-value.ensures in
    let one : OneEnumerator c.in_ok-depth.depth c.more.self c.declare_enumerator.new.self e =
    one_enumerator c.in_ok-depth.depth c.start-start.result c.more.self c.name.new.self c.after_sign.new.self c.end.new.self c.declare_enumerator.new.self e c.start-start.ensures c.in_ok-name.ensures.0 c.in_ok-name.ensures.1
    value.0 value.1 c.in_ok-end.ensures.0 c.in_ok-end.ensures.1 c.in_ok-declare_enumerator.ensures in
    let names = within_through _ _ _ c.more.invariant.names one.names in
    let scope =
    one.scope ∙ ap (after_enumerator e.name (maybe_in e.value)) c.more.invariant.scope
    ∙ sym (enumerators_hide c.more.enumerators.items e (scope_of c.args.self.now))
    ∙ ap (λ xs. after_enumerators (enumerators_in xs) (scope_of c.args.self.now)) (sym c.in_ok-push.ensures.items) in
    let on = goes_on _ _ _ c.advance.ensures.on c.advance-then-sees.ensures.on in (
      sym c.more.invariant.read
          ∙ enumerators_over c.more.enumerators.items c.push.new.self.items e c.more.depth c.in_ok-depth.depth c.more.self c.declare_enumerator.new.self c.advance.new.self c.advance-then-sees.new.self c.in_ok-depth.ensures one
          (sym c.sees.ensures ∙ c.if-not-sees.false) c.advance.ensures.rest (sym c.sees-in-more.ensures ∙ c.if-sees.true) c.advance-then-sees.ensures.rest c.in_ok-push.ensures.items,
      declares _ _ _ (within_on _ _ _ names on) (same_scope _ _ on ∙ scope),
    )

pub enumerators-more-preserved : goal.enumerators-more-preserved
enumerators-more-preserved t c =
    let e : Enumerator = record { name = c.in_ok-name.name; value = c.in_ok-value.value } in
    let value = c.in_ok-value.ensures in
    let one : OneEnumerator c.in_ok-depth.depth c.more.self c.declare_enumerator.new.self e =
    one_enumerator c.in_ok-depth.depth c.start-start.result c.more.self c.name.new.self c.after_sign.new.self c.end.new.self c.declare_enumerator.new.self e c.start-start.ensures c.in_ok-name.ensures.0 c.in_ok-name.ensures.1
    value.0 value.1 c.in_ok-end.ensures.0 c.in_ok-end.ensures.1 c.in_ok-declare_enumerator.ensures in
    let names = within_through _ _ _ c.more.invariant.names one.names in
    let scope =
    one.scope ∙ ap (after_enumerator e.name (maybe_in e.value)) c.more.invariant.scope
    ∙ sym (enumerators_hide c.more.enumerators.items e (scope_of c.args.self.now))
    ∙ ap (λ xs. after_enumerators (enumerators_in xs) (scope_of c.args.self.now)) (sym c.in_ok-push.ensures.items) in
    record {
      read =
          enumerators_turn c.more.enumerators.items c.push.new.self.items e c.more.depth c.in_ok-depth.depth c.more.self c.declare_enumerator.new.self c.advance.new.self c.in_ok-depth.ensures one
          (sym c.sees.ensures ∙ c.if-not-sees.false) c.advance.ensures.rest c.advance.ensures.on (sym c.sees-in-more.ensures ∙ c.if-sees.false) c.in_ok-push.ensures.items
          ∙ c.more.invariant.read;
      within = (let h = c.more.invariant.within in let k = c.in_ok-depth.ensures in omega arith);
      scope = same_scope _ _ c.advance.ensures.on ∙ scope;
      names = within_on _ _ _ names c.advance.ensures.on;
    }

-- ---- declarators

pub parameter_list-returns-then-not-goes_on_with_parameter :
    goal.parameter_list-returns-then-not-goes_on_with_parameter
parameter_list-returns-then-not-goes_on_with_parameter t c =
    let s = specifiers_of c.in_ok-specifiers.specifiers in
    let d = declarator_of c.in_ok-declarator.declarator in
    let first = c.in_ok-specifiers.ensures in
    let second = c.in_ok-declarator.ensures in
    let one : OneParameter c.in_ok-depth.depth c.more.self c.declare_parameter.new.self s d =
    one_parameter c.in_ok-depth.depth c.more.self c.inner_specifiers.new.self c.inner_declarator.new.self c.declare_parameter.new.self s d first.0 first.1 second.0 second.1 c.in_ok-declare_parameter.ensures in
    let below = below_one c.args.self.now c.more.self c.declare_parameter.new.self c.in_ok-depth.depth s d c.more.invariant.below one in
    let read =
    parameters_end c.more.list.items c.push.new.self.items c.parameter.result s d c.more.depth c.in_ok-depth.depth c.more.self c.declare_parameter.new.self c.parameter.ensures.specifiers c.parameter.ensures.declarator c.in_ok-depth.ensures one
    (sym c.goes_on_with_parameter.ensures ∙ c.if-not-goes_on_with_parameter.true) c.in_ok-push.ensures.items in (
      sym c.more.invariant.read ∙ read ∙ ap (λ r. Some (parameter_list_in c.push.new.self.items, r)) (sym (ap rest_of c.close_list.ensures)),
      record {
        symbols = ap (λ (p : Parsing). p.symbols) c.close_list.ensures ∙ one.symbols ∙ c.more.invariant.symbols;
        inner =
            ap (λ (p : Parsing). p.inner) c.close_list.ensures
            ∙ ap (λ k. drop (length c.declare_parameter.new.self.inner - k) c.declare_parameter.new.self.inner) c.more.invariant.around
            ∙ below.same;
        outer = ap (λ (p : Parsing). p.outer) c.close_list.ensures ∙ one.outer ∙ c.more.invariant.outer;
      },
    )

pub parameter_list-more-preserved : goal.parameter_list-more-preserved
parameter_list-more-preserved t c =
    let s = specifiers_of c.in_ok-specifiers.specifiers in
    let d = declarator_of c.in_ok-declarator.declarator in
    let first = c.in_ok-specifiers.ensures in
    let second = c.in_ok-declarator.ensures in
    let one : OneParameter c.in_ok-depth.depth c.more.self c.declare_parameter.new.self s d =
    one_parameter c.in_ok-depth.depth c.more.self c.inner_specifiers.new.self c.inner_declarator.new.self c.declare_parameter.new.self s d first.0 first.1 second.0 second.1 c.in_ok-declare_parameter.ensures in
    let below = below_one c.args.self.now c.more.self c.declare_parameter.new.self c.in_ok-depth.depth s d c.more.invariant.below one in
    record {
      read =
          parameters_turn c.more.list.items c.push.new.self.items c.parameter.result s d c.more.depth c.in_ok-depth.depth c.more.self c.declare_parameter.new.self c.advance.new.self c.parameter.ensures.specifiers c.parameter.ensures.declarator c.in_ok-depth.ensures one
          (sym c.goes_on_with_parameter.ensures ∙ c.if-not-goes_on_with_parameter.false) c.advance.ensures.rest c.advance.ensures.on c.in_ok-push.ensures.items
          ∙ c.more.invariant.read;
      within = (let h = c.more.invariant.within in let k = c.in_ok-depth.ensures in omega arith);
      symbols = c.advance.ensures.on.symbols ∙ one.symbols ∙ c.more.invariant.symbols;
      outer = c.advance.ensures.on.outer ∙ one.outer ∙ c.more.invariant.outer;
      around = c.more.invariant.around;
      below = below_next c.args.self.now c.declare_parameter.new.self c.advance.new.self below c.advance.ensures.on;
    }

pub pointers-returns : goal.pointers-returns
pointers-returns t c =
    let scope = scope_of c.args.self.now in
    let r = rest_of c.args.self.now in
    let ts = (qualifiers (drop 1 r.0)).1 in
    let read = c.in_ok-declarator.ensures in
    let own = parts_in c.in_ok-declarator.declarator.parts.items in
    let one = tree.Pointer (qualifiers_of c.qualifiers-quals.result) tree.no_parts in
    let parts : parts_in c.push.new.self.items ≡ joined own one = ap (λ xs. parts_in xs) c.in_ok-push.ensures.items ∙ parts_push c.in_ok-declarator.declarator.parts.items _ in
    let on : GoesOn c.args.self.now c.qualifiers-quals.new.self = goes_on _ _ _ c.advance.ensures.on c.qualifiers-quals.ensures.on in
    let names : scope_of c.qualifiers-quals.new.self ≡ scope = same_scope _ _ on in
    let quals : (qualifiers (drop 1 r.0)).0 ≡ qualifiers_of c.qualifiers-quals.result = ap (λ (x : Rest). (qualifiers x.0).0) (sym c.advance.ensures.rest) ∙ sym c.qualifiers-quals.ensures.value in
    let left : rest_of c.qualifiers-quals.new.self ≡ (ts, r.1) = c.qualifiers-quals.ensures.rest ∙ ap (λ (x : Rest). ((qualifiers x.0).1, x.1)) c.advance.ensures.rest in (
      pointers_turn c.args.depth c.in_ok-depth.depth scope (naming_of c.args.naming) r (rest_of c.pointers.new.self) (qualifiers_of c.qualifiers-quals.result) ts c.in_ok-declarator.declarator.name own c.in_ok-depth.ensures
          (sym c.sees.ensures ∙ c.if-not-sees.false) (ap (λ q. (q, ts)) quals)
          (ap (λ v. reading.pointers c.in_ok-depth.depth scope v (ts, r.1)) (sym c.behind_star.ensures)
          ∙ read_there (λ s x. reading.pointers c.in_ok-depth.depth s (naming_of c.behind_star.result) x) c.qualifiers-quals.new.self scope (ts, r.1) _ names left read.0)
          ∙ ap (λ (p : tree.Parts). Some ((c.in_ok-declarator.declarator.name, p), rest_of c.pointers.new.self)) (sym parts),
      declares _ _ _ (within_declares _ _ _ _ (within_on _ _ _ (within_here _) on) read.1)
          (read.1.scope ∙ ap (after_parts own) names ∙ sym (joined_hidden own one scope) ∙ ap (λ (p : tree.Parts). after_parts p scope) (sym parts)),
    )

pub direct-returns-then-begins_nested : goal.direct-returns-then-begins_nested
direct-returns-then-begins_nested t c =
    let scope = scope_of c.args.self.now in
    let n = c.in_ok-depth.depth in
    let inner = c.in_ok-inner.ensures in
    let end = c.in_ok-expect.ensures in
    let others = c.in_ok-suffixes.ensures in
    let own = parts_in c.in_ok-inner.inner.parts.items in
    let more = parts_in c.in_ok-suffixes.suffixes.items in
    let parts : parts_in c.append.new.self.items ≡ joined own more = ap (λ xs. parts_in xs) c.in_ok-append.ensures.items ∙ parts_append c.in_ok-inner.inner.parts.items c.in_ok-suffixes.suffixes.items in
    let names : scope_of c.advance.new.self ≡ scope = same_scope _ _ c.advance.ensures.on in
    let behind_inner : scope_of c.expect.new.self ≡ after_parts own scope = same_scope _ _ end.1 ∙ inner.1.scope ∙ ap (after_parts own) names in (
      direct_turn c.args.depth n scope (naming_of c.args.naming) (rest_of c.args.self.now) (rest_of c.pointers.new.self) (rest_of c.expect.new.self) (rest_of c.suffixes.new.self) c.in_ok-inner.inner.name own more c.in_ok-depth.ensures
          (sym c.begins_nested.ensures ∙ c.if-begins_nested.true)
          (read_there (λ s x. reading.pointers n s (naming_of c.args.naming) x) c.advance.new.self scope (behind (rest_of c.args.self.now)) _ names c.advance.ensures.rest inner.0) end.0
          (ap (λ s. reading.suffixes n s (rest_of c.expect.new.self)) (sym behind_inner) ∙ others.0)
          ∙ ap (λ (p : tree.Parts). Some ((c.in_ok-inner.inner.name, p), rest_of c.suffixes.new.self)) (sym parts),
      declares _ _ _ (within_declares _ _ _ _ (within_on _ _ _ (within_declares _ _ _ _ (within_on _ _ _ (within_here _) c.advance.ensures.on) inner.1) end.1) others.1)
          (others.1.scope ∙ ap (after_parts more) behind_inner ∙ sym (joined_hidden own more scope) ∙ ap (λ (p : tree.Parts). after_parts p scope) (sym parts)),
    )

pub suffixes-returns-then-not-begins_suffix : goal.suffixes-returns-then-not-begins_suffix
suffixes-returns-then-not-begins_suffix t c = (
  stopped (λ xs. joined (parts_in xs)) (λ n s r. reading.suffixes n s r) (λ xs. parts_in xs) c.more.parts.items _ _ _ _ _ _ _ refl c.in_ok-depth.ensures
      (suffixes_end c.more.parts.items _ _ _ (sym c.begins_suffix.ensures ∙ c.if-not-begins_suffix.true)) c.more.invariant.read,
  declares _ _ _ c.more.invariant.names c.more.invariant.scope,
)

pub suffixes-more-preserved : goal.suffixes-more-preserved
suffixes-more-preserved t c =
    let p = c.in_ok-part.part in
    let one = c.in_ok-part.ensures in
    record {
      read =
          turned (λ xs. joined (parts_in xs)) (λ n s r. reading.suffixes n s r) (λ n s r. reading.suffixes n s r) c.more.parts.items c.push.new.self.items p _ _ _ _ _ _ _ _ _ c.in_ok-push.ensures.items
          one.1.scope refl c.in_ok-depth.ensures
          (suffixes_turn c.more.parts.items p _ _ _ _ (sym c.begins_suffix.ensures ∙ c.if-not-begins_suffix.false) one.0) c.more.invariant.read;
      within = (let h = c.more.invariant.within in let k = c.in_ok-depth.ensures in omega arith);
      scope =
          one.1.scope ∙ ap (after_parts (part_alone p)) c.more.invariant.scope
          ∙ sym (suffixes_hide c.more.parts.items p (scope_of c.args.self.now))
          ∙ ap (λ xs. after_parts (parts_in xs) (scope_of c.args.self.now)) (sym c.in_ok-push.ensures.items);
      names = within_declares _ _ _ _ c.more.invariant.names one.1;
    }
