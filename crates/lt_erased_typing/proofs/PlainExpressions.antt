-- Marks can be taken off plain expressions.
use Rattle.std.proofs.Common.{◌≡◌, Bool, true, false, refl, sym}
use Rattle.std.proofs.lemmas.Bool.{false≢true}
use Rattle.lt_tree.specs.declared.expression.UnaryOp.{UnaryOp}
use Rattle.lt_tree.specs.declared.expression.UnaryOp.TheVariants as unary
use Rattle.lt_tree.specs.Tree as c
use Rattle.lt_tree.specs.Typing.Types.{adjusted}
use Rattle.lt_tree.specs.Typing.Entities.{Known}
use Rattle.lt_tree.specs.Typing.Expressions.{Use, as_value, as_truth, as_place, as_callee}
use Rattle.lt_tree.specs.Typing.Operations.{is_callee}
use Rattle.lt_tree.specs.Typing.NodeEnds.{operand_of}
use Rattle.lt_tree.specs.Typing.Specifying.{is_register, elsewhere}
use Rattle.lt_tree.specs.Typing.Declarators.{setting_in_sizeof, parameter_faults}
use Rattle.lt_tree.specs.Typing.ExpressionTyping.{expression}
use Rattle.lt_objectives.specs.Copies.{is_core}
use Rattle.lt_erased_typing.specs.Erasable.{CanBeErasedWith, CanEachBeErased, CanLengthsBeErased, CanPartsBeErased, CanParametersBeErased, CanListBeErased, AreKnown, ShowsNull, Behind, entered, unmarked, in_scope}
use Rattle.lt_erased_typing.specs.Plain.{IsPlainWith, ArePlain, ArePlainMarks, IsPlainDeclarator, ArePlainParts, ArePlainParameters, IsPlainList, MayTake}
use Rattle.lt_erased_typing.specs.Laws.{PlainExpressionsCanBeErased}
use Rattle.lt_erased_typing.proofs.Texts.{IsNamed}
use Rattle.lt_erased_typing.proofs.TypeNames.{written_somewhere}
use Rattle.lt_erased_typing.proofs.Shows.{taken, behind_both, behind_so, shows}
use Rattle.lt_erased_typing.proofs.Expressions.{operand_no_callee}
use Rattle.lt_erased_typing.proofs.PlainWalks.{here_near, near_after, named_near, IsNear, near, went, bind, entered_near, constant_near, constant_walk, found_labels, behind_found}
use Rattle.lt_erased_typing.proofs.Found.{found_specifiers, found_expression, found_marks, found_declarator, found_parameters}
use Rattle.lt_erased_typing.proofs.SameTags.{parameters_there, list_there}
use Rattle.lt_erased_typing.proofs.PlainScopes.{scope_tags, scope_found, behind_bound}
use Rattle.lt_erased_typing.proofs.SizesAndCasts.{any_type_name, of_parts_can}

known_near : {texts : Bool} {known k : Known} (s : c.Specifiers) → IsNear texts known k → AreKnown known.frames s → AreKnown k.frames s
known_near s (near more) h = h

marks_near : {texts : Bool} {known k : Known} (ms : c.Marks) → IsNear texts known k → ArePlainMarks texts known.frames ms → ArePlainMarks texts k.frames ms
marks_near ms (near more) h = h

-- how an operand of `&` stands
free_of_marks : (op : UnaryOp) (operand : c.Expression) → MayTake op operand → operand_of op ≡ as_place → is_core operand ≡ true
free_of_marks unary.AddressOf operand h e = h
free_of_marks unary.Not operand h e = absurd cc
free_of_marks unary.Dereference operand h e = absurd cc
free_of_marks unary.Plus operand h e = absurd cc
free_of_marks unary.Minus operand h e = absurd cc
free_of_marks unary.Complement operand h e = absurd cc

mutual
  pub erasable : {texts : Bool} {known k : Known} → IsNamed texts known → (it : c.Expression) (role : Use) → is_callee role ≡ false
      → (role ≡ as_place → is_core it ≡ true) → IsNear texts known k → IsPlainWith texts known.frames it → CanBeErasedWith texts role k it
  erasable named (c.Name name) role n core s h = tt
  erasable named (c.Constant text) role n core s h = tt
  erasable named (c.Text bytes) role n core s h = h
  erasable named (c.Index whole index) role n core s h = (
    erasable named whole as_value refl (λ e. absurd cc) (entered_near s) h.0,
    taken (behind_found (found_expression whole as_value (entered_near s) h.0) (λ x l s. erasable named index as_value refl (λ e. absurd cc) s h.1)),
  )
  erasable named (c.Call callee arguments) role n core s h = absurd h
  erasable named (c.Member whole w) role n core s h = erasable named whole as_place refl (λ e. h.0) (entered_near s) h.1
  erasable named (c.Arrow pointer w) role n core s h = erasable named pointer as_value refl (λ e. absurd cc) (entered_near s) h
  erasable named (c.PostInc target) role n core s h = absurd h
  erasable named (c.PostDec target) role n core s h = absurd h
  erasable named (c.PreInc target) role n core s h = absurd h
  erasable named (c.PreDec target) role n core s h = absurd h
  erasable named (c.Unary op operand) role n core s h = erasable named operand (operand_of op) (operand_no_callee op) (free_of_marks op operand h.0) (entered_near s) h.1
  erasable {known = known} named (c.SizeofExpr operand) role n core s h = erasable {known = unmarked known} named operand as_place refl (λ e. h.0) (constant_near (entered_near s)) h.1
  erasable named (c.SizeofType sp (c.declarator name ps)) role n core s h = (
    known_near sp s h.0,
    taken (behind_found (found_specifiers sp (setting_in_sizeof (c.declarator name ps)) (written_somewhere name ps) (entered_near s) h.0) (λ it l s. erasable_lengths named (c.declarator name ps) s h.1)),
  )
  erasable named (c.Cast sp d operand) role n core s h = (
    known_near sp s h.0,
    taken (behind_found (found_specifiers sp elsewhere refl (entered_near s) h.0) (λ it l s. (
      erasable_lengths named d s h.1,
      taken (behind_found (found_declarator any_type_name d it s h.1) (λ t l s. erasable named operand as_value refl (λ e. absurd cc) s h.2)),
    ))),
  )
  erasable named (c.Binary op left right) role n core s h = (
    erasable named left as_value refl (λ e. absurd cc) (entered_near s) h.0,
    taken (behind_found (found_expression left as_value (entered_near s) h.0) (λ x l s. erasable named right as_value refl (λ e. absurd cc) s h.1)),
  )
  erasable named (c.Logical op left right) role n core s h = (
    erasable named left as_truth refl (λ e. absurd cc) (entered_near s) h.0,
    taken (behind_found (found_expression left as_truth (entered_near s) h.0) (λ x l s. erasable named right as_truth refl (λ e. absurd cc) s h.1)),
  )
  erasable {texts = texts} named (c.Conditional test left right) role n core s h = (
    erasable named test as_truth refl (λ e. absurd cc) (entered_near s) h.0,
    taken (behind_found (found_expression test as_truth (entered_near s) h.0) (λ o l s.
        let first = erasable named left as_value refl (λ e. absurd cc) s h.2 in (
          first,
          taken (behind_so (behind_both (shows left l (named_near named s) first h.1) (behind_found {C = λ x last. CanBeErasedWith texts as_value last right × Behind (expression right as_value last) (λ y end. ShowsNull y)} (found_expression left as_value s h.2) (λ x last s.
              let second = erasable named right as_value refl (λ e. absurd cc) s h.4 in (second, taken (shows right last (named_near named s) second h.3)))))
              (λ x last b. (b.0, b.1.0, b.1.1))),
        ))),
  )
  erasable named (c.Assign op target value) role n core s h = absurd h
  erasable named (c.Comma c.no_expressions) role n core s h = absurd h
  erasable named (c.Comma (c.an_expression first c.no_expressions)) role n core s h = absurd h
  erasable named (c.Comma (c.an_expression first (c.an_expression second rest))) role n core s h = erasable_each named (c.an_expression first (c.an_expression second rest)) (entered_near s) h
  erasable {k = k} named (c.Marked ms value) as_value n core s h = (
    tt,
    taken (behind_found (found_marks {known = entered k} ms (here_near (entered k)) (marks_near ms (entered_near s) h.0)) (λ typed l t. (found_labels t, erasable named value as_value refl (λ e. absurd cc) (near_after (entered_near s) t) h.1))),
  )
  erasable {k = k} named (c.Marked ms value) as_truth n core s h = (
    tt,
    taken (behind_found (found_marks {known = entered k} ms (here_near (entered k)) (marks_near ms (entered_near s) h.0)) (λ typed l t. (found_labels t, erasable named value as_truth refl (λ e. absurd cc) (near_after (entered_near s) t) h.1))),
  )
  erasable named (c.Marked ms value) as_place n core s h = absurd (false≢true (core refl))
  erasable named (c.Marked ms value) as_callee n core s h = absurd (false≢true (sym n))
  erasable named (c.Decide operand when_true when_false tag) as_value n core s h = erasable named operand as_value refl (λ e. absurd cc) (entered_near s) h
  erasable named (c.Decide operand when_true when_false tag) as_truth n core s h = erasable named operand as_truth refl (λ e. absurd cc) (entered_near s) h
  erasable named (c.Decide operand when_true when_false tag) as_place n core s h = absurd (false≢true (core refl))
  erasable named (c.Decide operand when_true when_false tag) as_callee n core s h = absurd (false≢true (sym n))
  erasable named (c.After operand id tag) as_value n core s h = (tt, erasable named operand as_value refl (λ e. absurd cc) (entered_near s) h)
  erasable named (c.After operand id tag) as_truth n core s h = (tt, erasable named operand as_truth refl (λ e. absurd cc) (entered_near s) h)
  erasable named (c.After operand id tag) as_place n core s h = absurd (false≢true (core refl))
  erasable named (c.After operand id tag) as_callee n core s h = absurd (false≢true (sym n))

  erasable_each : {texts : Bool} {known k : Known} → IsNamed texts known → (them : c.Expressions) → IsNear texts known k
      → ArePlain texts known.frames them → CanEachBeErased texts k them
  erasable_each named c.no_expressions s h = tt
  erasable_each named (c.an_expression first rest) s h = (
    erasable named first as_value refl (λ e. absurd cc) s h.0,
    taken (behind_found (found_expression first as_value s h.0) (λ x l s. erasable_each named rest s h.1)),
  )

  erasable_parts : {texts : Bool} {known k : Known} → IsNamed texts known → (them : c.Parts) → IsNear texts known k
      → ArePlainParts texts known.frames them → CanPartsBeErased texts k them
  erasable_parts named c.no_parts s h = tt
  erasable_parts named (c.Pointer q rest) s h = erasable_parts named rest s h
  erasable_parts named (c.Array c.absent rest) s h = (tt, erasable_parts named rest s h)
  erasable_parts {known = known} named (c.Array (c.present length) rest) s h = (
    erasable {known = unmarked known} named length as_value refl (λ e. absurd cc) (constant_near s) h.0,
    taken (behind_found (bind (constant_walk s (found_expression {known = unmarked known} length as_value (constant_near s) h.0)) (λ x l s. went s)) (λ n l s. erasable_parts named rest s h.1)),
  )
  erasable_parts {texts} {known} {k} named (c.Function them rest) s h =
      let inner = parameters_there (scope_tags s) texts them h.1 in (
        h.0,
        erasable_parameters h.0 (named_near named s) them (here_near (in_scope k)) inner,
        taken (behind_found (scope_found s (found_parameters h.0 them (here_near (in_scope k)) inner)) (λ x l s. erasable_parts named rest s h.2)),
      )

  erasable_lengths : {texts : Bool} {known k : Known} → IsNamed texts known → (d : c.Declarator) → IsNear texts known k
      → IsPlainDeclarator texts known.frames d → CanLengthsBeErased texts k d
  erasable_lengths {texts} {known} {k} named (c.declarator name ps) s h = of_parts_can texts k name ps (erasable_parts named ps (entered_near s) h)

  erasable_parameters : {texts : Bool} {known k : Known} → texts ≡ true → IsNamed texts known → (them : c.Parameters) → IsNear texts known k
      → ArePlainParameters texts known.frames them → CanParametersBeErased texts k them
  erasable_parameters is named c.Unstated s h = tt
  erasable_parameters is named c.Void s h = tt
  erasable_parameters is named (c.Listed list) s h = erasable_list is named list s h
  erasable_parameters is named (c.Open list) s h = erasable_list is named list s h

  erasable_list : {texts : Bool} {known k : Known} → texts ≡ true → IsNamed texts known → (them : c.ParameterList) → IsNear texts known k
      → IsPlainList texts known.frames them → CanListBeErased texts k them
  erasable_list is named c.no_parameters s h = tt
  erasable_list {texts} is named (c.a_parameter sp d rest) s h = (
    known_near sp s h.0,
    taken (behind_found (found_specifiers sp elsewhere refl s h.0) (λ it l s. (
      erasable_lengths named d s h.1,
      taken (behind_found (found_declarator (parameter_faults false) d it s h.1) (λ x l s.
          behind_bound x.name (is_register it) x.node (adjusted x.type) is named s (λ later m named same s. erasable_list is named rest s (list_there same texts rest h.2)))),
    ))),
  )

pub plain_erased : PlainExpressionsCanBeErased
plain_erased known e w h = erasable {known = known} {k = known} (λ is. w) e as_value refl (λ q. absurd cc) (here_near known) h
