-- Plain and simple expressions are such wherever the same tags are in scope.
use Rattle.std.proofs.Common.{◌≡◌, ℕ, List, Bool, sym, ap, ◌∙◌}
use Rattle.std.specs.Prelude.{is_some}
use Rattle.lt_tree.specs.Tree as c
use Rattle.lt_tree.specs.Typing.Entities.{Frame, tagged_in}
use Rattle.lt_erased_typing.specs.Erasable.{AreKnown, AreKnownTypes, IsKnownType}
use Rattle.lt_erased_typing.specs.Plain.{IsPlainWith, ArePlain, ArePlainMarks, IsPlainMark, ArePlainBindings, IsPlainDeclarator, ArePlainParts, ArePlainParameters, IsPlainList}
use Rattle.lt_erased_typing.specs.Simple.{IsSimpleWith, AreSimple, AreSimpleMarks, IsSimpleMark, AreSimpleBindings, IsSimpleDeclarator, AreSimpleParts, AreSimpleParameters, IsSimpleList}

pub record HaveSameTags (fs gs : List Frame) : Type 0 where
  pub tags : (tag : List ℕ) → tagged_in tag gs ≡ tagged_in tag fs

pub turned : {fs gs : List Frame} → HaveSameTags fs gs → HaveSameTags gs fs
turned same = record { tags = λ tag. sym (same.tags tag) }

module _ {fs gs : List Frame} (same : HaveSameTags fs gs) where
  type_there : (it : c.TypeSpecifier) → IsKnownType fs it → IsKnownType gs it
  type_there (c.Basic type) h = tt
  type_there (c.Word word) h = tt
  type_there (c.StructTag tag) h = ap is_some (same.tags tag) ∙ h
  type_there (c.Struct tag list) h = h
  type_there (c.EnumTag tag) h = tt
  type_there (c.Enum tag list) h = h
  type_there (c.Named name) h = tt

  types_there : (them : c.TypeSpecifiers) → AreKnownTypes fs them → AreKnownTypes gs them
  types_there c.no_types h = tt
  types_there (c.a_type first rest) h = (type_there first h.0, types_there rest h.1)

  known_there : (it : c.Specifiers) → AreKnown fs it → AreKnown gs it
  known_there (c.specifiers words types) h = types_there types h

  module _ (texts : Bool) where
    mutual
      plain_there : (it : c.Expression) → IsPlainWith texts fs it → IsPlainWith texts gs it
      plain_there (c.Name name) h = tt
      plain_there (c.Constant text) h = tt
      plain_there (c.Text bytes) h = h
      plain_there (c.Index whole index) h = (plain_there whole h.0, plain_there index h.1)
      plain_there (c.Call callee arguments) h = h
      plain_there (c.Member whole name) h = (h.0, plain_there whole h.1)
      plain_there (c.Arrow pointer name) h = plain_there pointer h
      plain_there (c.PostInc target) h = h
      plain_there (c.PostDec target) h = h
      plain_there (c.PreInc target) h = h
      plain_there (c.PreDec target) h = h
      plain_there (c.Unary op operand) h = (h.0, plain_there operand h.1)
      plain_there (c.SizeofExpr operand) h = (h.0, plain_there operand h.1)
      plain_there (c.SizeofType s d) h = (known_there s h.0, declarator_there d h.1)
      plain_there (c.Cast s d operand) h = (known_there s h.0, declarator_there d h.1, plain_there operand h.2)
      plain_there (c.Binary op left right) h = (plain_there left h.0, plain_there right h.1)
      plain_there (c.Logical op left right) h = (plain_there left h.0, plain_there right h.1)
      plain_there (c.Conditional test left right) h = (plain_there test h.0, h.1, plain_there left h.2, h.3, plain_there right h.4)
      plain_there (c.Assign op target value) h = h
      plain_there (c.Comma c.no_expressions) h = h
      plain_there (c.Comma (c.an_expression first c.no_expressions)) h = h
      plain_there (c.Comma (c.an_expression first (c.an_expression second rest))) h = all_there (c.an_expression first (c.an_expression second rest)) h
      plain_there (c.Marked marks value) h = (marks_there marks h.0, plain_there value h.1)
      plain_there (c.Decide operand when_true when_false tag) h = plain_there operand h
      plain_there (c.After operand id tag) h = plain_there operand h

      all_there : (them : c.Expressions) → ArePlain texts fs them → ArePlain texts gs them
      all_there c.no_expressions h = tt
      all_there (c.an_expression first rest) h = (plain_there first h.0, all_there rest h.1)

      marks_there : (them : c.Marks) → ArePlainMarks texts fs them → ArePlainMarks texts gs them
      marks_there c.no_marks h = tt
      marks_there (c.a_mark first rest) h = (mark_there first h.0, marks_there rest h.1)

      mark_there : (it : c.Mark) → IsPlainMark texts fs it → IsPlainMark texts gs it
      mark_there (c.mark predicate id tag bound) h = (plain_there predicate h.0, bindings_there bound h.1)

      bindings_there : (them : c.Bindings) → ArePlainBindings texts fs them → ArePlainBindings texts gs them
      bindings_there c.no_bindings h = tt
      bindings_there (c.a_binding name value rest) h = (plain_there value h.0, bindings_there rest h.1)

      declarator_there : (it : c.Declarator) → IsPlainDeclarator texts fs it → IsPlainDeclarator texts gs it
      declarator_there (c.declarator name ps) h = parts_there ps h

      parts_there : (them : c.Parts) → ArePlainParts texts fs them → ArePlainParts texts gs them
      parts_there c.no_parts h = tt
      parts_there (c.Pointer q rest) h = parts_there rest h
      parts_there (c.Array c.absent rest) h = parts_there rest h
      parts_there (c.Array (c.present length) rest) h = (plain_there length h.0, parts_there rest h.1)
      parts_there (c.Function them rest) h = (h.0, parameters_there them h.1, parts_there rest h.2)

      pub parameters_there : (them : c.Parameters) → ArePlainParameters texts fs them → ArePlainParameters texts gs them
      parameters_there c.Unstated h = tt
      parameters_there c.Void h = tt
      parameters_there (c.Listed list) h = list_there list h
      parameters_there (c.Open list) h = list_there list h

      pub list_there : (them : c.ParameterList) → IsPlainList texts fs them → IsPlainList texts gs them
      list_there c.no_parameters h = tt
      list_there (c.a_parameter s d rest) h = (known_there s h.0, declarator_there d h.1, list_there rest h.2)

    mutual
      simple_there : (it : c.Expression) → IsSimpleWith texts fs it → IsSimpleWith texts gs it
      simple_there (c.Name name) h = tt
      simple_there (c.Constant text) h = tt
      simple_there (c.Text bytes) h = h
      simple_there (c.Index whole index) h = (simple_there whole h.0, simple_there index h.1)
      simple_there (c.Call callee arguments) h = tt
      simple_there (c.Member whole name) h = simple_there whole h
      simple_there (c.Arrow pointer name) h = simple_there pointer h
      simple_there (c.PostInc target) h = tt
      simple_there (c.PostDec target) h = tt
      simple_there (c.PreInc target) h = tt
      simple_there (c.PreDec target) h = tt
      simple_there (c.Unary op operand) h = simple_there operand h
      simple_there (c.SizeofExpr operand) h = simple_there operand h
      simple_there (c.SizeofType s d) h = (known_there s h.0, simple_declarator d h.1)
      simple_there (c.Cast s d operand) h = (known_there s h.0, simple_declarator d h.1, simple_there operand h.2)
      simple_there (c.Binary op left right) h = (simple_there left h.0, simple_there right h.1)
      simple_there (c.Logical op left right) h = (simple_there left h.0, simple_there right h.1)
      simple_there (c.Conditional test left right) h = (simple_there test h.0, simple_there left h.1, simple_there right h.2)
      simple_there (c.Assign op target value) h = tt
      simple_there (c.Comma c.no_expressions) h = h
      simple_there (c.Comma (c.an_expression first c.no_expressions)) h = h
      simple_there (c.Comma (c.an_expression first (c.an_expression second rest))) h = all_simple (c.an_expression first (c.an_expression second rest)) h
      simple_there (c.Marked c.no_marks value) h = h
      simple_there (c.Marked (c.a_mark first rest) value) h = (simple_marks (c.a_mark first rest) h.0, simple_there value h.1)
      simple_there (c.Decide operand when_true when_false tag) h = simple_there operand h
      simple_there (c.After operand id tag) h = simple_there operand h

      all_simple : (them : c.Expressions) → AreSimple texts fs them → AreSimple texts gs them
      all_simple c.no_expressions h = tt
      all_simple (c.an_expression first rest) h = (simple_there first h.0, all_simple rest h.1)

      simple_marks : (them : c.Marks) → AreSimpleMarks texts fs them → AreSimpleMarks texts gs them
      simple_marks c.no_marks h = tt
      simple_marks (c.a_mark first rest) h = (simple_mark first h.0, simple_marks rest h.1)

      simple_mark : (it : c.Mark) → IsSimpleMark texts fs it → IsSimpleMark texts gs it
      simple_mark (c.mark predicate id tag bound) h = (simple_there predicate h.0, simple_bindings bound h.1)

      simple_bindings : (them : c.Bindings) → AreSimpleBindings texts fs them → AreSimpleBindings texts gs them
      simple_bindings c.no_bindings h = tt
      simple_bindings (c.a_binding name value rest) h = (simple_there value h.0, simple_bindings rest h.1)

      simple_declarator : (it : c.Declarator) → IsSimpleDeclarator texts fs it → IsSimpleDeclarator texts gs it
      simple_declarator (c.declarator name ps) h = simple_parts ps h

      simple_parts : (them : c.Parts) → AreSimpleParts texts fs them → AreSimpleParts texts gs them
      simple_parts c.no_parts h = tt
      simple_parts (c.Pointer q rest) h = simple_parts rest h
      simple_parts (c.Array c.absent rest) h = simple_parts rest h
      simple_parts (c.Array (c.present length) rest) h = (simple_there length h.0, simple_parts rest h.1)
      simple_parts (c.Function them rest) h = (h.0, simple_parameters them h.1, simple_parts rest h.2)

      pub simple_parameters : (them : c.Parameters) → AreSimpleParameters texts fs them → AreSimpleParameters texts gs them
      simple_parameters c.Unstated h = tt
      simple_parameters c.Void h = tt
      simple_parameters (c.Listed list) h = simple_list list h
      simple_parameters (c.Open list) h = simple_list list h

      pub simple_list : (them : c.ParameterList) → IsSimpleList texts fs them → IsSimpleList texts gs them
      simple_list c.no_parameters h = tt
      simple_list (c.a_parameter s d rest) h = (known_there s h.0, simple_declarator d h.1, simple_list rest h.2)
