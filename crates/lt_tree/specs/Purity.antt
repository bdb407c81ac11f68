-- Expressions that change nothing, call nothing, mark nothing and declare nothing.
use Rattle.std.specs.Prelude.{Bool, true, false, ◌&&◌}
use Rattle.lt_tree.specs.Tree as t

abbrev mutual
  -- no assignment, `++`, `--`, call or mark in it, and no struct with its members and no enum with its enumerators in its type names
  pub is_pure : t.Expression → Bool
  is_pure (t.Name name) = true
  is_pure (t.Constant text) = true
  is_pure (t.Text bytes) = true
  is_pure (t.Index whole index) = is_pure whole && is_pure index
  is_pure (t.Call callee arguments) = false
  is_pure (t.Member whole name) = is_pure whole
  is_pure (t.Arrow pointer name) = is_pure pointer
  is_pure (t.PostInc target) = false
  is_pure (t.PostDec target) = false
  is_pure (t.PreInc target) = false
  is_pure (t.PreDec target) = false
  is_pure (t.Unary op operand) = is_pure operand
  is_pure (t.SizeofExpr operand) = is_pure operand
  is_pure (t.SizeofType s d) = is_pure_specifiers s && is_pure_declarator d
  is_pure (t.Cast s d operand) = is_pure_specifiers s && is_pure_declarator d && is_pure operand
  is_pure (t.Binary op left right) = is_pure left && is_pure right
  is_pure (t.Logical op left right) = is_pure left && is_pure right
  is_pure (t.Conditional test left right) = is_pure test && is_pure left && is_pure right
  is_pure (t.Assign op target value) = false
  is_pure (t.Comma parts) = are_pure parts
  is_pure (t.Marked marks value) = false
  is_pure (t.Decide operand when_true when_false tag) = false
  is_pure (t.After operand id tag) = false

  pub are_pure : t.Expressions → Bool
  are_pure t.no_expressions = true
  are_pure (t.an_expression first rest) = is_pure first && are_pure rest

  pub is_pure_specifiers : t.Specifiers → Bool
  is_pure_specifiers (t.specifiers words types) = are_pure_types types

  pub are_pure_types : t.TypeSpecifiers → Bool
  are_pure_types t.no_types = true
  are_pure_types (t.a_type first rest) = is_pure_type first && are_pure_types rest

  pub is_pure_type : t.TypeSpecifier → Bool
  is_pure_type (t.Basic basic) = true
  is_pure_type (t.Word word) = true
  is_pure_type (t.StructTag tag) = true
  is_pure_type (t.Struct _ _) = false
  is_pure_type (t.EnumTag tag) = true
  is_pure_type (t.Enum _ _) = false
  is_pure_type (t.Named name) = true

  pub is_pure_declarator : t.Declarator → Bool
  is_pure_declarator (t.declarator name parts) = are_pure_parts parts

  pub are_pure_parts : t.Parts → Bool
  are_pure_parts t.no_parts = true
  are_pure_parts (t.Pointer qualifiers rest) = are_pure_parts rest
  are_pure_parts (t.Array length rest) = is_pure_maybe length && are_pure_parts rest
  are_pure_parts (t.Function parameters rest) = are_pure_parameters parameters && are_pure_parts rest

  pub is_pure_maybe : t.Maybe → Bool
  is_pure_maybe t.absent = true
  is_pure_maybe (t.present e) = is_pure e

  pub are_pure_parameters : t.Parameters → Bool
  are_pure_parameters t.Unstated = true
  are_pure_parameters t.Void = true
  are_pure_parameters (t.Listed list) = is_pure_parameter_list list
  are_pure_parameters (t.Open list) = is_pure_parameter_list list

  pub is_pure_parameter_list : t.ParameterList → Bool
  is_pure_parameter_list t.no_parameters = true
  is_pure_parameter_list (t.a_parameter s d rest) =
      is_pure_specifiers s && is_pure_declarator d && is_pure_parameter_list rest
