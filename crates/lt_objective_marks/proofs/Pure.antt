-- A pure expression has no mark in it, and so none that is new.
use Rattle.std.proofs.Common.{◌≡◌, ℕ, List, ◌++◌, Option, Some, None, Bool, true}
use Rattle.std.proofs.lemmas.Bool.{false≢true}
use Rattle.std.specs.Prelude.{◌&&◌}
use Rattle.lt_tree.specs.Tree as c
use Rattle.lt_tree.specs.Purity.{is_pure, are_pure, is_pure_specifiers, are_pure_types, is_pure_type, is_pure_declarator, are_pure_parts, is_pure_maybe, are_pure_parameters, is_pure_parameter_list}
use Rattle.lt_tree.specs.Nodes.{if_written, in_expression, in_expressions, in_maybe, in_specifiers, in_types, in_type, in_declarator, in_parts, in_parameters, in_parameter_list}
use Rattle.lt_mark_typing.specs.Placed.{AreOld}
use Rattle.lt_mark_typing.proofs.Quiet.{and_first, and_second}
use Rattle.lt_objective_marks.proofs.OldMarks.{both_old}

module _ (new : ℕ → Bool) where
  pub written : (name : Option (List ℕ)) (ps : c.Parts) → AreOld new (if_written name ps)
  written None c.no_parts = tt
  written None (c.Pointer q ps) = (tt, tt)
  written None (c.Array length ps) = (tt, tt)
  written None (c.Function them ps) = (tt, tt)
  written (Some name) ps = (tt, tt)

  mutual
    expression : (e : c.Expression) → is_pure e ≡ true → AreOld new (in_expression e)
    expression (c.Name w) p = (tt, tt)
    expression (c.Constant w) p = (tt, tt)
    expression (c.Text bytes) p = (tt, tt)
    expression (c.Index whole index) p = (tt, both_old new (in_expression whole) (in_expression index) (expression whole (and_first (is_pure whole) (is_pure index) p)) (expression index (and_second (is_pure whole) (is_pure index) p)))
    expression (c.Call callee arguments) p = absurd (false≢true p)
    expression (c.Member whole w) p = (tt, expression whole p)
    expression (c.Arrow pointer w) p = (tt, expression pointer p)
    expression (c.PostInc target) p = absurd (false≢true p)
    expression (c.PostDec target) p = absurd (false≢true p)
    expression (c.PreInc target) p = absurd (false≢true p)
    expression (c.PreDec target) p = absurd (false≢true p)
    expression (c.Unary op operand) p = (tt, expression operand p)
    expression (c.SizeofExpr operand) p = (tt, expression operand p)
    expression (c.SizeofType s d) p = (tt, both_old new (in_specifiers s) (in_declarator d) (specifiers s (and_first (is_pure_specifiers s) (is_pure_declarator d) p)) (declarator d (and_second (is_pure_specifiers s) (is_pure_declarator d) p)))
    expression (c.Cast s d operand) p =
        let front = and_first (is_pure_specifiers s && is_pure_declarator d) (is_pure operand) p in (
          tt,
          both_old new (in_specifiers s ++ in_declarator d) (in_expression operand)
              (both_old new (in_specifiers s) (in_declarator d) (specifiers s (and_first (is_pure_specifiers s) (is_pure_declarator d) front)) (declarator d (and_second (is_pure_specifiers s) (is_pure_declarator d) front)))
              (expression operand (and_second (is_pure_specifiers s && is_pure_declarator d) (is_pure operand) p)),
        )
    expression (c.Binary op left right) p = (tt, both_old new (in_expression left) (in_expression right) (expression left (and_first (is_pure left) (is_pure right) p)) (expression right (and_second (is_pure left) (is_pure right) p)))
    expression (c.Logical op left right) p = (tt, both_old new (in_expression left) (in_expression right) (expression left (and_first (is_pure left) (is_pure right) p)) (expression right (and_second (is_pure left) (is_pure right) p)))
    expression (c.Conditional test left right) p =
        let front = and_first (is_pure test && is_pure left) (is_pure right) p in (
          tt,
          both_old new (in_expression test ++ in_expression left) (in_expression right)
              (both_old new (in_expression test) (in_expression left) (expression test (and_first (is_pure test) (is_pure left) front)) (expression left (and_second (is_pure test) (is_pure left) front)))
              (expression right (and_second (is_pure test && is_pure left) (is_pure right) p)),
        )
    expression (c.Assign op target value) p = absurd (false≢true p)
    expression (c.Comma list) p = (tt, expressions list p)
    expression (c.Marked ms value) p = absurd (false≢true p)
    expression (c.Decide operand when_true when_false tag) p = absurd (false≢true p)
    expression (c.After operand id tag) p = absurd (false≢true p)

    expressions : (them : c.Expressions) → are_pure them ≡ true → AreOld new (in_expressions them)
    expressions c.no_expressions p = tt
    expressions (c.an_expression e es) p = both_old new (in_expression e) (in_expressions es) (expression e (and_first (is_pure e) (are_pure es) p)) (expressions es (and_second (is_pure e) (are_pure es) p))

    maybe : (it : c.Maybe) → is_pure_maybe it ≡ true → AreOld new (in_maybe it)
    maybe c.absent p = tt
    maybe (c.present e) p = expression e p

    specifiers : (it : c.Specifiers) → is_pure_specifiers it ≡ true → AreOld new (in_specifiers it)
    specifiers (c.specifiers words types) p = types_of types p

    types_of : (them : c.TypeSpecifiers) → are_pure_types them ≡ true → AreOld new (in_types them)
    types_of c.no_types p = tt
    types_of (c.a_type it rest) p = both_old new (in_type it) (in_types rest) (type_of it (and_first (is_pure_type it) (are_pure_types rest) p)) (types_of rest (and_second (is_pure_type it) (are_pure_types rest) p))

    type_of : (it : c.TypeSpecifier) → is_pure_type it ≡ true → AreOld new (in_type it)
    type_of (c.Basic basic) p = tt
    type_of (c.Word word) p = tt
    type_of (c.StructTag tag) p = tt
    type_of (c.Struct tag list) p = absurd (false≢true p)
    type_of (c.EnumTag tag) p = tt
    type_of (c.Enum tag list) p = absurd (false≢true p)
    type_of (c.Named name) p = tt

    declarator : (it : c.Declarator) → is_pure_declarator it ≡ true → AreOld new (in_declarator it)
    declarator (c.declarator name ps) p = both_old new (if_written name ps) (in_parts ps) (written name ps) (parts ps p)

    parts : (them : c.Parts) → are_pure_parts them ≡ true → AreOld new (in_parts them)
    parts c.no_parts p = tt
    parts (c.Pointer q rest) p = parts rest p
    parts (c.Array length rest) p = both_old new (in_maybe length) (in_parts rest) (maybe length (and_first (is_pure_maybe length) (are_pure_parts rest) p)) (parts rest (and_second (is_pure_maybe length) (are_pure_parts rest) p))
    parts (c.Function them rest) p = both_old new (in_parameters them) (in_parts rest) (parameters them (and_first (are_pure_parameters them) (are_pure_parts rest) p)) (parts rest (and_second (are_pure_parameters them) (are_pure_parts rest) p))

    parameters : (them : c.Parameters) → are_pure_parameters them ≡ true → AreOld new (in_parameters them)
    parameters c.Unstated p = tt
    parameters c.Void p = tt
    parameters (c.Listed list) p = parameter_list list p
    parameters (c.Open list) p = parameter_list list p

    parameter_list : (them : c.ParameterList) → is_pure_parameter_list them ≡ true → AreOld new (in_parameter_list them)
    parameter_list c.no_parameters p = tt
    parameter_list (c.a_parameter s d rest) p =
        let front = and_first (is_pure_specifiers s && is_pure_declarator d) (is_pure_parameter_list rest) p in
        both_old new (in_specifiers s ++ in_declarator d) (in_parameter_list rest)
        (both_old new (in_specifiers s) (in_declarator d) (specifiers s (and_first (is_pure_specifiers s) (is_pure_declarator d) front)) (declarator d (and_second (is_pure_specifiers s) (is_pure_declarator d) front)))
        (parameter_list rest (and_second (is_pure_specifiers s && is_pure_declarator d) (is_pure_parameter_list rest) p))

  pub no_marks_in : (e : c.Expression) → is_pure e ≡ true → AreOld new (in_expression e)
  no_marks_in e p = expression e p
