-- A pure expression declares no enumerators.
use Rattle.std.proofs.Common.{◌≡◌, ℕ, Bool, true, false, List, [], ◌++◌, refl, ap, ◌∙◌}
use Rattle.std.specs.Prelude.{◌&&◌}
use Rattle.std.proofs.lemmas.Bool.{and_parts}
use Rattle.lt_tree.specs.Tree as c
use Rattle.lt_tree.specs.Purity.{is_pure, are_pure, is_pure_specifiers, are_pure_types, is_pure_type, is_pure_declarator, are_pure_parts, is_pure_maybe, are_pure_parameters}
use Rattle.lt_tree.specs.Scope.{enumerators_in, enumerators_in_all, enumerators_in_maybe, enumerators_in_specifiers, enumerators_in_types, enumerators_in_type, enumerators_in_declarator, enumerators_in_parts}

none : (xs ys : List (List ℕ)) → xs ≡ [] → ys ≡ [] → xs ++ ys ≡ []
none xs ys a b = ap (λ zs. zs ++ ys) a ∙ b

three_none : (xs ys zs : List (List ℕ)) → xs ≡ [] → ys ≡ [] → zs ≡ [] → xs ++ ys ++ zs ≡ []
three_none xs ys zs a b d = none (xs ++ ys) zs (none xs ys a b) d

pub pure_parts : {a b : Bool} → (a && b) ≡ true → (a ≡ true) × (b ≡ true)
pure_parts {a} {b} h = let both = and_parts a b h in (both.0, both.1)

pub three_pure : {a b d : Bool} → (a && b && d) ≡ true → (a ≡ true) × (b ≡ true) × (d ≡ true)
three_pure {a} {b} {d} h = split a b d h
  where
    split : (a b d : Bool) → (a && b && d) ≡ true → (a ≡ true) × (b ≡ true) × (d ≡ true)
    split true true true h = (refl, refl, refl)
    split true true false h = absurd cc
    split true false d h = absurd cc
    split false b d h = absurd cc

mutual
  pub is_quiet : (e : c.Expression) → is_pure e ≡ true → enumerators_in e ≡ []
  is_quiet (c.Name name) h = refl
  is_quiet (c.Constant text) h = refl
  is_quiet (c.Text bytes) h = refl
  is_quiet (c.Index whole index) h = let parts = pure_parts h in none _ _ (is_quiet whole parts.0) (is_quiet index parts.1)
  is_quiet (c.Call callee arguments) h = absurd cc
  is_quiet (c.Member whole name) h = is_quiet whole h
  is_quiet (c.Arrow pointer name) h = is_quiet pointer h
  is_quiet (c.PostInc target) h = absurd cc
  is_quiet (c.PostDec target) h = absurd cc
  is_quiet (c.PreInc target) h = absurd cc
  is_quiet (c.PreDec target) h = absurd cc
  is_quiet (c.Unary op operand) h = is_quiet operand h
  is_quiet (c.SizeofExpr operand) h = is_quiet operand h
  is_quiet (c.SizeofType s d) h = let parts = pure_parts h in none _ _ (specifiers_quiet s parts.0) (declarator_quiet d parts.1)
  is_quiet (c.Cast s d operand) h = let parts = three_pure h in three_none _ _ _ (specifiers_quiet s parts.0) (declarator_quiet d parts.1) (is_quiet operand parts.2)
  is_quiet (c.Binary op left right) h = let parts = pure_parts h in none _ _ (is_quiet left parts.0) (is_quiet right parts.1)
  is_quiet (c.Logical op left right) h = let parts = pure_parts h in none _ _ (is_quiet left parts.0) (is_quiet right parts.1)
  is_quiet (c.Conditional test left right) h = let parts = three_pure h in three_none _ _ _ (is_quiet test parts.0) (is_quiet left parts.1) (is_quiet right parts.2)
  is_quiet (c.Assign op target value) h = absurd cc
  is_quiet (c.Comma parts) h = all_quiet parts h
  is_quiet (c.Marked marks value) h = absurd cc
  is_quiet (c.Decide operand when_true when_false tag) h = absurd cc
  is_quiet (c.After operand id tag) h = absurd cc

  all_quiet : (es : c.Expressions) → are_pure es ≡ true → enumerators_in_all es ≡ []
  all_quiet c.no_expressions h = refl
  all_quiet (c.an_expression first rest) h = let parts = pure_parts h in none _ _ (is_quiet first parts.0) (all_quiet rest parts.1)

  maybe_quiet : (e : c.Maybe) → is_pure_maybe e ≡ true → enumerators_in_maybe e ≡ []
  maybe_quiet c.absent h = refl
  maybe_quiet (c.present e) h = is_quiet e h

  specifiers_quiet : (s : c.Specifiers) → is_pure_specifiers s ≡ true → enumerators_in_specifiers s ≡ []
  specifiers_quiet (c.specifiers words types) h = types_quiet types h

  types_quiet : (types : c.TypeSpecifiers) → are_pure_types types ≡ true → enumerators_in_types types ≡ []
  types_quiet c.no_types h = refl
  types_quiet (c.a_type first rest) h = let parts = pure_parts h in none _ _ (type_quiet first parts.0) (types_quiet rest parts.1)

  type_quiet : (type : c.TypeSpecifier) → is_pure_type type ≡ true → enumerators_in_type type ≡ []
  type_quiet (c.Struct _ _) h = absurd cc
  type_quiet (c.Enum _ _) h = absurd cc
  type_quiet _ h = refl

  declarator_quiet : (d : c.Declarator) → is_pure_declarator d ≡ true → enumerators_in_declarator d ≡ []
  declarator_quiet (c.declarator name parts) h = parts_quiet parts h

  parts_quiet : (parts : c.Parts) → are_pure_parts parts ≡ true → enumerators_in_parts parts ≡ []
  parts_quiet c.no_parts h = refl
  parts_quiet (c.Pointer qualifiers rest) h = parts_quiet rest h
  parts_quiet (c.Array length rest) h = let parts = pure_parts h in none _ _ (maybe_quiet length parts.0) (parts_quiet rest parts.1)
  parts_quiet (c.Function parameters rest) h = let parts = pure_parts {a = are_pure_parameters parameters} h in parts_quiet rest parts.1
