-- Where none of the ids of a tree is new, no mark in it has a new id.
use Rattle.std.proofs.Common.{◌≡◌, ◌≤◌, ◌<◌, ℕ, ℤ, pos, negsuc, suc, List, [], ◌∷◌, ◌++◌, Option, Some, None, Bool, true, false, refl, sym, ◌∙◌, arith}
use Rattle.std.proofs.lemmas.Bool.{false≢true, and_parts, le-leb, leb-true}
use Rattle.std.proofs.Math.Nat.{le-max_left, le-max_right}
use Rattle.std.specs.Prelude.{◌&&◌, nat_le, max, if◌then◌else◌, unwrap_or}
use Rattle.std.specs.List.{AllByRecursion, flat_map}
use Rattle.lt_tree.specs.Constants.{value_of}
use Rattle.lt_tree.specs.Tree as c
use Rattle.lt_tree.specs.Nodes.{Node, if_written, in_expression, in_expressions, in_maybe, in_marks, in_mark, in_bindings, in_specifiers, in_types, in_type, in_members, in_member_declarators, in_enumerators, in_declarator, in_parts, in_parameters, in_parameter_list, in_initialiser, in_initialisers, in_optional_initialiser, in_init_declarator, in_declaration, in_optional, in_start, in_label, in_statement, in_items, in_cases, in_external, nodes}
use Rattle.lt_tree.specs.Ids.{within, ids_in, ids_in_expressions, ids_in_maybe, ids_in_marks, ids_in_mark, ids_in_bindings, ids_in_specifiers, ids_in_types, ids_in_type, ids_in_members, ids_in_member_declarators, ids_in_enumerators, ids_in_declarator, ids_in_parts, ids_in_parameters, ids_in_parameter_list, ids_in_initialiser, ids_in_initialisers, ids_in_some, ids_in_init_declarator, ids_in_declaration, ids_in_start, ids_in_label, ids_in_statement, ids_in_items, ids_in_cases, ids_in_external, ids_of_unit, greatest_id}
use Rattle.lt_tree.specs.Typing.Entities.{greatest_label_id}
use Rattle.lt_tree.specs.Typing.MarkRules.{id_from, number_of_id}
use Rattle.lt_mark_typing.specs.MarkedRuns.{is_from}
use Rattle.lt_mark_laws.proofs.Lists.{all_first, all_second}
use Rattle.lt_mark_typing.specs.Placed.{IsOld, AreOld}
use Rattle.lt_objective_marks.proofs.OldMarks.{both_old}
use Rattle.lt_objective_marks.proofs.Pure.{written}
use Rattle.lt_objective_marks.proofs.Numbers.{not_from}

abbrev pub IsOldId : (ℕ → Bool) → List ℕ → Type 0
IsOldId o id = o (number_of_id id) ≡ false

-- if none of these ids is new, no mark among these nodes has a new one
record Tells (o : ℕ → Bool) (ids : List (List ℕ)) (xs : List Node) : Type 0 where
  tells : AllByRecursion (IsOldId o) ids → AreOld o xs

module _ (o : ℕ → Bool) where
  none : Tells o [] []
  none = record { tells = λ h. tt }

  two : {is js : List (List ℕ)} {xs ys : List Node} → Tells o is xs → Tells o js ys → Tells o (is ++ js) (xs ++ ys)
  two {is} {js} {xs} {ys} f g = record { tells = λ h. both_old o xs ys (f.tells (all_first (IsOldId o) is js h)) (g.tells (all_second (IsOldId o) is js h)) }

  node : {x : Node} {ids : List (List ℕ)} {xs : List Node} → IsOld o x → Tells o ids xs → Tells o ids (x ∷ xs)
  node is f = record { tells = λ h. (is, f.tells h) }

  mutual
    of_expression : (e : c.Expression) → Tells o (ids_in e) (in_expression e)
    of_expression (c.Name w) = node tt none
    of_expression (c.Constant w) = node tt none
    of_expression (c.Text bytes) = node tt none
    of_expression (c.Index d e) = node tt (two (of_expression d) (of_expression e))
    of_expression (c.Call f es) = node tt (two (of_expression f) (of_expressions es))
    of_expression (c.Member e w) = node tt (of_expression e)
    of_expression (c.Arrow e w) = node tt (of_expression e)
    of_expression (c.PostInc e) = node tt (of_expression e)
    of_expression (c.PostDec e) = node tt (of_expression e)
    of_expression (c.PreInc e) = node tt (of_expression e)
    of_expression (c.PreDec e) = node tt (of_expression e)
    of_expression (c.Unary op e) = node tt (of_expression e)
    of_expression (c.SizeofExpr e) = node tt (of_expression e)
    of_expression (c.SizeofType s d) = node tt (two (of_specifiers s) (of_declarator d))
    of_expression (c.Cast s d e) = node tt (two (two (of_specifiers s) (of_declarator d)) (of_expression e))
    of_expression (c.Binary op d e) = node tt (two (of_expression d) (of_expression e))
    of_expression (c.Logical op d e) = node tt (two (of_expression d) (of_expression e))
    of_expression (c.Conditional p d e) = node tt (two (two (of_expression p) (of_expression d)) (of_expression e))
    of_expression (c.Assign op d e) = node tt (two (of_expression d) (of_expression e))
    of_expression (c.Comma es) = node tt (of_expressions es)
    of_expression (c.Marked ms e) = node tt (two (of_marks ms) (of_expression e))
    of_expression (c.Decide e p q tag) =
        let inside = of_expression e in record {
          tells = λ h.
              let ids = all_second (IsOldId o) (ids_in e) (p ∷ q ∷ []) h in ((ids.0, ids.1.0), inside.tells (all_first (IsOldId o) (ids_in e) (p ∷ q ∷ []) h));
        }
    of_expression (c.After e id tag) =
        let inside = of_expression e in record {
          tells = λ h. ((all_second (IsOldId o) (ids_in e) (id ∷ []) h).0, inside.tells (all_first (IsOldId o) (ids_in e) (id ∷ []) h));
        }

    of_expressions : (es : c.Expressions) → Tells o (ids_in_expressions es) (in_expressions es)
    of_expressions c.no_expressions = none
    of_expressions (c.an_expression e es) = two (of_expression e) (of_expressions es)

    of_maybe : (it : c.Maybe) → Tells o (ids_in_maybe it) (in_maybe it)
    of_maybe c.absent = none
    of_maybe (c.present e) = of_expression e

    of_marks : (ms : c.Marks) → Tells o (ids_in_marks ms) (in_marks ms)
    of_marks c.no_marks = none
    of_marks (c.a_mark m ms) = two (of_mark m) (of_marks ms)

    of_mark : (m : c.Mark) → Tells o (ids_in_mark m) (in_mark m)
    of_mark (c.mark e id tag bound) =
        let predicate = of_expression e in
        let values = of_bindings bound in record {
          tells = λ h.
              let rest = all_second (IsOldId o) (ids_in e) (id ∷ ids_in_bindings bound) h in
              (rest.0, both_old o (in_expression e) (in_bindings bound) (predicate.tells (all_first (IsOldId o) (ids_in e) (id ∷ ids_in_bindings bound) h)) (values.tells rest.1));
        }

    of_bindings : (bound : c.Bindings) → Tells o (ids_in_bindings bound) (in_bindings bound)
    of_bindings c.no_bindings = none
    of_bindings (c.a_binding w e bound) = two (of_expression e) (of_bindings bound)

    of_specifiers : (s : c.Specifiers) → Tells o (ids_in_specifiers s) (in_specifiers s)
    of_specifiers (c.specifiers words types) = of_types types

    of_types : (types : c.TypeSpecifiers) → Tells o (ids_in_types types) (in_types types)
    of_types c.no_types = none
    of_types (c.a_type type types) = two (of_type type) (of_types types)

    of_type : (type : c.TypeSpecifier) → Tells o (ids_in_type type) (in_type type)
    of_type (c.Basic basic) = none
    of_type (c.Word word) = none
    of_type (c.StructTag tag) = none
    of_type (c.Struct tag members) = of_members members
    of_type (c.EnumTag tag) = none
    of_type (c.Enum tag enumerators) = of_enumerators enumerators
    of_type (c.Named name) = none

    of_members : (ms : c.Members) → Tells o (ids_in_members ms) (in_members ms)
    of_members c.no_members = none
    of_members (c.a_member (c.member s ds) ms) = node tt (two (two (of_specifiers s) (of_member_declarators ds)) (of_members ms))

    of_member_declarators : (ds : c.MemberDeclarators) → Tells o (ids_in_member_declarators ds) (in_member_declarators ds)
    of_member_declarators c.no_declarators = none
    of_member_declarators (c.a_declarator d width ds) = two (two (of_declarator d) (of_maybe width)) (of_member_declarators ds)

    of_enumerators : (es : c.Enumerators) → Tells o (ids_in_enumerators es) (in_enumerators es)
    of_enumerators c.no_enumerators = none
    of_enumerators (c.an_enumerator w value es) = node tt (two (of_maybe value) (of_enumerators es))

    of_declarator : (d : c.Declarator) → Tells o (ids_in_declarator d) (in_declarator d)
    of_declarator (c.declarator name ps) = let inside = of_parts ps in record { tells = λ h. both_old o (if_written name ps) (in_parts ps) (written o name ps) (inside.tells h) }

    of_parts : (ps : c.Parts) → Tells o (ids_in_parts ps) (in_parts ps)
    of_parts c.no_parts = none
    of_parts (c.Pointer q ps) = of_parts ps
    of_parts (c.Array length ps) = two (of_maybe length) (of_parts ps)
    of_parts (c.Function them ps) = two (of_parameters them) (of_parts ps)

    of_parameters : (them : c.Parameters) → Tells o (ids_in_parameters them) (in_parameters them)
    of_parameters c.Unstated = none
    of_parameters c.Void = none
    of_parameters (c.Listed list) = of_parameter_list list
    of_parameters (c.Open list) = of_parameter_list list

    of_parameter_list : (list : c.ParameterList) → Tells o (ids_in_parameter_list list) (in_parameter_list list)
    of_parameter_list c.no_parameters = none
    of_parameter_list (c.a_parameter s d list) = two (two (of_specifiers s) (of_declarator d)) (of_parameter_list list)

  mutual
    of_initialiser : (i : c.Initialiser) → Tells o (ids_in_initialiser i) (in_initialiser i)
    of_initialiser (c.Value e) = node tt (of_expression e)
    of_initialiser (c.Braces is) = node tt (of_initialisers is)

    of_initialisers : (is : c.Initialisers) → Tells o (ids_in_initialisers is) (in_initialisers is)
    of_initialisers c.no_initialisers = none
    of_initialisers (c.an_initialiser i is) = two (of_initialiser i) (of_initialisers is)

  of_begin : (i : Option c.Initialiser) → Tells o (ids_in_some ids_in_initialiser i) (in_optional_initialiser i)
  of_begin None = none
  of_begin (Some i) = of_initialiser i

  of_declarators : (ds : List c.InitDeclarator) → Tells o (flat_map ids_in_init_declarator ds) (flat_map in_init_declarator ds)
  of_declarators [] = none
  of_declarators (d ∷ ds) = two (two (of_declarator d.declarator) (of_begin d.initialiser)) (of_declarators ds)

  of_declaration : (d : c.Declaration) → Tells o (ids_in_declaration d) (in_declaration d)
  of_declaration d = two (of_specifiers d.specifiers) (of_declarators d.declarators)

  of_optional : (e : Option c.Expression) → Tells o (ids_in_some ids_in e) (in_optional e)
  of_optional None = none
  of_optional (Some e) = of_expression e

  of_start : (x : c.ForStart) → Tells o (ids_in_start x) (in_start x)
  of_start c.Nothing = none
  of_start (c.First e) = of_expression e
  of_start (c.Declares d) = of_declaration d

  of_label : (label : c.Label) → Tells o (ids_in_label label) (in_label label)
  of_label (c.Case e) = node tt (of_expression e)
  of_label c.Default = node tt none

  of_labels : (list : List c.Label) → Tells o (flat_map ids_in_label list) (flat_map in_label list)
  of_labels [] = none
  of_labels (label ∷ rest) = two (of_label label) (of_labels rest)

  mutual
    of_statement : (x : c.Statement) → Tells o (ids_in_statement x) (in_statement x)
    of_statement (c.Compound is) = node tt (of_items is)
    of_statement (c.Evaluates e) = node tt (of_expression e)
    of_statement c.Null = node tt none
    of_statement (c.If e x) = node tt (two (of_expression e) (of_statement x))
    of_statement (c.IfElse e x y) = node tt (two (two (of_expression e) (of_statement x)) (of_statement y))
    of_statement (c.While e x) = node tt (two (of_expression e) (of_statement x))
    of_statement (c.Do x e) = node tt (two (of_statement x) (of_expression e))
    of_statement (c.For start test step x) = node tt (two (two (two (of_start start) (of_optional test)) (of_optional step)) (of_statement x))
    of_statement (c.Switch e cs) = node tt (two (of_expression e) (of_cases cs))
    of_statement c.Break = node tt none
    of_statement c.Continue = node tt none
    of_statement (c.Return e) = node tt (of_optional e)

    of_items : (is : c.Items) → Tells o (ids_in_items is) (in_items is)
    of_items c.no_items = none
    of_items (c.a_declaration d is) = node tt (two (of_declaration d) (of_items is))
    of_items (c.a_statement x is) = node tt (two (of_statement x) (of_items is))
    of_items (c.a_label m is) = node tt (two (of_mark m) (of_items is))

    of_cases : (cs : c.Cases) → Tells o (ids_in_cases cs) (in_cases cs)
    of_cases c.no_cases = none
    of_cases (c.a_case list x cs) = two (two (of_labels list) (of_statement x)) (of_cases cs)

  of_external : (x : c.External) → Tells o (ids_in_external x) (in_external x)
  of_external (c.Defines s d body) = node tt (two (two (of_specifiers s) (of_declarator d)) (of_items body))
  of_external (c.Declared d) = node tt (of_declaration d)

  of_unit : (unit : c.Unit) → Tells o (ids_of_unit unit) (nodes unit)
  of_unit [] = none
  of_unit (x ∷ xs) = two (of_external x) (of_unit xs)

-- ---- ids up to the greatest

number_within : (found : Option ℤ) → unwrap_or (id_from found) 0 ≤ within found
number_within None = omega arith
number_within (Some (negsuc n)) = omega arith
number_within (Some (pos n)) = by (nat_le 1 n && nat_le n greatest_label_id) refl
  where
    small : (b : Bool) → nat_le n 2147483647 ≡ b → n ≤ 2147483647 → n ≤ (if b then n else 0)
    small true is less = omega arith
    small false is less = absurd (false≢true (sym is ∙ le-leb n 2147483647 less))

    by : (b : Bool) → nat_le 1 n && nat_le n greatest_label_id ≡ b → unwrap_or (if b then Some n else None) 0 ≤ (if nat_le n 2147483647 then n else 0)
    by true is =
        let less : n ≤ 2147483647 = leb-true n 2147483647 (and_parts (nat_le 1 n) (nat_le n greatest_label_id) is).1 in small (nat_le n 2147483647) refl less
    by false is = omega arith

ids_old : (last : ℕ) (ids : List (List ℕ)) → greatest_id ids < last → AllByRecursion (IsOldId (is_from last)) ids
ids_old last [] less = tt
ids_old last (id ∷ rest) less =
    let most : max (within (value_of id)) (greatest_id rest) < last = less in
    let here : number_of_id id ≤ within (value_of id) = number_within (value_of id) in
    let first = le-max_left (within (value_of id)) (greatest_id rest) in
    let others = le-max_right (within (value_of id)) (greatest_id rest) in
    (not_from last (number_of_id id) (omega (arith, most, here, first)), ids_old last rest (omega (arith, most, others)))

-- no mark of a unit has an id behind the greatest
pub behind_greatest : (unit : c.Unit) → AreOld (is_from (suc (greatest_id (ids_of_unit unit)))) (nodes unit)
behind_greatest unit = (of_unit (is_from (suc (greatest_id (ids_of_unit unit)))) unit).tells (ids_old (suc (greatest_id (ids_of_unit unit))) (ids_of_unit unit) (omega arith))
