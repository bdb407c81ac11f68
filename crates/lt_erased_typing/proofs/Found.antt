-- Plain expressions find nothing but string literals, parameters of type names, labels and facts.
use Rattle.std.proofs.Common.{◌≡◌, ℕ, List, [], ◌∷◌, Option, Some, None, Bool, true, false, refl, sym}
use Rattle.std.proofs.lemmas.Bool.{false≢true}
use Rattle.std.specs.Prelude.{◌++◌, is_some, length}
use Rattle.lt_tree.specs.Tree as c
use Rattle.lt_tree.specs.Typing.Types.{CType, adjusted}
use Rattle.lt_tree.specs.Typing.Rules.{Rule, unless, bad_mark}
use Rattle.lt_tree.specs.Typing.Constants.{constant_of}
use Rattle.lt_tree.specs.Typing.Entities.{Known, meaning_of, Tagged, a_struct, an_enum, tagged_in}
use Rattle.lt_tree.specs.Typing.Expressions.{Use, as_value, as_truth, as_place, own_type}
use Rattle.lt_tree.specs.Typing.Operations.{judge_name, judge_constant, judge_member, judge_arrow, judge_index, judge_size, judge_cast}
use Rattle.lt_tree.specs.Typing.BinaryOperations.{judge_binary, judge_logical, judge_conditional, judge_comma}
use Rattle.lt_tree.specs.Typing.MarkRules.{names_of, is_good_mark, judge_marked, judge_decide, judge_after, label_of, inside_mark, inside_after}
use Rattle.lt_tree.specs.Typing.NodeEnds.{judge_unary, operand_of, also, text_at, with_dots}
use Rattle.lt_tree.specs.Typing.Specifying.{Setting, alone, in_sizeof, elsewhere, is_alone, beside_words, struct_tagged, Specified, is_register}
use Rattle.lt_tree.specs.Typing.Declarators.{Built, setting_in_sizeof, parameter_faults, parameter_before}
use Rattle.lt_tree.specs.Typing.ExpressionTyping.{expression, expressions, marks, mark, bindings, specifiers, type_specifiers, type_specifier, declarator, parts, parameters, parameter_list}
use Rattle.lt_erased_typing.specs.Erasable.{AreKnown, AreKnownTypes, IsKnownType, entered, unmarked, in_scope}
use Rattle.lt_erased_typing.specs.Plain.{IsPlainWith, ArePlain, ArePlainMarks, IsPlainMark, ArePlainBindings, IsPlainDeclarator, ArePlainParts, ArePlainParameters, IsPlainList}
use Rattle.lt_erased_typing.proofs.TypeNames.{written_somewhere, words_aside}
use Rattle.lt_erased_typing.proofs.SizesAndCasts.{any_type_name}
use Rattle.lt_erased_typing.proofs.PlainWalks.{IsNear, near, Finds, went, bind, here_near, entered_near, labels_near, text_near, constant_near, constant_walk, settled, finished}
use Rattle.lt_erased_typing.proofs.SameTags.{parameters_there, list_there}
use Rattle.lt_erased_typing.proofs.PlainScopes.{Reaches, reach_here, reach_then, reach_last, reach_bound, scope_tags, scope_found, declared_found}

module _ {texts : Bool} {known : Known} where
  struct_found : {k : Known} (tag : List ℕ) (found : Option Tagged) → is_some found ≡ true → IsNear texts known k → Finds texts known (struct_tagged tag found k)
  struct_found tag None h s = absurd (false≢true h)
  struct_found tag (Some (a_struct n)) h s = went s
  struct_found tag (Some (an_enum is_complete)) h s = went s

  found_type : {k : Known} (it : c.TypeSpecifier) (setting : Setting) → is_alone setting ≡ false → IsNear texts known k → IsKnownType known.frames it
      → Finds texts known (type_specifier it setting k)
  found_type (c.Basic type) setting a s h = went s
  found_type (c.Word word) setting a s h = went s
  found_type (c.StructTag tag) alone a s h = absurd (false≢true (sym a))
  found_type (c.StructTag tag) in_sizeof a (near more) h = struct_found tag (tagged_in tag known.frames) h (near more)
  found_type (c.StructTag tag) elsewhere a (near more) h = struct_found tag (tagged_in tag known.frames) h (near more)
  found_type (c.Struct tag list) setting a s h = absurd h
  found_type (c.EnumTag tag) setting a s h = went s
  found_type (c.Enum tag list) setting a s h = absurd h
  found_type (c.Named name) setting a s h = went s

  found_types : {k : Known} (them : c.TypeSpecifiers) (setting : Setting) → is_alone setting ≡ false → IsNear texts known k
      → AreKnownTypes known.frames them → Finds texts known (type_specifiers them setting k)
  found_types c.no_types setting a s h = went s
  found_types (c.a_type first rest) setting a s h = bind (found_type first setting a s h.0) (λ it k s. bind (found_types rest setting a s h.1) (λ others k s. went s))

  pub found_specifiers : {k : Known} (it : c.Specifiers) (setting : Setting) → is_alone setting ≡ false → IsNear texts known k
      → AreKnown known.frames it → Finds texts known (specifiers it setting k)
  found_specifiers (c.specifiers words types) setting a s h = bind (found_types types (beside_words words setting) (words_aside words setting a) s h) (λ namings k s. went s)

mutual
  pub found_expression : {texts : Bool} {known k : Known} (it : c.Expression) (role : Use) → IsNear texts known k → IsPlainWith texts known.frames it
      → Finds texts known (expression it role k)
  found_expression {k = k} (c.Name name) role s h =
      finished k.next role (judge_name role name (meaning_of name (entered k)) (entered k)) (entered_near s)
  found_expression {k = k} (c.Constant text) role s h = finished k.next role (judge_constant (constant_of k.model text)) (entered_near s)
  found_expression {k = k} (c.Text bytes) role s h = finished k.next role (text_at (entered k) bytes (length k.objects)) (text_near bytes h s)
  found_expression {k = k} (c.Index whole index) role s h =
      bind (found_expression whole as_value (entered_near s) h.0) (λ x l s. bind (found_expression index as_value s h.1) (λ y l s. finished k.next role (judge_index x y l) s))
  found_expression (c.Call callee arguments) role s h = absurd h
  found_expression {k = k} (c.Member whole w) role s h = bind (found_expression whole as_place (entered_near s) h.1) (λ x l s. finished k.next role (judge_member x w l) s)
  found_expression {k = k} (c.Arrow pointer w) role s h = bind (found_expression pointer as_value (entered_near s) h) (λ x l s. finished k.next role (judge_arrow x w l) s)
  found_expression (c.PostInc target) role s h = absurd h
  found_expression (c.PostDec target) role s h = absurd h
  found_expression (c.PreInc target) role s h = absurd h
  found_expression (c.PreDec target) role s h = absurd h
  found_expression {k = k} (c.Unary op operand) role s h =
      bind (found_expression operand (operand_of op) (entered_near s) h.1) (λ x l s. finished k.next role (judge_unary op x l) s)
  found_expression {known = known} {k} (c.SizeofExpr operand) role s h =
      bind (constant_walk (entered_near s) (found_expression {known = unmarked known} operand as_place (constant_near (entered_near s)) h.1)) (λ x l s. finished k.next role (judge_size (own_type x) l) s)
  found_expression {k = k} (c.SizeofType sp (c.declarator name ps)) role s h =
      bind (found_specifiers sp (setting_in_sizeof (c.declarator name ps)) (written_somewhere name ps) (entered_near s) h.0) (λ it l s. bind (found_declarator any_type_name (c.declarator name ps) it s h.1)
      (λ t l s. finished k.next role (also t.faults (judge_size t.type l)) s))
  found_expression {k = k} (c.Cast sp d operand) role s h =
      bind (found_specifiers sp elsewhere refl (entered_near s) h.0) (λ it l s. bind (found_declarator any_type_name d it s h.1) (λ t l s. bind (found_expression operand as_value s h.2)
      (λ x l s. finished k.next role (also t.faults (judge_cast t.type x l)) s)))
  found_expression {k = k} (c.Binary op left right) role s h =
      bind (found_expression left as_value (entered_near s) h.0) (λ x l s. bind (found_expression right as_value s h.1) (λ y l s. finished k.next role (judge_binary op x y l) s))
  found_expression {k = k} (c.Logical op left right) role s h =
      bind (found_expression left as_truth (entered_near s) h.0) (λ x l s. bind (found_expression right as_truth s h.1) (λ y l s. finished k.next role (judge_logical op x y) s))
  found_expression {k = k} (c.Conditional test left right) role s h =
      bind (found_expression test as_truth (entered_near s) h.0) (λ o l s. bind (found_expression left as_value s h.2) (λ x l s. bind (found_expression right as_value s h.4)
      (λ y l s. finished k.next role (judge_conditional o x y l) s)))
  found_expression (c.Assign op target value) role s h = absurd h
  found_expression (c.Comma c.no_expressions) role s h = absurd h
  found_expression (c.Comma (c.an_expression first c.no_expressions)) role s h = absurd h
  found_expression {k = k} (c.Comma (c.an_expression first (c.an_expression second rest))) role s h =
      bind (found_expressions (c.an_expression first (c.an_expression second rest)) (entered_near s) h) (λ xs l s. finished k.next role (judge_comma xs) s)
  found_expression {k = k} (c.Marked ms value) role s h =
      bind (found_marks ms (entered_near s) h.0) (λ typed l s. bind (found_expression value (inside_mark role) s h.1) (λ x l s. finished k.next role (judge_marked typed x) s))
  found_expression {k = k} (c.Decide operand when_true when_false tag) role s h =
      bind (found_expression operand (inside_mark role) (entered_near s) h) (λ x l s.
      bind (finished k.next role (judge_decide role x when_true when_false tag l) s)
      (λ z i t. went (labels_near ((i.labels ++ label_of when_true tag [] ∷ []) ++ label_of when_false tag [] ∷ []) t)))
  found_expression {k = k} (c.After operand id tag) role s h =
      bind (found_expression operand (inside_after role) (entered_near s) h) (λ x l s.
      bind (finished k.next role (judge_after role x id tag l) s) (λ z i t. went (labels_near (i.labels ++ label_of id tag [] ∷ []) t)))

  found_expressions : {texts : Bool} {known k : Known} (them : c.Expressions) → IsNear texts known k → ArePlain texts known.frames them
      → Finds texts known (expressions them k)
  found_expressions c.no_expressions s h = went s
  found_expressions (c.an_expression first rest) s h = bind (found_expression first as_value s h.0) (λ x l s. bind (found_expressions rest s h.1) (λ xs l s. went s))

  pub found_marks : {texts : Bool} {known k : Known} (them : c.Marks) → IsNear texts known k → ArePlainMarks texts known.frames them
      → Finds texts known (marks them k)
  found_marks c.no_marks s h = went s
  found_marks (c.a_mark first rest) s h = bind (found_mark first s h.0) (λ m l s. bind (found_marks rest s h.1) (λ ms l s. went s))

  found_mark : {texts : Bool} {known k : Known} (it : c.Mark) → IsNear texts known k → IsPlainMark texts known.frames it → Finds texts known (mark it k)
  found_mark {k = k} (c.mark predicate id tag bound) s h =
      bind (found_expression predicate as_value (entered_near s) h.0) (λ x l s. bind (found_bindings bound s h.1) (λ bs l s.
      settled k.next (unless (is_good_mark l predicate x id tag bs) bad_mark) _ (went (labels_near (l.labels ++ label_of id tag (names_of bs) ∷ []) s))))

  pub found_bindings : {texts : Bool} {known k : Known} (them : c.Bindings) → IsNear texts known k → ArePlainBindings texts known.frames them
      → Finds texts known (bindings them k)
  found_bindings c.no_bindings s h = went s
  found_bindings (c.a_binding name value rest) s h = bind (found_expression value as_value s h.0) (λ x l s. bind (found_bindings rest s h.1) (λ bs l s. went s))

  found_parts : {texts : Bool} {known k : Known} (them : c.Parts) (t : CType) (is_outermost : Bool) → IsNear texts known k
      → ArePlainParts texts known.frames them → Finds texts known (parts them t false is_outermost k)
  found_parts c.no_parts t is_outermost s h = went s
  found_parts (c.Pointer q rest) t is_outermost s h = bind (found_parts rest t false s h) (λ x l s. went s)
  found_parts (c.Array c.absent rest) t is_outermost s h = bind (found_parts rest t false s h) (λ x l s. went s)
  found_parts {known = known} (c.Array (c.present length) rest) t is_outermost s h =
      bind (bind (constant_walk s (found_expression {known = unmarked known} length as_value (constant_near s) h.0)) (λ x l s. went s)) (λ n l s.
      bind (found_parts rest t false s h.1) (λ x l s. went s))
  found_parts {texts} {known} {k} (c.Function them rest) t is_outermost s h =
      bind (scope_found s (found_parameters h.0 them (here_near (in_scope k)) (parameters_there (scope_tags s) texts them h.1))) (λ x l s. bind (found_parts rest t false s h.2) (λ y l s. went s))

  pub found_declarator : {texts : Bool} {known k : Known} (judge : Option (List ℕ) → Known → Built → List Rule) (d : c.Declarator) (it : Specified) → IsNear texts known k
      → IsPlainDeclarator texts known.frames d → Finds texts known (declarator d it false judge k)
  found_declarator judge (c.declarator name ps) it s h = declared_found judge name ps it s (found_parts ps it.type true (entered_near s) h)

  pub found_parameters : {texts : Bool} {known k : Known} → texts ≡ true → (them : c.Parameters) → IsNear texts known k → ArePlainParameters texts known.frames them
      → Reaches texts known (parameters them false k)
  found_parameters is c.Unstated s h = reach_here s
  found_parameters is c.Void s h = reach_here s
  found_parameters is (c.Listed list) s h = found_list is list s h
  found_parameters is (c.Open list) s h = reach_last with_dots (found_list is list s h)

  found_list : {texts : Bool} {known k : Known} → texts ≡ true → (them : c.ParameterList) → IsNear texts known k → IsPlainList texts known.frames them
      → Reaches texts known (parameter_list them false k)
  found_list is c.no_parameters s h = reach_here s
  found_list {texts} is (c.a_parameter sp d rest) s h =
      reach_then (found_specifiers sp elsewhere refl s h.0) (λ it l s. reach_then (found_declarator (parameter_faults false) d it s h.1) (λ x l s.
      reach_bound x.name (is_register it) x.node (adjusted x.type) is s (λ those later m same s. reach_last (parameter_before x those) (found_list is rest s (list_there same texts rest h.2)))))
