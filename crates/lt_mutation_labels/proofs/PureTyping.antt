-- A pure expression that is typed has a pure value, and the data model stays.
use Rattle.std.proofs.Common.{◌≡◌, ℕ, ◌+◌, List, ◌∷◌, ◌++◌, Option, Some, None, Bool, true, false, refl, subst}
use Rattle.std.proofs.lemmas.Bool.{false≢true}
use Rattle.std.specs.Prelude.{◌&&◌, if◌then◌else◌}
use Rattle.lt_model.specs.declared.scalar.DataModel.{DataModel}
use Rattle.lt_tree.specs.Tree as c
use Rattle.lt_tree.specs.Purity.{is_pure, are_pure, is_pure_specifiers, are_pure_types, is_pure_type, is_pure_declarator, are_pure_parts, is_pure_maybe, are_pure_parameters, is_pure_parameter_list}
use Rattle.lt_tree.specs.Typing.Types.{CType, adjusted}
use Rattle.lt_tree.specs.Typing.Constants.{constant_of}
use Rattle.lt_tree.specs.Typing.Rules.{Rule, least}
use Rattle.lt_tree.specs.Typing.Entities.{Known, Frame, no_names, Tagged, a_struct, an_enum, tag_here, tagged_in, meaning_of}
use Rattle.lt_tree.specs.Typing.Steps.{Outcome, Goes, Breaks, goes_on, settle, unless_broken, left, marked_again}
use Rattle.lt_tree.specs.Typing.Expressions.{Typed, Use, Judged, as_value, as_truth, as_place, own_type, value_in, faults_of_any, finish}
use Rattle.lt_tree.specs.Typing.Operations.{judge_name, judge_constant, judge_size, judge_member, judge_arrow, judge_index, judge_cast}
use Rattle.lt_tree.specs.Typing.BinaryOperations.{judge_binary, judge_logical, judge_conditional, judge_comma, values_of}
use Rattle.lt_tree.specs.Typing.Specifying.{Specified, is_register, Setting, elsewhere, is_alone, beside_words, struct_tagged}
use Rattle.lt_tree.specs.Typing.Declarators.{Built, all_faults, setting_in_sizeof, is_written, type_name_faults, parameter_faults, binds_parameter}
use Rattle.lt_tree.specs.Typing.NodeEnds.{judge_unary, text_at, operand_of, also, end_of_declarator, enter_if}
use Rattle.lt_tree.specs.Typing.ExpressionTyping.{expression, expressions, maybe, specifiers, type_specifiers, type_specifier, declarator, parts, parameters, parameter_list}
use Rattle.lt_meaning.specs.Expressions.{is_pure as is_pure_value, are_pure as are_pure_values}
use Rattle.lt_mutation_labels.proofs.Pure.{IsPure, value_pure, used_pure, first_true, second_true, both_true, name_pure, constant_pure, index_pure, member_pure, arrow_pure, unary_pure, size_pure, cast_pure, binary_pure, logical_pure, conditional_pure, comma_pure}

-- Where a walk goes on, it is to what has a property, and with this data model.
data Stays {A : Type 0} (m : DataModel) (R : A → Type 0) : Outcome A → Type 0 where
  went : {a : A} {k : Known} → R a → k.model ≡ m → Stays m R (Goes a k)
  broke : {rule : Rule} {node : ℕ} → Stays m R (Breaks rule node)

-- of other things than values nothing is said
abbrev Free : {A : Type 0} → A → Type 0
Free a = Unit {0}

abbrev ArePure : List Typed → Type 0
ArePure xs = are_pure_values (values_of xs) ≡ true

module _ {m : DataModel} where
  bind : {A B : Type 0} {R : A → Type 0} {Q : B → Type 0} {o : Outcome A} {rest : A → Known → Outcome B} → Stays m R o → ((a : A) (k : Known) → R a → k.model ≡ m → Stays m Q (rest a k)) → Stays m Q (goes_on o rest)
  bind (went {a} {k} r e) f = f a k r e
  bind broke f = broke

  judged : (node : ℕ) (rules : List Rule) (k : Known) → k.model ≡ m → Stays m (Free {A = Unit {0}}) (settle node rules k)
  judged node rules k e = elim (least rules) as (λ rule. Stays m (Free {A = Unit {0}}) (unless_broken rule node k)) [ None ↦ went tt e | Some rule ↦ broke ]

  unmarked : {A : Type 0} {R : A → Type 0} {o : Outcome A} (was : Bool) → Stays m R o → Stays m R (marked_again was o)
  unmarked was (went r e) = went r e
  unmarked was broke = broke

  scoped : {A : Type 0} {R : A → Type 0} {o : Outcome A} (frames : List Frame) → Stays m R o → Stays m R (goes_on (left frames o) (λ r known. Goes r.0 known))
  scoped frames (went r e) = went r e
  scoped frames broke = broke

  finished : (node : ℕ) (role : Use) (it : Judged) (k : Known) → IsPure it.typed → k.model ≡ m → Stays m IsPure (finish node role it k)
  unfolding finish
  finished node role it k h e = bind (judged node (it.faults ++ faults_of_any k.structs role it.typed) k e) (λ u j _ e. went (used_pure role it.typed h) e)

  struct_found : (tag : List ℕ) (found : Option Tagged) (k : Known) → k.model ≡ m → Stays m Free (struct_tagged tag found k)
  struct_found tag None k e = went tt e
  struct_found tag (Some (a_struct n)) k e = went tt e
  struct_found tag (Some (an_enum is_complete)) k e = went tt e

  may_enter : (written : Bool) (k : Known) → k.model ≡ m → Stays m Free (enter_if written k)
  may_enter true k e = went tt e
  may_enter false k e = went tt e

  declarator_ended : (node : Option ℕ) (name : Option (List ℕ)) (it : Built) (faults : List Rule) (k : Known) → k.model ≡ m → Stays m Free (end_of_declarator node name it faults k)
  declarator_ended None name it faults k e = went tt e
  declarator_ended (Some node) name it faults k e = bind (judged node faults k e) (λ u j _ e. went tt e)

  parameter_bound : (is_definition is_register : Bool) (node : ℕ) (name : Option (List ℕ)) (t : CType) (k : Known) → k.model ≡ m → Stays m Free (binds_parameter is_definition is_register node name t k)
  parameter_bound is_definition is_register node None t k e = went tt e
  parameter_bound is_definition is_register node (Some name) t k e = went tt e

  text_finished : (bytes : List ℕ) (role : Use) (k : Known) → k.model ≡ m → Stays m IsPure (expression (c.Text bytes) role k)
  unfolding text_at
  text_finished bytes role k e = finished k.next role _ _ refl e

  mutual
    of_expression : (it : c.Expression) (role : Use) (k : Known) → is_pure it ≡ true → k.model ≡ m → Stays m IsPure (expression it role k)
    of_expression (c.Name w) role k p e =
        let first : Known = record k { next = k.next + 1 } in
        finished k.next role (judge_name role w (meaning_of w first) first) first (name_pure role w (meaning_of w first) first) e
    of_expression (c.Constant w) role k p e = finished k.next role (judge_constant (constant_of k.model w)) (record k { next = k.next + 1 }) (constant_pure (constant_of k.model w)) e
    of_expression (c.Text bytes) role k p e = text_finished bytes role k e
    of_expression (c.Index whole index) role k p e =
        bind (of_expression whole as_value (record k { next = k.next + 1 }) (first_true (is_pure whole) (is_pure index) p) e) (λ x j f e.
        bind (of_expression index as_value j (second_true (is_pure whole) (is_pure index) p) e) (λ y j g e. finished k.next role (judge_index x y j) j (index_pure x y j f g) e))
    of_expression (c.Call callee arguments) role k p e = absurd (false≢true p)
    of_expression (c.Member whole w) role k p e = bind (of_expression whole as_place (record k { next = k.next + 1 }) p e) (λ x j f e. finished k.next role (judge_member x w j) j (member_pure x w j f) e)
    of_expression (c.Arrow pointer w) role k p e = bind (of_expression pointer as_value (record k { next = k.next + 1 }) p e) (λ x j f e. finished k.next role (judge_arrow x w j) j (arrow_pure x w j f) e)
    of_expression (c.PostInc target) role k p e = absurd (false≢true p)
    of_expression (c.PostDec target) role k p e = absurd (false≢true p)
    of_expression (c.PreInc target) role k p e = absurd (false≢true p)
    of_expression (c.PreDec target) role k p e = absurd (false≢true p)
    of_expression (c.Unary op operand) role k p e = bind (of_expression operand (operand_of op) (record k { next = k.next + 1 }) p e) (λ x j f e. finished k.next role (judge_unary op x j) j (unary_pure op x j f) e)
    of_expression (c.SizeofExpr operand) role k p e =
        bind (unmarked k.is_unmarked (of_expression operand as_place (record k { next = k.next + 1; is_unmarked = true }) p e)) (λ x j f e. finished k.next role (judge_size (own_type x) j) j (size_pure (own_type x) j) e)
    of_expression (c.SizeofType s d) role k p e =
        bind (of_specifiers s (setting_in_sizeof d) (record k { next = k.next + 1 }) (first_true (is_pure_specifiers s) (is_pure_declarator d) p) e) (λ it j _ e.
        bind (of_declarator d it false (λ name known b. type_name_faults b) j (second_true (is_pure_specifiers s) (is_pure_declarator d) p) e)
        (λ t j _ e. finished k.next role (also t.faults (judge_size t.type j)) j (size_pure t.type j) e))
    of_expression (c.Cast s d operand) role k p e =
        let front = first_true (is_pure_specifiers s && is_pure_declarator d) (is_pure operand) p in
        bind (of_specifiers s elsewhere (record k { next = k.next + 1 }) (first_true (is_pure_specifiers s) (is_pure_declarator d) front) e) (λ it j _ e.
        bind (of_declarator d it false (λ name known b. type_name_faults b) j (second_true (is_pure_specifiers s) (is_pure_declarator d) front) e) (λ t j _ e.
        bind (of_expression operand as_value j (second_true (is_pure_specifiers s && is_pure_declarator d) (is_pure operand) p) e)
        (λ x j f e. finished k.next role (also t.faults (judge_cast t.type x j)) j (cast_pure t.type x j f) e)))
    of_expression (c.Binary op left right) role k p e =
        bind (of_expression left as_value (record k { next = k.next + 1 }) (first_true (is_pure left) (is_pure right) p) e) (λ x j f e.
        bind (of_expression right as_value j (second_true (is_pure left) (is_pure right) p) e) (λ y j g e. finished k.next role (judge_binary op x y j) j (binary_pure op x y j f g) e))
    of_expression (c.Logical op left right) role k p e =
        bind (of_expression left as_truth (record k { next = k.next + 1 }) (first_true (is_pure left) (is_pure right) p) e) (λ x j f e.
        bind (of_expression right as_truth j (second_true (is_pure left) (is_pure right) p) e) (λ y j g e. finished k.next role (judge_logical op x y) j (logical_pure op x y f g) e))
    of_expression (c.Conditional test left right) role k p e =
        let front = first_true (is_pure test && is_pure left) (is_pure right) p in
        bind (of_expression test as_truth (record k { next = k.next + 1 }) (first_true (is_pure test) (is_pure left) front) e) (λ o j f e.
        bind (of_expression left as_value j (second_true (is_pure test) (is_pure left) front) e) (λ x j g e.
        bind (of_expression right as_value j (second_true (is_pure test && is_pure left) (is_pure right) p) e)
        (λ y j h e. finished k.next role (judge_conditional o x y j) j (conditional_pure o x y j f g h) e)))
    of_expression (c.Assign op target value) role k p e = absurd (false≢true p)
    of_expression (c.Comma list) role k p e = bind (of_expressions list (record k { next = k.next + 1 }) p e) (λ xs j f e. finished k.next role (judge_comma xs) j (comma_pure xs f) e)
    of_expression (c.Marked ms value) role k p e = absurd (false≢true p)
    of_expression (c.Decide operand when_true when_false tag) role k p e = absurd (false≢true p)
    of_expression (c.After operand id tag) role k p e = absurd (false≢true p)

    of_expressions : (them : c.Expressions) (k : Known) → are_pure them ≡ true → k.model ≡ m → Stays m ArePure (expressions them k)
    of_expressions c.no_expressions k p e = went refl e
    of_expressions (c.an_expression first rest) k p e =
        bind (of_expression first as_value k (first_true (is_pure first) (are_pure rest) p) e) (λ x j f e. bind (of_expressions rest j (second_true (is_pure first) (are_pure rest) p) e)
        (λ xs j g e. went (both_true (is_pure_value (value_in x)) (are_pure_values (values_of xs)) (value_pure x f) g) e))

    of_maybe : (it : c.Maybe) (k : Known) → is_pure_maybe it ≡ true → k.model ≡ m → Stays m Free (maybe it k)
    of_maybe c.absent k p e = went tt e
    of_maybe (c.present it) k p e = bind (unmarked k.is_unmarked (of_expression it as_value (record k { is_unmarked = true }) p e)) (λ x j _ e. went tt e)

    of_specifiers : (it : c.Specifiers) (setting : Setting) (k : Known) → is_pure_specifiers it ≡ true → k.model ≡ m → Stays m Free (specifiers it setting k)
    of_specifiers (c.specifiers words types) setting k p e = bind (of_types types (beside_words words setting) k p e) (λ namings j _ e. went tt e)

    of_types : (them : c.TypeSpecifiers) (setting : Setting) (k : Known) → are_pure_types them ≡ true → k.model ≡ m → Stays m Free (type_specifiers them setting k)
    of_types c.no_types setting k p e = went tt e
    of_types (c.a_type first rest) setting k p e =
        bind (of_type first setting k (first_true (is_pure_type first) (are_pure_types rest) p) e) (λ it j _ e. bind (of_types rest setting j (second_true (is_pure_type first) (are_pure_types rest) p) e) (λ others j _ e. went tt e))

    of_type : (it : c.TypeSpecifier) (setting : Setting) (k : Known) → is_pure_type it ≡ true → k.model ≡ m → Stays m Free (type_specifier it setting k)
    of_type (c.Basic type) setting k p e = went tt e
    of_type (c.Word word) setting k p e = went tt e
    of_type (c.StructTag tag) setting k p e = struct_found tag (if is_alone setting then tag_here tag k else tagged_in tag k.frames) k e
    of_type (c.Struct tag list) setting k p e = absurd (false≢true p)
    of_type (c.EnumTag tag) setting k p e = went tt e
    of_type (c.Enum tag list) setting k p e = absurd (false≢true p)
    of_type (c.Named name) setting k p e = went tt e

    of_declarator : (it : c.Declarator) (sp : Specified) (is_definition : Bool) (judge : Option (List ℕ) → Known → Built → List Rule) (k : Known) → is_pure_declarator it ≡ true → k.model ≡ m
        → Stays m Free (declarator it sp is_definition judge k)
    of_declarator (c.declarator name ps) sp is_definition judge k p e =
        bind (may_enter (is_written name ps) k e) (λ node j _ e. bind (of_parts ps sp.type is_definition true j p e) (λ b j _ e. declarator_ended node name b (all_faults sp b (judge name j b)) j e))

    of_parts : (them : c.Parts) (t : CType) (is_definition is_outermost : Bool) (k : Known) → are_pure_parts them ≡ true → k.model ≡ m → Stays m Free (parts them t is_definition is_outermost k)
    of_parts c.no_parts t is_definition is_outermost k p e = went tt e
    of_parts (c.Pointer q rest) t is_definition is_outermost k p e = bind (of_parts rest t false false k p e) (λ inner j _ e. went tt e)
    of_parts (c.Array length rest) t is_definition is_outermost k p e =
        bind (of_maybe length k (first_true (is_pure_maybe length) (are_pure_parts rest) p) e) (λ n j _ e. bind (of_parts rest t false false j (second_true (is_pure_maybe length) (are_pure_parts rest) p) e) (λ inner j _ e. went tt e))
    of_parts (c.Function them rest) t is_definition is_outermost k p e =
        bind (scoped k.frames (of_parameters them is_definition (record k { frames = no_names ∷ k.frames }) (first_true (are_pure_parameters them) (are_pure_parts rest) p) e)) (λ found j _ e.
        bind (of_parts rest t false false j (second_true (are_pure_parameters them) (are_pure_parts rest) p) e) (λ inner j _ e. went tt e))

    of_parameters : (them : c.Parameters) (is_definition : Bool) (k : Known) → are_pure_parameters them ≡ true → k.model ≡ m → Stays m Free (parameters them is_definition k)
    of_parameters c.Unstated is_definition k p e = went tt e
    of_parameters c.Void is_definition k p e = went tt e
    of_parameters (c.Listed list) is_definition k p e = of_parameter_list list is_definition k p e
    of_parameters (c.Open list) is_definition k p e = bind (of_parameter_list list is_definition k p e) (λ them j _ e. went tt e)

    of_parameter_list : (them : c.ParameterList) (is_definition : Bool) (k : Known) → is_pure_parameter_list them ≡ true → k.model ≡ m → Stays m Free (parameter_list them is_definition k)
    of_parameter_list c.no_parameters is_definition k p e = went tt e
    of_parameter_list (c.a_parameter sp d rest) is_definition k p e =
        let front = first_true (is_pure_specifiers sp && is_pure_declarator d) (is_pure_parameter_list rest) p in
        bind (of_specifiers sp elsewhere k (first_true (is_pure_specifiers sp) (is_pure_declarator d) front) e) (λ it j _ e.
        bind (of_declarator d it false (parameter_faults is_definition) j (second_true (is_pure_specifiers sp) (is_pure_declarator d) front) e)
        (λ declared j _ e. bind (parameter_bound is_definition (is_register it) declared.node declared.name (adjusted declared.type) j e)
        (λ objects j _ e. bind (of_parameter_list rest is_definition j (second_true (is_pure_specifiers sp && is_pure_declarator d) (is_pure_parameter_list rest) p) e) (λ others j _ e. went tt e))))

stayed : {m : DataModel} {x : Typed} {k : Known} → Stays m IsPure (Goes x k) → IsPure x × (k.model ≡ m)
stayed (went r e) = (r, e)

pub typed_pure : {m : DataModel} (it : c.Expression) (role : Use) (k : Known) {j : Known} {x : Typed} → is_pure it ≡ true → k.model ≡ m → expression it role k ≡ Goes x j → IsPure x × (j.model ≡ m)
typed_pure {m} it role k p e h = stayed (subst (Stays m IsPure) h (of_expression it role k p e))
