-- How expressions end, once their parts were gone over.
use Rattle.std.specs.Prelude.{ℕ, ℤ, Bool, true, false, List, [], ◌∷◌, ◌++◌, Option, Some}
use Rattle.lt_model.specs.declared.operator.Op.{Op}
use Rattle.lt_tree.specs.declared.expression.UnaryOp.{UnaryOp}
use Rattle.lt_tree.specs.declared.expression.LogicalOp.{LogicalOp}
use Rattle.lt_tree.specs.Tree as c
use Rattle.lt_model.specs.declared.scalar.Scalar.TheVariants as S
use Rattle.lt_tree.specs.Typing.TypedTree as e
use Rattle.lt_tree.specs.Typing.TypedTree.{letters}
use Rattle.lt_tree.specs.Typing.Steps.{Walk, ◌>>=◌, ◌>>◌, gives, here, enter, add_object, adds_label, settle}
use Rattle.lt_tree.specs.Typing.Expressions.{Typed, Use, as_place, own_type, finish}
use Rattle.lt_tree.specs.Typing.Operations.{judge_index, judge_call, judge_member, judge_arrow, judge_step, judge_size, judge_cast}
use Rattle.lt_tree.specs.Typing.BinaryOperations.{judge_binary, judge_logical, judge_conditional, judge_assignment, judge_comma}
use Rattle.lt_tree.specs.Typing.MarkRules.{judge_marked, judge_decide, judge_after, label_of}
use Rattle.lt_tree.specs.Typing.NodeEnds.{judge_unary, text_object, text_at, decision_labels, end_of_enumerator, end_of_declarator, alone_faults, also}
use Rattle.lt_tree.specs.Typing.Extents.{Member}
use Rattle.lt_tree.specs.Typing.Rules.{Rule, broken_if, incomplete_type}
use Rattle.lt_tree.specs.Typing.Entities.{Known, Life, Object, innermost}
use Rattle.lt_tree.specs.Typing.Specifying as s
use Rattle.lt_tree.specs.Typing.Specifying.{value_given}
use Rattle.lt_tree.specs.Typing.Declarators.{Built, Parameters, Declares, Membered, all_faults, length_or_none, binds_parameter, no_parameters_yet}
use Rattle.lt_tree.specs.Typing.Types.{CType, adjusted}
use Rattle.lt_type.specs.Found.{Part, an_array, Found}
use Rattle.lt_tree.specs.Typing.ExpressionTyping.{expression, maybe, declarator}

abbrev pub index_end : ℕ → Use → Typed → Typed → Walk Typed
index_end node role x y = here >>= (λ known. finish node role (judge_index x y known))

abbrev pub call_end : ℕ → Use → Typed → List Typed → Walk Typed
call_end node role f xs = here >>= (λ known. finish node role (judge_call f xs known))

abbrev pub member_end : ℕ → Use → Typed → List ℕ → Walk Typed
member_end node role x name = here >>= (λ known. finish node role (judge_member x name known))

abbrev pub arrow_end : ℕ → Use → Typed → List ℕ → Walk Typed
arrow_end node role x name = here >>= (λ known. finish node role (judge_arrow x name known))

abbrev pub step_end : ℕ → Use → e.When → Op → Typed → Walk Typed
step_end node role gives op x = here >>= (λ known. finish node role (judge_step gives op x known))

abbrev pub unary_end : ℕ → Use → UnaryOp → Typed → Walk Typed
unary_end node role op x = here >>= (λ known. finish node role (judge_unary op x known))

abbrev pub size_end : ℕ → Use → Typed → Walk Typed
size_end node role x = here >>= (λ known. finish node role (judge_size (own_type x) known))

abbrev pub binary_end : ℕ → Use → Op → Typed → Typed → Walk Typed
binary_end node role op x y = here >>= (λ known. finish node role (judge_binary op x y known))

abbrev pub logical_end : ℕ → Use → LogicalOp → Typed → Typed → Walk Typed
logical_end node role op x y = finish node role (judge_logical op x y)

abbrev pub conditional_end : ℕ → Use → Typed → Typed → Typed → Walk Typed
conditional_end node role p x y = here >>= (λ known. finish node role (judge_conditional p x y known))

abbrev pub assignment_end : ℕ → Use → Option Op → Typed → Typed → Walk Typed
assignment_end node role op x y = here >>= (λ known. finish node role (judge_assignment op x y known))

abbrev pub comma_end : ℕ → Use → List Typed → Walk Typed
comma_end node role xs = finish node role (judge_comma xs)

abbrev pub marked_end : ℕ → Use → e.Marks → Typed → Walk Typed
marked_end node role ms x = finish node role (judge_marked ms x)

-- ---- string literals

-- an object that starts as these bytes
abbrev pub letters_of : ℕ → CType → Life → List ℕ → Object
letters_of node t life bytes = record { node = node; name = []; type = t; life = life; start = Some (record { zeroed = true; parts = letters 0 S.Char bytes ∷ [] }) }

abbrev pub text_number : ℕ → List ℕ → Walk ℕ
text_number node bytes = here >>= (λ known. add_object (text_object node known bytes))

abbrev pub text_end : ℕ → Use → List ℕ → ℕ → Walk Typed
text_end node role bytes n = here >>= (λ known. finish node role (text_at known bytes n))

-- ---- marks

abbrev pub decide_end : ℕ → Use → Typed → List ℕ → List ℕ → List ℕ → Walk Typed
decide_end node role x when_true when_false tag = here >>= (λ known. finish node role (judge_decide role x when_true when_false tag known) >>= (λ result. decision_labels when_true when_false tag >> gives result))

abbrev pub after_end : ℕ → Use → Typed → List ℕ → List ℕ → Walk Typed
after_end node role x id tag = here >>= (λ known. finish node role (judge_after role x id tag known) >>= (λ result. adds_label (label_of id tag []) >> gives result))

-- ---- operators on one operand

abbrev pub step : e.When → Op → c.Expression → Use → Walk Typed
step gives op target role = enter >>= (λ node. expression target as_place >>= (λ x. step_end node role gives op x))

abbrev pub unary : UnaryOp → Use → c.Expression → Use → Walk Typed
unary op inner operand role = enter >>= (λ node. expression operand inner >>= (λ x. unary_end node role op x))

-- ---- specifiers

abbrev pub enumerator : List ℕ → c.Maybe → ℤ → Walk ℤ
enumerator name value counted = enter >>= (λ node. maybe value >>= (λ x. end_of_enumerator node name (value_given counted x)))

-- a member with its width
abbrev pub member_declarator : c.Declarator → c.Maybe → s.Specified → (Option (List ℕ) → Known → Built → List Rule) → Walk Declares
member_declarator d width it judge = declarator d it false judge >>= (λ declared. maybe width >>= (λ written. gives declared))

-- a declaration among members ends
abbrev pub members_end : ℕ → Bool → s.Specified → Membered → Walk (List Member)
members_end node is_alone it found = settle node (broken_if incomplete_type is_alone ++ alone_faults is_alone it ++ found.faults) >> gives found.members

-- a declarator ends
abbrev pub declarator_end : Option ℕ → Option (List ℕ) → s.Specified → (Option (List ℕ) → Known → Built → List Rule) → Built → Walk Declares
declarator_end node name it judge b = here >>= (λ known. end_of_declarator node name b (all_faults it b (judge name known b)))

abbrev pub sizeof_type_end : ℕ → Use → Declares → Walk Typed
sizeof_type_end node role t = here >>= (λ known. finish node role (also t.faults (judge_size t.type known)))

abbrev pub cast_end : ℕ → Use → Declares → Typed → Walk Typed
cast_end node role t x = here >>= (λ known. finish node role (also t.faults (judge_cast t.type x known)))

-- an array part ends
abbrev pub array_end : Bool → Option Typed → Walk Part
array_end is_outermost n = gives (an_array (length_or_none is_outermost n))

-- a parameter ends
abbrev pub found_end : Declares → (is_definition is_register : Bool) → Walk Found
found_end declared is_definition is_register = binds_parameter is_definition is_register declared.node declared.name (adjusted declared.type) >>= (λ objects. gives (record { declared = declared; objects = objects }))

abbrev pub without_any : Known → Parameters
without_any known = no_parameters_yet (innermost known.frames)
