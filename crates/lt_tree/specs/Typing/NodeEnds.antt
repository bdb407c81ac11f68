-- How some nodes end: string literals, marks, enumerators, declarators and members.
use Rattle.std.specs.Prelude.{ℕ, ℤ, pos, ◌+ℤ◌, Bool, true, false, if◌then◌else◌, List, [], ◌∷◌, ◌++◌, Option, Some, None, unwrap_or}
use Rattle.lt_model.specs.declared.scalar.Scalar.TheVariants as S
use Rattle.lt_tree.specs.declared.expression.UnaryOp.{UnaryOp}
use Rattle.lt_tree.specs.declared.expression.UnaryOp.TheVariants as unary
use Rattle.lt_tree.specs.Tree as c
use Rattle.lt_tree.specs.Typing.Constants.{address}
use Rattle.lt_tree.specs.Typing.Rules.{Rule, unless, bad_mark}
use Rattle.lt_tree.specs.Typing.TypedTree as e
use Rattle.lt_tree.specs.Typing.TypedTree.{letters}
use Rattle.lt_tree.specs.Typing.Entities.{Known, literal, unmade, Object, an_enumerator, innermost}
use Rattle.lt_tree.specs.Typing.Steps.{Walk, ◌>>=◌, ◌>>◌, gives, here, enter, settle, binds, adds_label}
use Rattle.lt_tree.specs.Typing.Expressions.{Typed, Use, as_value, as_truth, as_place, placed, value_in, Judged, judgement}
use Rattle.lt_tree.specs.Typing.Operations.{text_type, judge_plus, judge_minus, judge_complement, judge_not, judge_address_of, judge_dereference}
use Rattle.lt_tree.specs.Typing.MarkRules.{TypedBinding, names_of, bindings_of, number_of_id, is_good_mark, label_of}
use Rattle.lt_tree.specs.Typing.Specifying.{Specified, enumerator_faults}
use Rattle.lt_tree.specs.Typing.Declarators.{Parameters, Built, Declares, declares, no_parameters_yet}

-- A string literal is an object of its own, which is made unless it stands in `sizeof`.
abbrev pub text_object : ℕ → Known → List ℕ → Object
text_object node known bytes = record {
  node = node;
  name = [];
  type = text_type bytes;
  life = if known.is_unmarked then unmade else literal;
  start = Some (record { zeroed = true; parts = letters 0 S.Char bytes ∷ [] });
}

unfoldable pub text_at : Known → List ℕ → ℕ → Judged
text_at known bytes n = judgement [] (placed (e.Object (text_type bytes) n) (address n 0))

abbrev pub judge_unary : UnaryOp → Typed → Known → Judged
judge_unary unary.AddressOf x known = judge_address_of x
judge_unary unary.Dereference x known = judge_dereference x known
judge_unary unary.Plus x known = judge_plus x known
judge_unary unary.Minus x known = judge_minus x known
judge_unary unary.Complement x known = judge_complement x known
judge_unary unary.Not x known = judge_not x

-- how an operator uses its operand
abbrev pub operand_of : UnaryOp → Use
operand_of unary.AddressOf = as_place
operand_of unary.Not = as_truth
operand_of _ = as_value

-- an expression with a type name in it, which may break rules too
abbrev pub also : List Rule → Judged → Judged
also faults judged = record judged { faults = faults ++ judged.faults }

-- the two labels of a `pc_decide`
abbrev pub decision_labels : List ℕ → List ℕ → List ℕ → Walk (Unit {0})
decision_labels when_true when_false tag = adds_label (label_of when_true tag []) >> adds_label (label_of when_false tag [])

abbrev pub end_of_mark : ℕ → c.Expression → Typed → List ℕ → List ℕ → List TypedBinding → Walk e.Mark
end_of_mark node written predicate id tag bound = do
  known ← here
  settle node (unless (is_good_mark known written predicate id tag bound) bad_mark)
  adds_label (label_of id tag (names_of bound))
  gives (e.mark (value_in predicate) (number_of_id id) (bindings_of bound))

-- an enumerator's name is in scope behind it; gives what the next one counts on
abbrev pub end_of_enumerator : ℕ → List ℕ → Option ℤ → Walk ℤ
end_of_enumerator node name z = do
  known ← here
  settle node (enumerator_faults known name z)
  binds name (an_enumerator (unwrap_or z (pos 0)))
  gives (unwrap_or z (pos 0) +ℤ pos 1)

-- what a declarator declares, judged at its node where it is one
abbrev pub end_of_declarator : Option ℕ → Option (List ℕ) → Built → List Rule → Walk Declares
end_of_declarator None name it faults = gives (declares 0 name it faults)
end_of_declarator (Some node) name it faults = settle node faults >> gives (declares node name it [])

abbrev pub enter_if : Bool → Walk (Option ℕ)
enter_if written = if written then enter >>= (λ node. gives (Some node)) else gives None

-- A declaration of members has a declarator.
abbrev pub is_no_declarator : c.MemberDeclarators → Bool
is_no_declarator c.no_declarators = true
is_no_declarator (c.a_declarator d width rest) = false

-- what specifiers break that no declarator follows
abbrev pub alone_faults : Bool → Specified → List Rule
alone_faults is_alone it = if is_alone then it.faults else []

-- `()` and `(void)`
abbrev pub without_parameters : Walk Parameters
without_parameters = here >>= (λ known. gives (no_parameters_yet (innermost known.frames)))

abbrev pub with_dots : Parameters → Parameters
with_dots it = record it { dots = true }
