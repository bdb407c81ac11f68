-- Expressions with marks added, each where it may stand: predicates and conditions are those of the place, as the walk comes to it.
use Rattle.std.specs.Prelude.{◌≡◌, ℕ, ◌+◌, not, ◌&&◌, Bool, true, false, List, [], ◌∷◌, ◌++◌, Option, is_some}
use Rattle.std.specs.List.{AllByRecursion}
use Rattle.lt_model.specs.declared.operator.Op.{Op}
use Rattle.lt_tree.specs.declared.expression.LogicalOp.{LogicalOp}
use Rattle.lt_tree.specs.declared.expression.UnaryOp.{UnaryOp}
use Rattle.lt_tree.specs.declared.expression.UnaryOp.TheVariants as unary
use Rattle.lt_tree.specs.Tree as c
use Rattle.lt_tree.specs.Purity.{is_pure}
use Rattle.lt_tree.specs.Nodes.{Node, an_expression as expression_node, a_mark as mark_node, in_expression, in_marks, in_specifiers, in_declarator}
use Rattle.lt_tree.specs.Typing.Types.{CType, is_scalar}
use Rattle.lt_tree.specs.Typing.Extents.{Structs, has_too_many_cells}
use Rattle.lt_tree.specs.Typing.TypedTree.{Value, Marks as TypedMarks}
use Rattle.lt_tree.specs.Typing.Entities.{Known, Object, Fact}
use Rattle.lt_tree.specs.Typing.Steps.{Goes}
use Rattle.lt_tree.specs.Typing.Expressions.{a_value, Typed, as_value, as_truth, as_place, as_callee, own_type, has_floating, has_pointer_to_function}
use Rattle.lt_tree.specs.Typing.Operations.{counts_as_null}
use Rattle.lt_tree.specs.Typing.MarkRules.{id_of, number_of_id, is_tag, inside_mark, inside_after}
use Rattle.lt_tree.specs.Typing.Specifying.{Specified, elsewhere}
use Rattle.lt_tree.specs.Typing.Declarators.{Built, Declares, type_name_faults}
use Rattle.lt_tree.specs.Typing.Rules.{Rule}
use Rattle.lt_tree.specs.Typing.ExpressionTyping.{expression, marks, specifiers, declarator}
use Rattle.lt_objectives.specs.declared.criteria.Criterion.{Criterion}
use Rattle.lt_objectives.specs.Criteria.{tag_of}
use Rattle.lt_objectives.specs.Decisions.{inequality}
use Rattle.lt_mark_laws.specs.Added.{can_be_marked}
use Rattle.lt_mark_laws.specs.Mutants.{IsOfMutants, IsMutant, AreToldApart}
use Rattle.lt_object_laws.specs.Further.{IsFurther}
use Rattle.lt_mark_typing.specs.Beside.{is_used, IsBeside, Position, in_use, in_test, use_of}

-- ---- marks that the text has

-- a node that is no mark with a new id
abbrev pub IsOld : (ℕ → Bool) → Node → Type 0
IsOld new (mark_node (c.mark predicate id tag bound)) = new (number_of_id id) ≡ false
IsOld new (expression_node (c.Decide operand when_true when_false tag)) = (new (number_of_id when_true) ≡ false) × (new (number_of_id when_false) ≡ false)
IsOld new (expression_node (c.After operand id tag)) = new (number_of_id id) ≡ false
IsOld new node = Unit {0}

-- no mark among these nodes has a new id
abbrev pub AreOld : (ℕ → Bool) → List Node → Type 0
AreOld new [] = Unit {0}
AreOld new (node ∷ nodes) = IsOld new node × AreOld new nodes

-- ---- new marks

-- an id as it may be written, new and not used yet
abbrev pub IsNewId : (ℕ → Bool) → List ℕ → List ℕ → Type 0
IsNewId new used id = (is_some (id_of id) ≡ true) × (new (number_of_id id) ≡ true) × (is_used (number_of_id id) used ≡ false)

-- Where this is known an expression has a type that passes a test, and going over it finds nothing but facts and further objects: string literals, and
-- parameters of its type names.
abbrev pub IsAt : (CType → Bool) → Known → c.Expression → Type 0
IsAt test known it =
    (x : Typed) × (next : ℕ) × (facts : List Fact) × (more : List Object) × AllByRecursion IsFurther more
    × (expression it as_value known ≡ Goes x (record known { next = next; objects = known.objects ++ more; facts = facts })) × (test (own_type x) ≡ true)

-- a pure one that does so here in the text with marks added
abbrev pub IsThere : (CType → Bool) → (ℕ → Bool) → List ℕ → Known → c.Expression → Type 0
IsThere test new used known it = (is_pure it ≡ true) × ((further : List Bool) (other : Known) → IsBeside new used further known other → IsAt test other it)

abbrev pub IsPredicateAt : (ℕ → Bool) → List ℕ → Known → c.Expression → Type 0
IsPredicateAt new used known it = IsThere is_scalar new used known it

-- What a label with the tag of mutants says is that an expression and a mutant of it differ; here that is told exactly in the text with marks added.
abbrev pub IsToldThere : (ℕ → Bool) → List ℕ → Known → (tag : List ℕ) → c.Expression → Type 0
IsToldThere new used known tag predicate =
    (criterion : Criterion) → IsOfMutants criterion → tag ≡ tag_of criterion
    → (it : c.Expression) × (other : c.Expression) × (predicate ≡ inequality it other) × IsMutant criterion it other
    × ((further : List Bool) (there : Known) → IsBeside new used further known there → AreToldApart there it other)

-- Labels that bind no names, with new ids, which are used behind them.
abbrev pub AreNewLabels : (ℕ → Bool) → List ℕ → List ℕ → Known → c.Marks → Type 0
AreNewLabels new used after known c.no_marks = after ≡ used
AreNewLabels new used after known (c.a_mark (c.mark predicate id tag c.no_bindings) rest) =
    IsNewId new used id × (is_tag tag ≡ true) × IsPredicateAt new used known predicate × IsToldThere new used known tag predicate × AreNewLabels new (number_of_id id ∷ used) after known rest
AreNewLabels new used after known (c.a_mark (c.mark predicate id tag (c.a_binding name value others)) rest) = ⊥

-- ---- places

-- whether a label may stand in front of an expression in this position
abbrev pub takes_labels : Position → Bool
takes_labels in_test = true
takes_labels (in_use as_value) = true
takes_labels (in_use as_truth) = true
takes_labels (in_use as_place) = false
takes_labels (in_use as_callee) = false

-- the value is neither a call's nor a conversion
abbrev pub IsMarkable : Position → Typed → Type 0
IsMarkable in_test x = Unit {0}
IsMarkable (in_use role) x = (v : Value) × (x.form ≡ a_value v) × (can_be_marked v ≡ true)

-- a value's type breaks no rule by itself
abbrev pub is_good_type : Structs → CType → Bool
is_good_type structs t = not (has_floating t) && not (has_too_many_cells structs t) && not (has_pointer_to_function t)

-- nothing is added within a null pointer constant, C11 6.3.2.3p3, but where its truth alone is used
abbrev pub IsNoNull : Position → Typed → Type 0
IsNoNull in_test x = Unit {0}
IsNoNull (in_use as_truth) x = Unit {0}
IsNoNull (in_use role) x = counts_as_null x ≡ false

abbrev pub entered : Known → Known
entered known = record known { next = known.next + 1 }

-- how the operand of an operator stands
abbrev pub position_of : UnaryOp → Position
position_of unary.AddressOf = in_use as_place
position_of unary.Not = in_test
position_of op = in_use as_value

-- behind marks an expression stands as it does without them, but for places and callees
abbrev pub behind_marks : Position → Position
behind_marks in_test = in_test
behind_marks (in_use role) = in_use (inside_mark role)

-- the rules of a type name
abbrev pub any_type_name : Option (List ℕ) → Known → Built → List Rule
any_type_name name known it = type_name_faults it

abbrev pub joined : c.Marks → c.Marks → c.Marks
joined c.no_marks others = others
joined (c.a_mark first rest) others = c.a_mark first (joined rest others)

mutual
  -- The second expression is the first with marks added, where this is known; the ids that are used before and after.
  pub data AddsTo (new : ℕ → Bool) : Position → List ℕ → List ℕ → Known → c.Expression → c.Expression → Type 0 where
    as_it_is : {position : Position} {used : List ℕ} {known : Known} {it : c.Expression} → AreOld new (in_expression it) → AddsTo new position used used known it it
    in_parts : {position : Position} {used after : List ℕ} {known : Known} {it other : c.Expression}
        → ((x : Typed) (next : Known) → expression it (use_of position) known ≡ Goes x next → IsNoNull position x)
        → AddsToParts new position used after known it other → AddsTo new position used after known it other
    in_front : {position : Position} {used between after : List ℕ} {known : Known} {labels : c.Marks} {it other : c.Expression}
        → known.is_unmarked ≡ false → takes_labels position ≡ true
        → ((x : Typed) (next : Known) → expression it (use_of position) known ≡ Goes x next → IsNoNull position x × IsMarkable position x × (is_good_type next.structs (own_type x) ≡ true))
        → AreNewLabels new used between known labels
        → AddsTo new position between after known it other → AddsTo new position used after known it (c.Marked labels other)
    around : {used after : List ℕ} {known : Known} {when_true when_false tag : List ℕ} {it other : c.Expression}
        → ((x : Typed) (next : Known) → expression it as_truth known ≡ Goes x next → is_scalar (own_type x) ≡ true × (next.is_unmarked ≡ false))
        → IsNewId new after when_true → IsNewId new (number_of_id when_true ∷ after) when_false → is_tag tag ≡ true
        → AddsTo new in_test used after known it other
        → AddsTo new in_test used (number_of_id when_false ∷ number_of_id when_true ∷ after) known it (c.Decide other when_true when_false tag)

  -- each part has its marks
  pub data AddsToParts (new : ℕ → Bool) : Position → List ℕ → List ℕ → Known → c.Expression → c.Expression → Type 0 where
    Index : {position : Position} {used between after : List ℕ} {known : Known} {d i e j : c.Expression}
        → AddsTo new (in_use as_value) used between (entered known) d e
        → ((x : Typed) (next : Known) → expression d as_value (entered known) ≡ Goes x next → AddsTo new (in_use as_value) between after next i j)
        → AddsToParts new position used after known (c.Index d i) (c.Index e j)
    Call : {position : Position} {used between after : List ℕ} {known : Known} {f g : c.Expression} {ds es : c.Expressions}
        → AddsTo new (in_use as_callee) used between (entered known) f g
        → ((x : Typed) (next : Known) → expression f as_callee (entered known) ≡ Goes x next → AddsToAll new between after next ds es)
        → AddsToParts new position used after known (c.Call f ds) (c.Call g es)
    Member : {position : Position} {used after : List ℕ} {known : Known} {name : List ℕ} {d e : c.Expression}
        → AddsTo new (in_use as_place) used after (entered known) d e → AddsToParts new position used after known (c.Member d name) (c.Member e name)
    Arrow : {position : Position} {used after : List ℕ} {known : Known} {name : List ℕ} {d e : c.Expression}
        → AddsTo new (in_use as_value) used after (entered known) d e → AddsToParts new position used after known (c.Arrow d name) (c.Arrow e name)
    PostInc : {position : Position} {used after : List ℕ} {known : Known} {d e : c.Expression}
        → AddsTo new (in_use as_place) used after (entered known) d e → AddsToParts new position used after known (c.PostInc d) (c.PostInc e)
    PostDec : {position : Position} {used after : List ℕ} {known : Known} {d e : c.Expression}
        → AddsTo new (in_use as_place) used after (entered known) d e → AddsToParts new position used after known (c.PostDec d) (c.PostDec e)
    PreInc : {position : Position} {used after : List ℕ} {known : Known} {d e : c.Expression}
        → AddsTo new (in_use as_place) used after (entered known) d e → AddsToParts new position used after known (c.PreInc d) (c.PreInc e)
    PreDec : {position : Position} {used after : List ℕ} {known : Known} {d e : c.Expression}
        → AddsTo new (in_use as_place) used after (entered known) d e → AddsToParts new position used after known (c.PreDec d) (c.PreDec e)
    Unary : {position : Position} {used after : List ℕ} {known : Known} {op : UnaryOp} {d e : c.Expression}
        → AddsTo new (position_of op) used after (entered known) d e → AddsToParts new position used after known (c.Unary op d) (c.Unary op e)
    Cast : {position : Position} {used after : List ℕ} {known : Known} {s : c.Specifiers} {t : c.Declarator} {d e : c.Expression}
        → AreOld new (in_specifiers s) → AreOld new (in_declarator t)
        → ((it : Specified) (next : Known) (type : Declares) (last : Known) → specifiers s elsewhere (entered known) ≡ Goes it next → declarator t it false any_type_name next ≡ Goes type last
        → AddsTo new (in_use as_value) used after last d e)
        → AddsToParts new position used after known (c.Cast s t d) (c.Cast s t e)
    Binary : {position : Position} {used between after : List ℕ} {known : Known} {op : Op} {d i e j : c.Expression}
        → AddsTo new (in_use as_value) used between (entered known) d e
        → ((x : Typed) (next : Known) → expression d as_value (entered known) ≡ Goes x next → AddsTo new (in_use as_value) between after next i j)
        → AddsToParts new position used after known (c.Binary op d i) (c.Binary op e j)
    Logical : {position : Position} {used between after : List ℕ} {known : Known} {op : LogicalOp} {d i e j : c.Expression}
        → AddsTo new in_test used between (entered known) d e
        → ((x : Typed) (next : Known) → expression d as_truth (entered known) ≡ Goes x next → AddsTo new in_test between after next i j)
        → AddsToParts new position used after known (c.Logical op d i) (c.Logical op e j)
    Conditional : {position : Position} {used first second after : List ℕ} {known : Known} {test d i other e j : c.Expression}
        → AddsTo new in_test used first (entered known) test other
        → ((x : Typed) (next : Known) → expression test as_truth (entered known) ≡ Goes x next → AddsTo new (in_use as_value) first second next d e)
        → ((x y : Typed) (next last : Known) → expression test as_truth (entered known) ≡ Goes x next → expression d as_value next ≡ Goes y last
        → AddsTo new (in_use as_value) second after last i j)
        → AddsToParts new position used after known (c.Conditional test d i) (c.Conditional other e j)
    Assign : {position : Position} {used between after : List ℕ} {known : Known} {op : Option Op} {d i e j : c.Expression}
        → AddsTo new (in_use as_place) used between (entered known) d e
        → ((x : Typed) (next : Known) → expression d as_place (entered known) ≡ Goes x next → AddsTo new (in_use as_value) between after next i j)
        → AddsToParts new position used after known (c.Assign op d i) (c.Assign op e j)
    Comma : {position : Position} {used after : List ℕ} {known : Known} {ds es : c.Expressions}
        → AddsToAll new used after (entered known) ds es → AddsToParts new position used after known (c.Comma ds) (c.Comma es)
    -- new labels come after those that stand there
    Marked : {position : Position} {used between after : List ℕ} {known : Known} {ms : c.Marks} {d e : c.Expression} (labels : c.Marks)
        → AreOld new (in_marks ms)
        → ((typed : TypedMarks) (next : Known) → marks ms (entered known) ≡ Goes typed next → (next.is_unmarked ≡ false) × AreNewLabels new used between next labels)
        → ((typed : TypedMarks) (next : Known) → marks ms (entered known) ≡ Goes typed next → AddsTo new (behind_marks position) between after next d e)
        → AddsToParts new position used after known (c.Marked ms d) (c.Marked (joined ms labels) e)
    Decide : {position : Position} {used after : List ℕ} {known : Known} {when_true when_false tag : List ℕ} {d e : c.Expression}
        → use_of position ≡ as_truth → new (number_of_id when_true) ≡ false → new (number_of_id when_false) ≡ false
        → AddsTo new in_test used after (entered known) d e → AddsToParts new position used after known (c.Decide d when_true when_false tag) (c.Decide e when_true when_false tag)
    After : {position : Position} {used after : List ℕ} {known : Known} {id tag : List ℕ} {d e : c.Expression}
        → new (number_of_id id) ≡ false
        → AddsTo new (in_use (inside_after (use_of position))) used after (entered known) d e → AddsToParts new position used after known (c.After d id tag) (c.After e id tag)
    -- labels in front of what stands in a `pc_after`, whatever it is
    AfterLabels : {position : Position} {used between after : List ℕ} {known : Known} {id tag : List ℕ} {labels : c.Marks} {d e : c.Expression}
        → new (number_of_id id) ≡ false → takes_labels position ≡ true → known.is_unmarked ≡ false
        → ((x : Typed) (next : Known) → expression d (use_of position) (entered known) ≡ Goes x next → ((v : Value) × (x.form ≡ a_value v)) × (is_good_type next.structs (own_type x) ≡ true))
        → AreNewLabels new used between (entered known) labels
        → AddsTo new (in_use (use_of position)) between after (entered known) d e
        → AddsToParts new position used after known (c.After d id tag) (c.After (c.Marked labels e) id tag)

  pub data AddsToAll (new : ℕ → Bool) : List ℕ → List ℕ → Known → c.Expressions → c.Expressions → Type 0 where
    no_expressions : {used : List ℕ} {known : Known} → AddsToAll new used used known c.no_expressions c.no_expressions
    an_expression : {used between after : List ℕ} {known : Known} {d e : c.Expression} {ds es : c.Expressions}
        → AddsTo new (in_use as_value) used between known d e
        → ((x : Typed) (next : Known) → expression d as_value known ≡ Goes x next → AddsToAll new between after next ds es)
        → AddsToAll new used after known (c.an_expression d ds) (c.an_expression e es)
