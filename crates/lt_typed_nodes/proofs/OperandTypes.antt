-- The types that are noted of operands are those of their values.
use Rattle.std.proofs.Common.{◌≡◌, sym, ap, ◌∙◌, subst, ℕ, ◌+◌, List, [], ◌∷◌, ◌++◌, length, Option, Some, None, append_assoc, arith}
use Rattle.std.proofs.lemmas.List.{length-append}
use Rattle.lt_tree.specs.Tree as c
use Rattle.lt_tree.specs.Nodes.{Node, in_expression, in_marks, in_mark}
use Rattle.lt_tree.specs.Typing.Types.{CType, Void}
use Rattle.lt_tree.specs.Typing.Rules.{Rule, least}
use Rattle.lt_tree.specs.Typing.TypedTree as e
use Rattle.lt_tree.specs.Typing.TypedTree.{Value, Place, type_of, type_at}
use Rattle.lt_tree.specs.Typing.Entities.{Known, Fact, Label}
use Rattle.lt_tree.specs.Typing.Steps.{Outcome, Goes, Breaks, goes_on, unless_broken}
use Rattle.lt_tree.specs.Typing.Expressions.{Typed, as_value, own_type, as_it_is_read, fact_of, Judged, faults_of_any, finish}
use Rattle.lt_tree.specs.Typing.BinaryOperations.{last_of, judge_comma}
use Rattle.lt_tree.specs.Typing.MarkRules.{label_of, judge_decide, judge_after, judge_marked}
use Rattle.lt_tree.specs.Typing.ExpressionTyping.{expression, expressions, marks, mark}
use Rattle.lt_tree_laws.specs.Typing.NodeNumbers.{GoesOver, PartsAreNumbered}
use Rattle.lt_objectives.specs.Places.{value_part, last_value_part, fact_among}
use Rattle.lt_typed_nodes.specs.Laws.{NotesBegunNodes, IsReadAs, OperandsHaveTheirTypes}
use Rattle.lt_typed_nodes.specs.Coming.{entered}
use Rattle.lt_typed_nodes.proofs.FactSteps.{Whole, EndsAt, ended, broke_off, whole}
use Rattle.lt_typed_nodes.proofs.NotedExpressions.{of_expression, of_marks}
use Rattle.lt_typed_nodes.proofs.ReadTypes.{values_have_their_types, read_twice}
use Rattle.lt_typed_nodes.proofs.FoundFacts.{begun_inside, begun_behind, found_later}

-- ---- what is found

-- Of a node of this number a fact is found, whose type is that of the value.
data FoundAt (number : ℕ) : Outcome Typed → Type 0 where
  found : (y : Typed) {behind : Known} (fact : Fact) → ((later : List Fact) → fact_among (behind.facts ++ later) number ≡ Some fact)
      → IsReadAs fact.type (own_type (as_it_is_read y)) → FoundAt number (Goes (as_it_is_read y) behind)
  broke : {rule : Rule} {node : ℕ} → FoundAt number (Breaks rule node)

-- of its own node
found_itself : (known : Known) {o : Outcome Typed} → NotesBegunNodes known → EndsAt as_value known o → FoundAt known.next o
found_itself known begun (ended y {behind = behind} more le is all) =
    found y (fact_of known.next y) (λ later. found_later known behind more later y begun is all) (values_have_their_types y)
found_itself known begun broke_off = broke

-- a node around it ends, of which another fact is noted
outer_by : (number node : ℕ) (rule : Option Rule) (y : Typed) (known : Known) (fact : Fact) → ((later : List Fact) → fact_among (known.facts ++ later) number ≡ Some fact)
    → IsReadAs fact.type (own_type (as_it_is_read y))
    → FoundAt number (goes_on (unless_broken rule node known) (λ u k. Goes (as_it_is_read y) (record k { facts = k.facts ++ fact_of node y ∷ [] })))
outer_by number node None y known fact there is =
    found y fact (λ later. ap (λ facts. fact_among facts number) (append_assoc known.facts (fact_of node y ∷ []) later) ∙ there (fact_of node y ∷ later)) is
outer_by number node (Some rule) y known fact there is = broke

outer : (number node : ℕ) (it : Judged) (known : Known) (fact : Fact) → ((later : List Fact) → fact_among (known.facts ++ later) number ≡ Some fact)
    → IsReadAs fact.type (own_type (as_it_is_read it.typed)) → FoundAt number (finish node as_value it known)
unfolding finish
outer number node it known fact there is = outer_by number node (least (it.faults ++ faults_of_any known.structs as_value it.typed)) it.typed known fact there is

-- what is found of an expression is found of one with marks around it
of_marked : {number : ℕ} (node : ℕ) (typed : e.Marks) {o : Outcome Typed} → FoundAt number o → FoundAt number (goes_on o (λ x k. finish node as_value (judge_marked typed x) k))
unfolding judge_marked
of_marked {number} node typed (found y {behind = k} fact there is) = outer number node (judge_marked typed (as_it_is_read y)) k fact there is
of_marked node typed broke = broke

-- labels are added behind it
with_labels : {number : ℕ} (labels : Known → List Label) {o : Outcome Typed} → FoundAt number o → FoundAt number (goes_on o (λ x k. Goes x (record k { labels = labels k })))
with_labels labels (found y fact there is) = found y fact there is
with_labels labels broke = broke

of_after : {number : ℕ} (node : ℕ) (id tag : List ℕ) (labels : Known → List Label) {o : Outcome Typed} → FoundAt number o
    → FoundAt number (goes_on o (λ x k. goes_on (finish node as_value (judge_after as_value x id tag k) k) (λ x k. Goes x (record k { labels = labels k }))))
unfolding judge_after
of_after {number} node id tag labels (found y {behind = k} fact there is) =
    with_labels labels (outer number node (judge_after as_value (as_it_is_read y) id tag k) k fact there (subst (λ u. IsReadAs fact.type u) (sym (read_twice y)) is))
of_after node id tag labels broke = broke

-- a value is never decided
of_decided : {number : ℕ} (node : ℕ) (when_true when_false tag : List ℕ) (rest : Typed → Known → Outcome Typed) (o : Outcome Typed)
    → FoundAt number (goes_on o (λ x k. goes_on (finish node as_value (judge_decide as_value x when_true when_false tag k) k) rest))
unfolding judge_decide finish
of_decided node when_true when_false tag rest (Goes x k) = broke
of_decided node when_true when_false tag rest (Breaks rule at) = broke

-- ---- numbers

-- a mark and those behind it
joined_over : (xs ys : List Node) (known : Known) (o : Outcome e.Mark) (rest : e.Mark → Known → Outcome e.Marks)
    → GoesOver xs known o → ((m : e.Mark) (k : Known) → GoesOver ys k (rest m k)) → GoesOver (xs ++ ys) known (goes_on o rest)
joined_over xs ys known (Breaks rule node) rest over f = (over.0, let both : length (xs ++ ys) ≡ length xs + length ys = length-append xs ys in omega (arith, over.1))
joined_over xs ys known (Goes m k) rest over f = behind_it (rest m k) (f m k)
  where
    both : length (xs ++ ys) ≡ length xs + length ys
    both = length-append xs ys

    behind_it : (o : Outcome e.Marks) → GoesOver ys k o → GoesOver (xs ++ ys) known o
    behind_it (Goes ms j) g = omega (arith, over, g, both)
    behind_it (Breaks rule node) g = (omega (arith, over, g.0), omega (arith, over, g.1, both))

added : (m : e.Mark) (xs : List Node) (known : Known) (o : Outcome e.Marks) → GoesOver xs known o → GoesOver xs known (goes_on o (λ ms k. Goes (e.a_mark m ms) k))
added m xs known (Goes ms k) over = over
added m xs known (Breaks rule node) over = over

-- marks have the numbers of their nodes
marks_are_numbered : PartsAreNumbered → (them : c.Marks) (known : Known) → GoesOver (in_marks them) known (marks them known)
marks_are_numbered numbered c.no_marks known = omega arith
marks_are_numbered numbered (c.a_mark first rest) known =
    joined_over (in_mark first) (in_marks rest) known (mark first known) (λ m k. goes_on (marks rest k) (λ ms k. Goes (e.a_mark m ms) k)) (numbered.1 first known)
    (λ m k. added m (in_marks rest) k (marks rest k) (marks_are_numbered numbered rest k))

-- ---- the last part of a comma expression

-- Of the last of these parts a fact is found at this number, whose type is that of its value.
data FoundLast (number : ℕ) : Outcome (List Typed) → Type 0 where
  found_last : {xs : List Typed} {behind : Known} (fact : Fact) → ((later : List Fact) → fact_among (behind.facts ++ later) number ≡ Some fact)
      → ((t : CType) → IsReadAs fact.type (last_of t xs)) → FoundLast number (Goes xs behind)
  broke_last : {rule : Rule} {node : ℕ} → FoundLast number (Breaks rule node)

-- if there are any, where the comma expression has this number
abbrev LastIsFound : ℕ → Known → c.Expressions → Type 0
LastIsFound n known c.no_expressions = Unit {0}
LastIsFound n known (c.an_expression first rest) = FoundLast (last_value_part n known.next (c.an_expression first rest)).number (expressions (c.an_expression first rest) known)

alone : {number : ℕ} {o : Outcome Typed} → FoundAt number o → FoundLast number (goes_on o (λ x k. Goes (x ∷ []) k))
alone (found y fact there is) = found_last fact there (λ t. is)
alone broke = broke_last

with_first : {number : ℕ} (x : Typed) {o : Outcome (List Typed)} → FoundLast number o → FoundLast number (goes_on o (λ xs k. Goes (x ∷ xs) k))
with_first x (found_last fact there is) = found_last fact there (λ t. is (own_type x))
with_first x broke_last = broke_last

behind_first : (n : ℕ) (first next : c.Expression) (rest : c.Expressions) (known : Known) (o : Outcome Typed) → Whole known o → GoesOver (in_expression first) known o → NotesBegunNodes known
    → ((k : Known) → NotesBegunNodes k → LastIsFound n k (c.an_expression next rest))
    → FoundLast (last_value_part n (known.next + length (in_expression first)) (c.an_expression next rest)).number
    (goes_on o (λ x k. goes_on (expressions (c.an_expression next rest) k) (λ xs k. Goes (x ∷ xs) k)))
behind_first n first next rest known (Goes x k) w over begun f =
    subst (λ m. FoundLast (last_value_part n m (c.an_expression next rest)).number (goes_on (expressions (c.an_expression next rest) k) (λ xs k. Goes (x ∷ xs) k))) over
    (with_first x (f k (begun_behind known k w begun)))
behind_first n first next rest known (Breaks rule node) w over begun f = broke_last

last_step : (numbered : PartsAreNumbered) (n : ℕ) (first : c.Expression) (rest : c.Expressions) (known : Known) → NotesBegunNodes known
    → FoundAt (value_part known.next first).number (expression first as_value known) → ((k : Known) → NotesBegunNodes k → LastIsFound n k rest)
    → LastIsFound n known (c.an_expression first rest)
last_step numbered n first c.no_expressions known begun there f = alone there
last_step numbered n first (c.an_expression next rest) known begun there f =
    behind_first n first next rest known (expression first as_value known) (whole known (of_expression first as_value known)) (numbered.0 first as_value known) begun f

-- a comma expression ends
of_comma : {number : ℕ} (node : ℕ) {o : Outcome (List Typed)} → FoundLast number o → FoundAt number (goes_on o (λ xs k. finish node as_value (judge_comma xs) k))
unfolding judge_comma
of_comma {number} node (found_last {xs = xs} {behind = k} fact there is) = outer number node (judge_comma xs) k fact there (is Void)
of_comma node broke_last = broke

comma : (list : c.Expressions) (known : Known) → NotesBegunNodes known → LastIsFound known.next (entered known) list
    → FoundAt (value_part known.next (c.Comma list)).number (expression (c.Comma list) as_value known)
comma c.no_expressions known begun there = found_itself known begun (of_expression (c.Comma c.no_expressions) as_value known)
comma (c.an_expression first rest) known begun there = of_comma known.next there

-- ---- marks

behind_marks : (ms : c.Marks) (value : c.Expression) (known : Known) (o : Outcome e.Marks) → Whole (entered known) o → GoesOver (in_marks ms) (entered known) o → NotesBegunNodes known
    → ((k : Known) → NotesBegunNodes k → FoundAt (value_part k.next value).number (expression value as_value k))
    → FoundAt (value_part (known.next + 1 + length (in_marks ms)) value).number
    (goes_on o (λ typed k. goes_on (expression value as_value k) (λ x k. finish known.next as_value (judge_marked typed x) k)))
behind_marks ms value known (Goes typed k) w over begun f =
    subst (λ n. FoundAt (value_part n value).number (goes_on (expression value as_value k) (λ x k. finish known.next as_value (judge_marked typed x) k))) over
    (of_marked known.next typed (f k (begun_behind (entered known) k w (begun_inside known begun))))
behind_marks ms value known (Breaks rule node) w over begun f = broke

-- ---- expressions

mutual
  of_value : (numbered : PartsAreNumbered) (it : c.Expression) (known : Known) → NotesBegunNodes known → FoundAt (value_part known.next it).number (expression it as_value known)
  of_value numbered (c.Comma list) known begun = comma list known begun (of_last numbered list known.next (entered known) (begun_inside known begun))
  of_value numbered (c.Marked ms value) known begun =
      behind_marks ms value known (marks ms (entered known)) (of_marks ms (entered known)) (marks_are_numbered numbered ms (entered known)) begun (λ k begun. of_value numbered value k begun)
  of_value numbered (c.Decide target when_true when_false tag) known begun = of_decided known.next when_true when_false tag _ (expression target as_value (entered known))
  of_value numbered (c.After target id tag) known begun =
      of_after known.next id tag (λ it. it.labels ++ label_of id tag [] ∷ []) (of_value numbered target (entered known) (begun_inside known begun))
  of_value numbered it known begun = found_itself known begun (of_expression it as_value known)

  of_last : (numbered : PartsAreNumbered) (them : c.Expressions) (n : ℕ) (known : Known) → NotesBegunNodes known → LastIsFound n known them
  of_last numbered c.no_expressions n known begun = tt
  of_last numbered (c.an_expression first rest) n known begun =
      last_step numbered n first rest known begun (of_value numbered first known begun) (λ k begun. of_last numbered rest n k begun)

result : {number : ℕ} (behind : Known) (x : Typed) (later : List Fact) → FoundAt number (Goes x behind)
    → (fact : Fact) × (fact_among (behind.facts ++ later) number ≡ Some fact) × IsReadAs fact.type (own_type x)
result behind x later (found y fact there is) = (fact, there later, is)

pub operands_have_their_types : PartsAreNumbered → OperandsHaveTheirTypes
operands_have_their_types numbered it known behind x later begun is =
    result behind x later (subst (λ o. FoundAt (value_part known.next it).number o) is (of_value numbered it known begun))
