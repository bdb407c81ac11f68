-- How a walk goes over the parts of a unit: what each part is given as, and where the walk stands afterwards.
use Rattle.std.specs.Prelude.{◌≡◌, ℕ, suc, ◌+◌, ◌-◌, ◌^◌, ◌≤◌, ◌==◌, min, nat_le, Bool, false, List, [], ◌∷◌, ◌++◌, length, filter, Result, IfOk}
use Rattle.std.specs.Fmt.{decimal}
use Rattle.lt_tree.specs.declared.expression.Expr.{Expr}
use Rattle.lt_tree.specs.declared.specifier.TypeName.{TypeName}
use Rattle.lt_tree.specs.Tree as c
use Rattle.lt_tree.specs.View.{expression_of}
use Rattle.lt_tree.specs.Nodes.{Node, a_member, in_expression, in_specifiers, in_member_declarators, in_declarator, in_maybe, in_parameters}
use Rattle.lt_tree.specs.Records.{marks_in, specifiers_of, declarator_of}
use Rattle.lt_objectives.specs.Objectives.{at_start, in_front}
use Rattle.lt_objectives.specs.Marked.{NewMark, labels, decided, joined, within, with_marks}
use Rattle.lt_placing.specs.declared.place.PlaceMarks.{PlaceMarks}
use Rattle.lt_placing.specs.declared.walk.Walk.{Walk}
use Rattle.lt_placing.specs.NewMarks.{new_marks}

-- the number of a node as it is counted
abbrev pub counted : ℕ → ℕ
counted k = min k (2 ^ 128 - 1)

-- the marks of this place, in their order
abbrev pub of_place : ℕ → List NewMark → List NewMark
of_place k new = filter (λ it. it.objective.place == k) new

-- places that ascend from this number
abbrev pub AscendFrom : ℕ → List NewMark → Type 0
AscendFrom k [] = Unit {0}
AscendFrom k (it ∷ rest) = (k ≤ it.objective.place) × AscendFrom it.objective.place rest

-- whether the first of these marks stands at this number or before it
abbrev pub is_reached : ℕ → List NewMark → Bool
is_reached k [] = false
is_reached k (it ∷ rest) = nat_le it.objective.place k

-- A walk stands before the node of this number, among these marks: it still has those of this place and of the places behind it.
pub record StandsAt (walk : Walk) (new : List NewMark) (k : ℕ) : Type 0 where
  pub left : (j : ℕ) → k ≤ j → of_place j (new_marks walk.marks.items) ≡ of_place j new
  pub ordered : AscendFrom 0 (new_marks walk.marks.items)
  pub number : walk.next ≡ counted k

-- the walk goes on behind this many nodes, wherever it stood
abbrev pub GoesOn : Walk → Walk → ℕ → Type 0
GoesOn before now count = (new : List NewMark) (k : ℕ) → StandsAt before new k → StandsAt now new (k + count)

-- another walk stands before the same node, among no marks
abbrev pub StartsCopy : Walk → Walk → Type 0
StartsCopy walk copying = (new : List NewMark) (k : ℕ) → StandsAt walk new k → StandsAt copying [] k

-- Over these nodes the walk goes from one state to the other, wherever it stood; at that number this is so.
abbrev pub Passes : Walk → Walk → (List NewMark → ℕ → Type 0) → List Node → Type 0
Passes before now IsSo nodes = (new : List NewMark) (k : ℕ) → StandsAt before new k → IsSo new k × StandsAt now new (k + length nodes)

-- an answer, seen as a value, is what a definition says for the number where the walk stood, and the walk goes on behind the nodes
abbrev pub Gives : {R T E : Type 0} → Walk → Walk → Result R E → (R → T) → (List NewMark → ℕ → T) → List Node → Type 0
Gives before now result view with_marks nodes = IfOk result (λ made. Passes before now (λ new k. view made ≡ with_marks new k) nodes)

-- an exact copy of a part with these nodes
abbrev pub Copies : {R T E : Type 0} → Walk → Walk → Result R E → (R → T) → T → List Node → Type 0
Copies before now result view part nodes = IfOk result (λ made. Passes before now (λ new k. view made ≡ part) nodes)

-- an exact copy of an expression
abbrev pub CopiesExpression : {R E : Type 0} → Walk → Walk → Result R E → (R → Expr) → c.Expression → Type 0
CopiesExpression before now result held e = Copies before now result (λ made. expression_of (held made)) e (in_expression e)

-- an expression with its marks
abbrev pub GivesExpression : {R E : Type 0} → Walk → Walk → Result R E → (R → Expr) → c.Expression → Type 0
GivesExpression before now result held e = Gives before now result (λ made. expression_of (held made)) (λ new k. with_marks new k e) (in_expression e)

-- This is an expression with the marks of its parts, from a walk that stands behind its own node.
abbrev pub IsWithin : Walk → Walk → Expr → c.Expression → Type 0
IsWithin before now made e =
    (new : List NewMark) (k : ℕ) → StandsAt before new (k + 1) → (expression_of made ≡ within new k e) × StandsAt now new (k + length (in_expression e))

abbrev pub GivesWithin : {E : Type 0} → Walk → Walk → Result Expr E → c.Expression → Type 0
GivesWithin before now result e = IfOk result (λ made. IsWithin before now made e)

-- an exact copy of the name of a type
abbrev pub CopiesTypeName : {R E : Type 0} → Walk → Walk → Result R E → (R → TypeName) → TypeName → Type 0
CopiesTypeName before now result held name =
    IfOk result (λ made. Passes before now
    (λ new k. (specifiers_of (held made).specifiers ≡ specifiers_of name.specifiers) × (declarator_of (held made).declarator ≡ declarator_of name.declarator))
    (in_specifiers (specifiers_of name.specifiers) ++ in_declarator (declarator_of name.declarator)))

-- the nodes of a declaration among members
abbrev pub in_member : c.StructMember → List Node
in_member (c.member s ds) = a_member (c.member s ds) ∷ in_specifiers s ++ in_member_declarators ds

-- those of the first of a declarator's parts
abbrev pub in_first_part : c.Parts → List Node
in_first_part c.no_parts = []
in_first_part (c.Pointer q parts) = []
in_first_part (c.Array length parts) = in_maybe length
in_first_part (c.Function ps parts) = in_parameters ps

-- ---- the marks of one place

-- an expression inside of these `pc_decide`s, the first of them outermost
abbrev pub decided_by : List NewMark → c.Expression → c.Expression
decided_by [] e = e
decided_by (new ∷ rest) e = c.Decide (decided_by rest e) (decimal new.id) (decimal (suc new.id)) new.objective.tag

-- these are the marks of this place
pub record AreOf (here : PlaceMarks) (new : List NewMark) (k : ℕ) : Type 0 where
  pub starts : marks_in here.starts.items ≡ labels at_start new k
  pub labels_in_front : marks_in here.labels.items ≡ labels in_front new k
  pub decisions : (e : c.Expression) → decided_by (new_marks here.decisions.items) e ≡ decided new k e

-- the marks of the node before which the walk stands, and the walk goes on behind the node
abbrev pub GivesMarks : {E : Type 0} → Walk → Walk → Result PlaceMarks E → Type 0
GivesMarks before now result = IfOk result (λ here. (new : List NewMark) (k : ℕ) → StandsAt before new k → AreOf here new k × StandsAt now new (k + 1))

-- one mark more among those of a place, if it has this place
pub record TakesIn (before now : PlaceMarks) (place : ℕ) (it : NewMark) : Type 0 where
  pub starts : marks_in now.starts.items ≡ joined (marks_in before.starts.items) (labels at_start (it ∷ []) place)
  pub labels_in_front : marks_in now.labels.items ≡ joined (marks_in before.labels.items) (labels in_front (it ∷ []) place)
  pub decisions : (e : c.Expression) → decided_by (new_marks now.decisions.items) e ≡ decided_by (new_marks before.decisions.items) (decided (it ∷ []) place e)
