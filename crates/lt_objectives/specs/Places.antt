-- Places of objectives: the nodes of a unit by their numbers, expressions without the marks around them, where no label stands, and what the program
-- of the unit knows of a node.
use Rattle.std.specs.Prelude.{ℕ, ◌+◌, ◌==◌, nat_le, nat_lt, Bool, true, false, not, ◌&&◌, if◌then◌else◌, List, [], ◌∷◌, ◌++◌, length, Option, Some, None}
use Rattle.std.specs.List.{flat_map, list_any}
use Rattle.lt_tree.specs.declared.specifier.Storage.{Storage}
use Rattle.lt_tree.specs.declared.specifier.Storage.TheVariants as storage
use Rattle.lt_tree.specs.declared.expression.UnaryOp.TheVariants as unary
use Rattle.lt_tree.specs.Tree as c
use Rattle.lt_tree.specs.Nodes.{Node, an_external, a_declared_item, a_marked_item, a_statement, an_expression, a_mark, nodes, in_expression, in_marks, in_mark, in_declaration}
use Rattle.lt_tree.specs.Typing.Types.{CType, Void}
use Rattle.lt_tree.specs.Typing.Constants.{is_number}
use Rattle.lt_tree.specs.Typing.Entities.{Fact}
use Rattle.lt_tree.specs.Typing.Programs.{Program}

-- ---- nodes with their numbers

pub record Site : Type 0 where
  pub number : ℕ
  pub node : Node

abbrev pub sites_from : ℕ → List Node → List Site
sites_from k [] = []
sites_from k (node ∷ rest) = record { number = k; node = node } ∷ sites_from (k + 1) rest

abbrev pub sites : c.Unit → List Site
sites unit = sites_from 0 (nodes unit)

-- an expression, with the number of its node
pub record Part : Type 0 where
  pub number : ℕ
  pub expression : c.Expression

abbrev pub part : ℕ → c.Expression → Part
part k e = record { number = k; expression = e }

abbrev pub is_at : ℕ → Part → Bool
is_at k it = it.number == k

-- an expression that begins at this number, without the marks around it
abbrev pub core : ℕ → c.Expression → Part
core k (c.Marked marks e) = core (k + 1 + length (in_marks marks)) e
core k (c.Decide e when_true when_false tag) = core (k + 1) e
core k (c.After e id tag) = core (k + 1) e
core k e = part k e

-- The part of an expression that begins at this number whose value is that of the whole: without the marks around it, and the last part of a comma
-- expression, C11 6.5.17.
abbrev mutual
  pub value_part : ℕ → c.Expression → Part
  value_part k (c.Comma parts) = last_value_part k (k + 1) parts
  value_part k (c.Marked marks e) = value_part (k + 1 + length (in_marks marks)) e
  value_part k (c.Decide e when_true when_false tag) = value_part (k + 1) e
  value_part k (c.After e id tag) = value_part (k + 1) e
  value_part k e = part k e

  -- that of the last of these parts, the first of which begins at the second number, of the comma expression at the first
  pub last_value_part : ℕ → ℕ → c.Expressions → Part
  last_value_part k j c.no_expressions = part k (c.Comma c.no_expressions)
  last_value_part k j (c.an_expression e c.no_expressions) = value_part j e
  last_value_part k j (c.an_expression e (c.an_expression next rest)) = last_value_part k (j + length (in_expression e)) (c.an_expression next rest)

-- ---- runs of nodes

pub record Span : Type 0 where
  pub first : ℕ
  pub size : ℕ

abbrev pub span : ℕ → ℕ → Span
span first size = record { first = first; size = size }

abbrev pub covers : ℕ → Span → Bool
covers k it = nat_le it.first k && nat_lt k (it.first + it.size)

-- the marks of a unit, with their predicates and bound expressions
abbrev pub mark_in : Site → List Span
mark_in site = elim (site.node) [ a_mark m ↦ span site.number (length (in_mark m)) ∷ [] | _ ↦ [] ]

-- ---- what is known of a node

-- A node that is there without the marks too; comma expressions aside, which may be joined then.
abbrev pub stays_without_marks : Node → Bool
stays_without_marks (a_marked_item m) = false
stays_without_marks (an_expression (c.Marked marks e)) = false
stays_without_marks (an_expression (c.Decide e when_true when_false tag)) = false
stays_without_marks (an_expression (c.After e id tag)) = false
stays_without_marks (an_expression (c.Comma parts)) = false
stays_without_marks node = true

abbrev pub numbers_outside : List Span → List Site → List ℕ
numbers_outside marks [] = []
numbers_outside marks (site ∷ rest) =
    if stays_without_marks site.node && not (list_any (covers site.number) marks) then site.number ∷ numbers_outside marks rest else numbers_outside marks rest

-- the numbers of the nodes that are there without the marks too, in order
abbrev pub unmarked_numbers : c.Unit → List ℕ
unmarked_numbers unit = numbers_outside (flat_map mark_in (sites unit)) (sites unit)

-- the number in the second list at the index at which this one stands in the first
abbrev pub corresponding : ℕ → List ℕ → List ℕ → Option ℕ
corresponding k [] others = None
corresponding k (m ∷ ms) [] = None
corresponding k (m ∷ ms) (n ∷ ns) = if m == k then Some n else corresponding k ms ns

-- A program is that of this unit, or of one that is the same without marks. The number of a node of the unit in the program's own unit.
abbrev pub corresponding_node : c.Unit → Program → ℕ → Option ℕ
corresponding_node unit program k = corresponding k (unmarked_numbers unit) (unmarked_numbers program.unit)

abbrev pub fact_among : List Fact → ℕ → Option Fact
fact_among [] n = None
fact_among (fact ∷ facts) n = if fact.node == n then Some fact else fact_among facts n

abbrev pub fact_at : c.Unit → Program → ℕ → Option Fact
fact_at unit program k = elim (corresponding_node unit program k) [ None ↦ None | Some n ↦ fact_among program.facts n ]

-- the type of an expression by its number
abbrev pub type_at : c.Unit → Program → ℕ → CType
type_at unit program k = elim (fact_at unit program k) [ None ↦ Void | Some fact ↦ fact.type ]

-- an integer constant expression, C11 6.6, wherever it stands
abbrev pub is_constant : c.Unit → Program → ℕ → Bool
is_constant unit program k = elim (fact_at unit program k) [ None ↦ false | Some fact ↦ is_number fact.constancy ]

-- ---- where no label stands

abbrev pub makes_static : Storage → Bool
makes_static storage.Static = true
makes_static storage.Extern = true
makes_static _ = false

abbrev pub makes_static_in_for : Storage → Bool
makes_static_in_for storage.Static = true
makes_static_in_for _ = false

abbrev pub storage_of : c.Specifiers → List Storage
storage_of (c.specifiers words types) = words.storage

-- a declaration that begins at this number, if its objects are there from the start
abbrev pub if_static : (Storage → Bool) → ℕ → c.Declaration → List Span
if_static test k d = if list_any test (storage_of d.specifiers) then span k (length (in_declaration d)) ∷ [] else []

-- No label stands in declarations of static objects, in operands of `sizeof`, and in predicates and bound expressions of marks.
abbrev pub closed_by_form : ℕ → Node → List Span
closed_by_form k (an_external (c.Declared d)) = span k (1 + length (in_declaration d)) ∷ []
closed_by_form k (a_declared_item d) = if_static makes_static (k + 1) d
closed_by_form k (a_statement (c.For (c.Declares d) test step x)) = if_static makes_static_in_for (k + 1) d
closed_by_form k (an_expression (c.SizeofExpr e)) = span k (1 + length (in_expression e)) ∷ []
closed_by_form k (an_expression (c.SizeofType s d)) = span k (length (in_expression (c.SizeofType s d))) ∷ []
closed_by_form k (a_mark m) = span k (length (in_mark m)) ∷ []
closed_by_form k node = []

-- nor in an integer constant expression
abbrev pub closed_by_value : c.Unit → Program → Site → List Span
closed_by_value unit program site =
    elim (site.node) [
      | an_expression e ↦ (if is_constant unit program site.number then span site.number (length (in_expression e)) ∷ [] else [])
      | _ ↦ []
    ]

abbrev pub closed : c.Unit → Program → Site → List Span
closed unit program site = closed_by_form site.number site.node ++ closed_by_value unit program site

-- whether a label may stand at this number
abbrev pub is_open : c.Unit → Program → ℕ → Bool
is_open unit program k = not (list_any (λ site. list_any (covers k) (closed unit program site)) (sites unit))

-- The operands that stand for places rather than values: of `&`, `++` and `--`, and on the left of an assignment and of `.`
abbrev pub place_operands : Site → List Part
place_operands site = elim (site.node) [ an_expression e ↦ in_it e | _ ↦ [] ]
  where
    in_it : c.Expression → List Part
    in_it (c.Unary unary.AddressOf e) = core (site.number + 1) e ∷ []
    in_it (c.PostInc e) = core (site.number + 1) e ∷ []
    in_it (c.PostDec e) = core (site.number + 1) e ∷ []
    in_it (c.PreInc e) = core (site.number + 1) e ∷ []
    in_it (c.PreDec e) = core (site.number + 1) e ∷ []
    in_it (c.Assign op target value) = core (site.number + 1) target ∷ []
    in_it (c.Member whole name) = core (site.number + 1) whole ∷ []
    in_it e = []

-- whether an expression stands for its value
abbrev pub is_value_position : c.Unit → ℕ → Bool
is_value_position unit k = not (list_any (λ site. list_any (is_at k) (place_operands site)) (sites unit))
