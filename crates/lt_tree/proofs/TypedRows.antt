-- What typed trees hold in rows, as lists.
use Rattle.std.proofs.Common.{◌≡◌, refl, ap, ◌∙◌, ℕ, List, map}
use Rattle.std.specs.Global.{Box, Vec}
use Rattle.lt_tree.specs.declared.typed.types.TypeId.{TypeId}
use Rattle.lt_tree.specs.declared.typed.tree.Value.{Value}
use Rattle.lt_tree.specs.declared.typed.tree.Mark.{Mark}
use Rattle.lt_tree.specs.declared.typed.tree.Binding.{Binding}
use Rattle.lt_tree.specs.declared.typed.tree.Value as value
use Rattle.lt_tree.specs.declared.typed.tree.Value.TheVariants as variant
use Rattle.lt_tree.specs.declared.typed.tree.Mark as marks
use Rattle.lt_tree.specs.declared.typed.tree.Place.TheBlock as at
use Rattle.lt_tree.specs.declared.typed.statement.Item.{Item}
use Rattle.lt_tree.specs.declared.typed.statement.Case.{Case}
use Rattle.lt_tree.specs.declared.typed.statement.Statement as statement
use Rattle.lt_tree.specs.declared.typed.statement.Item.TheBlock as block
use Rattle.lt_tree.specs.Typing.Types.{CType}
use Rattle.lt_tree.specs.Typing.TypeRows.{type_in}
use Rattle.lt_tree.specs.Typing.TypedTree as e
use Rattle.lt_tree.specs.Typing.ValueView.{value_of, values_of, mark_of, marks_of, bindings_of, values_in, marks_in, bindings_in}
use Rattle.lt_tree.specs.Typing.StatementView.{label_of, statement_of, item_before, items_of, items_in, cases_of, cases_in}

values_row : {n : _} → (types : List CType) (row : at.Row_of-Value n) → values_of types row ≡ values_in types (at.items-the_row-Value n row)
values_row types at.end_of-Value = refl
values_row types (at.more_of-Value first rest) = ap (e.a_value (value_of types first)) (values_row types rest)

pub values_are : (types : List CType) (v : Vec Value) → values_of types (at.hidden-the_row-Value-0 v) ≡ values_in types v.items
values_are types v = values_row types (at.hidden-the_row-Value-0 v) ∙ ap (values_in types) (value.items_hidden-the_row-Value-0 v)

marks_row : {n : _} → (types : List CType) (row : at.Row_of-Mark n) → marks_of types row ≡ marks_in types (at.items-the_row-Mark n row)
marks_row types at.end_of-Mark = refl
marks_row types (at.more_of-Mark first rest) = ap (e.a_mark (mark_of types first)) (marks_row types rest)

pub marks_are : (types : List CType) (v : Vec Mark) → marks_of types (at.hidden-the_row-Mark-1 v) ≡ marks_in types v.items
marks_are types v = marks_row types (at.hidden-the_row-Mark-1 v) ∙ ap (marks_in types) (value.items_hidden-the_row-Mark-1 v)

bindings_row : {n : _} → (types : List CType) (row : at.Row_of-Binding n) → bindings_of types row ≡ bindings_in types (at.items-the_row-Binding n row)
bindings_row types at.end_of-Binding = refl
bindings_row types (at.more_of-Binding name p value rest) = ap (e.a_binding name (value_of types value)) (bindings_row types rest)

pub bindings_are : (types : List CType) (v : Vec Binding) → bindings_of types (at.hidden-the_row-Binding-2 v) ≡ bindings_in types v.items
bindings_are types v = bindings_row types (at.hidden-the_row-Binding-2 v) ∙ ap (bindings_in types) (marks.items_hidden-the_row-Binding-2 v)

items_row : {n : _} → (types : List CType) (row : block.Row_of-Item n) → items_of types row ≡ items_in types (block.items-the_row-Item n row)
items_row types block.end_of-Item = refl
items_row types (block.more_of-Item first rest) = ap (item_before types first) (items_row types rest)

pub items_are : (types : List CType) (v : Vec Item) → items_of types (block.hidden-the_row-Item-0 v) ≡ items_in types v.items
items_are types v = items_row types (block.hidden-the_row-Item-0 v) ∙ ap (items_in types) (statement.items_hidden-the_row-Item-0 v)

cases_row : {n : _} → (types : List CType) (row : block.Row_of-Case n) → cases_of types row ≡ cases_in types (block.items-the_row-Case n row)
cases_row types block.end_of-Case = refl
cases_row types (block.more_of-Case labels statement rest) = ap (e.a_case (map label_of labels.items) (statement_of types statement)) (cases_row types rest)

pub cases_are : (types : List CType) (v : Vec Case) → cases_of types (block.hidden-the_row-Case-1 v) ≡ cases_in types v.items
cases_are types v = cases_row types (block.hidden-the_row-Case-1 v) ∙ ap (cases_in types) (statement.items_hidden-the_row-Case-1 v)

-- what holds a list, with it as a list
pub call_is : (types : List CType) (ty : TypeId) (f : List ℕ) (v : Vec Value) (all : Value) → all ≡ variant.Call ty f v →
    value_of types all ≡ e.Call (type_in types ty) f (values_in types v.items)
call_is types ty f v all same = ap (value_of types) same ∙ ap (e.Call (type_in types ty) f) (values_are types v)

pub comma_is : (types : List CType) (ty : TypeId) (v : Vec Value) (all : Value) → all ≡ variant.Comma ty v →
    value_of types all ≡ e.Comma (type_in types ty) (values_in types v.items)
comma_is types ty v all same = ap (value_of types) same ∙ ap (e.Comma (type_in types ty)) (values_are types v)

pub marked_is : (types : List CType) (ty : TypeId) (v : Vec Mark) (b : Box Value) (all : Value) → all ≡ variant.Marked ty v b →
    value_of types all ≡ e.Marked (type_in types ty) (marks_in types v.items) (value_of types b.value)
marked_is types ty v b all same = ap (value_of types) same ∙ ap (λ m. e.Marked (type_in types ty) m (value_of types b.value)) (marks_are types v)
