-- How the list grows: from the last node to the first, and a node after what is inside of it.
use Rattle.std.specs.Prelude.{◌≡◌, List, [], ◌++◌, Result, drop, map, reverse}
use Rattle.std.specs.Result.{IfOk}
use Rattle.lt_tree.specs.declared.declarator.DeclaratorPart.{DeclaratorPart}
use Rattle.lt_tree.specs.declared.declarator.DeclaratorPart.TheBlock as at
use Rattle.lt_tree.specs.declared.statement.Item.{Item}
use Rattle.lt_tree.specs.declared.statement.Item.TheBlock as item
use Rattle.lt_tree.specs.View.{maybe_of, mark_of, parameters_of}
use Rattle.lt_tree.specs.UnitView.{declaration_of, statement_of}
use Rattle.lt_tree.specs.Nodes.{Node, a_declared_item, a_stated_item, a_marked_item, in_maybe, in_parameters}
use Rattle.lt_sites.specs.declared.lister.sites.Lister.{Lister}
use Rattle.lt_sites.specs.Sites.{Sized, in_node, part_of, entry_of}

-- the list with these nodes before those that it has
unfoldable pub listed : List Node → List Sized → List Sized
listed nodes later = map part_of nodes ++ later

-- what was listed, the first node first
unfoldable pub entries : Lister → List Sized
entries lister = map entry_of (reverse lister.sites.items)

-- Where there was memory, these nodes were put before the others.
abbrev pub Lists : {A E : Type 0} → Result A E → Lister → Lister → List Node → Type 0
Lists answer before now nodes = IfOk answer (λ _. entries now ≡ listed nodes (entries before))

-- the nodes of the part that begins with this node, without it
abbrev pub inside : Node → List Node
inside node = drop 1 (in_node node)

-- ---- one of several

abbrev pub item_of : Item → Node
item_of (item.Declaration declaration) = a_declared_item (declaration_of declaration)
item_of (item.Statement statement) = a_stated_item (statement_of statement)
item_of (item.Mark mark) = a_marked_item (mark_of mark)

abbrev pub in_part : DeclaratorPart → List Node
in_part (at.Pointer quals) = []
in_part (at.Array' size) = in_maybe (maybe_of size)
in_part (at.Function parameters) = in_parameters (parameters_of parameters)
