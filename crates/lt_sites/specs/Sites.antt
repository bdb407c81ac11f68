-- Nodes with the parts that begin with them.
use Rattle.std.specs.Prelude.{◌≡◌, ℕ, List, ◌∷◌, ◌++◌, length, map}
use Rattle.lt_tree.specs.Tree as c
use Rattle.lt_tree.specs.View.{expression_of, mark_of, member_of}
use Rattle.lt_tree.specs.Records.{declarator_of, maybe_in}
use Rattle.lt_tree.specs.UnitView.{initialiser_of, declaration_of, label_of, statement_of, external_of}
use Rattle.lt_tree.specs.Nodes.{Node, an_external, a_declarator, an_initialiser, a_member, an_enumerator, a_label, a_declared_item, a_stated_item, a_marked_item, a_statement, an_expression, a_mark, in_expression, in_maybe, in_mark, in_specifiers, in_member_declarators, in_declarator, in_initialiser, in_declaration, in_start, in_label, in_statement, in_external, nodes}
use Rattle.lt_sites.specs.declared.site.NodeRef.{NodeRef}
use Rattle.lt_sites.specs.declared.site.NodeRef.TheVariants as at
use Rattle.lt_sites.specs.declared.site.Site.{Site}

-- the nodes of the part that begins with this node
abbrev pub in_node : Node → List Node
in_node (an_external x) = in_external x
in_node (a_declarator d) = in_declarator d
in_node (an_initialiser i) = in_initialiser i
in_node (a_member (c.member s ds)) = a_member (c.member s ds) ∷ in_specifiers s ++ in_member_declarators ds
in_node (an_enumerator name value) = an_enumerator name value ∷ in_maybe value
in_node (a_label label) = in_label label
in_node (a_declared_item d) = a_declared_item d ∷ in_declaration d
in_node (a_stated_item x) = a_stated_item x ∷ in_statement x
in_node (a_marked_item m) = a_marked_item m ∷ in_mark m
in_node (a_statement x) = in_statement x
in_node (an_expression e) = in_expression e
in_node (a_mark m) = in_mark m

-- how many nodes stand before the first `;` of a `for`
abbrev pub head_of : Node → ℕ
head_of (a_statement (c.For start test step x)) = length (in_start start)
head_of node = 0

-- a node, with how many nodes its part has
pub record Sized : Type 0 where
  pub node : Node
  pub size : ℕ
  pub head : ℕ

abbrev pub part_of : Node → Sized
part_of node = record { node = node; size = length (in_node node); head = head_of node }

-- ---- as they lie in memory

abbrev pub node_of : NodeRef → Node
node_of (at.External x) = an_external (external_of x.now)
node_of (at.Declarator d) = a_declarator (declarator_of d.now)
node_of (at.Initialiser i) = an_initialiser (initialiser_of i.now)
node_of (at.Member m) = a_member (member_of m.now)
node_of (at.Enumerator e) = an_enumerator e.now.name (maybe_in e.now.value)
node_of (at.Label l) = a_label (label_of l.now)
node_of (at.DeclaredItem d) = a_declared_item (declaration_of d.now)
node_of (at.StatedItem x) = a_stated_item (statement_of x.now)
node_of (at.MarkedItem m) = a_marked_item (mark_of m.now)
node_of (at.Statement x) = a_statement (statement_of x.now)
node_of (at.Expression e) = an_expression (expression_of e.now)
node_of (at.Mark m) = a_mark (mark_of m.now)

abbrev pub entry_of : Site → Sized
entry_of site = record { node = node_of site.node; size = site.size; head = site.head }

-- these are the nodes of a unit, each at the index that is its number
abbrev pub AreSitesOf : List Site → c.Unit → Type 0
AreSitesOf sites unit = map entry_of sites ≡ map part_of (nodes unit)
