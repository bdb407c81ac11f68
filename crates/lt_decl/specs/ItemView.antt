-- Items and cases of the code, as they are read one by one.
use Rattle.std.specs.Prelude.{List, map}
use Rattle.lt_tree.specs.declared.statement.Item.{Item}
use Rattle.lt_tree.specs.declared.statement.Item.TheBlock as at
use Rattle.lt_tree.specs.declared.statement.SwitchCase.{SwitchCase}
use Rattle.lt_tree.specs.Tree as c
use Rattle.lt_tree.specs.View.{mark_of}
use Rattle.lt_tree.specs.UnitView.{declaration_of, label_of, statement_of}
use Rattle.lt_decl.specs.Items as read

abbrev pub item_of : Item → read.Item
item_of (at.Declaration declaration) = read.declared (declaration_of declaration)
item_of (at.Statement statement) = read.stated (statement_of statement)
item_of (at.Mark mark) = read.marked (mark_of mark)

abbrev pub case_of : SwitchCase → List c.Label × c.Statement
case_of s = (map label_of s.labels.items, statement_of s.statement)
