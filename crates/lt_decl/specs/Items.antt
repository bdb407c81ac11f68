-- The items of a block one by one, and what a reader makes of what stands at an end.
use Rattle.std.specs.Prelude.{Bool, true, false, if◌then◌else◌, List, [], ◌∷◌, Option, Some, None}
use Rattle.lt_tree.specs.declared.terminal.Terminal.TheVariants as t
use Rattle.lt_tree.specs.Tree as c
use Rattle.lt_tree.specs.Symbols.{Symbol}
use Rattle.lt_tree.specs.Scope.{Scope, after_declaration, after_statement, after_mark}
use Rattle.lt_tree.specs.Ahead.{sees}
use Rattle.lt_expr.specs.Front.{Reader, behind, begins_mark}

pub data Item : Type 0 where
  declared : (d : c.Declaration) → Item
  stated : (x : c.Statement) → Item
  marked : (m : c.Mark) → Item

-- an item before others
abbrev pub item_before : Item → c.Items → c.Items
item_before (declared d) rest = c.a_declaration d rest
item_before (stated x) rest = c.a_statement x rest
item_before (marked m) rest = c.a_label m rest

-- the scope behind an item of a block
abbrev pub after_item : Item → Scope → Scope
after_item (declared d) scope = after_declaration d scope
after_item (stated x) scope = after_statement x scope
after_item (marked m) scope = after_mark m scope

-- what an expression before the first `;` of a `for` is, if there is one
abbrev pub start_by : Option c.Expression → c.ForStart
start_by None = c.Nothing
start_by (Some e) = c.First e

-- '}', or more initialisers
abbrev pub initialisers_by : Reader c.Initialisers → Reader c.Initialisers
initialisers_by read r = if sees t.CloseBrace r.0 then Some (c.no_initialisers, behind r) else read r

-- (mark ',')*
abbrev pub marks_by : Reader c.Marks → Reader c.Marks
marks_by read r = if begins_mark r.0 then read r else Some (c.no_marks, r)

abbrev pub at_end : List Symbol → Bool
at_end [] = true
at_end (s ∷ ts) = false
