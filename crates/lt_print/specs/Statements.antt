-- Parts of declarations and statements.
use Rattle.std.specs.Prelude.{ℕ, suc, Bool, true, false, ◌||◌, List, [], ◌∷◌, ◌++◌, Option, Some, None, is_some}
use Rattle.std.specs.Global.{Box}
use Rattle.lt_tree.specs.declared.statement.Stmt.{Stmt}
use Rattle.lt_tree.specs.declared.terminal.Terminal.TheVariants as t
use Rattle.lt_tree.specs.Tree as c
use Rattle.lt_tree.specs.Pieces.{gap, indent, line_end}
use Rattle.lt_tree.specs.Canon.{Pieces, sign}
use Rattle.lt_tree.specs.CanonUnits.{body, lines, case_lines}
use Rattle.lt_tree.specs.UnitView.{statement_of, items_in}
use Rattle.lt_tree.specs.Records.{specifiers_of, declarator_of}
use Rattle.lt_tree.specs.declared.unit.FunctionDefinition.{FunctionDefinition}
use Rattle.lt_print.specs.Declarators.{is_written}

-- whether the declarators of a declaration have any text: the only one may be missing
abbrev pub declared_stand : List c.InitDeclarator → Bool
declared_stand [] = false
declared_stand (d ∷ []) = is_written d.declarator || is_some d.initialiser
declared_stand (d ∷ e ∷ ds) = true

abbrev pub is_compound : c.Statement → Bool
is_compound (c.Compound items) = true
is_compound _ = false

-- a body behind its header
abbrev pub body_lines : ℕ → c.Statement → Pieces
body_lines n x = body n x (lines n x) (lines (suc n) x)

-- `else` and its body, if there is one
abbrev pub else_lines : ℕ → Option (Box Stmt) → Pieces
else_lines n None = []
else_lines n (Some x) = indent n ∷ sign t.Else ∷ body_lines n (statement_of x.value)

-- the braces of a `switch`, behind its header
abbrev pub case_block : ℕ → c.Cases → Pieces
case_block n cases = gap ∷ sign t.OpenBrace ∷ line_end ∷ (case_lines (suc n) cases ++ indent n ∷ sign t.CloseBrace ∷ line_end ∷ [])

-- a function with its body
abbrev pub definition_of : FunctionDefinition → c.External
definition_of f = c.Defines (specifiers_of f.specifiers) (declarator_of f.declarator) (items_in f.body.items)
