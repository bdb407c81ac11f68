-- The canonical text of declarations, statements and units: each external, item, statement and member starts a line.
use Rattle.std.specs.Prelude.{ℕ, suc, List, [], ◌∷◌, ◌++◌, Option, Some, None}
use Rattle.std.specs.List.{flat_map}
use Rattle.lt_tree.specs.declared.terminal.Terminal.TheVariants as t
use Rattle.lt_tree.specs.Tree as c
use Rattle.lt_tree.specs.Grammar.{assignment, conditional}
use Rattle.lt_tree.specs.Pieces.{gap, indent, line_end, text_of}
use Rattle.lt_tree.specs.Canon.{Pieces, sign, spaced, comma_gap, apart, in_parentheses, operand, expression, mark, specifiers, declarator}

abbrev mutual
  pub initialiser : ℕ → c.Initialiser → Pieces
  initialiser n (c.Value e) = operand n assignment e
  initialiser n (c.Braces is) = sign t.OpenBrace ∷ initialisers n is ++ sign t.CloseBrace ∷ []

  pub initialisers : ℕ → c.Initialisers → Pieces
  initialisers n c.no_initialisers = []
  initialisers n (c.an_initialiser i c.no_initialisers) = initialiser n i
  initialisers n (c.an_initialiser i (c.an_initialiser j is)) = initialiser n i ++ comma_gap ++ initialisers n (c.an_initialiser j is)

abbrev pub init_declarator : ℕ → c.Declarator → Option c.Initialiser → Pieces
init_declarator n d None = declarator n d
init_declarator n d (Some i) = declarator n d ++ spaced t.Equal ++ initialiser n i

abbrev pub init_declarators : ℕ → List c.InitDeclarator → Pieces
init_declarators n [] = []
init_declarators n (d ∷ []) = init_declarator n d.declarator d.initialiser
init_declarators n (d ∷ e ∷ ds) = init_declarator n d.declarator d.initialiser ++ comma_gap ++ init_declarators n (e ∷ ds)

abbrev pub declaration : ℕ → c.Declaration → Pieces
declaration n d = apart (specifiers n d.specifiers) (init_declarators n d.declarators) ++ sign t.Semicolon ∷ []

-- what may be left out, with the space before it
abbrev pub optional : ℕ → Option c.Expression → Pieces
optional n None = []
optional n (Some e) = gap ∷ expression n e

abbrev pub for_start : ℕ → c.ForStart → Pieces
for_start n c.Nothing = sign t.Semicolon ∷ []
for_start n (c.First e) = expression n e ++ sign t.Semicolon ∷ []
for_start n (c.Declares d) = declaration n d

-- a label on a line of its own
abbrev pub label_line : ℕ → c.Label → Pieces
label_line n (c.Case e) = indent n ∷ sign t.Case ∷ gap ∷ operand n conditional e ++ sign t.Colon ∷ line_end ∷ []
label_line n c.Default = indent n ∷ sign t.Default ∷ sign t.Colon ∷ line_end ∷ []

-- A body: a compound one, as `here`, stands behind its header, and any other, as `deeper`, on the next line, one level deeper.
abbrev pub body : ℕ → c.Statement → Pieces → Pieces → Pieces
body n (c.Compound items) here deeper = gap ∷ here
body n _ here deeper = line_end ∷ indent (suc n) ∷ deeper

unfoldable mutual
  -- a statement from its first word, which stands in a line of level n, to the end of its last line
  pub lines : ℕ → c.Statement → Pieces
  lines n (c.Compound items) = sign t.OpenBrace ∷ line_end ∷ item_lines (suc n) items ++ indent n ∷ sign t.CloseBrace ∷ line_end ∷ []
  lines n (c.Evaluates e) = expression n e ++ sign t.Semicolon ∷ line_end ∷ []
  lines n c.Null = sign t.Semicolon ∷ line_end ∷ []
  lines n (c.If test x) = sign t.If ∷ gap ∷ in_parentheses (expression n test) ++ body n x (lines n x) (lines (suc n) x)
  lines n (c.IfElse test x y) =
      sign t.If ∷ gap ∷ in_parentheses (expression n test) ++ body n x (lines n x) (lines (suc n) x)
      ++ indent n ∷ sign t.Else ∷ body n y (lines n y) (lines (suc n) y)
  lines n (c.While test x) = sign t.While ∷ gap ∷ in_parentheses (expression n test) ++ body n x (lines n x) (lines (suc n) x)
  lines n (c.Do x test) =
      sign t.Do ∷ body n x (lines n x) (lines (suc n) x)
      ++ indent n ∷ sign t.While ∷ gap ∷ in_parentheses (expression n test) ++ sign t.Semicolon ∷ line_end ∷ []
  lines n (c.For start test step x) =
      sign t.For ∷ gap ∷ in_parentheses (for_start n start ++ optional n test ++ sign t.Semicolon ∷ optional n step) ++ body n x (lines n x) (lines (suc n) x)
  lines n (c.Switch e cases) =
      sign t.Switch ∷ gap ∷ in_parentheses (expression n e) ++ gap ∷ sign t.OpenBrace ∷ line_end ∷ case_lines (suc n) cases ++ indent n ∷ sign t.CloseBrace ∷ line_end ∷ []
  lines n c.Break = sign t.Break ∷ sign t.Semicolon ∷ line_end ∷ []
  lines n c.Continue = sign t.Continue ∷ sign t.Semicolon ∷ line_end ∷ []
  lines n (c.Return e) = sign t.Return ∷ optional n e ++ sign t.Semicolon ∷ line_end ∷ []

  pub item_lines : ℕ → c.Items → Pieces
  item_lines n c.no_items = []
  item_lines n (c.a_declaration d items) = indent n ∷ declaration n d ++ line_end ∷ item_lines n items
  item_lines n (c.a_statement x items) = indent n ∷ lines n x ++ item_lines n items
  item_lines n (c.a_label m items) = indent n ∷ mark n m ++ sign t.Semicolon ∷ line_end ∷ item_lines n items

  pub case_lines : ℕ → c.Cases → Pieces
  case_lines n c.no_cases = []
  case_lines n (c.a_case labels x cases) = flat_map (label_line n) labels ++ indent n ∷ lines n x ++ case_lines n cases

abbrev pub external : c.External → Pieces
external (c.Defines s d items) = apart (specifiers 0 s) (declarator 0 d) ++ gap ∷ sign t.OpenBrace ∷ line_end ∷ item_lines 1 items ++ sign t.CloseBrace ∷ line_end ∷ []
external (c.Declared d) = declaration 0 d ++ line_end ∷ []

abbrev pub pieces : c.Unit → Pieces
pieces unit = flat_map external unit

-- the canonical text of a unit
abbrev pub canon : c.Unit → List ℕ
canon unit = text_of (pieces unit)
