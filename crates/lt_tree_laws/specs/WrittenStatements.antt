-- Examples: how statements are written.
use Rattle.std.specs.Prelude.{◌≡◌, ℕ, List, [], ◌∷◌, ◌++◌, codes, Some, None}
use Rattle.std.specs.List.{flat_map}
use Rattle.lt_model.specs.declared.operator.Op.TheVariants as op
use Rattle.lt_tree.specs.Tree as c
use Rattle.lt_tree.specs.Tree.{Compound, Evaluates, Null, If, IfElse, While, Do, For, Switch, Break, Continue, Return}
use Rattle.lt_tree.specs.Pieces.{text_of}
use Rattle.lt_tree.specs.CanonUnits.{lines}
use Rattle.lt_tree_laws.specs.Examples.{a, b, x, one, two, int, declares}

-- these lines, each with its line end
abbrev pub in_lines : List (List ℕ) → List ℕ
in_lines ls = flat_map (λ l. l ++ 10 ∷ []) ls

-- the canonical text of this statement, on a line without indentation
abbrev pub IsStated : c.Statement → List (List ℕ) → Type 0
IsStated s ls = text_of (lines 0 s) ≡ in_lines ls

abbrev pub sets : c.Expression → c.Expression → c.Statement
sets target value = Evaluates (c.Assign None target value)

abbrev pub block : c.Statement → c.Statement
block s = Compound (c.a_statement s c.no_items)

abbrev pub LoopsAreWritten : Type 0
LoopsAreWritten =
    IsStated (For c.Nothing None None Null) (codes "for (;;)" ∷ codes "  ;" ∷ [])
    × IsStated (For (c.First (c.Assign None a one)) (Some (c.Binary op.Lt a b)) (Some (c.PostInc a)) (block Continue))
    (codes "for (a = 1; a < b; a++) {" ∷ codes "  continue;" ∷ codes "}" ∷ [])
    × IsStated
    (For (c.Declares (record { specifiers = int; declarators = record { declarator = declares (codes "i") c.no_parts; initialiser = Some (c.Value one) } ∷ [] })) None (Some a) Break)
    (codes "for (int i = 1;; a)" ∷ codes "  break;" ∷ [])
    × IsStated (For c.Nothing (Some a) None Null) (codes "for (; a;)" ∷ codes "  ;" ∷ [])
    × IsStated (Do (Evaluates (c.PostDec a)) a) (codes "do" ∷ codes "  a--;" ∷ codes "while (a);" ∷ [])
    × IsStated (Do (block (Evaluates (c.PostDec a))) a) (codes "do {" ∷ codes "  a--;" ∷ codes "}" ∷ codes "while (a);" ∷ [])
    × IsStated (While (c.Comma (c.an_expression a (c.an_expression b c.no_expressions))) (While x Null)) (codes "while (a, b)" ∷ codes "  while (x)" ∷ codes "    ;" ∷ [])

abbrev pub ChoicesAreWritten : Type 0
ChoicesAreWritten =
    IsStated (If a (IfElse b (sets a one) (sets a two))) (codes "if (a)" ∷ codes "  if (b)" ∷ codes "    a = 1;" ∷ codes "  else" ∷ codes "    a = 2;" ∷ [])
    × IsStated (IfElse a (block (If b (sets a one))) (block (Return None)))
    (codes "if (a) {" ∷ codes "  if (b)" ∷ codes "    a = 1;" ∷ codes "}" ∷ codes "else {" ∷ codes "  return;" ∷ codes "}" ∷ [])
    × IsStated (IfElse a Null (If b (Return (Some a)))) (codes "if (a)" ∷ codes "  ;" ∷ codes "else" ∷ codes "  if (b)" ∷ codes "    return a;" ∷ [])
    × IsStated
    (Switch a
    (c.a_case (c.Case one ∷ c.Case (c.Conditional a one two) ∷ []) (sets b one)
    (c.a_case [] Break (c.a_case (c.Default ∷ []) (Compound c.no_items) c.no_cases))))
    (codes "switch (a) {" ∷ codes "  case 1:" ∷ codes "  case a ? 1 : 2:" ∷ codes "  b = 1;" ∷ codes "  break;" ∷ codes "  default:" ∷ codes "  {" ∷ codes "  }" ∷ codes "}" ∷ [])
    × IsStated (block (block Null)) (codes "{" ∷ codes "  {" ∷ codes "    ;" ∷ codes "  }" ∷ codes "}" ∷ [])
