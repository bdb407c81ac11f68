-- The terminals of the grammar: what a token is to it, C11 6.4.
use Rattle.std.specs.Prelude.{ℕ, if◌then◌else◌, List, [], ◌∷◌, codes, map}
use Rattle.std.specs.Str.{bytes_eq}
use Rattle.lt_token.specs.declared.kind.Kind.{Kind}
use Rattle.lt_token.specs.declared.kind.Kind.TheVariants as kind
use Rattle.lt_token.specs.Tokens.{Token, word}
use Rattle.lt_tree.specs.declared.terminal.Terminal.{Terminal}
use Rattle.lt_tree.specs.declared.terminal.Terminal.TheVariants as t

-- a token as the grammar sees it, with the byte that it begins at
pub data Symbol : Type 0 where
  -- an identifier that isn't reserved
  name : (word : List ℕ) (at : ℕ) → Symbol
  -- an integer or character constant, as written
  constant : (text : List ℕ) (at : ℕ) → Symbol
  -- a string literal, as written, with its quotes
  literal : (text : List ℕ) (at : ℕ) → Symbol
  sign : (terminal : Terminal) (at : ℕ) → Symbol

-- how a terminal is written
abbrev pub spelling : Terminal → List ℕ
spelling t.Auto = codes "auto"
spelling t.Break = codes "break"
spelling t.Case = codes "case"
spelling t.Char = codes "char"
spelling t.Const = codes "const"
spelling t.Continue = codes "continue"
spelling t.Default = codes "default"
spelling t.Do = codes "do"
spelling t.Double = codes "double"
spelling t.Else = codes "else"
spelling t.Enum = codes "enum"
spelling t.Extern = codes "extern"
spelling t.Float = codes "float"
spelling t.For = codes "for"
spelling t.If = codes "if"
spelling t.Inline = codes "inline"
spelling t.Int = codes "int"
spelling t.Long = codes "long"
spelling t.Register = codes "register"
spelling t.Return = codes "return"
spelling t.Short = codes "short"
spelling t.Signed = codes "signed"
spelling t.Sizeof = codes "sizeof"
spelling t.Static = codes "static"
spelling t.Struct = codes "struct"
spelling t.Switch = codes "switch"
spelling t.Typedef = codes "typedef"
spelling t.Unsigned = codes "unsigned"
spelling t.Void = codes "void"
spelling t.Volatile = codes "volatile"
spelling t.While = codes "while"
spelling t.Bool = codes "_Bool"
spelling t.Noreturn = codes "_Noreturn"
spelling t.OpenIndex = codes "["
spelling t.CloseIndex = codes "]"
spelling t.OpenParen = codes "("
spelling t.CloseParen = codes ")"
spelling t.OpenBrace = codes "{"
spelling t.CloseBrace = codes "}"
spelling t.Dot = codes "."
spelling t.Arrow = codes "->"
spelling t.Increment = codes "++"
spelling t.Decrement = codes "--"
spelling t.Ampersand = codes "&"
spelling t.Star = codes "*"
spelling t.Plus = codes "+"
spelling t.Minus = codes "-"
spelling t.Tilde = codes "~"
spelling t.Exclamation = codes "!"
spelling t.Slash = codes "/"
spelling t.Percent = codes "%"
spelling t.ShiftLeft = codes "<<"
spelling t.ShiftRight = codes ">>"
spelling t.Less = codes "<"
spelling t.Greater = codes ">"
spelling t.LessEqual = codes "<="
spelling t.GreaterEqual = codes ">="
spelling t.EqualEqual = codes "=="
spelling t.NotEqual = codes "!="
spelling t.Caret = codes "^"
spelling t.Bar = codes "|"
spelling t.AndAnd = codes "&&"
spelling t.OrOr = codes "||"
spelling t.Question = codes "?"
spelling t.Colon = codes ":"
spelling t.Semicolon = codes ";"
spelling t.Ellipsis = codes "..."
spelling t.Equal = codes "="
spelling t.StarEqual = codes "*="
spelling t.SlashEqual = codes "/="
spelling t.PercentEqual = codes "%="
spelling t.PlusEqual = codes "+="
spelling t.MinusEqual = codes "-="
spelling t.ShiftLeftEqual = codes "<<="
spelling t.ShiftRightEqual = codes ">>="
spelling t.AmpersandEqual = codes "&="
spelling t.CaretEqual = codes "^="
spelling t.BarEqual = codes "|="
spelling t.Comma = codes ","
spelling t.Label = codes "pc_label"
spelling t.LabelBind = codes "pc_label_bind"
spelling t.Decide = codes "pc_decide"
spelling t.After = codes "pc_after"
spelling t.Other = []

-- the keywords that the grammar has
unfoldable pub keywords : List Terminal
keywords =
    t.Auto ∷ t.Break ∷ t.Case ∷ t.Char ∷ t.Const ∷ t.Continue ∷ t.Default ∷ t.Do ∷ t.Double ∷ t.Else ∷ t.Enum ∷ t.Extern ∷
    t.Float ∷ t.For ∷ t.If ∷ t.Inline ∷ t.Int ∷ t.Long ∷ t.Register ∷ t.Return ∷ t.Short ∷ t.Signed ∷ t.Sizeof ∷ t.Static ∷
    t.Struct ∷ t.Switch ∷ t.Typedef ∷ t.Unsigned ∷ t.Void ∷ t.Volatile ∷ t.While ∷ t.Bool ∷ t.Noreturn ∷ []

-- the punctuators that the grammar has
unfoldable pub punctuators : List Terminal
punctuators =
    t.OpenIndex ∷ t.CloseIndex ∷ t.OpenParen ∷ t.CloseParen ∷ t.OpenBrace ∷ t.CloseBrace ∷ t.Dot ∷ t.Arrow ∷ t.Increment ∷
    t.Decrement ∷ t.Ampersand ∷ t.Star ∷ t.Plus ∷ t.Minus ∷ t.Tilde ∷ t.Exclamation ∷ t.Slash ∷ t.Percent ∷ t.ShiftLeft ∷
    t.ShiftRight ∷ t.Less ∷ t.Greater ∷ t.LessEqual ∷ t.GreaterEqual ∷ t.EqualEqual ∷ t.NotEqual ∷ t.Caret ∷ t.Bar ∷
    t.AndAnd ∷ t.OrOr ∷ t.Question ∷ t.Colon ∷ t.Semicolon ∷ t.Ellipsis ∷ t.Equal ∷ t.StarEqual ∷ t.SlashEqual ∷
    t.PercentEqual ∷ t.PlusEqual ∷ t.MinusEqual ∷ t.ShiftLeftEqual ∷ t.ShiftRightEqual ∷ t.AmpersandEqual ∷ t.CaretEqual ∷
    t.BarEqual ∷ t.Comma ∷ []

-- the names of marks
unfoldable pub reserved : List Terminal
reserved =
    t.Label ∷ t.LabelBind ∷ t.Decide ∷ t.After ∷ []

-- the terminal among these that is written so
abbrev pub spelt : List Terminal → List ℕ → Terminal
spelt [] w = t.Other
spelt (k ∷ ks) w = if bytes_eq w (spelling k) then k else spelt ks w

abbrev pub named : Terminal → Token → Symbol
named t.Other token = name token.text token.at
named k token = sign k token.at

abbrev pub symbol_by : Kind → Token → Symbol
symbol_by kind.Identifier token = named (spelt reserved token.text) token
symbol_by kind.Keyword token = sign (spelt keywords (word token)) token.at
symbol_by kind.Integer token = constant token.text token.at
symbol_by kind.Character token = constant token.text token.at
symbol_by kind.Text token = literal token.text token.at
symbol_by kind.Punctuator token = sign (spelt punctuators token.text) token.at

abbrev pub symbol_of : Token → Symbol
symbol_of token = symbol_by token.kind token

abbrev pub symbols : List Token → List Symbol
symbols tokens = map symbol_of tokens

abbrev pub place : Symbol → ℕ
place (name w at) = at
place (constant w at) = at
place (literal w at) = at
place (sign k at) = at

-- the byte that the first of these begins at
abbrev pub start_of : List Symbol → ℕ
start_of [] = 0
start_of (s ∷ ss) = place s
