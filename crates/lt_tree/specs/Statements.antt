-- The grammar of statements and blocks, C11 6.8, each rule beside its production.
use Rattle.std.specs.Prelude.{◌≡◌, ℕ, false, List, [], ◌∷◌, Option, Some, None}
use Rattle.lt_tree.specs.declared.terminal.Terminal.TheVariants as t
use Rattle.lt_tree.specs.Tree as c
use Rattle.lt_tree.specs.Symbols as s
use Rattle.lt_tree.specs.Symbols.{Symbol, start_of}
use Rattle.lt_tree.specs.Scope.{Scope, after_expression, after_optional, after_start, after_labels, after_declaration, after_statement, after_mark}
use Rattle.lt_tree.specs.Ahead.{sees}
use Rattle.lt_tree.specs.Grammar.{IsExpression, comma, conditional, IsMark}
use Rattle.lt_tree.specs.Declarations.{IsDeclaration}

-- expr?
pub data IsOptional : (scope : Scope) → (ts : List Symbol) → (e : Option c.Expression) → (rest : List Symbol) → (spots more : List ℕ) → Type 0 where
  left_out : {scope : Scope} {ts : List Symbol} {more : List ℕ} → IsOptional scope ts None ts more more
  given : {scope : Scope} {ts rest : List Symbol} {e : c.Expression} {spots more : List ℕ}
      → IsExpression scope comma ts e rest spots more → IsOptional scope ts (Some e) rest spots more

-- declaration | expr? ';'
pub data IsForStart : (scope : Scope) → (ts : List Symbol) → (start : c.ForStart) → (rest : List Symbol) → (spots more : List ℕ) → Type 0 where
  nothing : {scope : Scope} {at : ℕ} {rest : List Symbol} {more : List ℕ} → IsForStart scope (s.sign t.Semicolon at ∷ rest) c.Nothing rest more more
  expression : {scope : Scope} {at : ℕ} {ts rest : List Symbol} {e : c.Expression} {spots more : List ℕ}
      → IsExpression scope comma ts e (s.sign t.Semicolon at ∷ rest) spots more → IsForStart scope ts (c.First e) rest spots more
  declaration : {scope : Scope} {ts rest : List Symbol} {d : c.Declaration} {spots more : List ℕ}
      → IsDeclaration scope ts d rest spots more → IsForStart scope ts (c.Declares d) rest spots more

-- label*, with label = 'case' cond ':' | 'default' ':'
pub data AreLabels : (scope : Scope) → (ts : List Symbol) → (labels : List c.Label) → (rest : List Symbol) → (spots more : List ℕ) → Type 0 where
  no_labels : {scope : Scope} {ts : List Symbol} {more : List ℕ} → sees t.Case ts ≡ false → sees t.Default ts ≡ false → AreLabels scope ts [] ts more more
  case_label : {scope : Scope} {a b : ℕ} {ts us rest : List Symbol} {e : c.Expression} {labels : List c.Label} {spots between more : List ℕ}
      → IsExpression scope conditional ts e (s.sign t.Colon b ∷ us) spots between → AreLabels (after_expression e scope) us labels rest between more
      → AreLabels scope (s.sign t.Case a ∷ ts) (c.Case e ∷ labels) rest (a ∷ spots) more
  default_label : {scope : Scope} {a b : ℕ} {ts rest : List Symbol} {labels : List c.Label} {spots more : List ℕ}
      → AreLabels scope ts labels rest spots more → AreLabels scope (s.sign t.Default a ∷ s.sign t.Colon b ∷ ts) (c.Default ∷ labels) rest (a ∷ spots) more

mutual
  pub data IsStatement : (scope : Scope) → (ts : List Symbol) → (x : c.Statement) → (rest : List Symbol) → (spots more : List ℕ) → Type 0 where
    -- statement = compound, with compound = '{' item* '}'
    compound : {scope : Scope} {at : ℕ} {ts rest : List Symbol} {items : c.Items} {spots more : List ℕ}
        → AreItems scope ts items rest spots more → IsStatement scope (s.sign t.OpenBrace at ∷ ts) (c.Compound items) rest (at ∷ spots) more
    -- | expr? ';'
    null : {scope : Scope} {at : ℕ} {rest : List Symbol} {more : List ℕ} → IsStatement scope (s.sign t.Semicolon at ∷ rest) c.Null rest (at ∷ more) more
    expression : {scope : Scope} {at : ℕ} {ts rest : List Symbol} {e : c.Expression} {spots more : List ℕ}
        → IsExpression scope comma ts e (s.sign t.Semicolon at ∷ rest) spots more
        → IsStatement scope ts (c.Evaluates e) rest (start_of ts ∷ spots) more
    -- | 'if' '(' expr ')' statement ('else' statement)?; an `else` belongs to the nearest `if`
    if_alone : {scope : Scope} {at a b : ℕ} {ts us rest : List Symbol} {test : c.Expression} {body : c.Statement} {spots between more : List ℕ}
        → IsExpression scope comma ts test (s.sign t.CloseParen b ∷ us) spots between
        → IsStatement (after_expression test scope) us body rest between more → sees t.Else rest ≡ false
        → IsStatement scope (s.sign t.If at ∷ s.sign t.OpenParen a ∷ ts) (c.If test body) rest (at ∷ spots) more
    if_else : {scope : Scope} {at a b d : ℕ} {ts us vs rest : List Symbol} {test : c.Expression} {body other : c.Statement} {spots first second more : List ℕ}
        → IsExpression scope comma ts test (s.sign t.CloseParen b ∷ us) spots first
        → IsStatement (after_expression test scope) us body (s.sign t.Else d ∷ vs) first second
        → IsStatement (after_expression test scope) vs other rest second more
        → IsStatement scope (s.sign t.If at ∷ s.sign t.OpenParen a ∷ ts) (c.IfElse test body other) rest (at ∷ spots) more
    -- | 'while' '(' expr ')' statement
    while_loop : {scope : Scope} {at a b : ℕ} {ts us rest : List Symbol} {test : c.Expression} {body : c.Statement} {spots between more : List ℕ}
        → IsExpression scope comma ts test (s.sign t.CloseParen b ∷ us) spots between
        → IsStatement (after_expression test scope) us body rest between more
        → IsStatement scope (s.sign t.While at ∷ s.sign t.OpenParen a ∷ ts) (c.While test body) rest (at ∷ spots) more
    -- | 'do' statement 'while' '(' expr ')' ';'
    do_loop : {scope : Scope} {at a b d f : ℕ} {ts us rest : List Symbol} {test : c.Expression} {body : c.Statement} {spots between more : List ℕ}
        → IsStatement scope ts body (s.sign t.While a ∷ s.sign t.OpenParen b ∷ us) spots between
        → IsExpression scope comma us test (s.sign t.CloseParen d ∷ s.sign t.Semicolon f ∷ rest) between more
        → IsStatement scope (s.sign t.Do at ∷ ts) (c.Do body test) rest (at ∷ spots) more
    -- | 'for' '(' (declaration | expr? ';') expr? ';' expr? ')' statement
    for_loop : {scope inner behind_test : Scope} {at a b d : ℕ} {ts us vs ws rest : List Symbol} {start : c.ForStart} {test step : Option c.Expression} {body : c.Statement} {spots first second third more : List ℕ}
        → IsForStart scope ts start us spots first → inner ≡ after_start start scope
        → IsOptional inner us test (s.sign t.Semicolon b ∷ vs) first second → behind_test ≡ after_optional test inner
        → IsOptional behind_test vs step (s.sign t.CloseParen d ∷ ws) second third
        → IsStatement (after_optional step behind_test) ws body rest third more
        → IsStatement scope (s.sign t.For at ∷ s.sign t.OpenParen a ∷ ts) (c.For start test step body) rest (at ∷ spots) more
    -- | 'switch' '(' expr ')' '{' (label* statement)* '}'
    switch : {scope : Scope} {at a b d : ℕ} {ts us rest : List Symbol} {operand : c.Expression} {cases : c.Cases} {spots between more : List ℕ}
        → IsExpression scope comma ts operand (s.sign t.CloseParen b ∷ s.sign t.OpenBrace d ∷ us) spots between
        → AreCases (after_expression operand scope) us cases rest between more
        → IsStatement scope (s.sign t.Switch at ∷ s.sign t.OpenParen a ∷ ts) (c.Switch operand cases) rest (at ∷ spots) more
    -- | 'break' ';' | 'continue' ';' | 'return' expr? ';'
    break : {scope : Scope} {at a : ℕ} {rest : List Symbol} {more : List ℕ}
        → IsStatement scope (s.sign t.Break at ∷ s.sign t.Semicolon a ∷ rest) c.Break rest (at ∷ more) more
    continue : {scope : Scope} {at a : ℕ} {rest : List Symbol} {more : List ℕ}
        → IsStatement scope (s.sign t.Continue at ∷ s.sign t.Semicolon a ∷ rest) c.Continue rest (at ∷ more) more
    returns : {scope : Scope} {at a : ℕ} {ts rest : List Symbol} {e : Option c.Expression} {spots more : List ℕ}
        → IsOptional scope ts e (s.sign t.Semicolon a ∷ rest) spots more
        → IsStatement scope (s.sign t.Return at ∷ ts) (c.Return e) rest (at ∷ spots) more

  -- item* '}', with item = declaration | statement | mark ';'
  pub data AreItems : (scope : Scope) → (ts : List Symbol) → (items : c.Items) → (rest : List Symbol) → (spots more : List ℕ) → Type 0 where
    no_more_items : {scope : Scope} {at : ℕ} {rest : List Symbol} {more : List ℕ} → AreItems scope (s.sign t.CloseBrace at ∷ rest) c.no_items rest more more
    declaration : {scope : Scope} {ts us rest : List Symbol} {d : c.Declaration} {items : c.Items} {spots between more : List ℕ}
        → IsDeclaration scope ts d us spots between → AreItems (after_declaration d scope) us items rest between more
        → AreItems scope ts (c.a_declaration d items) rest (start_of ts ∷ spots) more
    statement : {scope : Scope} {ts us rest : List Symbol} {x : c.Statement} {items : c.Items} {spots between more : List ℕ}
        → IsStatement scope ts x us spots between → AreItems (after_statement x scope) us items rest between more
        → AreItems scope ts (c.a_statement x items) rest (start_of ts ∷ spots) more
    label : {scope : Scope} {a : ℕ} {ts us rest : List Symbol} {m : c.Mark} {items : c.Items} {spots between more : List ℕ}
        → IsMark scope ts m (s.sign t.Semicolon a ∷ us) spots between → AreItems (after_mark m scope) us items rest between more
        → AreItems scope ts (c.a_label m items) rest (start_of ts ∷ spots) more

  -- (label* statement)* '}'
  pub data AreCases : (scope : Scope) → (ts : List Symbol) → (cases : c.Cases) → (rest : List Symbol) → (spots more : List ℕ) → Type 0 where
    no_more_cases : {scope : Scope} {at : ℕ} {rest : List Symbol} {more : List ℕ} → AreCases scope (s.sign t.CloseBrace at ∷ rest) c.no_cases rest more more
    one_more_case : {scope : Scope} {ts us vs rest : List Symbol} {labels : List c.Label} {x : c.Statement} {cases : c.Cases} {spots first second more : List ℕ}
        → AreLabels scope ts labels us spots first → IsStatement (after_labels labels scope) us x vs first second
        → AreCases (after_statement x (after_labels labels scope)) vs cases rest second more
        → AreCases scope ts (c.a_case labels x cases) rest spots more
