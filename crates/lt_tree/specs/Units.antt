-- The grammar of translation units, C11 6.9, and the trees that some text has.
use Rattle.std.specs.Prelude.{◌≡◌, ℕ, ◌<◌, All, List, [], ◌∷◌, None}
use Rattle.lt_token.specs.Tokens.{Token, Lexes}
use Rattle.lt_tree.specs.declared.terminal.Terminal.TheVariants as t
use Rattle.lt_tree.specs.Tree as c
use Rattle.lt_tree.specs.Symbols as s
use Rattle.lt_tree.specs.Symbols.{Symbol, start_of, symbols}
use Rattle.lt_tree.specs.Scope.{Scope, after_specifiers, after_declaration, after_external, in_body}
use Rattle.lt_tree.specs.Ahead.{naming_behind}
use Rattle.lt_tree.specs.Grammar.{AreSpecifiers, IsDeclarator, IsWhole}
use Rattle.lt_tree.specs.Declarations.{IsDeclaration}
use Rattle.lt_tree.specs.Statements.{AreItems}

-- unit = external*, with external = specs declarator compound | declaration | ';'
pub data AreExternals : (scope : Scope) → (ts : List Symbol) → (unit : c.Unit) → (spots more : List ℕ) → Type 0 where
  no_more_externals : {scope : Scope} {more : List ℕ} → AreExternals scope [] [] more more
  definition : {scope : Scope} {at : ℕ} {ts us vs ws : List Symbol} {ss : c.Specifiers} {d : c.Declarator} {body : c.Items} {unit : c.Unit} {spots first second third more : List ℕ}
      → AreSpecifiers scope ts ss us spots first → IsDeclarator (after_specifiers ss scope) (naming_behind ss) us d (s.sign t.OpenBrace at ∷ vs) first second
      → AreItems (in_body ss d scope) vs body ws second third → AreExternals (after_external (c.Defines ss d body) scope) ws unit third more
      → AreExternals scope ts (c.Defines ss d body ∷ unit) (start_of ts ∷ spots) more
  declaration : {scope : Scope} {ts us : List Symbol} {d : c.Declaration} {unit : c.Unit} {spots between more : List ℕ}
      → IsDeclaration scope ts d us spots between → AreExternals (after_declaration d scope) us unit between more
      → AreExternals scope ts (c.Declared d ∷ unit) (start_of ts ∷ spots) more
  semicolon : {scope : Scope} {at : ℕ} {ts : List Symbol} {unit : c.Unit} {spots more : List ℕ}
      → AreExternals scope ts unit spots more → AreExternals scope (s.sign t.Semicolon at ∷ ts) unit spots more

-- The tokens derive this unit; its nodes, in the order of a walk from parent to child, begin at these bytes.
abbrev pub Derives : List Token → c.Unit → List ℕ → Type 0
Derives tokens unit spots = AreExternals [] (symbols tokens) unit spots []

-- A tree is well-made if the tokens of some text derive it.
pub record IsWellMade (unit : c.Unit) : Type 0 where
  pub text : List ℕ
  pub bytes : All (λ b. b < 256) text
  pub tokens : List Token
  pub lexes : Lexes text tokens None
  pub spots : List ℕ
  pub derives : Derives tokens unit spots

-- at most one unit, with its spots, is derived
abbrev pub UnitsAreOne : Type 0
UnitsAreOne = (tokens : List Token) (u v : c.Unit) (spots places : List ℕ) → Derives tokens u spots → Derives tokens v places → (u ≡ v) × (spots ≡ places)

-- at most one expression stands at the front, with its spots and what is behind it
abbrev pub ExpressionsAreOne : Type 0
ExpressionsAreOne =
    (scope : Scope) (ts rest other : List Symbol) (d e : c.Expression) (spots places more : List ℕ)
    → IsWhole scope ts d rest spots more → IsWhole scope ts e other places more → (d ≡ e) × (rest ≡ other) × (spots ≡ places)
