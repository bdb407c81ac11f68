-- The grammar of declarations and initialisers, C11 6.7 and 6.7.9, each rule beside its production.
use Rattle.std.specs.Prelude.{◌≡◌, ℕ, Bool, false, List, [], ◌∷◌, Option, Some, None}
use Rattle.lt_tree.specs.declared.terminal.Terminal.TheVariants as t
use Rattle.lt_tree.specs.Tree as c
use Rattle.lt_tree.specs.Symbols as s
use Rattle.lt_tree.specs.Symbols.{Symbol, start_of}
use Rattle.lt_tree.specs.Scope.{Scope, after_specifiers, after_declarator, after_initialiser, makes_types}
use Rattle.lt_tree.specs.Ahead.{Naming, named, naming_behind, sees}
use Rattle.lt_tree.specs.Grammar.{IsExpression, assignment, AreSpecifiers, IsDeclarator}

mutual
  -- init = assign | '{' init,+ ','? '}'
  pub data IsInitialiser : (scope : Scope) → (ts : List Symbol) → (i : c.Initialiser) → (rest : List Symbol) → (spots more : List ℕ) → Type 0 where
    value : {scope : Scope} {ts rest : List Symbol} {e : c.Expression} {spots more : List ℕ}
        → IsExpression scope assignment ts e rest spots more → IsInitialiser scope ts (c.Value e) rest (start_of ts ∷ spots) more
    braces : {scope : Scope} {at : ℕ} {ts rest : List Symbol} {is : c.Initialisers} {spots more : List ℕ}
        → AreInitialisers scope ts is rest spots more → IsInitialiser scope (s.sign t.OpenBrace at ∷ ts) (c.Braces is) rest (at ∷ spots) more

  -- init,+ ','? '}'
  pub data AreInitialisers : (scope : Scope) → (ts : List Symbol) → (is : c.Initialisers) → (rest : List Symbol) → (spots more : List ℕ) → Type 0 where
    last_initialiser : {scope : Scope} {a : ℕ} {ts rest : List Symbol} {i : c.Initialiser} {spots more : List ℕ}
        → IsInitialiser scope ts i (s.sign t.CloseBrace a ∷ rest) spots more
        → AreInitialisers scope ts (c.an_initialiser i c.no_initialisers) rest spots more
    last_initialiser_and_comma : {scope : Scope} {a b : ℕ} {ts rest : List Symbol} {i : c.Initialiser} {spots more : List ℕ}
        → IsInitialiser scope ts i (s.sign t.Comma a ∷ s.sign t.CloseBrace b ∷ rest) spots more
        → AreInitialisers scope ts (c.an_initialiser i c.no_initialisers) rest spots more
    more_initialisers : {scope : Scope} {a : ℕ} {ts us rest : List Symbol} {i : c.Initialiser} {is : c.Initialisers} {spots between more : List ℕ}
        → IsInitialiser scope ts i (s.sign t.Comma a ∷ us) spots between → AreInitialisers scope us is rest between more
        → AreInitialisers scope ts (c.an_initialiser i is) rest spots more

-- ('=' init)?
pub data IsOptionalInitialiser : (scope : Scope) → (ts : List Symbol) → (i : Option c.Initialiser) → (rest : List Symbol) → (spots more : List ℕ) → Type 0 where
  left_out : {scope : Scope} {ts : List Symbol} {more : List ℕ} → sees t.Equal ts ≡ false → IsOptionalInitialiser scope ts None ts more more
  given : {scope : Scope} {at : ℕ} {ts rest : List Symbol} {i : c.Initialiser} {spots more : List ℕ}
      → IsInitialiser scope ts i rest spots more → IsOptionalInitialiser scope (s.sign t.Equal at ∷ ts) (Some i) rest spots more

-- (declarator ('=' init)?),+ ';' where the names declared are typedef names or not; each is in scope from the end of its declarator, and only
-- the first stands directly behind the specifiers
pub data AreDeclarators : (scope : Scope) → (naming : Naming) → (type : Bool) → (ts : List Symbol) → (ds : List c.InitDeclarator) → (rest : List Symbol) → (spots more : List ℕ) → Type 0 where
  last_declarator : {scope : Scope} {naming : Naming} {type : Bool} {at : ℕ} {ts us rest : List Symbol} {d : c.Declarator} {i : Option c.Initialiser} {spots between more : List ℕ}
      → IsDeclarator scope naming ts d us spots between
      → IsOptionalInitialiser (after_declarator type d scope) us i (s.sign t.Semicolon at ∷ rest) between more
      → AreDeclarators scope naming type ts (record { declarator = d; initialiser = i } ∷ []) rest spots more
  more_declarators : {scope : Scope} {naming : Naming} {type : Bool} {at : ℕ} {ts us vs rest : List Symbol} {d : c.Declarator} {i : Option c.Initialiser} {ds : List c.InitDeclarator} {spots first second more : List ℕ}
      → IsDeclarator scope naming ts d us spots first
      → IsOptionalInitialiser (after_declarator type d scope) us i (s.sign t.Comma at ∷ vs) first second
      → AreDeclarators (after_initialiser i (after_declarator type d scope)) named type vs ds rest second more
      → AreDeclarators scope naming type ts (record { declarator = d; initialiser = i } ∷ ds) rest spots more

-- declaration = specs (declarator ('=' init)?),* ';'
pub data IsDeclaration : (scope : Scope) → (ts : List Symbol) → (d : c.Declaration) → (rest : List Symbol) → (spots more : List ℕ) → Type 0 where
  specifiers_alone : {scope : Scope} {at : ℕ} {ts rest : List Symbol} {ss : c.Specifiers} {spots more : List ℕ}
      → AreSpecifiers scope ts ss (s.sign t.Semicolon at ∷ rest) spots more
      → IsDeclaration scope ts (record { specifiers = ss; declarators = [] }) rest spots more
  with_declarators : {scope : Scope} {ts us rest : List Symbol} {ss : c.Specifiers} {ds : List c.InitDeclarator} {spots between more : List ℕ}
      → AreSpecifiers scope ts ss us spots between
      → AreDeclarators (after_specifiers ss scope) (naming_behind ss) (makes_types ss) us ds rest between more
      → IsDeclaration scope ts (record { specifiers = ss; declarators = ds }) rest spots more
