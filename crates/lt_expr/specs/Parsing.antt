-- What a parser is at a time, and what its calls give.
use Rattle.std.specs.Prelude.{◌≡◌, ℕ, ◌-◌, ◌≤◌, List, ◌++◌, length, drop, Option, Some, None, Result, Ok, Err}
use Rattle.std.specs.Global.{Global}
use Rattle.lt_tree.specs.declared.stop.Stop.{Stop}
use Rattle.lt_tree.specs.declared.stop.Stop.TheVariants.{NotOfForm, NoMemory}
use Rattle.lt_tree.specs.Symbols.{Symbol}
use Rattle.lt_tree.specs.Scope.{Scope}
use Rattle.lt_expr.specs.Front.{Rest}

pub record Parsing : Type 0 where
  pub alloc : Global
  -- of the whole text, and how many of them were read
  pub symbols : List Symbol
  pub passed : ℕ
  -- the bytes that the nodes begin at that have ended, the last one first
  pub ends : List ℕ
  -- the names that were declared within, as parameters and enumerators, and the names around them
  pub inner : Scope
  pub outer : Scope

abbrev pub scope_of : Parsing → Scope
scope_of p = p.inner ++ p.outer

abbrev pub rest_of : Parsing → Rest
rest_of p = (drop p.passed p.symbols, p.ends)

-- Only what is left has changed.
pub record GoesOn (before after : Parsing) : Type 0 where
  pub symbols : after.symbols ≡ before.symbols
  pub inner : after.inner ≡ before.inner
  pub outer : after.outer ≡ before.outer

abbrev pub Fails : {Y : Type 0} → Stop → Option Y → Type 0
Fails NotOfForm read = read ≡ None
Fails NoMemory read = Unit {0}

-- The answer, seen by view, and what is left then are what reading gives, unless memory ran out.
abbrev pub Gives : {X Y : Type 0} → (X → Y) → Parsing → Parsing → Result X Stop → Option (Y × Rest) → Type 0
Gives view before after (Ok x) read = (read ≡ Some (view x, rest_of after)) × GoesOn before after
Gives view before after (Err stop) read = Fails stop read

-- The same of a call that gives no value.
abbrev pub Passes : {X : Type 0} → Parsing → Parsing → Result X Stop → Option Rest → Type 0
Passes before after (Ok x) read = (read ≡ Some (rest_of after)) × GoesOn before after
Passes before after (Err stop) read = Fails stop read

-- The answer of a call without a parser.
abbrev pub Reads : {X Y : Type 0} → (X → Y) → Result X Stop → Option Y → Type 0
Reads view (Ok x) read = read ≡ Some (view x)
Reads view (Err stop) read = Fails stop read

-- Names were declared in front of those that are in scope, and nothing else has changed.
pub record Below (before after : Scope) : Type 0 where
  pub longer : length before ≤ length after
  pub same : drop (length after - length before) after ≡ before

-- Symbols were read, and then these names are in scope.
pub record Declares (before after : Parsing) (names : Scope) : Type 0 where
  pub symbols : after.symbols ≡ before.symbols
  pub outer : after.outer ≡ before.outer
  pub scope : scope_of after ≡ names
  pub below : Below before.inner after.inner

-- The answer, seen by view, and what is left then are what reading gives, and the names that it declares are in scope, unless memory ran out.
abbrev pub GivesNames : {X Y : Type 0} → (X → Y) → (Y → Scope) → Parsing → Parsing → Result X Stop → Option (Y × Rest) → Type 0
GivesNames view names before after (Ok x) read = (read ≡ Some (view x, rest_of after)) × Declares before after (names (view x))
GivesNames view names before after (Err stop) read = Fails stop read

pub record Hides (before after : Parsing) (names : Scope) : Type 0 where
  pub rest : rest_of after ≡ rest_of before
  pub symbols : after.symbols ≡ before.symbols
  pub outer : after.outer ≡ before.outer
  pub scope : scope_of after ≡ names
  pub below : Below before.inner after.inner
