-- What stands at the front of symbols, where the grammar goes by it.
use Rattle.std.specs.Prelude.{ℕ, Bool, true, false, ◌||◌, ◌&&◌, not, List, [], ◌∷◌, is_some}
use denote.Enum.Bare.{sameb}
use Rattle.lt_tree.specs.contracts.terminal.Terminal.{the_type}
use Rattle.lt_tree.specs.declared.terminal.Terminal.{Terminal}
use Rattle.lt_tree.specs.declared.terminal.Terminal.TheVariants as t
use Rattle.lt_tree.specs.Symbols.{Symbol, name, literal, sign}
use Rattle.lt_tree.specs.Operators.{infix_of, prefix_of, assignment_of, storage_of, type_word_of}
use Rattle.lt_tree.specs.Scope.{Scope, is_type}
use Rattle.lt_tree.specs.Tree.{Specifiers, specifiers, no_types, a_type}

unfoldable pub same_terminal : Terminal → Terminal → Bool
same_terminal = sameb the_type

-- the terminal at the front
abbrev pub terminal_at : List Symbol → Terminal
terminal_at (sign k at ∷ ts) = k
terminal_at _ = t.Other

abbrev pub sees : Terminal → List Symbol → Bool
sees k ts = same_terminal (terminal_at ts) k

-- words that may stand among specifiers wherever they stand
abbrev pub is_specifier_word : Terminal → Bool
is_specifier_word t.Inline = true
is_specifier_word t.Noreturn = true
is_specifier_word t.Const = true
is_specifier_word t.Volatile = true
is_specifier_word t.Struct = true
is_specifier_word t.Enum = true
is_specifier_word k = is_some (storage_of k) || is_some (type_word_of k)

-- One more specifier stands at the front. A typedef name is one exactly where no type was named before it.
abbrev pub begins_specifier : Scope → Bool → List Symbol → Bool
begins_specifier scope typed [] = false
begins_specifier scope typed (sign k at ∷ ts) = is_specifier_word k
begins_specifier scope typed (name w at ∷ ts) = not typed && is_type scope w
begins_specifier scope typed (_ ∷ ts) = false

-- a declarator may begin here
abbrev pub begins_declarator : List Symbol → Bool
begins_declarator (name w at ∷ ts) = true
begins_declarator ts = sees t.Star ts || sees t.OpenParen ts || sees t.OpenIndex ts

-- one more array or parameter list may follow a declarator
abbrev pub begins_suffix : List Symbol → Bool
begins_suffix ts = sees t.OpenParen ts || sees t.OpenIndex ts

-- Behind an opening parenthesis of a declarator that may lack a name stands a parameter list, and no declarator.
abbrev pub begins_parameters : Scope → List Symbol → Bool
begins_parameters scope ts = sees t.CloseParen ts || begins_specifier scope false ts

-- `void` alone
abbrev pub is_void_alone : List Symbol → Bool
is_void_alone (sign t.Void at ∷ ts) = sees t.CloseParen ts
is_void_alone _ = false

abbrev pub is_operator : Terminal → Bool
is_operator t.Increment = true
is_operator t.Decrement = true
is_operator t.Sizeof = true
is_operator k = is_some (infix_of k) || is_some (prefix_of k) || is_some (assignment_of k)

abbrev pub extends : Terminal → Bool
extends t.OpenParen = true
extends t.OpenIndex = true
extends t.Dot = true
extends t.Arrow = true
extends t.Question = true
extends t.Comma = true
extends k = is_operator k

-- An expression can't end before this: an operator, `(`, `[`, `.`, `->`, `?`, a comma or a string.
abbrev pub goes_on : List Symbol → Bool
goes_on [] = false
goes_on (sign k at ∷ ts) = extends k
goes_on (literal w at ∷ ts) = true
goes_on (_ ∷ ts) = false

-- whether a declarator has to have a name, has none, or may have one
pub data Naming : Type 0 where
  named : Naming
  -- directly behind specifiers that name no type
  untyped : Naming
  nameless : Naming
  either : Naming

-- whether a declarator may have this name; directly behind specifiers that name no type, it is no typedef name
abbrev pub takes_name : Naming → Scope → List ℕ → Bool
takes_name named scope w = true
takes_name untyped scope w = not (is_type scope w)
takes_name nameless scope w = false
takes_name either scope w = true

-- the naming of the first declarator behind these specifiers
abbrev pub naming_behind : Specifiers → Naming
naming_behind (specifiers words no_types) = untyped
naming_behind (specifiers words (a_type first rest)) = named

-- Behind `*` a typedef name is no specifier any more.
abbrev pub behind_star : Naming → Naming
behind_star named = named
behind_star untyped = named
behind_star nameless = nameless
behind_star either = either

abbrev pub takes_none : Naming → Bool
takes_none named = false
takes_none untyped = false
takes_none nameless = true
takes_none either = true

-- In a declarator that may lack a name, an opening parenthesis may begin a parameter list.
abbrev pub opens_parameters : Naming → Scope → List Symbol → Bool
opens_parameters named scope ts = false
opens_parameters untyped scope ts = false
opens_parameters nameless scope ts = begins_parameters scope ts
opens_parameters either scope ts = begins_parameters scope ts

-- a name, or a declarator in parentheses, stands here
abbrev pub begins_direct : Scope → List Symbol → Bool
begins_direct scope (name w at ∷ ts) = true
begins_direct scope (sign t.OpenParen at ∷ ts) = not (begins_parameters scope ts)
begins_direct scope _ = false
