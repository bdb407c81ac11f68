-- One specifier of a declaration, C11 6.7, and several, as they are put together.
use Rattle.std.specs.Prelude.{Bool, true, false, ◌∷◌, Option, Some, None, option_map}
use Rattle.lt_tree.specs.declared.specifier.Storage.{Storage}
use Rattle.lt_tree.specs.declared.terminal.Terminal.{Terminal}
use Rattle.lt_tree.specs.declared.terminal.Terminal.TheVariants as t
use Rattle.lt_tree.specs.Tree as c
use Rattle.lt_tree.specs.Symbols.{name, sign}
use Rattle.lt_tree.specs.TypeWords.{gathered}
use Rattle.lt_tree.specs.Scope.{Scope, after_type}
use Rattle.lt_tree.specs.Grammar.{no_words, with_storage, with_const, with_volatile}
use Rattle.lt_tree.specs.Operators.{storage_of, type_word_of}
use Rattle.lt_expr.specs.Front.{Reader, if_some}

pub data Specifier : Type 0 where
  storage_class : (class : Storage) → Specifier
  inline_word : Specifier
  noreturn_word : Specifier
  const_word : Specifier
  volatile_word : Specifier
  of_type : (type : c.TypeSpecifier) → Specifier

pub record Found : Type 0 where
  pub words : c.Words
  pub types : c.TypeSpecifiers

abbrev pub none_found : Found
none_found = record { words = no_words; types = c.no_types }

-- a specifier before others
abbrev pub with_specifier : Specifier → Found → Found
with_specifier (storage_class class) found = record { words = with_storage class found.words; types = found.types }
with_specifier inline_word found = record { words = record found.words { inline = true }; types = found.types }
with_specifier noreturn_word found = record { words = record found.words { noreturn = true }; types = found.types }
with_specifier const_word found = record { words = with_const found.words; types = found.types }
with_specifier volatile_word found = record { words = with_volatile found.words; types = found.types }
with_specifier (of_type type) found = record { words = found.words; types = c.a_type type found.types }

abbrev pub names_type : Specifier → Bool
names_type (of_type type) = true
names_type _ = false

abbrev pub after_specifier : Specifier → Scope → Scope
after_specifier (of_type type) scope = after_type type scope
after_specifier _ scope = scope

abbrev pub specifiers_of : Found → c.Specifiers
specifiers_of found = c.specifiers found.words (gathered found.types)

abbrev pub word_specifier : Terminal → Option Specifier
word_specifier t.Inline = Some inline_word
word_specifier t.Noreturn = Some noreturn_word
word_specifier t.Const = Some const_word
word_specifier t.Volatile = Some volatile_word
word_specifier k = if_some (storage_of k) (λ class. Some (storage_class class)) (option_map (λ word. of_type (c.Word word)) (type_word_of k))

-- a specifier of one symbol
unfoldable pub one_specifier : Reader Specifier
one_specifier (name w at ∷ ts, ends) = Some (of_type (c.Named w), (ts, ends))
one_specifier (sign k at ∷ ts, ends) = option_map (λ s. (s, (ts, ends))) (word_specifier k)
one_specifier _ = None
