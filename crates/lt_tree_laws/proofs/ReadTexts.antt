-- The examples of the grammar, each with its derivation.
use Rattle.std.proofs.Common.{◌≡◌, ℕ, true, false, List, [], ◌∷◌, None, refl}
use Rattle.lt_model.specs.declared.operator.Op.TheVariants as op
use Rattle.lt_token.specs.Words as words
use Rattle.lt_tree.specs.Tree as c
use Rattle.lt_tree.specs.Symbols.{Symbol, symbols, keywords, punctuators, reserved}
use Rattle.lt_tree.specs.Symbols as s
use Rattle.lt_tree.specs.Scope.{Scope, is_type}
use Rattle.lt_tree.specs.Operators.{arithmetic}
use Rattle.lt_tree.specs.declared.specifier.BasicType.TheVariants as basic
use Rattle.lt_tree.specs.declared.specifier.TypeWord.TheVariants as w
use Rattle.lt_tree.specs.declared.terminal.Terminal.TheVariants as t
use Rattle.lt_tree.specs.Ahead.{Naming, same_terminal, takes_name, begins_suffix, begins_specifier}
use Rattle.lt_tree.specs.TypeWords.{spellings, all_words, same_word}
use Rattle.lt_tree.specs.Grammar as g
use Rattle.lt_tree.specs.Declarations as d
use Rattle.lt_tree.specs.Statements as st
use Rattle.lt_tree.specs.Units as u
use Rattle.lt_tree_laws.specs.Examples.{b, x, just, pair, of_type, int, pointer, array_of_three, missing, declares, one_parameter}
use Rattle.lt_tree_laws.specs.Examples as e
use Rattle.lt_tree.specs.Ahead as a
use Rattle.lt_tree_laws.specs.WrittenDeclarations.{plain}
use Rattle.lt_tree_laws.specs.WrittenUnits.{stored}
use Rattle.lt_tree.specs.declared.specifier.Storage.TheVariants as storage
use Rattle.lt_tree_laws.specs.ReadTexts as r
use Rattle.lt_tree_laws.proofs.ReadSteps.{operand, conditional, part, whole, sum, set, just_name, int_alone}

-- ---- expressions

pub differences : r.DifferencesGroupLeft
unfolding keywords punctuators reserved same_terminal
differences = (
  refl,
  record {
    derived = sum (g.operates {op = arithmetic op.Sub} (g.operates {op = arithmetic op.Sub} (operand (g.name refl)) refl (operand (g.name refl))) refl (operand (g.name refl)));
    ends = refl;
  },
)

pub commas : r.CommasJoin
unfolding keywords punctuators reserved same_terminal
commas = (
  (
    refl,
    record {
      derived = g.longer_sequence {front = pair e.a b} {parts = just x}
          (part (g.parentheses (g.sequence (part (g.name refl)) refl (g.last_part (part (g.name refl)))))) (g.last_part (part (g.name refl)));
      ends = refl;
    },
  ),
  (
    refl,
    record {
      derived = g.sequence (part (g.name refl)) refl (g.more_parts (part (g.name refl)) (g.last_part (part (g.name refl))));
      ends = refl;
    },
  ),
)

-- ---- statements

pub nearest_else : r.ElseIsNearest
unfolding keywords punctuators reserved same_terminal words.word_of words.spells_const words.spells_volatile words.spells_signed
nearest_else = (refl, st.if_alone (whole (g.name refl)) (st.if_else (whole (g.name refl)) (st.expression (set refl)) (st.expression (set refl))) refl)

-- ---- units

pub gathered_words : r.TypeWordsGather
unfolding keywords punctuators reserved same_terminal words.word_of words.spells_const words.spells_volatile words.spells_signed spellings all_words same_word
gathered_words = (refl, u.declaration (d.with_declarators specifiers (d.last_declarator (just_name refl refl) (d.left_out refl))) u.no_more_externals)
  where
    specifiers : g.AreSpecifiers [] (s.sign t.Long 0 ∷ s.sign t.Int 5 ∷ s.sign t.Unsigned 9 ∷ s.name (120 ∷ []) 18 ∷ s.sign t.Semicolon 19 ∷ []) (of_type (c.Basic basic.UnsignedLong))
        (s.name (120 ∷ []) 18 ∷ s.sign t.Semicolon 19 ∷ []) (18 ∷ []) (18 ∷ [])
    specifiers =
        g.some_specifiers {types = c.a_type (c.Word w.Long) (c.a_type (c.Word w.Int) (c.a_type (c.Word w.Unsigned) c.no_types))} refl
        (g.type_word refl (g.type_word refl (g.type_word refl (g.no_further refl))))

pub inside_out : r.DeclaratorsTurnInsideOut
unfolding keywords punctuators reserved same_terminal words.word_of words.spells_const words.spells_volatile words.spells_signed
inside_out = (
  refl,
  u.declaration
      (d.with_declarators (int_alone refl) (d.more_declarators f (d.left_out refl) (d.last_declarator a_of_three (d.left_out refl))))
      u.no_more_externals,
)
  where
    outer : c.Parts
    outer = c.Function c.Void c.no_parts

    behind : List Symbol
    behind = s.sign t.Star 21 ∷ s.name (97 ∷ []) 22 ∷ s.sign t.OpenIndex 23 ∷ s.constant (51 ∷ []) 24 ∷ s.sign t.CloseIndex 25 ∷ s.sign t.Semicolon 26 ∷ []

    f : g.IsDeclarator [] a.named
        (s.sign t.OpenParen 4 ∷ s.sign t.Star 5 ∷ s.name (102 ∷ []) 6 ∷ s.sign t.OpenParen 7 ∷ s.sign t.Int 8 ∷ s.sign t.CloseParen 11 ∷ s.sign t.CloseParen 12
        ∷ s.sign t.OpenParen 13 ∷ s.sign t.Void 14 ∷ s.sign t.CloseParen 18 ∷ s.sign t.Comma 19 ∷ behind)
        (declares (102 ∷ []) (c.Function (c.Listed (one_parameter int missing)) (pointer outer))) (s.sign t.Comma 19 ∷ behind) (4 ∷ 21 ∷ 24 ∷ []) (21 ∷ 24 ∷ [])
    f = g.written (g.no_pointer refl (g.nested {suffixed = outer} (c.Function (c.Listed (one_parameter int missing)) (pointer c.no_parts)) refl
        (g.pointer (g.no_qualifiers refl refl) (g.no_pointer refl (g.by_name refl (g.function (g.listed refl (g.last_parameter (int_alone refl) (g.missing refl refl))) (g.no_suffix refl))))) refl
        (g.function g.void_alone (g.no_suffix refl)))) refl

    a_of_three : g.IsDeclarator (record { name = 102 ∷ []; is_type = false } ∷ []) a.named behind (declares (97 ∷ []) (array_of_three (pointer c.no_parts))) (s.sign t.Semicolon 26 ∷ []) (21 ∷ 24 ∷ []) []
    a_of_three = g.written (g.pointer (g.no_qualifiers refl refl) (g.no_pointer refl (g.by_name refl (g.array (conditional g.constant) (g.no_suffix refl))))) refl

-- `typedef int T;`, where nothing else is in scope
typedef_int : {k l : ℕ} {i j : ℕ} {w : List ℕ} {rest : List Symbol} {more : List ℕ}
    → d.IsDeclaration [] (s.sign t.Typedef i ∷ s.sign t.Int j ∷ s.name w k ∷ s.sign t.Semicolon l ∷ rest)
    (record { specifiers = stored storage.Typedef (c.Basic basic.Int); declarators = plain w ∷ [] }) rest (k ∷ more) more
unfolding spellings all_words same_word same_terminal
typedef_int =
    d.with_declarators (g.some_specifiers {types = c.a_type (c.Word w.Int) c.no_types} refl (g.storage refl (g.type_word refl (g.no_further refl))))
    (d.last_declarator (just_name refl refl) (d.left_out refl))

-- a type that is a typedef name
type_alone : {scope : Scope} {v : List ℕ} {at : ℕ} {rest : List Symbol} {more : List ℕ} → is_type scope v ≡ true → begins_specifier scope true rest ≡ false
    → g.AreSpecifiers scope (s.name v at ∷ rest) (of_type (c.Named v)) rest more more
type_alone {scope} {v} h n = g.some_specifiers {types = c.a_type (c.Named v) c.no_types} (rw h refl) (g.typedef_name h (g.no_further n))

pub inner_names : r.InnerNamesHideTypes
unfolding keywords punctuators reserved same_terminal words.word_of words.spells_const words.spells_volatile words.spells_signed
inner_names = (
  refl,
  u.declaration typedef_int
      (u.definition (int_alone refl) (g.written (g.no_pointer refl (g.by_name refl (g.function g.void_alone (g.no_suffix refl)))) refl)
      (st.declaration (d.with_declarators (type_alone refl refl) (d.last_declarator (just_name refl refl) (d.left_out refl)))
      (st.statement (st.expression (set refl))
      (st.statement (st.returns (st.given (whole (g.name refl)))) st.no_more_items)))
      u.no_more_externals),
)

pub types_in_parentheses : r.TypesInParenthesesAreParameters
unfolding keywords punctuators reserved same_terminal words.word_of words.spells_const words.spells_volatile words.spells_signed
types_in_parentheses = (
  refl,
  u.declaration typedef_int
      (u.declaration (d.with_declarators (int_alone refl)
      (d.last_declarator (g.written (g.no_pointer refl (g.by_name refl (g.function (g.listed refl (g.last_parameter (int_alone refl) unnamed)) (g.no_suffix refl)))) refl) (d.left_out refl)))
      u.no_more_externals),
)
  where
    scope : Scope
    scope = record { name = 84 ∷ []; is_type = true } ∷ []

    behind : List Symbol
    behind = s.sign t.CloseParen 28 ∷ s.sign t.Semicolon 29 ∷ []

    unnamed : g.IsDeclarator scope a.either (s.sign t.OpenParen 25 ∷ s.name (84 ∷ []) 26 ∷ s.sign t.CloseParen 27 ∷ behind)
        (c.declarator None (c.Function (c.Listed (one_parameter (of_type (c.Named (84 ∷ []))) missing)) c.no_parts)) behind (25 ∷ []) []
    unnamed = g.written (g.no_pointer refl (g.by_nothing refl refl (g.function (g.listed refl (g.last_parameter (type_alone refl refl) (g.missing refl refl))) (g.no_suffix refl)))) refl
