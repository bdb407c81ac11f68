-- What follows from the definitions of the grammar and of the canonical text.
use Rattle.std.specs.Prelude.{◌≡◌, ℕ, true, ◌||◌, ◌<◌, List, ◌++◌, length, map, Option, Some}
use Rattle.std.specs.List.{All, list_all}
use Rattle.lt_model.specs.declared.operator.Op.{Op}
use Rattle.lt_token.specs.Words.{is_among, skipped, unsupported, keywords as all_keywords, punctuators as all_punctuators}
use Rattle.lt_tree.specs.declared.expression.UnaryOp.{UnaryOp}
use Rattle.lt_tree.specs.declared.expression.LogicalOp.{LogicalOp}
use Rattle.lt_tree.specs.declared.specifier.Storage.{Storage}
use Rattle.lt_tree.specs.declared.specifier.BasicType.{BasicType}
use Rattle.lt_tree.specs.declared.specifier.TypeWord.{TypeWord}
use Rattle.lt_tree.specs.declared.terminal.Terminal.{Terminal}
use Rattle.lt_tree.specs.Tree.{Unit}
use Rattle.lt_tree.specs.Symbols.{Symbol, spelling, spelt, keywords, punctuators, reserved}
use Rattle.lt_tree.specs.Operators.{arithmetic, connective, infix_of, prefix_of, assignment_of, storage_of, type_word_of}
use Rattle.lt_tree.specs.TypeWords.{basic_of}
use Rattle.lt_tree.specs.Scope.{Scope}
use Rattle.lt_tree.specs.Grammar.{IsLiteral}
use Rattle.lt_tree.specs.Pieces.{quoted}
use Rattle.lt_tree.specs.Canon.{sign_of_binary, sign_of_logical, sign_of_unary, sign_of_assignment, sign_of_storage, sign_of_word, words_of, tightness, tightness_of_logical}
use Rattle.lt_tree.specs.Units.{AreExternals}
use Rattle.lt_tree.specs.Nodes.{nodes}

-- The spots of a unit are one place for each of its nodes, and behind them what follows.
abbrev pub NodesHaveSpots : Type 0
NodesHaveSpots =
    (scope : Scope) (ts : List Symbol) (unit : Unit) (spots more : List ℕ) → AreExternals scope ts unit spots more
    → (places : List ℕ) × (spots ≡ places ++ more) × (length places ≡ length (nodes unit))

-- What a sign is written for is read from it, operators at the level at which they are written.
abbrev pub SignsAreReadBack : Type 0
SignsAreReadBack =
    ((o : Op) → infix_of (sign_of_binary o) ≡ Some (arithmetic o, tightness o))
    × ((o : LogicalOp) → infix_of (sign_of_logical o) ≡ Some (connective o, tightness_of_logical o))
    × ((o : UnaryOp) → prefix_of (sign_of_unary o) ≡ Some o)
    × ((k : Terminal) (o : Option Op) → assignment_of k ≡ Some o → sign_of_assignment o ≡ k)
    × ((class : Storage) → storage_of (sign_of_storage class) ≡ Some class)
    × ((word : TypeWord) → type_word_of (sign_of_word word) ≡ Some word)
    × ((type : BasicType) → basic_of (words_of type) ≡ Some type)

-- The terminals are written as the punctuators and keywords of C and as the names of marks, no two alike. What keywords C has beside them is
-- skipped or refused before the grammar sees it.
abbrev pub TerminalsAreTokens : Type 0
TerminalsAreTokens =
    (map spelling punctuators ≡ all_punctuators)
    × (list_all (λ k. is_among (spelling k) all_keywords) keywords ≡ true)
    × (list_all (λ w. is_among w (map spelling keywords) || (is_among w skipped || is_among w unsupported)) all_keywords ≡ true)
    × (map (λ k. spelt punctuators (spelling k)) punctuators ≡ punctuators)
    × (map (λ k. spelt keywords (spelling k)) keywords ≡ keywords)
    × (map (λ k. spelt reserved (spelling k)) reserved ≡ reserved)

-- A string of bytes that is written is a literal of these bytes.
abbrev pub StringsAreReadBack : Type 0
StringsAreReadBack = (bytes : List ℕ) → All (λ b. b < 256) bytes → IsLiteral (quoted bytes) bytes

-- What a literal of bytes spells are bytes.
abbrev pub LiteralsSpellBytes : Type 0
LiteralsSpellBytes = (text bytes : List ℕ) → All (λ b. b < 256) text → IsLiteral text bytes → All (λ b. b < 256) bytes
