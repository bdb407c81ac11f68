-- Each terminal but the one for what is none is written as a punctuator, a keyword or the name of a mark, and read back.
use Rattle.std.specs.Prelude.{◌≡◌, ℕ, Bool, true, false, refl, List, [], ◌∷◌}
use Rattle.lt_token.specs.declared.piece.Class.{Class}
use Rattle.lt_token.specs.declared.piece.Class.TheVariants as class
use Rattle.lt_token.specs.declared.piece.Form.TheVariants as form
use Rattle.lt_token.specs.declared.kind.Kind.TheVariants as kind
use Rattle.lt_token.specs.declared.lexeme.Role.TheVariants as role
use Rattle.lt_token.specs.Bytes.{class_of}
use Rattle.lt_token.specs.Words.{is_among, word_of, punctuators as all_punctuators, keywords as all_keywords, respelled, spells_const, spells_volatile, spells_signed, skipped, attributes, assemblers, unsupported}
use Rattle.lt_token.specs.Pieces.{is_piece}
use Rattle.lt_token.specs.Tokens.{Token, role_of_word}
use Rattle.lt_tree.specs.declared.terminal.Terminal.{Terminal}
use Rattle.lt_tree.specs.declared.terminal.Terminal.TheVariants as k
use Rattle.lt_tree.specs.Symbols as s
use Rattle.lt_tree.specs.Symbols.{spelling, spelt, named, keywords, punctuators, reserved}

abbrev pub is_letter : Class → Bool
is_letter class.Letter = true
is_letter _ = false

-- whether the bytes begin with a letter
abbrev pub begins_word : List ℕ → Bool
begins_word [] = false
begins_word (b ∷ bs) = is_letter (class_of b)

abbrev pub is_other : Terminal → Bool
is_other k.Other = true
is_other _ = false

pub data IsWritten (x : Terminal) : Type 0 where
  a_punctuator : begins_word (spelling x) ≡ false → is_among (spelling x) all_punctuators ≡ true → spelt punctuators (spelling x) ≡ x → IsWritten x
  a_keyword : begins_word (spelling x) ≡ true → ((fresh : Bool) → is_piece fresh form.Word (spelling x) ≡ true) → ((trails : Bool) → role_of_word trails (spelling x) ≡ role.Token kind.Keyword)
      → spelt keywords (word_of (spelling x)) ≡ x → IsWritten x
  a_mark_name : begins_word (spelling x) ≡ true → ((fresh : Bool) → is_piece fresh form.Word (spelling x) ≡ true) → ((trails : Bool) → role_of_word trails (spelling x) ≡ role.Token kind.Identifier)
      → ((token : Token) → named (spelt reserved (spelling x)) token ≡ s.sign x token.at) → IsWritten x

pub written_as : (x : Terminal) → is_other x ≡ false → IsWritten x
unfolding keywords punctuators reserved all_punctuators all_keywords respelled spells_const spells_volatile spells_signed skipped attributes assemblers unsupported word_of
written_as k.Auto e = a_keyword refl (λ fresh. refl) (λ trails. refl) refl
written_as k.Break e = a_keyword refl (λ fresh. refl) (λ trails. refl) refl
written_as k.Case e = a_keyword refl (λ fresh. refl) (λ trails. refl) refl
written_as k.Char e = a_keyword refl (λ fresh. refl) (λ trails. refl) refl
written_as k.Const e = a_keyword refl (λ fresh. refl) (λ trails. refl) refl
written_as k.Continue e = a_keyword refl (λ fresh. refl) (λ trails. refl) refl
written_as k.Default e = a_keyword refl (λ fresh. refl) (λ trails. refl) refl
written_as k.Do e = a_keyword refl (λ fresh. refl) (λ trails. refl) refl
written_as k.Double e = a_keyword refl (λ fresh. refl) (λ trails. refl) refl
written_as k.Else e = a_keyword refl (λ fresh. refl) (λ trails. refl) refl
written_as k.Enum e = a_keyword refl (λ fresh. refl) (λ trails. refl) refl
written_as k.Extern e = a_keyword refl (λ fresh. refl) (λ trails. refl) refl
written_as k.Float e = a_keyword refl (λ fresh. refl) (λ trails. refl) refl
written_as k.For e = a_keyword refl (λ fresh. refl) (λ trails. refl) refl
written_as k.If e = a_keyword refl (λ fresh. refl) (λ trails. refl) refl
written_as k.Inline e = a_keyword refl (λ fresh. refl) (λ trails. refl) refl
written_as k.Int e = a_keyword refl (λ fresh. refl) (λ trails. refl) refl
written_as k.Long e = a_keyword refl (λ fresh. refl) (λ trails. refl) refl
written_as k.Register e = a_keyword refl (λ fresh. refl) (λ trails. refl) refl
written_as k.Return e = a_keyword refl (λ fresh. refl) (λ trails. refl) refl
written_as k.Short e = a_keyword refl (λ fresh. refl) (λ trails. refl) refl
written_as k.Signed e = a_keyword refl (λ fresh. refl) (λ trails. refl) refl
written_as k.Sizeof e = a_keyword refl (λ fresh. refl) (λ trails. refl) refl
written_as k.Static e = a_keyword refl (λ fresh. refl) (λ trails. refl) refl
written_as k.Struct e = a_keyword refl (λ fresh. refl) (λ trails. refl) refl
written_as k.Switch e = a_keyword refl (λ fresh. refl) (λ trails. refl) refl
written_as k.Typedef e = a_keyword refl (λ fresh. refl) (λ trails. refl) refl
written_as k.Unsigned e = a_keyword refl (λ fresh. refl) (λ trails. refl) refl
written_as k.Void e = a_keyword refl (λ fresh. refl) (λ trails. refl) refl
written_as k.Volatile e = a_keyword refl (λ fresh. refl) (λ trails. refl) refl
written_as k.While e = a_keyword refl (λ fresh. refl) (λ trails. refl) refl
written_as k.Bool e = a_keyword refl (λ fresh. refl) (λ trails. refl) refl
written_as k.Noreturn e = a_keyword refl (λ fresh. refl) (λ trails. refl) refl
written_as k.OpenIndex e = a_punctuator refl refl refl
written_as k.CloseIndex e = a_punctuator refl refl refl
written_as k.OpenParen e = a_punctuator refl refl refl
written_as k.CloseParen e = a_punctuator refl refl refl
written_as k.OpenBrace e = a_punctuator refl refl refl
written_as k.CloseBrace e = a_punctuator refl refl refl
written_as k.Dot e = a_punctuator refl refl refl
written_as k.Arrow e = a_punctuator refl refl refl
written_as k.Increment e = a_punctuator refl refl refl
written_as k.Decrement e = a_punctuator refl refl refl
written_as k.Ampersand e = a_punctuator refl refl refl
written_as k.Star e = a_punctuator refl refl refl
written_as k.Plus e = a_punctuator refl refl refl
written_as k.Minus e = a_punctuator refl refl refl
written_as k.Tilde e = a_punctuator refl refl refl
written_as k.Exclamation e = a_punctuator refl refl refl
written_as k.Slash e = a_punctuator refl refl refl
written_as k.Percent e = a_punctuator refl refl refl
written_as k.ShiftLeft e = a_punctuator refl refl refl
written_as k.ShiftRight e = a_punctuator refl refl refl
written_as k.Less e = a_punctuator refl refl refl
written_as k.Greater e = a_punctuator refl refl refl
written_as k.LessEqual e = a_punctuator refl refl refl
written_as k.GreaterEqual e = a_punctuator refl refl refl
written_as k.EqualEqual e = a_punctuator refl refl refl
written_as k.NotEqual e = a_punctuator refl refl refl
written_as k.Caret e = a_punctuator refl refl refl
written_as k.Bar e = a_punctuator refl refl refl
written_as k.AndAnd e = a_punctuator refl refl refl
written_as k.OrOr e = a_punctuator refl refl refl
written_as k.Question e = a_punctuator refl refl refl
written_as k.Colon e = a_punctuator refl refl refl
written_as k.Semicolon e = a_punctuator refl refl refl
written_as k.Ellipsis e = a_punctuator refl refl refl
written_as k.Equal e = a_punctuator refl refl refl
written_as k.StarEqual e = a_punctuator refl refl refl
written_as k.SlashEqual e = a_punctuator refl refl refl
written_as k.PercentEqual e = a_punctuator refl refl refl
written_as k.PlusEqual e = a_punctuator refl refl refl
written_as k.MinusEqual e = a_punctuator refl refl refl
written_as k.ShiftLeftEqual e = a_punctuator refl refl refl
written_as k.ShiftRightEqual e = a_punctuator refl refl refl
written_as k.AmpersandEqual e = a_punctuator refl refl refl
written_as k.CaretEqual e = a_punctuator refl refl refl
written_as k.BarEqual e = a_punctuator refl refl refl
written_as k.Comma e = a_punctuator refl refl refl
written_as k.Label e = a_mark_name refl (λ fresh. refl) (λ trails. refl) (λ token. refl)
written_as k.LabelBind e = a_mark_name refl (λ fresh. refl) (λ trails. refl) (λ token. refl)
written_as k.Decide e = a_mark_name refl (λ fresh. refl) (λ trails. refl) (λ token. refl)
written_as k.After e = a_mark_name refl (λ fresh. refl) (λ trails. refl) (λ token. refl)
written_as k.Other e = absurd cc
