-- Signs stand clear: brackets and separators of all, and the others of spaces, line ends and what stands behind them.
use Rattle.std.proofs.Common.{◌≡◌, ℕ, Bool, true, false, eqb, List, [], ◌∷◌, refl, sym, ap, ◌∙◌}
use Rattle.std.specs.Char.{is_ascii_digit}
use Rattle.std.proofs.lemmas.Bool.{eqb-true, false_from_ne_true}
use Rattle.lt_token.specs.declared.piece.Class.{Class}
use Rattle.lt_token.specs.declared.piece.Class.TheVariants as class
use Rattle.lt_token.specs.Bytes.{class_of}
use Rattle.lt_token.specs.Words.{punctuators}
use Rattle.lt_tree.specs.declared.expression.UnaryOp.{UnaryOp}
use Rattle.lt_tree.specs.declared.expression.UnaryOp.TheVariants as unary
use Rattle.lt_tree.specs.declared.terminal.Terminal.{Terminal}
use Rattle.lt_tree.specs.declared.terminal.Terminal.TheVariants as k
use Rattle.lt_tree.specs.Symbols.{spelling}
use Rattle.lt_tree.specs.Canon.{sign_of_unary}
use Rattle.lt_print.proofs.Cutting.{clash}
use Rattle.lt_print.proofs.CuttingConstants.{digit_class}
use Rattle.lt_print.proofs.Written.{is_letter, is_other}
use Rattle.lt_print.proofs.Clean.{ends_sign, EndsSign}

-- brackets, separators and what no longer punctuator begins with
abbrev pub is_closed : Terminal → Bool
is_closed k.OpenIndex = true
is_closed k.CloseIndex = true
is_closed k.OpenParen = true
is_closed k.CloseParen = true
is_closed k.OpenBrace = true
is_closed k.CloseBrace = true
is_closed k.Arrow = true
is_closed k.Increment = true
is_closed k.Decrement = true
is_closed k.Tilde = true
is_closed k.Question = true
is_closed k.Colon = true
is_closed k.Semicolon = true
is_closed k.Ellipsis = true
is_closed k.Comma = true
is_closed _ = false

closed_byte : (x : Terminal) (b : ℕ) → is_closed x ≡ true → ends_sign (spelling x) b ≡ true
unfolding punctuators
closed_byte k.OpenIndex b e = refl
closed_byte k.CloseIndex b e = refl
closed_byte k.OpenParen b e = refl
closed_byte k.CloseParen b e = refl
closed_byte k.OpenBrace b e = refl
closed_byte k.CloseBrace b e = refl
closed_byte k.Arrow b e = refl
closed_byte k.Increment b e = refl
closed_byte k.Decrement b e = refl
closed_byte k.Tilde b e = refl
closed_byte k.Question b e = refl
closed_byte k.Colon b e = refl
closed_byte k.Semicolon b e = refl
closed_byte k.Ellipsis b e = refl
closed_byte k.Comma b e = refl
closed_byte x b e = absurd cc

pub closed_ends : (x : Terminal) (t : List ℕ) → is_closed x ≡ true → EndsSign (spelling x) t
closed_ends x [] e = tt
closed_ends x (b ∷ t) e = closed_byte x b e

pub space_ends : (x : Terminal) (t : List ℕ) → is_other x ≡ false → EndsSign (spelling x) (32 ∷ t)
unfolding punctuators
space_ends k.Auto t e = refl
space_ends k.Break t e = refl
space_ends k.Case t e = refl
space_ends k.Char t e = refl
space_ends k.Const t e = refl
space_ends k.Continue t e = refl
space_ends k.Default t e = refl
space_ends k.Do t e = refl
space_ends k.Double t e = refl
space_ends k.Else t e = refl
space_ends k.Enum t e = refl
space_ends k.Extern t e = refl
space_ends k.Float t e = refl
space_ends k.For t e = refl
space_ends k.If t e = refl
space_ends k.Inline t e = refl
space_ends k.Int t e = refl
space_ends k.Long t e = refl
space_ends k.Register t e = refl
space_ends k.Return t e = refl
space_ends k.Short t e = refl
space_ends k.Signed t e = refl
space_ends k.Sizeof t e = refl
space_ends k.Static t e = refl
space_ends k.Struct t e = refl
space_ends k.Switch t e = refl
space_ends k.Typedef t e = refl
space_ends k.Unsigned t e = refl
space_ends k.Void t e = refl
space_ends k.Volatile t e = refl
space_ends k.While t e = refl
space_ends k.Bool t e = refl
space_ends k.Noreturn t e = refl
space_ends k.OpenIndex t e = refl
space_ends k.CloseIndex t e = refl
space_ends k.OpenParen t e = refl
space_ends k.CloseParen t e = refl
space_ends k.OpenBrace t e = refl
space_ends k.CloseBrace t e = refl
space_ends k.Dot t e = refl
space_ends k.Arrow t e = refl
space_ends k.Increment t e = refl
space_ends k.Decrement t e = refl
space_ends k.Ampersand t e = refl
space_ends k.Star t e = refl
space_ends k.Plus t e = refl
space_ends k.Minus t e = refl
space_ends k.Tilde t e = refl
space_ends k.Exclamation t e = refl
space_ends k.Slash t e = refl
space_ends k.Percent t e = refl
space_ends k.ShiftLeft t e = refl
space_ends k.ShiftRight t e = refl
space_ends k.Less t e = refl
space_ends k.Greater t e = refl
space_ends k.LessEqual t e = refl
space_ends k.GreaterEqual t e = refl
space_ends k.EqualEqual t e = refl
space_ends k.NotEqual t e = refl
space_ends k.Caret t e = refl
space_ends k.Bar t e = refl
space_ends k.AndAnd t e = refl
space_ends k.OrOr t e = refl
space_ends k.Question t e = refl
space_ends k.Colon t e = refl
space_ends k.Semicolon t e = refl
space_ends k.Ellipsis t e = refl
space_ends k.Equal t e = refl
space_ends k.StarEqual t e = refl
space_ends k.SlashEqual t e = refl
space_ends k.PercentEqual t e = refl
space_ends k.PlusEqual t e = refl
space_ends k.MinusEqual t e = refl
space_ends k.ShiftLeftEqual t e = refl
space_ends k.ShiftRightEqual t e = refl
space_ends k.AmpersandEqual t e = refl
space_ends k.CaretEqual t e = refl
space_ends k.BarEqual t e = refl
space_ends k.Comma t e = refl
space_ends k.Label t e = refl
space_ends k.LabelBind t e = refl
space_ends k.Decide t e = refl
space_ends k.After t e = refl
space_ends k.Other t e = absurd cc

-- ---- a point before a letter

pub other_byte : (x b : ℕ) (k : Class) → class_of b ≡ class.Letter → class_of x ≡ k → is_letter k ≡ false → eqb x b ≡ false
other_byte x b k e f g = false_from_ne_true (eqb x b) (λ is. clash (is_letter k) (ap is_letter (sym f ∙ ap class_of (eqb-true x b is) ∙ e)) g)

letter_no_digit : (b : ℕ) → class_of b ≡ class.Letter → is_ascii_digit b ≡ false
letter_no_digit b e = false_from_ne_true (is_ascii_digit b) (λ is. clash (is_letter class.Digit) (ap is_letter (sym (digit_class b is) ∙ e)) refl)

pub dot_ends : (b : ℕ) (t : List ℕ) → class_of b ≡ class.Letter → EndsSign (spelling k.Dot) (b ∷ t)
unfolding punctuators
dot_ends b t e = rw (letter_no_digit b e, other_byte 46 b class.Dot e refl refl) refl

-- ---- prefixes and stars

-- a text that doesn't begin with an equals sign
abbrev pub NoEqual : List ℕ → Type 0
NoEqual [] = Unit {0}
NoEqual (b ∷ t) = eqb 61 b ≡ false

pub star_ends : (t : List ℕ) → NoEqual t → EndsSign (spelling k.Star) t
unfolding punctuators
star_ends [] h = tt
star_ends (b ∷ t) h = rw h refl

-- what may stand directly behind a prefix
pub record Unsigned (b : ℕ) : Type 0 where
  pub no_ampersand : eqb 38 b ≡ false
  pub no_plus : eqb 43 b ≡ false
  pub no_minus : eqb 45 b ≡ false
  pub no_equal : eqb 61 b ≡ false
  pub no_greater : eqb 62 b ≡ false

pub prefix_ends : (o : UnaryOp) (b : ℕ) (t : List ℕ) → Unsigned b → EndsSign (spelling (sign_of_unary o)) (b ∷ t)
unfolding punctuators
prefix_ends unary.AddressOf b t u = rw (u.no_ampersand, u.no_equal) refl
prefix_ends unary.Dereference b t u = rw u.no_equal refl
prefix_ends unary.Plus b t u = rw (u.no_plus, u.no_equal) refl
prefix_ends unary.Minus b t u = rw (u.no_greater, u.no_minus, u.no_equal) refl
prefix_ends unary.Complement b t u = refl
prefix_ends unary.Not b t u = rw u.no_equal refl

pub no_other_unary : (o : UnaryOp) → is_other (sign_of_unary o) ≡ false
no_other_unary unary.AddressOf = refl
no_other_unary unary.Dereference = refl
no_other_unary unary.Plus = refl
no_other_unary unary.Minus = refl
no_other_unary unary.Complement = refl
no_other_unary unary.Not = refl
