-- The first byte of an operand's text, by what stands at its head.
use Rattle.std.specs.Prelude.{ℕ, Bool, true, false, ◌||◌, ◌&&◌, ◌==◌, nat_le, List, [], ◌∷◌, Option, Some, None}
use Rattle.lt_tree.specs.declared.expression.UnaryOp.{UnaryOp}
use Rattle.lt_tree.specs.declared.expression.UnaryOp.TheVariants as unary
use Rattle.lt_tree.specs.Tree as c

abbrev pub first_of : List ℕ → Option ℕ
first_of [] = None
first_of (b ∷ bytes) = Some b

abbrev pub or_else : Option ℕ → ℕ → Option ℕ
or_else None b = Some b
or_else (Some a) b = Some a

-- Where a postfix expression is asked, looser ones stand in parentheses. A name may be empty in a tree that no text has.
abbrev pub first_byte : c.Expression → Option ℕ
first_byte (c.Name w) = first_of w
first_byte (c.Constant w) = first_of w
first_byte (c.Text bytes) = Some 34
first_byte (c.Index whole place) = or_else (first_byte whole) 91
first_byte (c.Call callee arguments) = or_else (first_byte callee) 40
first_byte (c.Member e w) = or_else (first_byte e) 46
first_byte (c.Arrow e w) = or_else (first_byte e) 45
first_byte (c.PostInc e) = or_else (first_byte e) 43
first_byte (c.PostDec e) = or_else (first_byte e) 45
first_byte (c.Decide e yes_id no_id tag) = Some 112
first_byte (c.After e id tag) = Some 112
first_byte _ = Some 40

abbrev pub is_sign : Option ℕ → Bool
is_sign None = false
is_sign (Some b) = (b == 43) || (b == 45) || (b == 38)

abbrev pub is_signed_operator : UnaryOp → Bool
is_signed_operator unary.AddressOf = true
is_signed_operator unary.Plus = true
is_signed_operator unary.Minus = true
is_signed_operator _ = false

-- whether the operand of a prefix operator begins with `+`, `-` or `&`
abbrev pub is_signed : c.Expression → Bool
is_signed (c.PreInc e) = true
is_signed (c.PreDec e) = true
is_signed (c.Unary op e) = is_signed_operator op
is_signed (c.SizeofExpr e) = false
is_signed (c.SizeofType s d) = false
is_signed e = is_sign (first_byte e)

abbrev pub begins_with_digit : List ℕ → Bool
begins_with_digit [] = false
begins_with_digit (b ∷ bytes) = nat_le 48 b && nat_le b 57
