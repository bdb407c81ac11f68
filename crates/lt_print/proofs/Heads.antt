-- What an operand's text begins with.
use Rattle.std.proofs.Common.{◌≡◌, ◌≤◌, ◌+◌, Bool, true, false, ltb, List, [], ◌∷◌, ◌++◌, ℕ, if◌then◌else◌, Option, Some, None, is_some, refl, ap, sym, ◌∙◌, append_assoc, arith}
use Rattle.std.proofs.lemmas.Bool.{lt-ltb}
use Rattle.std.proofs.lemmas.List.{append-nil}
use Rattle.lt_model.specs.declared.operator.Op.{Op}
use Rattle.lt_model.specs.declared.operator.Op.TheVariants as op
use Rattle.lt_tree.specs.declared.expression.UnaryOp.TheVariants as unary
use Rattle.lt_tree.specs.declared.expression.LogicalOp.{LogicalOp}
use Rattle.lt_tree.specs.declared.expression.LogicalOp.TheVariants as logical
use Rattle.lt_tree.specs.declared.terminal.Terminal.{Terminal}
use Rattle.lt_tree.specs.declared.terminal.Terminal.TheVariants as t
use Rattle.lt_tree.specs.declared.expression.UnaryOp.{UnaryOp}
use Rattle.lt_tree.specs.Symbols.{spelling}
use Rattle.lt_tree.specs.Tree as c
use Rattle.lt_tree.specs.Grammar as g
use Rattle.lt_tree.specs.Pieces.{text_of, gap}
use Rattle.lt_tree.specs.Canon.{Pieces, sign, name, is_integer, sign_of_unary, gap_if, tightness, tightness_of_logical, operand, starts_signed, prefixed}
use Rattle.lt_print.specs.Heads.{first_of, or_else, first_byte, is_sign, is_signed, is_signed_operator}
use Rattle.lt_print.proofs.Texts.{text_append}
use Rattle.lt_print.proofs.Words.{joined}

first_front : (xs : List ℕ) (b : ℕ) (ys : List ℕ) → first_of (xs ++ (b ∷ ys)) ≡ or_else (first_of xs) b
first_front [] b ys = refl
first_front (x ∷ xs) b ys = refl

pub binary_below : (o : Op) (n : ℕ) → 14 ≤ n → ltb (4 + tightness o) n ≡ true
binary_below op.Add n le = lt-ltb 12 n (omega arith)
binary_below op.Sub n le = lt-ltb 12 n (omega arith)
binary_below op.Mul n le = lt-ltb 13 n (omega arith)
binary_below op.Div n le = lt-ltb 13 n (omega arith)
binary_below op.Rem n le = lt-ltb 13 n (omega arith)
binary_below op.Shl n le = lt-ltb 11 n (omega arith)
binary_below op.Shr n le = lt-ltb 11 n (omega arith)
binary_below op.And n le = lt-ltb 8 n (omega arith)
binary_below op.Or n le = lt-ltb 6 n (omega arith)
binary_below op.Xor n le = lt-ltb 7 n (omega arith)
binary_below op.Lt n le = lt-ltb 10 n (omega arith)
binary_below op.Le n le = lt-ltb 10 n (omega arith)
binary_below op.Gt n le = lt-ltb 10 n (omega arith)
binary_below op.Ge n le = lt-ltb 10 n (omega arith)
binary_below op.Eq n le = lt-ltb 9 n (omega arith)
binary_below op.Ne n le = lt-ltb 9 n (omega arith)

pub logical_below : (o : LogicalOp) (n : ℕ) → 14 ≤ n → ltb (4 + tightness_of_logical o) n ≡ true
logical_below logical.Or n le = lt-ltb 4 n (omega arith)
logical_below logical.And n le = lt-ltb 5 n (omega arith)

-- behind an operand
behind_first : (a rest : Pieces) (b : ℕ) (ys : List ℕ) → text_of rest ≡ b ∷ ys → first_of (text_of (a ++ rest)) ≡ or_else (first_of (text_of a)) b
behind_first a rest b ys e = ap first_of (text_append a rest ∙ ap (λ (x : List ℕ). text_of a ++ x) e) ∙ first_front (text_of a) b ys

-- a dot behind an operand, after a space only where the operand's text isn't empty
dotted : (space : Bool) (a : Pieces) (w : List ℕ) → (space ≡ true → is_some (first_of (text_of a)) ≡ true)
    → first_of (text_of (a ++ (gap_if space ++ sign t.Dot ∷ name w ∷ []))) ≡ or_else (first_of (text_of a)) 46
unfolding text_of
dotted true a w there = behind_first a _ _ _ refl ∙ some_else (first_of (text_of a)) (there refl)
  where
    some_else : (x : Option ℕ) → is_some x ≡ true → or_else x 32 ≡ or_else x 46
    some_else None e = absurd cc
    some_else (Some b) e = refl
dotted false a w there = behind_first a _ _ _ refl

-- the text of an integer constant isn't empty
integer_there : (n : ℕ) (e : c.Expression) → is_integer e ≡ true → is_some (first_of (text_of (operand n g.postfix e))) ≡ true
unfolding operand text_of
integer_there n (c.Constant []) is = absurd cc
integer_there n (c.Constant (b ∷ w)) is = refl
integer_there n (c.Name w) is = absurd cc
integer_there n (c.Text bytes) is = absurd cc
integer_there n (c.Index whole place) is = absurd cc
integer_there n (c.Call callee arguments) is = absurd cc
integer_there n (c.Member e w) is = absurd cc
integer_there n (c.Arrow e w) is = absurd cc
integer_there n (c.PostInc e) is = absurd cc
integer_there n (c.PostDec e) is = absurd cc
integer_there n (c.PreInc e) is = absurd cc
integer_there n (c.PreDec e) is = absurd cc
integer_there n (c.Unary o e) is = absurd cc
integer_there n (c.SizeofExpr e) is = absurd cc
integer_there n (c.SizeofType s d) is = absurd cc
integer_there n (c.Cast s d e) is = absurd cc
integer_there n (c.Binary o left right) is = absurd cc
integer_there n (c.Logical o left right) is = absurd cc
integer_there n (c.Conditional test left right) is = absurd cc
integer_there n (c.Assign o target value) is = absurd cc
integer_there n (c.Comma parts) is = absurd cc
integer_there n (c.Marked marks e) is = absurd cc
integer_there n (c.Decide e yes_id no_id tag) is = absurd cc
integer_there n (c.After e id tag) is = absurd cc

pub first_is : (n : ℕ) (e : c.Expression) → first_of (text_of (operand n g.postfix e)) ≡ first_byte e
unfolding operand text_of
first_is n (c.Name w) = rw (append-nil w) refl
first_is n (c.Constant w) = rw (append-nil w) refl
first_is n (c.Text bytes) = refl
first_is n (c.Index whole place) = rw append_assoc (behind_first (operand n g.postfix whole) _ _ _ refl) ∙ ap (λ (x : Option ℕ). or_else x 91) (first_is n whole)
first_is n (c.Call callee arguments) = behind_first (operand n g.postfix callee) _ _ _ refl ∙ ap (λ (x : Option ℕ). or_else x 40) (first_is n callee)
first_is n (c.Member e w) = rw append_assoc (dotted (is_integer e) (operand n g.postfix e) w (integer_there n e)) ∙ ap (λ (x : Option ℕ). or_else x 46) (first_is n e)
first_is n (c.Arrow e w) = behind_first (operand n g.postfix e) _ _ _ refl ∙ ap (λ (x : Option ℕ). or_else x 45) (first_is n e)
first_is n (c.PostInc e) = behind_first (operand n g.postfix e) _ _ _ refl ∙ ap (λ (x : Option ℕ). or_else x 43) (first_is n e)
first_is n (c.PostDec e) = behind_first (operand n g.postfix e) _ _ _ refl ∙ ap (λ (x : Option ℕ). or_else x 45) (first_is n e)
first_is n (c.PreInc e) = refl
first_is n (c.PreDec e) = refl
first_is n (c.Unary o e) = refl
first_is n (c.SizeofExpr e) = refl
first_is n (c.SizeofType s d) = refl
first_is n (c.Cast s d e) = refl
first_is n (c.Binary o left right) = rw (binary_below o 16 (omega arith)) refl
first_is n (c.Logical o left right) = rw (logical_below o 16 (omega arith)) refl
first_is n (c.Conditional test left right) = refl
first_is n (c.Assign o target value) = refl
first_is n (c.Comma parts) = refl
first_is n (c.Marked marks e) = refl
first_is n (c.Decide e yes_id no_id tag) = refl
first_is n (c.After e id tag) = refl

signed_first : (bytes : List ℕ) → starts_signed bytes ≡ is_sign (first_of bytes)
signed_first [] = refl
signed_first (b ∷ bytes) = refl

by_first : (n : ℕ) (e : c.Expression) (asked : g.Level) → operand n asked e ≡ operand n g.postfix e → is_signed e ≡ is_sign (first_byte e) → starts_signed (text_of (operand n asked e)) ≡ is_signed e
by_first n e asked same is = ap (λ (x : Pieces). starts_signed (text_of x)) same ∙ signed_first (text_of (operand n g.postfix e)) ∙ ap is_sign (first_is n e) ∙ sym is

signed_operator : (o : UnaryOp) (bytes : List ℕ) → starts_signed (spelling (sign_of_unary o) ++ bytes) ≡ is_signed_operator o
signed_operator unary.AddressOf bytes = refl
signed_operator unary.Dereference bytes = refl
signed_operator unary.Plus bytes = refl
signed_operator unary.Minus bytes = refl
signed_operator unary.Complement bytes = refl
signed_operator unary.Not bytes = refl

pub signed_unary : (n : ℕ) (e : c.Expression) → starts_signed (text_of (operand n g.unary e)) ≡ is_signed e
unfolding operand text_of
signed_unary n (c.Name w) = by_first n (c.Name w) g.unary refl refl
signed_unary n (c.Constant w) = by_first n (c.Constant w) g.unary refl refl
signed_unary n (c.Text bytes) = refl
signed_unary n (c.Index whole place) = by_first n (c.Index whole place) g.unary refl refl
signed_unary n (c.Call callee arguments) = by_first n (c.Call callee arguments) g.unary refl refl
signed_unary n (c.Member e w) = by_first n (c.Member e w) g.unary refl refl
signed_unary n (c.Arrow e w) = by_first n (c.Arrow e w) g.unary refl refl
signed_unary n (c.PostInc e) = by_first n (c.PostInc e) g.unary refl refl
signed_unary n (c.PostDec e) = by_first n (c.PostDec e) g.unary refl refl
signed_unary n (c.PreInc e) = refl
signed_unary n (c.PreDec e) = refl
signed_unary n (c.Unary o e) = signed_operator o _
signed_unary n (c.SizeofExpr e) = refl
signed_unary n (c.SizeofType s d) = refl
signed_unary n (c.Cast s d e) = refl
signed_unary n (c.Binary o left right) = rw (binary_below o 15 (omega arith)) refl
signed_unary n (c.Logical o left right) = rw (logical_below o 15 (omega arith)) refl
signed_unary n (c.Conditional test left right) = refl
signed_unary n (c.Assign o target value) = refl
signed_unary n (c.Comma parts) = refl
signed_unary n (c.Marked marks e) = refl
signed_unary n (c.Decide e yes_id no_id tag) = refl
signed_unary n (c.After e id tag) = refl

pub signed_cast : (n : ℕ) (e : c.Expression) → starts_signed (text_of (operand n g.cast e)) ≡ is_signed e
unfolding operand text_of
signed_cast n (c.Name w) = by_first n (c.Name w) g.cast refl refl
signed_cast n (c.Constant w) = by_first n (c.Constant w) g.cast refl refl
signed_cast n (c.Text bytes) = refl
signed_cast n (c.Index whole place) = by_first n (c.Index whole place) g.cast refl refl
signed_cast n (c.Call callee arguments) = by_first n (c.Call callee arguments) g.cast refl refl
signed_cast n (c.Member e w) = by_first n (c.Member e w) g.cast refl refl
signed_cast n (c.Arrow e w) = by_first n (c.Arrow e w) g.cast refl refl
signed_cast n (c.PostInc e) = by_first n (c.PostInc e) g.cast refl refl
signed_cast n (c.PostDec e) = by_first n (c.PostDec e) g.cast refl refl
signed_cast n (c.PreInc e) = refl
signed_cast n (c.PreDec e) = refl
signed_cast n (c.Unary o e) = signed_operator o _
signed_cast n (c.SizeofExpr e) = refl
signed_cast n (c.SizeofType s d) = refl
signed_cast n (c.Cast s d e) = refl
signed_cast n (c.Binary o left right) = rw (binary_below o 14 (omega arith)) refl
signed_cast n (c.Logical o left right) = rw (logical_below o 14 (omega arith)) refl
signed_cast n (c.Conditional test left right) = refl
signed_cast n (c.Assign o target value) = refl
signed_cast n (c.Comma parts) = refl
signed_cast n (c.Marked marks e) = refl
signed_cast n (c.Decide e yes_id no_id tag) = refl
signed_cast n (c.After e id tag) = refl

-- a prefix operator and its operand behind what was written
pub prefix_text : (out first second now : List ℕ) (k : Terminal) (operand : Pieces) (signed : Bool) → starts_signed (text_of operand) ≡ signed
    → first ≡ out ++ text_of (sign k ∷ []) → second ≡ first ++ text_of (gap_if signed) → now ≡ second ++ text_of operand → now ≡ out ++ text_of (prefixed k operand)
prefix_text out first second now k operand signed is a b d =
    joined out second now (sign k ∷ gap_if signed) operand (joined out first second (sign k ∷ []) (gap_if signed) a b) d
    ∙ ap (λ (x : Pieces). out ++ text_of x) (parted signed ∙ ap (λ (s : Bool). sign k ∷ (if s then gap ∷ operand else operand)) (sym is))
  where
    parted : (s : Bool) → (sign k ∷ gap_if s) ++ operand ≡ sign k ∷ (if s then gap ∷ operand else operand)
    parted true = refl
    parted false = refl
