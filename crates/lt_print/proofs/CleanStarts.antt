-- What a prefix may stand before begins with neither `=` nor `>`.
use Rattle.std.proofs.Common.{◌≡◌, ◌≤◌, ◌<◌, ℕ, Bool, true, false, eqb, ltb, List, [], ◌∷◌, ◌++◌, refl, sym, ap, subst, ◌∙◌, arith}
use Rattle.std.specs.Prelude.{if◌then◌else◌}
use Rattle.std.proofs.lemmas.Bool.{eqb-true, ltb-false, false_from_ne_true}
use Rattle.lt_token.specs.declared.piece.Class.{Class}
use Rattle.lt_token.specs.declared.piece.Class.TheVariants as class
use Rattle.lt_token.specs.declared.piece.Form.TheVariants as form
use Rattle.lt_token.specs.Bytes.{class_of}
use Rattle.lt_token.specs.Pieces.{is_piece_at}
use Rattle.lt_tree.specs.declared.expression.UnaryOp.{UnaryOp}
use Rattle.lt_tree.specs.declared.expression.UnaryOp.TheVariants as unary
use Rattle.lt_tree.specs.declared.terminal.Terminal.TheVariants as k
use Rattle.lt_tree.specs.Tree as c
use Rattle.lt_tree.specs.Grammar as g
use Rattle.lt_tree.specs.Grammar.{Level}
use Rattle.lt_tree.specs.Pieces.{gap, text_of}
use Rattle.lt_tree.specs.Canon.{Pieces, sign, in_parentheses, placed, prefixed, gap_if, rank, apart, operand, list, specifiers, declarator, is_integer, sign_of_unary, tightness, tightness_of_logical}
use Rattle.lt_print.proofs.SignsAgain.{tight, tight_logical}
use Rattle.lt_print.proofs.Cutting.{is_mark, clash}
use Rattle.lt_print.proofs.CuttingConstants.{digit_class, integer_digit}
use Rattle.lt_print.proofs.Clean.{IsIdentifier, IsConstant, integer, character}
use Rattle.lt_print.proofs.Spelt.{Spelt}
use Rattle.lt_print.proofs.Texts.{text_append}
use Rattle.lt_print.proofs.CleanOperands.{Starts}

pub append_starts : (s t : List ℕ) → Starts s → Starts (s ++ t)
append_starts [] t h = absurd h
append_starts (b ∷ s) t h = h

starts_append : (a b : Pieces) → Starts (text_of a) → Starts (text_of (a ++ b))
starts_append a b h = subst Starts (sym (text_append a b)) (append_starts (text_of a) (text_of b) h)

starts_placed : (asked own : Level) (a : Pieces) → Starts (text_of a) → Starts (text_of (placed asked own a))
unfolding text_of
starts_placed asked own a h = step (ltb (rank own) (rank asked))
  where
    step : (b : Bool) → Starts (text_of (if b then in_parentheses a else a))
    step true = (refl, refl)
    step false = h

starts_enclosed : (asked own : Level) (a : Pieces) → rank own < rank asked → Starts (text_of (placed asked own a))
unfolding text_of
starts_enclosed asked own a less = step (ltb (rank own) (rank asked)) refl
  where
    step : (b : Bool) → ltb (rank own) (rank asked) ≡ b → Starts (text_of (if b then in_parentheses a else a))
    step true e = (refl, refl)
    step false e = absurd (let le = ltb-false (rank own) (rank asked) e in omega (arith, less, le))

-- bytes of classes that no punctuator begins with
unmarked : (x b : ℕ) → is_mark (class_of x) ≡ true → is_mark (class_of b) ≡ false → eqb x b ≡ false
unmarked x b e h = false_from_ne_true (eqb x b) (λ is. clash (is_mark (class_of b)) (ap (λ (y : ℕ). is_mark (class_of y)) (sym (eqb-true x b is)) ∙ e) h)

starts_unmarked : (b : ℕ) (bs : List ℕ) → is_mark (class_of b) ≡ false → Starts (b ∷ bs)
starts_unmarked b bs h = (unmarked 61 b refl h, unmarked 62 b refl h)

word_starts : (k : Class) (b : ℕ) (bs : List ℕ) → is_piece_at false form.Word k b bs ≡ true → is_mark k ≡ false
word_starts class.Letter b bs h = refl
word_starts k b bs h = absurd cc

character_starts : (k : Class) (b : ℕ) (bs : List ℕ) → is_piece_at false form.Character k b bs ≡ true → is_mark k ≡ false
character_starts class.Apostrophe b bs h = refl
character_starts k b bs h = absurd cc

pub name_starts : (w : List ℕ) → IsIdentifier w → Starts w
name_starts [] good = absurd (clash false (good.is_word false) refl)
name_starts (b ∷ bs) good = starts_unmarked b bs (word_starts (class_of b) b bs (good.is_word false))

constant_starts : (w : List ℕ) → IsConstant w → Starts w
constant_starts [] (integer is i all) = absurd (clash false (is false) refl)
constant_starts (b ∷ bs) (integer is i all) = starts_unmarked b bs (ap is_mark (digit_class b (integer_digit false b bs (is false) i)))
constant_starts [] (character is all) = absurd (clash false (is false) refl)
constant_starts (b ∷ bs) (character is all) = starts_unmarked b bs (character_starts (class_of b) b bs (is false))

prefix_starts : (o : UnaryOp) (a : Pieces) → Starts (text_of (prefixed (sign_of_unary o) a))
unfolding text_of
prefix_starts unary.AddressOf a = (refl, refl)
prefix_starts unary.Dereference a = (refl, refl)
prefix_starts unary.Plus a = (refl, refl)
prefix_starts unary.Minus a = (refl, refl)
prefix_starts unary.Complement a = (refl, refl)
prefix_starts unary.Not a = (refl, refl)

pub operand_starts : (e : c.Expression) → Spelt e → (n : ℕ) (asked : Level) → 14 ≤ rank asked → Starts (text_of (operand n asked e))
unfolding operand text_of
operand_starts (c.Name w) s n asked le = append_starts w [] (name_starts w s)
operand_starts (c.Constant w) s n asked le = append_starts w [] (constant_starts w s)
operand_starts (c.Text bytes) s n asked le = (refl, refl)
operand_starts (c.Index whole place) s n asked le =
    starts_placed asked g.postfix _ (starts_append (operand n g.postfix whole ++ sign k.OpenIndex ∷ operand n g.comma place) (sign k.CloseIndex ∷ [])
    (starts_append (operand n g.postfix whole) (sign k.OpenIndex ∷ operand n g.comma place) (operand_starts whole s.0 n g.postfix (omega arith))))
operand_starts (c.Call callee arguments) s n asked le =
    starts_placed asked g.postfix _ (starts_append (operand n g.postfix callee) (in_parentheses (list n g.assignment arguments)) (operand_starts callee s.0 n g.postfix (omega arith)))
operand_starts (c.Member e w) s n asked le =
    starts_placed asked g.postfix _ (starts_append (operand n g.postfix e ++ gap_if (is_integer e)) _ (starts_append (operand n g.postfix e) (gap_if (is_integer e)) (operand_starts e s.0 n g.postfix (omega arith))))
operand_starts (c.Arrow e w) s n asked le = starts_placed asked g.postfix _ (starts_append (operand n g.postfix e) _ (operand_starts e s.0 n g.postfix (omega arith)))
operand_starts (c.PostInc e) s n asked le = starts_placed asked g.postfix _ (starts_append (operand n g.postfix e) _ (operand_starts e s n g.postfix (omega arith)))
operand_starts (c.PostDec e) s n asked le = starts_placed asked g.postfix _ (starts_append (operand n g.postfix e) _ (operand_starts e s n g.postfix (omega arith)))
operand_starts (c.PreInc e) s n asked le = starts_placed asked g.unary (prefixed k.Increment (operand n g.unary e)) (refl, refl)
operand_starts (c.PreDec e) s n asked le = starts_placed asked g.unary (prefixed k.Decrement (operand n g.unary e)) (refl, refl)
operand_starts (c.Unary o e) s n asked le = starts_placed asked g.unary (prefixed (sign_of_unary o) (operand n g.cast e)) (prefix_starts o (operand n g.cast e))
operand_starts (c.SizeofExpr e) s n asked le = starts_placed asked g.unary (sign k.Sizeof ∷ gap ∷ operand n g.unary e) (refl, refl)
operand_starts (c.SizeofType ss d) s n asked le = starts_placed asked g.unary (sign k.Sizeof ∷ in_parentheses (apart (specifiers n ss) (declarator n d))) (refl, refl)
operand_starts (c.Cast ss d e) s n asked le = starts_placed asked g.cast (in_parentheses (apart (specifiers n ss) (declarator n d)) ++ operand n g.cast e) (refl, refl)
operand_starts (c.Binary o left right) s n asked le = starts_enclosed asked (g.binary (tightness o)) _ (omega (arith, le, tight o))
operand_starts (c.Logical o left right) s n asked le = starts_enclosed asked (g.binary (tightness_of_logical o)) _ (omega (arith, le, tight_logical o))
operand_starts (c.Conditional test left right) s n asked le = starts_enclosed asked g.conditional _ (omega (arith, le))
operand_starts (c.Assign o target value) s n asked le = starts_enclosed asked g.assignment _ (omega (arith, le))
operand_starts (c.Comma parts) s n asked le = starts_enclosed asked g.comma _ (omega (arith, le))
operand_starts (c.Marked marks e) s n asked le = starts_enclosed asked g.marked _ (omega (arith, le))
operand_starts (c.Decide e yes_id no_id tag) s n asked le = (refl, refl)
operand_starts (c.After e id tag) s n asked le = (refl, refl)
