-- Marks behind what was written.
use Rattle.std.proofs.Common.{◌≡◌, suc, false, eqb, length, List, [], ◌∷◌, ◌++◌, ℕ, if◌then◌else◌, ap, sym, ◌∙◌, append_assoc, arith}
use Rattle.std.proofs.lemmas.Bool.{ne_eqb}
use Rattle.lt_tree.specs.declared.terminal.Terminal.{Terminal}
use Rattle.lt_tree.specs.declared.terminal.Terminal.TheVariants as k
use Rattle.lt_tree.specs.declared.mark.Binding.{Binding}
use Rattle.lt_tree.specs.Tree as t
use Rattle.lt_tree.specs.Grammar.{assignment}
use Rattle.lt_tree.specs.Pieces.{text_of}
use Rattle.lt_tree.specs.View.{expression_of}
use Rattle.lt_tree.specs.Records.{bindings_in}
use Rattle.lt_tree.specs.Canon.{Pieces, sign, name, in_parentheses, constant, literal, comma_gap, operand, mark, bindings}
use Rattle.lt_print.proofs.Words.{joined}

bound_shape : (o v bs : Pieces) (id tag w : List ℕ)
    → sign k.LabelBind ∷ in_parentheses (o ++ comma_gap ++ constant id ∷ comma_gap ++ literal tag ∷ comma_gap ++ name w ∷ comma_gap ++ v ++ bs)
    ≡ (sign k.LabelBind ∷ []) ++ ((sign k.OpenParen ∷ []) ++ (o ++ ((comma_gap ++ constant id ∷ []) ++ ((comma_gap ++ literal tag ∷ []) ++ ((comma_gap ++ name w ∷ comma_gap ++ v ++ bs) ++ sign k.CloseParen ∷ [])))))
bound_shape o v bs id tag w = simp append_assoc

-- a label has the same form whether it binds names or not
mark_is : (n : ℕ) (e : t.Expression) (id tag : List ℕ) (bound : List Binding)
    → mark n (t.mark e id tag (bindings_in bound))
    ≡ (sign (if eqb (length bound) 0 then k.Label else k.LabelBind) ∷ []) ++ ((sign k.OpenParen ∷ []) ++ (operand n assignment e ++ ((comma_gap ++ constant id ∷ []) ++ ((comma_gap ++ literal tag ∷ []) ++ (bindings n (bindings_in bound) ++ sign k.CloseParen ∷ [])))))
unfolding operand
mark_is n e id tag [] = simp append_assoc
mark_is n e id tag (b ∷ bound) = let no : eqb (suc (length bound)) 0 ≡ false = ne_eqb (suc (length bound)) 0 (λ k. omega arith) in rw no (bound_shape (operand n assignment e) (operand n assignment (expression_of b.value)) (bindings n (bindings_in bound)) id tag b.name)

pub mark_text : (n : ℕ) (e : t.Expression) (id tag : List ℕ) (bound : List Binding) (word : Terminal) (out a b d f g h now : List ℕ)
    → word ≡ (if eqb (length bound) 0 then k.Label else k.LabelBind)
    → a ≡ out ++ text_of (sign word ∷ []) → b ≡ a ++ text_of (sign k.OpenParen ∷ []) → d ≡ b ++ text_of (operand n assignment e)
    → f ≡ d ++ text_of (comma_gap ++ constant id ∷ []) → g ≡ f ++ text_of (comma_gap ++ literal tag ∷ []) → h ≡ g ++ text_of (bindings n (bindings_in bound)) → now ≡ h ++ text_of (sign k.CloseParen ∷ [])
    → now ≡ out ++ text_of (mark n (t.mark e id tag (bindings_in bound)))
mark_text n e id tag bound word out a b d f g h now is p q r s u v w =
    joined _ _ _ _ _ p (joined _ _ _ _ _ q (joined _ _ _ _ _ r (joined _ _ _ _ _ s (joined _ _ _ _ _ u (joined _ _ _ _ _ v w)))))
    ∙ ap (λ (x : Terminal). out ++ text_of ((sign x ∷ []) ++ ((sign k.OpenParen ∷ []) ++ (operand n assignment e ++ ((comma_gap ++ constant id ∷ []) ++ ((comma_gap ++ literal tag ∷ []) ++ (bindings n (bindings_in bound) ++ sign k.CloseParen ∷ []))))))) is
    ∙ ap (λ (x : Pieces). out ++ text_of x) (sym (mark_is n e id tag bound))
