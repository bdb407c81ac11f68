-- Lists of parts, as the printer goes over them.
use Rattle.std.proofs.Common.{◌≡◌, ◌≤◌, ◌<◌, ◌+◌, true, false, length, get_or, drop, map, List, [], ◌∷◌, ◌++◌, ℕ, refl, ap, sym, ◌∙◌, append_assoc}
use Rattle.std.proofs.lemmas.List.{append-nil, drop_more, drop_all}
use Rattle.lt_tree.specs.declared.terminal.Terminal.TheVariants as t
use Rattle.lt_tree.specs.declared.expression.Expr.{Expr}
use Rattle.lt_tree.specs.declared.specifier.MemberDeclarator.{MemberDeclarator}
use Rattle.lt_tree.specs.declared.declarator.Parameter.{Parameter}
use Rattle.lt_tree.specs.Grammar.{Level}
use Rattle.lt_tree.specs.Pieces.{text_of}
use Rattle.lt_tree.specs.View.{expression_of}
use Rattle.lt_tree.specs.Records.{expressions_in, maybe_in, member_declarators_in, specifiers_of, declarator_of, parameter_list_in}
use Rattle.lt_tree.specs.Canon.{Pieces, comma_gap, apart, operand, list, specifiers, declarator, after_sign, member_declarators, parameter_list}
use Rattle.lt_print.specs.Lists.{separated}
use Rattle.lt_print.proofs.Texts.{text_append}

abbrev pub operand_at : ℕ → Level → Expr → Pieces
operand_at n asked e = operand n asked (expression_of e)

abbrev pub member_declarator_at : ℕ → MemberDeclarator → Pieces
member_declarator_at n d = declarator n (declarator_of d.declarator) ++ after_sign n t.Colon (maybe_in d.width)

abbrev pub parameter_at : ℕ → Parameter → Pieces
parameter_at n p = apart (specifiers n (specifiers_of p.specifiers)) (declarator n (declarator_of p.declarator))

-- the first of several, and the rest
pub two_parts : (a b : Pieces) (rest : List Pieces) → (a ++ comma_gap) ++ separated comma_gap true (b ∷ rest) ≡ separated comma_gap true (a ∷ b ∷ rest)
two_parts a b rest = append_assoc a comma_gap (b ++ separated comma_gap false rest)

pub list_is : (n : ℕ) (asked : Level) (es : List Expr) → list n asked (expressions_in es) ≡ separated comma_gap true (map (operand_at n asked) es)
unfolding operand
list_is n asked [] = refl
list_is n asked (e ∷ []) = sym (append-nil (operand_at n asked e))
list_is n asked (e ∷ f ∷ es) =
    ap (λ (x : Pieces). (operand_at n asked e ++ comma_gap) ++ x) (list_is n asked (f ∷ es)) ∙ two_parts (operand_at n asked e) (operand_at n asked f) (map (operand_at n asked) es)

pub member_declarators_are : (n : ℕ) (ds : List MemberDeclarator) → member_declarators n (member_declarators_in ds) ≡ separated comma_gap true (map (member_declarator_at n) ds)
unfolding operand
member_declarators_are n [] = refl
member_declarators_are n (d ∷ []) = sym (append-nil (member_declarator_at n d))
member_declarators_are n (d ∷ e ∷ ds) =
    ap (λ (x : Pieces). (member_declarator_at n d ++ comma_gap) ++ x) (member_declarators_are n (e ∷ ds)) ∙ two_parts (member_declarator_at n d) (member_declarator_at n e) (map (member_declarator_at n) ds)

pub parameters_are : (n : ℕ) (ps : List Parameter) → parameter_list n (parameter_list_in ps) ≡ separated comma_gap true (map (parameter_at n) ps)
unfolding operand
parameters_are n [] = refl
parameters_are n (p ∷ []) = sym (append-nil (parameter_at n p))
parameters_are n (p ∷ q ∷ ps) =
    ap (λ (x : Pieces). (parameter_at n p ++ comma_gap) ++ x) (parameters_are n (q ∷ ps)) ∙ two_parts (parameter_at n p) (parameter_at n q) (map (parameter_at n) ps)

-- one more element of a list, behind which the text goes on
pub next : {X : Type 0} (g h : List X → Pieces) (head : Pieces) (xs : List X) (i : ℕ) (x : X) (out now whole : List ℕ)
    → i < length xs → x ≡ get_or xs i x → now ≡ out ++ text_of head → g (x ∷ drop (i + 1) xs) ≡ head ++ h (drop (i + 1) xs)
    → out ++ text_of (g (drop i xs)) ≡ whole → now ++ text_of (h (drop (i + 1) xs)) ≡ whole
next {X} g h head xs i x out now whole lt is a step e =
    let here : drop i xs ≡ x ∷ drop (i + 1) xs = drop_more xs i x lt ∙ ap (λ (y : X). y ∷ drop (i + 1) xs) (sym is) in
    ap (λ (y : List ℕ). y ++ text_of (h (drop (i + 1) xs))) a ∙ append_assoc out (text_of head) (text_of (h (drop (i + 1) xs)))
    ∙ ap (λ (y : List ℕ). out ++ y) (sym (text_append head (h (drop (i + 1) xs))))
    ∙ ap (λ (y : Pieces). out ++ text_of y) (sym step) ∙ ap (λ (l : List X). out ++ text_of (g l)) (sym here) ∙ e

-- no element is left
pub ended : {X : Type 0} (g : List X → Pieces) (xs : List X) (i : ℕ) (out whole : List ℕ) → length xs ≤ i → g [] ≡ [] → out ++ text_of (g (drop i xs)) ≡ whole → out ≡ whole
unfolding text_of
ended {X} g xs i out whole le none e = sym (append-nil out) ∙ ap (λ (y : Pieces). out ++ text_of y) (sym none) ∙ ap (λ (l : List X). out ++ text_of (g l)) (sym (drop_all i xs le)) ∙ e
