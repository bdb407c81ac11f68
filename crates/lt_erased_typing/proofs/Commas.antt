-- Comma expressions without their marks, which are joined.
use Rattle.std.proofs.Common.{◌≡◌, List, [], ◌∷◌, refl, ap, ◌∙◌}
use Rattle.std.specs.Prelude.{◌++◌}
use Rattle.lt_tree.specs.Tree as c
use Rattle.lt_tree.specs.Comma.{comma_of, followed_by}
use Rattle.lt_tree.specs.Typing.Types.{CType}
use Rattle.lt_tree.specs.Typing.Entities.{Known}
use Rattle.lt_tree.specs.Typing.Steps.{Outcome, Goes, Breaks, goes_on}
use Rattle.lt_tree.specs.Typing.Expressions.{Typed, as_value, own_type}
use Rattle.lt_tree.specs.Typing.BinaryOperations.{last_of}
use Rattle.lt_tree.specs.Typing.ExpressionTyping.{expression, expressions}
use Rattle.lt_erased_typing.proofs.Operands.{BareValue, value_type_same}
use Rattle.lt_erased_typing.proofs.BinaryOperators.{BareEach, last_same}

-- with others behind it, an expression is joined if it has commas
pub data IsJoined (d : c.Expression) (others : c.Expressions) (joined : c.Expression) : Type 0 where
  two_lists : (parts : c.Expressions) → d ≡ c.Comma parts → joined ≡ c.Comma (followed_by parts others) → IsJoined d others joined
  one_list : joined ≡ c.Comma (c.an_expression d others) → IsJoined d others joined

pub joined : (d second : c.Expression) (rest : c.Expressions) → IsJoined d (c.an_expression second rest) (comma_of d (c.an_expression second rest))
joined (c.Comma parts) second rest = two_lists parts refl refl
joined _ second rest = one_list refl

gives_again : (o : Outcome (List Typed)) → o ≡ goes_on o (λ ys l. Goes ([] ++ ys) l)
gives_again (Goes ys l) = refl
gives_again (Breaks rule node) = refl

-- the first of parts, with what follows it
first_of_parts : (o : Outcome Typed) (f : Known → Outcome (List Typed)) (g : Known → Outcome (List Typed)) (h : Known → Outcome (List Typed)) → ((k : Known) → f k ≡ goes_on (g k) (λ xs j. goes_on (h j) (λ ys l. Goes (xs ++ ys) l)))
    → goes_on o (λ x k. goes_on (f k) (λ xs l. Goes (x ∷ xs) l)) ≡ goes_on (goes_on o (λ x k. goes_on (g k) (λ xs l. Goes (x ∷ xs) l))) (λ xs j. goes_on (h j) (λ ys l. Goes (xs ++ ys) l))
first_of_parts (Breaks rule node) f g h e = refl
first_of_parts (Goes x k) f g h e = ap (λ o. goes_on o (λ xs l. Goes (x ∷ xs) l)) (e k) ∙ by (g k)
  where
    rest : (xs : List Typed) (o : Outcome (List Typed)) → goes_on (goes_on o (λ ys l. Goes (xs ++ ys) l)) (λ xs l. Goes (x ∷ xs) l) ≡ goes_on o (λ ys l. Goes (x ∷ xs ++ ys) l)
    rest xs (Goes ys l) = refl
    rest xs (Breaks rule node) = refl

    by : (o : Outcome (List Typed)) → goes_on (goes_on o (λ xs j. goes_on (h j) (λ ys l. Goes (xs ++ ys) l))) (λ xs l. Goes (x ∷ xs) l)
        ≡ goes_on (goes_on o (λ xs l. Goes (x ∷ xs) l)) (λ xs j. goes_on (h j) (λ ys l. Goes (xs ++ ys) l))
    by (Goes xs j) = rest xs (h j)
    by (Breaks rule node) = refl

-- one list of parts and then another
pub both_lists : (parts others : c.Expressions) (k : Known) → expressions (followed_by parts others) k ≡ goes_on (expressions parts k) (λ xs j. goes_on (expressions others j) (λ ys l. Goes (xs ++ ys) l))
both_lists c.no_expressions others k = gives_again (expressions others k)
both_lists (c.an_expression first rest) others k = first_of_parts (expression first as_value k) (expressions (followed_by rest others)) (expressions rest) (expressions others) (both_lists rest others)

-- lists whose last ones are of one type, whatever stands in front of them
pub record EndAlike (xs ys : List Typed) : Type 0 where
  pub ends : (t u : CType) → last_of u ys ≡ last_of t xs

pub end_alike : {x y : Typed} {xs ys : List Typed} → BareValue x y → BareEach xs ys → EndAlike (x ∷ xs) (y ∷ ys)
end_alike {x} {y} {xs} {ys} p ps = record { ends = λ t u. ap (λ w. last_of w ys) (value_type_same p) ∙ last_same (own_type x) ps }

pub alike_behind : {xs ys : List Typed} (x : Typed) (zs : List Typed) (t u : CType) → EndAlike xs ys → last_of u (zs ++ ys) ≡ last_of t (x ∷ xs)
alike_behind x [] t u h = h.ends (own_type x) u
alike_behind x (z ∷ zs) t u h = alike_behind x zs t (own_type z) h
