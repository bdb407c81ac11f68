-- A text has at most one answer.
use Rattle.std.proofs.Common.{◌≡◌, ℕ, List, get_or, map, Some, None, sym, ap, subst, ◌∙◌, arith, inl, inr}
use Rattle.std.proofs.lemmas.Bool.{cases_lt}
use Rattle.lt_token.specs.Tokens.{Token, Refusal}
use Rattle.lt_token.specs.Nest.{IsShallow, IsFirstDeep}
use Rattle.lt_token.specs.Answer.{Answer, lexed, refused, too_nested, IsAnswer}
use Rattle.lt_token.proofs.Unique.{at_most_one}

shallow_deep : (ts us : List Token) (at : ℕ) → ts ≡ us → IsShallow ts → IsFirstDeep us at → ⊥
shallow_deep ts us at e s d = let h = subst IsShallow e s d.0 d.1 in omega (arith, d.3, h)

first_deep : (ts us : List Token) (at at' : ℕ) → ts ≡ us → IsFirstDeep ts at → IsFirstDeep us at' → at ≡ at'
first_deep ts us at at' e d f = same (subst (λ (x : List Token). IsFirstDeep x at) e d)
  where
    same : IsFirstDeep us at → at ≡ at'
    same d =
        elim (cases_lt d.0 f.0) [
          | inl lt ↦ absurd (omega (arith, f.4 d.0 lt, d.3))
          | inr le ↦ elim (cases_lt f.0 d.0) [
            | inl lt ↦ absurd (omega (arith, d.4 f.0 lt, f.3))
            | inr le' ↦
                let k : d.0 ≡ f.0 = omega arith in
                sym d.2 ∙ ap (λ (n : ℕ). get_or (map (λ (t : Token). t.at) us) n 0) k ∙ f.2
          ]
        ]

none_some : (r : Refusal) → None ≡ Some r → ⊥
none_some r e = cc

same_refusal : (r s : Refusal) → Some r ≡ Some s → r ≡ s
same_refusal r s e = cc

pub one_answer : (text : List ℕ) (a b : Answer) → IsAnswer text a → IsAnswer text b → a ≡ b
one_answer text (lexed ts) (lexed us) p q = ap lexed (at_most_one text ts us None None p.0 q.0).0
one_answer text (lexed ts) (refused r) p q = absurd (none_some r (at_most_one text ts q.0 None (Some r) p.0 q.1).1)
one_answer text (lexed ts) (too_nested at) p q = absurd (shallow_deep ts q.0 at (at_most_one text ts q.0 None None p.0 q.1).0 p.1 q.2)
one_answer text (refused r) (lexed us) p q = absurd (none_some r (sym (at_most_one text p.0 us (Some r) None p.1 q.0).1))
one_answer text (refused r) (refused s) p q = ap refused (same_refusal r s (at_most_one text p.0 q.0 (Some r) (Some s) p.1 q.1).1)
one_answer text (refused r) (too_nested at) p q = absurd (none_some r (sym (at_most_one text p.0 q.0 (Some r) None p.1 q.1).1))
one_answer text (too_nested at) (lexed us) p q = absurd (shallow_deep us p.0 at (at_most_one text us p.0 None None q.0 p.1).0 q.1 p.2)
one_answer text (too_nested at) (refused r) p q = absurd (none_some r (at_most_one text p.0 q.0 None (Some r) p.1 q.1).1)
one_answer text (too_nested at) (too_nested at') p q = ap too_nested (first_deep p.0 q.0 at at' (at_most_one text p.0 q.0 None None p.1 q.1).0 p.2 q.2)
