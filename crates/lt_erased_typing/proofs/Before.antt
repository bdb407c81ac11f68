-- A pure expression that is typed behind more objects is typed alike where they aren't found yet.
use Rattle.std.proofs.Common.{◌≡◌, ℕ, true, List, ◌∙◌, sym, refl, subst, arith}
use Rattle.std.proofs.lemmas.List.{length-append}
use Rattle.std.specs.Prelude.{◌++◌, Option}
use Rattle.lt_tree.specs.Tree as c
use Rattle.lt_tree.specs.Purity.{is_pure}
use Rattle.lt_tree.specs.Typing.Entities.{Known, Object, Fact, Entity}
use Rattle.lt_tree.specs.Typing.Steps.{Outcome, Goes, Breaks}
use Rattle.lt_tree.specs.Typing.Expressions.{Typed, as_value, own_type}
use Rattle.lt_tree.specs.Typing.ExpressionTyping.{expression}
use Rattle.lt_erased_typing.specs.Literals.{NamesObjects}
use Rattle.lt_erased_typing.proofs.Texts.{type_before}
use Rattle.lt_erased_typing.proofs.Scopes.{StandAlike, nothing, objects, functions, typedefs, enumerators, scopes_itself}
use Rattle.lt_erased_typing.proofs.Operands.{value_type_same}
use Rattle.lt_erased_typing.proofs.Together.{IsLike, Together, together, structs_like, PureAs}
use Rattle.lt_erased_typing.proofs.PureWalks.{pure_expression}

stand_before : {xs ys : List Object} {found other : Option Entity} (more : List Object) → StandAlike true xs ys found other → StandAlike true (xs ++ more) ys found other
stand_before more nothing = nothing
stand_before {xs = xs} more (objects {n} is_register h g e) =
    objects is_register (λ is. let l = h is in omega (arith, l, length-append xs more)) g (e ∙ sym (type_before xs more n (h refl)))
stand_before more functions = functions
stand_before more (typedefs type) = typedefs type
stand_before more (enumerators value) = enumerators value

-- what is known behind more objects, where each object that has a name in scope is known without them
behind_more : (known : Known) (n : ℕ) (more : List Object) (facts : List Fact) → NamesObjects known → IsLike (record known { next = n; objects = known.objects ++ more; facts = facts }) known
behind_more known n more facts named = record {
  same = refl;
  alike = let it = scopes_itself {texts = true} known (λ is. named) in record { names = λ name. stand_before more (it.names name); here = it.here; tags = it.tags; depth = it.depth };
}

found_before : {xs ys : List Object} {x : Typed} {last : Known} (o : Outcome Typed) → Together xs ys (PureAs as_value) (Goes x last) o
    → (y : Typed) × (behind : Known) × (o ≡ Goes y behind) × (own_type y ≡ own_type x) × (behind.structs ≡ last.structs)
found_before (Goes y behind) (together r s m n) = (y, behind, refl, value_type_same r.0, structs_like s)
found_before (Breaks rule node) d = elim d [ ]

pub typed_before : (known last : Known) (n : ℕ) (more : List Object) (facts : List Fact) (e : c.Expression) (x : Typed) → NamesObjects known → is_pure e ≡ true
    → expression e as_value (record known { next = n; objects = known.objects ++ more; facts = facts }) ≡ Goes x last
    → (y : Typed) × (behind : Known) × (expression e as_value known ≡ Goes y behind) × (own_type y ≡ own_type x) × (behind.structs ≡ last.structs)
typed_before known last n more facts e x named p q =
    let k : Known = record known { next = n; objects = known.objects ++ more; facts = facts } in
    found_before (expression e as_value known)
    (subst (λ o. Together k.objects known.objects (PureAs as_value) o (expression e as_value known)) q (pure_expression {k = k} {j = known} e as_value refl p (behind_more known n more facts named)))
