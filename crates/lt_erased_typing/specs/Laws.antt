-- That pure expressions are typed without their marks as they are with them.
use Rattle.std.specs.Prelude.{◌≡◌, ℕ, true, List}
use Rattle.lt_model.specs.declared.operator.Op.{Op}
use Rattle.lt_tree.specs.Tree as c
use Rattle.lt_tree.specs.Erasure.{erased}
use Rattle.lt_tree.specs.Typing.Entities.{Known, Object, Label, Fact}
use Rattle.lt_tree.specs.Typing.Steps.{Goes}
use Rattle.lt_tree.specs.Typing.Expressions.{Typed, as_value, as_truth, own_type}
use Rattle.lt_tree.specs.Typing.ExpressionTyping.{expression}
use Rattle.lt_objectives.specs.Copies.{is_core, is_pure_without_marks}
use Rattle.lt_erased_typing.specs.Literals.{HasMoreTexts, NamesObjects}
use Rattle.lt_erased_typing.specs.Plain.{IsPlainWith}
use Rattle.lt_erased_typing.specs.Simple.{IsSimpleWith}
use Rattle.lt_erased_typing.specs.Erasable.{CanBeErasedWith, at, with_found, entered}

-- Where the typing of an expression goes on, marks of which can be taken off, so does the typing of the expression without its marks: with the same type,
-- and it finds nothing but facts, and objects of string literals and parameters of type names. So it does where other labels and facts are known, and nodes
-- have other numbers. Each object that has a name in scope is to be known.
abbrev pub LiteralsAreTypedWithoutMarks : Type 0
LiteralsAreTypedWithoutMarks =
    (known next : Known) (e : c.Expression) (x : Typed) → NamesObjects known → CanBeErasedWith true as_value known e → expression e as_value known ≡ Goes x next
    → (n : ℕ) (labels : List Label) (facts : List Fact)
    → (y : Typed) × (m : ℕ) × (objects : List Object) × (others : List Fact) × HasMoreTexts true known.objects objects
    × (expression (erased e) as_value (at known n labels facts) ≡ Goes y (with_found known m objects labels others)) × (own_type y ≡ own_type x)

-- The operands of an operator have their types without marks too.
abbrev pub OperandsWithLiteralsKeepTheirTypes : Type 0
OperandsWithLiteralsKeepTheirTypes =
    (known next last : Known) (op : Op) (left right : c.Expression) (x y : Typed)
    → NamesObjects known → CanBeErasedWith true as_value known (c.Binary op left right)
    → expression left as_value (entered known) ≡ Goes x next → expression right as_value next ≡ Goes y last
    → (z w : Typed) (k j : Known) → expression (erased left) as_value (entered known) ≡ Goes z k → expression (erased right) as_value k ≡ Goes w j
    → (own_type z ≡ own_type x) × (own_type w ≡ own_type y)

-- Where its truth is used, an expression that isn't behind marks is typed as where its value is.
abbrev pub TruthsAreTypedAsValues : Type 0
TruthsAreTypedAsValues = (known : Known) (e : c.Expression) → is_core e ≡ true → expression e as_truth known ≡ expression e as_value known

-- Marks can be taken off expressions that are plain.
abbrev pub PlainExpressionsCanBeErased : Type 0
PlainExpressionsCanBeErased =
    (known : Known) (e : c.Expression) → NamesObjects known → IsPlainWith true known.frames e → CanBeErasedWith true as_value known e

-- Marks can be taken off what predicates copy: where such an expression is typed, its marks hide nothing from an operator.
abbrev pub CopiesWithLiteralsCanBeErased : Type 0
CopiesWithLiteralsCanBeErased =
    (known next : Known) (e : c.Expression) (x : Typed) → NamesObjects known → is_pure_without_marks e ≡ true → IsSimpleWith true known.frames e
    → expression e as_value known ≡ Goes x next → CanBeErasedWith true as_value known e
