-- Whether an expression is pure, where it holds a list or the name of a type.
use Rattle.std.proofs.Common.{◌≡◌, ◌⊎◌, inl, inr, refl, sym, ap, ◌∙◌, Bool, true, false, ◌&&◌}
use Rattle.std.specs.Global.{Box, Vec}
use Rattle.lt_tree.specs.declared.expression.Expr.{Expr}
use Rattle.lt_tree.specs.declared.expression.Expr.TheVariants as variant
use Rattle.lt_tree.specs.declared.specifier.TypeName.{TypeName}
use Rattle.lt_tree.specs.declared.declarator.Parameter.{Parameter}
use Rattle.lt_tree.specs.declared.declarator.Parameters.{Parameters}
use Rattle.lt_tree.specs.declared.declarator.Parameters.TheVariants as listing
use Rattle.lt_tree.specs.View.{expression_of, parameters_of}
use Rattle.lt_tree.specs.Records.{expressions_in, specifiers_of, declarator_of, parameter_list_in}
use Rattle.lt_tree.specs.Purity.{is_pure, are_pure, are_pure_parameters, is_pure_parameter_list, is_pure_specifiers, is_pure_declarator}
use Rattle.lt_tree.proofs.Rows.{sizeof_is, cast_is, comma_is, listed_is, open_is}

pub pure_parameters : (p : Parameters) (v : Vec Parameter) → (p ≡ listing.Listed v) ⊎ (p ≡ listing.Open v) →
    are_pure_parameters (parameters_of p) ≡ is_pure_parameter_list (parameter_list_in v.items)
pure_parameters p v (inl e) = ap (λ x. are_pure_parameters (parameters_of x)) e ∙ ap are_pure_parameters (listed_is v)
pure_parameters p v (inr e) = ap (λ x. are_pure_parameters (parameters_of x)) e ∙ ap are_pure_parameters (open_is v)

pub pure_sizeof : (e : Expr) (b : Box TypeName) → e ≡ variant.SizeofType b →
    is_pure (expression_of e) ≡ is_pure_specifiers (specifiers_of b.value.specifiers) && is_pure_declarator (declarator_of b.value.declarator)
pure_sizeof e b is = ap (λ x. is_pure (expression_of x)) is ∙ ap is_pure (sizeof_is b b.value refl)

pure_cast : (e : Expr) (b : Box TypeName) (d : Box Expr) → e ≡ variant.Cast b d →
    is_pure (expression_of e) ≡ (is_pure_specifiers (specifiers_of b.value.specifiers) && is_pure_declarator (declarator_of b.value.declarator)) && is_pure (expression_of d.value)
pure_cast e b d is = ap (λ x. is_pure (expression_of x)) is ∙ ap is_pure (cast_is b b.value d d.value refl refl)

-- a cast to a type whose name is pure, and to another
pub cast_goes : (e : Expr) (b : Box TypeName) (d : Box Expr) → e ≡ variant.Cast b d → (name : TypeName) (answer : Bool) → name ≡ b.value →
    answer ≡ is_pure_specifiers (specifiers_of name.specifiers) && is_pure_declarator (declarator_of name.declarator) → answer ≡ true →
    {rest : Bool} → rest ≡ is_pure (expression_of d.value) → rest ≡ is_pure (expression_of e)
cast_goes e b d is name answer same given yes_it_is {rest} operand =
    let is_true : true ≡ is_pure_specifiers (specifiers_of b.value.specifiers) && is_pure_declarator (declarator_of b.value.declarator) =
    sym yes_it_is ∙ given ∙ ap (λ n. is_pure_specifiers (specifiers_of n.specifiers) && is_pure_declarator (declarator_of n.declarator)) same in
    operand ∙ ap (λ a. a && is_pure (expression_of d.value)) is_true ∙ sym (pure_cast e b d is)

pub cast_stops : (e : Expr) (b : Box TypeName) (d : Box Expr) → e ≡ variant.Cast b d → (name : TypeName) (answer : Bool) → name ≡ b.value →
    answer ≡ is_pure_specifiers (specifiers_of name.specifiers) && is_pure_declarator (declarator_of name.declarator) → answer ≡ false →
    answer ≡ is_pure (expression_of e)
cast_stops e b d is name answer same given it_is_not =
    let is_false : false ≡ is_pure_specifiers (specifiers_of b.value.specifiers) && is_pure_declarator (declarator_of b.value.declarator) =
    sym it_is_not ∙ given ∙ ap (λ n. is_pure_specifiers (specifiers_of n.specifiers) && is_pure_declarator (declarator_of n.declarator)) same in
    it_is_not ∙ ap (λ a. a && is_pure (expression_of d.value)) is_false ∙ sym (pure_cast e b d is)

pub pure_comma : (e : Expr) (v : Vec Expr) → e ≡ variant.Comma v → is_pure (expression_of e) ≡ are_pure (expressions_in v.items)
pure_comma e v is = ap (λ x. is_pure (expression_of x)) is ∙ ap is_pure (comma_is v)
