-- Parts of a declarator fit where those around them fit behind the names that they hide, and a name that fits behind no `*` fits behind one.
use Rattle.std.proofs.Common.{◌≡◌, Bool, true, false, ℕ, List, Option, Some, None, refl, sym, ap, subst, ◌∙◌}
use Rattle.lt_tree.specs.Tree as c
use Rattle.lt_tree.specs.Scope.{Scope, enumerators_in, enumerators_in_parts, after_expression, after_parts}
use Rattle.lt_tree.specs.Ahead.{Naming, named, untyped, nameless, either, behind_star, takes_name, takes_none}
use Rattle.lt_tree.specs.Grammar.{joined}
use Rattle.lt_expr.proofs.Hiding.{hiding_both}
use Rattle.lt_expr.proofs.HiddenNames.{joined_hidden, joined_same}
use Rattle.lt_expr.proofs.Walks.{joined_joined}
use Rattle.lt_print.proofs.Claims.{PartsFit, NameFits, starred}

-- the outer ones of these parts fit behind the others
abbrev pub OuterFits : Scope → c.Parts → c.Parts → Type 0
OuterFits scope outer parts = (own : c.Parts) → parts ≡ joined own outer → PartsFit (after_parts own scope) outer

pub pointer_fits : (scope : Scope) (q : c.Qualifiers) (outer parts : c.Parts) → OuterFits scope outer parts → OuterFits scope (c.Pointer q outer) parts
pointer_fits scope q outer parts fit own e =
    subst (λ (names : Scope). PartsFit names outer) (joined_hidden own (c.Pointer q c.no_parts) scope)
    (fit (joined own (c.Pointer q c.no_parts)) (e ∙ sym (joined_joined own (c.Pointer q c.no_parts) outer)))

pub nested_fits : (scope : Scope) (inner own suffixed parts : c.Parts) → parts ≡ joined inner suffixed → parts ≡ joined own suffixed
    → PartsFit (after_parts inner scope) suffixed → PartsFit (after_parts own scope) suffixed
nested_fits scope inner own suffixed parts i e fit = subst (λ (q : c.Parts). PartsFit (after_parts q scope) suffixed) (joined_same inner own suffixed (sym i ∙ e)) fit

pub behind_fits : (scope : Scope) (inner outer suffixed parts : c.Parts) → parts ≡ joined inner suffixed → OuterFits scope outer parts → OuterFits (after_parts inner scope) outer suffixed
behind_fits scope inner outer suffixed parts i fit own e =
    subst (λ (names : Scope). PartsFit names outer) (joined_hidden inner own scope) (fit (joined inner own) (i ∙ ap (joined inner) e ∙ sym (joined_joined inner own outer)))

pub array_fits : (scope : Scope) (e : c.Expression) (outer parts : c.Parts) → OuterFits scope outer (c.Array (c.present e) parts) → OuterFits (after_expression e scope) outer parts
array_fits scope e outer parts fit own is =
    subst (λ (names : Scope). PartsFit names outer) (hiding_both (enumerators_in e) (enumerators_in_parts own) scope) (fit (c.Array (c.present e) own) (ap (c.Array (c.present e)) is))

-- ---- namings

pub starred_once : (b : Bool) (naming : Naming) (scope : Scope) (name : Option (List ℕ)) → b ≡ true → NameFits (starred b (behind_star naming)) scope name → NameFits (starred b naming) scope name
starred_once false naming scope name e fits = absurd cc
starred_once true named scope name e fits = fits
starred_once true untyped scope name e fits = fits
starred_once true nameless scope name e fits = fits
starred_once true either scope name e fits = fits

pub still_takes : (b : Bool) (naming : Naming) (scope : Scope) (w : List ℕ) → takes_name naming scope w ≡ true → takes_name (starred b naming) scope w ≡ true
still_takes false naming scope w e = e
still_takes true named scope w e = refl
still_takes true untyped scope w e = refl
still_takes true nameless scope w e = e
still_takes true either scope w e = refl

pub still_none : (b : Bool) (naming : Naming) → takes_none naming ≡ true → takes_none (starred b naming) ≡ true
still_none false naming e = e
still_none true named e = absurd cc
still_none true untyped e = absurd cc
still_none true nameless e = refl
still_none true either e = refl

-- behind two stars as behind one
pub star_again : (b : Bool) (naming : Naming) → behind_star naming ≡ behind_star (starred b naming)
star_again false naming = refl
star_again true named = refl
star_again true untyped = refl
star_again true nameless = refl
star_again true either = refl
