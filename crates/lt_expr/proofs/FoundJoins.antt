-- Specifiers that a loop finds: one more behind those that were found is one more before those that are found still.
use Rattle.std.proofs.Common.{◌≡◌, ◌++◌, ◌||◌, Bool, true, false, List, [], ◌∷◌, Option, Some, None, refl, sym, ap, ◌∙◌, append_assoc}
use Rattle.std.proofs.lemmas.List.{append-nil}
use Rattle.lt_tree.specs.declared.specifier.Specifiers.{Specifiers}
use Rattle.lt_tree.specs.declared.specifier.TypeSpecifier.{TypeSpecifier}
use Rattle.lt_tree.specs.Tree as c
use Rattle.lt_tree.specs.View.{type_of}
use Rattle.lt_tree.specs.Records.{types_in}
use Rattle.lt_expr.specs.Front.{Rest, ◌>>=◌}
use Rattle.lt_expr.specs.Specifier as spec
use Rattle.lt_expr.specs.Specifier.{Found, none_found}
use Rattle.lt_expr.specs.Fronts.{after, found_before, types_before, qualifiers_before, words_before}
use Rattle.lt_expr.specs.FoundView.{found_of}

pub more_found : (front all : Specifiers) (s : spec.Specifier) (read : Option (Found × Rest))
    → ((rest : Found) → found_before (found_of all) rest ≡ found_before (found_of front) (spec.with_specifier s rest))
    → after (found_before (found_of all)) read ≡ after (found_before (found_of front)) (read >>= λ y. Some (spec.with_specifier s y.0, y.1))
more_found front all s None same = refl
more_found front all s (Some y) same = ap (λ x. Some (x, y.1)) (same y.0)

or_false : (b : Bool) → (b || false) ≡ b
or_false true = refl
or_false false = refl

pub types_all : (front : c.TypeSpecifiers) → types_before front c.no_types ≡ front
types_all c.no_types = refl
types_all (c.a_type first front) = ap (c.a_type first) (types_all front)

qualifiers_all : (q : c.Qualifiers) → qualifiers_before q (record { constant = false; volatile = false }) ≡ q
qualifiers_all q = ap (λ b. record { constant = b; volatile = q.volatile || false }) (or_false q.constant) ∙ ap (λ b. record { constant = q.constant; volatile = b }) (or_false q.volatile)

found_all : (f : Found) → found_before f none_found ≡ f
found_all f =
    ap (λ s. record { words = record { storage = s; inline = f.words.inline || false; noreturn = f.words.noreturn || false; qualifiers = qualifiers_before f.words.qualifiers (record { constant = false; volatile = false }) }; types = types_before f.types c.no_types }) (append-nil f.words.storage)
    ∙ ap (λ b. record { words = record { storage = f.words.storage; inline = b; noreturn = f.words.noreturn || false; qualifiers = qualifiers_before f.words.qualifiers (record { constant = false; volatile = false }) }; types = types_before f.types c.no_types }) (or_false f.words.inline)
    ∙ ap (λ b. record { words = record { storage = f.words.storage; inline = f.words.inline; noreturn = b; qualifiers = qualifiers_before f.words.qualifiers (record { constant = false; volatile = false }) }; types = types_before f.types c.no_types }) (or_false f.words.noreturn)
    ∙ ap (λ q. record { words = record { storage = f.words.storage; inline = f.words.inline; noreturn = f.words.noreturn; qualifiers = q }; types = types_before f.types c.no_types }) (qualifiers_all f.words.qualifiers)
    ∙ ap (λ t. record { words = f.words; types = t }) (types_all f.types)

pub all_found : (found : Specifiers) (r : Rest) → after (found_before (found_of found)) (Some (none_found, r)) ≡ Some (found_of found, r)
all_found found r = ap (λ x. Some (x, r)) (found_all (found_of found))

pub no_found : (read : Option (Found × Rest)) → after (found_before none_found) read ≡ read
no_found None = refl
no_found (Some y) = refl

pub types_push : (front : List TypeSpecifier) (t : TypeSpecifier) (rest : c.TypeSpecifiers) → types_before (types_in (front ++ t ∷ [])) rest ≡ types_before (types_in front) (c.a_type (type_of t) rest)
types_push [] t rest = refl
types_push (x ∷ front) t rest = ap (c.a_type (type_of x)) (types_push front t rest)
