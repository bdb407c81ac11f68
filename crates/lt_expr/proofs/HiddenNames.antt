-- The names that trees hide, part by part: what stands behind a part is read where its enumerators are hidden.
use Rattle.std.proofs.Common.{◌≡◌, ℕ, ◌+◌, List, [], ◌∷◌, ◌++◌, Option, Some, None, refl, sym, ap, ◌∙◌, arith}
use Rattle.std.specs.Prelude.{zero, suc, option_map, option_and_then}
use Rattle.std.proofs.lemmas.List.{append-nil}
use Rattle.lt_tree.specs.declared.specifier.BasicType.{BasicType}
use Rattle.lt_tree.specs.declared.specifier.TypeWord.{TypeWord}
use Rattle.lt_tree.specs.Tree as c
use Rattle.lt_tree.specs.TypeWords.{basic_of, words_alone, or_as_they_stand, gathered}
use Rattle.lt_tree.specs.Grammar.{joined}
use Rattle.lt_tree.specs.Scope.{Scope, hiding, enumerators_in, enumerators_in_maybe, enumerators_in_types, enumerators_in_type, enumerators_in_members, enumerators_in_specifiers, enumerators_in_member_declarators, enumerators_in_declarator, enumerators_in_parts, enumerators_of, after_expression, after_type, after_types, after_specifiers, after_parts, after_member_declarator, after_member, after_enumerator}
use Rattle.lt_expr.proofs.Hiding.{hiding_both}

-- an array's length
pub length_hidden : (e : c.Expression) (s : Scope) → after_parts (c.Array (c.present e) c.no_parts) s ≡ after_expression e s
length_hidden e s = ap (λ ws. hiding ws s) (append-nil (enumerators_in e))

-- parts and those around them
pub joined_hidden : (a b : c.Parts) (s : Scope) → after_parts (joined a b) s ≡ after_parts b (after_parts a s)
joined_hidden c.no_parts b s = refl
joined_hidden (c.Pointer q rest) b s = joined_hidden rest b s
joined_hidden (c.Array length rest) b s =
    hiding_both (enumerators_in_maybe length) (enumerators_in_parts (joined rest b)) s
    ∙ joined_hidden rest b (hiding (enumerators_in_maybe length) s)
    ∙ ap (after_parts b) (sym (hiding_both (enumerators_in_maybe length) (enumerators_in_parts rest) s))
joined_hidden (c.Function parameters rest) b s = joined_hidden rest b s

-- type words together hide nothing
words_hide : (types : c.TypeSpecifiers) (words : List TypeWord) → words_alone types ≡ Some words → enumerators_in_types types ≡ []
words_hide c.no_types words e = refl
words_hide (c.a_type (c.Word word) rest) words e = step (λ ws is. words_hide rest ws is) (words_alone rest) refl e
  where
    step : ((ws : List TypeWord) → words_alone rest ≡ Some ws → enumerators_in_types rest ≡ []) → (x : Option (List TypeWord)) → words_alone rest ≡ x → option_map (λ ws. word ∷ ws) x ≡ Some words → enumerators_in_types rest ≡ []
    step inner None is f = absurd cc
    step inner (Some ws) is f = inner ws is
words_hide (c.a_type type rest) words e = absurd cc

-- so types put together hide what those that stand do
pub gathered_hidden : (types : c.TypeSpecifiers) → enumerators_in_types (gathered types) ≡ enumerators_in_types types
gathered_hidden types = step (words_alone types) refl
  where
    named : (words : List TypeWord) (type : Option BasicType) → words_alone types ≡ Some words → enumerators_in_types (or_as_they_stand types type) ≡ enumerators_in_types types
    named words None is = refl
    named words (Some type) is = sym (words_hide types words is)

    step : (x : Option (List TypeWord)) → words_alone types ≡ x → enumerators_in_types (or_as_they_stand types (option_and_then basic_of x)) ≡ enumerators_in_types types
    step None is = refl
    step (Some words) is = named words (basic_of words) is

pub gathered_after : (words : c.Words) (types : c.TypeSpecifiers) (s : Scope) → after_specifiers (c.specifiers words (gathered types)) s ≡ after_types types s
gathered_after words types s = ap (λ ws. hiding ws s) (gathered_hidden types)

-- ---- one before others

pub type_first : (type : c.TypeSpecifier) (rest : c.TypeSpecifiers) (s : Scope) → hiding (enumerators_in_types (c.a_type type rest)) s ≡ hiding (enumerators_in_types rest) (after_type type s)
type_first type rest s = hiding_both (enumerators_in_type type) (enumerators_in_types rest) s

pub member_first : (m : c.StructMember) (rest : c.Members) (s : Scope) → hiding (enumerators_in_members (c.a_member m rest)) s ≡ hiding (enumerators_in_members rest) (after_member m s)
member_first (c.member ss ds) rest s =
    hiding_both (enumerators_in_specifiers ss ++ enumerators_in_member_declarators ds) (enumerators_in_members rest) s
    ∙ ap (hiding (enumerators_in_members rest)) (hiding_both (enumerators_in_specifiers ss) (enumerators_in_member_declarators ds) s)

pub declarator_first : (d : c.Declarator) (width : c.Maybe) (rest : c.MemberDeclarators) (s : Scope)
    → hiding (enumerators_in_member_declarators (c.a_declarator d width rest)) s ≡ hiding (enumerators_in_member_declarators rest) (after_member_declarator d width s)
declarator_first d width rest s =
    hiding_both (enumerators_in_declarator d ++ enumerators_in_maybe width) (enumerators_in_member_declarators rest) s
    ∙ ap (hiding (enumerators_in_member_declarators rest)) (hiding_both (enumerators_in_declarator d) (enumerators_in_maybe width) s)

pub enumerator_first : (w : List ℕ) (value : c.Maybe) (rest : c.Enumerators) (s : Scope)
    → hiding (enumerators_of (c.an_enumerator w value rest)) s ≡ hiding (enumerators_of rest) (after_enumerator w value s)
enumerator_first w value rest s = hiding_both (enumerators_in_maybe value) (w ∷ enumerators_of rest) s

-- ---- parts that are those of another list before the same parts

abbrev size : c.Parts → ℕ
size c.no_parts = 0
size (c.Pointer q rest) = suc (size rest)
size (c.Array length rest) = suc (size rest)
size (c.Function parameters rest) = suc (size rest)

size_joined : (a b : c.Parts) → size (joined a b) ≡ size a + size b
size_joined c.no_parts b = omega arith
size_joined (c.Pointer q rest) b = let h = size_joined rest b in omega arith
size_joined (c.Array length rest) b = let h = size_joined rest b in omega arith
size_joined (c.Function parameters rest) b = let h = size_joined rest b in omega arith

-- none of these stand before the parts themselves
alone : (a d : c.Parts) → d ≡ joined a d → size a ≡ 0
alone a d e = let counted : size d ≡ size a + size d = ap (λ (x : c.Parts). size x) e ∙ size_joined a d in omega arith

pub joined_same : (a b d : c.Parts) → joined a d ≡ joined b d → a ≡ b
joined_same c.no_parts c.no_parts d e = refl
joined_same c.no_parts (c.Pointer q rest) d e = let none : suc (size rest) ≡ 0 = alone (c.Pointer q rest) d e in absurd (omega arith)
joined_same c.no_parts (c.Array length rest) d e = let none : suc (size rest) ≡ 0 = alone (c.Array length rest) d e in absurd (omega arith)
joined_same c.no_parts (c.Function parameters rest) d e = let none : suc (size rest) ≡ 0 = alone (c.Function parameters rest) d e in absurd (omega arith)
joined_same (c.Pointer q rest) c.no_parts d e = let none : suc (size rest) ≡ 0 = alone (c.Pointer q rest) d (sym e) in absurd (omega arith)
joined_same (c.Array length rest) c.no_parts d e = let none : suc (size rest) ≡ 0 = alone (c.Array length rest) d (sym e) in absurd (omega arith)
joined_same (c.Function parameters rest) c.no_parts d e = let none : suc (size rest) ≡ 0 = alone (c.Function parameters rest) d (sym e) in absurd (omega arith)
joined_same (c.Pointer q a) (c.Pointer p b) d e =
    let same : joined a d ≡ joined b d = cc in let first : q ≡ p = cc in ap (c.Pointer q) (joined_same a b d same) ∙ ap (λ (x : c.Qualifiers). c.Pointer x b) first
joined_same (c.Array length a) (c.Array wide b) d e =
    let same : joined a d ≡ joined b d = cc in let first : length ≡ wide = cc in ap (c.Array length) (joined_same a b d same) ∙ ap (λ (x : c.Maybe). c.Array x b) first
joined_same (c.Function ps a) (c.Function qs b) d e =
    let same : joined a d ≡ joined b d = cc in let first : ps ≡ qs = cc in ap (c.Function ps) (joined_same a b d same) ∙ ap (λ (x : c.Parameters). c.Function x b) first
joined_same (c.Pointer q a) (c.Array length b) d e = absurd cc
joined_same (c.Pointer q a) (c.Function ps b) d e = absurd cc
joined_same (c.Array length a) (c.Pointer q b) d e = absurd cc
joined_same (c.Array length a) (c.Function ps b) d e = absurd cc
joined_same (c.Function ps a) (c.Pointer q b) d e = absurd cc
joined_same (c.Function ps a) (c.Array length b) d e = absurd cc
