-- Each node of a tree has one spot: what a derivation puts before the further spots are as many places as the tree has nodes.
use Rattle.std.proofs.Common.{◌≡◌, ℕ, suc, false, List, [], ◌∷◌, ◌++◌, length, Option, Some, None, refl, sym, ap, ◌∙◌, append_assoc}
use Rattle.std.proofs.lemmas.List.{length-append, append-nil}
use Rattle.std.specs.Prelude.{option_map, option_and_then}
use Rattle.lt_tree.specs.declared.specifier.BasicType.{BasicType}
use Rattle.lt_tree.specs.declared.specifier.TypeWord.{TypeWord}
use Rattle.lt_tree.specs.Tree as c
use Rattle.lt_tree.specs.Comma.{followed_by}
use Rattle.lt_tree.specs.TypeWords.{words_alone, gathered, or_as_they_stand, basic_of}
use Rattle.lt_tree.specs.Operators.{Infix, operation, arithmetic, connective}
use Rattle.lt_tree.specs.Grammar as g
use Rattle.lt_tree.specs.Nodes.{Node, in_expression, in_expressions, in_types, in_declarator, in_parts}

-- the spots have one place for each of these nodes before `more`
pub record Spans (nodes : List Node) (spots more : List ℕ) : Type 0 where
  pub places : List ℕ
  pub before : spots ≡ places ++ more
  pub each : length places ≡ length nodes

pub nothing : {more : List ℕ} → Spans [] more more
nothing = record { places = []; before = refl; each = refl }

-- a node and what is below it
pub node : {x : Node} {at : ℕ} {xs : List Node} {spots more : List ℕ} → Spans xs spots more → Spans (x ∷ xs) (at ∷ spots) more
node {at} s = record { places = at ∷ s.places; before = ap (λ (l : List ℕ). at ∷ l) s.before; each = ap (λ (n : ℕ). suc n) s.each }

pub joined : {xs ys : List Node} {a b c : List ℕ} → Spans xs a b → Spans ys b c → Spans (xs ++ ys) a c
joined {xs} {ys} {a} {b} {c} s t = record {
  places = s.places ++ t.places;
  before = s.before ∙ (ap (λ (l : List ℕ). s.places ++ l) t.before ∙ sym (append_assoc s.places t.places c));
  each = rw (length-append s.places t.places, length-append xs ys, s.each, t.each) refl;
}

-- below the first node
pub below : {x : Node} {at : ℕ} {xs : List Node} {spots more : List ℕ} → Spans (x ∷ xs) (at ∷ spots) more → Spans xs spots more
below {x} {at} {xs} {spots} {more} s = from s.places s.before s.each
  where
    from : (places : List ℕ) → at ∷ spots ≡ places ++ more → length places ≡ length (x ∷ xs) → Spans xs spots more
    from [] e n = absurd cc
    from (p ∷ ps) e n = record { places = ps; before = cc; each = cc }

-- ---- what the trees of two rules have in them

pub in_operation : (op : Infix) (left right : c.Expression) {at : ℕ} {spots more : List ℕ}
    → Spans (in_expression left ++ in_expression right) spots more → Spans (in_expression (operation op left right)) (at ∷ spots) more
in_operation (arithmetic op) left right s = node s
in_operation (connective op) left right s = node s

in_followed : (front parts : c.Expressions) → in_expressions (followed_by front parts) ≡ in_expressions front ++ in_expressions parts
in_followed c.no_expressions parts = refl
in_followed (c.an_expression first rest) parts = rw (in_followed rest parts) (sym (append_assoc (in_expression first) (in_expressions rest) (in_expressions parts)))

pub in_longer : (front parts : c.Expressions) {p at : ℕ} {spots between more : List ℕ}
    → Spans (in_expression (c.Comma front)) (p ∷ spots) between → Spans (in_expressions parts) between more
    → Spans (in_expression (c.Comma (followed_by front parts))) (at ∷ spots) more
in_longer front parts s t = node (rw (in_followed front parts) (joined (below s) t))

-- type words have no nodes
words_have_none : (types : c.TypeSpecifiers) (words : List TypeWord) → words_alone types ≡ Some words → in_types types ≡ []
words_have_none c.no_types words e = refl
words_have_none (c.a_type (c.Word word) rest) words e = rest_of (words_alone rest) refl (λ ws f. words_have_none rest ws f) e
  where
    rest_of : (o : Option (List TypeWord)) → words_alone rest ≡ o → ((ws : List TypeWord) → words_alone rest ≡ Some ws → in_types rest ≡ [])
        → option_map (λ ws. word ∷ ws) o ≡ Some words → in_types rest ≡ []
    rest_of None f below e = absurd cc
    rest_of (Some ws) f below e = below ws f
words_have_none (c.a_type (c.Basic t) rest) words e = absurd cc
words_have_none (c.a_type (c.StructTag w) rest) words e = absurd cc
words_have_none (c.a_type (c.Struct w ms) rest) words e = absurd cc
words_have_none (c.a_type (c.EnumTag w) rest) words e = absurd cc
words_have_none (c.a_type (c.Enum w es) rest) words e = absurd cc
words_have_none (c.a_type (c.Named w) rest) words e = absurd cc

in_gathered : (types : c.TypeSpecifiers) → in_types (gathered types) ≡ in_types types
in_gathered types = by_words (words_alone types) refl
  where
    by_type : (words : List TypeWord) → words_alone types ≡ Some words → (o : Option BasicType) → in_types (or_as_they_stand types o) ≡ in_types types
    by_type words e None = refl
    by_type words e (Some type) = sym (words_have_none types words e)

    by_words : (o : Option (List TypeWord)) → words_alone types ≡ o → in_types (or_as_they_stand types (option_and_then basic_of o)) ≡ in_types types
    by_words None e = refl
    by_words (Some words) e = by_type words e (basic_of words)

pub in_specifiers_gathered : (types : c.TypeSpecifiers) {spots more : List ℕ} → Spans (in_types types) spots more → Spans (in_types (gathered types)) spots more
in_specifiers_gathered types s = rw (in_gathered types) s

-- what a declarator's parts have before the outer ones
pub record Adds (outer parts : c.Parts) (spots more : List ℕ) : Type 0 where
  pub own : List Node
  pub extends : in_parts parts ≡ own ++ in_parts outer
  pub spans : Spans own spots more

pub adds_nothing : {outer : c.Parts} {more : List ℕ} → Adds outer outer more more
adds_nothing = record { own = []; extends = refl; spans = nothing }

-- an array's length or a list of parameters, and the suffixes behind it
pub adds_suffix : (xs : List Node) {outer parts wider : c.Parts} {spots between more : List ℕ}
    → in_parts wider ≡ xs ++ in_parts parts → Spans xs spots between → Adds outer parts between more → Adds outer wider spots more
adds_suffix xs {outer} e s a = record {
  own = xs ++ a.own;
  extends = e ∙ (ap (λ (l : List Node). xs ++ l) a.extends ∙ sym (append_assoc xs a.own (in_parts outer)));
  spans = joined s a.spans;
}

-- a declarator in parentheses, and the suffixes behind it
pub adds_nested : {outer suffixed parts : c.Parts} {spots between more : List ℕ}
    → Adds suffixed parts spots between → Adds outer suffixed between more → Adds outer parts spots more
adds_nested {outer} {suffixed} {parts} a b = record {
  own = a.own ++ b.own;
  extends = a.extends ∙ (ap (λ (l : List Node). a.own ++ l) b.extends ∙ sym (append_assoc a.own b.own (in_parts outer)));
  spans = joined a.spans b.spans;
}

pub adds_pointer : {q : c.Qualifiers} {outer parts : c.Parts} {spots more : List ℕ} → Adds (c.Pointer q outer) parts spots more → Adds outer parts spots more
adds_pointer a = record { own = a.own; extends = a.extends; spans = a.spans }

-- a declarator that is written is a node
pub in_written : (name : Option (List ℕ)) (parts : c.Parts) {at : ℕ} {spots more : List ℕ}
    → g.is_missing name parts ≡ false → Adds c.no_parts parts spots more → Spans (in_declarator (c.declarator name parts)) (at ∷ spots) more
in_written name parts {at} {spots} {more} e a = by_cases name parts e whole
  where
    whole : Spans (in_parts parts) spots more
    whole = rw (a.extends, append-nil a.own) a.spans

    by_cases : (name : Option (List ℕ)) (parts : c.Parts) → g.is_missing name parts ≡ false → Spans (in_parts parts) spots more
        → Spans (in_declarator (c.declarator name parts)) (at ∷ spots) more
    by_cases None c.no_parts e s = absurd cc
    by_cases (Some w) parts e s = node s
    by_cases None (c.Pointer q rest) e s = node s
    by_cases None (c.Array length rest) e s = node s
    by_cases None (c.Function ps rest) e s = node s
