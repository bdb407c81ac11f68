-- Walks over trees that are put together of others.
use Rattle.std.proofs.Common.{◌≡◌, ℕ, false, List, ◌∷◌, Option, Some, None, refl, sym, ap}
use Rattle.std.specs.Prelude.{option_map, option_and_then}
use Rattle.lt_tree.specs.declared.specifier.BasicType.{BasicType}
use Rattle.lt_tree.specs.declared.specifier.TypeWord.{TypeWord}
use Rattle.lt_tree.specs.Tree as c
use Rattle.lt_tree.specs.Comma.{followed_by}
use Rattle.lt_tree.specs.Operators.{Infix, arithmetic, connective, operation}
use Rattle.lt_tree.specs.TypeWords.{basic_of, words_alone, or_as_they_stand, gathered}
use Rattle.lt_tree.specs.Grammar.{is_missing, joined}
use Rattle.lt_expr.specs.Walk.{Walked, node, walk, walk_all, walk_maybe, walk_types, walk_declarator, walk_parts, walk_parameters}

-- ---- expressions

-- a walk over an operation, whatever the operator
pub operation_walk : (op : Infix) (left right : c.Expression) (w : Walked) → walk (operation op left right) w ≡ node (λ v. walk left (walk right v)) w
operation_walk (arithmetic op) left right w = refl
operation_walk (connective op) left right w = refl

-- a walk over expressions behind others
pub walk_followed : (front back : c.Expressions) (v : Walked) → walk_all (followed_by front back) v ≡ walk_all front (walk_all back v)
walk_followed c.no_expressions back v = refl
walk_followed (c.an_expression first rest) back v = ap (walk first) (walk_followed rest back v)

-- ---- types

-- type words together have no spots
words_walk : (types : c.TypeSpecifiers) (words : List TypeWord) (v : Walked) → words_alone types ≡ Some words → walk_types types v ≡ v
words_walk c.no_types words v e = refl
words_walk (c.a_type (c.Word word) rest) words v e = step (λ ws is. words_walk rest ws v is) (words_alone rest) refl e
  where
    step : ((ws : List TypeWord) → words_alone rest ≡ Some ws → walk_types rest v ≡ v) → (x : Option (List TypeWord)) → words_alone rest ≡ x → option_map (λ ws. word ∷ ws) x ≡ Some words → walk_types rest v ≡ v
    step inner None is f = absurd cc
    step inner (Some ws) is f = inner ws is
words_walk (c.a_type type rest) words v e = absurd cc

-- so types put together have the spots of those that stand
pub gathered_walk : (types : c.TypeSpecifiers) (v : Walked) → walk_types (gathered types) v ≡ walk_types types v
gathered_walk types v = step (words_alone types) refl
  where
    named : (words : List TypeWord) (type : Option BasicType) → words_alone types ≡ Some words → walk_types (or_as_they_stand types type) v ≡ walk_types types v
    named words None is = refl
    named words (Some type) is = sym (words_walk types words v is)

    step : (x : Option (List TypeWord)) → words_alone types ≡ x → walk_types (or_as_they_stand types (option_and_then basic_of x)) v ≡ walk_types types v
    step None is = refl
    step (Some words) is = named words (basic_of words) is

-- ---- parts and those around them

pub joined_none : (parts : c.Parts) → joined parts c.no_parts ≡ parts
joined_none c.no_parts = refl
joined_none (c.Pointer q rest) = ap (c.Pointer q) (joined_none rest)
joined_none (c.Array length rest) = ap (c.Array length) (joined_none rest)
joined_none (c.Function parameters rest) = ap (c.Function parameters) (joined_none rest)

pub joined_joined : (a b d : c.Parts) → joined (joined a b) d ≡ joined a (joined b d)
joined_joined c.no_parts b d = refl
joined_joined (c.Pointer q rest) b d = ap (c.Pointer q) (joined_joined rest b d)
joined_joined (c.Array length rest) b d = ap (c.Array length) (joined_joined rest b d)
joined_joined (c.Function parameters rest) b d = ap (c.Function parameters) (joined_joined rest b d)

pub walk_joined : (a b : c.Parts) (v : Walked) → walk_parts (joined a b) v ≡ walk_parts a (walk_parts b v)
walk_joined c.no_parts b v = refl
walk_joined (c.Pointer q rest) b v = walk_joined rest b v
walk_joined (c.Array length rest) b v = ap (walk_maybe length) (walk_joined rest b v)
walk_joined (c.Function parameters rest) b v = ap (walk_parameters parameters) (walk_joined rest b v)

-- ---- declarators

-- a declarator with a name or parts is a node
pub written_walk : (w : Option (List ℕ)) (parts : c.Parts) (v : Walked) → is_missing w parts ≡ false → walk_declarator (c.declarator w parts) v ≡ node (walk_parts parts) v
written_walk None c.no_parts v e = absurd cc
written_walk None (c.Pointer q rest) v e = refl
written_walk None (c.Array length rest) v e = refl
written_walk None (c.Function parameters rest) v e = refl
written_walk (Some w) parts v e = refl
