-- Nodes of members, and of declarators by their parts.
use Rattle.std.proofs.Common.{◌≡◌, refl, ℕ, ◌+◌, ◌<◌, List, [], ◌∷◌, length, length-append, Option, Some, None, arith}
use Rattle.lt_tree.specs.declared.declarator.DeclaratorPart.{DeclaratorPart}
use Rattle.lt_tree.specs.declared.declarator.DeclaratorPart.TheBlock as at
use Rattle.lt_tree.specs.declared.specifier.Member.{Member}
use Rattle.lt_tree.specs.Tree as t
use Rattle.lt_tree.specs.View.{member_of, part_before, maybe_of, parameters_of}
use Rattle.lt_tree.specs.Records.{members_in, parts_in}
use Rattle.lt_tree.specs.Nodes.{in_members, in_parts, in_maybe, in_parameters, if_written}
use Rattle.lt_placing.specs.Walks.{in_member, in_first_part}

member_sized : (m : t.StructMember) (ms : t.Members) → length (in_members (t.a_member m ms)) ≡ length (in_member m) + length (in_members ms)
member_sized (t.member s ds) ms = length-append (in_member (t.member s ds)) (in_members ms)

pub members_sized : (m : Member) (rest : List Member) → length (in_members (members_in (m ∷ rest))) ≡ length (in_member (member_of m)) + length (in_members (members_in rest))
members_sized m rest = member_sized (member_of m) (members_in rest)

pub parts_sized : (p : DeclaratorPart) (rest : List DeclaratorPart) →
    length (in_parts (parts_in (p ∷ rest))) ≡ length (in_first_part (part_before p t.no_parts)) + length (in_parts (parts_in rest))
parts_sized (at.Pointer quals) rest = omega arith
parts_sized (at.Array' given) rest = length-append (in_maybe (maybe_of given)) (in_parts (parts_in rest))
parts_sized (at.Function parameters) rest = length-append (in_parameters (parameters_of parameters)) (in_parts (parts_in rest))

-- a declarator with a name or with parts is a node
pub named : (name : Option (List ℕ)) (w : List ℕ) (parts : t.Parts) → name ≡ Some w → length (if_written name parts) ≡ 1
named None w parts is = absurd cc
named (Some v) w parts is = refl

pub with_parts : (name : Option (List ℕ)) (items : List DeclaratorPart) → 0 < length items → length (if_written name (parts_in items)) ≡ 1
with_parts name [] some = absurd (omega arith)
with_parts (Some w) (p ∷ rest) some = refl
with_parts None (at.Pointer quals ∷ rest) some = refl
with_parts None (at.Array' given ∷ rest) some = refl
with_parts None (at.Function parameters ∷ rest) some = refl

-- one without either isn't
pub without_parts : (items : List DeclaratorPart) → length items ≡ 0 → length (if_written None (parts_in items)) ≡ 0
without_parts [] none = refl
without_parts (p ∷ rest) none = absurd (omega arith)
