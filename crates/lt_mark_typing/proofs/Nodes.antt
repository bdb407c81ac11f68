-- No mark in parts of a text has a new id, where none in all of it has.
use Rattle.std.proofs.Common.{ℕ, List, [], ◌∷◌, Bool}
use Rattle.std.specs.Prelude.{◌++◌}
use Rattle.lt_tree.specs.Tree as c
use Rattle.lt_tree.specs.Nodes.{Node, in_specifiers, in_members, in_member_declarators}
use Rattle.lt_mark_typing.specs.Placed.{AreOld}

-- the nodes of one member
abbrev pub in_struct_member : c.StructMember → List Node
in_struct_member (c.member s ds) = in_specifiers s ++ in_member_declarators ds

pub old_first : (new : ℕ → Bool) (xs ys : List Node) → AreOld new (xs ++ ys) → AreOld new xs
old_first new [] ys h = tt
old_first new (x ∷ xs) ys h = (h.0, old_first new xs ys h.1)

pub old_second : (new : ℕ → Bool) (xs ys : List Node) → AreOld new (xs ++ ys) → AreOld new ys
old_second new [] ys h = h
old_second new (x ∷ xs) ys h = old_second new xs ys h.1

pub old_member : (new : ℕ → Bool) (first : c.StructMember) (rest : c.Members) → AreOld new (in_members (c.a_member first rest)) → AreOld new (in_struct_member first)
old_member new (c.member s ds) rest h = old_first new (in_specifiers s ++ in_member_declarators ds) (in_members rest) h.1

pub old_members : (new : ℕ → Bool) (first : c.StructMember) (rest : c.Members) → AreOld new (in_members (c.a_member first rest)) → AreOld new (in_members rest)
old_members new (c.member s ds) rest h = old_second new (in_specifiers s ++ in_member_declarators ds) (in_members rest) h.1
