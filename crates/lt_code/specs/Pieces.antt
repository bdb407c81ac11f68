-- Pieces of code: which nodes stand at which program points of a graph, one behind the other. `P point node` says
-- that the node stands at the
-- point. A piece stands from one point to another.
use Rattle.std.specs.Prelude.{◌≡◌, ℕ, Bool, true, false}
use Rattle.lt_ir.specs.declared.node.Node.{Node}

abbrev pub Stands : Type 1
Stands = (point : ℕ) → Node → Type 0

abbrev pub Piece : Type 1
Piece = (from to : ℕ) → Type 0

-- one node, which names the point that follows last
abbrev pub one : Stands → (ℕ → Node) → Piece
one P node from to = P from (node to)

abbrev pub nothing : Piece
nothing from to = from ≡ to

-- one piece, then another
infixr 10 ◌▸◌
abbrev pub ◌▸◌ : Piece → Piece → Piece
(first ▸ second) from to = (m : ℕ) × first from m × second m to

abbrev pub when : Bool → Piece → Piece
when true piece = piece
when false piece = nothing

abbrev pub either : Bool → Piece → Piece → Piece
either true one other = one
either false one other = other

-- a piece, beside something that is so
abbrev pub beside : Type 0 → Piece → Piece
beside Fact piece from to = Fact × piece from to

-- ---- tests, which lead to one point or to another

abbrev pub Test : Type 1
Test = (from on off : ℕ) → Type 0

-- a piece, then a test
abbrev pub behind : Piece → Test → Test
behind piece test from on off = (m : ℕ) × piece from m × test m on off

-- a test, then a piece on either way
abbrev pub leads : Test → Piece → Piece → Test
leads test when_on when_off from on off = (m1 : ℕ) × (m2 : ℕ) × test from m1 m2 × when_on m1 on × when_off m2 off

-- a test, then one of two pieces, which meet again
abbrev pub both_ways : Test → Piece → Piece → Piece
both_ways test when_on when_off from to = leads test when_on when_off from to to

abbrev pub swapped : Test → Test
swapped test from on off = test from off on

abbrev pub beside_test : Type 0 → Test → Test
beside_test Fact test from on off = Fact × test from on off
