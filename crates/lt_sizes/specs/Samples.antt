-- Examples: what the codes of functions cost at most, worked out.
use Rattle.std.specs.Prelude.{◌≡◌, [], ◌∷◌}
use Rattle.lt_code.specs.Samples.{empty, calling, counting}
use Rattle.lt_code.specs.Costs.{of_function}

-- Each has three nodes for its parameter and two for its returns. The second has seven for its array and eight that store two characters; the value
-- that it returns has ten for `g(x)`, nine for `g(1)`, two for their sum and one for the mark, and its `return` has two. The third has two ticks of
-- the loop and three for its test, a tick, an lvalue and seven more for `x--`, and four for its `return`.
abbrev pub CostsAreWorkedOut : Type 0
CostsAreWorkedOut =
    (of_function (empty ∷ []) empty ≡ record { nodes = 5; registers = 0; loops = 0; calls = [] })
    × (of_function (empty ∷ calling ∷ []) calling ≡ record { nodes = 44; registers = 3; loops = 0; calls = 0 ∷ 0 ∷ [] })
    × (of_function (counting ∷ []) counting ≡ record { nodes = 23; registers = 4; loops = 1; calls = [] })
