-- What a program knows of the nodes of a unit, by their numbers.
use Rattle.std.specs.Prelude.{◌≡◌, ℕ, Bool, false, List, [], map, Option, Some, None}
use Rattle.lt_tree.specs.Tree as c
use Rattle.lt_tree.specs.Typing.Types.{CType, Void}
use Rattle.lt_tree.specs.Typing.Constants.{is_number}
use Rattle.lt_tree.specs.Typing.Entities.{Fact, Function}
use Rattle.lt_tree.specs.Typing.Programs.{Program}
use Rattle.lt_objectives.specs.Places.{sites, fact_at, type_at, is_constant}
use Rattle.lt_objectives.specs.Objectives.{parameters_at}
use Rattle.lt_facts.specs.declared.types.Family.{Family}
use Rattle.lt_facts.specs.Indices.{at_place}
use Rattle.lt_facts.specs.Families.{family}

-- At each number stands the index of the fact that is known of the node.
abbrev pub AreFactIndices : c.Unit → Program → List (Option ℕ) → Type 0
AreFactIndices unit program indices = map (at_place program.facts) indices ≡ map (λ site. fact_at unit program site.number) (sites unit)

abbrev pub parameters_of : Option Function → List ℕ
parameters_of None = []
parameters_of (Some f) = f.parameters

-- At each number stands the index of the function that is defined there.
abbrev pub AreFunctionIndices : c.Unit → Program → List (Option ℕ) → Type 0
AreFunctionIndices unit program indices = map (λ index. parameters_of (at_place program.functions index)) indices ≡ map (λ site. parameters_at unit program site.number) (sites unit)

-- ---- by number

abbrev pub constants : c.Unit → Program → List Bool
constants unit program = map (λ site. is_constant unit program site.number) (sites unit)

abbrev pub families : c.Unit → Program → List Family
families unit program = map (λ site. family program.model (type_at unit program site.number)) (sites unit)

-- ---- of a fact that may be absent

abbrev pub is_constant_fact : Option Fact → Bool
is_constant_fact None = false
is_constant_fact (Some fact) = is_number fact.constancy

abbrev pub type_of_fact : Option Fact → CType
type_of_fact None = Void
type_of_fact (Some fact) = fact.type
