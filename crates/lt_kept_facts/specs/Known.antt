-- What the programs of two units know of the nodes that are there without marks too.
use Rattle.std.specs.Prelude.{◌≡◌, ℕ, ◌+◌, List, [], ◌∷◌, length, map}
use Rattle.std.specs.List.{flat_map}
use Rattle.lt_tree.specs.Tree as c
use Rattle.lt_tree.specs.Nodes.{Node, nodes, in_external}
use Rattle.lt_tree.specs.Typing.Entities.{Function}
use Rattle.lt_tree.specs.Typing.Programs.{Program}
use Rattle.lt_objectives.specs.Objectives.{parameters_among, domains_of_object}
use Rattle.lt_kept_facts.specs.Asked.{kept, seen}

-- the domains of the parameters of the function that is defined at a node, if one is
abbrev pub domains_at : Program → ℕ → List c.Expression
domains_at program n = flat_map (domains_of_object program) (parameters_among program.functions n)

-- those of the functions that are defined at the nodes outside of marks among these, where the first of these has this number
abbrev pub domains_seen : Program → ℕ → List Node → List (List c.Expression)
domains_seen program k xs = map (domains_at program) (kept k xs)

-- The same data model, and the same of the nodes outside of marks, one by one: facts, and the domains of the parameters of functions.
pub record KnowTheSame (program other : Program) : Type 0 where
  pub model : program.model ≡ other.model
  pub facts : seen program.facts 0 (nodes program.unit) ≡ seen other.facts 0 (nodes other.unit)
  pub parameters : domains_seen program 0 (nodes program.unit) ≡ domains_seen other 0 (nodes other.unit)

-- The functions with bodies are in the order of their definitions among these, the first of which has this number; each has the number of its own.
abbrev pub StandAt : List c.External → ℕ → List Function → Type 0
StandAt [] k [] = Unit {0}
StandAt [] k (f ∷ fs) = ⊥
StandAt (c.Declared d ∷ xs) k fs = StandAt xs (k + length (in_external (c.Declared d))) fs
StandAt (c.Defines s d body ∷ xs) k [] = ⊥
StandAt (c.Defines s d body ∷ xs) k (f ∷ fs) = (f.node ≡ k) × StandAt xs (k + length (in_external (c.Defines s d body))) fs
