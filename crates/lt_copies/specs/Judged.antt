-- Whether nodes may be copied, along the list of a unit's nodes.
use Rattle.std.specs.Prelude.{ℕ, suc, ◌+◌, ◌-◌, ◌^◌, min, Bool, true, if◌then◌else◌, List, [], ◌∷◌, length, take, drop}
use Rattle.std.specs.List.{list_all}
use Rattle.lt_tree.specs.declared.declarator.DeclaratorPart.{DeclaratorPart}
use Rattle.lt_tree.specs.declared.declarator.DeclaratorPart.TheBlock as at
use Rattle.lt_tree.specs.Tree as c
use Rattle.lt_tree.specs.View.{parameters_of}
use Rattle.lt_tree.specs.Nodes.{Node, an_external, a_declared_item, a_statement}
use Rattle.lt_objectives.specs.Tags.{Tags, tags_in, tags_in_parameters, tags_of_parameters, are_known_parameters, fits}
use Rattle.lt_sites.specs.Sites.{Sized}
use Rattle.lt_copies.specs.Blocks.{BlocksValue, tags_of, declares_all, opened, closed}

-- The blocks around what is inside of a node: some nodes declare tags, and some begin a block, behind whose part so many nodes stand.
abbrev pub entered : Node → ℕ → BlocksValue → BlocksValue
entered (an_external (c.Defines s d body)) behind blocks = declares_all (tags_of_parameters d) (opened behind (declares_all (tags_in s) blocks))
entered (an_external (c.Declared d)) behind blocks = declares_all (tags_in d.specifiers) blocks
entered (a_declared_item d) behind blocks = declares_all (tags_in d.specifiers) blocks
entered (a_statement (c.Compound items)) behind blocks = opened behind blocks
entered (a_statement (c.For (c.Declares d) test step x)) behind blocks = declares_all (tags_in d.specifiers) (opened behind blocks)
entered node behind blocks = blocks

-- the same, where so many nodes are left with this one
abbrev pub inside : ℕ → Sized → BlocksValue → BlocksValue
inside count site blocks = entered site.node (count - site.size) (closed count blocks)

-- whether each of these nodes may be copied
abbrev pub judged : List Sized → BlocksValue → List Bool
judged [] blocks = []
judged (site ∷ sites) blocks =
    let within = inside (suc (length sites)) site blocks in fits (tags_of within.frames) site.node ∷ judged sites within

-- whether each node of the part that begins with each of these may be copied, where that is known of each node
abbrev pub whole_parts : List Bool → List Sized → List Bool
whole_parts fitting [] = []
whole_parts fitting (site ∷ sites) = list_all (λ it. it) (take site.size fitting) ∷ whole_parts (drop 1 fitting) sites

-- how many nodes fit from one on, before one that doesn't, where so many do behind it; where there is no such node, the greatest number
abbrev pub run_from : Bool → ℕ → ℕ
run_from fits behind = if fits then min (behind + 1) (2 ^ 64 - 1) else 0

-- how many of these fit, before one that doesn't
abbrev pub run_of : List Bool → ℕ
run_of [] = 2 ^ 64 - 1
run_of (one ∷ rest) = run_from one (run_of rest)

-- ---- one part of a declarator

-- the tags in its parameters
abbrev pub tags_in_part : DeclaratorPart → Tags
tags_in_part (at.Function parameters) = tags_in_parameters (parameters_of parameters)
tags_in_part part = []

-- whether its parameters declare nothing
abbrev pub is_known_part : Tags → DeclaratorPart → Bool
is_known_part tags (at.Function parameters) = are_known_parameters tags (parameters_of parameters)
is_known_part tags part = true
