-- The blocks around a node of a unit, with the tags that they declare.
use Rattle.std.specs.Prelude.{ℕ, nat_le, Bool, false, if◌then◌else◌, List, [], ◌∷◌, map, drop}
use Rattle.std.specs.List.{flat_map}
use Rattle.lt_scope.specs.Names.{Bound, binding}
use Rattle.lt_objectives.specs.Tags.{Tags}

-- the tags that blocks declare, the innermost block first and in each the latest tag; they stand for nothing more
abbrev pub Frames : Type 0
Frames = List (List (Bound (Unit {0})))

-- The blocks that are open, and of each but the file how many nodes stand behind it, of the innermost first.
pub record BlocksValue : Type 0 where
  pub frames : Frames
  pub behind : List ℕ

-- the tags in scope
abbrev pub tags_of : Frames → Tags
tags_of frames = flat_map (map (λ bound. bound.name)) frames

-- with a tag that the innermost block declares
abbrev pub declares : List ℕ → BlocksValue → BlocksValue
declares tag blocks = record { frames = binding tag tt blocks.frames; behind = blocks.behind }

-- with several, of which the first is declared last
abbrev pub declares_all : Tags → BlocksValue → BlocksValue
declares_all [] blocks = blocks
declares_all (tag ∷ rest) blocks = declares tag (declares_all rest blocks)

-- with one more block
abbrev pub opened : ℕ → BlocksValue → BlocksValue
opened behind blocks = record { frames = [] ∷ blocks.frames; behind = behind ∷ blocks.behind }

-- without the innermost block
abbrev pub left : BlocksValue → BlocksValue
left blocks = record { frames = drop 1 blocks.frames; behind = drop 1 blocks.behind }

-- whether the innermost block ends before a node, where so many nodes are left with it
abbrev pub is_over : ℕ → List ℕ → Bool
is_over count [] = false
is_over count (behind ∷ outer) = nat_le count behind

-- without the blocks that end before it
abbrev pub closed_in : ℕ → Frames → List ℕ → BlocksValue
closed_in count frames [] = record { frames = frames; behind = [] }
closed_in count frames (behind ∷ outer) = if nat_le count behind then closed_in count (drop 1 frames) outer else record { frames = frames; behind = behind ∷ outer }

abbrev pub closed : ℕ → BlocksValue → BlocksValue
closed count blocks = closed_in count blocks.frames blocks.behind
