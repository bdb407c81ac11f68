-- The objects of a program in memory that are there from the start.
use Rattle.std.specs.Prelude.{ℕ, Bool, false, List, [], map, Option, Some, None, take, count_by, slice_get, slice_index_or, ◌≡◌, if◌then◌else◌}
use Rattle.lt_tree.specs.declared.typed.entity.Object.{Object}
use Rattle.lt_tree.specs.declared.typed.statement.ForStart.{ForStart}
use Rattle.lt_tree.specs.declared.typed.statement.ForStart.TheVariants as start
use Rattle.lt_tables.specs.declared.objects.Blocks.{Blocks}
use Rattle.lt_tree.specs.Typing.Entities.{is_static}
use Rattle.lt_tree.specs.Typing.EntityView.{life_of}

abbrev pub is_made_first : Object → Bool
is_made_first object = is_static (life_of object.life)

abbrev pub is_first_at : List Object → ℕ → Bool
is_first_at objects n = elim (slice_get objects n) [ None ↦ false | Some object ↦ is_made_first object ]

-- the number of object n among them
abbrev pub number_of : List Object → ℕ → Option ℕ
number_of objects n = if is_first_at objects n then Some (count_by is_made_first (take n objects)) else None

-- the objects that the head of a `for` begins
abbrev pub begun_in : ForStart → List ℕ
begun_in (start.Locals locals) = map (λ local. local.object) locals.items
begun_in _ = []

-- blocks have for each number how many objects before it are there from the start
abbrev pub AreBlocksOf : List Object → Blocks → Type 0
AreBlocksOf objects blocks = (n : ℕ) → slice_index_or blocks.before.items n blocks.all ≡ count_by is_made_first (take n objects)
