-- What is known of types where blocks are made of them.
use Rattle.std.specs.Prelude.{◌≡◌, ℕ, ◌+◌, ◌*◌, min, false, List, [], ◌∷◌, slice_index_or}
use Rattle.lt_model.specs.Layout.{most_cells, type_cells}
use Rattle.lt_tree.specs.declared.typed.types.TypeId.{TypeId}
use Rattle.lt_tree.specs.Typing.Types.{CType, is_function, is_pointer_to_function}
use Rattle.lt_tree.specs.Typing.TypeRows.{type_in}
use Rattle.lt_tree.specs.Typing.Expressions.{has_pointer_to_function}
use Rattle.lt_input_blocks.specs.declared.facts.Part.{Part}
use Rattle.lt_input_blocks.specs.declared.facts.Part.TheVariants as part
use Rattle.lt_input_blocks.specs.declared.facts.Facts.{Facts}

-- more than an object may have cells count as one more than that
abbrev pub capped : ℕ → ℕ
capped n = min n (most_cells + 1)

-- the cells of one part, where those of structs are known
abbrev pub part_cells : (ℕ → ℕ) → Part → ℕ
part_cells known part.Nothing = 0
part_cells known part.Scalar = 1
part_cells known (part.Struct k) = known k

-- of a type that is one part
abbrev pub plain_facts : Part → Facts
plain_facts it = record { part = it; count = 1; is_function = false; is_pointer_to_function = false; are_elements_pointers_to_function = false }

-- of what has no row
abbrev pub no_facts : Facts
no_facts = plain_facts part.Nothing

pub record AreFacts (t : CType) (facts : Facts) : Type 0 where
  pub cells : (known : ℕ → ℕ) → capped (facts.count * part_cells known facts.part) ≡ capped (type_cells known t)
  pub function : facts.is_function ≡ is_function t
  pub pointer : facts.is_pointer_to_function ≡ is_pointer_to_function t
  pub elements : facts.are_elements_pointers_to_function ≡ has_pointer_to_function t

-- each of these types
abbrev pub AreAllFacts : List CType → List Facts → Type 0
AreAllFacts [] [] = Unit {0}
AreAllFacts (t ∷ ts) (it ∷ its) = AreFacts t it × AreAllFacts ts its
AreAllFacts _ _ = ⊥

abbrev pub facts_at : List Facts → TypeId → Facts
facts_at known id = slice_index_or known id.place no_facts

-- each of the types of a table, by their places
abbrev pub HaveFacts : List CType → List Facts → Type 0
HaveFacts types known = (id : TypeId) → AreFacts (type_in types id) (facts_at known id)
