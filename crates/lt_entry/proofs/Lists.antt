-- The files of the linked list say what they should.
use Rattle.std.specs.Prelude.{refl}
use Rattle.std.specs.Fmt.{digits}
use Rattle.lt_model.specs.Layout.{struct_cells, struct_extent}
use Rattle.lt_token.specs.Words.{annotations, attributes, assemblers, unsupported, keywords, skipped, respelled, spells_const, spells_volatile, spells_signed, word_of}
use Rattle.lt_tree.specs.Typing.Shapes.{struct_cells_at}
use Rattle.lt_entry.specs.Examples.{list_lines, list_suite_lines, LinkedListsAreSpecified, LinkedListsAreTested, LinkedListsMeet, LinkedListsAreBuilt}

pub specified : LinkedListsAreSpecified
unfolding digits struct_cells struct_extent struct_cells_at attributes assemblers unsupported annotations keywords skipped respelled spells_const spells_volatile spells_signed word_of
specified = record { lines = list_lines; all = refl; front = record { written = refl; fit = refl }; entry = 0; first = refl; free = refl; says = refl }

pub tested : LinkedListsAreTested
unfolding digits struct_cells struct_extent struct_cells_at
tested = record { lines = list_suite_lines; all = refl; front = record { written = refl; fit = refl }; says = refl }

pub meets : LinkedListsMeet
meets = record { blocks = refl; sets = refl; cells = refl; stubs = refl; needs = refl }

pub built : LinkedListsAreBuilt
built = refl
