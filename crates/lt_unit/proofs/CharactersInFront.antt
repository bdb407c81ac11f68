-- Arrays of characters for which string literals are.
use Rattle.std.proofs.Common.{◌≡◌, true, List, [], ◌++◌, Option, Some, None, sym, ap, ◌∙◌}
use Rattle.lt_tree.specs.Typing.Types.{CType}
use Rattle.lt_tree.specs.Typing.Entities.{Known}
use Rattle.lt_tree.specs.Typing.Filling.{Run, opened, is_character_array}
use Rattle.lt_unit.specs.declared.initialiser.left.Part.{Part}
use Rattle.lt_unit.specs.declared.initialiser.left.Left.{Left}
use Rattle.lt_unit.specs.LeftParts.{run_of, count_of, runs_behind, runs_in, runs_of, begins_with_characters, PartIs, CharactersAre}
use Rattle.lt_unit.proofs.LeftLists.{all_runs}
use Rattle.lt_unit.proofs.Openings.{opened_more}

-- what is in front is opened alone
pub opened_front : (types : List CType) (known : Known) (top : Left) (below alone none : List Left) → none ≡ []
    → runs_of types alone ≡ opened known is_character_array (runs_in types top ++ runs_of types none)
    → begins_with_characters (runs_of types alone ++ runs_of types below) ≡ begins_with_characters (opened known is_character_array (runs_in types top ++ runs_of types below))
opened_front types known top below alone none e f =
    let first = run_of types top.first (count_of top.behind) in
    let itself : runs_of types alone ≡ opened known is_character_array (runs_in types top) =
    f ∙ ap (λ l. opened known is_character_array (runs_in types top ++ runs_of types l)) e ∙ ap (opened known is_character_array) (all_runs (runs_in types top)) in
    ap (λ l. begins_with_characters (l ++ runs_of types below)) itself
    ∙ ap begins_with_characters (sym (opened_more known is_character_array first (runs_behind types top.behind) (runs_of types below)))

-- the part in front is an array of characters
pub part_in_front : (types : List CType) (runs before : List Run) (part : Option Part) (after : List Run) → true ≡ begins_with_characters runs → PartIs types runs before part after → CharactersAre types runs before part after
part_in_front types runs before None after is (e, f) = (ap begins_with_characters e, f)
part_in_front types runs before (Some part) after is (count, e) = (count, e, sym (is ∙ ap begins_with_characters e))
