use Rattle.std.proofs.Common.{ℕ, suc, List, length, Option, Some, None, if◌then◌else◌, sym, ap, ◌∙◌}
use Rattle.lt_tree.specs.Typing.Types.{CType}
use Rattle.lt_tree.specs.Typing.TypeRows.{type_in}
use Rattle.lt_tree.specs.Typing.Filling.{is_character_array, elements_begun}
use Rattle.lt_table.proofs.TableFound.{then_ok}
use Rattle.lt_unit.proofs.initialiser.lengths.listed_length.Goals as goal

abbrev by_text : CType → ℕ → Option (List ℕ) → ℕ
by_text t begun None = begun
by_text t begun (Some bytes) = if is_character_array t then suc (length bytes) else begun

pub returns-in-None : goal.returns-in-None
returns-in-None c = then_ok c.elements_begun.result (λ n made longer h known k filled is.
    made longer h known k ∙ ap (elements_begun known) (sym is) ∙ ap (by_text (type_in longer c.args.t) (elements_begun known filled.left)) c.in-None.ensures)
    c.elements_begun.ensures
