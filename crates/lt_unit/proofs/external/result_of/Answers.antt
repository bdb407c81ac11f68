use Rattle.std.proofs.Common.{ap, sym, ◌∙◌}
use Rattle.std.specs.Prelude.{option_map, unwrap_or}
use Rattle.lt_tree.specs.Typing.Types.{Void}
use Rattle.lt_tree.specs.Typing.TypeRows.{type_in}
use Rattle.lt_tree.specs.Typing.UnitTyping as typing
use Rattle.lt_env.proofs.Goings.{longer_still}
use Rattle.lt_env.proofs.Judgements.{judged, widens_none}
use Rattle.lt_unit.proofs.external.result_of.Goals as goal

pub returns-in-Some : goal.returns-in-Some
returns-in-Some c =
    let found = rw c.table.ensures at c.in_ok-found.ensures in
    judged {f = λ types known. typing.result_of (type_in types c.args.t)} widens_none
    (λ types more. ap (λ o. unwrap_or (option_map (type_in types) o) Void) (sym c.in-Some.is) ∙ found types more)

pub returns-in_ok-void-in-None : goal.returns-in_ok-void-in-None
returns-in_ok-void-in-None c =
    let found = rw c.table.ensures at c.in_ok-found.ensures in
    judged {f = λ types known. typing.result_of (type_in types c.args.t)} c.void.ensures.widens
    (λ types more.
    c.in_ok-void-in-None.ensures.made types more
    ∙ ap (λ o. unwrap_or (option_map (type_in types) o) Void) (sym c.in-None.is)
    ∙ found types (longer_still _ _ _ c.void.ensures.widens.grows more))
