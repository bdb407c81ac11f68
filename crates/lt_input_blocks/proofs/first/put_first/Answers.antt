use Rattle.std.proofs.Common.{sym, ◌∙◌}
use Rattle.lt_input_blocks.proofs.FoundLaws.{found_put, found_kept}
use Rattle.lt_input_blocks.proofs.first.put_first.Goals as goal

pub returns-then-contains_key : goal.returns-then-contains_key
returns-then-contains_key g c = found_kept c.args.map.now c.args.name c.args.value (sym c.contains_key.ensures ∙ c.if-contains_key.true)

pub returns : goal.returns
returns g c = found_put c.args.map.now c.insert.new.self c.args.name c.args.value (sym c.contains_key.ensures ∙ c.if-contains_key.false) c.in_ok-insert.ensures.updates.0
