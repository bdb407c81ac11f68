use Rattle.std.proofs.Common.{sym, ◌∙◌}
use Rattle.lt_input_wants.proofs.PlaceMaps.{put_at}
use Rattle.lt_input_wants.proofs.wants.say.Goals as goal

pub returns : goal.returns
returns c = put_at c.args.wants.now c.insert.new.self c.args.name c.args.offset c.args.want (sym c.contains_key.ensures ∙ c.if-contains_key.false) c.in_ok-insert.ensures.updates.0
