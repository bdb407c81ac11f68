use Rattle.std.proofs.Common.{map, drop}
use Rattle.lt_tree.specs.Typing.EntityView.{label_of}
use Rattle.lt_replay.specs.Drafts.{HasLabels}
use Rattle.lt_replay.proofs.draft.labels_by_id.Given as goal

abbrev pub invariant-labels : goal.invariant-labels
invariant-labels l = HasLabels (map label_of (drop l.at l.labels)) l.found
