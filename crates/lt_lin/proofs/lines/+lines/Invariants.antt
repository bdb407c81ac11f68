use Rattle.std.proofs.Common.{◌+◌, ◌*◌, ◌≤◌, drop}
use Rattle.lt_lin.specs.Lines.{lines_of}
use Rattle.lt_lin.proofs.Following.{Following, weight, weight_of}
use Rattle.lt_lin.proofs.lines.+lines.Given as goal

abbrev pub invariant-follow-lines : goal.invariant-follow-lines
invariant-follow-lines l = record {
  following : Following (lines_of l.lines) l.fn.desk.known.rows l.fn.desk.limit (lines_of (drop l.line-index l.lines)) l.seen l.desk.known.rows l.desk.limit;
  left : weight (lines_of (drop l.line-index l.lines)) ≤ weight (lines_of l.lines);
}

abbrev pub decreases-follow : goal.decreases-follow
decreases-follow l = 4 * weight (lines_of l.lines.now) + 1

abbrev pub decreases-take : goal.decreases-take
decreases-take l = 4 * weight_of l.line.now

abbrev pub decreases-take_split : goal.decreases-take_split
decreases-take_split l = 4 * (weight (lines_of l.low.now) + weight (lines_of l.high.now)) + 3

abbrev pub decreases-check_side : goal.decreases-check_side
decreases-check_side l = 4 * weight (lines_of l.lines.now) + 2
