use Rattle.std.proofs.Common.{◌<◌, ◌≤◌, ap, length, arith}
use Rattle.std.proofs.lemmas.Result.{err_from_is_err_and}
use Rattle.lt_tree.specs.Typing.ProgramView.{program_of}
use Rattle.lt_sites.specs.Sites.{node_of}
use Rattle.lt_survey.proofs.Sites.{node_read}
use Rattle.lt_survey.proofs.Rounds.{one_node_more, no_node_more, too_few_ids}
use Rattle.lt_crit.proofs.rounds.new_marks.Goals as goal

pub returns-in_err-add_at_node-clause-ids : goal.returns-in_err-add_at_node-clause-ids
returns-in_err-add_at_node-clause-ids c = λ unit known.
    let within : c.sites.number < length c.deref-site-items.result.now = omega arith in
    let here = node_read unit c.deref-site-items.result.now c.args.survey.now.sites.items c.sites.number c.site-item.result known.sites c.deref-site-items.ensures.value within c.site-item.is in
    let left = err_from_is_err_and c.from_residual-in_err-add_at_node.result c.from_residual-in_err-add_at_node.ensures.1 in
    rw (left.1, left.2)
    (too_few_ids c.sites.new unit (program_of c.args.program.now) c.args.criterion c.args.first c.sites.number (node_of c.site-item.result.node) c.in_err-add_at_node.field-0.0 here
    (c.sites.invariant.1 unit known) (c.in_err-add_at_node.ensures.ids unit known here))

pub sites-preserved : goal.sites-preserved
sites-preserved c = (
  c.in_ok-add_at_node.ensures.within,
  λ unit known.
      let within : c.sites.number < length c.deref-site-items.result.now = omega arith in
      let here = node_read unit c.deref-site-items.result.now c.args.survey.now.sites.items c.sites.number c.site-item.result known.sites c.deref-site-items.ensures.value within c.site-item.is in
      one_node_more c.sites.new c.add_at_node.new.new unit (program_of c.args.program.now) c.args.criterion c.args.first c.sites.number (node_of c.site-item.result.node) here
      (c.sites.invariant.1 unit known) (c.in_ok-add_at_node.ensures.added unit known here),
)

pub returns-clause-numbered : goal.returns-clause-numbered
returns-clause-numbered c = λ unit known.
    let past : length c.args.survey.now.sites.items ≤ c.sites.number = omega (arith, ap length c.deref-site-items.ensures.value) in
    no_node_more c.sites.new unit (program_of c.args.program.now) c.args.criterion c.args.first c.sites.number c.args.survey.now.sites.items known.sites past (c.sites.invariant.1 unit known)
