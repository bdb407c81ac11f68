use Rattle.std.proofs.Common.{◌≤◌, ◌<◌, length, arith}
use Rattle.std.proofs.lemmas.Result.{err_from_is_err_and}
use Rattle.lt_survey.proofs.Sites.{node_before}
use Rattle.lt_survey.proofs.Rounds.{predicates_more, predicates_out, no_node_more}
use Rattle.lt_mut.specs.Mutations.{criterion_of}
use Rattle.lt_mut.proofs.round.new_marks.Goals as goal

pub returns-in_err-add-clause-ids : goal.returns-in_err-add-clause-ids
returns-in_err-add-clause-ids c unit program known =
    let p = err_from_is_err_and c.from_residual-in_err-add.result c.from_residual-in_err-add.ensures.1 in
    let sites = c.args.survey.now.sites.items in
    let within : c.nodes.k < length sites = omega (arith, c.nodes-test.true, c.len-k-end.ensures, c.args.survey.now.sites.ok.0) in
    let there = node_before unit sites c.nodes.k known.sites within in
    rw (p.1, p.2) (predicates_out c.nodes.new unit program (criterion_of c.args.mutation) c.criterion.result c.args.first c.nodes.k there.0 c.in_ok-predicates.predicates.items c.in_err-add.field-0.0
    c.criterion.ensures there.1 (c.in_ok-predicates.ensures unit program there.0 known there.1) (c.nodes.invariant.0 unit program known) c.in_err-add.ensures.ids)

pub nodes-preserved : goal.nodes-preserved
nodes-preserved c =
    let sites = c.args.survey.now.sites.items in
    let within : c.nodes.k < length sites = omega (arith, c.nodes-test.true, c.len-k-end.ensures, c.args.survey.now.sites.ok.0) in (
      λ unit program known. let there = node_before unit sites c.nodes.k known.sites within in
          predicates_more c.nodes.new c.add.new.self unit program (criterion_of c.args.mutation) c.criterion.result c.args.first c.nodes.k there.0 c.in_ok-predicates.predicates.items
          c.criterion.ensures there.1 (c.in_ok-predicates.ensures unit program there.0 known there.1) (c.nodes.invariant.0 unit program known) c.in_ok-add.ensures.added,
      c.in_ok-add.ensures.within,
    )

pub returns-clause-marks : goal.returns-clause-marks
returns-clause-marks c unit program known =
    let sites = c.args.survey.now.sites.items in
    let past : length sites ≤ c.nodes.k = omega (arith, c.nodes-test.false, c.len-k-end.ensures, c.args.survey.now.sites.ok.0) in
    no_node_more c.nodes.new unit program (criterion_of c.args.mutation) c.args.first c.nodes.k sites known.sites past (c.nodes.invariant.0 unit program known)
