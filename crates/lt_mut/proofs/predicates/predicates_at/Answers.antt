use Rattle.std.proofs.Common.{◌≡◌, ap, ◌∙◌, map, Some, None}
use Rattle.std.proofs.lemmas.Result.{IfOk-weaker}
use Rattle.lt_tree.specs.View.{expression_of}
use Rattle.lt_survey.specs.Rounds.{ArePredicates}
use Rattle.lt_mut.specs.Candidates.{predicates}
use Rattle.lt_mut.specs.Mutations.{criterion_of}
use Rattle.lt_mut.proofs.Shown.{found_there, are_predicates, candidate_stands}
use Rattle.lt_mut.proofs.predicates.predicates_at.Goals as goal

pub returns-in_default : goal.returns-in_default
returns-in_default c unit program node known at =
    let found = found_there unit program c.args.survey.now c.args.k node None known at c.in_default.ensures in
    are_predicates unit program c.args.mutation c.args.k node None c.new.result.items found (ap (map expression_of) c.new.ensures.items)

pub returns : goal.returns
returns c unit program node known at =
    let e = expression_of c.in-Some.e.now in
    let found = found_there unit program c.args.survey.now c.args.k node (Some e) known at c.in-Some.ensures in
    let stands = candidate_stands unit program c.args.k node e found in
    IfOk-weaker c.pure_differences.result (λ made. map expression_of made.items ≡ predicates unit program (criterion_of c.args.mutation) c.args.k (Some e))
    (λ made. ArePredicates unit program (criterion_of c.args.mutation) c.args.k node made.items)
    (λ made is. are_predicates unit program c.args.mutation c.args.k node (Some e) made.items found is)
    (c.pure_differences.ensures unit program known (at ∙ ap Some stands))

pub pure_differences-requires-clause-same : goal.pure_differences-requires-clause-same
pure_differences-requires-clause-same c = ap expression_of c.deref.ensures ∙ ap expression_of c.in_ok-plain.ensures.ok ∙ c.in_ok-expression.ensures
