use Rattle.std.proofs.Common.{◌≡◌, ◌∙◌, ap, drop, length, map, arith}
use Rattle.lt_tree.specs.Typing.EntityView.{rule_of}
use Rattle.lt_tree.specs.Typing.Rules.{least}
use Rattle.lt_env.proofs.FaultLists.{one_before, none_yet}
use Rattle.lt_env.proofs.faults.Faults.least.Goals as goal

pub rules-init : goal.rules-init
rules-init c =
    let rules = c.self.inside.rules.items in
    let all : c.len-left.result ≡ length rules = omega (arith, c.self.inside.rules.ok.0) in
    record {
      left = omega arith;
      known = rw all (none_yet rules);
    }

pub index-requires : goal.index-requires
index-requires c = omega (arith, c.self.inside.rules.ok.0, c.rules.invariant.left)

pub rules-preserved : goal.rules-preserved
rules-preserved c = record {
  left = omega (arith, c.rules.invariant.left);
  known = one_before c.self.inside.rules.items c.rules.left c.index.result.now c.lesser.result c.rules.least c.rules-test.true c.rules.invariant.left c.index.ensures c.rules.invariant.known c.lesser.ensures;
}

pub returns : goal.returns
returns c =
    let none : c.rules.left ≡ 0 = omega arith in
    c.rules.invariant.known ∙ ap (λ n. least (map rule_of (drop n c.self.inside.rules.items))) none ∙ ap least c.self.view_is
