use Rattle.std.proofs.Common.{ap, ◌∙◌, ◌-◌, arith}
use Rattle.lt_sites.specs.Listed.{entries}
use Rattle.lt_sites.proofs.Grown.{no_fewer, came}
use Rattle.lt_sites.proofs.lister.sites.Lister.head.Goals as goal

pub overflow_sub-result : goal.overflow_sub-result
overflow_sub-result c = omega (arith, no_fewer _ (entries c.args.self.now) (entries c.for_start.new.self) c.len-behind.result c.in_ok-for_start.ensures c.len-behind.ensures)

pub returns-clause-count : goal.returns-clause-count
returns-clause-count c =
    ap (λ n. n - c.len-behind.result) c.len.ensures ∙ came _ (entries c.args.self.now) (entries c.for_start.new.self) c.len-behind.result c.in_ok-for_start.ensures c.len-behind.ensures
