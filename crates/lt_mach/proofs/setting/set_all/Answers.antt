use Rattle.std.proofs.Common.{◌+◌, ◌∙◌, Ok, drop, get_or}
use Rattle.lt_ir.specs.Starting.{set_one, set_all}
use Rattle.lt_acts.specs.Acts.{on}
use Rattle.lt_mach.proofs.Passing.{first_gives}
use Rattle.lt_mach.proofs.SetCells.{set_next, set_so}
use Rattle.lt_mach.proofs.setting.set_all.Goals as goal

pub loop-it-preserved : goal.loop-it-preserved
loop-it-preserved c = record {
  leads = λ list are at.
      let m = c.args.memory.now.model in
      let cells = c.args.cells.now in
      let i = c.loop-it.it-index in
      let it = c.it-item.result in
      let h = set_so _ _ list it (get_or cells i it) c.loop-it.memory.blocks c.set_one.new.memory.blocks (Ok tt) c.loop-it.invariant.model c.it-item.is (c.in_ok-set_one.ensures.sets list are) in
      c.loop-it.invariant.leads list are at
      ∙ set_next m list cells i it (on c.loop-it.memory.blocks at) c.loop-it-test.true
      ∙ first_gives (set_one m list (get_or cells i it)) (λ _. set_all m list (drop (i + 1) cells)) (on c.loop-it.memory.blocks at) (on c.set_one.new.memory.blocks at) tt (h at);
  model = c.set_one.ensures.model ∙ c.loop-it.invariant.model;
}
