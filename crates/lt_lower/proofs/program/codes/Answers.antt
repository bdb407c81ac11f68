use Rattle.lt_lower.proofs.Programs.{codes_more}
use Rattle.lt_lower.proofs.program.codes.Goals as goal

pub functions-preserved : goal.functions-preserved
functions-preserved c =
    codes_more c.args.tables.now c.deref-function-items.result.now c.functions.function-index c.function-item.result c.functions.all.items
    c.push.new.self.items c.in_ok-function_code.field-0 c.functions-test.true c.function-item.is c.functions.invariant
    c.in_ok-function_code.ensures c.in_ok-push.ensures.items
