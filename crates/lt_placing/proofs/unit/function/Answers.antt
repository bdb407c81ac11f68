use Rattle.lt_placing.proofs.StatementParts.{function_is}
use Rattle.lt_placing.proofs.unit.function.Goals as goal

pub returns : goal.returns
returns c =
    function_is _ _ _ _ _ _ _ _ _ _ _ _ _ _ c.in_ok-starts.ensures c.in_ok-specifiers.ensures c.in_ok-declarator.ensures c.in_ok-body.ensures c.as_slice.ensures.value c.in_ok-body-2.ensures
