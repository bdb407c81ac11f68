use Rattle.lt_decl.proofs.NameRows.{hides_same, parameters_declared}
use Rattle.lt_decl.proofs.names.declare_all.Goals as goal

pub returns-in-Listed : goal.returns-in-Listed
returns-in-Listed c = hides_same _ _ _ _ _ (parameters_declared c.args.parameters.now c.in-Listed.list _ _ c.in-Listed.is c.as_slice.ensures.value) c.declare_list.ensures
