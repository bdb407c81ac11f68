use Rattle.lt_value.proofs.Forms.{same_lo, same_hi, same_step, same_rest}
use Rattle.lt_value.proofs.law.one_form_law.Goals as goal

pub returns-clause-lo : goal.returns-clause-lo
returns-clause-lo c = same_lo c.args.a.now c.args.b.now c.requires.forth c.requires.back

pub returns-clause-hi : goal.returns-clause-hi
returns-clause-hi c = same_hi c.args.a.now c.args.b.now c.requires.forth c.requires.back

pub returns-clause-step : goal.returns-clause-step
returns-clause-step c = same_step c.args.a.now c.args.b.now c.requires.forth c.requires.back

pub returns-clause-rest : goal.returns-clause-rest
returns-clause-rest c = same_rest c.args.a.now c.args.b.now c.requires.forth c.requires.back
