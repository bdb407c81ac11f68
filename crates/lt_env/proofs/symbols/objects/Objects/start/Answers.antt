use Rattle.lt_env.proofs.LinkedObjects.{started}
use Rattle.lt_env.proofs.symbols.objects.Objects.start.Goals as goal

pub invariant_of-self : goal.invariant_of-self
invariant_of-self c = started c.self.inside.linked c.self.inside.list.items _ c.args.number c.args.ty c.args.start c.self.invariant c.start_in.ensures
