use Rattle.std.proofs.Common.{◌≡◌, subst, true, []}
use Rattle.lt_mach_parts.proofs.Scoped.{empty_tells}
use Rattle.lt_mach_parts.proofs.bounds.Bounds.is_empty.Goals as goal

pub returns : goal.returns
returns c = subst (λ scope. (c.is_empty.result ≡ true → scope ≡ []) × (scope ≡ [] → c.is_empty.result ≡ true)) c.self.view_is (empty_tells c.self.inside.list.items c.self.inside.list.len c.is_empty.result c.self.inside.list.ok.0 c.is_empty.ensures)
