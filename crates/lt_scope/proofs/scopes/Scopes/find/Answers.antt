use Rattle.std.proofs.Common.{◌∙◌, Some, None}
use Rattle.lt_scope.proofs.Standings.{map_finds}
use Rattle.lt_scope.proofs.scopes.Scopes.find.Goals as goal

pub returns-in_err-standing : goal.returns-in_err-standing
returns-in_err-standing g c =
    c.from_residual.ensures ∙ map_finds c.args.name.now c.self.inside.frames.items c.self.inside.newest c.args.self.now None c.self.invariant c.self.view_is c.in_err-standing.ensures.value

pub returns : goal.returns
returns g c =
    map_finds c.args.name.now c.self.inside.frames.items c.self.inside.newest c.args.self.now (Some c.in_ok-standing.standing.now) c.self.invariant c.self.view_is c.in_ok-standing.ensures.value
