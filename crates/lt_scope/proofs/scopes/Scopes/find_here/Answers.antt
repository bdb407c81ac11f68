use Rattle.std.proofs.Common.{◌≡◌, ◌∙◌, sym, length, arith}
use Rattle.lt_scope.proofs.Standings.{map_finds_here, map_finds_elsewhere, map_finds_nowhere}
use Rattle.lt_scope.proofs.scopes.Scopes.find_here.Goals as goal

pub returns-in_err-standing : goal.returns-in_err-standing
returns-in_err-standing g c =
    c.from_residual.ensures ∙ map_finds_nowhere c.args.name.now c.self.inside.frames.items c.self.inside.newest c.args.self.now c.self.invariant c.self.view_is c.in_err-standing.ensures.value

pub returns-then-standing-len : goal.returns-then-standing-len
returns-then-standing-len g c =
    let count : c.len.result ≡ length c.self.inside.frames.items = omega arith in
    map_finds_here c.args.name.now c.self.inside.frames.items c.self.inside.newest c.args.self.now c.in_ok-standing.standing.now c.self.invariant c.self.view_is c.in_ok-standing.ensures.value (c.if-standing-len.true ∙ count)

pub returns-else-standing-len : goal.returns-else-standing-len
returns-else-standing-len g c =
    let count : c.len.result ≡ length c.self.inside.frames.items = omega arith in
    map_finds_elsewhere c.args.name.now c.self.inside.frames.items c.self.inside.newest c.args.self.now c.in_ok-standing.standing.now c.self.invariant c.self.view_is c.in_ok-standing.ensures.value
    (λ e. c.if-standing-len.false (e ∙ sym count))
