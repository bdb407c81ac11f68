use Rattle.std.proofs.Common.{sym, ap, ◌∙◌, arith}
use Rattle.lt_expr.specs.Found.{found}
use Rattle.lt_expr.proofs.Names.{found_none, found_within, found_there}
use Rattle.lt_expr.proofs.typedefs.Typedefs.find.Goals as goal

pub index-requires : goal.index-requires
index-requires c =
    omega (arith, found_within c.self.inside.binders.items c.self.inside.newest c.args.word.now c.in-Some.place.now c.self.invariant (sym c.in-Some.ensures.value))

pub returns-in-None : goal.returns-in-None
returns-in-None c =
    found_none c.self.inside.binders.items c.self.inside.newest c.args.word.now c.self.invariant (sym c.in-None.ensures.value)
    ∙ ap (λ s. found s c.args.word.now) c.self.view_is

pub returns-in-Some : goal.returns-in-Some
returns-in-Some c =
    found_there c.self.inside.binders.items c.self.inside.newest c.args.word.now c.in-Some.place.now c.index.result.now c.self.invariant (sym c.in-Some.ensures.value) c.index.ensures
    ∙ ap (λ s. found s c.args.word.now) c.self.view_is
