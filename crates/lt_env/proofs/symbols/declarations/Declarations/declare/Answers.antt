use Rattle.std.proofs.Common.{◌∙◌, ◌++◌, ◌∷◌, [], ap, sym}
use Rattle.lt_env.specs.Symbols.{with_declared}
use Rattle.lt_env.proofs.NameMaps.{is_absent, is_present}
use Rattle.lt_env.proofs.DeclaredNames.{one_declared, declared_already, declared_newly}
use Rattle.lt_env.proofs.symbols.declarations.Declarations.declare.Goals.{in-Ok, in-Err+in-Some-1, in-Err+in-None-1}
use Rattle.lt_env.proofs.symbols.declarations.Declarations.declare.Goals as goal

pub returns-then-is_some : goal.returns-then-is_some
returns-then-is_some c =
    sym c.self.view_is
    ∙ declared_already c.self.inside.types c.self.inside.list.items c.args.name.now c.args.ty c.self.invariant (is_present c.get.result _ c.get.ensures.value (sym c.is_some.ensures ∙ c.if-is_some.true))
    ∙ ap (with_declared c.args.name.now c.args.ty) c.self.view_is

pub invariant_of-self-in-Ok : goal.invariant_of-self-in-Ok
invariant_of-self-in-Ok c =
    let none = is_absent c.get.result _ c.get.ensures.value (sym c.is_some.ensures ∙ c.if-is_some.false) in
    one_declared c.self.inside.types c.insert.new.self c.self.inside.list.items _ c.in_ok-key.key.items _ c.self.invariant c.in_ok-push.ensures.items (c.in_ok-key.ensures.items ∙ sym c.in_ok-name.ensures)
    (rw c.in_ok-key.ensures.items none) c.in-Ok.ensures.updates

pub returns : goal.returns
returns c =
    let none = is_absent c.get.result _ c.get.ensures.value (sym c.is_some.ensures ∙ c.if-is_some.false) in
    elim c.match-insert.branch [
      | in-Ok w ↦
          rw w.result-is
          (w.self-is ∙ c.in_ok-push.ensures.items
          ∙ ap (λ name. c.self.inside.list.items ++ record { name = name; ty = c.args.ty } ∷ []) c.in_ok-name.ensures
          ∙ declared_newly c.self.inside.types c.self.inside.list.items c.args.name.now c.args.ty c.self.invariant none
          ∙ ap (with_declared c.args.name.now c.args.ty) c.self.view_is)
      | in-Err+in-Some-1 w ↦ rw w.result-is tt
      | in-Err+in-None-1 w ↦ rw w.result-is tt
    ]
