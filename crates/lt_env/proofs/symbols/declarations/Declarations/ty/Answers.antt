use Rattle.std.proofs.Common.{◌∙◌, ap, Some, None}
use Rattle.std.specs.Prelude.{option_map}
use Rattle.lt_tree.specs.Typing.TypeRows.{type_in}
use Rattle.lt_env.proofs.DeclaredNames.{type_found}
use Rattle.lt_env.proofs.symbols.declarations.Declarations.ty.Goals as goal

pub returns-in_err-ty : goal.returns-in_err-ty
returns-in_err-ty c = λ types.
    ap (option_map (type_in types)) c.from_residual.ensures
    ∙ type_found c.self.inside.types c.self.inside.list.items c.args.self.now c.args.name.now None c.self.invariant c.self.view_is c.in_err-ty.ensures.value types

pub returns : goal.returns
returns c = λ types.
    type_found c.self.inside.types c.self.inside.list.items c.args.self.now c.args.name.now (Some c.in_ok-ty.ty.now) c.self.invariant c.self.view_is c.in_ok-ty.ensures.value types
