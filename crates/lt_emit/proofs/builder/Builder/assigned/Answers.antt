use Rattle.std.proofs.Common.{subst}
use Rattle.lt_tree.specs.Typing.TypeRows.{type_in}
use Rattle.lt_ir.specs.declared.node.Access.{Access}
use Rattle.lt_emit.specs.Emission.{here_of, site_in}
use Rattle.lt_emit.specs.Accesses.{IsAccess}
use Rattle.lt_emit.proofs.Accessing.{struct_is_assigned, scalar_is_assigned}
use Rattle.lt_emit.proofs.Spent.{within_here, fitting}
use Rattle.lt_emit.proofs.builder.Builder.assigned.Goals as goal

pub returns-in-Struct : goal.returns-in-Struct
returns-in-Struct c =
    within_here c.emit.ensures.code (λ from it p is.
    let here = here_of c.args.self.now in
    let Is : Access → Type 0 = λ a. IsAccess c.args.ty a here it in (
      p.1.1,
      struct_is_assigned (site_in here it) (type_in here.types c.args.ty) c.in-Struct.shape c.args.place c.args.value _ _
          (subst Is c.in-Struct.is is) p.0,
    )) (grind fitting)

pub returns-in-Scalar : goal.returns-in-Scalar
returns-in-Scalar c =
    within_here c.emit-in-Scalar.ensures.code (λ from it p is.
    let here = here_of c.args.self.now in
    let Is : Access → Type 0 = λ a. IsAccess c.args.ty a here it in (
      p.1.1,
      scalar_is_assigned (site_in here it) (type_in here.types c.args.ty) c.in-Scalar.ty c.args.place c.args.value _ _
          (subst Is c.in-Scalar.is is) p.0,
    )) (grind fitting)
