use Rattle.std.proofs.Common.{◌≡◌, true, Some, length, sym, ap, subst, ◌∙◌}
use Rattle.lt_ir.specs.declared.variable.Variable.TheVariants as variable
use Rattle.lt_tables.specs.Lookups.{local_number}
use Rattle.lt_emit.specs.Emission.{here_of, counts_at}
use Rattle.lt_emit.proofs.Spent.{within_here, fitting}
use Rattle.lt_emit.proofs.Begun.{own_is_local, own_shape, same_local}
use Rattle.std.proofs.lemmas.Bool.{ltb-true}
use Rattle.lt_ir.specs.Ranges.{is_variable}
use Rattle.lt_ir.specs.declared.variable.Variable.{Variable}
use Rattle.lt_emit.proofs.Variables.{variable_in}
use Rattle.lt_emit.proofs.builder.Builder.create.Goals as goal

pub returns-in-Local-clause-enters : goal.returns-in-Local-clause-enters
returns-in-Local-clause-enters c own = c.emit.ensures.enters

pub returns-in-Local-clause-code : goal.returns-in-Local-clause-code
returns-in-Local-clause-code c =
    within_here c.emit.ensures.code (λ from it p own.
    let here = here_of c.args.self.now in
    let named = own_is_local here.program here.function c.args.number own.0 own.1 own.2 own.3 in
    let same : own.0 ≡ c.in-Local.local = same_local (sym named ∙ sym c.variable.ensures ∙ c.in-Local.is) in
    let at : local_number here.function c.args.number ≡ Some c.in-Local.local = own.1 ∙ ap Some same in
    (c.in-Local.local, named ∙ ap variable.Local same, own_shape here.program here.function c.args.number c.in-Local.local at, p.0)) (grind fitting)

-- the variable is there
pub emit-requires-clause-names : goal.emit-requires-clause-names
emit-requires-clause-names c =
    let b = c.args.self.now in
    let In : Variable → Type 0 = λ v. is_variable (counts_at b) v ≡ true in
    let there = variable_in (here_of b) (length b.nodes.items) (length b.structs.items) b.registers c.args.number in
    ltb-true _ _ (subst In (sym c.variable.ensures ∙ c.in-Local.is) there)
