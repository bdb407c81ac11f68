use Rattle.std.proofs.Common.{refl, sym, subst, Some}
use Rattle.lt_table.specs.StructTables.{AreDerived, Suits, AreShared}
use Rattle.lt_table.proofs.StructTables.{structs_put, known_put, shared_put, when_ok, either_way}
use Rattle.lt_table.proofs.structs.StructTable.complete.Goals as goal

pub returns-clause-members : goal.returns-clause-members
returns-clause-members c =
    when_ok c.put.result c.put.ensures.put
    (λ put. structs_put c.args.types.now c.args.self.now c.put.new.self c.args.number c.args.members.items (record { members = Some c.args.members }) c.in_ok-facts.facts c.requires
    (subst (λ l. AreDerived c.args.types.now c.args.self.now l c.in_ok-facts.facts) c.deref.ensures.value c.in_ok-facts.ensures) put refl)

pub returns-clause-suits : goal.returns-clause-suits
returns-clause-suits c =
    either_way c.put.result c.put.ensures.put c.put.ensures.same
    (λ put. known_put c.args.types.now c.args.self.now c.put.new.self c.args.number c.args.members.items (record { members = Some c.args.members }) c.in_ok-facts.facts c.requires
    (subst (λ l. AreDerived c.args.types.now c.args.self.now l c.in_ok-facts.facts) c.deref.ensures.value c.in_ok-facts.ensures) put refl)
    (λ same. subst (Suits c.args.types.now) (sym same) c.requires)

pub returns-clause-shared : goal.returns-clause-shared
returns-clause-shared c = λ shared.
    either_way c.put.result c.put.ensures.put c.put.ensures.same
    (λ put. shared_put c.args.types.now c.args.self.now c.put.new.self c.args.number c.args.members.items (record { members = Some c.args.members }) c.in_ok-facts.facts
    (subst (λ l. AreDerived c.args.types.now c.args.self.now l c.in_ok-facts.facts) c.deref.ensures.value c.in_ok-facts.ensures) put refl shared)
    (λ same. subst AreShared (sym same) shared)
