use Rattle.std.proofs.Common.{true≢false, sym}
use Rattle.lt_tree.specs.declared.typed.types.TypeRow.TheVariants as row
use Rattle.lt_table.proofs.TableFacts.{facts_own, facts_array, facts_qualified, array_within, qualified_within}
use Rattle.lt_table.proofs.table.TypeTable.facts_of_row.Goals as goal

pub returns-in-Void : goal.returns-in-Void
returns-in-Void c = facts_own c.args.self.now c.args.row.now c.args.id c.requires.place c.requires.can_follow row.Void c.in-Void.is tt c.own_facts.result c.own_facts.ensures

pub returns-in-Num : goal.returns-in-Num
returns-in-Num c = facts_own c.args.self.now c.args.row.now c.args.id c.requires.place c.requires.can_follow (row.Num c.in-Num.scalar) c.in-Num.is tt c.own_facts-in-Num.result c.own_facts-in-Num.ensures

pub returns-in-Pointer : goal.returns-in-Pointer
returns-in-Pointer c = facts_own c.args.self.now c.args.row.now c.args.id c.requires.place c.requires.can_follow (row.Pointer c.in-Pointer.target) c.in-Pointer.is tt c.own_facts-in-Pointer.result c.own_facts-in-Pointer.ensures

pub returns-in-Struct : goal.returns-in-Struct
returns-in-Struct c = facts_own c.args.self.now c.args.row.now c.args.id c.requires.place c.requires.can_follow (row.Struct c.in-Struct.number) c.in-Struct.is tt c.own_facts-in-Struct.result c.own_facts-in-Struct.ensures

pub returns-in-Function : goal.returns-in-Function
returns-in-Function c = facts_own c.args.self.now c.args.row.now c.args.id c.requires.place c.requires.can_follow (row.Function c.in-Function.field-0) c.in-Function.is tt c.own_facts-in-Function.result c.own_facts-in-Function.ensures

pub returns-in-Floating : goal.returns-in-Floating
returns-in-Floating c = facts_own c.args.self.now c.args.row.now c.args.id c.requires.place c.requires.can_follow row.Floating c.in-Floating.is tt c.own_facts-in-Floating.result c.own_facts-in-Floating.ensures

pub returns-in-Some : goal.returns-in-Some
returns-in-Some c = facts_array c.args.self.now c.args.row.now c.args.id c.requires.place c.requires.can_follow c.in-Array.t c.in-Array.length c.in-Some.facts c.in-Array.is c.in-Some.ensures.facts c.counted.result c.counted.ensures

pub returns-in-None : goal.returns-in-None
returns-in-None c = absurd (true≢false (sym (c.in-None.ensures.row.1 (array_within c.args.self.now c.args.row.now c.in-Array.t c.in-Array.length c.in-Array.is c.requires.can_follow))))

pub returns-in-Some-facts : goal.returns-in-Some-facts
returns-in-Some-facts c =
    facts_qualified c.args.self.now c.args.row.now c.args.id c.requires.place c.requires.can_follow c.in-Qualified.quals c.in-Qualified.t c.in-Some-facts.facts c.in-Qualified.is c.in-Some-facts.ensures.facts

pub returns-in-None-facts : goal.returns-in-None-facts
returns-in-None-facts c = absurd (true≢false (sym (c.in-None-facts.ensures.row.1 (qualified_within c.args.self.now c.args.row.now c.in-Qualified.quals c.in-Qualified.t c.in-Qualified.is c.requires.can_follow))))
