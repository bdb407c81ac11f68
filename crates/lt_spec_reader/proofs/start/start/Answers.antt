use Rattle.std.proofs.Common.{Bor, ap, sym, ◌∙◌}
use Rattle.lt_tree.specs.declared.typed.program.Program.{Program}
use Rattle.lt_input_names.specs.Blocks.{scope_with}
use Rattle.lt_spec_reader.proofs.StartLaws.{start_is, nothing_at, nothing_in}
use Rattle.lt_spec_reader.proofs.start.start.Goals as goal

pub returns-clause-ready : goal.returns-clause-ready
returns-clause-ready c = record {
  names = c.in_ok-names.ensures.names;
  types = c.in_ok-types.ensures.types;
  program = ap (λ (b : Bor Program). b.now) c.in_ok-types.ensures.program ∙ sym c.in_ok-names.ensures.fresh.program;
}

pub returns-clause-behind : goal.returns-clause-behind
returns-clause-behind c = λ rows name made named.
    start_is c.args.program.now rows c.args.number name c.args.blocks.now _ c.in_ok-names.ensures.names c.in_ok-names.ensures.fresh
    (c.in_ok-names.ensures.scope ∙ ap (λ k. scope_with c.args.program.now k c.args.blocks.now) c.in_ok-place_of.ensures)
    c.in_ok-types.ensures.types (ap (λ (b : Bor Program). b.now) c.in_ok-types.ensures.program) c.new-3.ensures.items
    (nothing_at c.new-4.result c.new-4.ensures.empty) (nothing_in c.new-5.result c.new-5.ensures.empty) made named
