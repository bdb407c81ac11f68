use Rattle.std.proofs.Common.{◌≡◌, List, refl, sym, ap, subst, ◌∙◌}
use Rattle.lt_tree.specs.Typing.ProgramView.{program_of}
use Rattle.lt_ir.specs.declared.code.Code.{Code}
use Rattle.lt_ir.specs.declared.graph.Graph.{Graph}
use Rattle.lt_tables.specs.Views.{program_at}
use Rattle.lt_tables.specs.Lookups.{stubs_of}
use Rattle.lt_lower.specs.Programs.{CodesStand}
use Rattle.lt_lower.proofs.Programs.{has_program, is_frugal, graph_in_range, have_tables, turn_by_ticks}
use Rattle.lt_lower.proofs.program.lower.Goals as goal

pub invariant_of-result : goal.invariant_of-result
invariant_of-result c =
    let tables = c.in_ok-tables.tables in
    let same : program_at tables ≡ program_of c.args.program.now = ap (λ p. program_of p.now) c.in_ok-tables.ensures.program in
    let stubs : tables.stubs.items ≡ stubs_of (program_at tables) = c.in_ok-tables.ensures.stubs ∙ ap stubs_of (sym same) in
    let Are : List Code → Type 0 = λ its. CodesStand tables tables.program.now.functions.items its in
    let all = subst Are (sym c.new-2.ensures) c.in_ok-codes.ensures in
    let ranges = tables.program.now.in_range in
    record {
      in_range = graph_in_range tables stubs ranges c.new-2.result c.new-3.result c.new-4.result c.new-5.result all
          (c.new-3.ensures ∙ c.in_ok-statics.ensures) (c.new-4.ensures ∙ c.in_ok-labels.ensures) c.new-5.ensures;
      tables = have_tables tables stubs ranges c.new-2.result all;
      turns = turn_by_ticks tables stubs ranges c.new-2.result all;
    }

pub returns-clause-code : goal.returns-clause-code
returns-clause-code c =
    let tables = c.in_ok-tables.tables in
    let same : program_at tables ≡ program_of c.args.program.now = ap (λ p. program_of p.now) c.in_ok-tables.ensures.program in
    let stubs : tables.stubs.items ≡ stubs_of (program_at tables) = c.in_ok-tables.ensures.stubs ∙ ap stubs_of (sym same) in
    let Are : List Code → Type 0 = λ its. CodesStand tables tables.program.now.functions.items its in
    let all = subst Are (sym c.new-2.ensures) c.in_ok-codes.ensures in
    has_program tables stubs tables.program.now.in_range (program_of c.args.program.now) _ same refl (c.new-3.ensures ∙ c.in_ok-statics.ensures)
    (c.new-4.ensures ∙ c.in_ok-labels.ensures) c.new-5.ensures all

pub returns-clause-bounds : goal.returns-clause-bounds
returns-clause-bounds c =
    let tables = c.in_ok-tables.tables in
    let same : program_at tables ≡ program_of c.args.program.now = ap (λ p. program_of p.now) c.in_ok-tables.ensures.program in
    let stubs : tables.stubs.items ≡ stubs_of (program_at tables) = c.in_ok-tables.ensures.stubs ∙ ap stubs_of (sym same) in
    let Are : List Code → Type 0 = λ its. CodesStand tables tables.program.now.functions.items its in
    let all = subst Are (sym c.new-2.ensures) c.in_ok-codes.ensures in
    let ranges = tables.program.now.in_range in
    let graph : Graph = record {
      codes = c.new-2.result;
      statics = c.new-3.result;
      labels = c.new-4.result;
      stubs = c.new-5.result;
      model = c.args.program.now.model;
      in_range = graph_in_range tables stubs ranges c.new-2.result c.new-3.result c.new-4.result c.new-5.result all
          (c.new-3.ensures ∙ c.in_ok-statics.ensures) (c.new-4.ensures ∙ c.in_ok-labels.ensures) c.new-5.ensures;
      tables = have_tables tables stubs ranges c.new-2.result all;
      turns = turn_by_ticks tables stubs ranges c.new-2.result all;
    } in
    c.frugal_graphs_are_bounded.ensures (program_of c.args.program.now) graph (is_frugal tables stubs ranges (program_of c.args.program.now) graph same all)
