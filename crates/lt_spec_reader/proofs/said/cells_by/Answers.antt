use Rattle.std.proofs.Common.{◌≡◌, ◌∙◌, ◌++◌, Bor, map, sym, ap, subst}
use Rattle.std.specs.Prelude.{flat_map}
use Rattle.lt_tree.specs.declared.typed.entity.Object.{Object}
use Rattle.lt_tree.specs.Typing.ProgramView.{program_of}
use Rattle.lt_entry.specs.Naming.{block_root}
use Rattle.lt_entry.specs.Meaning.{free_cells, freed_unless_hidden, only_null}
use Rattle.lt_input_specs.specs.Defaults.{root_of}
use Rattle.lt_spec_reader.proofs.said.cells_by.Goals as goal

pub returns : goal.returns
returns c = λ scope lines all is parameters shapes said.
    let tables = c.requires.tables in
    let first = c.in_ok-cells.ensures scope lines is said in
    let second = c.in_ok-put_block_cells.ensures scope lines all (ap (λ p. p.model) is) shapes said in
    let hidden = subst (λ p. scope.parameters ≡ map (λ (object : Bor Object). root_of p object.now) c.args.objects.now) (sym tables) parameters in
    let third = c.in_ok-put_freed_cells.ensures scope lines (is ∙ sym (ap program_of tables)) hidden said in
    third ∙ ap (λ l. l ++ flat_map (freed_unless_hidden scope lines) scope.program.objects) (second ∙ ap (λ l. l ++ flat_map (λ block. free_cells scope lines only_null (block_root block)) all) first)
