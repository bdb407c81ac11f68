use Rattle.std.proofs.Common.{map}
use Rattle.lt_entry.specs.Naming.{parameters_of, file_objects}
use Rattle.lt_input_names.specs.Blocks.{block_of}
use Rattle.lt_input_names.specs.Views.{program_at, types_at}
use Rattle.lt_input_names.proofs.RootLaws.{line_added}
use Rattle.lt_input_names.proofs.names.Names.add.Goals as goal

pub returns-clause-names : goal.returns-clause-names
returns-clause-names c =
    let old = c.args.self.now in
    let types = types_at old in
    record {
      kinds = c.requires.names.kinds;
      layouts = c.requires.names.layouts;
      bare = c.requires.names.bare;
      roots =
          line_added types old.roots c.put_line_block.new.roots (parameters_of (program_at old) old.entry) (file_objects (program_at old)) old.added.items c.push.new.self.items c.args.block (map (block_of types) old.blocks.now)
          c.in_ok-push.ensures.items c.requires.names.roots c.requires.new (c.in_ok-put_line_block.ensures types);
      stubs = c.requires.names.stubs;
    }
