use Rattle.std.proofs.Common.{◌≡◌, ◌++◌, take}
use Rattle.lt_spec_reader.proofs.blocks.put_blocks.Given as goal

abbrev pub invariant-loop-block : goal.invariant-loop-block
invariant-loop-block l = l.blocks.items ≡ l.initial.blocks.items ++ take l.block-index l.others
