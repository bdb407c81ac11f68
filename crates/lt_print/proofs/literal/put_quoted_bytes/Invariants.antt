use Rattle.std.proofs.Common.{◌≡◌, ◌++◌, drop}
use Rattle.std.specs.List.{flat_map}
use Rattle.lt_tree.specs.Pieces.{quoted_byte}
use Rattle.lt_print.proofs.literal.put_quoted_bytes.Given as goal

abbrev pub invariant-loop-byte : goal.invariant-loop-byte
invariant-loop-byte l = l.out.items ++ flat_map quoted_byte (drop l.byte-index l.bytes) ≡ l.fn.out.items ++ flat_map quoted_byte l.bytes
