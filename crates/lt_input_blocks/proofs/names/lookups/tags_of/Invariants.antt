use Rattle.std.proofs.Common.{◌≡◌, take, List, ℕ}
use Rattle.lt_input_names.specs.Found.{found_in}
use Rattle.lt_input_blocks.specs.Names.{tag_among}
use Rattle.lt_input_blocks.proofs.names.lookups.tags_of.Given as goal

abbrev pub invariant-loop-it : goal.invariant-loop-it
invariant-loop-it l = (name : List ℕ) → found_in l.them name ≡ tag_among name (take l.it-index l.tags)
