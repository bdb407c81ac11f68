use Rattle.std.proofs.Common.{◌≡◌, ◌++◌, drop}
use Rattle.std.specs.Prelude.{option_map}
use Rattle.lt_tree.specs.Records.{types_in}
use Rattle.lt_tree.specs.TypeWords.{words_alone}
use Rattle.lt_expr.proofs.type_words.words_alone.Given as goal

abbrev pub invariant-types : goal.invariant-types
invariant-types l = option_map (λ words. l.words.items ++ words) (words_alone (types_in (drop l.one-index l.types))) ≡ words_alone (types_in l.types)
