use Rattle.std.proofs.Common.{◌≡◌, ◌++◌, ◌∷◌, take}
use Rattle.std.specs.List.{flat_map}
use Rattle.lt_cover.proofs.words.names_text.Given as goal

abbrev pub invariant-names : goal.invariant-names
invariant-names l = l.text.items ≡ l.initial.text.items ++ flat_map (λ name. 32 ∷ name) (take l.name-index l.rest)
