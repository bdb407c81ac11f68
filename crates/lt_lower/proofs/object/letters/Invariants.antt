use Rattle.std.proofs.Common.{◌+◌, drop}
use Rattle.lt_emit.specs.Emission.{EmitsWithin}
use Rattle.lt_lower.specs.Stands.{LettersStand}
use Rattle.lt_lower.proofs.Objects.{letters_cost}
use Rattle.lt_lower.proofs.object.letters.Given as goal

abbrev pub invariant-letters : goal.invariant-letters
invariant-letters l =
    EmitsWithin l.fn.b l.b l.from (letters_cost (drop l.at l.bytes)) (LettersStand l.object l.ty (l.offset + l.at) (drop l.at l.bytes) l.to l.from)
