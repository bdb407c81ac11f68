use Rattle.lt_token.proofs.Literals.{strings, characters}
use Rattle.lt_token.proofs.laws.literals_are_those_of_c.Goals as goal

pub returns : goal.returns
returns c = (strings, characters)
