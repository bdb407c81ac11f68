use Rattle.lt_address.proofs.Pointing.{not_among_none}
use Rattle.lt_address.proofs.numbers.numbers_below.Goals as goal

pub returns-in-Some-None : goal.returns-in-Some-None
returns-in-Some-None c = rw (c.in-Some-None.is-0, c.in-Some-None.is-1) (λ h. cc, λ h. absurd (not_among_none c.in-Some-None.field-0-0 h))

pub returns-in-Some-Some : goal.returns-in-Some-Some
returns-in-Some-Some c = rw (c.in-Some-Some.is-0, c.in-Some-Some.is-1) c.is_below.ensures
