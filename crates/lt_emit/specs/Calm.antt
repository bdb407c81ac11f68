-- What is asked of an expression whose footprints might not be needed.
use Rattle.lt_meaning.specs.Clashes as meaning
use Rattle.lt_emit.specs.declared.calm.Grade.{Grade}
use Rattle.lt_emit.specs.declared.calm.Grade.TheVariants as grade

abbrev pub grade_of : Grade → meaning.Grade
grade_of grade.WritesNothing = meaning.writes_nothing
grade_of grade.CannotClash = meaning.cannot_clash
