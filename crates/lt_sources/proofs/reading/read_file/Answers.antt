use Rattle.std.proofs.Common.{◌∙◌}
use Rattle.lt_answers.proofs.Missing.{absent_ends, long_ends}
use Rattle.lt_sources.proofs.reading.read_file.Goals as goal

pub returns-in-Ok-new-clause-ends : goal.returns-in-Ok-new-clause-ends
returns-in-Ok-new-clause-ends g c =
    absent_ends _ c.args.name.now _ (c.in-Ok-new.ensures ∙ c.as_bytes.ensures.value) (rw c.in-Err-Absent.field-0-is at c.in-Err-Absent.ensures.stops)

pub returns-in-Ok-new-2-clause-ends : goal.returns-in-Ok-new-2-clause-ends
returns-in-Ok-new-2-clause-ends g c =
    long_ends _ c.args.name.now _ c.in-Err-TooLong.len (c.in-Ok-new-2.ensures ∙ c.as_bytes-in-Err-TooLong.ensures.value) (rw c.in-Err-TooLong.field-0-is at c.in-Err-TooLong.ensures.stops)
