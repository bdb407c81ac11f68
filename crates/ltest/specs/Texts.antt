-- What is answered of the bytes of a command's files.
use Rattle.std.specs.Prelude.{ℕ, List, Result, Ok, Err}
use Rattle.std.specs.Global.{Vec}
use Rattle.lt_model.specs.declared.scalar.DataModel.{DataModel}
use Rattle.lt_answers.specs.Entries.{IsNoCoverage}
use Rattle.lt_answers.specs.Replays.{Sources, IsReplay, IsConversion, Refuses}
use Rattle.lt_answers.specs.Annotations.{IsAnnotation, RefusesAnnotation}
use Rattle.lt_answers.specs.declared.status.Status.{Status}
use Rattle.lt_answers.specs.declared.status.Status.TheVariants as status
use Rattle.ltest.specs.declared.stops.TextStop.{TextStop}
use Rattle.ltest.specs.declared.stops.TextStop.TheVariants.{Refused, NoMemory}

-- the text of a replay, or the refusal that comes first
abbrev pub IsReplayAnswer : Sources → Result (Vec ℕ) TextStop → Type 0
IsReplayAnswer from (Ok text) = IsReplay from text.items
IsReplayAnswer from (Err (Refused why)) = Refuses from why
IsReplayAnswer from (Err NoMemory) = Unit {0}

-- the same of a coverage text that is written in the latest version
abbrev pub IsConversionAnswer : List ℕ → Result (Vec ℕ) TextStop → Type 0
IsConversionAnswer text (Ok new) = IsConversion text new.items
IsConversionAnswer text (Err (Refused why)) = IsNoCoverage text why
IsConversionAnswer text (Err NoMemory) = Unit {0}

-- the same of the text with the marks of a set of criteria
abbrev pub IsAnnotationAnswer : DataModel → (set : ℕ) → List ℕ → Result (Vec ℕ) TextStop → Type 0
IsAnnotationAnswer model set text (Ok new) = IsAnnotation model set text new.items
IsAnnotationAnswer model set text (Err (Refused why)) = RefusesAnnotation model set text why
IsAnnotationAnswer model set text (Err NoMemory) = Unit {0}

-- how a command ends that stops so
abbrev pub status_of : TextStop → Status
status_of (Refused why) = status.Refused why
status_of NoMemory = status.NoMemory
