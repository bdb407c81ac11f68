-- What a command ends with where there is no text of its files.
use Rattle.std.proofs.Common.{ℕ, List, Option, Err}
use Rattle.lt_outside.specs.Shelf.{Files}
use Rattle.lt_command.specs.Plan.{AnnotatePlan, ReplayPlan, annotate, convert, replay}
use Rattle.lt_answers.specs.Replays.{Sources}
use Rattle.lt_answers.specs.Answers.{Gave, GaveAll, Ends}
use Rattle.lt_answers.proofs.Due.{annotation_refused, conversion_refused, replay_refused}
use Rattle.ltest.specs.Texts.{IsReplayAnswer, IsConversionAnswer, IsAnnotationAnswer, status_of}
use Rattle.ltest.specs.declared.stops.TextStop.{TextStop}
use Rattle.ltest.specs.declared.stops.TextStop.TheVariants.{Refused, NoMemory}

pub replay_ends : (told : Option Files) (asked : ReplayPlan) (from : Sources) (stop : TextStop) → GaveAll told asked from
    → IsReplayAnswer from (Err stop) → Ends told (replay asked) (status_of stop)
replay_ends told asked from (Refused why) g h = replay_refused told asked from why g h
replay_ends told asked from NoMemory g h = tt

pub conversion_ends : (told : Option Files) (file bytes : List ℕ) (stop : TextStop) → Gave told file bytes
    → IsConversionAnswer bytes (Err stop) → Ends told (convert file) (status_of stop)
conversion_ends told file bytes (Refused why) g h = conversion_refused told file bytes why g h
conversion_ends told file bytes NoMemory g h = tt

pub annotation_ends : (told : Option Files) (asked : AnnotatePlan) (bytes : List ℕ) (stop : TextStop) → Gave told asked.file bytes
    → IsAnnotationAnswer asked.model asked.criteria bytes (Err stop) → Ends told (annotate asked) (status_of stop)
annotation_ends told asked bytes (Refused why) g h = annotation_refused told asked bytes why g h
annotation_ends told asked bytes NoMemory g h = tt
