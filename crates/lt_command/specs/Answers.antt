-- What a reading of words answers.
use Rattle.std.specs.Prelude.{◌≡◌, ℕ, List, map, string_bytes, Option, Some, None, option_map, Result, Ok, Err, String}
use Rattle.std.specs.Global.{Global}
use Rattle.lt_command.specs.Plan.{AnnotatePlan, Plan, ReplayPlan, Said, annotate, convert, replay}
use Rattle.lt_command.specs.declared.replay.Said.{Said as SaidRead}
use Rattle.lt_command.specs.declared.commands.Command.{Command}
use Rattle.lt_command.specs.declared.commands.Command.TheVariants as command
use Rattle.lt_command.specs.declared.commands.Annotate.{Annotate}
use Rattle.lt_command.specs.declared.commands.Replay.{Replay}
use Rattle.lt_command.specs.declared.stops.PlanStop.{PlanStop}
use Rattle.lt_command.specs.declared.stops.PlanStop.TheVariants.{Usage, NoMemory}

abbrev pub words_of : List (String Global) → List (List ℕ)
words_of words = map string_bytes words

abbrev pub replay_in : Replay → ReplayPlan
replay_in r = record {
  file = r.file.now;
  suite = r.suite.now;
  entry = option_map (λ name. name.now) r.entry;
  model = r.model;
  steps = r.steps;
  cover = option_map (λ name. name.now) r.cover;
}

abbrev pub annotate_in : Annotate → AnnotatePlan
annotate_in a = record { file = a.file.now; criteria = a.criteria.0; model = a.model }

abbrev pub plan_in : Command → Plan
plan_in (command.Replay r) = replay (replay_in r)
plan_in (command.Convert file) = convert file.now
plan_in (command.Annotate a) = annotate (annotate_in a)

abbrev pub said_in : SaidRead → Said
said_in said = record {
  entry = option_map (λ word. word.now) said.entry;
  model = option_map (λ word. word.now) said.model;
  char = option_map (λ word. word.now) said.char;
  steps = option_map (λ word. word.now) said.steps;
  cover = option_map (λ word. word.now) said.cover;
}

-- The plan is given, or Usage comes where there is none; or memory lacks.
abbrev pub Answers : Option Plan → Result Command PlanStop → Type 0
Answers asked (Ok command) = asked ≡ Some (plan_in command)
Answers asked (Err Usage) = asked ≡ None
Answers asked (Err NoMemory) = Unit {0}
