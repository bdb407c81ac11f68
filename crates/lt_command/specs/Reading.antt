-- The command lines of `replay` and `annotate`, as `clap` reads them.
use Rattle.std.specs.Prelude.{true, List, codes, Option, Some, None}
use Rattle.clap.specs.Words.{App, Row, Rule, Text, first_of, new_app, new_rule, with_rule}
use Rattle.clap.specs.Simple.{on_top}
use Rattle.lt_command.specs.Plan.{Plan, Said, annotate_with, replay_with}

abbrev pub option_as : Text → Rule
option_as id = record (new_rule id) { long = Some id }

-- a command without a flag for help
abbrev pub plain_app : Text → App
plain_app name = on_top (λ s. record s { disable_help_flag = true }) (new_app name)

abbrev pub replay_app : App
replay_app = with_rule (with_rule (with_rule (with_rule (with_rule (with_rule (with_rule (plain_app (codes "replay"))
    (new_rule (codes "FILE"))) (new_rule (codes "SUITE")))
    (option_as (codes "entry"))) (option_as (codes "model"))) (option_as (codes "char"))) (option_as (codes "steps"))) (option_as (codes "cover"))

-- the words of options that were read
abbrev pub said_among : List Row → Said
said_among rows = record {
  entry = first_of (codes "entry") rows;
  model = first_of (codes "model") rows;
  char = first_of (codes "char") rows;
  steps = first_of (codes "steps") rows;
  cover = first_of (codes "cover") rows;
}

abbrev pub replay_between : Option Text → Option Text → Said → Option Plan
replay_between (Some file) (Some suite) said = replay_with file suite said
replay_between _ _ said = None

-- the replay that was read
abbrev pub replay_among : List Row → Option Plan
replay_among rows = replay_between (first_of (codes "FILE") rows) (first_of (codes "SUITE") rows) (said_among rows)

abbrev pub annotate_app : App
annotate_app = with_rule (with_rule (with_rule (with_rule (plain_app (codes "annotate"))
    (new_rule (codes "FILE"))) (option_as (codes "criteria"))) (option_as (codes "model"))) (option_as (codes "char"))

abbrev pub annotate_between : Option Text → Option Text → Option Text → Option Text → Option Plan
annotate_between (Some file) (Some list) model char = annotate_with file list model char
annotate_between _ _ model char = None

-- the labels that were asked for
abbrev pub annotate_among : List Row → Option Plan
annotate_among rows =
    annotate_between (first_of (codes "FILE") rows) (first_of (codes "criteria") rows) (first_of (codes "model") rows) (first_of (codes "char") rows)
