-- What the words of a command line ask for.
use Rattle.std.specs.Prelude.{ℕ, ◌&&◌, Bool, true, false, List, [], ◌∷◌, Option, Some, None, option_map, option_and_then, codes, decimal, find, nat_le, if◌then◌else◌, ◌==◌}
use Rattle.std.specs.Int.RustNames.{bit_or}
use Rattle.std.specs.List.{slice_split}
use Rattle.std.specs.Str.{bytes_eq}
use Rattle.std.specs.Str.Parse.{digits_value}
use Rattle.lt_model.specs.declared.scalar.DataModel.{DataModel}
use Rattle.lt_model.specs.declared.scalar.DataModel.TheVariants.{Ilp32, Lp64, Llp64, Ilp32U, Lp64U, Llp64U}
use Rattle.lt_objectives.specs.declared.criteria.Criterion.{Criterion}
use Rattle.lt_objectives.specs.Criteria.{bit_of, criteria_of_labels, is_in, tag_of}
use Rattle.lt_command.specs.Parts.{Parts, Setting, parts_of, stand_once, value_of}

-- a replay of a suite on a text, with a specification of the entry and an old coverage where they are named
pub record ReplayPlan : Type 0 where
  pub file : List ℕ
  pub suite : List ℕ
  pub entry : Option (List ℕ)
  pub model : DataModel
  pub steps : ℕ
  pub cover : Option (List ℕ)

-- the labels of criteria for a text; the set of criteria by its bits
pub record AnnotatePlan : Type 0 where
  pub file : List ℕ
  pub criteria : ℕ
  pub model : DataModel

pub data Plan : Type 0 where
  -- `replay FILE SUITE`
  replay : ReplayPlan → Plan
  -- `convert FILE`
  convert : (file : List ℕ) → Plan
  -- `annotate FILE`
  annotate : AnnotatePlan → Plan

-- ---- the values of options

-- N: the decimal text of a number from 1 to 10,000,000
abbrev pub steps_of : List ℕ → Option ℕ
steps_of word =
    let n = digits_value 10 word in
    if bytes_eq word (decimal n) && nat_le 1 n && nat_le n 10000000 then Some n else None

-- M, as the model in which plain `char` is signed
abbrev pub model_of : List ℕ → Option DataModel
model_of word =
    if bytes_eq word (codes "ilp32") then Some Ilp32
    else if bytes_eq word (codes "lp64") then Some Lp64
    else if bytes_eq word (codes "llp64") then Some Llp64
    else None

-- C: whether plain `char` is signed
abbrev pub char_of : List ℕ → Option Bool
char_of word =
    if bytes_eq word (codes "signed") then Some true
    else if bytes_eq word (codes "unsigned") then Some false
    else None

-- the model of the same sizes in which plain `char` is unsigned
abbrev pub unsigned_model : DataModel → DataModel
unsigned_model Ilp32 = Ilp32U
unsigned_model Lp64 = Lp64U
unsigned_model Llp64 = Llp64U
unsigned_model model = model

-- the criterion of this name, of those that labels alone stand for
abbrev pub criterion_of : List ℕ → Option Criterion
criterion_of name = find (λ criterion. bytes_eq (tag_of criterion) name) criteria_of_labels

-- the set with this criterion too, if that isn't in it
abbrev pub with_criterion : ℕ → Criterion → Option ℕ
with_criterion set criterion = if is_in set criterion then None else Some (bit_or set (bit_of criterion))

abbrev pub with_name : ℕ → List ℕ → Option ℕ
with_name set name = option_and_then (with_criterion set) (criterion_of name)

-- the set with the criteria of these names too, each of which stands once
abbrev pub with_names : ℕ → List (List ℕ) → Option ℕ
with_names set [] = Some set
with_names set (name ∷ names) = option_and_then (λ more. with_names more names) (with_name set name)

-- LIST: names of criteria with a comma between two, as the set of these
abbrev pub criteria_of : List ℕ → Option ℕ
criteria_of list = with_names 0 (slice_split (λ b. b == 44) list)

-- what a word says, where there is one, and else the default; none where the word is refused
abbrev pub said_or : {X : Type 0} → X → (List ℕ → Option X) → Option (List ℕ) → Option X
said_or default read None = Some default
said_or default read (Some word) = read word

-- the data model that M and C say
abbrev pub data_model_of : Option (List ℕ) → Option (List ℕ) → Option DataModel
data_model_of model char =
    option_and_then (λ m. option_map (λ is_signed. if is_signed then m else unsigned_model m) (said_or true char_of char)) (said_or Lp64 model_of model)

-- ---- the commands

-- the words of the options of `replay`
pub record Said : Type 0 where
  pub entry : Option (List ℕ)
  pub model : Option (List ℕ)
  pub char : Option (List ℕ)
  pub steps : Option (List ℕ)
  pub cover : Option (List ℕ)

abbrev pub replay_options : List (List ℕ)
replay_options = codes "--entry" ∷ codes "--model" ∷ codes "--char" ∷ codes "--steps" ∷ codes "--cover" ∷ []

abbrev pub said_by : List Setting → Said
said_by options = record {
  entry = value_of (codes "--entry") options;
  model = value_of (codes "--model") options;
  char = value_of (codes "--char") options;
  steps = value_of (codes "--steps") options;
  cover = value_of (codes "--cover") options;
}

abbrev pub replay_as : List ℕ → List ℕ → Said → DataModel → ℕ → Plan
replay_as file suite said model steps =
    replay (record { file = file; suite = suite; entry = said.entry; model = model; steps = steps; cover = said.cover })

-- where each option says something that it may say
abbrev pub replay_with : List ℕ → List ℕ → Said → Option Plan
replay_with file suite said =
    option_and_then (λ model. option_map (replay_as file suite said model) (said_or 100000 steps_of said.steps)) (data_model_of said.model said.char)

abbrev pub replay_of : List (List ℕ) → List Setting → Option Plan
replay_of (file ∷ suite ∷ []) options = if stand_once replay_options options then replay_with file suite (said_by options) else None
replay_of _ options = None

abbrev pub annotate_options : List (List ℕ)
annotate_options = codes "--criteria" ∷ codes "--model" ∷ codes "--char" ∷ []

abbrev pub annotate_as : List ℕ → ℕ → DataModel → Plan
annotate_as file criteria model = annotate (record { file = file; criteria = criteria; model = model })

-- where LIST, M and C say something
abbrev pub annotate_with : List ℕ → List ℕ → Option (List ℕ) → Option (List ℕ) → Option Plan
annotate_with file list model char =
    option_and_then (λ criteria. option_map (annotate_as file criteria) (data_model_of model char)) (criteria_of list)

-- LIST has to stand
abbrev pub annotate_said : List ℕ → List Setting → Option Plan
annotate_said file options = option_and_then (λ list. annotate_with file list (value_of (codes "--model") options) (value_of (codes "--char") options))
    (value_of (codes "--criteria") options)

abbrev pub annotate_of : List (List ℕ) → List Setting → Option Plan
annotate_of (file ∷ []) options = if stand_once annotate_options options then annotate_said file options else None
annotate_of _ options = None

abbrev pub convert_of : List (List ℕ) → List Setting → Option Plan
convert_of (file ∷ []) [] = Some (convert file)
convert_of _ _ = None

abbrev pub plan_of_parts : List ℕ → Parts → Option Plan
plan_of_parts command parts =
    if bytes_eq command (codes "replay") then replay_of parts.positionals parts.options
    else if bytes_eq command (codes "convert") then convert_of parts.positionals parts.options
    else if bytes_eq command (codes "annotate") then annotate_of parts.positionals parts.options
    else None

-- what the words ask for, where they are of a command form: the first word is the command
unfoldable pub plan_of : List (List ℕ) → Option Plan
plan_of [] = None
plan_of (command ∷ words) = option_and_then (plan_of_parts command) (parts_of words)
