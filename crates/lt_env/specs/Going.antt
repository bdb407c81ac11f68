-- What going over a part of a unit gives, whatever types are added later.
use Rattle.std.specs.Prelude.{◌≡◌, List, map, Result, Ok, Err, OnOk}
use Rattle.lt_tree.specs.Typing.Types.{CType}
use Rattle.lt_tree.specs.Typing.TypeRows.{types_of_rows, Continues, Lasts}
use Rattle.lt_tree.specs.Typing.EntityView.{rule_of, object_of, declared_of, function_of, label_of, fact_of}
use Rattle.lt_tree.specs.Typing.Entities.{Known, greatest_written_id}
use Rattle.lt_tree.specs.Typing.Steps.{Outcome, Walk}
use Rattle.lt_tree.specs.Typing.Steps as steps
use Rattle.lt_table.specs.TypesValue.{structs_at}
use Rattle.lt_env.specs.NamesValue.{frames_at, KeepsOuter}
use Rattle.lt_env.specs.declared.walker.Walker.{Walker}
use Rattle.lt_env.specs.declared.stop.TypeStop.{TypeStop}
use Rattle.lt_env.specs.declared.stop.TypeStop.TheVariants.{Broken, NoMemory}

abbrev pub types_in : Walker → List CType
types_in w = types_of_rows w.types.rows

-- what is known, where rows stand for these types
abbrev pub known_of : List CType → Walker → Known
known_of types w = record {
  model = w.types.model;
  defined = w.defined;
  next = w.next;
  greatest_id = greatest_written_id;
  is_unmarked = w.is_unmarked;
  frames = frames_at types w.names;
  structs = structs_at types w.types;
  objects = map (object_of types) w.objects;
  declared = map (declared_of types) w.declared;
  functions = map (function_of types) w.functions;
  labels = map label_of w.labels;
  facts = map (fact_of types) w.facts.items;
}

-- the outcome is the answer, where rows stand for these types
abbrev pub At : {A X : Type 0} → List CType → (List CType → X → A) → Walker → Result X TypeStop → Outcome A → Type 0
At types shown after (Ok it) outcome = outcome ≡ steps.Goes (shown types it) (known_of types after)
At types shown after (Err (Broken rule node)) outcome = outcome ≡ steps.Breaks (rule_of rule) node
At types shown after (Err NoMemory) outcome = Unit {0}

-- The outcome is the answer, whatever types are added later.
pub record Ends {A X : Type 0} (shown : List CType → X → A) (after : Walker) (result : Result X TypeStop) (outcome : List CType → Outcome A) : Type 0 where
  pub at : Lasts (types_in after) (λ types. At types shown after result (outcome types))

-- The answer is that of the definition, types were only added, and the names of outer blocks stay.
pub record Gives {A X : Type 0} (shown : List CType → X → A) (before after : Walker) (result : Result X TypeStop) (walk : List CType → Walk A) : Type 0 where
  pub grows : Continues (types_in before) (types_in after)
  pub keeps : OnOk result (KeepsOuter before.names after.names)
  pub ends : Ends shown after result (λ types. walk types (known_of types before))

-- what is answered of what is known, which stays
abbrev pub answering : {A : Type 0} → (Known → A) → Walk A
answering f known = steps.Goes (f known) known

-- nothing is answered
abbrev pub done : List CType → Unit {0} → Unit {0}
done types it = tt

-- the answer itself
abbrev pub itself : {A : Type 0} → List CType → A → A
itself types it = it
