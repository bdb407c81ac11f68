-- What typing knows and finds, where objects have other numbers.
use Rattle.std.specs.Prelude.{ℕ, List, map, option_map}
use Rattle.lt_tree.specs.Typing.Entities.{Entity, an_object, Bound, Frame}
use Rattle.lt_tree.specs.Typing.Expressions.{Form, a_value, a_place, a_designator, Typed}
use Rattle.lt_tree.specs.Typing.Declarators.{Parameters, Declares}
use Rattle.lt_object_laws.specs.Renamed.{value_with, place_with, constancy_with}

-- ---- names, whose objects have the numbers that r gives

abbrev pub entity_with : (ℕ → ℕ) → Entity → Entity
entity_with r (an_object n is_register) = an_object (r n) is_register
entity_with r entity = entity

abbrev pub bound_with : (ℕ → ℕ) → Bound → Bound
bound_with r bound = record { name = bound.name; entity = entity_with r bound.entity }

abbrev pub frame_with : (ℕ → ℕ) → Frame → Frame
frame_with r frame = record { names = map (bound_with r) frame.names; tags = frame.tags }

abbrev pub frames_with : (ℕ → ℕ) → List Frame → List Frame
frames_with r frames = map (frame_with r) frames

-- ---- expressions

abbrev pub form_with : (ℕ → ℕ) → Form → Form
form_with r (a_value v) = a_value (value_with r v)
form_with r (a_place place) = a_place (place_with r place)
form_with r (a_designator name type) = a_designator name type

abbrev pub typed_with : (ℕ → ℕ) → Typed → Typed
typed_with r x = record {
  form = form_with r x.form;
  is_register = x.is_register;
  is_after = x.is_after;
  constancy = constancy_with r x.constancy;
  erased = constancy_with r x.erased;
}

-- ---- declarators

abbrev pub parameters_with : (ℕ → ℕ) → Parameters → Parameters
parameters_with r them = record them { objects = map r them.objects; frame = frame_with r them.frame }

abbrev pub declares_with : (ℕ → ℕ) → Declares → Declares
declares_with r it = record it { parameters = option_map (parameters_with r) it.parameters }
