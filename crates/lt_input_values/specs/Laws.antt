-- Laws of inputs.
use Rattle.std.specs.Prelude.{◌≡◌, ◌↔◌, ◌&&◌, not, Bool, true, List, [], ◌∷◌}
use Rattle.std.specs.List.{list_any}
use Rattle.std.specs.Str.{bytes_eq}
use Rattle.lt_model.specs.declared.input.Input.{Input}
use Rattle.lt_model.specs.declared.input.Spec.{Spec}
use Rattle.lt_model.specs.declared.input.StubSet.{StubSet}
use Rattle.lt_entry.specs.declared.test.Test.{Test}
use Rattle.lt_entry.specs.Meeting.{Meets}
use Rattle.lt_entry.specs.Inputs.{built}

-- each function has its values once
abbrev pub are_once : List StubSet → Bool
are_once [] = true
are_once (it ∷ its) = not (list_any (λ other. bytes_eq other.name it.name) its) && are_once its

-- what a test sets, in the order of its text
abbrev pub in_order_of_text : Test → Spec → Input
in_order_of_text test spec = record { blocks = spec.blocks; cells = test.cells; stubs = test.stubs }

-- The input of a test meets the specification exactly where what the test sets meets it as it stands in the text.
abbrev pub OrderIsNoMatter : Type 0
OrderIsNoMatter = (test : Test) (spec : Spec) → are_once test.stubs ≡ true → Meets spec (built test spec) ↔ Meets spec (in_order_of_text test spec)
