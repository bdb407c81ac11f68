-- Units with marks added in the bodies of functions, each where it may stand.
use Rattle.std.specs.Prelude.{◌≡◌, ℕ, Bool, true, List, [], ◌∷◌, unwrap_or}
use Rattle.lt_tree.specs.Tree as c
use Rattle.lt_tree.specs.Nodes.{in_specifiers, in_declarator, in_declaration}
use Rattle.lt_tree.specs.Typing.Entities.{Known, a_function, bind_name}
use Rattle.lt_tree.specs.Typing.Steps.{Goes}
use Rattle.lt_tree.specs.Typing.Specifying.{Specified, elsewhere}
use Rattle.lt_tree.specs.Typing.Declarators.{Declares}
use Rattle.lt_tree.specs.Typing.Declaring.{definition_faults, with_declared}
use Rattle.lt_tree.specs.Typing.ExpressionTyping.{specifiers, declarator}
use Rattle.lt_tree.specs.Typing.UnitTyping.{around_body, frame_of, external}
use Rattle.lt_mark_typing.specs.Placed.{AreOld, entered}
use Rattle.lt_mark_typing.specs.PlacedItems.{AddsToItems}

-- what is known where the body of a function begins that is declared so
abbrev pub in_body : Declares → Known → Known
in_body it known =
    let declared = bind_name (unwrap_or it.name []) a_function (with_declared (unwrap_or it.name []) it.type known) in
    record declared { frames = frame_of it.parameters ∷ declared.frames }

pub data AddsToExternal (new : ℕ → Bool) : List ℕ → List ℕ → Known → c.External → c.External → Type 0 where
  Defines : {used after : List ℕ} {known : Known} {s : c.Specifiers} {d : c.Declarator} {is js : c.Items}
      → AreOld new (in_specifiers s) → AreOld new (in_declarator d)
      → ((it : Specified) (next : Known) (declared : Declares) (last : Known) → specifiers s elsewhere (entered known) ≡ Goes it next → declarator d it true (definition_faults it.storage) next ≡ Goes declared last
      → AddsToItems new used after (around_body declared.type) (in_body declared last) is js)
      → AddsToExternal new used after known (c.Defines s d is) (c.Defines s d js)
  Declared : {used : List ℕ} {known : Known} {d : c.Declaration} → AreOld new (in_declaration d) → AddsToExternal new used used known (c.Declared d) (c.Declared d)

pub data AddsToUnit (new : ℕ → Bool) : List ℕ → List ℕ → Known → List c.External → List c.External → Type 0 where
  no_externals : {used : List ℕ} {known : Known} → AddsToUnit new used used known [] []
  an_external : {used between after : List ℕ} {known : Known} {x y : c.External} {xs ys : List c.External}
      → AddsToExternal new used between known x y
      → ((u : Unit {0}) (next : Known) → external x known ≡ Goes u next → AddsToUnit new between after next xs ys)
      → AddsToUnit new used after known (x ∷ xs) (y ∷ ys)
