-- Typed programs with marks added that have objects of their own.
use Rattle.std.specs.Prelude.{◌≡◌, ℕ, Bool, true, List, map}
use Rattle.lt_tree.specs.Typing.Entities.{Object}
use Rattle.lt_tree.specs.Typing.Programs.{Program}
use Rattle.lt_mark_laws.specs.Added.{AddsFunctions, AddsProgram}
use Rattle.lt_object_laws.specs.Renamed.{renumbered, function_with}
use Rattle.lt_object_laws.specs.Further.{HasFurther}
use Rattle.lt_mark_typing.specs.Further.{HasObjects}

-- The second program is the first with marks added and with further objects, as the flags say, but for the list of types.
pub record AddsBeside (new : ℕ → Bool) (further : List Bool) (p q : Program) : Type 0 where
  pub model : p.model ≡ q.model
  pub structs : p.structs ≡ q.structs
  pub objects : HasObjects (renumbered further) further p.objects q.objects
  pub functions : AddsFunctions new (map (function_with (renumbered further)) p.functions) q.functions

-- ---- marks that are added in steps

-- Marks are added to the first program, then to what this made, and so on; lists of types aside. All of them have new ids.
pub data AddsInSteps (new : ℕ → Bool) : Program → Program → Type 0 where
  no_step : {p : Program} → AddsInSteps new p p
  a_step : {p q r : Program} (own : ℕ → Bool) → ((id : ℕ) → own id ≡ true → new id ≡ true)
      → AddsProgram own (record p { types = q.types }) q → AddsInSteps new q r → AddsInSteps new p r

-- The second program is made of the first: it gets further objects, as the flags say, and marks are added in steps. Each step may have brought some of these objects.
pub record IsMadeBeside (new : ℕ → Bool) (further : List Bool) (p q : Program) : Type 0 where
  -- the objects of the first program and the further ones
  pub objects : List Object
  pub further_ones : HasFurther (renumbered further) further p.objects objects
  pub steps : AddsInSteps new (record p { objects = objects; functions = map (function_with (renumbered further)) p.functions }) q
