-- Further objects come to those of programs that were made of one another by adding marks.
use Rattle.std.proofs.Common.{◌≡◌, ℕ, List, [], ◌∷◌, map, Bool, true, refl, ap, ◌∙◌}
use Rattle.lt_tree.specs.Typing.Entities.{Object}
use Rattle.lt_tree.specs.Typing.Programs.{Program}
use Rattle.lt_mark_laws.specs.Added.{AddsFunctions, AreSameObjects}
use Rattle.lt_object_laws.specs.Renamed.{object_with, function_with}
use Rattle.lt_object_laws.specs.Further as f
use Rattle.lt_object_laws.specs.Further.{HasFurther}
use Rattle.lt_mark_typing.specs.Further as h
use Rattle.lt_mark_typing.specs.Further.{HasObjects}
use Rattle.lt_mark_typing.specs.MarkedPrograms.{AddsInSteps, no_step, a_step}
use Rattle.lt_marked_runs.proofs.Renaming.{functions_renamed}

pub same_behind : (xs ys zs : List Object) → AreSameObjects xs ys → AreSameObjects ys zs → AreSameObjects xs zs
same_behind [] [] [] h g = tt
same_behind (x ∷ xs) (y ∷ ys) (z ∷ zs) h g = (ap (λ (o : Object). record o { node = z.node }) h.0 ∙ g.0, same_behind xs ys zs h.1 g.1)
same_behind [] (y ∷ ys) zs h g = absurd h
same_behind (x ∷ xs) [] zs h g = absurd h
same_behind [] [] (z ∷ zs) h g = absurd g
same_behind (x ∷ xs) (y ∷ ys) [] h g = absurd g

-- ---- with further objects

-- objects that are these with the further ones, and the same as those that are there
abbrev pub WithFurther : (ℕ → ℕ) → List Bool → List Object → List Object → Type 0
WithFurther r more xs zs = (ws : List Object) × HasFurther r more xs ws × AreSameObjects ws zs

module _ (r : ℕ → ℕ) where
  pub but_for_nodes : {more : List Bool} {xs zs : List Object} → HasObjects r more xs zs → WithFurther r more xs zs
  but_for_nodes h.no_objects = ([], f.no_objects, tt)
  but_for_nodes (h.an_object x node d) = let it = but_for_nodes d in (object_with r x ∷ it.0, f.an_object x it.1, (refl, it.2))
  but_for_nodes (h.a_further_object z further d) = let it = but_for_nodes d in (z ∷ it.0, f.a_further_object z further it.1, (refl, it.2))

  before : {more : List Bool} {ys zs : List Object} (xs : List Object) → AreSameObjects xs ys → HasFurther r more ys zs → WithFurther r more xs zs
  before [] h f.no_objects = ([], f.no_objects, tt)
  before (x ∷ xs) h f.no_objects = absurd h
  before (x ∷ xs) h (f.an_object y d) = let it = before xs h.1 d in (object_with r x ∷ it.0, f.an_object x it.1, (ap (object_with r) h.0, it.2))
  before [] h (f.an_object y d) = absurd h
  before xs h (f.a_further_object z further d) = let it = before xs h d in (z ∷ it.0, f.a_further_object z further it.1, (refl, it.2))

  -- a program with these objects, which have other numbers
  abbrev pub with_objects : List Object → Program → Program
  with_objects objects p = record p { objects = objects; functions = map (function_with r) p.functions }

  -- marks are added in steps just so where the objects are there already that come with the last step
  pub steps_with : {new : ℕ → Bool} {p q t : Program} (own : ℕ → Bool) (more : List Bool) → ((id : ℕ) → own id ≡ true → new id ≡ true)
      → q.model ≡ t.model → q.structs ≡ t.structs → HasObjects r more q.objects t.objects → AddsFunctions own (map (function_with r) q.functions) t.functions
      → AddsInSteps new p q → (objects : List Object) × HasFurther r more p.objects objects × AddsInSteps new (with_objects objects p) t
  steps_with own more all_new model structs objects functions no_step =
      let it = but_for_nodes objects in
      (it.0, it.1, a_step own all_new (record { model = model; structs = structs; objects = it.2; types = refl; functions = functions }) no_step)
  steps_with own more all_new model structs objects functions (a_step {p} {q = x} one new_one d steps) =
      let later = steps_with own more all_new model structs objects functions steps in
      let it = before p.objects d.objects later.1 in (
        it.0,
        it.1,
        a_step one new_one (record { model = d.model; structs = d.structs; objects = it.2; types = refl; functions = functions_renamed one r p.functions x.functions d.functions }) later.2,
      )
