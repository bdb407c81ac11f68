-- The frames of names and tags, of two scopes that are opened and closed together.
use Rattle.std.specs.Prelude.{List, [], ◌∷◌, map}
use Rattle.lt_scope.specs.Names as scope
use Rattle.lt_tree.specs.Typing.Entities.{Entity, Tagged, Bound, Tag, Frame}

-- what the names of a frame stand for
abbrev pub names_of : {T : Type 0} → (T → Entity) → List (scope.Bound T) → List Bound
names_of f names = map (λ b. record { name = b.name; entity = f b.what }) names

abbrev pub tags_of : {T : Type 0} → (T → Tagged) → List (scope.Bound T) → List Tag
tags_of g tags = map (λ b. record { name = b.name; tagged = g b.what }) tags

abbrev pub frame_of : {T U : Type 0} → (T → Entity) → (U → Tagged) → List (scope.Bound T) → List (scope.Bound U) → Frame
frame_of f g names tags = record { names = names_of f names; tags = tags_of g tags }

abbrev pub frames_of : {T U : Type 0} → (T → Entity) → (U → Tagged) → List (List (scope.Bound T)) → List (List (scope.Bound U)) → List Frame
frames_of f g [] tags = []
frames_of f g (frame ∷ names) [] = frame_of f g frame [] ∷ frames_of f g names []
frames_of f g (frame ∷ names) (others ∷ tags) = frame_of f g frame others ∷ frames_of f g names tags
