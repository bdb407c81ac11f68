-- Tags in scope are those that are found in the frames.
use Rattle.std.proofs.Common.{◌≡◌, refl, sym, ap, ◌∙◌, ℕ, Bool, true, false, ◌||◌, if◌then◌else◌, List, [], ◌∷◌, map, Option, Some, None, arith}
use Rattle.std.specs.Option.{is_some}
use Rattle.std.specs.List.{list_any}
use Rattle.std.specs.Str.{bytes_eq}
use Rattle.std.proofs.lemmas.List.Folds.{list_any-append}
use Rattle.std.proofs.lemmas.Slice.Eq.{bytes_eq-Decides}
use Rattle.lt_scope.specs.Names.{Bound, bound_among, or_else, bound_in}
use Rattle.lt_copies.specs.Blocks.{Frames, tags_of}

same_either_way : (xs ys : List ℕ) → bytes_eq xs ys ≡ bytes_eq ys xs
same_either_way [] [] = refl
same_either_way [] (y ∷ ys) = refl
same_either_way (x ∷ xs) [] = refl
same_either_way (x ∷ xs) (y ∷ ys) = grind (arith, bytes_eq-Decides)

found_or : (b : Bool) (other : Option (Unit {0})) → is_some (if b then Some tt else other) ≡ (b || is_some other)
found_or true other = refl
found_or false other = refl

among : (tag : List ℕ) (frame : List (Bound (Unit {0}))) → is_some (bound_among tag frame) ≡ list_any (bytes_eq tag) (map (λ bound. bound.name) frame)
among tag [] = refl
among tag (b ∷ bs) =
    found_or (bytes_eq b.name tag) (bound_among tag bs)
    ∙ ap (λ it. it || is_some (bound_among tag bs)) (same_either_way b.name tag)
    ∙ ap (λ it. bytes_eq tag b.name || it) (among tag bs)

either : (a b : Option (Unit {0})) → is_some (or_else a b) ≡ (is_some a || is_some b)
either None b = refl
either (Some a) b = refl

pub in_scope : (tag : List ℕ) (frames : Frames) → is_some (bound_in tag frames) ≡ list_any (bytes_eq tag) (tags_of frames)
in_scope tag [] = refl
in_scope tag (frame ∷ frames) =
    either (bound_among tag frame) (bound_in tag frames)
    ∙ ap (λ it. it || is_some (bound_in tag frames)) (among tag frame)
    ∙ ap (λ it. list_any (bytes_eq tag) (map (λ bound. bound.name) frame) || it) (in_scope tag frames)
    ∙ sym (list_any-append (bytes_eq tag) (map (λ bound. bound.name) frame) (tags_of frames))
