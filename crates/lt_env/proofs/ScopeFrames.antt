-- What is found and bound in the frames of two scopes.
use Rattle.std.proofs.Common.{◌≡◌, refl, sym, ap, ◌∙◌, ℕ, suc, Bool, true, false, cond, List, [], ◌∷◌, ◌++◌, length, map, Option, Some, None, append_assoc, arith}
use Rattle.std.proofs.lemmas.List.{append-nil, map-append}
use Rattle.std.specs.Prelude.{option_map}
use Rattle.std.specs.Str.{bytes_eq}
use Rattle.lt_scope.specs.Names as scope
use Rattle.lt_tree.specs.Typing.Entities.{Entity, Tagged, bound_among, tagged_among, bound_in, tagged_in, or_else, innermost, no_names, binding, tagging}
use Rattle.lt_env.specs.ScopeFrames.{names_of, tags_of, frame_of, frames_of}

-- ---- one frame

pub name_found : {T : Type 0} (f : T → Entity) (w : List ℕ) (names : List (scope.Bound T)) → bound_among w (names_of f names) ≡ option_map f (scope.bound_among w names)
name_found f w [] = refl
name_found {T} f w (b ∷ names) =
    let P : Bool → Type 0 = λ same. cond same (Some (f b.what)) (bound_among w (names_of f names)) ≡ option_map f (cond same (Some b.what) (scope.bound_among w names)) in
    elim (bytes_eq b.name w) as P [ true ↦ refl | false ↦ name_found f w names ]

pub tag_found : {T : Type 0} (g : T → Tagged) (w : List ℕ) (tags : List (scope.Bound T)) → tagged_among w (tags_of g tags) ≡ option_map g (scope.bound_among w tags)
tag_found g w [] = refl
tag_found {T} g w (b ∷ tags) =
    let P : Bool → Type 0 = λ same. cond same (Some (g b.what)) (tagged_among w (tags_of g tags)) ≡ option_map g (cond same (Some b.what) (scope.bound_among w tags)) in
    elim (bytes_eq b.name w) as P [ true ↦ refl | false ↦ tag_found g w tags ]

both : {T E : Type 0} (f : T → E) (here there : Option T) → or_else (option_map f here) (option_map f there) ≡ option_map f (scope.or_else here there)
both f None there = refl
both f (Some x) there = refl

-- ---- all frames

pub name_in : {T U : Type 0} (f : T → Entity) (g : U → Tagged) (w : List ℕ) (names : List (List (scope.Bound T))) (tags : List (List (scope.Bound U))) → bound_in w (frames_of f g names tags) ≡ option_map f (scope.bound_in w names)
name_in f g w [] tags = refl
name_in f g w (frame ∷ names) [] =
    ap (λ x. or_else x (bound_in w (frames_of f g names []))) (name_found f w frame) ∙ ap (or_else (option_map f (scope.bound_among w frame))) (name_in f g w names [])
    ∙ both f (scope.bound_among w frame) (scope.bound_in w names)
name_in f g w (frame ∷ names) (others ∷ tags) =
    ap (λ x. or_else x (bound_in w (frames_of f g names tags))) (name_found f w frame) ∙ ap (or_else (option_map f (scope.bound_among w frame))) (name_in f g w names tags)
    ∙ both f (scope.bound_among w frame) (scope.bound_in w names)

pub tag_in : {T U : Type 0} (f : T → Entity) (g : U → Tagged) (w : List ℕ) (names : List (List (scope.Bound T))) (tags : List (List (scope.Bound U))) → length names ≡ length tags
    → tagged_in w (frames_of f g names tags) ≡ option_map g (scope.bound_in w tags)
tag_in f g w [] [] same = refl
tag_in f g w [] (others ∷ tags) same = absurd (omega arith)
tag_in f g w (frame ∷ names) [] same = absurd (omega arith)
tag_in f g w (frame ∷ names) (others ∷ tags) same =
    ap (λ x. or_else x (tagged_in w (frames_of f g names tags))) (tag_found g w others) ∙ ap (or_else (option_map g (scope.bound_among w others))) (tag_in f g w names tags (omega arith))
    ∙ both g (scope.bound_among w others) (scope.bound_in w tags)

pub frames_length : {T U : Type 0} (f : T → Entity) (g : U → Tagged) (names : List (List (scope.Bound T))) (tags : List (List (scope.Bound U))) → length (frames_of f g names tags) ≡ length names
frames_length f g [] tags = refl
frames_length f g (frame ∷ names) [] = ap suc (frames_length f g names [])
frames_length f g (frame ∷ names) (others ∷ tags) = ap suc (frames_length f g names tags)

-- ---- the innermost frame

pub name_here : {T U : Type 0} (f : T → Entity) (g : U → Tagged) (w : List ℕ) (names : List (List (scope.Bound T))) (tags : List (List (scope.Bound U)))
    → bound_among w (innermost (frames_of f g names tags)).names ≡ option_map f (scope.bound_among w (scope.innermost names))
name_here f g w [] tags = refl
name_here f g w (frame ∷ names) [] = name_found f w frame
name_here f g w (frame ∷ names) (others ∷ tags) = name_found f w frame

pub tag_here : {T U : Type 0} (f : T → Entity) (g : U → Tagged) (w : List ℕ) (names : List (List (scope.Bound T))) (tags : List (List (scope.Bound U))) → length names ≡ length tags
    → tagged_among w (innermost (frames_of f g names tags)).tags ≡ option_map g (scope.bound_among w (scope.innermost tags))
tag_here f g w [] [] same = refl
tag_here f g w [] (others ∷ tags) same = absurd (omega arith)
tag_here f g w (frame ∷ names) [] same = absurd (omega arith)
tag_here f g w (frame ∷ names) (others ∷ tags) same = tag_found g w others

pub name_bound : {T U : Type 0} (f : T → Entity) (g : U → Tagged) (w : List ℕ) (x : T) (names : List (List (scope.Bound T))) (tags : List (List (scope.Bound U)))
    → frames_of f g (scope.binding w x names) tags ≡ binding w (f x) (frames_of f g names tags)
name_bound f g w x [] tags = refl
name_bound f g w x (frame ∷ names) [] = refl
name_bound f g w x (frame ∷ names) (others ∷ tags) = refl

pub tag_bound : {T U : Type 0} (f : T → Entity) (g : U → Tagged) (w : List ℕ) (x : U) (names : List (List (scope.Bound T))) (tags : List (List (scope.Bound U))) → length names ≡ length tags
    → frames_of f g names (scope.binding w x tags) ≡ tagging w (g x) (frames_of f g names tags)
tag_bound f g w x [] [] same = refl
tag_bound f g w x [] (others ∷ tags) same = refl
tag_bound f g w x (frame ∷ names) [] same = absurd (omega arith)
tag_bound f g w x (frame ∷ names) (others ∷ tags) same = refl

pub frame_opened : {T U : Type 0} (f : T → Entity) (g : U → Tagged) (names : List (List (scope.Bound T))) (tags : List (List (scope.Bound U))) → frames_of f g ([] ∷ names) ([] ∷ tags) ≡ no_names ∷ frames_of f g names tags
frame_opened f g names tags = refl

pub frame_innermost : {T U : Type 0} (f : T → Entity) (g : U → Tagged) (names : List (List (scope.Bound T))) (tags : List (List (scope.Bound U))) → length names ≡ length tags
    → frame_of f g (scope.innermost names) (scope.innermost tags) ≡ innermost (frames_of f g names tags)
frame_innermost f g [] [] same = refl
frame_innermost f g [] (others ∷ tags) same = absurd (omega arith)
frame_innermost f g (frame ∷ names) [] same = absurd (omega arith)
frame_innermost f g (frame ∷ names) (others ∷ tags) same = refl

-- ---- a list of what a frame has, the latest first

pub one_listed : {X B E : Type 0} (shows : X → E) (shown : B → E) (x : X) (b : B) (list longer : List X) (names fewer whole : List B) → longer ≡ list ++ x ∷ [] → names ≡ b ∷ fewer → shows x ≡ shown b
    → map shows list ++ map shown names ≡ map shown whole → map shows longer ++ map shown fewer ≡ map shown whole
one_listed shows shown x b list longer names fewer whole adds takes same had =
    ap (λ l. map shows l ++ map shown fewer) adds
    ∙ ap (λ l. l ++ map shown fewer) (map-append shows list (x ∷ []))
    ∙ append_assoc (map shows list) (shows x ∷ []) (map shown fewer)
    ∙ ap (λ e. map shows list ++ e ∷ map shown fewer) same
    ∙ ap (λ l. map shows list ++ map shown l) (sym takes) ∙ had

pub all_listed : {X B E : Type 0} (shows : X → E) (shown : B → E) (list : List X) (names whole : List B) → names ≡ [] → map shows list ++ map shown names ≡ map shown whole → map shows list ≡ map shown whole
all_listed shows shown list names whole none had = sym (append-nil (map shows list)) ∙ ap (λ l. map shows list ++ map shown l) (sym none) ∙ had
