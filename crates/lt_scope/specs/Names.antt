-- What names stand for in nested frames, C11 6.2.1: the innermost frame that has a name decides, and in it the latest declaration.
use Rattle.std.specs.Prelude.{ℕ, if◌then◌else◌, List, [], ◌∷◌, Option, Some, None}
use Rattle.std.specs.Str.{bytes_eq}

-- a name, and what it stands for
pub record Bound (T : Type 0) : Type 0 where
  pub name : List ℕ
  pub what : T

-- what a name stands for in one frame, of which the latest name is the first
abbrev pub bound_among : {T : Type 0} → List ℕ → List (Bound T) → Option T
bound_among name [] = None
bound_among name (b ∷ bs) = if bytes_eq b.name name then Some b.what else bound_among name bs

abbrev pub or_else : {A : Type 0} → Option A → Option A → Option A
or_else None other = other
or_else (Some a) other = Some a

-- what a name stands for in frames, the innermost first
abbrev pub bound_in : {T : Type 0} → List ℕ → List (List (Bound T)) → Option T
bound_in name [] = None
bound_in name (frame ∷ frames) = or_else (bound_among name frame) (bound_in name frames)

abbrev pub innermost : {T : Type 0} → List (List (Bound T)) → List (Bound T)
innermost [] = []
innermost (frame ∷ frames) = frame

-- one more name in the innermost frame
abbrev pub binding : {T : Type 0} → List ℕ → T → List (List (Bound T)) → List (List (Bound T))
binding name what [] = []
binding name what (frame ∷ frames) = (record { name = name; what = what } ∷ frame) ∷ frames
