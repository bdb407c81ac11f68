-- What a walk does between going into a node from behind and leaving it to its front.
use Rattle.std.specs.Prelude.{◌∷◌, drop}
use Rattle.lt_expr.specs.Walk.{Walked}

abbrev pub inside : (Walked → Walked) → Walked → Walked
inside walks w = ((walks (0 ∷ w.0, w.1)).0, drop 1 (walks (0 ∷ w.0, w.1)).1)
