-- The pure expressions that lie in memory.
use Rattle.lt_ir.specs.declared.pure.Pure.{Pure}
use Rattle.lt_ir.specs.declared.pure.Pure.TheBlock as at
use Rattle.lt_ir.specs.Pure as p

abbrev mutual
  pub pure_of : Pure → p.Pure
  pure_of at.Never = p.Never
  pure_of (at.Fixed c) = p.Fixed c
  pure_of (at.Place v) = p.Place v
  pure_of (at.Load' ty a place) = p.Load ty (pure_of place)
  pure_of (at.Convert' how a operand) = p.Convert how (pure_of operand)
  pure_of (at.Apply' op s a left b right) = p.Apply op s (pure_of left) (pure_of right)
  pure_of (at.Move' op size a pointer b count) = p.Move op size (pure_of pointer) (pure_of count)
  pure_of (at.Member' offset a pointer) = p.Member offset (pure_of pointer)
  pure_of (at.Distance' size a left b right) = p.Distance size (pure_of left) (pure_of right)
  pure_of (at.Compare' op a left b right) = p.Compare op (pure_of left) (pure_of right)
  pure_of (at.Choose' a test b left c right) = p.Choose (pure_of test) (pure_of left) (pure_of right)
  pure_of (at.Comma' shape parts) = p.Comma (pures_of parts)

  pub pures_of : {m : _} → at.Row_of-Pure m → p.Pures
  pures_of at.end_of-Pure = p.no_pures
  pures_of (at.more_of-Pure first rest) = p.a_pure (pure_of first) (pures_of rest)
