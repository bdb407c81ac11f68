-- Steps one after another, and the same outcome said in another way, as `Gives` has them.
use Rattle.std.proofs.Common.{◌≡◌, List, Result, Ok, Err, OnOk, IfOk, IfErr, Option, Some, None, is_some, option_map, sym, ap, subst}
use Rattle.lt_tree.specs.Typing.Types.{CType}
use Rattle.lt_tree.specs.Typing.Steps.{Walk, goes_on}
use Rattle.lt_env.specs.NamesValue.{NamesValue, KeepsOuter}
use Rattle.lt_env.specs.declared.walker.Walker.{Walker}
use Rattle.lt_env.specs.declared.stop.TypeStop.{TypeStop}
use Rattle.lt_env.specs.declared.stop.TypeStop.TheVariants.{NoMemory}
use Rattle.lt_env.specs.Going.{At, Gives, types_in, known_of, answering, itself}
use Rattle.lt_env.proofs.Judgements.{judged, stopped, widens_none}
use Rattle.lt_env.proofs.Goings.{longer_still, kept_still, ends_then}

pub some_mapped : {A B : Type 0} (f : A → B) (o : Option A) (p : Option B) → option_map f o ≡ p → is_some o ≡ is_some p
some_mapped f None p e = ap is_some e
some_mapped f (Some a) p e = ap is_some e

-- the same outcome, said in another way
pub gives_as : {A X : Type 0} {shown : List CType → X → A} {s0 s1 : Walker} {r : Result X TypeStop} {walk other : List CType → Walk A}
    → Gives shown s0 s1 r walk → ((types : List CType) → walk types (known_of types s0) ≡ other types (known_of types s0)) → Gives shown s0 s1 r other
gives_as {shown = shown} {s0 = s0} {s1 = s1} {r = r} a e = record {
  grows = a.grows;
  keeps = a.keeps;
  ends = record { at = λ types h. subst (At types shown s1 r) (e types) (a.ends.at types h) };
}

-- a part of the code that only makes a value
pub made : {X : Type 0} (w : Walker) (r : Result X TypeStop) (v : X) → IfOk r (λ x. x ≡ v) → IfErr r (λ stop. stop ≡ NoMemory) → Gives itself w w r (λ types. answering (λ known. v))
made w (Ok x) v e f = judged widens_none (λ types h. e)
made w (Err stop) v e f = subst (λ s. Gives itself w w (Err s) (λ types. answering (λ known. v))) (sym f) (stopped widens_none)

-- ---- one step after another

kept_then : {Y : Type 0} (a b c : NamesValue) (r : Result Y TypeStop) → KeepsOuter a b → OnOk r (KeepsOuter b c) → OnOk r (KeepsOuter a c)
kept_then a b c (Ok y) f g = kept_still a b c f g
kept_then a b c (Err stop) f g = tt

pub gives_then : {A B X Y : Type 0} {shown : List CType → X → A} {sees : List CType → Y → B} {s0 s1 s2 : Walker} {x : X} {r : Result Y TypeStop} {first : List CType → Walk A} (rest : List CType → A → Walk B)
    → Gives shown s0 s1 (Ok x) first → Gives sees s1 s2 r (λ types. rest types (shown types x)) → Gives sees s0 s2 r (λ types known. goes_on (first types known) (rest types))
gives_then {s0 = s0} {s1 = s1} {s2 = s2} {r = r} rest a b = record {
  grows = longer_still (types_in s0) (types_in s1) (types_in s2) a.grows b.grows;
  keeps = kept_then s0.names s1.names s2.names r a.keeps b.keeps;
  ends = ends_then rest a.ends b.grows b.ends;
}
