-- Walks that are the same whatever types are added, and nodes that end so.
use Rattle.std.proofs.Common.{◌≡◌, ℕ, List, Result, Ok, ap, subst}
use Rattle.lt_tree.specs.Typing.Types.{CType}
use Rattle.lt_tree.specs.Typing.TypeRows.{Lasts}
use Rattle.lt_tree.specs.Typing.Rules.{Rule}
use Rattle.lt_tree.specs.Typing.Steps.{Outcome, Walk, gives, settle}
use Rattle.lt_table.specs.TableRows.{Stays}
use Rattle.lt_env.specs.declared.walker.Walker.{Walker}
use Rattle.lt_env.specs.declared.stop.TypeStop.{TypeStop}
use Rattle.lt_env.specs.Going.{At, Gives, types_in, known_of, done}
use Rattle.lt_env.proofs.Goings.{longer_still}
use Rattle.lt_type.proofs.Sequences.{gives_itself, gives_so}

-- the same walk from here on, whatever types are added
pub gives_here : {A X : Type 0} {shown : List CType → X → A} {s0 s1 : Walker} {r : Result X TypeStop} {walk other : List CType → Walk A}
    → Lasts (types_in s0) (λ types. walk types (known_of types s0) ≡ other types (known_of types s0)) → Gives shown s0 s1 r walk → Gives shown s0 s1 r other
gives_here {shown = shown} {s0 = s0} {s1 = s1} {r = r} same g = record {
  grows = g.grows;
  keeps = g.keeps;
  ends = record { at = λ types h. subst (λ (o : Outcome _). At types shown s1 r o) (same types (longer_still (types_in s0) (types_in s1) types g.grows h)) (g.ends.at types h) };
}

-- a node ends where these rules are broken
pub settled : {s0 s1 : Walker} {r : Result (Unit {0}) TypeStop} {faults : List Rule} (node : ℕ) (f : List CType → List Rule)
    → Stays s0.types.rows (λ types. faults ≡ f types) → Gives done s0 s1 r (λ types. settle node faults) → Gives done s0 s1 r (λ types. settle node (f types))
settled {s0 = s0} {faults = faults} node f is g =
    gives_here {s0 = s0} {walk = λ types. settle node faults} {other = λ types. settle node (f types)} (λ types h. ap (λ l. settle node l (known_of types s0)) (is types h)) g

-- something was made
pub gives_it : {A X : Type 0} {shown : List CType → X → A} {s : Walker} {x : X} (f : List CType → A) → ((types : List CType) → shown types x ≡ f types) → Gives shown s s (Ok x) (λ types. gives (f types))
gives_it f is = gives_so (λ types k. ap (λ a. gives a k) (is types)) gives_itself
