-- A comma expression that is read is derived: the parts of one that begins another are its own.
use Rattle.std.proofs.Common.{◌≡◌, ℕ, Bool, false, cond, List, [], ◌∷◌, drop, refl, sym, ap, subst, ◌∙◌}
use Rattle.lt_tree.specs.declared.terminal.Terminal.TheVariants as t
use Rattle.lt_tree.specs.Tree as c
use Rattle.lt_tree.specs.Comma.{followed_by, comma_of, is_comma}
use Rattle.lt_tree.specs.Symbols.{Symbol, start_of}
use Rattle.lt_tree.specs.Scope.{Scope}
use Rattle.lt_tree.specs.Grammar as g
use Rattle.lt_expr.specs.Front.{Rest, reopened}
use Rattle.lt_expr.specs.Walk.{Walked, last_end, walk, walk_all}
use Rattle.lt_expr.proofs.Walks.{walk_followed}
use Rattle.lt_expr.proofs.SoundFronts.{Sees, seen}
use Rattle.lt_expr.proofs.SoundSpots.{Spotted, node_of_two}

-- either a comma expression, or one that becomes the first part of one
data FirstPart : (e : c.Expression) → Type 0 where
  alone : {e : c.Expression} → is_comma e ≡ false
      → ((second : c.Expression) (rest : c.Expressions) → comma_of e (c.an_expression second rest) ≡ c.Comma (c.an_expression e (c.an_expression second rest)))
      → FirstPart e
  longer : {parts : c.Expressions} → FirstPart (c.Comma parts)

first_part : (e : c.Expression) → FirstPart e
first_part (c.Comma parts) = longer
first_part e = alone refl (λ second rest. refl)

sequence_rule : {scope : Scope} {ts us rest : List Symbol} {first : c.Expression} {parts : c.Expressions} {spots middle more : List ℕ}
    → Sees t.Comma us → is_comma first ≡ false → g.IsExpression scope g.marked ts first us spots middle → g.AreParts scope (drop 1 us) parts rest middle more
    → g.IsExpression scope g.comma ts (c.Comma (c.an_expression first parts)) rest (start_of ts ∷ spots) more
sequence_rule seen is d e = g.sequence d is e

longer_rule : {scope : Scope} {ts us rest : List Symbol} {p : ℕ} {front parts : c.Expressions} {spots middle more : List ℕ}
    → Sees t.Comma us → g.IsExpression scope g.marked ts (c.Comma front) us (p ∷ spots) middle → g.AreParts scope (drop 1 us) parts rest middle more
    → g.IsExpression scope g.comma ts (c.Comma (followed_by front parts)) rest (start_of ts ∷ spots) more
longer_rule seen d e = g.longer_sequence d e

no_parts : {scope : Scope} {ts rest : List Symbol} {spots more : List ℕ} → g.AreParts scope ts c.no_expressions rest spots more → ⊥
no_parts d = elim d [ ]

-- behind a comma expression in parentheses, whose end is taken off
longer_spots : {scope : Scope} {ts us rest : List Symbol} {before ends after : List ℕ} {front parts : c.Expressions}
    → Sees t.Comma us → Spotted (walk (c.Comma front)) ends before (g.IsExpression scope g.marked ts (c.Comma front) us)
    → Spotted (walk_all parts) after (drop 1 ends) (g.AreParts scope (drop 1 us) parts rest)
    → Spotted (walk (c.Comma (followed_by front parts))) (start_of ts ∷ after) before (g.IsExpression scope g.comma ts (c.Comma (followed_by front parts)) rest)
longer_spots {scope} {ts} {us} {rest} {before} {ends} {after} {front} {parts} s d p = record {
  spots = λ more.
      let y = p.spots more in
      let x = d.spots y.0 in
      let z : Walked = walk_all front (drop 1 ends, y.0) in
      let same : walk_all (followed_by front parts) (after, more) ≡ z = walk_followed front parts (after, more) ∙ ap (walk_all front) y.1 in
      let first : z.0 ≡ before = ap (λ (q : Walked). q.0) x.1 in
      let others : x.0 ≡ last_end ends ∷ z.1 = sym (ap (λ (q : Walked). q.1) x.1) in (
        start_of ts ∷ z.1,
        ap (λ (q : Walked). (q.0, start_of ts ∷ q.1)) same ∙ ap (λ (b : List ℕ). (b, start_of ts ∷ z.1)) first,
        longer_rule s (subst (λ (q : List ℕ). g.IsExpression scope g.marked ts (c.Comma front) us q y.0) others x.2) y.2,
      );
}

-- by what the first part is
commas : {scope : Scope} {ts us rest : List Symbol} {before ends after : List ℕ} {e second : c.Expression} {others : c.Expressions}
    → FirstPart e → Sees t.Comma us → Spotted (walk e) ends before (g.IsExpression scope g.marked ts e us)
    → Spotted (walk_all (c.an_expression second others)) after (reopened e (us, ends)).1
    (g.AreParts scope (drop 1 (reopened e (us, ends)).0) (c.an_expression second others) rest)
    → Spotted (walk (comma_of e (c.an_expression second others))) (start_of ts ∷ after) before
    (g.IsExpression scope g.comma ts (comma_of e (c.an_expression second others)) rest)
commas longer s d p = longer_spots s d p
commas {scope} {ts} {us} {rest} {before} {ends} {after} {e} {second} {others} (alone is same) s d p =
    let behind : Spotted (walk_all (c.an_expression second others)) after ends (g.AreParts scope (drop 1 us) (c.an_expression second others) rest) =
    subst (λ (b : Bool). Spotted (walk_all (c.an_expression second others)) after (cond {A = Rest} b (us, drop 1 ends) (us, ends)).1
    (g.AreParts scope (drop 1 (cond {A = Rest} b (us, drop 1 ends) (us, ends)).0) (c.an_expression second others) rest)) is p in
    subst (λ (x : c.Expression). Spotted (walk x) (start_of ts ∷ after) before (g.IsExpression scope g.comma ts x rest)) (sym (same second others))
    (node_of_two (λ spots middle more h k. sequence_rule s is h k) d behind)

pub comma_spots : {scope : Scope} {ts us rest : List Symbol} {before ends after : List ℕ} (e : c.Expression) (parts : c.Expressions)
    → Sees t.Comma us → Spotted (walk e) ends before (g.IsExpression scope g.marked ts e us)
    → Spotted (walk_all parts) after (reopened e (us, ends)).1 (g.AreParts scope (drop 1 (reopened e (us, ends)).0) parts rest)
    → Spotted (walk (comma_of e parts)) (start_of ts ∷ after) before (g.IsExpression scope g.comma ts (comma_of e parts) rest)
comma_spots e c.no_expressions s d p = let x = p.spots [] in absurd (no_parts x.2)
comma_spots e (c.an_expression second others) s d p = commas (first_part e) s d p
