-- From ends to spots: how trees that were walked are put together.
use Rattle.std.proofs.Common.{◌≡◌, ℕ, List, ◌∷◌, refl, sym, ap, subst, ◌∙◌}
use Rattle.lt_expr.specs.Walk.{Walked, node}

-- Walked before any spots, these ends lead to those before them, and to spots of which a rule holds.
pub record Spotted (walks : Walked → Walked) (after before : List ℕ) (R : (spots more : List ℕ) → Type 0) : Type 0 where
  pub spots : (more : List ℕ) → (spots : List ℕ) × (walks (after, more) ≡ (before, spots)) × R spots more

-- what holds of the walk itself
pub spotted : {walks : Walked → Walked} {after before : List ℕ} {R : (spots more : List ℕ) → Type 0} → Spotted walks after before R → (more : List ℕ)
    → ((walks (after, more)).0 ≡ before) × R (walks (after, more)).1 more
spotted {walks} {after} {R} d more =
    let x = d.spots more in
    (ap (λ (w : Walked). w.0) x.1, subst (λ (spots : List ℕ). R spots more) (sym (ap (λ (w : Walked). w.1) x.1)) x.2)

-- no node
pub no_spot : {ends : List ℕ} {R : (spots more : List ℕ) → Type 0} → ((more : List ℕ) → R more more) → Spotted (λ w. w) ends ends R
no_spot h = record { spots = λ more. (more, refl, h more) }

-- the same nodes by another rule
pub by_rule : {walks : Walked → Walked} {after before : List ℕ} {R S : (spots more : List ℕ) → Type 0}
    → ((spots more : List ℕ) → R spots more → S spots more) → Spotted walks after before R → Spotted walks after before S
by_rule f d = record { spots = λ more. let x = d.spots more in (x.0, x.1, f x.0 more x.2) }

-- the same nodes, walked in another way
pub same_walk : {walks others : Walked → Walked} {after before : List ℕ} {R : (spots more : List ℕ) → Type 0}
    → ((w : Walked) → others w ≡ walks w) → Spotted walks after before R → Spotted others after before R
same_walk {walks} {others} {after} e d = record { spots = λ more. let x = d.spots more in (x.0, e (after, more) ∙ x.1, x.2) }

-- nodes and then others
pub two : {first second : Walked → Walked} {after between before : List ℕ} {R S T : (spots more : List ℕ) → Type 0}
    → ((spots middle more : List ℕ) → R spots middle → S middle more → T spots more)
    → Spotted first between before R → Spotted second after between S → Spotted (λ w. first (second w)) after before T
two {first} f d e = record {
  spots = λ more.
      let y = e.spots more in
      let x = d.spots y.0 in
      (x.0, ap first y.1 ∙ x.1, f x.0 y.0 more x.2 y.2);
}

-- a node around others
pub one_node : {walks : Walked → Walked} {at : ℕ} {after before : List ℕ} {R S : (spots more : List ℕ) → Type 0}
    → ((spots more : List ℕ) → R spots more → S (at ∷ spots) more) → Spotted walks after before R → Spotted (node walks) (at ∷ after) before S
one_node {at} f d = record {
  spots = λ more.
      let x = d.spots more in
      (at ∷ x.0, ap (λ (p : Walked). (p.0, at ∷ p.1)) x.1, f x.0 more x.2);
}

-- a node around two
pub node_of_two : {first second : Walked → Walked} {at : ℕ} {after between before : List ℕ} {R S T : (spots more : List ℕ) → Type 0}
    → ((spots middle more : List ℕ) → R spots middle → S middle more → T (at ∷ spots) more)
    → Spotted first between before R → Spotted second after between S → Spotted (node (λ w. first (second w))) (at ∷ after) before T
node_of_two {at} {T} f d e = one_node {S = T} (λ spots more x. x) (two {T = λ spots more. T (at ∷ spots) more} f d e)

-- nodes, then others and then others again
pub three : {first second third : Walked → Walked} {after between amid before : List ℕ} {R S T U : (spots more : List ℕ) → Type 0}
    → ((spots x y more : List ℕ) → R spots x → S x y → T y more → U spots more)
    → Spotted first between before R → Spotted second amid between S → Spotted third after amid T
    → Spotted (λ w. first (second (third w))) after before U
three {first} {second} f d e g = record {
  spots = λ more.
      let z = g.spots more in
      let y = e.spots z.0 in
      let x = d.spots y.0 in
      (x.0, ap (λ (w : Walked). first (second w)) z.1 ∙ (ap first y.1 ∙ x.1), f x.0 y.0 z.0 more x.2 y.2 z.2);
}

-- a node around three
pub node_of_three : {first second third : Walked → Walked} {at : ℕ} {after between amid before : List ℕ} {R S T U : (spots more : List ℕ) → Type 0}
    → ((spots x y more : List ℕ) → R spots x → S x y → T y more → U (at ∷ spots) more)
    → Spotted first between before R → Spotted second amid between S → Spotted third after amid T
    → Spotted (node (λ w. first (second (third w)))) (at ∷ after) before U
node_of_three {at} {U} f d e g = one_node {S = U} (λ spots more x. x) (three {U = λ spots more. U (at ∷ spots) more} f d e g)

-- a node around some, and then others
pub node_and_others : {first second : Walked → Walked} {at : ℕ} {after between before : List ℕ} {R S T : (spots more : List ℕ) → Type 0}
    → ((spots middle more : List ℕ) → R spots middle → S middle more → T (at ∷ spots) more)
    → Spotted first between before R → Spotted second after (at ∷ between) S → Spotted (λ w. node first (second w)) after before T
node_and_others {first} {at} f d e = record {
  spots = λ more.
      let y = e.spots more in
      let x = d.spots y.0 in
      (at ∷ x.0, ap (node first) y.1 ∙ ap (λ (p : Walked). (p.0, at ∷ p.1)) x.1, f x.0 y.0 more x.2 y.2);
}
