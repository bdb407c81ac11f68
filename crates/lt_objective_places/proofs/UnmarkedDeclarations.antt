-- Declarations that have no objectives get no marks.
use Rattle.std.proofs.Common.{◌≡◌, refl, ap, ◌∙◌, ℕ, ◌+◌, List, [], ◌∷◌, length, Option, Some, None, length-append, arith}
use Rattle.std.specs.List.{flat_map}
use Rattle.lt_tree.specs.Tree as c
use Rattle.lt_tree.specs.Nodes.{in_expression, in_specifiers, in_declarator, in_initialiser, in_initialisers, in_optional_initialiser, in_init_declarator, in_declaration}
use Rattle.lt_objectives.specs.Marked.{NewMark, initialiser_with_marks, initialisers_with_marks, start_with_marks, declarators_with_marks, declaration_with_marks}
use Rattle.lt_objective_places.proofs.Unmarked.{HasNone, fewer, one_fits, unmarked}

mutual
  initialiser : (new : List NewMark) (k : ℕ) (i : c.Initialiser) → HasNone new k (length (in_initialiser i)) → initialiser_with_marks new k i ≡ i
  initialiser new k (c.Value e) h = ap c.Value (unmarked new (k + 1) e (fewer (k + 1) (length (in_expression e)) (omega arith) (one_fits k (length (in_expression e))) h))
  initialiser new k (c.Braces list) h = ap c.Braces (initialisers new (k + 1) list (fewer (k + 1) (length (in_initialisers list)) (omega arith) (one_fits k (length (in_initialisers list))) h))

  initialisers : (new : List NewMark) (k : ℕ) (list : c.Initialisers) → HasNone new k (length (in_initialisers list)) → initialisers_with_marks new k list ≡ list
  initialisers new k c.no_initialisers h = refl
  initialisers new k (c.an_initialiser i list) h =
      let j = k + length (in_initialiser i) in
      let size = length-append (in_initialiser i) (in_initialisers list) in
      ap (λ x. c.an_initialiser x (initialisers_with_marks new j list)) (initialiser new k i (fewer k (length (in_initialiser i)) (omega arith) (omega (arith, size)) h))
      ∙ ap (c.an_initialiser i) (initialisers new j list (fewer j (length (in_initialisers list)) (omega arith) (omega (arith, size)) h))

start : (new : List NewMark) (k : ℕ) (i : Option c.Initialiser) → HasNone new k (length (in_optional_initialiser i)) → start_with_marks new k i ≡ i
start new k None h = refl
start new k (Some i) h = ap Some (initialiser new k i h)

declarators : (new : List NewMark) (k : ℕ) (ds : List c.InitDeclarator) → HasNone new k (length (flat_map in_init_declarator ds)) → declarators_with_marks new k ds ≡ ds
declarators new k [] h = refl
declarators new k (d ∷ ds) h =
    let i = k + length (in_declarator d.declarator) in
    let j = k + length (in_init_declarator d) in
    let size = length-append (in_init_declarator d) (flat_map in_init_declarator ds) in
    let own = length-append (in_declarator d.declarator) (in_optional_initialiser d.initialiser) in
    ap (λ x. record { declarator = d.declarator; initialiser = x } ∷ declarators_with_marks new j ds)
    (start new i d.initialiser (fewer i (length (in_optional_initialiser d.initialiser)) (omega arith) (omega (arith, size, own)) h))
    ∙ ap (λ rest. d ∷ rest) (declarators new j ds (fewer j (length (flat_map in_init_declarator ds)) (omega arith) (omega (arith, size)) h))

pub declaration_unmarked : (new : List NewMark) (k : ℕ) (d : c.Declaration) → HasNone new k (length (in_declaration d)) → declaration_with_marks new k d ≡ d
declaration_unmarked new k d h =
    let j = k + length (in_specifiers d.specifiers) in
    let size = length-append (in_specifiers d.specifiers) (flat_map in_init_declarator d.declarators) in
    ap (λ x. record { specifiers = d.specifiers; declarators = x }) (declarators new j d.declarators (fewer j (length (flat_map in_init_declarator d.declarators)) (omega arith) (omega (arith, size)) h))
