-- What expressions note, and how it is found.
use Rattle.std.proofs.Common.{◌≡◌, refl, sym, ap, ◌∙◌, subst, ℕ, eqb, Bool, true, false, if◌then◌else◌, List, [], ◌∷◌, ◌++◌, map, Option, Some, None}
use Rattle.lt_tree.specs.Tree as c
use Rattle.lt_tree.specs.Nodes.{Node, in_expression, in_mark}
use Rattle.lt_tree.specs.Typing.Types.{CType, Void}
use Rattle.lt_tree.specs.Typing.Constants.{is_number}
use Rattle.lt_tree.specs.Typing.Entities.{Known, Fact}
use Rattle.lt_tree.specs.Typing.Steps.{Goes}
use Rattle.lt_tree.specs.Typing.ExpressionTyping.{expression, mark}
use Rattle.lt_objectives.specs.Places.{fact_among, corresponding, unmarked_numbers}
use Rattle.lt_tree_laws.specs.Typing.NodeNumbers.{GoesOver}
use Rattle.lt_typed_nodes.specs.Laws.{NotesItsNodes}
use Rattle.lt_facts.proofs.OutsideMarks.{places_unit}
use Rattle.lt_mark_typing.specs.Beside.{use_of}
use Rattle.lt_mark_typing.specs.Laws.{ExpressionsAreTypedAgain}
use Rattle.lt_kept_facts.specs.Asked.{asked, seen}
use Rattle.lt_kept_facts.specs.Laws.{ExpressionsNoteTheSame, FactsAreFoundByEither}
use Rattle.lt_kept_facts.proofs.SeenAlike.{SeenIn}
use Rattle.lt_kept_facts.proofs.KeptSteps.{Keeps, went}
use Rattle.lt_kept_facts.proofs.KeptAgain.{whole_to}

cancel : (xs ys zs : List Fact) → xs ++ ys ≡ xs ++ zs → ys ≡ zs
cancel [] ys zs h = h
cancel (x ∷ xs) ys zs h = cancel xs ys zs (rest h)
  where
    rest : x ∷ (xs ++ ys) ≡ x ∷ (xs ++ zs) → xs ++ ys ≡ xs ++ zs
    rest h = cc

-- what is asked of the nodes of a piece, where these facts are noted of them
pub seen_there : {A B : Type 0} {F G : List Fact} {new : ℕ → Bool} {ids : List ℕ} {further : List Bool} {R : A → B → Type 0} {k j : ℕ} {facts others : List Fact} {xs ys : List Node} {a : A} {b : B} {m n : Known}
    → Keeps F G new ids further R k facts xs j others ys (Goes a m) (Goes b n) → m.facts ≡ facts ++ F → n.facts ≡ others ++ G → seen F k xs ≡ seen G j ys
seen_there {F = F} {G = G} {facts = facts} {others = others} (went e r s p q h) f g =
    h (λ i low high. ap (λ l. fact_among l i) (cancel facts F p.more (sym f ∙ p.noted))) (λ i low high. ap (λ l. fact_among l i) (cancel others G q.more (sym g ∙ q.noted)))

pub expressions_note : ((it : c.Mark) (known : Known) → GoesOver (in_mark it) known (mark it known)) → ((it : c.Mark) (known : Known) → NotesItsNodes known (mark it known)) → ExpressionsAreTypedAgain → ExpressionsNoteTheSame
expressions_note numbered noting again new position used after further known other it marked x y behind last d b q r more others f g =
    seen_there (subst (λ o. Keeps more others new after further (SeenIn (use_of position)) known.next known.facts (in_expression it) other.next other.facts (in_expression marked) (Goes x behind) o) r
    (subst (λ o. Keeps more others new after further (SeenIn (use_of position)) known.next known.facts (in_expression it) other.next other.facts (in_expression marked) o (expression marked (use_of position) other)) q
    (whole_to {F = more} {G = others} numbered noting (again new) d other b))) f g

-- ---- numbers that correspond

asked_of : List Fact → Option ℕ → Option (CType × Bool)
asked_of facts None = None
asked_of facts (Some n) = asked facts n

either_asked : (F G : List Fact) (b : Bool) (m n : ℕ) (o p : Option ℕ) → asked F m ≡ asked G n → asked_of F o ≡ asked_of G p → asked_of F (if b then Some m else o) ≡ asked_of G (if b then Some n else p)
unfolding asked_of
either_asked F G true m n o p h g = h
either_asked F G false m n o p h g = g

corresponding_asked : (F G : List Fact) (k : ℕ) (ms ns : List ℕ) → map (asked F) ms ≡ map (asked G) ns → asked_of F (corresponding k ns ms) ≡ asked_of G (corresponding k ns ns)
unfolding asked_of
corresponding_asked F G k [] [] h = refl
corresponding_asked F G k (m ∷ ms) [] h = refl
corresponding_asked F G k [] (n ∷ ns) h = absurd cc
corresponding_asked F G k (m ∷ ms) (n ∷ ns) h = either_asked F G (eqb n k) m n (corresponding k ns ms) (corresponding k ns ns) (first h) (corresponding_asked F G k ms ns (rest h))
  where
    first : asked F m ∷ map (asked F) ms ≡ asked G n ∷ map (asked G) ns → asked F m ≡ asked G n
    first h = cc

    rest : asked F m ∷ map (asked F) ms ≡ asked G n ∷ map (asked G) ns → map (asked F) ms ≡ map (asked G) ns
    rest h = cc

type_in : Option (CType × Bool) → CType
type_in None = Void
type_in (Some p) = p.0

constant_in : Option (CType × Bool) → Bool
constant_in None = false
constant_in (Some p) = p.1

type_found : (found : Option Fact) → elim (found) as (λ _. CType) [ None ↦ Void | Some fact ↦ fact.type ]
    ≡ type_in (elim (found) as (λ _. Option (CType × Bool)) [ None ↦ None | Some fact ↦ Some (fact.type, is_number fact.constancy) ])
unfolding type_in
type_found None = refl
type_found (Some fact) = refl

constant_found : (found : Option Fact) → elim (found) as (λ _. Bool) [ None ↦ false | Some fact ↦ is_number fact.constancy ]
    ≡ constant_in (elim (found) as (λ _. Option (CType × Bool)) [ None ↦ None | Some fact ↦ Some (fact.type, is_number fact.constancy) ])
unfolding constant_in
constant_found None = refl
constant_found (Some fact) = refl

type_by : (facts : List Fact) (o : Option ℕ) → elim (elim (o) as (λ _. Option Fact) [ None ↦ None | Some n ↦ fact_among facts n ]) as (λ _. CType) [ None ↦ Void | Some fact ↦ fact.type ] ≡ type_in (asked_of facts o)
unfolding asked_of type_in
type_by facts None = refl
type_by facts (Some n) = type_found (fact_among facts n)

constant_by : (facts : List Fact) (o : Option ℕ) → elim (elim (o) as (λ _. Option Fact) [ None ↦ None | Some n ↦ fact_among facts n ]) as (λ _. Bool) [ None ↦ false | Some fact ↦ is_number fact.constancy ] ≡ constant_in (asked_of facts o)
unfolding asked_of constant_in
constant_by facts None = refl
constant_by facts (Some n) = constant_found (fact_among facts n)

pub found_by_either : FactsAreFoundByEither
found_by_either program other h k =
    let same : asked_of program.facts (corresponding k (unmarked_numbers other.unit) (unmarked_numbers program.unit)) ≡ asked_of other.facts (corresponding k (unmarked_numbers other.unit) (unmarked_numbers other.unit)) =
    corresponding_asked program.facts other.facts k (unmarked_numbers program.unit) (unmarked_numbers other.unit)
    (ap (map (asked program.facts)) (sym (places_unit program.unit)) ∙ h ∙ ap (map (asked other.facts)) (places_unit other.unit)) in (
      type_by program.facts (corresponding k (unmarked_numbers other.unit) (unmarked_numbers program.unit)) ∙ ap type_in same ∙ sym (type_by other.facts (corresponding k (unmarked_numbers other.unit) (unmarked_numbers other.unit))),
      constant_by program.facts (corresponding k (unmarked_numbers other.unit) (unmarked_numbers program.unit)) ∙ ap constant_in same ∙ sym (constant_by other.facts (corresponding k (unmarked_numbers other.unit) (unmarked_numbers other.unit))),
    )
