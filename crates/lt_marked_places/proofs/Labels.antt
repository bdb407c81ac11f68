-- Where a label in front of an expression comes from that stands beside one of the unit.
use Rattle.std.proofs.Common.{◌≡◌, ℕ, ◌+◌, Bool, false, List, ◌∷◌, refl, sym, ap, ◌∙◌, subst}
use Rattle.lt_model.specs.declared.scalar.DataModel.{DataModel}
use Rattle.lt_tree.specs.Tree as c
use Rattle.lt_tree.specs.Nodes.{in_expression, in_marks, in_mark}
use Rattle.lt_tree.specs.Typing.TypedTree as e
use Rattle.lt_tree.specs.Typing.TypedTree.{Marks}
use Rattle.lt_tree.specs.Typing.Entities.{Known, Fact}
use Rattle.lt_tree.specs.Typing.Steps.{Goes, goes_on}
use Rattle.lt_tree.specs.Typing.Expressions.{Use}
use Rattle.lt_tree.specs.Typing.MarkRules.{number_of_id}
use Rattle.lt_tree.specs.Typing.ExpressionTyping.{marks, mark}
use Rattle.lt_typed_nodes.specs.Coming.{entered, ComesToIt}
use Rattle.lt_typed_nodes.specs.Reaching as place
use Rattle.lt_typed_nodes.specs.Reaching.{Piece, IsReached, ComesToMark, first_mark, later_mark, IsLabelAt}
use Rattle.lt_mark_typing.specs.Beside.{IsBeside}
use Rattle.lt_mark_typing.specs.Placed as p
use Rattle.lt_mark_typing.specs.Placed.{AreOld, AreNewLabels, joined, as_it_is, in_parts, in_front}
use Rattle.lt_mark_typing.proofs.Going.{entered_beside}
use Rattle.lt_mark_typing.proofs.Nodes.{old_first, old_second}
use Rattle.lt_mark_typing.proofs.NewMarks.{new_mark, numbered_alone}
use Rattle.lt_mark_typing.proofs.Unchanged.{of_mark}
use Rattle.lt_marked_places.specs.Laws.{ComesFrom, of_unit, is_added}
use Rattle.lt_marked_places.proofs.Coming.{ComesToPiece}
use Rattle.lt_marked_places.proofs.Standing as stands
use Rattle.lt_marked_places.proofs.Standing.{Stands}
use Rattle.lt_marked_places.proofs.Both.{same_known, found_both, went_on}

joined_none : (ms : c.Marks) → joined ms c.no_marks ≡ ms
joined_none c.no_marks = refl
joined_none (c.a_mark first rest) = ap (c.a_mark first) (joined_none rest)

module _ (new : ℕ → Bool) (greatest : ℕ) (model : DataModel) (unit : c.Unit) where
  -- one of new labels
  among_new : (labels : c.Marks) {used : List ℕ} (after : List ℕ) {further : List Bool} {known start there : Known} {label : c.Mark} → known.is_unmarked ≡ false → AreNewLabels new used after known labels
      → IsBeside new used further known start → ComesToMark labels start label there → ComesFrom new greatest model unit label there
  among_new (c.a_mark m rest) after u are b (first_mark is) = is_added after rest are b
  among_new (c.a_mark (c.mark predicate id tag c.no_bindings) rest) {used} after {known = known} u are b (later_mark is later) =
      let found = new_mark predicate id tag u are.0 are.1 are.2 b in
      among_new rest after u are.4 (subst (IsBeside new (number_of_id id ∷ used) found.2 known) (same_known (sym found.4 ∙ is)) found.5) later
  among_new (c.a_mark (c.mark predicate id tag (c.a_binding name value others)) rest) after u are b (later_mark is later) = absurd are
  among_new c.no_marks after u are b at = elim at [ ]

  -- one of old marks and others behind them
  among : (ms labels : c.Marks) {used : List ℕ} {further : List Bool} {known start there last : Known} {label : c.Mark} {typed : Marks}
      → ((k : Known) → ComesToMark ms known label k → IsLabelAt greatest model unit label k) → AreOld new (in_marks ms) → marks ms known ≡ Goes typed last → IsBeside new used further known start
      → ((ts : Marks) (next : Known) (behind : List Bool) (j : Known) → marks ms known ≡ Goes ts next → IsBeside new used behind next j → ComesToMark labels j label there → ComesFrom new greatest model unit label there)
      → ComesToMark (joined ms labels) start label there → ComesFrom new greatest model unit label there
  among c.no_marks labels {further = further} {known} {start} reached h goes b f at = f e.no_marks known further start refl b at
  among (c.a_mark first rest) labels {known = known} reached h goes b f (first_mark is) =
      let went = went_on (mark first known) _ goes in of_unit (reached known (first_mark went.2)) (old_first new (in_mark first) (in_marks rest) h) b
  among (c.a_mark first rest) labels {known = known} reached h goes b f (later_mark is later) =
      let one = went_on (mark first known) _ goes in
      let two = went_on (marks rest one.1) _ one.3 in
      let found = found_both (of_mark first (old_first new (in_mark first) (in_marks rest) h) b) one.2 is in
      among rest labels (λ k at. reached k (later_mark one.2 at)) (old_second new (in_mark first) (in_marks rest) h) two.2 found.2
      (λ ts next behind j t b at. f (e.a_mark one.0 ts) next behind j (ap (λ it. goes_on it (λ m k. goes_on (marks rest k) (λ ms k. Goes (e.a_mark m ms) k))) one.2 ∙ ap (λ it. goes_on it (λ ms k. Goes (e.a_mark one.0 ms) k)) t) b at)
      later

  module _ (facts : List Fact) (come : (it : Piece) (known : Known) → IsReached greatest model unit it known → ComesToPiece facts it known) where
    -- one of the marks of an expression of the unit, or behind them
    among_own : {role : Use} {used : List ℕ} {further : List Bool} {known start there : Known} {label : c.Mark} {it : c.Expression} (ms labels : c.Marks)
        → IsReached greatest model unit (place.an_expression role (c.Marked ms it)) known → AreOld new (in_marks ms) → IsBeside new used further known start
        → ((ts : Marks) (next : Known) (behind : List Bool) (j : Known) → marks ms (entered known) ≡ Goes ts next → IsBeside new used behind next j → ComesToMark labels j label there → ComesFrom new greatest model unit label there)
        → ComesToMark (joined ms labels) (entered start) label there → ComesFrom new greatest model unit label there
    among_own {role} {known = known} {it = it} ms labels reached h b f at =
        let comes : ComesToIt facts known role (c.Marked ms it) = come (place.an_expression role (c.Marked ms it)) known reached in
        let went = went_on (marks ms (entered known)) _ comes.goes in
        among ms labels (λ k at. record { role = role; marks_there = ms; it = it; known = known; reached = reached; comes = at }) h went.2 (entered_beside b) f at

    pub label_comes : {role : Use} {known there : Known} {label : c.Mark} {those : c.Marks} {it : c.Expression} → Stands new greatest model unit (place.an_expression role (c.Marked those it)) known
        → ComesToMark those (entered known) label there → ComesFrom new greatest model unit label there
    label_comes {known = known} {there} {label} {those} {it} (stands.an_expression reached q (as_it_is h) b) at =
        among_own those c.no_marks reached (old_first new (in_marks those) (in_expression it) h.1) b (λ ts next behind j t b at. elim at [ ])
        (subst (λ ms. ComesToMark ms (entered known) label there) (sym (joined_none those)) at)
    label_comes (stands.an_expression reached q (in_parts n (p.Marked {between = between} {ms = ms} labels h g f)) b) at =
        among_own ms labels reached h b (λ ts next behind j t b at. among_new labels between (g ts next t).0 (g ts next t).1 b at) at
    label_comes {known = known} (stands.an_expression reached q (in_front {between = between} {labels = labels} u t f are d) b) at = among_new labels between u are (numbered_alone (known.next + 1) known.facts b) at
    label_comes {known = known} (stands.labels_before {between = between} {labels = labels} reached q u t are d b) at = among_new labels between u are (numbered_alone (known.next + 1) known.facts b) at
