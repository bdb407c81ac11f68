-- From an initialiser with marks added to its parts: they stand beside those of the unit.
use Rattle.std.proofs.Common.{◌≡◌, ℕ, List, Bool, refl, sym, subst}
use Rattle.lt_model.specs.declared.scalar.DataModel.{DataModel}
use Rattle.lt_tree.specs.Tree as c
use Rattle.lt_tree.specs.Nodes.{in_initialiser, in_initialisers}
use Rattle.lt_tree.specs.Typing.Types.{CType}
use Rattle.lt_tree.specs.Typing.Entities.{Known}
use Rattle.lt_tree.specs.Typing.Expressions.{as_value}
use Rattle.lt_tree.specs.Typing.Filling.{Filling, only_text, filling_of}
use Rattle.lt_tree.specs.Typing.InitialiserTyping.{filling_for}
use Rattle.lt_tree.specs.Typing.Programs.{Program}
use Rattle.lt_typed_nodes.specs.Reaching as place
use Rattle.lt_typed_nodes.specs.Reaching.{Piece, IsPart, IsReached, a_part, start_value, start_braces, a_value, braces, one_initialiser, more_initialisers}
use Rattle.lt_mark_typing.specs.Beside.{IsBeside, in_use}
use Rattle.lt_mark_typing.specs.Placed.{AreOld, as_it_is}
use Rattle.lt_mark_typing.specs.PlacedInitialisers as p
use Rattle.lt_mark_typing.specs.PlacedInitialisers.{AddsToInitialiser, AddsToInitialisers}
use Rattle.lt_mark_typing.proofs.Going.{entered_beside}
use Rattle.lt_mark_typing.proofs.Nodes.{old_first, old_second}
use Rattle.lt_mark_typing.proofs.Filled.{Fills}
use Rattle.lt_mark_typing.proofs.Fillings.{of_initialiser as of_old_initialiser}
use Rattle.lt_mark_typing.proofs.Initialisers.{AddsFilled, filled_behind, nothing_filled, for_list, filling_itself, of_initialiser, for_object}
use Rattle.lt_marked_places.proofs.Coming.{ComesToPiece}
use Rattle.lt_marked_places.proofs.Standing as stands
use Rattle.lt_marked_places.proofs.Standing.{FillsAlike, Stands}
use Rattle.lt_marked_places.proofs.Both.{gone, both}

-- ---- what is to be filled by lists

module _ {new : ℕ → Bool} {used : List ℕ} {further : List Bool} {k j : Known} where
  whole_alike : (t : CType) (is js : c.Initialisers) → only_text js ≡ only_text is → IsBeside new used further k j → FillsAlike new further (filling_of k 0 t is) (filling_of j 0 t js)
  whole_alike t is js e b r a = subst (Fills (AddsFilled new) r (filling_of k 0 t is)) (sym (for_object t is js e b)) (nothing_filled new r (filling_of k 0 t is) refl)

  list_alike : (is js : c.Initialisers) (f g : Filling) → only_text js ≡ only_text is → FillsAlike new further f g → IsBeside new used further k j → FillsAlike new further (filling_for k is f.left) (filling_for j js g.left)
  list_alike is js f g e s b r a = subst (Fills (AddsFilled new) r (filling_for k is f.left)) (sym (for_list is js f g e (s r a).left b)) (filling_itself k is f.left r)

module _ (new : ℕ → Bool) (greatest : ℕ) (model : DataModel) (unit : c.Unit) (program : Program)
    (all_come : (it : Piece) (known : Known) → IsReached greatest model unit it known → ComesToPiece program.facts it known) where
  come : {it : Piece} {known : Known} → IsReached greatest model unit it known → ComesToPiece program.facts it known
  come {it} {known} reached = all_come it known reached

  old_start_part : {is_static : Bool} {t : CType} {used : List ℕ} {further : List Bool} {known there k : Known} {i : c.Initialiser} {part : Piece}
      → IsReached greatest model unit (place.a_start is_static t i) known → AreOld new (in_initialiser i) → IsBeside new used further known there
      → IsPart (place.a_start is_static t i) there part k → Stands new greatest model unit part k
  old_start_part reached h b (start_value none) = stands.an_expression {position = in_use as_value} (a_part reached (start_value none)) refl (as_it_is h.1) (entered_beside b)
  old_start_part reached h b (start_braces {t = t} {list = list}) =
      stands.old_initialisers (a_part reached start_braces) (whole_alike t list list refl (entered_beside b)) h.1 (entered_beside b)

  pub start_part : {is_static : Bool} {t : CType} {marked : c.Initialiser} {there k : Known} {part : Piece}
      → Stands new greatest model unit (place.a_start is_static t marked) there → IsPart (place.a_start is_static t marked) there part k → Stands new greatest model unit part k
  start_part (stands.an_old_start reached h b) part = old_start_part reached h b part
  start_part (stands.a_start reached (p.Value h i d) b) (start_value none) = stands.an_expression (a_part reached (start_value h)) refl d (entered_beside b)
  start_part (stands.a_start reached (p.Braces {t = t} {is = is} {js = js} h i d) b) start_braces =
      stands.initialisers (a_part reached start_braces) (whole_alike t is js h (entered_beside b)) d (entered_beside b)

  old_initialiser_part : {is_static : Bool} {filling other : Filling} {used : List ℕ} {further : List Bool} {known there k : Known} {i : c.Initialiser} {part : Piece}
      → IsReached greatest model unit (place.an_initialiser is_static filling i) known → FillsAlike new further filling other → AreOld new (in_initialiser i) → IsBeside new used further known there
      → IsPart (place.an_initialiser is_static other i) there part k → Stands new greatest model unit part k
  old_initialiser_part reached s h b (a_value none) = stands.an_expression {position = in_use as_value} (a_part reached (a_value none)) refl (as_it_is h.1) (entered_beside b)
  old_initialiser_part {filling = f} {other = g} reached s h b (braces {list = list}) =
      stands.old_initialisers (a_part reached braces) (list_alike list list f g refl s (entered_beside b)) h.1 (entered_beside b)

  pub initialiser_part : {is_static : Bool} {filling : Filling} {marked : c.Initialiser} {there k : Known} {part : Piece}
      → Stands new greatest model unit (place.an_initialiser is_static filling marked) there → IsPart (place.an_initialiser is_static filling marked) there part k → Stands new greatest model unit part k
  initialiser_part (stands.an_old_initialiser reached s h b) part = old_initialiser_part reached s h b part
  initialiser_part (stands.an_initialiser reached s (p.as_it_is h) b) part = old_initialiser_part reached s h b part
  initialiser_part (stands.an_initialiser reached s (p.Value h i d) b) (a_value none) = stands.an_expression (a_part reached (a_value h)) refl d (entered_beside b)
  initialiser_part (stands.an_initialiser {filling = f} {other = g} reached s (p.Braces {is = is} {js = js} h i d) b) braces =
      stands.initialisers (a_part reached braces) (list_alike is js f g h s (entered_beside b)) d (entered_beside b)

  pub initialisers_part : {is_static : Bool} {filling : Filling} {marked : c.Initialisers} {there k : Known} {part : Piece}
      → Stands new greatest model unit (place.initialisers is_static filling marked) there → IsPart (place.initialisers is_static filling marked) there part k → Stands new greatest model unit part k
  initialisers_part (stands.old_initialisers reached s h b) (one_initialiser {first = first} {rest = rest}) =
      stands.an_old_initialiser (a_part reached one_initialiser) s (old_first new (in_initialiser first) (in_initialisers rest) h) b
  initialisers_part (stands.old_initialisers {is_static = is_static} {filling = filling} {other = other} reached s h b) (more_initialisers {first = first} {rest = rest} is) =
      let first_goes = both (of_old_initialiser (AddsFilled new) (filled_behind new) first is_static filling other (old_first new (in_initialiser first) (in_initialisers rest) h) s b) (gone (come (a_part reached one_initialiser))) is in
      stands.old_initialisers (a_part reached (more_initialisers first_goes.goes)) first_goes.related
      (old_second new (in_initialiser first) (in_initialisers rest) h) first_goes.beside
  initialisers_part (stands.initialisers reached s (p.an_initialiser d h) b) one_initialiser = stands.an_initialiser (a_part reached one_initialiser) s d b
  initialisers_part (stands.initialisers {other = other} reached s (p.an_initialiser d h) b) (more_initialisers is) =
      let first = both (of_initialiser d other s b) (gone (come (a_part reached one_initialiser))) is in
      stands.initialisers (a_part reached (more_initialisers first.goes)) first.related (h first.found first.known first.goes) first.beside
  initialisers_part (stands.initialisers reached s p.no_initialisers b) part = elim part [ ]
