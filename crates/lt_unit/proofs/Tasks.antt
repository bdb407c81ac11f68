-- Types are listed task by task.
use Rattle.std.proofs.Common.{◌≡◌, ◌<◌, ◌+◌, ℕ, List, [], ◌∷◌, ◌++◌, length, map, drop, drop-cons, get_or, slice_get, true, Some, refl, sym, ap, subst, ◌∙◌, arith, add-one}
use Rattle.std.proofs.lemmas.List.{append-nil, append_assoc, drop_all}
use Rattle.lt_tree.specs.declared.typed.types.TypeId.{TypeId}
use Rattle.lt_tree.specs.declared.typed.types.TypeRow.{TypeRow}
use Rattle.lt_tree.specs.declared.typed.types.TypeRow.TheVariants as row
use Rattle.lt_tree.specs.Typing.Types.{CType, bare}
use Rattle.lt_tree.specs.Typing.TypeRows.{type_in, all_in, type_of_row}
use Rattle.lt_tree.specs.Typing.Programs.{made_of, all_made_of, with_new}
use Rattle.lt_table.proofs.RowsOnce.{type_at}
use Rattle.lt_table.proofs.TableRows.{continues_same}
use Rattle.lt_unit.specs.MadeOf.{IsClosed, parts_of}
use Rattle.lt_unit.specs.Listing.{AreByPlace, AreMarked, IsListing, ListsMore, types_at, listed_in}
use Rattle.lt_unit.specs.Tasks.{parts_in, listed_by, all_listed_by, StaysClosed, AreDue, GoesOn}
use Rattle.lt_unit.specs.declared.listing.Listed.{Listed}
use Rattle.lt_unit.specs.declared.listing.Task.{Task}
use Rattle.lt_unit.specs.declared.listing.Task.TheVariants as task
use Rattle.lt_unit.specs.declared.listing.TypesByPlace.{TypesByPlace}
use Rattle.lt_unit.proofs.MadeOf.{with_new-append, closed_on, parts_before}
use Rattle.lt_unit.proofs.Listings.{all_there}

-- ---- what tasks list

by-append : (types : List CType) (xs ys : List Task) → all_listed_by types (xs ++ ys) ≡ all_listed_by types xs ++ all_listed_by types ys
by-append types [] ys = refl
by-append types (x ∷ xs) ys = ap (λ l. listed_by types x ++ l) (by-append types xs ys) ∙ sym (append_assoc (listed_by types x) (all_listed_by types xs) (all_listed_by types ys))

by_all : (types : List CType) (ids : List TypeId) → all_listed_by types (map task.List ids) ≡ all_made_of (all_in types ids)
by_all types [] = refl
by_all types (t ∷ ids) = ap (λ l. made_of (type_in types t) ++ l) (by_all types ids)

-- the parts of a row are those of its type
by_parts : (types : List CType) (r : TypeRow) → all_listed_by types (map task.List (parts_in r)) ≡ parts_of (type_of_row types r)
by_parts types row.Void = refl
by_parts types (row.Num s) = refl
by_parts types (row.Pointer t) = append-nil (made_of (type_in types t))
by_parts types (row.Array t n) = append-nil (made_of (type_in types t))
by_parts types (row.Struct k) = refl
by_parts types (row.Function f) = ap (λ l. made_of (type_in types f.result) ++ l) (by_all types f.parameters.items)
by_parts types row.Floating = refl
by_parts types (row.Qualified q t) = append-nil (made_of (type_in types t))

stays_closed : (types found : List CType) (ids : List TypeId) (rest : List Task) → IsClosed found → StaysClosed types (with_new found (all_listed_by types (map task.List ids))) rest → StaysClosed types found (map task.List ids ++ rest)
stays_closed types found [] rest closed h = h
stays_closed types found (t ∷ ids) rest closed h =
    let more = closed_on found (type_in types t) closed in (
      more,
      stays_closed types (with_new found (made_of (type_in types t))) ids rest more
          (subst (λ l. StaysClosed types l rest) (with_new-append found (made_of (type_in types t)) (all_listed_by types (map task.List ids))) h),
    )

-- ---- the first and the last

pub due_first : (types : TypesByPlace) (it : Listed) (t : TypeId) → IsListing types it → AreDue types it (task.List t ∷ []) (with_new (listed_in (types_at types) it) (made_of (type_in (types_at types) t)))
due_first types it t listing = record {
  listing = listing;
  closed = (closed_on (listed_in (types_at types) it) (type_in (types_at types) t) listing.closed, tt);
  rest = ap (with_new (listed_in (types_at types) it)) (append-nil (made_of (type_in (types_at types) t)));
}

pub due_none : (types : TypesByPlace) (old it : Listed) (more : List CType) → AreDue types it [] (with_new (listed_in (types_at types) old) more) → ListsMore types old it more
due_none types old it more due = record { listing = due.listing; listed = due.rest }

-- ---- one task

-- a type that is listed
pub passed : (types : TypesByPlace) (it : Listed) (t u : TypeId) (rest : List Task) → AreByPlace types → slice_get types.bare.items t.place ≡ Some u → slice_get it.is_listed.items u.place ≡ Some true
    → GoesOn types it (task.List t ∷ rest) it rest
passed types it t u rest known is at all due =
    let here : List CType = listed_in (types_at types) it in
    let made : List CType = made_of (type_in (types_at types) t) in
    let e : here ≡ with_new here made = (all_there types it t u known due.listing is at).listed in
    record {
      listing = due.listing;
      closed = subst (λ l. StaysClosed (types_at types) l rest) (sym e) due.closed.1;
      rest = ap (λ l. with_new l (all_listed_by (types_at types) rest)) e ∙ sym (with_new-append here made (all_listed_by (types_at types) rest)) ∙ due.rest;
    }

-- a type whose parts are next
pub opened : (types : TypesByPlace) (it : Listed) (t u : TypeId) (r : TypeRow) (rest tasks : List Task) → AreByPlace types → slice_get types.bare.items t.place ≡ Some u → slice_get types.rows.items t.place ≡ Some r
    → tasks ≡ map task.List (parts_in r) ++ task.Add u ∷ rest → GoesOn types it (task.List t ∷ rest) it tasks
opened types it t u r rest tasks known is at next all due =
    let here : List CType = listed_in (types_at types) it in
    let ty : CType = type_in (types_at types) t in
    let parts : List CType = all_listed_by (types_at types) (map task.List (parts_in r)) in
    let left : List CType = all_listed_by (types_at types) rest in
    let is_bare : type_in (types_at types) u ≡ bare ty = known.bare t u is (types_at types) (continues_same (types_at types)) in
    let are_parts : parts ≡ parts_of ty = by_parts (types_at types) r ∙ ap parts_of (sym (type_at types.rows.items t r at (known.once.before t.place r at))) in
    let made : with_new (with_new here parts) (type_in (types_at types) u ∷ []) ≡ with_new here (made_of ty) =
    ap (λ l. with_new (with_new here l) (type_in (types_at types) u ∷ [])) are_parts ∙ ap (λ x. with_new (with_new here (parts_of ty)) (x ∷ [])) is_bare ∙ parts_before here ty in
    record {
      listing = due.listing;
      closed =
          subst (StaysClosed (types_at types) here) (sym next)
          (stays_closed (types_at types) here (parts_in r) (task.Add u ∷ rest) due.listing.closed
          (subst IsClosed (sym made) (closed_on here ty due.listing.closed), subst (λ l. StaysClosed (types_at types) l rest) (sym made) due.closed.1));
      rest =
          ap (λ l. with_new here (all_listed_by (types_at types) l)) next ∙ ap (with_new here) (by-append (types_at types) (map task.List (parts_in r)) (task.Add u ∷ rest))
          ∙ with_new-append here parts (type_in (types_at types) u ∷ left)
          ∙ ap (λ l. with_new l left) made ∙ sym (with_new-append here (made_of ty) left) ∙ due.rest;
    }

-- a type whose parts are listed
pub added : (types : TypesByPlace) (a b : Listed) (u : TypeId) (rest : List Task) → AreMarked types b → listed_in (types_at types) b ≡ with_new (listed_in (types_at types) a) (type_in (types_at types) u ∷ [])
    → GoesOn types a (task.Add u ∷ rest) b rest
added types a b u rest marked e all due = record {
  listing = record { marked = marked; closed = subst IsClosed (sym e) due.closed.0 };
  closed = subst (λ l. StaysClosed (types_at types) l rest) (sym e) due.closed.1;
  rest = ap (λ l. with_new l (all_listed_by (types_at types) rest)) e ∙ due.rest;
}

-- ---- parts, the last before the others

pub none_opened : (list : List TypeId) (left : ℕ) (all : List Task) → left ≡ length list → all ≡ map task.List (drop left list) ++ all
none_opened list left all e = ap (λ l. map task.List l ++ all) (sym (drop_all left list (omega (arith, e))))

pub one_opened : (list : List TypeId) (i left : ℕ) (d : TypeId) (old new all : List Task) → i + 1 ≡ left → i < length list → new ≡ task.List (get_or list i d) ∷ old → old ≡ map task.List (drop left list) ++ all
    → new ≡ map task.List (drop i list) ++ all
one_opened list i left d old new all e within is so_far =
    is ∙ ap (λ l. task.List (get_or list i d) ∷ l) (so_far ∙ ap (λ k. map task.List (drop k list) ++ all) (sym e ∙ add-one i))
    ∙ ap (λ l. map task.List l ++ all) (sym (drop-cons list i d within))
