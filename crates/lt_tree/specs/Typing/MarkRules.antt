-- What marks ask: ids and bound names stand once in a unit, predicates are pure scalars, and each form has its places.
use Rattle.std.specs.Prelude.{ℕ, ℤ, pos, negsuc, nat_le, Bool, true, false, not, ◌&&◌, ◌==◌, if◌then◌else◌, List, [], ◌∷◌, length, map, Option, Some, None, unwrap_or}
use Rattle.std.specs.List.{list_any, list_all}
use Rattle.lt_model.specs.declared.scalar.Scalar.TheVariants as S
use Rattle.lt_model.specs.Plain.{is_plain_byte}
use Rattle.lt_tree.specs.Constants.{value_of}
use Rattle.lt_tree.specs.Tree as c
use Rattle.lt_tree.specs.Purity.{is_pure}
use Rattle.lt_tree.specs.Typing.Types.{Num, is_scalar, is_integer}
use Rattle.lt_tree.specs.Typing.Constants.{varying}
use Rattle.lt_tree.specs.Typing.Rules.{unless, bad_mark}
use Rattle.lt_tree.specs.Typing.TypedTree as e
use Rattle.lt_tree.specs.Typing.TypedTree.{Bindings}
use Rattle.lt_tree.specs.Typing.Entities.{Known, Label, greatest_label_id}
use Rattle.lt_tree.specs.Typing.Operands.{holds}
use Rattle.lt_tree.specs.Typing.Expressions.{Typed, Use, as_value, as_truth, as_place, as_callee, valued, own_type, is_lvalue, as_it_is_read, value_in, Judged, judgement}
use Rattle.lt_tree.specs.Typing.Operations.{is_among}

-- ---- ids, tags and names

abbrev pub id_from : Option ℤ → Option ℕ
id_from None = None
id_from (Some (negsuc n)) = None
id_from (Some (pos n)) = if nat_le 1 n && nat_le n greatest_label_id then Some n else None

-- the number that an id says, if it may be one
abbrev pub id_of : List ℕ → Option ℕ
id_of text = id_from (value_of text)

-- an id as a number; 0 where it is none
abbrev pub number_of_id : List ℕ → ℕ
number_of_id text = unwrap_or (id_of text) 0

-- no mark before has this id
abbrev pub is_new_id : Known → ℕ → Bool
is_new_id known id = not (list_any (λ label. label.id == id) known.labels)

-- an id that no mark before has, at most the greatest
abbrev pub is_good_id : Known → List ℕ → Bool
is_good_id known text = holds (λ n. nat_le n known.greatest_id && is_new_id known n) (id_of text)

-- 1 to 32 letters, digits, low lines, full stops, colons and hyphens
abbrev pub is_tag : List ℕ → Bool
is_tag tag = nat_le 1 (length tag) && nat_le (length tag) 32 && list_all is_plain_byte tag

-- no mark before binds this name
abbrev pub is_new_name : Known → List ℕ → Bool
is_new_name known name = not (list_any (λ label. is_among name label.bound) known.labels)

abbrev pub are_new_names : Known → List (List ℕ) → Bool
are_new_names known [] = true
are_new_names known (name ∷ names) = is_new_name known name && not (is_among name names) && are_new_names known names

-- ---- `pc_label` and `pc_label_bind`

-- a name that a mark binds, the expression as written, and as typed
pub record TypedBinding : Type 0 where
  pub name : List ℕ
  pub written : c.Expression
  pub typed : Typed

abbrev pub is_good_binding : TypedBinding → Bool
is_good_binding b = is_integer (own_type b.typed) && is_pure b.written

abbrev pub names_of : List TypedBinding → List (List ℕ)
names_of bound = map (λ b. b.name) bound

abbrev pub is_good_mark : Known → c.Expression → Typed → List ℕ → List ℕ → List TypedBinding → Bool
is_good_mark known written predicate id tag bound =
    not known.is_unmarked
    && is_scalar (own_type predicate) && is_pure written
    && is_good_id known id && is_tag tag
    && list_all is_good_binding bound && are_new_names known (names_of bound)

abbrev pub bindings_of : List TypedBinding → Bindings
bindings_of [] = e.no_bindings
bindings_of (b ∷ bs) = e.a_binding b.name (value_in b.typed) (bindings_of bs)

abbrev pub label_of : List ℕ → List ℕ → List (List ℕ) → Label
label_of id tag names = record { id = number_of_id id; tag = tag; bound = names }

-- ---- `pc_decide`

abbrev pub is_truth : Use → Bool
is_truth as_truth = true
is_truth _ = false

abbrev pub is_good_decision : Use → Known → Typed → List ℕ → List ℕ → List ℕ → Bool
is_good_decision role known x when_true when_false tag =
    is_truth role && not known.is_unmarked
    && is_scalar (own_type x)
    && is_good_id known when_true && is_good_id known when_false && not (number_of_id when_true == number_of_id when_false) && is_tag tag

unfoldable pub judge_decide : Use → Typed → List ℕ → List ℕ → List ℕ → Known → Judged
judge_decide role x when_true when_false tag known =
    judgement (unless (is_good_decision role known x when_true when_false tag) bad_mark)
    (valued (e.Decide (Num S.Int) (value_in x) (number_of_id when_true) (number_of_id when_false)) varying x.erased)

-- ---- `pc_after`

-- how the operand of a mark is used, another `pc_decide` included: marks around an expression don't count for the places of `pc_decide`
abbrev pub inside_mark : Use → Use
inside_mark as_value = as_value
inside_mark as_truth = as_truth
inside_mark as_place = as_value
inside_mark as_callee = as_value

-- the operand of a `pc_after` is seen as it stands, so that an lvalue in use is found
abbrev pub inside_after : Use → Use
inside_after as_value = as_value
inside_after as_truth = as_truth
inside_after as_place = as_place
inside_after as_callee = as_value

abbrev pub is_lvalue_in_use : Use → Typed → Bool
is_lvalue_in_use as_place x = is_lvalue x
is_lvalue_in_use _ x = false

-- an element of a `register` array is one behind marks too
abbrev pub after_of : Typed → ℕ → Typed
after_of x id = record (valued (e.After (own_type x) (value_in x) id) varying x.erased) { is_register = x.is_register; is_after = true }

unfoldable pub judge_after : Use → Typed → List ℕ → List ℕ → Known → Judged
judge_after role x id tag known =
    judgement (unless (not (is_lvalue_in_use role x) && not known.is_unmarked && is_good_id known id && is_tag tag) bad_mark)
    (after_of (as_it_is_read x) (number_of_id id))

-- ---- an expression behind marks

abbrev pub behind_marks : e.Marks → Typed → Typed
behind_marks marks x = record (valued (e.Marked (own_type x) marks (value_in x)) varying x.erased) { is_register = x.is_register }

unfoldable pub judge_marked : e.Marks → Typed → Judged
judge_marked marks x = judgement [] (behind_marks marks x)
