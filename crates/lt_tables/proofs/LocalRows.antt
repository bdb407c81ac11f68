-- The objects that statements begin, one statement after the other.
use Rattle.std.proofs.Common.{◌≡◌, ◌<◌, ◌+◌, ℕ, List, [], ◌∷◌, ◌++◌, length, take, get_or, map, refl, sym, ap, ◌∙◌, append_assoc, append-nil}
use Rattle.std.proofs.Common.{Option, Result, Ok, Err}
use Rattle.std.specs.Result.{OnOk}
use Rattle.std.specs.Global.{Box, Vec}
use Rattle.std.proofs.lemmas.List.{take_more}
use Rattle.lt_tree.specs.declared.typed.tree.Value.{Value}
use Rattle.lt_tree.specs.declared.typed.statement.Statement.{Statement}
use Rattle.lt_tree.specs.declared.typed.statement.Statement.TheVariants as variant
use Rattle.lt_tree.specs.declared.typed.statement.Item.{Item}
use Rattle.lt_tree.specs.declared.typed.statement.Item.TheBlock as at
use Rattle.lt_tree.specs.declared.typed.statement.Case.{Case}
use Rattle.lt_tree.specs.declared.typed.statement.Local.{Local}
use Rattle.lt_tree.specs.declared.typed.statement.ForStart.{ForStart}
use Rattle.lt_tree.specs.declared.typed.statement.ForStart.TheVariants as start
use Rattle.lt_tree.specs.Typing.Types.{CType}
use Rattle.lt_tree.specs.Typing.TypedTree as e
use Rattle.lt_tree.specs.Typing.StatementView.{statement_of, items_in, item_before, cases_in, for_start_of, local_of, maybe_of}
use Rattle.lt_tree.proofs.TypedRows.{items_are, cases_are}
use Rattle.lt_meaning.specs.Runs.{begun_by, locals_of, locals_in, locals_among}
use Rattle.lt_tables.specs.Objects.{begun_in}

module _ (types : List CType) where
  items_last : (items : List Item) (item : Item) → locals_of (items_in types (items ++ item ∷ [])) ≡ locals_of (items_in types items) ++ locals_of (item_before types item e.no_items)
  items_last [] item = refl
  items_last (at.Local local ∷ items) item = ap (λ ns. local.object ∷ ns) (items_last items item)
  items_last (at.Statement statement ∷ items) item =
      ap (λ ns. locals_in (statement_of types statement) ++ ns) (items_last items item)
      ∙ sym (append_assoc (locals_in (statement_of types statement)) (locals_of (items_in types items)) (locals_of (item_before types item e.no_items)))
  items_last (at.Label mark ∷ items) item = items_last items item

  pub item_more : (items : List Item) (i : ℕ) (item : Item) (initial old new : List ℕ) → i < length items → item ≡ get_or items i item → old ≡ initial ++ locals_of (items_in types (take i items))
      → new ≡ old ++ locals_of (item_before types item e.no_items) → new ≡ initial ++ locals_of (items_in types (take (i + 1) items))
  item_more items i item initial old new within is before after =
      after ∙ ap (λ ns. ns ++ locals_of (item_before types item e.no_items)) before
      ∙ append_assoc initial (locals_of (items_in types (take i items))) (locals_of (item_before types item e.no_items))
      ∙ ap (λ ns. initial ++ ns) (sym (items_last (take i items) item))
      ∙ ap (λ it. initial ++ locals_of (items_in types (take i items ++ it ∷ []))) is
      ∙ ap (λ its. initial ++ locals_of (items_in types its)) (sym (take_more items i item within))

  cases_last : (cases : List Case) (case : Case) → locals_among (cases_in types (cases ++ case ∷ [])) ≡ locals_among (cases_in types cases) ++ (locals_in (statement_of types case.statement) ++ [])
  cases_last [] case = refl
  cases_last (first ∷ cases) case =
      ap (λ ns. locals_in (statement_of types first.statement) ++ ns) (cases_last cases case)
      ∙ sym (append_assoc (locals_in (statement_of types first.statement)) (locals_among (cases_in types cases)) (locals_in (statement_of types case.statement) ++ []))

  pub case_more : (cases : List Case) (i : ℕ) (case : Case) (initial old new : List ℕ) → i < length cases → case ≡ get_or cases i case → old ≡ initial ++ locals_among (cases_in types (take i cases))
      → new ≡ old ++ locals_in (statement_of types case.statement) → new ≡ initial ++ locals_among (cases_in types (take (i + 1) cases))
  case_more cases i case initial old new within is before after =
      after ∙ ap (λ ns. ns ++ locals_in (statement_of types case.statement)) before
      ∙ append_assoc initial (locals_among (cases_in types (take i cases))) (locals_in (statement_of types case.statement))
      ∙ ap (λ ns. initial ++ (locals_among (cases_in types (take i cases)) ++ ns)) (sym (append-nil (locals_in (statement_of types case.statement))))
      ∙ ap (λ ns. initial ++ ns) (sym (cases_last (take i cases) case))
      ∙ ap (λ it. initial ++ locals_among (cases_in types (take i cases ++ it ∷ []))) is
      ∙ ap (λ its. initial ++ locals_among (cases_in types its)) (sym (take_more cases i case within))

  begun_same : (locals : List Local) → begun_by (map (local_of types) locals) ≡ map (λ local. local.object) locals
  begun_same [] = refl
  begun_same (local ∷ locals) = ap (λ ns. local.object ∷ ns) (begun_same locals)

  for_head : (head : ForStart) (test step : _) (body : e.Statement) → locals_in (e.For (for_start_of types head) test step body) ≡ begun_in head ++ locals_in body
  for_head start.Nothing test step body = refl
  for_head (start.First value) test step body = refl
  for_head (start.Locals locals) test step body = ap (λ ns. ns ++ locals_in body) (begun_same locals.items)

-- ---- what holds a list

-- what is added where a call is done
abbrev pub Adds : {E : Type 0} → Result (Unit {0}) E → List ℕ → List ℕ → (List CType → List ℕ) → Type 0
Adds r old new more = OnOk r ((types : List CType) → new ≡ old ++ more types)

adds_same : {E : Type 0} (r : Result (Unit {0}) E) (old new : List ℕ) (more other : List CType → List ℕ) → ((types : List CType) → more types ≡ other types) → Adds r old new more → Adds r old new other
adds_same (Ok u) old new more other same h = λ types. h types ∙ ap (λ ns. old ++ ns) (same types)
adds_same (Err e) old new more other same h = h

pub compound_adds : {E : Type 0} (r : Result (Unit {0}) E) (old new : List ℕ) (s : Statement) (v : Vec Item) (list : List Item) → s ≡ variant.Compound v → list ≡ v.items
    → Adds r old new (λ types. locals_of (items_in types list)) → Adds r old new (λ types. locals_in (statement_of types s))
compound_adds r old new s v list is all =
    adds_same r old new (λ types. locals_of (items_in types list)) (λ types. locals_in (statement_of types s))
    (λ types. ap (λ its. locals_of (items_in types its)) all ∙ sym (ap locals_of (items_are types v)) ∙ sym (ap (λ x. locals_in (statement_of types x)) is))

pub switch_adds : {E : Type 0} (r : Result (Unit {0}) E) (old new : List ℕ) (s : Statement) (operand : Box Value) (v : Vec Case) (list : List Case) → s ≡ variant.Switch operand v → list ≡ v.items
    → Adds r old new (λ types. locals_among (cases_in types list)) → Adds r old new (λ types. locals_in (statement_of types s))
switch_adds r old new s operand v list is all =
    adds_same r old new (λ types. locals_among (cases_in types list)) (λ types. locals_in (statement_of types s))
    (λ types. ap (λ its. locals_among (cases_in types its)) all ∙ sym (ap locals_among (cases_are types v)) ∙ sym (ap (λ x. locals_in (statement_of types x)) is))

for_both : {E : Type 0} (r : Result (Unit {0}) E) (old between new head : List ℕ) (body all : List CType → List ℕ) → between ≡ old ++ head → ((types : List CType) → all types ≡ head ++ body types)
    → Adds r between new body → Adds r old new all
for_both (Ok u) old between new head body all first same h =
    λ types. h types ∙ ap (λ ns. ns ++ body types) first ∙ append_assoc old head (body types) ∙ ap (λ ns. old ++ ns) (sym (same types))
for_both (Err e) old between new head body all first same h = h

pub for_adds : {E : Type 0} (r : Result (Unit {0}) E) (old between new : List ℕ) (s : Statement) (head : ForStart) (test step : Option (Box Value)) (body : Box Statement) (inner : Statement) → s ≡ variant.For head test step body
    → inner ≡ body.value → between ≡ old ++ begun_in head → Adds r between new (λ types. locals_in (statement_of types inner)) → Adds r old new (λ types. locals_in (statement_of types s))
for_adds r old between new s head test step body inner is all first =
    for_both r old between new (begun_in head) (λ types. locals_in (statement_of types inner)) (λ types. locals_in (statement_of types s)) first
    (λ types. ap (λ x. locals_in (statement_of types x)) is ∙ for_head types head (maybe_of types test) (maybe_of types step) (statement_of types body.value) ∙ ap (λ x. begun_in head ++ locals_in (statement_of types x)) (sym all))
