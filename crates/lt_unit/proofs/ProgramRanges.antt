-- What the program of a walker refers to is there.
use Rattle.std.proofs.Common.{◌≡◌, ℕ, List, [], ◌∷◌, length, map, refl, sym, ap, subst, ◌∙◌, arith}
use Rattle.lt_tree.specs.declared.unit.Unit.{Unit as SourceUnit}
use Rattle.lt_tree.specs.declared.typed.entity.StructType.{StructType}
use Rattle.lt_tree.specs.declared.typed.entity.Object.{Object}
use Rattle.lt_tree.specs.declared.typed.entity.Declared.{Declared}
use Rattle.lt_tree.specs.declared.typed.entity.Function.{Function}
use Rattle.lt_tree.specs.declared.typed.entity.Frame.{Frame}
use Rattle.lt_tree.specs.declared.typed.entity.LabelInfo.{LabelInfo}
use Rattle.lt_tree.specs.declared.typed.types.TypeId.{TypeId}
use Rattle.lt_tree.specs.declared.typed.types.TypeRow.{TypeRow}
use Rattle.lt_tree.specs.declared.typed.types.TypeRow.TheVariants as row
use Rattle.lt_tree.specs.UnitView.{unit_of}
use Rattle.lt_tree.specs.Typing.Types.{CType}
use Rattle.lt_tree.specs.Typing.TypeRows.{type_in, types_of_rows, Continues, Lasts}
use Rattle.lt_tree.specs.Typing.TypeIds.{ids_in_row, ids_among, AreBelow, AreMadeOfRowsBefore}
use Rattle.lt_tree.specs.Typing.Entities.{Known, innermost}
use Rattle.lt_tree.specs.Typing.EntityView.{frame_of}
use Rattle.lt_tree.specs.Typing.Programs as programs
use Rattle.lt_tree.specs.Typing.Programs.{Program, with_new}
use Rattle.lt_tree.specs.Typing.ProgramView.{program_at}
use Rattle.lt_tree.specs.Typing.Ranges.{IsInRange}
use Rattle.lt_tree.specs.Typing.MemoryRanges.{ReferInRange}
use Rattle.lt_ranges.proofs.LastingIds.{length_of_rows}
use Rattle.lt_ranges.proofs.IdsHaveRows.{lasting_ids_have_rows}
use Rattle.lt_table.specs.RowsOnce.{AllBefore, IsMadeBefore, AreOnce}
use Rattle.lt_table.specs.TableRows.{Grows}
use Rattle.lt_table.proofs.TableRows.{type_in-longer}
use Rattle.lt_env.specs.NamesValue.{frames_at}
use Rattle.lt_env.specs.Going.{types_in, known_of}
use Rattle.lt_env.specs.declared.walker.Walker.{Walker}
use Rattle.lt_env.proofs.Goings.{longer_still, as_long}
use Rattle.lt_unit.specs.ListedTypes.{types_in_all}
use Rattle.lt_unit.specs.Programs.{KnowsInRange}

-- ---- what is known

pub knows : (walker : Walker) (unit : SourceUnit) → Lasts (types_in walker) (λ types. known_of types walker ≡ known_of (types_in walker) walker)
    → IsInRange (programs.program_of (unit_of unit) (known_of (types_in walker) walker)) → KnowsInRange walker unit
unfolding KnowsInRange
knows walker unit lasts in_range = (lasts, in_range)

known_lasts : (walker : Walker) (unit : SourceUnit) → KnowsInRange walker unit → Lasts (types_in walker) (λ types. known_of types walker ≡ known_of (types_in walker) walker)
unfolding KnowsInRange
known_lasts walker unit known = known.0

known_in_range : (walker : Walker) (unit : SourceUnit) → KnowsInRange walker unit → IsInRange (programs.program_of (unit_of unit) (known_of (types_in walker) walker))
unfolding KnowsInRange
known_in_range walker unit known = known.1

-- ---- rows that are made of rows before them

all_before : (n : ℕ) (ids : List TypeId) → AllBefore n ids → AreBelow n ids
all_before n [] h = tt
all_before n (id ∷ ids) h = (h.0, all_before n ids h.1)

made_before : (n : ℕ) (r : TypeRow) → IsMadeBefore n r → AreBelow n (ids_in_row r)
made_before n (row.Pointer t) h = (h, tt)
made_before n (row.Array t k) h = (h, tt)
made_before n (row.Function f) h = (h.0, all_before n f.parameters.items h.1)
made_before n (row.Qualified q t) h = (h, tt)
made_before n row.Void h = tt
made_before n (row.Num s) h = tt
made_before n (row.Struct k) h = tt
made_before n row.Floating h = tt

pub rows_before : (rows : List TypeRow) → AreOnce rows → AreMadeOfRowsBefore rows
rows_before rows once = λ k r is. made_before k r (once.before k r is)

-- ---- the parts of a program

-- types that have rows stay the same
same_types : (at longer : List CType) (ids : List TypeId) → Continues at longer → AreBelow (length at) ids → map (type_in longer) ids ≡ map (type_in at) ids
same_types at longer [] more below = refl
same_types at longer (id ∷ ids) more below =
    ap (λ t. t ∷ map (type_in longer) ids) (type_in-longer at longer id more below.0) ∙ ap (λ ts. type_in at id ∷ ts) (same_types at longer ids more below.1)

module _ (walker : Walker) (unit : SourceUnit) (file : Frame) (types : List TypeId) (table : List TypeRow) (known : KnowsInRange walker unit) (grows : Grows walker.types.rows table)
    (file_is : (at : List CType) → frame_of at file ≡ innermost (frames_at at walker.names))
    (listed : map (type_in (types_of_rows table)) types ≡ with_new [] (types_in_all (types_of_rows table) walker.types.structs walker.objects walker.declared walker.facts.items))
    (rows : AreBelow (length table) types) where
  -- what is known at the end, and later
  same_known_later : (at : List CType) → Continues (types_of_rows table) at → known_of at walker ≡ known_of (types_in walker) walker
  same_known_later at more = known_lasts walker unit known at (longer_still (types_in walker) (types_of_rows table) at grows more)

  abbrev here : List CType → Program
  here at = program_at at (unit_of unit) walker.types.model walker.types.structs walker.objects walker.declared walker.functions file types walker.labels walker.facts.items

  abbrev seen : Known → List CType → Program
  seen it listed_types = record (programs.program_of (unit_of unit) it) { types = listed_types }

  is_seen : (at : List CType) → here at ≡ seen (known_of at walker) (map (type_in at) types)
  is_seen at = ap (λ frame. record (here at) { file = frame }) (file_is at)

  at_end : known_of (types_of_rows table) walker ≡ known_of (types_in walker) walker
  at_end = same_known_later (types_of_rows table) (as_long (types_of_rows table))

  pub parts_in_range : IsInRange (here (types_of_rows table))
  parts_in_range =
      subst IsInRange (sym (is_seen (types_of_rows table) ∙ ap (seen (known_of (types_of_rows table) walker)) listed ∙ ap (programs.program_of (unit_of unit)) at_end)) (known_in_range walker unit known)

  lasts : (at : List CType) → Continues (types_of_rows table) at → here at ≡ here (types_of_rows table)
  lasts at more =
      let below : AreBelow (length (types_of_rows table)) types = subst (λ n. AreBelow n types) (omega (arith, length_of_rows [] table)) rows in
      is_seen at ∙ ap (λ it. seen it (map (type_in at) types)) (same_known_later at more ∙ sym at_end)
      ∙ ap (seen (known_of (types_of_rows table) walker)) (same_types (types_of_rows table) at types more below) ∙ sym (is_seen (types_of_rows table))

  pub parts_have_rows : AreBelow (length table) (ids_among walker.types.structs walker.objects walker.declared walker.functions file types walker.facts.items)
  parts_have_rows =
      lasting_ids_have_rows (unit_of unit) walker.types.model walker.types.structs walker.objects walker.declared walker.functions file types walker.labels walker.facts.items table lasts

-- ---- lists that a walker's parts are

pub record ArePartsOf (walker : Walker) (structs : List StructType) (objects : List Object) (declared : List Declared) (functions : List Function) (labels : List LabelInfo) : Type 0 where
  pub structs_are : structs ≡ walker.types.structs
  pub objects_are : objects ≡ walker.objects
  pub declared_are : declared ≡ walker.declared
  pub functions_are : functions ≡ walker.functions
  pub labels_are : labels ≡ walker.labels

module _ (walker : Walker) (unit : SourceUnit) (file : Frame) (types : List TypeId) (table : List TypeRow) (structs : List StructType) (objects : List Object) (declared : List Declared)
    (functions : List Function) (labels : List LabelInfo) (known : KnowsInRange walker unit) (grows : Grows walker.types.rows table) (parts : ArePartsOf walker structs objects declared functions labels)
    (file_is : (at : List CType) → frame_of at file ≡ innermost (frames_at at walker.names))
    (listed : map (type_in (types_of_rows table)) types ≡ with_new [] (types_in_all (types_of_rows table) structs objects declared walker.facts.items))
    (rows : AreBelow (length table) types) where
  of_walker : map (type_in (types_of_rows table)) types ≡ with_new [] (types_in_all (types_of_rows table) walker.types.structs walker.objects walker.declared walker.facts.items)
  of_walker =
      listed ∙ ap (λ l. with_new [] (types_in_all (types_of_rows table) l objects declared walker.facts.items)) parts.structs_are
      ∙ ap (λ l. with_new [] (types_in_all (types_of_rows table) walker.types.structs l declared walker.facts.items)) parts.objects_are
      ∙ ap (λ l. with_new [] (types_in_all (types_of_rows table) walker.types.structs walker.objects l walker.facts.items)) parts.declared_are

  -- what is so of the walker's lists is so of these
  so_of : (P : List StructType → List Object → List Declared → List Function → List LabelInfo → Type 0) → P walker.types.structs walker.objects walker.declared walker.functions walker.labels → P structs objects declared functions labels
  so_of P h =
      subst (λ l. P l objects declared functions labels) (sym parts.structs_are)
      (subst (λ l. P walker.types.structs l declared functions labels) (sym parts.objects_are)
      (subst (λ l. P walker.types.structs walker.objects l functions labels) (sym parts.declared_are)
      (subst (λ l. P walker.types.structs walker.objects walker.declared l labels) (sym parts.functions_are)
      (subst (P walker.types.structs walker.objects walker.declared walker.functions) (sym parts.labels_are) h))))

  pub lists_in_range : ReferInRange (types_of_rows table) structs objects declared functions file types labels walker.facts.items
  lists_in_range =
      so_of (λ s o d f l. ReferInRange (types_of_rows table) s o d f file types l walker.facts.items) (parts_in_range walker unit file types table known grows file_is of_walker rows)

  pub lists_have_rows : AreBelow (length table) (ids_among structs objects declared functions file types walker.facts.items)
  lists_have_rows =
      so_of (λ s o d f l. AreBelow (length table) (ids_among s o d f file types walker.facts.items)) (parts_have_rows walker unit file types table known grows file_is of_walker rows)
