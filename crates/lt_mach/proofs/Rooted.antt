-- Names that a map finds, and cells that are found by their offsets.
use Rattle.std.proofs.Common.{◌≡◌, ◌≢◌, ◌↔◌, ℕ, zero, suc, ◌+◌, ◌-◌, ◌<◌, ◌≤◌, List, [], ◌∷◌, ◌++◌, length, get_or, drop, drop-cons, Some, None, Result, Ok, Err, Bor, Bool, true, false, cond, IsTrue, refl, sym, subst, ap, ◌∙◌, arith}
use Rattle.std.specs.Prelude.{if◌then◌else◌, nat_lt, ◌==◌}
use Rattle.std.specs.Str.{bytes_eq}
use Rattle.std.specs.Ordering.{nat_cmp, ordering_index}
use Rattle.std.specs.Cmp.Lexicographic.{slice_cmp}
use Rattle.std.specs.BTreeMap as tree
use Rattle.std.specs.BTreeMap.{BTreeMap}
use Rattle.std.specs.List.{AllAdjacentBelow, IsAllAdjacentAnswer}
use Rattle.std.specs.List.Sorted.{IsSearchInRange, IsBinarySearchResult, IsNonDecreasingBy}
use Rattle.std.specs.Result.{result_ok}
use Rattle.std.proofs.lemmas.Cmp.{ranked}
use Rattle.std.proofs.lemmas.Bool.Decides.{nat_tests}
use Rattle.std.proofs.lemmas.Map.Text.{btree_map_updates_str}
use Rattle.lt_model.specs.declared.cell.CellType.TheVariants.{Pointer}
use Rattle.lt_model.specs.declared.cell.ShapeCell.{ShapeCell}
use Rattle.lt_model.specs.declared.input.BlockIn.{BlockIn}
use Rattle.lt_ir.specs.declared.code.Static.{Static}
use Rattle.lt_ir.specs.declared.variable.Variable.TheVariants.{Parameter}
use Rattle.lt_ir.specs.Running.{Bound, block_among}
use Rattle.lt_ir.specs.Starting.{Root, root_among, named, parameter_roots, static_roots, type_at}
use Rattle.lt_ir.specs.Graph.{names_in, shapes_in}
use Rattle.lt_mach.specs.Blocks.{roots_from}
use Rattle.lt_mach.specs.Roots.{AreFound, IsAscending, IsAt, root_of}

-- ---- names

-- a map, after a name was put in
pub found_after : (list : List Root) (old new : BTreeMap (Bor (List ℕ)) Root) (name : Bor (List ℕ)) (root : Root) → name.now ≡ root.name → tree.Updates (λ x y. slice_cmp nat_cmp x.now y.now) old new name (Some root) → AreFound list old → AreFound (root ∷ list) new
found_after list old new name root e h are q =
    btree_map_updates_str name.now old new (Some root) h q
    ∙ ap (λ o. cond (bytes_eq name.now q) (Some root) o) (are q)
    ∙ ap (λ (n : List ℕ). cond (bytes_eq n q) (Some root) (root_among list q)) e

-- what a name finds after one was put in front
abbrev pub Puts : (old new : BTreeMap (Bor (List ℕ)) Root) → Root → Type 0
Puts old new root = (rest : List Root) → AreFound rest old → AreFound (root ∷ rest) new

pub puts_so : (old new : BTreeMap (Bor (List ℕ)) Root) (root root1 : Root) → root ≡ root1 → Puts old new root → Puts old new root1
puts_so old new root root1 e put = subst (Puts old new) e put

pub same_found : (list list1 : List Root) (roots : BTreeMap (Bor (List ℕ)) Root) → list ≡ list1 → AreFound list roots → AreFound list1 roots
same_found list list1 roots e are q = are q ∙ ap (λ l. root_among l q) e

-- one more object in front
pub one_static : (statics : List Static) (p place : ℕ) (d : Static) (old new : BTreeMap (Bor (List ℕ)) Root) → place ≡ suc p → place ≤ length statics → AreFound (static_roots place (drop place statics)) old
    → Puts old new (root_of (get_or statics p d).block p) → AreFound (static_roots p (drop p statics)) new
one_static statics p place d old new e h are put =
    let within : p < length statics = omega arith in
    same_found _ _ new
    (ap (λ n. root_of (get_or statics p d).block p ∷ static_roots n (drop n statics)) e ∙ ap (static_roots p) (sym (drop-cons statics p d within)))
    (put (static_roots place (drop place statics)) are)

pub one_block : (blocks : List BlockIn) (first p place number : ℕ) (d : BlockIn) (rest : List Root) (old new : BTreeMap (Bor (List ℕ)) Root) → place ≡ suc p → place ≤ length blocks → number ≡ first + p → AreFound (roots_from (first + place) (drop place blocks) ++ rest) old
    → Puts old new (root_of (get_or blocks p d) number) → AreFound (roots_from (first + p) (drop p blocks) ++ rest) new
one_block blocks first p place number d rest old new e h is are put =
    let within : p < length blocks = omega arith in
    let next : first + suc p ≡ suc (first + p) = omega arith in
    same_found _ _ new
    (ap (λ n. root_of (get_or blocks p d) n ∷ (roots_from (first + place) (drop place blocks) ++ rest)) is
    ∙ ap (λ n. root_of (get_or blocks p d) (first + p) ∷ (roots_from (first + n) (drop n blocks) ++ rest)) e
    ∙ ap (λ n. root_of (get_or blocks p d) (first + p) ∷ (roots_from n (drop (suc p) blocks) ++ rest)) next
    ∙ ap (λ l. roots_from (first + p) l ++ rest) (sym (drop-cons blocks p d within)))
    (put (roots_from (first + place) (drop place blocks) ++ rest) are)

-- what a name finds after a parameter of a number was put in front, if it has a block
abbrev pub PutsNamed : (old new : BTreeMap (Bor (List ℕ)) Root) → List Bound → BlockIn → ℕ → Type 0
PutsNamed old new scope it k = (rest : List Root) → AreFound rest old → AreFound (named it.name it.shape.cells (block_among scope (Parameter k)) rest) new

pub parameter_so : (old new : BTreeMap (Bor (List ℕ)) Root) (scope : List Bound) (it it1 : BlockIn) (k k1 : ℕ) → it ≡ it1 → k ≡ k1 → PutsNamed old new scope it k → PutsNamed old new scope it1 k1
parameter_so old new scope it it1 k k1 e f put = subst (PutsNamed old new scope it1) f (subst (λ (b : BlockIn). PutsNamed old new scope b k) e put)

pub one_parameter : (scope : List Bound) (params : List BlockIn) (p place : ℕ) (d : BlockIn) (rest : List Root) (old new : BTreeMap (Bor (List ℕ)) Root) → place ≡ suc p → place ≤ length params → AreFound (parameter_roots scope place (names_in (drop place params)) (shapes_in (drop place params)) rest) old
    → PutsNamed old new scope (get_or params p d) p → AreFound (parameter_roots scope p (names_in (drop p params)) (shapes_in (drop p params)) rest) new
one_parameter scope params p place d rest old new e h are put =
    let within : p < length params = omega arith in
    same_found _ _ new
    (ap (λ n. named (get_or params p d).name (get_or params p d).shape.cells (block_among scope (Parameter p)) (parameter_roots scope n (names_in (drop n params)) (shapes_in (drop n params)) rest)) e
    ∙ ap (λ l. parameter_roots scope p (names_in l) (shapes_in l) rest) (sym (drop-cons params p d within)))
    (put (parameter_roots scope place (names_in (drop place params)) (shapes_in (drop place params)) rest) are)

-- ---- cells

-- offsets that ascend from each cell to the next ascend
far : (cells : List ShapeCell) → AllAdjacentBelow (λ x y. true ≡ nat_lt x.offset y.offset) cells (length cells) → (i g : ℕ) (d : ShapeCell) → i + 1 + g < length cells → (get_or cells i d).offset < (get_or cells (i + 1 + g) d).offset
far cells next i zero d h = grind (arith, nat_tests, next i d (omega arith))
far cells next i (suc g) d h =
    let before : (get_or cells i d).offset < (get_or cells (i + 1 + g) d).offset = far cells next i g d (omega arith) in
    let step : (get_or cells (i + 1 + g) d).offset < (get_or cells (i + 1 + g + 1) d).offset = grind (arith, nat_tests, next (i + 1 + g) d (omega arith)) in
    let same : i + 1 + suc g ≡ i + 1 + g + 1 = omega arith in
    rw same (omega arith)

-- some cell
no_cell : ShapeCell
no_cell = record { offset = 0; ty = Pointer 0 }

-- what the test of all neighbours answers
pub ascending_answer : (cells : List ShapeCell) (r : Bool) → IsAllAdjacentAnswer (λ x y b. b ≡ nat_lt x.offset y.offset) cells r → IsTrue r ↔ IsAscending cells
ascending_answer cells true next = (
  λ _. λ i j d less within.
      let g : ℕ = j - (i + 1) in
      let e : j ≡ i + 1 + g = omega arith in
      rw e (far cells next i g d (omega arith)),
  λ _. refl,
)
ascending_answer cells false (k, within, falls) = (λ h. absurd (cc), λ up. absurd (clash (up k (k + 1) no_cell (omega arith) within) (falls no_cell)))
  where
    clash : {a b : ℕ} → a < b → false ≡ nat_lt a b → ⊥
    clash h e = grind (arith, nat_tests)

module _ (cells : List ShapeCell) (up : IsAscending cells) (offset : ℕ) where
  rises : IsNonDecreasingBy (λ cell. ordering_index (nat_cmp cell.offset offset)) cells
  rises i j d le within = grind (arith, nat_tests, up i j d, λ (same : i ≡ j). ap (λ k. (get_or cells k d).offset) same)

  -- a search by halves ends at the cell of the offset, or there is none
  pub searched : (r : Result ℕ ℕ) → IsSearchInRange r (length cells) → IsBinarySearchResult (λ cell. nat_cmp cell.offset offset) cells r → IsAt cells offset (result_ok r)
  searched (Ok k) within equal = (within, λ d. ranked _ offset _ (sym (equal d)))
  searched (Err k) within parted = λ j d below same.
      grind (arith, same, λ (h : j < k). ranked _ offset _ (sym ((parted rises).0 j d (omega arith) h)), λ (h : k ≤ j). ranked _ offset _ (sym ((parted rises).1 j d h below)))

-- of cells at an offset the first counts
first_at : (cells : List ShapeCell) (offset k : ℕ) (d : ShapeCell) → k < length cells → (get_or cells k d).offset ≡ offset → ((j : ℕ) → j < k → (get_or cells j d).offset ≢ offset) → type_at offset cells ≡ Some (get_or cells k d).ty
first_at [] offset k d h e before = absurd (omega arith)
first_at (cell ∷ cells) offset zero d h e before =
    let same : (cell.offset == offset) ≡ true = grind (arith, nat_tests, e) in
    ap (λ b. if b then Some cell.ty else type_at offset cells) same
first_at (cell ∷ cells) offset (suc k) d h e before =
    let other : (cell.offset == offset) ≡ false = grind (arith, nat_tests, before 0 (omega arith)) in
    ap (λ b. if b then Some cell.ty else type_at offset cells) other ∙ first_at cells offset k d (omega arith) e (λ j l. before (suc j) (omega arith))

none_at : (cells : List ShapeCell) (offset : ℕ) → IsAt cells offset None → type_at offset cells ≡ None
none_at [] offset none = refl
none_at (cell ∷ cells) offset none =
    let other : (cell.offset == offset) ≡ false = grind (arith, nat_tests, none 0 no_cell (omega arith)) in
    ap (λ b. if b then Some cell.ty else type_at offset cells) other ∙ none_at cells offset (λ k d h. none (suc k) d (omega arith))

-- the one cell at an offset, where the offsets ascend
pub found_at : (cells : List ShapeCell) (offset k : ℕ) (d : ShapeCell) → IsAscending cells → IsAt cells offset (Some k) → Some (get_or cells k d).ty ≡ type_at offset cells
found_at cells offset k d up here = sym (first_at cells offset k d here.0 (here.1 d) (λ j l same. let r = up j k d l here.0 in let e = here.1 d in omega arith))

pub nowhere_at : (cells : List ShapeCell) (offset : ℕ) → IsAt cells offset None → None ≡ type_at offset cells
nowhere_at cells offset none = sym (none_at cells offset none)
