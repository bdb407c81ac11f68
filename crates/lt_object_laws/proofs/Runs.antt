-- Runs of a program with further objects.
use Rattle.std.proofs.Common.{◌≡◌, ◌≤◌, ◌<◌, ◌⊎◌, inl, inr, ⊎_elim, ℕ, zero, suc, List, [], ◌∷◌, ◌++◌, map, length, take, Some, None, Bool, true, false, refl, sym, ap, ◌∙◌, subst, arith, append-nil}
use Rattle.std.proofs.lemmas.Bool.{false≢true}
use Rattle.std.proofs.lemmas.List.{length-map}
use Rattle.std.specs.Prelude.{◌+◌, nat_le, if◌then◌else◌}
use Rattle.std.specs.List.{AllByRecursion}
use Rattle.lt_model.specs.declared.cell.Shape.{Shape}
use Rattle.lt_model.specs.declared.input.Input.{Input}
use Rattle.lt_model.specs.declared.input.CellSet.{CellSet}
use Rattle.lt_model.specs.declared.scalar.DataModel.{DataModel}
use Rattle.lt_model.specs.declared.run.End.TheVariants.{Cells}
use Rattle.lt_model.specs.Memory.{Memory, Block, create, create_shaped, new_block, new_cell, cells_alive, living_cells, most_cells}
use Rattle.lt_model.specs.State.{Gives, Ends}
use Rattle.lt_tree.specs.Tree.{Unit as SourceUnit}
use Rattle.lt_tree.specs.Typing.Entities.{Function, Label, Fact, Declared, Frame, Object}
use Rattle.lt_tree.specs.Typing.Programs.{Program}
use Rattle.lt_ir.specs.declared.code.Static.{Static}
use Rattle.lt_ir.specs.Running.{Bound, At, Answer, Step, ◌>>=◌, ◌>>◌, gives}
use Rattle.lt_ir.specs.Starting.{Root, start_statics, start_blocks, start_parameters, sets, seal_statics, started, nowhere}
use Rattle.lt_meaning.specs.Statements.{Flow, parts_in}
use Rattle.lt_meaning.specs.Runs.{run, begun, body_of, invoke, initials, shapes_of, name_of_object, over_by}
use Rattle.lt_object_laws.specs.Renamed.{renumbered, function_with}
use Rattle.lt_object_laws.specs.Beside.{HasFurtherBlocks, not_yet}
use Rattle.lt_object_laws.specs.Further.{HasFurther, HasFurtherObjects, IsThere, further_statics, further_cells_in, blocks_of, further_cells, cells_in}
use Rattle.lt_object_laws.specs.Laws.{IsBeside, AreNamed, bytes_from, spare_block, HasRoom, HasRoomFor, FurtherObjectsTakeRoomAlone, FurtherObjectsChangeNothing}
use Rattle.lt_object_laws.proofs.Numbers.{flag_at}
use Rattle.lt_object_laws.proofs.Memory as mem
use Rattle.lt_object_laws.proofs.Blocks.{state_of, blocks_in}
use Rattle.lt_object_laws.proofs.Alike.{Other, Comparison, names_in, as_it_is, no_bounds, beside, Stands, Alike, all_give, all_end, no_room, Same, then_same}
use Rattle.lt_object_laws.proofs.Statements.{flow_in}
use Rattle.lt_object_laws.proofs.Objects.{names_same, shapes_same, initials_with, statics_low}
use Rattle.lt_object_laws.proofs.Beginning as begin
use Rattle.lt_object_laws.proofs.Beginning.{StaticsWith, StandsSoFar, BeginAlike, both_give, both_end, statics_same}
use Rattle.lt_object_laws.proofs.Starting as start
use Rattle.lt_object_laws.proofs.Starting.{RootsWith, a_nameless_root, roots_in, all_roots, blocks_same, parameters_same, sets_same, seal_all_same}
use Rattle.lt_object_laws.proofs.Room.{Leaves, statics_leave, HasRoomBeside}
use Rattle.lt_object_laws.proofs.Calls.{body_same, invoke_same}

-- ---- numbers

from_zero : (n : ℕ) → n ≡ 0 + n
from_zero n = omega arith

-- a flag stands among the flags
flag_within : (further : List Bool) (k : ℕ) → flag_at further k ≡ true → k < 0 + length further
flag_within [] k h = absurd (false≢true h)
flag_within (b ∷ further) zero h = omega arith
flag_within (b ∷ further) (suc k) h =
    let g = flag_within further k h in
    omega (arith, g)

no_flags : (its : List Static) (n : ℕ) → flag_at (map (λ _. false) its) n ≡ false
no_flags [] n = refl
no_flags (it ∷ its) zero = refl
no_flags (it ∷ its) (suc n) = no_flags its n

no_renumbering : (its : List Static) (n : ℕ) → renumbered (map (λ _. false) its) n ≡ n
no_renumbering [] n = refl
no_renumbering (it ∷ its) zero = refl
no_renumbering (it ∷ its) (suc n) = ap suc (no_renumbering its n)

no_further_cells : (its others : List Static) → further_cells_in (map (λ _. false) its) others ≡ 0
no_further_cells [] others = refl
no_further_cells (it ∷ its) [] = refl
no_further_cells (it ∷ its) (other ∷ others) = no_further_cells its others

-- with one flag
one_flag : (its : List Static) (n : ℕ) → renumbered (map (λ _. false) its ++ true ∷ []) n ≤ suc n
one_flag [] n = omega arith
one_flag (it ∷ its) zero = omega arith
one_flag (it ∷ its) (suc n) =
    let h = one_flag its n in
    omega (arith, h)

bytes_many : (k offset : ℕ) → length (bytes_from k offset) ≡ k
bytes_many zero offset = refl
bytes_many (suc k) offset = ap suc (bytes_many k (offset + 1))

-- ---- answers that give

abbrev goes_on : {A : Type 0} → Answer A → Bool
goes_on (Gives a at) = true
goes_on (Ends end at) = false

-- a run beside itself stands where it stands
itself : (o : Other) (model : DataModel) (Room : Type 0) (rest : List Bool) (cells j : ℕ) (m n : Answer (Unit {0})) (at : At) → BeginAlike o model Room rest cells j m n → m ≡ Gives tt at → n ≡ Gives tt at → StandsSoFar o model Room rest cells j at at.scope at.memory
itself o model Room rest cells j m n at (both_give {at = at1} {scope} {memory} h) e f =
    subst (λ x. StandsSoFar o model Room rest cells j at x at.memory) (ap (λ a. a.scope) (ap state_of f))
    (subst (λ x. StandsSoFar o model Room rest cells j at scope x) (ap (λ a. a.memory) (ap state_of f)) (subst (λ x. StandsSoFar o model Room rest cells j x scope memory) (ap state_of e) h))
itself o model Room rest cells j m n at (both_end left held h) e f = absurd (false≢true (ap goes_on e))
itself o model Room rest cells j m n at (begin.no_room lacks) e f = absurd (false≢true (ap goes_on f))

-- ---- how a run goes on behind the objects that are there from the start

abbrev rest_with : DataModel → List Static → List (List ℕ) → List Shape → List CellSet → List Root → Step (Unit {0})
rest_with m statics names shapes its roots = start_parameters 0 shapes >>= (λ _. sets m statics names shapes its roots >>= (λ _. seal_statics 0 statics))

abbrev spare_root : ℕ → ℕ → Root
spare_root k n = record { name = []; block = n; cells = (spare_block k).shape.cells }

-- the second other stands at a block that the run makes
abbrev StopsShort : (seen : Comparison) → Answer Flow → Answer Flow → Type 0
StopsShort seen m n2 = (n : ℕ) × (length (over_by n2).at.memory ≡ names_in seen.two n) × (n < blocks_in m)

-- ends of all three; only further cells can lack room
ended : {further : List Bool} (seen : Comparison) → seen.one.blocks ≡ further → (m n1 n2 : Answer Flow) → Alike seen flow_in m n1 n2
    → IsBeside further (over_by m) (over_by n1) ⊎ ((seen.cells ≡ 0 → ⊥) × ((over_by n1).end ≡ Cells) × StopsShort seen m n2)
ended {further} seen e m n1 n2 (all_give {at = at} {m1 = memory} h1 h2) =
    inl (record { end = refl; ticks = refl; stubs = refl; marks = refl; not_made = []; cells = seen.cells; memory = subst (λ blocks. HasFurtherBlocks (renumbered blocks) blocks [] seen.cells at.memory memory) e h1.blocks })
ended {further} seen e m n1 n2 (all_end {at = at} {m1 = memory} h1 h2) =
    inl (record { end = refl; ticks = refl; stubs = refl; marks = refl; not_made = []; cells = seen.cells; memory = subst (λ blocks. HasFurtherBlocks (renumbered blocks) blocks [] seen.cells at.memory memory) e h1.blocks })
ended seen e m n1 n2 (no_room n some long lt) = inr (some, refl, (n, long, lt))

over_long : (m : Answer Flow) → length (over_by m).at.memory ≡ blocks_in m
over_long (Gives flow at) = refl
over_long (Ends end at) = refl

module _ (P : Program) (u : SourceUnit) (ds : List Declared) (fs : List Function) (fr : Frame) (ls : List Label) (xs : List Fact) (os : List Object) (further : List Bool) (objects_with : HasFurther (renumbered further) further P.objects os)
    (functions_with : fs ≡ map (function_with (renumbered further)) P.functions) (addresses : AllByRecursion (λ (object : Object). AllByRecursion (IsThere P) (parts_in object.start)) P.objects)
    (f : Function) (input : Input) (ticks : ℕ) (are_named : AreNamed input) where
  abbrev Q : Program
  Q = record P { unit = u; declared = ds; functions = fs; file = fr; labels = ls; facts = xs; objects = os }

  abbrev r : ℕ → ℕ
  r = renumbered further

  abbrev statics : List Static
  statics = initials P P.objects

  abbrev others : List Static
  others = initials Q os

  abbrev flags : List Bool
  flags = further_statics further os

  abbrev cells : ℕ
  cells = further_cells_in flags others

  abbrev behind : List Bool
  behind = map (λ _. false) statics ++ true ∷ []

  abbrev seen : Comparison
  seen = record { one = record { blocks = flags; statics = flags }; two = record { blocks = behind; statics = [] }; cells = cells }

  abbrev S : {A : Type 0} → (Other → A → A) → Step A → Step A → Step A → Type 0
  S with s r1 r2 = Same seen with s r1 r2

  with_one : StaticsWith (names_in seen.one) P.model flags statics others
  with_one = initials_with P u ds fs fr ls xs os further objects_with objects_with addresses

  with_two : StaticsWith (names_in seen.two) P.model (map (λ _. false) statics) statics statics
  with_two = statics_low P P.objects addresses

  abbrev parameter_names : List (List ℕ)
  parameter_names = map (name_of_object P) f.parameters

  abbrev shapes : List Shape
  shapes = shapes_of P f.parameters

  rest_same : (roots r1 r2 : List Root) → RootsWith seen.one roots r1 → RootsWith seen.two roots r2
      → S as_it_is (rest_with P.model statics parameter_names shapes input.cells roots) (rest_with P.model others parameter_names shapes input.cells r1) (rest_with P.model statics parameter_names shapes input.cells r2)
  rest_same roots r1 r2 d1 d2 =
      then_same seen _ _ _ _ _ _ (parameters_same seen 0 shapes) (λ _. then_same seen _ _ _ _ _ _
      (sets_same seen P.model statics others statics parameter_names shapes input.cells are_named
      (start.statics_with seen.one with_one [] 0 0 (λ n. ap (names_in seen.one) (sym (from_zero n)) ∙ ap (λ them. renumbered them n) (sym (append-nil flags)) ∙ from_zero (renumbered (flags ++ []) n)))
      (start.statics_with seen.two with_two (true ∷ []) 0 0 (λ n. ap (names_in seen.two) (sym (from_zero n)) ∙ from_zero (renumbered behind n)))
      roots r1 r2 d1 d2)
      (λ _. seal_all_same seen with_one 0 0 (λ n. ap (renumbered flags) (sym (from_zero n)) ∙ from_zero (renumbered flags n)) (λ n. ap (flag_at flags) (sym (from_zero n))) (λ n. refl)))

  abbrev after : List Static → (List Root → List Root) → Step (Unit {0})
  after its more = start_blocks input.blocks >>= (λ roots. rest_with P.model its parameter_names shapes input.cells (more roots))

  after_same : (root : Root) → root.name ≡ [] → S as_it_is (after statics (λ roots. roots)) (after others (λ roots. roots)) (after statics (λ roots. root ∷ roots))
  after_same root e = then_same seen _ _ _ _ _ _ (blocks_same seen input.blocks) (λ roots. rest_same roots (roots_in seen.one roots) (root ∷ roots_in seen.two roots) (all_roots seen.one roots) (a_nameless_root root e (all_roots seen.two roots)))

  whole_same : (root : Root) → root.name ≡ []
      → S flow_in (after statics (λ roots. roots) >>= (λ _. body_of P (invoke P (suc ticks)) f)) (after others (λ roots. roots) >>= (λ _. body_of Q (invoke Q (suc ticks)) (function_with r f))) (after statics (λ roots. root ∷ roots) >>= (λ _. body_of P (invoke P (suc ticks)) f))
  whole_same root e =
      then_same seen _ _ _ _ _ _ (after_same root e)
      (λ _. body_same P u ds fs fr ls xs os further objects_with functions_with behind cells (invoke P (suc ticks)) (invoke Q (suc ticks)) (invoke P (suc ticks)) (invoke_same P u ds fs fr ls xs os further objects_with functions_with behind cells (suc ticks)) f)

  -- ---- the objects that are there from the start

  abbrev nothing : At
  nothing = nowhere input ticks

  abbrev here : Answer (Unit {0})
  here = start_statics P.model 0 statics nothing

  abbrev there : Answer (Unit {0})
  there = start_statics P.model 0 others nothing

  none_alive : 0 ≤ most_cells
  none_alive = omega arith

  -- room for the further ones' cells beside as many as fit
  abbrev IsRoomFirst : Type 0
  IsRoomFirst = (n : ℕ) → cells_in (take n statics) ≤ most_cells → cells_in (take n statics) + cells ≤ most_cells

  beside_none : (n k most : ℕ) → n + k ≤ most → (0 + n) + (0 + k) ≤ most
  beside_none n k most h = omega (arith, h)

  room_from_none : IsRoomFirst → HasRoomBeside 0 statics (0 + cells)
  room_from_none room n fit = beside_none (cells_in (take n statics)) cells most_cells (room n (subst (λ m. m ≤ most_cells) (sym (from_zero (cells_in (take n statics)))) fit))

  room_for_no_cells : (n k most : ℕ) → k ≡ 0 → n ≤ most → n + k ≤ most
  room_for_no_cells n k most e h = omega (arith, e, h)

  begins_one : BeginAlike seen.one P.model IsRoomFirst [] (0 + cells) (0 + length flags) here there
  begins_one =
      statics_same seen.one P.model IsRoomFirst with_one [] 0 0 0 0 (λ n. ap (renumbered flags) (sym (from_zero n)) ∙ from_zero (renumbered flags n)) (λ n. ap (flag_at flags) (sym (from_zero n))) room_from_none nothing [] [] refl none_alive
      (record { bounds = no_bounds; so_far = λ k lt flag. absurd (omega (arith, lt)); blocks = subst (λ them. HasFurtherBlocks (names_in seen.one) flags them 0 [] []) (sym (append-nil flags)) not_yet })

  -- beside itself a run lacks no room
  begins_two : BeginAlike seen.two P.model ⊥ (true ∷ []) (0 + further_cells_in (map (λ _. false) statics) statics) (0 + length (map (λ _. false) statics)) here here
  begins_two =
      statics_same seen.two P.model ⊥ with_two (true ∷ []) 0 0 0 0 (λ n. sym (from_zero n) ∙ sym (no_renumbering statics n) ∙ from_zero (renumbered (map (λ _. false) statics) n)) (λ n. sym (no_flags statics n)) (λ none. absurd none) nothing [] [] refl none_alive
      (record { bounds = no_bounds; so_far = λ k lt flag. absurd (omega (arith, lt)); blocks = not_yet })

  abbrev spare : Block
  spare = new_block (spare_block cells).shape true true

  spare_cells : living_cells spare ≡ cells
  spare_cells = length-map (bytes_from cells 0) (new_cell true) ∙ bytes_many cells 0

  no_more : (a b n : ℕ) → a ≡ 0 → b ≡ n → (0 + a) + b ≡ n
  no_more a b n h g = omega (arith, h, g)

  stands_two : (at : At) → here ≡ Gives tt at → Stands seen.two cells at at.scope (at.memory ++ spare ∷ [])
  stands_two at e =
      let h = itself seen.two P.model ⊥ (true ∷ []) (0 + further_cells_in (map (λ _. false) statics) statics) (0 + length (map (λ _. false) statics)) here here at begins_two e e in
      record {
        bounds = h.bounds;
        there = λ k flag. absurd (false≢true flag);
        blocks = subst (λ n. HasFurtherBlocks (names_in seen.two) behind [] n at.memory (at.memory ++ spare ∷ [])) (no_more (further_cells_in (map (λ _. false) statics) statics) (living_cells spare) cells (no_further_cells statics statics) spare_cells)
            (mem.further_next (names_in seen.two) h.blocks spare refl);
      }

  stands_one : (at : At) (scope : List Bound) (memory : Memory) → StandsSoFar seen.one P.model IsRoomFirst [] (0 + cells) (0 + length flags) at scope memory → Stands seen.one cells at scope memory
  stands_one at scope memory h = record {
    bounds = h.bounds;
    there = λ k flag. h.so_far k (flag_within flags k flag) flag;
    blocks = subst (λ n. HasFurtherBlocks (names_in seen.one) flags [] n at.memory memory) (sym (from_zero cells)) h.blocks;
  }

  -- ---- the whole run

  abbrev goes : Program → Function → Step (Unit {0}) → Answer (Unit {0}) → Answer Flow
  goes R g next m = elim (elim (m) as (λ _. Answer (Unit {0})) [ Gives a at ↦ next at | Ends end at ↦ Ends end at ]) as (λ _. Answer Flow) [ Gives a at ↦ body_of R (invoke R (suc ticks)) g at | Ends end at ↦ Ends end at ]

  abbrev Outcome : Answer Flow → Answer Flow → Type 0
  Outcome m n = IsBeside flags (over_by m) (over_by n) ⊎ ((cells ≡ 0 → ⊥) × ((over_by n).end ≡ Cells))

  run_by : (X Y : Answer (Unit {0})) → here ≡ X → BeginAlike seen.one P.model IsRoomFirst [] (0 + cells) (0 + length flags) X Y
      → Outcome (goes P f (after statics (λ roots. roots)) X) (goes Q (function_with r f) (after others (λ roots. roots)) Y)
  run_by X Y e (both_give {at} {scope} {memory} h) =
      ⊎_elim (λ x. inl x) (λ x. inr (x.0, x.1)) (ended {further = flags} seen refl _ _ _ ((whole_same (spare_root cells 0) refl).alike at scope at.scope memory (at.memory ++ spare ∷ []) (stands_one at scope memory h) (stands_two at e)))
  run_by X Y e (both_end left held h) = inl (record { end = refl; ticks = refl; stubs = refl; marks = refl; not_made = left; cells = held; memory = h })
  run_by X Y e (begin.no_room lacks) = inr ((λ none. lacks (λ n fit. room_for_no_cells (cells_in (take n statics)) cells most_cells none fit)), refl)

  begun_q : begun Q (function_with r f) input ≡ started P.model others parameter_names shapes input
  begun_q =
      ap (λ names. started P.model others names (shapes_of Q (map r f.parameters)) input) (names_same P u ds fs fr ls xs os further objects_with f.parameters)
      ∙ ap (λ them. started P.model others parameter_names them input) (shapes_same P u ds fs fr ls xs os further objects_with f.parameters)

  pub run_same : IsBeside flags (run P f input ticks) (run Q (function_with r f) input ticks) ⊎ ((cells ≡ 0 → ⊥) × ((run Q (function_with r f) input ticks).end ≡ Cells))
  run_same =
      subst (λ (first : Step (Unit {0})). Outcome ((begun P f input >> body_of P (invoke P (suc ticks)) f) nothing) ((first >> body_of Q (invoke Q (suc ticks)) (function_with r f)) nothing)) (sym begun_q)
      (run_by here there refl begins_one)

  -- ---- where there is room

  abbrev after_spare : Step (Unit {0})
  after_spare = start_blocks (spare_block cells ∷ input.blocks) >>= (λ roots. rest_with P.model statics parameter_names shapes input.cells roots)

  abbrev behind_root : ℕ → Answer (List Root) → Answer (Unit {0})
  behind_root n m =
      elim (elim (m) as (λ _. Answer (List Root)) [ Gives roots at ↦ Gives (spare_root cells n ∷ roots) at | Ends end at ↦ Ends end at ]) as (λ _. Answer (Unit {0}))
      [ Gives roots at ↦ rest_with P.model statics parameter_names shapes input.cells roots at | Ends end at ↦ Ends end at ]

  abbrev with_root : ℕ → Answer (List Root) → Answer (Unit {0})
  with_root n m = elim (m) as (λ _. Answer (Unit {0})) [ Gives roots at ↦ rest_with P.model statics parameter_names shapes input.cells (spare_root cells n ∷ roots) at | Ends end at ↦ Ends end at ]

  root_first : (n : ℕ) (m : Answer (List Root)) → behind_root n m ≡ with_root n m
  root_first n (Gives roots at) = refl
  root_first n (Ends end at) = refl

  abbrev in_body : Answer (Unit {0}) → Answer Flow
  in_body m = elim (m) as (λ _. Answer Flow) [ Gives a at ↦ body_of P (invoke P (suc ticks)) f at | Ends end at ↦ Ends end at ]

  abbrev spare_made : Bool → At → Answer ℕ
  spare_made b at = elim (if b then Some (create at.memory spare) else None) as (λ _. Answer ℕ) [ None ↦ Ends Cells at | Some memory ↦ Gives (length at.memory) (record at { memory = memory }) ]

  abbrev rooted : Answer ℕ → Answer (List Root)
  rooted m = elim (m) as (λ _. Answer (List Root)) [ Gives n at1 ↦ (start_blocks input.blocks >>= (λ roots. gives (spare_root cells n ∷ roots))) at1 | Ends end at1 ↦ Ends end at1 ]

  abbrev resting : Answer (List Root) → Answer (Unit {0})
  resting m = elim (m) as (λ _. Answer (Unit {0})) [ Gives roots at1 ↦ rest_with P.model statics parameter_names shapes input.cells roots at1 | Ends end at1 ↦ Ends end at1 ]

  abbrev beside_spare : At → Answer Flow
  beside_spare at = (after statics (λ roots. spare_root cells (length at.memory) ∷ roots) >>= (λ _. body_of P (invoke P (suc ticks)) f)) (beside at at.scope (at.memory ++ spare ∷ []))

  too_few : (all named n many : ℕ) → all ≡ named → named ≤ suc n → n < many → all ≡ suc many → ⊥
  too_few all named n many e h lt g = omega (arith, e, h, lt, g)

  none_made : (all many : ℕ) → all ≤ many → all ≡ suc many → ⊥
  none_made all many h g = omega (arith, h, g)

  spared_by : (b : Bool) (at : At) (m : Answer Flow) → StopsShort seen m (beside_spare at) → length at.memory ≤ blocks_in m → length (over_by (in_body (resting (rooted (spare_made b at))))).at.memory ≡ suc (blocks_in m) → ⊥
  spared_by true at m short more e =
      too_few (length (over_by (beside_spare at)).at.memory) (names_in seen.two short.0) short.0 (blocks_in m) short.1 (one_flag statics short.0) short.2
      (sym (ap (λ m. length (over_by (in_body m)).at.memory) (root_first (length at.memory) (start_blocks input.blocks (beside at at.scope (at.memory ++ spare ∷ []))))) ∙ e)
  spared_by false at m short more e = none_made (length at.memory) (blocks_in m) more e

  -- with the spare block the run goes on as it does beside further blocks, and comes to fewer blocks where those lack room
  spared : (at : At) (m : Answer Flow) → StopsShort seen m (beside_spare at) → length at.memory ≤ blocks_in m → length (over_by (in_body (after_spare at))).at.memory ≡ suc (blocks_in m) → ⊥
  unfolding create_shaped
  spared at m short more e = spared_by (nat_le (cells_alive at.memory + length (bytes_from cells 0)) most_cells) at m short more e

  abbrev IsSame : Answer Flow → Answer Flow → Type 0
  IsSame m n = IsBeside flags (over_by m) (over_by n)

  all_fit : (at : At) → here ≡ Gives tt at → cells_in statics ≤ most_cells
  all_fit at e = subst (λ n. n ≤ most_cells) (sym (from_zero (cells_in statics))) (subst (Leaves (0 + cells_in statics)) e (statics_leave P.model 0 0 statics nothing refl none_alive)).1

  room_by : IsRoomFirst → (cells_in statics ≤ most_cells → length (over_by (goes P f after_spare here)).at.memory ≡ suc (length (over_by (goes P f (after statics (λ roots. roots)) here)).at.memory))
      → (X Y : Answer (Unit {0})) → here ≡ X → BeginAlike seen.one P.model IsRoomFirst [] (0 + cells) (0 + length flags) X Y
      → IsSame (goes P f (after statics (λ roots. roots)) X) (goes Q (function_with r f) (after others (λ roots. roots)) Y)
  room_by first room X Y e (both_give {at} {scope} {memory} h) =
      let whole = whole_same (spare_root cells (length at.memory)) refl in
      let m = goes P f (after statics (λ roots. roots)) (Gives tt at) in
      ⊎_elim (λ x. x)
      (λ x. absurd (spared at m x.2 (whole.grows at) (ap (λ m. length (over_by (goes P f after_spare m)).at.memory) (sym e) ∙ room (all_fit at e) ∙ ap (λ m. suc (length (over_by (goes P f (after statics (λ roots. roots)) m)).at.memory)) e ∙ ap suc (over_long m))))
      (ended {further = flags} seen refl _ _ _ (whole.alike at scope at.scope memory (at.memory ++ spare ∷ []) (stands_one at scope memory h) (stands_two at e)))
  room_by first room X Y e (both_end left held h) = record { end = refl; ticks = refl; stubs = refl; marks = refl; not_made = left; cells = held; memory = h }
  room_by first room X Y e (begin.no_room lacks) = absurd (lacks first)

  pub run_with_room : HasRoom cells P f input ticks → IsBeside flags (run P f input ticks) (run Q (function_with r f) input ticks)
  run_with_room room =
      subst (λ (first : Step (Unit {0})). IsSame ((begun P f input >> body_of P (invoke P (suc ticks)) f) nothing) ((first >> body_of Q (invoke Q (suc ticks)) (function_with r f)) nothing)) (sym begun_q)
      (room_by room.first room.throughout here there refl begins_one)

  run_as_roomy : (k : ℕ) → cells ≡ k → HasRoomFor k P f input ticks → IsBeside flags (run P f input ticks) (run Q (function_with r f) input ticks)
  run_as_roomy zero e room = ⊎_elim (λ x. x) (λ x. absurd (x.0 e)) run_same
  run_as_roomy (suc k) e room = run_with_room (subst (λ n. HasRoom n P f input ticks) (sym e) room)

-- ---- the laws

as_record : (further : List Bool) (p q : Program) → HasFurtherObjects further p q → record p { unit = q.unit; declared = q.declared; functions = q.functions; file = q.file; labels = q.labels; facts = q.facts; objects = q.objects } ≡ q
as_record further p q h = ap (λ x. record q { model = x; structs = p.structs; types = p.types }) h.model ∙ ap (λ x. record q { structs = x; types = p.types }) h.structs ∙ ap (λ x. record q { types = x }) h.types

pub room_alone : FurtherObjectsTakeRoomAlone
room_alone further p q f input ticks h named =
    subst (λ q. IsBeside (blocks_of further q) (run p f input ticks) (run q (function_with (renumbered further) f) input ticks) ⊎ ((run q (function_with (renumbered further) f) input ticks).end ≡ Cells)) (as_record further p q h)
    (⊎_elim (λ x. inl x) (λ x. inr x.1) (run_same p q.unit q.declared q.functions q.file q.labels q.facts q.objects further h.objects h.functions h.addresses f input ticks named))

pub nothing_changes : FurtherObjectsChangeNothing
nothing_changes further p q f input ticks h named room =
    subst (λ q. HasRoomFor (further_cells further q) p f input ticks → IsBeside (blocks_of further q) (run p f input ticks) (run q (function_with (renumbered further) f) input ticks)) (as_record further p q h)
    (run_as_roomy p q.unit q.declared q.functions q.file q.labels q.facts q.objects further h.objects h.functions h.addresses f input ticks named _ refl) room
