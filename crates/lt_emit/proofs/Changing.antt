-- The code of compound assignments, `++` and `--`, of integers and of pointers.
use Rattle.std.proofs.Common.{ℕ, ◌+◌, ◌≤◌, max, List, ◌++◌, arith}
use Rattle.lt_tree.specs.Typing.Types.{CType}
use Rattle.lt_tree.specs.Typing.Entities.{Function}
use Rattle.lt_tree.specs.Typing.TypedTree as e
use Rattle.lt_meaning.specs.Expressions.{Fate, wanted}
use Rattle.lt_code.specs.Pieces.{Piece, ◌▸◌}
use Rattle.lt_code.specs.Code.{Site, value_code, place_of, clash, load_modify_store, stepping, kept_in}
use Rattle.lt_code.specs.Costs.{Cost, nodes_of, nodes_at, behind, behind_place, calls_in, calls_at, full_value}
use Rattle.lt_ir.specs.declared.node.Parts.TheVariants.{Unsequenced}
use Rattle.lt_emit.specs.declared.changes.Change.{Change}
use Rattle.lt_emit.specs.declared.changes.Change.TheVariants as change
use Rattle.lt_emit.specs.Known.{Named, Knows, KnowsPlace}
use Rattle.lt_emit.specs.Spending.{IsWithin}
use Rattle.lt_emit.specs.Operators.{updated_by, stepped_by, modified, change_nodes}

-- the right operand of a compound assignment
abbrev pub right_operand : Site → e.Value → (r : ℕ) → Piece
right_operand s v r = value_code s wanted v (r + 2) ▸ clash s (Unsequenced r (r + 2))

pub update_is :
    (s : Site) (fate : Fate) (it : Change) (t : CType) (p : e.Place) (v : e.Value) (r from to : ℕ)
    → load_modify_store s t r (place_of s p r) (right_operand s v r) (modified it s t r) (r + 3) from to
    → value_code s fate (updated_by it t p v) r from to
update_is s fate (change.Computed op k) t p v r from to code = code
update_is s fate (change.Moved op size) t p v r from to code = code

pub step_is :
    (s : Site) (fate : Fate) (it : Change) (t : CType) (when : e.When) (p : e.Place) (r from to : ℕ)
    → stepping s t r (place_of s p r) (modified it s t r) when from to
    → value_code s fate (stepped_by it t when p) r from to
step_is s fate (change.Computed op k) t when p r from to code = code
step_is s fate (change.Moved op size) t when p r from to code = code

pub update_knows :
    (named : Named) (it : Change) (t : CType) (p : e.Place) (v : e.Value) → Knows named (updated_by it t p v)
    → KnowsPlace named p × Knows named v
update_knows named (change.Computed op k) t p v known = known
update_knows named (change.Moved op size) t p v known = known

pub step_knows :
    (named : Named) (it : Change) (t : CType) (when : e.When) (p : e.Place) → Knows named (stepped_by it t when p)
    → KnowsPlace named p
step_knows named (change.Computed op k) t when p known = known
step_knows named (change.Moved op size) t when p known = known

-- ---- what they cost

pub update_fits :
    (functions : List Function) (it : Change) (t : CType) (p : e.Place) (v : e.Value) (r : ℕ) (cost : Cost)
    → IsWithin cost (record {
      nodes = nodes_at p + (nodes_of v).value + (change_nodes it + 4);
      registers = max (behind_place p) (max 3 (behind v + 2)) + 1 + r;
      loops = 0;
      calls = calls_at functions p ++ calls_in functions v;
    })
    → IsWithin cost (full_value functions r (updated_by it t p v))
update_fits functions (change.Computed op k) t p v r cost fits =
    record { nodes = omega (arith, fits.nodes); registers = fits.registers; loops = fits.loops; calls = fits.calls }
update_fits functions (change.Moved op size) t p v r cost fits =
    record { nodes = omega (arith, fits.nodes); registers = fits.registers; loops = fits.loops; calls = fits.calls }

pub step_fits :
    (functions : List Function) (it : Change) (t : CType) (when : e.When) (p : e.Place) (r : ℕ) (cost : Cost)
    → IsWithin cost (record {
      nodes = nodes_at p + (change_nodes it + 4);
      registers = max (behind_place p) 3 + 1 + r;
      loops = 0;
      calls = calls_at functions p;
    })
    → IsWithin cost (full_value functions r (stepped_by it t when p))
step_fits functions (change.Computed op k) t when p r cost fits =
    record { nodes = omega (arith, fits.nodes); registers = fits.registers; loops = fits.loops; calls = fits.calls }
step_fits functions (change.Moved op size) t when p r cost fits =
    record { nodes = omega (arith, fits.nodes); registers = fits.registers; loops = fits.loops; calls = fits.calls }

pub kept_below : (when : e.When) (old new : ℕ) → kept_in when old new ≤ max old new
kept_below e.before old new = omega arith
kept_below e.after old new = omega arith
