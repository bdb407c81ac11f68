-- The state of an evaluation, its footprint and its answer (C11 5.1.2.3 and 6.5).
use Rattle.std.specs.Prelude.{◌≡◌, ℕ, ℤ, ◌||◌, ◌&&◌, Bool, true, false, List, [], ◌∷◌, ◌++◌, nat_eq}
use Rattle.std.specs.List.{list_any}
use Rattle.lt_model.specs.declared.run.End.{End}
use Rattle.lt_model.specs.Memory.{Memory}

-- A variable in scope stands for an object: the number of its block. V says how variables are named.
pub record Bound (V : Type 0) : Type 0 where
  pub variable : V
  pub block : ℕ

-- a name that a mark bound, with its value
pub record Binding : Type 0 where
  pub name : List ℕ
  pub value : ℤ

-- a mark that was made: its label, whether its predicate was true, and what it bound
pub record Made : Type 0 where
  pub id : ℕ
  pub truth : Bool
  pub bound : List Binding

-- the values that are left for a function without a body
pub record Left : Type 0 where
  pub stub : List ℕ
  pub values : List ℤ

-- Where an evaluation stands: the objects of the variables in scope, the innermost first; memory; the ticks left; the
-- active calls; the values left for functions without a body; the marks made, in order.
pub record At (V : Type 0) : Type 0 where
  pub scope : List (Bound V)
  pub memory : Memory
  pub ticks : ℕ
  pub depth : ℕ
  pub stubs : List Left
  pub marks : List Made

-- a cell, by its block and its byte offset
pub record CellName : Type 0 where
  pub block : ℕ
  pub offset : ℕ

-- The cells that an evaluation read, those that it wrote before a sequence point, and those that it wrote since.
pub record Footprint : Type 0 where
  pub reads : List CellName
  pub settled : List CellName
  pub pending : List CellName

-- a value with its footprint
pub record Valued (A : Type 0) : Type 0 where
  pub value : A
  pub footprint : Footprint

-- What an evaluation gives: a value and the state that follows, or the end of the run.
pub data Answer (V A : Type 0) : Type 0 where
  Gives : A → At V → Answer V A
  Ends : End → At V → Answer V A

-- goes on with the value, unless the run is over
abbrev pub bind : {V A B : Type 0} → Answer V A → (A → At V → Answer V B) → Answer V B
bind (Gives a at) go = go a at
bind (Ends end at) go = Ends end at

abbrev pub same_cell : CellName → CellName → Bool
same_cell a b = nat_eq a.block b.block && nat_eq a.offset b.offset

abbrev pub meets : List CellName → List CellName → Bool
meets cells others = list_any (λ cell. list_any (same_cell cell) others) cells

-- Two unsequenced parts clash where one writes a cell that the other reads or writes.
abbrev pub clash : Footprint → Footprint → Bool
clash p q =
    meets (p.settled ++ p.pending) q.reads || meets (q.settled ++ q.pending) p.reads || meets (p.settled ++ p.pending) (q.settled ++ q.pending)

-- both footprints
abbrev pub joined : Footprint → Footprint → Footprint
joined p q = record { reads = p.reads ++ q.reads; settled = p.settled ++ q.settled; pending = p.pending ++ q.pending }

-- after a sequence point
abbrev pub settle : Footprint → Footprint
settle p = record { reads = p.reads; settled = p.settled ++ p.pending; pending = [] }

abbrev pub untouched : Footprint
untouched = record { reads = []; settled = []; pending = [] }
