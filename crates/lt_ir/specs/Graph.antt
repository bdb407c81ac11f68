-- What graph code does: nodes that name their successors, over registers. Each register has a content, or none, and the
-- footprint of the expression whose value it is.
use Rattle.std.specs.Prelude.{◌≡◌, ℕ, zero, suc, List, [], ◌∷◌, Bool, true, false, Option, Some, None, if◌then◌else◌}
use Rattle.std.specs.Prelude.{map, slice_get, slice_set}
use Rattle.lt_model.specs.declared.cell.Content.{Content}
use Rattle.lt_model.specs.declared.cell.Content.TheVariants as content
use Rattle.lt_model.specs.declared.cell.Shape.{Shape}
use Rattle.lt_model.specs.declared.cell.ShapeCell.{ShapeCell}
use Rattle.lt_model.specs.declared.input.Input.{Input}
use Rattle.lt_model.specs.declared.input.BlockIn.{BlockIn}
use Rattle.lt_model.specs.declared.scalar.DataModel.{DataModel}
use Rattle.lt_model.specs.declared.run.End.{End as RunEnd}
use Rattle.lt_model.specs.declared.run.End.TheVariants.{Returned, Stopped}
use Rattle.lt_model.specs.State.{Footprint, joined, settle, untouched, Gives, Ends}
use Rattle.lt_ir.specs.declared.variable.Variable.TheVariants.{Local}
use Rattle.lt_ir.specs.declared.code.Code.{Code}
use Rattle.lt_ir.specs.declared.code.LabelInfo.{LabelInfo}
use Rattle.lt_ir.specs.declared.graph.Graph.{Graph}
use Rattle.lt_ir.specs.declared.node.Access.{Access}
use Rattle.lt_ir.specs.declared.node.Access.TheVariants.{Scalar, Struct}
use Rattle.lt_ir.specs.declared.node.Movement.{Movement}
use Rattle.lt_ir.specs.declared.node.Movement.TheVariants.{Elements, Member}
use Rattle.lt_ir.specs.declared.node.Parts.{Parts}
use Rattle.lt_ir.specs.declared.node.Parts.TheVariants.{Unsequenced, Sequenced, Settled, Read, Target}
use Rattle.lt_ir.specs.declared.node.Given.{Given}
use Rattle.lt_ir.specs.declared.node.Given.TheVariants.{Nothing, Fixed, Held}
use Rattle.lt_ir.specs.declared.node.Node.{Node}
use Rattle.lt_ir.specs.declared.node.Node.TheVariants as node
use Rattle.lt_ir.specs.Running.{Bound, At, Step, gives, absurdity, ◌>>=◌, ◌>>◌, tick, one_deeper, place, begins, ends}
use Rattle.lt_ir.specs.Running.{seals, stub_value, begin_parameters, statics_of, with_scope, is_static, marked_with}
use Rattle.lt_ir.specs.Running.{quietly, Over}
use Rattle.lt_ir.specs.Evaluation.{valued, number_in, address_in, used, truth_in, of_truth, apart, aimed, one_cell}
use Rattle.lt_ir.specs.Evaluation.{loaded, stored, copied, with_reads, moved, member_at, applied, counted, compared}
use Rattle.lt_ir.specs.Evaluation.{store_parameters}
use Rattle.lt_ir.specs.Starting.{started, nowhere}
use Rattle.lt_ir.specs.Tables.{arm_of}
use Rattle.lt_ir.specs.Pure.{Pure, convert_as, look, looked_at}
use Rattle.lt_ir.specs.PureView.{pure_of}

-- ---- registers

pub record Register : Type 0 where
  pub content : Option Content
  pub footprint : Footprint

abbrev pub blank : Register
blank = record { content = None; footprint = untouched }

abbrev pub register_at : List Register → ℕ → Register
register_at [] r = blank
register_at (it ∷ its) zero = it
register_at (it ∷ its) (suc r) = register_at its r

abbrev pub blanks : ℕ → List Register
blanks zero = []
blanks (suc n) = blank ∷ blanks n

-- ---- states

-- what a call keeps of its caller
pub record Frame : Type 0 where
  pub code : ℕ
  pub place : ℕ
  pub target : Option ℕ
  pub registers : List Register
  pub scope : List Bound

-- where a run of a graph stands
pub record State : Type 0 where
  pub code : ℕ
  pub place : ℕ
  pub registers : List Register
  pub stack : List Frame
  pub at : At

pub data Next : Type 0 where
  Goes : State → Next
  Stops : RunEnd → At → Next

-- goes on with what a step gives, or the run is over
abbrev pub going : {A : Type 0} → Step A → At → (A → At → Next) → Next
going step at go = elim (step at) [ Gives a at1 ↦ go a at1 | Ends end at1 ↦ Stops end at1 ]

-- a content that a node needs
abbrev pub had : Option Content → Step Content
had None = absurdity
had (Some c) = gives c

abbrev pub content_at : List Register → ℕ → Step Content
content_at rs r = had (register_at rs r).content

abbrev pub footprint_at : List Register → ℕ → Footprint
footprint_at rs r = (register_at rs r).footprint

-- the registers, where one has another content, another footprint, or both
abbrev pub with_content : List Register → ℕ → Content → List Register
with_content rs r c = slice_set rs r (record { content = Some c; footprint = footprint_at rs r })

abbrev pub with_footprint : List Register → ℕ → Footprint → List Register
with_footprint rs r p = slice_set rs r (record { content = (register_at rs r).content; footprint = p })

abbrev pub with_both : List Register → ℕ → Content → Footprint → List Register
with_both rs r c p = slice_set rs r (record { content = Some c; footprint = p })

-- the left one has a footprint, and the right one has none
abbrev pub with_joined : List Register → ℕ → ℕ → Footprint → List Register
with_joined rs left right p = with_footprint (with_footprint rs right untouched) left p

-- ---- what nodes do

abbrev pub goes : State → ℕ → At → Next
goes s next at = Goes (record s { place = next; at = at })

abbrev pub leaves : State → List Register → ℕ → At → Next
leaves s rs next at = Goes (record s { registers = rs; place = next; at = at })

-- a register gets a content and keeps its footprint
abbrev pub puts : State → ℕ → ℕ → Content → At → Next
puts s r next c at = leaves s (with_content s.registers r c) next at

abbrev pub kept_if : Bool → Footprint → Footprint
kept_if true p = p
kept_if false p = untouched

-- the shape at a place of a function's table
abbrev pub shape_at : List Shape → ℕ → Shape
shape_at shapes k = elim (slice_get shapes k) [ None ↦ record { cells = []; size = 0 } | Some shape ↦ shape ]

abbrev pub cells_of : List Shape → Access → List ShapeCell
cells_of structs (Scalar ty) = one_cell ty
cells_of structs (Struct k) = (shape_at structs k).cells

abbrev pub moves : List Register → Movement → Content → Step Content
moves rs (Elements count op size) pointer = do
  n ← content_at rs count
  a ← moved op size pointer n
  gives (content.Address a)
moves rs (Member offset) pointer = do
  a ← address_in pointer
  b ← member_at offset a
  gives (content.Address b)

-- the registers behind a clash node
abbrev pub parted : List Shape → List Register → Parts → Step (List Register)
parted structs rs (Unsequenced left right) =
    apart true (footprint_at rs left) (footprint_at rs right) >>= (λ p. gives (with_joined rs left right p))
parted structs rs (Sequenced left right) =
    gives (with_joined rs left right (joined (footprint_at rs left) (footprint_at rs right)))
parted structs rs (Settled r) = gives (with_footprint rs r (settle (footprint_at rs r)))
parted structs rs (Read r access) = do
  c ← content_at rs r
  p ← with_reads true (cells_of structs access) (valued c (footprint_at rs r))
  gives (with_footprint rs r p)
parted structs rs (Target r access) = do
  a ← content_at rs r >>= address_in
  p ← aimed true (cells_of structs access) a (footprint_at rs r)
  gives (with_footprint rs r p)

-- ---- calls

abbrev pub contents_from : List Register → ℕ → ℕ → Step (List Content)
contents_from rs r zero = gives []
contents_from rs r (suc n) = do
  c ← content_at rs r
  cs ← contents_from rs (suc r) n
  gives (c ∷ cs)

abbrev pub shapes_in : List BlockIn → List Shape
shapes_in params = map (λ p. p.shape) params

abbrev pub names_in : List BlockIn → List (List ℕ)
names_in params = map (λ p. p.name) params

-- a function is entered
abbrev pub entering : DataModel → Code → List Content → Step (Unit {0})
entering model code xs = do
  one_deeper
  λ at. with_scope (statics_of at.scope) at
  begin_parameters 0 (shapes_in code.params)
  store_parameters model 0 (shapes_in code.params) xs

-- what a call keeps
abbrev pub caller : State → Option ℕ → (next : ℕ) → Frame
caller s to next = record { code = s.code; place = next; target = to; registers = s.registers; scope = s.at.scope }

-- a code begins, with blank registers
abbrev pub begun : (f : ℕ) → Code → List Frame → At → Next
begun f code stack at =
    Goes (record { code = f; place = code.start; registers = blanks code.registers; stack = stack; at = at })

abbrev pub calls : DataModel → Option Code → State → ℕ → Option ℕ → (first count next : ℕ) → Next
calls model None s f to first count next = Stops Stopped s.at
calls model (Some code) s f to first count next =
    going (contents_from s.registers first count >>= entering model code) s.at
    (λ _ at. begun f code (caller s to next ∷ s.stack) at)

-- a register of the caller gets the value of a call
abbrev pub targets : List Register → Option ℕ → Content → List Register
targets rs None c = rs
targets rs (Some r) c = with_content rs r c

-- whether only objects are in scope that are there from the start
abbrev pub are_static : List Bound → Bool
are_static [] = true
are_static (bound ∷ scope) = if is_static bound.variable then are_static scope else false

abbrev pub one_less : ℕ → ℕ
one_less zero = zero
one_less (suc n) = n

abbrev pub returns : List Frame → Content → At → Next
returns [] c at = Stops Returned at
returns (frame ∷ stack) c at =
    if are_static at.scope then Goes (record {
      code = frame.code;
      place = frame.place;
      registers = targets frame.registers frame.target c;
      stack = stack;
      at = record at { scope = frame.scope; depth = one_less at.depth };
    }) else Stops Stopped at

abbrev pub given : List Register → Given → Step Content
given rs Nothing = gives content.Unset
given rs (Fixed c) = gives c
given rs (Held r) = content_at rs r

-- the next value for a function without a body
abbrev pub stub_for : Option (List ℕ) → (r : ℕ) → State → (next : ℕ) → Next
stub_for None r s next = Stops Stopped s.at
stub_for (Some name) r s next = going (stub_value name) s.at (puts s r next)

-- ---- marks

abbrev pub marks_label : DataModel → Option LabelInfo → Pure → List Pure → At → At
marks_label model None predicate bound at = at
marks_label model (Some label) predicate bound at =
    marked_with label.id (quietly (look model predicate >>= truth_in) at) (looked_at model label.bound bound at) at

-- ---- steps

abbrev pub structs_of : Option Code → List Shape
structs_of None = []
structs_of (Some code) = code.structs

abbrev pub locals_of : Option Code → List Shape
locals_of None = []
locals_of (Some code) = code.locals

abbrev pub nodes_of : Option Code → List Node
nodes_of None = []
nodes_of (Some code) = code.nodes

abbrev pub act : Graph → Option Code → Option Node → State → Next
act g code None s = Stops Stopped s.at
act g code (Some (node.Constant to c is_kept next)) s =
    leaves s (with_both s.registers to c (kept_if is_kept (footprint_at s.registers to))) next s.at
act g code (Some (node.Address to v next)) s =
    going (place v) s.at (λ a. leaves s (with_both s.registers to (content.Address a) untouched) next)
act g code (Some (node.Load to from ty tracks next)) s =
    going (do
      a ← content_at s.registers from >>= address_in
      loaded tracks g.model ty (valued a (footprint_at s.registers from))) s.at
    (λ x. leaves s (with_content (with_footprint s.registers from x.footprint) to x.value) next)
act g code (Some (node.Store p v y ty tracks next)) s =
    going (do
      a ← content_at s.registers p >>= address_in
      c ← content_at s.registers v >>= used
      d ← content_at s.registers y
      footprint ← stored tracks g.model ty a c (footprint_at s.registers p)
      gives (valued d footprint)) s.at (λ x. leaves s (with_both s.registers p x.value x.footprint) next)
act g code (Some (node.Move to pointer by next)) s =
    going (content_at s.registers pointer >>= moves s.registers by) s.at (puts s to next)
act g code (Some (node.Subtract to left right size next)) s =
    going (do
      a ← content_at s.registers left
      b ← content_at s.registers right
      counted size a b) s.at (λ z. puts s to next (content.Number z))
act g code (Some (node.Apply to left right op ty next)) s =
    going (do
      a ← content_at s.registers left
      b ← content_at s.registers right
      applied g.model op ty a b) s.at (λ z. puts s to next (content.Number z))
act g code (Some (node.Convert to from how next)) s =
    going (content_at s.registers from >>= convert_as g.model how) s.at (puts s to next)
act g code (Some (node.Compare to left right op next)) s =
    going (do
      a ← content_at s.registers left
      b ← content_at s.registers right
      compared op a b) s.at (λ b. puts s to next (of_truth b))
act g code (Some (node.Copy p from k tracks next)) s =
    going (do
      a ← content_at s.registers p >>= address_in
      b ← content_at s.registers from >>= address_in
      footprint ← copied tracks g.model (shape_at (structs_of code) k) a b (footprint_at s.registers p)
      gives (valued (content.Address a) footprint)) s.at
    (λ x. leaves s (with_both s.registers p x.value x.footprint) next)
act g code (Some (node.Create k is_zeroed next)) s =
    going (begins (Local k) (shape_at (locals_of code) k) is_zeroed) s.at (λ _. goes s next)
act g code (Some (node.Seal v next)) s = going (seals v) s.at (λ _. goes s next)
act g code (Some (node.End v next)) s = going (ends v) s.at (λ _. goes s next)
act g code (Some (node.Branch test on off)) s =
    going (content_at s.registers test >>= truth_in) s.at (λ b. goes s (if b then on else off))
act g code (Some (node.Switch value arms table default)) s =
    going (content_at s.registers value >>= number_in) s.at (λ z. goes s (arm_of arms default z))
act g code (Some (node.Call f to first count next)) s = calls g.model (slice_get g.codes f) s f to first count next
act g code (Some (node.Stub k to next)) s = stub_for (slice_get g.stubs k) to s next
act g code (Some node.Stop) s = Stops Stopped s.at
act g code (Some (node.Return value)) s = going (given s.registers value) s.at (returns s.stack)
act g code (Some (node.Tick next)) s = going tick s.at (λ _. goes s next)
act g code (Some (node.Mark k predicate bound next)) s =
    goes s next (marks_label g.model (slice_get g.labels k) (pure_of predicate) (map pure_of bound) s.at)
act g code (Some (node.Clash parts next)) s =
    going (parted (structs_of code) s.registers parts) s.at (λ rs. leaves s rs next)

-- the code of a function, and the node at a place of it
abbrev pub code_at : Graph → ℕ → Option Code
code_at g f = slice_get g.codes f

abbrev pub node_at : Graph → ℕ → ℕ → Option Node
node_at g f i = slice_get (nodes_of (code_at g f)) i

abbrev pub step : Graph → State → Next
step g s = act g (code_at g s.code) (node_at g s.code s.place) s

-- ---- runs

abbrev pub next_of : Next → (State → Option Over) → Option Over
next_of (Goes s) go = go s
next_of (Stops end at) go = Some (record { end = end; at = at })

-- where a run is over in at most so many steps
abbrev pub steps : Graph → ℕ → State → Option Over
steps g zero s = None
steps g (suc n) s = next_of (step g s) (steps g n)

abbrev pub launch : Graph → Option Code → ℕ → Input → ℕ → Next
launch g None f input ticks = Stops Stopped (nowhere input ticks)
launch g (Some code) f input ticks =
    going (started g.model g.statics (names_in code.params) (shapes_in code.params) input) (nowhere input ticks)
    (λ _ at. begun f code [] at)

-- The run of a function on an input with so many ticks is over so.
pub record Runs (g : Graph) (f : ℕ) (input : Input) (ticks : ℕ) (over : Over) : Type 0 where
  pub count : ℕ
  pub is : next_of (launch g (code_at g f) f input ticks) (steps g count) ≡ Some over
