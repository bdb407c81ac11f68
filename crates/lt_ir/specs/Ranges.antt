-- That each number in graph code is the number of something that is there.
use Rattle.std.specs.Prelude.{ℕ, ◌+◌, nat_le, nat_lt, Bool, true, ◌&&◌, List, length, Option, Some, None}
use Rattle.std.specs.List.{list_all}
use Rattle.lt_ir.specs.declared.variable.Variable.{Variable}
use Rattle.lt_ir.specs.declared.variable.Variable.TheVariants as variable
use Rattle.lt_ir.specs.declared.code.Code.{Code}
use Rattle.lt_ir.specs.declared.code.Static.{Static}
use Rattle.lt_ir.specs.declared.code.LabelInfo.{LabelInfo}
use Rattle.lt_ir.specs.declared.node.Access.{Access}
use Rattle.lt_ir.specs.declared.node.Access.TheVariants as access
use Rattle.lt_ir.specs.declared.node.Movement.{Movement}
use Rattle.lt_ir.specs.declared.node.Movement.TheVariants as movement
use Rattle.lt_ir.specs.declared.node.Parts.{Parts}
use Rattle.lt_ir.specs.declared.node.Parts.TheVariants as parts
use Rattle.lt_ir.specs.declared.node.Given.{Given}
use Rattle.lt_ir.specs.declared.node.Given.TheVariants as given
use Rattle.lt_ir.specs.declared.node.Node.{Node}
use Rattle.lt_ir.specs.declared.node.Node.TheVariants as node
use Rattle.lt_ir.specs.Pure as p
use Rattle.lt_ir.specs.PureView.{pure_of}

-- how many there are of what a function's code names
pub record Counts : Type 0 where
  pub nodes : ℕ
  pub registers : ℕ
  pub params : ℕ
  pub locals : ℕ
  pub structs : ℕ
  pub statics : ℕ
  pub labels : ℕ
  pub stubs : ℕ
  pub functions : ℕ

abbrev pub counts_in : (functions statics labels stubs : ℕ) → Code → Counts
counts_in functions statics labels stubs code = record {
  nodes = length code.nodes;
  registers = code.registers;
  params = length code.params;
  locals = length code.locals;
  structs = length code.structs;
  statics = statics;
  labels = labels;
  stubs = stubs;
  functions = functions;
}

abbrev pub is_register : Counts → ℕ → Bool
is_register n r = nat_lt r n.registers

-- the number of a node
abbrev pub is_point : Counts → ℕ → Bool
is_point n i = nat_lt i n.nodes

abbrev pub is_variable : Counts → Variable → Bool
is_variable n (variable.Parameter k) = nat_lt k n.params
is_variable n (variable.Local k) = nat_lt k n.locals
is_variable n (variable.Static k) = nat_lt k n.statics

abbrev mutual
  pub is_lookable : Counts → p.Pure → Bool
  is_lookable n p.Never = true
  is_lookable n (p.Fixed c) = true
  is_lookable n (p.Place v) = is_variable n v
  is_lookable n (p.Load ty a) = is_lookable n a
  is_lookable n (p.Convert how a) = is_lookable n a
  is_lookable n (p.Apply op s a b) = is_lookable n a && is_lookable n b
  is_lookable n (p.Move op size a b) = is_lookable n a && is_lookable n b
  is_lookable n (p.Member offset a) = is_lookable n a
  is_lookable n (p.Distance size a b) = is_lookable n a && is_lookable n b
  is_lookable n (p.Compare op a b) = is_lookable n a && is_lookable n b
  is_lookable n (p.Choose a b c) = is_lookable n a && is_lookable n b && is_lookable n c
  is_lookable n (p.Comma ps) = are_lookable n ps

  pub are_lookable : Counts → p.Pures → Bool
  are_lookable n p.no_pures = true
  are_lookable n (p.a_pure a ps) = is_lookable n a && are_lookable n ps

abbrev pub is_access : Counts → Access → Bool
is_access n (access.Scalar ty) = true
is_access n (access.Struct k) = nat_lt k n.structs

abbrev pub is_movement : Counts → Movement → Bool
is_movement n (movement.Elements count op size) = is_register n count
is_movement n (movement.Member offset) = true

abbrev pub are_parts : Counts → Parts → Bool
are_parts n (parts.Unsequenced left right) = is_register n left && is_register n right
are_parts n (parts.Sequenced left right) = is_register n left && is_register n right
are_parts n (parts.Settled register) = is_register n register
are_parts n (parts.Read register it) = is_register n register && is_access n it
are_parts n (parts.Target register it) = is_register n register && is_access n it

abbrev pub is_given : Counts → Given → Bool
is_given n given.Nothing = true
is_given n (given.Fixed c) = true
is_given n (given.Held register) = is_register n register

-- a register that may be left out
abbrev pub is_target : Counts → Option ℕ → Bool
is_target n None = true
is_target n (Some register) = is_register n register

abbrev pub is_node : Counts → Node → Bool
is_node n (node.Constant to c is_kept next) = is_register n to && is_point n next
is_node n (node.Address to v next) = is_register n to && is_variable n v && is_point n next
is_node n (node.Load to from ty tracks next) = is_register n to && is_register n from && is_point n next
is_node n (node.Store place value gives ty tracks next) =
    is_register n place && is_register n value && is_register n gives && is_point n next
is_node n (node.Move to pointer by next) =
    is_register n to && is_register n pointer && is_movement n by && is_point n next
is_node n (node.Subtract to left right size next) =
    is_register n to && is_register n left && is_register n right && is_point n next
is_node n (node.Apply to left right op ty next) =
    is_register n to && is_register n left && is_register n right && is_point n next
is_node n (node.Convert to from how next) = is_register n to && is_register n from && is_point n next
is_node n (node.Compare to left right op next) =
    is_register n to && is_register n left && is_register n right && is_point n next
is_node n (node.Copy place from shape tracks next) =
    is_register n place && is_register n from && nat_lt shape n.structs && is_point n next
is_node n (node.Create k is_zeroed next) = nat_lt k n.locals && is_point n next
is_node n (node.Seal v next) = is_variable n v && is_point n next
is_node n (node.End v next) = is_variable n v && is_point n next
is_node n (node.Branch test on off) = is_register n test && is_point n on && is_point n off
is_node n (node.Switch value arms table default) =
    is_register n value && list_all (λ arm. is_point n arm.next) arms && is_point n default
is_node n (node.Call function to first count next) =
    nat_lt function n.functions && is_target n to && nat_le (first + count) n.registers && is_point n next
is_node n (node.Stub stub to next) = nat_lt stub n.stubs && is_register n to && is_point n next
is_node n node.Stop = true
is_node n (node.Return value) = is_given n value
is_node n (node.Tick next) = is_point n next
is_node n (node.Mark label predicate bound next) =
    nat_lt label n.labels && is_lookable n (pure_of predicate) && list_all (λ q. is_lookable n (pure_of q)) bound
    && is_point n next
is_node n (node.Clash which next) = are_parts n which && is_point n next

abbrev pub is_code : Counts → Code → Bool
is_code n code = (is_point n code.start) && list_all (is_node n) code.nodes

abbrev pub are_in_range : List Code → List Static → List LabelInfo → (stubs : List (List ℕ)) → Bool
are_in_range codes statics labels stubs =
    list_all (λ code. is_code (counts_in (length codes) (length statics) (length labels) (length stubs) code) code)
    codes
