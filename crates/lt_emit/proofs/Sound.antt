-- Emitted nodes lead where they may, and what they name is there; so it stays, whatever is added.
use Rattle.std.proofs.Common.{◌≡◌, ℕ, ◌≤◌, true, List, [], ◌∷◌, Option, Some, None, refl, sym, ◌∙◌, ◌⊎◌, inl, inr, arith}
use Rattle.std.specs.List.{list_all}
use Rattle.std.proofs.lemmas.Bool.{ltb-true, lt-ltb}
use Rattle.lt_ir.specs.declared.variable.Variable.{Variable}
use Rattle.lt_ir.specs.declared.variable.Variable.TheVariants as variable
use Rattle.lt_ir.specs.declared.pure.Pure.{Pure as HeldPure}
use Rattle.lt_ir.specs.declared.node.Access.{Access}
use Rattle.lt_ir.specs.declared.node.Access.TheVariants as access
use Rattle.lt_ir.specs.declared.node.Movement.{Movement}
use Rattle.lt_ir.specs.declared.node.Movement.TheVariants as movement
use Rattle.lt_ir.specs.declared.node.Parts.{Parts}
use Rattle.lt_ir.specs.declared.node.Parts.TheVariants as parts
use Rattle.lt_ir.specs.declared.node.Given.{Given}
use Rattle.lt_ir.specs.declared.node.Given.TheVariants as given
use Rattle.lt_ir.specs.declared.node.Node.{Node}
use Rattle.lt_ir.specs.declared.node.Node.TheVariants as node
use Rattle.lt_ir.specs.Pure as p
use Rattle.lt_ir.specs.PureView.{pure_of}
use Rattle.lt_ir.specs.Ranges.{Counts, is_variable, is_access, is_lookable, are_lookable}
use Rattle.lt_emit.specs.Turning.{UsesBelow, movement_uses, parts_use, given_uses, target_uses, parts_name, NamesIn, LeadsBelow, IsTickWithin, IsSoundNode}

-- ---- registers

movement_more : (by : Movement) {n m : ℕ} → n ≤ m → movement_uses n by → movement_uses m by
movement_more (movement.Elements count op size) le uses = omega (arith, le, uses)
movement_more (movement.Member offset) le uses = tt

parts_more : (which : Parts) {n m : ℕ} → n ≤ m → parts_use n which → parts_use m which
parts_more (parts.Unsequenced left right) le uses = (omega (arith, le, uses.0), omega (arith, le, uses.1))
parts_more (parts.Sequenced left right) le uses = (omega (arith, le, uses.0), omega (arith, le, uses.1))
parts_more (parts.Settled register) le uses = omega (arith, le, uses)
parts_more (parts.Read register it) le uses = omega (arith, le, uses)
parts_more (parts.Target register it) le uses = omega (arith, le, uses)

given_more : (value : Given) {n m : ℕ} → n ≤ m → given_uses n value → given_uses m value
given_more given.Nothing le uses = tt
given_more (given.Fixed c) le uses = tt
given_more (given.Held register) le uses = omega (arith, le, uses)

target_more : (to : Option ℕ) {n m : ℕ} → n ≤ m → target_uses n to → target_uses m to
target_more None le uses = tt
target_more (Some register) le uses = omega (arith, le, uses)

-- there are more registers
pub uses_more : (it : Node) {n m : ℕ} → n ≤ m → UsesBelow n it → UsesBelow m it
uses_more (node.Constant to c is_kept next) le uses = omega (arith, le, uses)
uses_more (node.Address to v next) le uses = omega (arith, le, uses)
uses_more (node.Load to from ty tracks next) le uses = (omega (arith, le, uses.0), omega (arith, le, uses.1))
uses_more (node.Store place value gives ty tracks next) le uses =
    (omega (arith, le, uses.0), omega (arith, le, uses.1), omega (arith, le, uses.2))
uses_more (node.Move to pointer by next) le uses =
    (omega (arith, le, uses.0), omega (arith, le, uses.1), movement_more by le uses.2)
uses_more (node.Subtract to left right size next) le uses =
    (omega (arith, le, uses.0), omega (arith, le, uses.1), omega (arith, le, uses.2))
uses_more (node.Apply to left right op ty next) le uses =
    (omega (arith, le, uses.0), omega (arith, le, uses.1), omega (arith, le, uses.2))
uses_more (node.Convert to from how next) le uses = (omega (arith, le, uses.0), omega (arith, le, uses.1))
uses_more (node.Compare to left right op next) le uses =
    (omega (arith, le, uses.0), omega (arith, le, uses.1), omega (arith, le, uses.2))
uses_more (node.Copy place from shape tracks next) le uses = (omega (arith, le, uses.0), omega (arith, le, uses.1))
uses_more (node.Create k is_zeroed next) le uses = tt
uses_more (node.Seal v next) le uses = tt
uses_more (node.End v next) le uses = tt
uses_more (node.Branch test on off) le uses = omega (arith, le, uses)
uses_more (node.Switch value arms table default) le uses = omega (arith, le, uses)
uses_more (node.Call function to first count next) le uses = (target_more to le uses.0, omega (arith, le, uses.1))
uses_more (node.Stub stub to next) le uses = omega (arith, le, uses)
uses_more node.Stop le uses = tt
uses_more (node.Return value) le uses = given_more value le uses
uses_more (node.Tick next) le uses = tt
uses_more (node.Mark label predicate bound next) le uses = tt
uses_more (node.Clash which next) le uses = parts_more which le uses

-- ---- names

-- the same is there, or more shapes
pub record AreMore (n m : Counts) : Type 0 where
  pub nodes : n.nodes ≤ m.nodes
  pub registers : n.registers ≤ m.registers
  pub params : n.params ≡ m.params
  pub locals : n.locals ≡ m.locals
  pub structs : n.structs ≤ m.structs
  pub statics : n.statics ≡ m.statics
  pub labels : n.labels ≡ m.labels
  pub stubs : n.stubs ≡ m.stubs
  pub functions : n.functions ≡ m.functions

module _ (n m : Counts) (are : AreMore n m) where
  variable_same : (v : Variable) → is_variable n v ≡ is_variable m v
  variable_same (variable.Parameter k) = let e = are.params in cc
  variable_same (variable.Local k) = let e = are.locals in cc
  variable_same (variable.Static k) = let e = are.statics in cc

  mutual
    lookable_same : (q : p.Pure) → is_lookable n q ≡ is_lookable m q
    lookable_same p.Never = refl
    lookable_same (p.Fixed c) = refl
    lookable_same (p.Place v) = variable_same v
    lookable_same (p.Load ty a) = lookable_same a
    lookable_same (p.Convert how a) = lookable_same a
    lookable_same (p.Apply op s a b) = let e = lookable_same a in let f = lookable_same b in cc
    lookable_same (p.Move op size a b) = let e = lookable_same a in let f = lookable_same b in cc
    lookable_same (p.Member offset a) = lookable_same a
    lookable_same (p.Distance size a b) = let e = lookable_same a in let f = lookable_same b in cc
    lookable_same (p.Compare op a b) = let e = lookable_same a in let f = lookable_same b in cc
    lookable_same (p.Choose a b c) =
        let e = lookable_same a in let f = lookable_same b in let g = lookable_same c in cc
    lookable_same (p.Comma ps) = all_lookable_same ps

    all_lookable_same : (qs : p.Pures) → are_lookable n qs ≡ are_lookable m qs
    all_lookable_same p.no_pures = refl
    all_lookable_same (p.a_pure a ps) = let e = lookable_same a in let f = all_lookable_same ps in cc

  bound_same : (qs : List HeldPure) → list_all (λ q. is_lookable n (pure_of q)) qs ≡ list_all (λ q. is_lookable m (pure_of q)) qs
  bound_same [] = refl
  bound_same (q ∷ qs) = let e = lookable_same (pure_of q) in let f = bound_same qs in cc

  pub access_more : (it : Access) → is_access n it ≡ true → is_access m it ≡ true
  access_more (access.Scalar ty) is = refl
  access_more (access.Struct k) is = lt-ltb k m.structs (omega (arith, ltb-true k n.structs is, are.structs))

  named_more : (which : Parts) → parts_name n which → parts_name m which
  named_more (parts.Unsequenced left right) named = tt
  named_more (parts.Sequenced left right) named = tt
  named_more (parts.Settled register) named = tt
  named_more (parts.Read register it) named = access_more it named
  named_more (parts.Target register it) named = access_more it named

  pub names_more : (it : Node) → NamesIn n it → NamesIn m it
  names_more (node.Constant to c is_kept next) named = tt
  names_more (node.Address to v next) named = sym (variable_same v) ∙ named
  names_more (node.Load to from ty tracks next) named = tt
  names_more (node.Store place value gives ty tracks next) named = tt
  names_more (node.Move to pointer by next) named = tt
  names_more (node.Subtract to left right size next) named = tt
  names_more (node.Apply to left right op ty next) named = tt
  names_more (node.Convert to from how next) named = tt
  names_more (node.Compare to left right op next) named = tt
  names_more (node.Copy place from shape tracks next) named = omega (arith, named, are.structs)
  names_more (node.Create k is_zeroed next) named = omega (arith, named, are.locals)
  names_more (node.Seal v next) named = sym (variable_same v) ∙ named
  names_more (node.End v next) named = sym (variable_same v) ∙ named
  names_more (node.Branch test on off) named = tt
  names_more (node.Switch value arms table default) named = named
  names_more (node.Call function to first count next) named = omega (arith, named, are.functions)
  names_more (node.Stub stub to next) named = omega (arith, named, are.stubs)
  names_more node.Stop named = tt
  names_more (node.Return value) named = tt
  names_more (node.Tick next) named = tt
  names_more (node.Mark label predicate bound next) named = (
    omega (arith, named.0, are.labels),
    sym (lookable_same (pure_of predicate)) ∙ named.1,
    sym (bound_same bound) ∙ named.2,
  )
  names_more (node.Clash which next) named = named_more which named

  leads_more : (e : ℕ) (it : Node) → LeadsBelow e it ⊎ IsTickWithin n.nodes it → LeadsBelow e it ⊎ IsTickWithin m.nodes it
  leads_more e it (inl below) = inl below
  leads_more e it (inr tick) = inr (tick.0, tick.1, omega (arith, tick.2, are.nodes))

  -- a node stays sound
  pub sound_more : (e : ℕ) (it : Node) → IsSoundNode n e it → IsSoundNode m e it
  sound_more e it is = record {
    leads = leads_more e it is.leads;
    uses = uses_more it are.registers is.uses;
    names = names_more it is.names;
  }
