-- Kinds of nodes, by what a machine asks of its parts.
use Rattle.lt_ir.specs.declared.node.Node.{Node}
use Rattle.lt_ir.specs.declared.node.Node.TheVariants as node

pub data Kind : Type 0 where
  -- a value is computed from registers
  Computes : Kind
  -- memory or footprints are looked at or changed
  Accesses : Kind
  -- a variable is placed, begins or ends
  Places : Kind
  -- the run goes one way or another
  Leads : Kind
  -- a mark is made
  Marks : Kind

abbrev pub kind_of : Node → Kind
kind_of (node.Constant to c is_kept next) = Computes
kind_of (node.Move to pointer by next) = Computes
kind_of (node.Subtract to left right size next) = Computes
kind_of (node.Apply to left right op ty next) = Computes
kind_of (node.Convert to from how next) = Computes
kind_of (node.Compare to left right op next) = Computes
kind_of (node.Load to from ty tracks next) = Accesses
kind_of (node.Store place value gives ty tracks next) = Accesses
kind_of (node.Copy place from shape tracks next) = Accesses
kind_of (node.Clash parts next) = Accesses
kind_of (node.Address to v next) = Places
kind_of (node.Create k is_zeroed next) = Places
kind_of (node.Seal v next) = Places
kind_of (node.End v next) = Places
kind_of (node.Mark label predicate bound next) = Marks
kind_of n = Leads
