-- `&&` and `||`, with a sequence point between their operands.
use Rattle.std.proofs.Common.{ℕ, ◌+◌, ◌<◌}
use Rattle.lt_tree.specs.declared.expression.LogicalOp.TheVariants as logical
use Rattle.lt_tree.specs.Typing.Types.{Void}
use Rattle.lt_tree.specs.Typing.TypedTree as e
use Rattle.lt_ir.specs.declared.node.Parts.TheVariants.{Settled}
use Rattle.lt_code.specs.Code.{Site, test_code, clash, second}
use Rattle.lt_emit.proofs.UsedRegisters.{test_uses}

second_uses : (s : Site) (v : e.Value) (r from on off : ℕ) → second s r (test_code s v (r + 1)) from on off → r + 1 < s.registers
second_uses s v r from on off code = test_uses s v (r + 1) code.2.0 code.0 code.1 code.2.2

pub connected_and :
    (s : Site) (a b : e.Value) (r from on off m1 m2 : ℕ) → test_code s a r from m1 m2
    → second s r (test_code s b (r + 1)) m1 on off → clash s (Settled r) m2 off
    → test_code s (e.Logical Void logical.And a b) r from on off
connected_and s a b r from on off m1 m2 left right settled = (second_uses s b r m1 on off right, m1, m2, left, right, settled)

pub connected_or :
    (s : Site) (a b : e.Value) (r from on off m1 m2 : ℕ) → test_code s a r from m1 m2
    → second s r (test_code s b (r + 1)) m2 on off → clash s (Settled r) m1 on
    → test_code s (e.Logical Void logical.Or a b) r from on off
connected_or s a b r from on off m1 m2 left right settled = (second_uses s b r m2 on off right, m1, m2, left, settled, right)
