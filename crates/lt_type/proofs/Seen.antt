-- Expressions that hold lists, as they lie in memory.
use Rattle.std.proofs.Common.{◌≡◌, List, sym, ap, ◌∙◌}
use Rattle.std.specs.Global.{Box, Vec}
use Rattle.lt_tree.specs.declared.expression.Expr.{Expr}
use Rattle.lt_tree.specs.declared.expression.Expr.TheVariants as variant
use Rattle.lt_tree.specs.declared.mark.Mark.{Mark}
use Rattle.lt_tree.specs.Tree as c
use Rattle.lt_tree.specs.View.{expression_of}
use Rattle.lt_tree.specs.Records.{expressions_in, marks_in}
use Rattle.lt_tree.proofs.Rows.{call_is, comma_is, marked_is}

pub call_seen : (e : Expr) (b : Box Expr) (v : Vec Expr) (callee : Expr) (list : List Expr) → e ≡ variant.Call b v → callee ≡ b.value → list ≡ v.items
    → c.Call (expression_of callee) (expressions_in list) ≡ expression_of e
call_seen e b v callee list is one all = ap (λ x. c.Call (expression_of x) (expressions_in list)) one ∙ ap (λ xs. c.Call (expression_of b.value) (expressions_in xs)) all ∙ sym (call_is b v) ∙ sym (ap expression_of is)

pub comma_seen : (e : Expr) (v : Vec Expr) (list : List Expr) → e ≡ variant.Comma v → list ≡ v.items → c.Comma (expressions_in list) ≡ expression_of e
comma_seen e v list is all = ap (λ xs. c.Comma (expressions_in xs)) all ∙ sym (comma_is v) ∙ sym (ap expression_of is)

pub marked_seen : (e : Expr) (v : Vec Mark) (b : Box Expr) (list : List Mark) (value : Expr) → e ≡ variant.Marked v b → list ≡ v.items → value ≡ b.value
    → c.Marked (marks_in list) (expression_of value) ≡ expression_of e
marked_seen e v b list value is all one = ap (λ xs. c.Marked (marks_in xs) (expression_of value)) all ∙ ap (λ x. c.Marked (marks_in v.items) (expression_of x)) one ∙ sym (marked_is v b) ∙ sym (ap expression_of is)
