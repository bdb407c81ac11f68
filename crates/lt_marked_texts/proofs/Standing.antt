-- The words of good expressions derive them, and are spelt well.
use Rattle.lt_tree.specs.Tree as c
use Rattle.lt_tree.specs.Scope.{Scope}
use Rattle.lt_tree.specs.Operators.{arithmetic, connective}
use Rattle.lt_print.proofs.Spelt.{Spelt, SpeltAll, SpeltMarks, SpeltMark, SpeltBindings}
use Rattle.lt_print.proofs.Claims.{AllStand, Again, BoundStand, MarkAgain, MarksAgain}
use Rattle.lt_print.proofs.ExpressionsAgain as e
use Rattle.lt_print.proofs.MarksAgain as m
use Rattle.lt_marked_texts.proofs.Good.{AreSome, Good, GoodAll, GoodMarks, GoodMark, GoodBindings}

module _ (scope : Scope) where
  mutual
    pub stands : (it : c.Expression) → Good scope it → Again scope it
    stands (c.Name w) good = e.name_again good.0
    stands (c.Constant w) good = e.constant_again
    stands (c.Text bytes) good = e.text_again
    stands (c.Index whole place) good = e.index_again (stands whole good.0) (stands place good.1)
    stands (c.Call callee arguments) good = e.call_again (stands callee good.0) (all_stand arguments good.1)
    stands (c.Member it w) good = e.member_again (stands it good.0)
    stands (c.Arrow it w) good = e.arrow_again (stands it good.0)
    stands (c.PostInc it) good = e.increment_behind_again (stands it good)
    stands (c.PostDec it) good = e.decrement_behind_again (stands it good)
    stands (c.PreInc it) good = e.increment_again (stands it good)
    stands (c.PreDec it) good = e.decrement_again (stands it good)
    stands (c.Unary op it) good = e.prefixed_again (stands it good)
    stands (c.SizeofExpr it) good = e.sizeof_again (stands it good.0)
    stands (c.SizeofType s d) good = e.sizeof_type_again good.again
    stands (c.Cast s d it) good = e.cast_again good.0.again (stands it good.1)
    stands (c.Binary op left right) good = e.operation_again (arithmetic op) (stands left good.0) (stands right good.1)
    stands (c.Logical op left right) good = e.operation_again (connective op) (stands left good.0) (stands right good.1)
    stands (c.Conditional test left right) good = e.choice_again (stands test good.0) (stands left good.1) (stands right good.2)
    stands (c.Assign op target value) good = e.assigns_again good.0.sign good.0.is (stands target good.1) (stands value good.2)
    stands (c.Comma c.no_expressions) good = absurd good.0
    stands (c.Comma (c.an_expression first c.no_expressions)) good = absurd good.0
    stands (c.Comma (c.an_expression first (c.an_expression second rest))) good =
        e.sequence_again (stands first good.1.0) good.0 tt ((stands second good.1.1.0).stands, all_stand rest good.1.1.1)
    stands (c.Marked marks it) good = e.marked_again (marks_stand marks good.0 good.1) (stands it good.2)
    stands (c.Decide it when_true when_false tag) good = e.decide_again (stands it good.0)
    stands (c.After it id tag) good = e.after_again (stands it good.0)

    all_stand : (them : c.Expressions) → GoodAll scope them → AllStand scope them
    all_stand c.no_expressions good = tt
    all_stand (c.an_expression first rest) good = ((stands first good.0).stands, all_stand rest good.1)

    marks_stand : (them : c.Marks) → AreSome them → GoodMarks scope them → MarksAgain scope them
    marks_stand c.no_marks some good = absurd some
    marks_stand (c.a_mark first c.no_marks) some good = m.last_mark_again (mark_stands first good.0)
    marks_stand (c.a_mark first (c.a_mark second rest)) some good = m.more_marks_again (mark_stands first good.0) (marks_stand (c.a_mark second rest) tt good.1)

    pub mark_stands : (it : c.Mark) → GoodMark scope it → MarkAgain scope it
    mark_stands (c.mark predicate id tag c.no_bindings) good = m.label_again (stands predicate good.0)
    mark_stands (c.mark predicate id tag (c.a_binding w it bound)) good =
        m.binding_label_again (stands predicate good.0) tt ((stands it good.3.1).stands, bound_stand bound good.3.2)

    bound_stand : (them : c.Bindings) → GoodBindings scope them → BoundStand scope them
    bound_stand c.no_bindings good = tt
    bound_stand (c.a_binding w it bound) good = ((stands it good.1).stands, bound_stand bound good.2)

  mutual
    pub spelt : (it : c.Expression) → Good scope it → Spelt it
    spelt (c.Name w) good = good.1
    spelt (c.Constant w) good = good
    spelt (c.Text bytes) good = good
    spelt (c.Index whole place) good = (spelt whole good.0, spelt place good.1)
    spelt (c.Call callee arguments) good = (spelt callee good.0, all_spelt arguments good.1)
    spelt (c.Member it w) good = (spelt it good.0, good.1)
    spelt (c.Arrow it w) good = (spelt it good.0, good.1)
    spelt (c.PostInc it) good = spelt it good
    spelt (c.PostDec it) good = spelt it good
    spelt (c.PreInc it) good = spelt it good
    spelt (c.PreDec it) good = spelt it good
    spelt (c.Unary op it) good = spelt it good
    spelt (c.SizeofExpr it) good = spelt it good.0
    spelt (c.SizeofType s d) good = (good.words, good.parts)
    spelt (c.Cast s d it) good = (good.0.words, good.0.parts, spelt it good.1)
    spelt (c.Binary op left right) good = (spelt left good.0, spelt right good.1)
    spelt (c.Logical op left right) good = (spelt left good.0, spelt right good.1)
    spelt (c.Conditional test left right) good = (spelt test good.0, spelt left good.1, spelt right good.2)
    spelt (c.Assign op target value) good = (good.0.written, spelt target good.1, spelt value good.2)
    spelt (c.Comma parts) good = all_spelt parts good.1
    spelt (c.Marked marks it) good = (marks_spelt marks good.1, spelt it good.2)
    spelt (c.Decide it when_true when_false tag) good = (spelt it good.0, good.1, good.2, good.3)
    spelt (c.After it id tag) good = (spelt it good.0, good.1, good.2)

    all_spelt : (them : c.Expressions) → GoodAll scope them → SpeltAll them
    all_spelt c.no_expressions good = tt
    all_spelt (c.an_expression first rest) good = (spelt first good.0, all_spelt rest good.1)

    marks_spelt : (them : c.Marks) → GoodMarks scope them → SpeltMarks them
    marks_spelt c.no_marks good = tt
    marks_spelt (c.a_mark first rest) good = (mark_spelt first good.0, marks_spelt rest good.1)

    pub mark_spelt : (it : c.Mark) → GoodMark scope it → SpeltMark it
    mark_spelt (c.mark predicate id tag bound) good = (spelt predicate good.0, good.1, good.2, bound_spelt bound good.3)

    bound_spelt : (them : c.Bindings) → GoodBindings scope them → SpeltBindings them
    bound_spelt c.no_bindings good = tt
    bound_spelt (c.a_binding w it bound) good = (good.0, spelt it good.1, bound_spelt bound good.2)
