-- Single steps of reading expressions.
use Rattle.std.proofs.Common.{◌≡◌, ℕ, zero, suc, ◌+◌, ◌<◌, ◌≤◌, Bool, true, false, List, ◌∷◌, Option, Some, None, refl, arith}
use Rattle.lt_model.specs.declared.operator.Op.{Op}
use Rattle.lt_tree.specs.declared.expression.UnaryOp.{UnaryOp}
use Rattle.lt_tree.specs.declared.terminal.Terminal.{Terminal}
use Rattle.lt_tree.specs.declared.terminal.Terminal.TheVariants as t
use Rattle.lt_tree.specs.Tree as c
use Rattle.lt_tree.specs.Comma.{comma_of}
use Rattle.lt_tree.specs.Symbols.{Symbol, name, constant, literal, sign, start_of}
use Rattle.lt_tree.specs.Scope.{Scope, is_type}
use Rattle.lt_tree.specs.Operators.{Infix, operation, infix_of, prefix_of, assignment_of}
use Rattle.lt_tree.specs.Ahead.{same_terminal, terminal_at, begins_specifier}
use Rattle.lt_expr.specs.Literals.{value_of, text_of}
use Rattle.lt_expr.specs.Front.{name_at, id_at, tag_at, leaf, begins_mark, begins_cast, assignment_behind, operator_at, reopened}
use Rattle.lt_expr.specs.Reading as r
use Rattle.lt_expr.specs.Reading.{Labelled}
use Rattle.lt_expr.proofs.CompleteFronts.{follows, not_seen, at_front, tight_some, tight_none, IsPrefix}
use Rattle.lt_expr.proofs.CompleteStarts.{IsPlain}
use Rattle.lt_expr.proofs.CompleteForms.{tails}

-- ---- primary expressions

pub primary_name : (n : ℕ) (scope : Scope) (w : List ℕ) (at : ℕ) (rest : List Symbol) (ends : List ℕ) → is_type scope w ≡ false
    → r.primary (suc n) scope (name w at ∷ rest, ends) ≡ Some (c.Name w, (rest, at ∷ ends))
unfolding r.expression same_terminal leaf
primary_name n scope w at rest ends e = rw e refl

pub primary_constant : (n : ℕ) (scope : Scope) (w : List ℕ) (at : ℕ) (rest : List Symbol) (ends : List ℕ)
    → r.primary (suc n) scope (constant w at ∷ rest, ends) ≡ Some (c.Constant w, (rest, at ∷ ends))
unfolding r.expression same_terminal leaf
primary_constant n scope w at rest ends = refl

pub primary_text : (n : ℕ) (scope : Scope) (w : List ℕ) (at : ℕ) (ts rest : List Symbol) (bytes ends : List ℕ) → text_of (literal w at ∷ ts) ≡ Some (bytes, rest)
    → r.primary (suc n) scope (literal w at ∷ ts, ends) ≡ Some (c.Text bytes, (rest, at ∷ ends))
unfolding r.expression same_terminal leaf
primary_text n scope w at ts rest bytes ends e = rw e refl

pub primary_inner : (n : ℕ) (scope : Scope) (a b : ℕ) (ts rest : List Symbol) (e : c.Expression) (ends now : List ℕ)
    → r.expression n scope (ts, ends) ≡ Some (e, (sign t.CloseParen b ∷ rest, now))
    → r.primary (suc n) scope (sign t.OpenParen a ∷ ts, ends) ≡ Some (e, (rest, now))
unfolding r.expression same_terminal
primary_inner n scope a b ts rest e ends now inner = rw inner refl

id_read : (b at : ℕ) (id : List ℕ) (us : List Symbol) (ends : List ℕ) → id_at (sign t.Comma b ∷ constant id at ∷ us, ends) ≡ Some (id, (us, ends))
unfolding id_at same_terminal
id_read b at id us ends = refl

tag_read : (b at : ℕ) (raw tag : List ℕ) (us : List Symbol) (ends : List ℕ) → value_of raw ≡ Some tag → tag_at (sign t.Comma b ∷ literal raw at ∷ us, ends) ≡ Some (tag, (us, ends))
unfolding tag_at same_terminal
tag_read b at raw tag us ends e = rw e refl

pub primary_decide : (n : ℕ) (scope : Scope) (at a b c' d f g h i : ℕ) (ts rest : List Symbol) (e : c.Expression) (yes_id no_id raw tag ends now : List ℕ)
    → r.assignment n scope (ts, ends) ≡ Some (e, (sign t.Comma b ∷ constant yes_id c' ∷ sign t.Comma d ∷ constant no_id f ∷ sign t.Comma g ∷ literal raw h ∷ sign t.CloseParen i ∷ rest, now))
    → value_of raw ≡ Some tag
    → r.primary (suc (suc n)) scope (sign t.Decide at ∷ sign t.OpenParen a ∷ ts, ends) ≡ Some (c.Decide e yes_id no_id tag, (rest, at ∷ now))
unfolding r.expression same_terminal
primary_decide n scope at a b c' d f g h i ts rest e yes_id no_id raw tag ends now inner value =
    rw (inner, id_read b c' yes_id _ now, id_read d f no_id _ now, tag_read g h raw tag (sign t.CloseParen i ∷ rest) now value) refl

pub labelled_reads : (n : ℕ) (scope : Scope) (a b c' d f : ℕ) (ts us : List Symbol) (e : c.Expression) (id raw tag ends now : List ℕ)
    → r.assignment n scope (ts, ends) ≡ Some (e, (sign t.Comma b ∷ constant id c' ∷ sign t.Comma d ∷ literal raw f ∷ us, now))
    → value_of raw ≡ Some tag
    → r.labelled (suc n) scope (sign t.OpenParen a ∷ ts, ends) ≡ Some (record { predicate = e; id = id; tag = tag }, (us, now))
unfolding r.expression same_terminal
labelled_reads n scope a b c' d f ts us e id raw tag ends now inner value = rw (inner, id_read b c' id _ now, tag_read d f raw tag us now value) refl

pub primary_after : (n : ℕ) (scope : Scope) (at a g : ℕ) (ts rest : List Symbol) (e : c.Expression) (id tag ends now : List ℕ)
    → r.labelled n scope (sign t.OpenParen a ∷ ts, ends) ≡ Some (record { predicate = e; id = id; tag = tag }, (sign t.CloseParen g ∷ rest, now))
    → r.primary (suc (suc n)) scope (sign t.After at ∷ sign t.OpenParen a ∷ ts, ends) ≡ Some (c.After e id tag, (rest, at ∷ now))
unfolding r.expression same_terminal
primary_after n scope at a g ts rest e id tag ends now inner = rw inner refl

-- ---- suffixes

pub postfix_stops : (n : ℕ) (scope : Scope) (start : ℕ) (e : c.Expression) (rest : List Symbol) (ends : List ℕ) → 1 ≤ n → follows rest ≤ 13
    → r.postfix n scope start e (rest, ends) ≡ Some (e, (rest, ends))
unfolding r.expression
postfix_stops zero scope start e rest ends some quiet = absurd (omega arith)
postfix_stops (suc n) scope start e rest ends some quiet =
    rw (
      not_seen t.OpenIndex rest (omega arith) (λ k. omega arith),
      not_seen t.OpenParen rest (omega arith) (λ k. omega arith),
      not_seen t.Dot rest (omega arith) (λ k. omega arith),
      not_seen t.Arrow rest (omega arith) (λ k. omega arith),
      not_seen t.Increment rest (omega arith) (λ k. omega arith),
      not_seen t.Decrement rest (omega arith) (λ k. omega arith),
    ) refl

pub postfix_index : (n : ℕ) (scope : Scope) (start a b : ℕ) (whole place : c.Expression) (us rest : List Symbol) (ends now : List ℕ)
    → r.expression n scope (us, ends) ≡ Some (place, (sign t.CloseIndex b ∷ rest, now))
    → r.postfix (suc (suc n)) scope start whole (sign t.OpenIndex a ∷ us, ends) ≡ r.postfix (suc n) scope start (c.Index whole place) (rest, start ∷ now)
unfolding r.expression same_terminal
postfix_index n scope start a b whole place us rest ends now inner = rw inner refl

pub postfix_call : (n : ℕ) (scope : Scope) (start a b : ℕ) (callee : c.Expression) (arguments : c.Expressions) (us rest : List Symbol) (ends now : List ℕ)
    → r.arguments_by (r.arguments n scope) (us, ends) ≡ Some (arguments, (sign t.CloseParen b ∷ rest, now))
    → r.postfix (suc (suc n)) scope start callee (sign t.OpenParen a ∷ us, ends) ≡ r.postfix (suc n) scope start (c.Call callee arguments) (rest, start ∷ now)
unfolding r.expression same_terminal
postfix_call n scope start a b callee arguments us rest ends now inner = rw inner refl

pub postfix_member : (n : ℕ) (scope : Scope) (start a b : ℕ) (e : c.Expression) (w : List ℕ) (rest : List Symbol) (ends : List ℕ)
    → r.postfix (suc (suc n)) scope start e (sign t.Dot a ∷ name w b ∷ rest, ends) ≡ r.postfix (suc n) scope start (c.Member e w) (rest, start ∷ ends)
unfolding r.expression same_terminal name_at
postfix_member n scope start a b e w rest ends = refl

pub postfix_arrow : (n : ℕ) (scope : Scope) (start a b : ℕ) (e : c.Expression) (w : List ℕ) (rest : List Symbol) (ends : List ℕ)
    → r.postfix (suc (suc n)) scope start e (sign t.Arrow a ∷ name w b ∷ rest, ends) ≡ r.postfix (suc n) scope start (c.Arrow e w) (rest, start ∷ ends)
unfolding r.expression same_terminal name_at
postfix_arrow n scope start a b e w rest ends = refl

pub postfix_increment : (n : ℕ) (scope : Scope) (start a : ℕ) (e : c.Expression) (rest : List Symbol) (ends : List ℕ)
    → r.postfix (suc (suc n)) scope start e (sign t.Increment a ∷ rest, ends) ≡ r.postfix (suc n) scope start (c.PostInc e) (rest, start ∷ ends)
unfolding r.expression same_terminal
postfix_increment n scope start a e rest ends = refl

pub postfix_decrement : (n : ℕ) (scope : Scope) (start a : ℕ) (e : c.Expression) (rest : List Symbol) (ends : List ℕ)
    → r.postfix (suc (suc n)) scope start e (sign t.Decrement a ∷ rest, ends) ≡ r.postfix (suc n) scope start (c.PostDec e) (rest, start ∷ ends)
unfolding r.expression same_terminal
postfix_decrement n scope start a e rest ends = refl

-- ---- arguments

pub no_arguments : (n : ℕ) (scope : Scope) (b : ℕ) (rest : List Symbol) (ends : List ℕ)
    → r.arguments_by (r.arguments n scope) (sign t.CloseParen b ∷ rest, ends) ≡ Some (c.no_expressions, (sign t.CloseParen b ∷ rest, ends))
unfolding same_terminal
no_arguments n scope b rest ends = refl

pub last_argument : (n : ℕ) (scope : Scope) (ts rest : List Symbol) (e : c.Expression) (ends now : List ℕ) → follows rest ≡ 0
    → r.assignment n scope (ts, ends) ≡ Some (e, (rest, now)) → r.arguments (suc n) scope (ts, ends) ≡ Some (c.an_expression e c.no_expressions, (rest, now))
unfolding r.expression
last_argument n scope ts rest e ends now quiet first = rw (first, not_seen t.Comma rest (omega arith) (λ k. omega arith)) refl

pub more_arguments : (n : ℕ) (scope : Scope) (a : ℕ) (ts us rest : List Symbol) (e : c.Expression) (es : c.Expressions) (ends middle now : List ℕ)
    → r.assignment n scope (ts, ends) ≡ Some (e, (sign t.Comma a ∷ us, middle)) → r.arguments n scope (us, middle) ≡ Some (es, (rest, now))
    → r.arguments (suc n) scope (ts, ends) ≡ Some (c.an_expression e es, (rest, now))
unfolding r.expression same_terminal
more_arguments n scope a ts us rest e es ends middle now first others = rw (first, others) refl

-- ---- prefixes

pub unary_plain : (n : ℕ) (scope : Scope) (ts : List Symbol) (ends : List ℕ) → IsPlain scope ts → r.unary (suc n) scope (ts, ends) ≡ tails n scope (ts, ends)
unfolding r.expression
unary_plain n scope ts ends p = rw (p.no_increment, p.no_decrement, p.no_sizeof, p.no_prefix) refl

pub unary_increment : (n : ℕ) (scope : Scope) (at : ℕ) (ts rest : List Symbol) (e : c.Expression) (ends now : List ℕ) → r.unary n scope (ts, ends) ≡ Some (e, (rest, now))
    → r.unary (suc n) scope (sign t.Increment at ∷ ts, ends) ≡ Some (c.PreInc e, (rest, at ∷ now))
unfolding r.expression same_terminal
unary_increment n scope at ts rest e ends now inner = rw inner refl

pub unary_decrement : (n : ℕ) (scope : Scope) (at : ℕ) (ts rest : List Symbol) (e : c.Expression) (ends now : List ℕ) → r.unary n scope (ts, ends) ≡ Some (e, (rest, now))
    → r.unary (suc n) scope (sign t.Decrement at ∷ ts, ends) ≡ Some (c.PreDec e, (rest, at ∷ now))
unfolding r.expression same_terminal
unary_decrement n scope at ts rest e ends now inner = rw inner refl

pub unary_prefixed : (n : ℕ) (scope : Scope) (k : Terminal) (op : UnaryOp) (at : ℕ) (ts rest : List Symbol) (e : c.Expression) (ends now : List ℕ) → IsPrefix k → prefix_of k ≡ Some op
    → r.operand n scope (ts, ends) ≡ Some (e, (rest, now))
    → r.unary (suc n) scope (sign k at ∷ ts, ends) ≡ Some (c.Unary op e, (rest, at ∷ now))
unfolding r.expression
unary_prefixed n scope k op at ts rest e ends now p is inner = rw (p.no_increment, p.no_decrement, p.no_sizeof, is, inner) refl

pub unary_size : (n : ℕ) (scope : Scope) (at : ℕ) (ts rest : List Symbol) (e : c.Expression) (ends now : List ℕ) → begins_cast scope ts ≡ false
    → r.unary n scope (ts, ends) ≡ Some (e, (rest, now))
    → r.unary (suc (suc n)) scope (sign t.Sizeof at ∷ ts, ends) ≡ Some (c.SizeofExpr e, (rest, at ∷ now))
unfolding r.expression same_terminal
unary_size n scope at ts rest e ends now front inner = rw (front, inner) refl

pub unary_size_of_type : (n : ℕ) (scope : Scope) (at a b : ℕ) (ts rest : List Symbol) (ss : c.Specifiers) (d : c.Declarator) (ends now : List ℕ) → begins_specifier scope false ts ≡ true
    → r.type_name n scope (ts, ends) ≡ Some ((ss, d), (sign t.CloseParen b ∷ rest, now))
    → r.unary (suc (suc n)) scope (sign t.Sizeof at ∷ sign t.OpenParen a ∷ ts, ends) ≡ Some (c.SizeofType ss d, (rest, at ∷ now))
unfolding r.expression same_terminal
unary_size_of_type n scope at a b ts rest ss d ends now front inner = rw (front, inner) refl

pub operand_unary : (n : ℕ) (scope : Scope) (ts : List Symbol) (ends : List ℕ) → begins_cast scope ts ≡ false → r.operand (suc n) scope (ts, ends) ≡ r.unary n scope (ts, ends)
unfolding r.expression
operand_unary n scope ts ends front = rw front refl

pub operand_cast : (n : ℕ) (scope : Scope) (at b : ℕ) (ts us rest : List Symbol) (ss : c.Specifiers) (d : c.Declarator) (e : c.Expression) (ends middle now : List ℕ) → begins_specifier scope false ts ≡ true
    → r.type_name n scope (ts, ends) ≡ Some ((ss, d), (sign t.CloseParen b ∷ us, middle)) → r.operand n scope (us, middle) ≡ Some (e, (rest, now))
    → r.operand (suc n) scope (sign t.OpenParen at ∷ ts, ends) ≡ Some (c.Cast ss d e, (rest, at ∷ now))
unfolding r.expression same_terminal
operand_cast n scope at b ts us rest ss d e ends middle now front type inner = rw (front, type, inner) refl

-- ---- infix operators

pub climb_stops : (n : ℕ) (scope : Scope) (start least : ℕ) (e : c.Expression) (rest : List Symbol) (ends : List ℕ) → 1 ≤ n → follows rest ≤ 13 → follows rest < 4 + least
    → r.climb n scope start least e (rest, ends) ≡ Some (e, (rest, ends))
unfolding r.expression operator_at
climb_stops zero scope start least e rest ends some small below = absurd (omega arith)
climb_stops (suc n) scope start least e rest ends some small below =
    let w = at_front rest (omega arith) in rw (tight_none least (terminal_at rest) (omega arith) (omega arith)) refl

pub climb_goes : (n : ℕ) (scope : Scope) (start least : ℕ) (left x y : c.Expression) (k : Terminal) (at : ℕ) (o : Infix × ℕ) (us after rest : List Symbol) (ends middle now : List ℕ)
    → infix_of k ≡ Some o → least ≤ o.1 → r.operand n scope (us, ends) ≡ Some (x, (after, middle)) → r.climb n scope (start_of us) (o.1 + 1) x (after, middle) ≡ Some (y, (rest, now))
    → r.climb (suc n) scope start least left (sign k at ∷ us, ends) ≡ r.climb n scope start least (operation o.0 left y) (rest, start ∷ now)
unfolding r.expression operator_at
climb_goes n scope start least left x y k at o us after rest ends middle now i le first right = rw (tight_some least o (infix_of k) i le, first, right) refl

pub choice_stops : (n : ℕ) (scope : Scope) (start : ℕ) (first e : c.Expression) (after rest : List Symbol) (ends now : List ℕ) → follows rest ≤ 2
    → r.climb n scope start 0 first (after, ends) ≡ Some (e, (rest, now)) → r.choice (suc n) scope start first (after, ends) ≡ Some (e, (rest, now))
unfolding r.expression
choice_stops n scope start first e after rest ends now quiet is = rw (is, not_seen t.Question rest (omega arith) (λ k. omega arith)) refl

pub choice_goes : (n : ℕ) (scope : Scope) (start a b : ℕ) (first test left right : c.Expression) (after us vs rest : List Symbol) (ends m1 m2 now : List ℕ)
    → r.climb n scope start 0 first (after, ends) ≡ Some (test, (sign t.Question a ∷ us, m1))
    → r.expression n scope (us, m1) ≡ Some (left, (sign t.Colon b ∷ vs, m2)) → r.conditional n scope (vs, m2) ≡ Some (right, (rest, now))
    → r.choice (suc n) scope start first (after, ends) ≡ Some (c.Conditional test left right, (rest, start ∷ now))
unfolding r.expression same_terminal
choice_goes n scope start a b first test left right after us vs rest ends m1 m2 now is left_is right_is = rw (is, left_is, right_is) refl

pub then_choice : (n : ℕ) (scope : Scope) (ts after : List Symbol) (first : c.Expression) (ends middle : List ℕ) → r.operand n scope (ts, ends) ≡ Some (first, (after, middle))
    → r.conditional (suc n) scope (ts, ends) ≡ r.choice n scope (start_of ts) first (after, middle)
unfolding r.expression
then_choice n scope ts after first ends middle is = rw is refl

-- ---- assignments

pub no_assignment_behind : (cast : Bool) (ts : List Symbol) → assignment_of (terminal_at ts) ≡ None → assignment_behind cast ts ≡ None
no_assignment_behind true ts e = refl
no_assignment_behind false ts e = e

pub assignment_plain : (n : ℕ) (scope : Scope) (ts after : List Symbol) (first : c.Expression) (ends middle : List ℕ) → assignment_of (terminal_at after) ≡ None
    → r.operand n scope (ts, ends) ≡ Some (first, (after, middle))
    → r.assignment (suc n) scope (ts, ends) ≡ r.choice n scope (start_of ts) first (after, middle)
unfolding r.expression
assignment_plain n scope ts after first ends middle none is = rw (is, no_assignment_behind (begins_cast scope ts) after none) refl

pub assignment_goes : (n : ℕ) (scope : Scope) (k : Terminal) (at : ℕ) (op : Option Op) (ts us rest : List Symbol) (target value : c.Expression) (ends middle now : List ℕ)
    → begins_cast scope ts ≡ false → assignment_of k ≡ Some op
    → r.operand n scope (ts, ends) ≡ Some (target, (sign k at ∷ us, middle)) → r.assignment n scope (us, middle) ≡ Some (value, (rest, now))
    → r.assignment (suc n) scope (ts, ends) ≡ Some (c.Assign op target value, (rest, start_of ts ∷ now))
unfolding r.expression
assignment_goes n scope k at op ts us rest target value ends middle now front i is right = rw (is, front, i, right) refl

-- ---- marks and commas

pub marked_plain : (n : ℕ) (scope : Scope) (ts : List Symbol) (ends : List ℕ) → begins_mark ts ≡ false → r.marked (suc n) scope (ts, ends) ≡ r.assignment n scope (ts, ends)
unfolding r.expression
marked_plain n scope ts ends front = rw front refl

pub marked_goes : (n : ℕ) (scope : Scope) (ts us rest : List Symbol) (marks : c.Marks) (e : c.Expression) (ends middle now : List ℕ) → begins_mark ts ≡ true
    → r.marks n scope (ts, ends) ≡ Some (marks, (us, middle)) → r.assignment n scope (us, middle) ≡ Some (e, (rest, now))
    → r.marked (suc n) scope (ts, ends) ≡ Some (c.Marked marks e, (rest, start_of ts ∷ now))
unfolding r.expression
marked_goes n scope ts us rest marks e ends middle now front first inner = rw (front, first, inner) refl

pub expression_plain : (n : ℕ) (scope : Scope) (ts rest : List Symbol) (e : c.Expression) (ends now : List ℕ) → follows rest ≡ 0
    → r.marked n scope (ts, ends) ≡ Some (e, (rest, now)) → r.expression (suc n) scope (ts, ends) ≡ Some (e, (rest, now))
unfolding r.expression
expression_plain n scope ts rest e ends now quiet is = rw (is, not_seen t.Comma rest (omega arith) (λ k. omega arith)) refl

pub expression_goes : (n : ℕ) (scope : Scope) (a : ℕ) (ts us rest : List Symbol) (first e : c.Expression) (parts : c.Expressions) (ends middle before now : List ℕ)
    → r.marked n scope (ts, ends) ≡ Some (first, (sign t.Comma a ∷ us, middle)) → reopened first (sign t.Comma a ∷ us, middle) ≡ (sign t.Comma a ∷ us, before)
    → r.parts n scope (us, before) ≡ Some (parts, (rest, now)) → comma_of first parts ≡ e
    → r.expression (suc n) scope (ts, ends) ≡ Some (e, (rest, start_of ts ∷ now))
unfolding r.expression same_terminal
expression_goes n scope a ts us rest first e parts ends middle before now is fresh others joined = rw (is, fresh, others, joined) refl

pub last_part : (n : ℕ) (scope : Scope) (ts rest : List Symbol) (e : c.Expression) (ends now : List ℕ) → follows rest ≡ 0
    → r.marked n scope (ts, ends) ≡ Some (e, (rest, now)) → r.parts (suc n) scope (ts, ends) ≡ Some (c.an_expression e c.no_expressions, (rest, now))
unfolding r.expression
last_part n scope ts rest e ends now quiet is = rw (is, not_seen t.Comma rest (omega arith) (λ k. omega arith)) refl

pub more_parts : (n : ℕ) (scope : Scope) (a : ℕ) (ts us rest : List Symbol) (e : c.Expression) (es : c.Expressions) (ends middle now : List ℕ)
    → r.marked n scope (ts, ends) ≡ Some (e, (sign t.Comma a ∷ us, middle)) → r.parts n scope (us, middle) ≡ Some (es, (rest, now))
    → r.parts (suc n) scope (ts, ends) ≡ Some (c.an_expression e es, (rest, now))
unfolding r.expression same_terminal
more_parts n scope a ts us rest e es ends middle now is others = rw (is, others) refl
