-- Operands that are read are derived: a step of each reading function from prefixes to primaries.
use Rattle.std.proofs.Common.{◌≡◌, ℕ, suc, true, false, List, [], ◌∷◌, drop}
use Rattle.std.proofs.lemmas.Bool.{and_parts, or_from}
use Rattle.lt_tree.specs.declared.terminal.Terminal.TheVariants as t
use Rattle.lt_tree.specs.Tree as c
use Rattle.lt_tree.specs.Symbols.{Symbol, name, constant, literal, sign, start_of}
use Rattle.lt_tree.specs.Scope.{Scope, is_type}
use Rattle.lt_tree.specs.Operators.{prefix_of}
use Rattle.lt_tree.specs.Grammar as g
use Rattle.lt_tree.specs.Ahead.{sees, terminal_at}
use Rattle.lt_expr.specs.Front.{behind, ended, begins_cast, begins_postfix, leaf}
use Rattle.lt_expr.specs.Literals.{text_of}
use Rattle.lt_expr.specs.Walk.{walk_all}
use Rattle.lt_expr.specs.Reading as read
use Rattle.lt_expr.specs.Reading.{Labelled, arguments_by}
use Rattle.lt_expr.proofs.SoundSteps.{nothing, given, weaker, both, chosen, found, mapped}
use Rattle.lt_expr.proofs.SoundFronts.{other_of, Sees, seen, see, at_front, seeing, expecting, HasName, has_name, HasId, has_id, HasTag, has_tag, with_name, with_id, with_tag}
use Rattle.lt_expr.proofs.SoundLiterals.{text_is}
use Rattle.lt_expr.proofs.SoundSpots.{Spotted, no_spot, by_rule, two, one_node, node_of_two}
use Rattle.lt_expr.proofs.SoundStatements.{ReadsSound, BehindSound, OperandSound, PostfixSound, OnePostfixSound, HasArgument, ArgumentsSound, LabelledSound, IsLabelled, labelled, TypeNameSound}
use Rattle.lt_expr.proofs.SoundOperators.{prefix_rule}

-- ---- the rules, by what is seen

increment_rule : {scope : Scope} {ts rest : List Symbol} {e : c.Expression} {spots more : List ℕ}
    → Sees t.Increment ts → g.IsExpression scope g.unary (drop 1 ts) e rest spots more → g.IsExpression scope g.unary ts (c.PreInc e) rest (start_of ts ∷ spots) more
increment_rule seen d = g.increment_before d

decrement_rule : {scope : Scope} {ts rest : List Symbol} {e : c.Expression} {spots more : List ℕ}
    → Sees t.Decrement ts → g.IsExpression scope g.unary (drop 1 ts) e rest spots more → g.IsExpression scope g.unary ts (c.PreDec e) rest (start_of ts ∷ spots) more
decrement_rule seen d = g.decrement_before d

sizeof_rule : {scope : Scope} {at : ℕ} {ts us : List Symbol} {ss : c.Specifiers} {d : c.Declarator} {spots more : List ℕ}
    → Sees t.OpenParen ts → Sees t.CloseParen us → g.IsTypeName scope (drop 1 ts) ss d us spots more
    → g.IsExpression scope g.unary (sign t.Sizeof at ∷ ts) (c.SizeofType ss d) (drop 1 us) (at ∷ spots) more
sizeof_rule seen seen d = g.sizeof_type d

index_rule : {scope : Scope} {ts us vs : List Symbol} {whole place : c.Expression} {spots middle more : List ℕ}
    → Sees t.OpenIndex us → Sees t.CloseIndex vs → g.IsExpression scope g.postfix ts whole us spots middle
    → g.IsExpression scope g.comma (drop 1 us) place vs middle more
    → g.IsExpression scope g.postfix ts (c.Index whole place) (drop 1 vs) (start_of ts ∷ spots) more
index_rule seen seen d e = g.index d e

call_rule : {scope : Scope} {ts us vs : List Symbol} {callee : c.Expression} {arguments : c.Expressions} {spots middle more : List ℕ}
    → Sees t.OpenParen us → Sees t.CloseParen vs → g.IsExpression scope g.postfix ts callee us spots middle
    → g.AreArguments scope (drop 1 us) arguments vs middle more
    → g.IsExpression scope g.postfix ts (c.Call callee arguments) (drop 1 vs) (start_of ts ∷ spots) more
call_rule seen seen d e = g.call d e

member_rule : {scope : Scope} {ts us : List Symbol} {w : List ℕ} {e : c.Expression} {spots more : List ℕ}
    → Sees t.Dot us → HasName (drop 1 us) w → g.IsExpression scope g.postfix ts e us spots more
    → g.IsExpression scope g.postfix ts (c.Member e w) (drop 1 (drop 1 us)) (start_of ts ∷ spots) more
member_rule seen has_name d = g.member d

arrow_rule : {scope : Scope} {ts us : List Symbol} {w : List ℕ} {e : c.Expression} {spots more : List ℕ}
    → Sees t.Arrow us → HasName (drop 1 us) w → g.IsExpression scope g.postfix ts e us spots more
    → g.IsExpression scope g.postfix ts (c.Arrow e w) (drop 1 (drop 1 us)) (start_of ts ∷ spots) more
arrow_rule seen has_name d = g.arrow d

increment_behind_rule : {scope : Scope} {ts us : List Symbol} {e : c.Expression} {spots more : List ℕ}
    → Sees t.Increment us → g.IsExpression scope g.postfix ts e us spots more → g.IsExpression scope g.postfix ts (c.PostInc e) (drop 1 us) (start_of ts ∷ spots) more
increment_behind_rule seen d = g.increment_behind d

decrement_behind_rule : {scope : Scope} {ts us : List Symbol} {e : c.Expression} {spots more : List ℕ}
    → Sees t.Decrement us → g.IsExpression scope g.postfix ts e us spots more → g.IsExpression scope g.postfix ts (c.PostDec e) (drop 1 us) (start_of ts ∷ spots) more
decrement_behind_rule seen d = g.decrement_behind d

-- a suffix that is none of the first five is the last
is_decrement : (ts : List Symbol) → begins_postfix ts ≡ true → sees t.OpenIndex ts ≡ false → sees t.OpenParen ts ≡ false → sees t.Dot ts ≡ false
    → sees t.Arrow ts ≡ false → sees t.Increment ts ≡ false → sees t.Decrement ts ≡ true
is_decrement ts begins index call member arrow increment =
    other_of _ (sees t.Decrement ts) begins (or_from _ _ (or_from _ _ (or_from _ _ (or_from _ _ index call) member) arrow) increment)

more_arguments_rule : {scope : Scope} {ts us rest : List Symbol} {e : c.Expression} (es : c.Expressions) {spots middle more : List ℕ}
    → HasArgument es → Sees t.Comma us → g.IsExpression scope g.assignment ts e us spots middle → g.AreArguments scope (drop 1 us) es rest middle more
    → g.AreArguments scope ts (c.an_expression e es) rest spots more
more_arguments_rule c.no_expressions some s d f = absurd some
more_arguments_rule (c.an_expression e es) some seen d f = g.more_arguments d f

parentheses_rule : {scope : Scope} {ts us : List Symbol} {e : c.Expression} {spots more : List ℕ}
    → Sees t.OpenParen ts → Sees t.CloseParen us → g.IsExpression scope g.comma (drop 1 ts) e us spots more
    → g.IsExpression scope g.primary ts e (drop 1 us) spots more
parentheses_rule seen seen d = g.parentheses d

decide_rule : {scope : Scope} {at : ℕ} {ts us : List Symbol} {e : c.Expression} {yes_id no_id tag spots more : List ℕ}
    → Sees t.OpenParen ts → g.IsExpression scope g.assignment (drop 1 ts) e us spots more → HasId us yes_id → HasId (drop 1 (drop 1 us)) no_id
    → HasTag (drop 1 (drop 1 (drop 1 (drop 1 us)))) tag → Sees t.CloseParen (drop 1 (drop 1 (drop 1 (drop 1 (drop 1 (drop 1 us))))))
    → g.IsExpression scope g.primary (sign t.Decide at ∷ ts) (c.Decide e yes_id no_id tag) (drop 1 (drop 1 (drop 1 (drop 1 (drop 1 (drop 1 (drop 1 us))))))) (at ∷ spots) more
decide_rule seen d has_id has_id (has_tag l) seen = g.decide d l

after_rule : {scope : Scope} {at : ℕ} {ts us : List Symbol} {l : Labelled} {spots more : List ℕ}
    → Sees t.CloseParen us → IsLabelled scope ts l us spots more
    → g.IsExpression scope g.primary (sign t.After at ∷ ts) (c.After l.predicate l.id l.tag) (drop 1 us) (at ∷ spots) more
after_rule seen (labelled d l) = g.after d l

-- ---- a step of each

pub unary_sound : (n : ℕ) → ReadsSound g.unary (read.unary n) → BehindSound g.unary t.Sizeof (read.size n) → OperandSound n → ReadsSound g.primary (read.primary n) → PostfixSound n
    → ReadsSound g.unary (read.unary (suc n))
unfolding read.expression
unary_sound n unary size operand primary postfix scope r =
    seeing t.Increment r.0 (λ q. cc)
    (λ s. both (read.unary n scope (behind r)) (unary scope (behind r)) (λ x d. given (one_node (λ spots more h. increment_rule s h) d)))
    (λ a. seeing t.Decrement r.0 (λ q. cc)
    (λ s. both (read.unary n scope (behind r)) (unary scope (behind r)) (λ x d. given (one_node (λ spots more h. decrement_rule s h) d)))
    (λ b. seeing t.Sizeof r.0 (λ q. cc)
    (λ s.
    weaker (λ x d. by_rule (λ spots more h. at_front s (λ ts. g.IsExpression scope g.unary ts x.0 x.1.0 spots more) h) d)
    (size scope (start_of r.0) (behind r)))
    (λ e. found (prefix_of (terminal_at r.0))
    (λ op is. both (read.operand n scope (behind r)) (operand scope (behind r)) (λ x d. given (one_node (λ spots more h. prefix_rule r.0 is h) d.0)))
    (λ none.
    both (read.primary n scope r) (primary scope r) (λ x d.
    weaker (λ y f. by_rule (λ spots more h. g.of_postfix h) f)
    (postfix scope r x.0 x.1 (by_rule (λ spots more h. g.of_primary h) d)))))))

pub size_sound : (n : ℕ) → TypeNameSound n → ReadsSound g.unary (read.unary n) → BehindSound g.unary t.Sizeof (read.size (suc n))
unfolding read.expression
size_sound n type_name unary scope at r =
    chosen (begins_cast scope r.0)
    (λ b.
    let s = see t.OpenParen r.0 (λ q. cc) (and_parts (sees t.OpenParen r.0) _ b).0 in
    both (read.type_name n scope (behind r)) (type_name scope (behind r)) (λ t' d.
    expecting t.CloseParen t'.1 _ (λ q. cc) (λ close.
    given (one_node (λ spots more h. sizeof_rule s close h) d))))
    (λ b. both (read.unary n scope r) (unary scope r) (λ x d. given (one_node (λ spots more h. g.sizeof_expression h) d)))

pub postfix_sound : (n : ℕ) → OnePostfixSound n → PostfixSound n → PostfixSound (suc n)
unfolding read.expression
postfix_sound n one postfix scope from left r d =
    chosen (begins_postfix r.0)
    (λ b. both (read.one_postfix n scope left r) (one scope from left r b d) (λ x e. postfix scope from x.0 (ended (start_of from.0) x.1) e))
    (λ b. given d)

pub one_postfix_sound : (n : ℕ) → ReadsSound g.comma (read.expression n) → ArgumentsSound n → OnePostfixSound (suc n)
unfolding read.expression
one_postfix_sound n expression arguments scope from left r begins d =
    seeing t.OpenIndex r.0 (λ q. cc)
    (λ s.
    both (read.expression n scope (behind r)) (expression scope (behind r)) (λ x e.
    expecting t.CloseIndex x.1 _ (λ q. cc) (λ close.
    given (node_of_two (λ spots middle more h k. index_rule s close h k) d e))))
    (λ not_index. seeing t.OpenParen r.0 (λ q. cc)
    (λ s.
    both {Q = λ x. Spotted (walk_all x.0) x.1.1 r.1 (g.AreArguments scope (behind r).0 x.0 x.1.0)} (arguments_by (read.arguments n scope) (behind r))
    (chosen (sees t.CloseParen (behind r).0) (λ none. given (no_spot (λ more. g.no_arguments))) (λ some. weaker (λ x e. e.1) (arguments scope (behind r)))) (λ x e.
    expecting t.CloseParen x.1 _ (λ q. cc) (λ close.
    given (node_of_two (λ spots middle more h k. call_rule s close h k) d e))))
    (λ not_call. seeing t.Dot r.0 (λ q. cc)
    (λ s. with_name (behind r) _ (λ w i. given (one_node (λ spots more h. member_rule s i h) d)))
    (λ not_member. seeing t.Arrow r.0 (λ q. cc)
    (λ s. with_name (behind r) _ (λ w i. given (one_node (λ spots more h. arrow_rule s i h) d)))
    (λ not_arrow. seeing t.Increment r.0 (λ q. cc)
    (λ s. given (one_node (λ spots more h. increment_behind_rule s h) d))
    (λ not_increment.
    let s = see t.Decrement r.0 (λ q. cc) (is_decrement r.0 begins not_index not_call not_member not_arrow not_increment) in
    given (one_node (λ spots more h. decrement_behind_rule s h) d))))))

pub arguments_sound : (n : ℕ) → ReadsSound g.assignment (read.assignment n) → ArgumentsSound n → ArgumentsSound (suc n)
unfolding read.expression
arguments_sound n assignment arguments scope r =
    both (read.assignment n scope r) (assignment scope r) (λ x d.
    seeing t.Comma x.1.0 (λ q. cc)
    (λ s.
    both (read.arguments n scope (behind x.1)) (arguments scope (behind x.1)) (λ y e.
    given (tt, two (λ spots middle more h k. more_arguments_rule y.0 e.0 s h k) d e.1)))
    (λ last. given (tt, by_rule (λ spots more h. g.last_argument h) d)))

leaf_sound : ReadsSound g.primary leaf
unfolding leaf
leaf_sound scope ([], ends) = nothing
leaf_sound scope (name w at ∷ ts, ends) =
    chosen (is_type scope w) (λ e. nothing) (λ e. given (one_node (λ spots more h. h) (no_spot (λ more. g.name e))))
leaf_sound scope (constant w at ∷ ts, ends) = given (one_node (λ spots more h. h) (no_spot (λ more. g.constant)))
leaf_sound scope (literal w at ∷ ts, ends) =
    mapped _ (text_of (literal w at ∷ ts)) (text_is (literal w at ∷ ts)) (λ x i. one_node (λ spots more h. h) (no_spot (λ more. g.text i)))
leaf_sound scope (sign k at ∷ ts, ends) = nothing

pub primary_sound : (n : ℕ) → ReadsSound g.comma (read.expression n) → BehindSound g.primary t.Decide (read.decide n) → BehindSound g.primary t.After (read.after n)
    → ReadsSound g.primary (read.primary (suc n))
unfolding read.expression
primary_sound n expression decide after scope r =
    seeing t.OpenParen r.0 (λ q. cc)
    (λ s.
    both (read.expression n scope (behind r)) (expression scope (behind r)) (λ x d.
    expecting t.CloseParen x.1 _ (λ q. cc) (λ close.
    given (by_rule (λ spots more h. parentheses_rule s close h) d))))
    (λ a. seeing t.Decide r.0 (λ q. cc)
    (λ s.
    weaker (λ x d. by_rule (λ spots more h. at_front s (λ ts. g.IsExpression scope g.primary ts x.0 x.1.0 spots more) h) d)
    (decide scope (start_of r.0) (behind r)))
    (λ b. seeing t.After r.0 (λ q. cc)
    (λ s.
    weaker (λ x d. by_rule (λ spots more h. at_front s (λ ts. g.IsExpression scope g.primary ts x.0 x.1.0 spots more) h) d)
    (after scope (start_of r.0) (behind r)))
    (λ e. leaf_sound scope r)))

pub decide_sound : (n : ℕ) → ReadsSound g.assignment (read.assignment n) → BehindSound g.primary t.Decide (read.decide (suc n))
unfolding read.expression
decide_sound n assignment scope at r =
    expecting t.OpenParen r _ (λ q. cc) (λ s.
    both (read.assignment n scope (behind r)) (assignment scope (behind r)) (λ x d.
    with_id x.1 _ (λ yes_id i.
    with_id (behind (behind x.1)) _ (λ no_id j.
    with_tag (behind (behind (behind (behind x.1)))) _ (λ tag l.
    expecting t.CloseParen (behind (behind (behind (behind (behind (behind x.1)))))) _ (λ q. cc) (λ close.
    given (one_node (λ spots more h. decide_rule s h i j l close) d)))))))

pub after_sound : (n : ℕ) → LabelledSound n → BehindSound g.primary t.After (read.after (suc n))
unfolding read.expression
after_sound n front scope at r =
    both (read.labelled n scope r) (front scope r) (λ l d.
    expecting t.CloseParen l.1 _ (λ q. cc) (λ close.
    given (one_node (λ spots more h. after_rule close h) d)))
