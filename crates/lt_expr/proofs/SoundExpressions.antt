-- Expressions that are read are derived: a step of each reading function from commas to operands.
use Rattle.std.proofs.Common.{◌≡◌, ℕ, suc, ◌+◌, add-one, List, ◌∷◌, drop, None, subst, arith}
use Rattle.std.proofs.lemmas.Bool.{and_parts}
use Rattle.lt_tree.specs.declared.terminal.Terminal.TheVariants as t
use Rattle.lt_tree.specs.Tree as c
use Rattle.lt_tree.specs.Symbols.{Symbol, start_of}
use Rattle.lt_tree.specs.Scope.{Scope}
use Rattle.lt_tree.specs.Operators.{Infix, arithmetic, connective, operation}
use Rattle.lt_tree.specs.Grammar as g
use Rattle.lt_tree.specs.Ahead.{sees}
use Rattle.lt_expr.specs.Front.{behind, ended, reopened, begins_mark, begins_cast, assignment_behind, operator_at}
use Rattle.lt_expr.specs.Walk.{walk}
use Rattle.lt_expr.specs.Reading as read
use Rattle.lt_expr.proofs.SoundSteps.{given, weaker, both, chosen, found}
use Rattle.lt_expr.proofs.SoundFronts.{Sees, seen, see, seeing, expecting}
use Rattle.lt_expr.proofs.SoundSpots.{Spotted, by_rule, two, node_of_two, node_of_three}
use Rattle.lt_expr.proofs.SoundStatements.{ReadsSound, PartsSound, ChoiceSound, ClimbSound, OperandSound, MarksSound, TypeNameSound}
use Rattle.lt_expr.proofs.SoundOperators.{operator_loose, operator_level, looser, operates_rule, assigns_rule, assignment_is}
use Rattle.lt_expr.proofs.SoundCommas.{comma_spots}

-- ---- the rules, by what is seen

more_parts_rule : {scope : Scope} {ts us rest : List Symbol} {e : c.Expression} {es : c.Expressions} {spots middle more : List ℕ}
    → Sees t.Comma us → g.IsExpression scope g.marked ts e us spots middle → g.AreParts scope (drop 1 us) es rest middle more
    → g.AreParts scope ts (c.an_expression e es) rest spots more
more_parts_rule seen d e = g.more_parts d e

choice_rule : {scope : Scope} {ts us vs rest : List Symbol} {test left right : c.Expression} {spots first second more : List ℕ}
    → Sees t.Question us → Sees t.Colon vs → g.IsExpression scope (g.binary 0) ts test us spots first
    → g.IsExpression scope g.comma (drop 1 us) left vs first second → g.IsExpression scope g.conditional (drop 1 vs) right rest second more
    → g.IsExpression scope g.conditional ts (c.Conditional test left right) rest (start_of ts ∷ spots) more
choice_rule seen seen d e f = g.choice d e f

cast_rule : {scope : Scope} {ts us rest : List Symbol} {ss : c.Specifiers} {d : c.Declarator} {e : c.Expression} {spots middle more : List ℕ}
    → Sees t.OpenParen ts → Sees t.CloseParen us → g.IsTypeName scope (drop 1 ts) ss d us spots middle → g.IsExpression scope g.cast (drop 1 us) e rest middle more
    → g.IsExpression scope g.cast ts (c.Cast ss d e) rest (start_of ts ∷ spots) more
cast_rule seen seen d e = g.cast_to d e

-- ---- a step of each

pub expression_sound : (n : ℕ) → ReadsSound g.marked (read.marked n) → PartsSound n → ReadsSound g.comma (read.expression (suc n))
unfolding read.expression
expression_sound n marked parts scope r =
    both (read.marked n scope r) (marked scope r) (λ x d.
    seeing t.Comma x.1.0 (λ q. cc)
    (λ s.
    both (read.parts n scope (behind (reopened x.0 x.1))) (parts scope (behind (reopened x.0 x.1))) (λ y p.
    given (comma_spots x.0 y.0 s d p)))
    (λ last. given (by_rule (λ spots more h. g.of_marked h) d)))

pub parts_sound : (n : ℕ) → ReadsSound g.marked (read.marked n) → PartsSound n → PartsSound (suc n)
unfolding read.expression
parts_sound n marked parts scope r =
    both (read.marked n scope r) (marked scope r) (λ x d.
    seeing t.Comma x.1.0 (λ q. cc)
    (λ s.
    both (read.parts n scope (behind x.1)) (parts scope (behind x.1)) (λ y p.
    given (two (λ spots middle more h k. more_parts_rule s h k) d p)))
    (λ last. given (by_rule (λ spots more h. g.last_part h) d)))

pub marked_sound : (n : ℕ) → MarksSound n → ReadsSound g.assignment (read.assignment n) → ReadsSound g.marked (read.marked (suc n))
unfolding read.expression
marked_sound n marks assignment scope r =
    chosen (begins_mark r.0)
    (λ b.
    both (read.marks n scope r) (marks scope r) (λ m d.
    both (read.assignment n scope m.1) (assignment scope m.1) (λ x e.
    given (node_of_two (λ spots middle more h k. g.behind_marks h k) d e))))
    (λ b. weaker (λ x d. by_rule (λ spots more h. g.of_assignment h) d) (assignment scope r))

pub assignment_sound : (n : ℕ) → OperandSound n → ChoiceSound n → ReadsSound g.assignment (read.assignment n) → ReadsSound g.assignment (read.assignment (suc n))
unfolding read.expression
assignment_sound n operand choice assignment scope r =
    both (read.operand n scope r) (operand scope r) (λ x d.
    found (assignment_behind (begins_cast scope r.0) x.1.0)
    (λ op is.
    let i = (assignment_is (begins_cast scope r.0) x.1.0).holds op is in
    both (read.assignment n scope (behind x.1)) (assignment scope (behind x.1)) (λ y e.
    given (node_of_two (λ spots middle more h k. assigns_rule x.1.0 i.1 h k) (d.1 i.0) e)))
    (λ none. weaker (λ y e. by_rule (λ spots more h. g.of_conditional h) e) (choice scope r x.0 x.1 d.0)))

pub conditional_sound : (n : ℕ) → OperandSound n → ChoiceSound n → ReadsSound g.conditional (read.conditional (suc n))
unfolding read.expression
conditional_sound n operand choice scope r =
    both (read.operand n scope r) (operand scope r) (λ x d. choice scope r x.0 x.1 d.0)

pub choice_sound : (n : ℕ) → ClimbSound n → ReadsSound g.comma (read.expression n) → ReadsSound g.conditional (read.conditional n) → ChoiceSound (suc n)
unfolding read.expression
choice_sound n climb expression conditional scope from first r d =
    both (read.climb n scope (start_of from.0) 0 first r)
    (climb scope 9 0 from first r (omega arith) (by_rule (λ spots more h. g.of_cast h) d) (operator_loose 10 r.0 (omega arith))) (λ x e.
    seeing t.Question x.1.0 (λ q. cc)
    (λ s.
    both (read.expression n scope (behind x.1)) (expression scope (behind x.1)) (λ y f.
    expecting t.Colon y.1 _ (λ q. cc) (λ colon.
    both (read.conditional n scope (behind y.1)) (conditional scope (behind y.1)) (λ z l.
    given (node_of_three (λ spots a b more h k m. choice_rule s colon h k m) e.0 f l)))))
    (λ none. given (by_rule (λ spots more h. g.of_binary h) e.0)))

-- an operation is a node around its operands
operation_spots : {scope : Scope} {level : g.Level} {ts rest : List Symbol} {at : ℕ} {after between before : List ℕ} {R S : (spots more : List ℕ) → Type 0}
    (op : Infix) (left right : c.Expression)
    → ((spots middle more : List ℕ) → R spots middle → S middle more → g.IsExpression scope level ts (operation op left right) rest (at ∷ spots) more)
    → Spotted (walk left) between before R → Spotted (walk right) after between S
    → Spotted (walk (operation op left right)) (at ∷ after) before (g.IsExpression scope level ts (operation op left right) rest)
operation_spots (arithmetic op) left right f d e = node_of_two f d e
operation_spots (connective op) left right f d e = node_of_two f d e

pub climb_sound : (n : ℕ) → OperandSound n → ClimbSound n → ClimbSound (suc n)
unfolding read.expression
climb_sound n operand climb scope k least from left r le d quiet =
    found (operator_at least r.0)
    (λ o is.
    let level = operator_level least k r.0 o is quiet in
    both (read.operand n scope (behind r)) (operand scope (behind r)) (λ x e.
    both (read.climb n scope (start_of (behind r).0) (o.1 + 1) x.0 x.1)
    (climb scope (o.1 + 10) (o.1 + 1) (behind r) x.0 x.1 (omega arith) (by_rule (λ spots more h. g.of_cast h) e.0)
    (operator_loose (suc (o.1 + 10)) x.1.0 (omega arith))) (λ y f.
    let right : Spotted (walk y.0) y.1.1 r.1 (g.IsExpression scope (g.binary (suc o.1)) (drop 1 r.0) y.0 y.1.0) =
    subst (λ (i : ℕ). Spotted (walk y.0) y.1.1 r.1 (g.IsExpression scope (g.binary i) (drop 1 r.0) y.0 y.1.0)) (add-one o.1) f.0 in
    let none : operator_at (suc o.1) y.1.0 ≡ None = subst (λ (i : ℕ). operator_at i y.1.0 ≡ None) (add-one o.1) f.1 in
    climb scope o.1 least from (operation o.0 left y.0) (ended (start_of from.0) y.1) level.1
    (operation_spots o.0 left y.0 (λ spots middle more h m. operates_rule r.0 level.0 (looser k o.1 level.2 h) m) d right) none)))
    (λ is. given (by_rule (λ spots more h. looser k least le h) d, is))

pub operand_sound : (n : ℕ) → TypeNameSound n → OperandSound n → ReadsSound g.unary (read.unary n) → OperandSound (suc n)
unfolding read.expression
operand_sound n type_name operand unary scope r =
    chosen (begins_cast scope r.0)
    (λ b.
    let s = see t.OpenParen r.0 (λ q. cc) (and_parts (sees t.OpenParen r.0) _ b).0 in
    both (read.type_name n scope (behind r)) (type_name scope (behind r)) (λ t' d.
    expecting t.CloseParen t'.1 _ (λ q. cc) (λ close.
    both (read.operand n scope (behind t'.1)) (operand scope (behind t'.1)) (λ x e.
    given (node_of_two (λ spots middle more h k. cast_rule s close h k) d e.0, λ none. absurd cc)))))
    (λ b. weaker (λ x d. (by_rule (λ spots more h. g.of_unary h) d, λ none. d)) (unary scope r))
