-- What is derived of operators between expressions, of assignments and commas is read, rule by rule, C11 6.5.
use Rattle.std.proofs.Common.{◌≡◌, ℕ, zero, suc, ◌+◌, ◌<◌, ◌≤◌, Bool, true, false, List, ◌∷◌, length, drop, Option, Some, None, refl, ap, ◌∙◌, arith, ◌⊎◌, inl, inr}
use Rattle.lt_model.specs.declared.operator.Op.{Op}
use Rattle.lt_tree.specs.declared.terminal.Terminal.{Terminal}
use Rattle.lt_tree.specs.declared.terminal.Terminal.TheVariants as t
use Rattle.lt_tree.specs.Tree as c
use Rattle.lt_tree.specs.Comma.{followed_by, comma_of, is_comma}
use Rattle.lt_tree.specs.Symbols.{Symbol, sign, start_of}
use Rattle.lt_tree.specs.Scope.{Scope}
use Rattle.lt_tree.specs.Operators.{Infix, operation, infix_of, assignment_of}
use Rattle.lt_tree.specs.Ahead.{terminal_at}
use Rattle.lt_tree.specs.Grammar as g
use Rattle.lt_tree.specs.Grammar.{IsText, IsLiteral}
use Rattle.lt_expr.specs.Front.{begins_mark, begins_cast, reopened}
use Rattle.lt_expr.specs.Reading as r
use Rattle.lt_expr.specs.Walk.{Walked, walk, walk_all, walk_marks}
use Rattle.lt_expr.proofs.CompleteFronts.{weight, follows, infix_weight, assignment_weight, no_assignment}
use Rattle.lt_expr.proofs.Walks.{operation_walk, walk_followed}
use Rattle.lt_expr.proofs.CompleteForms.{enough, Read, once, node_of, Climbs, Conditionals, Expressed, Complete, Parts}
use Rattle.lt_expr.proofs.CompleteExpressions.{unary_complete}
use Rattle.lt_expr.proofs.CompleteSteps as step

-- ---- infix operators

pub binary_of_cast_complete : (scope : Scope) (k : ℕ) (ts rest : List Symbol) (e : c.Expression) (spots more ends : List ℕ) → length rest < length ts
    → Complete g.cast scope ts e rest spots more ends → Complete (g.binary k) scope ts e rest spots more ends
binary_of_cast_complete scope k ts rest e spots more ends short ce small quiet =
    let d = ce small in
    record {
      first = e;
      after = rest;
      middle = d.now;
      is_operand = d.reads;
      shorter_after = short;
      longer = omega arith;
      now = d.now;
      walked = d.walked;
      goes = λ least n le big. (n, big, refl);
      front = inl refl;
    }

pub tighter_complete : (scope : Scope) (k : ℕ) (ts rest : List Symbol) (e : c.Expression) (spots more ends : List ℕ)
    → Complete (g.binary (suc k)) scope ts e rest spots more ends → Complete (g.binary k) scope ts e rest spots more ends
tighter_complete scope k ts rest e spots more ends ce small quiet =
    let d = ce small (omega arith) in
    record {
      first = d.first;
      after = d.after;
      middle = d.middle;
      is_operand = d.is_operand;
      shorter_after = d.shorter_after;
      longer = d.longer;
      now = d.now;
      walked = d.walked;
      goes = λ least n le big. d.goes least n (omega arith) big;
      front = d.front;
    }

-- the operator and its right operand, behind the left operand
infix_goes : (scope : Scope) (start k at least : ℕ) (s : Terminal) (op : Infix) (us rest : List Symbol) (left right : c.Expression) (spots more ends : List ℕ) (d : Climbs (suc k) scope us right rest spots more ends)
    → infix_of s ≡ Some (op, k) → least ≤ k → follows rest ≤ 13 → follows rest ≤ 4 + k → (n : ℕ) → enough 1 (sign s at ∷ us) (suc n)
    → r.climb (suc n) scope start least left (sign s at ∷ us, ends) ≡ r.climb n scope start least (operation op left right) (rest, start ∷ d.now)
infix_goes scope start k at least s op us rest left right spots more ends d i le small quiet n big =
    let short = d.shorter_after in
    let x = d.goes (k + 1) n (omega arith) (omega arith) in
    step.climb_goes n scope start least left d.first right s at (op, k) us d.after rest ends d.middle d.now i le (d.is_operand n (omega arith))
    (x.2 ∙ step.climb_stops x.0 scope (start_of us) (k + 1) right rest d.now (omega (arith, x.1)) small (omega arith))

pub operates_complete : (scope : Scope) (s : Terminal) (at k : ℕ) (op : Infix) (ts us rest : List Symbol) (left right : c.Expression) (spots between more ends : List ℕ) → infix_of s ≡ Some (op, k) → length rest < length us
    → Complete (g.binary k) scope ts left (sign s at ∷ us) spots between ends
    → ((now : List ℕ) → Complete (g.binary (suc k)) scope us right rest between more now)
    → Complete (g.binary k) scope ts (operation op left right) rest (start_of ts ∷ spots) more ends
operates_complete scope s at k op ts us rest left right spots between more ends i short ca cb small quiet =
    let w = infix_weight s (op, k) i in
    let a = ca (omega (arith, w.0, w.1)) (omega (arith, w.0)) in
    let b = cb a.now small (omega arith) in
    record {
      first = a.first;
      after = a.after;
      middle = a.middle;
      is_operand = a.is_operand;
      shorter_after = a.shorter_after;
      longer = omega (arith, a.longer);
      now = start_of ts ∷ b.now;
      walked = operation_walk op left right (start_of ts ∷ b.now, more) ∙ node_of (λ v. walk left (walk right v)) (start_of ts) b.now more ends spots (ap (walk left) b.walked ∙ a.walked);
      goes = λ least n le big. (let x = a.goes least n le big in goes least le a.now b x.0 x.1 (r.climb n scope (start_of ts) least a.first (a.after, a.middle)) x.2);
      front = front w.0 w.1 a.after a.front;
    }
  where
    front : weight s ≡ 4 + k → k ≤ 9 → (after : List Symbol) → (after ≡ sign s at ∷ us) ⊎ ((4 ≤ follows after) × (follows after ≤ 13)) → (after ≡ rest) ⊎ ((4 ≤ follows after) × (follows after ≤ 13))
    front w most after (inl e) = inr (let f = ap follows e in (omega arith, omega arith))
    front w most after (inr f) = inr f

    goes : (least : ℕ) → least ≤ k → (now : List ℕ) (b : Climbs (suc k) scope us right rest between more now) → (j : ℕ) → enough 1 (sign s at ∷ us) j → (x : Option (c.Expression × (List Symbol × List ℕ)))
        → x ≡ r.climb j scope (start_of ts) least left (sign s at ∷ us, now) → (i : ℕ) × enough 1 rest i × (x ≡ r.climb i scope (start_of ts) least (operation op left right) (rest, start_of ts ∷ b.now))
    goes least le now b zero big x same = absurd (omega arith)
    goes least le now b (suc j) big x same = (j, omega arith, same ∙ infix_goes scope (start_of ts) k at least s op us rest left right between more now b i le small quiet j big)

-- ---- conditional expressions

abbrev Front : ℕ → List Symbol → List Symbol → Type 0
Front k after rest = (after ≡ rest) ⊎ ((k ≤ follows after) × (follows after ≤ 13))

pub binary_complete : (scope : Scope) (ts rest : List Symbol) (e : c.Expression) (spots more ends : List ℕ)
    → Complete (g.binary 0) scope ts e rest spots more ends → Complete g.conditional scope ts e rest spots more ends
binary_complete scope ts rest e spots more ends ce quiet =
    let d = ce (omega arith) (omega arith) in
    record {
      first = d.first;
      after = d.after;
      middle = d.middle;
      is_operand = d.is_operand;
      shorter_after = d.shorter_after;
      now = d.now;
      walked = d.walked;
      goes = goes d;
      front = front d.after d.front;
    }
  where
    front : (after : List Symbol) → Front 4 after rest → Front 3 after rest
    front after (inl e) = inl e
    front after (inr f) = inr (omega (arith, f.0), f.1)

    goes : (d : Climbs 0 scope ts e rest spots more ends) → (n : ℕ) → enough 2 d.after n → r.choice n scope (start_of ts) d.first (d.after, d.middle) ≡ Some (e, (rest, d.now))
    goes d zero big = absurd (omega arith)
    goes d (suc n) big =
        let x = d.goes 0 n (omega arith) (omega arith) in
        step.choice_stops n scope (start_of ts) d.first e d.after rest d.middle d.now quiet (x.2 ∙ step.climb_stops x.0 scope (start_of ts) 0 e rest d.now (omega (arith, x.1)) (omega arith) (omega arith))

-- a conditional expression alone
pub conditional_read : (scope : Scope) (ts rest : List Symbol) (e : c.Expression) (spots more ends : List ℕ) → Conditionals scope ts e rest spots more ends → Expressed r.conditional 4 scope ts e rest spots more ends
conditional_read scope ts rest e spots more ends d =
    let short = d.shorter_after in
    once d.now d.walked (omega arith) (λ n big. step.then_choice n scope ts d.after d.first ends d.middle (d.is_operand n (omega arith)) ∙ d.goes n (omega arith))

pub choice_complete : (scope : Scope) (a b : ℕ) (ts us vs rest : List Symbol) (test left right : c.Expression) (spots first second more ends : List ℕ) → length vs < length us
    → Complete (g.binary 0) scope ts test (sign t.Question a ∷ us) spots first ends
    → ((now : List ℕ) → Complete g.comma scope us left (sign t.Colon b ∷ vs) first second now)
    → ((now : List ℕ) → Complete g.conditional scope vs right rest second more now)
    → Complete g.conditional scope ts (c.Conditional test left right) rest (start_of ts ∷ spots) more ends
choice_complete scope a b ts us vs rest test left right spots first second more ends short ca cb cd quiet =
    let x = ca (omega arith) (omega arith) in
    let y = cb x.now refl in
    let z = conditional_read scope vs rest right second more y.now (cd y.now quiet) in
    record {
      first = x.first;
      after = x.after;
      middle = x.middle;
      is_operand = x.is_operand;
      shorter_after = x.shorter_after;
      now = start_of ts ∷ z.now;
      walked = node_of (λ v. walk test (walk left (walk right v))) (start_of ts) z.now more ends spots (ap (λ (v : Walked). walk test (walk left v)) z.walked ∙ ap (walk test) y.walked ∙ x.walked);
      goes = goes x y z;
      front = front x.after x.front;
    }
  where
    front : (after : List Symbol) → Front 4 after (sign t.Question a ∷ us) → Front 3 after rest
    front after (inl e) = inr (let f = ap follows e in (omega arith, omega arith))
    front after (inr f) = inr (omega (arith, f.0), f.1)

    goes : (x : Climbs 0 scope ts test (sign t.Question a ∷ us) spots first ends) (y : Expressed r.expression 6 scope us left (sign t.Colon b ∷ vs) first second x.now)
        (z : Expressed r.conditional 4 scope vs right rest second more y.now)
        → (n : ℕ) → enough 2 x.after n → r.choice n scope (start_of ts) x.first (x.after, x.middle) ≡ Some (c.Conditional test left right, (rest, start_of ts ∷ z.now))
    goes x y z zero big = absurd (omega arith)
    goes x y z (suc n) big =
        let k = x.goes 0 n (omega arith) (omega arith) in
        let l = x.longer in
        step.choice_goes n scope (start_of ts) a b x.first test left right x.after us vs rest x.middle x.now y.now z.now
        (k.2 ∙ step.climb_stops k.0 scope (start_of ts) 0 test (sign t.Question a ∷ us) x.now (omega (arith, k.1)) (omega arith) (omega arith))
        (y.reads n (omega arith)) (z.reads n (omega arith))

-- ---- assignments

pub conditional_complete : (scope : Scope) (ts rest : List Symbol) (e : c.Expression) (spots more ends : List ℕ)
    → Complete g.conditional scope ts e rest spots more ends → Complete g.assignment scope ts e rest spots more ends
conditional_complete scope ts rest e spots more ends ce quiet =
    let d = ce (omega arith) in
    let short = d.shorter_after in
    once d.now d.walked (omega arith)
    (λ n big. step.assignment_plain n scope ts d.after d.first ends d.middle (plain d.after d.front) (d.is_operand n (omega arith)) ∙ d.goes n (omega arith))
  where
    plain : (after : List Symbol) → Front 3 after rest → assignment_of (terminal_at after) ≡ None
    plain after (inl e) = let f = ap follows e in no_assignment after (omega arith) (λ k. omega arith)
    plain after (inr f) = no_assignment after (omega (arith, f.1)) (λ k. omega (arith, f.0))

pub assigns_complete : (scope : Scope) (k : Terminal) (at : ℕ) (op : Option Op) (ts us rest : List Symbol) (target value : c.Expression) (spots between more ends : List ℕ)
    → begins_cast scope ts ≡ false → assignment_of k ≡ Some op → length us < length ts
    → Complete g.unary scope ts target (sign k at ∷ us) spots between ends
    → ((now : List ℕ) → Complete g.assignment scope us value rest between more now)
    → Complete g.assignment scope ts (c.Assign op target value) rest (start_of ts ∷ spots) more ends
assigns_complete scope k at op ts us rest target value spots between more ends front i short ca cb quiet =
    let w = assignment_weight k op i in
    let x = unary_complete scope ts (sign k at ∷ us) target spots between ends front ca (omega arith) in
    let y = cb x.now quiet in
    once (start_of ts ∷ y.now) (node_of (λ v. walk target (walk value v)) (start_of ts) y.now more ends spots (ap (walk target) y.walked ∙ x.walked)) (omega arith)
    (λ n big. step.assignment_goes n scope k at op ts us rest target value ends x.now y.now front i (x.reads n (omega arith)) (y.reads n (omega arith)))

-- ---- marks before an expression, and commas

pub assignment_complete : (scope : Scope) (ts rest : List Symbol) (e : c.Expression) (spots more ends : List ℕ) → begins_mark ts ≡ false
    → Complete g.assignment scope ts e rest spots more ends → Complete g.marked scope ts e rest spots more ends
assignment_complete scope ts rest e spots more ends front ce quiet =
    let d = ce quiet in once d.now d.walked (omega arith) (λ n big. step.marked_plain n scope ts ends front ∙ d.reads n (omega arith))

pub behind_marks_complete : (scope : Scope) (ts us rest : List Symbol) (marks : c.Marks) (e : c.Expression) (spots between more ends : List ℕ) → begins_mark ts ≡ true → length us < length ts
    → Read (λ n. r.marks n scope) walk_marks 2 ts marks us spots between ends
    → ((now : List ℕ) → Complete g.assignment scope us e rest between more now)
    → Complete g.marked scope ts (c.Marked marks e) rest (start_of ts ∷ spots) more ends
behind_marks_complete scope ts us rest marks e spots between more ends front short x ce quiet =
    let y = ce x.now quiet in
    once (start_of ts ∷ y.now) (node_of (λ v. walk_marks marks (walk e v)) (start_of ts) y.now more ends spots (ap (walk_marks marks) y.walked ∙ x.walked)) (omega arith)
    (λ n big. step.marked_goes n scope ts us rest marks e ends x.now y.now front (x.reads n (omega arith)) (y.reads n (omega arith)))

pub marked_complete : (scope : Scope) (ts rest : List Symbol) (e : c.Expression) (spots more ends : List ℕ)
    → Complete g.marked scope ts e rest spots more ends → Complete g.comma scope ts e rest spots more ends
marked_complete scope ts rest e spots more ends ce quiet =
    let d = ce (omega arith) in once d.now d.walked (omega arith) (λ n big. step.expression_plain n scope ts rest e ends d.now quiet (d.reads n (omega arith)))

-- there is one at least
abbrev pub is_filled : c.Expressions → Bool
is_filled c.no_expressions = false
is_filled (c.an_expression e es) = true

-- an expression that is no comma expression keeps its end
fresh : (first : c.Expression) (us : List Symbol) (ends : List ℕ) → is_comma first ≡ false → reopened first (us, ends) ≡ (us, ends)
fresh first us ends e = rw e refl

-- a comma expression whose first part is none
comma_first : (first : c.Expression) (parts : c.Expressions) → is_comma first ≡ false → is_filled parts ≡ true → comma_of first parts ≡ c.Comma (c.an_expression first parts)
comma_first first c.no_expressions e some = absurd cc
comma_first (c.Comma parts) (c.an_expression second rest) e some = absurd cc
comma_first first (c.an_expression second rest) e some = refl

-- a comma expression before other parts
comma_longer : (front parts : c.Expressions) → is_filled parts ≡ true → comma_of (c.Comma front) parts ≡ c.Comma (followed_by front parts)
comma_longer front c.no_expressions some = absurd cc
comma_longer front (c.an_expression second rest) some = refl

pub sequence_complete : (scope : Scope) (a : ℕ) (ts us rest : List Symbol) (first : c.Expression) (parts : c.Expressions) (spots between more ends : List ℕ)
    → is_comma first ≡ false → is_filled parts ≡ true → length us < length ts
    → Complete g.marked scope ts first (sign t.Comma a ∷ us) spots between ends
    → ((now : List ℕ) → Parts scope us parts rest between more now)
    → Complete g.comma scope ts (c.Comma (c.an_expression first parts)) rest (start_of ts ∷ spots) more ends
sequence_complete scope a ts us rest first parts spots between more ends plain some short ca cb quiet =
    let x = ca (omega arith) in
    let y = cb x.now quiet in
    once (start_of ts ∷ y.now) (node_of (λ v. walk first (walk_all parts v)) (start_of ts) y.now more ends spots (ap (walk first) y.walked ∙ x.walked)) (omega arith)
    (λ n big. step.expression_goes n scope a ts us rest first (c.Comma (c.an_expression first parts)) parts ends x.now x.now y.now (x.reads n (omega arith)) (fresh first (sign t.Comma a ∷ us) x.now plain) (y.reads n (omega arith)) (comma_first first parts plain some))

-- the spots of a comma expression without its own
inner_walk : (front : c.Expressions) (now between ends spots : List ℕ) (p : ℕ) → walk (c.Comma front) (now, between) ≡ (ends, p ∷ spots) → walk_all front (drop 1 now, between) ≡ (ends, spots)
inner_walk front now between ends spots p e = ap (λ (v : Walked). (v.0, drop 1 v.1)) e

pub longer_sequence_complete : (scope : Scope) (a p : ℕ) (ts us rest : List Symbol) (front parts : c.Expressions) (spots between more ends : List ℕ)
    → is_filled parts ≡ true → length us < length ts
    → Complete g.marked scope ts (c.Comma front) (sign t.Comma a ∷ us) (p ∷ spots) between ends
    → ((now : List ℕ) → Parts scope us parts rest between more now)
    → Complete g.comma scope ts (c.Comma (followed_by front parts)) rest (start_of ts ∷ spots) more ends
longer_sequence_complete scope a p ts us rest front parts spots between more ends some short ca cb quiet =
    let x = ca (omega arith) in
    let y = cb (drop 1 x.now) quiet in
    once (start_of ts ∷ y.now)
    (node_of (walk_all (followed_by front parts)) (start_of ts) y.now more ends spots
    (walk_followed front parts (y.now, more) ∙ ap (walk_all front) y.walked ∙ inner_walk front x.now between ends spots p x.walked))
    (omega arith)
    (λ n big. step.expression_goes n scope a ts us rest (c.Comma front) (c.Comma (followed_by front parts)) parts ends x.now (drop 1 x.now) y.now (x.reads n (omega arith)) refl (y.reads n (omega arith)) (comma_longer front parts some))

pub last_part_complete : (scope : Scope) (ts rest : List Symbol) (e : c.Expression) (spots more ends : List ℕ)
    → Complete g.marked scope ts e rest spots more ends → Parts scope ts (c.an_expression e c.no_expressions) rest spots more ends
last_part_complete scope ts rest e spots more ends ce quiet =
    let d = ce (omega arith) in once d.now d.walked (omega arith) (λ n big. step.last_part n scope ts rest e ends d.now quiet (d.reads n (omega arith)))

pub more_parts_complete : (scope : Scope) (a : ℕ) (ts us rest : List Symbol) (e : c.Expression) (es : c.Expressions) (spots between more ends : List ℕ) → length us < length ts
    → Complete g.marked scope ts e (sign t.Comma a ∷ us) spots between ends
    → ((now : List ℕ) → Parts scope us es rest between more now)
    → Parts scope ts (c.an_expression e es) rest spots more ends
more_parts_complete scope a ts us rest e es spots between more ends short ca cb quiet =
    let x = ca (omega arith) in
    let y = cb x.now quiet in
    once y.now (ap (walk e) y.walked ∙ x.walked) (omega arith)
    (λ n big. step.more_parts n scope a ts us rest e es ends x.now y.now (x.reads n (omega arith)) (y.reads n (omega arith)))
