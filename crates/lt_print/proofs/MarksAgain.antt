-- The words of marks derive them again.
use Rattle.std.specs.Prelude.{ℕ, List, [], ◌∷◌, ◌++◌}
use Rattle.lt_tree.specs.declared.terminal.Terminal.TheVariants as k
use Rattle.lt_tree.specs.Tree as c
use Rattle.lt_tree.specs.Symbols as s
use Rattle.lt_tree.specs.Symbols.{Symbol}
use Rattle.lt_tree.specs.Scope.{Scope}
use Rattle.lt_tree.specs.Grammar as g
use Rattle.lt_tree.specs.Grammar.{IsMark, AreBindings}
use Rattle.lt_tree.specs.Canon.{name, constant, literal, comma_gap, operand, mark, marks_pieces, bindings}
use Rattle.lt_print.proofs.ReadPieces.{Reads, done, a_name, a_constant, a_literal, a_sign, a_gap, parted, split_comma, inside}
use Rattle.lt_print.proofs.FormsAgain.{label_from}
use Rattle.lt_print.proofs.Claims.{Stands, Again, BoundStand, AreBound, MarkAgain, MarksAgain}

-- ---- bindings

-- a binding behind its second comma, and the others
binding_again : (scope : Scope) (n a b d : ℕ) (w : List ℕ) (value : c.Expression) (bound : c.Bindings) → Stands scope value → BoundStand scope bound
    → {ts between rest : List Symbol} (more : List ℕ) → Reads (operand n g.assignment value) ts between → Reads (bindings n bound) between rest
    → (spots : List ℕ) × AreBindings scope (s.sign k.Comma a ∷ s.name w b ∷ s.sign k.Comma d ∷ ts) (c.a_binding w value bound) rest spots more
unfolding operand
binding_again scope n a b d w value c.no_bindings stands all {ts} {rest = rest} more x done = let got = stands n g.assignment ts rest more x in (_, g.last_binding got.1)
binding_again scope n a b d w value (c.a_binding v other bound) stands all {ts} more x (a_sign {at = a'} (a_gap (a_name {at = b'} (a_sign {at = d'} (a_gap r))))) =
    let p = parted (operand n g.assignment other) (bindings n bound) r in
    let others = binding_again scope n a' b' d' v other bound all.0 all.1 more p.front p.back in
    let got = stands n g.assignment ts _ others.0 x in
    (_, g.more_bindings got.1 others.1)

-- ---- a mark

pub label_again : {scope : Scope} {e : c.Expression} {id tag : List ℕ} → Again scope e → MarkAgain scope (c.mark e id tag c.no_bindings)
unfolding operand
label_again {scope} {e} {id} {tag} again n ts rest more r = label_from scope (operand n g.assignment e) e id tag (again.stands n g.assignment) ts rest more r

binding_label_from : (scope : Scope) (n : ℕ) (e : c.Expression) (id tag : List ℕ) (w : List ℕ) (value : c.Expression) (bound : c.Bindings) → Stands scope e → Stands scope value → BoundStand scope bound
    → (at x : ℕ) {ts m1 m2 m3 m4 m5 m6 rest : List Symbol} (end : ℕ) (more : List ℕ) → Reads (operand n g.assignment e) ts m1 → Reads comma_gap m1 m2 → Reads (constant id ∷ comma_gap) m2 m3 → Reads (literal tag ∷ comma_gap) m3 m4
    → Reads (name w ∷ comma_gap) m4 m5 → Reads (operand n g.assignment value) m5 m6 → Reads (bindings n bound) m6 (s.sign k.CloseParen end ∷ rest)
    → (spots : List ℕ) × IsMark scope (s.sign k.LabelBind at ∷ s.sign k.OpenParen x ∷ ts) (c.mark e id tag (c.a_binding w value bound)) rest spots more
binding_label_from scope n e id tag w value bound se sv sb at x {ts} end more a (a_sign (a_gap done)) (a_constant (a_sign (a_gap done))) (a_literal is (a_sign {at = y} (a_gap done))) (a_name {at = z} (a_sign {at = v} (a_gap done))) b r =
    let others = binding_again scope n y z v w value bound sv sb more b r in
    let got = se n g.assignment ts _ others.0 a in
    (_, g.binding_label got.1 is others.1)

pub binding_label_again : {scope : Scope} {e : c.Expression} {id tag : List ℕ} {bound : c.Bindings} → Again scope e → AreBound bound → BoundStand scope bound → MarkAgain scope (c.mark e id tag bound)
unfolding operand
binding_label_again {bound = c.no_bindings} again filled all n ts rest more r = absurd filled
binding_label_again {scope} {e} {id} {tag} {bound = c.a_binding w value bound} again filled all n ts rest more (a_sign {at} (a_sign {at = x} r)) =
    let q = inside (operand n g.assignment e ++ comma_gap ++ constant id ∷ comma_gap ++ literal tag ∷ comma_gap ++ name w ∷ comma_gap ++ operand n g.assignment value ++ bindings n bound) r in
    let p1 = parted (operand n g.assignment e ++ comma_gap ++ constant id ∷ comma_gap ++ literal tag ∷ comma_gap ++ name w ∷ comma_gap ++ operand n g.assignment value) (bindings n bound) q.front in
    let p2 = parted (operand n g.assignment e ++ comma_gap ++ constant id ∷ comma_gap ++ literal tag ∷ comma_gap ++ name w ∷ comma_gap) (operand n g.assignment value) p1.front in
    let p3 = parted (operand n g.assignment e ++ comma_gap ++ constant id ∷ comma_gap ++ literal tag ∷ comma_gap) (name w ∷ comma_gap) p2.front in
    let p4 = parted (operand n g.assignment e ++ comma_gap ++ constant id ∷ comma_gap) (literal tag ∷ comma_gap) p3.front in
    let p5 = parted (operand n g.assignment e ++ comma_gap) (constant id ∷ comma_gap) p4.front in
    let p6 = parted (operand n g.assignment e) comma_gap p5.front in
    binding_label_from scope n e id tag w value bound again.stands all.0 all.1 at x q.end more p6.front p6.back p5.back p4.back p3.back p2.back p1.back

-- ---- marks

last_mark_from : (scope : Scope) (n : ℕ) (m : c.Mark) → MarkAgain scope m → (at : ℕ) {ts between rest : List Symbol} (more : List ℕ) → Reads (mark n m) ts (s.sign k.Comma at ∷ between) → Reads [] between rest
    → (spots : List ℕ) × g.AreMarks scope ts (c.a_mark m c.no_marks) rest spots more
last_mark_from scope n m again at {ts} {between} more x done = let got = again n ts (s.sign k.Comma at ∷ between) more x in (got.0, g.last_mark got.1)

pub last_mark_again : {scope : Scope} {m : c.Mark} → MarkAgain scope m → MarksAgain scope (c.a_mark m c.no_marks)
unfolding operand
last_mark_again {scope} {m} again n ts rest more r = let q = split_comma (mark n m) [] r in last_mark_from scope n m again q.at more q.front q.back

pub more_marks_again : {scope : Scope} {m : c.Mark} {ms : c.Marks} → MarkAgain scope m → MarksAgain scope ms → MarksAgain scope (c.a_mark m ms)
unfolding operand
more_marks_again {scope} {m} {ms} again others n ts rest more r =
    let q = split_comma (mark n m) (marks_pieces n ms) r in
    let behind = others n q.between rest more q.back in
    let got = again n ts (s.sign k.Comma q.at ∷ q.between) behind.0 q.front in
    (got.0, g.more_marks got.1 behind.1)
