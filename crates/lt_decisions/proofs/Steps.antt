-- What is ahead of a walk after each of its steps.
use Rattle.std.proofs.Common.{◌≡◌, refl, sym, ap, ◌∙◌, subst, ℕ, suc, ◌+◌, ◌<◌, ◌≤◌, min, max, List, [], ◌∷◌, ◌++◌, length, get_or, drop, Option, None, unwrap_or, append_assoc, length-append, arith}
use Rattle.std.specs.List.{flat_map}
use Rattle.std.proofs.lemmas.List.{append-nil}
use Rattle.lt_tree.specs.declared.expression.UnaryOp.TheVariants as unary
use Rattle.lt_tree.specs.declared.expression.LogicalOp.{LogicalOp}
use Rattle.lt_tree.specs.Tree as c
use Rattle.lt_tree.specs.Nodes.{Node, an_expression, a_mark, in_expression, in_marks, in_mark}
use Rattle.lt_objectives.specs.Decisions.{Test, test_at, in_after}
use Rattle.lt_sites.specs.declared.site.Site.{Site}
use Rattle.lt_sites.specs.Sites.{node_of, in_node, part_of, entry_of}
use Rattle.lt_decisions.specs.declared.turn.Tests.{Tests}
use Rattle.lt_decisions.specs.declared.turn.Tests.TheVariants as tests
use Rattle.lt_decisions.specs.declared.turn.Turn.{Turn}
use Rattle.lt_decisions.specs.declared.turn.Turn.TheVariants as turn
use Rattle.lt_decisions.specs.declared.walk.Cursor.{Cursor}
use Rattle.lt_decisions.specs.Turns.{turn_at, turn_in}
use Rattle.lt_decisions.specs.Walk.{Stand, Leads, ahead, tests_of, tests_from, noted, noted_all}
use Rattle.lt_decisions.proofs.Standing.{front, back, within, head, tail, fits}

abbrev pub cursor : ℕ → Option ℕ → Cursor
cursor k after = record { number = k; after = after }

-- what is ahead behind a step of each kind from this place; `behind` is the number behind the part that begins here
abbrev pub Goes : List Site → Tests → ℕ → Option ℕ → (behind last : ℕ) → (found whole : List (Option ℕ)) → Turn → Type 0
Goes list what k after behind last found whole turn.Skip = Leads list what (cursor behind after) last found whole
Goes list what k after behind last found whole turn.Inside = Leads list what (cursor (k + 1) after) last found whole
Goes list what k after behind last found whole turn.After = Leads list what (cursor (k + 1) (in_after after k)) last found whole
Goes list what k after behind last found whole turn.Operands = Leads list what (cursor (k + 1) None) last found whole
Goes list what k after behind last found whole turn.Test = Leads list what (cursor behind None) last (noted found k (unwrap_or after k)) whole

-- expressions of which the first begins behind marks
pub before : (list : List Site) (what : Tests) (k : ℕ) (after : Option ℕ) (last : ℕ) (found whole : List (Option ℕ)) (ms : c.Marks) (e : c.Expression) (es : List c.Expression)
    (first : List Test) (behind : ℕ) → Stand list k (in_marks ms ++ in_expression e ++ flat_map in_expression es) → k + length (in_marks ms ++ in_expression e ++ flat_map in_expression es) ≡ last →
    tests_of what after (k + length (in_marks ms)) e ≡ first → behind ≡ k + length (in_marks ms) + length (in_expression e) →
    noted_all found (first ++ tests_from what None behind es) ≡ whole → Leads list what (cursor k after) last found whole
before list what k after last found whole ms e es first behind stand ends is behind_is leads =
    let join = append_assoc (in_marks ms) (in_expression e) (flat_map in_expression es) in
    let S : List Node → Type 0 = λ part. Stand list k part in
    record {
      marks = ms;
      expressions = e ∷ es;
      stand = subst S join stand;
      ends = ap (λ part. k + length part) (sym join) ∙ ends;
      leads = ap (λ it. noted_all found (it ++ tests_from what None (k + length (in_marks ms) + length (in_expression e)) es)) is
          ∙ ap (λ n. noted_all found (first ++ tests_from what None n es)) (sym behind_is) ∙ leads;
    }

-- a test, with what follows it
test : (list : List Site) (what : Tests) (k : ℕ) (after : Option ℕ) (behind last : ℕ) (found whole : List (Option ℕ)) (e : c.Expression) (es : List c.Expression) →
    Stand list k (in_expression e ++ flat_map in_expression es) → k + length (in_expression e ++ flat_map in_expression es) ≡ last →
    behind ≡ k + length (in_expression e) → tests_of what after k e ≡ test_at after k e ∷ [] →
    noted_all found (tests_of what after k e ++ tests_from what None behind es) ≡ whole → Leads list what (cursor behind None) last (noted found k (unwrap_or after k)) whole
test list what k after behind last found whole e es stand ends behind_is is leads =
    let S : ℕ → Type 0 = λ n. Stand list n (flat_map in_expression es) in
    let none : behind + 0 ≡ behind = omega arith in
    record {
      marks = c.no_marks;
      expressions = es;
      stand = subst S (sym behind_is) (back (in_expression e) (flat_map in_expression es) stand);
      ends = omega (arith, length-append (in_expression e) (flat_map in_expression es));
      leads = ap (λ n. noted_all (noted found k (unwrap_or after k)) (tests_from what None n es)) none
          ∙ sym (ap (λ it. noted_all found (it ++ tests_from what None behind es)) is) ∙ leads;
    }

-- the marks around an expression add nothing
pub in_marked : (what : Tests) (after : Option ℕ) (k : ℕ) (ms : c.Marks) (e : c.Expression) → tests_of what after (k + 1 + length (in_marks ms)) e ≡ tests_of what after k (c.Marked ms e)
in_marked tests.Decisions after k ms e = refl
in_marked tests.Clauses after k ms e = refl

pub in_decide : (what : Tests) (after : Option ℕ) (k : ℕ) (e : c.Expression) (when_true when_false tag : List ℕ) →
    tests_of what after (k + 1) e ≡ tests_of what after k (c.Decide e when_true when_false tag)
in_decide tests.Decisions after k e when_true when_false tag = refl
in_decide tests.Clauses after k e when_true when_false tag = refl

pub inside_after : (what : Tests) (after : Option ℕ) (k : ℕ) (e : c.Expression) (id tag : List ℕ) → tests_of what (in_after after k) (k + 1) e ≡ tests_of what after k (c.After e id tag)
inside_after tests.Decisions after k e id tag = refl
inside_after tests.Clauses after k e id tag = refl

-- an expression around one operand
around : (list : List Site) (what : Tests) (k : ℕ) (after inner : Option ℕ) (behind last : ℕ) (found whole : List (Option ℕ)) (x e : c.Expression) (es : List c.Expression) →
    in_expression x ≡ an_expression x ∷ in_expression e → Stand list k (in_expression x ++ flat_map in_expression es) →
    k + length (in_expression x ++ flat_map in_expression es) ≡ last → behind ≡ k + length (in_expression x) →
    tests_of what inner (k + 1) e ≡ tests_of what after k x → noted_all found (tests_of what after k x ++ tests_from what None behind es) ≡ whole →
    Leads list what (cursor (k + 1) inner) last found whole
around list what k after inner behind last found whole x e es part stand ends behind_is is leads =
    let S : List Node → Type 0 = λ xs. Stand list k (xs ++ flat_map in_expression es) in
    let size : length (in_expression x) ≡ suc (length (in_expression e)) = ap length part in
    let all : length (in_expression x ++ flat_map in_expression es) ≡ suc (length (in_expression e ++ flat_map in_expression es)) = ap (λ xs. length (xs ++ flat_map in_expression es)) part in
    let none : k + 1 + 0 ≡ k + 1 = omega arith in
    before list what (k + 1) inner last found whole c.no_marks e es (tests_of what after k x) behind (tail (subst S part stand)) (omega arith) (ap (λ n. tests_of what inner n e) none ∙ is)
    (omega arith) leads

-- the operands of a connective
operands : (list : List Site) (k : ℕ) (after : Option ℕ) (behind last : ℕ) (found whole : List (Option ℕ)) (op : LogicalOp) (left right : c.Expression) (es : List c.Expression) →
    Stand list k (in_expression (c.Logical op left right) ++ flat_map in_expression es) → k + length (in_expression (c.Logical op left right) ++ flat_map in_expression es) ≡ last →
    behind ≡ k + length (in_expression (c.Logical op left right)) →
    noted_all found (tests_of tests.Clauses after k (c.Logical op left right) ++ tests_from tests.Clauses None behind es) ≡ whole →
    Leads list tests.Clauses (cursor (k + 1) None) last found whole
operands list k after behind last found whole op left right es stand ends behind_is leads =
    let firsts = in_expression left in
    let rest = flat_map in_expression es in
    let join = append_assoc firsts (in_expression right) rest in
    let S : List Node → Type 0 = λ xs. Stand list (k + 1) xs in
    let none : k + 1 + 0 ≡ k + 1 = omega arith in
    let far : k + 1 + length firsts + length (in_expression right) ≡ behind = omega (arith, length-append firsts (in_expression right)) in
    let tests_left = tests_of tests.Clauses None (k + 1) left in
    let tests_right = tests_of tests.Clauses None (k + 1 + length firsts) right in
    before list tests.Clauses (k + 1) None last found whole c.no_marks left (right ∷ es) tests_left (k + 1 + length firsts) (subst S join (tail stand))
    (omega (arith, ap length join)) (ap (λ n. tests_of tests.Clauses None n left) none) (omega arith)
    (ap (λ n. noted_all found (tests_left ++ (tests_right ++ tests_from tests.Clauses None n es))) far
    ∙ sym (ap (noted_all found) (append_assoc tests_left tests_right (tests_from tests.Clauses None behind es))) ∙ leads)

by_expression : (list : List Site) (what : Tests) (e : c.Expression) (k : ℕ) (after : Option ℕ) (behind last : ℕ) (found whole : List (Option ℕ)) (es : List c.Expression) →
    Stand list k (in_expression e ++ flat_map in_expression es) → k + length (in_expression e ++ flat_map in_expression es) ≡ last → behind ≡ k + length (in_expression e) →
    noted_all found (tests_of what after k e ++ tests_from what None behind es) ≡ whole → Goes list what k after behind last found whole (turn_in what e)
by_expression list what (c.Marked ms e) k after behind last found whole es stand ends behind_is leads =
    before list what (k + 1) after last found whole ms e es (tests_of what after k (c.Marked ms e)) behind (tail stand) (omega arith) (in_marked what after k ms e)
    (omega (arith, length-append (in_marks ms) (in_expression e))) leads
by_expression list what (c.Decide e when_true when_false tag) k after behind last found whole es stand ends behind_is leads =
    around list what k after after behind last found whole (c.Decide e when_true when_false tag) e es refl stand ends behind_is (in_decide what after k e when_true when_false tag) leads
by_expression list what (c.After e id tag) k after behind last found whole es stand ends behind_is leads =
    around list what k after (in_after after k) behind last found whole (c.After e id tag) e es refl stand ends behind_is (inside_after what after k e id tag) leads
by_expression list tests.Clauses (c.Logical op left right) k after behind last found whole es stand ends behind_is leads =
    operands list k after behind last found whole op left right es stand ends behind_is leads
by_expression list tests.Clauses (c.Unary unary.Not e) k after behind last found whole es stand ends behind_is leads =
    around list tests.Clauses k after None behind last found whole (c.Unary unary.Not e) e es refl stand ends behind_is refl leads
by_expression list tests.Clauses e k after behind last found whole es stand ends behind_is leads =
    test list tests.Clauses k after behind last found whole e es stand ends behind_is refl leads
by_expression list tests.Decisions (c.Unary unary.Not e) k after behind last found whole es stand ends behind_is leads =
    test list tests.Decisions k after behind last found whole (c.Unary unary.Not e) es stand ends behind_is refl leads
by_expression list tests.Decisions e k after behind last found whole es stand ends behind_is leads =
    test list tests.Decisions k after behind last found whole e es stand ends behind_is refl leads

pub begins : (e : c.Expression) → in_expression e ≡ an_expression e ∷ drop 1 (in_expression e)
begins (c.Name w) = refl
begins e = refl

-- the node at a site where a part stands, and the number behind the part
at_part : (list : List Site) (k behind : ℕ) (site : Site) (x : Node) (rest : List Node) → in_node x ≡ x ∷ drop 1 (in_node x) → site ≡ get_or list k site →
    behind ≡ min (k + max 1 site.size) (length list) → Stand list k (in_node x ++ rest) → (node_of site.node ≡ x) × (behind ≡ k + length (in_node x))
at_part list k behind site x rest begin is behind_is stand =
    let S : List Node → Type 0 = λ xs. Stand list k (xs ++ rest) in
    let begun : Stand list k (x ∷ (drop 1 (in_node x) ++ rest)) = subst S begin stand in
    let entry : entry_of site ≡ part_of x = ap entry_of is ∙ head site begun in
    let size : site.size ≡ length (in_node x) = ap (λ it. it.size) entry in
    let some : length (in_node x) ≡ suc (length (drop 1 (in_node x))) = ap length begin in
    let here : k < length list = within begun in
    let inside : k + length (in_node x) ≤ length list = fits (in_node x) (front (in_node x) rest stand) (omega arith) in
    (ap (λ it. it.node) entry, omega arith)

by_mark : (list : List Site) (what : Tests) (k : ℕ) (after : Option ℕ) (behind last : ℕ) (found whole : List (Option ℕ)) (m : c.Mark) (ms : c.Marks) (es : List c.Expression) →
    behind ≡ k + length (in_mark m) → Stand list k (in_mark m ++ ahead ms es) → k + length (in_mark m ++ ahead ms es) ≡ last →
    noted_all found (tests_from what after (k + length (in_marks (c.a_mark m ms))) es) ≡ whole → Leads list what (cursor behind after) last found whole
by_mark list what k after behind last found whole m ms es behind_is stand ends leads =
    let S : ℕ → Type 0 = λ n. Stand list n (ahead ms es) in
    let far : behind + length (in_marks ms) ≡ k + length (in_marks (c.a_mark m ms)) = omega (arith, length-append (in_mark m) (in_marks ms)) in
    record {
      marks = ms;
      expressions = es;
      stand = subst S (sym behind_is) (back (in_mark m) (ahead ms es) stand);
      ends = omega (arith, length-append (in_mark m) (ahead ms es));
      leads = ap (λ n. noted_all found (tests_from what after n es)) far ∙ leads;
    }

by_ahead : (list : List Site) (what : Tests) (k : ℕ) (after : Option ℕ) (behind last : ℕ) (found whole : List (Option ℕ)) (site : Site) (ms : c.Marks) (es : List c.Expression) →
    site ≡ get_or list k site → behind ≡ min (k + max 1 site.size) (length list) → k < last →
    Stand list k (ahead ms es) → k + length (ahead ms es) ≡ last → noted_all found (tests_from what after (k + length (in_marks ms)) es) ≡ whole →
    Goes list what k after behind last found whole (turn_at what (node_of site.node))
by_ahead list what k after behind last found whole site c.no_marks [] is behind_is more stand ends leads = absurd (omega arith)
by_ahead list what k after behind last found whole site (c.a_mark (c.mark p id tag bound) ms) es is behind_is more stand ends leads =
    let m = c.mark p id tag bound in
    let join = append_assoc (in_mark m) (in_marks ms) (flat_map in_expression es) in
    let S : List Node → Type 0 = λ xs. Stand list k xs in
    let split : Stand list k (in_mark m ++ ahead ms es) = subst S join stand in
    let here = at_part list k behind site (a_mark m) (ahead ms es) refl is behind_is split in
    let G : Node → Type 0 = λ x. Goes list what k after behind last found whole (turn_at what x) in
    subst G (sym here.0) (by_mark list what k after behind last found whole m ms es here.1 split (omega (arith, ap length join)) leads)
by_ahead list what k after behind last found whole site c.no_marks (e ∷ es) is behind_is more stand ends leads =
    let here = at_part list k behind site (an_expression e) (flat_map in_expression es) (begins e) is behind_is stand in
    let G : Node → Type 0 = λ x. Goes list what k after behind last found whole (turn_at what x) in
    let none : k ≡ k + 0 = omega arith in
    let far : behind ≡ k + 0 + length (in_expression e) = omega (arith, here.1) in
    subst G (sym here.0) (by_expression list what e k after behind last found whole es stand ends here.1
    (ap (λ n. noted_all found (tests_of what after n e ++ tests_from what None behind es)) none
    ∙ ap (λ n. noted_all found (tests_of what after (k + 0) e ++ tests_from what None n es)) far ∙ leads))

-- what is ahead behind the step that a walk makes
pub goes : (list : List Site) (what : Tests) (at : Cursor) (behind last : ℕ) (found whole : List (Option ℕ)) (site : Site) → site ≡ get_or list at.number site →
    behind ≡ min (at.number + max 1 site.size) (length list) → at.number < last → Leads list what at last found whole → (step : Turn) → step ≡ turn_at what (node_of site.node) →
    Goes list what at.number at.after behind last found whole step
goes list what at behind last found whole site is behind_is more leads step step_is =
    let G : Turn → Type 0 = λ it. Goes list what at.number at.after behind last found whole it in
    subst G (sym step_is) (by_ahead list what at.number at.after behind last found whole site leads.marks leads.expressions is behind_is more leads.stand leads.ends leads.leads)

-- what is ahead at the start of a walk
pub starts : (list : List Site) (what : Tests) (k last : ℕ) (found : List (Option ℕ)) (site : Site) (e : c.Expression) → site ≡ get_or list k site →
    last ≡ min (k + max 1 site.size) (length list) → Stand list k (in_expression e) → Leads list what (cursor k None) last found (noted_all found (tests_of what None k e))
starts list what k last found site e is last_is stand =
    let S : List Node → Type 0 = λ xs. Stand list k xs in
    let alone : Stand list k (in_expression e ++ []) = subst S (sym (append-nil (in_expression e))) stand in
    let last_at : last ≡ k + length (in_expression e) = (at_part list k last site (an_expression e) [] (begins e) is last_is alone).1 in
    let none : k + 0 ≡ k = omega arith in
    before list what k None last found (noted_all found (tests_of what None k e)) c.no_marks e [] (tests_of what None k e) last alone
    (omega (arith, ap length (append-nil (in_expression e)))) (ap (λ n. tests_of what None n e) none) (omega arith) (ap (noted_all found) (append-nil (tests_of what None k e)))

all_found : (list : List Site) (what : Tests) (k : ℕ) (after : Option ℕ) (last : ℕ) (found whole : List (Option ℕ)) (ms : c.Marks) (es : List c.Expression) → last ≤ k →
    k + length (ahead ms es) ≡ last → noted_all found (tests_from what after (k + length (in_marks ms)) es) ≡ whole → found ≡ whole
all_found list what k after last found whole ms [] over ends leads = leads
all_found list what k after last found whole ms (e ∷ es) over ends leads =
    let rest = flat_map in_expression es in
    let some : length (in_expression e) ≡ suc (length (drop 1 (in_expression e))) = ap length (begins e) in
    absurd (omega (arith, length-append (in_marks ms) (in_expression e ++ rest), length-append (in_expression e) rest))

-- at the last number everything is found
pub finds : (list : List Site) (what : Tests) (at : Cursor) (last : ℕ) (found whole : List (Option ℕ)) → last ≤ at.number → Leads list what at last found whole → found ≡ whole
finds list what at last found whole over leads = all_found list what at.number at.after last found whole leads.marks leads.expressions over leads.ends leads.leads
