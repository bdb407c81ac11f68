-- Statements with marks added do the same, new marks aside.
use Rattle.std.proofs.Common.{◌≡◌, ℕ, ℤ, zero, suc, List, [], ◌∷◌, Option, Some, None, Bool, true, false, refl, ap, subst}
use Rattle.std.specs.Prelude.{◌+◌, ◌||◌, pos, if◌then◌else◌}
use Rattle.std.specs.List.{list_any}
use Rattle.lt_model.specs.declared.cell.Content.{Content}
use Rattle.lt_model.specs.declared.cell.Content.TheVariants as content
use Rattle.lt_model.specs.declared.scalar.Scalar.{Scalar}
use Rattle.lt_model.specs.declared.run.End.TheVariants.{Steps, Stopped}
use Rattle.lt_model.specs.State.{untouched}
use Rattle.lt_tree.specs.Tree.{Unit as SourceUnit}
use Rattle.lt_tree.specs.Typing.Types.{CType, Num, is_struct}
use Rattle.lt_tree.specs.Typing.TypedTree as e
use Rattle.lt_tree.specs.Typing.TypedTree.{Value, Mark, Statement, Items, Cases, Label as CaseLabel, Local, Start, StartPart, type_of}
use Rattle.lt_tree.specs.Typing.Entities.{Function, Label, Fact, Declared, Frame, Object}
use Rattle.lt_tree.specs.Typing.Programs.{Program}
use Rattle.lt_ir.specs.declared.variable.Variable.{Variable}
use Rattle.lt_ir.specs.Running.{Step, ◌>>=◌, ◌>>◌, gives, place, begins, ends}
use Rattle.lt_ir.specs.Evaluation.{member_at}
use Rattle.lt_meaning.specs.Expressions.{Around, Calls, wanted, dropped, untaken, shape, assigned, eval, marked}
use Rattle.lt_meaning.specs.Statements.{Flow, Next, Breaks, Continues, Returns, after, next_turn, left_switch, type_of_object, is_sealed_object, put_at, spelled, filled, filled_all, is_zeroed, parts_in, sealed_if, within, within_all, tested, tested_if, stepped, turns, do_turns, looped, do_looped, is_case, is_default, has_label, entry_label, exec, exec_items, exec_cases}
use Rattle.lt_mark_laws.specs.Added as a
use Rattle.lt_mark_laws.specs.Added.{Adds, AddsTruth, Keeps, AddsPart, AddsParts, AddsStart, AddsLocal, AddsLocals, AddsOptional, AddsForStart, AddsStatement, AddsItems, AddsCases, AreSameObjects}
use Rattle.lt_mark_laws.proofs.Alike.{remarked, Same, same_at, then_same, gives_same, over_same, if_same}
use Rattle.lt_mark_laws.proofs.Machine.{number_same, used_same, member_same, place_same, tick_same, begins_same, ends_same, seals_same}
use Rattle.lt_mark_laws.proofs.Values.{truth_alone, marked_new_at}
use Rattle.lt_mark_laws.proofs.Objects as objects
use Rattle.lt_mark_laws.proofs.Expressions.{store_at, assigned_same, value_same, truth_part, mark_same}

abbrev opened_with : Around → ℕ → Bool → List StartPart → Step (Unit {0})
opened_with around n zeroed parts =
    begins (around.variable n) (shape around.program (type_of_object around.program n)) zeroed
    >> (filled_all around (around.variable n) parts >> sealed_if (is_sealed_object around.program n) (around.variable n))

abbrev within_with : Around → ℕ → Bool → List StartPart → Step Flow → Step Flow
within_with around n zeroed parts rest = opened_with around n zeroed parts >>= (λ _. rest >>= (λ flow. ends (around.variable n) >>= (λ _. gives flow)))

zeroed_same : (new : ℕ → Bool) (x y : Option Start) → AddsStart new x y → is_zeroed x ≡ is_zeroed y
zeroed_same new None None h = refl
zeroed_same new (Some a) (Some b) h = h.0
zeroed_same new None (Some b) h = absurd h
zeroed_same new (Some a) None h = absurd h

parts_added : (new : ℕ → Bool) (x y : Option Start) → AddsStart new x y → AddsParts new (parts_in x) (parts_in y)
parts_added new None None h = tt
parts_added new (Some a) (Some b) h = h.1
parts_added new None (Some b) h = absurd h
parts_added new (Some a) None h = absurd h

labels_same : {new : ℕ → Bool} {cs ds : Cases} (test : CaseLabel → Bool) → AddsCases new cs ds → has_label test cs ≡ has_label test ds
labels_same test a.no_cases = refl
labels_same test (a.a_case {labels} d rest) = ap (λ b. list_any test labels || b) (labels_same test rest)

entry_same : {new : ℕ → Bool} {cs ds : Cases} (z : ℤ) → AddsCases new cs ds → entry_label z cs ≡ entry_label z ds
entry_same z d = ap (λ b. if b then is_case z else is_default) (labels_same (is_case z) d)

module _ (new : ℕ → Bool) (P : Program) (u : SourceUnit) (ds : List Declared) (fs : List Function) (fr : Frame) (ls : List Label) (xs : List Fact) (os : List Object) (objects_same : AreSameObjects P.objects os) (variable : ℕ → Variable) (calls calls' : Calls) (calls_same : (f : List ℕ) (t : CType) (cs : List Content) (b : Bool) → Same new (calls f t cs b) (calls' f t cs b)) where
  abbrev S : {A : Type 0} → Step A → Step A → Type 0
  S s r = Same new s r

  abbrev Q : Program
  Q = record P { unit = u; declared = ds; functions = fs; file = fr; labels = ls; facts = xs; objects = os }

  abbrev here : Bool → Around
  here k = record { program = P; variable = variable; calls = calls; tracks = k }

  abbrev there : Bool → Around
  there k = record { program = Q; variable = variable; calls = calls'; tracks = k }

  value : (k : Bool) {v w : Value} → Adds new v w → (fate : _) → S (eval (here k) fate v) (eval (there k) fate w)
  value k d fate = value_same new P u ds fs fr ls xs os variable calls calls' calls_same k d fate

  -- ---- objects and how they start

  put_same : (v : Variable) (offset : ℕ) (t : CType) (c : Content) → S (put_at P v offset t c) (put_at Q v offset t c)
  put_same v offset t c = then_same new _ _ _ _ (place_same new v) (λ p. then_same new _ _ _ _ (member_same new offset p) (λ q. then_same new _ _ _ _ (store_at new P u ds fs fr ls xs os variable calls calls' calls_same false t q c untouched) (λ _. gives_same new (tt {0}))))

  spelled_same : (v : Variable) (s : Scalar) (offset : ℕ) (bytes : List ℕ) → S (spelled P v s offset bytes) (spelled Q v s offset bytes)
  spelled_same v s offset [] = gives_same new (tt {0})
  spelled_same v s offset (b ∷ bytes) = then_same new _ _ _ _ (put_same v offset (Num s) (content.Number (pos b))) (λ _. spelled_same v s (offset + 1) bytes)

  stored_part : (k : Bool) (v : Variable) (offset : ℕ) (t : CType) {x y : Value} → Adds new x y → S (place v >>= (λ p. member_at offset p >>= (λ q. eval (here k) wanted x >>= (λ it. assigned (here false) t q it.value untouched (is_struct t) >>= (λ _. gives (tt {0})))))) (place v >>= (λ p. member_at offset p >>= (λ q. eval (there k) wanted y >>= (λ it. assigned (there false) t q it.value untouched (is_struct t) >>= (λ _. gives (tt {0}))))))
  stored_part k v offset t d = then_same new _ _ _ _ (place_same new v) (λ p. then_same new _ _ _ _ (member_same new offset p) (λ q. then_same new _ _ _ _ (value k d wanted) (λ it. then_same new _ _ _ _ (assigned_same new P u ds fs fr ls xs os variable calls calls' calls_same (is_struct t) false t q it.value untouched) (λ _. gives_same new (tt {0})))))

  filled_same : (k : Bool) (v : Variable) (x y : StartPart) → AddsPart new x y → S (filled (here k) v x) (filled (there k) v y)
  filled_same k v (e.stored m x) (e.stored n y) h = subst (λ n. S (filled (here k) v (e.stored m x)) (filled (there k) v (e.stored n y))) h.0 (subst (λ t. S (filled (here k) v (e.stored m x)) (place v >>= (λ p. member_at m p >>= (λ q. eval (there k) wanted y >>= (λ it. assigned (there false) t q it.value untouched (is_struct t) >>= (λ _. gives (tt {0}))))))) h.1 (stored_part k v m (type_of x) h.2))
  filled_same k v (e.fixed m t c) y h = subst (λ y. S (filled (here k) v (e.fixed m t c)) (filled (there k) v y)) h (over_same new _ Stopped)
  filled_same k v (e.letters m s bytes) y h = subst (λ y. S (filled (here k) v (e.letters m s bytes)) (filled (there k) v y)) h (spelled_same v s m bytes)
  filled_same k v (e.stored m x) (e.fixed n t c) h = absurd h
  filled_same k v (e.stored m x) (e.letters n s bytes) h = absurd h

  all_filled_same : (k : Bool) (v : Variable) (ps qs : List StartPart) → AddsParts new ps qs → S (filled_all (here k) v ps) (filled_all (there k) v qs)
  all_filled_same k v [] [] h = gives_same new (tt {0})
  all_filled_same k v (p ∷ ps) (q ∷ qs) h = then_same new _ _ _ _ (filled_same k v p q h.0) (λ _. all_filled_same k v ps qs h.1)
  all_filled_same k v [] (q ∷ qs) h = absurd h
  all_filled_same k v (p ∷ ps) [] h = absurd h

  sealed_same : (b : Bool) (v : Variable) → S (sealed_if b v) (sealed_if b v)
  sealed_same true v = seals_same new v
  sealed_same false v = gives_same new (tt {0})

  seal_at : (n : ℕ) (v : Variable) → S (sealed_if (is_sealed_object P n) v) (sealed_if (is_sealed_object Q n) v)
  seal_at n v = subst (λ b. S (sealed_if (is_sealed_object P n) v) (sealed_if b v)) (objects.sealed_same P.objects os objects_same n) (sealed_same (is_sealed_object P n) v)

  begins_at : (n : ℕ) (v : Variable) (z : Bool) → S (begins v (shape P (type_of_object P n)) z) (begins v (shape Q (type_of_object Q n)) z)
  begins_at n v z = subst (λ t. S (begins v (shape P (type_of_object P n)) z) (begins v (shape P t) z)) (objects.type_same P.objects os objects_same n) (begins_same new v (shape P (type_of_object P n)) z)

  within_same : (k : Bool) (x y : Local) → AddsLocal new x y → (s r : Step Flow) → S s r → S (within (here k) x s) (within (there k) y r)
  within_same k x y h s r go = subst (λ n. S (within (here k) x s) (within_with (there k) n (is_zeroed y.start) (parts_in y.start) r)) h.0 (subst (λ z. S (within (here k) x s) (within_with (there k) x.object z (parts_in y.start) r)) (zeroed_same new x.start y.start h.1) within_it)
    where
      within_it : S (within (here k) x s) (within_with (there k) x.object (is_zeroed x.start) (parts_in y.start) r)
      within_it = then_same new _ _ _ _ (then_same new _ _ _ _ (begins_at x.object (variable x.object) (is_zeroed x.start)) (λ _. then_same new _ _ _ _ (all_filled_same k (variable x.object) (parts_in x.start) (parts_in y.start) (parts_added new x.start y.start h.1)) (λ _. seal_at x.object (variable x.object)))) (λ _. then_same new s r _ _ go (λ flow. then_same new _ _ _ _ (ends_same new (variable x.object)) (λ _. gives_same new flow)))

  all_within_same : (k : Bool) (x y : List Local) → AddsLocals new x y → (s r : Step Flow) → S s r → S (within_all (here k) x s) (within_all (there k) y r)
  all_within_same k [] [] h s r go = go
  all_within_same k (x ∷ xs') (y ∷ ys) h s r go = within_same k x y h.0 _ _ (all_within_same k xs' ys h.1 s r go)
  all_within_same k [] (y ∷ ys) h s r go = absurd h
  all_within_same k (x ∷ xs') [] h s r go = absurd h

  -- ---- tests and loops

  tested_same : (k : Bool) {v w : Value} → AddsTruth new v w → S (tested (here k) v) (tested (there k) w)
  tested_same k {v} {w} d = truth_alone new (eval (here k) wanted v) (eval (there k) wanted w) (truth_part new P u ds fs fr ls xs os variable calls calls' calls_same k d)

  tested_if_same : (k : Bool) (v w : Option Value) → AddsOptional (AddsTruth new) v w → S (tested_if (here k) v) (tested_if (there k) w)
  tested_if_same k None None h = gives_same new true
  tested_if_same k (Some v) (Some w) h = tested_same k h
  tested_if_same k None (Some w) h = absurd h
  tested_if_same k (Some v) None h = absurd h

  stepped_same : (k : Bool) (v w : Option Value) → AddsOptional (Adds new) v w → S (stepped (here k) v) (stepped (there k) w)
  stepped_same k None None h = gives_same new (tt {0})
  stepped_same k (Some v) (Some w) h = then_same new _ _ _ _ (value k h dropped) (λ _. gives_same new (tt {0}))
  stepped_same k None (Some w) h = absurd h
  stepped_same k (Some v) None h = absurd h

  after_same : (flow : Flow) (s r : Step Flow) → S s r → S (after flow s) (after flow r)
  after_same Next s r h = h
  after_same Breaks s r h = gives_same new Breaks
  after_same Continues s r h = gives_same new Continues
  after_same (Returns c) s r h = gives_same new (Returns c)

  next_turn_same : (flow : Flow) (s r : Step Flow) → S s r → S (next_turn flow s) (next_turn flow r)
  next_turn_same Next s r h = h
  next_turn_same Continues s r h = h
  next_turn_same Breaks s r h = gives_same new Next
  next_turn_same (Returns c) s r h = gives_same new (Returns c)

  turns_same : (n : ℕ) (test test' : Step Bool) (step step' : Step (Unit {0})) (body body' : Step Flow) → S test test' → S step step' → S body body' → S (turns n test step body) (turns n test' step' body')
  turns_same zero test test' step step' body body' h1 h2 h3 = over_same new _ Steps
  turns_same (suc n) test test' step step' body body' h1 h2 h3 = then_same new _ _ _ _ (tick_same new) (λ _. then_same new test test' _ _ h1 (λ holds. if_same new holds _ _ _ _ (then_same new body body' _ _ h3 (λ flow. next_turn_same flow _ _ (then_same new step step' _ _ h2 (λ _. turns_same n test test' step step' body body' h1 h2 h3)))) (gives_same new Next)))

  do_turns_same : (n : ℕ) (test test' : Step Bool) (body body' : Step Flow) → S test test' → S body body' → S (do_turns n test body) (do_turns n test' body')
  do_turns_same zero test test' body body' h1 h3 = over_same new _ Steps
  do_turns_same (suc n) test test' body body' h1 h3 = then_same new body body' _ _ h3 (λ flow. next_turn_same flow _ _ (then_same new _ _ _ _ (tick_same new) (λ _. then_same new test test' _ _ h1 (λ holds. if_same new holds _ _ _ _ (do_turns_same n test test' body body' h1 h3) (gives_same new Next)))))

  looped_same : (k : Bool) (v w s r : Option Value) (body body' : Step Flow) → AddsOptional (AddsTruth new) v w → AddsOptional (Adds new) s r → S body body' → S (looped (here k) v s body) (looped (there k) w r body')
  looped_same k v w s r body body' h1 h2 h3 = record { alike = λ at ms same. (turns_same (suc at.ticks) _ _ _ _ body body' (tested_if_same k v w h1) (stepped_same k s r h2) h3).alike at ms same }

  do_looped_same : (k : Bool) {v w : Value} (body body' : Step Flow) → AddsTruth new v w → S body body' → S (do_looped (here k) v body) (do_looped (there k) w body')
  do_looped_same k body body' d h = record { alike = λ at ms same. (do_turns_same (suc at.ticks) _ _ body body' (tested_same k d) h).alike at ms same }

  -- ---- statements

  for_same : (k : Bool) (x y : e.ForStart) → AddsForStart new x y → (v w s r : Option Value) → AddsOptional (AddsTruth new) v w → AddsOptional (Adds new) s r → (c d : Statement) → S (exec (here k) c) (exec (there k) d) → S (exec (here k) (e.For x v s c)) (exec (there k) (e.For y w r d))
  for_same k e.Nothing e.Nothing h v w s r h1 h2 c d h3 = then_same new _ _ _ _ (tick_same new) (λ _. looped_same k v w s r _ _ h1 h2 h3)
  for_same k (e.First x) (e.First y) h v w s r h1 h2 c d h3 = then_same new _ _ _ _ (tick_same new) (λ _. then_same new _ _ _ _ (value k h dropped) (λ _. looped_same k v w s r _ _ h1 h2 h3))
  for_same k (e.Locals x) (e.Locals y) h v w s r h1 h2 c d h3 = then_same new _ _ _ _ (tick_same new) (λ _. all_within_same k x y h _ _ (looped_same k v w s r _ _ h1 h2 h3))
  for_same k e.Nothing (e.First y) h v w s r h1 h2 c d h3 = absurd h
  for_same k e.Nothing (e.Locals y) h v w s r h1 h2 c d h3 = absurd h
  for_same k (e.First x) e.Nothing h v w s r h1 h2 c d h3 = absurd h
  for_same k (e.First x) (e.Locals y) h v w s r h1 h2 c d h3 = absurd h
  for_same k (e.Locals x) e.Nothing h v w s r h1 h2 c d h3 = absurd h
  for_same k (e.Locals x) (e.First y) h v w s r h1 h2 c d h3 = absurd h

  return_same : (k : Bool) (v w : Option Value) → AddsOptional (Adds new) v w → S (exec (here k) (e.Return v)) (exec (there k) (e.Return w))
  return_same k None None h = then_same new _ _ _ _ (tick_same new) (λ _. gives_same new (Returns None))
  return_same k (Some v) (Some w) h = then_same new _ _ _ _ (tick_same new) (λ _. then_same new _ _ _ _ (then_same new _ _ _ _ (value k h wanted) (λ x. used_same new x.value)) (λ c. gives_same new (Returns (Some c))))
  return_same k None (Some w) h = absurd h
  return_same k (Some v) None h = absurd h

  mutual
    statement_same : (k : Bool) {c d : Statement} → AddsStatement new c d → S (exec (here k) c) (exec (there k) d)
    statement_same k (a.Compound d) = items_same k d
    statement_same k (a.Evaluates d) = then_same new _ _ _ _ (tick_same new) (λ _. then_same new _ _ _ _ (value k d untaken) (λ _. gives_same new Next))
    statement_same k a.Null = then_same new _ _ _ _ (tick_same new) (λ _. gives_same new Next)
    statement_same k (a.If d1 d2) = then_same new _ _ _ _ (tick_same new) (λ _. then_same new _ _ _ _ (tested_same k d1) (λ holds. if_same new holds _ _ _ _ (statement_same k d2) (gives_same new Next)))
    statement_same k (a.IfElse d1 d2 d3) = then_same new _ _ _ _ (tick_same new) (λ _. then_same new _ _ _ _ (tested_same k d1) (λ holds. if_same new holds _ _ _ _ (statement_same k d2) (statement_same k d3)))
    statement_same k (a.While {v} {w} d1 d2) = then_same new _ _ _ _ (tick_same new) (λ _. looped_same k (Some v) (Some w) None None _ _ d1 tt (statement_same k d2))
    statement_same k (a.Do d1 d2) = then_same new _ _ _ _ (tick_same new) (λ _. do_looped_same k _ _ d2 (statement_same k d1))
    statement_same k (a.For {x} {y} {v} {w} {s} {r} {a = c} {b = d} h h1 h2 d3) = for_same k x y h v w s r h1 h2 c d (statement_same k d3)
    statement_same k (a.Switch {a = cs} {b = ds'} d1 d2) = then_same new _ _ _ _ (tick_same new) (λ _. then_same new _ _ _ _ (then_same new _ _ _ _ (value k d1 wanted) (λ x. number_same new x.value)) (λ z. then_same new _ _ _ _ (subst (λ entry. S (exec_cases (here k) (entry_label z cs) false cs) (exec_cases (there k) entry false ds')) (entry_same z d2) (cases_same k d2 (entry_label z cs) false)) (λ flow. gives_same new (left_switch flow))))
    statement_same k a.Break = then_same new _ _ _ _ (tick_same new) (λ _. gives_same new Breaks)
    statement_same k a.Continue = then_same new _ _ _ _ (tick_same new) (λ _. gives_same new Continues)
    statement_same k (a.Return {v} {w} h) = return_same k v w h

    pub items_same : (k : Bool) {is js : Items} → AddsItems new is js → S (exec_items (here k) is) (exec_items (there k) js)
    items_same k a.no_items = gives_same new Next
    items_same k (a.a_local {a = x} {b = y} h d) = within_same k x y h _ _ (items_same k d)
    items_same k (a.a_statement d1 d2) = then_same new _ _ _ _ (statement_same k d1) (λ flow. after_same flow _ _ (items_same k d2))
    items_same k (a.a_label d1 d2) = record { alike = λ at ms same. same_at new _ _ _ _ (items_same k d2) (mark_same new P u ds fs fr ls xs os variable calls calls' calls_same k d1 at (remarked ms at) (refl, same)) }
    items_same k (a.an_added_label {predicate} {id} {bound} is_new d) = record { alike = λ at ms same. same_at new _ _ at (marked (there k) (e.mark predicate id bound) (remarked ms at)) (items_same k d) (marked_new_at new (there k) predicate id bound at (remarked ms at) is_new (refl, same)) }

    cases_same : (k : Bool) {cs ds' : Cases} → AddsCases new cs ds' → (entry : CaseLabel → Bool) (runs : Bool) → S (exec_cases (here k) entry runs cs) (exec_cases (there k) entry runs ds')
    cases_same k a.no_cases entry runs = gives_same new Next
    cases_same k (a.a_case {labels} d rest) entry runs = if_same new (runs || list_any entry labels) _ _ _ _ (then_same new _ _ _ _ (statement_same k d) (λ flow. after_same flow _ _ (cases_same k rest entry true))) (cases_same k rest entry false)
