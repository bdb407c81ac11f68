-- Statements do the same where types have other numbers.
use Rattle.std.proofs.Common.{ℕ, pos, zero, suc, List, [], ◌∷◌, Option, Some, None, Bool, true, false, refl, sym, subst}
use Rattle.std.specs.Prelude.{◌+◌, ◌||◌}
use Rattle.std.specs.List.{list_any}
use Rattle.lt_model.specs.declared.cell.Content.{Content}
use Rattle.lt_model.specs.declared.cell.Content.TheVariants as content
use Rattle.lt_model.specs.declared.scalar.Scalar.{Scalar}
use Rattle.lt_model.specs.declared.run.End.TheVariants.{Steps, Stopped}
use Rattle.lt_model.specs.State.{untouched}
use Rattle.lt_tree.specs.Typing.Types.{CType, Num, is_struct}
use Rattle.lt_tree.specs.Typing.TypedTree as e
use Rattle.lt_tree.specs.Typing.TypedTree.{Value, Statement, Items, Cases, Label as CaseLabel, Local, Start, StartPart, type_of}
use Rattle.lt_tree.specs.Typing.Programs.{Program}
use Rattle.lt_ir.specs.declared.variable.Variable.{Variable}
use Rattle.lt_ir.specs.Running.{Step, begins}
use Rattle.lt_meaning.specs.Expressions.{Around, Calls, Fate, wanted, dropped, untaken, shape, eval}
use Rattle.lt_meaning.specs.Statements.{Flow, Next, Breaks, Continues, Returns, after, next_turn, left_switch, type_of_object, is_sealed_object, put_at, spelled, filled, filled_all, is_zeroed, parts_in, sealed_if, within, within_all, tested, tested_if, stepped, turns, do_turns, looped, do_looped, entry_label, exec, exec_items, exec_cases}
use Rattle.lt_type_laws.specs.Accesses.{Accesses, AccessesPart, AccessesParts, AccessesStart, AccessesLocals, AccessesOptional, AccessesForStart, AccessesStatement, AccessesItems, AccessesCases}
use Rattle.lt_type_laws.proofs.Memory.{Comparison, numbers}
use Rattle.lt_type_laws.proofs.Alike.{Same, then_same, gives_same, over_same, if_same}
use Rattle.lt_type_laws.proofs.Machine.{number_same, truth_same, used_same, member_same, stored_same, place_same, tick_same, begins_same, ends_same, seals_same}
use Rattle.lt_type_laws.proofs.Programs.{IsAlike, object_shape}
use Rattle.lt_type_laws.proofs.Expressions.{assigned_same, value_same, mark_same, behind_mark}

module _ (seen : Comparison) (test : CType → Bool) (P : Program) (ts : List CType) (program_alike : IsAlike seen test P ts)
    (variable : ℕ → Variable) (calls calls' : Calls) (calls_same : (f : List ℕ) (t : CType) (cs : List Content) (b : Bool) → Same seen (calls f t cs b) (calls' f t cs b)) where
  abbrev S : {A : Type 0} → Step A → Step A → Type 0
  S s t = Same seen s t

  abbrev Q : Program
  Q = record P { types = ts }

  abbrev here : Bool → Around
  here k = record { program = P; variable = variable; calls = calls; tracks = k }

  abbrev there : Bool → Around
  there k = record { program = Q; variable = variable; calls = calls'; tracks = k }

  value : (k : Bool) (v : Value) (fate : Fate) → Accesses test v → S (eval (here k) fate v) (eval (there k) fate v)
  value k v fate h = value_same seen test P ts program_alike variable calls calls' calls_same k v fate h

  -- ---- objects and how they start

  put_same : (v : Variable) (offset : ℕ) (s : Scalar) (c : Content) → S (put_at P v offset (Num s) c) (put_at Q v offset (Num s) c)
  put_same v offset s c =
      then_same seen _ _ _ _ (place_same seen v) (λ p. then_same seen _ _ _ _ (member_same seen offset p) (λ q. then_same seen _ _ _ _ (stored_same seen false P.model q c untouched numbers) (λ _. gives_same seen tt)))

  spelled_same : (v : Variable) (s : Scalar) (offset : ℕ) (bytes : List ℕ) → S (spelled P v s offset bytes) (spelled Q v s offset bytes)
  spelled_same v s offset [] = gives_same seen tt
  spelled_same v s offset (b ∷ bytes) = then_same seen _ _ _ _ (put_same v offset s (content.Number (pos b))) (λ _. spelled_same v s (offset + 1) bytes)

  filled_same : (k : Bool) (v : Variable) (part : StartPart) → AccessesPart test part → S (filled (here k) v part) (filled (there k) v part)
  filled_same k v (e.stored m x) h =
      then_same seen _ _ _ _ (place_same seen v) (λ p. then_same seen _ _ _ _ (member_same seen m p) (λ q. then_same seen _ _ _ _ (value k x wanted h.1) (λ it. then_same seen _ _ _ _
      (assigned_same seen test P ts program_alike variable calls calls' calls_same (is_struct (type_of x)) false (type_of x) q it.value untouched refl h.0) (λ _. gives_same seen tt))))
  filled_same k v (e.fixed m t c) h = over_same seen _ Stopped
  filled_same k v (e.letters m s bytes) h = spelled_same v s m bytes

  all_filled_same : (k : Bool) (v : Variable) (parts : List StartPart) → AccessesParts test parts → S (filled_all (here k) v parts) (filled_all (there k) v parts)
  all_filled_same k v [] h = gives_same seen tt
  all_filled_same k v (part ∷ parts) h = then_same seen _ _ _ _ (filled_same k v part h.0) (λ _. all_filled_same k v parts h.1)

  parts_access : (start : Option Start) → AccessesStart test start → AccessesParts test (parts_in start)
  parts_access None h = tt
  parts_access (Some start) h = h

  sealed_same : (b : Bool) (v : Variable) → S (sealed_if b v) (sealed_if b v)
  sealed_same true v = seals_same seen v
  sealed_same false v = gives_same seen tt

  begins_at : (n : ℕ) (v : Variable) (zeroed : Bool) → S (begins v (shape P (type_of_object P n)) zeroed) (begins v (shape Q (type_of_object P n)) zeroed)
  begins_at n v zeroed =
      let it = object_shape seen test P ts program_alike n in
      subst (λ them. S (begins v (shape P (type_of_object P n)) zeroed) (begins v them zeroed)) (sym it.0) (begins_same seen v (shape P (type_of_object P n)) zeroed it.1.0)

  within_same : (k : Bool) (x : Local) (s r : Step Flow) → AccessesStart test x.start → S s r → S (within (here k) x s) (within (there k) x r)
  within_same k x s r h g =
      then_same seen _ _ _ _ (then_same seen _ _ _ _ (begins_at x.object (variable x.object) (is_zeroed x.start)) (λ _.
      then_same seen _ _ _ _ (all_filled_same k (variable x.object) (parts_in x.start) (parts_access x.start h)) (λ _. sealed_same (is_sealed_object P x.object) (variable x.object))))
      (λ _. then_same seen s r _ _ g (λ flow. then_same seen _ _ _ _ (ends_same seen (variable x.object)) (λ _. gives_same seen flow)))

  all_within_same : (k : Bool) (x : List Local) (s r : Step Flow) → AccessesLocals test x → S s r → S (within_all (here k) x s) (within_all (there k) x r)
  all_within_same k [] s r h g = g
  all_within_same k (x ∷ them) s r h g = within_same k x _ _ h.0 (all_within_same k them s r h.1 g)

  -- ---- tests and loops

  tested_same : (k : Bool) (v : Value) → Accesses test v → S (tested (here k) v) (tested (there k) v)
  tested_same k v h = then_same seen _ _ _ _ (value k v wanted h) (λ x. truth_same seen x.value)

  tested_if_same : (k : Bool) (v : Option Value) → AccessesOptional test v → S (tested_if (here k) v) (tested_if (there k) v)
  tested_if_same k None h = gives_same seen true
  tested_if_same k (Some v) h = tested_same k v h

  stepped_same : (k : Bool) (v : Option Value) → AccessesOptional test v → S (stepped (here k) v) (stepped (there k) v)
  stepped_same k None h = gives_same seen tt
  stepped_same k (Some v) h = then_same seen _ _ _ _ (value k v dropped h) (λ _. gives_same seen tt)

  after_same : (flow : Flow) (s r : Step Flow) → S s r → S (after flow s) (after flow r)
  after_same Next s r h = h
  after_same Breaks s r h = gives_same seen Breaks
  after_same Continues s r h = gives_same seen Continues
  after_same (Returns c) s r h = gives_same seen (Returns c)

  next_turn_same : (flow : Flow) (s r : Step Flow) → S s r → S (next_turn flow s) (next_turn flow r)
  next_turn_same Next s r h = h
  next_turn_same Continues s r h = h
  next_turn_same Breaks s r h = gives_same seen Next
  next_turn_same (Returns c) s r h = gives_same seen (Returns c)

  turns_same : (n : ℕ) (on on' : Step Bool) (step step' : Step (Unit {0})) (body body' : Step Flow) → S on on' → S step step' → S body body' → S (turns n on step body) (turns n on' step' body')
  turns_same zero on on' step step' body body' h1 h2 h3 = over_same seen _ Steps
  turns_same (suc n) on on' step step' body body' h1 h2 h3 =
      then_same seen _ _ _ _ (tick_same seen) (λ _. then_same seen on on' _ _ h1 (λ holds. if_same seen holds _ _ _ _
      (then_same seen body body' _ _ h3 (λ flow. next_turn_same flow _ _ (then_same seen step step' _ _ h2 (λ _. turns_same n on on' step step' body body' h1 h2 h3)))) (gives_same seen Next)))

  do_turns_same : (n : ℕ) (on on' : Step Bool) (body body' : Step Flow) → S on on' → S body body' → S (do_turns n on body) (do_turns n on' body')
  do_turns_same zero on on' body body' h1 h3 = over_same seen _ Steps
  do_turns_same (suc n) on on' body body' h1 h3 =
      then_same seen body body' _ _ h3 (λ flow. next_turn_same flow _ _ (then_same seen _ _ _ _ (tick_same seen) (λ _. then_same seen on on' _ _ h1 (λ holds. if_same seen holds _ _ _ _
      (do_turns_same n on on' body body' h1 h3) (gives_same seen Next)))))

  looped_same : (k : Bool) (on step : Option Value) (body body' : Step Flow) → AccessesOptional test on → AccessesOptional test step → S body body' → S (looped (here k) on step body) (looped (there k) on step body')
  looped_same k on step body body' h g f = record { alike = λ at fits. (turns_same (suc at.ticks) _ _ _ _ body body' (tested_if_same k on h) (stepped_same k step g) f).alike at fits }

  do_looped_same : (k : Bool) (on : Value) (body body' : Step Flow) → Accesses test on → S body body' → S (do_looped (here k) on body) (do_looped (there k) on body')
  do_looped_same k on body body' h f = record { alike = λ at fits. (do_turns_same (suc at.ticks) _ _ body body' (tested_same k on h) f).alike at fits }

  -- ---- statements

  for_same : (k : Bool) (x : e.ForStart) (on step : Option Value) (c : Statement) → AccessesForStart test x → AccessesOptional test on → AccessesOptional test step → S (exec (here k) c) (exec (there k) c)
      → S (exec (here k) (e.For x on step c)) (exec (there k) (e.For x on step c))
  for_same k e.Nothing on step c h g f i = then_same seen _ _ _ _ (tick_same seen) (λ _. looped_same k on step _ _ g f i)
  for_same k (e.First v) on step c h g f i = then_same seen _ _ _ _ (tick_same seen) (λ _. then_same seen _ _ _ _ (value k v dropped h) (λ _. looped_same k on step _ _ g f i))
  for_same k (e.Locals locals) on step c h g f i = then_same seen _ _ _ _ (tick_same seen) (λ _. all_within_same k locals _ _ h (looped_same k on step _ _ g f i))

  mutual
    pub statement_same : (k : Bool) (c : Statement) → AccessesStatement test c → S (exec (here k) c) (exec (there k) c)
    statement_same k (e.Compound items) h = items_same k items h
    statement_same k (e.Evaluates v) h = then_same seen _ _ _ _ (tick_same seen) (λ _. then_same seen _ _ _ _ (value k v untaken h) (λ _. gives_same seen Next))
    statement_same k e.Null h = then_same seen _ _ _ _ (tick_same seen) (λ _. gives_same seen Next)
    statement_same k (e.If on body) h = then_same seen _ _ _ _ (tick_same seen) (λ _. then_same seen _ _ _ _ (tested_same k on h.0) (λ holds. if_same seen holds _ _ _ _ (statement_same k body h.1) (gives_same seen Next)))
    statement_same k (e.IfElse on body other) h =
        then_same seen _ _ _ _ (tick_same seen) (λ _. then_same seen _ _ _ _ (tested_same k on h.0) (λ holds. if_same seen holds _ _ _ _ (statement_same k body h.1) (statement_same k other h.2)))
    statement_same k (e.While on body) h = then_same seen _ _ _ _ (tick_same seen) (λ _. looped_same k (Some on) None _ _ h.0 tt (statement_same k body h.1))
    statement_same k (e.Do body on) h = then_same seen _ _ _ _ (tick_same seen) (λ _. do_looped_same k on _ _ h.1 (statement_same k body h.0))
    statement_same k (e.For start on step body) h = for_same k start on step body h.0 h.1 h.2 (statement_same k body h.3)
    statement_same k (e.Switch operand cases) h =
        then_same seen _ _ _ _ (tick_same seen) (λ _. then_same seen _ _ _ _ (then_same seen _ _ _ _ (value k operand wanted h.0) (λ x. number_same seen x.value)) (λ z.
        then_same seen _ _ _ _ (cases_same k cases (entry_label z cases) false h.1) (λ flow. gives_same seen (left_switch flow))))
    statement_same k e.Break h = then_same seen _ _ _ _ (tick_same seen) (λ _. gives_same seen Breaks)
    statement_same k e.Continue h = then_same seen _ _ _ _ (tick_same seen) (λ _. gives_same seen Continues)
    statement_same k (e.Return None) h = then_same seen _ _ _ _ (tick_same seen) (λ _. gives_same seen (Returns None))
    statement_same k (e.Return (Some v)) h =
        then_same seen _ _ _ _ (tick_same seen) (λ _. then_same seen _ _ _ _ (then_same seen _ _ _ _ (value k v wanted h) (λ x. used_same seen x.value)) (λ c. gives_same seen (Returns (Some c))))

    pub items_same : (k : Bool) (items : Items) → AccessesItems test items → S (exec_items (here k) items) (exec_items (there k) items)
    items_same k e.no_items h = gives_same seen Next
    items_same k (e.a_local local rest) h = within_same k local _ _ h.0 (items_same k rest h.1)
    items_same k (e.a_statement first rest) h = then_same seen _ _ _ _ (statement_same k first h.0) (λ flow. after_same flow _ _ (items_same k rest h.1))
    items_same k (e.a_label label rest) h =
        behind_mark seen test P ts program_alike variable calls calls' calls_same k label _ _ (mark_same seen test P ts program_alike variable calls calls' calls_same k label h.0) (items_same k rest h.1)

    cases_same : (k : Bool) (cases : Cases) (entry : CaseLabel → Bool) (runs : Bool) → AccessesCases test cases → S (exec_cases (here k) entry runs cases) (exec_cases (there k) entry runs cases)
    cases_same k e.no_cases entry runs h = gives_same seen Next
    cases_same k (e.a_case labels first rest) entry runs h =
        if_same seen (runs || list_any entry labels) _ _ _ _ (then_same seen _ _ _ _ (statement_same k first h.0) (λ flow. after_same flow _ _ (cases_same k rest entry true h.1))) (cases_same k rest entry false h.1)
