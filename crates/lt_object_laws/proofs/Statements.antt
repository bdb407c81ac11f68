-- Statements do the same beside further objects.
use Rattle.std.proofs.Common.{◌≡◌, ℕ, ℤ, pos, zero, suc, List, [], ◌∷◌, Option, Some, None, Bool, true, false, sym, ap, ◌∙◌, subst}
use Rattle.std.specs.Prelude.{◌+◌, ◌||◌}
use Rattle.std.specs.List.{list_any}
use Rattle.lt_model.specs.declared.cell.Content.{Content}
use Rattle.lt_model.specs.declared.cell.Content.TheVariants as content
use Rattle.lt_model.specs.declared.scalar.Scalar.{Scalar}
use Rattle.lt_model.specs.declared.run.End.TheVariants.{Steps, Stopped}
use Rattle.lt_model.specs.State.{untouched}
use Rattle.lt_tree.specs.Tree.{Unit as SourceUnit}
use Rattle.lt_tree.specs.Typing.Types.{CType, Num, is_struct}
use Rattle.lt_tree.specs.Typing.TypedTree as e
use Rattle.lt_tree.specs.Typing.TypedTree.{Value, Mark, Statement, Items, Cases, Label as CaseLabel, Local, Start, StartPart, type_of}
use Rattle.lt_tree.specs.Typing.Entities.{Function, Label, Fact, Declared, Frame, Object}
use Rattle.lt_tree.specs.Typing.Programs.{Program}
use Rattle.lt_ir.specs.declared.variable.Variable.{Variable}
use Rattle.lt_ir.specs.Running.{Step, ◌>>=◌, ◌>>◌, gives, place, begins, ends}
use Rattle.lt_ir.specs.Evaluation.{member_at}
use Rattle.lt_meaning.specs.Expressions.{Around, Calls, Fate, wanted, dropped, untaken, shape, assigned, eval}
use Rattle.lt_meaning.specs.Statements.{Flow, Next, Breaks, Continues, Returns, after, next_turn, left_switch, type_of_object, is_sealed_object, put_at, spelled, filled, filled_all, is_zeroed, parts_in, sealed_if, within, within_all, tested, tested_if, stepped, turns, do_turns, looped, do_looped, entry_label, exec, exec_items, exec_cases}
use Rattle.lt_object_laws.specs.Renamed.{value_with, part_with, parts_with, start_with, local_with, locals_with, optional_with, for_start_with, statement_with, items_with, cases_with}
use Rattle.lt_object_laws.proofs.Alike.{Other, Comparison, as_it_is, content_in, contents_in, valued_in, variable_in, Same, then_same, gives_same, over_same, if_same}
use Rattle.lt_object_laws.proofs.Machine.{number_same, truth_same, used_same, member_same, place_same, tick_same, begins_same, ends_same, seals_same}
use Rattle.lt_object_laws.proofs.Trees.{type_with, entry_with, zeroed_with, parts_in_with}
use Rattle.lt_object_laws.proofs.Expressions.{store_at, assigned_same, value_same, mark_same, behind_mark}

abbrev pub flow_in : Other → Flow → Flow
flow_in o Next = Next
flow_in o Breaks = Breaks
flow_in o Continues = Continues
flow_in o (Returns None) = Returns None
flow_in o (Returns (Some c)) = Returns (Some (content_in o c))

-- what a declaration does, by the type of its object, whether that is sealed, and its variable
abbrev within_as : Around → CType → Bool → Variable → Bool → List StartPart → Step Flow → Step Flow
within_as around t sealed v zeroed parts rest =
    (begins v (shape around.program t) zeroed >> (filled_all around v parts >> sealed_if sealed v)) >>= (λ _. rest >>= (λ flow. ends v >>= (λ _. gives flow)))

module _ (seen : Comparison) (P : Program) (u : SourceUnit) (ds : List Declared) (fs : List Function) (fr : Frame) (ls : List Label) (xs : List Fact) (os : List Object) (r : ℕ → ℕ)
    (types_same : (n : ℕ) → type_of_object (record P { unit = u; declared = ds; functions = fs; file = fr; labels = ls; facts = xs; objects = os }) (r n) ≡ type_of_object P n)
    (seals_as : (n : ℕ) → is_sealed_object (record P { unit = u; declared = ds; functions = fs; file = fr; labels = ls; facts = xs; objects = os }) (r n) ≡ is_sealed_object P n)
    (variable variable1 : ℕ → Variable) (as_one : (n : ℕ) → variable1 (r n) ≡ variable_in seen.one (variable n)) (as_two : (n : ℕ) → variable n ≡ variable_in seen.two (variable n))
    (calls calls1 calls2 : Calls) (calls_same : (f : List ℕ) (t : CType) (cs : List Content) (b : Bool) → Same seen content_in (calls f t cs b) (calls1 f t (contents_in seen.one cs) b) (calls2 f t (contents_in seen.two cs) b)) where
  abbrev S : {A : Type 0} → (Other → A → A) → Step A → Step A → Step A → Type 0
  S with s r1 r2 = Same seen with s r1 r2

  abbrev Q : Program
  Q = record P { unit = u; declared = ds; functions = fs; file = fr; labels = ls; facts = xs; objects = os }

  abbrev here : Bool → Around
  here k = record { program = P; variable = variable; calls = calls; tracks = k }

  abbrev one : Bool → Around
  one k = record { program = Q; variable = variable1; calls = calls1; tracks = k }

  abbrev two : Bool → Around
  two k = record { program = P; variable = variable; calls = calls2; tracks = k }

  value : (k : Bool) (v : Value) (fate : Fate) → S (valued_in content_in) (eval (here k) fate v) (eval (one k) fate (value_with r v)) (eval (two k) fate v)
  value k v fate = value_same seen P u ds fs fr ls xs os r variable variable1 as_one as_two calls calls1 calls2 calls_same k v fate

  -- ---- objects and how they start

  put_same : (v : Variable) (offset : ℕ) (t : CType) (c : Content) → S as_it_is (put_at P v offset t c) (put_at Q (variable_in seen.one v) offset t (content_in seen.one c)) (put_at P (variable_in seen.two v) offset t (content_in seen.two c))
  put_same v offset t c =
      then_same seen _ _ _ _ _ _ (place_same seen v) (λ p. then_same seen _ _ _ _ _ _ (member_same seen offset p) (λ q. then_same seen _ _ _ _ _ _
      (store_at seen P u ds fs fr ls xs os r variable variable1 as_one as_two calls calls1 calls2 calls_same false t q c untouched) (λ _. gives_same seen as_it_is tt)))

  spelled_same : (v : Variable) (s : Scalar) (offset : ℕ) (bytes : List ℕ) → S as_it_is (spelled P v s offset bytes) (spelled Q (variable_in seen.one v) s offset bytes) (spelled P (variable_in seen.two v) s offset bytes)
  spelled_same v s offset [] = gives_same seen as_it_is tt
  spelled_same v s offset (b ∷ bytes) = then_same seen _ _ _ _ _ _ (put_same v offset (Num s) (content.Number (pos b))) (λ _. spelled_same v s (offset + 1) bytes)

  filled_same : (k : Bool) (v : Variable) (part : StartPart) → S as_it_is (filled (here k) v part) (filled (one k) (variable_in seen.one v) (part_with r part)) (filled (two k) (variable_in seen.two v) part)
  filled_same k v (e.stored m x) =
      subst (λ t. S as_it_is (filled (here k) v (e.stored m x)) (place (variable_in seen.one v) >>= (λ p. member_at m p >>= (λ q. eval (one k) wanted (value_with r x) >>= (λ it. assigned (one false) t q it.value untouched (is_struct t) >>= (λ _. gives (tt {0})))))) (filled (two k) (variable_in seen.two v) (e.stored m x)))
      (sym (type_with r x))
      (then_same seen _ _ _ _ _ _ (place_same seen v) (λ p. then_same seen _ _ _ _ _ _ (member_same seen m p) (λ q. then_same seen _ _ _ _ _ _ (value k x wanted) (λ it. then_same seen _ _ _ _ _ _
      (assigned_same seen P u ds fs fr ls xs os r variable variable1 as_one as_two calls calls1 calls2 calls_same (is_struct (type_of x)) false (type_of x) q it.value untouched) (λ _. gives_same seen as_it_is tt)))))
  filled_same k v (e.fixed m t c) = over_same seen as_it_is Stopped
  filled_same k v (e.letters m s bytes) = spelled_same v s m bytes

  all_filled_same : (k : Bool) (v : Variable) (parts : List StartPart) → S as_it_is (filled_all (here k) v parts) (filled_all (one k) (variable_in seen.one v) (parts_with r parts)) (filled_all (two k) (variable_in seen.two v) parts)
  all_filled_same k v [] = gives_same seen as_it_is tt
  all_filled_same k v (part ∷ parts) = then_same seen _ _ _ _ _ _ (filled_same k v part) (λ _. all_filled_same k v parts)

  sealed_same : (b : Bool) (v : Variable) → S as_it_is (sealed_if b v) (sealed_if b (variable_in seen.one v)) (sealed_if b (variable_in seen.two v))
  sealed_same true v = seals_same seen v
  sealed_same false v = gives_same seen as_it_is tt

  within_all_same : (k : Bool) (t : CType) (sealed : Bool) (v : Variable) (zeroed : Bool) (parts : List StartPart) (s r1 r2 : Step Flow) → S flow_in s r1 r2
      → S flow_in (within_as (here k) t sealed v zeroed parts s) (within_as (one k) t sealed (variable_in seen.one v) zeroed (parts_with r parts) r1) (within_as (two k) t sealed (variable_in seen.two v) zeroed parts r2)
  within_all_same k t sealed v zeroed parts s r1 r2 h =
      then_same seen _ _ _ _ _ _ (then_same seen _ _ _ _ _ _ (begins_same seen v (shape P t) zeroed) (λ _. then_same seen _ _ _ _ _ _ (all_filled_same k v parts) (λ _. sealed_same sealed v)))
      (λ _. then_same seen s r1 r2 _ _ _ h (λ flow. then_same seen _ _ _ _ _ _ (ends_same seen v) (λ _. gives_same seen flow_in flow)))

  within_same : (k : Bool) (x : Local) (s r1 r2 : Step Flow) → S flow_in s r1 r2 → S flow_in (within (here k) x s) (within (one k) (local_with r x) r1) (within (two k) x r2)
  within_same k x s r1 r2 h =
      subst (λ t. S flow_in (within (here k) x s) t (within (two k) x r2)) (sym there_one)
      (subst (λ t. S flow_in (within (here k) x s) (within_as (one k) (type_of_object P x.object) (is_sealed_object P x.object) (variable_in seen.one (variable x.object)) (is_zeroed x.start) (parts_with r (parts_in x.start)) r1) t) (sym there_two)
      (within_all_same k (type_of_object P x.object) (is_sealed_object P x.object) (variable x.object) (is_zeroed x.start) (parts_in x.start) s r1 r2 h))
    where
      there_one : within (one k) (local_with r x) r1 ≡ within_as (one k) (type_of_object P x.object) (is_sealed_object P x.object) (variable_in seen.one (variable x.object)) (is_zeroed x.start) (parts_with r (parts_in x.start)) r1
      there_one =
          ap (λ t. within_as (one k) t (is_sealed_object Q (r x.object)) (variable1 (r x.object)) (is_zeroed (start_with r x.start)) (parts_in (start_with r x.start)) r1) (types_same x.object)
          ∙ ap (λ b. within_as (one k) (type_of_object P x.object) b (variable1 (r x.object)) (is_zeroed (start_with r x.start)) (parts_in (start_with r x.start)) r1) (seals_as x.object)
          ∙ ap (λ v. within_as (one k) (type_of_object P x.object) (is_sealed_object P x.object) v (is_zeroed (start_with r x.start)) (parts_in (start_with r x.start)) r1) (as_one x.object)
          ∙ ap (λ z. within_as (one k) (type_of_object P x.object) (is_sealed_object P x.object) (variable_in seen.one (variable x.object)) z (parts_in (start_with r x.start)) r1) (zeroed_with r x.start)
          ∙ ap (λ parts. within_as (one k) (type_of_object P x.object) (is_sealed_object P x.object) (variable_in seen.one (variable x.object)) (is_zeroed x.start) parts r1) (parts_in_with r x.start)

      there_two : within (two k) x r2 ≡ within_as (two k) (type_of_object P x.object) (is_sealed_object P x.object) (variable_in seen.two (variable x.object)) (is_zeroed x.start) (parts_in x.start) r2
      there_two = ap (λ v. within_as (two k) (type_of_object P x.object) (is_sealed_object P x.object) v (is_zeroed x.start) (parts_in x.start) r2) (as_two x.object)

  all_within_same : (k : Bool) (x : List Local) (s r1 r2 : Step Flow) → S flow_in s r1 r2 → S flow_in (within_all (here k) x s) (within_all (one k) (locals_with r x) r1) (within_all (two k) x r2)
  all_within_same k [] s r1 r2 h = h
  all_within_same k (x ∷ them) s r1 r2 h = within_same k x _ _ _ (all_within_same k them s r1 r2 h)

  -- ---- tests and loops

  tested_same : (k : Bool) (v : Value) → S as_it_is (tested (here k) v) (tested (one k) (value_with r v)) (tested (two k) v)
  tested_same k v = then_same seen _ _ _ _ _ _ (value k v wanted) (λ x. truth_same seen x.value)

  tested_if_same : (k : Bool) (v : Option Value) → S as_it_is (tested_if (here k) v) (tested_if (one k) (optional_with r v)) (tested_if (two k) v)
  tested_if_same k None = gives_same seen as_it_is true
  tested_if_same k (Some v) = tested_same k v

  stepped_same : (k : Bool) (v : Option Value) → S as_it_is (stepped (here k) v) (stepped (one k) (optional_with r v)) (stepped (two k) v)
  stepped_same k None = gives_same seen as_it_is tt
  stepped_same k (Some v) = then_same seen _ _ _ _ _ _ (value k v dropped) (λ _. gives_same seen as_it_is tt)

  after_same : (flow : Flow) (s r1 r2 : Step Flow) → S flow_in s r1 r2 → S flow_in (after flow s) (after (flow_in seen.one flow) r1) (after (flow_in seen.two flow) r2)
  after_same Next s r1 r2 h = h
  after_same Breaks s r1 r2 h = gives_same seen flow_in Breaks
  after_same Continues s r1 r2 h = gives_same seen flow_in Continues
  after_same (Returns None) s r1 r2 h = gives_same seen flow_in (Returns None)
  after_same (Returns (Some c)) s r1 r2 h = gives_same seen flow_in (Returns (Some c))

  next_turn_same : (flow : Flow) (s r1 r2 : Step Flow) → S flow_in s r1 r2 → S flow_in (next_turn flow s) (next_turn (flow_in seen.one flow) r1) (next_turn (flow_in seen.two flow) r2)
  next_turn_same Next s r1 r2 h = h
  next_turn_same Continues s r1 r2 h = h
  next_turn_same Breaks s r1 r2 h = gives_same seen flow_in Next
  next_turn_same (Returns None) s r1 r2 h = gives_same seen flow_in (Returns None)
  next_turn_same (Returns (Some c)) s r1 r2 h = gives_same seen flow_in (Returns (Some c))

  turns_same : (n : ℕ) (test t1 t2 : Step Bool) (step p1 p2 : Step (Unit {0})) (body b1 b2 : Step Flow) → S as_it_is test t1 t2 → S as_it_is step p1 p2 → S flow_in body b1 b2 → S flow_in (turns n test step body) (turns n t1 p1 b1) (turns n t2 p2 b2)
  turns_same zero test t1 t2 step p1 p2 body b1 b2 h1 h2 h3 = over_same seen flow_in Steps
  turns_same (suc n) test t1 t2 step p1 p2 body b1 b2 h1 h2 h3 =
      then_same seen _ _ _ _ _ _ (tick_same seen) (λ _. then_same seen test t1 t2 _ _ _ h1 (λ holds. if_same seen holds _ _ _ _ _ _
      (then_same seen body b1 b2 _ _ _ h3 (λ flow. next_turn_same flow _ _ _ (then_same seen step p1 p2 _ _ _ h2 (λ _. turns_same n test t1 t2 step p1 p2 body b1 b2 h1 h2 h3)))) (gives_same seen flow_in Next)))

  do_turns_same : (n : ℕ) (test t1 t2 : Step Bool) (body b1 b2 : Step Flow) → S as_it_is test t1 t2 → S flow_in body b1 b2 → S flow_in (do_turns n test body) (do_turns n t1 b1) (do_turns n t2 b2)
  do_turns_same zero test t1 t2 body b1 b2 h1 h3 = over_same seen flow_in Steps
  do_turns_same (suc n) test t1 t2 body b1 b2 h1 h3 =
      then_same seen body b1 b2 _ _ _ h3 (λ flow. next_turn_same flow _ _ _ (then_same seen _ _ _ _ _ _ (tick_same seen) (λ _. then_same seen test t1 t2 _ _ _ h1 (λ holds. if_same seen holds _ _ _ _ _ _
      (do_turns_same n test t1 t2 body b1 b2 h1 h3) (gives_same seen flow_in Next)))))

  looped_same : (k : Bool) (test step : Option Value) (body b1 b2 : Step Flow) → S flow_in body b1 b2 → S flow_in (looped (here k) test step body) (looped (one k) (optional_with r test) (optional_with r step) b1) (looped (two k) test step b2)
  looped_same k test step body b1 b2 h = record { alike = λ at s1 s2 m1 m2 h1 h2. (turns_same (suc at.ticks) _ _ _ _ _ _ body b1 b2 (tested_if_same k test) (stepped_same k step) h).alike at s1 s2 m1 m2 h1 h2; grows = λ at. (turns_same (suc at.ticks) _ _ _ _ _ _ body b1 b2 (tested_if_same k test) (stepped_same k step) h).grows at }

  do_looped_same : (k : Bool) (test : Value) (body b1 b2 : Step Flow) → S flow_in body b1 b2 → S flow_in (do_looped (here k) test body) (do_looped (one k) (value_with r test) b1) (do_looped (two k) test b2)
  do_looped_same k test body b1 b2 h = record { alike = λ at s1 s2 m1 m2 h1 h2. (do_turns_same (suc at.ticks) _ _ _ body b1 b2 (tested_same k test) h).alike at s1 s2 m1 m2 h1 h2; grows = λ at. (do_turns_same (suc at.ticks) _ _ _ body b1 b2 (tested_same k test) h).grows at }

  -- ---- statements

  for_same : (k : Bool) (x : e.ForStart) (test step : Option Value) (c : Statement) → S flow_in (exec (here k) c) (exec (one k) (statement_with r c)) (exec (two k) c)
      → S flow_in (exec (here k) (e.For x test step c)) (exec (one k) (e.For (for_start_with r x) (optional_with r test) (optional_with r step) (statement_with r c))) (exec (two k) (e.For x test step c))
  for_same k e.Nothing test step c h = then_same seen _ _ _ _ _ _ (tick_same seen) (λ _. looped_same k test step _ _ _ h)
  for_same k (e.First v) test step c h = then_same seen _ _ _ _ _ _ (tick_same seen) (λ _. then_same seen _ _ _ _ _ _ (value k v dropped) (λ _. looped_same k test step _ _ _ h))
  for_same k (e.Locals locals) test step c h = then_same seen _ _ _ _ _ _ (tick_same seen) (λ _. all_within_same k locals _ _ _ (looped_same k test step _ _ _ h))

  left_same : (flow : Flow) → S flow_in (gives (left_switch flow)) (gives (left_switch (flow_in seen.one flow))) (gives (left_switch (flow_in seen.two flow)))
  left_same Next = gives_same seen flow_in Next
  left_same Breaks = gives_same seen flow_in Next
  left_same Continues = gives_same seen flow_in Continues
  left_same (Returns None) = gives_same seen flow_in (Returns None)
  left_same (Returns (Some c)) = gives_same seen flow_in (Returns (Some c))

  switched_same : (k : Bool) (z : ℤ) (cases : Cases) → S flow_in (exec_cases (here k) (entry_label z cases) false cases) (exec_cases (one k) (entry_label z cases) false (cases_with r cases)) (exec_cases (two k) (entry_label z cases) false cases)
      → S flow_in (exec_cases (here k) (entry_label z cases) false cases) (exec_cases (one k) (entry_label z (cases_with r cases)) false (cases_with r cases)) (exec_cases (two k) (entry_label z cases) false cases)
  switched_same k z cases h = subst (λ entry. S flow_in (exec_cases (here k) (entry_label z cases) false cases) (exec_cases (one k) entry false (cases_with r cases)) (exec_cases (two k) (entry_label z cases) false cases)) (sym (entry_with r z cases)) h

  mutual
    pub statement_same : (k : Bool) (c : Statement) → S flow_in (exec (here k) c) (exec (one k) (statement_with r c)) (exec (two k) c)
    statement_same k (e.Compound items) = items_same k items
    statement_same k (e.Evaluates v) = then_same seen _ _ _ _ _ _ (tick_same seen) (λ _. then_same seen _ _ _ _ _ _ (value k v untaken) (λ _. gives_same seen flow_in Next))
    statement_same k e.Null = then_same seen _ _ _ _ _ _ (tick_same seen) (λ _. gives_same seen flow_in Next)
    statement_same k (e.If test body) = then_same seen _ _ _ _ _ _ (tick_same seen) (λ _. then_same seen _ _ _ _ _ _ (tested_same k test) (λ holds. if_same seen holds _ _ _ _ _ _ (statement_same k body) (gives_same seen flow_in Next)))
    statement_same k (e.IfElse test body other) = then_same seen _ _ _ _ _ _ (tick_same seen) (λ _. then_same seen _ _ _ _ _ _ (tested_same k test) (λ holds. if_same seen holds _ _ _ _ _ _ (statement_same k body) (statement_same k other)))
    statement_same k (e.While test body) = then_same seen _ _ _ _ _ _ (tick_same seen) (λ _. looped_same k (Some test) None _ _ _ (statement_same k body))
    statement_same k (e.Do body test) = then_same seen _ _ _ _ _ _ (tick_same seen) (λ _. do_looped_same k test _ _ _ (statement_same k body))
    statement_same k (e.For start test step body) = for_same k start test step body (statement_same k body)
    statement_same k (e.Switch operand cases) = then_same seen _ _ _ _ _ _ (tick_same seen) (λ _. then_same seen _ _ _ _ _ _ (then_same seen _ _ _ _ _ _ (value k operand wanted) (λ x. number_same seen x.value)) (λ z. then_same seen _ _ _ _ _ _ (switched_same k z cases (cases_same k cases (entry_label z cases) false)) (λ flow. left_same flow)))
    statement_same k e.Break = then_same seen _ _ _ _ _ _ (tick_same seen) (λ _. gives_same seen flow_in Breaks)
    statement_same k e.Continue = then_same seen _ _ _ _ _ _ (tick_same seen) (λ _. gives_same seen flow_in Continues)
    statement_same k (e.Return None) = then_same seen _ _ _ _ _ _ (tick_same seen) (λ _. gives_same seen flow_in (Returns None))
    statement_same k (e.Return (Some v)) = then_same seen _ _ _ _ _ _ (tick_same seen) (λ _. then_same seen _ _ _ _ _ _ (then_same seen _ _ _ _ _ _ (value k v wanted) (λ x. used_same seen x.value)) (λ c. gives_same seen flow_in (Returns (Some c))))

    pub items_same : (k : Bool) (items : Items) → S flow_in (exec_items (here k) items) (exec_items (one k) (items_with r items)) (exec_items (two k) items)
    items_same k e.no_items = gives_same seen flow_in Next
    items_same k (e.a_local local rest) = within_same k local _ _ _ (items_same k rest)
    items_same k (e.a_statement first rest) = then_same seen _ _ _ _ _ _ (statement_same k first) (λ flow. after_same flow _ _ _ (items_same k rest))
    items_same k (e.a_label label rest) = behind_mark seen P u ds fs fr ls xs os r variable variable1 as_one as_two calls calls1 calls2 calls_same flow_in k label _ _ _ (mark_same seen P u ds fs fr ls xs os r variable variable1 as_one as_two calls calls1 calls2 calls_same k label) (items_same k rest)

    cases_same : (k : Bool) (cases : Cases) (entry : CaseLabel → Bool) (runs : Bool) → S flow_in (exec_cases (here k) entry runs cases) (exec_cases (one k) entry runs (cases_with r cases)) (exec_cases (two k) entry runs cases)
    cases_same k e.no_cases entry runs = gives_same seen flow_in Next
    cases_same k (e.a_case labels first rest) entry runs = if_same seen (runs || list_any entry labels) _ _ _ _ _ _ (then_same seen _ _ _ _ _ _ (statement_same k first) (λ flow. after_same flow _ _ _ (cases_same k rest entry true))) (cases_same k rest entry false)
