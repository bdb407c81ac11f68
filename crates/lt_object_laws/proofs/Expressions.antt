-- Expressions do the same beside further objects.
use Rattle.std.proofs.Common.{◌≡◌, ◌≤◌, ℕ, pos, negsuc, List, [], ◌∷◌, length, Option, Some, None, Bool, true, false, refl, sym, ap, ◌∙◌, subst}
use Rattle.std.proofs.Math.Nat.{le_refl}
use Rattle.std.proofs.lemmas.Bool.{false≢true}
use Rattle.std.specs.Prelude.{not, if◌then◌else◌}
use Rattle.lt_model.specs.declared.cell.Address.{Address}
use Rattle.lt_model.specs.declared.cell.Content.{Content}
use Rattle.lt_model.specs.declared.cell.Content.TheVariants as content
use Rattle.lt_model.specs.declared.operator.Op.{Op}
use Rattle.lt_model.specs.declared.operator.Op.TheVariants as O
use Rattle.lt_model.specs.Scalar.{convert_of}
use Rattle.lt_model.specs.Memory.{Memory}
use Rattle.lt_model.specs.State.{Binding, Footprint, Valued, untouched, Gives, Ends}
use Rattle.lt_tree.specs.Tree.{Unit as SourceUnit}
use Rattle.lt_tree.specs.Typing.Types.{CType, Void, Num, Pointer, Array, Struct, Function as FunctionType, Floating, Qualified, is_struct}
use Rattle.lt_tree.specs.Typing.TypedTree as e
use Rattle.lt_tree.specs.Typing.TypedTree.{Value, Values, Place, Marks, Mark, Bindings, Conversion, When, type_of}
use Rattle.lt_tree.specs.Typing.Entities.{Function, Label, Fact, Declared, Frame, Object}
use Rattle.lt_tree.specs.Typing.Programs.{Program}
use Rattle.lt_ir.specs.declared.variable.Variable.{Variable}
use Rattle.lt_ir.specs.Running.{Bound, At, Answer, Step, ◌>>=◌, gives, place, one_more, marked_with, quietly}
use Rattle.lt_ir.specs.Evaluation.{valued, number_in, truth_in, of_truth, settled_in, grown, aimed, one_cell, loaded, stored, with_reads, moved}
use Rattle.lt_meaning.specs.Expressions.{is_pure, pure_only, Around, Calls, Fate, wanted, unconverted, dropped, dropped_branch, untaken, takes, inside, of_branch, of_last, converted, converted_here, late, passed, called, with_argument, taken, assigned, updated, kept, cells_of, cell_type, shape, scalar_in, in_type, pointer_of, count_of, decides, second_truth, eval, place_of, arguments_of, parts_of, bound_at, marked, marked_all}
use Rattle.lt_object_laws.specs.Renamed.{value_with, values_with, place_with, marks_with, mark_with, bindings_with}
use Rattle.lt_object_laws.proofs.Blocks.{blocks_in, Grows, marked_as_long}
use Rattle.lt_object_laws.proofs.Alike.{Other, Comparison, as_it_is, pointer_in, content_in, contents_in, footprint_in, valued_in, variable_in, beside, Stands, Alike, all_give, all_end, no_room, Same, then_same, gives_same, gives_as, if_same, grown_in, settled_as, behind_settled, by_settled}
use Rattle.lt_object_laws.proofs.Machine.{number_same, address_same, used_same, truth_same, apart_same, aimed_same, reads_same, loaded_same, stored_same, copied_same, moved_same, member_same, applied_same, counted_same, compared_same, place_same}
use Rattle.lt_object_laws.proofs.Pure.{parts_behind, HasRoom, then_roomy, value_roomy, number_roomy, truth_roomy}
use Rattle.lt_object_laws.proofs.Trees.{type_with, pure_with}

-- what comes quietly is the same, where there is room
quiet_one : {seen : Comparison} {A : Type 0} (m n1 n2 : Answer A) → Alike seen as_it_is m n1 n2 → HasRoom n1
    → elim (m) as (λ _. Option A) [ Gives a at ↦ Some a | Ends end at ↦ None ] ≡ elim (n1) as (λ _. Option A) [ Gives a at ↦ Some a | Ends end at ↦ None ]
quiet_one m n1 n2 (all_give h1 h2) g = refl
quiet_one m n1 n2 (all_end h1 h2) g = refl
quiet_one m n1 n2 (no_room n some e lt) g = absurd (false≢true (sym g))

quiet_two : {seen : Comparison} {A : Type 0} (m n1 n2 : Answer A) → Alike seen as_it_is m n1 n2 → HasRoom n2
    → elim (m) as (λ _. Option A) [ Gives a at ↦ Some a | Ends end at ↦ None ] ≡ elim (n2) as (λ _. Option A) [ Gives a at ↦ Some a | Ends end at ↦ None ]
quiet_two m n1 n2 (all_give h1 h2) g = refl
quiet_two m n1 n2 (all_end h1 h2) g = refl
quiet_two m n1 n2 (no_room n some e lt) g = absurd (false≢true (sym g))

-- what is asked of a pure expression alone
if_pure : {A : Type 0} (b c : Bool) (x y : Option A) → c ≡ b → (b ≡ true → x ≡ y) → pure_only b x ≡ pure_only c y
if_pure {A} b c x y e h = subst (λ c. pure_only b x ≡ pure_only c y) (sym e) (by b h)
  where
    by : (b : Bool) → (b ≡ true → x ≡ y) → pure_only b x ≡ pure_only b y
    by true h = h refl
    by false h = refl

-- ---- marks leave memory and scope

stands_by : (o : Other) (cells id : ℕ) (b : Option Bool) (bs : Option (List Binding)) (at : At) (scope : List Bound) (memory : Memory) → Stands o cells at scope memory → Stands o cells (marked_with id b bs at) scope memory
stands_by o cells id (Some b) (Some bs) at scope memory h = record { bounds = h.bounds; there = h.there; blocks = h.blocks }
stands_by o cells id None bs at scope memory h = record { bounds = h.bounds; there = h.there; blocks = h.blocks }
stands_by o cells id (Some b) None at scope memory h = record { bounds = h.bounds; there = h.there; blocks = h.blocks }

beside_by : (id : ℕ) (b : Option Bool) (bs : Option (List Binding)) (at : At) (scope : List Bound) (memory : Memory) → marked_with id b bs (beside at scope memory) ≡ beside (marked_with id b bs at) scope memory
beside_by id (Some b) (Some bs) at scope memory = refl
beside_by id None bs at scope memory = refl
beside_by id (Some b) None at scope memory = refl

-- The program of the first other has further objects, and calls of its own; the second one's is the first.
module _ (seen : Comparison) (P : Program) (u : SourceUnit) (ds : List Declared) (fs : List Function) (fr : Frame) (ls : List Label) (xs : List Fact) (os : List Object) (r : ℕ → ℕ)
    (variable variable1 : ℕ → Variable) (as_one : (n : ℕ) → variable1 (r n) ≡ variable_in seen.one (variable n)) (as_two : (n : ℕ) → variable n ≡ variable_in seen.two (variable n))
    (calls calls1 calls2 : Calls) (calls_same : (f : List ℕ) (t : CType) (cs : List Content) (b : Bool) → Same seen content_in (calls f t cs b) (calls1 f t (contents_in seen.one cs) b) (calls2 f t (contents_in seen.two cs) b)) where
  abbrev S : {A : Type 0} → (Other → A → A) → Step A → Step A → Step A → Type 0
  S with s r1 r2 = Same seen with s r1 r2

  abbrev Q : Program
  Q = record P { unit = u; declared = ds; functions = fs; file = fr; labels = ls; facts = xs; objects = os }

  abbrev here : Bool → Around
  here k = record { program = P; variable = variable; calls = calls; tracks = k }

  abbrev one : Bool → Around
  one k = record { program = Q; variable = variable1; calls = calls1; tracks = k }

  abbrev two : Bool → Around
  two k = record { program = P; variable = variable; calls = calls2; tracks = k }

  abbrev V : Other → Valued Content → Valued Content
  V = valued_in content_in

  -- ---- what is done with values

  cell_type_same : (t : CType) → cell_type Q t ≡ cell_type P t
  cell_type_same (Num s) = refl
  cell_type_same (Qualified q t) = cell_type_same t
  cell_type_same Void = refl
  cell_type_same (Pointer t) = refl
  cell_type_same (Array t n) = refl
  cell_type_same (Struct n) = refl
  cell_type_same (FunctionType t us dots) = refl
  cell_type_same Floating = refl

  cells_same : (t : CType) → cells_of Q t ≡ cells_of P t
  cells_same t = ap (λ ty. if is_struct t then (shape P t).cells else one_cell ty) (cell_type_same t)

  load_at : (k : Bool) (t : CType) (x : Valued (Option Address)) → S V (loaded k P.model (cell_type P t) x) (loaded k P.model (cell_type Q t) (valued_in pointer_in seen.one x)) (loaded k P.model (cell_type P t) (valued_in pointer_in seen.two x))
  load_at k t x = subst (λ ty. S V (loaded k P.model (cell_type P t) x) (loaded k P.model ty (valued_in pointer_in seen.one x)) (loaded k P.model (cell_type P t) (valued_in pointer_in seen.two x))) (sym (cell_type_same t)) (loaded_same seen k P.model (cell_type P t) x)

  aim_one : (k : Bool) (t : CType) (p : Option Address) (f : Footprint) → S footprint_in (aimed k (one_cell (cell_type P t)) p f) (aimed k (one_cell (cell_type Q t)) (pointer_in seen.one p) (footprint_in seen.one f)) (aimed k (one_cell (cell_type P t)) (pointer_in seen.two p) (footprint_in seen.two f))
  aim_one k t p f =
      subst (λ ty. S footprint_in (aimed k (one_cell (cell_type P t)) p f) (aimed k (one_cell ty) (pointer_in seen.one p) (footprint_in seen.one f)) (aimed k (one_cell (cell_type P t)) (pointer_in seen.two p) (footprint_in seen.two f))) (sym (cell_type_same t))
      (aimed_same seen k (one_cell (cell_type P t)) p f)

  aim_at : (k : Bool) (t : CType) (p : Option Address) (f : Footprint) → S footprint_in (aimed k (cells_of P t) p f) (aimed k (cells_of Q t) (pointer_in seen.one p) (footprint_in seen.one f)) (aimed k (cells_of P t) (pointer_in seen.two p) (footprint_in seen.two f))
  aim_at k t p f =
      subst (λ cells. S footprint_in (aimed k (cells_of P t) p f) (aimed k cells (pointer_in seen.one p) (footprint_in seen.one f)) (aimed k (cells_of P t) (pointer_in seen.two p) (footprint_in seen.two f))) (sym (cells_same t))
      (aimed_same seen k (cells_of P t) p f)

  pub store_at : (k : Bool) (t : CType) (p : Option Address) (c : Content) (f : Footprint)
      → S footprint_in (stored k P.model (cell_type P t) p c f) (stored k P.model (cell_type Q t) (pointer_in seen.one p) (content_in seen.one c) (footprint_in seen.one f)) (stored k P.model (cell_type P t) (pointer_in seen.two p) (content_in seen.two c) (footprint_in seen.two f))
  store_at k t p c f =
      subst (λ ty. S footprint_in (stored k P.model (cell_type P t) p c f) (stored k P.model ty (pointer_in seen.one p) (content_in seen.one c) (footprint_in seen.one f)) (stored k P.model (cell_type P t) (pointer_in seen.two p) (content_in seen.two c) (footprint_in seen.two f))) (sym (cell_type_same t))
      (stored_same seen k P.model (cell_type P t) p c f)

  taken_same : (k : Bool) (t : CType) (x : Valued Content) → S footprint_in (taken (here k) t x) (taken (one k) t (V seen.one x)) (taken (two k) t (V seen.two x))
  taken_same k t x =
      if_same seen (is_struct t) _ _ _ _ _ _
      (subst (λ cells. S footprint_in (with_reads k (cells_of P t) x) (with_reads k cells (V seen.one x)) (with_reads k (cells_of P t) (V seen.two x))) (sym (cells_same t)) (reads_same seen k (cells_of P t) x))
      (gives_same seen footprint_in x.footprint)

  converted_same : (how : Conversion) (t : CType) (c : Content) → S content_in (converted P how t c) (converted Q how t (content_in seen.one c)) (converted P how t (content_in seen.two c))
  converted_same e.to_integer t c = then_same seen _ _ _ _ _ _ (number_same seen c) (λ z. gives_same seen content_in (in_type P t z))
  converted_same e.to_truth t c = then_same seen _ _ _ _ _ _ (truth_same seen c) (λ b. gives_same seen content_in (of_truth b))
  converted_same e.to_null t c = gives_same seen content_in (content.Address None)
  converted_same e.to_pointer t c = then_same seen _ _ _ _ _ _ (address_same seen c) (λ a. gives_same seen content_in (content.Address a))
  converted_same e.to_void t c = gives_same seen content_in content.Unset

  converted_here_same : (fate : Fate) (how : Conversion) (t : CType) (c : Content) → S content_in (converted_here fate P how t c) (converted_here fate Q how t (content_in seen.one c)) (converted_here fate P how t (content_in seen.two c))
  converted_here_same wanted how t c = converted_same how t c
  converted_here_same unconverted how t c = gives_same seen content_in c
  converted_here_same dropped how t c = converted_same how t c
  converted_here_same dropped_branch how t c = gives_same seen content_in c
  converted_here_same untaken how t c = converted_same how t c

  late_same : (v : Value) (c : Content) → S content_in (late P v c) (late Q (value_with r v) (content_in seen.one c)) (late P v (content_in seen.two c))
  late_same (e.Convert how t v) c = converted_same how t c
  late_same v c = gives_same seen content_in c

  pub assigned_same : (b k : Bool) (t : CType) (p : Option Address) (c : Content) (f : Footprint)
      → S V (assigned (here k) t p c f b) (assigned (one k) t (pointer_in seen.one p) (content_in seen.one c) (footprint_in seen.one f) b) (assigned (two k) t (pointer_in seen.two p) (content_in seen.two c) (footprint_in seen.two f) b)
  assigned_same true k t p c f =
      then_same seen _ _ _ _ _ _ (address_same seen c) (λ from. then_same seen _ _ _ _ _ _ (copied_same seen k P.model (shape P t) p from f) (λ g. gives_same seen V (valued (content.Address p) g)))
  assigned_same false k t p c f = then_same seen _ _ _ _ _ _ (used_same seen c) (λ it. then_same seen _ _ _ _ _ _ (store_at k t p it f) (λ g. gives_same seen V (valued it g)))

  updated_same : (k : Bool) (t : CType) (p : Option Address) (c x : Content) (f : Footprint)
      → S V (updated (here k) t p c x f) (updated (one k) t (pointer_in seen.one p) (content_in seen.one c) (content_in seen.one x) (footprint_in seen.one f)) (updated (two k) t (pointer_in seen.two p) (content_in seen.two c) (content_in seen.two x) (footprint_in seen.two f))
  updated_same k t p c x f = then_same seen _ _ _ _ _ _ (store_at k t p c f) (λ g. gives_same seen V (valued x g))

  -- with the value before or behind
  updated_kept : (k : Bool) (t : CType) (p : Option Address) (c old new : Content) (when : When) (f : Footprint)
      → S V (updated (here k) t p c (kept when old new) f) (updated (one k) t (pointer_in seen.one p) (content_in seen.one c) (kept when (content_in seen.one old) (content_in seen.one new)) (footprint_in seen.one f))
      (updated (two k) t (pointer_in seen.two p) (content_in seen.two c) (kept when (content_in seen.two old) (content_in seen.two new)) (footprint_in seen.two f))
  updated_kept k t p c old new e.before f = updated_same k t p c old f
  updated_kept k t p c old new e.after f = updated_same k t p c new f

  passed_same : (vs : Values) (cs : List Content) → S contents_in (passed P vs cs) (passed Q (values_with r vs) (contents_in seen.one cs)) (passed P vs (contents_in seen.two cs))
  passed_same e.no_values cs = gives_same seen contents_in []
  passed_same (e.a_value v vs) [] = gives_same seen contents_in []
  passed_same (e.a_value v vs) (c ∷ cs) =
      then_same seen _ _ _ _ _ _ (then_same seen _ _ _ _ _ _ (late_same v c) (λ x. used_same seen x)) (λ x. then_same seen _ _ _ _ _ _ (passed_same vs cs) (λ xs. gives_same seen contents_in (x ∷ xs)))

  called_same : (k : Bool) (t : CType) (f : List ℕ) (b : Bool) (vs : Values) (s r1 r2 : Step (Valued (List Content))) → S (valued_in contents_in) s r1 r2 → S V (called (here k) t f b vs s) (called (one k) t f b (values_with r vs) r1) (called (two k) t f b vs r2)
  called_same k t f b vs s r1 r2 h =
      then_same seen s r1 r2 _ _ _ h (λ x. then_same seen _ _ _ _ _ _ (passed_same vs x.value) (λ ys. then_same seen _ _ _ _ _ _ (calls_same f t ys b)
      (λ c. gives_as seen V (valued c (settled_in k x.footprint)) _ _ (ap (valued (content_in seen.one c)) (settled_as seen.one k x.footprint)) (ap (valued (content_in seen.two c)) (settled_as seen.two k x.footprint)))))

  argument_same : (k : Bool) (t : CType) (x : Valued Content) (ys : Valued (List Content))
      → S (valued_in contents_in) (with_argument (here k) t x ys) (with_argument (one k) t (V seen.one x) (valued_in contents_in seen.one ys)) (with_argument (two k) t (V seen.two x) (valued_in contents_in seen.two ys))
  argument_same k t x ys =
      then_same seen _ _ _ _ _ _ (taken_same k t x) (λ p. then_same seen _ _ _ _ _ _ (apart_same seen k p ys.footprint) (λ g. gives_same seen (valued_in contents_in) (valued (x.value ∷ ys.value) g)))

  typed_argument : (k : Bool) (v : Value) (x : Valued Content) (ys : Valued (List Content))
      → S (valued_in contents_in) (with_argument (here k) (type_of v) x ys) (with_argument (one k) (type_of (value_with r v)) (V seen.one x) (valued_in contents_in seen.one ys)) (with_argument (two k) (type_of v) (V seen.two x) (valued_in contents_in seen.two ys))
  typed_argument k v x ys =
      subst (λ t. S (valued_in contents_in) (with_argument (here k) (type_of v) x ys) (with_argument (one k) t (V seen.one x) (valued_in contents_in seen.one ys)) (with_argument (two k) (type_of v) (V seen.two x) (valued_in contents_in seen.two ys))) (sym (type_with r v))
      (argument_same k (type_of v) x ys)

  moved_side : (k : Bool) (op : Op) (size : ℕ) (side : e.Side) (c d : Content)
      → S pointer_in (moved op size (pointer_of side c d) (count_of side c d)) (moved op size (pointer_of side (content_in seen.one c) (content_in seen.one d)) (count_of side (content_in seen.one c) (content_in seen.one d)))
      (moved op size (pointer_of side (content_in seen.two c) (content_in seen.two d)) (count_of side (content_in seen.two c) (content_in seen.two d)))
  moved_side k op size e.on_left c d = moved_same seen op size c d
  moved_side k op size e.on_right c d = moved_same seen op size d c

  -- parts of a comma expression behind others, in both programs
  abbrev BehindSame : (k : Bool) → Fate → Values → Type 0
  BehindSame k fate vs =
      (before b1 b2 : Footprint) → b1 ≡ footprint_in seen.one before → b2 ≡ footprint_in seen.two before
      → S V (parts_behind (parts_of (here k) fate vs) before) (parts_behind (parts_of (one k) fate (values_with r vs)) b1) (parts_behind (parts_of (two k) fate vs) b2)

  part_same : (k : Bool) (fate : Fate) (v : Value) (vs : Values) → ((f : Fate) → S V (eval (here k) f v) (eval (one k) f (value_with r v)) (eval (two k) f v)) → BehindSame k fate vs → BehindSame k fate (e.a_value v vs)
  part_same k fate v e.no_values first rest before b1 b2 e1 e2 =
      then_same seen _ _ _ _ _ _ (first fate) (λ x. gives_as seen V (valued x.value (grown k before x.footprint)) _ _
      (ap (valued (content_in seen.one x.value)) (ap (λ f. grown k f (footprint_in seen.one x.footprint)) e1 ∙ grown_in seen.one k before x.footprint))
      (ap (valued (content_in seen.two x.value)) (ap (λ f. grown k f (footprint_in seen.two x.footprint)) e2 ∙ grown_in seen.two k before x.footprint)))
  part_same k fate v (e.a_value w ws) first rest before b1 b2 e1 e2 =
      then_same seen _ _ _ _ _ _ (first dropped) (λ x. rest (grown k before (settled_in k x.footprint)) _ _
      (ap (λ f. grown k f (settled_in k (footprint_in seen.one x.footprint))) e1 ∙ by_settled seen.one k before x.footprint)
      (ap (λ f. grown k f (settled_in k (footprint_in seen.two x.footprint))) e2 ∙ by_settled seen.two k before x.footprint))

  second_same : (k : Bool) (p : Footprint) (s r1 r2 : Step (Valued Content)) → S V s r1 r2
      → S V (second_truth k (settled_in k p) s) (second_truth k (settled_in k (footprint_in seen.one p)) r1) (second_truth k (settled_in k (footprint_in seen.two p)) r2)
  second_same k p s r1 r2 h =
      then_same seen s r1 r2 _ _ _ h (λ y. then_same seen _ _ _ _ _ _ (truth_same seen y.value) (λ b. gives_as seen V (valued (of_truth b) (grown k (settled_in k p) y.footprint)) _ _
      (ap (valued (of_truth b)) (behind_settled seen.one k p y.footprint)) (ap (valued (of_truth b)) (behind_settled seen.two k p y.footprint))))

  -- the truth and the footprint of a settled operand
  settled_truth : (k b : Bool) (p : Footprint) → S V (gives (valued (of_truth b) (settled_in k p))) (gives (valued (of_truth b) (settled_in k (footprint_in seen.one p)))) (gives (valued (of_truth b) (settled_in k (footprint_in seen.two p))))
  settled_truth k b p = gives_as seen V (valued (of_truth b) (settled_in k p)) _ _ (ap (valued (of_truth b)) (settled_as seen.one k p)) (ap (valued (of_truth b)) (settled_as seen.two k p))

  branch_same : (k : Bool) (p : Footprint) (s r1 r2 : Step (Valued Content)) → S V s r1 r2
      → S V (s >>= (λ y. gives (valued y.value (grown k (settled_in k p) y.footprint)))) (r1 >>= (λ y. gives (valued y.value (grown k (settled_in k (footprint_in seen.one p)) y.footprint)))) (r2 >>= (λ y. gives (valued y.value (grown k (settled_in k (footprint_in seen.two p)) y.footprint))))
  branch_same k p s r1 r2 h =
      then_same seen s r1 r2 _ _ _ h (λ y. gives_as seen V (valued y.value (grown k (settled_in k p) y.footprint)) _ _
      (ap (valued (content_in seen.one y.value)) (behind_settled seen.one k p y.footprint)) (ap (valued (content_in seen.two y.value)) (behind_settled seen.two k p y.footprint)))

  pub place_at : (n : ℕ) → S pointer_in (place (variable n)) (place (variable1 (r n))) (place (variable n))
  place_at n =
      subst (λ v. S pointer_in (place (variable n)) (place v) (place (variable n))) (sym (as_one n))
      (subst (λ v. S pointer_in (place (variable n)) (place (variable_in seen.one (variable n))) (place v)) (sym (as_two n)) (place_same seen (variable n)))

  -- ---- what is asked quietly

  abbrev ValueSame : Value → Type 0
  ValueSame v = S V (eval (here false) wanted v) (eval (one false) wanted (value_with r v)) (eval (two false) wanted v)

  truths_same : (v : Value) → ValueSame v → S as_it_is (eval (here false) wanted v >>= (λ x. truth_in x.value)) (eval (one false) wanted (value_with r v) >>= (λ x. truth_in x.value)) (eval (two false) wanted v >>= (λ x. truth_in x.value))
  truths_same v same = then_same seen _ _ _ _ _ _ same (λ x. truth_same seen x.value)

  numbers_same : (v : Value) → ValueSame v → S as_it_is (eval (here false) wanted v >>= (λ x. number_in x.value)) (eval (one false) wanted (value_with r v) >>= (λ x. number_in x.value)) (eval (two false) wanted v >>= (λ x. number_in x.value))
  numbers_same v same = then_same seen _ _ _ _ _ _ same (λ x. number_same seen x.value)

  truth_one : (v : Value) → ValueSame v → (at : At) (s1 s2 : List Bound) (m1 m2 : Memory) → Stands seen.one seen.cells at s1 m1 → Stands seen.two seen.cells at s2 m2
      → pure_only (is_pure v) (quietly (eval (here false) wanted v >>= (λ x. truth_in x.value)) at) ≡ pure_only (is_pure (value_with r v)) (quietly (eval (one false) wanted (value_with r v) >>= (λ x. truth_in x.value)) (beside at s1 m1))
  truth_one v same at s1 s2 m1 m2 h1 h2 =
      if_pure (is_pure v) (is_pure (value_with r v)) _ _ (pure_with r v) (λ h. quiet_one _ _ ((eval (two false) wanted v >>= (λ x. truth_in x.value)) (beside at s2 m2)) ((truths_same v same).alike at s1 s2 m1 m2 h1 h2)
      ((then_roomy _ _ (value_roomy (one false) (value_with r v) wanted (pure_with r v ∙ h)) (λ x. truth_roomy x.value)).fits (beside at s1 m1)))

  truth_two : (v : Value) → ValueSame v → (at : At) (s1 s2 : List Bound) (m1 m2 : Memory) → Stands seen.one seen.cells at s1 m1 → Stands seen.two seen.cells at s2 m2
      → pure_only (is_pure v) (quietly (eval (here false) wanted v >>= (λ x. truth_in x.value)) at) ≡ pure_only (is_pure v) (quietly (eval (two false) wanted v >>= (λ x. truth_in x.value)) (beside at s2 m2))
  truth_two v same at s1 s2 m1 m2 h1 h2 =
      if_pure (is_pure v) (is_pure v) _ _ refl (λ h. quiet_two _ ((eval (one false) wanted (value_with r v) >>= (λ x. truth_in x.value)) (beside at s1 m1)) _ ((truths_same v same).alike at s1 s2 m1 m2 h1 h2)
      ((then_roomy _ _ (value_roomy (two false) v wanted h) (λ x. truth_roomy x.value)).fits (beside at s2 m2)))

  number_one : (v : Value) → ValueSame v → (at : At) (s1 s2 : List Bound) (m1 m2 : Memory) → Stands seen.one seen.cells at s1 m1 → Stands seen.two seen.cells at s2 m2
      → pure_only (is_pure v) (quietly (eval (here false) wanted v >>= (λ x. number_in x.value)) at) ≡ pure_only (is_pure (value_with r v)) (quietly (eval (one false) wanted (value_with r v) >>= (λ x. number_in x.value)) (beside at s1 m1))
  number_one v same at s1 s2 m1 m2 h1 h2 =
      if_pure (is_pure v) (is_pure (value_with r v)) _ _ (pure_with r v) (λ h. quiet_one _ _ ((eval (two false) wanted v >>= (λ x. number_in x.value)) (beside at s2 m2)) ((numbers_same v same).alike at s1 s2 m1 m2 h1 h2)
      ((then_roomy _ _ (value_roomy (one false) (value_with r v) wanted (pure_with r v ∙ h)) (λ x. number_roomy x.value)).fits (beside at s1 m1)))

  number_two : (v : Value) → ValueSame v → (at : At) (s1 s2 : List Bound) (m1 m2 : Memory) → Stands seen.one seen.cells at s1 m1 → Stands seen.two seen.cells at s2 m2
      → pure_only (is_pure v) (quietly (eval (here false) wanted v >>= (λ x. number_in x.value)) at) ≡ pure_only (is_pure v) (quietly (eval (two false) wanted v >>= (λ x. number_in x.value)) (beside at s2 m2))
  number_two v same at s1 s2 m1 m2 h1 h2 =
      if_pure (is_pure v) (is_pure v) _ _ refl (λ h. quiet_two _ ((eval (one false) wanted (value_with r v) >>= (λ x. number_in x.value)) (beside at s1 m1)) _ ((numbers_same v same).alike at s1 s2 m1 m2 h1 h2)
      ((then_roomy _ _ (value_roomy (two false) v wanted h) (λ x. number_roomy x.value)).fits (beside at s2 m2)))

  -- ---- expressions

  -- a mark does the same in all three
  pub record MarksSame (k : Bool) (m : Mark) : Type 0 where
    pub first : (at : At) (s1 s2 : List Bound) (m1 m2 : Memory) → Stands seen.one seen.cells at s1 m1 → Stands seen.two seen.cells at s2 m2 → marked (one k) (mark_with r m) (beside at s1 m1) ≡ beside (marked (here k) m at) s1 m1
    pub second : (at : At) (s1 s2 : List Bound) (m1 m2 : Memory) → Stands seen.one seen.cells at s1 m1 → Stands seen.two seen.cells at s2 m2 → marked (two k) m (beside at s2 m2) ≡ beside (marked (here k) m at) s2 m2

  pub stands_marked : (o : Other) (k : Bool) (m : Mark) (at : At) (scope : List Bound) (memory : Memory) → Stands o seen.cells at scope memory → Stands o seen.cells (marked (here k) m at) scope memory
  stands_marked o k (e.mark predicate id bound) at scope memory h = stands_by o seen.cells id _ (bound_at (here k) bound at) at scope memory h

  marked_grows : {A : Type 0} (k : Bool) (m : Mark) (s : Step A) → Grows s → Grows (λ at. s (marked (here k) m at))
  marked_grows k (e.mark predicate id bound) s h at = subst (λ n. n ≤ blocks_in (s (marked (here k) (e.mark predicate id bound) at))) (marked_as_long id _ (bound_at (here k) bound at) at) (h (marked (here k) (e.mark predicate id bound) at))

  -- a step behind a mark
  pub behind_mark : {A : Type 0} (with : Other → A → A) (k : Bool) (m : Mark) (s r1 r2 : Step A) → MarksSame k m → S with s r1 r2
      → S with (λ at. s (marked (here k) m at)) (λ at. r1 (marked (one k) (mark_with r m) at)) (λ at. r2 (marked (two k) m at))
  behind_mark with k m s r1 r2 d h = record {
    alike = λ at s1 s2 m1 m2 h1 h2.
        subst (λ x. Alike seen with (s (marked (here k) m at)) (r1 x) (r2 (marked (two k) m (beside at s2 m2)))) (sym (d.first at s1 s2 m1 m2 h1 h2))
        (subst (λ x. Alike seen with (s (marked (here k) m at)) (r1 (beside (marked (here k) m at) s1 m1)) (r2 x)) (sym (d.second at s1 s2 m1 m2 h1 h2))
        (h.alike (marked (here k) m at) s1 s2 m1 m2 (stands_marked seen.one k m at s1 m1 h1) (stands_marked seen.two k m at s2 m2 h2)));
    grows = λ at. marked_grows k m s h.grows at;
  }

  -- the states behind marks
  abbrev Behind : (k : Bool) (ms : Marks) (s r1 r2 : Step (Valued Content)) → Type 0
  Behind k ms s r1 r2 = S V (λ at. s (marked_all (here k) ms at)) (λ at. r1 (marked_all (one k) (marks_with r ms) at)) (λ at. r2 (marked_all (two k) ms at))

  mutual
    pub value_same : (k : Bool) (v : Value) (fate : Fate) → S V (eval (here k) fate v) (eval (one k) fate (value_with r v)) (eval (two k) fate v)
    value_same k (e.Constant t z) fate = gives_same seen V (valued (content.Number z) untouched)
    value_same k (e.Load t p) fate = then_same seen _ _ _ _ _ _ (lvalue_same k p) (λ x. load_at k t x)
    value_same k (e.Whole t p) fate = then_same seen _ _ _ _ _ _ (lvalue_same k p) (λ x. gives_same seen V (valued (content.Address x.value) x.footprint))
    value_same k (e.Decay t p) fate = then_same seen _ _ _ _ _ _ (lvalue_same k p) (λ x. gives_same seen V (valued (content.Address x.value) x.footprint))
    value_same k (e.AddressOf t p) fate = then_same seen _ _ _ _ _ _ (lvalue_same k p) (λ x. gives_same seen V (valued (content.Address x.value) x.footprint))
    value_same k (e.Convert e.to_void t v) fate = then_same seen _ _ _ _ _ _ (value_same k v untaken) (λ x. gives_same seen V (valued content.Unset x.footprint))
    value_same k (e.Convert e.to_integer t v) fate = then_same seen _ _ _ _ _ _ (value_same k v (inside fate)) (λ x. then_same seen _ _ _ _ _ _ (converted_here_same fate e.to_integer t x.value) (λ c. gives_same seen V (valued c x.footprint)))
    value_same k (e.Convert e.to_truth t v) fate = then_same seen _ _ _ _ _ _ (value_same k v (inside fate)) (λ x. then_same seen _ _ _ _ _ _ (converted_here_same fate e.to_truth t x.value) (λ c. gives_same seen V (valued c x.footprint)))
    value_same k (e.Convert e.to_null t v) fate = then_same seen _ _ _ _ _ _ (value_same k v (inside fate)) (λ x. then_same seen _ _ _ _ _ _ (converted_here_same fate e.to_null t x.value) (λ c. gives_same seen V (valued c x.footprint)))
    value_same k (e.Convert e.to_pointer t v) fate = then_same seen _ _ _ _ _ _ (value_same k v (inside fate)) (λ x. then_same seen _ _ _ _ _ _ (converted_here_same fate e.to_pointer t x.value) (λ c. gives_same seen V (valued c x.footprint)))
    value_same k (e.Minus t v) fate = then_same seen _ _ _ _ _ _ (value_same k v wanted) (λ x. then_same seen _ _ _ _ _ _ (applied_same seen P.model O.Sub (scalar_in t) (content.Number (pos 0)) x.value) (λ z. gives_same seen V (valued (content.Number z) x.footprint)))
    value_same k (e.Complement t v) fate = then_same seen _ _ _ _ _ _ (value_same k v wanted) (λ x. then_same seen _ _ _ _ _ _ (applied_same seen P.model O.Xor (scalar_in t) x.value (in_type P t (negsuc 0))) (λ z. gives_same seen V (valued (content.Number z) x.footprint)))
    value_same k (e.Not t v) fate = then_same seen _ _ _ _ _ _ (value_same k v wanted) (λ x. then_same seen _ _ _ _ _ _ (truth_same seen x.value) (λ b. gives_same seen V (valued (of_truth (not b)) x.footprint)))
    value_same k (e.Arithmetic t op s a b) fate = then_same seen _ _ _ _ _ _ (value_same k a wanted) (λ x. then_same seen _ _ _ _ _ _ (value_same k b wanted) (λ y. then_same seen _ _ _ _ _ _ (apart_same seen k x.footprint y.footprint) (λ f. then_same seen _ _ _ _ _ _ (applied_same seen P.model op s x.value y.value) (λ z. gives_same seen V (valued (content.Number z) f)))))
    value_same k (e.Move t op size side a b) fate = then_same seen _ _ _ _ _ _ (value_same k a wanted) (λ x. then_same seen _ _ _ _ _ _ (value_same k b wanted) (λ y. then_same seen _ _ _ _ _ _ (apart_same seen k x.footprint y.footprint) (λ f. then_same seen _ _ _ _ _ _ (moved_side k op size side x.value y.value) (λ p. gives_same seen V (valued (content.Address p) f)))))
    value_same k (e.Distance t size a b) fate = then_same seen _ _ _ _ _ _ (value_same k a wanted) (λ x. then_same seen _ _ _ _ _ _ (value_same k b wanted) (λ y. then_same seen _ _ _ _ _ _ (apart_same seen k x.footprint y.footprint) (λ f. then_same seen _ _ _ _ _ _ (counted_same seen size x.value y.value) (λ z. gives_same seen V (valued (content.Number z) f)))))
    value_same k (e.Compare t op a b) fate = then_same seen _ _ _ _ _ _ (value_same k a wanted) (λ x. then_same seen _ _ _ _ _ _ (value_same k b wanted) (λ y. then_same seen _ _ _ _ _ _ (apart_same seen k x.footprint y.footprint) (λ f. then_same seen _ _ _ _ _ _ (compared_same seen op x.value y.value) (λ c. gives_same seen V (valued (of_truth c) f)))))
    value_same k (e.Logical t op a b) fate = then_same seen _ _ _ _ _ _ (value_same k a wanted) (λ x. then_same seen _ _ _ _ _ _ (truth_same seen x.value) (λ c. if_same seen (decides op c) _ _ _ _ _ _ (settled_truth k c x.footprint) (second_same k x.footprint _ _ _ (value_same k b wanted))))
    value_same k (e.Conditional t test a b) fate = then_same seen _ _ _ _ _ _ (value_same k test wanted) (λ x. then_same seen _ _ _ _ _ _ (truth_same seen x.value) (λ c. branch_same k x.footprint _ _ _ (if_same seen c _ _ _ _ _ _ (value_same k a (of_branch fate)) (value_same k b (of_branch fate)))))
    value_same k (e.Assign t p v) fate = then_same seen _ _ _ _ _ _ (lvalue_same k p) (λ x. then_same seen _ _ _ _ _ _ (value_same k v unconverted) (λ y. then_same seen _ _ _ _ _ _ (taken_same k t y) (λ q. then_same seen _ _ _ _ _ _ (apart_same seen k x.footprint q) (λ operands. then_same seen _ _ _ _ _ _ (aim_at k t x.value operands) (λ f. then_same seen _ _ _ _ _ _ (late_same v y.value) (λ c. assigned_same (is_struct t) k t x.value c f))))))
    value_same k (e.Update t op s p v) fate = then_same seen _ _ _ _ _ _ (lvalue_same k p) (λ x. then_same seen _ _ _ _ _ _ (load_at k t x) (λ old. then_same seen _ _ _ _ _ _ (value_same k v wanted) (λ y. then_same seen _ _ _ _ _ _ (apart_same seen k old.footprint y.footprint) (λ operands. then_same seen _ _ _ _ _ _ (aim_one k t x.value operands) (λ f. then_same seen _ _ _ _ _ _ (number_same seen old.value) (λ n. then_same seen _ _ _ _ _ _ (applied_same seen P.model op s (content.Number (convert_of P.model s n)) y.value) (λ z. updated_same k t x.value (in_type P t z) (in_type P t z) f)))))))
    value_same k (e.UpdatePointer t op size p v) fate = then_same seen _ _ _ _ _ _ (lvalue_same k p) (λ x. then_same seen _ _ _ _ _ _ (load_at k t x) (λ old. then_same seen _ _ _ _ _ _ (value_same k v wanted) (λ y. then_same seen _ _ _ _ _ _ (apart_same seen k old.footprint y.footprint) (λ operands. then_same seen _ _ _ _ _ _ (aim_one k t x.value operands) (λ f. then_same seen _ _ _ _ _ _ (moved_same seen op size old.value y.value) (λ q. updated_same k t x.value (content.Address q) (content.Address q) f))))))
    value_same k (e.Step t when op s p) fate = then_same seen _ _ _ _ _ _ (lvalue_same k p) (λ x. then_same seen _ _ _ _ _ _ (load_at k t x) (λ old. then_same seen _ _ _ _ _ _ (aim_one k t x.value old.footprint) (λ f. then_same seen _ _ _ _ _ _ (number_same seen old.value) (λ n. then_same seen _ _ _ _ _ _ (applied_same seen P.model op s (content.Number (convert_of P.model s n)) (content.Number (pos 1))) (λ z. updated_kept k t x.value (in_type P t z) old.value (in_type P t z) when f)))))
    value_same k (e.StepPointer t when op size p) fate = then_same seen _ _ _ _ _ _ (lvalue_same k p) (λ x. then_same seen _ _ _ _ _ _ (load_at k t x) (λ old. then_same seen _ _ _ _ _ _ (aim_one k t x.value old.footprint) (λ f. then_same seen _ _ _ _ _ _ (moved_same seen op size old.value (content.Number (pos 1))) (λ q. updated_kept k t x.value (content.Address q) old.value (content.Address q) when f))))
    value_same k (e.Call t f vs) fate = called_same k t f (takes fate) vs _ _ _ (arguments_same k vs)
    value_same k (e.Comma t vs) fate = parts_same k vs (of_last fate) untouched untouched untouched refl refl
    value_same k (e.Marked t ms v) fate = behind_all k ms _ _ _ (value_same k v (of_last fate))
    value_same k (e.Decide t v p q) fate = then_same seen _ _ _ _ _ _ (value_same k v wanted) (λ x. then_same seen _ _ _ _ _ _ (truth_same seen x.value) (λ b. record { alike = λ at s1 s2 m1 m2 h1 h2. all_give (record { bounds = h1.bounds; there = h1.there; blocks = h1.blocks }) (record { bounds = h2.bounds; there = h2.there; blocks = h2.blocks }); grows = λ at. le_refl (length at.memory) }))
    value_same k (e.After t v id) fate = then_same seen _ _ _ _ _ _ (value_same k v (of_last fate)) (λ x. record { alike = λ at s1 s2 m1 m2 h1 h2. all_give (record { bounds = h1.bounds; there = h1.there; blocks = h1.blocks }) (record { bounds = h2.bounds; there = h2.there; blocks = h2.blocks }); grows = λ at. le_refl (length at.memory) })

    pub lvalue_same : (k : Bool) (p : Place) → S (valued_in pointer_in) (place_of (here k) p) (place_of (one k) (place_with r p)) (place_of (two k) p)
    lvalue_same k (e.Object t n) = then_same seen _ _ _ _ _ _ (place_at n) (λ a. gives_same seen (valued_in pointer_in) (valued a untouched))
    lvalue_same k (e.Pointed t v) = then_same seen _ _ _ _ _ _ (value_same k v wanted) (λ x. then_same seen _ _ _ _ _ _ (address_same seen x.value) (λ p. gives_same seen (valued_in pointer_in) (valued p x.footprint)))
    lvalue_same k (e.Element t size side a b) = then_same seen _ _ _ _ _ _ (value_same k a wanted) (λ x. then_same seen _ _ _ _ _ _ (value_same k b wanted) (λ y. then_same seen _ _ _ _ _ _ (apart_same seen k x.footprint y.footprint) (λ f. then_same seen _ _ _ _ _ _ (moved_side k O.Add size side x.value y.value) (λ p. gives_same seen (valued_in pointer_in) (valued p f)))))
    lvalue_same k (e.Part t offset p) = then_same seen _ _ _ _ _ _ (lvalue_same k p) (λ x. then_same seen _ _ _ _ _ _ (member_same seen offset x.value) (λ a. gives_same seen (valued_in pointer_in) (valued a x.footprint)))
    lvalue_same k (e.Held t v) = then_same seen _ _ _ _ _ _ (value_same k v wanted) (λ x. then_same seen _ _ _ _ _ _ (address_same seen x.value) (λ p. gives_same seen (valued_in pointer_in) (valued p x.footprint)))

    arguments_same : (k : Bool) (vs : Values) → S (valued_in contents_in) (arguments_of (here k) vs) (arguments_of (one k) (values_with r vs)) (arguments_of (two k) vs)
    arguments_same k e.no_values = gives_same seen (valued_in contents_in) (valued [] untouched)
    arguments_same k (e.a_value v vs) = then_same seen _ _ _ _ _ _ (value_same k v unconverted) (λ x. then_same seen _ _ _ _ _ _ (arguments_same k vs) (λ ys. typed_argument k v x ys))

    parts_same : (k : Bool) (vs : Values) (fate : Fate) → BehindSame k fate vs
    parts_same k e.no_values fate before b1 b2 e1 e2 = gives_same seen V (valued content.Unset untouched)
    parts_same k (e.a_value v vs) fate before b1 b2 e1 e2 = part_same k fate v vs (value_same k v) (parts_same k vs fate) before b1 b2 e1 e2

    behind_all : (k : Bool) (ms : Marks) (s r1 r2 : Step (Valued Content)) → S V s r1 r2 → Behind k ms s r1 r2
    behind_all k e.no_marks s r1 r2 h = h
    behind_all k (e.a_mark m ms) s r1 r2 h = behind_mark V k m _ _ _ (mark_same k m) (behind_all k ms s r1 r2 h)

    pub mark_same : (k : Bool) (m : Mark) → MarksSame k m
    mark_same k (e.mark predicate id bound) = record {
      first = λ at s1 s2 m1 m2 h1 h2.
          ap (λ b. marked_with id b (bound_at (one k) (bindings_with r bound) (beside at s1 m1)) (beside at s1 m1)) (sym (truth_one predicate (value_same false predicate wanted) at s1 s2 m1 m2 h1 h2))
          ∙ ap (λ bs. marked_with id (pure_only (is_pure predicate) (quietly (eval (here false) wanted predicate >>= (λ x. truth_in x.value)) at)) bs (beside at s1 m1)) (sym (bound_one k bound at s1 s2 m1 m2 h1 h2))
          ∙ beside_by id (pure_only (is_pure predicate) (quietly (eval (here false) wanted predicate >>= (λ x. truth_in x.value)) at)) (bound_at (here k) bound at) at s1 m1;
      second = λ at s1 s2 m1 m2 h1 h2.
          ap (λ b. marked_with id b (bound_at (two k) bound (beside at s2 m2)) (beside at s2 m2)) (sym (truth_two predicate (value_same false predicate wanted) at s1 s2 m1 m2 h1 h2))
          ∙ ap (λ bs. marked_with id (pure_only (is_pure predicate) (quietly (eval (here false) wanted predicate >>= (λ x. truth_in x.value)) at)) bs (beside at s2 m2)) (sym (bound_two k bound at s1 s2 m1 m2 h1 h2))
          ∙ beside_by id (pure_only (is_pure predicate) (quietly (eval (here false) wanted predicate >>= (λ x. truth_in x.value)) at)) (bound_at (here k) bound at) at s2 m2;
    }

    bound_one : (k : Bool) (bound : Bindings) (at : At) (s1 s2 : List Bound) (m1 m2 : Memory) → Stands seen.one seen.cells at s1 m1 → Stands seen.two seen.cells at s2 m2 → bound_at (here k) bound at ≡ bound_at (one k) (bindings_with r bound) (beside at s1 m1)
    bound_one k e.no_bindings at s1 s2 m1 m2 h1 h2 = refl
    bound_one k (e.a_binding name v rest) at s1 s2 m1 m2 h1 h2 =
        ap (λ z. one_more name z (bound_at (here k) rest at)) (number_one v (value_same false v wanted) at s1 s2 m1 m2 h1 h2)
        ∙ ap (one_more name (pure_only (is_pure (value_with r v)) (quietly (eval (one false) wanted (value_with r v) >>= (λ x. number_in x.value)) (beside at s1 m1)))) (bound_one k rest at s1 s2 m1 m2 h1 h2)

    bound_two : (k : Bool) (bound : Bindings) (at : At) (s1 s2 : List Bound) (m1 m2 : Memory) → Stands seen.one seen.cells at s1 m1 → Stands seen.two seen.cells at s2 m2 → bound_at (here k) bound at ≡ bound_at (two k) bound (beside at s2 m2)
    bound_two k e.no_bindings at s1 s2 m1 m2 h1 h2 = refl
    bound_two k (e.a_binding name v rest) at s1 s2 m1 m2 h1 h2 =
        ap (λ z. one_more name z (bound_at (here k) rest at)) (number_two v (value_same false v wanted) at s1 s2 m1 m2 h1 h2)
        ∙ ap (one_more name (pure_only (is_pure v) (quietly (eval (two false) wanted v >>= (λ x. number_in x.value)) (beside at s2 m2)))) (bound_two k rest at s1 s2 m1 m2 h1 h2)
