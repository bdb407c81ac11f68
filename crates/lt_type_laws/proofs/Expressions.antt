-- Expressions do the same where types have other numbers.
use Rattle.std.proofs.Common.{◌≡◌, ℕ, pos, negsuc, List, [], ◌∷◌, Option, Some, None, Bool, true, false, refl, sym, ap, ◌∙◌, subst}
use Rattle.std.specs.Prelude.{not, if◌then◌else◌}
use Rattle.lt_model.specs.declared.cell.Address.{Address}
use Rattle.lt_model.specs.declared.cell.Content.{Content}
use Rattle.lt_model.specs.declared.cell.Content.TheVariants as content
use Rattle.lt_model.specs.declared.cell.Shape.{Shape}
use Rattle.lt_model.specs.declared.operator.Op.TheVariants as O
use Rattle.lt_model.specs.Scalar.{convert_of}
use Rattle.lt_model.specs.State.{Binding, Footprint, Valued, untouched}
use Rattle.lt_tree.specs.Typing.Types.{CType, is_struct}
use Rattle.lt_tree.specs.Typing.TypedTree as e
use Rattle.lt_tree.specs.Typing.TypedTree.{Value, Values, Place, Marks, Mark, Bindings, Conversion, type_of}
use Rattle.lt_tree.specs.Typing.Programs.{Program}
use Rattle.lt_ir.specs.declared.variable.Variable.{Variable}
use Rattle.lt_ir.specs.Running.{At, Step, ◌>>=◌, gives, one_more, marked_with, quietly}
use Rattle.lt_ir.specs.Evaluation.{valued, number_in, truth_in, of_truth, settled_in, grown, with_reads, aimed, one_cell, loaded, stored, copied}
use Rattle.lt_meaning.specs.Expressions.{is_pure, pure_only, Around, Calls, Fate, wanted, unconverted, dropped, dropped_branch, untaken, takes, inside, of_branch, of_last, converted, converted_here, late, passed, called, with_argument, taken, assigned, updated, kept, cells_of, cell_type, shape, scalar_in, in_type, pointer_of, count_of, decides, second_truth, eval, place_of, arguments_of, parts_of, bound_at, marked, marked_all}
use Rattle.lt_type_laws.specs.Accesses.{Accesses, AccessesAll, AccessesPlace, AccessesMarks, AccessesMark, AccessesBindings}
use Rattle.lt_type_laws.proofs.Memory.{Comparison, Fits, CellsMeetAlike, shape_meets}
use Rattle.lt_type_laws.proofs.Alike.{other, Alike, both_give, Same, then_same, gives_same, if_same, quietly_same}
use Rattle.lt_type_laws.proofs.Machine.{number_same, address_same, used_same, truth_same, apart_same, aimed_same, reads_same, loaded_same, one_cell_alike, stored_same, copied_same, moved_same, member_same, applied_same, counted_same, compared_same, place_same}
use Rattle.lt_type_laws.proofs.Programs.{IsAlike}

-- the parts of a comma expression, behind others
abbrev parts_behind : Option (Footprint → Step (Valued Content)) → Footprint → Step (Valued Content)
parts_behind parts before = elim (parts) [ None ↦ gives (valued content.Unset untouched) | Some step ↦ step before ]

module _ (seen : Comparison) (test : CType → Bool) (P : Program) (ts : List CType) (program_alike : IsAlike seen test P ts)
    (variable : ℕ → Variable) (calls calls' : Calls) (calls_same : (f : List ℕ) (t : CType) (cs : List Content) (b : Bool) → Same seen (calls f t cs b) (calls' f t cs b)) where
  abbrev S : {A : Type 0} → Step A → Step A → Type 0
  S s t = Same seen s t

  abbrev Q : Program
  Q = record P { types = ts }

  abbrev here : Bool → Around
  here k = record { program = P; variable = variable; calls = calls; tracks = k }

  abbrev there : Bool → Around
  there k = record { program = Q; variable = variable; calls = calls'; tracks = k }

  -- ---- what is done with values

  struct_alike : (t : CType) → is_struct t ≡ true → CellsMeetAlike seen (shape P t).cells (shape Q t).cells
  struct_alike t q =
      let it = program_alike.structs t q in
      subst (λ (them : Shape). CellsMeetAlike seen (shape P t).cells them.cells) (sym it.0) (shape_meets seen (shape P t).cells it.1.1)

  cells_by : (b : Bool) (t : CType) → is_struct t ≡ b → test t ≡ true → CellsMeetAlike seen (if b then (shape P t).cells else one_cell (cell_type P t)) (if b then (shape Q t).cells else one_cell (cell_type Q t))
  cells_by true t q h = struct_alike t q
  cells_by false t q h = one_cell_alike seen (program_alike.accesses t h)

  load_at : (k : Bool) (t : CType) (x : Valued (Option Address)) → test t ≡ true → S (loaded k P.model (cell_type P t) x) (loaded k P.model (cell_type Q t) x)
  load_at k t x h = loaded_same seen k P.model x (program_alike.accesses t h)

  aim_one : (k : Bool) (t : CType) (p : Option Address) (f : Footprint) → test t ≡ true → S (aimed k (one_cell (cell_type P t)) p f) (aimed k (one_cell (cell_type Q t)) p f)
  aim_one k t p f h = aimed_same seen k p f (one_cell_alike seen (program_alike.accesses t h))

  aim_at : (k : Bool) (t : CType) (p : Option Address) (f : Footprint) → test t ≡ true → S (aimed k (cells_of P t) p f) (aimed k (cells_of Q t) p f)
  aim_at k t p f h = aimed_same seen k p f (cells_by (is_struct t) t refl h)

  store_at : (k : Bool) (t : CType) (p : Option Address) (c : Content) (f : Footprint) → test t ≡ true → S (stored k P.model (cell_type P t) p c f) (stored k P.model (cell_type Q t) p c f)
  store_at k t p c f h = stored_same seen k P.model p c f (program_alike.accesses t h)

  taken_by : (b k : Bool) (t : CType) (x : Valued Content) → is_struct t ≡ b
      → S (if b then with_reads k (if b then (shape P t).cells else one_cell (cell_type P t)) x else gives x.footprint) (if b then with_reads k (if b then (shape Q t).cells else one_cell (cell_type Q t)) x else gives x.footprint)
  taken_by true k t x q = reads_same seen k x (struct_alike t q)
  taken_by false k t x q = gives_same seen x.footprint

  taken_same : (k : Bool) (t : CType) (x : Valued Content) → S (taken (here k) t x) (taken (there k) t x)
  taken_same k t x = taken_by (is_struct t) k t x refl

  converted_same : (how : Conversion) (t : CType) (c : Content) → S (converted P how t c) (converted Q how t c)
  converted_same e.to_integer t c = then_same seen _ _ _ _ (number_same seen c) (λ z. gives_same seen (in_type P t z))
  converted_same e.to_truth t c = then_same seen _ _ _ _ (truth_same seen c) (λ b. gives_same seen (of_truth b))
  converted_same e.to_null t c = gives_same seen (content.Address None)
  converted_same e.to_pointer t c = then_same seen _ _ _ _ (address_same seen c) (λ a. gives_same seen (content.Address a))
  converted_same e.to_void t c = gives_same seen content.Unset

  converted_here_same : (fate : Fate) (how : Conversion) (t : CType) (c : Content) → S (converted_here fate P how t c) (converted_here fate Q how t c)
  converted_here_same wanted how t c = converted_same how t c
  converted_here_same unconverted how t c = gives_same seen c
  converted_here_same dropped how t c = converted_same how t c
  converted_here_same dropped_branch how t c = gives_same seen c
  converted_here_same untaken how t c = converted_same how t c

  late_same : (v : Value) (c : Content) → S (late P v c) (late Q v c)
  late_same (e.Convert how t v) c = converted_same how t c
  late_same v c = gives_same seen c

  copy_at : (k : Bool) (t : CType) (p from : Option Address) (f : Footprint) → is_struct t ≡ true → S (copied k P.model (shape P t) p from f) (copied k P.model (shape Q t) p from f)
  copy_at k t p from f q =
      let it = program_alike.structs t q in
      subst (λ (them : Shape). S (copied k P.model (shape P t) p from f) (copied k P.model them p from f)) (sym it.0) (copied_same seen k P.model (shape P t) p from f it.1.1)

  pub assigned_same : (b k : Bool) (t : CType) (p : Option Address) (c : Content) (f : Footprint) → is_struct t ≡ b → test t ≡ true → S (assigned (here k) t p c f b) (assigned (there k) t p c f b)
  assigned_same true k t p c f q h = then_same seen _ _ _ _ (address_same seen c) (λ from. then_same seen _ _ _ _ (copy_at k t p from f q) (λ g. gives_same seen (valued (content.Address p) g)))
  assigned_same false k t p c f q h = then_same seen _ _ _ _ (used_same seen c) (λ it. then_same seen _ _ _ _ (store_at k t p it f h) (λ g. gives_same seen (valued it g)))

  updated_same : (k : Bool) (t : CType) (p : Option Address) (c x : Content) (f : Footprint) → test t ≡ true → S (updated (here k) t p c x f) (updated (there k) t p c x f)
  updated_same k t p c x f h = then_same seen _ _ _ _ (store_at k t p c f h) (λ g. gives_same seen (valued x g))

  passed_same : (vs : Values) (cs : List Content) → S (passed P vs cs) (passed Q vs cs)
  passed_same e.no_values cs = gives_same seen []
  passed_same (e.a_value v vs) [] = gives_same seen []
  passed_same (e.a_value v vs) (c ∷ cs) = then_same seen _ _ _ _ (then_same seen _ _ _ _ (late_same v c) (λ x. used_same seen x)) (λ x. then_same seen _ _ _ _ (passed_same vs cs) (λ xs. gives_same seen (x ∷ xs)))

  called_same : (k : Bool) (t : CType) (f : List ℕ) (b : Bool) (vs : Values) (s r : Step (Valued (List Content))) → S s r → S (called (here k) t f b vs s) (called (there k) t f b vs r)
  called_same k t f b vs s r h =
      then_same seen s r _ _ h (λ x. then_same seen _ _ _ _ (passed_same vs x.value) (λ ys. then_same seen _ _ _ _ (calls_same f t ys b) (λ c. gives_same seen (valued c (settled_in k x.footprint)))))

  argument_same : (k : Bool) (t : CType) (x : Valued Content) (ys : Valued (List Content)) → S (with_argument (here k) t x ys) (with_argument (there k) t x ys)
  argument_same k t x ys = then_same seen _ _ _ _ (taken_same k t x) (λ p. then_same seen _ _ _ _ (apart_same seen k p ys.footprint) (λ g. gives_same seen (valued (x.value ∷ ys.value) g)))

  part_same : (k : Bool) (fate : Fate) (v : Value) (vs : Values) → ((f : Fate) → S (eval (here k) f v) (eval (there k) f v)) → ((before : Footprint) → S (parts_behind (parts_of (here k) fate vs) before) (parts_behind (parts_of (there k) fate vs) before))
      → (before : Footprint) → S (parts_behind (parts_of (here k) fate (e.a_value v vs)) before) (parts_behind (parts_of (there k) fate (e.a_value v vs)) before)
  part_same k fate v e.no_values first rest before = then_same seen _ _ _ _ (first fate) (λ x. gives_same seen (valued x.value (grown k before x.footprint)))
  part_same k fate v (e.a_value w ws) first rest before = then_same seen _ _ _ _ (first dropped) (λ x. rest (grown k before (settled_in k x.footprint)))

  second_same : (k : Bool) (p : Footprint) (s r : Step (Valued Content)) → S s r → S (second_truth k p s) (second_truth k p r)
  second_same k p s r h = then_same seen s r _ _ h (λ y. then_same seen _ _ _ _ (truth_same seen y.value) (λ b. gives_same seen (valued (of_truth b) (grown k p y.footprint))))

  -- ---- marks leave memory

  fits_by : (id : ℕ) (b : Option Bool) (bs : Option (List Binding)) (at : At) → Fits seen at.memory → Fits seen (marked_with id b bs at).memory
  fits_by id (Some b) (Some bs) at h = h
  fits_by id None bs at h = h
  fits_by id (Some b) None at h = h

  marked_by : (id : ℕ) (b : Option Bool) (bs : Option (List Binding)) (at : At) → marked_with id b bs (other seen at) ≡ other seen (marked_with id b bs at)
  marked_by id (Some b) (Some bs) at = refl
  marked_by id None bs at = refl
  marked_by id (Some b) None at = refl

  fits_mark : (k : Bool) (m : Mark) (at : At) → Fits seen at.memory → Fits seen (marked (here k) m at).memory
  fits_mark k (e.mark predicate id bound) at h = fits_by id _ (bound_at (here k) bound at) at h

  abbrev pub MarkSame : Bool → Mark → Type 0
  MarkSame k m = (at : At) → Fits seen at.memory → marked (there k) m (other seen at) ≡ other seen (marked (here k) m at)

  -- a step behind a mark
  pub behind_mark : {A : Type 0} (k : Bool) (m : Mark) (s t : Step A) → MarkSame k m → S s t → S (λ at. s (marked (here k) m at)) (λ at. t (marked (there k) m at))
  behind_mark k m s t e h = record {
    alike = λ at fits. subst (λ x. Alike seen (s (marked (here k) m at)) (t x)) (sym (e at fits)) (h.alike (marked (here k) m at) (fits_mark k m at fits));
  }

  -- ---- expressions

  mutual
    pub value_same : (k : Bool) (v : Value) (fate : Fate) → Accesses test v → S (eval (here k) fate v) (eval (there k) fate v)
    value_same k (e.Constant t z) fate h = gives_same seen (valued (content.Number z) untouched)
    value_same k (e.Load t p) fate h = then_same seen _ _ _ _ (lvalue_same k p h.1) (λ x. load_at k t x h.0)
    value_same k (e.Whole t p) fate h = then_same seen _ _ _ _ (lvalue_same k p h) (λ x. gives_same seen (valued (content.Address x.value) x.footprint))
    value_same k (e.Decay t p) fate h = then_same seen _ _ _ _ (lvalue_same k p h) (λ x. gives_same seen (valued (content.Address x.value) x.footprint))
    value_same k (e.AddressOf t p) fate h = then_same seen _ _ _ _ (lvalue_same k p h) (λ x. gives_same seen (valued (content.Address x.value) x.footprint))
    value_same k (e.Convert e.to_void t v) fate h = then_same seen _ _ _ _ (value_same k v untaken h) (λ x. gives_same seen (valued content.Unset x.footprint))
    value_same k (e.Convert e.to_integer t v) fate h = then_same seen _ _ _ _ (value_same k v (inside fate) h) (λ x. then_same seen _ _ _ _ (converted_here_same fate e.to_integer t x.value) (λ c. gives_same seen (valued c x.footprint)))
    value_same k (e.Convert e.to_truth t v) fate h = then_same seen _ _ _ _ (value_same k v (inside fate) h) (λ x. then_same seen _ _ _ _ (converted_here_same fate e.to_truth t x.value) (λ c. gives_same seen (valued c x.footprint)))
    value_same k (e.Convert e.to_null t v) fate h = then_same seen _ _ _ _ (value_same k v (inside fate) h) (λ x. then_same seen _ _ _ _ (converted_here_same fate e.to_null t x.value) (λ c. gives_same seen (valued c x.footprint)))
    value_same k (e.Convert e.to_pointer t v) fate h = then_same seen _ _ _ _ (value_same k v (inside fate) h) (λ x. then_same seen _ _ _ _ (converted_here_same fate e.to_pointer t x.value) (λ c. gives_same seen (valued c x.footprint)))
    value_same k (e.Minus t v) fate h = then_same seen _ _ _ _ (value_same k v wanted h) (λ x. then_same seen _ _ _ _ (applied_same seen P.model O.Sub (scalar_in t) (content.Number (pos 0)) x.value) (λ z. gives_same seen (valued (content.Number z) x.footprint)))
    value_same k (e.Complement t v) fate h = then_same seen _ _ _ _ (value_same k v wanted h) (λ x. then_same seen _ _ _ _ (applied_same seen P.model O.Xor (scalar_in t) x.value (in_type P t (negsuc 0))) (λ z. gives_same seen (valued (content.Number z) x.footprint)))
    value_same k (e.Not t v) fate h = then_same seen _ _ _ _ (value_same k v wanted h) (λ x. then_same seen _ _ _ _ (truth_same seen x.value) (λ b. gives_same seen (valued (of_truth (not b)) x.footprint)))
    value_same k (e.Arithmetic t op s a b) fate h =
        then_same seen _ _ _ _ (value_same k a wanted h.0) (λ x. then_same seen _ _ _ _ (value_same k b wanted h.1) (λ y. then_same seen _ _ _ _ (apart_same seen k x.footprint y.footprint) (λ f.
        then_same seen _ _ _ _ (applied_same seen P.model op s x.value y.value) (λ z. gives_same seen (valued (content.Number z) f)))))
    value_same k (e.Move t op size side a b) fate h =
        then_same seen _ _ _ _ (value_same k a wanted h.0) (λ x. then_same seen _ _ _ _ (value_same k b wanted h.1) (λ y. then_same seen _ _ _ _ (apart_same seen k x.footprint y.footprint) (λ f.
        then_same seen _ _ _ _ (moved_same seen op size (pointer_of side x.value y.value) (count_of side x.value y.value)) (λ p. gives_same seen (valued (content.Address p) f)))))
    value_same k (e.Distance t size a b) fate h =
        then_same seen _ _ _ _ (value_same k a wanted h.0) (λ x. then_same seen _ _ _ _ (value_same k b wanted h.1) (λ y. then_same seen _ _ _ _ (apart_same seen k x.footprint y.footprint) (λ f.
        then_same seen _ _ _ _ (counted_same seen size x.value y.value) (λ z. gives_same seen (valued (content.Number z) f)))))
    value_same k (e.Compare t op a b) fate h =
        then_same seen _ _ _ _ (value_same k a wanted h.0) (λ x. then_same seen _ _ _ _ (value_same k b wanted h.1) (λ y. then_same seen _ _ _ _ (apart_same seen k x.footprint y.footprint) (λ f.
        then_same seen _ _ _ _ (compared_same seen op x.value y.value) (λ c. gives_same seen (valued (of_truth c) f)))))
    value_same k (e.Logical t op a b) fate h =
        then_same seen _ _ _ _ (value_same k a wanted h.0) (λ x. then_same seen _ _ _ _ (truth_same seen x.value) (λ c. if_same seen (decides op c) _ _ _ _
        (gives_same seen (valued (of_truth c) (settled_in k x.footprint))) (second_same k (settled_in k x.footprint) _ _ (value_same k b wanted h.1))))
    value_same k (e.Conditional t p a b) fate h =
        then_same seen _ _ _ _ (value_same k p wanted h.0) (λ x. then_same seen _ _ _ _ (truth_same seen x.value) (λ c.
        then_same seen _ _ _ _ (if_same seen c _ _ _ _ (value_same k a (of_branch fate) h.1) (value_same k b (of_branch fate) h.2)) (λ y. gives_same seen (valued y.value (grown k (settled_in k x.footprint) y.footprint)))))
    value_same k (e.Assign t p v) fate h =
        then_same seen _ _ _ _ (lvalue_same k p h.1) (λ x. then_same seen _ _ _ _ (value_same k v unconverted h.2) (λ y. then_same seen _ _ _ _ (taken_same k t y) (λ q. then_same seen _ _ _ _ (apart_same seen k x.footprint q) (λ operands.
        then_same seen _ _ _ _ (aim_at k t x.value operands h.0) (λ f. then_same seen _ _ _ _ (late_same v y.value) (λ c. assigned_same (is_struct t) k t x.value c f refl h.0))))))
    value_same k (e.Update t op s p v) fate h =
        then_same seen _ _ _ _ (lvalue_same k p h.1) (λ x. then_same seen _ _ _ _ (load_at k t x h.0) (λ old. then_same seen _ _ _ _ (value_same k v wanted h.2) (λ y. then_same seen _ _ _ _ (apart_same seen k old.footprint y.footprint) (λ operands.
        then_same seen _ _ _ _ (aim_one k t x.value operands h.0) (λ f. then_same seen _ _ _ _ (number_same seen old.value) (λ n. then_same seen _ _ _ _ (applied_same seen P.model op s (content.Number (convert_of P.model s n)) y.value) (λ z.
        updated_same k t x.value (in_type P t z) (in_type P t z) f h.0)))))))
    value_same k (e.UpdatePointer t op size p v) fate h =
        then_same seen _ _ _ _ (lvalue_same k p h.1) (λ x. then_same seen _ _ _ _ (load_at k t x h.0) (λ old. then_same seen _ _ _ _ (value_same k v wanted h.2) (λ y. then_same seen _ _ _ _ (apart_same seen k old.footprint y.footprint) (λ operands.
        then_same seen _ _ _ _ (aim_one k t x.value operands h.0) (λ f. then_same seen _ _ _ _ (moved_same seen op size old.value y.value) (λ q. updated_same k t x.value (content.Address q) (content.Address q) f h.0))))))
    value_same k (e.Step t when op s p) fate h =
        then_same seen _ _ _ _ (lvalue_same k p h.1) (λ x. then_same seen _ _ _ _ (load_at k t x h.0) (λ old. then_same seen _ _ _ _ (aim_one k t x.value old.footprint h.0) (λ f. then_same seen _ _ _ _ (number_same seen old.value) (λ n.
        then_same seen _ _ _ _ (applied_same seen P.model op s (content.Number (convert_of P.model s n)) (content.Number (pos 1))) (λ z. updated_same k t x.value (in_type P t z) (kept when old.value (in_type P t z)) f h.0)))))
    value_same k (e.StepPointer t when op size p) fate h =
        then_same seen _ _ _ _ (lvalue_same k p h.1) (λ x. then_same seen _ _ _ _ (load_at k t x h.0) (λ old. then_same seen _ _ _ _ (aim_one k t x.value old.footprint h.0) (λ f.
        then_same seen _ _ _ _ (moved_same seen op size old.value (content.Number (pos 1))) (λ q. updated_same k t x.value (content.Address q) (kept when old.value (content.Address q)) f h.0))))
    value_same k (e.Call t f vs) fate h = called_same k t f (takes fate) vs _ _ (arguments_same k vs h)
    value_same k (e.Comma t vs) fate h = parts_same k vs (of_last fate) untouched h
    value_same k (e.Marked t ms v) fate h = behind_all k ms _ _ h.0 (value_same k v (of_last fate) h.1)
    value_same k (e.Decide t v p q) fate h = then_same seen _ _ _ _ (value_same k v wanted h) (λ x. then_same seen _ _ _ _ (truth_same seen x.value) (λ b. record { alike = λ at fits. both_give fits }))
    value_same k (e.After t v id) fate h = then_same seen _ _ _ _ (value_same k v (of_last fate) h) (λ x. record { alike = λ at fits. both_give fits })

    pub lvalue_same : (k : Bool) (p : Place) → AccessesPlace test p → S (place_of (here k) p) (place_of (there k) p)
    lvalue_same k (e.Object t n) h = then_same seen _ _ _ _ (place_same seen (variable n)) (λ a. gives_same seen (valued a untouched))
    lvalue_same k (e.Pointed t v) h = then_same seen _ _ _ _ (value_same k v wanted h) (λ x. then_same seen _ _ _ _ (address_same seen x.value) (λ p. gives_same seen (valued p x.footprint)))
    lvalue_same k (e.Element t size side a b) h =
        then_same seen _ _ _ _ (value_same k a wanted h.0) (λ x. then_same seen _ _ _ _ (value_same k b wanted h.1) (λ y. then_same seen _ _ _ _ (apart_same seen k x.footprint y.footprint) (λ f.
        then_same seen _ _ _ _ (moved_same seen O.Add size (pointer_of side x.value y.value) (count_of side x.value y.value)) (λ p. gives_same seen (valued p f)))))
    lvalue_same k (e.Part t offset p) h = then_same seen _ _ _ _ (lvalue_same k p h) (λ x. then_same seen _ _ _ _ (member_same seen offset x.value) (λ a. gives_same seen (valued a x.footprint)))
    lvalue_same k (e.Held t v) h = then_same seen _ _ _ _ (value_same k v wanted h) (λ x. then_same seen _ _ _ _ (address_same seen x.value) (λ p. gives_same seen (valued p x.footprint)))

    arguments_same : (k : Bool) (vs : Values) → AccessesAll test vs → S (arguments_of (here k) vs) (arguments_of (there k) vs)
    arguments_same k e.no_values h = gives_same seen (valued [] untouched)
    arguments_same k (e.a_value v vs) h = then_same seen _ _ _ _ (value_same k v unconverted h.0) (λ x. then_same seen _ _ _ _ (arguments_same k vs h.1) (λ ys. argument_same k (type_of v) x ys))

    parts_same : (k : Bool) (vs : Values) (fate : Fate) (before : Footprint) → AccessesAll test vs → S (parts_behind (parts_of (here k) fate vs) before) (parts_behind (parts_of (there k) fate vs) before)
    parts_same k e.no_values fate before h = gives_same seen (valued content.Unset untouched)
    parts_same k (e.a_value v vs) fate before h = part_same k fate v vs (λ f. value_same k v f h.0) (λ b. parts_same k vs fate b h.1) before

    -- a step behind marks
    behind_all : (k : Bool) (ms : Marks) (s t : Step (Valued Content)) → AccessesMarks test ms → S s t → S (λ at. s (marked_all (here k) ms at)) (λ at. t (marked_all (there k) ms at))
    behind_all k e.no_marks s t h g = g
    behind_all k (e.a_mark m ms) s t h g = behind_mark k m _ _ (mark_same k m h.0) (behind_all k ms s t h.1 g)

    pub mark_same : (k : Bool) (m : Mark) → AccessesMark test m → MarkSame k m
    mark_same k (e.mark predicate id bound) h = λ at fits.
        ap (λ b. marked_with id (pure_only (is_pure predicate) b) (bound_at (there k) bound (other seen at)) (other seen at))
        (sym (quietly_same seen _ _ (then_same seen _ _ (λ x. truth_in x.value) (λ x. truth_in x.value) (value_same false predicate wanted h.0) (λ x. truth_same seen x.value)) at fits))
        ∙ ap (λ bs. marked_with id (pure_only (is_pure predicate) (quietly (eval (here false) wanted predicate >>= (λ x. truth_in x.value)) at)) bs (other seen at)) (bound_same k bound at h.1 fits)
        ∙ marked_by id (pure_only (is_pure predicate) (quietly (eval (here false) wanted predicate >>= (λ x. truth_in x.value)) at)) (bound_at (here k) bound at) at

    bound_same : (k : Bool) (bound : Bindings) (at : At) → AccessesBindings test bound → Fits seen at.memory → bound_at (there k) bound (other seen at) ≡ bound_at (here k) bound at
    bound_same k e.no_bindings at h fits = refl
    bound_same k (e.a_binding name v rest) at h fits =
        ap (λ z. one_more name (pure_only (is_pure v) z) (bound_at (there k) rest (other seen at)))
        (sym (quietly_same seen _ _ (then_same seen _ _ (λ x. number_in x.value) (λ x. number_in x.value) (value_same false v wanted h.0) (λ x. number_same seen x.value)) at fits))
        ∙ ap (one_more name (pure_only (is_pure v) (quietly (eval (here false) wanted v >>= (λ x. number_in x.value)) at))) (bound_same k rest at h.1 fits)
