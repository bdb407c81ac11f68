-- Expressions with marks added give the same, new marks aside.
use Rattle.std.proofs.Common.{◌≡◌, ℕ, List, [], ◌∷◌, Option, Some, None, Bool, true, false, refl, sym, ap, ◌∙◌, subst}
use Rattle.std.specs.Prelude.{pos, negsuc, not, if◌then◌else◌}
use Rattle.lt_model.specs.declared.cell.Address.{Address}
use Rattle.lt_model.specs.declared.cell.Content.{Content}
use Rattle.lt_model.specs.declared.cell.Content.TheVariants as content
use Rattle.lt_model.specs.declared.operator.Op.TheVariants as O
use Rattle.lt_model.specs.Scalar.{convert_of}
use Rattle.lt_model.specs.State.{Binding, Footprint, Valued, untouched, Gives}
use Rattle.lt_tree.specs.Tree.{Unit as SourceUnit}
use Rattle.lt_tree.specs.Typing.Types.{CType, Void, Num, Pointer, Array, Struct, Function as FunctionType, Floating, Qualified, is_struct}
use Rattle.lt_tree.specs.Typing.TypedTree as e
use Rattle.lt_tree.specs.Typing.TypedTree.{Value, Values, Place, Marks, Mark, Bindings, Conversion, When, type_of}
use Rattle.lt_tree.specs.Typing.Entities.{Function, Label, Fact, Declared, Frame, Object}
use Rattle.lt_tree.specs.Typing.Programs.{Program}
use Rattle.lt_ir.specs.declared.variable.Variable.{Variable}
use Rattle.lt_ir.specs.Running.{At, Step, ◌>>=◌, gives, marks, one_more, marked_with, quietly}
use Rattle.lt_ir.specs.Evaluation.{valued, number_in, address_in, truth_in, of_truth, settled_in, grown, aimed, one_cell, loaded, stored, with_reads}
use Rattle.lt_meaning.specs.Expressions.{is_pure, pure_only, Around, Calls, Fate, wanted, unconverted, dropped, dropped_branch, untaken, takes, inside, of_branch, of_last, converted, converted_here, late, passed, called, with_argument, taken, assigned, updated, kept, cells_of, cell_type, shape, scalar_in, in_type, pointer_of, count_of, decides, second_truth, eval, place_of, arguments_of, parts_of, bound_at, marked, marked_all}
use Rattle.lt_mark_laws.specs.Added as a
use Rattle.lt_mark_laws.specs.Added.{AreNew, can_be_marked, Adds, AddsAll, AddsPlace, AddsTruth, AddsMarks, Keeps, KeepsBound}
use Rattle.lt_mark_laws.proofs.Alike.{remarked, AlikeAt, Same, same_at, then_same, gives_same, if_same, quietly_same}
use Rattle.lt_mark_laws.proofs.Machine.{number_same, address_same, used_same, truth_same, apart_same, aimed_same, reads_same, loaded_same, stored_same, copied_same, moved_same, member_same, applied_same, counted_same, compared_same, place_same}
use Rattle.lt_mark_laws.proofs.Values.{parts_behind, truth_of, same_type, last_alone, fate_alone, late_alone, truth_then, old_mark_at, decided_same, marked_new_at, behind_new}

module _ (new : ℕ → Bool) (P : Program) (u : SourceUnit) (ds : List Declared) (fs : List Function) (fr : Frame) (ls : List Label) (xs : List Fact) (os : List Object) (variable : ℕ → Variable) (calls calls' : Calls) (calls_same : (f : List ℕ) (t : CType) (cs : List Content) (b : Bool) → Same new (calls f t cs b) (calls' f t cs b)) where
  abbrev S : {A : Type 0} → Step A → Step A → Type 0
  S s r = Same new s r

  abbrev Q : Program
  Q = record P { unit = u; declared = ds; functions = fs; file = fr; labels = ls; facts = xs; objects = os }

  abbrev here : Bool → Around
  here k = record { program = P; variable = variable; calls = calls; tracks = k }

  abbrev there : Bool → Around
  there k = record { program = Q; variable = variable; calls = calls'; tracks = k }

  -- ---- what is done with values, in both programs

  cell_type_same : (t : CType) → cell_type P t ≡ cell_type Q t
  cell_type_same (Num s) = refl
  cell_type_same (Qualified q t) = cell_type_same t
  cell_type_same Void = refl
  cell_type_same (Pointer t) = refl
  cell_type_same (Array t n) = refl
  cell_type_same (Struct n) = refl
  cell_type_same (FunctionType t ts dots) = refl
  cell_type_same Floating = refl

  load_at : (k : Bool) (t : CType) (x : Valued (Option Address)) → S (loaded k P.model (cell_type P t) x) (loaded k P.model (cell_type Q t) x)
  load_at k t x = subst (λ ty. S (loaded k P.model (cell_type P t) x) (loaded k P.model ty x)) (cell_type_same t) (loaded_same new k P.model (cell_type P t) x)

  cells_same : (t : CType) → cells_of P t ≡ cells_of Q t
  cells_same t = ap (λ ty. if is_struct t then (shape P t).cells else one_cell ty) (cell_type_same t)

  aim_at : (k : Bool) (t : CType) (p : Option Address) (f : Footprint) → S (aimed k (cells_of P t) p f) (aimed k (cells_of Q t) p f)
  aim_at k t p f = subst (λ cells. S (aimed k (cells_of P t) p f) (aimed k cells p f)) (cells_same t) (aimed_same new k (cells_of P t) p f)

  aim_one : (k : Bool) (t : CType) (p : Option Address) (f : Footprint) → S (aimed k (one_cell (cell_type P t)) p f) (aimed k (one_cell (cell_type Q t)) p f)
  aim_one k t p f = subst (λ ty. S (aimed k (one_cell (cell_type P t)) p f) (aimed k (one_cell ty) p f)) (cell_type_same t) (aimed_same new k (one_cell (cell_type P t)) p f)

  pub store_at : (k : Bool) (t : CType) (p : Option Address) (c : Content) (f : Footprint) → S (stored k P.model (cell_type P t) p c f) (stored k P.model (cell_type Q t) p c f)
  store_at k t p c f = subst (λ ty. S (stored k P.model (cell_type P t) p c f) (stored k P.model ty p c f)) (cell_type_same t) (stored_same new k P.model (cell_type P t) p c f)

  reads_at : (k : Bool) (t : CType) (x : Valued Content) → S (with_reads k (cells_of P t) x) (with_reads k (cells_of Q t) x)
  reads_at k t x = subst (λ cells. S (with_reads k (cells_of P t) x) (with_reads k cells x)) (cells_same t) (reads_same new k (cells_of P t) x)

  taken_same : (k : Bool) (t : CType) (x : Valued Content) → S (taken (here k) t x) (taken (there k) t x)
  taken_same k t x = if_same new (is_struct t) (with_reads k (cells_of P t) x) (gives x.footprint) (with_reads k (cells_of Q t) x) (gives x.footprint) (reads_at k t x) (gives_same new x.footprint)

  converted_same : (how : Conversion) (t : CType) (c : Content) → S (converted P how t c) (converted Q how t c)
  converted_same e.to_integer t c = then_same new (number_in c) (number_in c) (λ z. gives (in_type P t z)) (λ z. gives (in_type P t z)) (number_same new c) (λ z. gives_same new (in_type P t z))
  converted_same e.to_truth t c = then_same new (truth_in c) (truth_in c) (λ b. gives (of_truth b)) (λ b. gives (of_truth b)) (truth_same new c) (λ b. gives_same new (of_truth b))
  converted_same e.to_null t c = gives_same new (content.Address None)
  converted_same e.to_pointer t c = then_same new (address_in c) (address_in c) (λ a. gives (content.Address a)) (λ a. gives (content.Address a)) (address_same new c) (λ a. gives_same new (content.Address a))
  converted_same e.to_void t c = gives_same new content.Unset

  converted_here_same : (fate : Fate) (how : Conversion) (t : CType) (c : Content) → S (converted_here fate P how t c) (converted_here fate Q how t c)
  converted_here_same wanted how t c = converted_same how t c
  converted_here_same unconverted how t c = gives_same new c
  converted_here_same dropped how t c = converted_same how t c
  converted_here_same dropped_branch how t c = gives_same new c
  converted_here_same untaken how t c = converted_same how t c

  late_same : {v w : Value} → Adds new v w → (c : Content) → S (late P v c) (late Q w c)
  late_same (a.Convert how {t} d) c = converted_same how t c
  late_same (a.in_front {t} {ms} {v} {w} is_new free h d) c = subst (λ s. S s (gives c)) (sym (late_alone P v c free)) (gives_same new c)
  late_same d c = gives_same new c

  pub assigned_same : (b k : Bool) (t : CType) (p : Option Address) (c : Content) (f : Footprint) → S (assigned (here k) t p c f b) (assigned (there k) t p c f b)
  assigned_same true k t p c f = then_same new _ _ _ _ (address_same new c) (λ from. then_same new _ _ _ _ (copied_same new k P.model (shape P t) p from f) (λ g. gives_same new (valued (content.Address p) g)))
  assigned_same false k t p c f = then_same new _ _ _ _ (used_same new c) (λ it. then_same new _ _ _ _ (store_at k t p it f) (λ g. gives_same new (valued it g)))

  updated_same : (k : Bool) (t : CType) (p : Option Address) (c x : Content) (f : Footprint) → S (updated (here k) t p c x f) (updated (there k) t p c x f)
  updated_same k t p c x f = then_same new _ _ _ _ (store_at k t p c f) (λ g. gives_same new (valued x g))

  passed_same : {vs ws : Values} → AddsAll new vs ws → (cs : List Content) → S (passed P vs cs) (passed Q ws cs)
  passed_same a.no_values cs = gives_same new []
  passed_same (a.a_value d ds) [] = gives_same new []
  passed_same (a.a_value d ds) (c ∷ cs) = then_same new _ _ _ _ (then_same new _ _ _ _ (late_same d c) (λ x. used_same new x)) (λ x. then_same new _ _ _ _ (passed_same ds cs) (λ xs. gives_same new (x ∷ xs)))

  called_same : (k : Bool) (t : CType) (f : List ℕ) (b : Bool) {vs ws : Values} → AddsAll new vs ws → (s r : Step (Valued (List Content))) → S s r → S (called (here k) t f b vs s) (called (there k) t f b ws r)
  called_same k t f b ds s r h = then_same new s r _ _ h (λ x. then_same new _ _ _ _ (passed_same ds x.value) (λ ys. then_same new _ _ _ _ (calls_same f t ys b) (λ c. gives_same new (valued c (settled_in k x.footprint)))))

  argument_same : (k : Bool) (t : CType) (x : Valued Content) (ys : Valued (List Content)) → S (with_argument (here k) t x ys) (with_argument (there k) t x ys)
  argument_same k t x ys = then_same new _ _ _ _ (taken_same k t x) (λ p. then_same new _ _ _ _ (apart_same new k p ys.footprint) (λ g. gives_same new (valued (x.value ∷ ys.value) g)))

  part_same : (k : Bool) (fate : Fate) (v w : Value) {vs ws : Values} → AddsAll new vs ws → ((f : Fate) → S (eval (here k) f v) (eval (there k) f w)) → ((before : Footprint) → S (parts_behind (parts_of (here k) fate vs) before) (parts_behind (parts_of (there k) fate ws) before)) → (before : Footprint) → S (parts_behind (parts_of (here k) fate (e.a_value v vs)) before) (parts_behind (parts_of (there k) fate (e.a_value w ws)) before)
  part_same k fate v w a.no_values first rest before = then_same new _ _ _ _ (first fate) (λ x. gives_same new (valued x.value (grown k before x.footprint)))
  part_same k fate v w (a.a_value d ds) first rest before = then_same new _ _ _ _ (first dropped) (λ x. rest (grown k before (settled_in k x.footprint)))

  second_same : (k : Bool) (p : Footprint) (s r : Step (Valued Content)) → S (truth_of s) (truth_of r) → S (second_truth k p s) (second_truth k p r)
  second_same k p s r h = truth_then new s r (λ b f. gives (valued (of_truth b) (grown k p f))) (λ b f. gives (valued (of_truth b) (grown k p f))) h (λ b f. gives_same new (valued (of_truth b) (grown k p f)))

  marks_by : (id : ℕ) (b c : Option Bool) (bs cs : Option (List Binding)) → b ≡ c → bs ≡ cs → (at1 at2 : At) → AlikeAt new at1 at2 → AlikeAt new (marked_with id b bs at1) (marked_with id c cs at2)
  marks_by id b c bs cs p q at1 at2 h = subst (λ c. AlikeAt new (marked_with id b bs at1) (marked_with id c cs at2)) p (subst (λ cs. AlikeAt new (marked_with id b bs at1) (marked_with id b cs at2)) q (by b bs))
    where
      by : (b : Option Bool) (bs : Option (List Binding)) → AlikeAt new (marked_with id b bs at1) (marked_with id b bs at2)
      by (Some b) (Some bs) = old_mark_at new at1 at2 id b bs h
      by None bs = old_mark_at new at1 at2 id false [] h
      by (Some b) None = old_mark_at new at1 at2 id false [] h

  -- ---- expressions

  mutual
    pub value_same : (k : Bool) {v w : Value} → Adds new v w → (fate : Fate) → S (eval (here k) fate v) (eval (there k) fate w)
    value_same k (a.Constant {t} {z}) fate = gives_same new (valued (content.Number z) untouched)
    value_same k (a.Load {t} d) fate = then_same new _ _ _ _ (lvalue_same k d) (λ x. load_at k t x)
    value_same k (a.Whole d) fate = then_same new _ _ _ _ (lvalue_same k d) (λ x. gives_same new (valued (content.Address x.value) x.footprint))
    value_same k (a.Decay d) fate = then_same new _ _ _ _ (lvalue_same k d) (λ x. gives_same new (valued (content.Address x.value) x.footprint))
    value_same k (a.AddressOf d) fate = then_same new _ _ _ _ (lvalue_same k d) (λ x. gives_same new (valued (content.Address x.value) x.footprint))
    value_same k (a.Convert e.to_void d) fate = then_same new _ _ _ _ (value_same k d untaken) (λ x. gives_same new (valued content.Unset x.footprint))
    value_same k (a.Convert e.to_integer {t} d) fate = then_same new _ _ _ _ (value_same k d (inside fate)) (λ x. then_same new _ _ _ _ (converted_here_same fate e.to_integer t x.value) (λ c. gives_same new (valued c x.footprint)))
    value_same k (a.Convert e.to_truth {t} d) fate = then_same new _ _ _ _ (value_same k d (inside fate)) (λ x. then_same new _ _ _ _ (converted_here_same fate e.to_truth t x.value) (λ c. gives_same new (valued c x.footprint)))
    value_same k (a.Convert e.to_null {t} d) fate = then_same new _ _ _ _ (value_same k d (inside fate)) (λ x. then_same new _ _ _ _ (converted_here_same fate e.to_null t x.value) (λ c. gives_same new (valued c x.footprint)))
    value_same k (a.Convert e.to_pointer {t} d) fate = then_same new _ _ _ _ (value_same k d (inside fate)) (λ x. then_same new _ _ _ _ (converted_here_same fate e.to_pointer t x.value) (λ c. gives_same new (valued c x.footprint)))
    value_same k (a.Minus {t} d) fate = then_same new _ _ _ _ (value_same k d wanted) (λ x. then_same new _ _ _ _ (applied_same new P.model O.Sub (scalar_in t) (content.Number (pos 0)) x.value) (λ z. gives_same new (valued (content.Number z) x.footprint)))
    value_same k (a.Complement {t} d) fate = then_same new _ _ _ _ (value_same k d wanted) (λ x. then_same new _ _ _ _ (applied_same new P.model O.Xor (scalar_in t) x.value (in_type P t (negsuc 0))) (λ z. gives_same new (valued (content.Number z) x.footprint)))
    value_same k (a.Not {v} {w} d) fate = truth_then new (eval (here k) wanted v) (eval (there k) wanted w) (λ b f. gives (valued (of_truth (not b)) f)) (λ b f. gives (valued (of_truth (not b)) f)) (truth_part k d) (λ b f. gives_same new (valued (of_truth (not b)) f))
    value_same k (a.Arithmetic {t} {op} {s} d1 d2) fate = then_same new _ _ _ _ (value_same k d1 wanted) (λ x. then_same new _ _ _ _ (value_same k d2 wanted) (λ y. then_same new _ _ _ _ (apart_same new k x.footprint y.footprint) (λ f. then_same new _ _ _ _ (applied_same new P.model op s x.value y.value) (λ z. gives_same new (valued (content.Number z) f)))))
    value_same k (a.Move {t} {op} {size} {side} d1 d2) fate = then_same new _ _ _ _ (value_same k d1 wanted) (λ x. then_same new _ _ _ _ (value_same k d2 wanted) (λ y. then_same new _ _ _ _ (apart_same new k x.footprint y.footprint) (λ f. then_same new _ _ _ _ (moved_same new op size (pointer_of side x.value y.value) (count_of side x.value y.value)) (λ p. gives_same new (valued (content.Address p) f)))))
    value_same k (a.Distance {t} {size} d1 d2) fate = then_same new _ _ _ _ (value_same k d1 wanted) (λ x. then_same new _ _ _ _ (value_same k d2 wanted) (λ y. then_same new _ _ _ _ (apart_same new k x.footprint y.footprint) (λ f. then_same new _ _ _ _ (counted_same new size x.value y.value) (λ z. gives_same new (valued (content.Number z) f)))))
    value_same k (a.Compare {t} {op} d1 d2) fate = then_same new _ _ _ _ (value_same k d1 wanted) (λ x. then_same new _ _ _ _ (value_same k d2 wanted) (λ y. then_same new _ _ _ _ (apart_same new k x.footprint y.footprint) (λ f. then_same new _ _ _ _ (compared_same new op x.value y.value) (λ b. gives_same new (valued (of_truth b) f)))))
    value_same k (a.Logical {t} {op} {a = v1} {b = v2} {c = w1} {d = w2} d1 d2) fate = truth_then new (eval (here k) wanted v1) (eval (there k) wanted w1) (λ b f. if decides op b then gives (valued (of_truth b) (settled_in k f)) else second_truth k (settled_in k f) (eval (here k) wanted v2)) (λ b f. if decides op b then gives (valued (of_truth b) (settled_in k f)) else second_truth k (settled_in k f) (eval (there k) wanted w2)) (truth_part k d1) (λ b f. if_same new (decides op b) _ _ _ _ (gives_same new (valued (of_truth b) (settled_in k f))) (second_same k (settled_in k f) (eval (here k) wanted v2) (eval (there k) wanted w2) (truth_part k d2)))
    value_same k (a.Conditional {t} {test} {other} {a = v1} {b = v2} {c = w1} {d = w2} d d1 d2) fate = truth_then new (eval (here k) wanted test) (eval (there k) wanted other) (λ b f. (if b then eval (here k) (of_branch fate) v1 else eval (here k) (of_branch fate) v2) >>= (λ y. gives (valued y.value (grown k (settled_in k f) y.footprint)))) (λ b f. (if b then eval (there k) (of_branch fate) w1 else eval (there k) (of_branch fate) w2) >>= (λ y. gives (valued y.value (grown k (settled_in k f) y.footprint)))) (truth_part k d) (λ b f. then_same new _ _ _ _ (if_same new b _ _ _ _ (value_same k d1 (of_branch fate)) (value_same k d2 (of_branch fate))) (λ y. gives_same new (valued y.value (grown k (settled_in k f) y.footprint))))
    value_same k (a.Assign {t} d1 d2) fate = then_same new _ _ _ _ (lvalue_same k d1) (λ x. then_same new _ _ _ _ (value_same k d2 unconverted) (λ y. then_same new _ _ _ _ (taken_same k t y) (λ q. then_same new _ _ _ _ (apart_same new k x.footprint q) (λ operands. then_same new _ _ _ _ (aim_at k t x.value operands) (λ f. then_same new _ _ _ _ (late_same d2 y.value) (λ c. assigned_same (is_struct t) k t x.value c f))))))
    value_same k (a.Update {t} {op} {s} d1 d2) fate = then_same new _ _ _ _ (lvalue_same k d1) (λ x. then_same new _ _ _ _ (load_at k t x) (λ old. then_same new _ _ _ _ (value_same k d2 wanted) (λ y. then_same new _ _ _ _ (apart_same new k old.footprint y.footprint) (λ operands. then_same new _ _ _ _ (aim_one k t x.value operands) (λ f. then_same new _ _ _ _ (number_same new old.value) (λ n. then_same new _ _ _ _ (applied_same new P.model op s (content.Number (convert_of P.model s n)) y.value) (λ z. updated_same k t x.value (in_type P t z) (in_type P t z) f)))))))
    value_same k (a.UpdatePointer {t} {op} {size} d1 d2) fate = then_same new _ _ _ _ (lvalue_same k d1) (λ x. then_same new _ _ _ _ (load_at k t x) (λ old. then_same new _ _ _ _ (value_same k d2 wanted) (λ y. then_same new _ _ _ _ (apart_same new k old.footprint y.footprint) (λ operands. then_same new _ _ _ _ (aim_one k t x.value operands) (λ f. then_same new _ _ _ _ (moved_same new op size old.value y.value) (λ p. updated_same k t x.value (content.Address p) (content.Address p) f))))))
    value_same k (a.Step {t} {when} {op} {s} d) fate = then_same new _ _ _ _ (lvalue_same k d) (λ x. then_same new _ _ _ _ (load_at k t x) (λ old. then_same new _ _ _ _ (aim_one k t x.value old.footprint) (λ f. then_same new _ _ _ _ (number_same new old.value) (λ n. then_same new _ _ _ _ (applied_same new P.model op s (content.Number (convert_of P.model s n)) (content.Number (pos 1))) (λ z. updated_same k t x.value (in_type P t z) (kept when old.value (in_type P t z)) f)))))
    value_same k (a.StepPointer {t} {when} {op} {size} d) fate = then_same new _ _ _ _ (lvalue_same k d) (λ x. then_same new _ _ _ _ (load_at k t x) (λ old. then_same new _ _ _ _ (aim_one k t x.value old.footprint) (λ f. then_same new _ _ _ _ (moved_same new op size old.value (content.Number (pos 1))) (λ p. updated_same k t x.value (content.Address p) (kept when old.value (content.Address p)) f))))
    value_same k (a.Call {t} {f} d) fate = called_same k t f (takes fate) d _ _ (arguments_same k d)
    value_same k (a.Comma d) fate = parts_same k d (of_last fate) untouched
    value_same k (a.Marked d1 d2) fate = record { alike = λ at ms h. same_at new _ _ _ _ (value_same k d2 (of_last fate)) (marks_same k d1 at (remarked ms at) (refl, h)) }
    value_same k (a.Decide {v} {w} {when_true = p} {when_false = q} d) fate = truth_then new (eval (here k) wanted v) (eval (there k) wanted w) (λ b f at. Gives (valued (of_truth b) f) (marks q (not b) [] (marks p b [] at))) (λ b f at. Gives (valued (of_truth b) f) (marks q (not b) [] (marks p b [] at))) (truth_part k d) (λ b f. record { alike = λ at ms h. (refl, old_mark_at new _ _ q (not b) [] (old_mark_at new at (remarked ms at) p b [] (refl, h))) })
    value_same k (a.After {t} {v} {w} {id} d) fate = then_same new _ _ _ _ (value_same k d (of_last fate)) (λ x. record { alike = λ at ms h. (refl, old_mark_at new at (remarked ms at) id true [] (refl, h)) })
    value_same k (a.labels_after {ms = ms} {v} {w} {id} is_new d) fate =
        then_same new _ _ _ _ (subst (λ f. S (eval (here k) (of_last fate) v) (λ at. eval (there k) f w (marked_all (there k) ms at))) (sym (last_alone fate))
        (behind_new new (there k) ms (eval (here k) (of_last fate) v) (eval (there k) (of_last fate) w) is_new (value_same k d (of_last fate))))
        (λ x. record { alike = λ at ns h. (refl, old_mark_at new at (remarked ns at) id true [] (refl, h)) })
    value_same k (a.in_front {t} {ms} {v} {w} is_new free same d) fate = subst (λ s. S s (eval (there k) fate (e.Marked t ms w))) (fate_alone (here k) v fate free) (behind_new new (there k) ms (eval (here k) (of_last fate) v) (eval (there k) (of_last fate) w) is_new (value_same k d (of_last fate)))

    lvalue_same : (k : Bool) {p q : Place} → AddsPlace new p q → S (place_of (here k) p) (place_of (there k) q)
    lvalue_same k (a.Object {t} {n}) = then_same new _ _ _ _ (place_same new (variable n)) (λ x. gives_same new (valued x untouched))
    lvalue_same k (a.Pointed d) = then_same new _ _ _ _ (value_same k d wanted) (λ x. then_same new _ _ _ _ (address_same new x.value) (λ p. gives_same new (valued p x.footprint)))
    lvalue_same k (a.Element {t} {size} {side} d1 d2) = then_same new _ _ _ _ (value_same k d1 wanted) (λ x. then_same new _ _ _ _ (value_same k d2 wanted) (λ y. then_same new _ _ _ _ (apart_same new k x.footprint y.footprint) (λ f. then_same new _ _ _ _ (moved_same new O.Add size (pointer_of side x.value y.value) (count_of side x.value y.value)) (λ p. gives_same new (valued p f)))))
    lvalue_same k (a.Part {t} {offset} d) = then_same new _ _ _ _ (lvalue_same k d) (λ x. then_same new _ _ _ _ (member_same new offset x.value) (λ p. gives_same new (valued p x.footprint)))
    lvalue_same k (a.Held d) = then_same new _ _ _ _ (value_same k d wanted) (λ x. then_same new _ _ _ _ (address_same new x.value) (λ p. gives_same new (valued p x.footprint)))

    arguments_same : (k : Bool) {vs ws : Values} → AddsAll new vs ws → S (arguments_of (here k) vs) (arguments_of (there k) ws)
    arguments_same k a.no_values = gives_same new (valued [] untouched)
    arguments_same k (a.a_value {v} {w} d ds) = then_same new _ _ _ _ (value_same k d unconverted) (λ x. then_same new _ _ _ _ (arguments_same k ds) (λ ys. subst (λ t. S (with_argument (here k) (type_of v) x ys) (with_argument (there k) t x ys)) (same_type d) (argument_same k (type_of v) x ys)))

    parts_same : (k : Bool) {vs ws : Values} → AddsAll new vs ws → (fate : Fate) (before : Footprint) → S (parts_behind (parts_of (here k) fate vs) before) (parts_behind (parts_of (there k) fate ws) before)
    parts_same k a.no_values fate before = gives_same new (valued content.Unset untouched)
    parts_same k (a.a_value {v} {w} d ds) fate before = part_same k fate v w ds (value_same k d) (parts_same k ds fate) before

    pub truth_part : (k : Bool) {v w : Value} → AddsTruth new v w → S (truth_of (eval (here k) wanted v)) (truth_of (eval (there k) wanted w))
    truth_part k (a.as_value d) = then_same new _ _ _ _ (value_same k d wanted) (λ x. then_same new _ _ _ _ (truth_same new x.value) (λ b. gives_same new (valued b x.footprint)))
    truth_part k (a.round {t} {v} {w} {when_true = p} {when_false = q} np nq d) = decided_same new (truth_of (eval (here k) wanted v)) (eval (there k) wanted w) p q np nq (truth_part k d)
    truth_part k (a.before {t} {ms} {v} {w} is_new d) = behind_new new (there k) ms (truth_of (eval (here k) wanted v)) (truth_of (eval (there k) wanted w)) is_new (truth_part k d)
    truth_part k (a.behind d1 d2) = record { alike = λ at ms h. same_at new _ _ _ _ (truth_part k d2) (marks_same k d1 at (remarked ms at) (refl, h)) }

    marks_same : (k : Bool) {ms ns : Marks} → AddsMarks new ms ns → (at1 at2 : At) → AlikeAt new at1 at2 → AlikeAt new (marked_all (here k) ms at1) (marked_all (there k) ns at2)
    marks_same k a.no_marks at1 at2 h = h
    marks_same k (a.kept d ds) at1 at2 h = marks_same k ds _ _ (mark_same k d at1 at2 h)
    marks_same k (a.added {predicate} {id} {bound} is_new ds) at1 at2 h = marks_same k ds at1 (marked (there k) (e.mark predicate id bound) at2) (marked_new_at new (there k) predicate id bound at1 at2 is_new h)

    pub mark_same : (k : Bool) {m : Mark} → Keeps new m → (at1 at2 : At) → AlikeAt new at1 at2 → AlikeAt new (marked (here k) m at1) (marked (there k) m at2)
    mark_same k (a.a_kept_mark {predicate} {id} {bound} d ds) at1 at2 h = marks_by id _ _ _ _ (ap (pure_only (is_pure predicate)) (quietly_same new (eval (here false) wanted predicate >>= (λ x. truth_in x.value)) (eval (there false) wanted predicate >>= (λ x. truth_in x.value)) (then_same new _ _ _ _ (value_same false d wanted) (λ x. truth_same new x.value)) at1 at2 h)) (bound_same k ds at1 at2 h) at1 at2 h

    bound_same : (k : Bool) {bound : Bindings} → KeepsBound new bound → (at1 at2 : At) → AlikeAt new at1 at2 → bound_at (here k) bound at1 ≡ bound_at (there k) bound at2
    bound_same k a.no_bindings at1 at2 h = refl
    bound_same k (a.a_binding {name} {v} {rest} d ds) at1 at2 h = ap (λ z. one_more name (pure_only (is_pure v) z) (bound_at (here k) rest at1)) (quietly_same new (eval (here false) wanted v >>= (λ x. number_in x.value)) (eval (there false) wanted v >>= (λ x. number_in x.value)) (then_same new _ _ _ _ (value_same false d wanted) (λ x. number_same new x.value)) at1 at2 h) ∙ ap (one_more name (pure_only (is_pure v) (quietly (eval (there false) wanted v >>= (λ x. number_in x.value)) at2))) (bound_same k ds at1 at2 h)
