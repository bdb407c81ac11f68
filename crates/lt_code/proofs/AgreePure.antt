-- What the graph's pure expressions give is what pure expressions of the tree give.
use Rattle.std.proofs.Common.{◌≡◌, ℕ, Option, Some, None, Bool, true, false, refl, ap₂}
use Rattle.std.proofs.lemmas.Bool.{false≢true}
use Rattle.std.specs.Prelude.{pos, not, negsuc, if◌then◌else◌}
use Rattle.lt_model.specs.declared.cell.Address.{Address}
use Rattle.lt_model.specs.declared.cell.Content.{Content}
use Rattle.lt_model.specs.declared.cell.Content.TheVariants as content
use Rattle.lt_model.specs.declared.operator.Op.{Op}
use Rattle.lt_model.specs.declared.operator.Op.TheVariants as O
use Rattle.lt_model.specs.Scalar.{convert_of}
use Rattle.lt_model.specs.State.{Footprint, Valued, untouched, Gives, Ends}
use Rattle.lt_tree.specs.declared.expression.LogicalOp.{LogicalOp}
use Rattle.lt_tree.specs.declared.expression.LogicalOp.TheVariants as logical
use Rattle.lt_tree.specs.Typing.Types.{CType}
use Rattle.lt_tree.specs.Typing.TypedTree as e
use Rattle.lt_tree.specs.Typing.TypedTree.{Value, Values, Place, Conversion, Bindings, Side, on_left, on_right, no_values, a_value}
use Rattle.lt_ir.specs.declared.pure.How.TheVariants as how
use Rattle.lt_ir.specs.Pure as pure
use Rattle.lt_ir.specs.Pure.{Pure, look, look_from, looked_at, convert_as}
use Rattle.lt_ir.specs.Running.{At, Answer, Step, ◌>>=◌, gives, quietly, place, one_more}
use Rattle.lt_ir.specs.Evaluation.{valued, number_in, address_in, truth_in, of_truth, grown, settled_in, apart, moved, member_at, applied, counted, compared}
use Rattle.lt_meaning.specs.Expressions.{Calls, Fate, wanted, unconverted, dropped, dropped_branch, untaken, inside, of_branch, of_last, fate_of_part, converted, converted_here, is_pure, is_pure_place, are_pure, pure_only, eval, place_of, parts_of, comma_from, bound_at, decides, second_truth, pointer_of, count_of, scalar_in}
use Rattle.lt_code.specs.Predicates.{Names, moving, truth_value, connects, converts, converts_here, raw_of, raw_place, raw_parts, pure_in, names_bound, pures_bound, around, IsTruthOf, IsNumberOf}
use Rattle.lt_meaning.proofs.SameBut.{Quiet, quiet_untouched, and_left, and_right}
use Rattle.lt_code.proofs.PureAnswers.{quiet_grown, quiet_settled_in, Same, same_stays, same_bind, same_into, same_step, same_apart, same_quietly}
use Rattle.lt_code.proofs.PureOperators.{stays_address_in, stays_truth_in, stays_moved, stays_member_at, stays_applied, stays_counted, stays_compared, stays_place, stays_converted, same_loaded, same_last, same_alike, alike_swapped}

module _ (tracks : Bool) where
  -- what both give
  abbrev Agrees : At → Answer Content → Answer (Valued Content) → Type 0
  Agrees at m n = Same (λ c. c) at m n

  -- a place's address as a value
  place_value : (at : At) (m : Answer Content) (n : Answer (Valued (Option Address))) → Same content.Address at m n → Agrees at m (elim (n) [ Gives x at1 ↦ Gives (valued (content.Address x.value) x.footprint) at1 | Ends end at1 ↦ Ends end at1 ])
  place_value at m n h = same_into content.Address (λ c. c) at m n _ h (λ x q. (refl, refl, refl, q))

  -- two unsequenced parts, and what is done with what they give
  two_parts : {D : Type 0} (f : D → Content) (at : At) (l r : Step Content) (m n : Step (Valued Content)) (k : Content → Content → Step Content) (h : Content → Content → Footprint → Step (Valued D)) → Agrees at (l at) (m at) → Agrees at (r at) (n at) → ((a b : Content) (p : Footprint) → Quiet p → Same f at (k a b at) (h a b p at)) → Same f at ((l >>= (λ a. r >>= (λ b. k a b))) at) ((m >>= (λ x. n >>= (λ y. apart tracks x.footprint y.footprint >>= (λ p. h x.value y.value p)))) at)
  two_parts f at l r m n k h hl hr each =
      same_bind (λ c. c) f at (l at) (m at) _ _ hl (λ x qx. same_bind (λ c. c) f at (r at) (n at) _ _ hr (λ y qy. same_apart f tracks at _ x.footprint y.footprint _ qx qy (each x.value y.value (grown tracks x.footprint y.footprint) (quiet_grown tracks x.footprint y.footprint qx qy))))

  -- the same, where the graph looks at the right one first
  two_swapped : {D : Type 0} (f : D → Content) (at : At) (l r : Step Content) (m n : Step (Valued Content)) (k : Content → Content → Step Content) (h : Content → Content → Footprint → Step (Valued D)) → Agrees at (l at) (m at) → Agrees at (r at) (n at) → ((a b : Content) (p : Footprint) → Quiet p → Same f at (k a b at) (h a b p at)) → Same f at ((r >>= (λ b. l >>= (λ a. k a b))) at) ((m >>= (λ x. n >>= (λ y. apart tracks x.footprint y.footprint >>= (λ p. h x.value y.value p)))) at)
  two_swapped f at l r m n k h hl hr each =
      same_alike f at _ ((l >>= (λ a. r >>= (λ b. k a b))) at) _ (alike_swapped at l r k (same_stays (λ c. c) at (l at) (m at) hl) (same_stays (λ c. c) at (r at) (n at) hr)) (two_parts f at l r m n k h hl hr each)

  -- the right operand of `&&` and `||`
  second_agrees : (s : Names) (q : Pure) (n : Step (Valued Content)) (p : Footprint) (at : At) → Quiet p → Agrees at (look s.program.model q at) (n at) → Agrees at (look s.program.model (truth_value q) at) (second_truth tracks p n at)
  second_agrees s q n p at quiet h =
      same_bind (λ c. c) (λ c. c) at _ (n at) _ _ h (λ y qy. same_step (λ c. c) at (truth_in y.value at) _ _ (stays_truth_in y.value at) (by_truth (grown tracks p y.footprint) (quiet_grown tracks p y.footprint quiet qy)))
    where
      by_truth : (p : Footprint) → Quiet p → (b : Bool) → Agrees at ((if b then look s.program.model (pure.Fixed (of_truth true)) else look s.program.model (pure.Fixed (of_truth false))) at) (Gives (valued (of_truth b) p) at)
      by_truth p quiet true = (refl, refl, refl, quiet)
      by_truth p quiet false = (refl, refl, refl, quiet)

  logical_agrees : (s : Names) (op : LogicalOp) (p q : Pure) (m n : Step (Valued Content)) (at : At) → Agrees at (look s.program.model p at) (m at) → Agrees at (look s.program.model q at) (n at) → Agrees at (look s.program.model (connects op p q) at) ((m >>= (λ x. truth_in x.value >>= (λ b. if decides op b then gives (valued (of_truth b) (settled_in tracks x.footprint)) else second_truth tracks (settled_in tracks x.footprint) n))) at)
  logical_agrees s logical.And p q m n at hp hq =
      same_bind (λ c. c) (λ c. c) at _ (m at) _ _ hp (λ x qx. same_step (λ c. c) at (truth_in x.value at) _ _ (stays_truth_in x.value at) (by_truth (settled_in tracks x.footprint) (quiet_settled_in tracks x.footprint qx)))
    where
      by_truth : (f : Footprint) → Quiet f → (b : Bool) → Agrees at ((if b then look s.program.model (truth_value q) else look s.program.model (pure.Fixed (of_truth false))) at) ((if not b then gives (valued (of_truth b) f) else second_truth tracks f n) at)
      by_truth f quiet true = second_agrees s q n f at quiet hq
      by_truth f quiet false = (refl, refl, refl, quiet)
  logical_agrees s logical.Or p q m n at hp hq =
      same_bind (λ c. c) (λ c. c) at _ (m at) _ _ hp (λ x qx. same_step (λ c. c) at (truth_in x.value at) _ _ (stays_truth_in x.value at) (by_truth (settled_in tracks x.footprint) (quiet_settled_in tracks x.footprint qx)))
    where
      by_truth : (f : Footprint) → Quiet f → (b : Bool) → Agrees at ((if b then look s.program.model (pure.Fixed (of_truth true)) else look s.program.model (truth_value q)) at) ((if b then gives (valued (of_truth b) f) else second_truth tracks f n) at)
      by_truth f quiet true = (refl, refl, refl, quiet)
      by_truth f quiet false = second_agrees s q n f at quiet hq

  not_agrees : (s : Names) (q : Pure) (n : Step (Valued Content)) (at : At) → Agrees at (look s.program.model q at) (n at) → Agrees at (look s.program.model (pure.Choose q (pure.Fixed (of_truth false)) (pure.Fixed (of_truth true))) at) ((n >>= (λ x. truth_in x.value >>= (λ b. gives (valued (of_truth (not b)) x.footprint)))) at)
  not_agrees s q n at h =
      same_bind (λ c. c) (λ c. c) at _ (n at) _ _ h (λ x qx. same_step (λ c. c) at (truth_in x.value at) _ _ (stays_truth_in x.value at) (by_truth x.footprint qx))
    where
      by_truth : (p : Footprint) → Quiet p → (b : Bool) → Agrees at ((if b then look s.program.model (pure.Fixed (of_truth false)) else look s.program.model (pure.Fixed (of_truth true))) at) (Gives (valued (of_truth (not b)) p) at)
      by_truth p quiet true = (refl, refl, refl, quiet)
      by_truth p quiet false = (refl, refl, refl, quiet)

  choice_agrees : (s : Names) (p q r : Pure) (l m n : Step (Valued Content)) (at : At) → Agrees at (look s.program.model p at) (l at) → Agrees at (look s.program.model q at) (m at) → Agrees at (look s.program.model r at) (n at) → Agrees at (look s.program.model (pure.Choose p q r) at) ((l >>= (λ x. truth_in x.value >>= (λ b. (if b then m else n) >>= (λ y. gives (valued y.value (grown tracks (settled_in tracks x.footprint) y.footprint)))))) at)
  choice_agrees s p q r l m n at hp hq hr =
      same_bind (λ c. c) (λ c. c) at _ (l at) _ _ hp (λ x qx. same_step (λ c. c) at (truth_in x.value at) _ _ (stays_truth_in x.value at) (by_truth (settled_in tracks x.footprint) (quiet_settled_in tracks x.footprint qx)))
    where
      by_truth : (f : Footprint) → Quiet f → (b : Bool) → Agrees at ((if b then look s.program.model q else look s.program.model r) at) (((if b then m else n) >>= (λ y. gives (valued y.value (grown tracks f y.footprint)))) at)
      by_truth f quiet true = same_into (λ c. c) (λ c. c) at _ (m at) _ hq (λ y qy. (refl, refl, refl, quiet_grown tracks f y.footprint quiet qy))
      by_truth f quiet false = same_into (λ c. c) (λ c. c) at _ (n at) _ hr (λ y qy. (refl, refl, refl, quiet_grown tracks f y.footprint quiet qy))

  -- the parts of a comma expression, behind others
  abbrev parts_behind : Option (Footprint → Step (Valued Content)) → Footprint → Step (Valued Content)
  parts_behind parts before = elim (parts) [ None ↦ gives (valued content.Unset untouched) | Some step ↦ step before ]

  -- they give the same, whatever is before them, where there are any
  abbrev PartsAgree : Names → Calls → Fate → Values → At → Type 0
  PartsAgree s calls fate no_values at = Unit {0}
  PartsAgree s calls fate (a_value v vs) at =
      (c : Content) (f : Footprint) → Quiet f → Agrees at (look_from s.program.model c (raw_parts s fate (a_value v vs)) at) (parts_behind (parts_of (around s calls tracks) fate (a_value v vs)) f at)

  -- a part of a comma expression and those behind it
  part_agrees : (s : Names) (calls : Calls) (fate : Fate) (vs : Values) (q : Pure) (n : Step (Valued Content)) (before : Footprint) (at : At) → Quiet before → Agrees at (look s.program.model q at) (n at) → PartsAgree s calls fate vs at → Agrees at ((look s.program.model q >>= (λ d. look_from s.program.model d (raw_parts s fate vs))) at) ((n >>= (λ x. comma_from tracks before x (parts_of (around s calls tracks) fate vs))) at)
  part_agrees s calls fate no_values q n before at quiet h rest = same_bind (λ c. c) (λ c. c) at _ (n at) _ _ h (λ x qx. (refl, refl, refl, quiet_grown tracks before x.footprint quiet qx))
  part_agrees s calls fate (a_value v vs) q n before at quiet h rest =
      same_bind (λ c. c) (λ c. c) at _ (n at) _ _ h (λ x qx. rest x.value (grown tracks before (settled_in tracks x.footprint)) (quiet_grown tracks before (settled_in tracks x.footprint) quiet (quiet_settled_in tracks x.footprint qx)))

  comma_agrees : (s : Names) (calls : Calls) (fate : Fate) (vs : Values) (at : At) → PartsAgree s calls fate vs at → Agrees at (look_from s.program.model content.Unset (raw_parts s fate vs) at) (parts_behind (parts_of (around s calls tracks) fate vs) untouched at)
  comma_agrees s calls fate no_values at h = (refl, refl, refl, quiet_untouched)
  comma_agrees s calls fate (a_value v vs) at h = h content.Unset untouched quiet_untouched

  -- a pointer moved
  move_agrees : {D : Type 0} (f : D → Content) (s : Names) (op : Op) (size : ℕ) (side : Side) (p q : Pure) (m n : Step (Valued Content)) (give : Option Address → D) (at : At) → ((a : Option Address) → content.Address a ≡ f (give a)) → Agrees at (look s.program.model p at) (m at) → Agrees at (look s.program.model q at) (n at) → Same f at (look s.program.model (moving op size side p q) at) ((m >>= (λ x. n >>= (λ y. apart tracks x.footprint y.footprint >>= (λ w. moved op size (pointer_of side x.value y.value) (count_of side x.value y.value) >>= (λ a. gives (valued (give a) w)))))) at)
  move_agrees f s op size on_left p q m n give at each hp hq =
      two_parts f at (look s.program.model p) (look s.program.model q) m n (λ a b. moved op size a b >>= (λ c. gives (content.Address c))) (λ a b w. moved op size a b >>= (λ c. gives (valued (give c) w))) hp hq (λ a b w quiet. same_step f at (moved op size a b at) _ _ (stays_moved op size a b at) (λ c. (each c, refl, refl, quiet)))
  move_agrees f s op size on_right p q m n give at each hp hq =
      two_swapped f at (look s.program.model p) (look s.program.model q) m n (λ a b. moved op size b a >>= (λ c. gives (content.Address c))) (λ a b w. moved op size b a >>= (λ c. gives (valued (give c) w))) hp hq (λ a b w quiet. same_step f at (moved op size b a at) _ _ (stays_moved op size b a at) (λ c. (each c, refl, refl, quiet)))

  -- where a pointer leads
  pointed_agrees : (s : Names) (q : Pure) (n : Step (Valued Content)) (at : At) → Agrees at (look s.program.model q at) (n at) → Same content.Address at (look s.program.model (pure.Convert how.ToPointer q) at) ((n >>= (λ x. address_in x.value >>= (λ a. gives (valued a x.footprint)))) at)
  pointed_agrees s q n at h =
      same_bind (λ c. c) content.Address at _ (n at) _ _ h (λ x qx. same_step content.Address at (address_in x.value at) _ _ (stays_address_in x.value at) (λ a. (refl, refl, refl, qx)))

  -- a conversion
  conversion_agrees : (s : Names) (it : Conversion) (t : CType) (q : Pure) (n : Step (Valued Content)) (at : At) → Agrees at (look s.program.model q at) (n at) → Agrees at (look s.program.model (converts it t q) at) ((n >>= (λ x. converted s.program it t x.value >>= (λ c. gives (valued c x.footprint)))) at)
  conversion_agrees s e.to_integer t q n at h =
      same_bind (λ c. c) (λ c. c) at _ (n at) _ _ h (λ x quiet. same_last at (convert_as s.program.model (how.ToInteger (scalar_in t)) x.value at) x.footprint (stays_converted s.program.model (how.ToInteger (scalar_in t)) x.value at) quiet)
  conversion_agrees s e.to_truth t q n at h =
      same_bind (λ c. c) (λ c. c) at _ (n at) _ _ h (λ x quiet. same_last at (convert_as s.program.model how.ToTruth x.value at) x.footprint (stays_converted s.program.model how.ToTruth x.value at) quiet)
  conversion_agrees s e.to_null t q n at h = same_bind (λ c. c) (λ c. c) at _ (n at) _ _ h (λ x quiet. (refl, refl, refl, quiet))
  conversion_agrees s e.to_pointer t q n at h =
      same_bind (λ c. c) (λ c. c) at _ (n at) _ _ h (λ x quiet. same_last at (convert_as s.program.model how.ToPointer x.value at) x.footprint (stays_converted s.program.model how.ToPointer x.value at) quiet)
  conversion_agrees s e.to_void t q n at h = same_bind (λ c. c) (λ c. c) at _ (n at) _ _ h (λ x quiet. (refl, refl, refl, quiet))

  converted_agrees : (s : Names) (it : Conversion) (t : CType) (fate : Fate) (q : Pure) (n : Step (Valued Content)) (at : At) → Agrees at (look s.program.model q at) (n at) → Agrees at (look s.program.model (converts_here fate it t q) at) ((n >>= (λ x. converted_here fate s.program it t x.value >>= (λ c. gives (valued c x.footprint)))) at)
  converted_agrees s it t wanted q n at h = conversion_agrees s it t q n at h
  converted_agrees s it t dropped q n at h = conversion_agrees s it t q n at h
  converted_agrees s it t untaken q n at h = conversion_agrees s it t q n at h
  converted_agrees s it t unconverted q n at h = same_into (λ c. c) (λ c. c) at _ (n at) _ h (λ x quiet. (refl, refl, refl, quiet))
  converted_agrees s it t dropped_branch q n at h = same_into (λ c. c) (λ c. c) at _ (n at) _ h (λ x quiet. (refl, refl, refl, quiet))

  mutual
    value_agrees : (s : Names) (calls : Calls) (v : Value) (fate : Fate) (at : At) → is_pure v ≡ true → Agrees at (look s.program.model (raw_of s fate v) at) (eval (around s calls tracks) fate v at)
    value_agrees s calls (e.Constant t z) fate at h = (refl, refl, refl, quiet_untouched)
    value_agrees s calls (e.Load t p) fate at h =
        same_bind content.Address (λ c. c) at _ _ _ _ (place_agrees s calls p at h) (λ x q. same_loaded tracks s.program.model _ x.value x.footprint at q)
    value_agrees s calls (e.Whole t p) fate at h = place_value at _ _ (place_agrees s calls p at h)
    value_agrees s calls (e.Decay t p) fate at h = place_value at _ _ (place_agrees s calls p at h)
    value_agrees s calls (e.AddressOf t p) fate at h = place_value at _ _ (place_agrees s calls p at h)
    value_agrees s calls (e.Convert e.to_integer t v) fate at h = converted_agrees s e.to_integer t fate _ (eval (around s calls tracks) (inside fate) v) at (value_agrees s calls v (inside fate) at h)
    value_agrees s calls (e.Convert e.to_truth t v) fate at h = converted_agrees s e.to_truth t fate _ (eval (around s calls tracks) (inside fate) v) at (value_agrees s calls v (inside fate) at h)
    value_agrees s calls (e.Convert e.to_null t v) fate at h = converted_agrees s e.to_null t fate _ (eval (around s calls tracks) (inside fate) v) at (value_agrees s calls v (inside fate) at h)
    value_agrees s calls (e.Convert e.to_pointer t v) fate at h = converted_agrees s e.to_pointer t fate _ (eval (around s calls tracks) (inside fate) v) at (value_agrees s calls v (inside fate) at h)
    value_agrees s calls (e.Convert e.to_void t v) fate at h = same_bind (λ c. c) (λ c. c) at _ _ _ _ (value_agrees s calls v untaken at h) (λ x q. (refl, refl, refl, q))
    value_agrees s calls (e.Minus t v) fate at h =
        same_bind (λ c. c) (λ c. c) at _ _ _ _ (value_agrees s calls v wanted at h) (λ x q. same_step (λ c. c) at (applied s.program.model O.Sub (scalar_in t) (content.Number (pos 0)) x.value at) _ _ (stays_applied s.program.model O.Sub (scalar_in t) (content.Number (pos 0)) x.value at) (λ z. (refl, refl, refl, q)))
    value_agrees s calls (e.Complement t v) fate at h =
        same_bind (λ c. c) (λ c. c) at _ _ _ _ (value_agrees s calls v wanted at h) (λ x q. same_step (λ c. c) at (applied s.program.model O.Xor (scalar_in t) x.value (content.Number (convert_of s.program.model (scalar_in t) (negsuc 0))) at) _ _ (stays_applied s.program.model O.Xor (scalar_in t) x.value (content.Number (convert_of s.program.model (scalar_in t) (negsuc 0))) at) (λ z. (refl, refl, refl, q)))
    value_agrees s calls (e.Not t v) fate at h = not_agrees s (raw_of s wanted v) (eval (around s calls tracks) wanted v) at (value_agrees s calls v wanted at h)
    value_agrees s calls (e.Arithmetic t op k a b) fate at h =
        two_parts (λ c. c) at (look s.program.model (raw_of s wanted a)) (look s.program.model (raw_of s wanted b)) (eval (around s calls tracks) wanted a) (eval (around s calls tracks) wanted b) (λ x y. applied s.program.model op k x y >>= (λ z. gives (content.Number z))) (λ x y p. applied s.program.model op k x y >>= (λ z. gives (valued (content.Number z) p))) (value_agrees s calls a wanted at (and_left _ _ h)) (value_agrees s calls b wanted at (and_right _ _ h)) (λ x y p q. same_step (λ c. c) at (applied s.program.model op k x y at) _ _ (stays_applied s.program.model op k x y at) (λ z. (refl, refl, refl, q)))
    value_agrees s calls (e.Move t op size side a b) fate at h =
        move_agrees (λ c. c) s op size side (raw_of s wanted a) (raw_of s wanted b) (eval (around s calls tracks) wanted a) (eval (around s calls tracks) wanted b) (λ p. content.Address p) at (λ p. refl) (value_agrees s calls a wanted at (and_left _ _ h)) (value_agrees s calls b wanted at (and_right _ _ h))
    value_agrees s calls (e.Distance t size a b) fate at h =
        two_parts (λ c. c) at (look s.program.model (raw_of s wanted a)) (look s.program.model (raw_of s wanted b)) (eval (around s calls tracks) wanted a) (eval (around s calls tracks) wanted b) (λ x y. counted size x y >>= (λ z. gives (content.Number z))) (λ x y p. counted size x y >>= (λ z. gives (valued (content.Number z) p))) (value_agrees s calls a wanted at (and_left _ _ h)) (value_agrees s calls b wanted at (and_right _ _ h)) (λ x y p q. same_step (λ c. c) at (counted size x y at) _ _ (stays_counted size x y at) (λ z. (refl, refl, refl, q)))
    value_agrees s calls (e.Compare t op a b) fate at h =
        two_parts (λ c. c) at (look s.program.model (raw_of s wanted a)) (look s.program.model (raw_of s wanted b)) (eval (around s calls tracks) wanted a) (eval (around s calls tracks) wanted b) (λ x y. compared op x y >>= (λ z. gives (of_truth z))) (λ x y p. compared op x y >>= (λ z. gives (valued (of_truth z) p))) (value_agrees s calls a wanted at (and_left _ _ h)) (value_agrees s calls b wanted at (and_right _ _ h)) (λ x y p q. same_step (λ c. c) at (compared op x y at) _ _ (stays_compared op x y at) (λ z. (refl, refl, refl, q)))
    value_agrees s calls (e.Logical t op a b) fate at h =
        logical_agrees s op (raw_of s wanted a) (raw_of s wanted b) (eval (around s calls tracks) wanted a) (eval (around s calls tracks) wanted b) at (value_agrees s calls a wanted at (and_left _ _ h)) (value_agrees s calls b wanted at (and_right _ _ h))
    value_agrees s calls (e.Conditional t v a b) fate at h =
        choice_agrees s (raw_of s wanted v) (raw_of s (of_branch fate) a) (raw_of s (of_branch fate) b) (eval (around s calls tracks) wanted v) (eval (around s calls tracks) (of_branch fate) a) (eval (around s calls tracks) (of_branch fate) b) at (value_agrees s calls v wanted at (and_left _ _ h)) (value_agrees s calls a (of_branch fate) at (and_left _ _ (and_right _ _ h))) (value_agrees s calls b (of_branch fate) at (and_right _ _ (and_right _ _ h)))
    value_agrees s calls (e.Comma t vs) fate at h = comma_agrees s calls (of_last fate) vs at (parts_agree s calls (of_last fate) vs at h)
    value_agrees s calls (e.Assign t p v) fate at h = absurd (false≢true h)
    value_agrees s calls (e.Update t op k p v) fate at h = absurd (false≢true h)
    value_agrees s calls (e.UpdatePointer t op size p v) fate at h = absurd (false≢true h)
    value_agrees s calls (e.Step t when op k p) fate at h = absurd (false≢true h)
    value_agrees s calls (e.StepPointer t when op size p) fate at h = absurd (false≢true h)
    value_agrees s calls (e.Call t f vs) fate at h = absurd (false≢true h)
    value_agrees s calls (e.Marked t ms v) fate at h = absurd (false≢true h)
    value_agrees s calls (e.Decide t v on off) fate at h = absurd (false≢true h)
    value_agrees s calls (e.After t v id) fate at h = absurd (false≢true h)

    place_agrees : (s : Names) (calls : Calls) (p : Place) (at : At) → is_pure_place p ≡ true → Same content.Address at (look s.program.model (raw_place s p) at) (place_of (around s calls tracks) p at)
    place_agrees s calls (e.Object t n) at h = same_step content.Address at (place (s.variable n) at) _ _ (stays_place (s.variable n) at) (λ a. (refl, refl, refl, quiet_untouched))
    place_agrees s calls (e.Pointed t v) at h = pointed_agrees s (raw_of s wanted v) (eval (around s calls tracks) wanted v) at (value_agrees s calls v wanted at h)
    place_agrees s calls (e.Element t size side a b) at h =
        move_agrees content.Address s O.Add size side (raw_of s wanted a) (raw_of s wanted b) (eval (around s calls tracks) wanted a) (eval (around s calls tracks) wanted b) (λ p. p) at (λ p. refl) (value_agrees s calls a wanted at (and_left _ _ h)) (value_agrees s calls b wanted at (and_right _ _ h))
    place_agrees s calls (e.Part t offset p) at h =
        same_bind content.Address content.Address at _ _ _ _ (place_agrees s calls p at h) (λ x q. same_step content.Address at (member_at offset x.value at) _ _ (stays_member_at offset x.value at) (λ a. (refl, refl, refl, q)))
    place_agrees s calls (e.Held t v) at h = pointed_agrees s (raw_of s wanted v) (eval (around s calls tracks) wanted v) at (value_agrees s calls v wanted at h)

    parts_agree : (s : Names) (calls : Calls) (fate : Fate) (vs : Values) (at : At) → are_pure vs ≡ true → PartsAgree s calls fate vs at
    parts_agree s calls fate no_values at h = tt
    parts_agree s calls fate (a_value v vs) at h = λ c f quiet.
        part_agrees s calls fate vs (raw_of s (fate_of_part fate vs) v) (eval (around s calls tracks) (fate_of_part fate vs) v) f at quiet (value_agrees s calls v (fate_of_part fate vs) at (and_left _ _ h)) (parts_agree s calls fate vs at (and_right _ _ h))

-- what is done with what both give, where the value is pure, gives the same
pure_quietly : {A : Type 0} (s : Names) (v : Value) (calls : Calls) (at : At) (each : Content → Step A) → quietly (look s.program.model (pure_in s v) >>= each) at ≡ pure_only (is_pure v) (quietly (eval (around s calls false) wanted v >>= (λ x. each x.value)) at)
pure_quietly {A} s v calls at each = by_pure (is_pure v) refl
  where
    by_pure : (b : Bool) → is_pure v ≡ b → quietly (look s.program.model (if b then raw_of s wanted v else pure.Never) >>= each) at ≡ pure_only b (quietly (eval (around s calls false) wanted v >>= (λ x. each x.value)) at)
    by_pure true h = same_quietly at _ _ each (value_agrees false s calls v wanted at h)
    by_pure false h = refl

-- the graph's expression is true where the tree's is
pub truth_of_pure : (s : Names) (v : Value) → IsTruthOf s v (pure_in s v)
truth_of_pure s v calls at = pure_quietly s v calls at truth_in

-- the graph's expression has the number that the tree's has
pub number_of_pure : (s : Names) (v : Value) → IsNumberOf s v (pure_in s v)
number_of_pure s v calls at = pure_quietly s v calls at number_in

-- the graph's bound expressions are those of the tree
pub bound_of_pure : (s : Names) (bound : Bindings) (calls : Calls) (tracks : Bool) (at : At) → looked_at s.program.model (names_bound bound) (pures_bound s bound) at ≡ bound_at (around s calls tracks) bound at
bound_of_pure s e.no_bindings calls tracks at = refl
bound_of_pure s (e.a_binding name v rest) calls tracks at =
    ap₂ (λ o more. one_more name o more) (number_of_pure s v calls at) (bound_of_pure s rest calls tracks at)
