-- What a step of a run that goes on may be.
use Rattle.std.proofs.Common.{◌≡◌, ℕ, zero, suc, ◌+◌, ◌<◌, ◌≤◌, List, [], ◌∷◌, Bool, true, false, Option, Some, None, refl, ap, sym, ◌∙◌, arith, if◌then◌else◌}
use Rattle.std.specs.Prelude.{◌++◌, map, slice_get, nat_lt}
use Rattle.std.proofs.Common.{ℤ}
use borrow.Author.Tests.{ltb-true}
use Rattle.lt_model.specs.State.{Gives, Ends}
use Rattle.lt_model.specs.declared.run.End.TheVariants.{Deep, Stopped}
use Rattle.std.specs.Ordering.{int_eq}
use Rattle.lt_model.specs.declared.cell.Content.{Content}
use Rattle.lt_ir.specs.declared.node.Arm.{Arm}
use Rattle.lt_ir.specs.declared.code.Code.{Code}
use Rattle.lt_ir.specs.declared.graph.Graph.{Graph}
use Rattle.lt_ir.specs.declared.node.Node.{Node}
use Rattle.lt_ir.specs.declared.node.Node.TheVariants as node
use Rattle.lt_ir.specs.Edges.{successors, is_tick}
use Rattle.lt_ir.specs.Tables.{arm_of}
use Rattle.lt_ir.specs.Running.{At, Answer, Step, ◌>>=◌, ◌>>◌, gives, spent, place, begins, ends, seals, stub_value, begin_parameters, statics_of, with_scope, most_calls}
use Rattle.lt_ir.specs.Running.{At}
use Rattle.lt_ir.specs.Evaluation.{address_in, number_in, truth_in, used, stored, copied, loaded, counted, applied, compared, valued, store_parameters}
use Rattle.lt_ir.specs.Pure.{Pure, convert_as}
use Rattle.lt_ir.specs.PureView.{pure_of}
use Rattle.lt_ir.specs.declared.code.LabelInfo.{LabelInfo}
use Rattle.lt_model.specs.State.{Binding}
use Rattle.lt_ir.specs.Running.{marked_with}
use Rattle.lt_ir.specs.declared.variable.Variable.TheVariants.{Local}
use Rattle.lt_model.specs.declared.cell.Content.TheVariants as content
use Rattle.lt_ir.specs.Graph.{State, Frame, Register, Next, Goes, Stops, act, going, content_at, contents_from, entering, shapes_in, calls, caller, returns, are_static, one_less, begun, given, stub_for, footprint_at, moves, shape_at, structs_of, locals_of, parted, targets, blanks, marks_label}
use Rattle.lt_ends.proofs.CalmSteps.{Later, Keeps, Calm, later_same, calm-bind, calm-then, calm-gives, calm-content_at, calm-address_in, calm-number_in, calm-truth_in, calm-used, calm-place, calm-loaded, calm-stored, calm-copied, calm-moves, calm-counted, calm-applied, calm-compared, calm-convert_as, calm-begins, calm-seals, calm-ends, calm-stub_value, calm-with_scope, calm-begin_parameters, calm-store_parameters, calm-contents_from, calm-given, calm-parted}

pub record OnEdge (n : Node) (s next : State) : Type 0 where
  pub no_tick : is_tick (Some n) ≡ false
  pub code : next.code ≡ s.code
  pub stack : next.stack ≡ s.stack
  pub later : Later s.at next.at
  pub which : ℕ
  pub leads : slice_get (successors n) which ≡ Some next.place

pub record OnTick (n : Node) (s next : State) : Type 0 where
  pub code : next.code ≡ s.code
  pub stack : next.stack ≡ s.stack
  pub ticks : next.at.ticks < s.at.ticks
  pub depth : next.at.depth ≡ s.at.depth

pub record OnCall (n : Node) (s next : State) : Type 0 where
  pub no_tick : is_tick (Some n) ≡ false
  pub to : Option ℕ
  pub place : ℕ
  pub stack : next.stack ≡ caller s to place ∷ s.stack
  pub ticks : next.at.ticks ≤ s.at.ticks
  pub depth : next.at.depth ≡ s.at.depth + 1
  pub few : s.at.depth < most_calls
  pub which : ℕ
  pub leads : slice_get (successors n) which ≡ Some place

pub record OnReturn (n : Node) (s next : State) : Type 0 where
  pub frame : Frame
  pub stack : s.stack ≡ frame ∷ next.stack
  pub code : next.code ≡ frame.code
  pub place : next.place ≡ frame.place
  pub ticks : next.at.ticks ≤ s.at.ticks
  pub depth : next.at.depth ≡ one_less s.at.depth

-- a node that is no tick leads there
record Leads (n : Node) (i p : ℕ) : Type 0 where
  no_tick : is_tick (Some n) ≡ false
  is : slice_get (successors n) i ≡ Some p

pub data Kind (n : Node) (s next : State) : Type 0 where
  on_edge : OnEdge n s next → Kind n s next
  on_tick : OnTick n s next → Kind n s next
  on_call : OnCall n s next → Kind n s next
  on_return : OnReturn n s next → Kind n s next

through : {A : Type 0} (at : At) (m : Answer A) (k : A → At → Next) (next : State) (P : Type 0) → Keeps at m
    → elim m [ Gives a at1 ↦ k a at1 | Ends end at1 ↦ Stops end at1 ] ≡ Goes next
    → ((a : A) (at1 : At) → Later at at1 → k a at1 ≡ Goes next → P) → P
through at (Gives a at1) k next P l e go = go a at1 l e
through at (Ends end at1) k next P l e go = absurd (cc)

edge : (n : Node) (s next : State) (i p : ℕ) (rs : List Register) (at1 : At) → Later s.at at1
    → Leads n i p → Goes (record s { registers = rs; place = p; at = at1 }) ≡ Goes next → Kind n s next
edge n s next i p rs at1 l h e =
    let f : record s { registers = rs; place = p; at = at1 } ≡ next = cc in
    on_edge (record {
      code = ap (λ (x : State). x.code) (sym f);
      stack = ap (λ (x : State). x.stack) (sym f);
      later = record { ticks = (let t = ap (λ (x : State). x.at.ticks) f in omega (arith, l.ticks)); depth = ap (λ (x : State). x.at.depth) (sym f) ∙ l.depth };
      which = i;
      leads = h.is ∙ ap (λ (x : State). Some x.place) f;
      no_tick = h.no_tick;
    })

-- a step that goes to the one node that follows
along : {A : Type 0} (n : Node) (s next : State) (m : Step A) (rs : A → List Register) (p : ℕ) → Calm m → Leads n 0 p
    → going m s.at (λ a at1. Goes (record s { registers = rs a; place = p; at = at1 })) ≡ Goes next → Kind n s next
along n s next m rs p calm h e = through s.at (m s.at) _ next _ (calm s.at) e (λ a at1 l e1. edge n s next 0 p (rs a) at1 l h e1)

calm-had_address : (rs : List Register) (r : ℕ) → Calm (content_at rs r >>= address_in)
calm-had_address rs r = calm-bind (content_at rs r) _ (calm-content_at rs r) calm-address_in

picked_arm : (arm : Arm) (arms : List Arm) (default : ℕ) (z : ℤ) (b : Bool) → (i : ℕ) × (slice_get (map (λ arm. arm.next) arms ++ default ∷ []) i ≡ Some (arm_of arms default z))
    → (i : ℕ) × (slice_get (arm.next ∷ (map (λ arm. arm.next) arms ++ default ∷ [])) i ≡ Some (if b then arm.next else arm_of arms default z))
picked_arm arm arms default z true rest = (0, refl)
picked_arm arm arms default z false rest = (suc rest.0, rest.1)

-- where the arm of a number leads is among the nodes that follow
leads_arm : (arms : List Arm) (default : ℕ) (z : ℤ) → (i : ℕ) × (slice_get (map (λ arm. arm.next) arms ++ default ∷ []) i ≡ Some (arm_of arms default z))
leads_arm [] default z = (0, refl)
leads_arm (arm ∷ arms) default z = picked_arm arm arms default z (int_eq arm.value z) (leads_arm arms default z)

ticked : (n : Node) (s next : State) (p t : ℕ) → t ≡ s.at.ticks → elim (spent t s.at) [ Gives a at1 ↦ Goes (record s { place = p; at = at1 }) | Ends end at1 ↦ Stops end at1 ] ≡ Goes next → Kind n s next
ticked n s next p zero h e = absurd (cc)
ticked n s next p (suc t) h e =
    let f : record s { place = p; at = record s.at { ticks = t } } ≡ next = cc in
    on_tick (record {
      code = ap (λ (x : State). x.code) (sym f);
      stack = ap (λ (x : State). x.stack) (sym f);
      ticks = (let i = ap (λ (x : State). x.at.ticks) f in omega arith);
      depth = ap (λ (x : State). x.at.depth) (sym f);
    })

-- ---- calls and returns

begins_call : (n : Node) (s next : State) (f : ℕ) (code : Code) (to : Option ℕ) (p : ℕ) (at1 at2 : At) → at1.ticks ≤ s.at.ticks → at1.depth ≡ s.at.depth + 1 → s.at.depth < most_calls → Later at1 at2
    → Leads n 0 p → begun f code (caller s to p ∷ s.stack) at2 ≡ Goes next → Kind n s next
begins_call n s next f code to p at1 at2 t d few l h e =
    let i : record { code = f; place = code.start; registers = blanks code.registers; stack = caller s to p ∷ s.stack; at = at2 } ≡ next = cc in
    on_call (record {
      to = to;
      place = p;
      stack = ap (λ (x : State). x.stack) (sym i);
      ticks = (let j = ap (λ (x : State). x.at.ticks) i in omega (arith, l.ticks));
      depth = ap (λ (x : State). x.at.depth) (sym i) ∙ l.depth ∙ d;
      few = few;
      which = 0;
      leads = h.is;
      no_tick = h.no_tick;
    })

-- what is behind the count of an active call
abbrev behind : Graph → Code → List Content → Step (Unit {0})
behind g code xs =
    (λ at. with_scope (statics_of at.scope) at) >> (begin_parameters 0 (shapes_in code.params) >> store_parameters g.model 0 (shapes_in code.params) xs)

calm-behind : (g : Graph) (code : Code) (xs : List Content) → Calm (behind g code xs)
calm-behind g code xs =
    calm-then (λ at. with_scope (statics_of at.scope) at) _ (λ at. calm-with_scope (statics_of at.scope) at) (calm-then _ _ (calm-begin_parameters 0 (shapes_in code.params)) (calm-store_parameters g.model 0 (shapes_in code.params) xs))

abbrev deepened : Bool → Step (Unit {0})
deepened b at = if b then Gives tt (record at { depth = at.depth + 1 }) else Ends Deep at

counted_call : (n : Node) (g : Graph) (code : Code) (s next : State) (f : ℕ) (to : Option ℕ) (p : ℕ) (xs : List Content) (at1 : At) (b : Bool) → b ≡ nat_lt at1.depth most_calls → Later s.at at1 → Leads n 0 p
    → elim ((deepened b >> behind g code xs) at1) [ Gives a at ↦ begun f code (caller s to p ∷ s.stack) at | Ends end at ↦ Stops end at ] ≡ Goes next → Kind n s next
counted_call n g code s next f to p xs at1 false i l h e = absurd (cc)
counted_call n g code s next f to p xs at1 true i l h e =
    let at2 : At = record at1 { depth = at1.depth + 1 } in
    let few : at1.depth < most_calls = ltb-true _ _ (sym i) in
    through at2 (behind g code xs at2) (λ _ at. begun f code (caller s to p ∷ s.stack) at) next _ (calm-behind g code xs at2) e
    (λ a at3 m e1. begins_call n s next f code to p at2 at3 l.ticks (ap (λ d. d + 1) l.depth) (let j = l.depth in omega (arith, few)) m h e1)

abbrev onward : {A B : Type 0} → Answer A → (A → Step B) → Answer B
onward m go = elim m [ Gives a at ↦ go a at | Ends end at ↦ Ends end at ]

called : (n : Node) (g : Graph) (o : Option Code) (s next : State) (f : ℕ) (to : Option ℕ) (first count p : ℕ) → Leads n 0 p
    → calls g.model o s f to first count p ≡ Goes next → Kind n s next
called n g None s next f to first count p h e = absurd (cc)
called n g (Some code) s next f to first count p h e = with_contents (contents_from s.registers first count s.at) (calm-contents_from s.registers first count s.at) e
  where
    with_contents : (m : Answer (List Content)) → Keeps s.at m
        → elim (onward m (entering g.model code)) [ Gives a at ↦ begun f code (caller s to p ∷ s.stack) at | Ends end at ↦ Stops end at ] ≡ Goes next → Kind n s next
    with_contents (Gives xs at1) l e = counted_call n g code s next f to p xs at1 (nat_lt at1.depth most_calls) refl l h e
    with_contents (Ends end at1) l e = absurd (cc)

back_to : (n : Node) (s next : State) (frame : Frame) (stack : List Frame) (c : Content) (at1 : At) (b : Bool) → s.stack ≡ frame ∷ stack → Later s.at at1
    → (if b then Goes (record {
      code = frame.code;
      place = frame.place;
      registers = targets frame.registers frame.target c;
      stack = stack;
      at = record at1 { scope = frame.scope; depth = one_less at1.depth };
    }) else Stops Stopped at1) ≡ Goes next → Kind n s next
back_to n s next frame stack c at1 false i l e = absurd (cc)
back_to n s next frame stack c at1 true i l e =
    let j : record { code = frame.code; place = frame.place; registers = targets frame.registers frame.target c; stack = stack; at = record at1 { scope = frame.scope; depth = one_less at1.depth } } ≡ next = cc in
    on_return (record {
      frame = frame;
      stack = i ∙ ap (λ (x : State). frame ∷ x.stack) j;
      code = ap (λ (x : State). x.code) (sym j);
      place = ap (λ (x : State). x.place) (sym j);
      ticks = (let k = ap (λ (x : State). x.at.ticks) j in omega (arith, l.ticks));
      depth = ap (λ (x : State). x.at.depth) (sym j) ∙ ap one_less l.depth;
    })

returned : (n : Node) (s next : State) (stack : List Frame) (c : Content) (at1 : At) → s.stack ≡ stack → Later s.at at1 → returns stack c at1 ≡ Goes next → Kind n s next
returned n s next [] c at1 i l e = absurd (cc)
returned n s next (frame ∷ stack) c at1 i l e = back_to n s next frame stack c at1 (are_static at1.scope) i l e

stubbed : (n : Node) (s next : State) (o : Option (List ℕ)) (r p : ℕ) → Leads n 0 p → stub_for o r s p ≡ Goes next → Kind n s next
stubbed n s next None r p h e = absurd (cc)
stubbed n s next (Some name) r p h e = along n s next (stub_value name) _ p (calm-stub_value name) h e

branched : (n : Node) (s next : State) (on off : ℕ) (at1 : At) (b : Bool) → Later s.at at1 → Leads n 0 on → Leads n 1 off → Goes (record s { place = (if b then on else off); at = at1 }) ≡ Goes next → Kind n s next
branched n s next on off at1 true l h i e = edge n s next 0 on s.registers at1 l h e
branched n s next on off at1 false l h i e = edge n s next 1 off s.registers at1 l i e

-- the marks that are made change neither
marked_later : (s : State) (at1 : At) → at1.ticks ≡ s.at.ticks → at1.depth ≡ s.at.depth → Later s.at at1
marked_later s at1 t d = record { ticks = omega arith; depth = d }

marked : (id : ℕ) (b : Option Bool) (bound : Option (List Binding)) (at : At) → Later at (marked_with id b bound at)
marked id None bound at = record { ticks = omega arith; depth = refl }
marked id (Some b) None at = record { ticks = omega arith; depth = refl }
marked id (Some b) (Some bound) at = record { ticks = omega arith; depth = refl }

labelled : (model : _) (o : Option LabelInfo) (p : Pure) (ps : List Pure) (at : At) → Later at (marks_label model o p ps at)
labelled model None p ps at = later_same at
labelled model (Some label) p ps at = marked label.id _ _ at

-- ---- what each node does

pub kind_of : (g : Graph) (o : Option Code) (n : Node) (s next : State) → act g o (Some n) s ≡ Goes next → Kind n s next
kind_of g o (node.Constant to c is_kept p) s next e = edge _ s next 0 p _ s.at (later_same s.at) (record { no_tick = refl; is = refl }) e
kind_of g o (node.Address to v p) s next e = along _ s next (place v) _ p (calm-place v) (record { no_tick = refl; is = refl }) e
kind_of g o (node.Load to from ty tracks p) s next e =
    along _ s next (content_at s.registers from >>= address_in >>= (λ a. loaded tracks g.model ty (valued a (footprint_at s.registers from)))) _ p
    (calm-bind _ _ (calm-had_address s.registers from) (λ a. calm-loaded tracks g.model ty (valued a (footprint_at s.registers from)))) (record { no_tick = refl; is = refl }) e
kind_of g o (node.Store q v y ty tracks p) s next e =
    along _ s next (content_at s.registers q >>= address_in >>= (λ a. content_at s.registers v >>= used >>= (λ c. content_at s.registers y >>= (λ d. stored tracks g.model ty a c (footprint_at s.registers q) >>= (λ footprint. gives (valued d footprint)))))) _ p
    (calm-bind _ _ (calm-had_address s.registers q) (λ a. calm-bind _ _ (calm-bind (content_at s.registers v) _ (calm-content_at s.registers v) calm-used) (λ c. calm-bind _ _ (calm-content_at s.registers y) (λ d. calm-bind _ _ (calm-stored tracks g.model ty a c (footprint_at s.registers q)) (λ footprint. calm-gives (valued d footprint)))))) (record { no_tick = refl; is = refl }) e
kind_of g o (node.Move to pointer by p) s next e =
    along _ s next (content_at s.registers pointer >>= moves s.registers by) _ p (calm-bind _ _ (calm-content_at s.registers pointer) (calm-moves s.registers by)) (record { no_tick = refl; is = refl }) e
kind_of g o (node.Subtract to left right size p) s next e =
    along _ s next (content_at s.registers left >>= (λ a. content_at s.registers right >>= (λ b. counted size a b))) _ p
    (calm-bind _ _ (calm-content_at s.registers left) (λ a. calm-bind _ _ (calm-content_at s.registers right) (λ b. calm-counted size a b))) (record { no_tick = refl; is = refl }) e
kind_of g o (node.Apply to left right op ty p) s next e =
    along _ s next (content_at s.registers left >>= (λ a. content_at s.registers right >>= (λ b. applied g.model op ty a b))) _ p
    (calm-bind _ _ (calm-content_at s.registers left) (λ a. calm-bind _ _ (calm-content_at s.registers right) (λ b. calm-applied g.model op ty a b))) (record { no_tick = refl; is = refl }) e
kind_of g o (node.Convert to from how p) s next e =
    along _ s next (content_at s.registers from >>= convert_as g.model how) _ p (calm-bind _ _ (calm-content_at s.registers from) (calm-convert_as g.model how)) (record { no_tick = refl; is = refl }) e
kind_of g o (node.Compare to left right op p) s next e =
    along _ s next (content_at s.registers left >>= (λ a. content_at s.registers right >>= (λ b. compared op a b))) _ p
    (calm-bind _ _ (calm-content_at s.registers left) (λ a. calm-bind _ _ (calm-content_at s.registers right) (λ b. calm-compared op a b))) (record { no_tick = refl; is = refl }) e
kind_of g o (node.Copy q from k tracks p) s next e =
    along _ s next (content_at s.registers q >>= address_in >>= (λ a. content_at s.registers from >>= address_in >>= (λ b. copied tracks g.model (shape_at (structs_of o) k) a b (footprint_at s.registers q) >>= (λ footprint. gives (valued (content.Address a) footprint))))) _ p
    (calm-bind _ _ (calm-had_address s.registers q) (λ a. calm-bind _ _ (calm-had_address s.registers from) (λ b. calm-bind _ _ (calm-copied tracks g.model (shape_at (structs_of o) k) a b (footprint_at s.registers q)) (λ footprint. calm-gives (valued (content.Address a) footprint))))) (record { no_tick = refl; is = refl }) e
kind_of g o (node.Create k is_zeroed p) s next e =
    along _ s next (begins (Local k) (shape_at (locals_of o) k) is_zeroed) (λ _. s.registers) p (calm-begins (Local k) (shape_at (locals_of o) k) is_zeroed) (record { no_tick = refl; is = refl }) e
kind_of g o (node.Seal v p) s next e = along _ s next (seals v) (λ _. s.registers) p (calm-seals v) (record { no_tick = refl; is = refl }) e
kind_of g o (node.End v p) s next e = along _ s next (ends v) (λ _. s.registers) p (calm-ends v) (record { no_tick = refl; is = refl }) e
kind_of g o (node.Branch test on off) s next e =
    through s.at ((content_at s.registers test >>= truth_in) s.at) _ next _ (calm-bind _ _ (calm-content_at s.registers test) calm-truth_in s.at) e
    (λ b at1 l e1. branched _ s next on off at1 b l (record { no_tick = refl; is = refl }) (record { no_tick = refl; is = refl }) e1)
kind_of g o (node.Switch value arms table default) s next e =
    through s.at ((content_at s.registers value >>= number_in) s.at) _ next _ (calm-bind _ _ (calm-content_at s.registers value) calm-number_in s.at) e
    (λ z at1 l e1. edge _ s next (leads_arm arms default z).0 (arm_of arms default z) s.registers at1 l (record { no_tick = refl; is = (leads_arm arms default z).1 }) e1)
kind_of g o (node.Call f to first count p) s next e = called _ g (slice_get g.codes f) s next f to first count p (record { no_tick = refl; is = refl }) e
kind_of g o (node.Stub k to p) s next e = stubbed _ s next (slice_get g.stubs k) to p (record { no_tick = refl; is = refl }) e
kind_of g o node.Stop s next e = absurd (cc)
kind_of g o (node.Return value) s next e =
    through s.at (given s.registers value s.at) _ next _ (calm-given s.registers value s.at) e (λ c at1 l e1. returned _ s next s.stack c at1 refl l e1)
kind_of g o (node.Tick p) s next e = ticked _ s next p s.at.ticks refl e
kind_of g o (node.Mark k predicate bound p) s next e =
    edge _ s next 0 p s.registers (marks_label g.model (slice_get g.labels k) (pure_of predicate) (map pure_of bound) s.at) (labelled g.model (slice_get g.labels k) (pure_of predicate) (map pure_of bound) s.at) (record { no_tick = refl; is = refl }) e
kind_of g o (node.Clash parts p) s next e =
    along _ s next (parted (structs_of o) s.registers parts) _ p (calm-parted (structs_of o) s.registers parts) (record { no_tick = refl; is = refl }) e
