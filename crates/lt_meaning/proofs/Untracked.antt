-- An expression in which nothing can clash gives the same where footprints aren't tracked.
use Rattle.std.proofs.Common.{◌≡◌, ℕ, List, Option, Some, None, Bool, true, false, refl, ap, ◌∙◌, subst}
use Rattle.std.proofs.lemmas.Bool.{false≢true}
use Rattle.std.specs.Prelude.{pos, not, negsuc, if◌then◌else◌}
use Rattle.lt_model.specs.declared.cell.Address.{Address}
use Rattle.lt_model.specs.declared.cell.Content.{Content}
use Rattle.lt_model.specs.declared.cell.Content.TheVariants as content
use Rattle.lt_model.specs.declared.operator.Op.{Op}
use Rattle.lt_model.specs.declared.operator.Op.TheVariants as O
use Rattle.lt_model.specs.declared.scalar.Scalar.{Scalar}
use Rattle.lt_model.specs.Scalar.{convert_of}
use Rattle.lt_model.specs.Memory.{load, store, copy_struct}
use Rattle.lt_model.specs.State.{Footprint, Valued, joined, settle, untouched, Gives, Ends}
use Rattle.lt_tree.specs.Typing.Types.{CType, is_struct}
use Rattle.lt_tree.specs.Typing.TypedTree as e
use Rattle.lt_tree.specs.Typing.TypedTree.{Value, Values, Place, Marks, Mark, Bindings, Conversion, When, type_of, no_values, a_value}
use Rattle.lt_ir.specs.Running.{At, Answer, Step, ◌>>=◌, gives, asked, absurdity, changed, place, one_more, marked_with, quietly}
use Rattle.lt_ir.specs.Evaluation.{valued, number_in, address_in, used, truth_in, of_truth, apart, aimed, one_cell, cells_met, lies_at, reads, cell_at, written, is_content_of, loaded, with_reads, moved, member_at, applied, counted, compared}
use Rattle.lt_meaning.specs.Expressions.{is_pure, pure_only, Around, Fate, wanted, unconverted, untaken, takes, inside, of_branch, of_last, fate_of_part, tracking, converted_here, late, passed, taken, assigned, updated, kept, cells_of, cell_type, shape, scalar_in, pointer_of, count_of, decides, second_truth, comma_from, eval, place_of, arguments_of, parts_of, bound_at, marked, marked_all}
use Rattle.lt_meaning.specs.Clashes.{Grade, writes_nothing, cannot_clash, is_of, is_place_of, are_of, FootprintsAreNeededForClashesAlone}
use Rattle.lt_meaning.proofs.SameBut.{Quiet, quiet_untouched, quiet_joined, quiet_settled, apart_quiet, aimed_quiet, Holds, weaken, holds_joined, holds_settled, SameBut, same_value, same_then, same_step, same_known, and_left, and_right}

-- the parts of a comma expression, behind others
abbrev parts_behind : Option (Footprint → Step (Valued Content)) → Footprint → Step (Valued Content)
parts_behind parts before = elim (parts) [ None ↦ gives (valued content.Unset untouched) | Some step ↦ step before ]

-- what is done behind the operands of `op=`, `++` and `--`
abbrev number_end : Around → CType → Op → Scalar → Option Address → When → (c d : Content) → Footprint → Step (Valued Content)
number_end here t op s a when c d p =
    number_in c >>= (λ n. applied here.program.model op s (content.Number (convert_of here.program.model s n)) d >>= (λ k. updated here t a (content.Number (convert_of here.program.model (scalar_in t) k)) (kept when c (content.Number (convert_of here.program.model (scalar_in t) k))) p))

abbrev pointer_end : Around → CType → Op → ℕ → Option Address → When → (c d : Content) → Footprint → Step (Valued Content)
pointer_end here t op size a when c d p = moved op size c d >>= (λ n. updated here t a (content.Address n) (kept when c (content.Address n)) p)

abbrev aims : Bool → Around → CType → Option Address → (Footprint → Step (Valued Content)) → Footprint → Step (Valued Content)
aims tracks here t a go p = aimed tracks (one_cell (cell_type here.program t)) a p >>= go

module _ (here : Around) where
  abbrev T : Around
  T = tracking true here

  abbrev F : Around
  F = tracking false here

  -- ---- marks are the same

  bound_same : (bound : Bindings) (at : At) → bound_at T bound at ≡ bound_at F bound at
  bound_same e.no_bindings at = refl
  bound_same (e.a_binding name v rest) at = ap (one_more name (pure_only (is_pure v) (quietly (eval F wanted v >>= (λ x. number_in x.value)) at))) (bound_same rest at)

  marked_same : (m : Mark) (at : At) → marked T m at ≡ marked F m at
  marked_same (e.mark predicate id bound) at = ap (λ more. marked_with id (pure_only (is_pure predicate) (quietly (eval F wanted predicate >>= (λ x. truth_in x.value)) at)) more at) (bound_same bound at)

  marked_all_same : (ms : Marks) (at : At) → marked_all T ms at ≡ marked_all F ms at
  marked_all_same e.no_marks at = refl
  marked_all_same (e.a_mark m ms) at = ap (marked_all T ms) (marked_same m at) ∙ marked_all_same ms (marked F m at)

  -- ---- parts

  -- two unsequenced parts that write nothing
  two_same : {B : Type 0} (Q : Footprint → Type 0) (m1 n1 m2 n2 : Step (Valued Content)) (f g : Content → Content → Footprint → Step (Valued B)) (at : At) → SameBut Quiet (m1 at) (n1 at) → ((at : At) → SameBut Quiet (m2 at) (n2 at)) → ((c d : Content) (p q : Footprint) (at : At) → Quiet p → SameBut Q (f c d p at) (g c d q at)) → SameBut Q ((m1 >>= (λ x. m2 >>= (λ y. apart true x.footprint y.footprint >>= (λ p. f x.value y.value p)))) at) ((n1 >>= (λ x. n2 >>= (λ y. apart false x.footprint y.footprint >>= (λ p. g x.value y.value p)))) at)
  two_same Q m1 n1 m2 n2 f g at h1 h2 k =
      same_then Quiet Q (m1 at) (n1 at) _ _ h1 (λ c p1 p2 at1 qp. same_then Quiet Q (m2 at1) (n2 at1) _ _ (h2 at1) (λ d q1 q2 at2 qq.
      same_known Q (apart true p1 q1 at2) (joined p1 q1) at2 (λ p. f c d p) _ (apart_quiet p1 q1 qp qq at2) (k c d (joined p1 q1) p2 at2 (quiet_joined p1 q1 qp qq))))

  reads_quiet : (cells : List _) → Quiet (reads cells)
  reads_quiet cells = record { settled = refl; pending = refl }

  -- the reads of a struct that is taken
  taken_known : (b : Bool) (t : CType) (x : Valued Content) (at : At) → Quiet x.footprint → (p : Footprint) × Quiet p × ((if b then with_reads true (cells_of here.program t) x else gives x.footprint) at ≡ Gives p at)
  taken_known true t x at q = let it = reads (cells_met (cells_of here.program t) (lies_at x.value) at.memory) in (joined x.footprint it, quiet_joined x.footprint it q (reads_quiet _), refl)
  taken_known false t x at q = (x.footprint, q, refl)

  taken_untracked : {B : Type 0} (b : Bool) (t : CType) (x : Valued Content) (at : At) (g : Footprint → Step (Valued B)) (Q : Footprint → Type 0) (m : Answer (Valued B)) → SameBut Q m (g x.footprint at) → SameBut Q m (((if b then with_reads false (cells_of here.program t) x else gives x.footprint) >>= g) at)
  taken_untracked true t x at g Q m h = h
  taken_untracked false t x at g Q m h = h

  -- a part whose struct is read
  taken_same : {B : Type 0} (Q : Footprint → Type 0) (t : CType) (c : Content) (p q : Footprint) (f g : Footprint → Step (Valued B)) (at : At) → Quiet p → ((p1 q1 : Footprint) → Quiet p1 → SameBut Q (f p1 at) (g q1 at)) → SameBut Q ((taken T t (valued c p) >>= f) at) ((taken F t (valued c q) >>= g) at)
  taken_same Q t c p q f g at quiet k =
      let it = taken_known (is_struct t) t (valued c p) at quiet in
      taken_untracked (is_struct t) t (valued c q) at g Q _ (same_known Q _ it.0 at f _ it.2 (k it.0 q it.1))

  -- a content goes to an lvalue
  changed_same : (m : Answer (Unit {0})) (p q : Footprint) (x : Content) → SameBut (Holds cannot_clash) (elim (elim (m) as (λ q. Answer Footprint) [ Gives u at1 ↦ Gives p at1 | Ends end at1 ↦ Ends end at1 ]) [ Gives r at2 ↦ Gives (valued x r) at2 | Ends end at2 ↦ Ends end at2 ]) (elim (elim (m) as (λ q. Answer Footprint) [ Gives u at1 ↦ Gives q at1 | Ends end at1 ↦ Ends end at1 ]) [ Gives r at2 ↦ Gives (valued x r) at2 | Ends end at2 ↦ Ends end at2 ])
  changed_same (Gives u at1) p q x = (refl, refl, tt)
  changed_same (Ends end at1) p q x = (refl, refl)

  stored_same : (b : Bool) (t : CType) (a : Option Address) (c x : Content) (p q : Footprint) (at : At) → SameBut (Holds cannot_clash) (((if b then written true (λ memory. store here.program.model memory a (cell_type here.program t) c) (one_cell (cell_type here.program t)) a p else absurdity) >>= (λ r. gives (valued x r))) at) (((if b then written false (λ memory. store here.program.model memory a (cell_type here.program t) c) (one_cell (cell_type here.program t)) a q else absurdity) >>= (λ r. gives (valued x r))) at)
  stored_same true t a c x p q at = changed_same (changed (λ memory. store here.program.model memory a (cell_type here.program t) c) at) _ _ x
  stored_same false t a c x p q at = (refl, refl)

  updated_same : (t : CType) (a : Option Address) (c x : Content) (p q : Footprint) (at : At) → SameBut (Holds cannot_clash) (updated T t a c x p at) (updated F t a c x q at)
  updated_same t a c x p q at = stored_same (is_content_of here.program.model (cell_type here.program t) c) t a c x p q at

  assigned_same : (b : Bool) (t : CType) (a : Option Address) (c : Content) (p q : Footprint) (at : At) → SameBut (Holds cannot_clash) (assigned T t a c p b at) (assigned F t a c q b at)
  assigned_same true t a c p q at = same_step (Holds cannot_clash) (address_in c at) _ _ (λ from at1. changed_same (changed (λ memory. copy_struct here.program.model memory a from (shape here.program t)) at1) _ _ (content.Address a))
  assigned_same false t a c p q at = same_step (Holds cannot_clash) (used c at) _ _ (λ it at1. stored_same (is_content_of here.program.model (cell_type here.program t) it) t a it it p q at1)

  -- a conversion that keeps the footprint, or what else is done with a value
  kept_same : {A B : Type 0} (Q : Footprint → Type 0) (m : Step A) (x : A → B) (p q : Footprint) (at : At) → Q p → SameBut Q ((m >>= (λ a. gives (valued (x a) p))) at) ((m >>= (λ a. gives (valued (x a) q))) at)
  kept_same Q m x p q at h = same_step Q (m at) _ _ (λ a at1. (refl, refl, h))

  -- an operator on two parts that write nothing
  operator_same : {A B : Type 0} (g : Grade) (m1 n1 m2 n2 : Step (Valued Content)) (m : Content → Content → Step A) (x : A → B) (at : At) → SameBut Quiet (m1 at) (n1 at) → ((at : At) → SameBut Quiet (m2 at) (n2 at)) → SameBut (Holds g) ((m1 >>= (λ x1. m2 >>= (λ y1. apart true x1.footprint y1.footprint >>= (λ p. m x1.value y1.value >>= (λ a. gives (valued (x a) p)))))) at) ((n1 >>= (λ x1. n2 >>= (λ y1. apart false x1.footprint y1.footprint >>= (λ p. m x1.value y1.value >>= (λ a. gives (valued (x a) p)))))) at)
  operator_same g m1 n1 m2 n2 m x at h1 h2 =
      two_same (Holds g) m1 n1 m2 n2 (λ c d p. m c d >>= (λ a. gives (valued (x a) p))) (λ c d p. m c d >>= (λ a. gives (valued (x a) p))) at h1 h2 (λ c d p q at2 qp. kept_same (Holds g) (m c d) x p q at2 (weaken g p qp))

  -- a scalar is read
  loaded_same : (g : Grade) (t : CType) (a : Option Address) (p q : Footprint) (at : At) → Holds g p → SameBut (Holds g) (loaded true here.program.model (cell_type here.program t) (valued a p) at) (loaded false here.program.model (cell_type here.program t) (valued a q) at)
  loaded_same g t a p q at h = same_step (Holds g) (asked (λ memory. load here.program.model memory a (cell_type here.program t)) at) _ _ (λ c at1. (refl, refl, holds_joined g p (reads (cell_at a 0)) h (weaken g (reads (cell_at a 0)) (reads_quiet _))))

  -- an lvalue that is read, and then written
  modified_same : (t : CType) (m n : Step (Valued (Option Address))) (f g : Valued (Option Address) → Valued Content → Step (Valued Content)) (at : At) → SameBut Quiet (m at) (n at) → ((a : Option Address) (c : Content) (p1 p2 q1 q2 : Footprint) (at : At) → Quiet p2 → SameBut (Holds cannot_clash) (f (valued a p1) (valued c p2) at) (g (valued a q1) (valued c q2) at)) → SameBut (Holds cannot_clash) ((m >>= (λ x. loaded true here.program.model (cell_type here.program t) x >>= (λ old. f x old))) at) ((n >>= (λ x. loaded false here.program.model (cell_type here.program t) x >>= (λ old. g x old))) at)
  modified_same t m n f g at h k =
      same_then Quiet (Holds cannot_clash) (m at) (n at) _ _ h (λ a p1 q1 at1 qp. same_then Quiet (Holds cannot_clash) _ _ _ _ (loaded_same writes_nothing t a p1 q1 at1 qp) (λ c p2 q2 at2 qp2. k a c p1 p2 q1 q2 at2 qp2))

  -- the right operand of `op=`
  operand_same : (m n : Step (Valued Content)) (p q : Footprint) (f g : Content → Footprint → Step (Valued Content)) (at : At) → SameBut Quiet (m at) (n at) → Quiet p → ((d : Content) (p q : Footprint) (at : At) → Quiet p → SameBut (Holds cannot_clash) (f d p at) (g d q at)) → SameBut (Holds cannot_clash) ((m >>= (λ y. apart true p y.footprint >>= (λ r. f y.value r))) at) ((n >>= (λ y. apart false q y.footprint >>= (λ r. g y.value r))) at)
  operand_same m n p q f g at h qp k =
      same_then Quiet (Holds cannot_clash) (m at) (n at) _ _ h (λ d p1 q1 at1 qp1. same_known (Holds cannot_clash) (apart true p p1 at1) (joined p p1) at1 (λ r. f d r) _ (apart_quiet p p1 qp qp1 at1) (k d (joined p p1) q at1 (quiet_joined p p1 qp qp1)))

  aimed_same : (cells : List _) (a : Option Address) (p q : Footprint) (f g : Footprint → Step (Valued Content)) (at : At) → Quiet p → SameBut (Holds cannot_clash) (f p at) (g q at) → SameBut (Holds cannot_clash) ((aimed true cells a p >>= f) at) ((aimed false cells a q >>= g) at)
  aimed_same cells a p q f g at qp h = same_known (Holds cannot_clash) (aimed true cells a p at) p at f _ (aimed_quiet cells a p qp at) h

  -- the right operand of `&&` and `||`
  second_same : (g : Grade) (p q : Footprint) (m n : Step (Valued Content)) (at : At) → Holds g p → SameBut (Holds g) (m at) (n at) → SameBut (Holds g) (second_truth true p m at) (second_truth false q n at)
  second_same g p q m n at hp h = same_then (Holds g) (Holds g) (m at) (n at) _ _ h (λ c p1 q1 at1 h1. same_step (Holds g) (truth_in c at1) _ _ (λ b at2. (refl, refl, holds_joined g p p1 hp h1)))

  -- a part of a comma expression and those behind it
  part_same : (g : Grade) (fate : Fate) (vs : Values) (m n : Step (Valued Content)) (p q : Footprint) (at : At) → Holds g p → SameBut (Holds g) (m at) (n at) → ((p q : Footprint) (at : At) → Holds g p → SameBut (Holds g) (parts_behind (parts_of T fate vs) p at) (parts_behind (parts_of F fate vs) q at)) → SameBut (Holds g) ((m >>= (λ x. comma_from true p x (parts_of T fate vs))) at) ((n >>= (λ x. comma_from false q x (parts_of F fate vs))) at)
  part_same g fate no_values m n p q at hp h rest = same_then (Holds g) (Holds g) (m at) (n at) _ _ h (λ c p1 q1 at1 h1. (refl, refl, holds_joined g p p1 hp h1))
  part_same g fate (a_value v vs) m n p q at hp h rest =
      same_then (Holds g) (Holds g) (m at) (n at) _ _ h (λ c p1 q1 at1 h1. rest (joined p (settle p1)) q at1 (holds_joined g p (settle p1) hp (holds_settled g p1 h1)))

  by_truth : (b : Bool) (m n m' n' : Step (Valued Content)) (Q : Footprint → Type 0) (at : At) → SameBut Q (m at) (n at) → SameBut Q (m' at) (n' at) → SameBut Q ((if b then m else m') at) ((if b then n else n') at)
  by_truth true m n m' n' Q at h h' = h
  by_truth false m n m' n' Q at h h' = h'

  number_end_same : (t : CType) (op : Op) (s : Scalar) (a : Option Address) (when : When) (c d : Content) (p q : Footprint) (at : At) → SameBut (Holds cannot_clash) (number_end T t op s a when c d p at) (number_end F t op s a when c d q at)
  number_end_same t op s a when c d p q at =
      same_step (Holds cannot_clash) (number_in c at) _ _ (λ n at1. same_step (Holds cannot_clash) (applied here.program.model op s (content.Number (convert_of here.program.model s n)) d at1) _ _ (λ k at2. updated_same t a _ _ p q at2))

  pointer_end_same : (t : CType) (op : Op) (size : ℕ) (a : Option Address) (when : When) (c d : Content) (p q : Footprint) (at : At) → SameBut (Holds cannot_clash) (pointer_end T t op size a when c d p at) (pointer_end F t op size a when c d q at)
  pointer_end_same t op size a when c d p q at = same_step (Holds cannot_clash) (moved op size c d at) _ _ (λ n at1. updated_same t a _ _ p q at1)

  aims_same : (t : CType) (a : Option Address) (f g : Footprint → Step (Valued Content)) (p q : Footprint) (at : At) → Quiet p → SameBut (Holds cannot_clash) (f p at) (g q at) → SameBut (Holds cannot_clash) (aims true here t a f p at) (aims false here t a g q at)
  aims_same t a f g p q at qp h = aimed_same (one_cell (cell_type here.program t)) a p q f g at qp h

  mutual
    value_same : (g : Grade) (v : Value) (fate : Fate) (at : At) → is_of g v ≡ true → SameBut (Holds g) (eval T fate v at) (eval F fate v at)
    value_same g (e.Constant t z) fate at h = (refl, refl, weaken g untouched quiet_untouched)
    value_same g (e.Load t p) fate at h = same_then (Holds g) (Holds g) _ _ _ _ (place_same g p at h) (λ a p1 q1 at1 h1. loaded_same g t a p1 q1 at1 h1)
    value_same g (e.Whole t p) fate at h = same_then (Holds g) (Holds g) _ _ _ _ (place_same g p at h) (λ a p1 q1 at1 h1. (refl, refl, h1))
    value_same g (e.Decay t p) fate at h = same_then (Holds g) (Holds g) _ _ _ _ (place_same g p at h) (λ a p1 q1 at1 h1. (refl, refl, h1))
    value_same g (e.AddressOf t p) fate at h = same_then (Holds g) (Holds g) _ _ _ _ (place_same g p at h) (λ a p1 q1 at1 h1. (refl, refl, h1))
    value_same g (e.Convert e.to_integer t v) fate at h = same_then (Holds g) (Holds g) _ _ _ _ (value_same g v (inside fate) at h) (λ c p q at1 h1. kept_same (Holds g) (converted_here fate here.program e.to_integer t c) (λ d. d) p q at1 h1)
    value_same g (e.Convert e.to_truth t v) fate at h = same_then (Holds g) (Holds g) _ _ _ _ (value_same g v (inside fate) at h) (λ c p q at1 h1. kept_same (Holds g) (converted_here fate here.program e.to_truth t c) (λ d. d) p q at1 h1)
    value_same g (e.Convert e.to_null t v) fate at h = same_then (Holds g) (Holds g) _ _ _ _ (value_same g v (inside fate) at h) (λ c p q at1 h1. kept_same (Holds g) (converted_here fate here.program e.to_null t c) (λ d. d) p q at1 h1)
    value_same g (e.Convert e.to_pointer t v) fate at h = same_then (Holds g) (Holds g) _ _ _ _ (value_same g v (inside fate) at h) (λ c p q at1 h1. kept_same (Holds g) (converted_here fate here.program e.to_pointer t c) (λ d. d) p q at1 h1)
    value_same g (e.Convert e.to_void t v) fate at h = same_then (Holds g) (Holds g) _ _ _ _ (value_same g v untaken at h) (λ c p q at1 h1. (refl, refl, h1))
    value_same g (e.Minus t v) fate at h =
        same_then (Holds g) (Holds g) _ _ _ _ (value_same g v wanted at h) (λ c p q at1 h1. kept_same (Holds g) (applied here.program.model O.Sub (scalar_in t) (content.Number (pos 0)) c) content.Number p q at1 h1)
    value_same g (e.Complement t v) fate at h =
        same_then (Holds g) (Holds g) _ _ _ _ (value_same g v wanted at h) (λ c p q at1 h1. kept_same (Holds g) (applied here.program.model O.Xor (scalar_in t) c (content.Number (convert_of here.program.model (scalar_in t) (negsuc 0)))) content.Number p q at1 h1)
    value_same g (e.Not t v) fate at h = same_then (Holds g) (Holds g) _ _ _ _ (value_same g v wanted at h) (λ c p q at1 h1. kept_same (Holds g) (truth_in c) (λ b. of_truth (not b)) p q at1 h1)
    value_same g (e.Arithmetic t op s a b) fate at h =
        operator_same g (eval T wanted a) (eval F wanted a) (eval T wanted b) (eval F wanted b) (λ c d. applied here.program.model op s c d) content.Number at (value_same writes_nothing a wanted at (and_left _ _ h)) (λ at1. value_same writes_nothing b wanted at1 (and_right _ _ h))
    value_same g (e.Move t op size side a b) fate at h =
        operator_same g (eval T wanted a) (eval F wanted a) (eval T wanted b) (eval F wanted b) (λ c d. moved op size (pointer_of side c d) (count_of side c d)) content.Address at (value_same writes_nothing a wanted at (and_left _ _ h)) (λ at1. value_same writes_nothing b wanted at1 (and_right _ _ h))
    value_same g (e.Distance t size a b) fate at h =
        operator_same g (eval T wanted a) (eval F wanted a) (eval T wanted b) (eval F wanted b) (λ c d. counted size c d) content.Number at (value_same writes_nothing a wanted at (and_left _ _ h)) (λ at1. value_same writes_nothing b wanted at1 (and_right _ _ h))
    value_same g (e.Compare t op a b) fate at h =
        operator_same g (eval T wanted a) (eval F wanted a) (eval T wanted b) (eval F wanted b) (λ c d. compared op c d) of_truth at (value_same writes_nothing a wanted at (and_left _ _ h)) (λ at1. value_same writes_nothing b wanted at1 (and_right _ _ h))
    value_same g (e.Logical t op a b) fate at h =
        same_then (Holds g) (Holds g) _ _ _ _ (value_same g a wanted at (and_left _ _ h)) (λ c p q at1 h1. same_step (Holds g) (truth_in c at1) _ _ (λ x at2.
        by_truth (decides op x) (gives (valued (of_truth x) (settle p))) (gives (valued (of_truth x) q)) (second_truth true (settle p) (eval T wanted b)) (second_truth false q (eval F wanted b)) (Holds g) at2 (refl, refl, holds_settled g p h1) (second_same g (settle p) q (eval T wanted b) (eval F wanted b) at2 (holds_settled g p h1) (value_same g b wanted at2 (and_right _ _ h)))))
    value_same g (e.Conditional t test a b) fate at h =
        same_then (Holds g) (Holds g) _ _ _ _ (value_same g test wanted at (and_left _ _ h)) (λ c p q at1 h1. same_step (Holds g) (truth_in c at1) _ _ (λ x at2.
        same_then (Holds g) (Holds g) _ _ _ _ (by_truth x (eval T (of_branch fate) a) (eval F (of_branch fate) a) (eval T (of_branch fate) b) (eval F (of_branch fate) b) (Holds g) at2 (value_same g a (of_branch fate) at2 (and_left _ _ (and_right _ _ h))) (value_same g b (of_branch fate) at2 (and_right _ _ (and_right _ _ h)))) (λ d p2 q2 at3 h2. (refl, refl, holds_joined g (settle p) p2 (holds_settled g p h1) h2))))
    value_same writes_nothing (e.Assign t p v) fate at h = absurd (false≢true h)
    value_same cannot_clash (e.Assign t p v) fate at h =
        same_then Quiet (Holds cannot_clash) _ _ _ _ (place_same writes_nothing p at (and_left _ _ h)) (λ a p1 q1 at1 qp1. same_then Quiet (Holds cannot_clash) _ _ _ _ (value_same writes_nothing v unconverted at1 (and_right _ _ h)) (λ c p2 q2 at2 qp2.
        taken_same (Holds cannot_clash) t c p2 q2 (λ q. apart true p1 q >>= (λ j. aimed true (cells_of here.program t) a j >>= (λ r. late here.program v c >>= (λ d. assigned T t a d r (is_struct t))))) (λ q. apart false q1 q >>= (λ j. aimed false (cells_of here.program t) a j >>= (λ r. late here.program v c >>= (λ d. assigned F t a d r (is_struct t))))) at2 qp2 (λ p3 q3 qp3. same_known (Holds cannot_clash) (apart true p1 p3 at2) (joined p1 p3) at2 _ _ (apart_quiet p1 p3 qp1 qp3 at2)
        (aimed_same (cells_of here.program t) a (joined p1 p3) q1 (λ r. late here.program v c >>= (λ d. assigned T t a d r (is_struct t))) (λ r. late here.program v c >>= (λ d. assigned F t a d r (is_struct t))) at2 (quiet_joined p1 p3 qp1 qp3) (same_step (Holds cannot_clash) (late here.program v c at2) _ _ (λ d at3. assigned_same (is_struct t) t a d (joined p1 p3) q1 at3))))))
    value_same writes_nothing (e.Update t op s p v) fate at h = absurd (false≢true h)
    value_same cannot_clash (e.Update t op s p v) fate at h =
        modified_same t (place_of T p) (place_of F p) (λ x old. eval T wanted v >>= (λ y. apart true old.footprint y.footprint >>= (λ j. aims true here t x.value (number_end T t op s x.value e.after old.value y.value) j))) (λ x old. eval F wanted v >>= (λ y. apart false old.footprint y.footprint >>= (λ j. aims false here t x.value (number_end F t op s x.value e.after old.value y.value) j))) at (place_same writes_nothing p at (and_left _ _ h)) (λ a c p1 p2 q1 q2 at1 qp2.
        operand_same (eval T wanted v) (eval F wanted v) p2 q2 (λ d j. aims true here t a (number_end T t op s a e.after c d) j) (λ d j. aims false here t a (number_end F t op s a e.after c d) j) at1 (value_same writes_nothing v wanted at1 (and_right _ _ h)) qp2 (λ d p3 q3 at2 qp3.
        aims_same t a (number_end T t op s a e.after c d) (number_end F t op s a e.after c d) p3 q3 at2 qp3 (number_end_same t op s a e.after c d p3 q3 at2)))
    value_same writes_nothing (e.UpdatePointer t op size p v) fate at h = absurd (false≢true h)
    value_same cannot_clash (e.UpdatePointer t op size p v) fate at h =
        modified_same t (place_of T p) (place_of F p) (λ x old. eval T wanted v >>= (λ y. apart true old.footprint y.footprint >>= (λ j. aims true here t x.value (pointer_end T t op size x.value e.after old.value y.value) j))) (λ x old. eval F wanted v >>= (λ y. apart false old.footprint y.footprint >>= (λ j. aims false here t x.value (pointer_end F t op size x.value e.after old.value y.value) j))) at (place_same writes_nothing p at (and_left _ _ h)) (λ a c p1 p2 q1 q2 at1 qp2.
        operand_same (eval T wanted v) (eval F wanted v) p2 q2 (λ d j. aims true here t a (pointer_end T t op size a e.after c d) j) (λ d j. aims false here t a (pointer_end F t op size a e.after c d) j) at1 (value_same writes_nothing v wanted at1 (and_right _ _ h)) qp2 (λ d p3 q3 at2 qp3.
        aims_same t a (pointer_end T t op size a e.after c d) (pointer_end F t op size a e.after c d) p3 q3 at2 qp3 (pointer_end_same t op size a e.after c d p3 q3 at2)))
    value_same writes_nothing (e.Step t when op s p) fate at h = absurd (false≢true h)
    value_same cannot_clash (e.Step t when op s p) fate at h =
        let one = content.Number (pos 1) in
        modified_same t (place_of T p) (place_of F p) (λ x old. aims true here t x.value (number_end T t op s x.value when old.value one) old.footprint) (λ x old. aims false here t x.value (number_end F t op s x.value when old.value one) old.footprint) at (place_same writes_nothing p at h) (λ a c p1 p2 q1 q2 at1 qp2.
        aims_same t a (number_end T t op s a when c one) (number_end F t op s a when c one) p2 q2 at1 qp2 (number_end_same t op s a when c one p2 q2 at1))
    value_same writes_nothing (e.StepPointer t when op size p) fate at h = absurd (false≢true h)
    value_same cannot_clash (e.StepPointer t when op size p) fate at h =
        let one = content.Number (pos 1) in
        modified_same t (place_of T p) (place_of F p) (λ x old. aims true here t x.value (pointer_end T t op size x.value when old.value one) old.footprint) (λ x old. aims false here t x.value (pointer_end F t op size x.value when old.value one) old.footprint) at (place_same writes_nothing p at h) (λ a c p1 p2 q1 q2 at1 qp2.
        aims_same t a (pointer_end T t op size a when c one) (pointer_end F t op size a when c one) p2 q2 at1 qp2 (pointer_end_same t op size a when c one p2 q2 at1))
    value_same g (e.Call t name vs) fate at h =
        same_then Quiet (Holds g) _ _ _ _ (arguments_same vs at h) (λ xs p q at1 qp. same_step (Holds g) (passed here.program vs xs at1) _ _ (λ ys at2. same_step (Holds g) (here.calls name t ys (takes fate) at2) _ _ (λ c at3. (refl, refl, weaken g (settle p) (quiet_settled p qp)))))
    value_same g (e.Comma t vs) fate at h = parts_same g (of_last fate) vs h untouched untouched at (weaken g untouched quiet_untouched)
    value_same g (e.Marked t ms v) fate at h =
        subst (λ at1. SameBut (Holds g) (eval T (of_last fate) v (marked_all T ms at)) (eval F (of_last fate) v at1)) (marked_all_same ms at) (value_same g v (of_last fate) (marked_all T ms at) h)
    value_same g (e.Decide t v when_true when_false) fate at h = same_then (Holds g) (Holds g) _ _ _ _ (value_same g v wanted at h) (λ c p q at1 h1. same_step (Holds g) (truth_in c at1) _ _ (λ b at2. (refl, refl, h1)))
    value_same g (e.After t v id) fate at h = same_then (Holds g) (Holds g) _ _ _ _ (value_same g v (of_last fate) at h) (λ c p q at1 h1. (refl, refl, h1))

    place_same : (g : Grade) (p : Place) (at : At) → is_place_of g p ≡ true → SameBut (Holds g) (place_of T p at) (place_of F p at)
    place_same g (e.Object t n) at h = same_step (Holds g) (place (here.variable n) at) _ _ (λ a at1. (refl, refl, weaken g untouched quiet_untouched))
    place_same g (e.Pointed t v) at h = same_then (Holds g) (Holds g) _ _ _ _ (value_same g v wanted at h) (λ c p q at1 h1. kept_same (Holds g) (address_in c) (λ a. a) p q at1 h1)
    place_same g (e.Element t size side a b) at h =
        operator_same g (eval T wanted a) (eval F wanted a) (eval T wanted b) (eval F wanted b) (λ c d. moved O.Add size (pointer_of side c d) (count_of side c d)) (λ a. a) at (value_same writes_nothing a wanted at (and_left _ _ h)) (λ at1. value_same writes_nothing b wanted at1 (and_right _ _ h))
    place_same g (e.Part t offset p) at h = same_then (Holds g) (Holds g) _ _ _ _ (place_same g p at h) (λ a p1 q1 at1 h1. kept_same (Holds g) (member_at offset a) (λ a. a) p1 q1 at1 h1)
    place_same g (e.Held t v) at h = same_then (Holds g) (Holds g) _ _ _ _ (value_same g v wanted at h) (λ c p q at1 h1. kept_same (Holds g) (address_in c) (λ a. a) p q at1 h1)

    arguments_same : (vs : Values) (at : At) → are_of writes_nothing vs ≡ true → SameBut Quiet (arguments_of T vs at) (arguments_of F vs at)
    arguments_same no_values at h = (refl, refl, quiet_untouched)
    arguments_same (a_value v vs) at h =
        same_then Quiet Quiet _ _ _ _ (value_same writes_nothing v unconverted at (and_left _ _ h)) (λ c p1 q1 at1 qp1. same_then Quiet Quiet _ _ _ _ (arguments_same vs at1 (and_right _ _ h)) (λ cs p2 q2 at2 qp2.
        taken_same Quiet (type_of v) c p1 q1 _ _ at2 qp1 (λ p3 q3 qp3. same_known Quiet (apart true p3 p2 at2) (joined p3 p2) at2 _ _ (apart_quiet p3 p2 qp3 qp2 at2) (refl, refl, quiet_joined p3 p2 qp3 qp2))))

    parts_same : (g : Grade) (fate : Fate) (vs : Values) → are_of g vs ≡ true → (p q : Footprint) (at : At) → Holds g p → SameBut (Holds g) (parts_behind (parts_of T fate vs) p at) (parts_behind (parts_of F fate vs) q at)
    parts_same g fate no_values h p q at hp = (refl, refl, weaken g untouched quiet_untouched)
    parts_same g fate (a_value v vs) h p q at hp =
        part_same g fate vs (eval T (fate_of_part fate vs) v) (eval F (fate_of_part fate vs) v) p q at hp (value_same g v (fate_of_part fate vs) at (and_left _ _ h)) (parts_same g fate vs (and_right _ _ h))

-- the value, the end and the state are the same
pub untracked : FootprintsAreNeededForClashesAlone
untracked here v fate at h = same_value (Holds cannot_clash) (eval (tracking true here) fate v at) (eval (tracking false here) fate v at) (value_same here cannot_clash v fate at h)
