-- What operators see of constants: numbers and null pointers, and no addresses of objects.
use Rattle.std.proofs.Common.{◌≡◌, ℕ, ℤ, pos, negsuc, Bool, true, false, Result, Ok, Err, refl, sym, ap, ◌∙◌, inl, inr}
use Rattle.std.proofs.lemmas.Bool.{false≢true}
use Rattle.std.specs.Prelude.{◌⊎◌, ◌&&◌, ◌-ℤ◌, nat_le, if◌then◌else◌}
use Rattle.lt_model.specs.declared.scalar.DataModel.{DataModel}
use Rattle.lt_model.specs.declared.scalar.Scalar.{Scalar}
use Rattle.lt_model.specs.declared.scalar.Scalar.TheVariants as S
use Rattle.lt_model.specs.declared.operator.Op.{Op}
use Rattle.lt_model.specs.declared.operator.Op.TheVariants as O
use Rattle.lt_model.specs.declared.operator.Ub.{Ub}
use Rattle.lt_tree.specs.Typing.Types.{CType, Void, Num, Pointer, is_integer, is_pointer, same}
use Rattle.lt_tree.specs.Typing.Constants.{Constancy, varying, faulty, number, null_constant, null_address, address, is_form, is_zero, is_null_constant, value_or_fault, converted, applied, operated, negated, connected, chosen, is_true, moved_to, moved_by}
use Rattle.lt_tree.specs.Typing.Expressions.{constancy_to, constancy_as_number, constancy_as_pointer, null_of}

abbrev pub seen : Constancy → Constancy
seen (address object offset) = varying
seen c = c

null_seen : (c : Constancy) → is_null_constant (seen c) ≡ is_null_constant c
null_seen (address object offset) = refl
null_seen _ = refl

zero_seen : (c : Constancy) → is_zero (seen c) ≡ is_zero c
zero_seen (address object offset) = refl
zero_seen _ = refl

form_seen : (c : Constancy) → is_form (seen c) ≡ is_form c
form_seen (address object offset) = refl
form_seen _ = refl

-- Of an expression with marks, of it as an erasure, and of the expression without marks: what marks hide varies, and nothing else differs.
pub record Sees (c d p : Constancy) : Type 0 where
  pub bare : seen p ≡ seen d
  pub hidden : (seen c ≡ seen d) ⊎ (seen c ≡ varying)

-- an integer's constancy
abbrev pub is_integral : Constancy → Bool
is_integral (number z) = true
is_integral faulty = true
is_integral varying = true
is_integral _ = false

pub integral_seen : (c : Constancy) → is_integral c ≡ true → seen c ≡ c
integral_seen (address object offset) h = absurd (false≢true h)
integral_seen _ h = refl

-- an integer isn't an address, and a pointer no number
pub record IsOf (t : CType) (c : Constancy) : Type 0 where
  pub integer : is_integer t ≡ true → is_integral c ≡ true
  pub pointer : is_pointer t ≡ true → is_form c ≡ false

-- ---- operators that don't see addresses

pub sees_all_varying : {c d p : Constancy} → seen c ≡ varying → seen d ≡ varying → seen p ≡ varying → Sees c d p
sees_all_varying h g k = record { bare = k ∙ sym g; hidden = inr h }

pub sees_itself : (c : Constancy) → Sees c c c
sees_itself c = record { bare = refl; hidden = inl refl }

module _ (f : Constancy → Constancy) where
  sees_one : ((c : Constancy) → f (seen c) ≡ f c) → f varying ≡ varying → {c d p : Constancy} → Sees c d p → Sees (f c) (f d) (f p)
  sees_one blind strict {c} {d} {p} h = record { bare = ap seen (sym (blind p) ∙ ap f h.bare ∙ blind d); hidden = by h.hidden }
    where
      by : (seen c ≡ seen d) ⊎ (seen c ≡ varying) → (seen (f c) ≡ seen (f d)) ⊎ (seen (f c) ≡ varying)
      by (inl e) = inl (ap seen (sym (blind c) ∙ ap f e ∙ blind d))
      by (inr e) = inr (ap seen (sym (blind c) ∙ ap f e ∙ strict))

  -- of integers
  pub sees_plain : f varying ≡ varying → {c d p : Constancy} → seen c ≡ c → seen d ≡ d → seen p ≡ p → Sees c d p → Sees (f c) (f d) (f p)
  sees_plain strict {c} {d} {p} i j k h = record { bare = ap (λ it. seen (f it)) (sym k ∙ h.bare ∙ j); hidden = by h.hidden }
    where
      by : (seen c ≡ seen d) ⊎ (seen c ≡ varying) → (seen (f c) ≡ seen (f d)) ⊎ (seen (f c) ≡ varying)
      by (inl e) = inl (ap (λ it. seen (f it)) (sym i ∙ e ∙ j))
      by (inr e) = inr (ap seen (ap f (sym i ∙ e) ∙ strict))

module _ (f : Constancy → Constancy → Constancy) where
  sees_two : ((a b : Constancy) → f (seen a) (seen b) ≡ f a b) → ((b : Constancy) → f varying b ≡ varying) → ((a : Constancy) → f a varying ≡ varying)
      → {c d p k m q : Constancy} → Sees c d p → Sees k m q → Sees (f c k) (f d m) (f p q)
  sees_two blind left right {c} {d} {p} {k} {m} {q} h g = record {
    bare = ap seen (sym (blind p q) ∙ ap (λ it. f it (seen q)) h.bare ∙ ap (f (seen d)) g.bare ∙ blind d m);
    hidden = by h.hidden g.hidden;
  }
    where
      by : (seen c ≡ seen d) ⊎ (seen c ≡ varying) → (seen k ≡ seen m) ⊎ (seen k ≡ varying) → (seen (f c k) ≡ seen (f d m)) ⊎ (seen (f c k) ≡ varying)
      by (inr e) n = inr (ap seen (sym (blind c k) ∙ ap (λ it. f it (seen k)) e ∙ left (seen k)))
      by (inl e) (inr n) = inr (ap seen (sym (blind c k) ∙ ap (f (seen c)) n ∙ right (seen c)))
      by (inl e) (inl n) = inl (ap seen (sym (blind c k) ∙ ap (λ it. f it (seen k)) e ∙ ap (f (seen d)) n ∙ blind d m))

-- ---- operators on integers

converted_seen : (m : DataModel) (s : Scalar) (c : Constancy) → converted m s (seen c) ≡ converted m s c
converted_seen m s (address object offset) = refl
converted_seen m s _ = refl

negated_seen : (c : Constancy) → negated (seen c) ≡ negated c
negated_seen (address object offset) = refl
negated_seen _ = refl

applied_varies : (m : DataModel) (op : Op) (s : Scalar) (a : Constancy) → applied m op s a varying ≡ varying
applied_varies m op s varying = refl
applied_varies m op s faulty = refl
applied_varies m op s (number z) = refl
applied_varies m op s null_constant = refl
applied_varies m op s null_address = refl
applied_varies m op s (address object offset) = refl

fault_plain : (r : Result ℤ Ub) → is_integral (value_or_fault r) ≡ true
fault_plain (Ok z) = refl
fault_plain (Err kind) = refl

form_plain : (b : Bool) → is_integral (if b then faulty else varying) ≡ true
form_plain true = refl
form_plain false = refl

applied_plain : (m : DataModel) (op : Op) (s : Scalar) (a b : Constancy) → is_integral (applied m op s a b) ≡ true
applied_plain m op s (number a) (number b) = fault_plain _
applied_plain m op s (number a) varying = refl
applied_plain m op s (number a) faulty = refl
applied_plain m op s (number a) null_constant = refl
applied_plain m op s (number a) null_address = refl
applied_plain m op s (number a) (address object offset) = refl
applied_plain m op s varying b = refl
applied_plain m op s faulty b = form_plain (is_form b)
applied_plain m op s null_constant b = refl
applied_plain m op s null_address b = refl
applied_plain m op s (address object offset) b = refl

converted_plain : (m : DataModel) (s : Scalar) (c : Constancy) → is_integral (converted m s c) ≡ true
converted_plain m s (number z) = refl
converted_plain m s faulty = refl
converted_plain m s varying = refl
converted_plain m s null_constant = refl
converted_plain m s null_address = refl
converted_plain m s (address object offset) = refl

negated_plain : (c : Constancy) → is_integral (negated c) ≡ true
negated_plain (number z) = refl
negated_plain faulty = refl
negated_plain varying = refl
negated_plain null_constant = refl
negated_plain null_address = refl
negated_plain (address object offset) = refl

number_of : (t : CType) {c : Constancy} → is_pointer t ≡ false → is_integral c ≡ true → IsOf t c
number_of t h e = record { integer = λ i. e; pointer = λ p. absurd (false≢true (sym h ∙ p)) }

module _ (m : DataModel) (s : Scalar) where
  pub converted_sees : {c d p : Constancy} → Sees c d p → Sees (converted m s c) (converted m s d) (converted m s p)
  converted_sees = sees_one (converted m s) (converted_seen m s) refl

  pub converted_is : (c : Constancy) → IsOf (Num s) (converted m s c)
  converted_is c = number_of (Num s) refl (converted_plain m s c)

  pub from_zero_sees : {c d p : Constancy} → Sees c d p
      → Sees (applied m O.Sub s (number (pos 0)) (converted m s c)) (applied m O.Sub s (number (pos 0)) (converted m s d)) (applied m O.Sub s (number (pos 0)) (converted m s p))
  from_zero_sees = sees_one (λ c. applied m O.Sub s (number (pos 0)) (converted m s c)) (λ c. ap (applied m O.Sub s (number (pos 0))) (converted_seen m s c)) refl

  pub turned_sees : {c d p : Constancy} → Sees c d p
      → Sees (applied m O.Xor s (converted m s (number (pos 0 -ℤ pos 1))) (converted m s c)) (applied m O.Xor s (converted m s (number (pos 0 -ℤ pos 1))) (converted m s d)) (applied m O.Xor s (converted m s (number (pos 0 -ℤ pos 1))) (converted m s p))
  turned_sees = sees_one (λ c. applied m O.Xor s (converted m s (number (pos 0 -ℤ pos 1))) (converted m s c)) (λ c. ap (applied m O.Xor s (converted m s (number (pos 0 -ℤ pos 1)))) (converted_seen m s c)) refl

  pub applied_is : (t : CType) (op : Op) (a b : Constancy) → is_pointer t ≡ false → IsOf t (applied m op s a b)
  applied_is t op a b h = number_of t h (applied_plain m op s a b)

pub operated_sees : (m : DataModel) (op : Op) (s r : Scalar) {c d p k n q : Constancy} → Sees c d p → Sees k n q → Sees (operated m op s r c k) (operated m op s r d n) (operated m op s r p q)
operated_sees m op s r = sees_two (operated m op s r)
    (λ a b. ap (λ it. applied m op s it (converted m r (seen b))) (converted_seen m s a) ∙ ap (applied m op s (converted m s a)) (converted_seen m r b))
    (λ b. refl) (λ a. applied_varies m op s (converted m s a))

pub negated_sees : {c d p : Constancy} → Sees c d p → Sees (negated c) (negated d) (negated p)
negated_sees = sees_one negated negated_seen refl

pub negated_is : (t : CType) (c : Constancy) → is_pointer t ≡ false → IsOf t (negated c)
negated_is t c h = number_of t h (negated_plain c)

-- ---- `&&`, `||` and `?:`

connected_seen : (settled : ℤ → Bool) (a b : Constancy) → connected settled (seen a) (seen b) ≡ connected settled a b
connected_seen settled (number z) (address object offset) = refl
connected_seen settled (number z) _ = refl
connected_seen settled faulty b = ap (λ it. if it then faulty else varying) (form_seen b)
connected_seen settled varying b = refl
connected_seen settled null_constant b = refl
connected_seen settled null_address b = refl
connected_seen settled (address object offset) b = refl

connected_varies : (settled : ℤ → Bool) (c : Constancy) → connected settled c varying ≡ varying
connected_varies settled varying = refl
connected_varies settled faulty = refl
connected_varies settled (number z) = refl
connected_varies settled null_constant = refl
connected_varies settled null_address = refl
connected_varies settled (address object offset) = refl

settled_plain : (b : Bool) (c d : Constancy) → is_integral (if b then negated c else negated d) ≡ true
settled_plain true c d = negated_plain c
settled_plain false c d = negated_plain d

connected_plain : (settled : ℤ → Bool) (a b : Constancy) → is_integral (connected settled a b) ≡ true
connected_plain settled (number z) (number y) = settled_plain (settled z) (negated (number z)) (negated (number y))
connected_plain settled (number z) faulty = settled_plain (settled z) (negated (number z)) (negated faulty)
connected_plain settled (number z) varying = refl
connected_plain settled (number z) null_constant = refl
connected_plain settled (number z) null_address = refl
connected_plain settled (number z) (address object offset) = refl
connected_plain settled faulty b = form_plain (is_form b)
connected_plain settled varying b = refl
connected_plain settled null_constant b = refl
connected_plain settled null_address b = refl
connected_plain settled (address object offset) b = refl

pub connected_sees : (settled : ℤ → Bool) {c d p k n q : Constancy} → Sees c d p → Sees k n q → Sees (connected settled c k) (connected settled d n) (connected settled p q)
connected_sees settled = sees_two (connected settled) (connected_seen settled) (λ b. refl) (connected_varies settled)

pub connected_is : (settled : ℤ → Bool) (t : CType) (a b : Constancy) → is_pointer t ≡ false → IsOf t (connected settled a b)
connected_is settled t a b h = number_of t h (connected_plain settled a b)

chosen_seen : (a b c : Constancy) → chosen (seen a) (seen b) (seen c) ≡ chosen a b c
chosen_seen (number z) (number y) (address object offset) = refl
chosen_seen (number z) (number y) _ = refl
chosen_seen (number z) faulty (address object offset) = refl
chosen_seen (number z) faulty _ = refl
chosen_seen (number z) varying c = refl
chosen_seen (number z) null_constant c = refl
chosen_seen (number z) null_address c = refl
chosen_seen (number z) (address object offset) c = refl
chosen_seen faulty b c = ap (λ it. if it && is_form (seen c) then faulty else varying) (form_seen b) ∙ ap (λ it. if is_form b && it then faulty else varying) (form_seen c)
chosen_seen varying b c = refl
chosen_seen null_constant b c = refl
chosen_seen null_address b c = refl
chosen_seen (address object offset) b c = refl

never : (b : Bool) (c : Constancy) → (if b && false then c else varying) ≡ varying
never true c = refl
never false c = refl

-- a choice from what is of no constant form is of none
pub chosen_second : (a b c : Constancy) → is_form b ≡ false → chosen a b c ≡ varying
chosen_second (number z) b c h = ap (λ f. if f && is_form c then (if is_true z then b else c) else varying) h
chosen_second faulty b c h = ap (λ f. if f && is_form c then faulty else varying) h
chosen_second varying b c h = refl
chosen_second null_constant b c h = refl
chosen_second null_address b c h = refl
chosen_second (address object offset) b c h = refl

pub chosen_third : (a b c : Constancy) → is_form c ≡ false → chosen a b c ≡ varying
chosen_third (number z) b c h = ap (λ f. if is_form b && f then (if is_true z then b else c) else varying) h ∙ never (is_form b) (if is_true z then b else c)
chosen_third faulty b c h = ap (λ f. if is_form b && f then faulty else varying) h ∙ never (is_form b) faulty
chosen_third varying b c h = refl
chosen_third null_constant b c h = refl
chosen_third null_address b c h = refl
chosen_third (address object offset) b c h = refl

-- ---- conversions

number_varies : (m : DataModel) (s : Scalar) → constancy_as_number m s varying ≡ varying
number_varies m S.Bool = refl
number_varies m _ = refl

pub conversion_varies : (m : DataModel) (t : CType) → constancy_to m t varying ≡ varying
conversion_varies m (Num s) = number_varies m s
conversion_varies m (Pointer t) = refl
conversion_varies m _ = refl

pointer_seen : (t : CType) (c : Constancy) → seen (constancy_as_pointer t (seen c)) ≡ seen (constancy_as_pointer t c)
pointer_seen t (address object offset) = refl
pointer_seen t _ = refl

truth_plain : (c : Constancy) (m : DataModel) → is_integral (constancy_as_number m S.Bool c) ≡ true
truth_plain varying m = refl
truth_plain faulty m = refl
truth_plain (number z) m = refl
truth_plain null_constant m = refl
truth_plain null_address m = refl
truth_plain (address object offset) m = refl

number_plain : (m : DataModel) (s : Scalar) (c : Constancy) → is_integral (constancy_as_number m s c) ≡ true
number_plain m s (number z) = refl
number_plain m s faulty = refl
number_plain m S.Bool c = truth_plain c m
number_plain m _ varying = refl
number_plain m _ null_constant = refl
number_plain m _ null_address = refl
number_plain m _ (address object offset) = refl

null_no_form : (b : Bool) → is_form (if b then null_constant else null_address) ≡ false
null_no_form true = refl
null_no_form false = refl

pointer_by : (t : CType) (b : Bool) → is_form (if b then null_of t else varying) ≡ false
pointer_by t true = null_no_form (same t (Pointer Void))
pointer_by t false = refl

pointer_no_form : (t : CType) (c : Constancy) → is_form (constancy_as_pointer t c) ≡ false
pointer_no_form t (number z) = pointer_by t (is_zero (number z))
pointer_no_form t varying = refl
pointer_no_form t faulty = refl
pointer_no_form t null_constant = refl
pointer_no_form t null_address = refl
pointer_no_form t (address object offset) = refl

-- what is converted is of its type
pub conversion_is : (m : DataModel) (t : CType) (c : Constancy) → IsOf t (constancy_to m t c)
conversion_is m (Num s) c = number_of (Num s) refl (number_plain m s c)
conversion_is m (Pointer t) c = record { integer = λ i. absurd (false≢true i); pointer = λ p. pointer_no_form (Pointer t) c }
conversion_is m _ c = record { integer = λ i. refl; pointer = λ p. refl }

pub chosen_sees : (m : DataModel) (t : CType) {b c d k n q u v w : Constancy} → Sees b k u → Sees c n v → Sees d q w
    → Sees (constancy_to m t (chosen b c d)) (constancy_to m t (chosen k n q)) (constancy_to m t (chosen u v w))
chosen_sees m t {b} {c} {d} {k} {n} {q} {u} {v} {w} h g f = record {
  bare = ap (λ it. seen (constancy_to m t it)) (sym (chosen_seen u v w) ∙ ap (λ it. chosen it (seen v) (seen w)) h.bare ∙ ap (λ it. chosen (seen k) it (seen w)) g.bare ∙ ap (chosen (seen k) (seen n)) f.bare ∙ chosen_seen k n q);
  hidden = by h.hidden g.hidden f.hidden;
}
  where
    varies : chosen b c d ≡ varying → seen (constancy_to m t (chosen b c d)) ≡ varying
    varies e = ap seen (ap (constancy_to m t) e ∙ conversion_varies m t)

    by : (seen b ≡ seen k) ⊎ (seen b ≡ varying) → (seen c ≡ seen n) ⊎ (seen c ≡ varying) → (seen d ≡ seen q) ⊎ (seen d ≡ varying)
        → (seen (constancy_to m t (chosen b c d)) ≡ seen (constancy_to m t (chosen k n q))) ⊎ (seen (constancy_to m t (chosen b c d)) ≡ varying)
    by (inr i) j l = inr (varies (sym (chosen_seen b c d) ∙ ap (λ it. chosen it (seen c) (seen d)) i))
    by (inl i) (inr j) l = inr (varies (sym (chosen_seen b c d) ∙ ap (λ it. chosen (seen b) it (seen d)) j ∙ chosen_second (seen b) varying (seen d) refl))
    by (inl i) (inl j) (inr l) = inr (varies (sym (chosen_seen b c d) ∙ ap (chosen (seen b) (seen c)) l ∙ chosen_third (seen b) (seen c) varying refl))
    by (inl i) (inl j) (inl l) = inl (ap (λ it. seen (constancy_to m t it)) (sym (chosen_seen b c d) ∙ ap (λ it. chosen it (seen c) (seen d)) i ∙ ap (λ it. chosen (seen k) it (seen d)) j ∙ ap (chosen (seen k) (seen n)) l ∙ chosen_seen k n q))

-- a cast to another type than an integer's
pub pointer_sees : (m : DataModel) (t : CType) {c d p : Constancy} → is_integer t ≡ false → Sees c d p → Sees (constancy_to m t c) (constancy_to m t d) (constancy_to m t p)
pointer_sees m (Num s) i h = absurd (false≢true (sym i))
pointer_sees m (Pointer t) {c} {d} {p} i h = record {
  bare = sym (pointer_seen (Pointer t) p) ∙ ap (λ it. seen (constancy_as_pointer (Pointer t) it)) h.bare ∙ pointer_seen (Pointer t) d;
  hidden = by h.hidden;
}
  where
    by : (seen c ≡ seen d) ⊎ (seen c ≡ varying)
        → (seen (constancy_as_pointer (Pointer t) c) ≡ seen (constancy_as_pointer (Pointer t) d)) ⊎ (seen (constancy_as_pointer (Pointer t) c) ≡ varying)
    by (inl e) = inl (sym (pointer_seen (Pointer t) c) ∙ ap (λ it. seen (constancy_as_pointer (Pointer t) it)) e ∙ pointer_seen (Pointer t) d)
    by (inr e) = inr (sym (pointer_seen (Pointer t) c) ∙ ap (λ it. seen (constancy_as_pointer (Pointer t) it)) e)
pointer_sees m _ i h = sees_itself varying

-- ---- addresses

moved_to_seen : (object size : ℕ) (z : ℤ) → seen (moved_to object size z) ≡ varying
moved_to_seen object size (negsuc n) = refl
moved_to_seen object size (pos n) = by (nat_le n size)
  where
    by : (b : Bool) → seen (if b then address object n else varying) ≡ varying
    by true = refl
    by false = refl

pub moved_seen : (sizes : ℕ → ℕ) (size : ℕ) (a b : Constancy) → seen (moved_by sizes size a b) ≡ varying
moved_seen sizes size (address object offset) (number z) = moved_to_seen object (sizes object) _
moved_seen sizes size (address object offset) varying = refl
moved_seen sizes size (address object offset) faulty = refl
moved_seen sizes size (address object offset) null_constant = refl
moved_seen sizes size (address object offset) null_address = refl
moved_seen sizes size (address object offset) (address other place) = refl
moved_seen sizes size varying b = refl
moved_seen sizes size faulty b = refl
moved_seen sizes size (number z) b = refl
moved_seen sizes size null_constant b = refl
moved_seen sizes size null_address b = refl

-- a constancy that is seen as none is no number
pub varying_no_form : (c : Constancy) → seen c ≡ varying → is_form c ≡ false
varying_no_form c h = sym (form_seen c) ∙ ap is_form h

-- a null pointer constant that is seen is one without marks
pub null_more : {c d p : Constancy} → Sees c d p → is_null_constant c ≡ true → is_null_constant p ≡ true
null_more {c} {d} {p} h n = by h.hidden
  where
    by : (seen c ≡ seen d) ⊎ (seen c ≡ varying) → is_null_constant p ≡ true
    by (inl e) = sym (null_seen p) ∙ ap is_null_constant (h.bare ∙ sym e) ∙ null_seen c ∙ n
    by (inr e) = absurd (false≢true (ap is_null_constant (sym e) ∙ null_seen c ∙ n))

pub zero_more : {c d p : Constancy} → Sees c d p → is_zero c ≡ true → is_zero p ≡ true
zero_more {c} {d} {p} h n = by h.hidden
  where
    by : (seen c ≡ seen d) ⊎ (seen c ≡ varying) → is_zero p ≡ true
    by (inl e) = sym (zero_seen p) ∙ ap is_zero (h.bare ∙ sym e) ∙ zero_seen c ∙ n
    by (inr e) = absurd (false≢true (ap is_zero (sym e) ∙ zero_seen c ∙ n))

-- a pointer's constancy that is no null pointer constant without marks but shows it
null_of_pointer : (d : Constancy) → is_form d ≡ false → is_null_constant d ≡ true → d ≡ null_constant
null_of_pointer null_constant f h = refl
null_of_pointer (number z) f h = absurd (false≢true (sym f))
null_of_pointer varying f h = absurd (false≢true h)
null_of_pointer faulty f h = absurd (false≢true h)
null_of_pointer null_address f h = absurd (false≢true h)
null_of_pointer (address object offset) f h = absurd (false≢true h)

pub null_same : {c d p : Constancy} → Sees c d p → is_form d ≡ false → (d ≡ null_constant → c ≡ null_constant) → is_null_constant p ≡ is_null_constant c
null_same {c} {d} {p} h f shows = by (is_null_constant c) refl (is_null_constant p) refl
  where
    by : (a : Bool) → is_null_constant c ≡ a → (b : Bool) → is_null_constant p ≡ b → b ≡ a
    by true n b m = sym m ∙ null_more h n
    by false n false m = refl
    by false n true m = absurd (false≢true (sym n ∙ ap is_null_constant (shows (null_of_pointer d f (sym (null_seen d) ∙ ap is_null_constant (sym h.bare) ∙ null_seen p ∙ m)))))
