-- Registers after a write, and what an evaluation leaves in them.
use Rattle.std.proofs.Common.{◌≡◌, ◌≢◌, ℕ, zero, suc, ◌+◌, ◌<◌, ◌≤◌, List, [], ◌∷◌, length, Some, Bool, true, false, ◌⊎◌, inl, inr, refl, sym, ap, ◌∙◌, subst, arith}
use Rattle.std.specs.Prelude.{slice_set}
use Rattle.lt_model.specs.declared.cell.Content.{Content}
use Rattle.lt_model.specs.State.{Footprint, Valued, untouched, Gives, Ends}
use Rattle.lt_ir.specs.Running.{At, Answer, gives, ◌>>=◌}
use Rattle.lt_ir.specs.Evaluation.{valued}
use Rattle.lt_ir.specs.Graph.{Register, register_at, had, footprint_at, with_content, with_footprint, with_joined, contents_from}

-- ---- one register is written, and the others stay

pub record Wrote (r : ℕ) (x : Register) (rs rs1 : List Register) : Type 0 where
  pub here : register_at rs1 r ≡ x
  pub others : (i : ℕ) → i ≢ r → register_at rs1 i ≡ register_at rs i
  pub long : length rs1 ≡ length rs

register_at-set_same : (rs : List Register) (r : ℕ) (x : Register) → r < length rs → register_at (slice_set rs r x) r ≡ x
register_at-set_same [] r x lt = absurd (omega arith)
register_at-set_same (y ∷ rs) zero x lt = refl
register_at-set_same (y ∷ rs) (suc r) x lt = register_at-set_same rs r x (omega arith)

register_at-set_other : (rs : List Register) (r i : ℕ) (x : Register) → i ≢ r → register_at (slice_set rs r x) i ≡ register_at rs i
register_at-set_other [] r i x ne = refl
register_at-set_other (y ∷ rs) zero zero x ne = absurd (ne refl)
register_at-set_other (y ∷ rs) zero (suc i) x ne = refl
register_at-set_other (y ∷ rs) (suc r) zero x ne = refl
register_at-set_other (y ∷ rs) (suc r) (suc i) x ne = register_at-set_other rs r i x (λ e. ne (ap suc e))

length-slice_set : (rs : List Register) (r : ℕ) (x : Register) → length (slice_set rs r x) ≡ length rs
length-slice_set [] r x = refl
length-slice_set (y ∷ rs) zero x = refl
length-slice_set (y ∷ rs) (suc r) x = ap suc (length-slice_set rs r x)

pub wrote_set : (r : ℕ) (x : Register) (rs : List Register) → r < length rs → Wrote r x rs (slice_set rs r x)
wrote_set r x rs lt = record { here = register_at-set_same rs r x lt; others = λ i ne. register_at-set_other rs r i x ne; long = length-slice_set rs r x }

same_or_other : (i j : ℕ) → (i ≡ j) ⊎ (i ≢ j)
same_or_other i j = grind arith

-- ---- another content, another footprint, or both

-- a register has this content, and its footprint and the other registers stay
pub record Replaced (r : ℕ) (c : Content) (rs rs1 : List Register) : Type 0 where
  pub content : (register_at rs1 r).content ≡ Some c
  pub footprints : (i : ℕ) → footprint_at rs1 i ≡ footprint_at rs i
  pub others : (i : ℕ) → i ≢ r → register_at rs1 i ≡ register_at rs i
  pub long : length rs1 ≡ length rs

pub replaced_set : (r : ℕ) (c : Content) (rs : List Register) → r < length rs → Replaced r c rs (with_content rs r c)
replaced_set r c rs lt =
    let h = wrote_set r (record { content = Some c; footprint = footprint_at rs r }) rs lt in
    record { content = ap (λ x. x.content) h.here; footprints = λ i. each i (same_or_other i r); others = h.others; long = h.long }
  where
    each : (i : ℕ) → (i ≡ r) ⊎ (i ≢ r) → footprint_at (with_content rs r c) i ≡ footprint_at rs i
    each i (inl e) = subst (λ i. footprint_at (with_content rs r c) i ≡ footprint_at rs i) (sym e) (ap (λ x. x.footprint) (register_at-set_same rs r _ lt))
    each i (inr ne) = ap (λ x. x.footprint) (register_at-set_other rs r i _ ne)

pub replaced_same : (r : ℕ) (c : Content) (rs : List Register) → (register_at rs r).content ≡ Some c → Replaced r c rs rs
replaced_same r c rs e = record { content = e; footprints = λ i. refl; others = λ i ne. refl; long = refl }

pub replaced_twice : (r : ℕ) (c d : Content) (rs rs1 rs2 : List Register) → Replaced r c rs rs1 → Replaced r d rs1 rs2 → Replaced r d rs rs2
replaced_twice r c d rs rs1 rs2 a b =
    record { content = b.content; footprints = λ i. b.footprints i ∙ a.footprints i; others = λ i ne. b.others i ne ∙ a.others i ne; long = b.long ∙ a.long }

-- a register has this footprint, and the contents and the other registers stay
pub record Tracked (r : ℕ) (p : Footprint) (rs rs1 : List Register) : Type 0 where
  pub contents : (i : ℕ) → (register_at rs1 i).content ≡ (register_at rs i).content
  pub footprint : footprint_at rs1 r ≡ p
  pub others : (i : ℕ) → i ≢ r → register_at rs1 i ≡ register_at rs i
  pub long : length rs1 ≡ length rs

pub tracked_set : (r : ℕ) (p : Footprint) (rs : List Register) → r < length rs → Tracked r p rs (with_footprint rs r p)
tracked_set r p rs lt =
    let h = wrote_set r (record { content = (register_at rs r).content; footprint = p }) rs lt in
    record { contents = λ i. each i (same_or_other i r); footprint = ap (λ x. x.footprint) h.here; others = h.others; long = h.long }
  where
    each : (i : ℕ) → (i ≡ r) ⊎ (i ≢ r) → (register_at (with_footprint rs r p) i).content ≡ (register_at rs i).content
    each i (inl e) = subst (λ i. (register_at (with_footprint rs r p) i).content ≡ (register_at rs i).content) (sym e) (ap (λ x. x.content) (register_at-set_same rs r _ lt))
    each i (inr ne) = ap (λ x. x.content) (register_at-set_other rs r i _ ne)

pub tracked_same : (r : ℕ) (p : Footprint) (rs : List Register) → footprint_at rs r ≡ p → Tracked r p rs rs
tracked_same r p rs e = record { contents = λ i. refl; footprint = e; others = λ i ne. refl; long = refl }

-- The left register has this footprint; the contents stay, and the registers but these two.
pub record Merged (left right : ℕ) (p : Footprint) (rs rs1 : List Register) : Type 0 where
  pub contents : (i : ℕ) → (register_at rs1 i).content ≡ (register_at rs i).content
  pub footprint : footprint_at rs1 left ≡ p
  pub others : (i : ℕ) → i ≢ left → i ≢ right → register_at rs1 i ≡ register_at rs i
  pub long : length rs1 ≡ length rs

pub merged_set : (left right : ℕ) (p : Footprint) (rs : List Register) → left < length rs → right < length rs → Merged left right p rs (with_joined rs left right p)
merged_set left right p rs lt1 lt2 =
    let rs1 = with_footprint rs right untouched in
    let a = tracked_set right untouched rs lt2 in
    let b = tracked_set left p rs1 (omega (arith, a.long)) in
    record { contents = λ i. b.contents i ∙ a.contents i; footprint = b.footprint; others = λ i n1 n2. b.others i n1 ∙ a.others i n2; long = b.long ∙ a.long }

pub merged_same : (left right : ℕ) (p : Footprint) (rs : List Register) → footprint_at rs left ≡ p → Merged left right p rs rs
merged_same left right p rs e = record { contents = λ i. refl; footprint = e; others = λ i n1 n2. refl; long = refl }

-- a register is loaded from its own address
pub wrote_loaded : (r : ℕ) (c : Content) (p : Footprint) (rs : List Register) → r < length rs → Wrote r (record { content = Some c; footprint = p }) rs (with_content (with_footprint rs r p) r c)
wrote_loaded r c p rs lt =
    let rs1 = with_footprint rs r p in
    let a = tracked_set r p rs lt in
    let h = wrote_set r (record { content = Some c; footprint = footprint_at rs1 r }) rs1 (omega (arith, a.long)) in
    record { here = h.here ∙ ap (λ q. record { content = Some c; footprint = q }) a.footprint; others = λ i ne. h.others i ne ∙ a.others i ne; long = h.long ∙ a.long }

-- ---- after an evaluation

-- The registers after an evaluation: where the value is taken, its content in r; its footprint there; those below as they were.
pub record After (is_taken : Bool) (w r : ℕ) (rs rs1 : List Register) (x : Valued Content) : Type 0 where
  pub content : is_taken ≡ true → (register_at rs1 r).content ≡ Some x.value
  pub footprint : footprint_at rs1 r ≡ x.footprint
  pub below : (i : ℕ) → i < r → register_at rs1 i ≡ register_at rs i
  pub long : length rs1 ≡ w

-- nothing is done yet
pub after_none : (w r : ℕ) (rs : List Register) (x : Valued Content) → length rs ≡ w → footprint_at rs r ≡ x.footprint → After false w r rs rs x
after_none w r rs x long e = record { content = λ t. absurd (cc); footprint = e; below = λ i lt. refl; long = long }

-- a value that is there may be taken or not
pub after_any : (t : Bool) (w r : ℕ) (rs rs1 : List Register) (x : Valued Content) → After true w r rs rs1 x → After t w r rs rs1 x
after_any t w r rs rs1 x a = record { content = λ e. a.content refl; footprint = a.footprint; below = a.below; long = a.long }

-- only the footprint counts where the value isn't taken
pub after_untaken : (t : Bool) (w r : ℕ) (rs rs1 : List Register) (x y : Valued Content) → x.footprint ≡ y.footprint → After t w r rs rs1 x → After false w r rs rs1 y
after_untaken t w r rs rs1 x y e a = record { content = λ t. absurd (cc); footprint = a.footprint ∙ e; below = a.below; long = a.long }

-- the first write to r
pub after_first : (t : Bool) (w r : ℕ) (rs rs1 : List Register) (c : Content) (p : Footprint) → length rs ≡ w → Wrote r (record { content = Some c; footprint = p }) rs rs1 → After t w r rs rs1 (valued c p)
after_first t w r rs rs1 c p long h =
    record { content = λ e. ap (λ x. x.content) h.here; footprint = ap (λ x. x.footprint) h.here; below = λ i lt. h.others i (λ e. absurd (omega arith)); long = h.long ∙ long }

-- one more write to r
pub after_more : (t t1 : Bool) (w r : ℕ) (rs rs1 rs2 : List Register) (u : Valued Content) (c : Content) (p : Footprint) → After t w r rs rs1 u → Wrote r (record { content = Some c; footprint = p }) rs1 rs2 → After t1 w r rs rs2 (valued c p)
after_more t t1 w r rs rs1 rs2 u c p a h =
    record { content = λ e. ap (λ x. x.content) h.here; footprint = ap (λ x. x.footprint) h.here; below = λ i lt. h.others i (λ e. absurd (omega arith)) ∙ a.below i lt; long = h.long ∙ a.long }

-- another content in r
pub after_puts : (t t1 : Bool) (w r : ℕ) (rs rs1 rs2 : List Register) (u : Valued Content) (c : Content) → After t w r rs rs1 u → Replaced r c rs1 rs2 → After t1 w r rs rs2 (valued c u.footprint)
after_puts t t1 w r rs rs1 rs2 u c a h =
    record { content = λ e. h.content; footprint = h.footprints r ∙ a.footprint; below = λ i lt. h.others i (λ e. absurd (omega arith)) ∙ a.below i lt; long = h.long ∙ a.long }

-- another footprint in r
pub after_tracked : (t : Bool) (w r : ℕ) (rs rs1 rs2 : List Register) (u : Valued Content) (p : Footprint) → After t w r rs rs1 u → Tracked r p rs1 rs2 → After t w r rs rs2 (valued u.value p)
after_tracked t w r rs rs1 rs2 u p a h =
    record { content = λ e. h.contents r ∙ a.content e; footprint = h.footprint; below = λ i lt. h.others i (λ e. absurd (omega arith)) ∙ a.below i lt; long = h.long ∙ a.long }

-- the footprint of r with that of a register above
pub after_merged : (t : Bool) (w r j : ℕ) (rs rs1 rs2 : List Register) (u : Valued Content) (p : Footprint) → r < j → After t w r rs rs1 u → Merged r j p rs1 rs2 → After t w r rs rs2 (valued u.value p)
after_merged t w r j rs rs1 rs2 u p lt a h =
    record { content = λ e. h.contents r ∙ a.content e; footprint = h.footprint; below = λ i below. h.others i (λ e. absurd (omega arith)) (λ e. absurd (omega arith)) ∙ a.below i below; long = h.long ∙ a.long }

-- a register above r is written
pub after_higher : (t : Bool) (w r j : ℕ) (rs rs1 rs2 : List Register) (u : Valued Content) → r < j → After t w r rs rs1 u → ((i : ℕ) → i ≢ j → register_at rs2 i ≡ register_at rs1 i) → length rs2 ≡ length rs1 → After t w r rs rs2 u
after_higher t w r j rs rs1 rs2 u lt a others long =
    record {
      content = λ e. ap (λ y. y.content) (others r (λ e. absurd (omega arith))) ∙ a.content e;
      footprint = ap (λ y. y.footprint) (others r (λ e. absurd (omega arith))) ∙ a.footprint;
      below = λ i below. others i (λ e. absurd (omega arith)) ∙ a.below i (omega arith);
      long = long ∙ a.long;
    }

-- an evaluation above r leaves what is in r
pub after_above : (t t1 : Bool) (w r j : ℕ) (rs rs1 rs2 : List Register) (u v : Valued Content) → r < j → After t w r rs rs1 u → After t1 w j rs1 rs2 v → After t w r rs rs2 u
after_above t t1 w r j rs rs1 rs2 u v lt a b =
    record {
      content = λ e. ap (λ y. y.content) (b.below r (omega arith)) ∙ a.content e;
      footprint = ap (λ y. y.footprint) (b.below r (omega arith)) ∙ a.footprint;
      below = λ i below. b.below i (omega arith) ∙ a.below i below;
      long = b.long;
    }

-- two evaluations into r, one after the other
pub after_since : (t t1 : Bool) (w r : ℕ) (rs rs1 rs2 : List Register) (u v : Valued Content) → After t w r rs rs1 u → After t1 w r rs1 rs2 v → After t1 w r rs rs2 v
after_since t t1 w r rs rs1 rs2 u v a b = record { content = b.content; footprint = b.footprint; below = λ i lt. b.below i lt ∙ a.below i lt; long = b.long }

-- ---- arguments

-- registers from one on have these contents
abbrev pub HoldAll : List Register → ℕ → List Content → Type 0
HoldAll rs r [] = Unit {0}
HoldAll rs r (c ∷ cs) = ((register_at rs r).content ≡ Some c) × HoldAll rs (suc r) cs

pub hold_all_still : (rs rs1 : List Register) (xs : List Content) (r : ℕ) → ((i : ℕ) → r ≤ i → (register_at rs1 i).content ≡ (register_at rs i).content) → HoldAll rs r xs → HoldAll rs1 r xs
hold_all_still rs rs1 [] r h e = tt
hold_all_still rs rs1 (c ∷ cs) r h e = (h r (omega arith) ∙ e.0, hold_all_still rs rs1 cs (suc r) (λ i le. h i (omega arith)) e.1)

pub contents_held : (rs : List Register) (xs : List Content) (r : ℕ) → HoldAll rs r xs → (at : At) → contents_from rs r (length xs) at ≡ Gives xs at
contents_held rs [] r e at = refl
contents_held rs (c ∷ cs) r e at =
    ap (λ o. (had o >>= (λ c. contents_from rs (suc r) (length cs) >>= (λ cs. gives (c ∷ cs)))) at) e.0
    ∙ ap (λ rest. elim (rest) as (λ q. Answer (List Content)) [ Gives cs at1 ↦ Gives (c ∷ cs) at1 | Ends end at1 ↦ Ends end at1 ]) (contents_held rs cs (suc r) e.1 at)

-- the registers after the evaluation of arguments
pub record AfterArguments (w r n : ℕ) (rs rs1 : List Register) (xs : Valued (List Content)) : Type 0 where
  pub contents : HoldAll rs1 r xs.value
  pub count : length xs.value ≡ n
  pub room : r + n < w
  pub footprint : footprint_at rs1 r ≡ xs.footprint
  pub below : (i : ℕ) → i < r → register_at rs1 i ≡ register_at rs i
  pub long : length rs1 ≡ w

pub after_arguments_tracked : (w r n : ℕ) (rs rs1 rs2 : List Register) (xs : Valued (List Content)) (p : Footprint) → AfterArguments w r n rs rs1 xs → Tracked r p rs1 rs2 → AfterArguments w r n rs rs2 (valued xs.value p)
after_arguments_tracked w r n rs rs1 rs2 xs p a h =
    record { contents = hold_all_still rs1 rs2 xs.value r (λ i le. h.contents i) a.contents; count = a.count; room = a.room; footprint = h.footprint; below = λ i lt. h.others i (λ e. absurd (omega arith)) ∙ a.below i lt; long = h.long ∙ a.long }

pub after_arguments_merged : (w r n : ℕ) (rs rs1 rs2 : List Register) (xs : Valued (List Content)) (p : Footprint) → AfterArguments w r n rs rs1 xs → Merged r (r + 1) p rs1 rs2 → AfterArguments w r n rs rs2 (valued xs.value p)
after_arguments_merged w r n rs rs1 rs2 xs p a h =
    record { contents = hold_all_still rs1 rs2 xs.value r (λ i le. h.contents i) a.contents; count = a.count; room = a.room; footprint = h.footprint; below = λ i lt. h.others i (λ e. absurd (omega arith)) (λ e. absurd (omega arith)) ∙ a.below i lt; long = h.long ∙ a.long }

-- no arguments
pub after_no_arguments : (w r : ℕ) (rs rs1 : List Register) (c : Content) (p : Footprint) → length rs ≡ w → r < w → Wrote r (record { content = Some c; footprint = p }) rs rs1 → AfterArguments w r 0 rs rs1 (valued [] p)
after_no_arguments w r rs rs1 c p long lt h =
    record { contents = tt; count = refl; room = omega arith; footprint = ap (λ x. x.footprint) h.here; below = λ i lt. h.others i (λ e. absurd (omega arith)); long = h.long ∙ long }

-- one more argument, below the others
pub after_arguments : (w r n : ℕ) (rs rs1 rs2 : List Register) (x : Valued Content) (xs : Valued (List Content)) → After true w r rs rs1 x → AfterArguments w (r + 1) n rs1 rs2 xs → AfterArguments w r (suc n) rs rs2 (valued (x.value ∷ xs.value) x.footprint)
after_arguments w r n rs rs1 rs2 x xs a b =
    record {
      contents = (ap (λ y. y.content) (b.below r (omega arith)) ∙ a.content refl, subst (λ m. HoldAll rs2 m xs.value) (omega arith) b.contents);
      count = ap suc b.count;
      room = omega (arith, b.room);
      footprint = ap (λ y. y.footprint) (b.below r (omega arith)) ∙ a.footprint;
      below = λ i lt. b.below i (omega arith) ∙ a.below i lt;
      long = b.long;
    }

-- the contents of registers from one on are others, and all else stays
pub record Passed (r : ℕ) (rs rs1 : List Register) (ys : List Content) : Type 0 where
  pub contents : HoldAll rs1 r ys
  pub footprints : (i : ℕ) → footprint_at rs1 i ≡ footprint_at rs i
  pub below : (i : ℕ) → i < r → register_at rs1 i ≡ register_at rs i
  pub long : length rs1 ≡ length rs

pub passed_none : (r : ℕ) (rs : List Register) → Passed r rs rs []
passed_none r rs = record { contents = tt; footprints = λ i. refl; below = λ i lt. refl; long = refl }

pub passed_more : (r : ℕ) (rs rs1 rs2 : List Register) (c : Content) (ys : List Content) → Replaced r c rs rs1 → Passed (r + 1) rs1 rs2 ys → Passed r rs rs2 (c ∷ ys)
passed_more r rs rs1 rs2 c ys a b =
    record {
      contents = (ap (λ y. y.content) (b.below r (omega arith)) ∙ a.content, subst (λ m. HoldAll rs2 m ys) (omega arith) b.contents);
      footprints = λ i. b.footprints i ∙ a.footprints i;
      below = λ i lt. b.below i (omega arith) ∙ a.others i (λ e. absurd (omega arith));
      long = b.long ∙ a.long;
    }

-- a call behind its arguments
pub after_call : (t : Bool) (w r n : ℕ) (rs rs1 rs2 rs3 : List Register) (xs : Valued (List Content)) (ys : List Content) (c : Content) → AfterArguments w r n rs rs1 xs → Passed r rs1 rs2 ys → After t w r rs2 rs3 (valued c (footprint_at rs2 r)) → After t w r rs rs3 (valued c xs.footprint)
after_call t w r n rs rs1 rs2 rs3 xs ys c a p b =
    record { content = b.content; footprint = b.footprint ∙ p.footprints r ∙ a.footprint; below = λ i lt. b.below i lt ∙ p.below i lt ∙ a.below i lt; long = b.long }
