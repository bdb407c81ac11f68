-- The objects that are there from the start, one object of the program after the other.
use Rattle.std.proofs.Common.{◌≡◌, ◌<◌, ◌≤◌, ◌+◌, ℕ, zero, suc, Bool, true, false, cond, List, [], ◌∷◌, ◌++◌, map, drop, take, length, get_or, slice_index_or, count_by, ◌⊎◌, ⊎_elim, refl, sym, ap, ◌∙◌, arith, append_assoc, append-nil, drop-cons}
use Rattle.std.proofs.lemmas.List.{get_or_append_left, take_all, drop_all}
use Rattle.std.proofs.Math.Seq.{get_or-append_seam}
use Rattle.lt_tree.specs.declared.typed.entity.Object.{Object}
use Rattle.lt_tree.specs.declared.typed.statement.StartPart.{StartPart}
use Rattle.lt_tree.specs.Typing.Types.{CType}
use Rattle.lt_tree.specs.Typing.EntityView.{object_of, life_of}
use Rattle.lt_tree.specs.Typing.Entities.{is_static}
use Rattle.lt_tree.specs.Typing.StatementView.{start_part_of}
use Rattle.lt_tree.specs.Typing.Programs.{Program}
use Rattle.lt_model.specs.declared.cell.StoredCell.{StoredCell}
use Rattle.lt_ir.specs.declared.code.Static.{Static}
use Rattle.lt_meaning.specs.Runs.{initial, initials, part_in, all_parts_in}

next_drop : {A : Type 0} (k : ℕ) (l : List A) → drop (suc k) l ≡ drop (k + 1) l
next_drop k l = let same : suc k ≡ k + 1 = omega arith in ap (λ n. drop n l) same

first_of : {A : Type 0} (l : List A) (k : ℕ) (x : A) → k < length l → x ≡ get_or l k x → drop k l ≡ x ∷ drop (k + 1) l
first_of l k x within is = drop-cons l k x within ∙ ap (λ y. y ∷ drop (suc k) l) (sym is) ∙ ap (λ r. x ∷ r) (next_drop k l)

module _ (program : Program) (types : List CType) where
  from : ℕ → List Object → List Static
  from k objects = initials program (map (object_of types) (drop k objects))

  pub static_more : (objects : List Object) (k : ℕ) (o : Object) (all new : List Static) (it : Static) (whole : List Static) → k < length objects → o ≡ get_or objects k o → is_static (life_of o.life) ≡ true
      → it ≡ initial program (object_of types o) → new ≡ all ++ it ∷ [] → all ++ initials program (map (object_of types) (drop k objects)) ≡ whole
      → new ++ initials program (map (object_of types) (drop (k + 1) objects)) ≡ whole
  static_more objects k o all new it whole within at first made last before =
      let rest = initials program (map (object_of types) (drop (k + 1) objects)) in
      ap (λ l. l ++ rest) last ∙ append_assoc all (it ∷ []) rest ∙ ap (λ x. all ++ x ∷ rest) made
      ∙ ap (λ b. all ++ cond b (initial program (object_of types o) ∷ rest) rest) (sym first)
      ∙ ap (λ l. all ++ initials program (map (object_of types) l)) (sym (first_of objects k o within at)) ∙ before

  pub static_skipped : (objects : List Object) (k : ℕ) (o : Object) (all whole : List Static) → k < length objects → o ≡ get_or objects k o → is_static (life_of o.life) ≡ false
      → all ++ initials program (map (object_of types) (drop k objects)) ≡ whole → all ++ initials program (map (object_of types) (drop (k + 1) objects)) ≡ whole
  static_skipped objects k o all whole within at first before =
      let rest = initials program (map (object_of types) (drop (k + 1) objects)) in
      ap (λ b. all ++ cond b (initial program (object_of types o) ∷ rest) rest) (sym first)
      ∙ ap (λ l. all ++ initials program (map (object_of types) l)) (sym (first_of objects k o within at)) ∙ before

  -- behind all objects
  pub statics_done : (objects : List Object) (k : ℕ) (all whole : List Static) → length objects ≤ k → all ++ initials program (map (object_of types) (drop k objects)) ≡ whole → all ≡ whole
  statics_done objects k all whole past before =
      sym (append-nil all) ∙ ap (λ l. all ++ initials program (map (object_of types) l)) (sym (drop_all k objects past)) ∙ before

  -- one part more of what an object holds first
  pub part_more : (parts : List StartPart) (k : ℕ) (part : StartPart) (cells new whole : List StoredCell) → k < length parts → part ≡ get_or parts k part
      → new ≡ part_in program (start_part_of types part) cells → all_parts_in program (map (start_part_of types) (drop k parts)) cells ≡ whole
      → all_parts_in program (map (start_part_of types) (drop (k + 1) parts)) new ≡ whole
  part_more parts k part cells new whole within at put before =
      ap (all_parts_in program (map (start_part_of types) (drop (k + 1) parts))) put
      ∙ ap (λ l. all_parts_in program (map (start_part_of types) l) cells) (sym (first_of parts k part within at)) ∙ before

-- ---- how many before each are there from the start

module _ (first : Object → Bool) (objects : List Object) where
  abbrev pub counted : ℕ → ℕ
  counted n = count_by first (take n objects)

  less_or_same : (n k : ℕ) → n < k + 1 → (n < k) ⊎ (n ≡ k)
  less_or_same n k less = grind arith

  pub before_more : (before new : List ℕ) (all k : ℕ) → length before ≡ k → all ≡ counted k → new ≡ before ++ all ∷ [] → ((n : ℕ) → n < k → slice_index_or before n 0 ≡ counted n)
      → (n : ℕ) → n < k + 1 → slice_index_or new n 0 ≡ counted n
  before_more before new all k long is last each n less =
      ap (λ l. slice_index_or l n 0) last
      ∙ ⊎_elim
      (λ below. get_or_append_left before (all ∷ []) 0 n (omega (arith, below, long)) ∙ each n below)
      (λ here. let end : n ≡ length before = omega (arith, here, long) in
      ap (λ i. slice_index_or (before ++ all ∷ []) i 0) end ∙ get_or-append_seam before all [] 0 ∙ is ∙ ap counted (sym here))
      (less_or_same n k less)

  below_or_not : (n k : ℕ) → (n < k) ⊎ (k ≤ n)
  below_or_not n k = grind arith

  within_or : (l : List ℕ) (n d : ℕ) → n < length l → slice_index_or l n d ≡ slice_index_or l n 0
  within_or [] n d less = absurd (omega (arith, less))
  within_or (x ∷ l) zero d less = refl
  within_or (x ∷ l) (suc n) d less = within_or l n d (omega (arith, less))

  past_or : (l : List ℕ) (n d : ℕ) → length l ≤ n → slice_index_or l n d ≡ d
  past_or [] n d less = refl
  past_or (x ∷ l) zero d less = absurd (omega (arith, less))
  past_or (x ∷ l) (suc n) d less = past_or l n d (omega (arith, less))

  pub before_all : (before : List ℕ) (all k : ℕ) → length objects ≤ k → length before ≡ k → all ≡ counted k → ((n : ℕ) → n < k → slice_index_or before n 0 ≡ counted n)
      → (n : ℕ) → slice_index_or before n all ≡ counted n
  before_all before all k whole long is each n =
      ⊎_elim
      (λ below. within_or before n all (omega (arith, below, long)) ∙ each n below)
      (λ past. past_or before n all (omega (arith, past, long)) ∙ is ∙ ap (count_by first) (take_all k objects whole) ∙ sym (ap (count_by first) (take_all n objects (omega (arith, whole, past)))))
      (below_or_not n k)
