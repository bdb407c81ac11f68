-- The cells of an object, one part of what they hold first after the other.
use Rattle.std.proofs.Common.{◌≡◌, ◌==◌, ◌<◌, ◌+◌, ℕ, zero, suc, pos, Bool, true, false, true≢false, cond, List, [], ◌∷◌, length, map, drop, set, get_or, Option, Some, None, is_some, unwrap_or, refl, sym, ap, ◌∙◌, arith, drop-cons}
use Rattle.lt_model.specs.declared.scalar.DataModel.{DataModel}
use Rattle.lt_model.specs.declared.cell.Content.{Content}
use Rattle.lt_model.specs.declared.cell.Content.TheVariants as content
use Rattle.lt_model.specs.declared.cell.CellType.TheVariants as type
use Rattle.lt_model.specs.declared.cell.StoredCell.{StoredCell}
use Rattle.lt_model.specs.Memory.{as_type}
use Rattle.lt_tree.specs.Typing.TypedTree as e
use Rattle.lt_tree.specs.Typing.TypedTree.{StartPart}
use Rattle.lt_tree.specs.Typing.Programs.{Program}
use Rattle.lt_tables.specs.Filling.{filled}
use Rattle.lt_meaning.specs.Runs.{place_among, fixed_in, letters_in, part_in, all_parts_in}

abbrev pub offsets : List StoredCell → List ℕ
offsets cells = map (λ cell. cell.offset) cells

none_some : {k : ℕ} → None ≡ Some k → ⊥
none_some p = true≢false (sym (ap is_some p))

some_same : {a b : ℕ} → Some a ≡ Some b → a ≡ b
some_same {a} p = ap (λ o. unwrap_or o a) p

-- ---- the cell at an offset

pub record IsPut (cells new : List StoredCell) (model : DataModel) (c : Content) (from place : ℕ) : Type 0 where
  pub at : ℕ
  pub counted : place ≡ from + at
  pub within : at < length cells
  pub put : (d : StoredCell) → new ≡ set cells at (filled model c (get_or cells at d))

module _ (model : DataModel) (offset : ℕ) (c : Content) where
  put_from : (cells : List StoredCell) (from place : ℕ) → place_among from offset (offsets cells) ≡ Some place → IsPut cells (fixed_in model offset c cells) model c from place
  put_from [] from place found = absurd (none_some found)
  put_from (it ∷ cells) from place found = by (λ is. put_from cells (suc from) place is) (it.offset == offset) found
    where
      behind : (p : ℕ) → IsPut cells (fixed_in model offset c cells) model c (suc from) p → IsPut (it ∷ cells) (it ∷ fixed_in model offset c cells) model c from p
      behind p h = record { at = suc h.at; counted = omega (arith, h.counted); within = omega (arith, h.within); put = λ d. ap (λ l. it ∷ l) (h.put d) }

      by : (place_among (suc from) offset (offsets cells) ≡ Some place → IsPut cells (fixed_in model offset c cells) model c (suc from) place) → (b : Bool)
          → cond b (Some from) (place_among (suc from) offset (offsets cells)) ≡ Some place → IsPut (it ∷ cells) (cond b (filled model c it ∷ cells) (it ∷ fixed_in model offset c cells)) model c from place
      by rest true is = let same : from ≡ place = some_same is in record { at = 0; counted = omega (arith, same); within = omega arith; put = λ d. refl }
      by rest false is = behind place (rest is)

  pub put_place : (cells : List StoredCell) (place : ℕ) → place_among 0 offset (offsets cells) ≡ Some place → place < length cells
  put_place cells place found = let h = put_from cells 0 place found in omega (arith, h.counted, h.within)

  pub put_there : (cells new : List StoredCell) (place : ℕ) → place_among 0 offset (offsets cells) ≡ Some place → ((d : StoredCell) → new ≡ set cells place (filled model c (get_or cells place d)))
      → new ≡ fixed_in model offset c cells
  put_there cells new place found is =
      let h = put_from cells 0 place found in
      let at : place ≡ h.at = omega (arith, h.counted) in
      let d : StoredCell = record { offset = 0; ty = type.Pointer 0; holds = content.Unset } in
      is d ∙ ap (λ k. set cells k (filled model c (get_or cells k d))) at ∙ sym (h.put d)

  none_there : (cells : List StoredCell) (from : ℕ) → place_among from offset (offsets cells) ≡ None → fixed_in model offset c cells ≡ cells
  none_there [] from none = refl
  none_there (it ∷ cells) from none = by (λ is. none_there cells (suc from) is) (it.offset == offset) none
    where
      by : (place_among (suc from) offset (offsets cells) ≡ None → fixed_in model offset c cells ≡ cells) → (b : Bool) → cond b (Some from) (place_among (suc from) offset (offsets cells)) ≡ None → cond b (filled model c it ∷ cells) (it ∷ fixed_in model offset c cells) ≡ it ∷ cells
      by rest true is = absurd (none_some (sym is))
      by rest false is = ap (λ l. it ∷ l) (rest is)

  pub put_nowhere : (cells : List StoredCell) → place_among 0 offset (offsets cells) ≡ None → cells ≡ fixed_in model offset c cells
  put_nowhere cells none = sym (none_there cells 0 none)

  pub fixed_stay : (cells : List StoredCell) → offsets (fixed_in model offset c cells) ≡ offsets cells
  fixed_stay [] = refl
  fixed_stay (it ∷ cells) = by (fixed_stay cells) (it.offset == offset)
    where
      by : offsets (fixed_in model offset c cells) ≡ offsets cells → (b : Bool) → offsets (cond b (filled model c it ∷ cells) (it ∷ fixed_in model offset c cells)) ≡ it.offset ∷ offsets cells
      by rest true = refl
      by rest false = ap (λ l. it.offset ∷ l) rest

-- ---- the offsets stay

pub letters_stay : (model : DataModel) (offset : ℕ) (bytes : List ℕ) (cells : List StoredCell) → offsets (letters_in model offset bytes cells) ≡ offsets cells
letters_stay model offset [] cells = refl
letters_stay model offset (b ∷ bytes) cells =
    letters_stay model (offset + 1) bytes (fixed_in model offset (content.Number (pos b)) cells) ∙ fixed_stay model offset (content.Number (pos b)) cells

pub part_stays : (program : Program) (part : StartPart) (cells : List StoredCell) → offsets (part_in program part cells) ≡ offsets cells
part_stays program (e.stored offset v) cells = refl
part_stays program (e.fixed offset t c) cells = fixed_stay program.model offset _ cells
part_stays program (e.letters offset s bytes) cells = letters_stay program.model offset bytes cells

-- ---- one byte, one part more

pub letters_more : (model : DataModel) (offset place byte : ℕ) (bytes : List ℕ) (cells whole : List StoredCell) → place < length bytes → byte ≡ get_or bytes place 0
    → letters_in model (offset + place) (drop place bytes) cells ≡ whole
    → letters_in model (offset + (place + 1)) (drop (place + 1) bytes) (fixed_in model (offset + place) (content.Number (pos byte)) cells) ≡ whole
letters_more model offset place byte bytes cells whole within is before =
    let next : offset + (place + 1) ≡ offset + place + 1 = omega arith in
    let behind : place + 1 ≡ suc place = omega arith in
    ap (λ o. letters_in model o (drop (place + 1) bytes) (fixed_in model (offset + place) (content.Number (pos byte)) cells)) next
    ∙ ap (λ p. letters_in model (offset + place + 1) (drop p bytes) (fixed_in model (offset + place) (content.Number (pos byte)) cells)) behind
    ∙ ap (λ b. letters_in model (offset + place) (b ∷ drop (suc place) bytes) cells) is ∙ ap (λ l. letters_in model (offset + place) l cells) (sym (drop-cons bytes place 0 within)) ∙ before

pub get_or_inside : (cells : List StoredCell) (k : ℕ) (a b : StoredCell) → k < length cells → get_or cells k a ≡ get_or cells k b
get_or_inside [] k a b less = absurd (omega (arith, less))
get_or_inside (x ∷ cells) zero a b less = refl
get_or_inside (x ∷ cells) (suc k) a b less = get_or_inside cells k a b (omega (arith, less))

pub set_filled : (model : DataModel) (c holds : Content) (cells : List StoredCell) (place : ℕ) (a d : StoredCell) → place < length cells → holds ≡ as_type model (get_or cells place a).ty c
    → set cells place (record { offset = (get_or cells place a).offset; ty = (get_or cells place a).ty; holds = holds }) ≡ set cells place (filled model c (get_or cells place d))
set_filled model c holds cells place a d less is =
    ap (λ h. set cells place (record { offset = (get_or cells place a).offset; ty = (get_or cells place a).ty; holds = h })) is
    ∙ ap (λ x. set cells place (filled model c x)) (get_or_inside cells place a d less)

pub letters_next : (model : DataModel) (offset place at byte : ℕ) (c : Content) (bytes : List ℕ) (cells new first : List StoredCell) → place < length bytes → byte ≡ get_or bytes place 0 → at ≡ offset
    → c ≡ content.Number (pos byte) → new ≡ fixed_in model (at + place) c cells → letters_in model (offset + place) (drop place bytes) cells ≡ letters_in model offset bytes first
    → letters_in model (offset + (place + 1)) (drop (place + 1) bytes) new ≡ letters_in model offset bytes first
letters_next model offset place at byte c bytes cells new first within is same letter put before =
    ap (letters_in model (offset + (place + 1)) (drop (place + 1) bytes)) (put ∙ ap (λ o. fixed_in model (o + place) c cells) same ∙ ap (λ x. fixed_in model (offset + place) x cells) letter)
    ∙ letters_more model offset place byte bytes cells (letters_in model offset bytes first) within is before

pub offsets_stay : (places : ℕ → Option ℕ) (cells new : List StoredCell) → offsets new ≡ offsets cells → ((n : ℕ) → places n ≡ place_among 0 n (offsets cells)) → (n : ℕ) → places n ≡ place_among 0 n (offsets new)
offsets_stay places cells new same before n = before n ∙ ap (place_among 0 n) (sym same)

pub all_stay : (program : Program) (parts : List StartPart) (cells : List StoredCell) → offsets (all_parts_in program parts cells) ≡ offsets cells
all_stay program [] cells = refl
all_stay program (part ∷ parts) cells = all_stay program parts (part_in program part cells) ∙ part_stays program part cells
