-- A declarator from left to right is the same as from its name outwards.
use Rattle.std.proofs.Common.{◌≡◌, ◌<◌, ◌+◌, suc, Bool, true, false, not, ◌||◌, ◌&&◌, eqb, ltb, length, get_or, drop, arith, List, [], ◌∷◌, ◌++◌, ℕ, Option, Some, None, is_some, refl, ap, sym, ◌∙◌, append_assoc}
use Rattle.std.proofs.lemmas.List.{append-nil, drop_more, drop_all}
use Rattle.std.proofs.lemmas.Bool.{ne_eqb, lt-ltb}
use Rattle.std.specs.Global.{Box}
use Rattle.lt_model.specs.declared.ctype.Quals.{Quals}
use Rattle.lt_tree.specs.declared.expression.Expr.{Expr}
use Rattle.lt_tree.specs.declared.declarator.DeclaratorPart.{DeclaratorPart}
use Rattle.lt_tree.specs.declared.declarator.Parameters.{Parameters}
use Rattle.lt_tree.specs.declared.declarator.DeclaratorPart.TheBlock as block
use Rattle.lt_tree.specs.declared.declarator.DeclaratorPart.TheVariants as variant
use Rattle.lt_tree.specs.View.{qualifiers_of, part_before, parameters_of}
use Rattle.lt_tree.specs.Records.{parts_in, maybe_in}
use Rattle.lt_tree.specs.declared.terminal.Terminal.TheVariants as t
use Rattle.lt_tree.specs.Tree as c
use Rattle.lt_tree.specs.Pieces.{Piece, text_of}
use Rattle.lt_tree.specs.Canon.{Pieces, sign, gap_if, word_if, in_parentheses, grouped, pointing, name_if, qualifiers_pieces, around, declarator, maybe, parameters}
use Rattle.lt_print.specs.Lists.{stands, behind}
use Rattle.lt_print.specs.Declarators.{star, is_suffixed, front, back, is_written}
use Rattle.lt_print.proofs.Lists.{apart_is}
use Rattle.lt_print.proofs.Words.{joined}

stands_more : (a : Pieces) (p : Piece) (b : Pieces) → stands (a ++ p ∷ b) ≡ true
stands_more [] p b = refl
stands_more (q ∷ a) p b = refl

grouped_is : (pointer : Bool) (inner : Pieces) → grouped pointer inner ≡ word_if pointer t.OpenParen ++ (inner ++ word_if pointer t.CloseParen)
grouped_is true inner = refl
grouped_is false inner = sym (append-nil inner)

pointing_is : (q : c.Qualifiers) (inner : Pieces) → pointing q inner ≡ star q (stands inner) ++ inner
pointing_is q inner =
    ap (λ (x : Pieces). sign t.Star ∷ x) (apart_is (qualifiers_pieces q) inner ∙ sym (append_assoc (qualifiers_pieces q) (gap_if (stands (qualifiers_pieces q) && stands inner)) inner))

pub no_word : (b : Bool) → word_if (b && false) t.OpenParen ≡ []
no_word true = refl
no_word false = refl

pub around_is : (n : ℕ) (inner : Pieces) (pointer : Bool) (parts : c.Parts)
    → around n inner pointer parts ≡ front (stands inner) parts ++ (word_if (is_suffixed parts && pointer) t.OpenParen ++ (inner ++ back n pointer parts))
unfolding around
around_is n inner pointer c.no_parts = sym (append-nil inner)
around_is n inner pointer (c.Pointer q rest) =
    around_is n (pointing q inner) true rest ∙ step (is_suffixed rest)
  where
    step : (s : Bool) → front true rest ++ (word_if (s && true) t.OpenParen ++ (pointing q inner ++ back n true rest))
        ≡ (front true rest ++ (word_if s t.OpenParen ++ star q (stands inner))) ++ (inner ++ back n true rest)
    step true = ap (λ (x : Pieces). front true rest ++ (sign t.OpenParen ∷ (x ++ back n true rest))) (pointing_is q inner) ∙ simp append_assoc
    step false = ap (λ (x : Pieces). front true rest ++ (x ++ back n true rest)) (pointing_is q inner) ∙ simp append_assoc
around_is n inner pointer (c.Array length rest) =
    around_is n (grouped pointer inner ++ sign t.OpenIndex ∷ maybe n length ++ sign t.CloseIndex ∷ []) false rest
    ∙ rw (no_word (is_suffixed rest), stands_more (grouped pointer inner ++ sign t.OpenIndex ∷ maybe n length) (sign t.CloseIndex) [], grouped_is pointer inner) (simp append_assoc)
around_is n inner pointer (c.Function ps rest) =
    around_is n (grouped pointer inner ++ in_parentheses (parameters n ps)) false rest
    ∙ rw (no_word (is_suffixed rest), stands_more (grouped pointer inner) (sign t.OpenParen) (parameters n ps ++ sign t.CloseParen ∷ []), grouped_is pointer inner) (simp append_assoc)

pub stands_around : (n : ℕ) (inner : Pieces) (pointer : Bool) (parts : c.Parts) → stands inner ≡ true → stands (around n inner pointer parts) ≡ true
unfolding around
stands_around n inner pointer c.no_parts e = e
stands_around n inner pointer (c.Pointer q rest) e = stands_around n (pointing q inner) true rest refl
stands_around n inner pointer (c.Array length rest) e =
    stands_around n (grouped pointer inner ++ sign t.OpenIndex ∷ maybe n length ++ sign t.CloseIndex ∷ []) false rest (stands_more (grouped pointer inner ++ sign t.OpenIndex ∷ maybe n length) (sign t.CloseIndex) [])
stands_around n inner pointer (c.Function ps rest) e =
    stands_around n (grouped pointer inner ++ in_parentheses (parameters n ps)) false rest (stands_more (grouped pointer inner) (sign t.OpenParen) (parameters n ps ++ sign t.CloseParen ∷ []))

-- a declarator has pieces exactly where it is written
pub stands_declarator : (n : ℕ) (d : c.Declarator) → stands (declarator n d) ≡ is_written d
unfolding around
stands_declarator n (c.declarator (Some w) parts) = stands_around n (name_if (Some w)) false parts refl
stands_declarator n (c.declarator None c.no_parts) = refl
stands_declarator n (c.declarator None (c.Pointer q rest)) = stands_around n (pointing q []) true rest refl
stands_declarator n (c.declarator None (c.Array length rest)) =
    stands_around n (sign t.OpenIndex ∷ maybe n length ++ sign t.CloseIndex ∷ []) false rest refl
stands_declarator n (c.declarator None (c.Function ps rest)) = stands_around n (in_parentheses (parameters n ps)) false rest refl

part_there : (x : DeclaratorPart) (rest : c.Parts) → is_written (c.declarator None (part_before x rest)) ≡ true
part_there (block.Pointer q) rest = refl
part_there (block.Array' length) rest = refl
part_there (block.Function ps) rest = refl

pub written_is : (w : Option (List ℕ)) (parts : List DeclaratorPart) → (is_some w || not (eqb (length parts) 0)) ≡ is_written (c.declarator w (parts_in parts))
written_is (Some w) parts = refl
written_is None [] = refl
written_is None (x ∷ parts) = let e : eqb (suc (length parts)) 0 ≡ false = ne_eqb (suc (length parts)) 0 (λ k. omega arith) in ap not e ∙ sym (part_there x (parts_in parts))

-- a declarator behind what was written
pub declared_text : (n : ℕ) (before : Bool) (d : c.Declarator) (out mid now : List ℕ)
    → mid ≡ out ++ text_of (gap_if (before && is_written d)) → now ≡ mid ++ text_of (declarator n d) → now ≡ out ++ text_of (behind before (declarator n d))
declared_text n before d out mid now e f =
    joined out mid now (gap_if (before && is_written d)) (declarator n d) e f ∙ ap (λ (b : Bool). out ++ text_of (gap_if (before && b) ++ declarator n d)) (sym (stands_declarator n d))

name_there : (w : Option (List ℕ)) → is_some w ≡ stands (name_if w)
name_there None = refl
name_there (Some w) = refl

pub declarator_text : (n : ℕ) (w : Option (List ℕ)) (parts first second : List DeclaratorPart) (named : Bool) (out a b now : List ℕ)
    → named ≡ is_some w → first ≡ parts → second ≡ parts
    → a ≡ out ++ text_of (front named (parts_in first)) → b ≡ a ++ text_of (name_if w) → now ≡ b ++ text_of (back n false (parts_in second))
    → now ≡ out ++ text_of (declarator n (c.declarator w (parts_in parts)))
unfolding around
declarator_text n w parts first second named out a b now is one two e f g =
    joined out b now (front named (parts_in first) ++ name_if w) (back n false (parts_in second)) (joined out a b (front named (parts_in first)) (name_if w) e f) g
    ∙ ap (λ (x : Pieces). out ++ text_of x) (same ∙ sym (around_is n (name_if w) false (parts_in parts)))
  where
    same : (front named (parts_in first) ++ name_if w) ++ back n false (parts_in second)
        ≡ front (stands (name_if w)) (parts_in parts) ++ (word_if (is_suffixed (parts_in parts) && false) t.OpenParen ++ (name_if w ++ back n false (parts_in parts)))
    same = rw (no_word (is_suffixed (parts_in parts)), ← name_there w, ← is, one, two) (append_assoc (front named (parts_in parts)) (name_if w) (back n false (parts_in parts)))

later : (named : Bool) (at : ℕ) → 0 < at → (named || ltb 0 at) ≡ true
later true at lt = refl
later false at lt = lt-ltb 0 at lt

-- the outermost part that isn't written yet is a pointer
pub front_pointer : (named : Bool) (parts : List DeclaratorPart) (i at : ℕ) (x : DeclaratorPart) (q : Quals) (suffixed : Bool) (start out a now : List ℕ)
    → at ≡ i + 1 → i < length parts → x ≡ get_or parts i x → x ≡ variant.Pointer q
    → (out ≡ start ++ text_of (front (named || ltb 0 at) (parts_in (drop at parts)))) × (suffixed ≡ is_suffixed (parts_in (drop at parts)))
    → a ≡ out ++ text_of (word_if suffixed t.OpenParen) → now ≡ a ++ text_of (star (qualifiers_of q) (named || ltb 0 i))
    → (now ≡ start ++ text_of (front (named || ltb 0 i) (parts_in (drop i parts)))) × (false ≡ is_suffixed (parts_in (drop i parts)))
front_pointer named parts i at x q suffixed start out a now is lt item this (told, suf) e f =
    let here : drop i parts ≡ variant.Pointer q ∷ drop at parts = drop_more parts i x lt ∙ ap (λ (y : DeclaratorPart). y ∷ drop (i + 1) parts) (sym item ∙ this) ∙ ap (λ (k : ℕ). variant.Pointer q ∷ drop k parts) (sym is) in
    let more : (named || ltb 0 at) ≡ true = later named at (omega arith) in
    let behind_all = joined _ _ _ _ _ told (joined _ _ _ _ _ e f) in (
      behind_all ∙ ap (λ (x : Pieces). start ++ text_of x) (ap (λ (b : Bool). front b (parts_in (drop at parts)) ++ (word_if suffixed t.OpenParen ++ star (qualifiers_of q) (named || ltb 0 i))) more
          ∙ ap (λ (b : Bool). front true (parts_in (drop at parts)) ++ (word_if b t.OpenParen ++ star (qualifiers_of q) (named || ltb 0 i))) suf
          ∙ ap (λ (l : List DeclaratorPart). front (named || ltb 0 i) (parts_in l)) (sym here)),
      ap (λ (l : List DeclaratorPart). is_suffixed (parts_in l)) (sym here),
    )

-- it is none
pub front_suffix : (named : Bool) (parts : List DeclaratorPart) (i at : ℕ) (x : DeclaratorPart) (suffixed : Bool) (start out : List ℕ)
    → at ≡ i + 1 → i < length parts → x ≡ get_or parts i x → ((q : Quals) → x ≡ variant.Pointer q → ⊥)
    → (out ≡ start ++ text_of (front (named || ltb 0 at) (parts_in (drop at parts)))) × (suffixed ≡ is_suffixed (parts_in (drop at parts)))
    → (out ≡ start ++ text_of (front (named || ltb 0 i) (parts_in (drop i parts)))) × (true ≡ is_suffixed (parts_in (drop i parts)))
front_suffix named parts i at x suffixed start out is lt item none (told, suf) =
    let here : drop i parts ≡ x ∷ drop at parts = drop_more parts i x lt ∙ ap (λ (y : DeclaratorPart). y ∷ drop (i + 1) parts) (sym item) ∙ ap (λ (k : ℕ). x ∷ drop k parts) (sym is) in
    let more : (named || ltb 0 at) ≡ true = later named at (omega arith) in (
      told ∙ ap (λ (b : Bool). start ++ text_of (front b (parts_in (drop at parts)))) more ∙ ap (λ (y : Pieces). start ++ text_of y) (passed x (parts_in (drop at parts)) (named || ltb 0 i) none)
          ∙ ap (λ (l : List DeclaratorPart). start ++ text_of (front (named || ltb 0 i) (parts_in l))) (sym here),
      opened x (parts_in (drop at parts)) none ∙ ap (λ (l : List DeclaratorPart). is_suffixed (parts_in l)) (sym here),
    )
  where
    passed : (x : DeclaratorPart) (rest : c.Parts) (inside : Bool) → ((q : Quals) → x ≡ variant.Pointer q → ⊥) → front true rest ≡ front inside (part_before x rest)
    passed (block.Pointer q) rest inside none = absurd (none q refl)
    passed (block.Array' length) rest inside none = refl
    passed (block.Function ps) rest inside none = refl

    opened : (x : DeclaratorPart) (rest : c.Parts) → ((q : Quals) → x ≡ variant.Pointer q → ⊥) → true ≡ is_suffixed (part_before x rest)
    opened (block.Pointer q) rest none = absurd (none q refl)
    opened (block.Array' length) rest none = refl
    opened (block.Function ps) rest none = refl

pub front_start : (named : Bool) (parts : List DeclaratorPart) (at : ℕ) (out : List ℕ) → at ≡ length parts
    → (out ≡ out ++ text_of (front (named || ltb 0 at) (parts_in (drop at parts)))) × (false ≡ is_suffixed (parts_in (drop at parts)))
unfolding text_of
front_start named parts at out is =
    let none : drop at parts ≡ [] = drop_all at parts (omega arith) in
    (rw none (sym (append-nil out)), rw none refl)

-- one part's own text behind the name
pub array_text : (n : ℕ) (pointer : Bool) (x : DeclaratorPart) (length : Option (Box Expr)) (out a b d now : List ℕ) → x ≡ variant.Array length
    → a ≡ out ++ text_of (word_if pointer t.CloseParen) → b ≡ a ++ text_of (sign t.OpenIndex ∷ []) → d ≡ b ++ text_of (maybe n (maybe_in length)) → now ≡ d ++ text_of (sign t.CloseIndex ∷ [])
    → now ≡ out ++ text_of (back n pointer (part_before x c.no_parts))
array_text n pointer x length out a b d now is e f g h =
    joined _ _ _ _ _ e (joined _ _ _ _ _ f (joined _ _ _ _ _ g h)) ∙ ap (λ (y : c.Parts). out ++ text_of (back n pointer y)) (sym (ap (λ (y : DeclaratorPart). part_before y c.no_parts) is ∙ held length))
  where
    held : (length : Option (Box Expr)) → part_before (variant.Array length) c.no_parts ≡ c.Array (maybe_in length) c.no_parts
    held None = refl
    held (Some e) = refl

pub function_text : (n : ℕ) (pointer : Bool) (x : DeclaratorPart) (ps : Parameters) (out a b d now : List ℕ) → x ≡ variant.Function ps
    → a ≡ out ++ text_of (word_if pointer t.CloseParen) → b ≡ a ++ text_of (sign t.OpenParen ∷ []) → d ≡ b ++ text_of (parameters n (parameters_of ps)) → now ≡ d ++ text_of (sign t.CloseParen ∷ [])
    → now ≡ out ++ text_of (back n pointer (part_before x c.no_parts))
function_text n pointer x ps out a b d now is e f g h =
    joined _ _ _ _ _ e (joined _ _ _ _ _ f (joined _ _ _ _ _ g h)) ∙ ap (λ (y : Pieces). out ++ text_of y) (flat ∙ ap (λ (y : DeclaratorPart). back n pointer (part_before y c.no_parts)) (sym is))
  where
    flat : word_if pointer t.CloseParen ++ (sign t.OpenParen ∷ (parameters n (parameters_of ps) ++ sign t.CloseParen ∷ [])) ≡ back n pointer (c.Function (parameters_of ps) c.no_parts)
    flat = simp (append_assoc, append-nil)
