-- What names and tags stand for, and the types that specifiers name by them.
use Rattle.std.proofs.Common.{◌≡◌, ℕ, suc, ◌+◌, ◌<◌, Bool, true, false, cond, List, [], ◌∷◌, ◌++◌, map, take, drop, length, get_or, Bor, Option, Some, None, refl, sym, ap, ◌∙◌, arith}
use Rattle.std.specs.Prelude.{option_map}
use Rattle.std.specs.List.{list_all}
use Rattle.std.specs.Str.{bytes_eq}
use Rattle.std.proofs.lemmas.List.{take_more}
use Rattle.lt_tree.specs.declared.specifier.BasicType.{BasicType}
use Rattle.lt_tree.specs.declared.specifier.BasicType.TheVariants as basic
use Rattle.lt_tree.specs.declared.typed.entity.Bound.{Bound}
use Rattle.lt_tree.specs.declared.typed.entity.Entity.{Entity}
use Rattle.lt_tree.specs.declared.typed.entity.Entity.TheVariants as entity
use Rattle.lt_tree.specs.declared.typed.entity.Tag.{Tag}
use Rattle.lt_tree.specs.declared.typed.entity.Tagged.{Tagged}
use Rattle.lt_tree.specs.declared.typed.entity.Tagged.TheVariants as tagged
use Rattle.lt_tree.specs.Typing.Types.{CType, Pointer}
use Rattle.lt_tree.specs.Typing.Specifying.{basic_type}
use Rattle.lt_tree.specs.Typing.Entities.{Frame, bound_among, tagged_among, or_else}
use Rattle.lt_tree.specs.Typing.EntityView.{entity_of, bound_of, tagged_of, tag_of}
use Rattle.lt_entry.specs.TypeNames.{is_qualifier, is_star, if_qualifiers, struct_named, enum_named, typedef_named, specified, pointers_to}
use Rattle.lt_input_names.specs.declared.block.Base.{Base}
use Rattle.lt_input_names.specs.Blocks.{base_of, pointers}
use Rattle.lt_input_blocks.specs.Tokens.{texts}
use Rattle.lt_input_blocks.specs.Names.{first_among, entity_among, tag_among, typedef_base, struct_base, enum_base, basic_base, first_named}
use Rattle.lt_input_blocks.proofs.Lists.{drop_first}

-- ---- what is first

or_else-cond : {A : Type 0} (x : A) (b : Bool) (whole first rest : Option A) → whole ≡ or_else first rest → cond b (Some x) whole ≡ or_else (cond b (Some x) first) rest
or_else-cond x true whole first rest e = refl
or_else-cond x false whole first rest e = e

first_append : {A V : Type 0} (name : A → List ℕ) (value : A → V) (w : List ℕ) (xs ys : List A) → first_among name value w (xs ++ ys) ≡ or_else (first_among name value w xs) (first_among name value w ys)
first_append name value w [] ys = refl
first_append name value w (x ∷ xs) ys =
    or_else-cond (value x) (bytes_eq (name x) w) (first_among name value w (xs ++ ys)) (first_among name value w xs) (first_among name value w ys) (first_append name value w xs ys)

-- one more
pub first_more : {A V : Type 0} (name : A → List ℕ) (value : A → V) (w : List ℕ) (xs : List A) (i : ℕ) (x : A) (bytes : List ℕ) (old new : Option V) → i < length xs → x ≡ get_or xs i x → bytes ≡ name x
    → old ≡ first_among name value w (take i xs) → new ≡ or_else old (cond (bytes_eq bytes w) (Some (value x)) None) → new ≡ first_among name value w (take (i + 1) xs)
first_more name value w xs i x bytes old new within is called before after =
    after ∙ ap (λ b. or_else old (cond (bytes_eq b w) (Some (value x)) None)) called ∙ ap (λ o. or_else o (first_among name value w (x ∷ []))) before ∙ sym (first_append name value w (take i xs) (x ∷ []))
    ∙ ap (first_among name value w) (sym (take_more xs i x within ∙ ap (λ y. take i xs ++ y ∷ []) (sym is)))

module _ (types : List CType) where
  entity_law : (w : List ℕ) (bs : List Bound) → option_map (entity_of types) (entity_among w bs) ≡ bound_among w (map (bound_of types) bs)
  entity_law w [] = refl
  entity_law w (b ∷ bs) = by (bytes_eq b.name w) (entity_law w bs)
    where
      by : (c : Bool) → option_map (entity_of types) (entity_among w bs) ≡ bound_among w (map (bound_of types) bs)
          → option_map (entity_of types) (cond c (Some b.entity) (entity_among w bs)) ≡ cond c (Some (entity_of types b.entity)) (bound_among w (map (bound_of types) bs))
      by true h = refl
      by false h = h

  tag_law : (w : List ℕ) (ts : List Tag) → option_map tagged_of (tag_among w ts) ≡ tagged_among w (map tag_of ts)
  tag_law w [] = refl
  tag_law w (t ∷ ts) = by (bytes_eq t.name w) (tag_law w ts)
    where
      by : (c : Bool) → option_map tagged_of (tag_among w ts) ≡ tagged_among w (map tag_of ts) → option_map tagged_of (cond c (Some t.tagged) (tag_among w ts)) ≡ cond c (Some (tagged_of t.tagged)) (tagged_among w (map tag_of ts))
      by true h = refl
      by false h = h

  -- ---- bases

  typedef_law : (o : Option Entity) → option_map (base_of types) (typedef_base o) ≡ typedef_named (option_map (entity_of types) o)
  typedef_law None = refl
  typedef_law (Some (entity.Object n r)) = refl
  typedef_law (Some entity.Function) = refl
  typedef_law (Some (entity.Typedef t)) = refl
  typedef_law (Some (entity.Enumerator z)) = refl

  struct_law : (o : Option Tagged) → option_map (base_of types) (struct_base o) ≡ struct_named (option_map tagged_of o)
  struct_law None = refl
  struct_law (Some (tagged.Struct k)) = refl
  struct_law (Some (tagged.Enum b)) = refl

  enum_law : (o : Option Tagged) → option_map (base_of types) (enum_base o) ≡ enum_named (option_map tagged_of o)
  enum_law None = refl
  enum_law (Some (tagged.Struct k)) = refl
  enum_law (Some (tagged.Enum true)) = refl
  enum_law (Some (tagged.Enum false)) = refl

  basic_law : (b : BasicType) → base_of types (basic_base b) ≡ basic_type b
  basic_law basic.Void = refl
  basic_law basic.Char = refl
  basic_law basic.SignedChar = refl
  basic_law basic.UnsignedChar = refl
  basic_law basic.Short = refl
  basic_law basic.UnsignedShort = refl
  basic_law basic.Int = refl
  basic_law basic.Unsigned = refl
  basic_law basic.Long = refl
  basic_law basic.UnsignedLong = refl
  basic_law basic.LongLong = refl
  basic_law basic.UnsignedLongLong = refl
  basic_law basic.Bool = refl
  basic_law basic.Float = refl
  basic_law basic.Double = refl
  basic_law basic.LongDouble = refl

  pub basics_law : (o : Option BasicType) → option_map (base_of types) (option_map basic_base o) ≡ option_map basic_type o
  basics_law None = refl
  basics_law (Some b) = ap Some (basic_law b)

  if_all : (others : List (List ℕ)) (x y : Option CType) → list_all is_qualifier others ≡ true → x ≡ y → x ≡ if_qualifiers others y
  if_all others x y all same = same ∙ sym (ap (λ b. cond b y None) all)

  pub typedef_named_law : (w : List ℕ) (bs : List Bound) (others : List (List ℕ)) (o : Option Entity) (r : Option Base) → r ≡ typedef_base o → o ≡ entity_among w bs → list_all is_qualifier others ≡ true
      → option_map (base_of types) r ≡ if_qualifiers others (typedef_named (bound_among w (map (bound_of types) bs)))
  typedef_named_law w bs others o r is at all =
      if_all others (option_map (base_of types) r) (typedef_named (bound_among w (map (bound_of types) bs))) all
      (ap (option_map (base_of types)) is ∙ typedef_law o ∙ ap typedef_named (ap (option_map (entity_of types)) at ∙ entity_law w bs))

  pub struct_named_law : (w : List ℕ) (ts : List Tag) (others : List (List ℕ)) (o : Option Tagged) (r : Option Base) → r ≡ struct_base o → o ≡ tag_among w ts → list_all is_qualifier others ≡ true
      → option_map (base_of types) r ≡ if_qualifiers others (struct_named (tagged_among w (map tag_of ts)))
  struct_named_law w ts others o r is at all =
      if_all others (option_map (base_of types) r) (struct_named (tagged_among w (map tag_of ts))) all
      (ap (option_map (base_of types)) is ∙ struct_law o ∙ ap struct_named (ap (option_map tagged_of) at ∙ tag_law w ts))

  pub enum_named_law : (w : List ℕ) (ts : List Tag) (others : List (List ℕ)) (o : Option Tagged) (r : Option Base) → r ≡ enum_base o → o ≡ tag_among w ts → list_all is_qualifier others ≡ true
      → option_map (base_of types) r ≡ if_qualifiers others (enum_named (tagged_among w (map tag_of ts)))
  enum_named_law w ts others o r is at all =
      if_all others (option_map (base_of types) r) (enum_named (tagged_among w (map tag_of ts))) all
      (ap (option_map (base_of types)) is ∙ enum_law o ∙ ap enum_named (ap (option_map tagged_of) at ∙ tag_law w ts))

-- ---- specifiers

pub first_law : (file : Frame) (token : List ℕ) (tokens : List (List ℕ)) → is_qualifier token ≡ false → specified file (token ∷ tokens) ≡ first_named file (token ∷ tokens)
first_law file token tokens none = ap (λ b. cond b (specified file tokens) (first_named file (token ∷ tokens))) none

-- ---- pointers

pub one_pointer : (n : ℕ) (t : CType) → pointers (n + 1) t ≡ Pointer (pointers n t)
one_pointer n t = let one : n + 1 ≡ suc n = omega arith in ap (λ k. pointers k t) one

module _ (tokens : List (Bor (List ℕ))) (i : ℕ) (token : Bor (List ℕ)) (within : i < length tokens) (is : token ≡ get_or tokens i token) (count new : ℕ) (t : CType) (whole : Option CType)
    (before : pointers_to (texts (drop i tokens)) (pointers count t) ≡ whole) where
  first : pointers_to (token.now ∷ texts (drop (i + 1) tokens)) (pointers count t) ≡ whole
  first = ap (λ l. pointers_to (texts l) (pointers count t)) (sym (drop_first tokens i token within is)) ∙ before

  pub star_more : is_star token.now ≡ true → new ≡ count + 1 → pointers_to (texts (drop (i + 1) tokens)) (pointers new t) ≡ whole
  star_more star more =
      ap (λ n. pointers_to (texts (drop (i + 1) tokens)) (pointers n t)) more ∙ ap (pointers_to (texts (drop (i + 1) tokens))) (one_pointer count t)
      ∙ sym (ap (λ b. cond b (pointers_to (texts (drop (i + 1) tokens)) (Pointer (pointers count t))) (cond (is_qualifier token.now) (pointers_to (texts (drop (i + 1) tokens)) (pointers count t)) None)) star) ∙ first

  pub qualifier_more : is_star token.now ≡ false → is_qualifier token.now ≡ true → new ≡ count → pointers_to (texts (drop (i + 1) tokens)) (pointers new t) ≡ whole
  qualifier_more star qualifier same =
      ap (λ n. pointers_to (texts (drop (i + 1) tokens)) (pointers n t)) same
      ∙ sym (ap (λ b. cond b (pointers_to (texts (drop (i + 1) tokens)) (pointers count t)) None) qualifier)
      ∙ sym (ap (λ b. cond b (pointers_to (texts (drop (i + 1) tokens)) (Pointer (pointers count t))) (cond (is_qualifier token.now) (pointers_to (texts (drop (i + 1) tokens)) (pointers count t)) None)) star) ∙ first
