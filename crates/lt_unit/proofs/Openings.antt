-- Parts of objects that give way to their first parts: what stands behind them stays, and qualifiers don't matter.
use Rattle.std.proofs.Common.{◌≡◌, ℕ, zero, suc, ◌+◌, ◌-◌, Bool, true, false, List, [], ◌∷◌, ◌++◌, map, length, Some, None, if◌then◌else◌, refl, sym, ap, ◌∙◌, append_assoc, arith}
use Rattle.lt_tree.specs.Typing.Types.{CType, Void, Num, Pointer, Array, Struct, Function, Floating, Qualified, unqualified, struct_of, is_array}
use Rattle.lt_tree.specs.Typing.Extents.{Placed, placed_members}
use Rattle.lt_tree.specs.Typing.Entities.{Known}
use Rattle.lt_tree.specs.Typing.Filling.{Run, one_object, length_left, behind_first, parts_of, first_within, first_in_members, first_in_struct, opened, elements_begun}
use Rattle.lt_tree.specs.Typing.Filling as typing
use Rattle.lt_unit.specs.LeftParts.{plain}

-- ---- what stands behind

split_if : (c : Bool) (x y more less rest : List Run) → more ≡ x ++ rest → less ≡ y ++ rest → (if c then more else less) ≡ (if c then x else y) ++ rest
split_if true x y more less rest e f = e
split_if false x y more less rest e f = f

within_more : (known : Known) (whole : CType → Bool) (in_struct : ℕ → ℕ → List Run → List Run) → ((o k : ℕ) (a b : List Run) → in_struct o k (a ++ b) ≡ in_struct o k a ++ b)
    → (o : ℕ) (t : CType) (a b : List Run) → first_within known whole in_struct o t (a ++ b) ≡ first_within known whole in_struct o t a ++ b
within_more known whole in_struct e o (Array t n) a b =
    let run : Run = record { offset = o; type = t; left = length_left n } in
    split_if (whole (Array t n)) (one_object o (Array t n) ∷ a) (first_within known whole in_struct o t (behind_first known run ++ a)) (one_object o (Array t n) ∷ (a ++ b)) (first_within known whole in_struct o t (behind_first known run ++ (a ++ b))) b refl
    (ap (λ l. first_within known whole in_struct o t l) (sym (append_assoc (behind_first known run) a b)) ∙ within_more known whole in_struct e o t (behind_first known run ++ a) b)
within_more known whole in_struct e o (Struct k) a b =
    split_if (whole (Struct k)) (one_object o (Struct k) ∷ a) (in_struct o k a) (one_object o (Struct k) ∷ (a ++ b)) (in_struct o k (a ++ b)) b refl (e o k a b)
within_more known whole in_struct e o (Qualified q t) a b = within_more known whole in_struct e o t a b
within_more known whole in_struct e o Void a b = refl
within_more known whole in_struct e o (Num s) a b = refl
within_more known whole in_struct e o (Pointer t) a b = refl
within_more known whole in_struct e o (Function t ts dots) a b = refl
within_more known whole in_struct e o Floating a b = refl

members_more : (known : Known) (whole : CType → Bool) (in_struct : ℕ → ℕ → List Run → List Run) → ((o k : ℕ) (a b : List Run) → in_struct o k (a ++ b) ≡ in_struct o k a ++ b)
    → (o : ℕ) (members : List Placed) (a b : List Run) → first_in_members known whole in_struct o members (a ++ b) ≡ first_in_members known whole in_struct o members a ++ b
members_more known whole in_struct e o [] a b = refl
members_more known whole in_struct e o (m ∷ ms) a b =
    ap (λ l. first_within known whole in_struct (o + m.offset) m.type l) (sym (append_assoc (map (typing.member_run o) ms) a b))
    ∙ within_more known whole in_struct e (o + m.offset) m.type (map (typing.member_run o) ms ++ a) b

struct_more : (known : Known) (whole : CType → Bool) (depth o k : ℕ) (a b : List Run) → first_in_struct known whole depth o k (a ++ b) ≡ first_in_struct known whole depth o k a ++ b
unfolding first_in_struct
struct_more known whole zero o k a b = refl
struct_more known whole (suc depth) o k a b =
    members_more known whole (first_in_struct known whole depth) (struct_more known whole depth) o (placed_members known.model known.structs k) a b

-- the parts in front are opened alone
pub opened_more : (known : Known) (whole : CType → Bool) (run : Run) (runs rest : List Run) → opened known whole (run ∷ (runs ++ rest)) ≡ opened known whole (run ∷ runs) ++ rest
opened_more known whole run runs rest =
    ap (λ l. first_within known whole (first_in_struct known whole (length known.structs)) run.offset run.type l) (sym (append_assoc (behind_first known run) runs rest))
    ∙ within_more known whole (first_in_struct known whole (length known.structs)) (struct_more known whole (length known.structs)) run.offset run.type (behind_first known run ++ runs) rest

none_behind : {A : Type 0} (a b : List A) → a ++ b ≡ [] → b ≡ []
none_behind [] b e = e
none_behind (x ∷ a) b e = absurd cc

-- where nothing is left in front, nothing is behind
pub none_left : (known : Known) (whole : CType → Bool) (run : Run) (runs rest : List Run) → opened known whole (run ∷ (runs ++ rest)) ≡ [] → rest ≡ []
none_left known whole run runs rest e = none_behind (opened known whole (run ∷ runs)) rest (sym (opened_more known whole run runs rest) ∙ e)

-- ---- qualifiers

abbrev is_qualified : CType → Bool
is_qualified (Qualified q t) = true
is_qualified Void = false
is_qualified (Num s) = false
is_qualified (Pointer t) = false
is_qualified (Array t n) = false
is_qualified (Struct k) = false
is_qualified (Function t ts dots) = false
is_qualified Floating = false

plain_is : (t : CType) → is_qualified (plain t) ≡ false
plain_is (Qualified q t) = plain_is t
plain_is Void = refl
plain_is (Num s) = refl
plain_is (Pointer t) = refl
plain_is (Array t n) = refl
plain_is (Struct k) = refl
plain_is (Function t ts dots) = refl
plain_is Floating = refl

pub plain_twice : (t : CType) → plain (plain t) ≡ plain t
plain_twice (Qualified q t) = plain_twice t
plain_twice Void = refl
plain_twice (Num s) = refl
plain_twice (Pointer t) = refl
plain_twice (Array t n) = refl
plain_twice (Struct k) = refl
plain_twice (Function t ts dots) = refl
plain_twice Floating = refl

pub plain_bare : (t : CType) → plain (unqualified t) ≡ plain t
plain_bare (Qualified q t) = refl
plain_bare Void = refl
plain_bare (Num s) = refl
plain_bare (Pointer t) = refl
plain_bare (Array t n) = refl
plain_bare (Struct k) = refl
plain_bare (Function t ts dots) = refl
plain_bare Floating = refl

abbrev qualifiers_on : CType → ℕ
qualifiers_on (Qualified q t) = suc (qualifiers_on t)
qualifiers_on Void = 0
qualifiers_on (Num s) = 0
qualifiers_on (Pointer t) = 0
qualifiers_on (Array t n) = 0
qualifiers_on (Struct k) = 0
qualifiers_on (Function t ts dots) = 0
qualifiers_on Floating = 0

more_than_itself : (n : ℕ) → n ≡ suc n → ⊥
more_than_itself n e = omega arith

-- a type that has no qualifiers of its own
pub plain_itself : (t : CType) → unqualified t ≡ t → plain t ≡ t
plain_itself (Qualified q t) e = absurd (more_than_itself (qualifiers_on t) (ap qualifiers_on e))
plain_itself Void e = refl
plain_itself (Num s) e = refl
plain_itself (Pointer t) e = refl
plain_itself (Array t n) e = refl
plain_itself (Struct k) e = refl
plain_itself (Function t ts dots) e = refl
plain_itself Floating e = refl

pub plain_within : (known : Known) (whole : CType → Bool) (in_struct : ℕ → ℕ → List Run → List Run) (o : ℕ) (t : CType) (rest : List Run)
    → first_within known whole in_struct o (plain t) rest ≡ first_within known whole in_struct o t rest
plain_within known whole in_struct o (Qualified q t) rest = plain_within known whole in_struct o t rest
plain_within known whole in_struct o Void rest = refl
plain_within known whole in_struct o (Num s) rest = refl
plain_within known whole in_struct o (Pointer t) rest = refl
plain_within known whole in_struct o (Array t n) rest = refl
plain_within known whole in_struct o (Struct k) rest = refl
plain_within known whole in_struct o (Function t ts dots) rest = refl
plain_within known whole in_struct o Floating rest = refl

pub plain_parts : (known : Known) (o : ℕ) (t : CType) → parts_of known o (plain t) ≡ parts_of known o t
plain_parts known o (Qualified q t) = plain_parts known o t
plain_parts known o Void = refl
plain_parts known o (Num s) = refl
plain_parts known o (Pointer t) = refl
plain_parts known o (Array t n) = refl
plain_parts known o (Struct k) = refl
plain_parts known o (Function t ts dots) = refl
plain_parts known o Floating = refl

qualified_not_plain : {A : Type 0} (t u : CType) → plain t ≡ u → is_qualified u ≡ true → A
qualified_not_plain t u e q =
    let h : is_qualified (plain t) ≡ true = ap is_qualified e ∙ q in
    let g = plain_is t in
    absurd cc

-- the only types without qualifiers that are structs
pub plain_struct : (t : CType) (k : ℕ) → plain t ≡ t → struct_of t ≡ Some k → t ≡ Struct k
plain_struct (Qualified q t) k e f = qualified_not_plain t (Qualified q t) e refl
plain_struct (Struct j) k e f = cc
plain_struct Void k e f = absurd cc
plain_struct (Num s) k e f = absurd cc
plain_struct (Pointer t) k e f = absurd cc
plain_struct (Array t n) k e f = absurd cc
plain_struct (Function t ts dots) k e f = absurd cc
plain_struct Floating k e f = absurd cc

-- what is neither an array nor a struct is taken whole
pub plain_whole : (known : Known) (whole : CType → Bool) (in_struct : ℕ → ℕ → List Run → List Run) (o : ℕ) (t : CType) (rest : List Run)
    → plain t ≡ t → is_array t ≡ false → struct_of t ≡ None → first_within known whole in_struct o t rest ≡ one_object o t ∷ rest
plain_whole known whole in_struct o (Qualified q t) rest e a s = qualified_not_plain t (Qualified q t) e refl
plain_whole known whole in_struct o Void rest e a s = refl
plain_whole known whole in_struct o (Num r) rest e a s = refl
plain_whole known whole in_struct o (Pointer t) rest e a s = refl
plain_whole known whole in_struct o (Array t n) rest e a s = absurd cc
plain_whole known whole in_struct o (Struct k) rest e a s = absurd cc
plain_whole known whole in_struct o (Function t ts dots) rest e a s = refl
plain_whole known whole in_struct o Floating rest e a s = refl

pub plain_part : (known : Known) (o : ℕ) (t : CType) → plain t ≡ t → is_array t ≡ false → struct_of t ≡ None → parts_of known o t ≡ one_object o t ∷ []
plain_part known o (Qualified q t) e a s = qualified_not_plain t (Qualified q t) e refl
plain_part known o Void e a s = refl
plain_part known o (Num r) e a s = refl
plain_part known o (Pointer t) e a s = refl
plain_part known o (Array t n) e a s = absurd cc
plain_part known o (Struct k) e a s = absurd cc
plain_part known o (Function t ts dots) e a s = refl
plain_part known o Floating e a s = refl

-- ---- members of structs, as deep as structs may nest

-- the first of these runs gives way to its first part that is taken whole
abbrev first_run : Known → (CType → Bool) → (ℕ → ℕ → List Run → List Run) → List Run → List Run → List Run
first_run known whole in_struct rest [] = rest
first_run known whole in_struct rest (run ∷ runs) = first_within known whole in_struct run.offset run.type (runs ++ rest)

first_members : (known : Known) (whole : CType → Bool) (in_struct : ℕ → ℕ → List Run → List Run) (o : ℕ) (members : List Placed) (rest : List Run)
    → first_run known whole in_struct rest (map (typing.member_run o) members) ≡ first_in_members known whole in_struct o members rest
first_members known whole in_struct o [] rest = refl
first_members known whole in_struct o (m ∷ ms) rest = refl

deeper : (known : Known) (whole : CType → Bool) (depth o k : ℕ) (runs rest : List Run) → (depth ≡ 0 → ⊥) → runs ≡ map (typing.member_run o) (placed_members known.model known.structs k)
    → first_run known whole (first_in_struct known whole (depth - 1)) rest runs ≡ first_in_struct known whole depth o k rest
unfolding first_in_struct
deeper known whole zero o k runs rest n e = absurd (n refl)
deeper known whole (suc depth) o k runs rest n e =
    let less : suc depth - 1 ≡ depth = omega arith in
    ap (λ d. first_run known whole (first_in_struct known whole d) rest runs) less
    ∙ ap (first_run known whole (first_in_struct known whole depth) rest) e
    ∙ first_members known whole (first_in_struct known whole depth) o (placed_members known.model known.structs k) rest

pub too_deep : (known : Known) (whole : CType → Bool) (depth o k : ℕ) (rest : List Run) → depth ≡ 0 → rest ≡ first_in_struct known whole depth o k rest
unfolding first_in_struct
too_deep known whole zero o k rest e = refl
too_deep known whole (suc depth) o k rest e = absurd cc

pub deeper_none : (known : Known) (whole : CType → Bool) (depth o k : ℕ) (rest : List Run) → (depth ≡ 0 → ⊥) → [] ≡ map (typing.member_run o) (placed_members known.model known.structs k)
    → rest ≡ first_in_struct known whole depth o k rest
deeper_none known whole depth o k rest n e = deeper known whole depth o k [] rest n e

pub deeper_some : (known : Known) (whole : CType → Bool) (depth o k : ℕ) (run : Run) (runs rest after : List Run) → (depth ≡ 0 → ⊥)
    → run ∷ runs ≡ map (typing.member_run o) (placed_members known.model known.structs k) → after ≡ runs ++ rest
    → first_within known whole (first_in_struct known whole (depth - 1)) run.offset run.type after ≡ first_in_struct known whole depth o k rest
deeper_some known whole depth o k run runs rest after n e f =
    ap (first_within known whole (first_in_struct known whole (depth - 1)) run.offset run.type) f ∙ deeper known whole depth o k (run ∷ runs) rest n e
