-- Type names of pure expressions are the same in two places where the same is known but for the numbers of objects.
use Rattle.std.proofs.Common.{◌≡◌, ℕ, List, [], ◌∷◌, length, Option, Some, None, Bool, true, false, refl, sym, ap, ◌∙◌, subst}
use Rattle.std.proofs.lemmas.Bool.{false≢true, and_parts}
use Rattle.std.specs.Prelude.{◌++◌, if◌then◌else◌, is_some}
use Rattle.std.specs.Str.{bytes_eq}
use Rattle.lt_tree.specs.Tree as c
use Rattle.lt_tree.specs.Purity.{is_pure_specifiers, are_pure_types, is_pure_type}
use Rattle.lt_tree.specs.Typing.Types.{Struct, adjusted}
use Rattle.lt_tree.specs.Typing.Rules.{Rule}
use Rattle.lt_tree.specs.Typing.Entities.{Known, Object, Frame, or_else, bound_among, bound_in, Tagged, a_struct, an_enum, tagged_among, tagged_in, tagging, innermost}
use Rattle.lt_tree.specs.Typing.Steps.{Outcome, Goes, goes_on}
use Rattle.lt_tree.specs.Typing.Expressions.{Use, as_value, finish}
use Rattle.lt_tree.specs.Typing.Operations.{judge_size, judge_cast}
use Rattle.lt_tree.specs.Typing.NodeEnds.{also, end_of_declarator}
use Rattle.lt_tree.specs.Typing.Specifying.{Naming, Setting, alone, in_sizeof, elsewhere, is_alone, is_register, beside_words, struct_tagged, enum_tagged, names, Specified, specified}
use Rattle.lt_tree.specs.Typing.Declarators.{Parameters, Built, built, Declares, declares, all_faults, parameter_faults, binds_parameter, parameter_before, setting_in_sizeof}
use Rattle.lt_tree.specs.Typing.ExpressionTyping.{expression, type_specifiers, type_specifier, specifiers, declarator, parts}
use Rattle.lt_erased_typing.specs.Literals.{none_more}
use Rattle.lt_erased_typing.specs.Erasable.{entered}
use Rattle.lt_erased_typing.proofs.Scopes.{StandAlike, AreAlike, typedef_same}
use Rattle.lt_erased_typing.proofs.Operators.{size_same, cast_bare}
use Rattle.lt_erased_typing.proofs.TypeNames.{AreSame, AreBuiltAlike, DeclareAlike, declare_alike, AreParametersAlike, parameters_more, names_by, parameters_judged, also_bare, words_aside}
use Rattle.lt_erased_typing.proofs.SizesAndCasts.{name_in, any_type_name, stands_somewhere}
use Rattle.lt_erased_typing.proofs.Parameters.{bind_first, going}
use Rattle.lt_erased_typing.proofs.Unmarked.{size_unmarked, cast_unmarked}
use Rattle.lt_erased_typing.proofs.Together.{IsLike, Together, together, on, so, found_here, structs_like, beside_like, entered_like, settled_like, bound_like, PureAs, finished_like}

-- ---- one more tag

names_tagged : (tag : List ℕ) (tagged : Tagged) (fs : List Frame) (name : List ℕ) → bound_in name (tagging tag tagged fs) ≡ bound_in name fs
names_tagged tag tagged [] name = refl
names_tagged tag tagged (frame ∷ fs) name = refl

here_tagged : (tag : List ℕ) (tagged : Tagged) (fs : List Frame) (name : List ℕ) → bound_among name (innermost (tagging tag tagged fs)).names ≡ bound_among name (innermost fs).names
here_tagged tag tagged [] name = refl
here_tagged tag tagged (frame ∷ fs) name = refl

depth_tagged : (tag : List ℕ) (tagged : Tagged) (fs : List Frame) → length (tagging tag tagged fs) ≡ length fs
depth_tagged tag tagged [] = refl
depth_tagged tag tagged (frame ∷ fs) = refl

or_tagged : (b : Bool) (t : Tagged) (found other more most : Option Tagged) → or_else other most ≡ or_else found more
    → or_else (if b then Some t else other) most ≡ or_else (if b then Some t else found) more
or_tagged true t found other more most h = refl
or_tagged false t found other more most h = h

tags_tagged : (tag : List ℕ) (tagged : Tagged) (fs gs : List Frame) → length gs ≡ length fs → (w : List ℕ) → tagged_in w gs ≡ tagged_in w fs
    → tagged_in w (tagging tag tagged gs) ≡ tagged_in w (tagging tag tagged fs)
tags_tagged tag tagged [] [] d w h = h
tags_tagged tag tagged [] (b ∷ gs) d w h = absurd cc
tags_tagged tag tagged (a ∷ fs) [] d w h = absurd cc
tags_tagged tag tagged (a ∷ fs) (b ∷ gs) d w h = or_tagged (bytes_eq tag w) tagged (tagged_among w a.tags) (tagged_among w b.tags) (tagged_in w fs) (tagged_in w gs) h

tag_alike : {xs ys : List Object} (tag : List ℕ) (tagged : Tagged) (fs gs : List Frame) → AreAlike true fs gs xs ys → AreAlike true (tagging tag tagged fs) (tagging tag tagged gs) xs ys
tag_alike {xs} {ys} tag tagged fs gs alike = record {
  names = λ name. subst (λ found. StandAlike true xs ys found (bound_in name (tagging tag tagged gs))) (sym (names_tagged tag tagged fs name))
      (subst (StandAlike true xs ys (bound_in name fs)) (sym (names_tagged tag tagged gs name)) (alike.names name));
  here = λ name. ap is_some (here_tagged tag tagged gs name) ∙ alike.here name ∙ sym (ap is_some (here_tagged tag tagged fs name));
  tags = λ w. tags_tagged tag tagged fs gs alike.depth w (alike.tags w);
  depth = depth_tagged tag tagged gs ∙ alike.depth ∙ sym (depth_tagged tag tagged fs);
}

-- ---- specifiers

-- a new struct has the same number
new_like : {k j : Known} (tag : List ℕ) (n : ℕ) → length k.structs ≡ n → IsLike k j
    → Together k.objects j.objects (AreSame {A = Naming})
    (Goes (names (Struct (length k.structs))) (record k { frames = tagging tag (a_struct (length k.structs)) k.frames; structs = k.structs ++ record { members = None } ∷ [] }))
    (Goes (names (Struct (length j.structs))) (record j { frames = tagging tag (a_struct (length j.structs)) j.frames; structs = j.structs ++ record { members = None } ∷ [] }))
new_like {k} {j} tag n e s =
    let number : length j.structs ≡ length k.structs = ap length (structs_like s) in
    together (ap (λ m. names (Struct m)) number) (record {
      same = ap (λ (it : Known). record it { frames = tagging tag (a_struct (length j.structs)) j.frames; structs = it.structs ++ record { members = None } ∷ [] }) s.same;
      alike = subst (λ m. AreAlike true (tagging tag (a_struct (length k.structs)) k.frames) (tagging tag (a_struct m) j.frames) k.objects j.objects) (sym number)
          (tag_alike tag (a_struct (length k.structs)) k.frames j.frames s.alike);
    }) none_more none_more

struct_like : {k j : Known} (tag : List ℕ) (found : Option Tagged) → IsLike k j → Together k.objects j.objects (AreSame {A = Naming}) (struct_tagged tag found k) (struct_tagged tag found j)
struct_like tag None s = new_like tag _ refl s
struct_like tag (Some (a_struct n)) s = found_here refl s
struct_like tag (Some (an_enum is_complete)) s = found_here refl s

tag_like : {k j : Known} (tag : List ℕ) (found other : Option Tagged) → other ≡ found → IsLike k j → Together k.objects j.objects (AreSame {A = Naming}) (struct_tagged tag found k) (struct_tagged tag other j)
tag_like {k} {j} tag found other e s = subst (λ it. Together k.objects j.objects (AreSame {A = Naming}) (struct_tagged tag found k) (struct_tagged tag it j)) (sym e) (struct_like tag found s)

type_like : {k j : Known} (it : c.TypeSpecifier) (setting : Setting) → is_alone setting ≡ false → is_pure_type it ≡ true → IsLike k j
    → Together k.objects j.objects (AreSame {A = Naming}) (type_specifier it setting k) (type_specifier it setting j)
type_like (c.Basic type) setting a p s = found_here refl s
type_like (c.Word word) setting a p s = found_here refl s
type_like (c.StructTag tag) alone a p s = absurd (false≢true (sym a))
type_like {k} {j} (c.StructTag tag) in_sizeof a p s = tag_like tag (tagged_in tag k.frames) (tagged_in tag j.frames) (s.alike.tags tag) s
type_like {k} {j} (c.StructTag tag) elsewhere a p s = tag_like tag (tagged_in tag k.frames) (tagged_in tag j.frames) (s.alike.tags tag) s
type_like (c.Struct tag list) setting a p s = absurd (false≢true p)
type_like (c.EnumTag tag) setting a p s = found_here (ap (enum_tagged setting) (s.alike.tags tag)) s
type_like (c.Enum tag list) setting a p s = absurd (false≢true p)
type_like (c.Named name) setting a p s = found_here (typedef_same (s.alike.names name)) s

types_like : {k j : Known} (them : c.TypeSpecifiers) (setting : Setting) → is_alone setting ≡ false → are_pure_types them ≡ true → IsLike k j
    → Together k.objects j.objects (AreSame {A = List Naming}) (type_specifiers them setting k) (type_specifiers them setting j)
types_like c.no_types setting a p s = found_here refl s
types_like (c.a_type first rest) setting a p s =
    on (type_like first setting a (and_parts (is_pure_type first) (are_pure_types rest) p).0 s) (λ x y l i e s.
    so (λ xs. x ∷ xs) (λ ys. y ∷ ys) (λ xs ys f. ap (λ it. it ∷ ys) e ∙ ap (λ it. x ∷ it) f) (types_like rest setting a (and_parts (is_pure_type first) (are_pure_types rest) p).1 s))

specifiers_like : {k j : Known} (it : c.Specifiers) (setting : Setting) → is_alone setting ≡ false → is_pure_specifiers it ≡ true → IsLike k j
    → Together k.objects j.objects (AreSame {A = Specified}) (specifiers it setting k) (specifiers it setting j)
specifiers_like (c.specifiers words types) setting a p s =
    so (specified words) (specified words) (λ xs ys e. ap (specified words) e) (types_like types (beside_words words setting) (words_aside words setting a) p s)

-- ---- declarators

-- what is judged of what declarators declare breaks no rule in the second where it breaks none in the first
abbrev pub AreJudgedLike : (Option (List ℕ) → Known → Built → List Rule) → Type 0
AreJudgedLike judge = (name : Option (List ℕ)) (k j : Known) → IsLike k j → (x y : Built) → y.type ≡ x.type → judge name k x ≡ [] → judge name j y ≡ []

pub parameters_like : AreJudgedLike (parameter_faults false)
parameters_like name k j s x y e h = parameters_judged s.alike name k j (beside_like s) x y e h

written_like : {k j : Known} (judge : Option (List ℕ) → Known → Built → List Rule) → AreJudgedLike judge → (it : Specified) (name : Option (List ℕ)) (n m : ℕ) (x y : Built)
    → AreBuiltAlike x y → IsLike k j
    → Together k.objects j.objects (DeclareAlike name) (end_of_declarator (Some n) name x (all_faults it x (judge name k x)) k) (end_of_declarator (Some m) name y (all_faults it y (judge name j y)) j)
written_like {k} {j} judge judged it name n m x y h s =
    settled_like (λ u k. Goes (declares n name x []) k) (λ u k. Goes (declares m name y []) k) n m (all_faults it x (judge name k x)) (all_faults it y (judge name j y))
    (λ r. let both = names_by it x y (judge name k x) (judge name j y) (judged name k j s x y) h r in (both.0, found_here (declare_alike x y [] [] (λ w. both.1) (λ g. (refl, both.1))) s))

unwritten_like : {k j : Known} (judge : Option (List ℕ) → Known → Built → List Rule) → AreJudgedLike judge → (it : Specified) (x : Built) → IsLike k j
    → Together k.objects j.objects (DeclareAlike None) (end_of_declarator None None x (all_faults it x (judge None k x)) k) (end_of_declarator None None x (all_faults it x (judge None j x)) j)
unwritten_like {k} {j} judge judged it x s =
    found_here (declare_alike x x (all_faults it x (judge None k x)) (all_faults it x (judge None j x)) (λ w. absurd (false≢true w))
    (names_by it x x (judge None k x) (judge None j x) (judged None k j s x x) (λ r. (r, refl)))) s

-- by its parts
pub declarator_like : {k j : Known} (judge : Option (List ℕ) → Known → Built → List Rule) → AreJudgedLike judge → (name : Option (List ℕ)) (ps : c.Parts) (it : Specified) → IsLike k j
    → Together k.objects j.objects AreBuiltAlike (parts ps it.type false true (entered k)) (parts ps it.type false true (entered j))
    → Together k.objects j.objects (DeclareAlike name) (declarator (c.declarator name ps) it false judge k) (declarator (c.declarator name ps) it false judge j)
declarator_like judge judged None c.no_parts it s h = unwritten_like judge judged it (built it.type []) s
declarator_like {k} {j} judge judged None (c.Pointer q rest) it s h = on h (λ x y l i p s. written_like judge judged it None k.next j.next x y p s)
declarator_like {k} {j} judge judged None (c.Array length rest) it s h = on h (λ x y l i p s. written_like judge judged it None k.next j.next x y p s)
declarator_like {k} {j} judge judged None (c.Function them rest) it s h = on h (λ x y l i p s. written_like judge judged it None k.next j.next x y p s)
declarator_like {k} {j} judge judged (Some w) ps it s h = on h (λ x y l i p s. written_like judge judged it (Some w) k.next j.next x y p s)

-- ---- parameters

bound_before : {k j : Known} {name : Option (List ℕ)} {x y : Declares} (f : Known → Outcome Parameters) (is_register : Bool) → DeclareAlike name x y → IsLike k j
    → ((l i : Known) → IsLike l i → Together l.objects i.objects AreParametersAlike (f l) (f i))
    → Together k.objects j.objects AreParametersAlike
    (goes_on (binds_parameter false is_register x.node x.name (adjusted x.type) k) (λ those l. goes_on (f l) (λ others l. Goes (parameter_before x those others) l)))
    (goes_on (binds_parameter false is_register y.node y.name (adjusted y.type) j) (λ those i. goes_on (f i) (λ others i. Goes (parameter_before y those others) i)))
bound_before {name = name} f is_register (declare_alike {n} {m} x y xs ys t d) s h =
    on (bound_like name is_register n m (adjusted x.type) (adjusted y.type) (λ w. ap adjusted (t w)) s) (λ those others l i u s.
    so (parameter_before (declares n name x xs) those) (parameter_before (declares m name y ys) others) (λ them more p. parameters_more name n m x y xs ys those others them more d p) (h l i s))

-- a list of parameters, where this is known of the first declarator and of the others
pub listed_like : {k j : Known} (sp : c.Specifiers) (d : c.Declarator) (f : Known → Outcome Parameters) → is_pure_specifiers sp ≡ true → IsLike k j
    → ((it : Specified) (l i : Known) → IsLike l i → Together l.objects i.objects (DeclareAlike (name_in d)) (declarator d it false (parameter_faults false) l) (declarator d it false (parameter_faults false) i))
    → ((l i : Known) → IsLike l i → Together l.objects i.objects AreParametersAlike (f l) (f i))
    → Together k.objects j.objects AreParametersAlike (going sp d f k) (going sp d f j)
listed_like sp d f p s declared rest =
    on (specifiers_like sp elsewhere refl p s) (λ it other l i e s.
    subst (λ x. Together l.objects i.objects AreParametersAlike (goes_on (declarator d it false (parameter_faults false) l) (bind_first (is_register it) f))
    (goes_on (declarator d x false (parameter_faults false) i) (bind_first (is_register x) f))) (sym e)
    (on (declared it l i s) (λ x y l i p s. bound_before f (is_register it) p s rest)))

-- ---- `sizeof` and casts

pub sized_like : {k j : Known} (sp : c.Specifiers) (d : c.Declarator) (role : Use) → is_pure_specifiers sp ≡ true → IsLike k j
    → ((it : Specified) (l i : Known) → IsLike l i → Together l.objects i.objects (DeclareAlike (name_in d)) (declarator d it false any_type_name l) (declarator d it false any_type_name i))
    → Together k.objects j.objects (PureAs role) (expression (c.SizeofType sp d) role k) (expression (c.SizeofType sp d) role j)
sized_like {k} {j} sp d role p s declared =
    on (specifiers_like sp (setting_in_sizeof d) (stands_somewhere d) p (entered_like s)) (λ it other l i e s.
    subst (λ x. Together l.objects i.objects (PureAs role) (goes_on (declarator d it false any_type_name l) (λ t l. finish k.next role (also t.faults (judge_size t.type l)) l))
    (goes_on (declarator d x false any_type_name i) (λ t i. finish j.next role (also t.faults (judge_size t.type i)) i))) (sym e)
    (on (declared it l i s) (λ t u l i p s. finished_like k.next j.next role (also t.faults (judge_size t.type l)) (also u.faults (judge_size u.type i))
    (also_bare (λ type. judge_size type l) (λ type. judge_size type i) t u p (λ type. size_same type (beside_like s)), size_unmarked t.type l) s)))

pub cast_like : {k j : Known} (sp : c.Specifiers) (d : c.Declarator) (operand : c.Expression) (role : Use) → is_pure_specifiers sp ≡ true → IsLike k j
    → ((it : Specified) (l i : Known) → IsLike l i → Together l.objects i.objects (DeclareAlike (name_in d)) (declarator d it false any_type_name l) (declarator d it false any_type_name i))
    → ((l i : Known) → IsLike l i → Together l.objects i.objects (PureAs as_value) (expression operand as_value l) (expression operand as_value i))
    → Together k.objects j.objects (PureAs role) (expression (c.Cast sp d operand) role k) (expression (c.Cast sp d operand) role j)
cast_like {k} {j} sp d operand role p s declared f =
    on (specifiers_like sp elsewhere refl p (entered_like s)) (λ it other l i e s.
    subst (λ x. Together l.objects i.objects (PureAs role) (goes_on (declarator d it false any_type_name l) (λ t l. goes_on (expression operand as_value l) (λ x l. finish k.next role (also t.faults (judge_cast t.type x l)) l)))
    (goes_on (declarator d x false any_type_name i) (λ t i. goes_on (expression operand as_value i) (λ x i. finish j.next role (also t.faults (judge_cast t.type x i)) i)))) (sym e)
    (on (declared it l i s) (λ t u l i p s. on (f l i s) (λ x y l i q s. finished_like k.next j.next role (also t.faults (judge_cast t.type x l)) (also u.faults (judge_cast u.type y i))
    (also_bare (λ type. judge_cast type x l) (λ type. judge_cast type y i) t u p (λ type. cast_bare type (beside_like s) q.0), cast_unmarked t.type x l q.1) s))))
