-- Going over a pure expression finds further objects, structs and facts, and nothing else; where it finds no struct, it declares no tag.
use Rattle.std.proofs.Common.{◌≡◌, ℕ, ◌+◌, List, [], ◌∷◌, ◌++◌, Option, Some, None, Bool, true, false, refl, sym, ap, ◌∙◌, append_assoc}
use Rattle.std.proofs.lemmas.List.{append-nil}
use Rattle.std.proofs.lemmas.Bool.{false≢true}
use Rattle.std.specs.Prelude.{◌&&◌, if◌then◌else◌}
use Rattle.std.specs.List.{AllByRecursion}
use Rattle.lt_tree.specs.Tree as c
use Rattle.lt_tree.specs.Purity.{is_pure, are_pure, is_pure_specifiers, are_pure_types, is_pure_type, is_pure_declarator, are_pure_parts, is_pure_maybe, are_pure_parameters, is_pure_parameter_list}
use Rattle.lt_tree.specs.Typing.Types.{CType, adjusted}
use Rattle.lt_tree.specs.Typing.Rules.{Rule, least}
use Rattle.lt_tree.specs.Typing.Entities.{Known, Object, literal, unmade, Frame, no_names, Tagged, a_struct, an_enum, tag_here, tagged_in}
use Rattle.lt_tree.specs.Typing.Steps.{Outcome, Goes, Breaks, goes_on, settle, unless_broken, left, marked_again}
use Rattle.lt_tree.specs.Typing.Expressions.{Use, Judged, as_value, as_truth, as_place, own_type, faults_of_any, finish}
use Rattle.lt_tree.specs.Typing.Operations.{judge_size, judge_member, judge_arrow, judge_index, judge_cast}
use Rattle.lt_tree.specs.Typing.BinaryOperations.{judge_binary, judge_logical, judge_conditional, judge_comma}
use Rattle.lt_tree.specs.Typing.Specifying.{Specified, is_register, Setting, elsewhere, is_alone, beside_words, struct_tagged}
use Rattle.lt_tree.specs.Typing.Declarators.{Built, all_faults, setting_in_sizeof, is_written, type_name_faults, parameter_faults, binds_parameter}
use Rattle.lt_tree.specs.Typing.NodeEnds.{judge_unary, text_object, operand_of, also, end_of_declarator, enter_if}
use Rattle.lt_tree.specs.Typing.ExpressionTyping.{expression, expressions, maybe, specifiers, type_specifiers, type_specifier, declarator, parts, parameters, parameter_list}
use Rattle.lt_object_laws.specs.Further.{IsFurther, a_string, never_made}
use Rattle.lt_mark_laws.proofs.Lists.{all_both}
use Rattle.lt_objective_typing.proofs.Both.{and_first, and_second}

-- ---- lists that have more behind them

abbrev pub IsLonger : {A : Type 0} → List A → List A → Type 0
IsLonger {A} xs ys = (more : List A) × (ys ≡ xs ++ more)

longer_itself : {A : Type 0} (xs : List A) → IsLonger xs xs
longer_itself xs = ([], sym (append-nil xs))

longer_then : {A : Type 0} (xs ys zs : List A) → IsLonger xs ys → IsLonger ys zs → IsLonger xs zs
longer_then xs ys zs h g = (h.0 ++ g.0, g.1 ∙ ap (λ l. l ++ g.0) h.1 ∙ append_assoc xs h.0 g.0)

none_in_front : {A : Type 0} (ms ns : List A) → ms ++ ns ≡ [] → ms ≡ []
none_in_front [] ns h = refl
none_in_front (m ∷ ms) ns h = absurd cc

abbrev rest_of : {A : Type 0} → List A → List A
rest_of [] = []
rest_of (x ∷ xs) = xs

between_by : {A : Type 0} (xs ms ns : List A) → (xs ++ ms) ++ ns ≡ xs → xs ++ ms ≡ xs
between_by [] ms ns h = none_in_front ms ns h
between_by (x ∷ xs) ms ns h = ap (λ l. x ∷ l) (between_by xs ms ns (ap rest_of h))

-- what lies between a list and itself is the list
pub between : {A : Type 0} (xs ys zs : List A) → IsLonger xs ys → IsLonger ys zs → zs ≡ xs → ys ≡ xs
between xs ys zs h g e = h.1 ∙ between_by xs h.0 g.0 (sym (g.1 ∙ ap (λ l. l ++ g.0) h.1) ∙ e)

no_longer : {A : Type 0} (xs : List A) (x : A) → xs ++ x ∷ [] ≡ xs → ⊥
no_longer [] x h = cc
no_longer (y ∷ xs) x h = no_longer xs x (ap rest_of h)

-- ---- further objects

-- these objects, with further ones behind them
abbrev pub FindsFurther : List Object → List Object → Type 0
FindsFurther xs ys = (more : List Object) × (ys ≡ xs ++ more) × AllByRecursion IsFurther more

none_further : (xs : List Object) → FindsFurther xs xs
none_further xs = ([], sym (append-nil xs), tt)

further_then : (xs ys zs : List Object) → FindsFurther xs ys → FindsFurther ys zs → FindsFurther xs zs
further_then xs ys zs h g = (h.0 ++ g.0, g.1 ∙ ap (λ l. l ++ g.0) h.1 ∙ append_assoc xs h.0 g.0, all_both IsFurther h.0 g.0 h.2 g.2)

-- a string literal is one, or in `sizeof` is never made
pub text_further : (node : ℕ) (known : Known) (bytes : List ℕ) → IsFurther (text_object node known bytes)
text_further node known bytes = by known.is_unmarked
  where
    by : (b : Bool) → IsFurther (record (text_object node known bytes) { life = if b then unmade else literal })
    by true = never_made refl
    by false = a_string refl refl tt

-- ---- what is known

-- More is known than before: further objects, structs, facts, and, where the flag says so, tags only with structs.
pub record Grows (tags : Bool) (k j : Known) : Type 0 where
  pub same : j ≡ record k { next = j.next; frames = j.frames; structs = j.structs; objects = j.objects; facts = j.facts }
  pub objects : FindsFurther k.objects j.objects
  pub structs : IsLonger k.structs j.structs
  pub frames : tags ≡ true → j.structs ≡ k.structs → j.frames ≡ k.frames

pub data Grow {A : Type 0} (tags : Bool) (k : Known) : Outcome A → Type 0 where
  went : {a : A} {j : Known} → Grows tags k j → Grow tags k (Goes a j)
  broke : {rule : Rule} {node : ℕ} → Grow tags k (Breaks rule node)

pub then_grows : {tags : Bool} {k j l : Known} → Grows tags k j → Grows tags j l → Grows tags k l
then_grows {tags} {k} {j} {l} h g = record {
  same = g.same ∙ ap (λ (it : Known). record it { next = l.next; frames = l.frames; structs = l.structs; objects = l.objects; facts = l.facts }) h.same;
  objects = further_then k.objects j.objects l.objects h.objects g.objects;
  structs = longer_then k.structs j.structs l.structs h.structs g.structs;
  frames = λ t e. let s = between k.structs j.structs l.structs h.structs g.structs e in g.frames t (e ∙ sym s) ∙ h.frames t s;
}

module _ {tags : Bool} where
  still : (k : Known) → Grows tags k k
  still k = record { same = refl; objects = none_further k.objects; structs = longer_itself k.structs; frames = λ t e. refl }

  pub entered_grows : (k : Known) → Grows tags k (record k { next = k.next + 1 })
  entered_grows k = record { same = refl; objects = none_further k.objects; structs = longer_itself k.structs; frames = λ t e. refl }

  numbered : {A : Type 0} {k : Known} {n : ℕ} {o : Outcome A} → Grow tags (record k { next = n }) o → Grow tags k o
  numbered (went h) = went (record { same = h.same; objects = h.objects; structs = h.structs; frames = h.frames })
  numbered broke = broke

  pub bind : {A B : Type 0} {k : Known} {o : Outcome A} {rest : A → Known → Outcome B} → Grow tags k o → ((a : A) (j : Known) → Grow tags j (rest a j)) → Grow tags k (goes_on o rest)
  bind {B = B} {k} {rest = rest} (went {a} {j} h) f = by (rest a j) (f a j)
    where
      by : (o : Outcome B) → Grow tags j o → Grow tags k o
      by (Goes b l) (went g) = went (then_grows h g)
      by (Breaks rule node) g = broke
  bind broke f = broke

  judged : (node : ℕ) (rules : List Rule) (k : Known) → Grow tags k (settle node rules k)
  judged node rules k = elim (least rules) as (λ rule. Grow tags k (unless_broken rule node k)) [ None ↦ went (still k) | Some rule ↦ broke ]

  unmarked : {A : Type 0} {k : Known} {o : Outcome A} → Grow tags (record k { is_unmarked = true }) o → Grow tags k (marked_again k.is_unmarked o)
  unmarked {k = k} (went h) = went (record { same = ap (λ (it : Known). record it { is_unmarked = k.is_unmarked }) h.same; objects = h.objects; structs = h.structs; frames = h.frames })
  unmarked broke = broke

  scoped : {A : Type 0} {k : Known} {frame : Frame} {o : Outcome A} → Grow false (record k { frames = frame ∷ k.frames }) o → Grow tags k (goes_on (left k.frames o) (λ r j. Goes r.0 j))
  scoped {k = k} (went h) = went (record { same = ap (λ (it : Known). record it { frames = k.frames }) h.same; objects = h.objects; structs = h.structs; frames = λ t e. refl })
  scoped broke = broke

  pub finished : (node : ℕ) (role : Use) (it : Judged) (k : Known) → Grow tags k (finish node role it k)
  unfolding finish
  finished node role it k = bind (judged node (it.faults ++ faults_of_any k.structs role it.typed) k)
      (λ u j. went (record { same = refl; objects = none_further j.objects; structs = longer_itself j.structs; frames = λ t e. refl }))

  one_more : {A : Type 0} {o : Outcome A} (k : Known) (object : Object) → IsFurther object → Grow tags (record k { objects = k.objects ++ object ∷ [] }) o → Grow tags k o
  one_more k object is (went h) = went (then_grows (record { same = refl; objects = (object ∷ [], refl, (is, tt)); structs = longer_itself k.structs; frames = λ t e. refl }) h)
  one_more k object is broke = broke

  struct_found : (tag : List ℕ) (found : Option Tagged) (k : Known) → Grow tags k (struct_tagged tag found k)
  struct_found tag None k = went (record { same = refl; objects = none_further k.objects; structs = (record { members = None } ∷ [], refl); frames = λ t e. absurd (no_longer k.structs (record { members = None }) e) })
  struct_found tag (Some (a_struct n)) k = went (still k)
  struct_found tag (Some (an_enum is_complete)) k = went (still k)

  may_enter : (written : Bool) (k : Known) → Grow tags k (enter_if written k)
  may_enter true k = numbered (went (still (record k { next = k.next + 1 })))
  may_enter false k = went (still k)

  ended_declarator : (node : Option ℕ) (name : Option (List ℕ)) (b : Built) (faults : List Rule) (k : Known) → Grow tags k (end_of_declarator node name b faults k)
  ended_declarator None name b faults k = went (still k)
  ended_declarator (Some node) name b faults k = bind (judged node faults k) (λ u j. went (still j))

-- a parameter of a type name is never made
bound : (is_register : Bool) (node : ℕ) (name : Option (List ℕ)) (t : CType) (k : Known) → Grow false k (binds_parameter false is_register node name t k)
bound is_register node None t k = went (still k)
bound is_register node (Some name) t k = went (record { same = refl; objects = (_ ∷ [], refl, (never_made refl, tt)); structs = longer_itself k.structs; frames = λ t e. absurd (false≢true t) })

mutual
  pub of_expression : {tags : Bool} (it : c.Expression) (role : Use) (k : Known) → is_pure it ≡ true → Grow tags k (expression it role k)
  of_expression (c.Name w) role k p = numbered (finished _ role _ (record k { next = k.next + 1 }))
  of_expression (c.Constant w) role k p = numbered (finished _ role _ (record k { next = k.next + 1 }))
  of_expression (c.Text bytes) role k p =
      let first : Known = record k { next = k.next + 1 } in
      numbered (one_more first (text_object k.next first bytes) (text_further k.next first bytes) (finished _ role _ _))
  of_expression (c.Index whole index) role k p =
      numbered (bind (of_expression whole as_value _ (and_first (is_pure whole) (is_pure index) p)) (λ x j. bind (of_expression index as_value j (and_second (is_pure whole) (is_pure index) p)) (λ y j. finished _ role (judge_index x y j) j)))
  of_expression (c.Call callee arguments) role k p = absurd (false≢true p)
  of_expression (c.Member whole w) role k p = numbered (bind (of_expression whole as_place _ p) (λ x j. finished _ role (judge_member x w j) j))
  of_expression (c.Arrow pointer w) role k p = numbered (bind (of_expression pointer as_value _ p) (λ x j. finished _ role (judge_arrow x w j) j))
  of_expression (c.PostInc target) role k p = absurd (false≢true p)
  of_expression (c.PostDec target) role k p = absurd (false≢true p)
  of_expression (c.PreInc target) role k p = absurd (false≢true p)
  of_expression (c.PreDec target) role k p = absurd (false≢true p)
  of_expression (c.Unary op operand) role k p = numbered (bind (of_expression operand (operand_of op) _ p) (λ x j. finished _ role (judge_unary op x j) j))
  of_expression (c.SizeofExpr operand) role k p =
      numbered (bind (unmarked {k = record k { next = k.next + 1 }} (of_expression operand as_place _ p)) (λ x j. finished _ role (judge_size (own_type x) j) j))
  of_expression (c.SizeofType s d) role k p =
      numbered (bind (of_specifiers s (setting_in_sizeof d) _ (and_first (is_pure_specifiers s) (is_pure_declarator d) p)) (λ it j.
      bind (of_declarator d it (λ name known b. type_name_faults b) j (and_second (is_pure_specifiers s) (is_pure_declarator d) p))
      (λ t j. finished _ role (also t.faults (judge_size t.type j)) j)))
  of_expression (c.Cast s d operand) role k p =
      let front = and_first (is_pure_specifiers s && is_pure_declarator d) (is_pure operand) p in
      numbered (bind (of_specifiers s elsewhere _ (and_first (is_pure_specifiers s) (is_pure_declarator d) front)) (λ it j.
      bind (of_declarator d it (λ name known b. type_name_faults b) j (and_second (is_pure_specifiers s) (is_pure_declarator d) front)) (λ t j.
      bind (of_expression operand as_value j (and_second (is_pure_specifiers s && is_pure_declarator d) (is_pure operand) p))
      (λ x j. finished _ role (also t.faults (judge_cast t.type x j)) j))))
  of_expression (c.Binary op left right) role k p =
      numbered (bind (of_expression left as_value _ (and_first (is_pure left) (is_pure right) p)) (λ x j. bind (of_expression right as_value j (and_second (is_pure left) (is_pure right) p)) (λ y j. finished _ role (judge_binary op x y j) j)))
  of_expression (c.Logical op left right) role k p =
      numbered (bind (of_expression left as_truth _ (and_first (is_pure left) (is_pure right) p)) (λ x j. bind (of_expression right as_truth j (and_second (is_pure left) (is_pure right) p)) (λ y j. finished _ role (judge_logical op x y) j)))
  of_expression (c.Conditional test left right) role k p =
      let front = and_first (is_pure test && is_pure left) (is_pure right) p in
      numbered (bind (of_expression test as_truth _ (and_first (is_pure test) (is_pure left) front)) (λ x j. bind (of_expression left as_value j (and_second (is_pure test) (is_pure left) front)) (λ y j.
      bind (of_expression right as_value j (and_second (is_pure test && is_pure left) (is_pure right) p))
      (λ z j. finished _ role (judge_conditional x y z j) j))))
  of_expression (c.Assign op target value) role k p = absurd (false≢true p)
  of_expression (c.Comma list) role k p = numbered (bind (of_expressions list _ p) (λ xs j. finished _ role (judge_comma xs) j))
  of_expression (c.Marked ms value) role k p = absurd (false≢true p)
  of_expression (c.Decide operand when_true when_false tag) role k p = absurd (false≢true p)
  of_expression (c.After operand id tag) role k p = absurd (false≢true p)

  of_expressions : {tags : Bool} (them : c.Expressions) (k : Known) → are_pure them ≡ true → Grow tags k (expressions them k)
  of_expressions c.no_expressions k p = went (still k)
  of_expressions (c.an_expression first rest) k p =
      bind (of_expression first as_value k (and_first (is_pure first) (are_pure rest) p)) (λ x j. bind (of_expressions rest j (and_second (is_pure first) (are_pure rest) p)) (λ xs j. went (still j)))

  of_maybe : {tags : Bool} (it : c.Maybe) (k : Known) → is_pure_maybe it ≡ true → Grow tags k (maybe it k)
  of_maybe c.absent k p = went (still k)
  of_maybe (c.present it) k p = bind (unmarked (of_expression it as_value (record k { is_unmarked = true }) p)) (λ x j. went (still j))

  of_specifiers : {tags : Bool} (it : c.Specifiers) (setting : Setting) (k : Known) → is_pure_specifiers it ≡ true → Grow tags k (specifiers it setting k)
  of_specifiers (c.specifiers words types) setting k p = bind (of_types types (beside_words words setting) k p) (λ namings j. went (still j))

  of_types : {tags : Bool} (them : c.TypeSpecifiers) (setting : Setting) (k : Known) → are_pure_types them ≡ true → Grow tags k (type_specifiers them setting k)
  of_types c.no_types setting k p = went (still k)
  of_types (c.a_type first rest) setting k p =
      bind (of_type first setting k (and_first (is_pure_type first) (are_pure_types rest) p)) (λ it j. bind (of_types rest setting j (and_second (is_pure_type first) (are_pure_types rest) p)) (λ others j. went (still j)))

  of_type : {tags : Bool} (it : c.TypeSpecifier) (setting : Setting) (k : Known) → is_pure_type it ≡ true → Grow tags k (type_specifier it setting k)
  of_type (c.Basic type) setting k p = went (still k)
  of_type (c.Word word) setting k p = went (still k)
  of_type (c.StructTag tag) setting k p = struct_found tag (if is_alone setting then tag_here tag k else tagged_in tag k.frames) k
  of_type (c.Struct tag list) setting k p = absurd (false≢true p)
  of_type (c.EnumTag tag) setting k p = went (still k)
  of_type (c.Enum tag list) setting k p = absurd (false≢true p)
  of_type (c.Named name) setting k p = went (still k)

  of_declarator : {tags : Bool} (it : c.Declarator) (sp : Specified) (judge : Option (List ℕ) → Known → Built → List Rule) (k : Known) → is_pure_declarator it ≡ true → Grow tags k (declarator it sp false judge k)
  of_declarator (c.declarator name ps) sp judge k p =
      bind (may_enter (is_written name ps) k) (λ node j. bind (of_parts ps sp.type true j p) (λ b j. ended_declarator node name b (all_faults sp b (judge name j b)) j))

  of_parts : {tags : Bool} (them : c.Parts) (t : CType) (is_outermost : Bool) (k : Known) → are_pure_parts them ≡ true → Grow tags k (parts them t false is_outermost k)
  of_parts c.no_parts t is_outermost k p = went (still k)
  of_parts (c.Pointer q rest) t is_outermost k p = bind (of_parts rest t false k p) (λ inner j. went (still j))
  of_parts (c.Array length rest) t is_outermost k p =
      bind (of_maybe length k (and_first (is_pure_maybe length) (are_pure_parts rest) p)) (λ n j. bind (of_parts rest t false j (and_second (is_pure_maybe length) (are_pure_parts rest) p)) (λ inner j. went (still j)))
  of_parts (c.Function them rest) t is_outermost k p =
      bind (scoped {k = k} (of_parameters them (record k { frames = no_names ∷ k.frames }) (and_first (are_pure_parameters them) (are_pure_parts rest) p))) (λ found j.
      bind (of_parts rest t false j (and_second (are_pure_parameters them) (are_pure_parts rest) p)) (λ inner j. went (still j)))

  of_parameters : (them : c.Parameters) (k : Known) → are_pure_parameters them ≡ true → Grow false k (parameters them false k)
  of_parameters c.Unstated k p = went (still k)
  of_parameters c.Void k p = went (still k)
  of_parameters (c.Listed list) k p = of_parameter_list list k p
  of_parameters (c.Open list) k p = bind (of_parameter_list list k p) (λ them j. went (still j))

  of_parameter_list : (them : c.ParameterList) (k : Known) → is_pure_parameter_list them ≡ true → Grow false k (parameter_list them false k)
  of_parameter_list c.no_parameters k p = went (still k)
  of_parameter_list (c.a_parameter sp d rest) k p =
      let front = and_first (is_pure_specifiers sp && is_pure_declarator d) (is_pure_parameter_list rest) p in
      bind (of_specifiers sp elsewhere k (and_first (is_pure_specifiers sp) (is_pure_declarator d) front)) (λ it j.
      bind (of_declarator d it (parameter_faults false) j (and_second (is_pure_specifiers sp) (is_pure_declarator d) front))
      (λ declared j. bind (bound (is_register it) declared.node declared.name (adjusted declared.type) j)
      (λ objects j. bind (of_parameter_list rest j (and_second (is_pure_specifiers sp && is_pure_declarator d) (is_pure_parameter_list rest) p)) (λ others j. went (still j)))))
