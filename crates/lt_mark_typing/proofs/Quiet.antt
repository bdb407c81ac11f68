-- Going over pure expressions finds no label and no function, and objects stay those that they were, with further ones behind them. So those of the text are
-- typed alike where labels are put in front of them.
use Rattle.std.proofs.Common.{◌≡◌, ℕ, ◌+◌, List, [], ◌∷◌, ◌++◌, Option, Some, None, Bool, true, false, refl, sym, ap, ◌∙◌, subst, append_assoc}
use Rattle.std.proofs.lemmas.Bool.{false≢true}
use Rattle.std.proofs.lemmas.List.{append-nil}
use Rattle.std.specs.Prelude.{◌&&◌, if◌then◌else◌}
use Rattle.std.specs.List.{AllByRecursion}
use Rattle.lt_model.specs.declared.scalar.Scalar.TheVariants as S
use Rattle.lt_tree.specs.Tree as c
use Rattle.lt_tree.specs.Purity.{is_pure, are_pure, is_pure_specifiers, are_pure_types, is_pure_type, is_pure_declarator, are_pure_parts, is_pure_maybe, are_pure_parameters, is_pure_parameter_list}
use Rattle.lt_tree.specs.Nodes.{in_expression}
use Rattle.lt_tree.specs.Typing.Types.{CType, adjusted}
use Rattle.lt_tree.specs.Typing.Rules.{Rule, least}
use Rattle.lt_tree.specs.Typing.TypedTree.{letters}
use Rattle.lt_tree.specs.Typing.Entities.{Known, Object, Function, Label, Fact, Frame, no_names, literal, unmade, Tagged, a_struct, an_enum, tag_here, tagged_in}
use Rattle.lt_tree.specs.Typing.Steps.{Outcome, Goes, Breaks, goes_on, settle, unless_broken, left, marked_again}
use Rattle.lt_tree.specs.Typing.Expressions.{Typed, Use, Judged, as_value, as_truth, as_place, own_type, faults_of_any, finish}
use Rattle.lt_tree.specs.Typing.Operations.{text_type, judge_size, judge_member, judge_arrow, judge_index, judge_cast}
use Rattle.lt_tree.specs.Typing.BinaryOperations.{judge_binary, judge_logical, judge_conditional, judge_comma}
use Rattle.lt_tree.specs.Typing.Specifying.{Specified, is_register, Setting, elsewhere, is_alone, beside_words, struct_tagged}
use Rattle.lt_tree.specs.Typing.Declarators.{Built, all_faults, setting_in_sizeof, is_written, type_name_faults, parameter_faults, binds_parameter}
use Rattle.lt_tree.specs.Typing.NodeEnds.{judge_unary, text_object, operand_of, also, end_of_declarator, enter_if}
use Rattle.lt_tree.specs.Typing.ExpressionTyping.{expression, expressions, maybe, specifiers, type_specifiers, type_specifier, declarator, parts, parameters, parameter_list}
use Rattle.lt_mark_laws.proofs.Lists.{all_both}
use Rattle.lt_object_laws.specs.Renamed.{renumbered}
use Rattle.lt_object_laws.specs.Further.{IsFurther, a_string, never_made}
use Rattle.lt_mark_typing.specs.Further.{Agrees}
use Rattle.lt_mark_typing.specs.Beside.{IsBeside, Follows, goes}
use Rattle.lt_mark_typing.specs.Placed.{AreOld, IsAt, IsThere}
use Rattle.lt_mark_typing.proofs.Numbers.{agrees_before, agrees_so_far}
use Rattle.lt_mark_typing.proofs.Going.{with_others}
use Rattle.lt_mark_typing.proofs.Renumbering.{own_type_with}
use Rattle.lt_mark_typing.proofs.Steps.{SameWith}
use Rattle.lt_mark_typing.proofs.Unchanged as unchanged

-- these objects, with further ones behind them
abbrev IsLonger : List Object → List Object → Type 0
IsLonger os xs = (more : List Object) × AllByRecursion IsFurther more × (xs ≡ os ++ more)

record Kept (ls : List Label) (fs : List Function) (os : List Object) (labels : List Label) (functions : List Function) (objects : List Object) : Type 0 where
  labels_same : labels ≡ ls
  functions_same : functions ≡ fs
  longer : IsLonger os objects

-- what is known behind a walk has these labels and functions, and these objects first
data Keeps {A : Type 0} (ls : List Label) (fs : List Function) (os : List Object) : Outcome A → Type 0 where
  went : {a : A} {known : Known} → Kept ls fs os known.labels known.functions known.objects → Keeps ls fs os (Goes a known)
  broke : {rule : Rule} {node : ℕ} → Keeps ls fs os (Breaks rule node)

pub and_first : (a b : Bool) → a && b ≡ true → a ≡ true
and_first true b h = refl
and_first false b h = absurd (false≢true h)

pub and_second : (a b : Bool) → a && b ≡ true → b ≡ true
and_second true b h = h
and_second false b h = absurd (false≢true h)

-- a string literal, in `sizeof` or not
text_further : (node : ℕ) (known : Known) (bytes : List ℕ) → IsFurther (text_object node known bytes)
text_further node known bytes = by known.is_unmarked
  where
    by : (b : Bool) → IsFurther (record { node = node; name = []; type = text_type bytes; life = if b then unmade else literal; start = Some (record { zeroed = true; parts = letters 0 S.Char bytes ∷ [] }) })
    by true = never_made refl
    by false = a_string refl refl tt

module _ {ls : List Label} {fs : List Function} {os : List Object} where
  bind : {A B : Type 0} {o : Outcome A} {rest : A → Known → Outcome B} → Keeps ls fs os o → ((a : A) (known : Known) → Kept ls fs os known.labels known.functions known.objects → Keeps ls fs os (rest a known)) → Keeps ls fs os (goes_on o rest)
  bind (went {a} {known} h) f = f a known h
  bind broke f = broke

  judged : (node : ℕ) (rules : List Rule) (known : Known) → Kept ls fs os known.labels known.functions known.objects → Keeps ls fs os (settle node rules known)
  judged node rules known h = elim (least rules) as (λ rule. Keeps ls fs os (unless_broken rule node known)) [ None ↦ went h | Some rule ↦ broke ]

  unmarked : {A : Type 0} {o : Outcome A} (was : Bool) → Keeps ls fs os o → Keeps ls fs os (marked_again was o)
  unmarked was (went h) = went h
  unmarked was broke = broke

  scoped : {A : Type 0} {o : Outcome A} (frames : List Frame) → Keeps ls fs os o → Keeps ls fs os (goes_on (left frames o) (λ r known. Goes r.0 known))
  scoped frames (went h) = went h
  scoped frames broke = broke

  finished : (node : ℕ) (role : Use) (it : Judged) (known : Known) → Kept ls fs os known.labels known.functions known.objects → Keeps ls fs os (finish node role it known)
  unfolding finish
  finished node role it known h = bind (judged node (it.faults ++ faults_of_any known.structs role it.typed) known h) (λ u k h. went h)

  one_more : {labels : List Label} {functions : List Function} {objects : List Object} (o : Object) → IsFurther o → Kept ls fs os labels functions objects → Kept ls fs os labels functions (objects ++ o ∷ [])
  one_more o f h = record {
    labels_same = h.labels_same;
    functions_same = h.functions_same;
    longer = (h.longer.0 ++ o ∷ [], all_both IsFurther h.longer.0 (o ∷ []) h.longer.1 (f, tt), ap (λ l. l ++ o ∷ []) h.longer.2 ∙ append_assoc os h.longer.0 (o ∷ []));
  }

  struct_found : (tag : List ℕ) (found : Option Tagged) (known : Known) → Kept ls fs os known.labels known.functions known.objects → Keeps ls fs os (struct_tagged tag found known)
  struct_found tag None known h = went h
  struct_found tag (Some (a_struct k)) known h = went h
  struct_found tag (Some (an_enum is_complete)) known h = went h

  may_enter : (written : Bool) (known : Known) → Kept ls fs os known.labels known.functions known.objects → Keeps ls fs os (enter_if written known)
  may_enter true known h = went h
  may_enter false known h = went h

  ended_declarator : (node : Option ℕ) (name : Option (List ℕ)) (b : Built) (faults : List Rule) (known : Known) → Kept ls fs os known.labels known.functions known.objects → Keeps ls fs os (end_of_declarator node name b faults known)
  ended_declarator None name b faults known h = went h
  ended_declarator (Some node) name b faults known h = bind (judged node faults known h) (λ u k h. went h)

  -- a parameter of a type name
  bound : (is_register : Bool) (node : ℕ) (name : Option (List ℕ)) (t : CType) (known : Known) → Kept ls fs os known.labels known.functions known.objects → Keeps ls fs os (binds_parameter false is_register node name t known)
  bound is_register node None t known h = went h
  bound is_register node (Some name) t known h = went (one_more _ (never_made refl) h)

  mutual
    of_expression : (it : c.Expression) (role : Use) (known : Known) → is_pure it ≡ true → Kept ls fs os known.labels known.functions known.objects → Keeps ls fs os (expression it role known)
    of_expression (c.Name w) role known p h = finished _ role _ (record known { next = known.next + 1 }) h
    of_expression (c.Constant w) role known p h = finished _ role _ (record known { next = known.next + 1 }) h
    of_expression (c.Text bytes) role known p h = finished _ role _ (record known { next = known.next + 1; objects = known.objects ++ text_object known.next (record known { next = known.next + 1 }) bytes ∷ [] }) (one_more (text_object known.next (record known { next = known.next + 1 }) bytes) (text_further known.next (record known { next = known.next + 1 }) bytes) h)
    of_expression (c.Index whole index) role known p h =
        bind (of_expression whole as_value (record known { next = known.next + 1 }) (and_first (is_pure whole) (is_pure index) p) h) (λ x k h. bind (of_expression index as_value k (and_second (is_pure whole) (is_pure index) p) h) (λ y k h. finished _ role (judge_index x y k) k h))
    of_expression (c.Call callee arguments) role known p h = absurd (false≢true p)
    of_expression (c.Member whole w) role known p h = bind (of_expression whole as_place (record known { next = known.next + 1 }) p h) (λ x k h. finished _ role (judge_member x w k) k h)
    of_expression (c.Arrow pointer w) role known p h = bind (of_expression pointer as_value (record known { next = known.next + 1 }) p h) (λ x k h. finished _ role (judge_arrow x w k) k h)
    of_expression (c.PostInc target) role known p h = absurd (false≢true p)
    of_expression (c.PostDec target) role known p h = absurd (false≢true p)
    of_expression (c.PreInc target) role known p h = absurd (false≢true p)
    of_expression (c.PreDec target) role known p h = absurd (false≢true p)
    of_expression (c.Unary op operand) role known p h = bind (of_expression operand (operand_of op) (record known { next = known.next + 1 }) p h) (λ x k h. finished _ role (judge_unary op x k) k h)
    of_expression (c.SizeofExpr operand) role known p h =
        bind (unmarked known.is_unmarked (of_expression operand as_place (record known { next = known.next + 1; is_unmarked = true }) p h)) (λ x k h. finished _ role (judge_size (own_type x) k) k h)
    of_expression (c.SizeofType s d) role known p h =
        bind (of_specifiers s (setting_in_sizeof d) (record known { next = known.next + 1 }) (and_first (is_pure_specifiers s) (is_pure_declarator d) p) h) (λ it k h.
        bind (of_declarator d it (λ name known b. type_name_faults b) k (and_second (is_pure_specifiers s) (is_pure_declarator d) p) h)
        (λ t k h. finished _ role (also t.faults (judge_size t.type k)) k h))
    of_expression (c.Cast s d operand) role known p h =
        let front = and_first (is_pure_specifiers s && is_pure_declarator d) (is_pure operand) p in
        bind (of_specifiers s elsewhere (record known { next = known.next + 1 }) (and_first (is_pure_specifiers s) (is_pure_declarator d) front) h) (λ it k h.
        bind (of_declarator d it (λ name known b. type_name_faults b) k (and_second (is_pure_specifiers s) (is_pure_declarator d) front) h) (λ t k h.
        bind (of_expression operand as_value k (and_second (is_pure_specifiers s && is_pure_declarator d) (is_pure operand) p) h)
        (λ x k h. finished _ role (also t.faults (judge_cast t.type x k)) k h)))
    of_expression (c.Binary op left right) role known p h =
        bind (of_expression left as_value (record known { next = known.next + 1 }) (and_first (is_pure left) (is_pure right) p) h) (λ x k h. bind (of_expression right as_value k (and_second (is_pure left) (is_pure right) p) h) (λ y k h. finished _ role (judge_binary op x y k) k h))
    of_expression (c.Logical op left right) role known p h =
        bind (of_expression left as_truth (record known { next = known.next + 1 }) (and_first (is_pure left) (is_pure right) p) h) (λ x k h. bind (of_expression right as_truth k (and_second (is_pure left) (is_pure right) p) h) (λ y k h. finished _ role (judge_logical op x y) k h))
    of_expression (c.Conditional test left right) role known p h =
        let front = and_first (is_pure test && is_pure left) (is_pure right) p in
        bind (of_expression test as_truth (record known { next = known.next + 1 }) (and_first (is_pure test) (is_pure left) front) h) (λ x k h. bind (of_expression left as_value k (and_second (is_pure test) (is_pure left) front) h) (λ y k h.
        bind (of_expression right as_value k (and_second (is_pure test && is_pure left) (is_pure right) p) h)
        (λ z k h. finished _ role (judge_conditional x y z k) k h)))
    of_expression (c.Assign op target value) role known p h = absurd (false≢true p)
    of_expression (c.Comma list) role known p h = bind (of_expressions list (record known { next = known.next + 1 }) p h) (λ xs k h. finished _ role (judge_comma xs) k h)
    of_expression (c.Marked ms value) role known p h = absurd (false≢true p)
    of_expression (c.Decide operand when_true when_false tag) role known p h = absurd (false≢true p)
    of_expression (c.After operand id tag) role known p h = absurd (false≢true p)

    of_expressions : (them : c.Expressions) (known : Known) → are_pure them ≡ true → Kept ls fs os known.labels known.functions known.objects → Keeps ls fs os (expressions them known)
    of_expressions c.no_expressions known p h = went h
    of_expressions (c.an_expression first rest) known p h =
        bind (of_expression first as_value known (and_first (is_pure first) (are_pure rest) p) h) (λ x k h. bind (of_expressions rest k (and_second (is_pure first) (are_pure rest) p) h) (λ xs k h. went h))

    of_maybe : (it : c.Maybe) (known : Known) → is_pure_maybe it ≡ true → Kept ls fs os known.labels known.functions known.objects → Keeps ls fs os (maybe it known)
    of_maybe c.absent known p h = went h
    of_maybe (c.present it) known p h = bind (unmarked known.is_unmarked (of_expression it as_value (record known { is_unmarked = true }) p h)) (λ x k h. went h)

    of_specifiers : (it : c.Specifiers) (setting : Setting) (known : Known) → is_pure_specifiers it ≡ true → Kept ls fs os known.labels known.functions known.objects → Keeps ls fs os (specifiers it setting known)
    of_specifiers (c.specifiers words types) setting known p h = bind (of_types types (beside_words words setting) known p h) (λ namings k h. went h)

    of_types : (them : c.TypeSpecifiers) (setting : Setting) (known : Known) → are_pure_types them ≡ true → Kept ls fs os known.labels known.functions known.objects → Keeps ls fs os (type_specifiers them setting known)
    of_types c.no_types setting known p h = went h
    of_types (c.a_type first rest) setting known p h =
        bind (of_type first setting known (and_first (is_pure_type first) (are_pure_types rest) p) h) (λ it k h. bind (of_types rest setting k (and_second (is_pure_type first) (are_pure_types rest) p) h) (λ others k h. went h))

    of_type : (it : c.TypeSpecifier) (setting : Setting) (known : Known) → is_pure_type it ≡ true → Kept ls fs os known.labels known.functions known.objects → Keeps ls fs os (type_specifier it setting known)
    of_type (c.Basic type) setting known p h = went h
    of_type (c.Word word) setting known p h = went h
    of_type (c.StructTag tag) setting known p h = struct_found tag (if is_alone setting then tag_here tag known else tagged_in tag known.frames) known h
    of_type (c.Struct tag list) setting known p h = absurd (false≢true p)
    of_type (c.EnumTag tag) setting known p h = went h
    of_type (c.Enum tag list) setting known p h = absurd (false≢true p)
    of_type (c.Named name) setting known p h = went h

    of_declarator : (it : c.Declarator) (sp : Specified) (judge : Option (List ℕ) → Known → Built → List Rule) (known : Known) → is_pure_declarator it ≡ true → Kept ls fs os known.labels known.functions known.objects
        → Keeps ls fs os (declarator it sp false judge known)
    of_declarator (c.declarator name ps) sp judge known p h =
        bind (may_enter (is_written name ps) known h) (λ node k h. bind (of_parts ps sp.type true k p h)
        (λ b k h. ended_declarator node name b (all_faults sp b (judge name k b)) k h))

    of_parts : (them : c.Parts) (t : CType) (is_outermost : Bool) (known : Known) → are_pure_parts them ≡ true → Kept ls fs os known.labels known.functions known.objects → Keeps ls fs os (parts them t false is_outermost known)
    of_parts c.no_parts t is_outermost known p h = went h
    of_parts (c.Pointer q rest) t is_outermost known p h = bind (of_parts rest t false known p h) (λ inner k h. went h)
    of_parts (c.Array length rest) t is_outermost known p h =
        bind (of_maybe length known (and_first (is_pure_maybe length) (are_pure_parts rest) p) h) (λ n k h. bind (of_parts rest t false k (and_second (is_pure_maybe length) (are_pure_parts rest) p) h) (λ inner k h. went h))
    of_parts (c.Function them rest) t is_outermost known p h =
        bind (scoped known.frames (of_parameters them (record known { frames = no_names ∷ known.frames }) (and_first (are_pure_parameters them) (are_pure_parts rest) p) h)) (λ found k h.
        bind (of_parts rest t false k (and_second (are_pure_parameters them) (are_pure_parts rest) p) h) (λ inner k h. went h))

    of_parameters : (them : c.Parameters) (known : Known) → are_pure_parameters them ≡ true → Kept ls fs os known.labels known.functions known.objects → Keeps ls fs os (parameters them false known)
    of_parameters c.Unstated known p h = went h
    of_parameters c.Void known p h = went h
    of_parameters (c.Listed list) known p h = of_parameter_list list known p h
    of_parameters (c.Open list) known p h = bind (of_parameter_list list known p h) (λ them k h. went h)

    of_parameter_list : (them : c.ParameterList) (known : Known) → is_pure_parameter_list them ≡ true → Kept ls fs os known.labels known.functions known.objects → Keeps ls fs os (parameter_list them false known)
    of_parameter_list c.no_parameters known p h = went h
    of_parameter_list (c.a_parameter sp d rest) known p h =
        let front = and_first (is_pure_specifiers sp && is_pure_declarator d) (is_pure_parameter_list rest) p in
        bind (of_specifiers sp elsewhere known (and_first (is_pure_specifiers sp) (is_pure_declarator d) front) h) (λ it k h.
        bind (of_declarator d it (parameter_faults false) k (and_second (is_pure_specifiers sp) (is_pure_declarator d) front) h)
        (λ declared k h. bind (bound (is_register it) declared.node declared.name (adjusted declared.type) k h)
        (λ objects k h. bind (of_parameter_list rest k (and_second (is_pure_specifiers sp && is_pure_declarator d) (is_pure_parameter_list rest) p) h) (λ others k h. went h))))

-- ---- predicates

module _ {new : ℕ → Bool} {used : List ℕ} where
  there_by : (test : CType → Bool) (x : Typed) (k l : Known) (n : ℕ) (more : List Object) (facts : List Fact) (it : c.Expression) (o : Outcome Typed) → expression it as_value l ≡ o → test (own_type x) ≡ true
      → {further : List Bool} → IsBeside new used further k l
      → Follows new used further SameWith (Goes x (record k { next = n; objects = k.objects ++ more; facts = facts })) o → Keeps l.labels l.functions l.objects o → IsAt test l it
  there_by test x k l n more facts it (Goes y j) q t b (goes behind e s d) (went h) =
      (y, j.next, j.facts, h.longer.0, h.longer.1, q ∙ ap (Goes y) same, ap test (ap own_type (s r a) ∙ own_type_with r x) ∙ t)
    where
      r : ℕ → ℕ
      r = renumbered behind

      a : Agrees r behind
      a = agrees_so_far behind

      same : j ≡ record l { next = j.next; objects = l.objects ++ h.longer.0; facts = j.facts }
      same =
          d.same r a
          ∙ ap (λ those. with_others r k j.next those j.functions j.labels j.facts) h.longer.2
          ∙ ap (λ those. with_others r k j.next (l.objects ++ h.longer.0) those j.labels j.facts) h.functions_same
          ∙ ap (λ those. with_others r k j.next (l.objects ++ h.longer.0) l.functions those j.facts) h.labels_same
          ∙ sym (ap (λ (it : Known). record it { next = j.next; objects = l.objects ++ h.longer.0; facts = j.facts }) (b.same r (agrees_before e a)))
  there_by test x k l n more facts it (Breaks rule node) q t b d h = elim d [ ]

  -- one that is a scalar, or passes another test
  pub pure_there : (test : CType → Bool) (known : Known) (it : c.Expression) (x : Typed) (n : ℕ) (facts : List Fact) (more : List Object) → is_pure it ≡ true → AreOld new (in_expression it)
      → expression it as_value known ≡ Goes x (record known { next = n; objects = known.objects ++ more; facts = facts }) → test (own_type x) ≡ true → IsThere test new used known it
  pure_there test known it x n facts more p h q t = (
    p,
    λ further l b.
        there_by test x known l n more facts it (expression it as_value l) refl t b
        (subst (λ o. Follows new used further SameWith o (expression it as_value l)) q (unchanged.of_expression it as_value h b))
        (of_expression it as_value l p (record { labels_same = refl; functions_same = refl; longer = ([], tt, sym (append-nil l.objects)) })),
  )
