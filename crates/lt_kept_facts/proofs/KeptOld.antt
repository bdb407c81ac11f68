-- Expressions and type names in which no mark is added note the same in both texts.
use Rattle.std.proofs.Common.{◌≡◌, refl, sym, ap, ◌∙◌, subst, ℕ, ℤ, pos, Bool, true, false, if◌then◌else◌, List, [], ◌∷◌, ◌++◌, length, Option, Some, None}
use Rattle.std.specs.Prelude.{option_map}
use Rattle.lt_tree.specs.Tree as c
use Rattle.lt_tree.specs.Nodes as n
use Rattle.lt_tree.specs.Nodes.{Node, an_expression, in_expression, in_expressions, in_maybe, in_mark, in_marks, in_specifiers, in_types, in_type, in_members, in_member_declarators, in_enumerators, in_declarator, if_written, in_parts, in_parameters, in_parameter_list}
use Rattle.lt_tree.specs.Typing.Types.{CType, adjusted}
use Rattle.lt_tree.specs.Typing.Extents.{Member}
use Rattle.lt_tree.specs.Typing.Constants.{constant_of, is_form, is_null_constant}
use Rattle.lt_tree.specs.Typing.Rules.{Rule, broken_if, incomplete_type}
use Rattle.lt_tree.specs.Typing.Entities.{Known, Fact, meaning_of, tag_here, tagged_in, no_names}
use Rattle.lt_tree.specs.Typing.Steps.{Outcome, Goes, goes_on}
use Rattle.lt_tree.specs.Typing.Expressions.{Typed, Use, as_value, as_truth, as_place, as_callee, own_type}
use Rattle.lt_tree.specs.Typing.Operations.{judge_name, judge_constant, judge_size, judge_cast}
use Rattle.lt_tree.specs.Typing.MarkRules.{inside_mark, inside_after}
use Rattle.lt_tree.specs.Typing.Specifying.{Specified, is_register, Setting, is_alone, elsewhere, beside_words, enum_tagged, typedef_named, value_given}
use Rattle.lt_tree.specs.Typing.Declarators.{Parameters, Built, Declares, all_faults, setting_in_sizeof, type_name_faults, parameter_faults, binds_parameter, parameter_before, member_faults, with_member, has_width}
use Rattle.lt_tree.specs.Typing.NodeEnds.{end_of_enumerator, text_object, text_at, operand_of, also as faults_too, is_no_declarator, alone_faults}
use Rattle.lt_tree.specs.Typing.ExpressionTyping.{expressions, maybe, mark, specifiers, type_specifiers, type_specifier, members, member_declarators, enumerators, declarator, parts, parameters, parameter_list}
use Rattle.lt_tree_laws.specs.Typing.NodeNumbers.{GoesOver}
use Rattle.lt_typed_nodes.specs.Laws.{NotesItsNodes}
use Rattle.lt_mark_typing.specs.Beside.{IsBeside}
use Rattle.lt_mark_typing.specs.Placed.{AreOld, entered}
use Rattle.lt_object_laws.specs.Renamed.{renumbered}
use Rattle.lt_mark_typing.specs.Renumbered.{typed_with}
use Rattle.lt_mark_typing.specs.Further.{Agrees}
use Rattle.lt_mark_typing.proofs.Numbers.{extends_with, agrees_so_far}
use Rattle.lt_mark_typing.proofs.Renumbering.{form_of_with, null_constant_with}
use Rattle.lt_mark_typing.proofs.Going.{entered_beside}
use Rattle.lt_mark_typing.proofs.Nodes.{old_first, old_second}
use Rattle.lt_mark_typing.proofs.Labels.{unmarked_same}
use Rattle.lt_mark_typing.proofs.ObjectNumbers.{object_beside}
use Rattle.lt_mark_typing.proofs.Names.{frames_known, meaning_known, tagged_known, tag_here_known}
use Rattle.lt_mark_typing.proofs.Steps.{declared_as, frames_beside, unmarked_beside}
use Rattle.lt_mark_typing.proofs.Declarators.{built_with}
use Rattle.lt_mark_typing.proofs.Unchanged as u
use Rattle.lt_mark_typing.proofs.Unchanged.{given_with, typedef_with, parameter_same, member_same}
use Rattle.lt_kept_facts.proofs.SeenAlike.{SeenAlike, same_type}
use Rattle.lt_kept_facts.proofs.SeenBinaryOperators.{SeenEach, none_seen, one_seen}
use Rattle.lt_kept_facts.proofs.KeptSteps.{Same, Keeps, Piece, done, joined, after, grouped, so, judges, unnoted}
use Rattle.lt_kept_facts.proofs.KeptNodes.{Rest, rest_since, behind, last, in_groups, finished, noted_node}
use Rattle.lt_kept_facts.proofs.KeptOperators as o
use Rattle.lt_kept_facts.proofs.KeptOperators.{SameNull, Seen, Operand, Whole, made, size_seen, sized_seen, cast_too}
use Rattle.lt_kept_facts.proofs.KeptLeaves.{DeclaresSame, also, joined_same, after_same, joined_declares, unmarked, scoped, struct_found, opened_struct, closed_struct, opened_enum, closed_enum, enumerator_ended, parameter_bound, no_more_parameters, name_seen, constant_seen, text_seen}
use Rattle.lt_kept_facts.proofs.KeptMarks.{old_marks}

-- ---- what doesn't depend on the numbers of objects

same_form : (r : ℕ → ℕ) (x y : Typed) → y ≡ typed_with r x → is_form y.constancy ≡ is_form x.constancy
same_form r x y q = ap (λ (it : Typed). is_form it.constancy) q ∙ form_of_with r x.constancy

same_null : (r : ℕ → ℕ) (role : Use) (x y : Typed) → y ≡ typed_with r x → SameNull role x y
same_null r as_value x y q = ap (λ (it : Typed). is_null_constant it.constancy) q ∙ null_constant_with r x.constancy
same_null r as_truth x y q = tt
same_null r as_place x y q = ap (λ (it : Typed). is_null_constant it.constancy) q ∙ null_constant_with r x.constancy
same_null r as_callee x y q = ap (λ (it : Typed). is_null_constant it.constancy) q ∙ null_constant_with r x.constancy

-- what may be left out is the same but for the numbers of objects
abbrev pub SameMaybe : Option Typed → Option Typed → Type 0
SameMaybe x y = (r : ℕ → ℕ) × (y ≡ option_map (typed_with r) x)

given_same : (counted : ℤ) (x y : Option Typed) → SameMaybe x y → value_given counted y ≡ value_given counted x
given_same counted x y s = ap (value_given counted) s.1 ∙ given_with s.0 counted x

-- ---- names and tags

module _ {new : ℕ → Bool} {ids : List ℕ} {further : List Bool} {k l : Known} (b : IsBeside new ids further k l) where
  tagged_there : (tag : List ℕ) → tagged_in tag l.frames ≡ tagged_in tag k.frames
  tagged_there tag = tagged_known b (renumbered further) (agrees_so_far further) tag

  tag_found : (setting : Setting) (tag : List ℕ) → (if is_alone setting then tag_here tag l else tagged_in tag l.frames) ≡ (if is_alone setting then tag_here tag k else tagged_in tag k.frames)
  tag_found setting tag = by (is_alone setting)
    where
      by : (t : Bool) → (if t then tag_here tag l else tagged_in tag l.frames) ≡ (if t then tag_here tag k else tagged_in tag k.frames)
      by true = tag_here_known b (renumbered further) (agrees_so_far further) tag
      by false = tagged_there tag

  named_there : (name : List ℕ) → typedef_named (meaning_of name l) ≡ typedef_named (meaning_of name k)
  named_there name = ap typedef_named (meaning_known b (renumbered further) (agrees_so_far further) name) ∙ typedef_with (renumbered further) (meaning_of name k)

-- a part of a node of which the same comes
behind_same : {F G : List Fact} {new : ℕ → Bool} {A : Type 0} {ids after : List ℕ} {further : List Bool} {S Q : Typed → Typed → Type 0} {node at k j : ℕ} {facts others : List Fact} {xs ys xs' ys' : List Node} {o p : Outcome A} {f g : A → Known → Outcome Typed}
    → Keeps F G new ids further Same k facts xs j others ys o p
    → ((a : A) (m n : Known) → o ≡ Goes a m → (behind : List Bool) → IsBeside new ids behind m n → Rest F G new after behind S Q node m.next m.facts xs' at n.next n.facts ys' (f a m) (g a n))
    → Rest F G new after further S Q node k facts (xs ++ xs') at j others (ys ++ ys') (goes_on o f) (goes_on p g)
behind_same {F} {G} {new} {after = after} {S = S} {Q} {node} {at} {xs' = xs'} {ys' = ys'} {f = f} {g = g} d t =
    behind d (λ a b m n e i r flags s. subst (λ it. Rest F G new after flags S Q node m.next m.facts xs' at n.next n.facts ys' (f a m) (g it n)) (sym r) (t a m n e flags s))

module _ {F G : List Fact} {new : ℕ → Bool} where
  -- a cast to the type that is declared so
  pub cast_kept : {ids between after : List ℕ} {further : List Bool} (role : Use) (k l : Known) {s : c.Specifiers} {t : c.Declarator} {d i : c.Expression}
      → Piece F G new ids further Same (entered k) (in_specifiers s) (entered l) (in_specifiers s) (specifiers s elsewhere (entered k)) (specifiers s elsewhere (entered l))
      → ((it : Specified) (m n : Known) → specifiers s elsewhere (entered k) ≡ Goes it m → (behind : List Bool) → IsBeside new ids behind m n → Piece F G new between behind DeclaresSame m (in_declarator t) n (in_declarator t) (declarator t it false (λ name known b. type_name_faults b) m) (declarator t it false (λ name known b. type_name_faults b) n))
      → ((it : Specified) (type : Declares) (m o n : Known) → specifiers s elsewhere (entered k) ≡ Goes it m → declarator t it false (λ name known b. type_name_faults b) m ≡ Goes type o → (behind : List Bool) → IsBeside new between behind o n → Operand F G new after behind as_value o d n i)
      → Whole F G new after further role k (c.Cast s t d) l (c.Cast s t i)
  cast_kept role k l {s} {t} {d} {i} p q f = noted_node (an_expression (c.Cast s t d)) (an_expression (c.Cast s t i)) refl refl (λ whole n zs. refl) (λ whole n zs. refl)
      (in_groups (in_specifiers s) (in_declarator t) (in_expression d) (in_specifiers s) (in_declarator t) (in_expression i)
      (behind_same p (λ it m n e flags b. behind (q it m n e flags b) (λ v w m' n e' i' r flags b. last (f it v m m' n e e' flags b)
      (λ x y m n e i s flags b. finished k.next l.next role role (faults_too v.faults (judge_cast v.type x m)) (faults_too w.faults (judge_cast w.type y n))
      (λ h. made role (faults_too v.faults (judge_cast v.type x m)) (faults_too w.faults (judge_cast w.type y n)) (cast_too b x y v.faults v.type w.type (ap (λ (it : Declares). it.type) r) s.seen h)) b)))))

module _ {F G : List Fact} {new : ℕ → Bool} where
  -- a declarator is a node where it has a name or parts
  of_written : {ids : List ℕ} {further : List Bool} (name : Option (List ℕ)) (ps : c.Parts) (sp : Specified) (is_definition : Bool) (judge : Option (List ℕ) → Known → Built → List Rule) (k l : Known) → IsBeside new ids further k l
      → ((k l : Known) → IsBeside new ids further k l → Piece F G new ids further (λ (x y : Built). Unit {0}) k (in_parts ps) l (in_parts ps) (parts ps sp.type is_definition true k) (parts ps sp.type is_definition true l))
      → Piece F G new ids further (λ (x y : Declares). Unit {0}) k (in_declarator (c.declarator name ps)) l (in_declarator (c.declarator name ps)) (declarator (c.declarator name ps) sp is_definition judge k) (declarator (c.declarator name ps) sp is_definition judge l)
  of_written None c.no_parts sp is_definition judge k l b w = done tt b
  of_written None (c.Pointer q rest) sp is_definition judge k l b w = unnoted (n.a_declarator (c.declarator None (c.Pointer q rest))) (n.a_declarator (c.declarator None (c.Pointer q rest))) refl refl (λ whole n zs. refl) (λ whole n zs. refl)
      (after (w (entered k) (entered l) (entered_beside b)) (λ built other m n q q' r flags b.
      after (judges k.next l.next (all_faults sp built (judge None m built)) (all_faults sp other (judge None n other)) b) (λ u v m n q q' r flags b. done {R = λ x y. Unit {0}} tt b)))
  of_written None (c.Array size rest) sp is_definition judge k l b w = unnoted (n.a_declarator (c.declarator None (c.Array size rest))) (n.a_declarator (c.declarator None (c.Array size rest))) refl refl (λ whole n zs. refl) (λ whole n zs. refl)
      (after (w (entered k) (entered l) (entered_beside b)) (λ built other m n q q' r flags b.
      after (judges k.next l.next (all_faults sp built (judge None m built)) (all_faults sp other (judge None n other)) b) (λ u v m n q q' r flags b. done {R = λ x y. Unit {0}} tt b)))
  of_written None (c.Function them rest) sp is_definition judge k l b w = unnoted (n.a_declarator (c.declarator None (c.Function them rest))) (n.a_declarator (c.declarator None (c.Function them rest))) refl refl (λ whole n zs. refl) (λ whole n zs. refl)
      (after (w (entered k) (entered l) (entered_beside b)) (λ built other m n q q' r flags b.
      after (judges k.next l.next (all_faults sp built (judge None m built)) (all_faults sp other (judge None n other)) b) (λ u v m n q q' r flags b. done {R = λ x y. Unit {0}} tt b)))
  of_written (Some name) ps sp is_definition judge k l b w = unnoted (n.a_declarator (c.declarator (Some name) ps)) (n.a_declarator (c.declarator (Some name) ps)) refl refl (λ whole n zs. refl) (λ whole n zs. refl)
      (after (w (entered k) (entered l) (entered_beside b)) (λ built other m n q q' r flags b.
      after (judges k.next l.next (all_faults sp built (judge (Some name) m built)) (all_faults sp other (judge (Some name) n other)) b) (λ u v m n q q' r flags b. done {R = λ x y. Unit {0}} tt b)))

module _ {F G : List Fact} {new : ℕ → Bool} (numbered : (it : c.Mark) (known : Known) → GoesOver (in_mark it) known (mark it known)) (noting : (it : c.Mark) (known : Known) → NotesItsNodes known (mark it known)) where
  as_operand : {ids : List ℕ} {further : List Bool} (it : c.Expression) (role : Use) (k l : Known) → AreOld new (in_expression it) → IsBeside new ids further k l → Whole F G new ids further role k it l it → Operand F G new ids further role k it l it
  as_operand it role k l h b w = so (λ x y r. record { seen = r.0; constancy = λ none. same_form r.1 x y r.2 ∙ none; null = same_null r.1 role x y r.2 }) (also (u.of_expression it role h b) w)

  mutual
    pub of_whole : {ids : List ℕ} {further : List Bool} (it : c.Expression) (role : Use) (k l : Known) → AreOld new (in_expression it) → IsBeside new ids further k l → Whole F G new ids further role k it l it
    of_whole (c.Name w) role k l h b = noted_node (an_expression (c.Name w)) (an_expression (c.Name w)) refl refl (λ whole n zs. refl) (λ whole n zs. refl)
        (finished k.next l.next role role (judge_name role w (meaning_of w k) (entered k)) (judge_name role w (meaning_of w l) (entered l))
        (λ h. made role (judge_name role w (meaning_of w k) (entered k)) (judge_name role w (meaning_of w l) (entered l)) (name_seen (entered_beside b) role w)) (entered_beside b))
    of_whole (c.Constant w) role k l h b = noted_node (an_expression (c.Constant w)) (an_expression (c.Constant w)) refl refl (λ whole n zs. refl) (λ whole n zs. refl)
        (finished k.next l.next role role (judge_constant (constant_of k.model w)) (judge_constant (constant_of l.model w))
        (λ h. made role (judge_constant (constant_of k.model w)) (judge_constant (constant_of l.model w)) (constant_seen b w)) (entered_beside b))
    of_whole {further = further} (c.Text bytes) role k l h b = noted_node (an_expression (c.Text bytes)) (an_expression (c.Text bytes)) refl refl (λ whole n zs. refl) (λ whole n zs. refl)
        (rest_since (extends_with further (false ∷ [])) (finished k.next l.next role role (text_at (entered k) bytes (length k.objects)) (text_at (entered l) bytes (length l.objects))
        (λ h. made role (text_at (entered k) bytes (length k.objects)) (text_at (entered l) bytes (length l.objects)) (text_seen (entered k) (entered l) bytes (length k.objects) (length l.objects)))
        (object_beside (text_object k.next (entered k) bytes) (text_object l.next (entered l) bytes) (λ r a. ap (λ t. text_object l.next (record (entered k) { is_unmarked = t }) bytes) (sym (unmarked_same b))) (entered_beside b))))
    of_whole (c.Index whole index) role k l h b = o.index_kept role k l (as_operand whole as_value (entered k) (entered l) (old_first new (in_expression whole) (in_expression index) h.1) (entered_beside b) (of_whole whole as_value (entered k) (entered l) (old_first new (in_expression whole) (in_expression index) h.1) (entered_beside b)))
        (λ x m n q flags b. as_operand index as_value m n (old_second new (in_expression whole) (in_expression index) h.1) b (of_whole index as_value m n (old_second new (in_expression whole) (in_expression index) h.1) b))
    of_whole (c.Call callee arguments) role k l h b = o.call_kept role k l (as_operand callee as_callee (entered k) (entered l) (old_first new (in_expression callee) (in_expressions arguments) h.1) (entered_beside b) (of_whole callee as_callee (entered k) (entered l) (old_first new (in_expression callee) (in_expressions arguments) h.1) (entered_beside b)))
        (λ x m n q flags b. of_list arguments m n (old_second new (in_expression callee) (in_expressions arguments) h.1) b)
    of_whole (c.Member whole w) role k l h b = o.member_kept role k l w (as_operand whole as_place (entered k) (entered l) h.1 (entered_beside b) (of_whole whole as_place (entered k) (entered l) h.1 (entered_beside b)))
    of_whole (c.Arrow pointer w) role k l h b = o.arrow_kept role k l w (as_operand pointer as_value (entered k) (entered l) h.1 (entered_beside b) (of_whole pointer as_value (entered k) (entered l) h.1 (entered_beside b)))
    of_whole (c.PostInc target) role k l h b = o.post_inc_kept role k l (as_operand target as_place (entered k) (entered l) h.1 (entered_beside b) (of_whole target as_place (entered k) (entered l) h.1 (entered_beside b)))
    of_whole (c.PostDec target) role k l h b = o.post_dec_kept role k l (as_operand target as_place (entered k) (entered l) h.1 (entered_beside b) (of_whole target as_place (entered k) (entered l) h.1 (entered_beside b)))
    of_whole (c.PreInc target) role k l h b = o.pre_inc_kept role k l (as_operand target as_place (entered k) (entered l) h.1 (entered_beside b) (of_whole target as_place (entered k) (entered l) h.1 (entered_beside b)))
    of_whole (c.PreDec target) role k l h b = o.pre_dec_kept role k l (as_operand target as_place (entered k) (entered l) h.1 (entered_beside b) (of_whole target as_place (entered k) (entered l) h.1 (entered_beside b)))
    of_whole (c.Unary op operand) role k l h b = o.unary_kept role k l op (as_operand operand (operand_of op) (entered k) (entered l) h.1 (entered_beside b) (of_whole operand (operand_of op) (entered k) (entered l) h.1 (entered_beside b)))
    of_whole (c.SizeofExpr operand) role k l h b = noted_node (an_expression (c.SizeofExpr operand)) (an_expression (c.SizeofExpr operand)) refl refl (λ whole n zs. refl) (λ whole n zs. refl)
        (last (unmarked k.is_unmarked l.is_unmarked (unmarked_same b) (as_operand operand as_place (record (entered k) { is_unmarked = true }) (record (entered l) { is_unmarked = true }) h.1 (unmarked_beside (entered_beside b)) (of_whole operand as_place (record (entered k) { is_unmarked = true }) (record (entered l) { is_unmarked = true }) h.1 (unmarked_beside (entered_beside b)))))
        (λ x y m n q q' s flags b. finished k.next l.next role role (judge_size (own_type x) m) (judge_size (own_type y) n)
        (λ h. made role (judge_size (own_type x) m) (judge_size (own_type y) n) (size_seen b x y (same_type x y s.seen.alike.kind))) b))
    of_whole (c.SizeofType s d) role k l h b = noted_node (an_expression (c.SizeofType s d)) (an_expression (c.SizeofType s d)) refl refl (λ whole n zs. refl) (λ whole n zs. refl)
        (behind_same (of_specs s (setting_in_sizeof d) (entered k) (entered l) (old_first new (in_specifiers s) (in_declarator d) h.1) (entered_beside b)) (λ it m n q flags b.
        last (of_decl d it false (λ name known b. type_name_faults b) (λ name further k j r a b it. refl) m n (old_second new (in_specifiers s) (in_declarator d) h.1) b)
        (λ v w m n q q' r flags b. finished k.next l.next role role (faults_too v.faults (judge_size v.type m)) (faults_too w.faults (judge_size w.type n))
        (λ h. made role (faults_too v.faults (judge_size v.type m)) (faults_too w.faults (judge_size w.type n))
        (subst (λ t. SeenAlike (judge_size v.type m).typed (judge_size t n).typed) (sym (ap (λ (it : Declares). it.type) r)) (sized_seen b v.type))) b)))
    of_whole (c.Cast s d operand) role k l h b =
        let front = old_first new (in_specifiers s ++ in_declarator d) (in_expression operand) h.1 in
        cast_kept role k l (of_specs s elsewhere (entered k) (entered l) (old_first new (in_specifiers s) (in_declarator d) front) (entered_beside b))
        (λ it m n q flags b. of_decl d it false (λ name known b. type_name_faults b) (λ name further k j r a b it. refl) m n (old_second new (in_specifiers s) (in_declarator d) front) b)
        (λ it t m o n q q' flags b. as_operand operand as_value o n (old_second new (in_specifiers s ++ in_declarator d) (in_expression operand) h.1) b (of_whole operand as_value o n (old_second new (in_specifiers s ++ in_declarator d) (in_expression operand) h.1) b))
    of_whole (c.Binary op left right) role k l h b = o.binary_kept role k l op (as_operand left as_value (entered k) (entered l) (old_first new (in_expression left) (in_expression right) h.1) (entered_beside b) (of_whole left as_value (entered k) (entered l) (old_first new (in_expression left) (in_expression right) h.1) (entered_beside b)))
        (λ x m n q flags b. as_operand right as_value m n (old_second new (in_expression left) (in_expression right) h.1) b (of_whole right as_value m n (old_second new (in_expression left) (in_expression right) h.1) b))
    of_whole (c.Logical op left right) role k l h b = o.logical_kept role k l op (as_operand left as_truth (entered k) (entered l) (old_first new (in_expression left) (in_expression right) h.1) (entered_beside b) (of_whole left as_truth (entered k) (entered l) (old_first new (in_expression left) (in_expression right) h.1) (entered_beside b)))
        (λ x m n q flags b. as_operand right as_truth m n (old_second new (in_expression left) (in_expression right) h.1) b (of_whole right as_truth m n (old_second new (in_expression left) (in_expression right) h.1) b))
    of_whole (c.Conditional test left right) role k l h b =
        let front = old_first new (in_expression test ++ in_expression left) (in_expression right) h.1 in
        o.conditional_kept role k l (as_operand test as_truth (entered k) (entered l) (old_first new (in_expression test) (in_expression left) front) (entered_beside b) (of_whole test as_truth (entered k) (entered l) (old_first new (in_expression test) (in_expression left) front) (entered_beside b)))
        (λ p m n q flags b. as_operand left as_value m n (old_second new (in_expression test) (in_expression left) front) b (of_whole left as_value m n (old_second new (in_expression test) (in_expression left) front) b))
        (λ p x m o n q q' flags b. as_operand right as_value o n (old_second new (in_expression test ++ in_expression left) (in_expression right) h.1) b (of_whole right as_value o n (old_second new (in_expression test ++ in_expression left) (in_expression right) h.1) b))
    of_whole (c.Assign op target value) role k l h b = o.assign_kept role k l op (as_operand target as_place (entered k) (entered l) (old_first new (in_expression target) (in_expression value) h.1) (entered_beside b) (of_whole target as_place (entered k) (entered l) (old_first new (in_expression target) (in_expression value) h.1) (entered_beside b)))
        (λ x m n q flags b. as_operand value as_value m n (old_second new (in_expression target) (in_expression value) h.1) b (of_whole value as_value m n (old_second new (in_expression target) (in_expression value) h.1) b))
    of_whole (c.Comma list) role k l h b = o.comma_kept role k l (of_list list (entered k) (entered l) h.1 (entered_beside b))
    of_whole (c.Marked ms value) role k l h b = o.marked_kept role k l (old_marks numbered noting ms (entered k) (entered l) (old_first new (in_marks ms) (in_expression value) h.1) (entered_beside b))
        (λ ts m n q flags b. of_whole value (inside_mark role) m n (old_second new (in_marks ms) (in_expression value) h.1) b)
    of_whole (c.Decide operand when_true when_false tag) role k l h b = o.decide_kept role k l when_true when_false tag h.0.0 h.0.1 (of_whole operand (inside_mark role) (entered k) (entered l) h.1 (entered_beside b))
    of_whole (c.After operand id tag) role k l h b = o.after_kept role k l id tag h.0 (of_whole operand (inside_after role) (entered k) (entered l) h.1 (entered_beside b))

    of_list : {ids : List ℕ} {further : List Bool} (them : c.Expressions) (k l : Known) → AreOld new (in_expressions them) → IsBeside new ids further k l → Piece F G new ids further SeenEach k (in_expressions them) l (in_expressions them) (expressions them k) (expressions them l)
    of_list c.no_expressions k l h b = done none_seen b
    of_list (c.an_expression first rest) k l h b = joined (of_whole first as_value k l (old_first new (in_expression first) (in_expressions rest) h) b) (λ x y m n q q' s flags b.
        after (of_list rest m n (old_second new (in_expression first) (in_expressions rest) h) b) (λ xs ys m n p p' r flags b. done (one_seen s.alike r) b))

    pub of_optional : {ids : List ℕ} {further : List Bool} (it : c.Maybe) (k l : Known) → AreOld new (in_maybe it) → IsBeside new ids further k l → Piece F G new ids further SameMaybe k (in_maybe it) l (in_maybe it) (maybe it k) (maybe it l)
    of_optional c.absent k l h b = done (λ n. n, refl) b
    of_optional (c.present it) k l h b = so (λ x y r. (r.1, r.2)) (also (u.of_maybe (c.present it) h b)
        (after (unmarked k.is_unmarked l.is_unmarked (unmarked_same b) (as_operand it as_value (record k { is_unmarked = true }) (record l { is_unmarked = true }) h (unmarked_beside b) (of_whole it as_value (record k { is_unmarked = true }) (record l { is_unmarked = true }) h (unmarked_beside b)))) (λ x y m n q q' s flags b. done {R = λ x y. Unit {0}} tt b)))

    pub of_specs : {ids : List ℕ} {further : List Bool} (it : c.Specifiers) (setting : Setting) (k l : Known) → AreOld new (in_specifiers it) → IsBeside new ids further k l → Piece F G new ids further Same k (in_specifiers it) l (in_specifiers it) (specifiers it setting k) (specifiers it setting l)
    of_specs (c.specifiers words types) setting k l h b = so (λ x y r. r.2) (also (u.of_specifiers (c.specifiers words types) setting h b)
        (after (of_types types (beside_words words setting) k l h b) (λ x y m n q q' s flags b. done {R = λ x y. Unit {0}} tt b)))

    of_types : {ids : List ℕ} {further : List Bool} (them : c.TypeSpecifiers) (setting : Setting) (k l : Known) → AreOld new (in_types them) → IsBeside new ids further k l → Piece F G new ids further Same k (in_types them) l (in_types them) (type_specifiers them setting k) (type_specifiers them setting l)
    of_types c.no_types setting k l h b = done refl b
    of_types (c.a_type first rest) setting k l h b = joined_same (of_type first setting k l (old_first new (in_type first) (in_types rest) h) b) (λ it m n q flags b.
        after_same (of_types rest setting m n (old_second new (in_type first) (in_types rest) h) b) (λ others m n q flags b. done refl b))

    of_type : {ids : List ℕ} {further : List Bool} (it : c.TypeSpecifier) (setting : Setting) (k l : Known) → AreOld new (in_type it) → IsBeside new ids further k l → Piece F G new ids further Same k (in_type it) l (in_type it) (type_specifier it setting k) (type_specifier it setting l)
    of_type (c.Basic type) setting k l h b = done refl b
    of_type (c.Word word) setting k l h b = done refl b
    of_type (c.StructTag tag) setting k l h b = struct_found tag (if is_alone setting then tag_here tag k else tagged_in tag k.frames) (if is_alone setting then tag_here tag l else tagged_in tag l.frames)
        (tag_found b setting tag) b
    of_type (c.Struct tag list) setting k l h b = joined_same {xs = []} {ys = []} (opened_struct tag b) (λ opened m n q flags b. after_same (of_members list [] m n h b) (λ found m n q flags b. closed_struct opened found b))
    of_type (c.EnumTag tag) setting k l h b = done (ap (enum_tagged setting) (tagged_there b tag)) b
    of_type (c.Enum tag list) setting k l h b = joined_same {xs = []} {ys = []} (opened_enum tag b) (λ faults m n q flags b. after_same (of_enumerators list (pos 0) m n h b) (λ u m n q flags b. closed_enum tag faults b))
    of_type (c.Named name) setting k l h b = done (named_there b name) b

    of_members : {ids : List ℕ} {further : List Bool} (them : c.Members) (list : List Member) (k l : Known) → AreOld new (in_members them) → IsBeside new ids further k l → Piece F G new ids further Same k (in_members them) l (in_members them) (members them list k) (members them list l)
    of_members c.no_members list k l h b = done refl b
    of_members (c.a_member (c.member s ds) rest) list k l h b = joined_same (unnoted (n.a_member (c.member s ds)) (n.a_member (c.member s ds)) refl refl (λ whole n zs. refl) (λ whole n zs. refl)
        (joined_same (of_specs s elsewhere (entered k) (entered l) (old_first new (in_specifiers s) (in_member_declarators ds) (old_first new (in_specifiers s ++ in_member_declarators ds) (in_members rest) h.1)) (entered_beside b)) (λ it m n q flags b.
        after_same (of_member_declarators ds it list m n (old_second new (in_specifiers s) (in_member_declarators ds) (old_first new (in_specifiers s ++ in_member_declarators ds) (in_members rest) h.1)) b) (λ found m n q flags b.
        after (judges k.next l.next (broken_if incomplete_type (is_no_declarator ds) ++ alone_faults (is_no_declarator ds) it ++ found.faults) (broken_if incomplete_type (is_no_declarator ds) ++ alone_faults (is_no_declarator ds) it ++ found.faults) b)
        (λ u v m n q q' r flags b. done {R = Same} refl b)))))
        (λ longer m n q flags b. of_members rest longer m n (old_second new (in_specifiers s ++ in_member_declarators ds) (in_members rest) h.1) b)

    of_member_declarators : {ids : List ℕ} {further : List Bool} (them : c.MemberDeclarators) (it : Specified) (list : List Member) (k l : Known) → AreOld new (in_member_declarators them) → IsBeside new ids further k l
        → Piece F G new ids further Same k (in_member_declarators them) l (in_member_declarators them) (member_declarators them it list k) (member_declarators them it list l)
    of_member_declarators c.no_declarators it list k l h b = done refl b
    of_member_declarators (c.a_declarator d width rest) it list k l h b =
        let front = old_first new (in_declarator d ++ in_maybe width) (in_member_declarators rest) h in
        grouped (in_declarator d) (in_maybe width) (in_member_declarators rest) (in_declarator d) (in_maybe width) (in_member_declarators rest)
        (joined_declares (λ t n. goes_on (maybe width n) (λ written n. goes_on (member_declarators rest it (with_member list t) n) (λ found n. Goes (record found { faults = t.faults ++ found.faults }) n)))
        (of_decl d it false (member_faults list (has_width width)) (λ name further k j r a b built. member_same list (has_width width) name b built) k l (old_first new (in_declarator d) (in_maybe width) front) b)
        (λ declared i parameters m n q flags b. joined (of_optional width m n (old_second new (in_declarator d) (in_maybe width) front) b) (λ written other m n q q' r flags b.
        after_same (of_member_declarators rest it (with_member list declared) m n (old_second new (in_declarator d ++ in_maybe width) (in_member_declarators rest) h) b) (λ found m n q flags b. done {R = Same} refl b))))

    of_enumerators : {ids : List ℕ} {further : List Bool} (them : c.Enumerators) (counted : ℤ) (k l : Known) → AreOld new (in_enumerators them) → IsBeside new ids further k l → Piece F G new ids further Same k (in_enumerators them) l (in_enumerators them) (enumerators them counted k) (enumerators them counted l)
    of_enumerators c.no_enumerators counted k l h b = done refl b
    of_enumerators {ids} (c.an_enumerator name value rest) counted k l h b = unnoted (n.an_enumerator name value) (n.an_enumerator name value) refl refl (λ whole n zs. refl) (λ whole n zs. refl)
        (joined (of_optional value (entered k) (entered l) (old_first new (in_maybe value) (in_enumerators rest) h.1) (entered_beside b)) (λ x y m n q q' r flags b.
        joined_same {xs = []} {ys = []} (subst (λ z. Piece F G new ids flags Same m [] n [] (end_of_enumerator k.next name (value_given counted x) m) (end_of_enumerator l.next name z n)) (sym (given_same counted x y r)) (enumerator_ended k.next l.next name (value_given counted x) b)) (λ next m n q flags b. of_enumerators rest next m n (old_second new (in_maybe value) (in_enumerators rest) h.1) b)))

    pub of_decl : {ids : List ℕ} {further : List Bool} (it : c.Declarator) (sp : Specified) (is_definition : Bool) (judge : Option (List ℕ) → Known → Built → List Rule)
        → ((name : Option (List ℕ)) (further : List Bool) (k j : Known) (r : ℕ → ℕ) → Agrees r further → IsBeside new ids further k j → (built : Built) → judge name j (built_with r built) ≡ judge name k built)
        → (k l : Known) → AreOld new (in_declarator it) → IsBeside new ids further k l → Piece F G new ids further DeclaresSame k (in_declarator it) l (in_declarator it) (declarator it sp is_definition judge k) (declarator it sp is_definition judge l)
    of_decl (c.declarator name ps) sp is_definition judge judged k l h b = so (λ x y r. declared_as x y r.1 r.2) (also (u.of_declarator (c.declarator name ps) sp is_definition judge judged h b) (of_written name ps sp is_definition judge k l b (λ k l b. of_parts ps sp.type is_definition true k l (old_second new (if_written name ps) (in_parts ps) h) b)))

    of_parts : {ids : List ℕ} {further : List Bool} (them : c.Parts) (t : CType) (is_definition is_outermost : Bool) (k l : Known) → AreOld new (in_parts them) → IsBeside new ids further k l
        → Piece F G new ids further (λ (x y : Built). Unit {0}) k (in_parts them) l (in_parts them) (parts them t is_definition is_outermost k) (parts them t is_definition is_outermost l)
    of_parts c.no_parts t is_definition is_outermost k l h b = done {R = λ (x y : Built). Unit {0}} tt b
    of_parts (c.Pointer q rest) t is_definition is_outermost k l h b = after (of_parts rest t false false k l h b) (λ x y m n q q' r flags b. done {R = λ (x y : Built). Unit {0}} tt b)
    of_parts (c.Array size rest) t is_definition is_outermost k l h b = joined (of_optional size k l (old_first new (in_maybe size) (in_parts rest) h) b) (λ i other m n q q' r flags b.
        after (of_parts rest t false false m n (old_second new (in_maybe size) (in_parts rest) h) b) (λ x y m n q q' r flags b. done {R = λ (x y : Built). Unit {0}} tt b))
    of_parts (c.Function them rest) t is_definition is_outermost k l h b =
        joined (scoped k.frames l.frames (frames_known b) (of_params them is_definition (record k { frames = no_names ∷ k.frames }) (record l { frames = no_names ∷ l.frames }) (old_first new (in_parameters them) (in_parts rest) h)
        (frames_beside (no_names ∷ k.frames) (no_names ∷ l.frames) (λ r a. ap (λ frames. no_names ∷ frames) (frames_known b r a)) b))) (λ found other m n q q' r flags b.
        after (of_parts rest t false false m n (old_second new (in_parameters them) (in_parts rest) h) b) (λ x y m n q q' r flags b. done {R = λ (x y : Built). Unit {0}} tt b))

    of_params : {ids : List ℕ} {further : List Bool} (them : c.Parameters) (is_definition : Bool) (k l : Known) → AreOld new (in_parameters them) → IsBeside new ids further k l → Piece F G new ids further (λ (x y : Parameters). Unit {0}) k (in_parameters them) l (in_parameters them) (parameters them is_definition k) (parameters them is_definition l)
    of_params c.Unstated is_definition k l h b = no_more_parameters b
    of_params c.Void is_definition k l h b = no_more_parameters b
    of_params (c.Listed list) is_definition k l h b = of_param_list list is_definition k l h b
    of_params (c.Open list) is_definition k l h b = after (of_param_list list is_definition k l h b) (λ x y m n q q' r flags b. done {R = λ (x y : Parameters). Unit {0}} tt b)

    of_param_list : {ids : List ℕ} {further : List Bool} (them : c.ParameterList) (is_definition : Bool) (k l : Known) → AreOld new (in_parameter_list them) → IsBeside new ids further k l
        → Piece F G new ids further (λ (x y : Parameters). Unit {0}) k (in_parameter_list them) l (in_parameter_list them) (parameter_list them is_definition k) (parameter_list them is_definition l)
    of_param_list c.no_parameters is_definition k l h b = no_more_parameters b
    of_param_list (c.a_parameter sp d rest) is_definition k l h b =
        let front = old_first new (in_specifiers sp ++ in_declarator d) (in_parameter_list rest) h in
        grouped (in_specifiers sp) (in_declarator d) (in_parameter_list rest) (in_specifiers sp) (in_declarator d) (in_parameter_list rest)
        (joined_same (of_specs sp elsewhere k l (old_first new (in_specifiers sp) (in_declarator d) front) b) (λ it m n q flags b.
        joined_declares (λ t n. goes_on (binds_parameter is_definition (is_register it) t.node t.name (adjusted t.type) n) (λ objects n. goes_on (parameter_list rest is_definition n) (λ others n. Goes (parameter_before t objects others) n)))
        (of_decl d it false (parameter_faults is_definition) (λ name further k j r a b built. parameter_same is_definition name b built) m n (old_second new (in_specifiers sp) (in_declarator d) front) b)
        (λ declared i parameters m n q flags b. joined {xs = []} {ys = []} (parameter_bound is_definition (is_register it) declared.node i declared.name (adjusted declared.type) b) (λ objects others m n q q' r flags b.
        after (of_param_list rest is_definition m n (old_second new (in_specifiers sp ++ in_declarator d) (in_parameter_list rest) h) b) (λ x y m n q q' r flags b. done {R = λ (x y : Parameters). Unit {0}} tt b)))))
