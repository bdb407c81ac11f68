-- What predicates copy is plain, where it is typed.
use Rattle.std.proofs.Common.{◌≡◌, ℕ, List, [], Option, Bool, true, false, refl, sym}
use Rattle.std.proofs.lemmas.Bool.{false≢true, and_parts, and_from}
use Rattle.std.specs.Prelude.{◌&&◌, ◌||◌, not}
use Rattle.lt_tree.specs.Tree as c
use Rattle.lt_tree.specs.Comma.{comma_of, followed_by}
use Rattle.lt_tree.specs.Erasure.{erased, erased_expressions, erased_parts, erased_parameters, erased_parameter_list, erased_declarator, erased_specifiers}
use Rattle.lt_tree.specs.Purity.{is_pure, are_pure, is_pure_specifiers, is_pure_declarator, are_pure_parts, are_pure_parameters, is_pure_parameter_list}
use Rattle.lt_tree.specs.Typing.Types.{CType, adjusted}
use Rattle.lt_tree.specs.Typing.Rules.{Rule}
use Rattle.lt_tree.specs.Typing.Entities.{Known}
use Rattle.lt_tree.specs.Typing.Steps.{Outcome, Goes, goes_on, marked_again, in_block}
use Rattle.lt_tree.specs.Typing.Expressions.{Typed, Use, as_value, as_truth, as_place}
use Rattle.lt_tree.specs.Typing.MarkRules.{inside_mark, inside_after}
use Rattle.lt_tree.specs.Typing.NodeEnds.{judge_unary, operand_of, enter_if}
use Rattle.lt_tree.specs.Typing.Specifying.{Specified, is_register, elsewhere}
use Rattle.lt_tree.specs.Typing.Declarators.{Parameters, Built, Declares, type_name_faults, parameter_faults, setting_in_sizeof, is_written}
use Rattle.lt_tree.specs.Typing.ExpressionTyping.{expression, expressions, maybe, marks, specifiers, declarator, parts, parameters, parameter_list}
use Rattle.lt_objectives.specs.Copies.{is_core, is_marked_cast, hides, any_hides}
use Rattle.lt_erased_typing.specs.Erasable.{entered, unmarked, in_scope}
use Rattle.lt_erased_typing.specs.Plain.{IsPlainWith, ArePlain, IsPlainDeclarator, ArePlainParts, ArePlainParameters, IsPlainList}
use Rattle.lt_erased_typing.specs.Simple.{IsSimpleWith, AreSimple, IsSimpleDeclarator, AreSimpleParts, AreSimpleParameters, IsSimpleList}
use Rattle.lt_erased_typing.specs.Laws.{CopiesWithLiteralsCanBeErased}
use Rattle.lt_erased_typing.proofs.TypeNames.{written_somewhere}
use Rattle.lt_erased_typing.proofs.Shows.{or_none}
use Rattle.lt_erased_typing.proofs.PlainWalks.{IsNear, here_near, went, bind, entered_near, constant_near, constant_walk, near_behind}
use Rattle.lt_erased_typing.proofs.Found.{found_specifiers, found_expression, found_marks, found_declarator, found_parameters}
use Rattle.lt_erased_typing.proofs.SameTags.{turned, parameters_there, list_there, simple_parameters, simple_list}
use Rattle.lt_erased_typing.proofs.PlainScopes.{scope_tags, scope_found, bound_went_on}
use Rattle.lt_erased_typing.proofs.SizesAndCasts.{any_type_name}
use Rattle.lt_erased_typing.proofs.PlainExpressions.{erasable}
use Rattle.lt_erased_typing.proofs.Ended.{went_on, marked_went_on, scope_went_on, ended, entered_if, not_true}
use Rattle.lt_erased_typing.proofs.Markless.{core_no_marked_cast}
use Rattle.lt_erased_typing.proofs.MarksGoOn.{plain_marks, core_there, takes}

-- ---- purity of comma expressions

followed_pure : (parts others : c.Expressions) → are_pure (followed_by parts others) ≡ true → are_pure parts && are_pure others ≡ true
followed_pure c.no_expressions others h = h
followed_pure (c.an_expression first rest) others h =
    let both = followed_pure rest others (and_parts (is_pure first) (are_pure (followed_by rest others)) h).1 in
    and_from (is_pure first && are_pure rest) (are_pure others)
    (and_from (is_pure first) (are_pure rest) (and_parts (is_pure first) (are_pure (followed_by rest others)) h).0 (and_parts (are_pure rest) (are_pure others) both).0) (and_parts (are_pure rest) (are_pure others) both).1

comma_pure : (d second : c.Expression) (rest : c.Expressions) → is_pure (comma_of d (c.an_expression second rest)) ≡ true
    → is_pure d && (is_pure second && are_pure rest) ≡ true
comma_pure (c.Comma parts) second rest h = followed_pure parts (c.an_expression second rest) h
comma_pure _ second rest h = h

-- ---- marks that hide nothing

-- either no marks can stand there, or none hides anything
data IsOpen (known : Known) (hidden : Bool) : Type 0 where
  never : known.is_unmarked ≡ true → IsOpen known hidden
  shown : hidden ≡ false → IsOpen known hidden

first_open : {known : Known} (a b : Bool) → IsOpen known (a || b) → IsOpen known a
first_open a b (never u) = never u
first_open a b (shown h) = shown (or_none a b h).0

second_open : {known : Known} (a b : Bool) → IsOpen known (a || b) → IsOpen known b
second_open a b (never u) = never u
second_open a b (shown h) = shown (or_none a b h).1

-- where it is typed, an expression is plain
abbrev IsPlainSo : Bool → Known → Use → c.Expression → Type 0
IsPlainSo texts known role it = (k : Known) (x : Typed) (l : Known) → IsNear texts known k → expression it role k ≡ Goes x l → IsPlainWith texts known.frames it

module _ {texts : Bool} {known : Known} where
  two_operands : (role : Use) (left right : c.Expression) (f : Typed → Typed → Known → Outcome Typed) {k : Known} {z : Typed} {i : Known}
      → IsPlainSo texts known role left → IsPlainSo texts known role right → IsNear texts known k
      → goes_on (expression left role k) (λ x j. goes_on (expression right role j) (λ y l. f x y l)) ≡ Goes z i → IsPlainWith texts known.frames left × IsPlainWith texts known.frames right
  two_operands role left right f {k} p q s e =
      let one = went_on (expression left role k) (λ x j. goes_on (expression right role j) (λ y l. f x y l)) e in
      let two = went_on (expression right role one.1) (λ y l. f one.0 y l) one.3 in
      let first = p k one.0 one.1 s one.2 in (first, q one.1 two.0 two.1 (near_behind (found_expression left role s first) one.2) two.2)

  -- the operand of `.`
  core_of_member : (whole : c.Expression) {k : Known} {x : Typed} {l : Known} → IsOpen known (hides (c.Member whole [])) → IsNear texts known k
      → IsPlainWith texts known.frames whole → IsSimpleWith texts known.frames whole → expression whole as_place k ≡ Goes x l
      → is_core whole ≡ true
  core_of_member whole (never u) s p h e = core_there u whole as_place s p h e
  core_of_member whole (shown o) s p h e = by (is_core whole) (or_none (not (is_core whole)) (hides whole) o).0
    where
      by : (b : Bool) → not b ≡ false → b ≡ true
      by true g = refl
      by false g = absurd (false≢true (sym g))

  -- an operand of `?:`
  no_cast_chosen : (it : c.Expression) {k : Known} {x : Typed} {l : Known} → IsOpen known (is_marked_cast it || hides it) → IsNear texts known k
      → IsPlainWith texts known.frames it → IsSimpleWith texts known.frames it → expression it as_value k ≡ Goes x l
      → is_marked_cast it ≡ false
  no_cast_chosen it (never u) s p h e = core_no_marked_cast it (core_there u it as_value s p h e)
  no_cast_chosen it (shown o) s p h e = (or_none (is_marked_cast it) (hides it) o).0

mutual
  plain : {texts : Bool} {known k : Known} {x : Typed} {l : Known} (it : c.Expression) (role : Use) → IsOpen known (hides it)
      → is_pure (erased it) ≡ true → IsSimpleWith texts known.frames it → IsNear texts known k → expression it role k ≡ Goes x l
      → IsPlainWith texts known.frames it
  plain (c.Name name) role o p h s e = tt
  plain (c.Constant text) role o p h s e = tt
  plain (c.Text bytes) role o p h s e = h
  plain (c.Index whole index) role o p h s e =
      two_operands as_value whole index _ (λ k x l s e. plain whole as_value (first_open (hides whole) (hides index) o) (and_parts (is_pure (erased whole)) (is_pure (erased index)) p).0 h.0 s e)
      (λ k x l s e. plain index as_value (second_open (hides whole) (hides index) o) (and_parts (is_pure (erased whole)) (is_pure (erased index)) p).1 h.1 s e) (entered_near s) e
  plain (c.Call callee arguments) role o p h s e = absurd (false≢true p)
  plain {k = k} (c.Member whole name) role o p h s e =
      let one = went_on (expression whole as_place (entered k)) _ e in
      let inner = plain whole as_place (second_open (not (is_core whole)) (hides whole) o) p h (entered_near s) one.2 in (core_of_member whole o (entered_near s) inner h one.2, inner)
  plain {k = k} (c.Arrow pointer name) role o p h s e = plain pointer as_value o p h (entered_near s) (went_on (expression pointer as_value (entered k)) _ e).2
  plain (c.PostInc target) role o p h s e = absurd (false≢true p)
  plain (c.PostDec target) role o p h s e = absurd (false≢true p)
  plain (c.PreInc target) role o p h s e = absurd (false≢true p)
  plain (c.PreDec target) role o p h s e = absurd (false≢true p)
  plain {k = k} (c.Unary op operand) role o p h s e =
      let one = went_on (expression operand (operand_of op) (entered k)) _ e in
      (takes op operand (entered k) one.2 (ended k.next role (judge_unary op one.0 one.1) one.1 one.3).0, plain operand (operand_of op) o p h (entered_near s) one.2)
  plain {known = known} {k} (c.SizeofExpr operand) role o p h s e =
      let one = went_on (marked_again k.is_unmarked (expression operand as_place (unmarked (entered k)))) _ e in
      let two = marked_went_on k.is_unmarked (expression operand as_place (unmarked (entered k))) one.2 in
      let inner = plain {known = unmarked known} operand as_place (never refl) p h (constant_near (entered_near s)) two.1 in
      (core_there {known = unmarked known} refl operand as_place (constant_near (entered_near s)) inner h two.1, inner)
  plain {k = k} (c.SizeofType sp (c.declarator name ps)) role o p h s e =
      let one = went_on (specifiers sp (setting_in_sizeof (c.declarator name ps)) (entered k)) _ e in
      let two = went_on (declarator (c.declarator name ps) one.0 false (λ name known b. type_name_faults b) one.1) _ one.3 in
      (h.0, plain_declarator any_type_name (c.declarator name ps) one.0 (and_parts (is_pure_specifiers (erased_specifiers sp)) (is_pure_declarator (erased_declarator (c.declarator name ps))) p).1 h.1 (near_behind (found_specifiers sp (setting_in_sizeof (c.declarator name ps)) (written_somewhere name ps) (entered_near s) h.0) one.2) two.2)
  plain {k = k} (c.Cast sp d operand) role o p h s e =
      let one = went_on (specifiers sp elsewhere (entered k)) _ e in
      let two = went_on (declarator d one.0 false (λ name known b. type_name_faults b) one.1) _ one.3 in
      let three = went_on (expression operand as_value two.1) _ two.3 in
      let types = is_pure_specifiers (erased_specifiers sp) in
      let front = (and_parts (types && is_pure_declarator (erased_declarator d)) (is_pure (erased operand)) p).0 in
      let behind = near_behind (found_specifiers sp elsewhere refl (entered_near s) h.0) one.2 in
      let lengths = plain_declarator any_type_name d one.0 (and_parts types (is_pure_declarator (erased_declarator d)) front).1 h.1 behind two.2 in (
        h.0,
        lengths,
        plain operand as_value o (and_parts (types && is_pure_declarator (erased_declarator d)) (is_pure (erased operand)) p).1 h.2 (near_behind (found_declarator any_type_name d one.0 behind lengths) two.2) three.2,
      )
  plain (c.Binary op left right) role o p h s e =
      two_operands as_value left right _ (λ k x l s e. plain left as_value (first_open (hides left) (hides right) o) (and_parts (is_pure (erased left)) (is_pure (erased right)) p).0 h.0 s e)
      (λ k x l s e. plain right as_value (second_open (hides left) (hides right) o) (and_parts (is_pure (erased left)) (is_pure (erased right)) p).1 h.1 s e) (entered_near s) e
  plain (c.Logical op left right) role o p h s e =
      two_operands as_truth left right _ (λ k x l s e. plain left as_truth (first_open (hides left) (hides right) o) (and_parts (is_pure (erased left)) (is_pure (erased right)) p).0 h.0 s e)
      (λ k x l s e. plain right as_truth (second_open (hides left) (hides right) o) (and_parts (is_pure (erased left)) (is_pure (erased right)) p).1 h.1 s e) (entered_near s) e
  plain {k = k} (c.Conditional test left right) role o p h s e =
      let one = went_on (expression test as_truth (entered k)) _ e in
      let two = went_on (expression left as_value one.1) _ one.3 in
      let three = went_on (expression right as_value two.1) _ two.3 in
      let both = first_open (hides test || (is_marked_cast left || hides left)) (is_marked_cast right || hides right) o in
      let second_o = second_open (hides test) (is_marked_cast left || hides left) both in
      let third_o = second_open (hides test || (is_marked_cast left || hides left)) (is_marked_cast right || hides right) o in
      let front = (and_parts (is_pure (erased test) && is_pure (erased left)) (is_pure (erased right)) p).0 in
      let first = plain test as_truth (first_open (hides test) (is_marked_cast left || hides left) both) (and_parts (is_pure (erased test)) (is_pure (erased left)) front).0 h.0 (entered_near s) one.2 in
      let there = near_behind (found_expression test as_truth (entered_near s) first) one.2 in
      let second = plain left as_value (second_open (is_marked_cast left) (hides left) second_o) (and_parts (is_pure (erased test)) (is_pure (erased left)) front).1 h.1 there two.2 in
      let behind = near_behind (found_expression left as_value there second) two.2 in
      let third = plain right as_value (second_open (is_marked_cast right) (hides right) third_o) (and_parts (is_pure (erased test) && is_pure (erased left)) (is_pure (erased right)) p).1 h.2 behind three.2 in (
        first,
        no_cast_chosen left second_o there second h.1 two.2,
        second,
        no_cast_chosen right third_o behind third h.2 three.2,
        third,
      )
  plain (c.Assign op target value) role o p h s e = absurd (false≢true p)
  plain (c.Comma c.no_expressions) role o p h s e = absurd h
  plain (c.Comma (c.an_expression first c.no_expressions)) role o p h s e = absurd h
  plain {k = k} (c.Comma (c.an_expression first (c.an_expression second rest))) role o p h s e =
      plain_each (c.an_expression first (c.an_expression second rest)) o (comma_pure (erased first) (erased second) (erased_expressions rest) p) h (entered_near s)
      (went_on (expressions (c.an_expression first (c.an_expression second rest)) (entered k)) _ e).2
  plain (c.Marked c.no_marks value) role o p h s e = absurd h
  plain {texts} {known} {k} (c.Marked (c.a_mark m ms) value) role o p h s e =
      let one = went_on (marks (c.a_mark m ms) (entered k)) _ e in
      let two = went_on (expression value (inside_mark role) one.1) _ one.3 in
      let labels = plain_marks texts known.frames (c.a_mark m ms) (entered k) one.2 h.0 in (labels, plain value (inside_mark role) o p h.1 (near_behind (found_marks (c.a_mark m ms) (entered_near s) labels) one.2) two.2)
  plain {k = k} (c.Decide operand when_true when_false tag) role o p h s e = plain operand (inside_mark role) o p h (entered_near s) (went_on (expression operand (inside_mark role) (entered k)) _ e).2
  plain {k = k} (c.After operand id tag) role o p h s e = plain operand (inside_after role) o p h (entered_near s) (went_on (expression operand (inside_after role) (entered k)) _ e).2

  plain_each : {texts : Bool} {known k : Known} {xs : List Typed} {l : Known} (them : c.Expressions) → IsOpen known (any_hides them)
      → are_pure (erased_expressions them) ≡ true → AreSimple texts known.frames them → IsNear texts known k
      → expressions them k ≡ Goes xs l → ArePlain texts known.frames them
  plain_each c.no_expressions o p h s e = tt
  plain_each {k = k} (c.an_expression first rest) o p h s e =
      let one = went_on (expression first as_value k) _ e in
      let two = went_on (expressions rest one.1) _ one.3 in
      let it = plain first as_value (first_open (hides first) (any_hides rest) o) (and_parts (is_pure (erased first)) (are_pure (erased_expressions rest)) p).0 h.0 s one.2 in (
        it,
        plain_each rest (second_open (hides first) (any_hides rest) o) (and_parts (is_pure (erased first)) (are_pure (erased_expressions rest)) p).1 h.1 (near_behind (found_expression first as_value s it) one.2) two.2,
      )

  plain_parts : {texts : Bool} {known k : Known} {b : Built} {l : Known} (them : c.Parts) (t : CType) (is_outermost : Bool)
      → are_pure_parts (erased_parts them) ≡ true → AreSimpleParts texts known.frames them → IsNear texts known k
      → parts them t false is_outermost k ≡ Goes b l → ArePlainParts texts known.frames them
  plain_parts c.no_parts t is_outermost p h s e = tt
  plain_parts {k = k} (c.Pointer q rest) t is_outermost p h s e = plain_parts rest t false p h s (went_on (parts rest t false false k) _ e).2
  plain_parts {k = k} (c.Array c.absent rest) t is_outermost p h s e = plain_parts rest t false p h s (went_on (parts rest t false false k) _ e).2
  plain_parts {known = known} {k} (c.Array (c.present length) rest) t is_outermost p h s e =
      let one = went_on (maybe (c.present length) k) _ e in
      let two = went_on (marked_again k.is_unmarked (expression length as_value (unmarked k))) _ one.2 in
      let three = marked_went_on k.is_unmarked (expression length as_value (unmarked k)) two.2 in
      let four = went_on (parts rest t false false one.1) _ one.3 in
      let it = plain {known = unmarked known} length as_value (never refl) (and_parts (is_pure (erased length)) (are_pure_parts (erased_parts rest)) p).0 h.0 (constant_near s) three.1 in (
        it,
        plain_parts rest t false (and_parts (is_pure (erased length)) (are_pure_parts (erased_parts rest)) p).1 h.1
            (near_behind (bind (constant_walk s (found_expression {known = unmarked known} length as_value (constant_near s) it)) (λ x l s. went s)) one.2) four.2,
      )
  plain_parts {texts} {known} {k = k} (c.Function them rest) t is_outermost p h s e =
      let one = went_on (in_block (parameters them false) k) _ e in
      let two = scope_went_on k.frames (parameters them false (in_scope k)) one.2 in
      let three = went_on (parts rest t false false one.1) _ one.3 in
      let there = scope_tags s in
      let inner = plain_parameters {known = in_scope k} {k = in_scope k} h.0 them (and_parts (are_pure_parameters (erased_parameters them)) (are_pure_parts (erased_parts rest)) p).0 (simple_parameters there texts them h.1)
      (here_near (in_scope k)) two.2 in (
        h.0,
        parameters_there (turned there) texts them inner,
        plain_parts rest t false (and_parts (are_pure_parameters (erased_parameters them)) (are_pure_parts (erased_parts rest)) p).1 h.2
            (near_behind (scope_found s (found_parameters h.0 them (here_near (in_scope k)) inner)) one.2) three.2,
      )

  plain_declarator : {texts : Bool} {known k : Known} {x : Declares} {l : Known} (judge : Option (List ℕ) → Known → Built → List Rule) (d : c.Declarator) (it : Specified)
      → is_pure_declarator (erased_declarator d) ≡ true → IsSimpleDeclarator texts known.frames d → IsNear texts known k
      → declarator d it false judge k ≡ Goes x l → IsPlainDeclarator texts known.frames d
  plain_declarator {k = k} judge (c.declarator name ps) it p h s e =
      let one = went_on (enter_if (is_written name ps) k) _ e in
      let two = went_on (parts ps it.type false true one.1) _ one.3 in
      plain_parts ps it.type true p h (entered_if (is_written name ps) s one.2) two.2

  plain_parameters : {texts : Bool} {known k : Known} {x : Parameters} {l : Known} → texts ≡ true → (them : c.Parameters) → are_pure_parameters (erased_parameters them) ≡ true
      → AreSimpleParameters texts known.frames them → IsNear texts known k → parameters them false k ≡ Goes x l → ArePlainParameters texts known.frames them
  plain_parameters is c.Unstated p h s e = tt
  plain_parameters is c.Void p h s e = tt
  plain_parameters is (c.Listed list) p h s e = plain_list is list p h s e
  plain_parameters {k = k} is (c.Open list) p h s e = plain_list is list p h s (went_on (parameter_list list false k) _ e).2

  plain_list : {texts : Bool} {known k : Known} {x : Parameters} {l : Known} → texts ≡ true → (them : c.ParameterList) → is_pure_parameter_list (erased_parameter_list them) ≡ true
      → IsSimpleList texts known.frames them → IsNear texts known k → parameter_list them false k ≡ Goes x l → IsPlainList texts known.frames them
  plain_list is c.no_parameters p h s e = tt
  plain_list {texts} {known} {k} is (c.a_parameter sp d rest) p h s e =
      let types = is_pure_specifiers (erased_specifiers sp) && is_pure_declarator (erased_declarator d) in
      let one = went_on (specifiers sp elsewhere k) _ e in
      let two = went_on (declarator d one.0 false (parameter_faults false) one.1) _ one.3 in
      let behind = near_behind (found_specifiers sp elsewhere refl s h.0) one.2 in
      let first = plain_declarator (parameter_faults false) d one.0 (and_parts (is_pure_specifiers (erased_specifiers sp)) (is_pure_declarator (erased_declarator d)) (and_parts types (is_pure_parameter_list (erased_parameter_list rest)) p).0).1 h.1 behind two.2 in
      let later = near_behind (found_declarator (parameter_faults false) d one.0 behind first) two.2 in
      let three = bound_went_on two.0.name (is_register one.0) two.0.node (adjusted two.0.type) later two.3 in
      let four = went_on (parameter_list rest false three.2) _ three.5 in (
        h.0,
        first,
        list_there (turned three.3) texts rest (plain_list is rest (and_parts types (is_pure_parameter_list (erased_parameter_list rest)) p).1 (simple_list three.3 texts rest h.2) three.4 four.2),
      )

-- what predicates copy is plain, so marks can be taken off it
pub copies_with_literals : CopiesWithLiteralsCanBeErased
copies_with_literals known next it x w c h e =
    erasable {known = known} {k = known} (λ is. w) it as_value refl (λ q. absurd cc) (here_near known)
    (plain {known = known} {k = known} it as_value (shown (not_true (hides it) (and_parts (is_pure (erased it)) (not (hides it)) c).1)) (and_parts (is_pure (erased it)) (not (hides it)) c).0 h (here_near known) e)
