-- The canonical pieces of each tree of the knot are clean, where its names, constants and strings are read as what they stand for.
use Rattle.std.proofs.Common.{◌≡◌, ℕ, suc, Bool, true, false, List, [], ◌∷◌, ◌++◌, Some, refl, sym, subst, arith}
use Rattle.lt_tree.specs.declared.specifier.TypeWord.TheVariants as type_word
use Rattle.lt_tree.specs.declared.terminal.Terminal.{Terminal}
use Rattle.lt_tree.specs.declared.terminal.Terminal.TheVariants as k
use Rattle.lt_tree.specs.Tree as c
use Rattle.lt_tree.specs.Grammar as g
use Rattle.lt_tree.specs.Grammar.{Level}
use Rattle.lt_tree.specs.Pieces.{gap, indent, line_end, text_of}
use Rattle.lt_tree.specs.Canon.{Pieces, sign, name, spaced, comma_gap, apart, words_pieces, name_if, name_behind, pointing, grouped, gap_if, in_parentheses, prefixed, operand, list, marks_pieces, mark, bindings, specifiers, type_specifiers, type_specifier, member_lines, member_declarators, enumerator_lines, after_sign, declarator, around, maybe, parameters, parameter_list, is_integer, tightness, tightness_of_logical, sign_of_unary, sign_of_binary, sign_of_logical, sign_of_assignment, words_of}
use Rattle.lt_print.proofs.SignsAgain.{tight, tight_logical}
use Rattle.lt_print.proofs.Cutting.{EndsWord}
use Rattle.lt_print.proofs.CuttingConstants.{begins_digit}
use Rattle.lt_print.proofs.Written.{is_other}
use Rattle.lt_print.proofs.Clean.{IfDigit, Clean}
use Rattle.lt_print.proofs.Spelt.{Spelt, SpeltAll, SpeltMaybe, SpeltMarks, SpeltMark, SpeltBindings, SpeltSpecifiers, SpeltTypes, SpeltType, SpeltMembers, SpeltMemberDeclarators, SpeltEnumerators, SpeltDeclarator, SpeltParts, SpeltParameters, SpeltList}
use Rattle.lt_print.proofs.CleanForms.{Soft, Runs, soft_word, soft_digit, clean_append, closed_cons, spaced_alone, name_clean, placed_clean, placed_runs, enclosed_runs, apart_clean}
use Rattle.lt_print.proofs.CleanOperands as f
use Rattle.lt_print.proofs.CleanStarts.{operand_starts}
use Rattle.lt_print.proofs.CleanLeaves.{type_words_run, nothing_runs, apart_runs, words_run, name_runs, Inner, name_inner, grouped_inner, pointing_inner, indexed_inner, applied_inner, listed_runs, comma_alone, behind_name, braced_clean, binary_other, logical_other, type_word_runs}

-- ---- the knot

mutual
  unfolding operand text_of

  pub operand_runs : (e : c.Expression) → Spelt e → (n : ℕ) (asked : Level) → Runs (operand n asked e)
  operand_runs (c.Name w) s n asked t soft = name_clean w t s (soft_word t soft)
  operand_runs (c.Constant w) s n asked t soft = (s, soft_digit (begins_digit w) t soft, tt)
  operand_runs (c.Text bytes) s n asked t soft = (s, tt, tt)
  operand_runs (c.Index whole place) s n asked t soft =
      let inside = λ (u : List ℕ). f.index_clean (operand n g.postfix whole) (operand n g.comma place) u (operand_runs whole s.0 n g.postfix) (operand_runs place s.1 n g.comma) in
      placed_clean asked g.postfix (operand n g.postfix whole ++ sign k.OpenIndex ∷ operand n g.comma place ++ sign k.CloseIndex ∷ []) t (λ u. inside (41 ∷ u)) (inside t)
  operand_runs (c.Call callee arguments) s n asked t soft =
      let inside = λ (u : List ℕ). f.call_clean (operand n g.postfix callee) (list n g.assignment arguments) u (operand_runs callee s.0 n g.postfix) (list_runs arguments s.1 n g.assignment) in
      placed_clean asked g.postfix (operand n g.postfix callee ++ in_parentheses (list n g.assignment arguments)) t (λ u. inside (41 ∷ u)) (inside t)
  operand_runs (c.Member e w) s n asked t soft =
      let inside = λ (u : List ℕ) (h : EndsWord u). f.member_clean (is_integer e) (operand n g.postfix e) w u (operand_runs e s.0 n g.postfix) (dotted e s.0 n) s.1 h in
      placed_clean asked g.postfix (operand n g.postfix e ++ gap_if (is_integer e) ++ sign k.Dot ∷ name w ∷ []) t (λ u. inside (41 ∷ u) refl) (inside t (soft_word t soft))
  operand_runs (c.Arrow e w) s n asked t soft =
      let inside = λ (u : List ℕ) (h : EndsWord u). f.arrow_clean (operand n g.postfix e) w u (operand_runs e s.0 n g.postfix) s.1 h in
      placed_clean asked g.postfix (operand n g.postfix e ++ sign k.Arrow ∷ name w ∷ []) t (λ u. inside (41 ∷ u) refl) (inside t (soft_word t soft))
  operand_runs (c.PostInc e) s n asked t soft =
      let inside = λ (u : List ℕ). f.increment_behind_clean (operand n g.postfix e) u (operand_runs e s n g.postfix) in
      placed_clean asked g.postfix (operand n g.postfix e ++ sign k.Increment ∷ []) t (λ u. inside (41 ∷ u)) (inside t)
  operand_runs (c.PostDec e) s n asked t soft =
      let inside = λ (u : List ℕ). f.decrement_behind_clean (operand n g.postfix e) u (operand_runs e s n g.postfix) in
      placed_clean asked g.postfix (operand n g.postfix e ++ sign k.Decrement ∷ []) t (λ u. inside (41 ∷ u)) (inside t)
  operand_runs (c.PreInc e) s n asked t soft =
      placed_runs asked g.unary (prefixed k.Increment (operand n g.unary e))
      (f.stepped_clean k.Increment (operand n g.unary e) refl refl (operand_runs e s n g.unary)) t soft
  operand_runs (c.PreDec e) s n asked t soft =
      placed_runs asked g.unary (prefixed k.Decrement (operand n g.unary e))
      (f.stepped_clean k.Decrement (operand n g.unary e) refl refl (operand_runs e s n g.unary)) t soft
  operand_runs (c.Unary o e) s n asked t soft =
      placed_runs asked g.unary (prefixed (sign_of_unary o) (operand n g.cast e))
      (f.prefixed_clean o (operand n g.cast e) (operand_runs e s n g.cast) (operand_starts e s n g.cast (omega arith))) t soft
  operand_runs (c.SizeofExpr e) s n asked t soft =
      placed_runs asked g.unary (sign k.Sizeof ∷ gap ∷ operand n g.unary e)
      (f.sizeof_clean (operand n g.unary e) (operand_runs e s n g.unary)) t soft
  operand_runs (c.SizeofType ss d) s n asked t soft =
      placed_runs asked g.unary (sign k.Sizeof ∷ in_parentheses (apart (specifiers n ss) (declarator n d)))
      (f.sizeof_type_clean (apart (specifiers n ss) (declarator n d)) (apart_runs (specifiers n ss) (declarator n d) (specifiers_run ss s.0 n) (declarator_runs d s.1 n))) t soft
  operand_runs (c.Cast ss d e) s n asked t soft =
      placed_runs asked g.cast (in_parentheses (apart (specifiers n ss) (declarator n d)) ++ operand n g.cast e)
      (f.cast_clean (apart (specifiers n ss) (declarator n d)) (operand n g.cast e) (apart_runs (specifiers n ss) (declarator n d) (specifiers_run ss s.0 n) (declarator_runs d s.1 n)) (operand_runs e s.2 n g.cast)) t soft
  operand_runs (c.Binary o left right) s n asked t soft =
      placed_runs asked (g.binary (tightness o)) (operand n (g.binary (tightness o)) left ++ spaced (sign_of_binary o) ++ operand n (g.binary (suc (tightness o))) right)
      (f.operator_clean (sign_of_binary o) (operand n (g.binary (tightness o)) left) (operand n (g.binary (suc (tightness o))) right) (binary_other o) (operand_runs left s.0 n (g.binary (tightness o))) (operand_runs right s.1 n (g.binary (suc (tightness o))))) t soft
  operand_runs (c.Logical o left right) s n asked t soft =
      placed_runs asked (g.binary (tightness_of_logical o)) (operand n (g.binary (tightness_of_logical o)) left ++ spaced (sign_of_logical o) ++ operand n (g.binary (suc (tightness_of_logical o))) right)
      (f.operator_clean (sign_of_logical o) (operand n (g.binary (tightness_of_logical o)) left) (operand n (g.binary (suc (tightness_of_logical o))) right) (logical_other o) (operand_runs left s.0 n (g.binary (tightness_of_logical o))) (operand_runs right s.1 n (g.binary (suc (tightness_of_logical o))))) t soft
  operand_runs (c.Conditional test left right) s n asked t soft =
      placed_runs asked g.conditional (operand n (g.binary 0) test ++ spaced k.Question ++ operand n g.comma left ++ spaced k.Colon ++ operand n g.conditional right)
      (f.choice_clean (operand n (g.binary 0) test) (operand n g.comma left) (operand n g.conditional right) (operand_runs test s.0 n (g.binary 0)) (operand_runs left s.1 n g.comma) (operand_runs right s.2 n g.conditional)) t soft
  operand_runs (c.Assign o target value) s n asked t soft =
      placed_runs asked g.assignment (operand n g.unary target ++ spaced (sign_of_assignment o) ++ operand n g.assignment value)
      (f.operator_clean (sign_of_assignment o) (operand n g.unary target) (operand n g.assignment value) s.0 (operand_runs target s.1 n g.unary) (operand_runs value s.2 n g.assignment)) t soft
  operand_runs (c.Comma parts) s n asked t soft =
      placed_runs asked g.comma (list n g.marked parts)
      (list_runs parts s n g.marked) t soft
  operand_runs (c.Marked marks e) s n asked t soft =
      placed_runs asked g.marked (marks_pieces n marks ++ operand n g.assignment e)
      (f.marked_clean (marks_pieces n marks) (operand n g.assignment e) (marks_clean n marks s.0) (operand_runs e s.1 n g.assignment)) t soft
  operand_runs (c.Decide e yes_id no_id tag) s n asked t soft = f.decide_clean (operand n g.assignment e) yes_id no_id tag t (operand_runs e s.0 n g.assignment) s.1 s.2 s.3
  operand_runs (c.After e id tag) s n asked t soft = f.after_clean k.After (operand n g.assignment e) id tag t refl (λ u. refl) (operand_runs e s.0 n g.assignment) s.1 s.2

  -- before a point, where the operand is no integer
  dotted : (e : c.Expression) → Spelt e → (n : ℕ) → is_integer e ≡ false → (t : List ℕ) → Clean (operand n g.postfix e) (46 ∷ t)
  dotted (c.Name w) s n e t = name_clean w (46 ∷ t) s refl
  dotted (c.Constant []) s n e t = (s, tt, tt)
  dotted (c.Constant (b ∷ bs)) s n e t = (s, subst (λ (v : Bool). IfDigit v (46 ∷ t)) (sym e) tt, tt)
  dotted (c.Text bytes) s n e t = (s, tt, tt)
  dotted (c.Index whole place) s n e t = f.index_clean (operand n g.postfix whole) (operand n g.comma place) (46 ∷ t) (operand_runs whole s.0 n g.postfix) (operand_runs place s.1 n g.comma)
  dotted (c.Call callee arguments) s n e t = f.call_clean (operand n g.postfix callee) (list n g.assignment arguments) (46 ∷ t) (operand_runs callee s.0 n g.postfix) (list_runs arguments s.1 n g.assignment)
  dotted (c.Member whole w) s n e t = f.member_clean (is_integer whole) (operand n g.postfix whole) w (46 ∷ t) (operand_runs whole s.0 n g.postfix) (dotted whole s.0 n) s.1 refl
  dotted (c.Arrow whole w) s n e t = f.arrow_clean (operand n g.postfix whole) w (46 ∷ t) (operand_runs whole s.0 n g.postfix) s.1 refl
  dotted (c.PostInc x) s n e t = f.increment_behind_clean (operand n g.postfix x) (46 ∷ t) (operand_runs x s n g.postfix)
  dotted (c.PostDec x) s n e t = f.decrement_behind_clean (operand n g.postfix x) (46 ∷ t) (operand_runs x s n g.postfix)
  dotted (c.PreInc x) s n e t =
      enclosed_runs g.postfix g.unary (prefixed k.Increment (operand n g.unary x))
      (46 ∷ t) (omega arith) (f.stepped_clean k.Increment (operand n g.unary x) refl refl (operand_runs x s n g.unary))
  dotted (c.PreDec x) s n e t =
      enclosed_runs g.postfix g.unary (prefixed k.Decrement (operand n g.unary x))
      (46 ∷ t) (omega arith) (f.stepped_clean k.Decrement (operand n g.unary x) refl refl (operand_runs x s n g.unary))
  dotted (c.Unary o x) s n e t =
      enclosed_runs g.postfix g.unary (prefixed (sign_of_unary o) (operand n g.cast x))
      (46 ∷ t) (omega arith) (f.prefixed_clean o (operand n g.cast x) (operand_runs x s n g.cast) (operand_starts x s n g.cast (omega arith)))
  dotted (c.SizeofExpr x) s n e t =
      enclosed_runs g.postfix g.unary (sign k.Sizeof ∷ gap ∷ operand n g.unary x)
      (46 ∷ t) (omega arith) (f.sizeof_clean (operand n g.unary x) (operand_runs x s n g.unary))
  dotted (c.SizeofType ss d) s n e t =
      enclosed_runs g.postfix g.unary (sign k.Sizeof ∷ in_parentheses (apart (specifiers n ss) (declarator n d)))
      (46 ∷ t) (omega arith) (f.sizeof_type_clean (apart (specifiers n ss) (declarator n d)) (apart_runs (specifiers n ss) (declarator n d) (specifiers_run ss s.0 n) (declarator_runs d s.1 n)))
  dotted (c.Cast ss d x) s n e t =
      enclosed_runs g.postfix g.cast (in_parentheses (apart (specifiers n ss) (declarator n d)) ++ operand n g.cast x)
      (46 ∷ t) (omega arith) (f.cast_clean (apart (specifiers n ss) (declarator n d)) (operand n g.cast x) (apart_runs (specifiers n ss) (declarator n d) (specifiers_run ss s.0 n) (declarator_runs d s.1 n)) (operand_runs x s.2 n g.cast))
  dotted (c.Binary o left right) s n e t =
      enclosed_runs g.postfix (g.binary (tightness o)) (operand n (g.binary (tightness o)) left ++ spaced (sign_of_binary o) ++ operand n (g.binary (suc (tightness o))) right)
      (46 ∷ t) (omega (arith, tight o)) (f.operator_clean (sign_of_binary o) (operand n (g.binary (tightness o)) left) (operand n (g.binary (suc (tightness o))) right) (binary_other o) (operand_runs left s.0 n (g.binary (tightness o))) (operand_runs right s.1 n (g.binary (suc (tightness o)))))
  dotted (c.Logical o left right) s n e t =
      enclosed_runs g.postfix (g.binary (tightness_of_logical o)) (operand n (g.binary (tightness_of_logical o)) left ++ spaced (sign_of_logical o) ++ operand n (g.binary (suc (tightness_of_logical o))) right)
      (46 ∷ t) (omega (arith, tight_logical o)) (f.operator_clean (sign_of_logical o) (operand n (g.binary (tightness_of_logical o)) left) (operand n (g.binary (suc (tightness_of_logical o))) right) (logical_other o) (operand_runs left s.0 n (g.binary (tightness_of_logical o))) (operand_runs right s.1 n (g.binary (suc (tightness_of_logical o)))))
  dotted (c.Conditional test left right) s n e t =
      enclosed_runs g.postfix g.conditional (operand n (g.binary 0) test ++ spaced k.Question ++ operand n g.comma left ++ spaced k.Colon ++ operand n g.conditional right)
      (46 ∷ t) (omega arith) (f.choice_clean (operand n (g.binary 0) test) (operand n g.comma left) (operand n g.conditional right) (operand_runs test s.0 n (g.binary 0)) (operand_runs left s.1 n g.comma) (operand_runs right s.2 n g.conditional))
  dotted (c.Assign o target value) s n e t =
      enclosed_runs g.postfix g.assignment (operand n g.unary target ++ spaced (sign_of_assignment o) ++ operand n g.assignment value)
      (46 ∷ t) (omega arith) (f.operator_clean (sign_of_assignment o) (operand n g.unary target) (operand n g.assignment value) s.0 (operand_runs target s.1 n g.unary) (operand_runs value s.2 n g.assignment))
  dotted (c.Comma parts) s n e t =
      enclosed_runs g.postfix g.comma (list n g.marked parts)
      (46 ∷ t) (omega arith) (list_runs parts s n g.marked)
  dotted (c.Marked marks x) s n e t =
      enclosed_runs g.postfix g.marked (marks_pieces n marks ++ operand n g.assignment x)
      (46 ∷ t) (omega arith) (f.marked_clean (marks_pieces n marks) (operand n g.assignment x) (marks_clean n marks s.0) (operand_runs x s.1 n g.assignment))
  dotted (c.Decide x yes_id no_id tag) s n e t = f.decide_clean (operand n g.assignment x) yes_id no_id tag (46 ∷ t) (operand_runs x s.0 n g.assignment) s.1 s.2 s.3
  dotted (c.After x id tag) s n e t = f.after_clean k.After (operand n g.assignment x) id tag (46 ∷ t) refl (λ u. refl) (operand_runs x s.0 n g.assignment) s.1 s.2

  list_runs : (es : c.Expressions) → SpeltAll es → (n : ℕ) (asked : Level) → Runs (list n asked es)
  list_runs c.no_expressions s n asked = nothing_runs
  list_runs (c.an_expression e c.no_expressions) s n asked = operand_runs e s.0 n asked
  list_runs (c.an_expression e (c.an_expression x xs)) s n asked = listed_runs (operand n asked e) (list n asked (c.an_expression x xs)) (operand_runs e s.0 n asked) (list_runs (c.an_expression x xs) s.1 n asked)

  marks_clean : (n : ℕ) (marks : c.Marks) → SpeltMarks marks → (t : List ℕ) → Clean (marks_pieces n marks) t
  marks_clean n c.no_marks s t = tt
  marks_clean n (c.a_mark m ms) s t = clean_append (mark n m ++ comma_gap) (marks_pieces n ms) t
      (clean_append (mark n m) comma_gap (text_of (marks_pieces n ms) ++ t) (mark_clean m s.0 n (text_of comma_gap ++ (text_of (marks_pieces n ms) ++ t))) (comma_alone (text_of (marks_pieces n ms) ++ t))) (marks_clean n ms s.1 t)

  pub mark_clean : (m : c.Mark) → SpeltMark m → (n : ℕ) (t : List ℕ) → Clean (mark n m) t
  mark_clean (c.mark e id tag c.no_bindings) s n t = f.after_clean k.Label (operand n g.assignment e) id tag t refl (λ u. refl) (operand_runs e s.0 n g.assignment) s.1 s.2
  mark_clean (c.mark e id tag (c.a_binding w value bound)) s n t =
      f.binding_clean (operand n g.assignment e) id tag w (operand n g.assignment value) (bindings n bound) t (operand_runs e s.0 n g.assignment) s.1 s.2 s.3.0 (operand_runs value s.3.1 n g.assignment) (bindings_run bound s.3.2 n) (bindings_soft bound n)

  bindings_soft : (bound : c.Bindings) (n : ℕ) (t : List ℕ) → Soft t → Soft (text_of (bindings n bound) ++ t)
  bindings_soft c.no_bindings n t soft = soft
  bindings_soft (c.a_binding w value bound) n t soft = refl

  bindings_run : (bound : c.Bindings) → SpeltBindings bound → (n : ℕ) → Runs (bindings n bound)
  bindings_run c.no_bindings s n t soft = tt
  bindings_run (c.a_binding w value bound) s n t soft =
      clean_append (comma_gap ++ name w ∷ comma_gap ++ operand n g.assignment value) (bindings n bound) t
      (clean_append (comma_gap ++ name w ∷ comma_gap) (operand n g.assignment value) (text_of (bindings n bound) ++ t) (f.with_name comma_gap w comma_alone s.0 (text_of (operand n g.assignment value) ++ (text_of (bindings n bound) ++ t)))
      (operand_runs value s.1 n g.assignment (text_of (bindings n bound) ++ t) (bindings_soft bound n t soft)))
      (bindings_run bound s.2 n t soft)

  pub specifiers_run : (ss : c.Specifiers) → SpeltSpecifiers ss → (n : ℕ) → Runs (specifiers n ss)
  specifiers_run (c.specifiers words types) s n = apart_runs (words_pieces words) (type_specifiers n types) (words_run words) (types_run types s n)

  types_run : (types : c.TypeSpecifiers) → SpeltTypes types → (n : ℕ) → Runs (type_specifiers n types)
  types_run c.no_types s n = nothing_runs
  types_run (c.a_type first rest) s n = apart_runs (type_specifier n first) (type_specifiers n rest) (type_runs first s.0 n) (types_run rest s.1 n)

  type_runs : (type : c.TypeSpecifier) → SpeltType type → (n : ℕ) → Runs (type_specifier n type)
  type_runs (c.Basic type) s n = type_words_run (words_of type)
  type_runs (c.Word word) s n = type_word_runs word
  type_runs (c.StructTag w) s n = behind_name (Some w) s k.Struct refl refl
  type_runs (c.Struct tag inside) s n = λ t soft. apart_clean (sign k.Struct ∷ name_behind tag) (sign k.OpenBrace ∷ line_end ∷ member_lines (suc n) inside ++ indent n ∷ sign k.CloseBrace ∷ []) t (behind_name tag s.0 k.Struct refl refl) (braced_clean n (member_lines (suc n) inside) t (members_clean inside s.1 (suc n))) soft
  type_runs (c.EnumTag w) s n = behind_name (Some w) s k.Enum refl refl
  type_runs (c.Enum tag inside) s n = λ t soft. apart_clean (sign k.Enum ∷ name_behind tag) (sign k.OpenBrace ∷ line_end ∷ enumerator_lines (suc n) inside ++ indent n ∷ sign k.CloseBrace ∷ []) t (behind_name tag s.0 k.Enum refl refl) (braced_clean n (enumerator_lines (suc n) inside) t (enumerators_clean inside s.1 (suc n))) soft
  type_runs (c.Named w) s n = name_runs w s

  members_clean : (ms : c.Members) → SpeltMembers ms → (n : ℕ) (t : List ℕ) → Clean (member_lines n ms) t
  members_clean c.no_members s n t = tt
  members_clean (c.a_member (c.member ss ds) ms) s n t =
      f.before_semicolon (apart (specifiers n ss) (member_declarators n ds)) (line_end ∷ member_lines n ms) t (apart_runs (specifiers n ss) (member_declarators n ds) (specifiers_run ss s.0 n) (member_declarators_run ds s.1 n)) (members_clean ms s.2 n t)

  member_declarators_run : (ds : c.MemberDeclarators) → SpeltMemberDeclarators ds → (n : ℕ) → Runs (member_declarators n ds)
  member_declarators_run c.no_declarators s n = nothing_runs
  member_declarators_run (c.a_declarator d width c.no_declarators) s n = with_sign_runs (declarator n d) k.Colon width refl (declarator_runs d s.0 n) s.1 n
  member_declarators_run (c.a_declarator d width (c.a_declarator e wide ds)) s n =
      listed_runs (declarator n d ++ after_sign n k.Colon width) (member_declarators n (c.a_declarator e wide ds)) (with_sign_runs (declarator n d) k.Colon width refl (declarator_runs d s.0 n) s.1 n)
      (member_declarators_run (c.a_declarator e wide ds) s.2 n)

  with_sign_runs : (a : Pieces) (x : Terminal) (m : c.Maybe) → is_other x ≡ false → Runs a → SpeltMaybe m → (n : ℕ) → Runs (a ++ after_sign n x m)
  with_sign_runs a x c.absent other runs s n t soft = clean_append a [] t (runs t soft) tt
  with_sign_runs a x (c.present e) other runs s n t soft =
      clean_append a (spaced x ++ operand n g.conditional e) t (runs (text_of (spaced x ++ operand n g.conditional e) ++ t) refl)
      (clean_append (spaced x) (operand n g.conditional e) t (spaced_alone x (text_of (operand n g.conditional e) ++ t) other) (operand_runs e s n g.conditional t soft))

  enumerators_clean : (es : c.Enumerators) → SpeltEnumerators es → (n : ℕ) (t : List ℕ) → Clean (enumerator_lines n es) t
  enumerators_clean c.no_enumerators s n t = tt
  enumerators_clean (c.an_enumerator w value c.no_enumerators) s n t =
      clean_append (name w ∷ after_sign n k.Equal value) (line_end ∷ []) t (with_sign_runs (name w ∷ []) k.Equal value refl (name_runs w s.0) s.1 n (10 ∷ t) refl) tt
  enumerators_clean (c.an_enumerator w value (c.an_enumerator v other es)) s n t =
      clean_append (name w ∷ after_sign n k.Equal value) (sign k.Comma ∷ line_end ∷ enumerator_lines n (c.an_enumerator v other es)) t (with_sign_runs (name w ∷ []) k.Equal value refl (name_runs w s.0) s.1 n (text_of (sign k.Comma ∷ line_end ∷ enumerator_lines n (c.an_enumerator v other es)) ++ t) refl)
      (closed_cons k.Comma (line_end ∷ enumerator_lines n (c.an_enumerator v other es)) t refl (enumerators_clean (c.an_enumerator v other es) s.2 n t))

  pub declarator_runs : (d : c.Declarator) → SpeltDeclarator d → (n : ℕ) → Runs (declarator n d)
  declarator_runs (c.declarator w parts) s n t soft = (around_inner parts s.1 n (name_if w) false (name_inner w s.0) t soft).0

  around_inner : (parts : c.Parts) → SpeltParts parts → (n : ℕ) (a : Pieces) (pointer : Bool) → Inner a → Inner (around n a pointer parts)
  around_inner c.no_parts s n a pointer h = h
  around_inner (c.Pointer q parts) s n a pointer h = around_inner parts s n (pointing q a) true (pointing_inner q a h)
  around_inner (c.Array length parts) s n a pointer h =
      around_inner parts s.1 n (grouped pointer a ++ sign k.OpenIndex ∷ maybe n length ++ sign k.CloseIndex ∷ []) false (indexed_inner (grouped pointer a) (maybe n length) (grouped_inner pointer a h) (maybe_runs length s.0 n))
  around_inner (c.Function ps parts) s n a pointer h =
      around_inner parts s.1 n (grouped pointer a ++ in_parentheses (parameters n ps)) false (applied_inner (grouped pointer a) (parameters n ps) (grouped_inner pointer a h) (parameters_run ps s.0 n))

  maybe_runs : (m : c.Maybe) → SpeltMaybe m → (n : ℕ) → Runs (maybe n m)
  maybe_runs c.absent s n = nothing_runs
  maybe_runs (c.present e) s n = operand_runs e s n g.conditional

  parameters_run : (ps : c.Parameters) → SpeltParameters ps → (n : ℕ) → Runs (parameters n ps)
  parameters_run c.Unstated s n = nothing_runs
  parameters_run c.Void s n = type_word_runs type_word.Void
  parameters_run (c.Listed ps) s n = parameter_list_runs ps s n
  parameters_run (c.Open ps) s n = listed_runs (parameter_list n ps) (sign k.Ellipsis ∷ []) (parameter_list_runs ps s n) (λ t soft. closed_cons k.Ellipsis [] t refl tt)

  parameter_list_runs : (ps : c.ParameterList) → SpeltList ps → (n : ℕ) → Runs (parameter_list n ps)
  parameter_list_runs c.no_parameters s n = nothing_runs
  parameter_list_runs (c.a_parameter ss d c.no_parameters) s n = apart_runs (specifiers n ss) (declarator n d) (specifiers_run ss s.0 n) (declarator_runs d s.1 n)
  parameter_list_runs (c.a_parameter ss d (c.a_parameter ss' d' ps)) s n =
      listed_runs (apart (specifiers n ss) (declarator n d)) (parameter_list n (c.a_parameter ss' d' ps)) (apart_runs (specifiers n ss) (declarator n d) (specifiers_run ss s.0 n) (declarator_runs d s.1 n))
      (parameter_list_runs (c.a_parameter ss' d' ps) s.2 n)
