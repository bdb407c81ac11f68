-- What symbols derive is good, if it is spelt well and has marks only where they may stand; rule by rule of the grammar.
use Rattle.std.proofs.Common.{◌≡◌, ℕ, Bool, true, false, List}
use Rattle.lt_tree.specs.Tree as c
use Rattle.lt_tree.specs.Comma.{followed_by, is_comma}
use Rattle.lt_tree.specs.Symbols.{Symbol}
use Rattle.lt_tree.specs.Scope.{Scope}
use Rattle.lt_tree.specs.Operators.{Infix, arithmetic, connective, operation}
use Rattle.lt_tree.specs.Grammar as g
use Rattle.lt_tree.specs.Grammar.{Level}
use Rattle.lt_print.proofs.Spelt.{Spelt, SpeltAll, SpeltMarks, SpeltMark, SpeltBindings}
use Rattle.lt_print.proofs.Claims.{IsSequence, TypeNameAgain}
use Rattle.lt_print.proofs.DeclaratorFronts.{type_name_again}
use Rattle.lt_print.proofs.Again.{of_specifiers, of_declarator}
use Rattle.lt_marked_texts.proofs.Good.{AreSome, Good, GoodAll, GoodMarks, GoodMark, GoodBindings, longer, all_joined}
use Rattle.lt_marked_texts.proofs.Free.{Free, FreeAll, FreeMarks, FreeMark, FreeBindings}
use Rattle.lt_marked_texts.proofs.SameTypes.{operand_same, type_name_same}

operation_good : (scope : Scope) (none : Bool) (op : Infix) (left right : c.Expression) → Spelt (operation op left right) → Free none (operation op left right)
    → (Spelt left → Free none left → Good scope left) → (Spelt right → Free none right → Good scope right) → Good scope (operation op left right)
operation_good scope none (arithmetic o) left right spelt free a b = (a spelt.0 free.0, b spelt.1 free.1)
operation_good scope none (connective o) left right spelt free a b = (a spelt.0 free.0, b spelt.1 free.1)

abbrev IsFilled : c.Expressions → Type 0
IsFilled c.no_expressions = ⊥
IsFilled (c.an_expression e es) = Unit {0}

is_sequence : (first : c.Expression) (parts : c.Expressions) → is_comma first ≡ false → IsFilled parts → IsSequence (c.an_expression first parts)
is_sequence first c.no_expressions h filled = absurd filled
is_sequence first (c.an_expression second rest) h filled = h

spelt_front : (front parts : c.Expressions) → SpeltAll (followed_by front parts) → SpeltAll front × SpeltAll parts
spelt_front c.no_expressions parts all = (tt, all)
spelt_front (c.an_expression e es) parts all = let rest = spelt_front es parts all.1 in ((all.0, rest.0), rest.1)

free_front : (none : Bool) (front parts : c.Expressions) → FreeAll none (followed_by front parts) → FreeAll none front × FreeAll none parts
free_front none c.no_expressions parts all = (tt, all)
free_front none (c.an_expression e es) parts all = let rest = free_front none es parts all.1 in ((all.0, rest.0), rest.1)

mutual
  pub of_expression : (none : Bool) {scope : Scope} {level : Level} {ts : List Symbol} {e : c.Expression} {rest : List Symbol} {spots more : List ℕ}
      → g.IsExpression scope level ts e rest spots more → Spelt e → Free none e → Good scope e
  of_expression none (g.name h) spelt free = (h, spelt)
  of_expression none g.constant spelt free = spelt
  of_expression none (g.text t) spelt free = spelt
  of_expression none (g.parentheses d) spelt free = of_expression none d spelt free
  of_expression none (g.decide d l) spelt free = (of_expression none d spelt.0 free.1, spelt.1, spelt.2, spelt.3)
  of_expression none (g.after d l) spelt free = (of_expression none d spelt.0 free.1, spelt.1, spelt.2)
  of_expression none (g.of_primary d) spelt free = of_expression none d spelt free
  of_expression none (g.index a b) spelt free = (of_expression none a spelt.0 free.0, of_expression none b spelt.1 free.1)
  of_expression none (g.call a b) spelt free = (of_expression none a spelt.0 free.0, of_arguments none b spelt.1 free.1)
  of_expression none (g.member d) spelt free = (of_expression none d spelt.0 free, spelt.1)
  of_expression none (g.arrow d) spelt free = (of_expression none d spelt.0 free, spelt.1)
  of_expression none (g.increment_behind d) spelt free = of_expression none d spelt free
  of_expression none (g.decrement_behind d) spelt free = of_expression none d spelt free
  of_expression none (g.of_postfix d) spelt free = of_expression none d spelt free
  of_expression none (g.increment_before d) spelt free = of_expression none d spelt free
  of_expression none (g.decrement_before d) spelt free = of_expression none d spelt free
  of_expression none (g.prefixed h d) spelt free = of_expression none d spelt free
  of_expression none (g.sizeof_expression d) spelt free = (of_expression true d spelt free, operand_same d free)
  of_expression none (g.sizeof_type t) spelt free =
      let same = type_name_same t free.0 free.1 in record { again = type_name t; words = spelt.0; parts = spelt.1; same_words = same.0; same_parts = same.1 }
  of_expression none (g.of_unary d) spelt free = of_expression none d spelt free
  of_expression none (g.cast_to t d) spelt free =
      let same = type_name_same t free.0 free.1 in
      (record { again = type_name t; words = spelt.0; parts = spelt.1; same_words = same.0; same_parts = same.1 }, of_expression none d spelt.2 free.2)
  of_expression none (g.of_cast d) spelt free = of_expression none d spelt free
  of_expression none (g.of_tighter d) spelt free = of_expression none d spelt free
  of_expression none {scope} (g.operates {op} {left} {right} a i b) spelt free = operation_good scope none op left right spelt free (λ x y. of_expression none a x y) (λ x y. of_expression none b x y)
  of_expression none (g.of_binary d) spelt free = of_expression none d spelt free
  of_expression none (g.choice a b d) spelt free = (of_expression none a spelt.0 free.0, of_expression none b spelt.1 free.1, of_expression none d spelt.2 free.2)
  of_expression none (g.of_conditional d) spelt free = of_expression none d spelt free
  of_expression none (g.assigns {k} a i b) spelt free = (record { sign = k; is = i; written = spelt.0 }, of_expression none a spelt.1 free.0, of_expression none b spelt.2 free.1)
  of_expression none (g.of_assignment d) spelt free = of_expression none d spelt free
  of_expression none (g.behind_marks ms d) spelt free = let marks = of_marks none ms spelt.0 free.0 in (marks.0, marks.1, of_expression none d spelt.1 free.1)
  of_expression none (g.of_marked d) spelt free = of_expression none d spelt free
  of_expression none (g.sequence {first} {parts} a n ps) spelt free =
      let others = of_parts none ps spelt.1 free.1 in (is_sequence first parts n others.0, (of_expression none a spelt.0 free.0, others.1))
  of_expression none {scope} (g.longer_sequence {front} {parts} a ps) spelt free =
      let words = spelt_front front parts spelt in
      let marks = free_front none front parts free in
      let before = of_expression none a words.0 marks.0 in
      (longer front parts before.0, all_joined scope front parts before.1 (of_parts none ps words.1 marks.1).1)

  of_parts : (none : Bool) {scope : Scope} {ts : List Symbol} {es : c.Expressions} {rest : List Symbol} {spots more : List ℕ} → g.AreParts scope ts es rest spots more → SpeltAll es → FreeAll none es
      → IsFilled es × GoodAll scope es
  of_parts none (g.last_part d) spelt free = (tt, (of_expression none d spelt.0 free.0, tt))
  of_parts none (g.more_parts d ps) spelt free = (tt, (of_expression none d spelt.0 free.0, (of_parts none ps spelt.1 free.1).1))

  of_arguments : (none : Bool) {scope : Scope} {ts : List Symbol} {es : c.Expressions} {rest : List Symbol} {spots more : List ℕ} → g.AreArguments scope ts es rest spots more → SpeltAll es → FreeAll none es
      → GoodAll scope es
  of_arguments none g.no_arguments spelt free = tt
  of_arguments none (g.last_argument d) spelt free = (of_expression none d spelt.0 free.0, tt)
  of_arguments none (g.more_arguments d es) spelt free = (of_expression none d spelt.0 free.0, of_arguments none es spelt.1 free.1)

  pub of_mark : (none : Bool) {scope : Scope} {ts : List Symbol} {m : c.Mark} {rest : List Symbol} {spots more : List ℕ} → g.IsMark scope ts m rest spots more → SpeltMark m → FreeMark none m → GoodMark scope m
  of_mark none (g.label d l) spelt free = (of_expression none d spelt.0 free.1, spelt.1, spelt.2, tt)
  of_mark none (g.binding_label d l bs) spelt free = (of_expression none d spelt.0 free.1, spelt.1, spelt.2, of_bindings none bs spelt.3 free.2)

  of_bindings : (none : Bool) {scope : Scope} {ts : List Symbol} {bs : c.Bindings} {rest : List Symbol} {spots more : List ℕ} → g.AreBindings scope ts bs rest spots more → SpeltBindings bs → FreeBindings none bs
      → GoodBindings scope bs
  of_bindings none (g.last_binding d) spelt free = (spelt.0, of_expression none d spelt.1 free.0, tt)
  of_bindings none (g.more_bindings d bs) spelt free = (spelt.0, of_expression none d spelt.1 free.0, of_bindings none bs spelt.2 free.1)

  of_marks : (none : Bool) {scope : Scope} {ts : List Symbol} {ms : c.Marks} {rest : List Symbol} {spots more : List ℕ} → g.AreMarks scope ts ms rest spots more → SpeltMarks ms → FreeMarks none ms
      → AreSome ms × GoodMarks scope ms
  of_marks none (g.last_mark m) spelt free = (tt, (of_mark none m spelt.0 free.0, tt))
  of_marks none (g.more_marks m ms) spelt free = (tt, (of_mark none m spelt.0 free.0, (of_marks none ms spelt.1 free.1).1))

  type_name : {scope : Scope} {ts : List Symbol} {ss : c.Specifiers} {d : c.Declarator} {rest : List Symbol} {spots more : List ℕ} → g.IsTypeName scope ts ss d rest spots more → TypeNameAgain scope ss d
  type_name (g.type_name s d) = type_name_again (of_specifiers s) (of_declarator d)
