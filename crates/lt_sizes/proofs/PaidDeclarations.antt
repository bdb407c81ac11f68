-- Initialisers and declarations cost no more than their text pays.
use Rattle.std.proofs.Common.{◌≡◌, refl, sym, ap, ◌∙◌, ℕ, suc, ◌≤◌, Bool, true, false, List, [], ◌∷◌, ◌++◌, length, Option, Some, None, arith, append_assoc, append-nil}
use Rattle.std.specs.Prelude.{if◌then◌else◌, is_some}
use Rattle.std.specs.List.{sum_by, flat_map}
use Rattle.lt_tree.specs.declared.specifier.Storage.{Storage}
use Rattle.lt_tree.specs.Tree as c
use Rattle.lt_tree.specs.Nodes.{Node, an_initialiser, in_expression, in_initialiser, in_initialisers, in_declarator, in_optional_initialiser, in_init_declarator, in_declaration, in_specifiers}
use Rattle.lt_tree.specs.Typing.Types.{CType, struct_of, is_array, unqualified}
use Rattle.lt_tree.specs.Typing.Rules.{Rule, broken_if, bad_initialiser}
use Rattle.lt_tree.specs.Typing.TypedTree.{Value, StartPart, Start, Local, stored, fixed}
use Rattle.lt_tree.specs.Typing.Entities.{Known, Function, Life, is_static, type_of_object}
use Rattle.lt_tree.specs.Typing.Steps.{◌>>◌, gives, settle}
use Rattle.lt_tree.specs.Typing.Expressions.{Typed, as_value, own_type, value_in, converted_to}
use Rattle.lt_tree.specs.Typing.Specifying.{Specified, alone, elsewhere}
use Rattle.lt_tree.specs.Typing.Declarators.{Declares, Built, is_written, all_faults}
use Rattle.lt_tree.specs.Typing.NodeEnds.{end_of_declarator, enter_if}
use Rattle.lt_tree.specs.Typing.ExpressionTyping.{specifiers, declarator, parts}
use Rattle.lt_tree.specs.Typing.Filling.{Run, Filling, opened, is_struct_of, is_character_array, is_too_long_for, letters_of, value_faults, value_part, content_of, text_in, filling_of, list_faults}
use Rattle.lt_tree.specs.Typing.InitialiserTyping.{Judges, literal_alone, filled_by, fill_value, value_initialiser, fill_text, initialiser_without_braces, filling_for, faults_of_list, behind_list, initialiser, initialisers, Started, with_length, whole_value, whole_text, whole_without_braces, listed_length, object_initialiser, initialiser_of_none}
use Rattle.lt_tree.specs.Typing.Declaring.{Kind, a_type_name, a_function_name, an_object_of, kind_of, declaration_faults, declare_object, length_faults}
use Rattle.lt_tree.specs.Typing.DeclarationTyping.{no_object, created, started_object, declare, init_declarator, init_declarators, has_no_declarator, declaration_by}
use Rattle.lt_code.specs.Sizes.{letters_in_part, letters_in_local}
use Rattle.lt_code.specs.Costs.{Cost, ◌⊕◌, full_value, full_test, of_part, of_parts, of_local, of_locals, nodes_of, behind, calls_in}
use Rattle.lt_code.specs.Costs as costs
use Rattle.lt_sizes.proofs.Among as among
use Rattle.lt_sizes.proofs.Texts.{count, calls, IsWhole}
use Rattle.lt_sizes.proofs.WholeTexts.{declarator_whole, specifiers_whole, initialiser_whole, init_declarator_whole}
use Rattle.lt_sizes.proofs.Walks.{Gives, went, bind, skip, so, entered, declare_if_named}
use Rattle.lt_sizes.proofs.Values.{IsPaid, IsOperand, converted}
use Rattle.lt_sizes.proofs.Payments.{IsPaidBy, free, side_by_side, behind_text, node_pays, same_cost, parts_beside, locals_beside}
use Rattle.lt_sizes.proofs.PaidExpressions.{of_expression}

-- an expression has a node
pub some_nodes : (it : c.Expression) → 1 ≤ count (in_expression it)
some_nodes (c.Name w) = omega arith
some_nodes _ = omega arith

-- a value's code beside its registers, and a test's
abbrev pub quietly : List Function → Value → Cost
quietly functions v = record { nodes = (nodes_of v).value; registers = 0; loops = 0; calls = calls_in functions v }

abbrev pub test_quietly : List Function → Value → Cost
test_quietly functions v = record { nodes = (nodes_of v).test; registers = 0; loops = 0; calls = calls_in functions v }

pub value_pays : {functions : List Function} {v : Value} (ns : List Node) → IsOperand functions (count ns) (calls functions ns) v → IsPaidBy functions ns 0 (quietly functions v)
value_pays ns p = record { nodes = omega arith; registers = omega arith; loops = omega arith; among = p.among }

pub test_pays : {functions : List Function} {v : Value} (ns : List Node) → IsPaid functions (count ns) (calls functions ns) v → IsPaidBy functions ns 0 (test_quietly functions v)
test_pays ns p = record { nodes = omega arith; registers = omega arith; loops = omega arith; among = p.among }

-- a declarator that has a name is a node
pub record NameHasNode (d : c.Declarator) (declared : Declares) : Type 0 where
  pub has_node : (name : List ℕ) → declared.name ≡ Some name → 1 ≤ count (in_declarator d)

named_node : (name : Option (List ℕ)) (ps : c.Parts) (w : List ℕ) → name ≡ Some w → 1 ≤ count (in_declarator (c.declarator name ps))
named_node None ps w h = absurd cc
named_node (Some v) ps w h = omega arith

of_end : (name : Option (List ℕ)) (ps : c.Parts) (node : Option ℕ) (b : Built) (faults : List Rule) (known : Known)
    → Gives (NameHasNode (c.declarator name ps)) (end_of_declarator node name b faults known)
of_end name ps None b faults known = went (record { has_node = named_node name ps })
of_end name ps (Some node) b faults known = skip (settle node faults known) (λ u k. went (record { has_node = named_node name ps }))

pub of_declarator : (d : c.Declarator) (it : Specified) (is_definition : Bool) (judge : Option (List ℕ) → Known → Built → List Rule) (known : Known)
    → Gives (NameHasNode d) (declarator d it is_definition judge known)
of_declarator (c.declarator name ps) it is_definition judge known =
    skip (enter_if (is_written name ps) known) (λ node k. skip (parts ps it.type is_definition true k) (λ b k. of_end name ps node b (all_faults it b (judge name k b)) k))

module _ (functions : List Function) where
  -- ---- parts

  one_part : {ns : List Node} (part : StartPart) → IsPaidBy functions ns (letters_in_part part) (of_part functions part)
      → IsPaidBy functions ns (sum_by letters_in_part (part ∷ [])) (of_parts functions (part ∷ []))
  one_part part p = same_cost (omega arith) (omega arith) (omega arith) (append-nil _) (omega arith) p

  -- the initialiser that an expression is
  abbrev pays : c.Expression → StartPart → Type 0
  pays it part = IsPaidBy functions (in_initialiser (c.Value it)) (letters_in_part part) (of_part functions part)

  value_part_paid : (it : c.Expression) (known : Known) (is_static : Bool) (offset : ℕ) (t : CType) (x : Typed) → IsPaid functions (count (in_expression it)) (calls functions (in_expression it)) (value_in x)
      → pays it (value_part known is_static offset t x)
  value_part_paid it known is_static offset t x p =
      let v = converted (unqualified t) p in
      elim is_static as (λ s. pays it (if s then fixed offset (unqualified t) (content_of known t x) else stored offset (converted_to (unqualified t) (value_in x)))) [
        | true ↦ node_pays (an_initialiser (c.Value it)) (in_expression it) refl (free functions (in_expression it))
            (record { nodes = omega arith; registers = omega arith; loops = omega arith; calls = refl })
        | false ↦ node_pays (an_initialiser (c.Value it)) (in_expression it) refl (value_pays (in_expression it) v)
            (record { nodes = omega arith; registers = omega arith; loops = omega arith; calls = refl })
      ]

  letters_paid : (it : c.Expression) (offset : ℕ) (t : CType) (bytes : List ℕ) → pays it (letters_of offset t bytes)
  letters_paid it offset t bytes = node_pays {behind = there} (an_initialiser (c.Value it)) (in_expression it) refl paid
      (let h = some_nodes it in record { nodes = omega arith; registers = omega arith; loops = omega arith; calls = refl })
    where
      there : Cost
      there = record (of_part functions (letters_of offset t bytes)) { registers = 0 }

      paid : IsPaidBy functions (in_expression it) (letters_in_part (letters_of offset t bytes)) there
      paid = record { nodes = omega arith; registers = omega arith; loops = omega arith; among = among.nothing _ }

  -- ---- lists of initialisers

  -- these parts come behind those before, and the text pays for them
  record Fills (ns : List Node) (before after : List StartPart) : Type 0 where
    more : List StartPart
    is : after ≡ before ++ more
    paid : IsPaidBy functions ns (sum_by letters_in_part more) (of_parts functions more)

  none_filled : (ns : List Node) (parts : List StartPart) → Fills ns parts parts
  none_filled ns parts = record { more = []; is = sym (append-nil parts); paid = free functions ns }

  one_filled : (it : c.Expression) (before : List StartPart) (part : StartPart) → pays it part → Fills (in_initialiser (c.Value it)) before (before ++ part ∷ [])
  one_filled it before part p = record { more = part ∷ []; is = refl; paid = one_part part p }

  then_filled : {first second third : List StartPart} (xs ys : List Node) → IsWhole xs → Fills xs first second → Fills ys second third → Fills (xs ++ ys) first third
  then_filled {first} {second} {third} xs ys w p q = record {
    more = p.more ++ q.more;
    is = (q.is ∙ ap (λ zs. zs ++ q.more) p.is) ∙ append_assoc first p.more q.more;
    paid = parts_beside functions p.more q.more (side_by_side xs ys w p.paid q.paid);
  }

  of_fill_value : (node : ℕ) (is_static : Bool) (filling : Filling) (it : c.Expression) (x : Typed) (at : Known) (runs : List Run) (known : Known)
      → IsPaid functions (count (in_expression it)) (calls functions (in_expression it)) (value_in x)
      → Gives (λ f. Fills (in_initialiser (c.Value it)) filling.parts f.parts) (fill_value node is_static filling x at runs known)
  of_fill_value node is_static filling it x at [] known p = went (none_filled (in_initialiser (c.Value it)) filling.parts)
  of_fill_value node is_static filling it x at (run ∷ runs) known p =
      skip (settle node (value_faults at is_static run.type x) known)
      (λ u k. went (one_filled it filling.parts (value_part at is_static run.offset run.type x) (value_part_paid it at is_static run.offset run.type x p)))

  of_value : (node : ℕ) (is_static : Bool) (filling : Filling) (it : c.Expression) (known : Known)
      → Gives (λ f. Fills (in_initialiser (c.Value it)) filling.parts f.parts) (value_initialiser node is_static filling it known)
  of_value node is_static filling it known =
      bind (of_expression functions it as_value known) (λ x k p. of_fill_value node is_static filling it x k (opened k (is_struct_of (struct_of (own_type x))) filling.left) k p.as_value)

  of_text_or_value : (node : ℕ) (is_text is_static : Bool) (filling : Filling) (it : c.Expression) (bytes : List ℕ) (run : Run) (runs : List Run) (known : Known)
      → Gives (λ f. Fills (in_initialiser (c.Value it)) filling.parts f.parts)
      ((if is_text then (literal_alone bytes >> (settle node (broken_if bad_initialiser (is_too_long_for run.type bytes)) >> gives (filled_by filling (letters_of run.offset run.type bytes) runs)))
      else value_initialiser node is_static filling it) known)
  of_text_or_value node true is_static filling it bytes run runs known =
      skip (literal_alone bytes known) (λ u k. skip (settle node (broken_if bad_initialiser (is_too_long_for run.type bytes)) k)
      (λ u k. went (one_filled it filling.parts (letters_of run.offset run.type bytes) (letters_paid it run.offset run.type bytes))))
  of_text_or_value node false is_static filling it bytes run runs known = of_value node is_static filling it known

  of_fill_text : (node : ℕ) (is_static : Bool) (filling : Filling) (it : c.Expression) (bytes : List ℕ) (runs : List Run) (known : Known)
      → Gives (λ f. Fills (in_initialiser (c.Value it)) filling.parts f.parts) (fill_text node is_static filling it bytes runs known)
  of_fill_text node is_static filling it bytes [] known = of_value node is_static filling it known
  of_fill_text node is_static filling it bytes (run ∷ runs) known = of_text_or_value node (is_character_array run.type) is_static filling it bytes run runs known

  of_unbraced : (node : ℕ) (is_static : Bool) (filling : Filling) (it : c.Expression) (found : Option (List ℕ)) (known : Known)
      → Gives (λ f. Fills (in_initialiser (c.Value it)) filling.parts f.parts) (initialiser_without_braces node is_static filling it found known)
  of_unbraced node is_static filling it None known = of_value node is_static filling it known
  of_unbraced node is_static filling it (Some bytes) known = of_fill_text node is_static filling it bytes (opened known is_character_array filling.left) known

  no_parts_yet : (known : Known) (list : c.Initialisers) (runs : List Run) → (filling_for known list runs).parts ≡ []
  no_parts_yet known list [] = refl
  no_parts_yet known list (run ∷ runs) = refl

  -- a list in braces costs what its parts do
  braces_paid : (more : List StartPart) (list : c.Initialisers) → IsPaidBy functions (in_initialisers list) (sum_by letters_in_part more) (of_parts functions more)
      → IsPaidBy functions (in_initialiser (c.Braces list)) (sum_by letters_in_part more) (of_parts functions more)
  braces_paid more list p =
      node_pays (an_initialiser (c.Braces list)) (in_initialisers list) refl p (record { nodes = omega arith; registers = omega arith; loops = omega arith; calls = refl })

  behind_braces : (known : Known) (list : c.Initialisers) (outer inner : Filling) (runs : List Run) (before : List StartPart) → before ≡ [] → Fills (in_initialisers list) before inner.parts
      → Fills (in_initialiser (c.Braces list)) outer.parts (behind_list known outer inner runs).parts
  behind_braces known list outer inner [] before e p = none_filled (in_initialiser (c.Braces list)) outer.parts
  behind_braces known list outer inner (run ∷ runs) before e p =
      let same : inner.parts ≡ p.more = p.is ∙ ap (λ xs. xs ++ p.more) e in
      record { more = p.more; is = ap (λ xs. outer.parts ++ xs) same; paid = braces_paid p.more list p.paid }

  mutual
    of_initialiser : (it : c.Initialiser) (is_static : Bool) (filling : Filling) (known : Known) → Gives (λ f. Fills (in_initialiser it) filling.parts f.parts) (initialiser it is_static filling known)
    of_initialiser (c.Value it) is_static filling known = of_unbraced known.next is_static filling it (text_in it) _
    of_initialiser (c.Braces list) is_static filling known =
        bind (of_initialisers list is_static (filling_for (entered known) list filling.left) (entered known)) (λ inner k p. skip (settle known.next (faults_of_list list inner filling.left) k)
        (λ u k. went (behind_braces (entered known) list filling inner filling.left _ (no_parts_yet (entered known) list filling.left) p)))

    of_initialisers : (them : c.Initialisers) (is_static : Bool) (filling : Filling) (known : Known)
        → Gives (λ f. Fills (in_initialisers them) filling.parts f.parts) (initialisers them is_static filling known)
    of_initialisers c.no_initialisers is_static filling known = went (none_filled [] filling.parts)
    of_initialisers (c.an_initialiser first rest) is_static filling known =
        bind (of_initialiser first is_static filling known) (λ next k p. so (λ last q. then_filled _ _ (initialiser_whole first) p q) (of_initialisers rest is_static next k))

  -- ---- initialisers of objects

  abbrev StartPaid : c.Initialiser → Started → Type 0
  StartPaid it s = IsPaidBy functions (in_initialiser it) (sum_by letters_in_part s.start.parts) (of_parts functions s.start.parts)

  of_whole_value : (node : ℕ) (is_static : Bool) (t : CType) (judge : Judges) (it : c.Expression) (known : Known) → Gives (StartPaid (c.Value it)) (whole_value node is_static t judge it known)
  of_whole_value node is_static t judge it known =
      bind (of_expression functions it as_value known) (λ x k p. skip (settle node ((if is_array t then bad_initialiser ∷ [] else value_faults k is_static t x) ++ judge k t) k)
      (λ u k2. went (one_part (value_part k is_static 0 t x) (value_part_paid it k is_static 0 t x p.as_value))))

  of_text_or_whole : (node : ℕ) (is_text is_static : Bool) (t : CType) (judge : Judges) (it : c.Expression) (bytes : List ℕ) (known : Known)
      → Gives (StartPaid (c.Value it)) ((if is_text then whole_text node t judge bytes else whole_value node is_static t judge it) known)
  of_text_or_whole node true is_static t judge it bytes known =
      skip (literal_alone bytes known) (λ u k. skip (settle node (broken_if bad_initialiser (is_too_long_for t bytes) ++ judge k (with_length t (suc (length bytes)))) k)
      (λ u k. went (one_part (letters_of 0 t bytes) (letters_paid it 0 t bytes))))
  of_text_or_whole node false is_static t judge it bytes known = of_whole_value node is_static t judge it known

  of_whole : (node : ℕ) (is_static : Bool) (t : CType) (judge : Judges) (it : c.Expression) (found : Option (List ℕ)) (known : Known)
      → Gives (StartPaid (c.Value it)) (whole_without_braces node is_static t judge it found known)
  of_whole node is_static t judge it None known = of_whole_value node is_static t judge it known
  of_whole node is_static t judge it (Some bytes) known = of_text_or_whole node (is_character_array t) is_static t judge it bytes known

  whole_list : (list : c.Initialisers) (parts : List StartPart) → Fills (in_initialisers list) [] parts
      → IsPaidBy functions (in_initialiser (c.Braces list)) (sum_by letters_in_part parts) (of_parts functions parts)
  whole_list list parts p = rw p.is (braces_paid p.more list p.paid)

  of_object_initialiser : (it : c.Initialiser) (is_static : Bool) (t : CType) (judge : Judges) (known : Known) → Gives (StartPaid it) (object_initialiser is_static t judge it known)
  of_object_initialiser (c.Value it) is_static t judge known = of_whole known.next is_static t judge it (text_in it) _
  of_object_initialiser (c.Braces list) is_static t judge known =
      bind (of_initialisers list is_static (filling_of (entered known) 0 t list) (entered known)) (λ filled k p. skip (settle known.next (list_faults t list filled ++ judge k (with_length t (listed_length k t list filled))) k)
      (λ u k2. went (whole_list list filled.parts p)))

  -- ---- declarations

  abbrev LocalsPaid : List Node → List Local → Type 0
  LocalsPaid ns locals = IsPaidBy functions ns (sum_by letters_in_local locals) (of_locals functions locals)

  of_no_object : (ns : List Node) (i : Option c.Initialiser) (known : Known) → Gives (LocalsPaid ns) (no_object i known)
  of_no_object ns None known = went (free functions ns)
  of_no_object ns (Some i) known = skip (initialiser_of_none i known) (λ u k. went (free functions ns))

  one_local : {ns : List Node} (it : Local) → IsPaidBy functions ns (letters_in_local it) (of_local functions it) → LocalsPaid ns (it ∷ [])
  one_local it p = same_cost (omega arith) (omega arith) (omega arith) (append-nil _) (omega arith) p

  -- its declarator pays for what any object costs
  declarator_pays : (ns : List Node) → 1 ≤ count ns → IsPaidBy functions ns 0 (costs.alone 7)
  declarator_pays ns h = record { nodes = omega arith; registers = omega arith; loops = omega arith; among = among.nothing _ }

  local_paid : {l : ℕ} {a : Cost} (d i : List Node) → IsWhole d → 1 ≤ count d → IsPaidBy functions i l a → IsPaidBy functions (d ++ i) l (costs.alone 7 ⊕ a)
  local_paid d i w h p = same_cost refl refl refl refl (omega arith) (side_by_side d i w (declarator_pays d h) p)

  of_created : (is_there : Bool) (n : ℕ) (start : Option Start) {ns : List Node} → IsPaidBy functions ns (letters_in_local (record { object = n; start = start })) (of_local functions (record { object = n; start = start }))
      → LocalsPaid ns (created is_there n start)
  of_created true n start {ns} p = free functions ns
  of_created false n start p = one_local (record { object = n; start = start }) p

  of_started_object : (d : List Node) → IsWhole d → 1 ≤ count d → (life : Life) (n : ℕ) (i : Option c.Initialiser) (known : Known)
      → Gives (LocalsPaid (d ++ in_optional_initialiser i)) (started_object life n i known)
  of_started_object d w h life n None known = went (of_created (is_static life) n None (local_paid d [] w h (free functions [])))
  of_started_object d w h life n (Some i) known =
      bind (of_object_initialiser i (is_static life) (type_of_object known n) length_faults known)
      (λ it k p. went (of_created (is_static life) n (Some it.start) (local_paid d (in_initialiser i) w h p)))

  of_declare : (d : List Node) → IsWhole d → 1 ≤ count d → (kind : Kind) (node : ℕ) (name : List ℕ) (t : CType) (i : Option c.Initialiser) (known : Known)
      → Gives (LocalsPaid (d ++ in_optional_initialiser i)) (declare kind node name t i known)
  of_declare d w h a_type_name node name t i known = of_no_object _ i _
  of_declare d w h a_function_name node name t i known = of_no_object _ i _
  of_declare d w h (an_object_of life is_register) node name t i known = skip (declare_object life is_register node name t known) (λ n k. of_started_object d w h life n i k)

  of_declare_if_named : (d : List Node) → IsWhole d → (it : Specified) (declared : Declares) (name : Option (List ℕ)) → ((w : List ℕ) → name ≡ Some w → 1 ≤ count d) → (i : Option c.Initialiser) (at known : Known)
      → Gives (LocalsPaid (d ++ in_optional_initialiser i)) (declare_if_named it declared i at name known)
  of_declare_if_named d w it declared None h i at known = of_no_object _ i known
  of_declare_if_named d w it declared (Some name) h i at known = of_declare d w (h name refl) (kind_of at it.storage declared.type) declared.node name declared.type i known

  of_init_declarator : (it : Specified) (d : c.InitDeclarator) (known : Known) → Gives (LocalsPaid (in_init_declarator d)) (init_declarator it d known)
  of_init_declarator it d known =
      bind (of_declarator d.declarator it false (declaration_faults it.storage (is_some d.initialiser)) known)
      (λ declared k h. of_declare_if_named (in_declarator d.declarator) (declarator_whole d.declarator) it declared declared.name h.has_node d.initialiser k k)

  of_init_declarators : (it : Specified) (them : List c.InitDeclarator) (known : Known) → Gives (LocalsPaid (flat_map in_init_declarator them)) (init_declarators it them known)
  of_init_declarators it [] known = went (free functions [])
  of_init_declarators it (d ∷ ds) known =
      bind (of_init_declarator it d known) (λ first k p. bind (of_init_declarators it ds k)
      (λ rest k q. went (locals_beside functions first rest (side_by_side (in_init_declarator d) (flat_map in_init_declarator ds) (init_declarator_whole d) p q))))

  pub of_declaration_by : (effective : Option Storage → Option Storage) (d : c.Declaration) (known : Known)
      → Gives (λ it. IsPaidBy functions (in_declaration d) (sum_by letters_in_local it.locals) (of_locals functions it.locals)) (declaration_by effective d known)
  of_declaration_by effective d known =
      skip (specifiers d.specifiers (if has_no_declarator d.declarators then alone else elsewhere) known)
      (λ it k. bind (of_init_declarators (record it { storage = effective it.storage }) d.declarators k)
      (λ locals k p. went (behind_text (in_specifiers d.specifiers) (flat_map in_init_declarator d.declarators) (specifiers_whole d.specifiers) p)))
