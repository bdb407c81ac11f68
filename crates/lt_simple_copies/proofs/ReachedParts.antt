-- From a piece of a unit to its parts: where the nodes of a part stand, and which tags are in scope there.
use Rattle.std.proofs.Common.{◌≡◌, refl, sym, subst, ap, ◌∙◌, ℕ, Bool, true, false, List, [], ◌∷◌, ◌++◌, Option, Some, None, append_assoc, arith}
use Rattle.std.proofs.lemmas.List.{append-nil}
use Rattle.std.specs.Prelude.{is_some, unwrap_or, if◌then◌else◌}
use Rattle.std.specs.List.{flat_map}
use Rattle.lt_tree.specs.Tree as c
use Rattle.lt_tree.specs.Nodes.{in_expression, in_expressions, in_marks, in_mark, in_specifiers, in_declarator, in_initialiser, in_initialisers, in_init_declarator, in_declaration, in_optional, in_start, in_label}
use Rattle.lt_tree.specs.Typing.Types.{CType}
use Rattle.lt_tree.specs.Typing.Entities.{Known, Frame, Entity, Tagged, a_function, tagged_among, tagged_in, or_else, binding, declared_among}
use Rattle.lt_tree.specs.Typing.Expressions.{as_value, as_truth, as_place, as_callee}
use Rattle.lt_tree.specs.Typing.Specifying.{alone, elsewhere}
use Rattle.lt_tree.specs.Typing.Declarators.{Declares, type_name_faults}
use Rattle.lt_tree.specs.Typing.Declaring.{with_declared, declaration_faults, definition_faults}
use Rattle.lt_tree.specs.Typing.DeclarationTyping.{has_no_declarator}
use Rattle.lt_tree.specs.Typing.StatementTyping.{in_a_loop}
use Rattle.lt_tree.specs.Typing.UnitTyping.{frame_of}
use Rattle.lt_objectives.specs.Tags.{Tags, tags_in, tags_in_start, tags_of_parameters, tags_behind, fitting, fitting_in_statement, fitting_in_items, fitting_in_cases, fitting_in_external, fitting_in_externals}
use Rattle.lt_typed_nodes.specs.Coming.{entered, in_new_block}
use Rattle.lt_typed_nodes.specs.ComingItems.{in_body}
use Rattle.lt_typed_nodes.specs.Reaching as r
use Rattle.lt_typed_nodes.specs.Reaching.{Piece, IsPart}
use Rattle.lt_simple_copies.specs.Scopes.{IsInScope, AreInScope}
use Rattle.lt_simple_copies.proofs.FittingLists.{fitting_in_piece, as_many_as, as_many_in_statement, as_many_in_external}
use Rattle.lt_simple_copies.proofs.ReachedDeclared.{with_declared_of, function_leaves}
use Rattle.lt_simple_copies.proofs.ReachedPlaces.{Stands, Steps, all_stay, both_in_scope, there_with, inside, in_block_of, first, next, regrouped, first_nodes, next_nodes, as_deep, one_more, without_tags}
use Rattle.lt_simple_copies.proofs.ReachedLaws.{Laws, behind_expression, behind_marks, behind_mark, behind_specifiers, behind_declarator, behind_initialiser, behind_object, behind_init_declarator, behind_declaration, behind_start, behind_test, behind_step, behind_labels, behind_statement, behind_block, behind_external}

-- The nodes of a piece are the next of all nodes, and predicates may copy those that fit with these tags, which are in scope.
pub record Located (all : List Bool) (it : Piece) (known : Known) : Type 0 where
  pub tags : Tags
  pub stands : Stands all tags known (fitting_in_piece tags it)

-- ---- the body of a function

-- a name hides no tag, and a function that is declared changes no scope
binding_leaves : (name : List ℕ) (entity : Entity) (tag : List ℕ) (frames : List Frame) → tagged_in tag (binding name entity frames) ≡ tagged_in tag frames
binding_leaves name entity tag [] = refl
binding_leaves name entity tag (frame ∷ frames) = refl

frames_of : (name : List ℕ) (t : CType) (known : Known) (found : Option CType) → (with_declared_of name t known found).frames ≡ known.frames
frames_of name t known None = refl
frames_of name t known (Some u) = refl

tags_leave : (name : List ℕ) (t : CType) (known : Known) (tag : List ℕ) → tagged_in tag (binding name a_function (with_declared name t known).frames) ≡ tagged_in tag known.frames
tags_leave name t known tag = binding_leaves name a_function tag (with_declared name t known).frames ∙ ap (tagged_in tag) (frames_of name t known (declared_among name known.declared))

in_outer : (first rest : Option Tagged) → is_some rest ≡ true → is_some (or_else first rest) ≡ true
in_outer None rest there = there
in_outer (Some tagged) rest there = refl

outer_stays : (declared : Declares) (known : Known) (tag : List ℕ) → IsInScope known.frames tag → IsInScope (in_body declared known).frames tag
outer_stays declared known tag there =
    in_outer (tagged_among tag (frame_of declared.parameters).tags) (tagged_in tag (binding (unwrap_or declared.name []) a_function (with_declared (unwrap_or declared.name []) declared.type known).frames))
    (ap is_some (tags_leave (unwrap_or declared.name []) declared.type known tag) ∙ there)

parameter_stays : (declared : Declares) (known : Known) (tag : List ℕ) → IsInScope (frame_of declared.parameters ∷ known.frames) tag → IsInScope (in_body declared known).frames tag
parameter_stays declared known tag there =
    ap (λ found. is_some (or_else (tagged_among tag (frame_of declared.parameters).tags) found)) (tags_leave (unwrap_or declared.name []) declared.type known tag) ∙ there

body : {all : List Bool} {j : Known} {own : List Bool} (declared : Declares) (named outer tags : Tags)
    → AreInScope (frame_of declared.parameters ∷ j.frames) named → Stands all (outer ++ tags) j own → Stands all (named ++ outer ++ tags) (in_body declared j) own
body {all} {j} {own} declared named outer tags parameters stands =
    subst (λ t. Stands all t (in_body declared j) own) (sym (append_assoc named outer tags))
    (there_with (named ++ (outer ++ tags)) (in_body declared j) (omega arith)
    (both_in_scope (in_body declared j).frames named (outer ++ tags)
    (all_stay (frame_of declared.parameters ∷ j.frames) (in_body declared j).frames (parameter_stays declared j) named parameters)
    (all_stay j.frames (in_body declared j).frames (outer_stays declared j) (outer ++ tags) stands.scope))
    (function_leaves (unwrap_or declared.name []) declared.type j) stands)

-- an external, where these tags are in scope
tags_behind_both : (tags : Tags) (it : c.External) → tags_behind [] it ++ tags ≡ tags_behind tags it
tags_behind_both tags (c.Defines s d them) = ap (λ it. it ++ tags) (append-nil (tags_in s))
tags_behind_both tags (c.Declared d) = ap (λ it. it ++ tags) (append-nil (tags_in d.specifiers))

-- ---- parts

at : {all : List Bool} {it : Piece} {known : Known} (tags : Tags) → Stands all tags known (fitting_in_piece tags it) → Located all it known
at tags stands = record { tags = tags; stands = stands }

pub of_part : (laws : Laws) {all : List Bool} {whole part : Piece} {known k : Known} → IsPart whole known part k → Located all whole known → Located all part k
of_part laws (r.an_array {base = base} {index = index}) l = at l.tags (first_nodes l.tags (in_expression base) (in_expression index) (inside l.stands))
of_part laws (r.an_index {base = base} {index = index} {known = known} is) l =
    at l.tags (next_nodes l.tags (in_expression base) (in_expression index) (behind_expression laws base as_value (entered known) is) (inside l.stands))
of_part laws (r.a_callee {callee = callee} {arguments = arguments}) l = at l.tags (first_nodes l.tags (in_expression callee) (in_expressions arguments) (inside l.stands))
of_part laws (r.arguments {callee = callee} {them = them} {known = known} is) l =
    at l.tags (next_nodes l.tags (in_expression callee) (in_expressions them) (behind_expression laws callee as_callee (entered known) is) (inside l.stands))
of_part laws r.a_whole l = at l.tags (inside l.stands)
of_part laws r.a_pointer l = at l.tags (inside l.stands)
of_part laws r.incremented_after l = at l.tags (inside l.stands)
of_part laws r.decremented_after l = at l.tags (inside l.stands)
of_part laws r.incremented l = at l.tags (inside l.stands)
of_part laws r.decremented l = at l.tags (inside l.stands)
of_part laws r.an_operand l = at l.tags (inside l.stands)
of_part laws (r.a_cast {s = s} {d = d} {operand = operand} {known = known} {k = k} {it = it} is then_is) l =
    at l.tags (next_nodes l.tags (in_specifiers s ++ in_declarator d) (in_expression operand)
    (one_more (without_tags (behind_specifiers laws s elsewhere (entered known) is)) (behind_declarator laws d it false (λ name known b. type_name_faults b) k then_is)) (inside l.stands))
of_part laws (r.a_left {left = left} {right = right}) l = at l.tags (first_nodes l.tags (in_expression left) (in_expression right) (inside l.stands))
of_part laws (r.a_right {left = left} {right = right} {known = known} is) l =
    at l.tags (next_nodes l.tags (in_expression left) (in_expression right) (behind_expression laws left as_value (entered known) is) (inside l.stands))
of_part laws (r.a_first {left = left} {right = right}) l = at l.tags (first_nodes l.tags (in_expression left) (in_expression right) (inside l.stands))
of_part laws (r.a_second {left = left} {right = right} {known = known} is) l =
    at l.tags (next_nodes l.tags (in_expression left) (in_expression right) (behind_expression laws left as_truth (entered known) is) (inside l.stands))
of_part laws (r.a_test {test = test} {left = left} {right = right}) l =
    at l.tags (first_nodes l.tags (in_expression test) (in_expression left) (first_nodes l.tags (in_expression test ++ in_expression left) (in_expression right) (inside l.stands)))
of_part laws (r.if_true {test = test} {left = left} {right = right} {known = known} is) l =
    at l.tags (next_nodes l.tags (in_expression test) (in_expression left) (behind_expression laws test as_truth (entered known) is)
    (first_nodes l.tags (in_expression test ++ in_expression left) (in_expression right) (inside l.stands)))
of_part laws (r.if_false {test = test} {left = left} {right = right} {known = known} {k = k} is then_is) l =
    at l.tags (next_nodes l.tags (in_expression test ++ in_expression left) (in_expression right)
    (one_more (behind_expression laws test as_truth (entered known) is) (behind_expression laws left as_value k then_is)) (inside l.stands))
of_part laws (r.a_target {target = target} {value = value}) l = at l.tags (first_nodes l.tags (in_expression target) (in_expression value) (inside l.stands))
of_part laws (r.an_assigned {target = target} {value = value} {known = known} is) l =
    at l.tags (next_nodes l.tags (in_expression target) (in_expression value) (behind_expression laws target as_place (entered known) is) (inside l.stands))
of_part laws r.in_comma l = at l.tags (inside l.stands)
of_part laws (r.behind_marks {ms = ms} {value = value} {known = known} is) l =
    at l.tags (next_nodes l.tags (in_marks ms) (in_expression value) (behind_marks laws ms (entered known) is) (inside l.stands))
of_part laws r.a_decision l = at l.tags (inside l.stands)
of_part laws r.in_after l = at l.tags (inside l.stands)
of_part laws (r.one_expression {first = one} {rest = rest}) l = at l.tags (first_nodes l.tags (in_expression one) (in_expressions rest) l.stands)
of_part laws (r.more_expressions {first = one} {rest = rest} {known = known} is) l =
    at l.tags (next_nodes l.tags (in_expression one) (in_expressions rest) (behind_expression laws one as_value known is) l.stands)
-- initialisers
of_part laws (r.start_value none_found) l = at l.tags (inside l.stands)
of_part laws r.start_braces l = at l.tags (inside l.stands)
of_part laws (r.a_value none_found) l = at l.tags (inside l.stands)
of_part laws r.braces l = at l.tags (inside l.stands)
of_part laws (r.one_initialiser {first = one} {rest = rest}) l = at l.tags (first_nodes l.tags (in_initialiser one) (in_initialisers rest) l.stands)
of_part laws (r.more_initialisers {is_there = is_there} {filling = filling} {first = one} {rest = rest} {known = known} is) l =
    at l.tags (next_nodes l.tags (in_initialiser one) (in_initialisers rest) (behind_initialiser laws one is_there filling known is) l.stands)
-- declarations
of_part laws (r.its_declarators {d = d} {known = known} is) l =
    at (tags_in d.specifiers ++ l.tags) (next_nodes (tags_in d.specifiers ++ l.tags) (in_specifiers d.specifiers) (flat_map in_init_declarator d.declarators)
    (behind_specifiers laws d.specifiers (if has_no_declarator d.declarators then alone else elsewhere) known is) l.stands)
of_part laws (r.its_start {it = it} {d = d} {i = i} {ds = ds} {declared = declared} {name = name} {life = life} {is_register = is_register} {known = known} {k = k} is named kind object) l =
    at l.tags (next_nodes l.tags [] (in_initialiser i) (behind_object laws life is_register declared.node name declared.type k object)
    (next_nodes l.tags (in_declarator d) (in_initialiser i) (behind_declarator laws d it false (declaration_faults it.storage true) known is)
    (first_nodes l.tags (in_declarator d ++ in_initialiser i) (flat_map in_init_declarator ds) l.stands)))
of_part laws (r.more_declarators {it = it} {d = d} {ds = ds} {known = known} is) l =
    at l.tags (next_nodes l.tags (in_init_declarator d) (flat_map in_init_declarator ds) (behind_init_declarator laws it d known is) l.stands)
-- statements
of_part laws r.in_compound l = at l.tags (in_block_of (inside l.stands))
of_part laws r.evaluated l = at l.tags (inside l.stands)
of_part laws (r.if_test {test = test} {body = x}) l = at l.tags (first (fitting l.tags (in_expression test)) (fitting_in_statement l.tags x) (in_block_of (inside l.stands)))
of_part laws (r.if_body {test = test} {body = x} {known = known} is) l =
    at l.tags (in_block_of (next (fitting l.tags (in_expression test)) (fitting_in_statement l.tags x) (as_many_as l.tags (in_expression test))
    (behind_expression laws test as_truth (in_new_block (entered known)) is) (in_block_of (inside l.stands))))
of_part laws (r.if_else_test {test = test} {body = x} {other = y}) l =
    at l.tags (first (fitting l.tags (in_expression test)) (fitting_in_statement l.tags x)
    (first (fitting l.tags (in_expression test) ++ fitting_in_statement l.tags x) (fitting_in_statement l.tags y) (in_block_of (inside l.stands))))
of_part laws (r.if_else_body {test = test} {body = x} {other = y} {known = known} is) l =
    at l.tags (in_block_of (next (fitting l.tags (in_expression test)) (fitting_in_statement l.tags x) (as_many_as l.tags (in_expression test))
    (behind_expression laws test as_truth (in_new_block (entered known)) is)
    (first (fitting l.tags (in_expression test) ++ fitting_in_statement l.tags x) (fitting_in_statement l.tags y) (in_block_of (inside l.stands)))))
of_part laws (r.else_body {around = around} {test = test} {body = x} {other = y} {known = known} {k = k} is then_is) l =
    at l.tags (in_block_of (next (fitting_in_statement l.tags x) (fitting_in_statement l.tags y) (as_many_in_statement l.tags x) (behind_block laws x around k then_is)
    (next (fitting l.tags (in_expression test)) (fitting_in_statement l.tags x ++ fitting_in_statement l.tags y) (as_many_as l.tags (in_expression test))
    (behind_expression laws test as_truth (in_new_block (entered known)) is)
    (regrouped (fitting l.tags (in_expression test)) (fitting_in_statement l.tags x) (fitting_in_statement l.tags y) (in_block_of (inside l.stands))))))
of_part laws (r.while_test {test = test} {body = x}) l = at l.tags (first (fitting l.tags (in_expression test)) (fitting_in_statement l.tags x) (in_block_of (inside l.stands)))
of_part laws (r.while_body {test = test} {body = x} {known = known} is) l =
    at l.tags (in_block_of (next (fitting l.tags (in_expression test)) (fitting_in_statement l.tags x) (as_many_as l.tags (in_expression test))
    (behind_expression laws test as_truth (in_new_block (entered known)) is) (in_block_of (inside l.stands))))
of_part laws (r.do_body {body = x} {test = test}) l =
    at l.tags (in_block_of (first (fitting_in_statement l.tags x) (fitting l.tags (in_expression test)) (in_block_of (inside l.stands))))
of_part laws (r.do_test {around = around} {body = x} {test = test} {known = known} is) l =
    at l.tags (next (fitting_in_statement l.tags x) (fitting l.tags (in_expression test)) (as_many_in_statement l.tags x)
    (behind_block laws x (in_a_loop around) (in_new_block (entered known)) is) (in_block_of (inside l.stands)))
of_part laws (r.for_first {e = e} {test = test} {step = step} {body = x}) l =
    at l.tags (first (fitting l.tags (in_expression e)) (fitting l.tags (in_optional test))
    (first (fitting l.tags (in_expression e) ++ fitting l.tags (in_optional test)) (fitting l.tags (in_optional step))
    (first (fitting l.tags (in_expression e) ++ fitting l.tags (in_optional test) ++ fitting l.tags (in_optional step)) (fitting_in_statement l.tags x) (in_block_of (inside l.stands)))))
of_part laws (r.for_declares {d = d} {test = test} {step = step} {body = x}) l =
    let inner : Tags = tags_in d.specifiers ++ l.tags in
    at l.tags (first (fitting inner (in_declaration d)) (fitting inner (in_optional test))
    (first (fitting inner (in_declaration d) ++ fitting inner (in_optional test)) (fitting inner (in_optional step))
    (first (fitting inner (in_declaration d) ++ fitting inner (in_optional test) ++ fitting inner (in_optional step)) (fitting_in_statement inner x) (in_block_of (inside l.stands)))))
of_part laws (r.for_test {begin = begin} {test = test} {step = step} {body = x} {known = known} is) l =
    let inner : Tags = tags_in_start begin ++ l.tags in
    at inner (next (fitting inner (in_start begin)) (fitting inner (in_expression test)) (as_many_as inner (in_start begin))
    (behind_start laws begin (in_new_block (entered known)) is)
    (first (fitting inner (in_start begin) ++ fitting inner (in_expression test)) (fitting inner (in_optional step))
    (first (fitting inner (in_start begin) ++ fitting inner (in_expression test) ++ fitting inner (in_optional step)) (fitting_in_statement inner x) (in_block_of (inside l.stands)))))
of_part laws (r.for_step {begin = begin} {test = test} {step = step} {body = x} {known = known} {k = k} is then_is) l =
    let inner : Tags = tags_in_start begin ++ l.tags in
    at inner (next (fitting inner (in_optional test)) (fitting inner (in_expression step)) (as_many_as inner (in_optional test)) (behind_test laws test k then_is)
    (next (fitting inner (in_start begin)) (fitting inner (in_optional test) ++ fitting inner (in_expression step)) (as_many_as inner (in_start begin))
    (behind_start laws begin (in_new_block (entered known)) is)
    (regrouped (fitting inner (in_start begin)) (fitting inner (in_optional test)) (fitting inner (in_expression step))
    (first (fitting inner (in_start begin) ++ fitting inner (in_optional test) ++ fitting inner (in_expression step)) (fitting_in_statement inner x) (in_block_of (inside l.stands))))))
of_part laws (r.for_body {begin = begin} {test = test} {step = step} {body = x} {known = known} {k = k} {j = j} is then_is last_is) l =
    let inner : Tags = tags_in_start begin ++ l.tags in
    at inner (in_block_of (next (fitting inner (in_optional step)) (fitting_in_statement inner x) (as_many_as inner (in_optional step)) (behind_step laws step j last_is)
    (next (fitting inner (in_optional test)) (fitting inner (in_optional step) ++ fitting_in_statement inner x) (as_many_as inner (in_optional test)) (behind_test laws test k then_is)
    (next (fitting inner (in_start begin)) (fitting inner (in_optional test) ++ (fitting inner (in_optional step) ++ fitting_in_statement inner x)) (as_many_as inner (in_start begin))
    (behind_start laws begin (in_new_block (entered known)) is)
    (regrouped (fitting inner (in_start begin)) (fitting inner (in_optional test)) (fitting inner (in_optional step) ++ fitting_in_statement inner x)
    (regrouped (fitting inner (in_start begin) ++ fitting inner (in_optional test)) (fitting inner (in_optional step)) (fitting_in_statement inner x) (in_block_of (inside l.stands))))))))
of_part laws (r.switch_operand {operand = operand} {list = list}) l =
    at l.tags (first (fitting l.tags (in_expression operand)) (fitting_in_cases l.tags list) (in_block_of (inside l.stands)))
of_part laws (r.switch_cases {operand = operand} {list = list} {known = known} is) l =
    at l.tags (next (fitting l.tags (in_expression operand)) (fitting_in_cases l.tags list) (as_many_as l.tags (in_expression operand))
    (behind_expression laws operand as_truth (in_new_block (entered known)) is) (in_block_of (inside l.stands)))
of_part laws r.returned l = at l.tags (inside l.stands)
-- items and cases
of_part laws (r.an_item_declares {first = d} {rest = rest}) l =
    let inner : Tags = tags_in d.specifiers ++ l.tags in
    at l.tags (first (fitting inner (in_declaration d)) (fitting_in_items inner rest) (inside l.stands))
of_part laws (r.behind_declaration {first = d} {rest = rest} {known = known} is) l =
    let inner : Tags = tags_in d.specifiers ++ l.tags in
    at inner (next (fitting inner (in_declaration d)) (fitting_in_items inner rest) (as_many_as inner (in_declaration d)) (behind_declaration laws d (entered known) is) (inside l.stands))
of_part laws (r.an_item {first = x} {rest = rest}) l = at l.tags (first (fitting_in_statement l.tags x) (fitting_in_items l.tags rest) (inside l.stands))
of_part laws (r.behind_statement {around = around} {first = x} {rest = rest} {known = known} is) l =
    at l.tags (next (fitting_in_statement l.tags x) (fitting_in_items l.tags rest) (as_many_in_statement l.tags x) (behind_statement laws x around (entered known) is) (inside l.stands))
of_part laws (r.behind_label {first = m} {rest = rest} {known = known} is) l =
    at l.tags (next (fitting l.tags (in_mark m)) (fitting_in_items l.tags rest) (as_many_as l.tags (in_mark m)) (behind_mark laws m (entered known) is) (inside l.stands))
of_part laws (r.one_case {type = type} {seen = seen} {list = list} {first = x} {rest = rest} {known = known} is) l =
    at l.tags (in_block_of (next (fitting l.tags (flat_map in_label list)) (fitting_in_statement l.tags x) (as_many_as l.tags (flat_map in_label list))
    (behind_labels laws list type seen known is)
    (first (fitting l.tags (flat_map in_label list) ++ fitting_in_statement l.tags x) (fitting_in_cases l.tags rest) l.stands)))
of_part laws (r.more_cases {type = type} {seen = seen} {around = around} {list = list} {first = x} {rest = rest} {known = known} {k = k} is then_is) l =
    at l.tags (next (fitting_in_statement l.tags x) (fitting_in_cases l.tags rest) (as_many_in_statement l.tags x) (behind_block laws x around k then_is)
    (next (fitting l.tags (flat_map in_label list)) (fitting_in_statement l.tags x ++ fitting_in_cases l.tags rest) (as_many_as l.tags (flat_map in_label list)) (behind_labels laws list type seen known is)
    (regrouped (fitting l.tags (flat_map in_label list)) (fitting_in_statement l.tags x) (fitting_in_cases l.tags rest) l.stands)))
-- externals
of_part laws (r.a_body {s = s} {d = d} {body = them} {it = it} {declared = declared} {known = known} {k = k} {j = j} is then_is) l =
    let inner : Tags = tags_of_parameters d ++ tags_in s ++ l.tags in
    let step : Steps (tags_in s) (in_specifiers s) (entered known) k = behind_specifiers laws s elsewhere (entered known) is in
    at inner (body declared (tags_of_parameters d) (tags_in s) l.tags
    (laws.expressions.6 d it (definition_faults it.storage) k j declared then_is (as_deep step l.stands.depth))
    (next (fitting inner (in_specifiers s ++ in_declarator d)) (fitting_in_items inner them) (as_many_as inner (in_specifiers s ++ in_declarator d))
    (one_more step (behind_declarator laws d it true (definition_faults it.storage) k then_is)) (inside l.stands)))
of_part laws r.declared l = at l.tags (inside l.stands)
of_part laws (r.one_external {x = x} {xs = xs}) l = at l.tags (first (fitting_in_external l.tags x) (fitting_in_externals (tags_behind l.tags x) xs) l.stands)
of_part laws {all} (r.more_externals {x = x} {xs = xs} {known = known} {k = k} is) l =
    at (tags_behind l.tags x) (subst (λ t. Stands all t k (fitting_in_externals (tags_behind l.tags x) xs)) (tags_behind_both l.tags x)
    (next (fitting_in_external l.tags x) (fitting_in_externals (tags_behind l.tags x) xs) (as_many_in_external l.tags x) (behind_external laws x known is) l.stands))
