use Rattle.std.proofs.Common.{◌≡◌, ◌≤◌, length, false}
use Rattle.lt_tree.specs.Comma.{followed_by}
use Rattle.lt_expr.specs.Boxes.{boxed}
use Rattle.lt_tree.specs.Records.{expressions_in, marks_in, bindings_in, members_in, member_declarators_in, enumerators_in, parts_in, parameter_list_in}
use Rattle.lt_expr.specs.Fronts.{after, marks_before, bindings_before, found_before, members_before, member_declarators_before, enumerators_before, parameters_before}
use Rattle.lt_expr.specs.FoundView.{found_of}
use Rattle.lt_expr.specs.Namings.{naming_of}
use Rattle.lt_tree.specs.Scope.{after_types, after_parts, after_members, after_member_declarators, after_enumerators}
use Rattle.lt_expr.specs.Parsing.{rest_of, scope_of, GoesOn, Below}
use Rattle.lt_expr.proofs.Scopes.{Within}
use Rattle.lt_expr.specs.Reading as reading
use Rattle.lt_tree.specs.Grammar.{joined}
use Rattle.lt_expr.proofs.parser.Parser.+parser.Given as goal

abbrev pub decreases-after : goal.decreases-after
decreases-after l = l.depth

abbrev pub decreases-after_sign : goal.decreases-after_sign
decreases-after_sign l = l.depth

abbrev pub decreases-arguments : goal.decreases-arguments
decreases-arguments l = l.depth

abbrev pub decreases-boxed_assignment : goal.decreases-boxed_assignment
decreases-boxed_assignment l = l.depth

abbrev pub decreases-bindings : goal.decreases-bindings
decreases-bindings l = l.depth

abbrev pub decreases-choice : goal.decreases-choice
decreases-choice l = l.depth

abbrev pub decreases-climb : goal.decreases-climb
decreases-climb l = l.depth

abbrev pub decreases-boxed_conditional : goal.decreases-boxed_conditional
decreases-boxed_conditional l = l.depth

abbrev pub decreases-decide : goal.decreases-decide
decreases-decide l = l.depth

abbrev pub decreases-inner_declarator : goal.decreases-inner_declarator
decreases-inner_declarator l = l.depth

abbrev pub decreases-direct : goal.decreases-direct
decreases-direct l = l.depth

abbrev pub decreases-enumeration : goal.decreases-enumeration
decreases-enumeration l = l.depth

abbrev pub decreases-enumerators : goal.decreases-enumerators
decreases-enumerators l = l.depth

abbrev pub decreases-boxed_expression : goal.decreases-boxed_expression
decreases-boxed_expression l = l.depth

abbrev pub decreases-further : goal.decreases-further
decreases-further l = l.depth

abbrev pub decreases-labelled : goal.decreases-labelled
decreases-labelled l = l.depth

abbrev pub decreases-mark : goal.decreases-mark
decreases-mark l = l.depth

abbrev pub decreases-marked : goal.decreases-marked
decreases-marked l = l.depth

abbrev pub decreases-marks : goal.decreases-marks
decreases-marks l = l.depth

abbrev pub decreases-member : goal.decreases-member
decreases-member l = l.depth

abbrev pub decreases-member_declarators : goal.decreases-member_declarators
decreases-member_declarators l = l.depth

abbrev pub decreases-members : goal.decreases-members
decreases-members l = l.depth

abbrev pub decreases-one_postfix : goal.decreases-one_postfix
decreases-one_postfix l = l.depth

abbrev pub decreases-operand : goal.decreases-operand
decreases-operand l = l.depth

abbrev pub decreases-parameter_list : goal.decreases-parameter_list
decreases-parameter_list l = l.depth

abbrev pub decreases-parameters : goal.decreases-parameters
decreases-parameters l = l.depth

abbrev pub decreases-parts : goal.decreases-parts
decreases-parts l = l.depth

abbrev pub decreases-pointers : goal.decreases-pointers
decreases-pointers l = l.depth

abbrev pub decreases-postfix : goal.decreases-postfix
decreases-postfix l = l.depth

abbrev pub decreases-primary : goal.decreases-primary
decreases-primary l = l.depth

abbrev pub decreases-size : goal.decreases-size
decreases-size l = l.depth

abbrev pub decreases-specifier : goal.decreases-specifier
decreases-specifier l = l.depth

abbrev pub decreases-inner_specifiers : goal.decreases-inner_specifiers
decreases-inner_specifiers l = l.depth

abbrev pub decreases-structure : goal.decreases-structure
decreases-structure l = l.depth

abbrev pub decreases-suffix : goal.decreases-suffix
decreases-suffix l = l.depth

abbrev pub decreases-suffixes : goal.decreases-suffixes
decreases-suffixes l = l.depth

abbrev pub decreases-boxed_type_name : goal.decreases-boxed_type_name
decreases-boxed_type_name l = l.depth

abbrev pub decreases-unary : goal.decreases-unary
decreases-unary l = l.depth

abbrev pub decreases-arguments-more : goal.decreases-arguments-more
decreases-arguments-more l = l.depth

abbrev pub invariant-arguments-more : goal.invariant-arguments-more
invariant-arguments-more l = record {
  read : after (followed_by (expressions_in l.arguments.items)) (reading.arguments l.depth (scope_of l.self) (rest_of l.self)) ≡ reading.arguments l.fn.depth (scope_of l.fn.self) (rest_of l.fn.self);
  within : l.depth ≤ l.fn.depth;
  on : GoesOn l.fn.self l.self;
}

abbrev pub decreases-bindings-more : goal.decreases-bindings-more
decreases-bindings-more l = l.depth

abbrev pub invariant-bindings-more : goal.invariant-bindings-more
invariant-bindings-more l = record {
  read : after (bindings_before (bindings_in l.bound.items)) (reading.bindings l.depth (scope_of l.self) (rest_of l.self)) ≡ reading.bindings l.fn.depth (scope_of l.fn.self) (rest_of l.fn.self);
  within : l.depth ≤ l.fn.depth;
  on : GoesOn l.fn.self l.self;
}

abbrev pub decreases-climb-more : goal.decreases-climb-more
decreases-climb-more l = l.depth

abbrev pub invariant-climb-more : goal.invariant-climb-more
invariant-climb-more l = record {
  read : reading.climb l.depth (scope_of l.self) l.start l.least (boxed l.left) (rest_of l.self) ≡ reading.climb l.fn.depth (scope_of l.fn.self) l.start l.least (boxed l.fn.left) (rest_of l.fn.self);
  within : l.depth ≤ l.fn.depth;
  on : GoesOn l.fn.self l.self;
}

abbrev pub decreases-enumerators-more : goal.decreases-enumerators-more
decreases-enumerators-more l = l.depth

abbrev pub invariant-enumerators-more : goal.invariant-enumerators-more
invariant-enumerators-more l = record {
  read : after (enumerators_before (enumerators_in l.enumerators.items)) (reading.enumerators l.depth (scope_of l.self) (rest_of l.self)) ≡ reading.enumerators l.fn.depth (scope_of l.fn.self) (rest_of l.fn.self);
  within : l.depth ≤ l.fn.depth;
  scope : scope_of l.self ≡ after_enumerators (enumerators_in l.enumerators.items) (scope_of l.fn.self);
  names : Within l.fn.self l.self;
}

abbrev pub decreases-further-more : goal.decreases-further-more
decreases-further-more l = l.depth

abbrev pub invariant-further-more : goal.invariant-further-more
invariant-further-more l = record {
  read : after (found_before (found_of l.found)) (reading.further l.depth (scope_of l.self) l.typed (rest_of l.self)) ≡ reading.further l.fn.depth (scope_of l.fn.self) false (rest_of l.fn.self);
  within : l.depth ≤ l.fn.depth;
  scope : scope_of l.self ≡ after_types (found_of l.found).types (scope_of l.fn.self);
  names : Within l.fn.self l.self;
}

abbrev pub decreases-marks-more : goal.decreases-marks-more
decreases-marks-more l = l.depth

abbrev pub invariant-marks-more : goal.invariant-marks-more
invariant-marks-more l = record {
  read : after (marks_before (marks_in l.marks.items)) (reading.marks l.depth (scope_of l.self) (rest_of l.self)) ≡ reading.marks l.fn.depth (scope_of l.fn.self) (rest_of l.fn.self);
  within : l.depth ≤ l.fn.depth;
  on : GoesOn l.fn.self l.self;
}

abbrev pub decreases-member_declarators-more : goal.decreases-member_declarators-more
decreases-member_declarators-more l = l.depth

abbrev pub invariant-member_declarators-more : goal.invariant-member_declarators-more
invariant-member_declarators-more l = record {
  read : after (member_declarators_before (member_declarators_in l.declarators.items)) (reading.member_declarators l.depth (scope_of l.self) (naming_of l.naming) (rest_of l.self)) ≡ reading.member_declarators l.fn.depth (scope_of l.fn.self) (naming_of l.fn.naming) (rest_of l.fn.self);
  within : l.depth ≤ l.fn.depth;
  scope : scope_of l.self ≡ after_member_declarators (member_declarators_in l.declarators.items) (scope_of l.fn.self);
  names : Within l.fn.self l.self;
}

abbrev pub decreases-members-more : goal.decreases-members-more
decreases-members-more l = l.depth

abbrev pub invariant-members-more : goal.invariant-members-more
invariant-members-more l = record {
  read : after (members_before (members_in l.members.items)) (reading.members l.depth (scope_of l.self) (rest_of l.self)) ≡ reading.members l.fn.depth (scope_of l.fn.self) (rest_of l.fn.self);
  within : l.depth ≤ l.fn.depth;
  scope : scope_of l.self ≡ after_members (members_in l.members.items) (scope_of l.fn.self);
  names : Within l.fn.self l.self;
}

abbrev pub decreases-parameter_list-more : goal.decreases-parameter_list-more
decreases-parameter_list-more l = l.depth

abbrev pub invariant-parameter_list-more : goal.invariant-parameter_list-more
invariant-parameter_list-more l = record {
  read : after (parameters_before (parameter_list_in l.list.items)) (reading.parameter_list l.depth (scope_of l.self) (rest_of l.self)) ≡ reading.parameter_list l.fn.depth (scope_of l.fn.self) (rest_of l.fn.self);
  symbols : l.self.symbols ≡ l.fn.self.symbols;
  outer : l.self.outer ≡ l.fn.self.outer;
  within : l.depth ≤ l.fn.depth;
  around : l.around ≡ length l.fn.self.inner;
  below : Below l.fn.self.inner l.self.inner;
}

abbrev pub decreases-parts-more : goal.decreases-parts-more
decreases-parts-more l = l.depth

abbrev pub invariant-parts-more : goal.invariant-parts-more
invariant-parts-more l = record {
  read : after (followed_by (expressions_in l.parts.items)) (reading.parts l.depth (scope_of l.self) (rest_of l.self)) ≡ after (followed_by (expressions_in l.fn.parts.items)) (reading.parts l.fn.depth (scope_of l.fn.self) (rest_of l.fn.self));
  within : l.depth ≤ l.fn.depth;
  on : GoesOn l.fn.self l.self;
}

abbrev pub decreases-postfix-more : goal.decreases-postfix-more
decreases-postfix-more l = l.depth

abbrev pub invariant-postfix-more : goal.invariant-postfix-more
invariant-postfix-more l = record {
  read : reading.postfix l.depth (scope_of l.self) l.start (boxed l.left) (rest_of l.self) ≡ reading.postfix l.fn.depth (scope_of l.fn.self) l.start (boxed l.fn.left) (rest_of l.fn.self);
  within : l.depth ≤ l.fn.depth;
  on : GoesOn l.fn.self l.self;
}

abbrev pub decreases-suffixes-more : goal.decreases-suffixes-more
decreases-suffixes-more l = l.depth

abbrev pub invariant-suffixes-more : goal.invariant-suffixes-more
invariant-suffixes-more l = record {
  read : after (joined (parts_in l.parts.items)) (reading.suffixes l.depth (scope_of l.self) (rest_of l.self)) ≡ reading.suffixes l.fn.depth (scope_of l.fn.self) (rest_of l.fn.self);
  within : l.depth ≤ l.fn.depth;
  scope : scope_of l.self ≡ after_parts (parts_in l.parts.items) (scope_of l.fn.self);
  names : Within l.fn.self l.self;
}
