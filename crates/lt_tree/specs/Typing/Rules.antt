-- The rules that a unit can break, and their numbers in what the program answers.
use Rattle.std.specs.Prelude.{ℕ, nat_lt, Bool, not, if◌then◌else◌, List, [], ◌∷◌, Option, Some, None}

-- Each rule is broken where what stands above it is so; in parentheses stands what judges it.
pub data Rule : Type 0 where
  -- a name isn't declared in scope as an object, a function or an enumerator (`Operations.judge_name`)
  undeclared_name : Rule
  -- A name, a tag, a member or an enumerator is declared twice in one scope, other than compatible declarations of a function, or of an object of
  -- file scope with at most one initialiser, or typedefs of one type; or a name with linkage has an object in one declaration and a function in
  -- another, in whatever scopes (`Declaring.is_declared_twice`;
  -- `Declarators.is_member_already`, `Declarators.is_declared_here`; `Specifying.struct_tagged`, `open_struct`, `open_enum`, `enumerator_faults`)
  declared_twice : Rule
  -- specifiers name no type, or have more than one storage class (`Specifying.specified`)
  no_type : Rule
  -- An object, a member, an element or a parameter has an incomplete type or is void (`Declarators.is_incomplete`); a struct has no member, or a
  -- declaration of members has no declarator (`Specifying.struct_faults`, `NodeEnds.is_no_declarator`)
  incomplete_type : Rule
  -- an object, a member, a parameter of a definition or an expression has a floating type, or a called function takes or gives one
  -- (`Expressions.has_floating`, `Operations.takes_or_gives`)
  floating_type : Rule
  -- The length of an array isn't a constant expression from 1 to 1,048,576, and neither an initialiser nor the place of a parameter gives it
  -- (`Declarators.length_or_none`, `lacks_length`); or a type has more cells than that (`Extents.has_too_many_cells`)
  bad_length : Rule
  -- a member is a bit-field (`Declarators.has_width`)
  bit_field : Rule
  -- An object, a member, a parameter of a definition or an expression is a pointer to a function, or a called function takes or gives one
  -- (`Expressions.has_pointer_to_function`); the name of a function stands anywhere but as what is called (`Operations.is_callee`); an element
  -- or a result is a function, or a result is an array (`Declarators.array_faults`, `function_of`)
  function_as_value : Rule
  -- a volatile lvalue is read, or written by an assignment, `++` or `--` (`Expressions.reads_volatile`, `Operations.writes_volatile`)
  volatile_access : Rule
  -- a definition has a parameter without a name or `...`, or takes or gives other than integers and pointers (`Declaring.is_good_definition`)
  bad_definition : Rule
  -- A function has two bodies, a body follows a declarator that is no function's (`Declaring.definition_faults`), or declarations of one function
  -- in two scopes disagree (`Declaring.disagrees_elsewhere`)
  function_disagrees : Rule
  -- an operand of `* / % & | ^ << >> ~`, of their assignments, or of a sign isn't an integer (`Operands.are_integers`, `Types.is_integer`)
  operand_not_integer : Rule
  -- The operands of `+` and `-` aren't two integers, a pointer to a complete type and an integer, or for `-` two such pointers of one type; the
  -- same for `++`, `--`, `+=`, `-=` and subscripts (`Operands.can_be_added`, `can_be_subtracted`, `can_be_changed_by`, `can_be_subscripted`)
  bad_sum : Rule
  -- The operands of a relation aren't two integers or two pointers of one type, for `==` and `!=` also a pointer beside a null pointer constant or a
  -- pointer to void (`Operands.can_be_ordered`, `can_be_compared`)
  bad_comparison : Rule
  -- an operand of `!`, `&&` or `||`, the first one of `?:`, or a test isn't a scalar (`Types.is_scalar`, `StatementTyping.test_faults`)
  not_scalar : Rule
  -- The last operands of `?:` aren't two integers, two voids, one struct, two pointers of one type, or a pointer beside a null pointer constant or a
  -- pointer to void (`Operands.can_be_chosen_from`)
  bad_choice : Rule
  -- a value is assigned, passed, returned or taken as initialiser where C11 6.5.16.1 doesn't allow it (`Operations.fits`)
  bad_assignment : Rule
  -- the operand of an assignment, `++` or `--` is no lvalue that may be changed (`Operations.can_be_modified`)
  not_modifiable : Rule
  -- The operand of `&` is no lvalue or is `register` (`Operations.judge_address_of`); that of `*` is no pointer to a complete type
  -- (`Operations.judge_dereference`)
  bad_address : Rule
  -- a member isn't in the struct, or there is no struct (`Operations.judge_part`)
  no_member : Rule
  -- what is called is no function, or has another number of parameters (`Operations.judge_call`, `is_right_number`)
  bad_call : Rule
  -- a cast isn't between integers, between pointers, from a constant 0 to a pointer, or to void (`Operands.can_be_cast`)
  bad_cast : Rule
  -- the operand of `sizeof` is a function, incomplete or floating (`Extents.has_size`)
  no_size : Rule
  -- a constant fits no type of its list (`Constants.constant_of`)
  constant_too_large : Rule
  -- The operand of a `switch` isn't an integer; a case isn't a constant expression, or stands twice, or `default` does
  -- (`StatementTyping.is_new_case`); an enumerator's value isn't a constant expression or is no `int` (`Specifying.is_good_value`)
  bad_case : Rule
  -- `break` outside of loops and switches, or `continue` outside of loops (`StatementTyping.statement`)
  stray_jump : Rule
  -- `return` with a value in a void function, or without one in another (`StatementTyping.return_faults`)
  bad_return : Rule
  -- An initialiser has more parts than its object or another shape (`Filling.list_faults`, `is_too_long_for`), or is of what is no object; or one of
  -- an object that is there from the start isn't constant (`Filling.is_constant_content`)
  bad_initialiser : Rule
  -- a called function without a body gives neither an integer nor nothing, and stops no run, or it has to do with memory or jumps
  -- (`Operations.can_be_run`)
  no_body : Rule
  -- A mark isn't as marks have to be (`MarkRules.is_good_mark`, `is_good_decision`, `judge_after`), or stands in a constant expression or in `sizeof`
  bad_mark : Rule

-- the one place where rules have numbers
unfoldable pub number_of : Rule → ℕ
number_of undeclared_name = 1
number_of declared_twice = 2
number_of no_type = 3
number_of incomplete_type = 4
number_of floating_type = 5
number_of bad_length = 6
number_of bit_field = 7
number_of function_as_value = 8
number_of volatile_access = 9
number_of bad_definition = 10
number_of function_disagrees = 11
number_of operand_not_integer = 12
number_of bad_sum = 13
number_of bad_comparison = 14
number_of not_scalar = 15
number_of bad_choice = 16
number_of bad_assignment = 17
number_of not_modifiable = 18
number_of bad_address = 19
number_of no_member = 20
number_of bad_call = 21
number_of bad_cast = 22
number_of no_size = 23
number_of constant_too_large = 24
number_of bad_case = 25
number_of stray_jump = 26
number_of bad_return = 27
number_of bad_initialiser = 28
number_of no_body = 29
number_of bad_mark = 30

-- the rule, if it is broken
abbrev pub broken_if : Rule → Bool → List Rule
broken_if rule broken = if broken then rule ∷ [] else []

-- the rule, unless this holds
abbrev pub unless : Bool → Rule → List Rule
unless condition rule = broken_if rule (not condition)

-- the lesser of a rule and another
abbrev pub lesser : Rule → Option Rule → Rule
lesser rule None = rule
lesser rule (Some other) = if nat_lt (number_of other) (number_of rule) then other else rule

-- of the rules that are broken at one node the least
abbrev pub least : List Rule → Option Rule
least [] = None
least (rule ∷ rules) = Some (lesser rule (least rules))
