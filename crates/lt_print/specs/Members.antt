-- Whether the declarators of a member have any text: the only one may be missing.
use Rattle.std.specs.Prelude.{Bool, true, false}
use Rattle.lt_tree.specs.Tree as c
use Rattle.lt_print.specs.Declarators.{is_written}

abbrev pub declarators_stand : c.MemberDeclarators → Bool
declarators_stand c.no_declarators = false
declarators_stand (c.a_declarator d (c.present e) rest) = true
declarators_stand (c.a_declarator d c.absent c.no_declarators) = is_written d
declarators_stand (c.a_declarator d c.absent rest) = true
