use Rattle.std.proofs.Common.{◌≡◌, drop}
use Rattle.lt_tree.specs.Records.{types_in, members_in}
use Rattle.lt_objectives.specs.Tags.{tags_in_types, tags_in_members}
use Rattle.lt_copies.specs.Blocks.{declares_all}
use Rattle.lt_copies.proofs.blocks.Blocks.+tags.Given as goal

abbrev pub invariant-declare_types-types : goal.invariant-declare_types-types
invariant-declare_types-types l = l.self ≡ declares_all (tags_in_types (types_in (drop l.at l.list))) l.initial.self

abbrev pub invariant-declare_members-members : goal.invariant-declare_members-members
invariant-declare_members-members l = l.self ≡ declares_all (tags_in_members (members_in (drop l.at l.list))) l.initial.self
