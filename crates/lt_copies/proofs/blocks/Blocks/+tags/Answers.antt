use Rattle.std.proofs.Common.{refl, sym, ap, ◌∙◌, Some, None, arith}
use Rattle.lt_tree.specs.declared.specifier.Member.{Member}
use Rattle.lt_tree.specs.declared.specifier.TypeSpecifier.TheVariants as kind
use Rattle.lt_tree.specs.declared.declarator.DeclaratorPart.TheViews as views
use Rattle.lt_tree.specs.View.{type_of}
use Rattle.lt_tree.specs.Records.{specifiers_of, types_in, members_in}
use Rattle.lt_objectives.specs.Tags.{tags_in, tags_in_type, tags_in_types, tags_in_members}
use Rattle.lt_copies.specs.Blocks.{declares, declares_all}
use Rattle.lt_copies.proofs.Declared.{ok_then, whole, one_more}
use Rattle.lt_copies.proofs.Rows.{struct_tags, member_tags}
use Rattle.lt_copies.proofs.blocks.Blocks.+tags.Goals as goal

pub declare_types-types-preserved : goal.declare_types-types-preserved
declare_types-types-preserved t c =
    one_more (λ xs. tags_in_types (types_in xs)) (tags_in_type (type_of c.index-list-at.result)) c.args.list.now c.types.at c.index-list-at.result c.args.self.now c.types.self c.declare_type.new.self (omega arith) (omega arith) c.index-list-at.is
    (λ rest. refl) c.types.invariant c.in_ok-declare_type.ensures

pub declare_types-returns : goal.declare_types-returns
declare_types-returns t c = whole (λ xs. tags_in_types (types_in xs)) c.args.list.now c.types.at c.args.self.now c.types.self c.types-test.false c.types.invariant

pub declare_members-members-preserved : goal.declare_members-members-preserved
declare_members-members-preserved t c =
    one_more (λ xs. tags_in_members (members_in xs)) (tags_in (specifiers_of (views.out-Member c.index-list-at.result).specifiers)) c.args.list.now c.members.at c.index-list-at.result c.args.self.now c.members.self c.declare_tags.new.self (omega arith) (omega arith) c.index-list-at.is
    (member_tags c.index-list-at.result) c.members.invariant
    (c.in_ok-declare_tags.ensures ∙ ap (λ (m : Member). declares_all (tags_in (specifiers_of (views.out-Member m).specifiers)) c.members.self) (sym c.index-list-at.is))

pub declare_type-returns-in-None : goal.declare_type-returns-in-None
declare_type-returns-in-None t c =
    let is = c.in-Struct.is ∙ ap (λ tag. kind.Struct tag c.in-Struct.members) c.in-None.is in
    c.in_ok-declare_members-in-Struct.ensures ∙ ap (λ ts. declares_all ts c.args.self.now) (struct_tags c.args.kind.now None c.in-Struct.members _ is c.as_slice-in-Struct.ensures.value)

pub declare_type-returns-in-Some : goal.declare_type-returns-in-Some
declare_type-returns-in-Some t c =
    let is = c.in-Struct.is ∙ ap (λ tag. kind.Struct tag c.in-Struct.members) c.in-Some.is in
    ok_then _ _ c.declare-in-Some.ensures (
    ap (λ tag. declares tag c.declare_members.new.self) c.as_slice-in-Some.ensures
    ∙ ap (declares c.in-Some.tag) c.in_ok-declare_members-in-Struct.ensures
    ∙ ap (λ ts. declares_all ts c.args.self.now) (struct_tags c.args.kind.now (Some c.in-Some.tag) c.in-Struct.members _ is c.as_slice-in-Struct.ensures.value)
    )
