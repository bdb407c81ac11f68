use Rattle.std.proofs.Common.{List, ℕ, ◌∷◌, [], ◌++◌, ◌∙◌, sym, refl, ap, map}
use Rattle.lt_replay.specs.declared.draft.Tagged.{Tagged}
use Rattle.lt_replay.specs.Drafts.{row_of, rows_of}
use Rattle.lt_replay.proofs.Rows.{name_put, no_name_put}
use Rattle.lt_replay.proofs.draft.cover.Goals as goal

pub returns-in_ok-push : goal.returns-in_ok-push
returns-in_ok-push c =
    let new : Tagged = record { tag = c.in-Some.label.now.tag; by = c.push.new.self } in
    ap (map row_of) (c.get_mut.follows.holds new).0
    ∙ name_put c.args.name.now c.args.id c.args.labels.now.entries c.in-Some.label.now new c.in-Some.ensures.ordered (sym c.in-Some.ensures.value) refl
    (c.in_ok-push.ensures.items ∙ ap (λ (name : List ℕ). c.in-Some.label.now.by.items ++ name ∷ []) c.in_ok-new.ensures)

pub returns-in_default : goal.returns-in_default
returns-in_default c =
    ap rows_of c.get_mut.follows.holds-at-none
    ∙ no_name_put c.args.name.now c.args.id c.args.labels.now.entries (sym c.in_default.ensures.value)
