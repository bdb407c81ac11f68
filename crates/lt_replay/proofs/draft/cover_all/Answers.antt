use Rattle.std.proofs.Common.{◌≡◌, ℕ, List, ◌∷◌, [], ◌∙◌, sym, ap, map, Bor}
use Rattle.std.proofs.lemmas.List.{map_push}
use Rattle.lt_replay.specs.Drafts.{rows_of, with_name}
use Rattle.lt_replay.proofs.Rows.{no_ids, one_more_id, new_at_turn}
use Rattle.lt_replay.proofs.draft.cover_all.Goals as goal

pub loop-id-init : goal.loop-id-init
loop-id-init c = no_ids c.args.name.now (rows_of c.args.labels.now)

pub loop-id-preserved : goal.loop-id-preserved
loop-id-preserved c =
    let name = c.args.name.now in
    let id = c.in-Some.id in
    let now : Bor ℕ → ℕ = λ id. id.now in
    c.in_ok-cover.ensures ∙ ap (map (with_name name (id.now ∷ []))) c.loop-id.invariant
    ∙ one_more_id name (map now c.loop-id.yielded) id.now (rows_of c.args.labels.now)
    (new_at_turn c.args.ids.now.keys c.loop-id.yielded c.into_iter-id-iterator.result c.loop-id.id-iterator c.next.new.self id
    c.into_iter-id-iterator.ensures.into_iter_gives.0 c.into_iter-id-iterator.ensures.into_iter_gives.4 c.loop-id.yielded_by c.in-Some.ensures.steps)
    ∙ ap (λ ids. map (with_name name ids) (rows_of c.args.labels.now)) (sym (map_push now c.loop-id.yielded id))
