use Rattle.std.proofs.Common.{◌≡◌, ◌++◌, ◌∙◌, sym, ap, ◌⊎◌, inl, inr, length}
use Rattle.std.specs.Slice.Iter.{iter_rest}
use Rattle.std.specs.Iterator.Adapters.{zip_first, zip_second}
use Rattle.std.proofs.lemmas.List.{append-nil}
use Rattle.lt_places.proofs.Opens.{all_open, ended}
use Rattle.lt_places.proofs.open.open_places.Goals as goal

pub returns : goal.returns
returns c unit program are constants =
    let sites = iter_rest (zip_first c.sites.site-iterator) in
    let others = iter_rest (zip_second c.sites.site-iterator) in
    let none : (length (iter_rest (zip_first c.sites.site-iterator)) ≡ 0) ⊎ (length (iter_rest (zip_second c.sites.site-iterator)) ≡ 0) =
    elim c.in-None.ensures.steps [ inl h ↦ inl h.1.0 | inr h ↦ inr h.1.0 ] in
    sym (append-nil c.sites.open.items) ∙ ap (λ list. c.sites.open.items ++ list) (sym (ended c.sites.closed sites others none)) ∙ c.sites.invariant
    ∙ all_open unit program c.args.sites.now c.args.constants.now are constants
