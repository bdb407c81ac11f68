use Rattle.std.proofs.Common.{◌+◌, ◌<◌, ◌^◌, ◌∙◌, ap, sym, subst, length, slice_get, arith}
use Rattle.lt_table.specs.TableRows.{Grows}
use Rattle.lt_tables.specs.SimpleRows.{IsSimple}
use Rattle.lt_tables.proofs.OnceMore.{put_found, put_grows, put_made}
use Rattle.lt_tables.proofs.interned.InternedRows.put.Goals as goal

pub invariant_of-self-in_err-place_of : goal.invariant_of-self-in_err-place_of
invariant_of-self-in_err-place_of c =
    let rows = c.self.inside.rows.keys in
    let fits : length rows + 1 < 2 ^ 32 = omega (arith, c.in_ok-room.ensures, c.len.ensures.len) in
    put_found rows c.self.invariant c.args.row (subst (λ l. IsSimple (length l) c.args.row) (sym c.self.view_is) c.requires) fits c.insert_full.new.self.keys c.in_ok-place.ensures.keys

pub returns-in_err-place_of-clause-grows : goal.returns-in_err-place_of-clause-grows
returns-in_err-place_of-clause-grows c =
    let rows = c.self.inside.rows.keys in
    let fits : length rows + 1 < 2 ^ 32 = omega (arith, c.in_ok-room.ensures, c.len.ensures.len) in
    subst (λ l. Grows l c.insert_full.new.self.keys) c.self.view_is
    (put_grows rows c.self.invariant c.args.row (subst (λ l. IsSimple (length l) c.args.row) (sym c.self.view_is) c.requires) fits c.insert_full.new.self.keys c.in_ok-place.ensures.keys)

pub invariant_of-self-2 : goal.invariant_of-self-2
invariant_of-self-2 c =
    let rows = c.self.inside.rows.keys in
    let fits : length rows + 1 < 2 ^ 32 = omega (arith, c.in_ok-room.ensures, c.len.ensures.len) in
    put_found rows c.self.invariant c.args.row (subst (λ l. IsSimple (length l) c.args.row) (sym c.self.view_is) c.requires) fits c.insert_full.new.self.keys c.in_ok-place.ensures.keys

pub returns-clause-grows : goal.returns-clause-grows
returns-clause-grows c =
    let rows = c.self.inside.rows.keys in
    let fits : length rows + 1 < 2 ^ 32 = omega (arith, c.in_ok-room.ensures, c.len.ensures.len) in
    subst (λ l. Grows l c.insert_full.new.self.keys) c.self.view_is
    (put_grows rows c.self.invariant c.args.row (subst (λ l. IsSimple (length l) c.args.row) (sym c.self.view_is) c.requires) fits c.insert_full.new.self.keys c.in_ok-place.ensures.keys)

pub returns-clause-made : goal.returns-clause-made
returns-clause-made c =
    let rows = c.self.inside.rows.keys in
    let new = c.insert_full.new.self.keys in
    let fits : length rows + 1 < 2 ^ 32 = omega (arith, c.in_ok-room.ensures, c.len.ensures.len) in
    let stored = c.in_ok-place.ensures.stored in
    put_made rows c.self.invariant c.args.row (subst (λ l. IsSimple (length l) c.args.row) (sym c.self.view_is) c.requires) fits new (record { place = c.in_ok-place_of.field-0 }) stored.0 c.in_ok-place.ensures.keys
    (ap (slice_get new) c.in_ok-place_of.ensures ∙ stored.1) stored.2
