use Rattle.std.proofs.Common.{◌≡◌, ap, sym, ◌∙◌, subst, true≢false, length, Some, ◌≤◌, ◌<◌, ◌+◌, cond}
use Rattle.std.proofs.lemmas.List.{length-set}
use Rattle.lt_tree.specs.Typing.Extents.{members_of}
use Rattle.lt_table.specs.StructTables.{extent_value}
use Rattle.lt_tables.specs.TypeParts.{extent_among, whole_with, known_count, AreReached}
use Rattle.lt_tables.specs.PartTypes.{types_of, structs_with}
use Rattle.lt_tables.proofs.StructExtents.{count_set, reached_set, one_more, members_there, settled_more, settled_all, IsSettledTo}
use Rattle.lt_tables.proofs.parts.Parts.learn.Goals.{in-Some, in_default}
use Rattle.lt_tables.proofs.parts.Parts.learn.Goals as goal

pub loop-place-preserved : goal.loop-place-preserved
loop-place-preserved c =
    let m = c.args.self.now.model in
    let types = types_of c.args.self.now in
    let structs = c.args.structs.now in
    let all = structs_with c.args.self.now structs in
    let before = c.loop-place.invariant in
    let place = c.loop-place.place in
    let known = c.loop-place.known in
    let after = c.match-new_extent.known in
    let first = known_count c.args.known.now in
    let it = c.index-structs-place.result in
    let within : place < length known = subst (λ n. place < n) (sym before.length) c.loop-place-test.true in
    elim c.match-new_extent.branch [
      | in-Some w ↦
          let e = w.in-Some.extent in
          let follows : whole_with m (extent_among known) (members_of all place) ≡ Some (extent_value e) =
          ap (whole_with m (extent_among known)) (members_there types structs place it c.loop-place-test.true c.index-structs-place.is) ∙ w.in-Some.ensures.follows in
          let counted = ap known_count w.known-is ∙ count_set known place e within w.in-Some.ensures.new in
          record {
            length = ap length w.known-is ∙ length-set known place (Some e) ∙ before.length;
            more = subst (λ b. first + cond b 1 0 ≤ known_count after) (sym w.is_changed-is) (one_more first (known_count known) (known_count after) (cond c.loop-place.is_changed 1 0) before.more counted);
            reached = λ h. subst (AreReached m all) (sym w.known-is) (reached_set m all known place e within w.in-Some.ensures.new follows (before.reached h));
            settled = λ unchanged. absurd (true≢false (sym w.is_changed-is ∙ unchanged));
          }
      | in_default w ↦
          record {
            length = ap length w.known-is ∙ before.length;
            more = subst (λ b. first + cond b 1 0 ≤ known_count after) (sym w.is_changed-is) (subst (λ l. first + cond c.loop-place.is_changed 1 0 ≤ known_count l) (sym w.known-is) before.more);
            reached = λ h. subst (AreReached m all) (sym w.known-is) (before.reached h);
            settled = λ unchanged.
                subst (λ l. IsSettledTo types structs m l (place + 1)) (sym w.known-is)
                (settled_more types structs m known place it c.loop-place-test.true c.index-structs-place.is (c.new_extent.ensures.none w.in_default.is) (before.settled (sym w.is_changed-is ∙ unchanged)));
          }
    ]

pub returns-clause-settled : goal.returns-clause-settled
returns-clause-settled c = λ unchanged.
    settled_all (types_of c.args.self.now) c.args.structs.now c.args.self.now.model c.loop-place.known c.loop-place.place c.loop-place-test.false (c.loop-place.invariant.settled unchanged)
