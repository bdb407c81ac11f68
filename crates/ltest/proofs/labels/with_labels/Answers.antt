use Rattle.std.proofs.Common.{◌+◌, ◌++◌, Ok, arith}
use Rattle.lt_tree.specs.UnitView.{unit_of}
use Rattle.lt_tree.specs.Typing.ProgramView.{program_of}
use Rattle.lt_objectives.specs.Marked.{marked}
use Rattle.lt_survey.specs.Marking.{bits_of, chosen, IdsPass}
use Rattle.lt_survey.proofs.Rounds.{copied_marked}
use Rattle.lt_crit.specs.Criteria as tests
use Rattle.lt_mcc.specs.Combinations as combinations
use Rattle.lt_mut.specs.Mutations as mutants
use Rattle.lt_answers.specs.Annotations.{first_id}
use Rattle.ltest.proofs.Marking.{first_low, first_is, goes_at_first, goes_on, none_first, goes_to_end, none_told}
use Rattle.ltest.proofs.labels.with_labels.Goals as goal

pub overflow_add-first : goal.overflow_add-first
overflow_add-first c = let low = first_low c.max_id-first.result (unit_of c.args.unit.now) c.max_id-first.ensures in omega arith

pub annotate_further-requires : goal.annotate_further-requires
annotate_further-requires c = rw c.in_ok-copy.ensures.1 (first_low c.max_id-first.result (unit_of c.args.unit.now) c.max_id-first.ensures)

pub annotate_further-requires-2 : goal.annotate_further-requires-2
annotate_further-requires-2 c =
    let unit = unit_of c.args.unit.now in
    let program = program_of c.args.program.now in
    let set = bits_of c.args.which in
    let r = c.max_id-first.result in
    let xs = chosen tests.criteria set in
    let ys = chosen combinations.criteria set in
    let zs = chosen mutants.criteria set in
    let whole = marked unit program set (first_id unit) in
    let all = goes_at_first unit program set (r + 1) (first_is r unit c.max_id-first.ensures) (first_low r unit c.max_id-first.ensures) c.requires in
    let a = c.in_ok-tests.tests in
    let first = copied_marked xs program c.in_ok-copy.copy c.in_ok-copy.ensures.0 c.in_ok-copy.ensures.1 (Ok a) (rw c.in_ok-tests.ensures at c.annotate_further.ensures.marked) in
    let left = goes_on xs (ys ++ zs) whole unit program (r + 1) a all first in
    left.low

pub annotate_further-requires-3 : goal.annotate_further-requires-3
annotate_further-requires-3 c =
    let unit = unit_of c.args.unit.now in
    let program = program_of c.args.program.now in
    let set = bits_of c.args.which in
    let r = c.max_id-first.result in
    let xs = chosen tests.criteria set in
    let ys = chosen combinations.criteria set in
    let zs = chosen mutants.criteria set in
    let whole = marked unit program set (first_id unit) in
    let all = goes_at_first unit program set (r + 1) (first_is r unit c.max_id-first.ensures) (first_low r unit c.max_id-first.ensures) c.requires in
    let a = c.in_ok-tests.tests in
    let first = copied_marked xs program c.in_ok-copy.copy c.in_ok-copy.ensures.0 c.in_ok-copy.ensures.1 (Ok a) (rw c.in_ok-tests.ensures at c.annotate_further.ensures.marked) in
    let left = goes_on xs (ys ++ zs) whole unit program (r + 1) a all first in
    let b = c.in_ok-combinations.combinations in
    let second = rw c.in_ok-combinations.ensures at c.annotate_further-2.ensures.marked in
    let last = goes_on ys zs whole (unit_of a.unit) program a.next b left second in
    last.low

pub within-requires-2 : goal.within-requires-2
within-requires-2 c =
    let unit = unit_of c.args.unit.now in
    let program = program_of c.args.program.now in
    let set = bits_of c.args.which in
    let r = c.max_id-first.result in
    let xs = chosen tests.criteria set in
    let ys = chosen combinations.criteria set in
    let zs = chosen mutants.criteria set in
    let whole = marked unit program set (first_id unit) in
    let all = goes_at_first unit program set (r + 1) (first_is r unit c.max_id-first.ensures) (first_low r unit c.max_id-first.ensures) c.requires in
    let a = c.in_ok-tests.tests in
    let first = copied_marked xs program c.in_ok-copy.copy c.in_ok-copy.ensures.0 c.in_ok-copy.ensures.1 (Ok a) (rw c.in_ok-tests.ensures at c.annotate_further.ensures.marked) in
    let left = goes_on xs (ys ++ zs) whole unit program (r + 1) a all first in
    none_told c.annotate_further-2.result (IdsPass ys (unit_of a.unit) program a.next) (none_first ys zs whole (unit_of a.unit) program a.next left) c.annotate_further-2.ensures.ids

pub within-requires-3 : goal.within-requires-3
within-requires-3 c =
    let unit = unit_of c.args.unit.now in
    let program = program_of c.args.program.now in
    let set = bits_of c.args.which in
    let r = c.max_id-first.result in
    let xs = chosen tests.criteria set in
    let ys = chosen combinations.criteria set in
    let zs = chosen mutants.criteria set in
    let whole = marked unit program set (first_id unit) in
    let all = goes_at_first unit program set (r + 1) (first_is r unit c.max_id-first.ensures) (first_low r unit c.max_id-first.ensures) c.requires in
    let a = c.in_ok-tests.tests in
    let first = copied_marked xs program c.in_ok-copy.copy c.in_ok-copy.ensures.0 c.in_ok-copy.ensures.1 (Ok a) (rw c.in_ok-tests.ensures at c.annotate_further.ensures.marked) in
    let left = goes_on xs (ys ++ zs) whole unit program (r + 1) a all first in
    let b = c.in_ok-combinations.combinations in
    let second = rw c.in_ok-combinations.ensures at c.annotate_further-2.ensures.marked in
    let last = goes_on ys zs whole (unit_of a.unit) program a.next b left second in
    none_told c.annotate_further-3.result (IdsPass zs (unit_of b.unit) program b.next) last.none c.annotate_further-3.ensures.ids

pub returns : goal.returns
returns c =
    let unit = unit_of c.args.unit.now in
    let program = program_of c.args.program.now in
    let set = bits_of c.args.which in
    let r = c.max_id-first.result in
    let xs = chosen tests.criteria set in
    let ys = chosen combinations.criteria set in
    let zs = chosen mutants.criteria set in
    let whole = marked unit program set (first_id unit) in
    let all = goes_at_first unit program set (r + 1) (first_is r unit c.max_id-first.ensures) (first_low r unit c.max_id-first.ensures) c.requires in
    let a = c.in_ok-tests.tests in
    let first = copied_marked xs program c.in_ok-copy.copy c.in_ok-copy.ensures.0 c.in_ok-copy.ensures.1 (Ok a) (rw c.in_ok-tests.ensures at c.annotate_further.ensures.marked) in
    let left = goes_on xs (ys ++ zs) whole unit program (r + 1) a all first in
    let b = c.in_ok-combinations.combinations in
    let second = rw c.in_ok-combinations.ensures at c.annotate_further-2.ensures.marked in
    let last = goes_on ys zs whole (unit_of a.unit) program a.next b left second in
    let third = rw c.in_ok-mutants.ensures at c.annotate_further-3.ensures.marked in
    goes_to_end zs whole (unit_of b.unit) program b.next c.in_ok-mutants.mutants last third
