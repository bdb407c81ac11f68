-- What is kept of lines, as the definitions have them.
use Rattle.std.specs.Prelude.{map, option_map}
use Rattle.lt_entry.specs.Lines.{Row}
use Rattle.lt_entry.specs.SpecificationLines.{Relation, at_most, at_least, equal_to, Term, Addend, Line, entry_line, block_line, range_line, points_line, stub_line, require_line}
use Rattle.lt_entry.specs.Suites.{SuiteLine, test_line, set_line, point_line, values_line}
use Rattle.lt_entry.specs.Views.{numeral_view, place_view, target_view}
use Rattle.lt_entry.specs.declared.row.Row as row
use Rattle.lt_entry.specs.declared.specification_line.Relation as relation
use Rattle.lt_entry.specs.declared.specification_line.Relation.TheVariants as relations
use Rattle.lt_entry.specs.declared.specification_line.Term as term
use Rattle.lt_entry.specs.declared.specification_line.Addend as addend
use Rattle.lt_entry.specs.declared.specification_line.BlockLine as block
use Rattle.lt_entry.specs.declared.specification_line.RangeLine as range
use Rattle.lt_entry.specs.declared.specification_line.PointsLine as points
use Rattle.lt_entry.specs.declared.specification_line.StubLine as stub
use Rattle.lt_entry.specs.declared.specification_line.RequireLine as need
use Rattle.lt_entry.specs.declared.specification_line.Line as line
use Rattle.lt_entry.specs.declared.specification_line.Line.TheVariants as lines
use Rattle.lt_entry.specs.declared.suite_line.SuiteLine as suite
use Rattle.lt_entry.specs.declared.suite_line.SuiteLine.TheVariants as suites
use Rattle.lt_entry.specs.declared.suite_line.SetLine as set
use Rattle.lt_entry.specs.declared.suite_line.PointLine as point
use Rattle.lt_entry.specs.declared.suite_line.ValuesLine as values

abbrev pub row_view : row.Row → Row
row_view r = record { number = r.number; words = map (λ word. word.now) r.words.items }

-- ---- specifications

abbrev pub relation_view : relation.Relation → Relation
relation_view relations.AtMost = at_most
relation_view relations.AtLeast = at_least
relation_view relations.EqualTo = equal_to

abbrev pub term_view : term.Term → Term
term_view t = record { factor = option_map numeral_view t.factor; place = place_view t.place }

abbrev pub addend_view : addend.Addend → Addend
addend_view a = record { is_minus = a.is_minus; term = term_view a.term }

abbrev pub block_view : block.BlockLine → Line
block_view l = block_line l.name.now (map (λ word. word.now) l.ty.items) (numeral_view l.count)

abbrev pub range_view : range.RangeLine → Line
range_view l = range_line (place_view l.place) (numeral_view l.low) (numeral_view l.high)

abbrev pub points_view : points.PointsLine → Line
points_view l = points_line (place_view l.place) (map target_view l.targets.items)

abbrev pub stub_view : stub.StubLine → Line
stub_view l = stub_line l.name.now (numeral_view l.low) (numeral_view l.high)

abbrev pub require_view : need.RequireLine → Line
require_view l =
    require_line (record { first = term_view l.first; others = map addend_view l.others.items }) (relation_view l.relation) (numeral_view l.constant)

abbrev pub line_view : line.Line → Line
line_view (lines.Entry name) = entry_line name.now
line_view (lines.Block l) = block_view l
line_view (lines.Range l) = range_view l
line_view (lines.Points l) = points_view l
line_view (lines.Stub l) = stub_view l
line_view (lines.Require l) = require_view l

-- ---- suites

abbrev pub set_view : set.SetLine → SuiteLine
set_view l = set_line (place_view l.place) (numeral_view l.value)

abbrev pub point_view : point.PointLine → SuiteLine
point_view l = point_line (place_view l.place) (target_view l.target)

abbrev pub values_view : values.ValuesLine → SuiteLine
values_view l = values_line l.stub.now (map numeral_view l.values.items)

abbrev pub suite_line_view : suite.SuiteLine → SuiteLine
suite_line_view (suites.Test name) = test_line name.now
suite_line_view (suites.Set l) = set_view l
suite_line_view (suites.Point l) = point_view l
suite_line_view (suites.Values l) = values_view l
