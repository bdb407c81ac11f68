-- What contracts see of the shelf and the sink of the system: their counts alone.
use Rattle.std.specs.Prelude.{ℕ}
use Rattle.lt_outside.specs.declared.dir_shelf.DirShelf.{DirShelf}
use Rattle.lt_outside.specs.declared.std_sink.StdSink.{StdSink}

-- how many reads failed
abbrev pub dir_read_faults : {R F O : Type 0} → DirShelf R F O → ℕ
dir_read_faults shelf = shelf.faults

-- how many writes failed
abbrev pub dir_put_faults : {R F O : Type 0} → DirShelf R F O → ℕ
dir_put_faults shelf = shelf.write_faults

-- how many reads met no such file, or one that is too long
abbrev pub dir_missed : {R F O : Type 0} → DirShelf R F O → ℕ
dir_missed shelf = shelf.misses

-- how many puts there were
abbrev pub std_puts : {R : Type 0} → StdSink R → ℕ
std_puts sink = sink.puts

-- how many puts failed
abbrev pub std_faults : {R : Type 0} → StdSink R → ℕ
std_faults sink = sink.faults
