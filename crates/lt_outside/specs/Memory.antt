-- What contracts see of the shelves and sinks in memory.
use Rattle.std.specs.Prelude.{◌==◌, ℕ, Bool, List, Option, option_map, find, Result}
use Rattle.std.specs.List.{list_any}
use Rattle.std.specs.BTreeMap.{get_by_text}
use Rattle.lt_outside.specs.Count.{raised}
use Rattle.lt_outside.specs.Shelf.{Files, read_answer}
use Rattle.lt_outside.specs.declared.shelf.ReadStop.{ReadStop}
use Rattle.lt_outside.specs.declared.named_files.NamedFiles.{NamedFiles}
use Rattle.lt_outside.specs.declared.map_shelf.MapShelf.{MapShelf}
use Rattle.lt_outside.specs.declared.clean_shelf.CleanShelf.{CleanShelf}
use Rattle.lt_outside.specs.declared.vec_sink.VecSink.{VecSink}
use Rattle.lt_outside.specs.declared.clean_sink.CleanSink.{CleanSink}

-- the bytes under each name
abbrev pub files_of : NamedFiles → Files
files_of held name = option_map (λ bytes. bytes.items) (get_by_text held.files name)

-- the files of a shelf in memory
abbrev pub map_files : MapShelf → Files
map_files shelf = files_of shelf.files

-- the numbers of the calls of read and write that are to fail, from 1
abbrev pub map_fails : MapShelf → List ℕ
map_fails shelf = shelf.fails.items

-- how many calls of read and write there were
abbrev pub map_calls : MapShelf → ℕ
map_calls shelf = shelf.calls

-- how many reads failed
abbrev pub map_read_faults : MapShelf → ℕ
map_read_faults shelf = shelf.faults

-- how many writes failed
abbrev pub map_put_faults : MapShelf → ℕ
map_put_faults shelf = shelf.write_faults

-- how many reads met no such file, or one that is too long
abbrev pub map_missed : MapShelf → ℕ
map_missed shelf = shelf.misses

-- The next call of read or write is to fail.
abbrev pub next_call_fails : MapShelf → Bool
next_call_fails shelf = list_any (λ number. number == raised (map_calls shelf)) (map_fails shelf)

-- what the next call gives, if it is a read of this name, want of memory aside
abbrev pub map_read : MapShelf → List ℕ → ℕ → Result (List ℕ) ReadStop
map_read shelf name most = read_answer (map_files shelf name) most (next_call_fails shelf)

-- the files of a shelf in memory that never fails
abbrev pub clean_files : CleanShelf → Files
clean_files shelf = files_of shelf.files

-- how many of its reads met no such file, or one that is too long
abbrev pub clean_missed : CleanShelf → ℕ
clean_missed shelf = shelf.misses

-- the bytes that a sink in memory took
abbrev pub sink_bytes : VecSink → List ℕ
sink_bytes sink = sink.bytes.items

-- the puts that are to fail: their numbers, from 1, and how many bytes they take all the same
abbrev pub sink_fails : VecSink → List (ℕ × ℕ)
sink_fails sink = sink.fails.items

-- how many puts there were
abbrev pub sink_puts : VecSink → ℕ
sink_puts sink = sink.puts

-- how many puts failed
abbrev pub sink_faults : VecSink → ℕ
sink_faults sink = sink.faults

-- how many bytes the next put takes, where it is to fail: the first pair with its number counts
abbrev pub next_cut : VecSink → Option ℕ
next_cut sink = option_map (λ pair. pair.1) (find (λ pair. pair.0 == raised (sink_puts sink)) (sink_fails sink))

-- the bytes that a sink in memory that never fails took
abbrev pub clean_bytes : CleanSink → List ℕ
clean_bytes sink = sink.bytes.items

-- how many puts there were
abbrev pub clean_puts : CleanSink → ℕ
clean_puts sink = sink.puts
