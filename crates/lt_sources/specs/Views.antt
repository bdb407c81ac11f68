-- What the sources of a replay stand for.
use Rattle.std.specs.Prelude.{option_map}
use Rattle.lt_answers.specs.Replays.{Sources}
use Rattle.lt_sources.specs.declared.sources.Sources as memory

abbrev pub sources_of : memory.Sources → Sources
sources_of from = record {
  file = from.file.items;
  suite = from.suite.items;
  entry = option_map (λ bytes. bytes.items) from.entry;
  cover = option_map (λ bytes. bytes.items) from.cover;
  model = from.model;
  steps = from.steps;
}
