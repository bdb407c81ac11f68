-- What names stand for in a function whose code is made.
use Rattle.std.specs.Prelude.{List}
use Rattle.lt_ir.specs.declared.pure.Pure.{Pure as HeldPure}
use Rattle.lt_ir.specs.Pure.{Pures, no_pures, a_pure}
use Rattle.lt_ir.specs.PureView.{pure_of}
use Rattle.lt_meaning.specs.Runs.{variable_of}
use Rattle.lt_tables.specs.declared.site.Site.{Site}
use Rattle.lt_tables.specs.Views.{program_at, function_at}
use Rattle.lt_code.specs.Predicates.{Names}
use Rattle.std.specs.Prelude.{[], ◌∷◌}

abbrev pub names_at : Site → Names
names_at site = record {
  program = program_at site.tables.now;
  variable = variable_of (program_at site.tables.now) (function_at site);
}

-- pure expressions in a row
abbrev pub pures_in : List HeldPure → Pures
pures_in [] = no_pures
pures_in (q ∷ qs) = a_pure (pure_of q) (pures_in qs)

-- some, and then others
abbrev pub before : List HeldPure → Pures → Pures
before [] later = later
before (q ∷ qs) later = a_pure (pure_of q) (before qs later)
