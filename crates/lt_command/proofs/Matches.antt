-- What `clap` reads of the words of a command.
use Rattle.std.proofs.Common.{◌≡◌, suc, ◌+◌, ◌&&◌, Bool, true, false, List, [], ◌∷◌, length, drop, refl, ap, ap₂, sym, ◌∙◌, Option, Some, None, is_some, codes, subst, arith, map, inr}
use Rattle.std.specs.Prelude.{fold, if◌then◌else◌}
use Rattle.std.specs.Borrow.{Bor}
use Rattle.std.specs.List.{list_all}
use Rattle.std.proofs.lemmas.Bool.{false≢true}
use Rattle.std.proofs.lemmas.Bool.Decides.{nat_tests}
use Rattle.clap.specs.declared.builder.value_parser.Reading.{Reading}
use Rattle.clap.specs.declared.parser.matches.Found.{Found}
use Rattle.clap.specs.Simple.{entered, names_of}
use Rattle.clap.specs.Words.{App, Row, Rule, Shape, Text, built, first_of, first_value, matches_of, rows_of, takes}
use Rattle.clap.specs.Takes.{built_takes, entered_passes, level_passes, settle_passes}
use Rattle.clap.specs.Walk.{Held, Names, Walk, default_rows, finished, has_row, is_empty, nothing_held, reading_by, rows_after, settled, walk, with_default}
use Rattle.clap.proofs.WalkLemmas.{first_value-rows}
use Rattle.lt_command.specs.Parts.{Parts, parts_of, stand_once, value_of}
use Rattle.lt_command.proofs.Uses.{Ends, Fed, Holds, Values, fed_ends}
use Rattle.lt_command.proofs.Walking.{Form, IsBuilt, IsForm, IsNoFile, name_for}
use Rattle.lt_command.proofs.Feeding.{AreFresh, feed, file_in, suite_in}

-- an argument without defaults changes nothing
same_rows : (t : Bool) (id : Text) (how : Reading) (defaults : List Text) (rows : List Row) → is_empty defaults ≡ true → (if t then rows else default_rows id how defaults rows) ≡ rows
same_rows true id how defaults rows h = refl
same_rows false id how [] rows h = refl
same_rows false id how (v ∷ defaults) rows h = grind (arith, nat_tests)

no_defaults : (c : List Rule) (rows : List Row) → list_all (λ a. is_empty a.defaults) c ≡ true → fold with_default rows c ≡ rows
no_defaults [] rows h = refl
no_defaults (a ∷ c) rows h =
    let both = both_true (is_empty a.defaults) (list_all (λ x. is_empty x.defaults) c) h in
    ap (λ (rs : List Row). fold with_default rs c) (same_rows (has_row a.id rows) a.id (reading_by a) a.defaults rows both.0) ∙ no_defaults c rows both.1
  where
    both_true : (a b : Bool) → (a && b) ≡ true → (a ≡ true) × (b ≡ true)
    both_true true b h = (refl, h)
    both_true false b h = absurd (false≢true h)

no_values : Values
no_values = λ id. None

none_held : (c : List Rule) → Holds c no_values nothing_held
unfolding no_values
none_held c = record { rows = record { values = λ id. refl; stand = λ id. refl }; passes = refl }

none_said : (p : Parts) → AreFresh 1 no_values p
unfolding no_values
none_said p = record { options = λ id no_file. inr refl; file = λ h. refl; suite = λ h. refl }

-- the command as it is read
abbrev top_of : Form → Shape
top_of form = (built form.app).top

words_end : (form : Form) → IsBuilt form → (words : List Text) (said : Values) → Fed form.arguments form.past 1 no_values words said
    → Ends (top_of form) form.past 1 nothing_held words said
words_end form is words said fed =
    let fed_there = subst (λ (c : List Rule). Fed c form.past 1 no_values words said) (sym is.arguments) fed in
    fed_ends (top_of form) form.past 1 no_values said words nothing_held is.once fed_there (none_held (top_of form).rules)

both : (a b : Bool) → a ≡ true → b ≡ true → (a && b) ≡ true
both true b ha hb = hb
both false b ha hb = absurd (false≢true ha)

held_end : (form : Form) (words : List Text) (said : Values) → (e : Ends (top_of form) form.past 1 nothing_held words said)
    → (walk (top_of form).rules [] nothing_held words).held ≡ e.end
held_end form words said e = ap (λ (w : Walk). w.held) e.walked_to

level : (form : Form) → IsBuilt form → (words : List Text) (said : Values) → Ends (top_of form) form.past 1 nothing_held words said
    → level_passes (top_of form) [] nothing_held words false ≡ true
level form is words said e =
    let settles = ap₂ (λ (o : Bool) (h : Held). settle_passes (top_of form).rules o h) is.once (held_end form words said e) ∙ e.holds.passes in
    let rows = finished (top_of form).rules (walk (top_of form).rules [] nothing_held words).held in
    both _ _ e.passes (both _ _ settles (both _ _ is.defaults_pass (is.valid rows)))

-- the command takes the words, where their walk stops there
abbrev takes_with : App → List Text → Names → Option (Text × List Text) → Bool
takes_with b words names stop = entered_passes b stop && level_passes b.top names nothing_held words (is_some (entered b stop))

built_taken : (b : App) (words : List Text) → names_of b ≡ [] → (walk b.top.rules [] nothing_held words).stopped ≡ None
    → level_passes b.top [] nothing_held words false ≡ true → built_takes b nothing_held words ≡ true
built_taken b words names stop passes =
    ap (λ (ns : Names). takes_with b words ns (walk b.top.rules ns nothing_held words).stopped) names ∙ ap (takes_with b words []) stop ∙ passes

all_taken : (form : Form) → IsBuilt form → (all : List Text) (said : Values) → Ends (top_of form) form.past 1 nothing_held (drop 1 all) said → takes form.app all ≡ true
all_taken form is all said e =
    let stop = ap (λ (w : Walk). w.stopped) e.walked_to in
    let behind = built_taken (built form.app) (drop 1 all) is.no_commands stop (level form is (drop 1 all) said e) in
    both _ _ is.simple (ap (built_takes (built form.app) nothing_held) (is.words all) ∙ behind)

rows_read : (form : Form) → IsBuilt form → (all : List Text) (said : Values) → Ends (top_of form) form.past 1 nothing_held (drop 1 all) said
    → (id : Text) → first_of id (matches_of form.app all) ≡ said id
rows_read form is all said e id =
    let c = (top_of form).rules in
    let words = ap₂ (λ (ns : Names) (ws : List Text). rows_after c ns ws) is.no_commands (is.words all) in
    let rows = words ∙ ap (finished c) (held_end form (drop 1 all) said e) ∙ no_defaults c (settled c e.end).rows is.no_defaults in
    ap (first_of id) rows ∙ e.holds.rows.values id

-- what is read of all words, where those behind the first have these parts
pub record AreRead (form : Form) (all : List Text) (p : Parts) : Type 0 where
  pub taken : takes form.app all ≡ true
  pub file : first_of (codes "FILE") (matches_of form.app all) ≡ file_in 1 p.positionals
  pub suite : first_of (codes "SUITE") (matches_of form.app all) ≡ suite_in 1 p.positionals
  pub option : (id : Text) → IsNoFile id → first_of id (matches_of form.app all) ≡ value_of (name_for id) p.options

pub are_read : (form : Form) → IsForm form → IsBuilt form → (all : List Text) (p : Parts) → parts_of (drop 1 all) ≡ Some p → 1 + length p.positionals ≡ form.past
    → stand_once form.names p.options ≡ true → AreRead form all p
unfolding no_values
are_read form is is_built all p parts count once =
    let fed = feed form is (drop 1 all) p parts 1 no_values (omega arith) count once (none_said p) in
    let end = words_end form is_built (drop 1 all) fed.said fed.fed in
    let said = rows_read form is_built all fed.said end in
    record {
      taken = all_taken form is_built all fed.said end;
      file = said (codes "FILE") ∙ fed.file;
      suite = said (codes "SUITE") ∙ fed.suite;
      option = λ id no_file. said id ∙ fed.options id no_file;
    }

-- `get_str` gives the first value among the rows
pub first_read : (f : Found) (id : Text) → first_value f id ≡ first_of id (rows_of f)
first_read f id = first_value-rows f id

pub as_many : (words : List (Bor Text)) → length (map (λ word. word.now) words) ≡ length words
as_many [] = refl
as_many (word ∷ words) = ap suc (as_many words)
