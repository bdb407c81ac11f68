-- What `clap` reads of the words of `annotate`.
use Rattle.std.proofs.Common.{◌≡◌, ◌≢◌, Bool, true, false, List, [], ◌∷◌, length, drop, refl, ap₂, sym, ◌∙◌, Option, Some, None, codes, arith}
use Rattle.std.specs.Prelude.{if◌then◌else◌}
use Rattle.std.specs.Str.{bytes_eq}
use Rattle.std.proofs.lemmas.Bool.{false≢true}
use Rattle.clap.specs.Words.{Row, Rule, Text, first_of, matches_of, takes}
use Rattle.clap.proofs.OnLiterals.{clap_on_literals}
use Rattle.lt_command.specs.Parts.{Parts, Setting, is_among, parts_of, stand_once, value_of}
use Rattle.lt_command.specs.Plan.{annotate_of, annotate_options, annotate_said}
use Rattle.lt_command.specs.Reading.{annotate_among, annotate_app, annotate_between}
use Rattle.lt_command.proofs.Walking.{Form, IsBuilt, IsForm, IsNoFile, IsOption, Named, char_is, criteria_is, model_is, name_for, option_rule, plain_option, plain_positional, positional_rule, same_text}
use Rattle.lt_command.proofs.Matches.{AreRead, are_read}
use Rattle.lt_command.proofs.Feeding.{file_in}

abbrev annotate_arguments : List Rule
annotate_arguments =
    positional_rule (codes "FILE") 1 ∷ option_rule (codes "criteria") ∷ option_rule (codes "model") ∷ option_rule (codes "char") ∷ []

abbrev annotate_form : Form
annotate_form = record { app = annotate_app; arguments = annotate_arguments; names = annotate_options; past = 2 }

annotate_built : IsBuilt annotate_form
unfolding clap_on_literals
annotate_built = record {
  simple = refl;
  arguments = refl;
  once = refl;
  no_commands = refl;
  words = λ all. refl;
  defaults_pass = refl;
  no_defaults = refl;
  valid = λ rows. refl;
}

criteria_option : IsOption annotate_arguments (codes "criteria")
criteria_option = plain_option annotate_arguments (codes "criteria") criteria_is refl refl

model_option : IsOption annotate_arguments (codes "model")
model_option = plain_option annotate_arguments (codes "model") model_is refl refl

char_option : IsOption annotate_arguments (codes "char")
char_option = plain_option annotate_arguments (codes "char") char_is refl refl

option_named : (name : Text) → is_among name annotate_options ≡ true → Named annotate_arguments name
option_named name h = go (bytes_eq name (codes "--criteria")) (bytes_eq name (codes "--model")) (bytes_eq name (codes "--char")) refl refl refl
  where
    go : (a b d : Bool) → bytes_eq name (codes "--criteria") ≡ a → bytes_eq name (codes "--model") ≡ b → bytes_eq name (codes "--char") ≡ d → Named annotate_arguments name
    go true b d ha hb hd = record { id = codes "criteria"; is = same_text name (codes "--criteria") ha; option = criteria_option }
    go false true d ha hb hd = record { id = codes "model"; is = same_text name (codes "--model") hb; option = model_option }
    go false false true ha hb hd = record { id = codes "char"; is = same_text name (codes "--char") hd; option = char_option }
    go false false false ha hb hd = let bad : false ≡ true = rw (ha, hb, hd) at h in cc

annotate_is : IsForm annotate_form
annotate_is = record {
  option = option_named;
  file = plain_positional annotate_arguments (codes "FILE") 1 refl refl;
  suite = λ room. absurd (omega (arith, room));
  past = omega arith;
}

are_read_there : (all : List Text) (p : Parts) → parts_of (drop 1 all) ≡ Some p → length p.positionals ≡ 1 → stand_once annotate_options p.options ≡ true
    → AreRead annotate_form all p
are_read_there all p parts one once = are_read annotate_form annotate_is annotate_built all p parts (omega (arith, one)) once

said_with : (list : Option Text) (file : Text) (options : List Setting) → value_of (codes "--criteria") options ≡ list
    → annotate_between (Some file) list (value_of (codes "--model") options) (value_of (codes "--char") options) ≡ annotate_said file options
said_with None file options h = rw h refl
said_with (Some list) file options h = rw h refl

same_between : (rows : List Row) (file : Text) (options : List Setting) → first_of (codes "FILE") rows ≡ Some file
    → ((id : Text) → IsNoFile id → first_of id rows ≡ value_of (name_for id) options) → annotate_among rows ≡ annotate_said file options
same_between rows file options is_file h =
    let criteria = h (codes "criteria") criteria_is.no_file in
    let model = h (codes "model") model_is.no_file in
    let char = h (codes "char") char_is.no_file in
    ap₂ (λ (f : Option Text) (list : Option Text). annotate_between f list (first_of (codes "model") rows) (first_of (codes "char") rows)) is_file criteria
    ∙ ap₂ (λ (m : Option Text) (s : Option Text). annotate_between (Some file) (value_of (codes "--criteria") options) m s) model char
    ∙ said_with (value_of (codes "--criteria") options) file options refl

same_annotate : (ps : List Text) (options : List Setting) (rows : List Row) → length ps ≡ 1 → stand_once annotate_options options ≡ true
    → first_of (codes "FILE") rows ≡ file_in 1 ps → ((id : Text) → IsNoFile id → first_of id rows ≡ value_of (name_for id) options)
    → annotate_among rows ≡ annotate_of ps options
same_annotate [] options rows one once file said = absurd (omega arith)
same_annotate (a ∷ b ∷ ps) options rows one once file said = absurd (omega arith)
same_annotate (a ∷ []) options rows one once file said = same_between rows a options file said ∙ sym (as_once (stand_once annotate_options options) once)
  where
    as_once : (t : Bool) → t ≡ true → (if t then annotate_said a options else None) ≡ annotate_said a options
    as_once true h = refl
    as_once false h = absurd (false≢true h)

-- what is read is what the definition says
pub annotate_read : (all : List Text) (p : Parts) → parts_of (drop 1 all) ≡ Some p → length p.positionals ≡ 1 → stand_once annotate_options p.options ≡ true
    → annotate_among (matches_of annotate_app all) ≡ annotate_of p.positionals p.options
annotate_read all p parts one once =
    let a = are_read_there all p parts one once in
    same_annotate p.positionals p.options (matches_of annotate_app all) one once a.file a.option

pub annotate_taken : (all : List Text) (p : Parts) → parts_of (drop 1 all) ≡ Some p → length p.positionals ≡ 1 → stand_once annotate_options p.options ≡ true
    → takes annotate_app all ≡ true
annotate_taken all p parts one once = (are_read_there all p parts one once).taken

pub not_one : (ps : List Text) (options : List Setting) → length ps ≢ 1 → annotate_of ps options ≡ None
not_one [] options h = refl
not_one (a ∷ []) options h = absurd (h refl)
not_one (a ∷ b ∷ ps) options h = refl

pub not_once : (ps : List Text) (options : List Setting) → stand_once annotate_options options ≡ false → annotate_of ps options ≡ None
not_once [] options h = refl
not_once (a ∷ []) options h = rw h refl
not_once (a ∷ b ∷ ps) options h = refl
