-- What `clap` reads of the words of `replay`.
use Rattle.std.proofs.Common.{◌≡◌, ◌≢◌, Bool, true, false, List, [], ◌∷◌, length, drop, refl, ap, ap₂, sym, ◌∙◌, Option, Some, None, codes, arith}
use Rattle.std.specs.Prelude.{if◌then◌else◌}
use Rattle.std.specs.Str.{bytes_eq}
use Rattle.std.proofs.lemmas.Bool.{false≢true}
use Rattle.clap.specs.Words.{Row, Rule, Text, first_of, matches_of, takes}
use Rattle.clap.proofs.OnLiterals.{clap_on_literals}
use Rattle.lt_command.specs.Parts.{Parts, Setting, is_among, parts_of, stand_once, value_of}
use Rattle.lt_command.specs.Plan.{replay_of, replay_options, replay_with, said_by}
use Rattle.lt_command.specs.Reading.{replay_among, replay_app, replay_between, said_among}
use Rattle.lt_command.proofs.Walking.{Form, IsBuilt, IsForm, IsNoFile, IsOption, Named, char_is, cover_is, entry_is, model_is, name_for, option_rule, plain_option, plain_positional, positional_rule, same_text, steps_is}
use Rattle.lt_command.proofs.Matches.{AreRead, are_read}
use Rattle.lt_command.proofs.Feeding.{file_in, suite_in}

abbrev replay_arguments : List Rule
replay_arguments = positional_rule (codes "FILE") 1 ∷ positional_rule (codes "SUITE") 2 ∷ option_rule (codes "entry")
    ∷ option_rule (codes "model") ∷ option_rule (codes "char") ∷ option_rule (codes "steps") ∷ option_rule (codes "cover") ∷ []

abbrev replay_form : Form
replay_form = record { app = replay_app; arguments = replay_arguments; names = replay_options; past = 3 }

replay_built : IsBuilt replay_form
unfolding clap_on_literals
replay_built = record {
  simple = refl;
  arguments = refl;
  once = refl;
  no_commands = refl;
  words = λ all. refl;
  defaults_pass = refl;
  no_defaults = refl;
  valid = λ rows. refl;
}

entry_option : IsOption replay_arguments (codes "entry")
entry_option = plain_option replay_arguments (codes "entry") entry_is refl refl

model_option : IsOption replay_arguments (codes "model")
model_option = plain_option replay_arguments (codes "model") model_is refl refl

char_option : IsOption replay_arguments (codes "char")
char_option = plain_option replay_arguments (codes "char") char_is refl refl

steps_option : IsOption replay_arguments (codes "steps")
steps_option = plain_option replay_arguments (codes "steps") steps_is refl refl

cover_option : IsOption replay_arguments (codes "cover")
cover_option = plain_option replay_arguments (codes "cover") cover_is refl refl

option_named : (name : Text) → is_among name replay_options ≡ true → Named replay_arguments name
option_named name h = go (bytes_eq name (codes "--entry")) (bytes_eq name (codes "--model")) (bytes_eq name (codes "--char")) (bytes_eq name (codes "--steps")) (bytes_eq name (codes "--cover")) refl refl refl refl refl
  where
    go : (a b d e g : Bool) → bytes_eq name (codes "--entry") ≡ a → bytes_eq name (codes "--model") ≡ b → bytes_eq name (codes "--char") ≡ d → bytes_eq name (codes "--steps") ≡ e → bytes_eq name (codes "--cover") ≡ g → Named replay_arguments name
    go true b d e g ha hb hd he hg = record { id = codes "entry"; is = same_text name (codes "--entry") ha; option = entry_option }
    go false true d e g ha hb hd he hg = record { id = codes "model"; is = same_text name (codes "--model") hb; option = model_option }
    go false false true e g ha hb hd he hg = record { id = codes "char"; is = same_text name (codes "--char") hd; option = char_option }
    go false false false true g ha hb hd he hg = record { id = codes "steps"; is = same_text name (codes "--steps") he; option = steps_option }
    go false false false false true ha hb hd he hg = record { id = codes "cover"; is = same_text name (codes "--cover") hg; option = cover_option }
    go false false false false false ha hb hd he hg = let bad : false ≡ true = rw (ha, hb, hd, he, hg) at h in cc

replay_is : IsForm replay_form
replay_is = record {
  option = option_named;
  file = plain_positional replay_arguments (codes "FILE") 1 refl refl;
  suite = λ room. plain_positional replay_arguments (codes "SUITE") 2 refl refl;
  past = omega arith;
}

are_read_there : (all : List Text) (p : Parts) → parts_of (drop 1 all) ≡ Some p → length p.positionals ≡ 2 → stand_once replay_options p.options ≡ true
    → AreRead replay_form all p
are_read_there all p parts two once = are_read replay_form replay_is replay_built all p parts (omega (arith, two)) once

same_said : (rows : List Row) (options : List Setting) → ((id : Text) → IsNoFile id → first_of id rows ≡ value_of (name_for id) options) → said_among rows ≡ said_by options
same_said rows options h =
    let entry = h (codes "entry") entry_is.no_file in
    let model = h (codes "model") model_is.no_file in
    let char = h (codes "char") char_is.no_file in
    let steps = h (codes "steps") steps_is.no_file in
    let cover = h (codes "cover") cover_is.no_file in
    cc

same_replay : (ps : List Text) (options : List Setting) (rows : List Row) → length ps ≡ 2 → stand_once replay_options options ≡ true
    → first_of (codes "FILE") rows ≡ file_in 1 ps → first_of (codes "SUITE") rows ≡ suite_in 1 ps → said_among rows ≡ said_by options
    → replay_among rows ≡ replay_of ps options
same_replay [] options rows two once file suite said = absurd (omega arith)
same_replay (a ∷ []) options rows two once file suite said = absurd (omega arith)
same_replay (a ∷ b ∷ d ∷ ps) options rows two once file suite said = absurd (omega arith)
same_replay (a ∷ b ∷ []) options rows two once file suite said =
    ap₂ (λ (f : Option Text) (s : Option Text). replay_between f s (said_among rows)) file suite ∙ ap (replay_with a b) said ∙ sym (as_once (stand_once replay_options options) once)
  where
    as_once : (t : Bool) → t ≡ true → (if t then replay_with a b (said_by options) else None) ≡ replay_with a b (said_by options)
    as_once true h = refl
    as_once false h = absurd (false≢true h)

-- what is read is the replay of the definition
pub replay_read : (all : List Text) (p : Parts) → parts_of (drop 1 all) ≡ Some p → length p.positionals ≡ 2 → stand_once replay_options p.options ≡ true
    → replay_among (matches_of replay_app all) ≡ replay_of p.positionals p.options
replay_read all p parts two once =
    let a = are_read_there all p parts two once in
    same_replay p.positionals p.options (matches_of replay_app all) two once a.file a.suite (same_said (matches_of replay_app all) p.options a.option)

pub replay_taken : (all : List Text) (p : Parts) → parts_of (drop 1 all) ≡ Some p → length p.positionals ≡ 2 → stand_once replay_options p.options ≡ true
    → takes replay_app all ≡ true
replay_taken all p parts two once = (are_read_there all p parts two once).taken

pub not_two : (ps : List Text) (options : List Setting) → length ps ≢ 2 → replay_of ps options ≡ None
not_two [] options h = refl
not_two (a ∷ []) options h = refl
not_two (a ∷ b ∷ []) options h = absurd (h refl)
not_two (a ∷ b ∷ d ∷ ps) options h = refl

pub not_once : (ps : List Text) (options : List Setting) → stand_once replay_options options ≡ false → replay_of ps options ≡ None
not_once [] options h = refl
not_once (a ∷ []) options h = refl
not_once (a ∷ b ∷ []) options h = rw h refl
not_once (a ∷ b ∷ d ∷ ps) options h = refl
