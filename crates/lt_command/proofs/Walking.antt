-- What `clap` makes of the arguments of a command.
use Rattle.std.proofs.Common.{◌≡◌, ℕ, ◌++◌, ◌≤◌, true, false, List, [], ◌∷◌, refl, Some, None, codes}
use Rattle.std.specs.Prelude.{drop}
use Rattle.std.specs.List.{list_all}
use Rattle.std.specs.Str.{bytes_eq}
use Rattle.clap.specs.Words.{App, Row, Rule, Text, is_simple, new_rule, built}
use Rattle.clap.specs.Simple.{argument_words, filled, names_of, with_index}
use Rattle.clap.specs.Lexer.{long_of}
use Rattle.clap.specs.Walk.{arg_by_id, arg_by_index, arg_by_long, is_empty}
use Rattle.clap.specs.Takes.{default_passes, is_valid}
use Rattle.std.proofs.lemmas.Slice.Eq.{bytes_eq-Decides}
use Rattle.lt_command.specs.Parts.{is_among}
use Rattle.lt_command.specs.Reading.{option_as}
use Rattle.lt_command.proofs.Uses.{IsPlainRule}

-- an argument of a command as it is read
abbrev pub option_rule : Text → Rule
option_rule id = filled (option_as id)

abbrev pub positional_rule : Text → ℕ → Rule
positional_rule id k = with_index k (filled (new_rule id))

-- ---- options

-- the id is none of a positional
pub record IsNoFile (id : Text) : Type 0 where
  pub file : bytes_eq (codes "FILE") id ≡ false
  pub suite : bytes_eq (codes "SUITE") id ≡ false

abbrev pub name_for : Text → Text
name_for id = 45 ∷ 45 ∷ id

-- the id can be an option's
pub record IsWord (id : Text) : Type 0 where
  pub no_file : IsNoFile id
  pub file : bytes_eq id (codes "FILE") ≡ false
  pub suite : bytes_eq id (codes "SUITE") ≡ false
  pub apart : long_of (name_for id) ≡ Some (id, None)
  pub joined : (v : Text) → long_of (name_for id ++ 61 ∷ v) ≡ Some (id, Some v)
  pub no_dashes : bytes_eq (name_for id) (45 ∷ 45 ∷ []) ≡ false
  pub no_dashes_joined : (v : Text) → bytes_eq (name_for id ++ 61 ∷ v) (45 ∷ 45 ∷ []) ≡ false

-- what is read of an option with this id
pub record IsOption (c : List Rule) (id : Text) : Type 0 where
  pub word : IsWord id
  pub plain : IsPlainRule c (option_rule id)
  pub by_long : arg_by_long c id ≡ Some (option_rule id)

pub plain_option : (c : List Rule) (id : Text) → IsWord id → arg_by_id c id ≡ Some (option_rule id) → arg_by_long c id ≡ Some (option_rule id) → IsOption c id
plain_option c id word by_id by_long = record {
  word = word;
  plain = record {
    action = refl;
    reading = refl;
    most = refl;
    several = refl;
    multiple = refl;
    trailing = refl;
    by_id = by_id;
    passes = λ v rows fresh. rw fresh refl;
  };
  by_long = by_long;
}

pub entry_is : IsWord (codes "entry")
entry_is = record {
  no_file = record { file = refl; suite = refl };
  file = refl;
  suite = refl;
  apart = refl;
  joined = λ v. refl;
  no_dashes = refl;
  no_dashes_joined = λ v. refl;
}

pub model_is : IsWord (codes "model")
model_is = record {
  no_file = record { file = refl; suite = refl };
  file = refl;
  suite = refl;
  apart = refl;
  joined = λ v. refl;
  no_dashes = refl;
  no_dashes_joined = λ v. refl;
}

pub char_is : IsWord (codes "char")
char_is = record {
  no_file = record { file = refl; suite = refl };
  file = refl;
  suite = refl;
  apart = refl;
  joined = λ v. refl;
  no_dashes = refl;
  no_dashes_joined = λ v. refl;
}

pub steps_is : IsWord (codes "steps")
steps_is = record {
  no_file = record { file = refl; suite = refl };
  file = refl;
  suite = refl;
  apart = refl;
  joined = λ v. refl;
  no_dashes = refl;
  no_dashes_joined = λ v. refl;
}

pub cover_is : IsWord (codes "cover")
cover_is = record {
  no_file = record { file = refl; suite = refl };
  file = refl;
  suite = refl;
  apart = refl;
  joined = λ v. refl;
  no_dashes = refl;
  no_dashes_joined = λ v. refl;
}

pub criteria_is : IsWord (codes "criteria")
criteria_is = record {
  no_file = record { file = refl; suite = refl };
  file = refl;
  suite = refl;
  apart = refl;
  joined = λ v. refl;
  no_dashes = refl;
  no_dashes_joined = λ v. refl;
}

-- the name of an option
pub record Named (c : List Rule) (name : Text) : Type 0 where
  pub id : Text
  pub is : name ≡ name_for id
  pub option : IsOption c id

pub same_text : (a b : Text) → bytes_eq a b ≡ true → a ≡ b
same_text a b h = (bytes_eq-Decides a b).0 h

-- ---- positionals

-- what is read of the k-th positional, which has this id
pub record IsPositional (c : List Rule) (id : Text) (k : ℕ) : Type 0 where
  pub plain : IsPlainRule c (positional_rule id k)
  pub index : arg_by_index c k ≡ Some (positional_rule id k)

pub plain_positional : (c : List Rule) (id : Text) (k : ℕ) → arg_by_id c id ≡ Some (positional_rule id k) → arg_by_index c k ≡ Some (positional_rule id k) → IsPositional c id k
plain_positional c id k by_id index = record {
  plain = record {
    action = refl;
    reading = refl;
    most = refl;
    several = refl;
    multiple = refl;
    trailing = refl;
    by_id = by_id;
    passes = λ v rows fresh. rw fresh refl;
  };
  index = index;
}

-- ---- commands

-- a command: what `clap` is told of it, its arguments as they are read, the names of its options, and the number behind that of its last positional
pub record Form : Type 0 where
  pub app : App
  pub arguments : List Rule
  pub names : List Text
  pub past : ℕ

-- what is read of the arguments of a command
pub record IsForm (form : Form) : Type 0 where
  pub option : (name : Text) → is_among name form.names ≡ true → Named form.arguments name
  pub file : IsPositional form.arguments (codes "FILE") 1
  pub suite : 3 ≤ form.past → IsPositional form.arguments (codes "SUITE") 2
  pub past : form.past ≤ 3

-- what is built of a command
pub record IsBuilt (form : Form) : Type 0 where
  pub simple : is_simple form.app ≡ true
  pub arguments : (built form.app).top.rules ≡ form.arguments
  pub once : (built form.app).top.args_override_self ≡ false
  pub no_commands : names_of (built form.app) ≡ []
  pub words : (all : List Text) → argument_words form.app all ≡ drop 1 all
  pub defaults_pass : list_all default_passes (built form.app).top.rules ≡ true
  pub no_defaults : list_all (λ a. is_empty a.defaults) (built form.app).top.rules ≡ true
  pub valid : (rows : List Row) → is_valid (built form.app).top rows false ≡ true
