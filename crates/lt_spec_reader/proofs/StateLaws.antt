-- The state behind one line more.
use Rattle.std.proofs.Common.{◌≡◌, ℕ, Bool, true, false, cond, List, [], ◌∷◌, ◌++◌, length, map, Option, Some, None, refl, sym, ap, ◌∙◌, subst}
use Rattle.std.specs.Prelude.{◌&&◌, option_map}
use Rattle.std.specs.List.{list_all, filter_map, cons_option}
use Rattle.std.specs.Global.{Vec}
use Rattle.std.proofs.lemmas.List.{append-nil, map-append}
use Rattle.std.proofs.lemmas.List.Elements.{filter_map-append}
use Rattle.std.proofs.lemmas.List.Folds.{list_all-append}
use Rattle.lt_model.specs.declared.input.Place.{Place}
use Rattle.lt_tree.specs.Typing.Programs.{Program}
use Rattle.lt_tree.specs.Typing.ProgramView.{program_of}
use Rattle.lt_tree.specs.Typing.Entities.{or_else}
use Rattle.lt_tree.specs.declared.typed.program.Program as typed
use Rattle.lt_entry.specs.Lines.{Row}
use Rattle.lt_entry.specs.Written.{Numeral}
use Rattle.lt_entry.specs.Naming.{Root, Block, Scope, roots, root_among, parameters_of}
use Rattle.lt_entry.specs.SpecificationLines.{Line, line_words, is_in_form, entry_line, block_line, range_line, points_line, stub_line, require_line}
use Rattle.lt_entry.specs.Conditions.{entry_of, block_of_line, default_blocks, scope_behind, fits, fits_where, fits_behind, fits_in}
use Rattle.lt_entry.specs.Meaning.{first_some, want_by, want_said, stub_range_by}
use Rattle.lt_entry.specs.ReadingLines.{read_line}
use Rattle.lt_entry.specs.Laws.{LinesAreRead}
use Rattle.std.specs.Borrow.{Bor}
use Rattle.lt_input_names.specs.declared.names.Names.{Names}
use Rattle.lt_input_names.specs.declared.kinds.Kinds.{Kinds}
use Rattle.lt_input_names.specs.declared.block.Block as memory
use Rattle.lt_input_names.specs.declared.block.LineBlock.{LineBlock}
use Rattle.lt_input_names.specs.Blocks.{program_types, block_of, line_block_of}
use Rattle.lt_input_names.specs.Found.{found_in}
use Rattle.lt_input_names.specs.Views.{AreNames, program_at, types_at, scope_of}
use Rattle.lt_input_blocks.specs.declared.block_types.BlockTypes.{BlockTypes}
use Rattle.lt_input_blocks.specs.Elements.{AreBlockTypes}
use Rattle.lt_spec_reader.specs.declared.state.State.{State}
use Rattle.lt_spec_reader.specs.Growth.{Grows, is_settled}
use Rattle.lt_spec_reader.specs.Said.{found_at, range_by, HasSaid, Says, IsSaid, HasRanges, IsRanged}
use Rattle.lt_spec_reader.specs.Fronts.{IsNext}
use Rattle.lt_spec_reader.specs.States.{Adds, IsAdded, IsBehind, IsStep, GoesAlong}
use Rattle.lt_spec_reader.proofs.Bools.{both, or_else-none, first_more}
use Rattle.lt_spec_reader.proofs.Growing.{block_grows, said_stays, all_settled_stay, fitting_settled, said_more}

-- ---- lists

more_nothing : (program : Program) (lines : List Line) (line : Line) → block_of_line program line ≡ None → filter_map (block_of_line program) (lines ++ line ∷ []) ≡ filter_map (block_of_line program) lines
more_nothing program lines line none =
    filter_map-append (block_of_line program) lines (line ∷ []) ∙ ap (λ o. filter_map (block_of_line program) lines ++ cons_option o []) none ∙ append-nil (filter_map (block_of_line program) lines)

more_block : (program : Program) (lines : List Line) (line : Line) (block : Block) → block_of_line program line ≡ Some block → filter_map (block_of_line program) (lines ++ line ∷ []) ≡ filter_map (block_of_line program) lines ++ block ∷ []
more_block program lines line block some =
    filter_map-append (block_of_line program) lines (line ∷ []) ∙ ap (λ o. filter_map (block_of_line program) lines ++ cons_option o []) some

entry_more : (program : Program) (entry : ℕ) (lines : List Line) (line : Line) → entry_of program lines ≡ Some entry → entry_of program (lines ++ line ∷ []) ≡ Some entry
entry_more program entry [] line h = absurd (cc)
entry_more program entry (entry_line name ∷ lines) line h = h
entry_more program entry (block_line name type count ∷ lines) line h = absurd (cc)
entry_more program entry (range_line place low high ∷ lines) line h = absurd (cc)
entry_more program entry (points_line place targets ∷ lines) line h = absurd (cc)
entry_more program entry (stub_line name low high ∷ lines) line h = absurd (cc)
entry_more program entry (require_line sum relation constant ∷ lines) line h = absurd (cc)

all_settled_more : (scope : Scope) (lines : List Line) (line : Line) → list_all (is_settled scope) lines ≡ true → is_settled scope line ≡ true → list_all (is_settled scope) (lines ++ line ∷ []) ≡ true
all_settled_more scope lines line all one = list_all-append (is_settled scope) lines (line ∷ []) ∙ rw (all, one) refl

-- ---- fitting

pub fits_is : (program : Program) (rows : List Row) (entry : ℕ) (lines : List Line) (line : Line) → entry_of program lines ≡ Some entry → fits_where program rows lines line ≡ fits_in (scope_behind program rows entry lines) lines line
fits_is program rows entry [] line h = absurd (cc)
fits_is program rows entry (l ∷ lines) line h = ap (λ o. fits_behind program rows o (l ∷ lines) line) h

module _ (program : typed.Program) (rows : List Row) (entry : ℕ) (lines : List Line) where
  abbrev p : Program
  p = program_of program

  abbrev scope : Scope
  scope = scope_behind p rows entry lines

  abbrev scope_after : Line → Scope
  scope_after line = scope_behind p rows entry (lines ++ line ∷ [])

  same_scope : (line : Line) → block_of_line p line ≡ None → scope_after line ≡ scope
  same_scope line none =
      ap (λ l. let s : Scope = record { program = p; parameters = parameters_of p entry; blocks = l ++ default_blocks p rows entry } in s) (more_nothing p lines line none)

  pub scope_is : (state : State) → IsBehind program rows entry lines state → scope_of state.names ≡ scope
  scope_is state is =
      ap (λ q. let s : Scope = record {
        program = program_of q;
        parameters = parameters_of (program_of q) state.names.entry;
        blocks = map (line_block_of (program_types q)) state.names.added.items ++ map (block_of (program_types q)) state.names.blocks.now;
      } in s) is.names_program
      ∙ ap (λ l. let s : Scope = record {
        program = p;
        parameters = l;
        blocks = map (line_block_of (program_types program)) state.names.added.items ++ map (block_of (program_types program)) state.names.blocks.now;
      } in s) is.parameters
      ∙ ap (λ l. let s : Scope = record { program = p; parameters = parameters_of p entry; blocks = l ++ map (block_of (program_types program)) state.names.blocks.now } in s) is.added
      ∙ ap (λ l. let s : Scope = record { program = p; parameters = parameters_of p entry; blocks = filter_map (block_of_line p) lines ++ l } in s) is.others

  -- a line that makes no block
  behind_more : (state new : State) (line : Line) → IsBehind program rows entry lines state → block_of_line p line ≡ None → new.names ≡ state.names → new.types ≡ state.types → new.blocks ≡ state.blocks → is_settled scope line ≡ true
      → Says scope line state.wants new.wants → ((name : List ℕ) → option_map (range_by name) (found_in new.ranges name) ≡ or_else (option_map (range_by name) (found_in state.ranges name)) (stub_range_by name line))
      → IsBehind program rows entry (lines ++ line ∷ []) new
  behind_more state new line is none names types blocks settled says ranged = record {
    first = entry_more p entry lines line is.first;
    names = subst (λ n. AreNames n) (sym names) is.names;
    types = subst (λ n. AreBlockTypes n) (sym types) is.types;
    names_program = ap (λ (n : Names). n.kinds.program.now) names ∙ is.names_program;
    types_program = ap (λ (n : BlockTypes). n.program.now) types ∙ is.types_program;
    parameters = ap (λ (n : Names). parameters_of p n.entry) names ∙ is.parameters;
    blocks = ap (λ (v : Vec LineBlock). v.items) blocks ∙ is.blocks ∙ ap (λ (n : Names). n.added.items) (sym names);
    added = ap (λ (n : Names). map (line_block_of (program_types program)) n.added.items) names ∙ is.added ∙ sym (more_nothing p lines line none);
    others = ap (λ (n : Names). map (block_of (program_types program)) n.blocks.now) names ∙ is.others;
    wants = λ place.
        says place ∙ ap (λ o. or_else o (want_by scope place line)) (is.wants place) ∙ sym (said_more scope place lines line)
        ∙ ap (λ s. want_said s (lines ++ line ∷ []) place) (sym (same_scope line none));
    ranges = λ name. ranged name ∙ ap (λ o. or_else o (stub_range_by name line)) (is.ranges name) ∙ sym (first_more (stub_range_by name) lines line);
    settled = ap (λ s. list_all (is_settled s) (lines ++ line ∷ [])) (same_scope line none) ∙ all_settled_more scope lines line is.settled settled;
  }

  nothing_said : (place : Place) (line : Line) → want_by scope place line ≡ None → (state : State) → found_at state.wants place ≡ or_else (found_at state.wants place) (want_by scope place line)
  nothing_said place line none state = sym (ap (or_else (found_at state.wants place)) none ∙ or_else-none (found_at state.wants place))

  -- a line that makes one
  behind_block : (state new : State) (name : List ℕ) (type : List (List ℕ)) (count : Numeral) → IsBehind program rows entry lines state
      → Adds (block_line name type count) state.names new.names state.blocks.items new.blocks.items → new.types ≡ state.types → new.wants ≡ state.wants → new.ranges ≡ state.ranges
      → IsBehind program rows entry (lines ++ block_line name type count ∷ []) new
  behind_block state new name type count is adds types wants ranges =
      let line : Line = block_line name type count in
      let block : Block = line_block_of (program_types program) adds.block in
      let says : block_of_line p line ≡ Some block =
      ap (λ q. block_of_line (program_of q) line) (sym is.names_program) ∙ adds.says ∙ ap (λ q. Some (line_block_of (program_types q) adds.block)) is.names_program in
      let free : root_among (roots scope) block.name ≡ None = ap (λ s. root_among (roots s) adds.block.name.now) (sym (scope_is state is)) ∙ adds.free in
      let front : filter_map (block_of_line p) (lines ++ line ∷ []) ≡ filter_map (block_of_line p) lines ++ block ∷ [] = more_block p lines line block says in
      let with_it : Scope = record { program = p; parameters = parameters_of p entry; blocks = (filter_map (block_of_line p) lines ++ block ∷ []) ++ default_blocks p rows entry } in
      let after : scope_after line ≡ with_it = ap (λ l. let s : Scope = record { program = p; parameters = parameters_of p entry; blocks = l ++ default_blocks p rows entry } in s) front in
      let grows : Grows scope with_it = block_grows p (parameters_of p entry) (filter_map (block_of_line p) lines) (default_blocks p rows entry) block free in
      record {
        first = entry_more p entry lines line is.first;
        names = adds.names;
        types = subst (λ n. AreBlockTypes n) (sym types) is.types;
        names_program = ap (λ (k : Kinds). k.program.now) adds.kinds ∙ is.names_program;
        types_program = ap (λ (n : BlockTypes). n.program.now) types ∙ is.types_program;
        parameters = ap (parameters_of p) adds.entry ∙ is.parameters;
        blocks = adds.made ∙ ap (λ l. l ++ adds.block ∷ []) is.blocks ∙ sym adds.added;
        added =
            ap (map (line_block_of (program_types program))) adds.added ∙ map-append (line_block_of (program_types program)) state.names.added.items (adds.block ∷ [])
            ∙ ap (λ l. l ++ block ∷ []) is.added ∙ sym front;
        others = ap (λ (b : Bor (List memory.Block)). map (block_of (program_types program)) b.now) adds.others ∙ is.others;
        wants = λ place.
            ap (λ w. found_at w place) wants ∙ is.wants place ∙ sym (said_stays scope with_it grows place lines is.settled)
            ∙ sym (or_else-none (want_said with_it lines place)) ∙ sym (said_more with_it place lines line) ∙ ap (λ s. want_said s (lines ++ line ∷ []) place) (sym after);
        ranges = λ name.
            ap (λ r. option_map (range_by name) (found_in r name)) ranges ∙ is.ranges name ∙ sym (or_else-none (first_some (map (stub_range_by name) lines))) ∙ sym (first_more (stub_range_by name) lines line);
        settled =
            ap (λ s. list_all (is_settled s) (lines ++ line ∷ [])) after ∙ all_settled_more with_it lines line (all_settled_stay scope with_it grows lines is.settled) refl;
      }

  -- nothing changes
  behind_same : (state new : State) → IsBehind program rows entry lines state → new.names ≡ state.names → new.types ≡ state.types → new.blocks.items ≡ state.blocks.items → new.wants ≡ state.wants → new.ranges ≡ state.ranges → IsBehind program rows entry lines new
  behind_same state new is names types blocks wants ranges = record {
    first = is.first;
    names = subst (λ n. AreNames n) (sym names) is.names;
    types = subst (λ n. AreBlockTypes n) (sym types) is.types;
    names_program = ap (λ (n : Names). n.kinds.program.now) names ∙ is.names_program;
    types_program = ap (λ (n : BlockTypes). n.program.now) types ∙ is.types_program;
    parameters = ap (λ (n : Names). parameters_of p n.entry) names ∙ is.parameters;
    blocks = blocks ∙ is.blocks ∙ ap (λ (n : Names). n.added.items) (sym names);
    added = ap (λ (n : Names). map (line_block_of (program_types program)) n.added.items) names ∙ is.added;
    others = ap (λ (n : Names). map (block_of (program_types program)) n.blocks.now) names ∙ is.others;
    wants = λ place. ap (λ w. found_at w place) wants ∙ is.wants place;
    ranges = λ name. ap (λ r. option_map (range_by name) (found_in r name)) ranges ∙ is.ranges name;
    settled = is.settled;
  }

  -- ---- steps

  pub entry_step : (state : State) (name : List ℕ) → IsBehind program rows entry lines state → IsStep program rows entry lines (entry_line name) state false
  entry_step state name is = record { fits = refl; more = λ h. absurd (cc); stays = λ h. is }

  pub block_step : (state new : State) (name : List ℕ) (type : List (List ℕ)) (count : Numeral) (it : Bool) → IsBehind program rows entry lines state → IsAdded (block_line name type count) state.names new.names state.blocks.items new.blocks.items it
      → new.types ≡ state.types → new.wants ≡ state.wants → new.ranges ≡ state.ranges → IsStep program rows entry lines (block_line name type count) new it
  block_step state new name type count it is added types wants ranges = record {
    fits = added.fits lines ∙ ap (λ s. fits_in s lines (block_line name type count)) (scope_is state is);
    more = λ h. behind_block state new name type count is (added.adds h) types wants ranges;
    stays = λ h. behind_same state new is (added.stays h).0 types (added.stays h).1 wants ranges;
  }

  pub said_step : (state new : State) (line : Line) (it : Bool) → IsBehind program rows entry lines state → block_of_line p line ≡ None → ((name : List ℕ) → stub_range_by name line ≡ None) → IsSaid (scope_of state.names) line state.wants new.wants it
      → new.names ≡ state.names → new.types ≡ state.types → new.blocks ≡ state.blocks → new.ranges ≡ state.ranges → IsStep program rows entry lines line new it
  said_step state new line it is none no_stub said names types blocks ranges =
      let here : scope_of state.names ≡ scope = scope_is state is in
      let fit : it ≡ fits_in scope lines line = said.fits lines (λ place. is.wants place ∙ ap (λ s. want_said s lines place) (sym here)) ∙ ap (λ s. fits_in s lines line) here in
      record {
        fits = fit;
        more = λ h.
            behind_more state new line is none names types blocks (fitting_settled scope lines line (sym fit ∙ h))
            (λ place. said.says h place ∙ ap (λ s. or_else (found_at state.wants place) (want_by s place line)) here)
            (λ name. ap (λ r. option_map (range_by name) (found_in r name)) ranges ∙ sym (ap (or_else (option_map (range_by name) (found_in state.ranges name))) (no_stub name) ∙ or_else-none (option_map (range_by name) (found_in state.ranges name))));
        stays = λ h. behind_same state new is names types (ap (λ (v : Vec LineBlock). v.items) blocks) (said.stays h) ranges;
      }

  pub stub_step : (state new : State) (name : List ℕ) (low high : Numeral) (it : Bool) → IsBehind program rows entry lines state → IsRanged (scope_of state.names) (stub_line name low high) state.ranges new.ranges it
      → new.names ≡ state.names → new.types ≡ state.types → new.blocks ≡ state.blocks → new.wants ≡ state.wants → IsStep program rows entry lines (stub_line name low high) new it
  stub_step state new name low high it is ranged names types blocks wants = record {
    fits = ranged.fits lines is.ranges ∙ ap (λ s. fits_in s lines (stub_line name low high)) (scope_is state is);
    more = λ h.
        behind_more state new (stub_line name low high) is refl names types blocks refl
        (λ place. ap (λ w. found_at w place) wants ∙ nothing_said place (stub_line name low high) refl state) (ranged.says h);
    stays = λ h. behind_same state new is names types (ap (λ (v : Vec LineBlock). v.items) blocks) wants (ranged.stays h);
  }

  pub require_step : (state : State) (line : Line) (it : Bool) → IsBehind program rows entry lines state → block_of_line p line ≡ None → is_settled scope line ≡ true → ((place : Place) → want_by scope place line ≡ None) → ((name : List ℕ) → stub_range_by name line ≡ None)
      → ((before : List Line) → it ≡ fits_in (scope_of state.names) before line) → IsStep program rows entry lines line state it
  require_step state line it is none settled no_want no_stub fit = record {
    fits = fit lines ∙ ap (λ s. fits_in s lines line) (scope_is state is);
    more = λ h.
        behind_more state state line is none refl refl refl settled (λ place. nothing_said place line (no_want place) state)
        (λ name. sym (ap (or_else (option_map (range_by name) (found_in state.ranges name))) (no_stub name) ∙ or_else-none (option_map (range_by name) (found_in state.ranges name))));
    stays = λ h. is;
  }

  -- ---- the next line

  -- no line is read of the words
  pub next_unread : (entry_is : entry_of p lines ≡ Some entry) (words : List (List ℕ)) → LinesAreRead → read_line words ≡ None → IsNext p rows lines words None
  next_unread entry_is words read none line written = by (is_in_form line) refl
    where
      by : (b : Bool) → is_in_form line ≡ b → (b && fits_where p rows lines line) ≡ false
      by false e = refl
      by true e = let some : read_line words ≡ Some line = (read words line).1 (e, written) in absurd (cc)

  -- the line that is read doesn't fit
  pub next_unfit : (entry_is : entry_of p lines ≡ Some entry) (words : List (List ℕ)) (it : Line) → LinesAreRead → read_line words ≡ Some it → fits_in scope lines it ≡ false → IsNext p rows lines words None
  next_unfit entry_is words it read some unfit line written = by (is_in_form line) refl
    where
      by : (b : Bool) → is_in_form line ≡ b → (b && fits_where p rows lines line) ≡ false
      by false e = refl
      by true e =
          let found : read_line words ≡ Some line = (read words line).1 (e, written) in
          let same : it ≡ line = cc in
          fits_is p rows entry lines line entry_is ∙ ap (fits_in scope lines) (sym same) ∙ unfit

  -- it fits
  pub next_fits : (entry_is : entry_of p lines ≡ Some entry) (words : List (List ℕ)) (it : Line) → LinesAreRead → read_line words ≡ Some it → fits_in scope lines it ≡ true → IsNext p rows lines words (Some it)
  next_fits entry_is words it read some fit =
      let hs = (read words it).0 some in
      (hs.1, rw (hs.0) (fits_is p rows entry lines it entry_is ∙ fit))
