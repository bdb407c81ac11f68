-- The first bad line behind lines that fit, and the answers of a file.
use Rattle.std.proofs.Common.{◌≡◌, ℕ, zero, suc, ◌+◌, ◌<◌, ◌≤◌, Bool, true, false, List, [], ◌∷◌, ◌++◌, length, take, drop, get_or, map, slice_get, Option, Some, None, Bor, refl, sym, ap, ◌∙◌, subst, arith}
use Rattle.std.specs.Prelude.{◌||◌, option_map, is_some, min, Result, Ok, Err}
use Rattle.std.specs.List.{list_any, filter_map}
use Rattle.std.specs.HashSet.{HashSet}
use Rattle.std.specs.Str.{bytes_eq}
use Rattle.std.proofs.lemmas.List.{length-map, length-take}
use Rattle.lt_tree.specs.declared.typed.program.Program as typed
use Rattle.lt_tree.specs.declared.typed.entity.Object.{Object}
use Rattle.lt_tree.specs.Typing.Programs.{Program}
use Rattle.lt_tree.specs.Typing.ProgramView.{program_of}
use Rattle.lt_entry.specs.Lines.{Row, rows_of, count_of_lines}
use Rattle.lt_entry.specs.Naming.{Block, Scope, root_among, block_root, parameters_of}
use Rattle.lt_entry.specs.SpecificationLines.{Line, line_words, entry_line}
use Rattle.lt_entry.specs.Conditions.{scope_behind, default_blocks, block_of_line, entry_named}
use Rattle.lt_entry.specs.Specifications.{specification_in, words_in, unfree_rows, IsFirstBadLine, line_number}
use Rattle.lt_entry.specs.LineViews.{row_view}
use Rattle.lt_entry.specs.declared.row.Row as memory_row
use Rattle.lt_input_names.specs.declared.block.Block as memory
use Rattle.lt_input_names.specs.declared.block.LineBlock.{LineBlock}
use Rattle.lt_input_names.specs.declared.block.Specification.{Specification}
use Rattle.lt_input_names.specs.Blocks.{program_types, block_of, line_block_of, specification_of}
use Rattle.lt_input_names.specs.Stubs.{has_name}
use Rattle.lt_input_names.specs.Views.{scope_of}
use Rattle.lt_input_specs.specs.Defaults.{root_of}
use Rattle.lt_spec_reader.specs.declared.state.State.{State}
use Rattle.lt_spec_reader.specs.declared.stops.NoSpecification.{NoSpecification}
use Rattle.lt_spec_reader.specs.declared.stops.NoSpecification.TheVariants as none
use Rattle.lt_spec_reader.specs.Frees.{HasOwn, first_of}
use Rattle.lt_spec_reader.specs.Fronts.{IsNext, AreFirst, AreLongest}
use Rattle.lt_spec_reader.specs.States.{IsBehind, AreRead}
use Rattle.lt_spec_reader.specs.Answers.{IsFault, AnswersRows}
use Rattle.lt_spec_reader.specs.Reading.{IsSpecificationAnswer}
use Rattle.lt_spec_reader.proofs.OwnLaws.{own_is}
use Rattle.lt_spec_reader.proofs.StateLaws.{scope_is}
use Rattle.lt_spec_reader.proofs.FrontLaws.{first_more, none_first, bad_none, bad_first, bad_unfree, bad_behind, all_say}

-- ---- names of parameters and blocks

pub own_has : {S : Type 0} (program : typed.Program) (rows : List Row) (entry : ℕ) (lines : List Line) (state : State) (objects : List (Bor Object)) (blocks : List memory.Block) (own : HashSet (Bor (List ℕ)) S) → IsBehind program rows entry lines state
    → map (λ (object : Bor Object). root_of program object.now) objects ≡ parameters_of (program_of program) entry → map (block_of (program_types program)) blocks ≡ default_blocks (program_of program) rows entry
    → ((name : List ℕ) → has_name own name ≡ (list_any (λ (it : Bor Object). bytes_eq it.now.name name) objects || list_any (λ (it : LineBlock). bytes_eq it.name.now name) state.blocks.items || list_any (λ (it : memory.Block). bytes_eq it.name name) blocks))
    → HasOwn (scope_of state.names) own
own_has program rows entry lines state objects blocks own is are made has name =
    let types = program_types program in
    let p = program_of program in
    let scope : Scope = scope_behind p rows entry lines in
    let these : map (line_block_of types) state.blocks.items ++ map (block_of types) blocks ≡ scope.blocks =
    ap (λ l. map (line_block_of types) l ++ map (block_of types) blocks) is.blocks ∙ ap (λ l. l ++ map (block_of types) blocks) is.added ∙ ap (λ l. filter_map (block_of_line p) lines ++ l) made in
    has name
    ∙ sym (own_is (λ (object : Bor Object). root_of program object.now) (line_block_of types) (block_of types) objects state.blocks.items blocks (parameters_of p entry) scope.blocks name are these)
    ∙ ap (λ (s : Scope). is_some (root_among (s.parameters ++ map block_root s.blocks) name)) (sym (scope_is program rows entry lines state is))

-- ---- faults

first_is : (l : List ℕ) (number : ℕ) → Some number ≡ first_of l → (others : List ℕ) × (l ≡ number ∷ others)
first_is [] number h = absurd (cc)
first_is (n ∷ l) number h = let same : number ≡ n = cc in (l, ap (λ m. m ∷ l) (sym same))

none_is_first : (l : List ℕ) → None ≡ first_of l → l ≡ []
none_is_first [] h = refl
none_is_first (n ∷ l) h = absurd (cc)

row_at : (rows : List Row) (k : ℕ) (row : Row) → slice_get rows k ≡ Some row → (k < length rows) × (row ≡ get_or rows k row)
row_at [] k row h = absurd (cc)
row_at (r ∷ rows) zero row h = let same : r ≡ row = cc in (omega arith, sym same)
row_at (r ∷ rows) (suc k) row h = let found = row_at rows k row h in (omega (arith, found.0), found.1)

no_row : (rows : List Row) (k : ℕ) → slice_get rows k ≡ None → length rows ≤ k
no_row [] k h = omega arith
no_row (r ∷ rows) zero h = absurd (cc)
no_row (r ∷ rows) (suc k) h = omega (arith, no_row rows k h)

module _ (program : typed.Program) (rows : List Row) (entry : ℕ) (lines : List Line) (state : State) (read : AreRead program rows entry lines state) where
  unfree_is : unfree_rows (scope_behind (program_of program) rows entry lines) rows rows lines ≡ unfree_rows (scope_of state.names) rows rows lines
  unfree_is = ap (λ s. unfree_rows s rows rows lines) (sym (scope_is program rows entry lines state read.behind))

  pub fault_unfree : (number : ℕ) → Some number ≡ first_of (unfree_rows (scope_of state.names) rows rows lines) → IsFault program rows entry lines (Some number)
  fault_unfree number h text is =
      let found = first_is (unfree_rows (scope_of state.names) rows rows lines) number h in
      bad_unfree (program_of program) text rows lines entry is read.first read.behind.first number found.0 read.longest (unfree_is ∙ found.1)

  short : length lines ≤ length rows
  short =
      let words : length (words_in (take (length lines) rows)) ≡ length (map line_words lines) = ap length read.first.written in
      let taken : length (words_in (take (length lines) rows)) ≡ length (take (length lines) rows) = length-map (take (length lines) rows) (λ (row : Row). row.words) in
      let written : length (map line_words lines) ≡ length lines = length-map lines line_words in
      omega (arith, length-take (length lines) rows)

  pub fault_behind : (o : Option ℕ) → None ≡ first_of (unfree_rows (scope_of state.names) rows rows lines) → o ≡ option_map (λ (row : Row). row.number) (slice_get rows (length lines)) → IsFault program rows entry lines o
  fault_behind o free e = subst (IsFault program rows entry lines) (sym e) (by (slice_get rows (length lines)) refl)
    where
      none : unfree_rows (scope_behind (program_of program) rows entry lines) rows rows lines ≡ []
      none = unfree_is ∙ none_is_first (unfree_rows (scope_of state.names) rows rows lines) free

      by : (found : Option Row) → slice_get rows (length lines) ≡ found → IsFault program rows entry lines (option_map (λ (row : Row). row.number) found)
      by None h = (none, omega (arith, short, no_row rows (length lines) h))
      by (Some row) h = λ text is.
          let found = row_at rows (length lines) row h in
          bad_behind (program_of program) text rows lines entry is read.first read.behind.first row read.longest none found.0 found.1

pub number_mapped : {A : Type 0} (f : A → Row) (xs : List A) (k n : ℕ) → k ≡ n → option_map (λ x. (f x).number) (slice_get xs k) ≡ option_map (λ (row : Row). row.number) (slice_get (map f xs) n)
number_mapped {A = A} f xs k n e = at_same xs k ∙ ap (λ m. option_map (λ (row : Row). row.number) (slice_get (map f xs) m)) e
  where
    at_same : (xs : List A) (k : ℕ) → option_map (λ x. (f x).number) (slice_get xs k) ≡ option_map (λ (row : Row). row.number) (slice_get (map f xs) k)
    at_same [] k = refl
    at_same (x ∷ xs) zero = refl
    at_same (x ∷ xs) (suc k) = at_same xs k

pub mapped_length : {A B : Type 0} (f : A → B) (xs : List A) → length xs ≡ length (map f xs)
mapped_length f [] = refl
mapped_length f (x ∷ xs) = ap suc (mapped_length f xs)

-- ---- answers

pub answer_bad : (program : typed.Program) (rows : List Row) (entry : ℕ) (lines : List Line) (number : ℕ) (stop : NoSpecification) → IsFault program rows entry lines (Some number) → stop ≡ none.Line (line_number number) → AnswersRows program rows (Err stop)
answer_bad program rows entry lines number stop fault e text is =
    subst (λ s. IsSpecificationAnswer program text (Err s)) (sym e) (number, fault text is, refl)

pub answer_said : (program : typed.Program) (rows : List Row) (entry : ℕ) (lines : List Line) (state : State) (it : Specification) → AreRead program rows entry lines state → IsFault program rows entry lines None
    → specification_of program it ≡ specification_in (scope_behind (program_of program) rows entry lines) entry lines → AnswersRows program rows (Ok it)
answer_said program rows entry lines state it read fault says text is =
    all_say (program_of program) text rows lines entry is read.first read.behind.first (specification_of program it) fault.1 fault.0 says

-- ---- the answers of a file with no rows, or whose first row names no entry

pub answer_none : (program : typed.Program) (text : List ℕ) (rows : List Row) (stop : NoSpecification) → rows ≡ rows_of text → rows ≡ [] → stop ≡ none.Line (line_number (suc (count_of_lines text))) → IsSpecificationAnswer program text (Err stop)
answer_none program text rows stop is empty e =
    subst (λ s. IsSpecificationAnswer program text (Err s)) (sym e) (suc (count_of_lines text), bad_none (program_of program) text rows is empty, refl)

pub answer_first : (program : typed.Program) (text : List ℕ) (rows : List Row) (row : Row) (rest : List Row) (stop : NoSpecification) → rows ≡ rows_of text → rows ≡ row ∷ rest → IsNext (program_of program) rows [] row.words None → stop ≡ none.Line (line_number row.number) → IsSpecificationAnswer program text (Err stop)
answer_first program text rows row rest stop is first next e =
    subst (λ s. IsSpecificationAnswer program text (Err s)) (sym e)
    (row.number, bad_first (program_of program) text row rest (sym first ∙ is) (subst (λ r. IsNext (program_of program) r [] row.words None) first next), refl)

pub first_row : {A : Type 0} (f : A → Row) (xs : List A) (x : A) → slice_get xs 0 ≡ Some x → (rest : List Row) × (map f xs ≡ f x ∷ rest)
first_row f [] x h = absurd (cc)
first_row f (y ∷ xs) x h = let same : y ≡ x = cc in (map f xs, ap (λ z. f z ∷ map f xs) same)

pub no_rows : {A : Type 0} (f : A → Row) (xs : List A) → slice_get xs 0 ≡ None → map f xs ≡ []
no_rows f [] h = refl
no_rows f (y ∷ xs) h = absurd (cc)

-- the answer of a file, where the program is held elsewhere
pub answer_moved : (one other : typed.Program) (rows : List Row) (text : List ℕ) (it : Result Specification NoSpecification) → one ≡ other → rows ≡ rows_of text → AnswersRows one rows it → IsSpecificationAnswer other text it
answer_moved one other rows text it same is answers = subst (λ p. IsSpecificationAnswer p text it) same (answers text is)

-- the line of the first row, where it is the next
pub one_first : (program : Program) (rows rest : List Row) (row : Row) (line : Line) → rows ≡ row ∷ rest → IsNext program rows [] row.words (Some line) → AreFirst program rows (line ∷ [])
one_first program rows rest row line are next = first_more program rows [] 0 row row.words line (none_first program rows) refl (rw are (omega arith)) (rw are refl) refl next
