-- Words that the command takes ask for something.
use Rattle.std.proofs.Common.{◌≡◌, ◌∙◌, ◌&&◌, ◌||◌, ℕ, Bool, cond, true, false, not, refl, sym, ap, subst, List, [], ◌∷◌, ◌++◌, Option, Some, None, Decides, true≢false, codes}
use Rattle.std.specs.Prelude.{⊤, IfSome, IsSome, is_some, find, fold, slice_get, option_and_then, option_map}
use Rattle.std.specs.List.{list_any}
use Rattle.std.specs.Option.{option_map_or}
use Rattle.std.specs.Str.{bytes_eq}
use Rattle.std.proofs.lemmas.Slice.Eq.{bytes_eq-Decides}
use Rattle.clap.specs.Lexer.{long_of, short_of}
use Rattle.clap.specs.Words.{App, Row, Rule, Text, fault_of, first_of, subcommand_of, built}
use Rattle.clap.specs.Facts.{explicit_source}
use Rattle.clap.specs.ValueTests.{is_unsigned_in}
use Rattle.clap.specs.Kinds.{check_kinds, or_else}
use Rattle.clap.specs.Takes.{is_given, value_passes}
use Rattle.clap.specs.Walk as step
use Rattle.clap.specs.Walk.{arg_by_index, Outcome, Step, Waiting, after_flag, after_step, idle, long_or_other, option, plain_word, positional, short_or_plain, subcommand_met, subcommand_or_other, to_positional, walk_from, walked_from, word_met, Held, Names, Walk, answers_to, arg_by_id, default_rows, has_row, is_empty, more_values, nothing_held, reading_by, rows_after, stop_after, walk, walked, with_default, with_values}
use Rattle.clap.specs.Simple.{Shape, built_leaf, help_shape, entered, inherited, marked_built, with_leaf_noted, label_of, names_of, rows_at}
use Rattle.clap.specs.declared.error.kind.ErrorKind.TheVariants.{DisplayHelp, InvalidSubcommand}
use Rattle.clap.specs.Faults.{other_fault, step_fault, turn_fault, word_fault, built_fault, entered_fault, level_fault, walk_fault}
use Rattle.clap.specs.declared.builder.value_parser.Reading.{Reading}
use Rattle.clap.specs.declared.parser.matches.ValueSource.{ValueSource}
use Rattle.clap.specs.declared.parser.matches.ValueSource.TheVariants.{DefaultValue}
use Rattle.clap.proofs.WalkLemmas.{both}
use Rattle.clap.proofs.SimpleLemmas.{is_nil}
use Rattle.std.proofs.lemmas.Bool.{or_right}
use Rattle.ice_flow_words.specs.Command.{command, most_number, most_rounds, most_workers, build_command, back_command, play_net_command, play_bits_command, time_command, sample_command}
use Rattle.ice_flow_words.specs.Reading.{◌>>=◌, asked_in, asked_of, build_of, back_of, play_net_of, play_bits_of, time_of, sample_of, workers_of, number_in, number_of, is_taken, request_of}
use Rattle.ice_flow_words.proofs.Kept.{Each, Good, IsFilled, IsKnown, is_once, Passes, all_good, passes, found_in, no_fault, no_kind}

-- ---- the rows that are there

found_row : (id : Text) (rows : List Row) → has_row id rows ≡ true → IsSome (find (λ r. bytes_eq r.id id) rows)
found_row id [] e = absurd (true≢false (sym e))
found_row id (r ∷ rs) e = go (bytes_eq r.id id) (found_row id rs) e
  where
    go : (b : Bool) → (has_row id rs ≡ true → IsSome (find (λ r. bytes_eq r.id id) rs)) → (b || has_row id rs) ≡ true → IsSome (cond b (Some r) (find (λ r. bytes_eq r.id id) rs))
    go true later e = refl
    go false later e = later e

given_row : (id : Text) (rows : List Row) → is_given id rows ≡ true → IsSome (find (λ r. bytes_eq r.id id) rows)
given_row id rows e = go (find (λ r. bytes_eq r.id id) rows) e
  where
    go : (o : Option Row) → option_map_or (λ r. explicit_source r.source) o false ≡ true → IsSome o
    go (Some r) e = refl
    go None e = absurd (true≢false (sym e))

found_passes : {A : Type 0} (test : A → Bool) (xs : List A) (x : A) → find test xs ≡ Some x → test x ≡ true
found_passes test [] x e = absurd (true≢false (sym (ap is_some e)))
found_passes test (y ∷ ys) x e = go (test y) refl (found_passes test ys x) e
  where
    go : (b : Bool) → test y ≡ b → (find test ys ≡ Some x → test x ≡ true) → cond b (Some y) (find test ys) ≡ Some x → test x ≡ true
    go true here later e = subst (λ o. IfSome o (λ z. test z ≡ true)) e here
    go false here later e = later e

same_id : (a b : Text) → bytes_eq a b ≡ true → a ≡ b
same_id a b e = go (bytes_eq a b) (bytes_eq-Decides a b) e
  where
    go : (t : Bool) → Decides t (a ≡ b) → t ≡ true → a ≡ b
    go true d e = d.0 refl
    go false d e = absurd (true≢false (sym e))

-- an argument has a first value, which passes
abbrev pub IsThere : Rule → Text → List Row → Type 0
IsThere a id rows = (v : Text) × (first_of id rows ≡ Some v) × (value_passes a v ≡ true)

first_there : (c : List Rule) (a : Rule) (id : Text) (rows : List Row) → arg_by_id c id ≡ Some a → Each (Good c) rows → IsSome (find (λ r. bytes_eq r.id id) rows) → IsThere a id rows
first_there c a id rows first good there = go (find (λ r. bytes_eq r.id id) rows) refl there
  where
    value : (values : List Text) → IsFilled a values → (v : Text) × (slice_get values 0 ≡ Some v) × (value_passes a v ≡ true)
    value [] filled = absurd (true≢false (sym filled.some))
    value (v ∷ vs) filled = (v, refl, (both _ _ filled.pass).0)

    go : (o : Option Row) → find (λ r. bytes_eq r.id id) rows ≡ o → IsSome o → (v : Text) × (option_and_then (λ r. slice_get r.values 0) o ≡ Some v) × (value_passes a v ≡ true)
    go None e none = absurd (true≢false (sym none))
    go (Some r) e some =
        let known : arg_by_id c r.id ≡ Some a = ap (arg_by_id c) (same_id r.id id (found_passes _ rows r e)) ∙ first in
        value r.values (subst (λ o. IfSome o (λ b. IsFilled b r.values)) known (found_in (Good c) _ rows r good e))

-- ---- defaults

or_later : (a b c : Bool) → (b ≡ true → c ≡ true) → (a || b) ≡ true → (a || c) ≡ true
or_later true b c later e = refl
or_later false b c later e = later e

at_row_has : (id other : Text) (how : Reading) (source : ValueSource) (values : List Text) (rows : List Row) → has_row id rows ≡ true → has_row id (with_values other how source values rows) ≡ true
at_row_has id other how source values [] e = absurd (true≢false (sym e))
at_row_has id other how source values (r ∷ rs) e = go (bytes_eq r.id other) (at_row_has id other how source values rs)
  where
    go : (b : Bool) → (has_row id rs ≡ true → has_row id (with_values other how source values rs) ≡ true)
        → has_row id (cond b (more_values source values r ++ rs) (r ∷ with_values other how source values rs)) ≡ true
    go true later = e
    go false later = or_later (bytes_eq r.id id) (has_row id rs) (has_row id (with_values other how source values rs)) later e

is_itself : (id : Text) → bytes_eq id id ≡ true
is_itself id = go (bytes_eq id id) (bytes_eq-Decides id id)
  where
    go : (t : Bool) → Decides t (id ≡ id) → t ≡ true
    go true d = refl
    go false d = d.1 refl

row_added : (id : Text) (how : Reading) (source : ValueSource) (values : List Text) (rows : List Row) → has_row id (with_values id how source values rows) ≡ true
row_added id how source values [] = rw (is_itself id) refl
row_added id how source values (r ∷ rs) = go (bytes_eq r.id id) refl (row_added id how source values rs)
  where
    go : (b : Bool) → bytes_eq r.id id ≡ b → has_row id (with_values id how source values rs) ≡ true
        → has_row id (cond b (more_values source values r ++ rs) (r ∷ with_values id how source values rs)) ≡ true
    go true e later = rw e refl
    go false e later = or_right (bytes_eq r.id id) (has_row id (with_values id how source values rs)) later

default_keeps_row : (id : Text) (rows : List Row) (a : Rule) → has_row id rows ≡ true → has_row id (with_default rows a) ≡ true
default_keeps_row id rows a e = go (has_row a.id rows) a.defaults
  where
    go : (b : Bool) (values : List Text) → has_row id (cond b rows (default_rows a.id (reading_by a) values rows)) ≡ true
    go true values = e
    go false [] = e
    go false (v ∷ vs) = at_row_has id a.id (reading_by a) DefaultValue (v ∷ vs) rows e

defaults_keep_row : (id : Text) (xs : List Rule) (rows : List Row) → has_row id rows ≡ true → has_row id (fold with_default rows xs) ≡ true
defaults_keep_row id [] rows e = e
defaults_keep_row id (a ∷ xs) rows e = defaults_keep_row id xs (with_default rows a) (default_keeps_row id rows a e)

default_gives : (rows : List Row) (a : Rule) → is_empty a.defaults ≡ false → has_row a.id (with_default rows a) ≡ true
default_gives rows a some = go (has_row a.id rows) refl a.defaults some
  where
    go : (b : Bool) → has_row a.id rows ≡ b → (values : List Text) → is_empty values ≡ false → has_row a.id (cond b rows (default_rows a.id (reading_by a) values rows)) ≡ true
    go true e values some = e
    go false e [] some = absurd (true≢false some)
    go false e (v ∷ vs) some = row_added a.id (reading_by a) DefaultValue (v ∷ vs) rows

-- an argument with a usual value has a row
usual_row : (id : Text) (a : Rule) (xs : List Rule) (rows : List Row) → arg_by_id xs id ≡ Some a → is_empty a.defaults ≡ false → has_row id (fold with_default rows xs) ≡ true
usual_row id a [] rows e some = absurd (true≢false (sym (ap is_some e)))
usual_row id a (x ∷ xs) rows e some = go (bytes_eq x.id id) refl (usual_row id a xs (with_default rows x)) e
  where
    go : (b : Bool) → bytes_eq x.id id ≡ b → (arg_by_id xs id ≡ Some a → is_empty a.defaults ≡ false → has_row id (fold with_default (with_default rows x) xs) ≡ true)
        → cond b (Some x) (arg_by_id xs id) ≡ Some a → has_row id (fold with_default (with_default rows x) xs) ≡ true
    go true is later e =
        let given : is_empty x.defaults ≡ false = subst (λ (o : Option Rule). IfSome o (λ b. is_empty b.defaults ≡ false)) (sym e) some in
        defaults_keep_row id xs (with_default rows x) (subst (λ i. has_row i (with_default rows x) ≡ true) (same_id x.id id is) (default_gives rows x given))
    go false is later e = later e some

-- ---- one subcommand

no_check : (x y z : Bool) → check_kinds x y z ≡ [] → (y ≡ false) × (z ≡ false)
no_check true y z e = no_kind _ _ e
no_check false true z e = no_kind _ _ e
no_check false false true e = no_kind _ _ e
no_check false false false e = (refl, refl)

none_in : {A : Type 0} (bad test : A → Bool) (xs : List A) (x : A) → list_any bad xs ≡ false → find test xs ≡ Some x → bad x ≡ false
none_in bad test [] x none e = absurd (true≢false (sym (ap is_some e)))
none_in bad test (y ∷ ys) x none e = go (bad y) (test y) refl (none_in bad test ys x) none e
  where
    go : (b t : Bool) → bad y ≡ b → (list_any bad ys ≡ false → find test ys ≡ Some x → bad x ≡ false) → (b || list_any bad ys) ≡ false → cond t (Some y) (find test ys) ≡ Some x → bad x ≡ false
    go true t is later none e = absurd (true≢false none)
    go false true is later none e = subst (λ o. IfSome o (λ z. bad z ≡ false)) e is
    go false false is later none e = later none e

was_given : (required given : Bool) → required ≡ true → (required && not given) ≡ false → given ≡ true
was_given true true r e = refl
was_given true false r e = absurd (true≢false e)
was_given false given r e = absurd (true≢false (sym r))

module _ (s : Shape) (known : Each (IsKnown s.rules) s.rules) (needs : s.subcommand_negates_reqs ≡ false) (words : List Text) (p : Passes s [] words false []) where
  abbrev found : List Row
  found = rows_after s.rules [] words

  good : Each (Good s.rules) found
  good = all_good s [] words false [] known p

  -- a word that has to be given is there
  word_there : (id : Text) (a : Rule) → arg_by_id s.rules id ≡ Some a → a.required ≡ true → IsThere a id found
  word_there id a first required =
      let none : (not (s.subcommand_negates_reqs && false) && list_any (λ a. a.required && not (is_given a.id found)) s.rules) ≡ false = (no_check _ _ _ p.checks).1 in
      let none_lacks : list_any (λ a. a.required && not (is_given a.id found)) s.rules ≡ false =
      subst (λ b. (not (b && false) && list_any (λ a. a.required && not (is_given a.id found)) s.rules) ≡ false) needs none in
      let given : is_given a.id found ≡ true = was_given a.required (is_given a.id found) required (none_in (λ a. a.required && not (is_given a.id found)) _ s.rules a none_lacks first) in
      let same : a.id ≡ id = same_id a.id id (found_passes _ s.rules a first) in
      first_there s.rules a id found first good (given_row id found (subst (λ i. is_given i found ≡ true) same given))

  -- an option that has a usual value is there
  usual_there : (id : Text) (a : Rule) → arg_by_id s.rules id ≡ Some a → is_empty a.defaults ≡ false → IsThere a id found
  usual_there id a first some = first_there s.rules a id found first good (found_row id found (usual_row id a s.rules _ first some))

  word_at : (id : Text) → option_map_or (λ a. a.required) (arg_by_id s.rules id) false ≡ true → IsSome (first_of id found)
  word_at id required = go (arg_by_id s.rules id) refl required
    where
      go : (o : Option Rule) → arg_by_id s.rules id ≡ o → option_map_or (λ a. a.required) o false ≡ true → IsSome (first_of id found)
      go None first required = absurd (true≢false (sym required))
      go (Some a) first required = ap is_some (word_there id a first required).1

  -- where the values of an argument are numbers, one is there
  number_at : (id : Text) (least most : ℕ) → option_map_or (λ a. a.required || not (is_empty a.defaults)) (arg_by_id s.rules id) false ≡ true
      → IfSome (arg_by_id s.rules id) (λ a. (v : Text) → value_passes a v ≡ true → is_unsigned_in least most v ≡ true) → IsSome (number_of id least most found)
  number_at id least most given reads = go (arg_by_id s.rules id) refl given reads
    where
      read : (a : Rule) → ((v : Text) → value_passes a v ≡ true → is_unsigned_in least most v ≡ true) → IsThere a id found → IsSome (number_of id least most found)
      read a reads h =
          let number : IsSome (number_in least most h.0) = rw (reads h.0 h.2) refl in
          subst (λ o. IsSome (o >>= number_in least most)) (sym h.1) number

      there : (a : Rule) → arg_by_id s.rules id ≡ Some a → (required usual : Bool) → a.required ≡ required → is_empty a.defaults ≡ usual → (required || not usual) ≡ true → IsThere a id found
      there a first true usual required none given = word_there id a first required
      there a first false true required none given = absurd (true≢false (sym given))
      there a first false false required none given = usual_there id a first none

      go : (o : Option Rule) → arg_by_id s.rules id ≡ o → option_map_or (λ a. a.required || not (is_empty a.defaults)) o false ≡ true
          → IfSome o (λ a. (v : Text) → value_passes a v ≡ true → is_unsigned_in least most v ≡ true) → IsSome (number_of id least most found)
      go None first given reads = absurd (true≢false (sym given))
      go (Some a) first given reads = read a reads (there a first a.required (is_empty a.defaults) refl refl given)

then_some : {X Y : Type 0} (o : Option X) (f : X → Option Y) → IsSome o → ((x : X) → IsSome (f x)) → IsSome (o >>= f)
then_some (Some x) f some later = later x
then_some None f some later = absurd (true≢false (sym some))

-- ---- each subcommand

-- the subcommand as `clap` builds it
abbrev leaf : Shape → Shape
leaf s = built_leaf (inherited (with_leaf_noted (marked_built command.top)) s)

-- words that the subcommand takes ask for something
abbrev pub IsProvided : Shape → Type 0
IsProvided s = (name : Text) (words : List Text) → bytes_eq name (codes "help") ≡ false → answers_to name (label_of s) ≡ true → level_fault s [] nothing_held words false [] ≡ []
    → IsSome (asked_of s.name (rows_after s.rules [] words))

k : {c : List Rule} {a : Rule} → arg_by_id c a.id ≡ Some a → is_once a ≡ true → IsKnown c a
k first once = record { first = first; once = once }

module _ (rows : List Row) where
  build_asked : IsSome (first_of (codes "CHIP") rows) → IsSome (first_of (codes "PACKAGE") rows) → IsSome (first_of (codes "PCF") rows) → IsSome (first_of (codes "BLIF") rows)
      → IsSome (first_of (codes "ASC") rows) → IsSome (number_of (codes "seed") 0 most_number rows) → IsSome (number_of (codes "rounds") 1 most_rounds rows) → IsSome (workers_of rows)
      → IsSome (number_of (codes "opening") 0 1 rows) → IsSome (asked_of (codes "build") rows)
  build_asked chip name pcf blif asc seed rounds workers opening = then_some (build_of rows) _ (then_some (first_of (codes "CHIP") rows) _ chip
      (λ _. then_some (first_of (codes "PACKAGE") rows) _ name (λ _. then_some (first_of (codes "PCF") rows) _ pcf (λ _. then_some (first_of (codes "BLIF") rows) _ blif
      (λ _. then_some (first_of (codes "ASC") rows) _ asc (λ _. then_some (number_of (codes "seed") 0 most_number rows) _ seed
      (λ _. then_some (number_of (codes "rounds") 1 most_rounds rows) _ rounds (λ _. then_some (workers_of rows) _ workers
      (λ _. then_some (number_of (codes "opening") 0 1 rows) _ opening (λ _. refl)))))))))) (λ _. refl)

  back_asked : IsSome (first_of (codes "CHIP") rows) → IsSome (first_of (codes "PACKAGE") rows) → IsSome (first_of (codes "ASC") rows) → IsSome (first_of (codes "BLIF") rows)
      → IsSome (asked_of (codes "back") rows)
  back_asked chip name asc blif = then_some (back_of rows) _ (then_some (first_of (codes "CHIP") rows) _ chip (λ _. then_some (first_of (codes "PACKAGE") rows) _ name
      (λ _. then_some (first_of (codes "ASC") rows) _ asc (λ _. then_some (first_of (codes "BLIF") rows) _ blif (λ _. refl))))) (λ _. refl)

  play_net_asked : IsSome (first_of (codes "BLIF") rows) → IsSome (first_of (codes "LEVELS") rows) → IsSome (asked_of (codes "play-net") rows)
  play_net_asked blif levels = then_some (play_net_of rows) _ (then_some (first_of (codes "BLIF") rows) _ blif (λ _. then_some (first_of (codes "LEVELS") rows) _ levels (λ _. refl))) (λ _. refl)

  play_bits_asked : IsSome (first_of (codes "CHIP") rows) → IsSome (first_of (codes "PACKAGE") rows) → IsSome (first_of (codes "ASC") rows) → IsSome (first_of (codes "LEVELS") rows)
      → IsSome (asked_of (codes "play-bits") rows)
  play_bits_asked chip name asc levels = then_some (play_bits_of rows) _ (then_some (first_of (codes "CHIP") rows) _ chip (λ _. then_some (first_of (codes "PACKAGE") rows) _ name
      (λ _. then_some (first_of (codes "ASC") rows) _ asc (λ _. then_some (first_of (codes "LEVELS") rows) _ levels (λ _. refl))))) (λ _. refl)

  time_asked : IsSome (first_of (codes "CHIP") rows) → IsSome (first_of (codes "PACKAGE") rows) → IsSome (first_of (codes "ASC") rows) → IsSome (first_of (codes "DELAYS") rows)
      → IsSome (asked_of (codes "time") rows)
  time_asked chip name asc delays = then_some (time_of rows) _ (then_some (first_of (codes "CHIP") rows) _ chip (λ _. then_some (first_of (codes "PACKAGE") rows) _ name
      (λ _. then_some (first_of (codes "ASC") rows) _ asc (λ _. then_some (first_of (codes "DELAYS") rows) _ delays (λ _. refl))))) (λ _. refl)

  sample_asked : IsSome (number_of (codes "NUMBER") 0 most_number rows) → IsSome (workers_of rows) → IsSome (asked_of (codes "sample") rows)
  sample_asked number workers = then_some (sample_of rows) _ (then_some (number_of (codes "NUMBER") 0 most_number rows) _ number (λ _. then_some (workers_of rows) _ workers (λ _. refl))) (λ _. refl)

build_provided : IsProvided (leaf build_command)
build_provided name words other is e =
    let known : Each (IsKnown (leaf build_command).rules) (leaf build_command).rules = (k refl refl, (k refl refl, (k refl refl, (k refl refl, (k refl refl, (k refl refl, (k refl refl, (k refl refl, (k refl refl, (k refl refl, (k refl refl, (k refl refl, tt)))))))))))) in
    let p = passes (leaf build_command) [] words false [] e in
    let word = word_at (leaf build_command) known refl words p in
    let number = number_at (leaf build_command) known refl words p in
    build_asked (rows_after (leaf build_command).rules [] words) (word (codes "CHIP") refl) (word (codes "PACKAGE") refl) (word (codes "PCF") refl) (word (codes "BLIF") refl)
    (word (codes "ASC") refl) (number (codes "seed") 0 most_number refl (λ v h. h)) (number (codes "rounds") 1 most_rounds refl (λ v h. h)) (number (codes "workers") 1 most_workers refl (λ v h. h)) (number (codes "opening") 0 1 refl (λ v h. h))

back_provided : IsProvided (leaf back_command)
back_provided name words other is e =
    let word = word_at (leaf back_command) (k refl refl, (k refl refl, (k refl refl, (k refl refl, (k refl refl, tt))))) refl words (passes (leaf back_command) [] words false [] e) in
    back_asked (rows_after (leaf back_command).rules [] words) (word (codes "CHIP") refl) (word (codes "PACKAGE") refl) (word (codes "ASC") refl) (word (codes "BLIF") refl)

play_net_provided : IsProvided (leaf play_net_command)
play_net_provided name words other is e =
    let word = word_at (leaf play_net_command) (k refl refl, (k refl refl, (k refl refl, tt))) refl words (passes (leaf play_net_command) [] words false [] e) in
    play_net_asked (rows_after (leaf play_net_command).rules [] words) (word (codes "BLIF") refl) (word (codes "LEVELS") refl)

play_bits_provided : IsProvided (leaf play_bits_command)
play_bits_provided name words other is e =
    let word = word_at (leaf play_bits_command) (k refl refl, (k refl refl, (k refl refl, (k refl refl, (k refl refl, tt))))) refl words (passes (leaf play_bits_command) [] words false [] e) in
    play_bits_asked (rows_after (leaf play_bits_command).rules [] words) (word (codes "CHIP") refl) (word (codes "PACKAGE") refl) (word (codes "ASC") refl) (word (codes "LEVELS") refl)

time_provided : IsProvided (leaf time_command)
time_provided name words other is e =
    let word = word_at (leaf time_command) (k refl refl, (k refl refl, (k refl refl, (k refl refl, (k refl refl, tt))))) refl words (passes (leaf time_command) [] words false [] e) in
    time_asked (rows_after (leaf time_command).rules [] words) (word (codes "CHIP") refl) (word (codes "PACKAGE") refl) (word (codes "ASC") refl) (word (codes "DELAYS") refl)

sample_provided : IsProvided (leaf sample_command)
sample_provided name words other is e =
    let number = number_at (leaf sample_command) (k refl refl, (k refl refl, (k refl refl, tt))) refl words (passes (leaf sample_command) [] words false [] e) in
    sample_asked (rows_after (leaf sample_command).rules [] words) (number (codes "NUMBER") 0 most_number refl (λ v h. h)) (number (codes "workers") 1 most_workers refl (λ v h. h))

help_provided : IsProvided (built_leaf help_shape)
help_provided name words other is e = go (bytes_eq (codes "help") name) (bytes_eq-Decides (codes "help") name) is
  where
    go : (b : Bool) → Decides b (codes "help" ≡ name) → (b || false) ≡ true → IsSome (asked_of (codes "help") (rows_after (built_leaf help_shape).rules [] words))
    go true d h = absurd (true≢false (sym (is_itself (codes "help")) ∙ ap (λ n. bytes_eq n (codes "help")) (d.0 refl) ∙ other))
    go false d h = absurd (true≢false (sym h))

all_provided : Each IsProvided (built command).subs
all_provided = (build_provided, (back_provided, (play_net_provided, (play_bits_provided, (time_provided, (sample_provided, (help_provided, tt)))))))

-- ---- the command

-- the subcommand at which a walk stops is no call for help
abbrev NotHelp : Option (Text × List Text) → Type 0
NotHelp o = IfSome o (λ p. bytes_eq p.0 (codes "help") ≡ false)

abbrev IsNoHelp : Step → Type 0
IsNoHelp (step.subcommand name) = bytes_eq name (codes "help") ≡ false
IsNoHelp _ = ⊤

plain_no_help : (c : List Rule) (waiting : Waiting) (word : Text) (h : Held) → IsNoHelp (plain_word c waiting word h).1
plain_no_help c (option id) word h = tt
plain_no_help c idle word h = tt
plain_no_help c positional word h = tt

flag_no_help : (c : List Rule) (waiting : Waiting) (word : Text) (h : Held) (o : Outcome) → IsNoHelp (after_flag c waiting word h o).1
flag_no_help c waiting word h step.done = tt
flag_no_help c waiting word h (step.waits id) = tt
flag_no_help c waiting word h step.plain = plain_no_help c waiting word h
flag_no_help c waiting word h step.refused = plain_no_help c waiting word h

other_no_help : (c : List Rule) (waiting : Waiting) (word : Text) (h : Held) (o : Option (Text × Option Text)) → IsNoHelp (long_or_other c waiting word o h).1
other_no_help c waiting word h (Some p) = flag_no_help c waiting word _ _
other_no_help c waiting word h None = go (short_of word)
  where
    go : (o : Option Text) → IsNoHelp (short_or_plain c waiting word o h).1
    go (Some flags) = flag_no_help c waiting word _ _
    go None = plain_no_help c waiting word h

module _ (s : Shape) (helps : s.disable_help_subcommand ≡ false) (names : Names) where
  met_no_help : (is_trailing : Bool) (waiting : Waiting) (position : ℕ) (word : Text) (h : Held) → word_fault s names is_trailing waiting word h ≡ []
      → IsNoHelp (word_met s.rules names is_trailing waiting position word h).1
  met_no_help true waiting position word h e = tt
  met_no_help false waiting position word h e = go (subcommand_met names waiting word) e
    where
      plain : (b : Bool) → IsNoHelp (cond b (h, step.trailing position) (long_or_other s.rules waiting word (long_of word) h)).1
      plain true = tt
      plain false = other_no_help s.rules waiting word h (long_of word)

      named : (b off : Bool) → off ≡ false → cond (b && not off) (DisplayHelp ∷ InvalidSubcommand ∷ []) [] ≡ [] → b ≡ false
      named true true no_off e = absurd (true≢false no_off)
      named true false no_off e = no_kind _ _ e
      named false off no_off e = refl

      go : (o : Option Text) → other_fault s o word h ≡ [] → IsNoHelp (subcommand_or_other s.rules o waiting position word h).1
      go (Some name) e = named (bytes_eq name (codes "help")) s.disable_help_subcommand helps e
      go None e = plain (bytes_eq word (45 ∷ 45 ∷ []))

  walked_no_help : (w : Walk) (word : Text) → turn_fault s names w word ≡ [] → NotHelp w.stopped → NotHelp (walked s.rules names w word).stopped
  unfolding walked
  walked_no_help w word e so_far = go w.stopped so_far e
    where
      met : Held × Step
      met = word_met s.rules names w.is_trailing w.waiting w.position word w.held

      to : (o : Option Rule) (h : Held) → NotHelp (to_positional s.rules o word w h).stopped
      to None h = so_far
      to (Some a) h = tt

      after : (h : Held) (next : Step) → IsNoHelp next → NotHelp (after_step s.rules word w h next).stopped
      after h (step.next waiting) no_help = so_far
      after h (step.trailing position) no_help = so_far
      after h (step.subcommand name) no_help = no_help
      after h step.value no_help = to (arg_by_index s.rules w.position) h

      go : (o : Option (Text × List Text)) → NotHelp o → cond (is_some o) [] (or_else (word_fault s names w.is_trailing w.waiting word w.held) (step_fault s w.position met.0 met.1)) ≡ []
          → NotHelp (walked_from s.rules names o w word).stopped
      go (Some p) here e = here
      go None here e = after met.0 met.1 (met_no_help w.is_trailing w.waiting w.position word w.held (no_fault _ _ e).0)

  walk_no_help : (words : List Text) (w : Walk) → walk_fault s names w words ≡ [] → NotHelp w.stopped → NotHelp (fold (walked s.rules names) w words).stopped
  unfolding walk_fault
  walk_no_help [] w e so_far = so_far
  walk_no_help (word ∷ words) w e so_far =
      let parts = no_fault _ _ e in
      walk_no_help words (walked s.rules names w word) parts.1 (walked_no_help w word parts.0 so_far)

module _ (a : App) (helps : a.top.disable_help_subcommand ≡ false) (wants : a.top.subcommand_required ≡ true) (each : Each IsProvided a.subs) where
  entered_asks : (stop : Option (Text × List Text)) → NotHelp stop → entered_fault a stop ≡ [] → is_some (entered a stop) ≡ true → IsSome (asked_in (entered a stop))
  entered_asks None no_help below some = absurd (true≢false (sym some))
  entered_asks (Some p) no_help below some = go (find (λ s. answers_to p.0 (label_of s)) a.subs) refl below some
    where
      go : (o : Option Shape) → find (λ s. answers_to p.0 (label_of s)) a.subs ≡ o → option_map_or (λ s. level_fault s [] nothing_held p.1 false []) o [] ≡ []
          → is_some (option_map (λ s. rows_at s p.1) o) ≡ true → IsSome (asked_in (option_map (λ s. rows_at s p.1) o))
      go None is below some = absurd (true≢false (sym some))
      go (Some s) is below some =
          found_in IsProvided (λ s. answers_to p.0 (label_of s)) a.subs s each is p.0 p.1 no_help (found_passes (λ s. answers_to p.0 (label_of s)) a.subs s is) below

  was_met : (has wanted : Bool) → wanted ≡ true → (not has && wanted) ≡ false → has ≡ true
  was_met true wanted w e = refl
  was_met false wanted w e = absurd (true≢false (sym w ∙ e))

  words_ask : (words : List Text) → built_fault a nothing_held words ≡ [] → IsSome (asked_in (entered a (stop_after a.top.rules (names_of a) words)))
  words_ask words e =
      let stop : Option (Text × List Text) = stop_after a.top.rules (names_of a) words in
      let p = passes a.top (names_of a) words (is_some (entered a stop)) (entered_fault a stop) e in
      entered_asks stop (walk_no_help a.top helps (names_of a) words (walk_from nothing_held) p.walks tt) p.enters
      (was_met (is_some (entered a stop)) a.top.subcommand_required wants (no_check _ _ _ p.checks).0)

-- words ask for something exactly where the command takes them
pub something_asked : (words : List Text) → is_taken words ≡ true → IsSome (asked_in (subcommand_of command words))
something_asked words e = words_ask (built command) refl refl all_provided words (is_nil (fault_of command words) e)

pub asked_if_taken : (words : List Text) → is_some (request_of words) ≡ is_taken words
asked_if_taken words = go (is_taken words) refl
  where
    go : (b : Bool) → is_taken words ≡ b → is_some (cond b (asked_in (subcommand_of command words)) None) ≡ b
    go true e = something_asked words e
    go false e = refl

-- what was found in words that the command takes is a request
pub none_lost : (words : List Text) (found : Option (Text × List Row)) → (is_taken words ≡ true) × (found ≡ subcommand_of command words) → None ≡ asked_in found → ⊥
none_lost words found taken lost =
    let some : IsSome (asked_in found) = subst (λ o. IsSome (asked_in o)) (sym taken.1) (something_asked words taken.0) in
    true≢false (sym some ∙ ap is_some (sym lost))
