-- What is found in words that a command takes: each argument that is found has a value, and its values pass.
use Rattle.std.proofs.Common.{◌≡◌, ◌∙◌, ◌&&◌, ◌||◌, ◌==◌, ℕ, Bool, cond, true, false, zero, suc, refl, sym, ap, subst, arith, Decides, eqb-true, ne_eqb, List, [], ◌∷◌, ◌++◌, length, drop, Option, Some, None, true≢false}
use Rattle.std.specs.Prelude.{⊤, IfSome, is_some, encode_utf8, find, fold, slice_get}
use Rattle.std.specs.Option.{option_map_or}
use Rattle.std.specs.Str.{bytes_eq, chars}
use Rattle.std.proofs.lemmas.Slice.Eq.{bytes_eq-Decides}
use Rattle.clap.specs.Lexer.{long_of, short_of}
use Rattle.clap.specs.Values.{is_request, refused_kind}
use Rattle.clap.specs.ValueTests.{accepts}
use Rattle.clap.specs.Facts.{parser_of_value, unwrap_or_range}
use Rattle.clap.specs.Takes.{value_passes, values_pass}
use Rattle.clap.specs.Kinds.{Kinds, or_else, range_kinds, request_kinds, value_kinds}
use Rattle.clap.specs.Walk as step
use Rattle.clap.specs.Walk.{walk, nothing_held, rows_after, walk_from, Held, Names, Outcome, Row, Rule, Step, Text, Waiting, Walk, action_of, after_flag, after_step, arg_by_id, arg_by_index, arg_by_long, arg_by_short, at_row, attached_value, bundle, bundle_met, bundle_step, default_rows, finished, flag_met, has_row, idle, is_empty, is_pending, long_met, long_or_other, more_values, most_values, option, option_met, option_word, plain_word, positional, positional_held, reacted, reading_by, settled, settled_rows, short_met, short_or_plain, subcommand_met, subcommand_or_other, takes_several, takes_values, to_positional, used, used_as, used_by_id, values_or_missing, walked, walked_from, with_default, with_values, without, word_met}
use Rattle.clap.specs.Simple.{Shape}
use Rattle.clap.specs.Faults.{action_fault, bundle_step_fault, bundle_fault, check_fault, default_fault, defaults_fault, flag_word_fault, flags_fault, given_default_fault, level_fault, long_fault, option_fault, other_fault, positional_fault, react_fault, settle_fault, short_fault, step_fault, stray_fault, turn_fault, use_fault, values_fault, walk_fault, word_fault}
use Rattle.clap.specs.declared.builder.action.ArgAction.{ArgAction}
use Rattle.clap.specs.declared.builder.action.ArgAction.TheVariants as action
use Rattle.clap.specs.declared.builder.range.ValueRange.{ValueRange}
use Rattle.clap.specs.declared.error.kind.ErrorKind.TheVariants.{TooManyValues}
use Rattle.clap.specs.declared.parser.matches.ValueSource.{ValueSource}
use Rattle.clap.specs.declared.parser.matches.ValueSource.TheVariants.{DefaultValue}
use Rattle.clap.specs.declared.builder.value_parser.Reading.{Reading}
use Rattle.clap.specs.declared.builder.value_parser.ValueParser.{ValueParser}
use Rattle.clap.proofs.WalkLemmas.{both}

-- each item of a list
abbrev pub Each : {A : Type 0} → (A → Type 0) → List A → Type 0
Each P [] = ⊤
Each P (x ∷ xs) = P x × Each P xs

each_append : {A : Type 0} (P : A → Type 0) (xs ys : List A) → Each P xs → Each P ys → Each P (xs ++ ys)
each_append P [] ys h more = more
each_append P (x ∷ xs) ys h more = (h.0, each_append P xs ys h.1 more)

pub found_in : {A : Type 0} (P : A → Type 0) (test : A → Bool) (xs : List A) (x : A) → Each P xs → find test xs ≡ Some x → P x
found_in P test [] x h e = absurd (true≢false (sym (ap is_some e)))
found_in P test (y ∷ ys) x h e = go (test y) (found_in P test ys x h.1) e
  where
    go : (b : Bool) → (find test ys ≡ Some x → P x) → cond b (Some y) (find test ys) ≡ Some x → P x
    go true later e = subst (λ o. IfSome o P) e h.0
    go false later e = later e

-- the same of what is found, where anything is
pub found_where : {A : Type 0} (P : A → Type 0) (test : A → Bool) (xs : List A) → Each P xs → IfSome (find test xs) P
found_where P test [] h = tt
found_where P test (y ∷ ys) h = go (test y) (found_where P test ys h.1)
  where
    go : (b : Bool) → IfSome (find test ys) P → IfSome (cond b (Some y) (find test ys)) P
    go true later = h.0
    go false later = later

-- ---- kinds of faults

pub no_kind : {A : Type 0} {X : Type 0} (x : X) (xs : List X) → x ∷ xs ≡ [] → A
no_kind x xs e = let bad : length (x ∷ xs) ≡ 0 = ap length e in absurd (omega arith)

pub no_fault : (a b : Kinds) → or_else a b ≡ [] → (a ≡ []) × (b ≡ [])
no_fault [] b e = (refl, e)
no_fault (k ∷ ks) b e = no_kind k ks e

value_taken : (ignore : Bool) (p : ValueParser) (v : Text) → value_kinds ignore p v ≡ [] → accepts ignore p v ≡ true
value_taken ignore p v e = go (accepts ignore p v) e
  where
    go : (b : Bool) → cond b [] (refused_kind p ∷ []) ≡ [] → b ≡ true
    go true e = refl
    go false e = no_kind _ _ e

values_taken : (a : Rule) (vs : List Text) → values_fault a vs ≡ [] → values_pass a vs ≡ true
values_taken a [] e = refl
values_taken a (v ∷ vs) e =
    let parts = no_fault _ _ e in
    rw (value_taken a.ignore_case (parser_of_value a.parser) v parts.0) (values_taken a vs parts.1)

-- ---- a row

-- the values are there, and pass
pub record IsFilled (a : Rule) (values : List Text) : Type 0 where
  pub some : is_some (slice_get values 0) ≡ true
  pub pass : values_pass a values ≡ true

-- the row's values are values of the argument with its id
abbrev pub Good : List Rule → Row → Type 0
Good c r = IfSome (arg_by_id c r.id) (λ a. IsFilled a r.values)

-- the argument takes one value, or asks for help
abbrev pub is_set : ArgAction → Bool
is_set action.Set = true
is_set _ = false

abbrev pub is_once_as : ArgAction → ValueRange → Bool
is_once_as x range = is_request x || (is_set x && (range.start_inclusive == 1 && range.end_inclusive == 1))

abbrev pub is_once : Rule → Bool
is_once a = is_once_as (action_of a) (unwrap_or_range a.range)

-- the argument is the first with its id, and is used at most once
pub record IsKnown (c : List Rule) (a : Rule) : Type 0 where
  pub first : arg_by_id c a.id ≡ Some a
  pub once : is_once a ≡ true

pass_append : (a : Rule) (xs ys : List Text) → values_pass a xs ≡ true → values_pass a ys ≡ true → values_pass a (xs ++ ys) ≡ true
pass_append a [] ys h more = more
pass_append a (x ∷ xs) ys h more =
    let parts = both (value_passes a x) (values_pass a xs) h in
    rw (parts.0) (pass_append a xs ys parts.1 more)

some_append : (xs ys : List Text) → is_some (slice_get xs 0) ≡ true → is_some (slice_get (xs ++ ys) 0) ≡ true
some_append [] ys h = absurd (true≢false (sym h))
some_append (x ∷ xs) ys h = refl

module _ (c : List Rule) where
  abbrev pub Rows : List Row → Type 0
  Rows = Each (Good c)

  same_id : (r : Row) (id : Text) → bytes_eq r.id id ≡ true → r.id ≡ id
  same_id r id e = go (bytes_eq r.id id) (bytes_eq-Decides r.id id) e
    where
      go : (b : Bool) → Decides b (r.id ≡ id) → b ≡ true → r.id ≡ id
      go true d e = d.0 refl
      go false d e = absurd (true≢false (sym e))

  at_row_keeps : (id : Text) (change : Row → List Row) (missing : List Row) → ((r : Row) → r.id ≡ id → Good c r → Rows (change r)) → Rows missing
      → (rows : List Row) → Rows rows → Rows (at_row id change missing rows)
  at_row_keeps id change missing changes lacks [] h = lacks
  at_row_keeps id change missing changes lacks (r ∷ rs) h = go (bytes_eq r.id id) refl (at_row_keeps id change missing changes lacks rs h.1)
    where
      go : (b : Bool) → bytes_eq r.id id ≡ b → Rows (at_row id change missing rs) → Rows (cond b (change r ++ rs) (r ∷ at_row id change missing rs))
      go true e rest = each_append (Good c) (change r) rs (changes r (same_id r id e) h.0) h.1
      go false e rest = (h.0, rest)

  without_keeps : (id : Text) (rows : List Row) → Rows rows → Rows (without id rows)
  without_keeps id = at_row_keeps id (λ _. []) [] (λ r e g. tt) tt

  -- values that pass, for an argument that is the first with its id
  with_values_keeps : (a : Rule) (how : Reading) (s : ValueSource) (values : List Text) → arg_by_id c a.id ≡ Some a → IsFilled a values
      → (rows : List Row) → Rows rows → Rows (with_values a.id how s values rows)
  with_values_keeps a how s values first filled = at_row_keeps a.id (more_values s values) _ changes ((rw first filled), tt)
    where
      changes : (r : Row) → r.id ≡ a.id → Good c r → Rows (more_values s values r)
      changes r e g =
          let found : arg_by_id c r.id ≡ Some a = ap (arg_by_id c) e ∙ first in
          let old : IsFilled a r.values = subst (λ o. IfSome o (λ b. IsFilled b r.values)) found g in
          let new : IsFilled a (r.values ++ values) = record { some = some_append r.values values old.some; pass = pass_append a r.values values old.pass filled.pass } in
          (rw found new, tt)

  -- ---- one use

  one_value : (values : List Text) → range_kinds 1 1 (length values) ≡ [] → is_some (slice_get values 0) ≡ true
  one_value [] e = no_kind _ _ e
  one_value (v ∷ vs) e = refl

  given_values : (a : Rule) (values : List Text) → is_some (slice_get values 0) ≡ true → values_or_missing a values ≡ values
  given_values a [] e = absurd (true≢false (sym e))
  given_values a (v ∷ vs) e = refl

  is_one : (n : ℕ) → (n == 1) ≡ true → n ≡ 1
  is_one n e = eqb-true n 1 e

  used_keeps : (again : Bool) (a : Rule) (values : List Text) (rows : List Row) → IsKnown c a → use_fault again a values rows ≡ [] → Rows rows → Rows (used a values rows)
  used_keeps again a values rows known e h = go (action_of a) (unwrap_or_range a.range) known.once parts.0 parts.1
    where
      parts : (range_kinds (unwrap_or_range a.range).start_inclusive (most_values a) (length values) ≡ []) × (action_fault (action_of a) again a (values_or_missing a values) rows ≡ [])
      parts = no_fault _ _ e

      taken : (range : ValueRange) → (range.start_inclusive == 1 && range.end_inclusive == 1) ≡ true → range_kinds range.start_inclusive range.end_inclusive (length values) ≡ []
          → values_fault a (values_or_missing a values) ≡ [] → IsFilled a (values_or_missing a values)
      taken range once within passes =
          let ends = both _ _ once in
          let some = one_value values (subst (λ n. range_kinds n 1 (length values) ≡ []) (is_one range.start_inclusive ends.0)
          (subst (λ n. range_kinds range.start_inclusive n (length values) ≡ []) (is_one range.end_inclusive ends.1) within)) in
          record { some = ap (λ (vs : List Text). is_some (slice_get vs 0)) (given_values a values some) ∙ some; pass = values_taken a _ passes }

      go : (x : ArgAction) (range : ValueRange) → is_once_as x range ≡ true → range_kinds range.start_inclusive range.end_inclusive (length values) ≡ []
          → action_fault x again a (values_or_missing a values) rows ≡ [] → Rows (used_as x a.id (reading_by a) (values_or_missing a values) rows)
      go action.Set range once within passes =
          let set = no_fault _ _ passes in
          with_values_keeps a _ _ _ known.first (taken range once within set.1) _ (without_keeps a.id rows h)
      go action.Append range once within passes = absurd (true≢false (sym once))
      go action.SetTrue range once within passes = absurd (true≢false (sym once))
      go action.SetFalse range once within passes = absurd (true≢false (sym once))
      go action.Count range once within passes = absurd (true≢false (sym once))
      go action.Help range once within passes = h
      go action.HelpShort range once within passes = h
      go action.HelpLong range once within passes = h
      go action.Version range once within passes = h

  -- ---- the walk

  module _ (known : Each (IsKnown c) c) (again : Bool) where
    settled_keeps : (h : Held) → settle_fault c again h ≡ [] → Rows h.rows → Rows (settled c h).rows
    settled_keeps h e rows = go h.pending e
      where
        inner : (values : List Text) (o : Option Rule) → IfSome o (IsKnown c) → option_map_or (λ a. use_fault again a values h.rows) o [] ≡ []
            → Rows (used_by_id o values h.rows)
        inner values None k e = rows
        inner values (Some a) k e = used_keeps again a values h.rows k e rows

        go : (p : Option (Text × List Text)) → option_map_or (λ p. option_map_or (λ a. use_fault again a p.1 h.rows) (arg_by_id c p.0) []) p [] ≡ []
            → Rows (settled_rows c p h.rows)
        go None e = rows
        go (Some p) e = inner p.1 (arg_by_id c p.0) (found_where (IsKnown c) (λ a. bytes_eq a.id p.0) c known) e

    reacted_keeps : (a : Rule) (values : List Text) (h : Held) → IsKnown c a → react_fault c again a values h ≡ [] → Rows h.rows → Rows (reacted c a values h).rows
    reacted_keeps a values h k e rows =
        let parts = no_fault _ _ e in
        used_keeps again a values (settled c h).rows k parts.1 (settled_keeps h parts.0 rows)

    option_keeps : (a : Rule) (v : Option Text) (h : Held) → IsKnown c a → option_fault c again a v h ≡ [] → Rows h.rows → Rows (option_met c a v h).0.rows
    option_keeps a (Some v) h k e rows = reacted_keeps a (v ∷ []) h k e rows
    option_keeps a None h k e rows = settled_keeps h e rows

    long_keeps : (o : Option Rule) (v : Option Text) (h : Held) → IfSome o (IsKnown c) → long_fault c again o v h ≡ [] → Rows h.rows → Rows (long_met c o v h).0.rows
    long_keeps None v h k e rows = rows
    long_keeps (Some a) v h k e rows = go (takes_values a) v e
      where
        go : (b : Bool) (v : Option Text) → cond b (option_fault c again a v h) (cond (is_some v) (TooManyValues ∷ []) (react_fault c again a [] h)) ≡ []
            → Rows (cond b (option_met c a v h) (flag_met c a v h)).0.rows
        go true v e = option_keeps a v h k e rows
        go false (Some v) e = rows
        go false None e = reacted_keeps a [] h k e rows

    short_keeps : (o : Option Rule) (rest : Text) (h : Held) (next : Held → Held × Outcome) (fault : Held → Kinds)
        → ((after : Held) → fault after ≡ [] → Rows after.rows → Rows (next after).0.rows)
        → IfSome o (IsKnown c) → short_fault c again o rest h fault ≡ [] → Rows h.rows → Rows (short_met c o rest h next).0.rows
    short_keeps None rest h next fault later k e rows = rows
    short_keeps (Some a) rest h next fault later k e rows = go (takes_values a) e
      where
        go : (b : Bool) → cond b (option_fault c again a (attached_value rest) h) (or_else (react_fault c again a [] h) (fault (reacted c a [] h))) ≡ []
            → Rows (cond b (option_met c a (attached_value rest) h) (next (reacted c a [] h))).0.rows
        go true e = option_keeps a (attached_value rest) h k e rows
        go false e = let parts = no_fault _ _ e in later (reacted c a [] h) parts.1 (reacted_keeps a [] h k parts.0 rows)

    step_keeps : (o : Option ℕ) (flags : Text) (skip : ℕ) (so_far : Outcome) (h : Held) (next : Text → ℕ → Outcome → Held → Held × Outcome) (fault : Text → ℕ → Held → Kinds)
        → ((flags : Text) (skip : ℕ) (so_far : Outcome) (after : Held) → fault flags skip after ≡ [] → Rows after.rows → Rows (next flags skip so_far after).0.rows)
        → bundle_step_fault c again o flags skip h fault ≡ [] → Rows h.rows → Rows (bundle_step c o flags skip so_far h next).0.rows
    step_keeps None flags skip so_far h next fault later e rows = rows
    step_keeps (Some x) flags (suc skip) so_far h next fault later e rows = later (drop (length (encode_utf8 x)) flags) skip so_far h e rows
    step_keeps (Some x) flags zero so_far h next fault later e rows =
        let rest = drop (length (encode_utf8 x)) flags in
        short_keeps (arg_by_short c x) rest h (next rest 0 step.done) (fault rest 0) (later rest 0 step.done) (found_where (IsKnown c) _ c known) e rows

    bundle_keeps : (k : ℕ) (flags : Text) (skip : ℕ) (so_far : Outcome) (h : Held) → flags_fault c again k flags skip h ≡ [] → Rows h.rows
        → Rows (bundle_met c k flags skip so_far h).0.rows
    unfolding flags_fault bundle_met
    bundle_keeps zero flags skip so_far h e rows = rows
    bundle_keeps (suc k) flags skip so_far h e rows =
        step_keeps (slice_get (chars flags) 0) flags skip so_far h (bundle_met c k) (flags_fault c again k) (bundle_keeps k) e rows

    plain_keeps : (waiting : Waiting) (word : Text) (h : Held) → Rows h.rows → Rows (plain_word c waiting word h).0.rows
    plain_keeps (option id) word h rows = go (arg_by_id c id)
      where
        go : (o : Option Rule) → Rows (option_word o id word h).0.rows
        go None = rows
        go (Some a) = rows
    plain_keeps idle word h rows = rows
    plain_keeps positional word h rows = rows

    flag_keeps : (waiting : Waiting) (word : Text) (h : Held) (o : Outcome) → Rows h.rows → Rows (after_flag c waiting word h o).0.rows
    flag_keeps waiting word h step.done rows = rows
    flag_keeps waiting word h (step.waits id) rows = rows
    flag_keeps waiting word h step.plain rows = plain_keeps waiting word h rows
    flag_keeps waiting word h step.refused rows = plain_keeps waiting word h rows

    other_keeps : (waiting : Waiting) (word : Text) (h : Held) → flag_word_fault c again (long_of word) word h ≡ [] → Rows h.rows
        → Rows (long_or_other c waiting word (long_of word) h).0.rows
    other_keeps waiting word h e rows = go (long_of word) e
      where
        short : (s : Option Text) → option_map_or (λ flags. bundle_fault c again flags h) s [] ≡ [] → Rows (short_or_plain c waiting word s h).0.rows
        short (Some flags) e = flag_keeps waiting word _ _ (bundle_keeps (length flags) flags h.skip step.plain (record h { skip = 0 }) e rows)
        short None e = plain_keeps waiting word h rows

        go : (o : Option (Text × Option Text)) → flag_word_fault c again o word h ≡ [] → Rows (long_or_other c waiting word o h).0.rows
        go (Some p) e = flag_keeps waiting word _ _ (long_keeps (arg_by_long c p.0) p.1 h (found_where (IsKnown c) _ c known) e rows)
        go None e = short (short_of word) e

module _ (s : Shape) (known : Each (IsKnown s.rules) s.rules) where
  met_keeps : (names : Names) (is_trailing : Bool) (waiting : Waiting) (position : ℕ) (word : Text) (h : Held) → word_fault s names is_trailing waiting word h ≡ []
      → Rows s.rules h.rows → Rows s.rules (word_met s.rules names is_trailing waiting position word h).0.rows
  met_keeps names true waiting position word h e rows = rows
  met_keeps names false waiting position word h e rows = go (subcommand_met names waiting word) e
    where
      plain : (b : Bool) → cond b [] (flag_word_fault s.rules s.args_override_self (long_of word) word h) ≡ []
          → Rows s.rules (cond b (h, step.trailing position) (long_or_other s.rules waiting word (long_of word) h)).0.rows
      plain true e = rows
      plain false e = other_keeps s.rules known s.args_override_self waiting word h e rows

      go : (o : Option Text) → other_fault s o word h ≡ [] → Rows s.rules (subcommand_or_other s.rules o waiting position word h).0.rows
      go (Some name) e = rows
      go None e = plain (bytes_eq word (45 ∷ 45 ∷ [])) e

  positional_keeps : (a : Rule) (word : Text) (h : Held) → positional_fault s.rules s.args_override_self a h ≡ [] → Rows s.rules h.rows
      → Rows s.rules (positional_held s.rules a word h).rows
  positional_keeps a word h e rows = go (is_pending a h.pending && takes_several a) e
    where
      go : (b : Bool) → cond b [] (settle_fault s.rules s.args_override_self h) ≡ [] → Rows s.rules (cond b h (settled s.rules h)).rows
      go true e = rows
      go false e = settled_keeps s.rules known s.args_override_self h e rows

  after_keeps : (word : Text) (w : Walk) (h : Held) (step : Step) → step_fault s w.position h step ≡ [] → Rows s.rules h.rows
      → Rows s.rules (after_step s.rules word w h step).held.rows
  after_keeps word w h (step.next waiting) e rows = rows
  after_keeps word w h (step.trailing position) e rows = rows
  after_keeps word w h (step.subcommand name) e rows = rows
  after_keeps word w h step.value e rows = go (arg_by_index s.rules w.position) e
    where
      go : (o : Option Rule) → option_map_or (λ a. positional_fault s.rules s.args_override_self a h) o (stray_fault s) ≡ []
          → Rows s.rules (to_positional s.rules o word w h).held.rows
      go None e = rows
      go (Some a) e = positional_keeps a word h e rows

  walked_keeps : (names : Names) (w : Walk) (word : Text) → turn_fault s names w word ≡ [] → Rows s.rules w.held.rows → Rows s.rules (walked s.rules names w word).held.rows
  unfolding walked
  walked_keeps names w word e rows = go w.stopped e
    where
      met : Held × Step
      met = word_met s.rules names w.is_trailing w.waiting w.position word w.held

      go : (o : Option (Text × List Text)) → cond (is_some o) [] (or_else (word_fault s names w.is_trailing w.waiting word w.held) (step_fault s w.position met.0 met.1)) ≡ []
          → Rows s.rules (walked_from s.rules names o w word).held.rows
      go (Some p) e = rows
      go None e =
          let parts = no_fault _ _ e in
          after_keeps word w met.0 met.1 parts.1 (met_keeps names w.is_trailing w.waiting w.position word w.held parts.0 rows)

  walk_keeps : (names : Names) (words : List Text) (w : Walk) → walk_fault s names w words ≡ [] → Rows s.rules w.held.rows → Rows s.rules (fold (walked s.rules names) w words).held.rows
  unfolding walk_fault
  walk_keeps names [] w e rows = rows
  walk_keeps names (word ∷ words) w e rows =
      let parts = no_fault _ _ e in
      walk_keeps names words (walked s.rules names w word) parts.1 (walked_keeps names w word parts.0 rows)

-- ---- defaults

pub not_empty : {X : Type 0} (x : X) (xs : List X) → is_empty (x ∷ xs) ≡ false
not_empty x xs = ne_eqb _ _ (λ e. omega arith)

module _ (c : List Rule) where
  default_keeps : (rows : List Row) (a : Rule) → IsKnown c a → default_fault rows a ≡ [] → Rows c rows → Rows c (with_default rows a)
  default_keeps rows a k e h = go (has_row a.id rows) a.defaults e
    where
      go : (b : Bool) (values : List Text) → cond (b || is_empty values) [] (given_default_fault a values) ≡ [] → Rows c (cond b rows (default_rows a.id (reading_by a) values rows))
      go true values e = h
      go false [] e = h
      go false (v ∷ vs) e =
          let given = subst (λ b. cond b [] (given_default_fault a (v ∷ vs)) ≡ []) (not_empty v vs) e in
          let passes = no_fault (request_kinds (action_of a)) (values_fault a (v ∷ vs)) given in
          with_values_keeps c a (reading_by a) DefaultValue (v ∷ vs) k.first (record { some = refl; pass = values_taken a (v ∷ vs) passes.1 }) rows h

  defaults_keep : (xs : List Rule) (rows : List Row) → Each (IsKnown c) xs → defaults_fault rows xs ≡ [] → Rows c rows → Rows c (fold with_default rows xs)
  unfolding defaults_fault
  defaults_keep [] rows k e h = h
  defaults_keep (a ∷ xs) rows k e h =
      let parts = no_fault _ _ e in
      defaults_keep xs (with_default rows a) k.1 parts.1 (default_keeps rows a k.0 parts.0 h)

-- ---- a level of the command

-- no step of a level fails
pub record Passes (s : Shape) (names : Names) (words : List Text) (has : Bool) (below : Kinds) : Type 0 where
  pub walks : walk_fault s names (walk_from nothing_held) words ≡ []
  pub enters : below ≡ []
  pub settles : settle_fault s.rules s.args_override_self (walk s.rules names nothing_held words).held ≡ []
  pub fills : defaults_fault (settled s.rules (walk s.rules names nothing_held words).held).rows s.rules ≡ []
  pub checks : check_fault s (rows_after s.rules names words) has ≡ []

pub passes : (s : Shape) (names : Names) (words : List Text) (has : Bool) (below : Kinds) → level_fault s names nothing_held words has below ≡ [] → Passes s names words has below
passes s names words has below e =
    let first = no_fault _ _ e in
    let second = no_fault below _ first.1 in
    let third = no_fault _ _ second.1 in
    let fourth = no_fault _ _ third.1 in
    record { walks = first.0; enters = second.0; settles = third.0; fills = fourth.0; checks = fourth.1 }

-- what is found in words that a command takes
pub all_good : (s : Shape) (names : Names) (words : List Text) (has : Bool) (below : Kinds) → Each (IsKnown s.rules) s.rules → Passes s names words has below
    → Each (Good s.rules) (rows_after s.rules names words)
all_good s names words has below known p =
    let walked = walk_keeps s known names words (walk_from nothing_held) p.walks tt in
    defaults_keep s.rules s.rules (settled s.rules (walk s.rules names nothing_held words).held).rows known p.fills
    (settled_keeps s.rules known s.args_override_self (walk s.rules names nothing_held words).held p.settles walked)
