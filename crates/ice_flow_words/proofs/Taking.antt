-- The command as `clap` builds it, and what its promises say of it.
use Rattle.std.proofs.Common.{Bool, ◌≡◌, ◌≢◌, ◌⊎◌, true, false, refl, sym, ap, subst, inl, inr, List, [], ◌∷◌, ℕ, Result, Ok, Err, IfOk, IfErr}
use Rattle.clap.specs.Words.{App, FailsBy, HasMatchesOf, IsAmong, Kinds, fault_of, is_simple, is_simple_and_free, kind_of, subcommand_of, subcommand_rows_of, takes}
use Rattle.clap.specs.declared.error.Error.{Error}
use Rattle.clap.specs.declared.error.kind.ErrorKind.{ErrorKind}
use Rattle.clap.specs.declared.error.kind.ErrorKind.TheVariants.{OutOfMemory}
use Rattle.clap.specs.declared.parser.matches.ArgMatches.{ArgMatches}
use Rattle.ice_flow_words.specs.Command.{command}
use Rattle.clap.specs.Walk.{is_empty}
use Rattle.ice_flow_words.specs.Reading.{is_taken}
use Rattle.ice_flow_words.proofs.Kept.{not_empty}

is_free : is_simple_and_free command ≡ true
is_free = refl

is_plain : is_simple command ≡ true
is_plain = refl

not_taken : (kinds : Kinds) → kinds ≢ [] → is_empty kinds ≡ false
not_taken [] some = absurd (some refl)
not_taken (k ∷ ks) some = not_empty k ks

-- an error of another kind than memory tells that the command refuses the words
pub refused : (a : App) (words : List (List ℕ)) (k : ErrorKind) → a ≡ command → (is_simple_and_free a ≡ true → (k ≡ OutOfMemory) ⊎ IsAmong k (fault_of a words)) → k ≢ OutOfMemory
    → is_taken words ≡ false
refused a words k same kinds other = not_taken (fault_of command words) (λ nothing.
    let kind : (k ≡ OutOfMemory) ⊎ IsAmong k (fault_of command words) = subst (λ b. (k ≡ OutOfMemory) ⊎ IsAmong k (fault_of b words)) same
    (kinds (subst (λ b. is_simple_and_free b ≡ true) (sym same) is_free)) in
    elim kind [
      | inl memory ↦ other memory
      | inr among ↦ subst (IsAmong k) nothing among
    ])

-- what is found in words that the command takes
pub taken : (a : App) (words : List (List ℕ)) (m : ArgMatches) → a ≡ command → (is_simple_and_free a ≡ true → fault_of a words ≡ []) → HasMatchesOf a words m
    → (is_taken words ≡ true) × (subcommand_rows_of m ≡ subcommand_of command words)
taken a words m same kinds has =
    let free : is_simple_and_free a ≡ true = subst (λ b. is_simple_and_free b ≡ true) (sym same) is_free in
    let simple : is_simple a ≡ true = subst (λ b. is_simple b ≡ true) (sym same) is_plain in
    (ap is_empty (subst (λ b. fault_of b words ≡ []) same (kinds free)), subst (λ b. subcommand_rows_of m ≡ subcommand_of b words) same (has simple).1)

-- nor does it take them
pub never_taken : (a : App) (words : List (List ℕ)) (k : ErrorKind) → a ≡ command → (takes a words ≡ true → k ≡ OutOfMemory) → k ≢ OutOfMemory → takes command words ≡ false
never_taken a words k same passes other = go (takes command words) refl
  where
    go : (b : Bool) → takes command words ≡ b → b ≡ false
    go true e = absurd (other (passes (subst (λ b. takes b words ≡ true) (sym same) e)))
    go false e = refl

-- what a parse of the words answers
pub found_as : (a : App) (words : List (List ℕ)) (r : Result ArgMatches Error) → a ≡ command → (is_simple_and_free a ≡ true → FailsBy (fault_of a words) r)
    → IfOk r (HasMatchesOf a words) → IfOk r (λ m. (is_taken words ≡ true) × (subcommand_rows_of m ≡ subcommand_of command words))
found_as a words (Ok m) same kinds has = taken a words m same kinds has
found_as a words (Err e) same kinds has = tt

pub refused_as : (a : App) (words : List (List ℕ)) (r : Result ArgMatches Error) → a ≡ command → (is_simple_and_free a ≡ true → FailsBy (fault_of a words) r)
    → IfErr r (λ e. takes a words ≡ true → kind_of e ≡ OutOfMemory)
    → IfErr r (λ e. kind_of e ≢ OutOfMemory → (is_taken words ≡ false) × (takes command words ≡ false))
refused_as a words (Ok m) same kinds passes = tt
refused_as a words (Err e) same kinds passes = λ other. (refused a words (kind_of e) same kinds other, never_taken a words (kind_of e) same passes other)
