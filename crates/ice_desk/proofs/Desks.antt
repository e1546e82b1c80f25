-- Calls of a desk, one after another.
use Rattle.std.proofs.Common.{◌≡◌, ◌≤◌, ◌+◌, ◌-◌, ◌++◌, ℕ, List, length, Contains, take, drop, true, Some, refl, sym, ◌∙◌, arith, length-drop, take-add, drop-drop}
use Rattle.std.proofs.Math.Seq.{take-append_seam}
use Rattle.std.proofs.lemmas.List.{take_all}
use Rattle.ice_desk.specs.declared.calls.DeskCall.{DeskCall}
use Rattle.ice_desk.specs.Desk.{Meaning}
use Rattle.ice_desk.specs.Changes.{SameButReading, SameButWriting, SameButPutting, SameTest}

pub reading_trans : (a b c : Meaning) → SameButReading a b → SameButReading b c → SameButReading a c
reading_trans a b c p q = record {
  tells = q.tells ∙ p.tells;
  files = q.files ∙ p.files;
  taken = q.taken ∙ p.taken;
  said = q.said ∙ p.said;
  makes = q.makes ∙ p.makes;
  says = q.says ∙ p.says;
  puts = q.puts ∙ p.puts;
  is_open = q.is_open ∙ p.is_open;
  write_faults = q.write_faults ∙ p.write_faults;
  say_faults = q.say_faults ∙ p.say_faults;
  read_faults = omega (arith, p.read_faults, q.read_faults);
}

pub writing_trans : (name : List ℕ) (a b c : Meaning) → SameButWriting name a b → SameButWriting name b c → SameButWriting name a c
writing_trans name a b c p q = record {
  tells = q.tells ∙ p.tells;
  others = λ t m ne. q.others (p.tells ∙ t) m ne ∙ p.others t m ne;
  left = q.left ∙ p.left;
  said = q.said ∙ p.said;
  given = q.given ∙ p.given;
  begins = q.begins ∙ p.begins;
  says = q.says ∙ p.says;
  read_faults = q.read_faults ∙ p.read_faults;
  say_faults = q.say_faults ∙ p.say_faults;
  write_faults = omega (arith, p.write_faults, q.write_faults);
}

pub same_test_trans : (p q r : List ℕ → Type 0) → SameTest p q → SameTest q r → SameTest p r
same_test_trans p q r f g = λ n. ((λ x. (g n).0 ((f n).0 x)), λ x. (f n).1 ((g n).1 x))

-- a put to the file that is taken
pub put_keeps : (name : List ℕ) (a b c : Meaning) → SameButWriting name a b → (a.tells ≡ true → b.taken ≡ Some name) → SameButPutting b c → SameButWriting name a c
put_keeps name a b c p taken q = record {
  tells = q.tells ∙ p.tells;
  others = λ t other ne. q.others (p.tells ∙ t) other (λ e. ne (same_name (sym e ∙ taken t))) ∙ p.others t other ne;
  left = q.left ∙ p.left;
  said = q.said ∙ p.said;
  given = q.given ∙ p.given;
  begins = q.begins ∙ p.begins;
  says = q.says ∙ p.says;
  read_faults = q.read_faults ∙ p.read_faults;
  say_faults = q.say_faults ∙ p.say_faults;
  write_faults = omega (arith, p.write_faults, q.write_faults);
}
  where
    same_name : {m n : List ℕ} → Some m ≡ Some n → m ≡ n
    same_name e = cc

-- what was put before and at one put more
pub fronts : (text : List ℕ) (at count : ℕ) → at ≤ length text → take at text ++ take count (take (length text - at) (drop at text)) ≡ take (at + count) text
fronts text at count le =
    let whole : take (length text - at) (drop at text) ≡ drop at text = take_all (length text - at) (drop at text) (omega (arith, length-drop at text)) in
    rw (whole, ← take-add at count text) refl

-- what one read gives of the bytes between two places, and what it leaves
pub given_and_left : (bytes got piece : List ℕ) (at end count : ℕ) → got ≡ take count (drop at bytes) → length got ≡ count → count ≤ end - at
    → take (end - at) (drop at bytes) ≡ take count (got ++ drop count piece) ++ take (end - (at + count)) (drop (at + count) bytes)
given_and_left bytes got piece at end count is len le =
    let front : take count (got ++ drop count piece) ≡ got = rw (← len) (take-append_seam got (drop (length got) piece)) in
    let most : end - at ≡ count + (end - (at + count)) = omega (arith, le) in
    let split : take (end - at) (drop at bytes) ≡ take count (drop at bytes) ++ take (end - (at + count)) (drop count (drop at bytes)) = rw most (take-add count (end - (at + count)) (drop at bytes)) in
    rw (front, is, ← drop-drop) split

-- a call that is in a list, by an equal list and number
pub named_by : (found fails : List (DeskCall × ℕ)) (call : DeskCall) (counted number : ℕ) → found ≡ fails → counted ≡ number → Contains found (call, counted) → Contains fails (call, number)
named_by found fails call counted number same count is = rw (← same, ← count) is
