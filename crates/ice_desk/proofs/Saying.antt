-- Says, one after another.
use Rattle.std.proofs.Common.{inl, inr, ◌≡◌, ◌≤◌, ◌<◌, ◌+◌, ◌-◌, ◌++◌, ℕ, zero, suc, Bool, true, false, List, [], ◌∷◌, length, take, drop, refl, sym, ap, subst, ◌∙◌, arith, length-drop, length-append, take-add, append_assoc, append-nil}
use Rattle.std.proofs.lemmas.List.{take_all, take-append-le}
use Rattle.ice_desk.specs.Desk.{Meaning}
use Rattle.ice_desk.specs.Changes.{SameButSaying, Rose, after_one, after_more}
use Rattle.ice_desk.specs.Said.{IsSaid, SaidRow, IsSilent}

pub saying_trans : (a b c : Meaning) → SameButSaying a b → SameButSaying b c → SameButSaying a c
saying_trans a b c p q = record {
  tells = q.tells ∙ p.tells;
  files = q.files ∙ p.files;
  left = q.left ∙ p.left;
  taken = q.taken ∙ p.taken;
  given = q.given ∙ p.given;
  begins = q.begins ∙ p.begins;
  makes = q.makes ∙ p.makes;
  puts = q.puts ∙ p.puts;
  is_open = q.is_open ∙ p.is_open;
  read_faults = q.read_faults ∙ p.read_faults;
  write_faults = omega (arith, p.write_faults, q.write_faults);
  say_faults = omega (arith, p.say_faults, q.say_faults);
}

-- what was said before, and what one say more takes
pub said_on : (text before old new : List ℕ) (at count : ℕ) → at ≤ length text → old ≡ before ++ take at text → new ≡ old ++ take count (take (length text - at) (drop at text)) → new ≡ before ++ take (at + count) text
said_on text before old new at count le p q =
    let whole : take (length text - at) (drop at text) ≡ drop at text = take_all (length text - at) (drop at text) (omega (arith, length-drop at text)) in
    q ∙ rw (p, whole, append_assoc, ← take-add at count text) refl

-- so many says were made
abbrev pub AreSays : ℕ → ℕ → ℕ → Type 0
AreSays old new count = (count ≡ 0 → new ≡ old) × (0 < count → new ≡ after_more old count)

pub no_says : (old : ℕ) → AreSays old old 0
no_says old = ((λ e. refl), (λ some. absurd (omega arith)))

-- one say more
pub next_say : (old mid new count : ℕ) → AreSays old mid count → new ≡ after_one mid → new ≡ after_more old (count + 1)
next_say old mid new zero are n = (let e : mid ≡ old = are.0 refl in omega (arith, e, n))
next_say old mid new (suc count) are n = (let e : mid ≡ after_more old (suc count) = are.1 (omega arith) in omega (arith, e, n))

pub more_says : (old mid new count : ℕ) → AreSays old mid count → new ≡ after_one mid → AreSays old new (count + 1)
more_says old mid new count are n = ((λ e. absurd (omega arith)), (λ some. next_say old mid new count are n))

pub take_front : (n : ℕ) (xs ys : List ℕ) → n ≤ length xs → take n (xs ++ ys) ≡ take n xs
take_front n xs ys le = take-append-le n xs ys le

-- the first pieces were cut
pub cut_stays : (a b : Meaning) (line more : List ℕ) → IsSaid a b line false → IsSaid a b (line ++ more) false
cut_stays a b line more said = (
  (λ t. let front = said.0 t in (front.0, omega (arith, front.1, length-append line more), front.2 ∙ ap (λ xs. a.said ++ xs) (sym (take_front front.0 line more front.1)))),
  said.1,
)

take_more : (n : ℕ) (xs ys : List ℕ) → take (length xs + n) (xs ++ ys) ≡ xs ++ take n ys
take_more n [] ys = let e : 0 + n ≡ n = omega arith in rw e refl
take_more n (x ∷ xs) ys = let e : length (x ∷ xs) + n ≡ suc (length xs + n) = omega arith in rw e (ap (λ zs. x ∷ zs) (take_more n xs ys))

-- the first pieces were said whole, and then the others
pub said_then : (a b c : Meaning) (line more : List ℕ) (calm : Bool) → b.tells ≡ a.tells → IsSaid a b line true → IsSaid b c more calm → IsSaid a c (line ++ more) calm
said_then a b c line more true tells p q = (
  (λ t. q.0 (tells ∙ t) ∙ ap (λ xs. xs ++ more) (p.0 t) ∙ append_assoc a.said line more),
  q.1 ∙ p.1,
)
said_then a b c line more false tells p q = (
  (λ t.
      let front = q.0 (tells ∙ t) in (
        length line + front.0,
        omega (arith, front.1, length-append line more),
        front.2 ∙ ap (λ xs. xs ++ take front.0 more) (p.0 t) ∙ append_assoc a.said line (take front.0 more) ∙ ap (λ xs. a.said ++ xs) (sym (take_more front.0 line more)),
      )),
  (let r : Rose b.say_faults c.say_faults = q.1 in let same : b.say_faults ≡ a.say_faults = p.1 in omega arith),
)

-- nothing was to be said
pub nothing_said : (a : Meaning) → IsSaid a a [] true
nothing_said a = ((λ t. sym (append-nil a.said)), refl)

-- what was said, where the desk tells its contents
pub said_row : (old new : Meaning) (line : List ℕ) (calm : Bool) → old.tells ≡ true → IsSaid old new line calm → SaidRow old new line
said_row old new line true t said = inl (said.0 t)
said_row old new line false t said = inr (said.1, said.0 t)

-- a line of two parts, the first of which was said whole
pub said_both : (a b c : Meaning) (one two line : List ℕ) (calm : Bool) → line ≡ one ++ two → b.tells ≡ a.tells → IsSaid a b one true → IsSaid b c two calm → IsSaid a c line calm
said_both a b c one two line calm e tells p q = subst (λ xs. IsSaid a c xs calm) (sym e) (said_then a b c one two calm tells p q)

-- a line of two parts, the first of which was cut
pub cut_first : (a b : Meaning) (one two line : List ℕ) → line ≡ one ++ two → IsSaid a b one false → IsSaid a b line false
cut_first a b one two line e p = subst (λ xs. IsSaid a b xs false) (sym e) (cut_stays a b one two p)

-- what was said whole, by the answer of a call
pub whole : (a b : Meaning) (line : List ℕ) (calm : Bool) → calm ≡ true → IsSaid a b line calm → IsSaid a b line true
whole a b line calm e said = subst (λ x. IsSaid a b line x) e said

pub cut : (a b : Meaning) (line : List ℕ) (calm : Bool) → calm ≡ false → IsSaid a b line calm → IsSaid a b line false
cut a b line calm e said = subst (λ x. IsSaid a b line x) e said

-- what is said behind a silence
pub after_silence : (old mid new : Meaning) (line : List ℕ) → IsSilent old mid → SaidRow mid new line → SaidRow old new line
after_silence old mid new line silent (inl whole) = inl (whole ∙ ap (λ xs. xs ++ line) silent.said)
after_silence old mid new line silent (inr front) = inr (
  (let r : Rose mid.say_faults new.say_faults = front.0 in let e : mid.say_faults ≡ old.say_faults = silent.say_faults in omega arith),
  subst (λ xs. (n : ℕ) × (n ≤ length line) × (new.said ≡ xs ++ take n line)) silent.said front.1,
)
