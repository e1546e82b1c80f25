-- What a text says, line by line: its bits, or the fault of the first line that has one, or of the end.
use Rattle.std.proofs.Common.{◌≡◌, ◌⊎◌, ℕ, Result, Ok, Err, List, [], ◌∷◌, ◌++◌, inl, inr, refl, ap, ◌∙◌, subst}
use Rattle.std.specs.Prelude.{◌↔◌}
use Rattle.ice_base.specs.Text.{lines, numbered}
use Rattle.ice_chip.specs.Database.{Parts}
use Rattle.ice_bits.specs.Configuration.{Configuration}
use Rattle.ice_asc.specs.Faults.{◌>>=◌}
use Rattle.ice_asc.specs.Grammar.{Reading, start, lines_say, end_says, asc_in}
use Rattle.ice_asc.specs.FirstFault.{with_line, Leads, AreBits, IsFaultOfLine, IsFaultOfEnd, HasBits, HasFirstFault}
use Rattle.ice_asc.specs.declared.fault.AscFault.{AscFault}

module _ (parts : Parts) where
  -- what the lines and the end say
  abbrev all_say : Reading → List (ℕ × List ℕ) → Result Configuration AscFault
  all_say r ls = lines_say parts r ls >>= (λ (s : Reading). end_says s s.section)

  -- the relation that goes with what was said
  abbrev Meant : Reading → List (ℕ × List ℕ) → Result Configuration AscFault → Type 0
  Meant r ls (Ok bits) = AreBits parts r ls bits
  Meant r ls (Err fault) = IsFaultOfLine parts r ls fault ⊎ IsFaultOfEnd parts r ls fault

  at_end : (r : Reading) (said : Result Configuration AscFault) → end_says r r.section ≡ said → Meant r [] said
  at_end r (Ok bits) e = record { last = r; sound = refl; ends = e }
  at_end r (Err fault) e = inr (record { last = r; sound = refl; faulty = e })

  behind_line : (r next : Reading) (l : ℕ × List ℕ) (ls : List (ℕ × List ℕ)) → with_line parts r l ≡ Ok next → (said : Result Configuration AscFault) → Meant next ls said → Meant r (l ∷ ls) said
  behind_line r next l ls e (Ok bits) m = record { last = m.last; sound = (next, e, m.sound); ends = m.ends }
  behind_line r next l ls e (Err fault) (inl m) = inl (record {
    before = l ∷ m.before;
    line = m.line;
    behind = m.behind;
    stands = ap (λ xs. l ∷ xs) m.stands;
    reading = m.reading;
    sound_before = (next, e, m.sound_before);
    faulty = m.faulty;
  })
  behind_line r next l ls e (Err fault) (inr m) = inr (record { last = m.last; sound = (next, e, m.sound); faulty = m.faulty })

  meant : (r : Reading) (ls : List (ℕ × List ℕ)) → Meant r ls (all_say r ls)
  meant r [] = at_end r (end_says r r.section) refl
  meant r (l ∷ ls) = by (with_line parts r l) refl (λ next. meant next ls)
    where
      by : (said : Result Reading AscFault) → with_line parts r l ≡ said → ((next : Reading) → Meant next ls (all_say next ls))
          → Meant r (l ∷ ls) ((said >>= (λ (s : Reading). lines_say parts s ls)) >>= (λ (s : Reading). end_says s s.section))
      by (Ok next) e later = behind_line r next l ls e (all_say next ls) (later next)
      by (Err fault) e later = inl (record { before = []; line = l; behind = ls; stands = refl; reading = r; sound_before = refl; faulty = e })

  -- ---- and back
  led : (r : Reading) (ls : List (ℕ × List ℕ)) (last : Reading) → Leads parts r ls last → lines_say parts r ls ≡ Ok last
  led r [] last e = ap (λ (s : Reading). Ok s) e
  led r (l ∷ ls) last leads = ap (λ (said : Result Reading AscFault). said >>= (λ (s : Reading). lines_say parts s ls)) leads.1 ∙ led leads.0 ls last leads.2

  stopped : (r : Reading) (before : List (ℕ × List ℕ)) (line : ℕ × List ℕ) (behind : List (ℕ × List ℕ)) (reading : Reading) (fault : AscFault)
      → Leads parts r before reading → with_line parts reading line ≡ Err fault → lines_say parts r (before ++ line ∷ behind) ≡ Err fault
  stopped r [] line behind reading fault e faulty =
      ap (λ (said : Result Reading AscFault). said >>= (λ (s : Reading). lines_say parts s behind)) (ap (λ (s : Reading). with_line parts s line) e ∙ faulty)
  stopped r (l ∷ before) line behind reading fault leads faulty =
      ap (λ (said : Result Reading AscFault). said >>= (λ (s : Reading). lines_say parts s (before ++ line ∷ behind))) leads.1
      ∙ stopped leads.0 before line behind reading fault leads.2 faulty

  says_bits : (r : Reading) (ls : List (ℕ × List ℕ)) (bits : Configuration) → AreBits parts r ls bits → all_say r ls ≡ Ok bits
  says_bits r ls bits are = ap (λ (said : Result Reading AscFault). said >>= (λ (s : Reading). end_says s s.section)) (led r ls are.last are.sound) ∙ are.ends

  says_fault : (r : Reading) (ls : List (ℕ × List ℕ)) (fault : AscFault) → IsFaultOfLine parts r ls fault ⊎ IsFaultOfEnd parts r ls fault → all_say r ls ≡ Err fault
  says_fault r ls fault (inl first) =
      ap (all_say r) first.stands
      ∙ ap (λ (said : Result Reading AscFault). said >>= (λ (s : Reading). end_says s s.section))
      (stopped r first.before first.line first.behind first.reading fault first.sound_before first.faulty)
  says_fault r ls fault (inr first) = ap (λ (said : Result Reading AscFault). said >>= (λ (s : Reading). end_says s s.section)) (led r ls first.last first.sound) ∙ first.faulty

  one_of_two : (r : Reading) (ls : List (ℕ × List ℕ)) (said : Result Configuration AscFault) → Meant r ls said
      → ((bits : Configuration) × AreBits parts r ls bits) ⊎ ((fault : AscFault) × (IsFaultOfLine parts r ls fault ⊎ IsFaultOfEnd parts r ls fault))
  one_of_two r ls (Ok bits) m = inl (bits, m)
  one_of_two r ls (Err fault) m = inr (fault, m)

both_sides : (said : Result Configuration AscFault) (bits : Configuration) (fault : AscFault) → said ≡ Ok bits → said ≡ Err fault → ⊥
both_sides said bits fault a b = cc

-- ---- texts
pub text_bits : (parts : Parts) (text : List ℕ) (bits : Configuration) → (asc_in parts text ≡ Ok bits ↔ HasBits parts text bits)
text_bits parts text bits =
    let ls : List (ℕ × List ℕ) = numbered 1 (lines text) in
    (λ e. subst (Meant parts (start parts) ls) e (meant parts (start parts) ls), λ are. says_bits parts (start parts) ls bits are)

pub text_fault : (parts : Parts) (text : List ℕ) (fault : AscFault) → (asc_in parts text ≡ Err fault ↔ HasFirstFault parts text fault)
text_fault parts text fault =
    let ls : List (ℕ × List ℕ) = numbered 1 (lines text) in
    (λ e. subst (Meant parts (start parts) ls) e (meant parts (start parts) ls), λ first. says_fault parts (start parts) ls fault first)

pub text_one : (parts : Parts) (text : List ℕ) → ((bits : Configuration) × HasBits parts text bits) ⊎ ((fault : AscFault) × HasFirstFault parts text fault)
text_one parts text =
    let ls : List (ℕ × List ℕ) = numbered 1 (lines text) in one_of_two parts (start parts) ls (all_say parts (start parts) ls) (meant parts (start parts) ls)

pub text_never_both : (parts : Parts) (text : List ℕ) (bits : Configuration) (fault : AscFault) → HasBits parts text bits → HasFirstFault parts text fault → ⊥
text_never_both parts text bits fault are first =
    both_sides (asc_in parts text) bits fault (says_bits parts (start parts) (numbered 1 (lines text)) bits are) (says_fault parts (start parts) (numbered 1 (lines text)) fault first)
