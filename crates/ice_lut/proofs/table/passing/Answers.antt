use Rattle.std.proofs.Common.{◌≡◌, ℕ, ◌∙◌, Bool, false, List, ap, sym, length, arith, get_or}
use Rattle.ice_net.specs.Meaning.{number_of, table_bit}
use Rattle.ice_lut.specs.Tables.{passing}
use Rattle.ice_lut.proofs.TableLaws.{passing_gives, passing_first, passing_second, passing_third, passing_fourth}
use Rattle.ice_lut.proofs.table.passing.Goals as goal

abbrev Gives : ℕ → ℕ → Type 0
Gives table input = (xs : List Bool) → length xs ≡ 4 → table_bit table (number_of xs) ≡ get_or xs input false

gives_by : (table input k : ℕ) → passing k ≡ table → input ≡ k → Gives table input
gives_by table input k t e = λ xs long. ap (λ n. table_bit n (number_of xs)) (sym t) ∙ passing_gives k xs long ∙ ap (λ i. get_or xs i false) (sym e)

pub returns-in-0 : goal.returns-in-0
returns-in-0 c = record { table = sym passing_first ∙ ap passing (sym c.in-0.is); gives = gives_by 43690 c.args.input 0 passing_first c.in-0.is }

pub returns-in-1 : goal.returns-in-1
returns-in-1 c = record { table = sym passing_second ∙ ap passing (sym c.in-1.is); gives = gives_by 52428 c.args.input 1 passing_second c.in-1.is }

pub returns-in-2 : goal.returns-in-2
returns-in-2 c = record { table = sym passing_third ∙ ap passing (sym c.in-2.is); gives = gives_by 61680 c.args.input 2 passing_third c.in-2.is }

pub returns-in_default : goal.returns-in_default
returns-in_default c =
    let last : c.args.input ≡ 3 = omega arith in
    record { table = sym passing_fourth ∙ ap passing (sym last); gives = gives_by 65280 c.args.input 3 passing_fourth last }
