-- What a desk is seen to be.
use Rattle.std.specs.Prelude.{ℕ, Bool, List, Option}

-- the fourteen meanings of a desk; files, left, taken and said are known where it tells its contents
pub record Meaning : Type 0 where
  -- whether the contents are known
  pub tells : Bool
  -- from names to bytes
  pub files : List ℕ → Option (List ℕ)
  -- the bytes of the begun file that are not yet given
  pub left : List ℕ
  -- the name of the file that is taken for writing
  pub taken : Option (List ℕ)
  -- the bytes put to standard output
  pub said : List ℕ
  -- how many bytes the reads gave since the last begin
  pub given : ℕ
  -- how many begins, makes and says there were, failed ones too
  pub begins : ℕ
  pub makes : ℕ
  pub says : ℕ
  -- how many puts there were since the last make, failed ones too
  pub puts : ℕ
  -- whether there was a make and the last one succeeded
  pub is_open : Bool
  -- counts that never fall
  pub read_faults : ℕ
  pub write_faults : ℕ
  pub say_faults : ℕ
