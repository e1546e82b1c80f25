-- What is seen of a desk in memory, how it was asked to behave, and how far its calls are.
use Rattle.std.specs.Prelude.{ℕ, List, true, Contains}
use Rattle.ice_desk.specs.Desk.{Meaning}
use Rattle.ice_desk.specs.Changes.{after_one}
use Rattle.ice_desk.specs.Memory.{file_in, left_between}
use Rattle.ice_desk.specs.declared.calls.DeskCall.{DeskCall}
use Rattle.ice_desk.specs.declared.calls.DeskCall.TheVariants.{Begin, Read, Make, Put, Say}
use Rattle.ice_desk.specs.declared.memory.MemoryDesk.{MemoryDesk}

-- how many calls of each kind there were since the desk was made, failed ones too
pub record Calls : Type 0 where
  pub begins : ℕ
  pub reads : ℕ
  pub makes : ℕ
  pub puts : ℕ
  pub says : ℕ

-- the number that the next call of a kind has, from 1
abbrev pub next_number : Calls → DeskCall → ℕ
next_number calls Begin = after_one calls.begins
next_number calls Read = after_one calls.reads
next_number calls Make = after_one calls.makes
next_number calls Put = after_one calls.puts
next_number calls Say = after_one calls.says

pub record DeskPlan : Type 0 where
  -- the most bytes that a call moves
  pub most : ℕ
  -- the calls that are to fail, by kind and number from 1
  pub fails : List (DeskCall × ℕ)
  pub calls : Calls

-- the next call of a kind is one of those that are to fail
abbrev pub IsNamed : DeskPlan → DeskCall → Type 0
IsNamed plan call = Contains plan.fails (call, next_number plan.calls call)

-- the plan of a desk of which no call was made yet
abbrev pub fresh_plan : ℕ → List (DeskCall × ℕ) → DeskPlan
fresh_plan most fails = record {
  most = most;
  fails = fails;
  calls = record { begins = 0; reads = 0; makes = 0; puts = 0; says = 0 };
}

-- a plan after one call more of a kind
abbrev pub after_call : DeskPlan → DeskCall → DeskPlan
after_call plan Begin = record plan { calls = record (plan.calls) { begins = after_one plan.calls.begins } }
after_call plan Read = record plan { calls = record (plan.calls) { reads = after_one plan.calls.reads } }
after_call plan Make = record plan { calls = record (plan.calls) { makes = after_one plan.calls.makes } }
after_call plan Put = record plan { calls = record (plan.calls) { puts = after_one plan.calls.puts } }
after_call plan Say = record plan { calls = record (plan.calls) { says = after_one plan.calls.says } }

-- the plan of a desk in memory
abbrev pub plan_of : MemoryDesk → DeskPlan
plan_of d = record {
  most = d.most;
  fails = d.fails.items;
  calls = record { begins = d.begins; reads = d.reads; makes = d.makes; puts = d.all_puts; says = d.says };
}

-- the meaning of a desk in memory, which tells its contents
abbrev pub seen_of : MemoryDesk → Meaning
seen_of d = record {
  tells = true;
  files = file_in d.files.items;
  left = left_between d.files.items d.source d.at d.end;
  taken = d.taken;
  said = d.said.items;
  given = d.given;
  begins = d.begins;
  makes = d.makes;
  says = d.says;
  puts = d.puts;
  is_open = d.is_open;
  read_faults = d.read_faults;
  write_faults = d.write_faults;
  say_faults = d.say_faults;
}
