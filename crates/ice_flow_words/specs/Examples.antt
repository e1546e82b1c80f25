-- What some words ask for.
use Rattle.std.specs.Prelude.{◌≡◌, ◌^◌, ◌-◌, ◌++◌, true, false, Some, None, List, [], ◌∷◌, codes}
use Rattle.clap.specs.Words.{Text}
use Rattle.ice_flow_words.specs.Requests.{ForBuild, ForBack, ForPlayNet, ForPlayBits, ForTime, ForSample}
use Rattle.ice_flow_words.specs.BuildRequest.{Build}
use Rattle.ice_flow_words.specs.Reading.{request_of}

-- five names, and every option as it is where it is not given
abbrev pub plain_build : Build
plain_build = record {
  chip = codes "a";
  package_name = codes "b";
  pcf = codes "c";
  blif = codes "d";
  asc = codes "e";
  pins = None;
  report = None;
  seed = 1;
  rounds = 64;
  workers = 2;
  opening = false;
}

abbrev pub five : List Text
five = codes "a" ∷ codes "b" ∷ codes "c" ∷ codes "d" ∷ codes "e" ∷ []

pub record HasWorkedExamples : Type 0 where
  pub plain : request_of (codes "build" ∷ five) ≡ Some (ForBuild plain_build)
  pub seed : request_of (codes "build" ∷ codes "--seed" ∷ codes "7" ∷ five) ≡ Some (ForBuild (record plain_build { seed = 7 }))
  pub most_seed : request_of (codes "build" ∷ codes "--seed=18446744073709551615" ∷ five) ≡ Some (ForBuild (record plain_build { seed = 2 ^ 64 - 1 }))
  pub too_great : request_of (codes "build" ∷ codes "--seed=18446744073709551616" ∷ five) ≡ None
  pub plus : request_of (codes "build" ∷ codes "--seed=+7" ∷ five) ≡ Some (ForBuild (record plain_build { seed = 7 }))
  pub behind : request_of (codes "build" ∷ five ++ codes "--workers" ∷ codes "8" ∷ []) ≡ Some (ForBuild (record plain_build { workers = 8 }))
  pub opening : request_of (codes "build" ∷ codes "--opening" ∷ codes "1" ∷ five) ≡ Some (ForBuild (record plain_build { opening = true }))
  pub no_opening : request_of (codes "build" ∷ codes "--opening=0" ∷ five) ≡ Some (ForBuild plain_build)
  pub two_openings : request_of (codes "build" ∷ codes "--opening" ∷ codes "2" ∷ five) ≡ None
  pub files : request_of (codes "build" ∷ codes "--pins=p" ∷ codes "--report" ∷ codes "r" ∷ five) ≡ Some (ForBuild (record plain_build { pins = Some (codes "p"); report = Some (codes "r") }))
  pub hyphen : request_of (codes "play-net" ∷ codes "--" ∷ codes "-x" ∷ codes "y" ∷ []) ≡ Some (ForPlayNet (record { blif = codes "-x"; levels = codes "y" }))
  pub play_net : request_of (codes "play-net" ∷ codes "x" ∷ codes "y" ∷ []) ≡ Some (ForPlayNet (record { blif = codes "x"; levels = codes "y" }))
  pub play_bits : request_of (codes "play-bits" ∷ codes "a" ∷ codes "b" ∷ codes "c" ∷ codes "d" ∷ []) ≡ Some (ForPlayBits (record { chip = codes "a"; package_name = codes "b"; asc = codes "c"; levels = codes "d" }))
  pub time : request_of (codes "time" ∷ codes "a" ∷ codes "b" ∷ codes "c" ∷ codes "d" ∷ []) ≡ Some (ForTime (record { chip = codes "a"; package_name = codes "b"; asc = codes "c"; delays = codes "d" }))
  pub back : request_of (codes "back" ∷ codes "a" ∷ codes "b" ∷ codes "c" ∷ codes "d" ∷ []) ≡ Some (ForBack (record { chip = codes "a"; package_name = codes "b"; asc = codes "c"; blif = codes "d" }))
  pub sample : request_of (codes "sample" ∷ codes "7" ∷ []) ≡ Some (ForSample (record { number = 7; workers = 2 }))
  pub many_rounds : request_of (codes "build" ∷ codes "--rounds" ∷ codes "65" ∷ five) ≡ None
  pub no_rounds : request_of (codes "build" ∷ codes "--rounds" ∷ codes "0" ∷ five) ≡ None
  pub twice : request_of (codes "build" ∷ codes "--seed" ∷ codes "7" ∷ codes "--seed" ∷ codes "8" ∷ five) ≡ None
  pub more : request_of (codes "play-net" ∷ five) ≡ None
  pub fewer : request_of (codes "build" ∷ []) ≡ None
  pub help : request_of (codes "help" ∷ []) ≡ None
  pub help_flag : request_of (codes "--help" ∷ []) ≡ None
  pub help_of_one : request_of (codes "build" ∷ codes "-h" ∷ five) ≡ None
  pub nothing : request_of [] ≡ None
