-- What holds of each script that was read.
--     IsLineOf known samples callers line      the caller is counted, the verb is known, the tape is one of the samples, a line that serves a lane names a file, a verb binds a variable only where it may, a concat has 1 to 16 ropes, and key, note and moment are in their ranges
--     IsWhole known m      that holds of each line of the script m, and no lane is served for two callers
use Rattle.std.specs.Prelude.{ℕ, ◌≤◌, Bool, IsTrue, length, All}
use Rattle.script_lang.specs.declared.scripts.Line.{Line}
use Rattle.script_lang.specs.declared.verbs.VerbName.{VerbName}
use Rattle.script_lang.specs.Shown.{Reading}
use Rattle.script_lang.specs.Errands.{HasTape, HasFile, HasItsRopes, IsInItsRange}
use Rattle.script_lang.specs.Owners.{HaveOneOwner}
use Rattle.script_lang.specs.Grammar.{verb_name, IsBound}

pub record IsLineOf (known : VerbName → Bool) (samples callers : ℕ) (line : Line) : Type 0 where
  pub number : line.number ≤ 65535
  pub least : 1 ≤ line.caller
  pub most : line.caller ≤ callers
  pub verb : IsTrue (known (verb_name line.verb))
  pub tape : HasTape samples line.verb
  pub file : HasFile line.verb line.file
  pub bind : IsBound line.verb line.bind
  pub ropes : HasItsRopes line.verb
  pub range : IsInItsRange line.verb

pub record IsWhole (known : VerbName → Bool) (m : Reading) : Type 0 where
  pub lines : All (IsLineOf known (length m.samples) m.callers) m.lines
  pub owners : HaveOneOwner m.lines
  pub few : length m.samples ≤ 65535
  pub least : 1 ≤ m.callers
  pub most : m.callers ≤ 16
