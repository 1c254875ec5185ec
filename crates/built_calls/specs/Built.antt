-- Which calls the store can do.
--     is_built call      the store can do it
use Rattle.std.specs.Prelude.{Bool, true, false}
use Rattle.voice_model.specs.declared.calls.Call.{Call}
use Rattle.voice_model.specs.declared.calls.Call.TheVariants as calls

-- the store can do the call: one that is built gets a line here, and its verb one in the script language
abbrev pub is_built : Call → Bool
is_built (calls.Record take) = true
is_built (calls.Concat ropes) = true
is_built (calls.Sub rope start len) = true
is_built (calls.Replace rope start len with) = true
is_built (calls.Length rope) = true
is_built (calls.Describe rope) = true
is_built (calls.Levels rope) = true
is_built (calls.Begin lane) = true
is_built (calls.Add lane take) = true
is_built (calls.End lane) = true
is_built (calls.Play lane rope start len) = true
is_built (calls.Stop lane) = true
is_built (calls.Retain class key rope note) = true
is_built (calls.Forget class key) = true
is_built (calls.Lookup class key) = true
is_built (calls.Census keys) = true
is_built (calls.Advance moment) = true
is_built (calls.Sweep limit) = true
is_built _ = false
